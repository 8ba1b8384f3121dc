use Rattle.coding.specs.Encoding.{Underway}
use Rattle.coding.proofs.encoder.encode_period.Given as goal

abbrev pub invariant-loop-t : goal.invariant-loop-t
invariant-loop-t g l = Underway l.bits g.P.Pattern.code_rate l.fn.state l.t l.held l.at l.out
