use Rattle.std.proofs.Common.{◌*◌, take}
use Rattle.coding.specs.Encoding.{Encoded}
use Rattle.coding.proofs.encoder.encode_with.Given as goal

abbrev pub invariant-loop-k : goal.invariant-loop-k
invariant-loop-k g l = Encoded (take (l.k * l.pairs) l.bits) g.P.Pattern.code_rate l.fn.state l.held (take (l.k * l.sent) l.out)
