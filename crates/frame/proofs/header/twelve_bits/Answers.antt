use Rattle.std.proofs.Common.{false, arith}
use Rattle.std.proofs.lemmas.List.FromFn.{fill_by_all}
use Rattle.frame.specs.Bits.{bit_at}
use Rattle.frame.proofs.header.twelve_bits.Goals as goal

pub returns : goal.returns
returns c = fill_by_all (bit_at c.args.number) c.loop-n.bit-items 12 false (omega arith) (λ k h. c.loop-n.invariant k (omega arith))
