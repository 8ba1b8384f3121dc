use Rattle.std.proofs.Common.{◌≡◌, ℕ, ◌<◌, false, get_or}
use Rattle.frame.specs.Bits.{bit_at}
use Rattle.frame.proofs.header.twelve_bits.Given as goal

abbrev pub invariant-loop-n : goal.invariant-loop-n
invariant-loop-n l = (k : ℕ) → k < l.n → get_or l.bit-items k false ≡ bit_at l.number k
