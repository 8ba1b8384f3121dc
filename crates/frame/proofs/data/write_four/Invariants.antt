use Rattle.std.proofs.Common.{◌≡◌, ℕ, ◌-◌, ◌<◌, false, get_or}
use Rattle.frame.specs.Bits.{bit_at, differs}
use Rattle.frame.proofs.data.write_four.Given as goal

abbrev pub invariant-loop-t : goal.invariant-loop-t
invariant-loop-t l = (t : ℕ) → t < l.t → get_or l.out t false ≡ differs (bit_at l.plain t) (bit_at l.key (3 - t))
