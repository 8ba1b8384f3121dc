use Rattle.std.proofs.Common.{◌≡◌, ℕ, ◌+◌, ◌*◌, ◌<◌, false, get_or}
use Rattle.frame.specs.Scrambler.{register_after, key}
use Rattle.frame.specs.Data.{scrambled_bit}
use Rattle.frame.proofs.data.fill_data_bits.Given as goal

abbrev pub invariant-loop-g : goal.invariant-loop-g
invariant-loop-g l =
    (l.here ≡ register_after l.register (4 * l.g)) ×
    ((k : ℕ) → k < 4 * l.g → get_or l.out k false ≡ scrambled_bit l.bytes (l.start + k) (key l.register k))
