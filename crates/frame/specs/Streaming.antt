-- A stretch of the data bits, written from the scrambler's register before it.
use Rattle.std.specs.Prelude.{◌≡◌, ℕ, ◌+◌, ◌-◌, ◌<◌, Bool, false, cond, List, map}
use Rattle.std.specs.List.{range_with_len}
use Rattle.frame.specs.Bits.{bit_at}
use Rattle.frame.specs.Scrambler.{key}
use Rattle.frame.specs.Data.{in_tail, scrambled_bit}

-- four key bits over the data bits from n on, the first as the highest bit, with those over the tail left out
abbrev pub Masked : ℕ → ℕ → ℕ → ℕ → Type 0
Masked length n key masked = (t : ℕ) → t < 4 → bit_at masked (3 - t) ≡ cond (in_tail length (n + t)) false (bit_at key (3 - t))

-- n data bits from `start` on, under the key of the register before them
abbrev pub bits_under : List ℕ → ℕ → ℕ → ℕ → List Bool
bits_under octets register start n = map (λ t. scrambled_bit octets (start + t) (key register t)) (range_with_len 0 n)
