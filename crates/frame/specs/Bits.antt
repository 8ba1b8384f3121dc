-- Bits and numbers.
use Rattle.std.specs.Prelude.{ℕ, ◌/◌, ◌%◌, ◌^◌, Bool, true, false, not, List, ◌==◌}
use Rattle.std.specs.Bool.{beq}
use Rattle.std.specs.List.{fold}

abbrev pub bit_of : Bool → ℕ
bit_of true = 1
bit_of false = 0

-- exclusive or
abbrev pub differs : Bool → Bool → Bool
differs a b = not (beq a b)

-- bit n of a number, the lowest being bit 0
abbrev pub bit_at : ℕ → ℕ → Bool
bit_at x n = x / 2 ^ n % 2 == 1

-- whether the number of ones is odd
abbrev pub odd : List Bool → Bool
odd bits = fold differs false bits
