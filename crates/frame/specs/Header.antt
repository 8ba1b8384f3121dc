-- The header: the 24 bits of the SIGNAL symbol.
use Rattle.std.specs.Prelude.{ℕ, Bool, false, List, ◌∷◌, ◌++◌, map, replicate}
use Rattle.std.specs.List.{range_with_len}
use Rattle.frame.specs.declared.rate.Rate.{Rate}
use Rattle.frame.specs.Rate.{row}
use Rattle.frame.specs.Bits.{bit_at, odd}

-- R1 to R4, the reserved bit, and the twelve LENGTH bits, lowest first
abbrev pub fields : Rate → ℕ → List Bool
fields r length = (row r).bits ++ false ∷ map (bit_at length) (range_with_len 0 12)

-- then the parity bit, which makes the number of ones among the first 18 even, and six zeros
abbrev pub header : Rate → ℕ → List Bool
header r length = fields r length ++ odd (fields r length) ∷ replicate 6 false
