-- Worked values of what is heard: coordinates, and the values of their bits.
use Rattle.std.specs.Prelude.{ℕ, ◌+◌, Bool, true, false, List, [], ◌∷◌, ◌++◌, ℤ, pos, negsuc, Float}
use Rattle.std.specs.Float.{inf, binary32}
use Rattle.std.specs.Float.Ieee.{of_int, round}
use Rattle.frame.specs.declared.rate.Modulation.TheVariants as M
use Rattle.carriers.specs.Demapper.{quantised, values}
use Rattle.worked.specs.Table.{Case}

-- a whole number as its sign, 1 for minus, and its size
abbrev pub whole : ℤ → List ℕ
whole (pos n) = 0 ∷ n ∷ []
whole (negsuc n) = 1 ∷ (n + 1) ∷ []

abbrev pub wholes : List ℤ → List ℕ
wholes [] = []
wholes (z ∷ zs) = whole z ++ wholes zs

-- the float nearest to n hundredths
abbrev pub hundredths : Bool → ℕ → Float
hundredths minus n = round binary32 minus n 100

unfoldable pub heard_table : List Case
heard_table =
    -- 0.06, -0.07, both infinities and what lies past the limit, in whole sixteenths
    (whole (quantised (hundredths false 6)), 0 ∷ 0 ∷ [])
    ∷ (whole (quantised (hundredths true 7)), 1 ∷ 1 ∷ [])
    ∷ (whole (quantised (inf false)), 0 ∷ 128 ∷ [])
    ∷ (whole (quantised (inf true)), 1 ∷ 128 ∷ [])
    ∷ (whole (quantised (of_int binary32 (pos 9))), 0 ∷ 128 ∷ [])
    -- 5.0 in 64-QAM is 80, -16, 16, and -1.5 is -24, 40, -8; 2.5 in 16-QAM is 40, -8; -0.5 in QPSK is -8
    ∷ (wholes (values M.Qam64 (quantised (of_int binary32 (pos 5)))), 0 ∷ 80 ∷ 1 ∷ 16 ∷ 0 ∷ 16 ∷ [])
    ∷ (wholes (values M.Qam64 (quantised (hundredths true 150))), 1 ∷ 24 ∷ 0 ∷ 40 ∷ 1 ∷ 8 ∷ [])
    ∷ (wholes (values M.Qam16 (quantised (hundredths false 250))), 0 ∷ 40 ∷ 1 ∷ 8 ∷ [])
    ∷ (wholes (values M.Qpsk (quantised (hundredths true 50))), 1 ∷ 8 ∷ [])
    ∷ []
