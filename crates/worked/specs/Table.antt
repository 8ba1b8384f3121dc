-- Worked values: a table of what the definitions give and what it should be.
use Rattle.std.specs.Prelude.{ℕ, ◌+◌, ◌*◌, ◌/◌, Bool, true, false, ◌&&◌, List, [], ◌∷◌, ◌++◌, map, codes, ◌==◌, Float}
use Rattle.std.specs.Float.{nan, inf, fin}
use Rattle.std.specs.Float.Ieee.{up, down}
use Rattle.std.specs.List.{range_with_len}
use Rattle.frame.specs.declared.rate.Rate.TheVariants as R
use Rattle.frame.specs.declared.rate.CodeRate.TheVariants as C
use Rattle.frame.specs.declared.rate.Modulation.TheVariants as M
use Rattle.frame.specs.Rate.{shape}
use Rattle.frame.specs.Bits.{bit_of}
use Rattle.frame.specs.Header.{header}
use Rattle.frame.specs.Scrambler.{key}
use Rattle.frame.specs.Data.{symbols, pads}
use Rattle.coding.specs.Coder.{coded}
use Rattle.coding.specs.Puncturing.{punctured}
use Rattle.coding.specs.Interleaver.{place}
use Rattle.carriers.specs.declared.carrier.Point.{Point}
use Rattle.carriers.specs.Mapper.{point_at}

-- a case: what is given, and what is expected, as lists of numbers
abbrev pub Case : Type 0
Case = List ℕ × List ℕ

-- bits against a text of zeros and ones
abbrev pub bits : List Bool → List ℕ → Case
bits given text = (map (λ b. 48 + bit_of b) given, text)

abbrev pub pairs : List (Bool × Bool) → List Bool
pairs [] = []
pairs (p ∷ ps) = p.0 ∷ p.1 ∷ pairs ps

-- a coordinate as its sign, 1 for minus, and its whole part
abbrev pub signed : Float → List ℕ
signed nan = []
signed (inf s) = []
signed (fin s m e) = bit_of s ∷ m * up e / down e ∷ []

abbrev pub point : Point → List ℕ
point p = signed p.i ++ signed p.q

unfoldable pub table : List Case
table =
    bits (map (key 127) (range_with_len 0 16)) (codes "0000111011110010")
    ∷ bits (map (key 93) (range_with_len 0 16)) (codes "0110110000011001")
    -- 127 and 93 read the same both ways: this seed tells x1 from x7
    ∷ bits (map (key 1) (range_with_len 0 16)) (codes "0001001100010111")
    ∷ bits (pairs (coded (true ∷ false ∷ false ∷ false ∷ false ∷ false ∷ false ∷ []))) (codes "11011111001011")
    ∷ bits (header R.R36 100) (codes "101100010011000000000000")
    -- N_SYM and pads
    ∷ (symbols (shape R.R36) 100 ∷ pads (shape R.R36) 100 ∷ [], 6 ∷ 42 ∷ [])
    ∷ (symbols (shape R.R6) 1 ∷ pads (shape R.R6) 1 ∷ [], 2 ∷ 18 ∷ [])
    ∷ (symbols (shape R.R54) 4095 ∷ pads (shape R.R54) 4095 ∷ [], 152 ∷ 50 ∷ [])
    -- where coded bit 1 goes; and coded bit 2 of 288, which a turn the other way would put at 38
    ∷ (place 16 48 1 1 ∷ place 16 192 2 1 ∷ place 16 288 3 1 ∷ place 16 288 3 2 ∷ [], 3 ∷ 13 ∷ 20 ∷ 37 ∷ [])
    ∷ bits (punctured C.ThreeQuarters ((true, true) ∷ (false, true) ∷ (true, true) ∷ [])) (codes "1101")
    -- the same pattern with A2 and B2 apart, and the pattern of 2/3
    ∷ bits (punctured C.ThreeQuarters ((true, true) ∷ (false, true) ∷ (true, false) ∷ [])) (codes "1100")
    ∷ bits (punctured C.TwoThirds ((true, true) ∷ (false, true) ∷ [])) (codes "110")
    -- BPSK I = -1, Q = 0; QPSK I = 1, Q = -1; 16-QAM I = 3, Q = -1; 64-QAM I = 5, Q = -3
    ∷ (point (point_at M.Bpsk (false ∷ []) 0), 1 ∷ 1 ∷ 0 ∷ 0 ∷ [])
    ∷ (point (point_at M.Qpsk (true ∷ false ∷ []) 0), 0 ∷ 1 ∷ 1 ∷ 1 ∷ [])
    ∷ (point (point_at M.Qam16 (true ∷ false ∷ false ∷ true ∷ []) 0), 0 ∷ 3 ∷ 1 ∷ 1 ∷ [])
    ∷ (point (point_at M.Qam64 (true ∷ false ∷ true ∷ false ∷ true ∷ true ∷ []) 0), 0 ∷ 5 ∷ 1 ∷ 3 ∷ [])
    ∷ []

unfoldable pub same : List ℕ → List ℕ → Bool
same [] [] = true
same [] (y ∷ ys) = false
same (x ∷ xs) [] = false
same (x ∷ xs) (y ∷ ys) = x == y && same xs ys

unfoldable pub all_same : List Case → Bool
all_same [] = true
all_same (row ∷ rows) = same row.0 row.1 && all_same rows
