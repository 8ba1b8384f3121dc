-- The mapper: which point each group of coded bits is sent as.
use Rattle.std.specs.Prelude.{ℕ, ◌+◌, ◌*◌, Bool, true, false, List, [], ◌∷◌, map, ℤ, pos, negsuc, slice_index_or, Float}
use Rattle.std.specs.Float.Ieee.{of_int}
use Rattle.std.specs.Float.{binary32}
use Rattle.std.specs.List.{range_with_len}
use Rattle.frame.specs.declared.rate.Modulation.{Modulation}
use Rattle.frame.specs.declared.rate.Modulation.TheVariants as M
use Rattle.carriers.specs.declared.carrier.Point.{Point}
use Rattle.carriers.specs.declared.carrier.Carrier.{Carrier}
use Rattle.carriers.specs.declared.carrier.Carrier.TheVariants.{Heard}

-- the level of a coordinate by its bits; negsuc n is -(n + 1)
abbrev pub level2 : Bool → ℤ
level2 false = negsuc 0
level2 true = pos 1

abbrev pub level4 : Bool → Bool → ℤ
level4 false false = negsuc 2
level4 false true = negsuc 0
level4 true true = pos 1
level4 true false = pos 3

abbrev pub level8 : Bool → Bool → Bool → ℤ
level8 false false false = negsuc 6
level8 false false true = negsuc 4
level8 false true true = negsuc 2
level8 false true false = negsuc 0
level8 true true false = pos 1
level8 true true true = pos 3
level8 true false true = pos 5
level8 true false false = pos 7

-- the level of a coordinate's bits, of which there are one, two or three
abbrev pub level_of : List Bool → ℤ
level_of (a ∷ []) = level2 a
level_of (a ∷ b ∷ []) = level4 a b
level_of (a ∷ b ∷ c ∷ []) = level8 a b c
level_of bits = pos 0

-- a level as a 32-bit float
abbrev pub coordinate : ℤ → Float
coordinate level = of_int binary32 level

abbrev pub at_levels : ℤ → ℤ → Point
at_levels i q = record { i = coordinate i; q = coordinate q }

-- the point of carrier n, by the bits at its places: the first half fixes I, the second Q
abbrev pub point_at : Modulation → List Bool → ℕ → Point
point_at M.Bpsk bits n = at_levels (level2 (slice_index_or bits n false)) (pos 0)
point_at M.Qpsk bits n = at_levels (level2 (slice_index_or bits (2 * n) false)) (level2 (slice_index_or bits (2 * n + 1) false))
point_at M.Qam16 bits n =
    at_levels (level4 (slice_index_or bits (4 * n) false) (slice_index_or bits (4 * n + 1) false)) (level4 (slice_index_or bits (4 * n + 2) false) (slice_index_or bits (4 * n + 3) false))
point_at M.Qam64 bits n =
    at_levels (level8 (slice_index_or bits (6 * n) false) (slice_index_or bits (6 * n + 1) false) (slice_index_or bits (6 * n + 2) false)) (level8 (slice_index_or bits (6 * n + 3) false) (slice_index_or bits (6 * n + 4) false) (slice_index_or bits (6 * n + 5) false))

-- the carriers of a symbol, all heard
abbrev pub mapped : Modulation → ℕ → List Bool → List Carrier
mapped m carriers bits = map (λ n. Heard (point_at m bits n)) (range_with_len 0 carriers)
