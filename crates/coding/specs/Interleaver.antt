-- Where the coded bits of a symbol go: n of them, written in rows of `columns`, and turned within groups of s.
use Rattle.std.specs.Prelude.{◌≡◌, ℕ, ◌+◌, ◌-◌, ◌*◌, ◌/◌, ◌%◌, ◌<◌, max, Bool, cond, List, map, length, slice_index_or}
use Rattle.std.specs.List.{range_with_len}
use Rattle.frame.specs.declared.rate.Modulation.{Modulation}
use Rattle.frame.specs.Rate.{n_bpsc}

-- n places are filled by `columns` columns, each of `groups` groups of s
pub record Grid (columns s groups n : ℕ) : Type 0 where
  pub some_columns : 0 < columns
  pub some_size : 0 < s
  pub some_groups : 0 < groups
  pub whole : n ≡ columns * (s * groups)

-- the first permutation: i = (n / columns) (k mod columns) + floor (k / columns)
unfoldable pub spread : ℕ → ℕ → ℕ → ℕ
spread columns n k = n / columns * (k % columns) + k / columns

-- the second: j = s floor (i / s) + (i + n - floor (columns i / n)) mod s
unfoldable pub turn : ℕ → ℕ → ℕ → ℕ → ℕ
turn columns n s i = s * (i / s) + (i + n - columns * i / n) % s

-- coded bit k goes to this place
unfoldable pub place : ℕ → ℕ → ℕ → ℕ → ℕ
place columns n s k = turn columns n s (spread columns n k)

-- their inverses, and the coded bit that goes to place j
unfoldable pub unturn : ℕ → ℕ → ℕ → ℕ → ℕ
unturn columns n s j = s * (j / s) + (j + columns * j / n) % s

unfoldable pub unspread : ℕ → ℕ → ℕ → ℕ
unspread columns n i = columns * i - (n - 1) * (columns * i / n)

unfoldable pub source : ℕ → ℕ → ℕ → ℕ → ℕ
source columns n s j = unspread columns n (unturn columns n s j)

-- the coded bits of a symbol interleaved: place j holds the bit that goes there. In a grid no place lacks one, so d is not read
abbrev pub interleaved : {X : Type 0} → X → ℕ → ℕ → List X → List X
interleaved d columns s xs = map (λ j. slice_index_or xs (source columns (length xs) s j) d) (range_with_len 0 (length xs))

-- and back: bit k, in the coder's order, is what stands at its place
abbrev pub deinterleaved : {X : Type 0} → X → ℕ → ℕ → List X → List X
deinterleaved d columns s ys = map (λ k. slice_index_or ys (place columns (length ys) s k) d) (range_with_len 0 (length ys))

-- coded bit k of xs stands at its place in ys
abbrev pub Placed : {X : Type 0} → ℕ → ℕ → List X → List X → Type 0
Placed {X} columns s xs ys = (k : ℕ) (d : X) → k < length xs → slice_index_or ys (place columns (length xs) s k) d ≡ slice_index_or xs k d

-- a walk through the places that serves either way: at place j it moves what stands at `origin` to `target`, which are the source
-- and its place, or on the way back the place and its source
abbrev pub target : Bool → ℕ → ℕ → ℕ → ℕ → ℕ
target back columns n s j = cond back (source columns n s j) j

abbrev pub origin : Bool → ℕ → ℕ → ℕ → ℕ → ℕ
origin back columns n s j = cond back j (source columns n s j)

-- the first m places are done
abbrev pub Moved : {X : Type 0} → Bool → ℕ → ℕ → List X → List X → ℕ → Type 0
Moved {X} back columns s xs ys m =
    (j : ℕ) (d : X) → j < m → slice_index_or ys (target back columns (length xs) s j) d ≡ slice_index_or xs (origin back columns (length xs) s j) d

-- over every grid: each k has a place, from which it comes back, and each place is some k's
pub record Inverse (columns n s : ℕ) : Type 0 where
  pub place_within : (k : ℕ) → k < n → place columns n s k < n
  pub source_place : (k : ℕ) → k < n → source columns n s (place columns n s k) ≡ k
  pub source_within : (j : ℕ) → j < n → source columns n s j < n
  pub place_source : (j : ℕ) → j < n → place columns n s (source columns n s j) ≡ j

abbrev pub Undone : Type 0
Undone = (columns s groups n : ℕ) → Grid columns s groups n → Inverse columns n s

-- so every list comes back, either way
abbrev pub ComesBack : Type 0 → Type 0
ComesBack X =
    (d : X) (columns s groups : ℕ) (xs : List X) → Grid columns s groups (length xs) →
    (deinterleaved d columns s (interleaved d columns s xs) ≡ xs) × (interleaved d columns s (deinterleaved d columns s xs) ≡ xs)

-- s of the rule, by the modulation
abbrev pub turn_size : Modulation → ℕ
turn_size m = max (n_bpsc m / 2) 1
