-- The header, part by part.
use Rattle.std.proofs.Common.{◌≡◌, ℕ, Bool, false, cond, List, map, length, get_or, take, drop, refl}
use Rattle.std.specs.List.{range_with_len}
use Rattle.frame.specs.declared.rate.Rate.{Rate}
use Rattle.frame.specs.declared.rate.Rate.TheVariants as R
use Rattle.frame.specs.Bits.{bit_at}
use Rattle.frame.specs.Header.{header}

-- the rate by its first three bits: the fourth is a one at all rates
pub read_rate : List Bool → Rate
read_rate bits =
    let r1 = get_or bits 0 false in
    let r2 = get_or bits 1 false in
    let r3 = get_or bits 2 false in
    cond r1 (cond r2 (cond r3 R.R9 R.R6) (cond r3 R.R36 R.R24)) (cond r2 (cond r3 R.R18 R.R12) (cond r3 R.R54 R.R48))

-- how long a header is, and what can be read from it
pub record Parts (r : Rate) (len : ℕ) : Type 0 where
  pub long : length (header r len) ≡ 24
  pub rate : read_rate (header r len) ≡ r
  pub lengths : take 12 (drop 5 (header r len)) ≡ map (bit_at len) (range_with_len 0 12)

pub header_parts : (r : Rate) (len : ℕ) → Parts r len
unfolding read_rate
header_parts R.R6 len = record { long = refl; rate = refl; lengths = refl }
header_parts R.R9 len = record { long = refl; rate = refl; lengths = refl }
header_parts R.R12 len = record { long = refl; rate = refl; lengths = refl }
header_parts R.R18 len = record { long = refl; rate = refl; lengths = refl }
header_parts R.R24 len = record { long = refl; rate = refl; lengths = refl }
header_parts R.R36 len = record { long = refl; rate = refl; lengths = refl }
header_parts R.R48 len = record { long = refl; rate = refl; lengths = refl }
header_parts R.R54 len = record { long = refl; rate = refl; lengths = refl }
