-- The demapper: what each carrier says of each of its bits.
use Rattle.std.specs.Prelude.{ℕ, ◌*◌, ◌/◌, ◌≤◌, min, Bool, true, false, List, [], ◌∷◌, ◌++◌, map, replicate, ℤ, pos, ◌-ℤ◌, neg_ℤ, unsigned_abs, Float}
use Rattle.std.specs.Float.{nan, inf, fin}
use Rattle.std.specs.Float.Ieee.{up, down}
use Rattle.frame.specs.declared.rate.Modulation.{Modulation}
use Rattle.frame.specs.declared.rate.Modulation.TheVariants as M
use Rattle.frame.specs.Rate.{n_bpsc}
use Rattle.carriers.specs.declared.carrier.Point.{Point}
use Rattle.carriers.specs.declared.carrier.Carrier.{Carrier}
use Rattle.carriers.specs.declared.carrier.Carrier.TheVariants.{Heard, Struck}
use Rattle.carriers.specs.declared.soft.SoftBit.{SoftBit}
use Rattle.carriers.specs.declared.soft.SoftBit.TheVariants.{Value, Absent}

-- a size with its sign; true is minus
abbrev pub signed : Bool → ℕ → ℤ
signed true n = neg_ℤ (pos n)
signed false n = pos n

-- A float is `fin s m e`, which is m 2^e with the sign s, or infinite, or not a number; 2^e is the fraction up e / down e.

-- its size is at most n
abbrev pub AtMost : ℕ → Float → Type 0
AtMost n nan = ⊥
AtMost n (inf s) = ⊥
AtMost n (fin s m e) = m * up e ≤ n * down e

-- the fraction dropped, toward zero
unfoldable pub whole_part : Float → ℤ
whole_part nan = pos 0
whole_part (inf s) = pos 0
whole_part (fin s m e) = signed s (m * up e / down e)

-- how many whole sixteenths m 2^e holds
abbrev pub sixteenths : ℕ → ℤ → ℕ
sixteenths m e = m * up e * 16 / down e

-- r, a heard coordinate in whole sixteenths: limited to -8 to 8, times 16, the fraction dropped toward zero. (8 is 128 whole
-- sixteenths, so it is the same to drop the fraction first. What is not a number is refused before it comes here.)
unfoldable pub quantised : Float → ℤ
quantised nan = pos 0
quantised (inf s) = signed s 128
quantised (fin s m e) = signed s (min (sixteenths m e) 128)

abbrev pub size : ℤ → ℤ
size v = pos (unsigned_abs v)

-- the value of each bit of a coordinate
abbrev pub values : Modulation → ℤ → List ℤ
values M.Bpsk r = r ∷ []
values M.Qpsk r = r ∷ []
values M.Qam16 r = r ∷ (pos 32 -ℤ size r) ∷ []
values M.Qam64 r = r ∷ (pos 64 -ℤ size r) ∷ (pos 32 -ℤ size (pos 64 -ℤ size r)) ∷ []

-- those of a point: I and then Q; BPSK has nothing on Q
abbrev pub point_values : Modulation → Point → List ℤ
point_values M.Bpsk p = values M.Bpsk (quantised p.i)
point_values M.Qpsk p = values M.Qpsk (quantised p.i) ++ values M.Qpsk (quantised p.q)
point_values M.Qam16 p = values M.Qam16 (quantised p.i) ++ values M.Qam16 (quantised p.q)
point_values M.Qam64 p = values M.Qam64 (quantised p.i) ++ values M.Qam64 (quantised p.q)

-- every bit of a struck carrier is absent
abbrev pub soft_bits : Modulation → Carrier → List SoftBit
soft_bits m (Heard p) = map Value (point_values m p)
soft_bits m Struck = replicate (n_bpsc m) Absent

-- the carriers of a symbol, one after the other
abbrev pub demapped : Modulation → List Carrier → List SoftBit
demapped m [] = []
demapped m (c ∷ cs) = soft_bits m c ++ demapped m cs
