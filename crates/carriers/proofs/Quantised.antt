-- A coordinate limited to -8 to 8 is exact in binary32 after the product by 16, so the whole part of the product drops the
-- fraction and nothing else.
use Rattle.std.proofs.Common.{◌≡◌, ℕ, zero, suc, ◌+◌, ◌-◌, ◌*◌, ◌/◌, ◌%◌, ◌^◌, ◌<◌, ◌≤◌, min, Bool, true, false, cond, ◌&&◌, T, eqb, ltb, leb, ℤ, pos, negsuc, nat_abs, sym, refl, ap, ◌∙◌, subst, ap₂, lt_of_lt_of_le, mul-le-mul_right, mul_assoc, mul_comm, le-div_iff_mul-le, mul-one, mul_right_comm, le_of_mul-le-mul_right, arith, lit<, lit≤, ltb→lt, leb→le, pow_pos, pow_mono, pow-add, shl_lt, ltb-false, ltb-true}
use native.Mathlib.Nat.{div-le_of_le-mul}
use lib.Pow.{pow-lt}
use lib.Ieee.{Float, nan, inf, fin, binary32, up, down, round, mul, lt, neg, of_bits, fits, is_nan}
use lib.Ieee.Exact.{HasValue, round_exact}
use lib.Ieee.Nearest.{div_same}
use lib.Ieee.Fits.{and_l, and_r, down_pos}
use Rattle.std.specs.Float.{float_clamp}
use Rattle.std.proofs.lemmas.Bool.{true≢false}
use Rattle.carriers.specs.Demapper.{signed, AtMost, whole_part, sixteenths, quantised}

-- ---- the whole part of what has the value a / c

whole_of : (y : Float) (s : Bool) (a c : ℕ) → 0 < c → HasValue y s a c → whole_part y ≡ signed s (a / c)
unfolding whole_part
whole_of nan s a c p v = absurd v
whole_of (inf t) s a c p v = absurd v
whole_of (fin t m e) s a c p v = ap₂ signed v.0 (div_same (m * up e) (down e) a c (down_pos e) p v.1)

small_of : (y : Float) (s : Bool) (a c n : ℕ) → 0 < c → HasValue y s a c → a ≤ n * c → AtMost n y
small_of nan s a c n p v h = absurd v
small_of (inf t) s a c n p v h = absurd v
small_of (fin t m e) s a c n p v h =
    le_of_mul-le-mul_right
    (omega (arith, v.1, mul-le-mul_right {m = a} {n = n * c} (down e) h, mul_right_comm n c (down e))) p

-- ---- what binary32 holds: few digits, and an exponent that is not too low

digits : (s : Bool) (m : ℕ) (e : ℤ) → T (fits binary32 (fin s (suc m) e)) → (suc m < 2 ^ 24) × (down e ≤ 2 ^ 149)
unfolding fits
digits s m e t =
    let A = eqb (suc m % 2) 1 in
    let B = ltb (suc m) (2 ^ 24) in
    let C = leb (down e) (2 ^ 149) in
    let D = ltb (suc m * up e) (2 ^ 128 * down e) in
    (ltb→lt _ _ (and_r A B (and_l (A && B) C (and_l (A && B && C) D t))), leb→le _ _ (and_r (A && B) C (and_l (A && B && C) D t)))

low_enough : (k : ℕ) (b : Bool) → ltb 149 k ≡ b → 2 ^ k ≤ 2 ^ 149 → k ≤ 149
low_enough k true e h = omega (arith, pow-lt (ltb-true _ _ e))
low_enough k false e h = ltb-false _ _ e

-- ---- the product is exact

exact : (s : Bool) (m : ℕ) (e : ℤ) → T (fits binary32 (fin s m e)) → m * up e ≤ 8 * down e → HasValue (round binary32 s (m * up e * 16) (down e)) s (m * up e * 16) (down e)
exact s zero e t h = round_exact binary32 s (0 * up e * 16) (down e) 0 0 (down_pos e) (lit< tt) (lit< tt) (omega arith)
exact s (suc m) (pos k) t h =
    let j : suc m * 2 ^ (k + 153) ≡ suc m * 2 ^ k * 2 ^ 153 = ap (λ (z : ℕ). suc m * z) (pow-add 2 k 153) ∙ sym (mul_assoc (suc m) (2 ^ k) (2 ^ 153)) in
    round_exact binary32 s (suc m * 2 ^ k * 16) 1 (suc m) (k + 153) (lit< tt) (digits s m (pos k) t).0 (omega arith) (omega arith)
exact s (suc m) (negsuc k) t h =
    let l : suc k ≤ 149 = low_enough (suc k) (ltb 149 (suc k)) refl (digits s m (negsuc k) t).1 in
    let b : 153 - suc k + suc k ≡ 153 = omega arith in
    let p : 2 ^ (153 - suc k) * 2 ^ suc k ≡ 2 ^ 153 = sym (pow-add 2 (153 - suc k) (suc k)) ∙ ap (λ (z : ℕ). 2 ^ z) b in
    let q : suc m * 1 * 16 * 2 ^ 149 ≡ suc m * 2 ^ 153 = omega arith in
    round_exact binary32 s (suc m * 1 * 16) (2 ^ suc k) (suc m) (153 - suc k) (pow_pos (suc k)) (digits s m (negsuc k) t).0
    (lt_of_lt_of_le (shl_lt 24 (153 - suc k) (digits s m (negsuc k) t).0) (let g : 24 + (153 - suc k) ≤ 277 = omega arith in pow_mono g))
    (q ∙ ap (λ (z : ℕ). suc m * z) (sym p) ∙ sym (mul_assoc (suc m) (2 ^ (153 - suc k)) (2 ^ suc k)))

-- ---- past the limit, and within it

abbrev sixteen : Float
sixteen = fin false 1 (pos 4)

-- the scaled coordinate is small, and its whole part is r
abbrev Scales : Float → ℤ → Type 0
Scales y r = AtMost 128 y × (whole_part y ≡ r)

at_limit : (s : Bool) → Scales (mul binary32 (fin s 1 (pos 3)) sixteen) (signed s 128)
unfolding mul whole_part
at_limit true = (lit≤ tt, refl)
at_limit false = (lit≤ tt, refl)

product : (s : Bool) (m : ℕ) (e : ℤ) → mul binary32 (fin s m e) sixteen ≡ round binary32 s (m * up e * 16) (down e)
unfolding mul
product true m e = ap (λ (d : ℕ). round binary32 true (m * up e * 16) d) (mul-one (down e))
product false m e = ap (λ (d : ℕ). round binary32 false (m * up e * 16) d) (mul-one (down e))

limited : (s : Bool) (m : ℕ) (e : ℤ) (past : Bool) → T (fits binary32 (fin s m e)) → ltb (8 * down e) (m * up e * 1) ≡ past →
    Scales (mul binary32 (cond past (fin s 1 (pos 3)) (fin s m e)) sixteen) (signed s (min (sixteenths m e) 128))
limited s m e true t h =
    let g : 128 ≤ m * up e * 16 / down e = (le-div_iff_mul-le (down_pos e)).1 (omega (arith, ltb-true _ _ h)) in
    let k : 128 ≡ min (sixteenths m e) 128 = omega arith in
    subst (λ (n : ℕ). Scales (mul binary32 (fin s 1 (pos 3)) sixteen) (signed s n)) k (at_limit s)
limited s m e false t h =
    let g : m * up e ≤ 8 * down e = omega (arith, ltb-false _ _ h) in
    let k : m * up e * 16 / down e ≤ 128 = div-le_of_le-mul (down e) (omega (arith, mul_comm (down e) 128)) in
    let v = exact s m e t g in
    let y = round binary32 s (m * up e * 16) (down e) in
    subst (λ (z : Float). Scales z (signed s (min (sixteenths m e) 128))) (sym (product s m e)) (
      small_of y s (m * up e * 16) (down e) 128 (down_pos e) v (omega arith),
      whole_of y s (m * up e * 16) (down e) (down_pos e) v ∙ ap (signed s) (omega arith),
    )

-- what the code computes, with the code's literals -8.0, 8.0 and 16.0
pub scales : (x : Float) → T (fits binary32 x) → is_nan x ≡ false →
    Scales (mul binary32 (float_clamp x (neg (of_bits binary32 0x4100_0000)) (of_bits binary32 0x4100_0000)) (of_bits binary32 0x4180_0000)) (quantised x)
unfolding quantised is_nan lt mul whole_part of_bits neg
scales nan t n = absurd (true≢false n)
scales (inf true) t n = (lit≤ tt, refl)
scales (inf false) t n = (lit≤ tt, refl)
scales (fin true m e) t n = limited true m e (ltb (8 * down e) (m * up e * 1)) t refl
scales (fin false m e) t n = limited false m e (ltb (8 * down e) (m * up e * 1)) t refl

-- ---- how large r is

signed_size : (s : Bool) (n : ℕ) → nat_abs (signed s n) ≡ n
signed_size true zero = refl
signed_size true (suc n) = refl
signed_size false n = refl

pub quantised_bound : (x : Float) → nat_abs (quantised x) ≤ 128
unfolding quantised
quantised_bound nan = lit≤ tt
quantised_bound (inf s) = omega (arith, signed_size s 128)
quantised_bound (fin s m e) = omega (arith, signed_size s (min (sixteenths m e) 128))
