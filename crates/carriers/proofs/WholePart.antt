-- The whole part of a size of at most 128. From 2^23 on binary32 has no digits for a fraction, so the size with 2^23 added,
-- and taken off again, is the whole number nearest to it. That is the whole part or, where it is above the size, one more.
use Rattle.std.proofs.Common.{◌≡◌, ℕ, suc, ◌+◌, ◌-◌, ◌*◌, ◌/◌, ◌%◌, ◌^◌, ◌<◌, ◌≤◌, Bool, true, false, cond, T, ltb, ℤ, pos, ◌-ℤ◌, neg_ℤ, sym, refl, ap, ◌∙◌, subst, ap₂, lt_of_lt_of_le, mul_assoc, mul_comm, div-lt_iff_lt-mul, add-mul, lt_of_mul-lt-mul_right, mul-pos, lt_of_not-le, le-div_iff_mul-le, zero-mul, mul-one, mul_right_comm, not-le_of_lt, le_of_mul-le-mul_right, arith, lit<, le→leb, pow_pos, pow_mono, ltb-false, ltb-true, le-ltb, lt-ltb}
use Prim.Native.Nat.{compare, Ordering}
use native.Mathlib.Nat.{add-mul-div_right, add-mul-mod_self_right, zero-div, div-le_of_le-mul, eq_of_mul-eq-mul_right}
use lib.Ieee.{Float, nan, inf, fin, binary32, up, down, size, nearest, round, add, sub, sum, neg, lt, of_bits, in_float, of_int, to_signed, in_signed}
use lib.Ieee.Digits.{size-lt, size-le}
use lib.Ieee.Exact.{HasValue}
use lib.Ieee.Nearest.{closest, closest_same, nearest-ge}
use lib.Ieee.Fits.{nearest-le, down_pos}
use lib.Ieee.Order.{drop}
use lib.Ieee.Scale.{grid, overflow, round_val, round_same}
use lib.Ieee.Back.{round_whole, positive_back}
use Rattle.std.specs.Float as Floats
use Rattle.std.proofs.lemmas.Int.{ints}
use Rattle.std.proofs.lemmas.Bool.{true≢false}
use Rattle.carriers.specs.Demapper.{signed, AtMost, whole_part}

-- ---- from 2^23 to 2^24 a fraction is rounded to a whole number

-- in units of 2^-149 it has 173 digits, 149 more than binary32 keeps
dropped : (a c : ℕ) → 0 < c → 2 ^ 23 * c ≤ a → a < 2 ^ 24 * c → drop 24 (a * 2 ^ 149) c ≡ 149
dropped a c p l h =
    let q = a * 2 ^ 149 / c in
    let low : 2 ^ 172 ≤ q = (le-div_iff_mul-le p).1 (omega arith) in
    let most : size q ≤ 173 = size-le q 173 ((div-lt_iff_lt-mul p).1 (omega arith)) in
    let least : 172 < size q = lt_of_not-le (λ (g : size q ≤ 172). not-le_of_lt (lt_of_lt_of_le (size-lt q) (pow_mono g)) low) in
    omega arith

rounds : (a c : ℕ) → 0 < c → 2 ^ 23 * c ≤ a → a < 2 ^ 24 * c → HasValue (round binary32 false a c) false (closest a c * 2 ^ 149) (2 ^ 149)
rounds a c p l h =
    let u = 2 ^ 149 in
    let same : closest (a * u) (c * u) ≡ closest a c =
    closest_same (a * u) (c * u) a c (mul-pos p (pow_pos 149)) p (mul_assoc a u c ∙ ap (λ (z : ℕ). a * z) (mul_comm u c)) in
    let is : grid binary32 a c ≡ closest a c * u =
    ap (λ (z : ℕ). closest (a * u) (c * 2 ^ z) * 2 ^ z) (dropped a c p l h) ∙ ap (λ (z : ℕ). z * u) same in
    let q : a / c < 2 ^ 24 = (div-lt_iff_lt-mul p).1 h in
    let fine : closest a c * u < overflow binary32 = omega (arith, nearest-le (a / c) (compare (a % c * 2) c)) in
    subst (λ (z : ℕ). HasValue (round binary32 false a c) false z u) is (round_val binary32 a c (subst (λ (z : ℕ). z < overflow binary32) (sym is) fine))

-- ---- 2^23 added, and taken off again

abbrev big : Float
big = fin false 1 (pos 23)

-- what has a minus and is not below zero is -0
nought : (m : ℕ) (e : ℤ) → lt (fin true m e) Floats.float_zero ≡ false → m * up e ≡ 0
unfolding lt
nought m e i = let z = ltb-false _ _ i in omega arith

added : (s : Bool) (m : ℕ) (e : ℤ) → lt (fin s m e) Floats.float_zero ≡ false →
    add binary32 (fin s m e) big ≡ round binary32 false (m * up e + 2 ^ 23 * down e) (down e)
unfolding add sum
added false m e i = ap₂ (round binary32 false) (omega arith) (mul-one (down e))
added true m e i =
    let a = m * up e * 1 in
    let b = 1 * 2 ^ 23 * down e in
    let z = nought m e i in
    let d = down e * 1 in
    ap (λ (t : Bool). cond t (round binary32 false (b - a) d) (round binary32 (ltb b a) (a - b) d)) (lt-ltb a b (omega (arith, down_pos e)))
    ∙ ap₂ (round binary32 false) (omega arith) (mul-one (down e))

taken : (y : Float) (k : ℕ) → HasValue y false ((k + 2 ^ 23) * 2 ^ 149) (2 ^ 149) → sub binary32 y big ≡ round binary32 false k 1
unfolding sub add sum neg
taken nan k v = absurd v
taken (inf t) k v = absurd v
taken (fin true m e) k v = absurd (true≢false v.0)
taken (fin false m e) k v =
    let a = m * up e * 1 in
    let b = 1 * 2 ^ 23 * down e in
    let d = down e * 1 in
    let is : m * up e ≡ (k + 2 ^ 23) * down e =
    eq_of_mul-eq-mul_right (2 ^ 149) (pow_pos 149) _ _ (v.1 ∙ mul_right_comm (k + 2 ^ 23) (2 ^ 149) (down e)) in
    let apart = add-mul k (2 ^ 23) (down e) in
    ap (λ (t : Bool). cond t (round binary32 true (b - a) d) (round binary32 false (a - b) d)) (le-ltb a b (omega arith))
    ∙ round_same binary32 false (a - b) d k 1 (omega (arith, down_pos e)) (lit< tt) (omega arith)

-- 2^23 is even, so a tie goes the same way with it and without
even_more : (q : ℕ) (o : Ordering) → nearest (q + 2 ^ 23) o ≡ nearest q o + 2 ^ 23
even_more q Ordering.lt = refl
even_more q Ordering.eq = omega arith
even_more q Ordering.gt = omega arith

closest_more : (n d : ℕ) → 0 < d → closest (n + 2 ^ 23 * d) d ≡ closest n d + 2 ^ 23
closest_more n d p =
    ap₂ (λ (q r : ℕ). nearest q (compare (r * 2) d)) (add-mul-div_right n (2 ^ 23) p) (add-mul-mod_self_right n (2 ^ 23) d)
    ∙ even_more (n / d) (compare (n % d * 2) d)

-- what the two steps give together
gives_closest : (s : Bool) (m : ℕ) (e : ℤ) → m * up e ≤ 128 * down e → lt (fin s m e) Floats.float_zero ≡ false →
    sub binary32 (add binary32 (fin s m e) big) big ≡ round binary32 false (closest (m * up e) (down e)) 1
gives_closest s m e h o =
    let n = m * up e in
    let d = down e in
    let a = n + 2 ^ 23 * d in
    let v = rounds a d (down_pos e) (omega arith) (omega (arith, down_pos e)) in
    ap (λ (y : Float). sub binary32 y big) (added s m e o)
    ∙ taken (round binary32 false a d) (closest n d)
    (subst (λ (k : ℕ). HasValue (round binary32 false a d) false (k * 2 ^ 149) (2 ^ 149)) (closest_more n d (down_pos e)) v)

-- ---- the whole part, or one more

-- whether n is below k
abbrev Below : Bool → ℕ → ℕ → Type 0
Below true n k = n < k
Below false n k = k ≤ n

-- n / d against j / g, which is the whole number k
scaled : (b : Bool) (n d k g j : ℕ) → 0 < g → j * 1 ≡ k * g → ltb (n * g) (j * d) ≡ b → Below b n (k * d)
scaled true n d k g j p v i = lt_of_mul-lt-mul_right g (omega (arith, ltb-true _ _ i, v, mul_right_comm k d g, ap (λ (z : ℕ). z * d) v))
scaled false n d k g j p v i = le_of_mul-le-mul_right (omega (arith, ltb-false _ _ i, v, mul_right_comm k d g, ap (λ (z : ℕ). z * d) v)) p

compared : (s : Bool) (m : ℕ) (e : ℤ) (y : Float) (k : ℕ) (b : Bool) → lt (fin s m e) Floats.float_zero ≡ false → HasValue y false k 1 →
    lt (fin s m e) y ≡ b → Below b (m * up e) (k * down e)
unfolding lt
compared s m e nan k b o v i = absurd v
compared s m e (inf t) k b o v i = absurd v
compared s m e (fin true n g) k b o v i = absurd (true≢false v.0)
compared false m e (fin false n g) k b o v i = scaled b (m * up e) (down e) k (down g) (n * up g) (down_pos g) v.1 i
compared true m e (fin false n g) k b o v i =
    let none : m * up e * down g ≡ 0 = ap (λ (z : ℕ). z * down g) (nought m e o) ∙ zero-mul (down g) in
    scaled b (m * up e) (down e) k (down g) (n * up g) (down_pos g) v.1 (ap₂ ltb none (omega arith) ∙ i)

one_off : (b : Bool) (n d k : ℕ) → 0 < d → Below b n (k * d) → n / d ≤ k → k ≤ suc (n / d) → cond b (pos k -ℤ pos 1) (pos k) ≡ pos (n / d)
one_off true n d k p t l h = let more : n / d < k = (div-lt_iff_lt-mul p).1 t in omega (arith, ints)
one_off false n d k p t l h = let less : k ≤ n / d = (le-div_iff_mul-le p).1 t in omega (arith, ints)

-- the whole part of what is not below zero
of_size : (s : Bool) (m : ℕ) (e : ℤ) → lt (fin s m e) Floats.float_zero ≡ false → whole_part (fin s m e) ≡ pos (m * up e / down e)
unfolding whole_part
of_size true m e o =
    let none : m * up e / down e ≡ 0 = ap (λ (z : ℕ). z / down e) (nought m e o) ∙ zero-div (down e) in
    ap (signed true) none ∙ ap pos (sym none)
of_size false m e o = refl

few_whole : (n d : ℕ) → n ≤ 128 * d → n / d ≤ 128
few_whole n d h = div-le_of_le-mul d (omega (arith, mul_comm d 128))

-- `near` is the whole number k, and k, less one where it is past the size, is the whole part
pub record Nears (size near : Float) : Type 0 where
  pub k : ℕ
  pub small : k ≤ 129
  pub casts : T (in_signed binary32 15 near)
  pub to : to_signed 15 near ≡ pos k
  pub is : (past : Bool) → lt size near ≡ past → cond past (pos k -ℤ pos 1) (pos k) ≡ whole_part size

-- what the code computes, with the code's literal 8388608.0
pub nears : (size : Float) → AtMost 128 size → lt size Floats.float_zero ≡ false →
    Nears size (sub binary32 (add binary32 size (of_bits binary32 0x4b00_0000)) (of_bits binary32 0x4b00_0000))
unfolding of_bits of_int in_float
nears nan h o = absurd h
nears (inf s) h o = absurd h
nears (fin s m e) h o =
    let n = m * up e in
    let d = down e in
    let k = closest n d in
    let y = round binary32 false k 1 in
    let least : n / d ≤ k = nearest-ge (n / d) (compare (n % d * 2) d) in
    let most : k ≤ suc (n / d) = nearest-le (n / d) (compare (n % d * 2) d) in
    let few = few_whole n d h in
    let cast = positive_back binary32 15 k (le→leb k (2 ^ 24) (omega arith)) (omega arith) in
    let v = round_whole binary32 false k (omega arith) in
    subst (Nears (fin s m e)) (sym (gives_closest s m e h o)) record {
      k = k;
      small = omega arith;
      casts = cast.0;
      to = cast.1;
      is = λ past i. one_off past n d k (down_pos e) (compared s m e y k past o v i) least most ∙ sym (of_size s m e o);
    }

-- ---- the size, and the sign put on again

-- `minus` says whether x is below zero, and `whole` is the whole part of its size
pub record Sized (minus : Bool) (x size : Float) : Type 0 where
  pub small : AtMost 128 size
  pub above : lt size Floats.float_zero ≡ false
  pub whole : ℕ
  pub few : whole ≤ 128
  pub of : whole_part size ≡ pos whole
  pub is : cond minus (neg_ℤ (pos whole)) (pos whole) ≡ whole_part x

at_size : (minus s t : Bool) (m : ℕ) (e : ℤ) → m * up e ≤ 128 * down e → lt (fin t m e) Floats.float_zero ≡ false →
    cond minus (neg_ℤ (pos (m * up e / down e))) (pos (m * up e / down e)) ≡ whole_part (fin s m e) → Sized minus (fin s m e) (fin t m e)
at_size minus s t m e h o i =
    record { small = h; above = o; whole = m * up e / down e; few = few_whole (m * up e) (down e) h; of = of_size t m e o; is = i }

by_sign : (x : Float) (minus : Bool) → lt x Floats.float_zero ≡ minus → AtMost 128 x → Sized minus x (cond minus (neg x) x)
unfolding lt neg whole_part
by_sign nan minus i h = absurd h
by_sign (inf s) minus i h = absurd h
by_sign (fin true m e) true i h = at_size true true false m e h (le-ltb _ _ (omega arith)) refl
by_sign (fin true m e) false i h = at_size false true true m e h i (sym (of_size true m e i))
by_sign (fin false m e) true i h = absurd (omega (arith, ltb-true _ _ i))
by_sign (fin false m e) false i h = at_size false false false m e h i refl

pub sized : (x size : Float) (minus : Bool) → lt x Floats.float_zero ≡ minus → AtMost 128 x →
    size ≡ cond (lt x Floats.float_zero) (neg x) x → Sized minus x size
sized x size minus i h e = subst (Sized minus x) (sym (e ∙ ap (λ (b : Bool). cond b (neg x) x) i)) (by_sign x minus i h)
