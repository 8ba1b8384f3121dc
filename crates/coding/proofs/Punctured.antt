-- Which outputs are sent, and how many.
use Rattle.std.proofs.Common.{◌≡◌, ℕ, zero, suc, ◌+◌, ◌-◌, ◌*◌, ◌/◌, ◌%◌, ◌<◌, ◌≤◌, Bool, true, false, not, eqb, cond, List, [], ◌∷◌, ◌++◌, length, get_or, sym, refl, ap, ◌∙◌, ap₂, add_assoc, suc-mul, zero-mul, mul_comm, mul-le-mul_right, mul_left_comm, arith}
use native.Mathlib.Nat.{div-add-mod, mul-add-mod_self_left}
use Rattle.std.proofs.Math.Nat.{mod_self}
use Rattle.std.proofs.lemmas.List.{append_assoc, append-nil, length-append}
use Rattle.frame.specs.declared.rate.CodeRate.{CodeRate}
use Rattle.frame.specs.declared.rate.CodeRate.TheVariants as C
use Rattle.frame.specs.Bits.{bit_of}
use Rattle.coding.specs.Puncturing.{pattern, sent_of, kept, punctured_from, sent_count, Period}

-- one pair more
pub count_none : (c : CodeRate) → sent_count c 0 ≡ 0
unfolding sent_count
count_none c = refl

pub count_more : (c : CodeRate) (i : ℕ) → sent_count c (i + 1) ≡ sent_count c i + (bit_of (sent_of c i).0 + bit_of (sent_of c i).1)
unfolding sent_count
count_more c i = ap (sent_count c) (let p : i + 1 ≡ suc i = omega arith in p)

pub count_up : (c : CodeRate) (i k : ℕ) → sent_count c i ≤ sent_count c (i + k)
count_up c i zero = let p : i ≡ i + 0 = omega arith in omega (arith, ap (sent_count c) p)
count_up c i (suc k) = let p : i + k + 1 ≡ i + suc k = omega arith in omega (arith, count_up c i k, count_more c (i + k), ap (sent_count c) p)

-- what is sent of the next pair still fits
pub room : (c : CodeRate) (i n len : ℕ) (w : Bool × Bool) → i < n → len ≡ sent_count c n → w ≡ sent_of c i → sent_count c i + (bit_of w.0 + bit_of w.1) ≤ len
room c i n len w h e k =
    let p : i + 1 + (n - (i + 1)) ≡ n = omega arith in
    let f : sent_count c (i + 1) ≡ sent_count c i + (bit_of w.0 + bit_of w.1) = rw k (count_more c i) in
    omega (arith, count_up c (i + 1) (n - (i + 1)), ap (sent_count c) p)

-- a pair, or a row of pairs, after others
kept_length : {X : Type 0} (w : Bool × Bool) (x : X × X) → length (kept w x) ≡ bit_of w.0 + bit_of w.1
kept_length w x = length-append (cond w.0 (x.0 ∷ []) []) (cond w.1 (x.1 ∷ []) []) ∙ ap₂ (λ (a : ℕ) (b : ℕ). a + b) (one w.0 x.0) (one w.1 x.1)
  where
    one : {X : Type 0} (s : Bool) (v : X) → length (cond s (v ∷ []) []) ≡ bit_of s
    one true v = refl
    one false v = refl

module _ {X : Type 0} (send : ℕ → Bool × Bool) where
  pub punctured_append : (j : ℕ) (xs ys : List (X × X)) → punctured_from send j (xs ++ ys) ≡ punctured_from send j xs ++ punctured_from send (j + length xs) ys
  punctured_append j [] ys =
      let p : j ≡ j + 0 = omega arith in ap (λ (z : ℕ). punctured_from send z ys) p
  punctured_append j (x ∷ xs) ys =
      let p : j + 1 + length xs ≡ j + suc (length xs) = omega arith in
      ap (λ (t : List X). kept (send j) x ++ t) (punctured_append (j + 1) xs ys ∙ ap (λ (z : ℕ). punctured_from send (j + 1) xs ++ punctured_from send z ys) p)
      ∙ sym (append_assoc (kept (send j) x) (punctured_from send (j + 1) xs) (punctured_from send (j + suc (length xs)) ys))

  pub punctured_push : (m : ℕ) (xs : List (X × X)) (x : X × X) → length xs ≡ m →
      punctured_from send 0 (xs ++ x ∷ []) ≡ punctured_from send 0 xs ++ kept (send m) x
  punctured_push m xs x e =
      let p : 0 + length xs ≡ m = omega arith in
      punctured_append 0 xs (x ∷ [])
      ∙ ap (λ (t : List X). punctured_from send 0 xs ++ t) (append-nil (kept (send (0 + length xs)) x) ∙ ap (λ (z : ℕ). kept (send z) x) p)

  -- from pair m on as from the first, where the pattern is the same from there
  pub punctured_again : (m : ℕ) → ((i : ℕ) → send (m + i) ≡ send i) → (j : ℕ) (xs : List (X × X)) → punctured_from send (m + j) xs ≡ punctured_from send j xs
  punctured_again m h j [] = refl
  punctured_again m h j (x ∷ xs) =
      ap₂ (λ (w : Bool × Bool) (t : List X). kept w x ++ t) (h j) (ap (λ (z : ℕ). punctured_from send z xs) (add_assoc m j 1) ∙ punctured_again m h (j + 1) xs)

pub length_punctured : {X : Type 0} (c : CodeRate) (j : ℕ) (xs : List (X × X)) → length (punctured_from (sent_of c) j xs) + sent_count c j ≡ sent_count c (j + length xs)
length_punctured c j [] = let p : j ≡ j + 0 = omega arith in omega (arith, ap (sent_count c) p)
length_punctured c j (x ∷ xs) =
    let p : j + 1 + length xs ≡ j + suc (length xs) = omega arith in
    omega (arith, length-append (kept (sent_of c j) x) (punctured_from (sent_of c) (j + 1) xs), kept_length (sent_of c j) x, length_punctured c (j + 1) xs, count_more c j, ap (sent_count c) p)

pub length_sent : {X : Type 0} (c : CodeRate) (n : ℕ) (xs : List (X × X)) → length xs ≡ n → length (punctured_from (sent_of c) 0 xs) ≡ sent_count c n
length_sent c n xs e = let p : 0 + length xs ≡ n = omega arith in omega (arith, length_punctured c 0 xs, count_none c, ap (sent_count c) p)

-- a stretch of pairs after which the pattern begins again
module _ (c : CodeRate) (m : ℕ) (again : (i : ℕ) → sent_of c (m + i) ≡ sent_of c i) where
  pub count_again : (i : ℕ) → sent_count c (m + i) ≡ sent_count c m + sent_count c i
  count_again zero = let p : m + 0 ≡ m = omega arith in omega (arith, ap (sent_count c) p, count_none c)
  count_again (suc i) =
      let p : m + i + 1 ≡ m + suc i = omega arith in
      let q : i + 1 ≡ suc i = omega arith in
      let w : bit_of (sent_of c (m + i)).0 + bit_of (sent_of c (m + i)).1 ≡ bit_of (sent_of c i).0 + bit_of (sent_of c i).1 = ap (λ (x : Bool × Bool). bit_of x.0 + bit_of x.1) (again i) in
      omega (arith, count_again i, count_more c (m + i), count_more c i, ap (sent_count c) p, ap (sent_count c) q)

-- whole periods
pub sent_again : (c : CodeRate) (d : ℕ) → d % length (pattern c) ≡ 0 → (k i : ℕ) → sent_of c (k * d + i) ≡ sent_of c i
unfolding sent_of
sent_again c d whole k i =
    let p = length (pattern c) in
    let q : d ≡ p * (d / p) = omega (arith, div-add-mod d p) in
    let e : k * d + i ≡ p * (k * (d / p)) + i = ap (λ (z : ℕ). z + i) (ap (λ (z : ℕ). k * z) q ∙ mul_left_comm k p (d / p)) in
    ap (λ (z : ℕ). get_or (pattern c) z (true, true)) (ap (λ (z : ℕ). z % p) e ∙ mul-add-mod_self_left p (k * (d / p)) i)

pub count_periods : (c : CodeRate) (d : ℕ) → d % length (pattern c) ≡ 0 → (k : ℕ) → sent_count c (k * d) ≡ k * sent_count c d
count_periods c d whole zero = ap (sent_count c) (zero-mul d) ∙ count_none c ∙ sym (zero-mul (sent_count c d))
count_periods c d whole (suc k) =
    let p : suc k * d ≡ k * d + d = suc-mul k d in
    ap (sent_count c) p ∙ count_again c (k * d) (sent_again c d whole k) d
    ∙ ap (λ (z : ℕ). z + sent_count c d) (count_periods c d whole k) ∙ sym (suc-mul k (sent_count c d))

-- the patterns as the code writes them
pub marks_half : (t : ℕ) → t < 1 → ◌≡◌ {A = Bool × Bool} (true, true) (sent_of C.Half t)
unfolding sent_of
marks_half zero h = refl
marks_half (suc t) h = absurd (omega arith)

pub marks_two_thirds : (t : ℕ) → t < 2 → ◌≡◌ {A = Bool × Bool} (true, not (eqb t 1)) (sent_of C.TwoThirds t)
unfolding sent_of
marks_two_thirds zero h = refl
marks_two_thirds (suc zero) h = refl
marks_two_thirds (suc (suc t)) h = absurd (omega arith)

pub marks_three_quarters : (t : ℕ) → t < 3 → ◌≡◌ {A = Bool × Bool} (not (eqb t 2), not (eqb t 1)) (sent_of C.ThreeQuarters t)
unfolding sent_of
marks_three_quarters zero h = refl
marks_three_quarters (suc zero) h = refl
marks_three_quarters (suc (suc zero)) h = refl
marks_three_quarters (suc (suc (suc t))) h = absurd (omega arith)

-- ---- periods

pub whole_period : (c : CodeRate) (pairs sent : ℕ) → Period c pairs sent → pairs % length (pattern c) ≡ 0
whole_period c pairs sent p = ap (λ (z : ℕ). z % length (pattern c)) p.long ∙ mod_self (length (pattern c))

pub count_to_period : (c : CodeRate) (pairs sent : ℕ) → Period c pairs sent → (k : ℕ) → sent_count c (k * pairs) ≡ k * sent
count_to_period c pairs sent p k = count_periods c pairs (whole_period c pairs sent p) k ∙ ap (λ (z : ℕ). k * z) (sym p.many)

-- the same of the two numbers as the code read them
pub period_read : (c : CodeRate) (pairs sent pairs' sent' : ℕ) → Period c pairs sent → pairs' ≡ pairs → sent' ≡ sent → Period c pairs' sent'
period_read c pairs sent pairs' sent' p e f = record { long = e ∙ p.long; many = f ∙ p.many ∙ ap (sent_count c) (sym e) }

-- period k of n pairs lies within them, and what is sent of it within what is sent of them
pub record Within (c : CodeRate) (pairs sent n k : ℕ) : Type 0 where
  pub some_pairs : 0 < pairs
  pub pairs_fit : k * pairs + pairs ≤ n
  pub sent_fit : k * sent + sent ≤ sent_count c n

some_pairs : (c : CodeRate) → 0 < length (pattern c)
some_pairs C.Half = omega arith
some_pairs C.TwoThirds = omega arith
some_pairs C.ThreeQuarters = omega arith

pub period_within : (c : CodeRate) (pairs sent n k : ℕ) → Period c pairs sent → k < n / pairs → Within c pairs sent n k
period_within c pairs sent n k p h =
    let fits : suc k * pairs ≤ n / pairs * pairs = mul-le-mul_right {m = suc k} {n = n / pairs} pairs h in
    let e : suc k * pairs + (n - suc k * pairs) ≡ n = omega (arith, fits, div-add-mod n pairs, mul_comm pairs (n / pairs)) in
    record {
      some_pairs = omega (arith, some_pairs c, p.long);
      pairs_fit = omega (arith, fits, suc-mul k pairs, div-add-mod n pairs, mul_comm pairs (n / pairs));
      sent_fit = omega (arith, count_up c (suc k * pairs) (n - suc k * pairs), ap (sent_count c) e, count_to_period c pairs sent p (suc k), suc-mul k sent);
    }

-- the same by what the code read and is given: the pairs' number, and that of what is sent of them
pub periods_fit : (c : CodeRate) (pairs sent pairs' sent' n all k : ℕ) → Period c pairs sent → pairs' ≡ pairs → sent' ≡ sent → all ≡ sent_count c n → k < n / pairs' →
    (0 < pairs') × (k * pairs' + pairs' ≤ n) × (k * sent' + sent' ≤ all)
periods_fit c pairs sent pairs' sent' n all k p e f a h =
    let w = period_within c pairs' sent' n k (period_read c pairs sent pairs' sent' p e f) h in
    (w.some_pairs, w.pairs_fit, omega (arith, w.sent_fit, a))
