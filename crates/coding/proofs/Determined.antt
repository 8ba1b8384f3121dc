-- Coded bits determine the bits: at every step the puncturing sends A or B, and both tap the newest bit.
use Rattle.std.proofs.Common.{◌≡◌, ℕ, zero, suc, ◌+◌, ◌%◌, ◌<◌, Bool, true, false, not, ◌&&◌, ◌⊎◌, List, [], ◌∷◌, ◌++◌, length, get_or, sym, refl, subst, ap₂, inl, inr, arith}
use mathlib.Core.Bool.{beq}
use lib.Count.{ones, ones_in}
use Rattle.std.proofs.lemmas.Bool.{and_parts, true≢false}
use Rattle.frame.specs.declared.rate.CodeRate.{CodeRate}
use Rattle.frame.specs.declared.rate.CodeRate.TheVariants as C
use Rattle.frame.proofs.Tables.{every_below, at_below}
use Rattle.coding.specs.Coder.{next_state, tapped, outputs, coded_from}
use Rattle.coding.specs.Puncturing.{pattern, sent_of, kept, punctured_from}
use Rattle.coding.proofs.States.{next_below}

-- in every state the two bits give another A and another B
abbrev apart : ℕ → Bool
apart s = not (beq (outputs s true).0 (outputs s false).0) && not (beq (outputs s true).1 (outputs s false).1)

all_apart : every_below apart 64 ≡ true
unfolding outputs tapped ones ones_in
all_apart = refl

unequal : (x y : Bool) → not (beq x y) ≡ true → x ≡ y → ⊥
unequal true true e same = true≢false (sym e)
unequal true false e same = true≢false same
unequal false true e same = true≢false (sym same)
unequal false false e same = true≢false (sym e)

never : (s : ℕ) → s < 64 → ((outputs s true).0 ≡ (outputs s false).0) ⊎ ((outputs s true).1 ≡ (outputs s false).1) → ⊥
never s h e =
    let parts = and_parts _ _ (at_below apart 64 all_apart s h) in
    elim e [ inl a ↦ unequal _ _ parts.0 a | inr b ↦ unequal _ _ parts.1 b ]

-- so A or B tells the bit
pub one_bit : (s : ℕ) (x y : Bool) → s < 64 → ((outputs s x).0 ≡ (outputs s y).0) ⊎ ((outputs s x).1 ≡ (outputs s y).1) → x ≡ y
one_bit s true true h e = refl
one_bit s true false h e = absurd (never s h e)
one_bit s false true h e = absurd (never s h (elim e [ inl a ↦ inl (sym a) | inr b ↦ inr (sym b) ]))
one_bit s false false h e = refl

-- a pattern that sends A or B at each step
abbrev pub SendsSome : (ℕ → Bool × Bool) → Type 0
SendsSome send = (i : ℕ) → ((send i).0 ≡ true) ⊎ ((send i).1 ≡ true)

some_of : (c : CodeRate) (i : ℕ) → i < length (pattern c) → ((get_or (pattern c) i (true, true)).0 ≡ true) ⊎ ((get_or (pattern c) i (true, true)).1 ≡ true)
some_of C.Half zero h = inl refl
some_of C.Half (suc i) h = absurd (omega arith)
some_of C.TwoThirds zero h = inl refl
some_of C.TwoThirds (suc zero) h = inl refl
some_of C.TwoThirds (suc (suc i)) h = absurd (omega arith)
some_of C.ThreeQuarters zero h = inl refl
some_of C.ThreeQuarters (suc zero) h = inl refl
some_of C.ThreeQuarters (suc (suc zero)) h = inr refl
some_of C.ThreeQuarters (suc (suc (suc i))) h = absurd (omega arith)

pub sent_some : (c : CodeRate) → SendsSome (sent_of c)
unfolding sent_of
sent_some C.Half i = some_of C.Half (i % 1) (omega arith)
sent_some C.TwoThirds i = some_of C.TwoThirds (i % 2) (omega arith)
sent_some C.ThreeQuarters i = some_of C.ThreeQuarters (i % 3) (omega arith)

-- what is sent first of two pairs is the same
first_kept : (a b : Bool) (x y : Bool × Bool) (r t : List Bool) → (a ≡ true) ⊎ (b ≡ true) → kept (a, b) x ++ r ≡ kept (a, b) y ++ t → (x.0 ≡ y.0) ⊎ (x.1 ≡ y.1)
first_kept true b x y r t some e = inl cc
first_kept false true x y r t some e = inr cc
first_kept false false x y r t some e = absurd (elim some [ inl h ↦ true≢false (sym h) | inr h ↦ true≢false (sym h) ])

rest_kept : (a b : Bool) (x : Bool × Bool) (r t : List Bool) → kept (a, b) x ++ r ≡ kept (a, b) x ++ t → r ≡ t
rest_kept true true x r t e = cc
rest_kept true false x r t e = cc
rest_kept false true x r t e = cc
rest_kept false false x r t e = e

module _ (send : ℕ → Bool × Bool) (some : SendsSome send) where
  pub punctured_determines : (s j : ℕ) (xs ys : List Bool) → s < 64 → length xs ≡ length ys →
      punctured_from send j (coded_from s xs) ≡ punctured_from send j (coded_from s ys) → xs ≡ ys
  punctured_determines s j [] [] h long e = refl
  punctured_determines s j [] (y ∷ ys) h long e = absurd (let z : ◌≡◌ {A = ℕ} 0 1 = cc in omega arith)
  punctured_determines s j (x ∷ xs) [] h long e = absurd (let z : ◌≡◌ {A = ℕ} 0 1 = cc in omega arith)
  punctured_determines s j (x ∷ xs) (y ∷ ys) h long e =
      let a = (send j).0 in
      let b = (send j).1 in
      let X = punctured_from send (j + 1) (coded_from (next_state s x) xs) in
      let Y : Bool → List Bool = λ v. punctured_from send (j + 1) (coded_from (next_state s v) ys) in
      let same : x ≡ y = one_bit s x y h (first_kept a b (outputs s x) (outputs s y) X (Y y) (some j) e) in
      let again : kept (a, b) (outputs s x) ++ X ≡ kept (a, b) (outputs s x) ++ Y x =
      subst (λ (v : Bool). kept (a, b) (outputs s x) ++ X ≡ kept (a, b) (outputs s v) ++ Y v) (sym same) e in
      ap₂ ◌∷◌ same (punctured_determines (next_state s x) (j + 1) xs ys (next_below s x h) (cc) (rest_kept a b (outputs s x) X (Y x) again))
