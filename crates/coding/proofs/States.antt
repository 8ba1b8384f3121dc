-- The coder's state and outputs, one bit at a time and over a row of bits.
use Rattle.std.proofs.Common.{◌≡◌, ℕ, suc, ◌+◌, ◌*◌, ◌/◌, ◌%◌, ◌<◌, Bool, true, false, eqb, List, [], ◌∷◌, ◌++◌, length, refl, ap, arith}
use lib.Bits.{bit_and}
use lib.Count.{ones}
use mir.Val.{bool_byte}
use Rattle.frame.specs.Bits.{bit_of}
use Rattle.coding.specs.Coder.{next_state, tapped, outputs, coded_from, state_from}

-- a bit as the program makes a number of it
byte_is : (b : Bool) → bool_byte b ≡ bit_of b
byte_is true = refl
byte_is false = refl

pub next_state_is : (s : ℕ) (b : Bool) → s / 2 + 32 * bool_byte b ≡ next_state s b
unfolding next_state
next_state_is s b = ap (λ (x : ℕ). s / 2 + 32 * x) (byte_is b)

pub outputs_are : (s : ℕ) (b : Bool) →
    ◌≡◌ {A = Bool × Bool} (eqb (ones (bit_and (64 * bool_byte b + s) 91) % 2) 1, eqb (ones (bit_and (64 * bool_byte b + s) 121) % 2) 1) (outputs s b)
unfolding outputs tapped
outputs_are s b = ap (λ (x : ℕ). (tapped 91 (64 * x + s), tapped 121 (64 * x + s))) (byte_is b)

pub next_below : (s : ℕ) (b : Bool) → s < 64 → next_state s b < 64
unfolding next_state
next_below s true h = omega arith
next_below s false h = omega arith

-- a row of bits after another
pub coded_append : (s : ℕ) (xs ys : List Bool) → coded_from s (xs ++ ys) ≡ coded_from s xs ++ coded_from (state_from s xs) ys
coded_append s [] ys = refl
coded_append s (x ∷ xs) ys = ap (λ t. outputs s x ∷ t) (coded_append (next_state s x) xs ys)

pub state_append : (s : ℕ) (xs ys : List Bool) → state_from s (xs ++ ys) ≡ state_from (state_from s xs) ys
state_append s [] ys = refl
state_append s (x ∷ xs) ys = state_append (next_state s x) xs ys

pub length_coded : (s : ℕ) (xs : List Bool) → length (coded_from s xs) ≡ length xs
length_coded s [] = refl
length_coded s (x ∷ xs) = ap suc (length_coded (next_state s x) xs)
