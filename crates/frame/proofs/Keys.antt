-- Four key bits at once: tested over every register.
use Rattle.std.proofs.Common.{◌≡◌, ℕ, zero, suc, ◌+◌, ◌-◌, ◌*◌, ◌/◌, ◌%◌, ◌<◌, Bool, true, false, ◌&&◌, eqb, sym, refl, ap, ◌∙◌, arith}
use mathlib.Core.Bool.{beq}
use lib.Bits.{bit_xor}
use Rattle.std.proofs.lemmas.Bool.{and_parts, eqb-true}
use Rattle.frame.specs.Bits.{bit_at}
use Rattle.frame.specs.Scrambler.{key_bit, moved_up, register_after, key}
use Rattle.frame.proofs.Tables.{every_below, at_below}

abbrev four : ℕ → ℕ
four x = bit_xor x (x / 8) % 16

abbrev same_key : ℕ → ℕ → Bool
same_key x t = beq (bit_at (four x) (3 - t)) (key x t)

abbrev all_four : ℕ → Bool
all_four x = same_key x 0 && (same_key x 1 && (same_key x 2 && same_key x 3))

every_four : every_below all_four 256 ≡ true
unfolding key_bit moved_up register_after
every_four = refl

beq_true : (x y : Bool) → beq x y ≡ true → x ≡ y
beq_true true true e = refl
beq_true true false e = sym e
beq_true false true e = e
beq_true false false e = refl

pub four_keys : (x : ℕ) → x < 256 → (t : ℕ) → t < 4 → bit_at (four x) (3 - t) ≡ key x t
four_keys x h t l =
    let a = and_parts (same_key x 0) _ (at_below all_four 256 every_four x h) in
    let b = and_parts (same_key x 1) _ a.1 in
    let c = and_parts (same_key x 2) (same_key x 3) b.1 in
    at t l a.0 b.0 c.0 c.1
  where
    at : (t : ℕ) → t < 4 → same_key x 0 ≡ true → same_key x 1 ≡ true → same_key x 2 ≡ true → same_key x 3 ≡ true → bit_at (four x) (3 - t) ≡ key x t
    at zero l e f g h = beq_true _ _ e
    at (suc zero) l e f g h = beq_true _ _ f
    at (suc (suc zero)) l e f g h = beq_true _ _ g
    at (suc (suc (suc zero))) l e f g h = beq_true _ _ h
    at (suc (suc (suc (suc t)))) l e f g h = absurd (omega arith)

abbrev moved_four : ℕ → Bool
moved_four x = eqb (x % 8 * 16 + four x) (register_after x 4)

every_moved : every_below moved_four 256 ≡ true
unfolding key_bit moved_up register_after
every_moved = refl

pub four_moved : (x : ℕ) → x < 256 → x % 8 * 16 + four x ≡ register_after x 4
four_moved x h = eqb-true _ _ (at_below moved_four 256 every_moved x h)

-- a register on its way is a seed
pub register_on : (seed n t : ℕ) → register_after (register_after seed n) t ≡ register_after seed (n + t)
unfolding register_after
register_on seed n zero = ap (register_after seed) (let z : n ≡ n + 0 = omega arith in z)
register_on seed n (suc t) = ap moved_up (register_on seed n t) ∙ ap (register_after seed) (let z : suc (n + t) ≡ n + suc t = omega arith in z)
