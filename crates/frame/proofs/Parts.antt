-- A list in which a part was written anew: what stands before the part, and in it.
use Rattle.std.proofs.Common.{◌≡◌, ℕ, ◌+◌, ◌-◌, ◌<◌, ◌≤◌, List, ◌++◌, length, get_or, take, drop, sym, ap, ◌∙◌, arith, length-drop}
use Rattle.std.proofs.lemmas.List.{get_or_append_left, get_or-append-add, get_or-take, length-take-le}
use borrow.Rule.Slice.PartMut.{mid_of, put_mid, post_of}

-- the part from a to a + k is k long
pub length_part : {X : Type 0} (a k : ℕ) (xs : List X) → a + k ≤ length xs → length (mid_of a (a + k - a) xs) ≡ k
length_part a k xs fits =
    let all : a + k - a ≤ length (drop a xs) = omega (arith, length-drop a xs) in
    length-take-le (a + k - a) (drop a xs) all ∙ (let z : a + k - a ≡ k = omega arith in z)

module _ {X : Type 0} (a k : ℕ) (xs ys : List X) (fits : a ≤ length xs) where
  pub part_before : (i : ℕ) (d : X) → i < a → get_or (put_mid a k xs ys) i d ≡ get_or xs i d
  part_before i d h =
      get_or_append_left (take a xs) (ys ++ post_of a k xs) d i (omega (arith, length-take-le a xs fits)) ∙ get_or-take a xs i d h

  pub part_within : (i : ℕ) (d : X) → i < length ys → get_or (put_mid a k xs ys) (a + i) d ≡ get_or ys i d
  part_within i d h =
      ap (λ (n : ℕ). get_or (put_mid a k xs ys) (n + i) d) (sym (length-take-le a xs fits))
      ∙ get_or-append-add (take a xs) (ys ++ post_of a k xs) i d ∙ get_or_append_left ys (post_of a k xs) d i h
