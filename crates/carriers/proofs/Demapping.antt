-- The values of a coordinate as the code writes them, how large they are, and the carriers one after the other.
use Rattle.std.proofs.Common.{◌≡◌, ℕ, zero, suc, ◌+◌, ◌-◌, ◌*◌, ◌<◌, ◌≤◌, Bool, true, false, cond, ltb, List, [], ◌∷◌, ◌++◌, length, get_or, take, set, ℤ, pos, negsuc, ◌-ℤ◌, nat_abs, sym, refl, ap, ◌∙◌, mul-le-mul_right, suc-mul, mul_comm, mul-suc, arith}
use borrow.Rule.Slice.PartMut.{put_mid}
use Rattle.std.proofs.lemmas.List.{append_assoc, append-nil, length-append, take_more, take_all}
use Rattle.std.proofs.lemmas.Simd.{length-replicate}
use Rattle.std.proofs.lemmas.Slice.{take-put_mid}
use Rattle.frame.specs.declared.rate.Modulation.{Modulation}
use Rattle.frame.specs.declared.rate.Modulation.TheVariants as M
use Rattle.frame.specs.Rate.{n_bpsc}
use Rattle.carriers.specs.declared.carrier.Carrier.{Carrier}
use Rattle.carriers.specs.declared.carrier.Carrier.TheVariants.{Heard, Struck}
use Rattle.carriers.specs.declared.soft.SoftBit.{SoftBit}
use Rattle.carriers.specs.declared.soft.SoftBit.TheVariants.{Absent}
use Rattle.carriers.specs.Demapper.{size, soft_bits, demapped}

-- ---- a part written whole

pub wrote_one : {X : Type 0} (xs : List X) (a : X) → length xs ≡ 1 → set xs 0 a ≡ a ∷ []
wrote_one [] a e = absurd (omega arith)
wrote_one (x ∷ []) a e = refl
wrote_one (x ∷ y ∷ xs) a e = absurd (omega arith)

pub wrote_two : {X : Type 0} (xs : List X) (a b : X) → length xs ≡ 2 → set (set xs 0 a) 1 b ≡ a ∷ b ∷ []
wrote_two [] a b e = absurd (omega arith)
wrote_two (x ∷ []) a b e = absurd (omega arith)
wrote_two (x ∷ y ∷ []) a b e = refl
wrote_two (x ∷ y ∷ z ∷ xs) a b e = absurd (omega arith)

pub wrote_three : {X : Type 0} (xs : List X) (a b c : X) → length xs ≡ 3 → set (set (set xs 0 a) 1 b) 2 c ≡ a ∷ b ∷ c ∷ []
wrote_three [] a b c e = absurd (omega arith)
wrote_three (x ∷ []) a b c e = absurd (omega arith)
wrote_three (x ∷ y ∷ []) a b c e = absurd (omega arith)
wrote_three (x ∷ y ∷ z ∷ []) a b c e = refl
wrote_three (x ∷ y ∷ z ∷ w ∷ xs) a b c e = absurd (omega arith)

-- ---- n less a size

difference_bound : (n k : ℕ) → n ≤ 128 → k ≤ 128 → nat_abs (pos n -ℤ pos k) ≤ 128
difference_bound n zero g h = omega arith
difference_bound n (suc k) g h = by (ltb n (suc k))
  where
    by : (b : Bool) → nat_abs (cond b (negsuc (suc k - suc n)) (pos (n - suc k))) ≤ 128
    by true = omega arith
    by false = omega arith

pub less_bound : (n : ℕ) (r : ℤ) → n ≤ 128 → nat_abs r ≤ 128 → nat_abs (pos n -ℤ size r) ≤ 128
less_bound n r g h = difference_bound n (nat_abs r) g h

-- ---- one carrier more

pub length_soft : (m : Modulation) (c : Carrier) → length (soft_bits m c) ≡ n_bpsc m
length_soft M.Bpsk (Heard p) = refl
length_soft M.Qpsk (Heard p) = refl
length_soft M.Qam16 (Heard p) = refl
length_soft M.Qam64 (Heard p) = refl
length_soft m Struck = length-replicate (n_bpsc m) Absent

pub length_demapped : (m : Modulation) (cs : List Carrier) → length (demapped m cs) ≡ length cs * n_bpsc m
length_demapped m [] = omega arith
length_demapped m (c ∷ cs) =
    omega (arith, length-append (soft_bits m c) (demapped m cs), length_soft m c, length_demapped m cs, suc-mul (length cs) (n_bpsc m))

demapped_append : (m : Modulation) (xs ys : List Carrier) → demapped m (xs ++ ys) ≡ demapped m xs ++ demapped m ys
demapped_append m [] ys = refl
demapped_append m (x ∷ xs) ys = ap (λ (z : List SoftBit). soft_bits m x ++ z) (demapped_append m xs ys) ∙ sym (append_assoc (soft_bits m x) (demapped m xs) (demapped m ys))

module _ (m : Modulation) (cs : List Carrier) (b : ℕ) (is : b ≡ n_bpsc m) where
  pub demapped_more : (n k : ℕ) (out part : List SoftBit) (d : Carrier) → n < length cs → length out ≡ length cs * n_bpsc m →
      take (b * n) out ≡ demapped m (take n cs) → part ≡ soft_bits m (get_or cs n d) → take (b * (n + 1)) (put_mid (b * n) k out part) ≡ demapped m (take (n + 1) cs)
  demapped_more n k out part d h long done e =
      let c = get_or cs n d in
      let next : b * (n + 1) ≡ b * n + length part =
      let z : suc n ≡ n + 1 = omega arith in omega (arith, ap length e, length_soft m c, is, mul-suc b n, ap (λ (x : ℕ). b * x) z) in
      let fits : b * n ≤ length out =
      let more : n * n_bpsc m ≤ length cs * n_bpsc m = mul-le-mul_right {m = n} {n = length cs} (n_bpsc m) (omega arith) in
      omega (arith, more, ap (λ (x : ℕ). x * n) is, mul_comm (n_bpsc m) n) in
      take-put_mid (b * n) k out part (b * (n + 1)) next fits
      ∙ ap (λ (z : List SoftBit). z ++ part) done ∙ ap (λ (z : List SoftBit). demapped m (take n cs) ++ z) (e ∙ sym (append-nil (soft_bits m c)))
      ∙ sym (demapped_append m (take n cs) (c ∷ [])) ∙ ap (demapped m) (sym (take_more cs n d h))

  pub demapped_all : (n : ℕ) (out : List SoftBit) → n ≡ length cs → length out ≡ length cs * n_bpsc m → take (b * n) out ≡ demapped m (take n cs) → out ≡ demapped m cs
  demapped_all n out e long done =
      let all : b * n ≡ length cs * n_bpsc m = ap (λ (z : ℕ). z * n) is ∙ mul_comm (n_bpsc m) n ∙ ap (λ (z : ℕ). z * n_bpsc m) e in
      sym (take_all (b * n) out (omega arith)) ∙ done ∙ ap (demapped m) (take_all n cs (omega arith))
