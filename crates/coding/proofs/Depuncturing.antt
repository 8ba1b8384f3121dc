-- From what was sent of a row of pairs back to the pairs.
use Rattle.std.proofs.Common.{◌≡◌, ℕ, ◌+◌, ◌-◌, ◌*◌, ◌<◌, ◌≤◌, Bool, true, false, cond, List, ◌∷◌, ◌++◌, map, length, get_or, take, drop, set, sym, refl, ap, ◌∙◌, subst, ap₂, inl, inr, add-one, add-mul, arith, drop-cons, get_or-set_other, get_or-set_same}
use Rattle.std.specs.List.{range_with_len}
use Rattle.std.proofs.lemmas.List.FromFn.{fill_by_all, get_or-map-range_with_len, length-map-range_with_len}
use Rattle.std.proofs.lemmas.List.{take-append-drop, get_or-append-add, get_or-take, get_or-drop, length-take-le}
use Rattle.std.proofs.lemmas.Bool.{cases_eq, cases_lt}
use Rattle.frame.specs.declared.rate.CodeRate.{CodeRate}
use Rattle.frame.specs.Bits.{bit_of}
use Rattle.frame.proofs.Bits.{bit_true}
use Rattle.frame.proofs.Parts.{part_before, part_within}
use borrow.Rule.Slice.PartMut.{mid_of, put_mid}
use Rattle.coding.specs.Puncturing.{sent_of, sent_count, Period, kept, punctured, punctured_from}
use Rattle.coding.specs.Depuncturing.{restored, depunctured, with_holes, DepuncturingUndoes, Restored}
use Rattle.coding.proofs.Punctured.{count_again, punctured_append, length_sent, count_to_period, room, sent_again, whole_period}

-- ---- where the bits of a pair stand among those that are sent

kept_a : {X : Type 0} (w : Bool × Bool) (p : X × X) (rest : List X) (d : X) → w.0 ≡ true → get_or (kept w p ++ rest) 0 d ≡ p.0
kept_a w p rest d e = ap (λ (b : Bool). get_or (kept (b, w.1) p ++ rest) 0 d) e

kept_b : {X : Type 0} (w : Bool × Bool) (p : X × X) (rest : List X) (d : X) → w.1 ≡ true → get_or (kept w p ++ rest) (bit_of w.0) d ≡ p.1
kept_b w p rest d e = ap (λ (b : Bool). get_or (kept (w.0, b) p ++ rest) (bit_of w.0) d) e ∙ by w.0
  where
    by : (a : Bool) → get_or (kept (a, true) p ++ rest) (bit_of a) d ≡ p.1
    by true = refl
    by false = refl

module _ {X : Type 0} (c : CodeRate) (pairs : List (X × X)) (i : ℕ) (d : X) (h : i < length pairs) where
  before : List (X × X)
  before = take i pairs

  after : List (X × X)
  after = drop (i + 1) pairs

  here : X × X
  here = get_or pairs i (d, d)

  split : punctured c pairs ≡ punctured c before ++ (kept (sent_of c i) here ++ punctured_from (sent_of c) (i + 1) after)
  unfolding before after here
  split =
      let long : 0 + length (take i pairs) ≡ i = omega (arith, length-take-le i pairs (omega arith)) in
      let apart : pairs ≡ take i pairs ++ (get_or pairs i (d, d) ∷ drop (i + 1) pairs) =
      sym (take-append-drop i pairs) ∙ ap (λ (z : List (X × X)). take i pairs ++ z) (rw (add-one, drop-cons pairs i (d, d) h)) in
      ap (punctured c) apart ∙ punctured_append (sent_of c) 0 (take i pairs) (get_or pairs i (d, d) ∷ drop (i + 1) pairs)
      ∙ ap (λ (z : ℕ). punctured c (take i pairs) ++ (kept (sent_of c z) (get_or pairs i (d, d)) ++ punctured_from (sent_of c) (z + 1) (drop (i + 1) pairs))) long

  -- at `more` places past those of the pairs before
  past : (more : ℕ) → get_or (punctured c pairs) (sent_count c i + more) d ≡ get_or (kept (sent_of c i) here ++ punctured_from (sent_of c) (i + 1) after) more d
  unfolding before
  past more =
      let first : length (punctured c (take i pairs)) ≡ sent_count c i = length_sent c i (take i pairs) (length-take-le i pairs (omega arith)) in
      ap (λ (z : List X). get_or z (sent_count c i + more) d) split
      ∙ ap (λ (z : ℕ). get_or (punctured c (take i pairs) ++ (kept (sent_of c i) here ++ punctured_from (sent_of c) (i + 1) after)) (z + more) d) (sym first)
      ∙ get_or-append-add (punctured c (take i pairs)) (kept (sent_of c i) here ++ punctured_from (sent_of c) (i + 1) after) more d

  pub a_sent : (sent_of c i).0 ≡ true → get_or (punctured c pairs) (sent_count c i) d ≡ (get_or pairs i (d, d)).0
  unfolding here
  a_sent e =
      ap (λ (z : ℕ). get_or (punctured c pairs) z d) (let p : sent_count c i ≡ sent_count c i + 0 = omega arith in p) ∙ past 0
      ∙ kept_a (sent_of c i) here (punctured_from (sent_of c) (i + 1) after) d e

  pub b_sent : (sent_of c i).1 ≡ true → get_or (punctured c pairs) (sent_count c i + bit_of (sent_of c i).0) d ≡ (get_or pairs i (d, d)).1
  unfolding here
  b_sent e = past (bit_of (sent_of c i).0) ∙ kept_b (sent_of c i) here (punctured_from (sent_of c) (i + 1) after) d e

-- ---- the law

cond_when : {X : Type 0} (b : Bool) (x y z : X) → (b ≡ true → x ≡ y) → cond b x z ≡ cond b y z
cond_when true x y z e = e refl
cond_when false x y z e = refl

pub depuncturing_undoes : {X : Type 0} → DepuncturingUndoes X
depuncturing_undoes {X} c hole pairs =
    let n = length pairs in
    let F = restored hole c (punctured c pairs) in
    let all = map F (range_with_len 0 n) in
    fill_by_all (with_holes hole c pairs) all n (hole, hole) (length-map-range_with_len F 0 n) (λ i h.
    get_or-map-range_with_len F 0 n i i (hole, hole) h (omega arith)
    ∙ ap₂ (λ (x : X) (y : X). (x, y)) (cond_when (sent_of c i).0 _ _ hole (a_sent c pairs i hole h)) (cond_when (sent_of c i).1 _ _ hole (b_sent c pairs i hole h)))

-- ---- one pair more, and all of them

module _ {X : Type 0} (hole : X) (c : CodeRate) (sent : List X) where
  pub restored_more : (out : List (X × X)) (i at mid : ℕ) (a b : X) (send : Bool × Bool) → i < length out → send ≡ sent_of c i → at ≡ sent_count c i → mid ≡ at + bit_of send.0 →
      a ≡ cond send.0 (get_or sent at hole) hole → b ≡ cond send.1 (get_or sent mid hole) hole → Restored hole c sent out i → Restored hole c sent (set out i (a, b)) (i + 1)
  restored_more out i at mid a b send l k e m p q f j d h =
      let here : ◌≡◌ {A = X × X} (a, b) (restored hole c sent i) =
      ap₂ (λ (x : X) (y : X). (x, y))
      (p ∙ ap₂ (λ (w : Bool × Bool) (z : ℕ). cond w.0 (get_or sent z hole) hole) k e)
      (q ∙ ap₂ (λ (w : Bool × Bool) (z : ℕ). cond w.1 (get_or sent z hole) hole) k (m ∙ ap₂ (λ (z : ℕ) (w : Bool × Bool). z + bit_of w.0) e k)) in
      elim (cases_eq j i) [
        | inl same ↦ subst (λ (z : ℕ). get_or (set out i (a, b)) z d ≡ restored hole c sent z) (sym same) (get_or-set_same out i (a, b) d l ∙ here)
        | inr other ↦ get_or-set_other out i j (a, b) d other ∙ f j d (omega arith)
      ]

  pub restored_all : (out : List (X × X)) (n : ℕ) → length out ≡ n → Restored hole c sent out n → out ≡ depunctured hole c n sent
  restored_all out n e f = fill_by_all (restored hole c sent) out n (hole, hole) e (λ k h. f k (hole, hole) h)

-- ---- by periods: what was sent of period k stands k times as far as what is sent of one

module _ {X : Type 0} (hole : X) (c : CodeRate) (pairs sent : ℕ) (p : Period c pairs sent) (xs : List X) (k : ℕ) where
  part : List X
  part = mid_of (k * sent) (k * sent + sent - k * sent) xs

  read : (i : ℕ) → i < sent → get_or part i hole ≡ get_or xs (k * sent + i) hole
  unfolding part
  read i h = get_or-take (k * sent + sent - k * sent) (drop (k * sent) xs) i hole (omega arith) ∙ get_or-drop (k * sent) xs i hole

  restored_part : (i : ℕ) → i < pairs → restored hole c part i ≡ restored hole c xs (k * pairs + i)
  restored_part i h =
      let again : (i : ℕ) → sent_of c (k * pairs + i) ≡ sent_of c i = sent_again c pairs (whole_period c pairs sent p) k in
      let count : k * sent + sent_count c i ≡ sent_count c (k * pairs + i) =
      sym (count_again c (k * pairs) again i ∙ ap (λ (z : ℕ). z + sent_count c i) (count_to_period c pairs sent p k)) in
      let r = room c i pairs sent (sent_of c i) h p.many refl in
      let at : Bool × Bool → ℕ → X × X = λ marks n. (cond marks.0 (get_or xs n hole) hole, cond marks.1 (get_or xs (n + bit_of marks.0) hole) hole) in
      ap₂ (λ (x : X) (y : X). (x, y))
      (cond_when (sent_of c i).0 _ _ hole (λ e. read (sent_count c i) (omega (arith, r, bit_true (sent_of c i).0 e)) ∙ ap (λ (z : ℕ). get_or xs z hole) count))
      (cond_when (sent_of c i).1 _ _ hole (λ e. read (sent_count c i + bit_of (sent_of c i).0) (omega (arith, r, bit_true (sent_of c i).1 e))
      ∙ ap (λ (z : ℕ). get_or xs z hole) (let z : k * sent + (sent_count c i + bit_of (sent_of c i).0) ≡ sent_count c (k * pairs + i) + bit_of (sent_of c i).0 = omega (arith, count) in z)))
      ∙ ap (λ (z : Bool × Bool). at z (sent_count c (k * pairs + i))) (sym (again i))

  pub restored_period : (out new : List (X × X)) (width : ℕ) → k * pairs ≤ length out → length new ≡ pairs → Restored hole c xs out (k * pairs) →
      Restored hole c (mid_of (k * sent) (k * sent + sent - k * sent) xs) new pairs → Restored hole c xs (put_mid (k * pairs) width out new) ((k + 1) * pairs)
  unfolding part
  restored_period out new width fits long before here i d h =
      let next : (k + 1) * pairs ≡ k * pairs + pairs = add-mul k 1 pairs ∙ ap (λ (z : ℕ). k * pairs + z) (let z : 1 * pairs ≡ pairs = omega arith in z) in
      elim (cases_lt i (k * pairs)) [
        | inl l ↦ part_before (k * pairs) width out new fits i d l ∙ before i d l
        | inr l ↦
            let j = i - k * pairs in
            let at : k * pairs + j ≡ i = omega arith in
            let within : j < pairs = omega (arith, next) in
            ap (λ (z : ℕ). get_or (put_mid (k * pairs) width out new) z d) (sym at) ∙ part_within (k * pairs) width out new fits j d (omega (arith, within))
            ∙ here j d within ∙ restored_part j within ∙ ap (restored hole c xs) at
      ]
