-- Back from the places of an interleaved symbol.
use Rattle.std.proofs.Common.{◌≡◌, ℕ, ◌+◌, ◌*◌, ◌<◌, Bool, true, false, cond, not, eqb, List, length, get_or, set, sym, ap, ◌∙◌, subst, inl, inr, arith, get_or-set_other, get_or-set_same}
use Rattle.std.proofs.lemmas.Bool.{cases_eq}
use Rattle.std.proofs.lemmas.List.FromFn.{fill_by_all, get_or-map-range_with_len, length-map-range_with_len}
use Rattle.coding.specs.Interleaver.{Grid, place, source, Inverse, Placed, target, origin, Moved, interleaved, deinterleaved, ComesBack}
use Rattle.coding.proofs.Interleaving.{undone, within, fetched, places}

-- a flag among the const parameters, which a proof has as a number
abbrev pub flag : ℕ → Bool
flag n = not (eqb n 0)

-- no two places have one target
target_apart : (back : Bool) (columns n s i j : ℕ) → Inverse columns n s → i < n → j < n → target back columns n s i ≡ target back columns n s j → i ≡ j
target_apart false columns n s i j u h k e = e
target_apart true columns n s i j u h k e = sym (u.place_source i h) ∙ ap (place columns n s) e ∙ u.place_source j k

target_below : (back : Bool) (columns n s j : ℕ) → Inverse columns n s → j < n → target back columns n s j < n
target_below false columns n s j u h = h
target_below true columns n s j u h = u.source_within j h

origin_below : (back : Bool) (columns n s j : ℕ) → Inverse columns n s → j < n → origin back columns n s j < n
origin_below false columns n s j u h = u.source_within j h
origin_below true columns n s j u h = h

-- what the code finds at place j: from where to where
pub record Ends (back : Bool) (columns n s j o m : ℕ) : Type 0 where
  pub from_origin : o ≡ origin back columns n s j
  pub to_target : m ≡ target back columns n s j
  pub origin_fits : o < n
  pub target_fits : m < n

pub ends_at : (back : Bool) (columns s t n j k o m : ℕ) → Grid columns s t n → j < n → k ≡ source columns n s j → o ≡ cond back j k → m ≡ cond back k j → Ends back columns n s j o m
ends_at back columns s t n j k o m g h e p q =
    let u = undone columns s t n g in
    let from : o ≡ origin back columns n s j = p ∙ ap (cond back j) e in
    let to : m ≡ target back columns n s j = q ∙ ap (λ (z : ℕ). cond back z j) e in
    record {
      from_origin = from;
      to_target = to;
      origin_fits = subst (λ (z : ℕ). z < n) (sym from) (origin_below back columns n s j u h);
      target_fits = subst (λ (z : ℕ). z < n) (sym to) (target_below back columns n s j u h);
    }

-- the same at place i of a group, by what the code computed of it
pub ends_in_group : (back : Bool) (columns s t n column group i k o m : ℕ) → Grid columns s t n → column < columns → group < t → i < s →
    k ≡ source columns n s (s * (t * column + group) + i) → o ≡ cond back (s * (t * column + group) + i) k → m ≡ cond back k (s * (t * column + group) + i) →
    Ends back columns n s (s * (t * column + group) + i) o m
ends_in_group back columns s t n column group i k o m grid hc hg hi e p q =
    let w = within columns s t n column group grid hc hg in
    ends_at back columns s t n (s * (t * column + group) + i) k o m grid (omega (arith, w.fits)) e p q

-- one place more
module _ {X : Type 0} (back : Bool) (columns s t : ℕ) (xs : List X) (g : Grid columns s t (length xs)) where
  pub moved_more : (ys : List X) (m i : ℕ) (y : X) → length ys ≡ length xs → i < length xs → m ≡ target back columns (length xs) s i →
      ((d : X) → y ≡ get_or xs (origin back columns (length xs) s i) d) → Moved back columns s xs ys i → Moved back columns s xs (set ys m y) (i + 1)
  moved_more ys m i y long h is e f j d k =
      let n = length xs in
      let u = undone columns s t n g in
      let to : ℕ → ℕ = target back columns n s in
      let l : m < length ys = omega (arith, is, target_below back columns n s i u h) in
      elim (cases_eq j i) [
        | inl same ↦
            subst (λ (z : ℕ). get_or (set ys m y) (to z) d ≡ get_or xs (origin back columns n s z) d) (sym same)
            (ap (λ (z : ℕ). get_or (set ys m y) z d) (sym is) ∙ get_or-set_same ys m y d l ∙ e d)
        | inr other ↦
            get_or-set_other ys m (to j) y d (λ met. other (target_apart back columns n s j i u (omega arith) h (met ∙ is))) ∙ f j d (omega arith)
      ]

-- a list sent there: it is what the definition says, and each bit stands at its place
module _ {X : Type 0} (columns s t : ℕ) (xs : List X) (g : Grid columns s t (length xs)) (ys : List X) where
  pub sent_there : length ys ≡ length xs → Moved false columns s xs ys (length xs) → (d : X) → ys ≡ interleaved d columns s xs
  sent_there long f d = fetched columns s t xs g ys long f d

  pub stands : Moved false columns s xs ys (length xs) → Placed columns s xs ys
  stands f = places columns s t xs g ys f

-- a list taken back: the same
module _ {X : Type 0} (columns s t : ℕ) (xs : List X) (g : Grid columns s t (length xs)) (ys : List X) (long : length ys ≡ length xs) where
  taken : Moved true columns s xs ys (length xs) → (k : ℕ) (d : X) → k < length xs → get_or ys k d ≡ get_or xs (place columns (length xs) s k) d
  taken f k d h =
      let u = undone columns s t (length xs) g in
      ap (λ (i : ℕ). get_or ys i d) (sym (u.source_place k h)) ∙ f (place columns (length xs) s k) d (u.place_within k h)

  pub taken_back : Moved true columns s xs ys (length xs) → (d : X) → ys ≡ deinterleaved d columns s xs
  taken_back f d = let F : ℕ → X = λ k. get_or xs (place columns (length xs) s k) d in fill_by_all F ys (length xs) d long (λ k h. taken f k d h)

  pub stood : Moved true columns s xs ys (length xs) → Placed columns s ys xs
  stood f k d h =
      ap (λ (n : ℕ). get_or xs (place columns n s k) d) long ∙ sym (taken f k d (subst (λ (n : ℕ). k < n) long h))

-- either way and back
pub comes_back : {X : Type 0} → ComesBack X
comes_back {X} d columns s groups xs g =
    let n = length xs in
    let u = undone columns s groups n g in
    let there : List X → ℕ → X = λ zs j. get_or zs (source columns (length zs) s j) d in
    let home : List X → ℕ → X = λ zs k. get_or zs (place columns (length zs) s k) d in
    let sent = interleaved d columns s xs in
    let back = deinterleaved d columns s xs in
    let long : length sent ≡ n = length-map-range_with_len (there xs) 0 n in
    let short : length back ≡ n = length-map-range_with_len (home xs) 0 n in (
      sym (fill_by_all (home sent) xs (length sent) d (sym long) (λ k h.
          let k_in : k < n = omega arith in
          let p = place columns n s k in
          sym (ap (λ (z : ℕ). get_or sent (place columns z s k) d) long
          ∙ get_or-map-range_with_len (there xs) 0 n p p d (u.place_within k k_in) (omega arith) ∙ ap (λ (z : ℕ). get_or xs z d) (u.source_place k k_in)))),
      sym (fill_by_all (there back) xs (length back) d (sym short) (λ j h.
          let j_in : j < n = omega arith in
          let q = source columns n s j in
          sym (ap (λ (z : ℕ). get_or back (source columns z s j) d) short
          ∙ get_or-map-range_with_len (home xs) 0 n q q d (u.source_within j j_in) (omega arith) ∙ ap (λ (z : ℕ). get_or xs z d) (u.place_source j j_in)))),
    )

-- where a bit stands in a list interleaved, and from where it is taken back
pub interleaved_at : {X : Type 0} (d : X) (columns s t : ℕ) (xs : List X) (n k : ℕ) → Grid columns s t n → length xs ≡ n → k < n →
    get_or (interleaved d columns s xs) (place columns n s k) d ≡ get_or xs k d
interleaved_at {X} d columns s t xs n k g l h =
    let u = undone columns s t n g in
    let p = place columns n s k in
    let F : ℕ → X = λ j. get_or xs (source columns (length xs) s j) d in
    let b : p < length xs = omega (arith, u.place_within k h) in
    get_or-map-range_with_len F 0 (length xs) p p d b (omega arith)
    ∙ ap (λ (z : ℕ). get_or xs (source columns z s p) d) l ∙ ap (λ (i : ℕ). get_or xs i d) (u.source_place k h)

pub deinterleaved_at : {X : Type 0} (d : X) (columns s : ℕ) (ys : List X) (n k : ℕ) → length ys ≡ n → k < n →
    get_or (deinterleaved d columns s ys) k d ≡ get_or ys (place columns n s k) d
deinterleaved_at {X} d columns s ys n k l h =
    let F : ℕ → X = λ k. get_or ys (place columns (length ys) s k) d in
    get_or-map-range_with_len F 0 (length ys) k k d (omega arith) (omega arith) ∙ ap (λ (z : ℕ). get_or ys (place columns z s k) d) l
