-- What was sent on a carrier is what the carrier tells, unless it was struck out.
use Rattle.std.proofs.Common.{◌≡◌, ℕ, zero, suc, ◌+◌, ◌-◌, ◌*◌, ◌/◌, ◌%◌, ◌<◌, ◌≤◌, Bool, true, false, cond, ◌⊎◌, List, [], ◌∷◌, ◌++◌, map, length, get_or, replicate, ℤ, pos, ◌-ℤ◌, nat_abs, Some, None, sym, refl, ap, ◌∙◌, subst, ap₂, inl, inr, mod-lt, mul-zero, mul-suc, arith, lit≤}
use native.Mathlib.Nat.{div-add-mod}
use lib.Ieee.{of_int, is_nan}
use Rattle.std.proofs.lemmas.Nat.{div_below}
use Rattle.std.proofs.lemmas.List.FromFn.{get_or-map-range_with_len, length-map-range_with_len}
use Rattle.std.proofs.lemmas.Simd.{get_or-replicate}
use Rattle.std.proofs.lemmas.List.{get_or_append_left, get_or-append_right}
use Rattle.frame.specs.declared.rate.Modulation.{Modulation}
use Rattle.frame.specs.declared.rate.Modulation.TheVariants as M
use Rattle.frame.specs.Rate.{n_bpsc}
use Rattle.carriers.specs.declared.carrier.Point.{Point}
use Rattle.carriers.specs.declared.carrier.Carrier.{Carrier}
use Rattle.carriers.specs.declared.carrier.Carrier.TheVariants.{Heard, Struck}
use Rattle.carriers.specs.declared.soft.SoftBit.{SoftBit}
use Rattle.carriers.specs.declared.soft.SoftBit.TheVariants.{Value, Absent}
use Rattle.carriers.specs.declared.fault.Axis.TheVariants.{I, Q}
use Rattle.carriers.specs.Mapper.{level2, level4, level8, coordinate, point_at, mapped}
use Rattle.carriers.specs.Values.{Favours, Legal}
use Rattle.carriers.specs.Demapper.{size, quantised, values, point_values, soft_bits, demapped}
use Rattle.carriers.specs.Fault.{bad_axis}
use Rattle.carriers.specs.Received.{Received, Tells}
use Rattle.carriers.proofs.Demapping.{length_soft, less_bound}
use Rattle.carriers.proofs.Determined.{group, length_group, group_at, some_bits}
use Rattle.carriers.proofs.Quantised.{quantised_bound}

-- ---- every level favours its bits

-- the values of a level's bits, by the bits
abbrev FavourAll : List ℤ → List Bool → Type 0
FavourAll [] [] = Unit {0}
FavourAll [] (b ∷ bs) = ⊥
FavourAll (v ∷ vs) [] = ⊥
FavourAll (v ∷ vs) (b ∷ bs) = Favours v b × FavourAll vs bs

favour2 : (a : Bool) → FavourAll (values M.Qpsk (quantised (coordinate (level2 a)))) (a ∷ [])
unfolding quantised of_int
favour2 true = (refl, tt)
favour2 false = (refl, tt)

favour4 : (a b : Bool) → FavourAll (values M.Qam16 (quantised (coordinate (level4 a b)))) (a ∷ b ∷ [])
unfolding quantised of_int
favour4 true true = (refl, (refl, tt))
favour4 true false = (refl, (refl, tt))
favour4 false true = (refl, (refl, tt))
favour4 false false = (refl, (refl, tt))

favour8 : (a b c : Bool) → FavourAll (values M.Qam64 (quantised (coordinate (level8 a b c)))) (a ∷ b ∷ c ∷ [])
unfolding quantised of_int
favour8 true true true = (refl, (refl, (refl, tt)))
favour8 true true false = (refl, (refl, (refl, tt)))
favour8 true false true = (refl, (refl, (refl, tt)))
favour8 true false false = (refl, (refl, (refl, tt)))
favour8 false true true = (refl, (refl, (refl, tt)))
favour8 false true false = (refl, (refl, (refl, tt)))
favour8 false false true = (refl, (refl, (refl, tt)))
favour8 false false false = (refl, (refl, (refl, tt)))

-- I and then Q
favour_both : (us vs : List ℤ) (xs ys : List Bool) → FavourAll us xs → FavourAll vs ys → FavourAll (us ++ vs) (xs ++ ys)
favour_both [] vs [] ys f g = g
favour_both [] vs (x ∷ xs) ys f g = absurd f
favour_both (u ∷ us) vs [] ys f g = absurd f
favour_both (u ∷ us) vs (x ∷ xs) ys f g = (f.0, favour_both us vs xs ys f.1 g)

abbrev heard2 : Bool → List ℤ
heard2 a = values M.Qpsk (quantised (coordinate (level2 a)))

abbrev heard4 : Bool → Bool → List ℤ
heard4 a b = values M.Qam16 (quantised (coordinate (level4 a b)))

abbrev heard8 : Bool → Bool → Bool → List ℤ
heard8 a b c = values M.Qam64 (quantised (coordinate (level8 a b c)))

two2 : (a b : Bool) → FavourAll (heard2 a ++ heard2 b) (a ∷ b ∷ [])
two2 a b = favour_both (heard2 a) (heard2 b) (a ∷ []) (b ∷ []) (favour2 a) (favour2 b)

two4 : (a b c d : Bool) → FavourAll (heard4 a b ++ heard4 c d) (a ∷ b ∷ c ∷ d ∷ [])
two4 a b c d = favour_both (heard4 a b) (heard4 c d) (a ∷ b ∷ []) (c ∷ d ∷ []) (favour4 a b) (favour4 c d)

two8 : (a b c d e f : Bool) → FavourAll (heard8 a b c ++ heard8 d e f) (a ∷ b ∷ c ∷ d ∷ e ∷ f ∷ [])
two8 a b c d e f = favour_both (heard8 a b c) (heard8 d e f) (a ∷ b ∷ c ∷ []) (d ∷ e ∷ f ∷ []) (favour8 a b c) (favour8 d e f)

favours_group : (m : Modulation) (bits : List Bool) (n : ℕ) → FavourAll (point_values m (point_at m bits n)) (group m bits n)
unfolding group
favours_group M.Bpsk bits n = favour2 (get_or bits n false)
favours_group M.Qpsk bits n = two2 (get_or bits (2 * n) false) (get_or bits (2 * n + 1) false)
favours_group M.Qam16 bits n = two4 (get_or bits (4 * n) false) (get_or bits (4 * n + 1) false) (get_or bits (4 * n + 2) false) (get_or bits (4 * n + 3) false)
favours_group M.Qam64 bits n =
    two8 (get_or bits (6 * n) false) (get_or bits (6 * n + 1) false) (get_or bits (6 * n + 2) false) (get_or bits (6 * n + 3) false) (get_or bits (6 * n + 4) false) (get_or bits (6 * n + 5) false)

-- bit t of them
favour_at : (p : Point) (vs : List ℤ) (bs : List Bool) (t : ℕ) → t < length bs → FavourAll vs bs → Tells (get_or bs t false) (Heard p) (get_or (map Value vs) t Absent)
favour_at p [] [] t h f = absurd (omega arith)
favour_at p [] (b ∷ bs) t h f = absurd f
favour_at p (v ∷ vs) [] t h f = absurd f
favour_at p (v ∷ vs) (b ∷ bs) zero h f = f.0
favour_at p (v ∷ vs) (b ∷ bs) (suc t) h f = favour_at p vs bs t (omega arith) f.1

-- ---- one carrier, as sent or struck out

kept_tells : (m : Modulation) (bits : List Bool) (n t : ℕ) → t < n_bpsc m →
    Tells (get_or bits (n_bpsc m * n + t) false) (Heard (point_at m bits n)) (get_or (soft_bits m (Heard (point_at m bits n))) t Absent)
kept_tells m bits n t h =
    let p = point_at m bits n in
    subst (λ (b : Bool). Tells b (Heard p) (get_or (soft_bits m (Heard p)) t Absent)) (group_at m bits n t h)
    (favour_at p (point_values m p) (group m bits n) t (omega (arith, length_group m bits n)) (favours_group m bits n))

carrier_tells : (m : Modulation) (bits : List Bool) (n t : ℕ) (c : Carrier) → t < n_bpsc m → (c ≡ Heard (point_at m bits n)) ⊎ (c ≡ Struck) →
    Tells (get_or bits (n_bpsc m * n + t) false) c (get_or (soft_bits m c) t Absent)
carrier_tells m bits n t c h (inl e) = subst (λ (c : Carrier). Tells (get_or bits (n_bpsc m * n + t) false) c (get_or (soft_bits m c) t Absent)) (sym e) (kept_tells m bits n t h)
carrier_tells m bits n t c h (inr e) =
    subst (λ (c : Carrier). Tells (get_or bits (n_bpsc m * n + t) false) c (get_or (soft_bits m c) t Absent)) (sym e) (get_or-replicate (n_bpsc m) t Absent Absent h)

-- a level is a number
number2 : (a : Bool) → is_nan (coordinate (level2 a)) ≡ false
unfolding is_nan of_int
number2 true = refl
number2 false = refl

number4 : (a b : Bool) → is_nan (coordinate (level4 a b)) ≡ false
unfolding is_nan of_int
number4 true true = refl
number4 true false = refl
number4 false true = refl
number4 false false = refl

number8 : (a b c : Bool) → is_nan (coordinate (level8 a b c)) ≡ false
unfolding is_nan of_int
number8 true true true = refl
number8 true true false = refl
number8 true false true = refl
number8 true false false = refl
number8 false true true = refl
number8 false true false = refl
number8 false false true = refl
number8 false false false = refl

both_numbers : (p : Point) → is_nan p.i ≡ false → is_nan p.q ≡ false → bad_axis (Heard p) ≡ None
both_numbers p e f = ap₂ (λ (a : Bool) (b : Bool). cond a (Some I) (cond b (Some Q) None)) e f

nought : is_nan (coordinate (pos 0)) ≡ false
unfolding is_nan of_int
nought = refl

number : (m : Modulation) (bits : List Bool) (n : ℕ) → bad_axis (Heard (point_at m bits n)) ≡ None
number M.Bpsk bits n = both_numbers (point_at M.Bpsk bits n) (number2 _) nought
number M.Qpsk bits n = both_numbers (point_at M.Qpsk bits n) (number2 (get_or bits (2 * n) false)) (number2 (get_or bits (2 * n + 1) false))
number M.Qam16 bits n =
    both_numbers (point_at M.Qam16 bits n) (number4 (get_or bits (4 * n) false) (get_or bits (4 * n + 1) false)) (number4 (get_or bits (4 * n + 2) false) (get_or bits (4 * n + 3) false))
number M.Qam64 bits n =
    both_numbers (point_at M.Qam64 bits n) (number8 (get_or bits (6 * n) false) (get_or bits (6 * n + 1) false) (get_or bits (6 * n + 2) false)) (number8 (get_or bits (6 * n + 3) false) (get_or bits (6 * n + 4) false) (get_or bits (6 * n + 5) false))

-- ---- no value passes the limit

abbrev AllSmall : List ℤ → Type 0
AllSmall [] = Unit {0}
AllSmall (v ∷ vs) = (nat_abs v ≤ 128) × AllSmall vs

small_values : (m : Modulation) (r : ℤ) → nat_abs r ≤ 128 → AllSmall (values m r)
small_values M.Bpsk r h = (h, tt)
small_values M.Qpsk r h = (h, tt)
small_values M.Qam16 r h = (h, (less_bound 32 r (lit≤ tt) h, tt))
small_values M.Qam64 r h =
    let second = less_bound 64 r (lit≤ tt) h in
    (h, (second, (less_bound 32 (pos 64 -ℤ size r) (lit≤ tt) second, tt)))

small_both : (us vs : List ℤ) → AllSmall us → AllSmall vs → AllSmall (us ++ vs)
small_both [] vs f g = g
small_both (u ∷ us) vs f g = (f.0, small_both us vs f.1 g)

small_point : (m : Modulation) (p : Point) → AllSmall (point_values m p)
small_point M.Bpsk p = small_values M.Bpsk (quantised p.i) (quantised_bound p.i)
small_point M.Qpsk p = small_both (values M.Qpsk (quantised p.i)) (values M.Qpsk (quantised p.q)) (small_values M.Qpsk (quantised p.i) (quantised_bound p.i)) (small_values M.Qpsk (quantised p.q) (quantised_bound p.q))
small_point M.Qam16 p = small_both (values M.Qam16 (quantised p.i)) (values M.Qam16 (quantised p.q)) (small_values M.Qam16 (quantised p.i) (quantised_bound p.i)) (small_values M.Qam16 (quantised p.q) (quantised_bound p.q))
small_point M.Qam64 p = small_both (values M.Qam64 (quantised p.i)) (values M.Qam64 (quantised p.q)) (small_values M.Qam64 (quantised p.i) (quantised_bound p.i)) (small_values M.Qam64 (quantised p.q) (quantised_bound p.q))

legal_values : (vs : List ℤ) (rest : List SoftBit) → AllSmall vs → ((j : ℕ) → Legal (get_or rest j Absent)) → (j : ℕ) → Legal (get_or (map Value vs ++ rest) j Absent)
legal_values [] rest f g j = g j
legal_values (v ∷ vs) rest f g zero = f.0
legal_values (v ∷ vs) rest f g (suc j) = legal_values vs rest f.1 g j

legal_absent : (n : ℕ) (rest : List SoftBit) → ((j : ℕ) → Legal (get_or rest j Absent)) → (j : ℕ) → Legal (get_or (replicate n Absent ++ rest) j Absent)
legal_absent zero rest g j = g j
legal_absent (suc n) rest g zero = tt
legal_absent (suc n) rest g (suc j) = legal_absent n rest g j

pub demapped_legal : (m : Modulation) (cs : List Carrier) (j : ℕ) → Legal (get_or (demapped m cs) j Absent)
demapped_legal m [] j = tt
demapped_legal m (Heard p ∷ cs) j = legal_values (point_values m p) (demapped m cs) (small_point m p) (demapped_legal m cs) j
demapped_legal m (Struck ∷ cs) j = legal_absent (n_bpsc m) (demapped m cs) (demapped_legal m cs) j

-- ---- all carriers, by the places of their bits

pub demapped_at : (m : Modulation) (cs : List Carrier) (n t : ℕ) → n < length cs → t < n_bpsc m → get_or (demapped m cs) (n_bpsc m * n + t) Absent ≡ get_or (soft_bits m (get_or cs n Struck)) t Absent
demapped_at m [] n t h l = absurd (omega arith)
demapped_at m (c ∷ cs) zero t h l =
    ap (λ (j : ℕ). get_or (demapped m (c ∷ cs)) j Absent) (let z : n_bpsc m * 0 + t ≡ t = omega (arith, mul-zero (n_bpsc m)) in z)
    ∙ get_or_append_left (soft_bits m c) (demapped m cs) Absent t (omega (arith, length_soft m c))
demapped_at m (c ∷ cs) (suc n) t h l =
    let b = n_bpsc m in
    get_or-append_right (soft_bits m c) (demapped m cs) b (b * suc n + t) Absent (length_soft m c) (omega (arith, mul-suc b n))
    ∙ ap (λ (j : ℕ). get_or (demapped m cs) j Absent) (let z : b * suc n + t - b ≡ b * n + t = omega (arith, mul-suc b n) in z)
    ∙ demapped_at m cs n t (omega arith) l

module _ (m : Modulation) (carriers : ℕ) (bits : List Bool) (cs : List Carrier) (got : Received (mapped m carriers bits) cs) where
  long : length (mapped m carriers bits) ≡ carriers
  long = length-map-range_with_len (λ n. Heard (point_at m bits n)) 0 carriers

  pub as_many : length cs ≡ carriers
  as_many = got.as_many ∙ long

  arrived : (n : ℕ) → n < carriers → (get_or cs n Struck ≡ Heard (point_at m bits n)) ⊎ (get_or cs n Struck ≡ Struck)
  arrived n h =
      let sent : get_or (mapped m carriers bits) n Struck ≡ Heard (point_at m bits n) = get_or-map-range_with_len (λ n. Heard (point_at m bits n)) 0 carriers n n Struck h (omega arith) in
      elim (got.each n (omega (arith, long))) [ inl e ↦ inl (e ∙ sent) | inr e ↦ inr e ]

  pub place_tells : (j : ℕ) → j < carriers * n_bpsc m → Tells (get_or bits j false) (get_or cs (j / n_bpsc m) Struck) (get_or (demapped m cs) j Absent)
  place_tells j h =
      let b = n_bpsc m in
      let n = j / b in
      let t = j % b in
      let here : b * n + t ≡ j = div-add-mod j b in
      let within : n < carriers = div_below j b carriers (some_bits m) (omega arith) in
      let low : t < b = mod-lt j (some_bits m) in
      let c = get_or cs n Struck in
      let at : get_or (demapped m cs) (b * n + t) Absent ≡ get_or (soft_bits m c) t Absent = demapped_at m cs n t (omega (arith, as_many)) low in
      subst (λ (i : ℕ). Tells (get_or bits i false) c (get_or (demapped m cs) i Absent)) here
      (subst (λ (v : SoftBit). Tells (get_or bits (b * n + t) false) c v) (sym at) (carrier_tells m bits n t c low (arrived n within)))

  -- no sent point has a coordinate that is not a number
  pub never_bad : (n : ℕ) → n < length cs → bad_axis (get_or cs n Struck) ≡ None
  never_bad n h = elim (arrived n (omega (arith, as_many))) [ inl e ↦ ap bad_axis e ∙ number m bits n | inr e ↦ ap bad_axis e ]
