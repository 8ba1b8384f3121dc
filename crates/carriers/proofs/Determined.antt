-- The points of a symbol determine its bits.
use Rattle.std.proofs.Common.{◌≡◌, ℕ, zero, suc, ◌+◌, ◌*◌, ◌/◌, ◌%◌, ◌<◌, Bool, true, false, not, ◌&&◌, ltb, List, [], ◌∷◌, ◌++◌, length, get_or, sym, refl, ap, ◌∙◌, ap₂, mod-lt, arith}
use native.Mathlib.Nat.{div-add-mod}
use lib.Ieee.{Float, nan, inf, fin, up, down, of_int}
use Rattle.std.proofs.lemmas.Nat.{div_below}
use Rattle.std.proofs.lemmas.List.FromFn.{get_or-map-range_with_len}
use Rattle.std.proofs.lemmas.List.{ext_get_or}
use Rattle.frame.specs.declared.rate.Modulation.{Modulation}
use Rattle.frame.specs.declared.rate.Modulation.TheVariants as M
use Rattle.frame.specs.Rate.{n_bpsc}
use Rattle.carriers.specs.declared.carrier.Point.{Point}
use Rattle.carriers.specs.declared.carrier.Carrier.{Carrier}
use Rattle.carriers.specs.declared.carrier.Carrier.TheVariants.{Heard, Struck}
use Rattle.carriers.specs.Mapper.{level2, level4, level8, coordinate, point_at, mapped}

-- a coordinate's sign and size
abbrev positive : Float → Bool
positive nan = false
positive (inf s) = not s
positive (fin s m e) = not s

abbrev size : Float → ℕ
size nan = 0
size (inf s) = 0
size (fin s m e) = m * up e / down e

-- the bits of a level, from those
abbrev reads2 : Float → List Bool
reads2 x = positive x ∷ []

abbrev reads4 : Float → List Bool
reads4 x = positive x ∷ ltb (size x) 2 ∷ []

abbrev reads8 : Float → List Bool
reads8 x = positive x ∷ ltb (size x) 4 ∷ (ltb 2 (size x) && ltb (size x) 6) ∷ []

level2_read : (a : Bool) → reads2 (coordinate (level2 a)) ≡ a ∷ []
unfolding of_int
level2_read true = refl
level2_read false = refl

level4_read : (a b : Bool) → reads4 (coordinate (level4 a b)) ≡ a ∷ b ∷ []
unfolding of_int
level4_read true true = refl
level4_read true false = refl
level4_read false true = refl
level4_read false false = refl

level8_read : (a b c : Bool) → reads8 (coordinate (level8 a b c)) ≡ a ∷ b ∷ c ∷ []
unfolding of_int
level8_read true true true = refl
level8_read true true false = refl
level8_read true false true = refl
level8_read true false false = refl
level8_read false true true = refl
level8_read false true false = refl
level8_read false false true = refl
level8_read false false false = refl

-- the bits of a carrier, read off its point and by their places
reads : Modulation → Point → List Bool
reads M.Bpsk p = reads2 p.i
reads M.Qpsk p = reads2 p.i ++ reads2 p.q
reads M.Qam16 p = reads4 p.i ++ reads4 p.q
reads M.Qam64 p = reads8 p.i ++ reads8 p.q

unfoldable pub group : Modulation → List Bool → ℕ → List Bool
group M.Bpsk bits n = get_or bits n false ∷ []
group M.Qpsk bits n = get_or bits (2 * n) false ∷ get_or bits (2 * n + 1) false ∷ []
group M.Qam16 bits n = get_or bits (4 * n) false ∷ get_or bits (4 * n + 1) false ∷ get_or bits (4 * n + 2) false ∷ get_or bits (4 * n + 3) false ∷ []
group M.Qam64 bits n =
    get_or bits (6 * n) false ∷ get_or bits (6 * n + 1) false ∷ get_or bits (6 * n + 2) false ∷ get_or bits (6 * n + 3) false ∷ get_or bits (6 * n + 4) false ∷ get_or bits (6 * n + 5) false ∷ []

point_read : (m : Modulation) (bits : List Bool) (n : ℕ) → reads m (point_at m bits n) ≡ group m bits n
unfolding reads group
point_read M.Bpsk bits n = level2_read (get_or bits n false)
point_read M.Qpsk bits n = ap₂ (λ (x : List Bool) (y : List Bool). x ++ y) (level2_read (get_or bits (2 * n) false)) (level2_read (get_or bits (2 * n + 1) false))
point_read M.Qam16 bits n =
    ap₂ (λ (x : List Bool) (y : List Bool). x ++ y) (level4_read (get_or bits (4 * n) false) (get_or bits (4 * n + 1) false)) (level4_read (get_or bits (4 * n + 2) false) (get_or bits (4 * n + 3) false))
point_read M.Qam64 bits n =
    ap₂ (λ (x : List Bool) (y : List Bool). x ++ y) (level8_read (get_or bits (6 * n) false) (get_or bits (6 * n + 1) false) (get_or bits (6 * n + 2) false)) (level8_read (get_or bits (6 * n + 3) false) (get_or bits (6 * n + 4) false) (get_or bits (6 * n + 5) false))

pub length_group : (m : Modulation) (bits : List Bool) (n : ℕ) → length (group m bits n) ≡ n_bpsc m
unfolding group
length_group M.Bpsk bits n = refl
length_group M.Qpsk bits n = refl
length_group M.Qam16 bits n = refl
length_group M.Qam64 bits n = refl

at_first : (bits : List Bool) (n b : ℕ) → get_or bits (b * n) false ≡ get_or bits (b * n + 0) false
at_first bits n b = ap (λ (k : ℕ). get_or bits k false) (let z : b * n ≡ b * n + 0 = omega arith in z)

pub group_at : (m : Modulation) (bits : List Bool) (n t : ℕ) → t < n_bpsc m → get_or (group m bits n) t false ≡ get_or bits (n_bpsc m * n + t) false
unfolding group
group_at M.Bpsk bits n zero h = ap (λ (k : ℕ). get_or bits k false) (let z : n ≡ 1 * n + 0 = omega arith in z)
group_at M.Bpsk bits n (suc t) h = absurd (omega arith)
group_at M.Qpsk bits n zero h = at_first bits n 2
group_at M.Qpsk bits n (suc zero) h = refl
group_at M.Qpsk bits n (suc (suc t)) h = absurd (omega arith)
group_at M.Qam16 bits n zero h = at_first bits n 4
group_at M.Qam16 bits n (suc zero) h = refl
group_at M.Qam16 bits n (suc (suc zero)) h = refl
group_at M.Qam16 bits n (suc (suc (suc zero))) h = refl
group_at M.Qam16 bits n (suc (suc (suc (suc t)))) h = absurd (omega arith)
group_at M.Qam64 bits n zero h = at_first bits n 6
group_at M.Qam64 bits n (suc zero) h = refl
group_at M.Qam64 bits n (suc (suc zero)) h = refl
group_at M.Qam64 bits n (suc (suc (suc zero))) h = refl
group_at M.Qam64 bits n (suc (suc (suc (suc zero)))) h = refl
group_at M.Qam64 bits n (suc (suc (suc (suc (suc zero))))) h = refl
group_at M.Qam64 bits n (suc (suc (suc (suc (suc (suc t)))))) h = absurd (omega arith)

pub some_bits : (m : Modulation) → 0 < n_bpsc m
some_bits M.Bpsk = omega arith
some_bits M.Qpsk = omega arith
some_bits M.Qam16 = omega arith
some_bits M.Qam64 = omega arith

pub mapped_determines : (m : Modulation) (carriers : ℕ) (xs ys : List Bool) → length xs ≡ carriers * n_bpsc m → length ys ≡ length xs →
    mapped m carriers xs ≡ mapped m carriers ys → xs ≡ ys
mapped_determines m carriers xs ys full long e =
    let b = n_bpsc m in
    let F : List Bool → ℕ → Carrier = λ bits n. Heard (point_at m bits n) in
    ext_get_or false xs ys (sym long) (λ j h.
    let n = j / b in
    let t = j % b in
    let here : b * n + t ≡ j = div-add-mod j b in
    let within : n < carriers = div_below j b carriers (some_bits m) (omega arith) in
    let heard : F xs n ≡ F ys n =
    sym (get_or-map-range_with_len (F xs) 0 carriers n n Struck within (omega arith)) ∙ ap (λ (cs : List Carrier). get_or cs n Struck) e
    ∙ get_or-map-range_with_len (F ys) 0 carriers n n Struck within (omega arith) in
    let point : point_at m xs n ≡ point_at m ys n = cc in
    let groups : group m xs n ≡ group m ys n = sym (point_read m xs n) ∙ ap (reads m) point ∙ point_read m ys n in
    let low : t < b = mod-lt j (some_bits m) in
    ap (λ (k : ℕ). get_or xs k false) (sym here) ∙ sym (group_at m xs n t low) ∙ ap (λ (x : List Bool). get_or x t false) groups
    ∙ group_at m ys n t low ∙ ap (λ (k : ℕ). get_or ys k false) here)
