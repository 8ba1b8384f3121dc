-- The level of a coordinate as the code reads it from a table, and the point of a carrier by the part of the bits that it holds.
use Rattle.std.proofs.Common.{◌≡◌, ℕ, ◌+◌, ◌*◌, ◌/◌, ◌<◌, ◌≤◌, Bool, true, false, List, [], ◌∷◌, length, get_or, take, drop, fold, ℤ, pos, negsuc, sym, refl, ap, ◌∙◌, arith, lit≤, w8, to_z, of_z, length-take, length-drop, get_or-take, get_or-drop, mul-zero, mul-le-mul_right}
use lib.Ieee.{Float, of_int, binary32}
use mir.Val.{bool_byte}
use Rattle.std.proofs.lemmas.List.Sums.{fold_more}
use Rattle.std.proofs.lemmas.List.{ext_get_or}
use Rattle.frame.specs.declared.rate.Modulation.{Modulation}
use Rattle.frame.specs.declared.rate.Modulation.TheVariants as M
use Rattle.frame.specs.Rate.{n_bpsc}
use Rattle.carriers.specs.Mapper.{coordinate, level_of, at_levels, point_at}
use Rattle.carriers.proofs.Determined.{group, group_at, length_group}

-- ---- the table: its places are bits behind a leading one, read as a number

abbrev pub one_more : ℕ → Bool → ℕ
one_more place bit = 2 * place + bool_byte bit

abbrev pub place_of : List Bool → ℕ
place_of bits = fold one_more 1 bits

pub one_bit : (b : Bool) → bool_byte b ≤ 1
one_bit true = lit≤ tt
one_bit false = lit≤ tt

-- up to three bits have a place in the table
pub within : (bits : List Bool) → length bits ≤ 3 → place_of bits ≤ 15
within [] h = lit≤ tt
within (a ∷ []) h = omega (arith, one_bit a)
within (a ∷ b ∷ []) h = omega (arith, one_bit a, one_bit b)
within (a ∷ b ∷ c ∷ []) h = omega (arith, one_bit a, one_bit b, one_bit c)
within (a ∷ b ∷ c ∷ d ∷ bits) h = absurd (omega arith)

abbrev pub table : List ℤ
table =
    pos 0 ∷ pos 0 ∷ negsuc 0 ∷ pos 1 ∷ negsuc 2 ∷ negsuc 0 ∷ pos 3 ∷ pos 1
    ∷ negsuc 6 ∷ negsuc 4 ∷ negsuc 0 ∷ negsuc 2 ∷ pos 7 ∷ pos 5 ∷ pos 1 ∷ pos 3 ∷ []

-- what the code reads there
abbrev pub level_at : ℕ → Float
level_at place = of_int binary32 (to_z w8 (of_z w8 (get_or table place (pos 0))))

found_there : (bits : List Bool) → 0 < length bits → length bits ≤ 3 → level_at (place_of bits) ≡ coordinate (level_of bits)
unfolding of_int
found_there [] some few = absurd (omega arith)
found_there (true ∷ []) some few = refl
found_there (false ∷ []) some few = refl
found_there (true ∷ true ∷ []) some few = refl
found_there (true ∷ false ∷ []) some few = refl
found_there (false ∷ true ∷ []) some few = refl
found_there (false ∷ false ∷ []) some few = refl
found_there (true ∷ true ∷ true ∷ []) some few = refl
found_there (true ∷ true ∷ false ∷ []) some few = refl
found_there (true ∷ false ∷ true ∷ []) some few = refl
found_there (true ∷ false ∷ false ∷ []) some few = refl
found_there (false ∷ true ∷ true ∷ []) some few = refl
found_there (false ∷ true ∷ false ∷ []) some few = refl
found_there (false ∷ false ∷ true ∷ []) some few = refl
found_there (false ∷ false ∷ false ∷ []) some few = refl
found_there (a ∷ b ∷ c ∷ d ∷ bits) some few = absurd (omega arith)

-- the level found at its place is that of the bits
pub found : (bits : List Bool) (place : ℕ) → place ≡ place_of bits → 0 < length bits → length bits ≤ 3 → level_at place ≡ coordinate (level_of bits)
found bits place e some few = ap level_at e ∙ found_there bits some few

-- one bit more
pub more : (bits : List Bool) (i place : ℕ) (d : Bool) → i < length bits → place ≡ place_of (take i bits) → one_more place (get_or bits i d) ≡ place_of (take (i + 1) bits)
more bits i place d h e = ap (λ (p : ℕ). one_more p (get_or bits i d)) e ∙ sym (fold_more one_more 1 bits i d h)

pub within_more : (bits : List Bool) (i : ℕ) → length bits ≤ 3 → place_of (take i bits) ≤ 15
within_more bits i h = within (take i bits) (omega (arith, length-take i bits))

pub ruleset places = (within_more, one_bit, more)

-- ---- the part of the bits that a carrier holds

is_group : (m : Modulation) (bits part : List Bool) (n : ℕ) → length part ≡ n_bpsc m → ((t : ℕ) → t < n_bpsc m → get_or part t false ≡ get_or bits (n_bpsc m * n + t) false) → part ≡ group m bits n
is_group m bits part n e f =
    ext_get_or false part (group m bits n) (e ∙ sym (length_group m bits n)) (λ t h. let low : t < n_bpsc m = omega arith in f t low ∙ sym (group_at m bits n t low))

-- the point of the part alone
point_of_group : (m : Modulation) (bits : List Bool) (n : ℕ) → point_at m (group m bits n) 0 ≡ point_at m bits n
unfolding group
point_of_group M.Bpsk bits n = refl
point_of_group M.Qpsk bits n = refl
point_of_group M.Qam16 bits n = refl
point_of_group M.Qam64 bits n = refl

pub point_of_part : (m : Modulation) (bits : List Bool) (b n k long : ℕ) → b ≡ n_bpsc m → k ≡ b → n < long → length bits ≡ long * n_bpsc m →
    point_at m (take k (drop (b * n) bits)) 0 ≡ point_at m bits n
point_of_part m bits b n k long is e within all =
    let part = take k (drop (b * n) bits) in
    let more : n + 1 ≤ long = omega arith in
    let fits : b * n + b ≤ length bits = omega (arith, mul-le-mul_right {m = n + 1} {n = long} b more, all, ap (λ (x : ℕ). long * x) is) in
    let whole : part ≡ group m bits n =
    is_group m bits part n (omega (arith, length-take k (drop (b * n) bits), length-drop (b * n) bits))
    (λ t l. let low : t < k = omega arith in rw (get_or-take, get_or-drop) (ap (λ (x : ℕ). get_or bits (x * n + t) false) is)) in
    ap (λ (z : List Bool). point_at m z 0) whole ∙ point_of_group m bits n

-- one axis, or both: the first half of the bits on I, and the second on Q
alone : (m : Modulation) (bits : List Bool) → m ≡ M.Bpsk → at_levels (level_of (group m bits 0)) (pos 0) ≡ point_at m bits 0
unfolding group
alone M.Bpsk bits e = refl
alone M.Qpsk bits e = absurd (let z : ◌≡◌ {A = ℕ} 0 1 = cc in omega arith)
alone M.Qam16 bits e = absurd (let z : ◌≡◌ {A = ℕ} 0 1 = cc in omega arith)
alone M.Qam64 bits e = absurd (let z : ◌≡◌ {A = ℕ} 0 1 = cc in omega arith)

halved : (m : Modulation) (bits : List Bool) → (m ≡ M.Bpsk → ⊥) →
    let part = group m bits 0 in at_levels (level_of (take (length part / 2) part)) (level_of (drop (length part / 2) part)) ≡ point_at m bits 0
unfolding group
halved M.Bpsk bits other = absurd (other refl)
halved M.Qpsk bits other = refl
halved M.Qam16 bits other = refl
halved M.Qam64 bits other = refl

all_of_it : (m : Modulation) (bits : List Bool) → length bits ≡ n_bpsc m → bits ≡ group m bits 0
all_of_it m bits e = is_group m bits bits 0 e (λ t l. ap (λ (k : ℕ). get_or bits k false) (let z : t ≡ n_bpsc m * 0 + t = omega (arith, mul-zero (n_bpsc m)) in z))

pub on_i : (m : Modulation) (bits : List Bool) → m ≡ M.Bpsk → length bits ≡ n_bpsc m → at_levels (level_of bits) (pos 0) ≡ point_at m bits 0
on_i m bits is e = ap (λ (z : List Bool). at_levels (level_of z) (pos 0)) (all_of_it m bits e) ∙ alone m bits is

pub on_both : (m : Modulation) (bits : List Bool) → (m ≡ M.Bpsk → ⊥) → length bits ≡ n_bpsc m →
    at_levels (level_of (take (length bits / 2) bits)) (level_of (drop (length bits / 2) bits)) ≡ point_at m bits 0
on_both m bits other e =
    ap (λ (z : List Bool). at_levels (level_of (take (length z / 2) z)) (level_of (drop (length z / 2) z))) (all_of_it m bits e) ∙ halved m bits other
