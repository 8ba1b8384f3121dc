-- The interleaver's permutations and their inverses, over every grid: s is the turn, t the groups of a column.
use Rattle.std.proofs.Common.{◌≡◌, ℕ, suc, ◌+◌, ◌-◌, ◌*◌, ◌/◌, ◌%◌, ◌<◌, ◌≤◌, List, length, get_or, sym, refl, ap, ◌∙◌, subst, ap₂, add_assoc, mul-le-mul_right, mod-eq_of_lt, mul_assoc, mul_comm, add-mul, mul-le-mul_left, mul-pos, mul-suc, mul-add, sub-add_cancel, mul_left_comm, arith}
use native.Mathlib.Nat.{add-mod-mod, mul-add-div, mul-div-mul_left, mul-div_cancel_left, div-div-eq-div-mul, mod-add-mod, mul-add-mod_self_left, add-mul-mod_self_left, div-add-mod}
use Rattle.std.proofs.lemmas.List.FromFn.{fill_by_all, get_or-map-range_with_len}
use Rattle.std.proofs.lemmas.List.{ext_get_or, get_or_read}
use Rattle.std.proofs.lemmas.Nat.{div_below, div-mul-add, mul-add-lt, mod_below}
use Rattle.frame.specs.declared.rate.Modulation.{Modulation}
use Rattle.frame.specs.declared.rate.Modulation.TheVariants as M
use Rattle.frame.specs.Rate.{n_bpsc}
use Rattle.coding.specs.Interleaver.{Grid, spread, turn, place, unturn, unspread, source, Inverse, Placed, interleaved, turn_size}

-- a group and a place in it
group_of : (s q b : ℕ) → b < s → (s * q + b) / s ≡ q
group_of s q b h = ap (λ (z : ℕ). (z + b) / s) (mul_comm s q) ∙ div-mul-add q s b h

-- back by c and on by c
round : (s m x c : ℕ) → c ≤ x + s * m → ((x + s * m - c) % s + c) % s ≡ x % s
round s m x c h = mod-add-mod (x + s * m - c) s c ∙ ap (λ (z : ℕ). z % s) (sub-add_cancel h) ∙ add-mul-mod_self_left x s m

-- on by c and back by c
round_back : (s m x c : ℕ) → c ≤ s * m → ((x + c) % s + (s * m - c)) % s ≡ x % s
round_back s m x c h =
    let e : x + c + (s * m - c) ≡ x + s * m = omega arith in
    mod-add-mod (x + c) s (s * m - c) ∙ ap (λ (z : ℕ). z % s) e ∙ add-mul-mod_self_left x s m

aside : (s q b c : ℕ) → (s * q + b + c) % s ≡ (b + c) % s
aside s q b c = ap (λ (z : ℕ). z % s) (add_assoc (s * q) b c) ∙ mul-add-mod_self_left s q (b + c)

module _ (columns s t : ℕ) (hc : 0 < columns) (hs : 0 < s) (ht : 0 < t) where
  -- the column of a place
  column : (i : ℕ) → columns * i / (columns * (s * t)) ≡ i / (s * t)
  column i = mul-div-mul_left i (s * t) hc

  -- whatever the place in a group of s becomes, group and column stay
  moved_group : (i b : ℕ) → (s * (i / s) + b % s) / s ≡ i / s
  moved_group i b = group_of s (i / s) (b % s) (mod_below b s hs)

  moved_column : (i b : ℕ) → (s * (i / s) + b % s) / (s * t) ≡ i / (s * t)
  moved_column i b = sym (div-div-eq-div-mul (s * (i / s) + b % s) s t) ∙ ap (λ (q : ℕ). q / t) (moved_group i b) ∙ div-div-eq-div-mul i s t

  size : columns * (s * t) ≡ (columns * t) * s
  size = ap (λ (z : ℕ). columns * z) (mul_comm s t) ∙ sym (mul_assoc columns t s)

  moved_below : (i b : ℕ) → i < columns * (s * t) → s * (i / s) + b % s < columns * (s * t)
  moved_below i b h =
      let g : i / s < columns * t = div_below i s (columns * t) hs (subst (λ (z : ℕ). i < z) size h) in
      let p = mul-add-lt (i / s) s (b % s) (columns * t) g (mod_below b s hs) in
      omega (arith, p, size, mul_comm s (i / s), mul_comm s (columns * t))

  pub turn_below : (i : ℕ) → i < columns * (s * t) → turn columns (columns * (s * t)) s i < columns * (s * t)
  unfolding turn
  turn_below i h = moved_below i _ h

  pub unturn_below : (i : ℕ) → i < columns * (s * t) → unturn columns (columns * (s * t)) s i < columns * (s * t)
  unfolding unturn
  unturn_below i h = moved_below i _ h

  pub whole_groups : columns * (s * t) ≡ s * (columns * t)
  whole_groups = mul_left_comm columns s t

  in_column : (i : ℕ) → i < columns * (s * t) → i / (s * t) < columns
  in_column i h = div_below i (s * t) columns (mul-pos hs ht) h

  columns_fit : columns ≤ columns * (s * t)
  columns_fit = omega (arith, mul-le-mul_left {m = 1} {n = s * t} columns (mul-pos hs ht))

  -- the column, under the group's size
  column_fits : (i : ℕ) → i < columns * (s * t) → columns * i / (columns * (s * t)) ≤ s * (columns * t)
  column_fits i h = omega (arith, column i, in_column i h, columns_fit, whole_groups)

  same_column : (i b : ℕ) → columns * (s * (i / s) + b % s) / (columns * (s * t)) ≡ columns * i / (columns * (s * t))
  same_column i b = column (s * (i / s) + b % s) ∙ moved_column i b ∙ sym (column i)

  pub unturn_turn : (i : ℕ) → i < columns * (s * t) → unturn columns (columns * (s * t)) s (turn columns (columns * (s * t)) s i) ≡ i
  unfolding unturn turn
  unturn_turn i h =
      let c = columns * i / (columns * (s * t)) in
      let b = i + columns * (s * t) - c in
      let fits : c ≤ i + s * (columns * t) = omega (arith, column_fits i h) in
      let back : (s * (i / s) + b % s + c) % s ≡ i % s =
      aside s (i / s) (b % s) c ∙ ap (λ (z : ℕ). ((i + z - c) % s + c) % s) whole_groups ∙ round s (columns * t) i c fits in
      rw (moved_group i b, same_column i b, back) (div-add-mod i s)

  pub turn_unturn : (i : ℕ) → i < columns * (s * t) → turn columns (columns * (s * t)) s (unturn columns (columns * (s * t)) s i) ≡ i
  unfolding unturn turn
  turn_unturn i h =
      let c = columns * i / (columns * (s * t)) in
      let b = i + c in
      let fits = column_fits i h in
      let e : s * (i / s) + b % s + columns * (s * t) - c ≡ s * (i / s) + b % s + (s * (columns * t) - c) = omega (arith, whole_groups) in
      let on : (s * (i / s) + b % s + columns * (s * t) - c) % s ≡ i % s =
      ap (λ (z : ℕ). z % s) e ∙ aside s (i / s) (b % s) (s * (columns * t) - c) ∙ round_back s (columns * t) i c fits in
      rw (moved_group i b, same_column i b, on) (div-add-mod i s)

  -- rows and columns
  rows : columns * (s * t) / columns ≡ s * t
  rows = mul-div_cancel_left (s * t) hc

  row_below : (k : ℕ) → k < columns * (s * t) → k / columns < s * t
  row_below k h = div_below k columns (s * t) hc (omega (arith, mul_comm columns (s * t)))

  pub spread_below : (k : ℕ) → k < columns * (s * t) → spread columns (columns * (s * t)) k < columns * (s * t)
  unfolding spread
  spread_below k h =
      rw rows (omega (arith, mul-add-lt (k % columns) (s * t) (k / columns) columns (mod_below k columns hc) (row_below k h), mul_comm (s * t) (k % columns), mul_comm (s * t) columns))

  -- the inverse by its row and column
  unspread_is : (i : ℕ) → unspread columns (columns * (s * t)) i ≡ columns * (i % (s * t)) + i / (s * t)
  unfolding unspread
  unspread_is i =
      let n = columns * (s * t) in
      let w = s * t in
      let c = i / w in
      let e : columns * i ≡ n * c + columns * (i % w) =
      ap (λ (z : ℕ). columns * z) (sym (div-add-mod i w)) ∙ mul-add columns (w * c) (i % w) ∙ ap (λ (z : ℕ). z + columns * (i % w)) (sym (mul_assoc columns w c)) in
      let m : (n - 1) * c + 1 * c ≡ n * c = sym (add-mul (n - 1) 1 c) ∙ ap (λ (z : ℕ). z * c) (let p : n - 1 + 1 ≡ n = omega (arith, columns_fit) in p) in
      rw column (omega (arith, e, m))

  pub unspread_below : (i : ℕ) → i < columns * (s * t) → unspread columns (columns * (s * t)) i < columns * (s * t)
  unspread_below i h =
      rw unspread_is (omega (arith, mul-add-lt (i % (s * t)) columns (i / (s * t)) (s * t) (mod_below i (s * t) (mul-pos hs ht)) (in_column i h), mul_comm columns (i % (s * t))))

  pub unspread_spread : (k : ℕ) → k < columns * (s * t) → unspread columns (columns * (s * t)) (spread columns (columns * (s * t)) k) ≡ k
  unfolding spread
  unspread_spread k h =
      let r = row_below k h in
      let i = s * t * (k % columns) + k / columns in
      let e : i % (s * t) ≡ k / columns = mul-add-mod_self_left (s * t) (k % columns) (k / columns) ∙ mod-eq_of_lt r in
      rw (rows, unspread_is i, e, group_of (s * t) (k % columns) (k / columns) r) (div-add-mod k columns)

  pub spread_unspread : (i : ℕ) → i < columns * (s * t) → spread columns (columns * (s * t)) (unspread columns (columns * (s * t)) i) ≡ i
  unfolding spread
  spread_unspread i h =
      let c = in_column i h in
      let e : (columns * (i % (s * t)) + i / (s * t)) % columns ≡ i / (s * t) = mul-add-mod_self_left columns (i % (s * t)) (i / (s * t)) ∙ mod-eq_of_lt c in
      rw (rows, unspread_is i, e, group_of columns (i % (s * t)) (i / (s * t)) c) (div-add-mod i (s * t))

  -- what the code computes
  pub source_rows : (j : ℕ) →
      source columns (columns * (s * t)) s j ≡ columns * ((s * (j / s) + (j + j / (s * t)) % s) % (s * t)) + j / (s * t)
  unfolding source unturn
  source_rows j = rw (unspread_is, column j, moved_column j (j + j / (s * t)))

-- both permutations, over every grid
module _ (columns s t : ℕ) (hc : 0 < columns) (hs : 0 < s) (ht : 0 < t) where
  inverse_whole : Inverse columns (columns * (s * t)) s
  unfolding place source
  inverse_whole =
      let n = columns * (s * t) in
      record {
        place_within = λ k h. turn_below columns s t hc hs ht (spread columns n k) (spread_below columns s t hc hs ht k h);
        source_place = λ k h.
            ap (unspread columns n) (unturn_turn columns s t hc hs ht (spread columns n k) (spread_below columns s t hc hs ht k h)) ∙ unspread_spread columns s t hc hs ht k h;
        source_within = λ j h. unspread_below columns s t hc hs ht (unturn columns n s j) (unturn_below columns s t hc hs ht j h);
        place_source = λ j h.
            ap (turn columns n s) (spread_unspread columns s t hc hs ht (unturn columns n s j) (unturn_below columns s t hc hs ht j h)) ∙ turn_unturn columns s t hc hs ht j h;
      }

pub undone : (columns s groups n : ℕ) → Grid columns s groups n → Inverse columns n s
undone columns s groups n g =
    subst (λ (z : ℕ). Inverse columns z s) (sym g.whole) (inverse_whole columns s groups g.some_columns g.some_size g.some_groups)

-- what the code computes, at a row of a column
module _ (columns s t n column row : ℕ) (g : Grid columns s t n) (hc : column < columns) (hr : row < s * t) where
  turned_row : ℕ
  turned_row = s * (row / s) + (row + column) % s

  turned_row_fits : turned_row < s * t
  unfolding turned_row
  turned_row_fits =
      let q : row / s < t = div_below row s t g.some_size (omega (arith, mul_comm s t)) in
      omega (arith, mul-add-lt (row / s) s ((row + column) % s) t q (mod_below (row + column) s g.some_size), mul_comm s (row / s), mul_comm s t)

  source_at : source columns n s (s * t * column + row) ≡ columns * turned_row + column
  unfolding turned_row
  source_at =
      let w = s * t in
      let j = w * column + row in
      let j_is : j ≡ s * (t * column) + row = ap (λ (z : ℕ). z + row) (mul_assoc s t column) in
      let c : j / w ≡ column = group_of w column row hr in
      let q : j / s ≡ t * column + row / s = ap (λ (z : ℕ). z / s) j_is ∙ mul-add-div g.some_size (t * column) row in
      let m : (j + column) % s ≡ (row + column) % s = ap (λ (z : ℕ). (z + column) % s) j_is ∙ aside s (t * column) row column in
      let apart : s * (t * column + row / s) + (row + column) % s ≡ w * column + turned_row =
      omega (arith, mul-add s (t * column) (row / s), mul_assoc s t column) in
      let whole : s * (j / s) + (j + j / w) % s ≡ w * column + turned_row =
      ap₂ (λ (x : ℕ) (y : ℕ). s * x + y) q (ap (λ (z : ℕ). (j + z) % s) c ∙ m) ∙ apart in
      ap (λ (z : ℕ). source columns z s j) g.whole ∙ source_rows columns s t g.some_columns g.some_size g.some_groups j
      ∙ ap₂ (λ (x : ℕ) (y : ℕ). columns * (x % w) + y) whole c
      ∙ ap (λ (z : ℕ). columns * z + column) (mul-add-mod_self_left w column turned_row ∙ mod-eq_of_lt turned_row_fits)

  pub place_fits : s * t * column + row < n
  place_fits = omega (arith, g.whole, mul-add-lt column (s * t) row columns hc hr, mul_comm column (s * t))

-- the same at a place of a group
module _ (columns s t n column group i : ℕ) (g : Grid columns s t n) (hc : column < columns) (hg : group < t) (hi : i < s) where
  row : ℕ
  row = s * group + i

  row_fits : row < s * t
  unfolding row
  row_fits = omega (arith, mul-add-lt group s i t hg hi, mul_comm s group, mul_comm s t)

  first : s * (t * column + group) + i ≡ s * t * column + row
  unfolding row
  first = omega (arith, mul-add s (t * column) group, mul_assoc s t column)

  -- by its turned place, whichever way the code found it
  pub source_by : (place : ℕ) → (i + column % s) % s ≡ place → columns * (s * group + place) + column ≡ source columns n s (s * (t * column + group) + i)
  unfolding row turned_row
  source_by place e =
      let a : s * (row / s) ≡ s * group = ap (λ (z : ℕ). s * z) (group_of s group i hi) in
      let b : (row + column) % s ≡ place = aside s group i column ∙ sym (add-mod-mod i column s) ∙ e in
      ap₂ (λ (x : ℕ) (y : ℕ). columns * (x + y) + column) (sym a) (sym b) ∙ sym (source_at columns s t n column row g hc row_fits) ∙ ap (source columns n s) (sym first)

  pub source_fits : source columns n s (s * (t * column + group) + i) < n
  source_fits =
      let p = place_fits columns s t n column row g hc row_fits in
      (undone columns s t n g).source_within (s * (t * column + group) + i) (omega (arith, first, p))

-- a group lies within the places
pub record Within (columns s t n column group : ℕ) : Type 0 where
  pub size : s ≤ n
  pub groups : t * column + group < n
  pub before : t * column ≤ n
  pub fits : s * (t * column + group) + s ≤ n

pub within : (columns s t n column group : ℕ) → Grid columns s t n → column < columns → group < t → Within columns s t n column group
within columns s t n column group g hc hg =
    let q = t * column + group in
    let few : q < columns * t = omega (arith, mul-add-lt column t group columns hc hg, mul_comm t column) in
    let whole : s * (columns * t) ≡ n = sym (whole_groups columns s t g.some_columns g.some_size g.some_groups) ∙ sym g.whole in
    let more : s * suc q ≤ s * (columns * t) = mul-le-mul_left {m = suc q} {n = columns * t} s few in
    let all : columns * t ≤ n = omega (arith, whole, mul-le-mul_right {m = 1} {n = s} (columns * t) g.some_size) in
    record {
      size = omega (arith, whole, more, mul-suc s q);
      groups = omega (arith, all);
      before = omega (arith, all);
      fits = omega (arith, whole, more, mul-suc s q);
    }

-- an element that was read, at the place that the index stands for
pub read_at : {X : Type 0} (xs : List X) (i k : ℕ) (x : X) → i < length xs → x ≡ get_or xs i x → i ≡ k → (d : X) → x ≡ get_or xs k d
read_at xs i k x h e same d = get_or_read xs i x h e d ∙ ap (λ (z : ℕ). get_or xs z d) same

-- a list interleaved holds each bit at its place, and is as long
module _ {X : Type 0} (columns s t : ℕ) (xs : List X) (g : Grid columns s t (length xs)) where
  pub fetched : (ys : List X) → length ys ≡ length xs → ((j : ℕ) (d : X) → j < length xs → get_or ys j d ≡ get_or xs (source columns (length xs) s j) d) → (d : X) → ys ≡ interleaved d columns s xs
  fetched ys e f d =
      let F : ℕ → X = λ j. get_or xs (source columns (length xs) s j) d in
      fill_by_all F ys (length xs) d e (λ j h. f j d h)

  pub places : (ys : List X) → ((j : ℕ) (d : X) → j < length xs → get_or ys j d ≡ get_or xs (source columns (length xs) s j) d) → Placed columns s xs ys
  places ys f k d h =
      let u = undone columns s t (length xs) g in
      f (place columns (length xs) s k) d (u.place_within k h) ∙ ap (λ (i : ℕ). get_or xs i d) (u.source_place k h)

-- a list interleaved determines the list
pub interleaved_determines : {X : Type 0} (d : X) (columns s t : ℕ) (xs ys : List X) → Grid columns s t (length xs) → length xs ≡ length ys →
    interleaved d columns s xs ≡ interleaved d columns s ys → xs ≡ ys
interleaved_determines {X} d columns s t xs ys g long e =
    let u = undone columns s t (length xs) g in
    let at : (zs : List X) → length zs ≡ length xs → (k : ℕ) → k < length xs → get_or (interleaved d columns s zs) (place columns (length xs) s k) d ≡ get_or zs k d =
    λ zs l k h.
    let F : ℕ → X = λ j. get_or zs (source columns (length zs) s j) d in
    let p = place columns (length xs) s k in
    let b : p < length zs = omega (arith, u.place_within k h) in
    get_or-map-range_with_len F 0 (length zs) p p d b (omega arith)
    ∙ ap (λ (n : ℕ). get_or zs (source columns n s p) d) l ∙ ap (λ (i : ℕ). get_or zs i d) (u.source_place k h) in
    ext_get_or d xs ys long (λ k h.
    sym (at xs refl k h) ∙ ap (λ (zs : List X). get_or zs (place columns (length xs) s k) d) e ∙ at ys (sym long) k h)

-- a symbol's places as a grid: how many groups a column has
unfoldable pub groups : Modulation → ℕ
groups M.Bpsk = 3
groups M.Qpsk = 6
groups M.Qam16 = 6
groups M.Qam64 = 6

pub symbol_grid : (m : Modulation) (n : ℕ) → n ≡ 48 * n_bpsc m → Grid 16 (turn_size m) (groups m) n
unfolding groups
symbol_grid M.Bpsk n e = record { some_columns = omega arith; some_size = omega arith; some_groups = omega arith; whole = e }
symbol_grid M.Qpsk n e = record { some_columns = omega arith; some_size = omega arith; some_groups = omega arith; whole = e }
symbol_grid M.Qam16 n e = record { some_columns = omega arith; some_size = omega arith; some_groups = omega arith; whole = e }
symbol_grid M.Qam64 n e = record { some_columns = omega arith; some_size = omega arith; some_groups = omega arith; whole = e }
