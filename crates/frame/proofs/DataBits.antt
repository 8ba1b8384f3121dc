-- One data bit, and a stretch of them.
use Rattle.std.proofs.Common.{◌≡◌, ℕ, zero, suc, ◌+◌, ◌-◌, ◌*◌, ◌/◌, ◌%◌, ◌^◌, ◌<◌, ◌≤◌, Bool, true, false, cond, eqb, ltb, leb, List, ◌∷◌, ◌++◌, length, get_or, sym, refl, ap, ◌∙◌, subst, ap₂, inl, inr, mod-lt, mul_comm, mul-le-mul_left, arith, shr-shr, add-mul}
use native.Mathlib.Nat.{div-add-mod, zero-div}
use Rattle.std.proofs.lemmas.List.FromFn.{fill_by_all, get_or-map-range_with_len, length-map-range_with_len}
use Rattle.std.proofs.lemmas.List.{get_or_past, ext_get_or}
use Rattle.std.proofs.lemmas.Bool.{cond-true, cond-false, and_from, and_parts, and_left, and_right, le-leb, lt-leb, lt-ltb, le-ltb, leb-true, ltb-true, cases_lt, cases_eq, cases_Bool}
use Rattle.std.specs.Int.{div_ceil}
use Rattle.std.proofs.lemmas.Grind.{div_ceil_times}
use Rattle.std.proofs.Math.Nat.{div-eq_of_lt-le}
use Rattle.frame.specs.declared.rate.Rate.{Rate}
use Rattle.frame.specs.declared.rate.Rate.TheVariants as R
use Rattle.frame.specs.Rate.{shape, n_cbps, n_dbps}
use Rattle.frame.specs.Bits.{differs, bit_at}
use Rattle.frame.specs.Scrambler.{key_bit, register_after, key as key_of}
use Rattle.frame.specs.Streaming.{Masked, bits_under}
use Rattle.frame.proofs.Keys.{register_on}
use Rattle.frame.proofs.Parts.{part_before, part_within}
use borrow.Rule.Slice.PartMut.{put_mid}
use Rattle.frame.specs.Data.{steps, symbols, pads, plain_bit, in_tail, scrambled_bit, data_bit, data_bits}

pub plain_before : (octets : List ℕ) (n : ℕ) → n < 16 → false ≡ plain_bit octets n
unfolding plain_bit
plain_before octets n h = sym (cond-true _ _ _ (lt-ltb n 16 h))

pub plain_within : (octets : List ℕ) (n : ℕ) → 16 ≤ n → bit_at (get_or octets ((n - 16) / 8) 0) ((n - 16) % 8) ≡ plain_bit octets n
unfolding plain_bit
plain_within octets n h = sym (cond-false _ _ _ (le-ltb n 16 h))

pub plain_past : (octets : List ℕ) (n : ℕ) → 16 ≤ n → length octets ≤ (n - 16) / 8 → false ≡ plain_bit octets n
plain_past octets n h l =
    ap (λ (x : ℕ). eqb (x % 2) 1) (sym (zero-div (2 ^ ((n - 16) % 8))))
    ∙ ap (λ (x : ℕ). bit_at x ((n - 16) % 8)) (sym (get_or_past octets ((n - 16) / 8) 0 l))
    ∙ plain_within octets n h

-- where the tail is
tail_parts : (octets : List ℕ) (n : ℕ) → in_tail (length octets) n ≡ true → (16 + 8 * length octets ≤ n) × (n < steps (length octets))
unfolding in_tail
tail_parts octets n e =
    let p = and_parts (leb (16 + 8 * length octets) n) (ltb n (steps (length octets))) e in
    (leb-true _ _ p.0, ltb-true _ _ p.1)

pub before_the_tail : (octets : List ℕ) (n : ℕ) (k : Bool) → n < 16 + 8 * length octets → differs (plain_bit octets n) k ≡ scrambled_bit octets n k
unfolding scrambled_bit in_tail
before_the_tail octets n k h = sym (cond-false _ _ _ (and_left (leb (16 + 8 * length octets) n) (ltb n (steps (length octets))) (lt-leb _ _ h)))

-- a symbol holds some data bits and some coded bits, and not many
pub record Sizes (r : Rate) : Type 0 where
  pub some_data : 0 < n_dbps (shape r)
  pub few_data : n_dbps (shape r) ≤ 216
  pub some_coded : 0 < n_cbps (shape r)

pub sizes : (r : Rate) → Sizes r
sizes R.R6 = record { some_data = omega arith; few_data = omega arith; some_coded = omega arith }
sizes R.R9 = record { some_data = omega arith; few_data = omega arith; some_coded = omega arith }
sizes R.R12 = record { some_data = omega arith; few_data = omega arith; some_coded = omega arith }
sizes R.R18 = record { some_data = omega arith; few_data = omega arith; some_coded = omega arith }
sizes R.R24 = record { some_data = omega arith; few_data = omega arith; some_coded = omega arith }
sizes R.R36 = record { some_data = omega arith; few_data = omega arith; some_coded = omega arith }
sizes R.R48 = record { some_data = omega arith; few_data = omega arith; some_coded = omega arith }
sizes R.R54 = record { some_data = omega arith; few_data = omega arith; some_coded = omega arith }

-- all symbols hold the steps of the data, and less than one symbol more
pub record Full (r : Rate) (len n d : ℕ) : Type 0 where
  pub enough : 22 + 8 * len ≤ n * d
  pub few : n * d < 22 + 8 * len + 216

pub full : (r : Rate) (len n d : ℕ) → n ≡ symbols (shape r) len → d ≡ n_dbps (shape r) → Full r len n d
unfolding symbols
full r len n d e f =
    let x : ℕ = 22 + 8 * len + (d - 1) in
    let s : 0 < d = subst (λ (z : ℕ). 0 < z) (sym f) (sizes r).some_data in
    let m : d ≤ 216 = subst (λ (z : ℕ). z ≤ 216) (sym f) (sizes r).few_data in
    let q : n ≡ x / d = e ∙ ap (λ (z : ℕ). (22 + 8 * len + (z - 1)) / z) (sym f) in
    let whole : d * (x / d) + x % d ≡ x = div-add-mod x d in
    let rest : x % d < d = mod-lt x s in
    let same : n * d ≡ d * (x / d) = ap (λ (z : ℕ). z * d) q ∙ mul_comm (x / d) d in
    record { enough = omega arith; few = omega arith }

-- rounded up by one more than whole symbols that are not filled
pub symbols_are : (r : Rate) (len n d : ℕ) → d ≡ n_dbps (shape r) → n ≡ div_ceil (22 + 8 * len) d → n ≡ symbols (shape r) len
unfolding symbols
symbols_are r len n d e f =
    let x : ℕ = 22 + 8 * len in
    let some : 0 < d = subst (λ (z : ℕ). 0 < z) (sym e) (sizes r).some_data in
    let times = div_ceil_times x d some in
    let low : n * d ≤ x + (d - 1) = omega (arith, ap (λ (z : ℕ). z * d) f, times.1) in
    let high : x + (d - 1) < (n + 1) * d = omega (arith, ap (λ (z : ℕ). z * d) f, times.0, add-mul n 1 d) in
    sym (div-eq_of_lt-le d low high) ∙ ap (λ (z : ℕ). (x + (z - 1)) / z) e

pub pads_are : (r : Rate) (len n d taken : ℕ) → n ≡ symbols (shape r) len → d ≡ n_dbps (shape r) → taken ≡ steps len → n * d - taken ≡ pads (shape r) len
unfolding pads
pads_are r len n d taken e f g = ap₂ (λ (x : ℕ) (y : ℕ). x * y - taken) e f ∙ ap (λ (z : ℕ). symbols (shape r) len * n_dbps (shape r) - z) g

pub symbols_few : (r : Rate) (len : ℕ) → len ≤ 4095 → symbols (shape r) len < 40000
symbols_few r len h =
    let n = symbols (shape r) len in
    let d = n_dbps (shape r) in
    let f = full r len n d refl refl in
    omega (arith, f.few, mul-le-mul_left {m = 1} {n = d} n (sizes r).some_data)

-- ---- four bits at a time

-- the bits of a byte shifted
shifted_bit : (x k t : ℕ) → bit_at (x / 2 ^ k) t ≡ bit_at x (k + t)
shifted_bit x k t = ap (λ (z : ℕ). eqb (z % 2) 1) (shr-shr x k t)

no_bits : (t : ℕ) → bit_at 0 t ≡ false
no_bits t = ap (λ (x : ℕ). eqb (x % 2) 1) (zero-div (2 ^ t))

module _ (octets : List ℕ) (n : ℕ) (aligned : n % 4 ≡ 0) where
  pub plain_four : 16 ≤ n → (t : ℕ) → t < 4 → bit_at (get_or octets ((n - 16) / 8) 0 / 2 ^ (n % 8)) t ≡ plain_bit octets (n + t)
  plain_four h t l =
      let byte : (n - 16) / 8 ≡ (n + t - 16) / 8 = omega arith in
      let place : n % 8 + t ≡ (n + t - 16) % 8 = omega arith in
      shifted_bit (get_or octets ((n - 16) / 8) 0) (n % 8) t ∙ ap₂ (λ (x : ℕ) (y : ℕ). bit_at (get_or octets x 0) y) byte place ∙ plain_within octets (n + t) (omega arith)

  pub plain_four_before : n < 16 → (t : ℕ) → t < 4 → bit_at 0 t ≡ plain_bit octets (n + t)
  plain_four_before h t l = no_bits t ∙ plain_before octets (n + t) (omega arith)

  pub plain_four_past : 16 ≤ n → length octets ≤ (n - 16) / 8 → (t : ℕ) → t < 4 → bit_at 0 t ≡ plain_bit octets (n + t)
  plain_four_past h k t l = no_bits t ∙ plain_past octets (n + t) (omega arith) (omega arith)

-- key bits with those over the tail left out
module _ (len n key : ℕ) (aligned : n % 4 ≡ 0) where
  tail_is : (t : ℕ) → 16 + 8 * len ≤ n + t → n + t < steps len → in_tail len (n + t) ≡ true
  unfolding in_tail
  tail_is t h l = and_from (leb (16 + 8 * len) (n + t)) (ltb (n + t) (steps len)) (le-leb _ _ h) (lt-ltb _ _ l)

  tail_before : (t : ℕ) → n + t < 16 + 8 * len → in_tail len (n + t) ≡ false
  unfolding in_tail
  tail_before t h = and_left (leb (16 + 8 * len) (n + t)) (ltb (n + t) (steps len)) (lt-leb _ _ h)

  tail_past : (t : ℕ) → steps len ≤ n + t → in_tail len (n + t) ≡ false
  unfolding in_tail
  tail_past t h = and_right (leb (16 + 8 * len) (n + t)) (ltb (n + t) (steps len)) (le-ltb _ _ h)

  pub masked_all : n ≡ 16 + 8 * len → Masked len n key 0
  masked_all e t l = no_bits (3 - t) ∙ sym (cond-true _ _ _ (tail_is t (omega arith) (omega arith)))

  pub masked_two : n ≡ 20 + 8 * len → Masked len n key (key % 4)
  masked_two e zero l = ap (λ (x : ℕ). eqb (x % 2) 1) (let z : key % 4 / 2 ^ (3 - 0) ≡ 0 = omega arith in z) ∙ sym (cond-true _ _ _ (tail_is 0 (omega arith) (omega arith)))
  masked_two e (suc zero) l = ap (λ (x : ℕ). eqb (x % 2) 1) (let z : key % 4 / 2 ^ (3 - 1) ≡ 0 = omega arith in z) ∙ sym (cond-true _ _ _ (tail_is 1 (omega arith) (omega arith)))
  masked_two e (suc (suc zero)) l = ap (λ (x : ℕ). eqb x 1) (let z : key % 4 / 2 ^ (3 - 2) % 2 ≡ key / 2 ^ (3 - 2) % 2 = omega arith in z) ∙ sym (cond-false _ _ _ (tail_past 2 (omega arith)))
  masked_two e (suc (suc (suc zero))) l = ap (λ (x : ℕ). eqb x 1) (let z : key % 4 / 2 ^ (3 - 3) % 2 ≡ key / 2 ^ (3 - 3) % 2 = omega arith in z) ∙ sym (cond-false _ _ _ (tail_past 3 (omega arith)))
  masked_two e (suc (suc (suc (suc t)))) l = absurd (omega arith)

  pub masked_none : (n ≡ 16 + 8 * len → ⊥) → (n ≡ 20 + 8 * len → ⊥) → Masked len n key key
  masked_none a b t l =
      elim (cases_lt n (16 + 8 * len)) [
        | inl h ↦ sym (cond-false _ _ _ (tail_before t (omega arith)))
        | inr h ↦ elim (cases_lt n (24 + 8 * len)) [
          | inl k ↦ absurd (elim (cases_eq n (16 + 8 * len)) [ inl e ↦ a e | inr x ↦ b (omega arith) ])
          | inr k ↦ sym (cond-false _ _ _ (tail_past t (omega arith)))
        ]
      ]

-- a data bit from its plain bit and its masked key bit
pub masked_bit : (octets : List ℕ) (n : ℕ) (k : Bool) → differs (plain_bit octets n) (cond (in_tail (length octets) n) false k) ≡ scrambled_bit octets n k
unfolding scrambled_bit
masked_bit octets n k =
    elim (cases_Bool (in_tail (length octets) n)) [
      | inl e ↦ ap (differs (plain_bit octets n)) (cond-true _ _ _ e) ∙ ap (λ (b : Bool). differs b false) (sym (plain_in_tail octets n e)) ∙ sym (cond-true _ _ _ e)
      | inr e ↦ ap (differs (plain_bit octets n)) (cond-false _ _ _ e) ∙ sym (cond-false _ _ _ e)
    ]
  where
    plain_in_tail : (octets : List ℕ) (n : ℕ) → in_tail (length octets) n ≡ true → false ≡ plain_bit octets n
    plain_in_tail octets n e =
        let parts = tail_parts octets n e in
        plain_past octets n (omega (arith, parts)) (omega (arith, parts))

-- four bits more of a stretch, under the key of the register before it
module _ (octets : List ℕ) (start seed : ℕ) where
  pub fill_none : (out : List Bool) → (seed ≡ register_after seed (4 * 0)) × ((k : ℕ) → k < 4 * 0 → get_or out k false ≡ scrambled_bit octets (start + k) (key_of seed k))
  unfolding register_after
  fill_none out = (refl, λ k h. absurd (omega arith))

  pub fill_more : (g register plain key masked register' width : ℕ) (out four : List Bool) → 4 * g ≤ length out → length four ≡ 4 →
      (register ≡ register_after seed (4 * g)) × ((k : ℕ) → k < 4 * g → get_or out k false ≡ scrambled_bit octets (start + k) (key_of seed k)) →
      ((t : ℕ) → t < 4 → bit_at plain t ≡ plain_bit octets (start + 4 * g + t)) →
      ((t : ℕ) → t < 4 → bit_at key (3 - t) ≡ key_of register t) → Masked (length octets) (start + 4 * g) key masked →
      ((t : ℕ) → t < 4 → get_or four t false ≡ differs (bit_at plain t) (bit_at masked (3 - t))) →
      register' ≡ register_after register 4 →
      (register' ≡ register_after seed (4 * (g + 1))) × ((k : ℕ) → k < 4 * (g + 1) → get_or (put_mid (4 * g) width out four) k false ≡ scrambled_bit octets (start + k) (key_of seed k))
  fill_more g register plain key masked register' width out four fits long inv p q m w r =
      let n = start + 4 * g in
      let out' = put_mid (4 * g) width out four in
      let moved : register_after register 4 ≡ register_after seed (4 * (g + 1)) =
      ap (λ (x : ℕ). register_after x 4) inv.0 ∙ register_on seed (4 * g) 4 ∙ ap (register_after seed) (let z : 4 * g + 4 ≡ 4 * (g + 1) = omega arith in z) in
      let keyed : (t : ℕ) → key_of register t ≡ key_of seed (4 * g + t) = λ t. ap (λ (x : ℕ). key_bit (register_after x t)) inv.0 ∙ ap key_bit (register_on seed (4 * g) t) in
      let here : (t : ℕ) → t < 4 → get_or out' (4 * g + t) false ≡ scrambled_bit octets (n + t) (key_of seed (4 * g + t)) =
      λ t l. part_within (4 * g) width out four fits t false (omega arith) ∙ w t l ∙ ap₂ differs (p t l) (m t l ∙ ap (λ (x : Bool). cond (in_tail (length octets) (n + t)) false x) (q t l ∙ keyed t)) ∙ masked_bit octets (n + t) (key_of seed (4 * g + t)) in (
        r ∙ moved,
        λ k l. elim (cases_lt k (4 * g)) [
          | inl h ↦ part_before (4 * g) width out four fits k false h ∙ inv.1 k h
          | inr h ↦
              let at : 4 * g + (k - 4 * g) ≡ k = omega arith in
              let from : n + (k - 4 * g) ≡ start + k = omega arith in
              ap (λ (z : ℕ). get_or out' z false) (sym at) ∙ here (k - 4 * g) (omega arith) ∙ ap₂ (λ (x : ℕ) (y : ℕ). scrambled_bit octets x (key_of seed y)) from at
        ],
      )

  pub fill_all : (g register : ℕ) (out : List Bool) (n : ℕ) → 4 * g ≡ n → length out ≡ n →
      (register ≡ register_after seed (4 * g)) × ((k : ℕ) → k < 4 * g → get_or out k false ≡ scrambled_bit octets (start + k) (key_of seed k)) →
      (out ≡ bits_under octets seed start n) × (register ≡ register_after seed n)
  fill_all g register out n e l inv = (
    fill_by_all (λ t. scrambled_bit octets (start + t) (key_of seed t)) out n false l (λ k h. inv.1 k (omega arith)),
    inv.0 ∙ ap (register_after seed) e,
  )

-- the same bits by the seed that the register came from
pub bits_of_seed : (octets : List ℕ) (seed register start n : ℕ) → register ≡ register_after seed start → bits_under octets register start n ≡ data_bits seed octets start n
bits_of_seed octets seed register start n e =
    ext_get_or false (bits_under octets register start n) (data_bits seed octets start n)
    (length-map-range_with_len (λ t. scrambled_bit octets (start + t) (key_of register t)) 0 n ∙ sym (length-map-range_with_len (data_bit seed octets) start n))
    (λ k h.
    let l : k < n = omega (arith, length-map-range_with_len (λ t. scrambled_bit octets (start + t) (key_of register t)) 0 n) in
    get_or-map-range_with_len (λ t. scrambled_bit octets (start + t) (key_of register t)) 0 n k k false l (omega arith)
    ∙ ap (scrambled_bit octets (start + k)) (ap (λ (x : ℕ). key_bit (register_after x k)) e ∙ ap key_bit (register_on seed start k))
    ∙ sym (get_or-map-range_with_len (data_bit seed octets) start n k (start + k) false l refl))

-- a stretch of bits after another
pub data_bits_append : (seed : ℕ) (octets : List ℕ) (start m n : ℕ) → data_bits seed octets start (m + n) ≡ data_bits seed octets start m ++ data_bits seed octets (start + m) n
data_bits_append seed octets start zero n =
    let p : 0 + n ≡ n = omega arith in
    let q : start ≡ start + 0 = omega arith in
    ap₂ (data_bits seed octets) q p
data_bits_append seed octets start (suc m) n =
    let p : suc m + n ≡ suc (m + n) = omega arith in
    let q : start + 1 + m ≡ start + suc m = omega arith in
    ap (data_bits seed octets start) p
    ∙ ap (λ t. data_bit seed octets start ∷ t) (data_bits_append seed octets (start + 1) m n ∙ ap (λ (y : ℕ). data_bits seed octets (start + 1) m ++ data_bits seed octets y n) q)

pub length_data_bits : (seed : ℕ) (octets : List ℕ) (start n : ℕ) → length (data_bits seed octets start n) ≡ n
length_data_bits seed octets start n = length-map-range_with_len (data_bit seed octets) start n
