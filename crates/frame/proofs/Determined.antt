-- What bits determine: a number, the header's rate and LENGTH, the seed, the bytes.
use Rattle.std.proofs.Common.{◌≡◌, ℕ, zero, suc, ◌+◌, ◌-◌, ◌*◌, ◌/◌, ◌%◌, ◌^◌, ◌<◌, ◌≤◌, Bool, true, false, eqb, List, map, length, get_or, take, drop, sym, refl, ap, ◌∙◌, ap₂, pow-suc, div-one, arith, shr-shr}
use Rattle.std.specs.List.{range_with_len}
use Rattle.std.proofs.lemmas.List.FromFn.{get_or-map-range_with_len}
use Rattle.std.proofs.lemmas.List.{ext_get_or}
use Rattle.std.proofs.lemmas.Bool.{eqb-true}
use Rattle.frame.specs.declared.rate.Rate.{Rate}
use Rattle.frame.specs.Bits.{bit_of, differs, bit_at}
use Rattle.frame.specs.Header.{header}
use Rattle.frame.specs.Scrambler.{key_bit, moved_up, register_after, key}
use Rattle.frame.specs.Data.{plain_bit, data_bit, data_bits}
use Rattle.frame.proofs.HeaderBits.{read_rate, header_parts}
use Rattle.frame.proofs.Tables.{every_below, at_below}
use Rattle.frame.proofs.DataBits.{plain_before, plain_within, before_the_tail}

-- ---- numbers

parity_same : (x y : ℕ) → x < 2 → y < 2 → eqb x 1 ≡ eqb y 1 → x ≡ y
parity_same zero zero g h e = refl
parity_same zero (suc zero) g h e = absurd (let z : ◌≡◌ {A = ℕ} 0 1 = cc in omega arith)
parity_same (suc zero) zero g h e = absurd (let z : ◌≡◌ {A = ℕ} 0 1 = cc in omega arith)
parity_same (suc zero) (suc zero) g h e = refl
parity_same (suc (suc x)) y g h e = absurd (omega arith)
parity_same zero (suc (suc y)) g h e = absurd (omega arith)
parity_same (suc zero) (suc (suc y)) g h e = absurd (omega arith)

-- numbers of n bits that have the same bits
pub same_bits : (n a b : ℕ) → a < 2 ^ n → b < 2 ^ n → ((j : ℕ) → j < n → bit_at a j ≡ bit_at b j) → a ≡ b
same_bits zero a b g h f = omega arith
same_bits (suc n) a b g h f =
    let low : a % 2 ≡ b % 2 =
    parity_same (a % 2) (b % 2) (omega arith) (omega arith)
    (ap (λ (x : ℕ). eqb (x % 2) 1) (sym (div-one a)) ∙ f 0 (omega arith) ∙ ap (λ (x : ℕ). eqb (x % 2) 1) (div-one b)) in
    let p : 2 ^ suc n ≡ 2 ^ n * 2 = pow-suc 2 n in
    let shift : (x j : ℕ) → bit_at (x / 2) j ≡ bit_at x (suc j) =
    λ x j. ap (λ (z : ℕ). eqb (z % 2) 1) (shr-shr x 1 j ∙ ap (λ (z : ℕ). x / 2 ^ z) (let q : 1 + j ≡ suc j = omega arith in q)) in
    let high : a / 2 ≡ b / 2 = same_bits n (a / 2) (b / 2) (omega arith) (omega arith) (λ j l. shift a j ∙ f (suc j) (omega arith) ∙ sym (shift b j)) in
    omega arith

-- ---- the header

pub header_determines : (r r' : Rate) (len len' : ℕ) → len < 4096 → len' < 4096 → header r len ≡ header r' len' → (r ≡ r') × (len ≡ len')
header_determines r r' len len' g h e =
    let lengths : map (bit_at len) (range_with_len 0 12) ≡ map (bit_at len') (range_with_len 0 12) =
    sym (header_parts r len).lengths ∙ ap (λ (x : List Bool). take 12 (drop 5 x)) e ∙ (header_parts r' len').lengths in (
      sym (header_parts r len).rate ∙ ap read_rate e ∙ (header_parts r' len').rate,
      same_bits 12 len len' g h (λ j l.
          sym (get_or-map-range_with_len (bit_at len) 0 12 j j false l (omega arith)) ∙ ap (λ (x : List Bool). get_or x j false) lengths ∙ get_or-map-range_with_len (bit_at len') 0 12 j j false l (omega arith)),
    )

-- ---- the scrambler

-- the seed from the first seven key bits
seed_from : (ℕ → Bool) → ℕ
seed_from k =
    let x1 = differs (k 6) (k 2) in
    let x2 = differs (k 5) (k 1) in
    let x3 = differs (k 4) (k 0) in
    let x4 = differs (k 3) x1 in
    bit_of x1 + 2 * bit_of x2 + 4 * bit_of x3 + 8 * bit_of x4 + 16 * bit_of (differs (k 2) x2) + 32 * bit_of (differs (k 1) x3) + 64 * bit_of (differs (k 0) x4)

abbrev seed_read : ℕ → Bool
seed_read seed = eqb (seed_from (key seed)) seed

all_read : every_below seed_read 128 ≡ true
unfolding seed_from key_bit moved_up register_after
all_read = refl

pub key_determines : (seed seed' : ℕ) → seed < 128 → seed' < 128 → ((n : ℕ) → n < 7 → key seed n ≡ key seed' n) → seed ≡ seed'
unfolding seed_from
key_determines seed seed' g h f =
    let e0 = f 0 (omega arith) in
    let e1 = f 1 (omega arith) in
    let e2 = f 2 (omega arith) in
    let e3 = f 3 (omega arith) in
    let e4 = f 4 (omega arith) in
    let e5 = f 5 (omega arith) in
    let e6 = f 6 (omega arith) in
    let same : seed_from (key seed) ≡ seed_from (key seed') = cc in
    sym (eqb-true _ _ (at_below seed_read 128 all_read seed g)) ∙ same ∙ eqb-true _ _ (at_below seed_read 128 all_read seed' h)

-- ---- the data bits

differs_none : (k : Bool) → differs false k ≡ k
differs_none true = refl
differs_none false = refl

differs_cancel : (a b k : Bool) → differs a k ≡ differs b k → a ≡ b
differs_cancel true true k e = refl
differs_cancel true false true e = sym e
differs_cancel true false false e = e
differs_cancel false true true e = sym e
differs_cancel false true false e = e
differs_cancel false false k e = refl

-- bit j of byte k
byte_bit : (octets : List ℕ) (k j : ℕ) → j < 8 → plain_bit octets (16 + 8 * k + j) ≡ bit_at (get_or octets k 0) j
byte_bit octets k j h =
    let n = 16 + 8 * k + j in
    let byte : (n - 16) / 8 ≡ k = omega arith in
    let place : (n - 16) % 8 ≡ j = omega arith in
    sym (plain_within octets n (omega arith)) ∙ ap₂ (λ (x : ℕ) (y : ℕ). bit_at (get_or octets x 0) y) byte place

-- the seed and the bytes, from all data bits up to the tail at least
module _ (seed seed' : ℕ) (octets octets' : List ℕ) (T : ℕ) (g : seed < 128) (g' : seed' < 128) (long : length octets ≡ length octets')
    (bytes : (i : ℕ) → get_or octets i 0 < 256) (bytes' : (i : ℕ) → get_or octets' i 0 < 256)
    (enough : 22 + 8 * length octets ≤ T) (same : data_bits seed octets 0 T ≡ data_bits seed' octets' 0 T) where
  each : (n : ℕ) → n < T → data_bit seed octets n ≡ data_bit seed' octets' n
  each n h =
      sym (get_or-map-range_with_len (data_bit seed octets) 0 T n n false h (omega arith)) ∙ ap (λ (x : List Bool). get_or x n false) same
      ∙ get_or-map-range_with_len (data_bit seed' octets') 0 T n n false h (omega arith)

  before : (n : ℕ) → n < 16 + 8 * length octets → differs (plain_bit octets n) (key seed n) ≡ differs (plain_bit octets' n) (key seed' n)
  before n h = before_the_tail octets n (key seed n) h ∙ each n (omega arith) ∙ sym (before_the_tail octets' n (key seed' n) (omega arith))

  keys : (n : ℕ) → n < 7 → key seed n ≡ key seed' n
  keys n h =
      sym (differs_none (key seed n)) ∙ ap (λ (b : Bool). differs b (key seed n)) (plain_before octets n (omega arith)) ∙ before n (omega arith)
      ∙ ap (λ (b : Bool). differs b (key seed' n)) (sym (plain_before octets' n (omega arith))) ∙ differs_none (key seed' n)

  pub seed_determined : seed ≡ seed'
  seed_determined = key_determines seed seed' g g' keys

  pub bytes_determined : octets ≡ octets'
  bytes_determined =
      ext_get_or 0 octets octets' long (λ k h.
      same_bits 8 (get_or octets k 0) (get_or octets' k 0) (bytes k) (bytes' k) (λ j l.
      sym (byte_bit octets k j l)
      ∙ differs_cancel _ _ (key seed (16 + 8 * k + j))
      (before (16 + 8 * k + j) (omega arith) ∙ ap (λ (x : ℕ). differs (plain_bit octets' (16 + 8 * k + j)) (key x (16 + 8 * k + j))) (sym seed_determined))
      ∙ byte_bit octets' k j l))
