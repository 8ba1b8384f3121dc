-- From the symbols back to the frame.
use Rattle.std.proofs.Common.{◌≡◌, ℕ, suc, ◌+◌, ◌*◌, ◌/◌, ◌%◌, ◌<◌, ◌≤◌, Bool, false, List, length, get_or, take, drop, sym, refl, ap, ◌∙◌, mul-le-mul_right, mod-lt, suc-mul, mul_comm, arith, lit<}
use native.Mathlib.Nat.{div-add-mod}
use Rattle.std.proofs.lemmas.Nat.{div_below}
use Rattle.std.proofs.lemmas.List.FromFn.{length-map-range_with_len}
use Rattle.std.proofs.lemmas.List.{ext_get_or, get_or-take, get_or-drop, length-take-le, length-drop}
use Rattle.frame.specs.declared.rate.Rate.{Rate}
use Rattle.frame.specs.declared.rate.Rate.TheVariants as R
use Rattle.frame.specs.Rate.{shape, n_cbps, n_dbps}
use Rattle.frame.specs.Header.{header}
use Rattle.frame.specs.Data.{symbols, data_bits}
use Rattle.frame.proofs.HeaderBits.{header_parts}
use Rattle.frame.proofs.DataBits.{length_data_bits, full, sizes}
use Rattle.frame.proofs.Determined.{header_determines, seed_determined, bytes_determined}
use Rattle.coding.specs.Coder.{coded}
use Rattle.coding.specs.Puncturing.{sent_of, punctured}
use Rattle.coding.specs.Interleaver.{interleaved, source, turn_size}
use Rattle.coding.proofs.States.{length_coded}
use Rattle.coding.proofs.Punctured.{length_sent, count_periods}
use Rattle.coding.proofs.Interleaving.{interleaved_determines}
use Rattle.coding.proofs.Determined.{punctured_determines, sent_some}
use Rattle.carriers.proofs.Determined.{mapped_determines}
use Rattle.phy.specs.Symbols.{symbol_of, header_symbol, sent_bits, data_symbol}
use Rattle.phy.specs.Telling.{Sendable, SymbolsTellTheFrame}
use Rattle.coding.proofs.Interleaving.{groups, symbol_grid}
use Rattle.phy.proofs.Shapes.{regular}

-- ---- one symbol

symbol_determines : (r : Rate) (xs ys : List Bool) → length xs ≡ n_cbps (shape r) → length ys ≡ n_cbps (shape r) → symbol_of (shape r) xs ≡ symbol_of (shape r) ys → xs ≡ ys
symbol_determines r xs ys l k e =
    let m = (shape r).modulation in
    let s = turn_size m in
    let placed : List Bool → List Bool = λ zs. interleaved false 16 s zs in
    let long : (zs : List Bool) → length (placed zs) ≡ length zs = λ zs. length-map-range_with_len (λ j. get_or zs (source 16 (length zs) s j) false) 0 (length zs) in
    interleaved_determines false 16 s (groups m) xs ys (symbol_grid m (length xs) l) (l ∙ sym k)
    (mapped_determines m 48 (placed xs) (placed ys) (long xs ∙ l) (long ys ∙ k ∙ sym l ∙ sym (long xs)) e)

header_symbol_determines : (r r' : Rate) (len len' : ℕ) → len < 4096 → len' < 4096 → header_symbol r len ≡ header_symbol r' len' → (r ≡ r') × (len ≡ len')
unfolding header_symbol
header_symbol_determines r r' len len' g h e =
    let c = (shape R.R6).code_rate in
    let sent : (r : Rate) (len : ℕ) → length (punctured c (coded (header r len))) ≡ n_cbps (shape R.R6) =
    λ r len. length_sent c 24 (coded (header r len)) (length_coded 0 (header r len) ∙ (header_parts r len).long) ∙ (regular R.R6).fills in
    header_determines r r' len len' g h
    (punctured_determines (sent_of c) (sent_some c) 0 0 (header r len) (header r' len') (lit< tt) ((header_parts r len).long ∙ sym (header_parts r' len').long)
    (symbol_determines R.R6 (punctured c (coded (header r len))) (punctured c (coded (header r' len'))) (sent r len) (sent r' len') e))

-- ---- all data symbols

same_slices : (N c : ℕ) (xs ys : List Bool) → 0 < c → length xs ≡ N * c → length ys ≡ N * c →
    ((k : ℕ) → k < N → take c (drop (k * c) xs) ≡ take c (drop (k * c) ys)) → xs ≡ ys
same_slices N c xs ys some l k f =
    ext_get_or false xs ys (l ∙ sym k) (λ j h.
    let q = j / c in
    let t = j % c in
    let low : t < c = mod-lt j some in
    let here : q * c + t ≡ j = omega (arith, div-add-mod j c, mul_comm c q) in
    let at : (zs : List Bool) → get_or (take c (drop (q * c) zs)) t false ≡ get_or zs j false =
    λ zs. get_or-take c (drop (q * c) zs) t false low ∙ get_or-drop (q * c) zs t false ∙ ap (λ (i : ℕ). get_or zs i false) here in
    sym (at xs) ∙ ap (λ (zs : List Bool). get_or zs t false) (f q (div_below j c N some (omega arith))) ∙ at ys)

length_sent_bits : (r : Rate) (seed : ℕ) (octets : List ℕ) → length (sent_bits (shape r) seed octets) ≡ symbols (shape r) (length octets) * n_cbps (shape r)
unfolding sent_bits
length_sent_bits r seed octets =
    let s = shape r in
    let d = n_dbps s in
    let N = symbols s (length octets) in
    let bits = data_bits seed octets 0 (N * d) in
    length_sent s.code_rate (N * d) (coded bits) (length_coded 0 bits ∙ length_data_bits seed octets 0 (N * d))
    ∙ count_periods s.code_rate d (regular r).whole N ∙ ap (λ (z : ℕ). N * z) (regular r).fills

length_slice : (N c k : ℕ) (xs : List Bool) → length xs ≡ N * c → k < N → length (take c (drop (k * c) xs)) ≡ c
length_slice N c k xs e h =
    length-take-le c (drop (k * c) xs) (omega (arith, length-drop (k * c) xs, suc-mul k c, mul-le-mul_right {m = suc k} {n = N} c h))

-- the same rate and byte count, and the same data symbols
data_determine : (r : Rate) (seed seed' : ℕ) (octets octets' : List ℕ) → Sendable seed octets → Sendable seed' octets' → length octets ≡ length octets' →
    ((k : ℕ) → k < symbols (shape r) (length octets) → data_symbol (shape r) seed octets k ≡ data_symbol (shape r) seed' octets' k) → (seed ≡ seed') × (octets ≡ octets')
unfolding data_symbol sent_bits
data_determine r seed seed' octets octets' ok ok' long f =
    let s = shape r in
    let c = n_cbps s in
    let N = symbols s (length octets) in
    let T = N * n_dbps s in
    let X = sent_bits s seed octets in
    let Y = sent_bits s seed' octets' in
    let lx : length X ≡ N * c = length_sent_bits r seed octets in
    let ly : length Y ≡ N * c = length_sent_bits r seed' octets' ∙ ap (λ (z : ℕ). symbols s z * c) (sym long) in
    let sent : X ≡ Y =
    same_slices N c X Y (sizes r).some_coded lx ly (λ k h.
    symbol_determines r (take c (drop (k * c) X)) (take c (drop (k * c) Y)) (length_slice N c k X lx h) (length_slice N c k Y ly h) (f k h)) in
    let T' : symbols s (length octets') * n_dbps s ≡ T = ap (λ (z : ℕ). symbols s z * n_dbps s) (sym long) in
    let bits : data_bits seed octets 0 T ≡ data_bits seed' octets' 0 T =
    punctured_determines (sent_of s.code_rate) (sent_some s.code_rate) 0 0 (data_bits seed octets 0 T) (data_bits seed' octets' 0 T) (lit< tt)
    (length_data_bits seed octets 0 T ∙ sym (length_data_bits seed' octets' 0 T))
    (sent ∙ ap (λ (z : ℕ). punctured s.code_rate (coded (data_bits seed' octets' 0 z))) T') in
    let enough : 22 + 8 * length octets ≤ T = (full r (length octets) N (n_dbps s) refl refl).enough in
    let g : seed < 128 = omega (arith, ok.seed_high) in
    let g' : seed' < 128 = omega (arith, ok'.seed_high) in (
      seed_determined seed seed' octets octets' T g g' long ok.are_bytes ok'.are_bytes enough bits,
      bytes_determined seed seed' octets octets' T g g' long ok.are_bytes ok'.are_bytes enough bits,
    )

pub symbols_tell_the_frame : SymbolsTellTheFrame
symbols_tell_the_frame r r' seed seed' octets octets' ok ok' f =
    let h = header_symbol_determines r r' (length octets) (length octets') (omega (arith, ok.length_high)) (omega (arith, ok'.length_high)) (f 0 (omega arith)) in
    let same = data_determine r seed seed' octets octets' ok ok' h.1 (λ k l. f (suc k) (omega arith) ∙ ap (λ (x : Rate). data_symbol (shape x) seed' octets' k) (sym h.0)) in
    (h.0, same.0, same.1)
