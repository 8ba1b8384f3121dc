-- A symbol's coded bits, coded from the state before it, are its part of the whole frame's.
use Rattle.std.proofs.Common.{◌≡◌, ℕ, suc, ◌+◌, ◌-◌, ◌*◌, ◌<◌, ◌≤◌, Bool, List, ◌++◌, length, take, drop, sym, ap, ◌∙◌, mul-le-mul_right, suc-mul, zero-add, arith}
use Rattle.std.proofs.lemmas.List.{take_at, drop_at}
use Rattle.frame.specs.Rate.{Shape, n_cbps, n_dbps}
use Rattle.frame.specs.Data.{symbols, data_bits}
use Rattle.frame.proofs.DataBits.{data_bits_append, length_data_bits}
use Rattle.coding.specs.Coder.{coded, coded_from, state_from}
use Rattle.coding.specs.Puncturing.{sent_of, punctured, punctured_from}
use Rattle.coding.proofs.States.{coded_append, length_coded}
use Rattle.coding.proofs.Punctured.{punctured_append, punctured_again, length_sent, sent_again, count_periods}
use Rattle.phy.specs.Symbols.{sent_bits}
use Rattle.phy.proofs.Shapes.{Regular}

-- over any row of bits a, b, e: what is sent of b, where a is k whole symbols and b one
module _ (s : Shape) (regular : Regular s) (k : ℕ) (a b e : List Bool) (before : length a ≡ k * n_dbps s) (one : length b ≡ n_dbps s) where
  pub sliced : punctured s.code_rate (coded_from (state_from 0 a) b) ≡ take (n_cbps s) (drop (k * n_cbps s) (punctured s.code_rate (coded (a ++ (b ++ e)))))
  sliced =
      let c = s.code_rate in
      let d = n_dbps s in
      let A = coded a in
      let B = coded_from (state_from 0 a) b in
      let E = coded_from (state_from (state_from 0 a) b) e in
      let split : coded (a ++ (b ++ e)) ≡ A ++ (B ++ E) = coded_append 0 a (b ++ e) ∙ ap (λ z. A ++ z) (coded_append (state_from 0 a) b e) in
      let la : length A ≡ k * d = length_coded 0 a ∙ before in
      let lb : length B ≡ d = length_coded (state_from 0 a) b ∙ one in
      let counted : length (punctured c A) ≡ k * n_cbps s = length_sent c (k * d) A la ∙ count_periods c d regular.whole k ∙ ap (λ (z : ℕ). k * z) regular.fills in
      let tail : punctured_from (sent_of c) (0 + length A) (B ++ E) ≡ punctured c B ++ punctured_from (sent_of c) (0 + length B) E =
      ap (λ (z : ℕ). punctured_from (sent_of c) z (B ++ E)) (let p : 0 + length A ≡ k * d + 0 = omega arith in p)
      ∙ punctured_again (sent_of c) (k * d) (sent_again c d regular.whole k) 0 (B ++ E) ∙ punctured_append (sent_of c) 0 B E in
      let all : punctured c (coded (a ++ (b ++ e))) ≡ punctured c A ++ (punctured c B ++ punctured_from (sent_of c) (0 + length B) E) =
      ap (punctured c) split ∙ punctured_append (sent_of c) 0 A (B ++ E) ∙ ap (λ (z : List Bool). punctured c A ++ z) tail in
      sym (ap (λ (z : List Bool). take (n_cbps s) (drop (k * n_cbps s) z)) all
      ∙ ap (take (n_cbps s)) (drop_at (punctured c A) (punctured c B ++ punctured_from (sent_of c) (0 + length B) E) (k * n_cbps s) counted)
      ∙ take_at (punctured c B) (punctured_from (sent_of c) (0 + length B) E) (n_cbps s) (length_sent c d B lb ∙ regular.fills))

-- the data bits before symbol k, its own, and those after it
pub frame_split : (s : Shape) (seed : ℕ) (octets : List ℕ) (k : ℕ) → k < symbols s (length octets) →
    data_bits seed octets 0 (symbols s (length octets) * n_dbps s)
    ≡ data_bits seed octets 0 (k * n_dbps s) ++ (data_bits seed octets (k * n_dbps s) (n_dbps s) ++ data_bits seed octets (k * n_dbps s + n_dbps s) (symbols s (length octets) * n_dbps s - (k * n_dbps s + n_dbps s)))
frame_split s seed octets k h =
    let d = n_dbps s in
    let all = symbols s (length octets) * d in
    let m = k * d in
    let rest = all - (m + d) in
    let fits : m + d ≤ all = omega (arith, suc-mul k d, mul-le-mul_right {m = suc k} {n = symbols s (length octets)} d h) in
    let parts : m + (d + rest) ≡ all = omega arith in
    let a = data_bits seed octets 0 m in
    ap (data_bits seed octets 0) (sym parts) ∙ data_bits_append seed octets 0 m (d + rest)
    ∙ ap (λ (z : ℕ). a ++ data_bits seed octets z (d + rest)) (zero-add m) ∙ ap (λ (z : List Bool). a ++ z) (data_bits_append seed octets m d rest)

pub sliced_frame : (s : Shape) (regular : Regular s) (seed : ℕ) (octets : List ℕ) (k : ℕ) → k < symbols s (length octets) →
    punctured s.code_rate (coded_from (state_from 0 (data_bits seed octets 0 (k * n_dbps s))) (data_bits seed octets (k * n_dbps s) (n_dbps s)))
    ≡ take (n_cbps s) (drop (k * n_cbps s) (sent_bits s seed octets))
unfolding sent_bits
sliced_frame s regular seed octets k h =
    let d = n_dbps s in
    let m = k * d in
    sliced s regular k (data_bits seed octets 0 m) (data_bits seed octets m d) (data_bits seed octets (m + d) (symbols s (length octets) * d - (m + d)))
    (length_data_bits seed octets 0 m) (length_data_bits seed octets m d)
    ∙ ap (λ (z : List Bool). take (n_cbps s) (drop (k * n_cbps s) (punctured s.code_rate (coded z)))) (sym (frame_split s seed octets k h))
