-- The symbols of a frame, demodulated.
use Rattle.std.proofs.Common.{◌≡◌, ℕ, zero, suc, ◌+◌, ◌-◌, ◌*◌, ◌<◌, Bool, false, List, ◌++◌, length, get_or, take, drop, sym, ap, ◌∙◌, subst, arith}
use Rattle.std.proofs.lemmas.List.{take_at, drop_at}
use Rattle.frame.specs.declared.rate.Rate.TheVariants.{R6}
use Rattle.frame.specs.Rate.{Shape, shape, n_dbps}
use Rattle.frame.specs.Header.{header}
use Rattle.frame.specs.Data.{symbols, data_bits}
use Rattle.frame.proofs.DataBits.{length_data_bits}
use Rattle.frame.proofs.HeaderBits.{header_parts}
use Rattle.coding.specs.Coder.{coded, coded_from, state_from}
use Rattle.coding.specs.Puncturing.{punctured}
use Rattle.coding.proofs.States.{coded_append, length_coded}
use Rattle.carriers.specs.declared.soft.SoftBit.TheVariants.{Absent}
use Rattle.carriers.specs.Received.{Received}
use Rattle.phy.specs.Symbols.{symbol_of, header_symbol, data_symbol}
use Rattle.phy.specs.Demodulation.{demodulated, PairTold}
use Rattle.phy.specs.Hearing.{SentSymbolsAreHeard}
use Rattle.phy.proofs.Shapes.{regular}
use Rattle.phy.proofs.Slices.{frame_split, sliced_frame}
use Rattle.phy.proofs.Demodulating.{received_is_heard, pairs_told}

-- the data bits before symbol k, its own and those after it
module _ (s : Shape) (seed : ℕ) (octets : List ℕ) (k : ℕ) (h : k < symbols s (length octets)) where
  own_pairs : List (Bool × Bool)
  own_pairs = coded_from (state_from 0 (data_bits seed octets 0 (k * n_dbps s))) (data_bits seed octets (k * n_dbps s) (n_dbps s))

  length_own : length own_pairs ≡ n_dbps s
  unfolding own_pairs
  length_own = length_coded _ (data_bits seed octets (k * n_dbps s) (n_dbps s)) ∙ length_data_bits seed octets (k * n_dbps s) (n_dbps s)

  -- they are its part of the whole frame's
  own_part : own_pairs ≡ take (n_dbps s) (drop (k * n_dbps s) (coded (data_bits seed octets 0 (symbols s (length octets) * n_dbps s))))
  unfolding own_pairs
  own_part =
      let d = n_dbps s in
      let m = k * d in
      let a = data_bits seed octets 0 m in
      let b = data_bits seed octets m d in
      let e = data_bits seed octets (m + d) (symbols s (length octets) * d - (m + d)) in
      let B = coded_from (state_from 0 a) b in
      let E = coded_from (state_from (state_from 0 a) b) e in
      let split : coded (data_bits seed octets 0 (symbols s (length octets) * d)) ≡ coded a ++ (B ++ E) =
      ap coded (frame_split s seed octets k h) ∙ coded_append 0 a (b ++ e) ∙ ap (λ (z : List (Bool × Bool)). coded a ++ z) (coded_append (state_from 0 a) b e) in
      sym (ap (λ (z : List (Bool × Bool)). take d (drop m z)) split
      ∙ ap (take d) (drop_at (coded a) (B ++ E) m (length_coded 0 a ∙ length_data_bits seed octets 0 m)) ∙ take_at B E d length_own)

pub sent_symbols_are_heard : SentSymbolsAreHeard
unfolding header_symbol data_symbol own_pairs
sent_symbols_are_heard r seed octets zero cs h got =
    let pairs = coded (header r (length octets)) in (
      received_is_heard R6 (punctured (shape R6).code_rate pairs) cs got,
      pairs_told R6 pairs cs (length_coded 0 (header r (length octets)) ∙ (header_parts r (length octets)).long) got,
    )
sent_symbols_are_heard r seed octets (suc k) cs h got =
    let s = shape r in
    let here : k < symbols s (length octets) = omega arith in
    let pairs = own_pairs s seed octets k here in
    let sent : Received (symbol_of s (punctured s.code_rate pairs)) cs =
    subst (λ (bits : List Bool). Received (symbol_of s bits) cs) (sym (sliced_frame s (regular r) seed octets k here)) got in (
      received_is_heard r (punctured s.code_rate pairs) cs sent,
      λ i l. subst (λ (ps : List (Bool × Bool)). PairTold s cs i (get_or ps i (false, false)) (get_or (demodulated s cs) i (Absent, Absent))) (own_part s seed octets k here)
          (pairs_told r pairs cs (length_own s seed octets k here) sent i l),
    )
