-- No two frames have the same symbols: the symbols tell the rate, the seed and the bytes.
use Rattle.std.specs.Prelude.{◌≡◌, ℕ, ◌<◌, ◌≤◌, List, length, slice_index}
use Rattle.frame.specs.declared.rate.Rate.{Rate}
use Rattle.phy.specs.Symbols.{sent_symbol, symbols_in_all}

-- a seed and bytes that can be sent
pub record Sendable (seed : ℕ) (octets : List ℕ) : Type 0 where
  pub seed_low : 1 ≤ seed
  pub seed_high : seed ≤ 127
  pub length_low : 1 ≤ length octets
  pub length_high : length octets ≤ 4095
  pub are_bytes : (i : ℕ) → slice_index octets i < 256

abbrev pub SymbolsTellTheFrame : Type 0
SymbolsTellTheFrame =
    (r r' : Rate) (seed seed' : ℕ) (octets octets' : List ℕ) → Sendable seed octets → Sendable seed' octets' →
    ((n : ℕ) → n < symbols_in_all r (length octets) → sent_symbol r seed octets n ≡ sent_symbol r' seed' octets' n) →
    (r ≡ r') × (seed ≡ seed') × (octets ≡ octets')
