-- The symbols of a frame: the header and then the data, from the whole frame's bits.
use Rattle.std.specs.Prelude.{ℕ, zero, suc, ◌+◌, ◌*◌, Bool, false, List, length, take, drop}
use Rattle.frame.specs.declared.rate.Rate.{Rate}
use Rattle.frame.specs.declared.rate.Rate.TheVariants.{R6}
use Rattle.frame.specs.Rate.{Shape, shape, n_cbps, n_dbps}
use Rattle.frame.specs.Header.{header}
use Rattle.frame.specs.Data.{symbols, data_bits}
use Rattle.coding.specs.Coder.{coded}
use Rattle.coding.specs.Puncturing.{punctured}
use Rattle.coding.specs.Interleaver.{interleaved, turn_size}
use Rattle.carriers.specs.declared.carrier.Carrier.{Carrier}
use Rattle.carriers.specs.Mapper.{mapped}

-- the carriers of a symbol with these coded bits
abbrev pub symbol_of : Shape → List Bool → List Carrier
symbol_of s bits = mapped s.modulation s.carriers (interleaved false s.columns (turn_size s.modulation) bits)

-- the header is not scrambled, and sent by the rules of rate 6
unfoldable pub header_symbol : Rate → ℕ → List Carrier
header_symbol r length = symbol_of (shape R6) (punctured (shape R6).code_rate (coded (header r length)))

-- all coded bits that are sent of the data: every symbol's data bits through one run of the coder, punctured
unfoldable pub sent_bits : Shape → ℕ → List ℕ → List Bool
sent_bits s seed octets = punctured s.code_rate (coded (data_bits seed octets 0 (symbols s (length octets) * n_dbps s)))

-- data symbol k, from 0, holds the next N_CBPS of them
unfoldable pub data_symbol : Shape → ℕ → List ℕ → ℕ → List Carrier
data_symbol s seed octets k = symbol_of s (take (n_cbps s) (drop (k * n_cbps s) (sent_bits s seed octets)))

-- symbol n of the frame: the header first, then the N_SYM data symbols
abbrev pub sent_symbol : Rate → ℕ → List ℕ → ℕ → List Carrier
sent_symbol r seed octets zero = header_symbol r (length octets)
sent_symbol r seed octets (suc k) = data_symbol (shape r) seed octets k

-- how many that is
abbrev pub symbols_in_all : Rate → ℕ → ℕ
symbols_in_all r length = symbols (shape r) length + 1
