-- What was sent of a frame is heard: the law of demodulating, over the symbols that a sending writes.
use Rattle.std.specs.Prelude.{◌≡◌, ℕ, zero, suc, ◌*◌, ◌<◌, Bool, false, List, length, take, drop, None, slice_index_or}
use Rattle.frame.specs.declared.rate.Rate.{Rate}
use Rattle.frame.specs.declared.rate.Rate.TheVariants.{R6}
use Rattle.frame.specs.Rate.{Shape, shape, n_dbps}
use Rattle.frame.specs.Header.{header}
use Rattle.frame.specs.Data.{symbols, data_bits}
use Rattle.coding.specs.Coder.{coded}
use Rattle.carriers.specs.declared.carrier.Carrier.{Carrier}
use Rattle.carriers.specs.declared.soft.SoftBit.TheVariants.{Absent}
use Rattle.carriers.specs.Received.{Received}
use Rattle.phy.specs.Fault.{listening_fault}
use Rattle.phy.specs.Symbols.{sent_symbol, symbols_in_all}
use Rattle.phy.specs.Demodulation.{demodulated, PairTold}

-- the shape of symbol n: the header goes by the rules of rate 6
abbrev pub shape_of : Rate → ℕ → Shape
shape_of r zero = shape R6
shape_of r (suc k) = shape r

-- the coder's outputs for symbol n: those of the header, or the next N_DBPS of all data bits'
abbrev pub coded_pairs : Rate → ℕ → List ℕ → ℕ → List (Bool × Bool)
coded_pairs r seed octets zero = coded (header r (length octets))
coded_pairs r seed octets (suc k) =
    take (n_dbps (shape r)) (drop (k * n_dbps (shape r)) (coded (data_bits seed octets 0 (symbols (shape r) (length octets) * n_dbps (shape r)))))

-- symbol n of any frame, every carrier as sent or struck out: it is not refused, and each output of the coder is told
abbrev pub SentSymbolsAreHeard : Type 0
SentSymbolsAreHeard =
    (r : Rate) (seed : ℕ) (octets : List ℕ) (n : ℕ) (carriers : List Carrier) → n < symbols_in_all r (length octets) → Received (sent_symbol r seed octets n) carriers →
    (listening_fault carriers ≡ None) ×
    ((i : ℕ) → i < n_dbps (shape_of r n) →
    PairTold (shape_of r n) carriers i (slice_index_or (coded_pairs r seed octets n) i (false, false)) (slice_index_or (demodulated (shape_of r n) carriers) i (Absent, Absent)))
