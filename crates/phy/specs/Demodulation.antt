-- What the carriers of a symbol say of its coded bits: for each data bit a pair, of A and of B, in the coder's order.
use Rattle.std.specs.Prelude.{◌≡◌, ℕ, ◌+◌, ◌/◌, ◌<◌, Bool, true, false, List, ◌++◌, length, drop, Some, None, Ok, Err, Result, slice_index_or}
use Rattle.frame.specs.declared.rate.Mode.{Mode}
use Rattle.frame.specs.Bits.{bit_of}
use Rattle.frame.specs.Rate.{Shape, shaped, n_bpsc, n_cbps, n_dbps}
use Rattle.coding.specs.Puncturing.{sent_of, sent_count, punctured}
use Rattle.coding.specs.Depuncturing.{depunctured}
use Rattle.coding.specs.Interleaver.{place, deinterleaved, turn_size}
use Rattle.carriers.specs.declared.carrier.Carrier.{Carrier}
use Rattle.carriers.specs.declared.carrier.Carrier.TheVariants.{Struck}
use Rattle.carriers.specs.declared.soft.SoftBit.{SoftBit}
use Rattle.carriers.specs.declared.soft.SoftBit.TheVariants.{Absent}
use Rattle.carriers.specs.Values.{Legal}
use Rattle.carriers.specs.Demapper.{demapped}
use Rattle.carriers.specs.Fault.{carrier_fault}
use Rattle.carriers.specs.Received.{Received, Tells}
use Rattle.phy.specs.declared.fault.ListenFault.{ListenFault}
use Rattle.phy.specs.Fault.{listening_fault}
use Rattle.phy.specs.Symbols.{symbol_of}
use Rattle.phy.specs.Writing.{Fills}

-- demapped, deinterleaved and depunctured: every bit of a struck carrier is absent, and so is every stolen bit
unfoldable pub demodulated : Shape → List Carrier → List (SoftBit × SoftBit)
demodulated s carriers =
    depunctured Absent s.code_rate (n_dbps s) (deinterleaved Absent s.columns (turn_size s.modulation) (demapped s.modulation carriers))

-- ---- the law: what was sent is heard

-- the carrier that holds coded bit k of a symbol
abbrev pub carrier_of : Shape → ℕ → ℕ
carrier_of s k = place s.columns (n_cbps s) (turn_size s.modulation) k / n_bpsc s.modulation

-- one output of the coder, A or B: stolen, it is absent; sent as coded bit k of the symbol, it is as its carrier tells
abbrev pub OutputTold : Shape → List Carrier → Bool → ℕ → Bool → SoftBit → Type 0
OutputTold s carriers false k bit soft = soft ≡ Absent
OutputTold s carriers true k bit soft = Tells bit (slice_index_or carriers (carrier_of s k) Struck) soft

-- both outputs of the coder's pair i
pub record PairTold (s : Shape) (carriers : List Carrier) (i : ℕ) (pair : Bool × Bool) (heard : SoftBit × SoftBit) : Type 0 where
  pub a : OutputTold s carriers (sent_of s.code_rate i).0 (sent_count s.code_rate i) pair.0 heard.0
  pub b : OutputTold s carriers (sent_of s.code_rate i).1 (sent_count s.code_rate i + bit_of (sent_of s.code_rate i).0) pair.1 heard.1

-- ---- the call

-- what the functions below the call ask of the 48 carriers: all of them numbers, and room for just the n pairs of the symbol
pub record Ready (m : Mode) (carriers : List Carrier) (n : ℕ) : Type 0 where
  pub numbers : carrier_fault carriers ≡ None
  pub fills : Fills m n
  pub just : n ≡ n_dbps (shaped m)

-- refused as the faults say, and then nothing was written; or the first N_DBPS pairs are the symbol's, and the others what they were
abbrev pub Answered : Shape → List Carrier → Result (Unit {0}) ListenFault → List (SoftBit × SoftBit) → List (SoftBit × SoftBit) → Type 0
Answered s carriers (Ok _) out out' = (listening_fault carriers ≡ None) × (out' ≡ demodulated s carriers ++ drop (n_dbps s) out)
Answered s carriers (Err fault) out out' = (listening_fault carriers ≡ Some fault) × (out' ≡ out)

pub record Demodulates (s : Shape) (carriers : List Carrier) (r : Result (Unit {0}) ListenFault) (out out' : List (SoftBit × SoftBit)) : Type 0 where
  pub answer : Answered s carriers r out out'
  -- no value passes the limit
  pub legal : r ≡ Ok tt → (i : ℕ) → i < n_dbps s → Legal (slice_index_or out' i (Absent, Absent)).0 × Legal (slice_index_or out' i (Absent, Absent)).1
  -- carriers of a sent symbol, each as sent or struck out, are never refused, and tell every bit that was sent on those heard
  pub told : (pairs : List (Bool × Bool)) → length pairs ≡ n_dbps s → Received (symbol_of s (punctured s.code_rate pairs)) carriers →
      (r ≡ Ok tt) × ((i : ℕ) → i < n_dbps s → PairTold s carriers i (slice_index_or pairs i (false, false)) (slice_index_or out' i (Absent, Absent)))
