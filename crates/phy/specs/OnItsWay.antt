-- A frame on its way: what a caller sees of a sending, and what its calls do.
use Rattle.std.specs.Prelude.{◌≡◌, ℕ, ◌+◌, List, length, Some, None, Ok, Err, Option, Result}
use Rattle.frame.specs.declared.rate.Rate.{Rate}
use Rattle.frame.specs.Rate.{rate_of}
use Rattle.carriers.specs.declared.carrier.Carrier.{Carrier}
use Rattle.phy.specs.declared.fault.SendFault.{SendFault}
use Rattle.phy.specs.Fault.{making_refused, symbol_refused}
use Rattle.phy.specs.Symbols.{sent_symbol, symbols_in_all}

-- the frame of these octets, and how many of its symbols were written, the header being the first
pub record OnItsWay : Type 0 where
  pub rate : Rate
  pub seed : ℕ
  pub octets : List ℕ
  pub written : ℕ

-- none of them was
abbrev pub unwritten : Rate → ℕ → List ℕ → OnItsWay
unwritten r seed octets = record { rate = r; seed = seed; octets = octets; written = 0 }

-- one more was
abbrev pub one_further : OnItsWay → OnItsWay
one_further f = record f { written = f.written + 1 }

-- how many it has in all
abbrev pub all_symbols : OnItsWay → ℕ
all_symbols f = symbols_in_all f.rate (length f.octets)

-- the carriers of the next one
abbrev pub next_symbol : OnItsWay → List Carrier
next_symbol f = sent_symbol f.rate f.seed f.octets f.written

-- why writing it over so many carriers is refused, if it is
abbrev pub next_refused : OnItsWay → ℕ → Option SendFault
next_refused f many = symbol_refused f.written (all_symbols f) many

-- making a sending: it is refused as the faults say, and by no other rule, or it is this frame's, with nothing written
abbrev pub Made : ℕ → ℕ → List ℕ → Result OnItsWay SendFault → Type 0
Made number seed octets (Ok f) = (making_refused number seed (length octets) ≡ None) × (rate_of number ≡ Some f.rate) × (f ≡ unwritten f.rate seed octets)
Made number seed octets (Err fault) = making_refused number seed (length octets) ≡ Some fault

-- the next symbol: it is refused as the faults say, and then nothing was written and the frame is where it was;
-- or the carriers are those of the frame's next symbol, and it is one further
abbrev pub Wrote : OnItsWay → List Carrier → Result (Unit {0}) SendFault → OnItsWay → List Carrier → Type 0
Wrote f out (Ok _) f' out' = (next_refused f (length out) ≡ None) × (out' ≡ next_symbol f) × (f' ≡ one_further f)
Wrote f out (Err fault) f' out' = (next_refused f (length out) ≡ Some fault) × (out' ≡ out) × (f' ≡ f)
