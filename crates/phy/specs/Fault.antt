-- The faults of the calls: their numbers, and in which order they are looked for.
use Rattle.std.specs.Prelude.{ℕ, cond, ◌||◌, List, Some, None, Option, ◌==◌, nat_lt}
use Rattle.frame.specs.declared.rate.Rate.{Rate}
use Rattle.frame.specs.Rate.{rate_of}
use Rattle.carriers.specs.declared.carrier.Carrier.{Carrier}
use Rattle.carriers.specs.declared.fault.Axis.{Axis}
use Rattle.carriers.specs.declared.fault.CarrierFault.{CarrierFault}
use Rattle.carriers.specs.declared.fault.CarrierFault.TheVariants as CF
use Rattle.carriers.specs.declared.fault.SymbolFault.{SymbolFault}
use Rattle.carriers.specs.declared.fault.SymbolFault.TheVariants as SF
use Rattle.carriers.specs.Fault.{symbol_fault_number, symbol_fault}
use Rattle.phy.specs.declared.fault.SendFault.{SendFault}
use Rattle.phy.specs.declared.fault.SendFault.TheVariants as F
use Rattle.phy.specs.declared.fault.ListenFault.{ListenFault}
use Rattle.phy.specs.declared.fault.ListenFault.TheVariants as L

abbrev pub send_fault_number : SendFault → ℕ
send_fault_number (F.Carriers n) = 1
send_fault_number (F.Seed seed) = 13
send_fault_number (F.Length length) = 14
send_fault_number F.Over = 15
send_fault_number (F.Rate number) = 16

-- why making a sending is refused, if it is: the rate is looked at first, then the seed, then the byte count
abbrev pub making_refused_at : Option Rate → ℕ → ℕ → ℕ → Option SendFault
making_refused_at None number seed length = Some (F.Rate number)
making_refused_at (Some r) number seed length =
    cond (seed == 0 || nat_lt 127 seed) (Some (F.Seed seed)) (cond (length == 0 || nat_lt 4095 length) (Some (F.Length length)) None)

abbrev pub making_refused : ℕ → ℕ → ℕ → Option SendFault
making_refused number seed length = making_refused_at (rate_of number) number seed length

-- why the next symbol is refused, if it is, after n of `all` symbols: first the end of the sending, then the slice's length
abbrev pub symbol_refused : ℕ → ℕ → ℕ → Option SendFault
symbol_refused n all length = cond (nat_lt n all) (cond (length == 48) None (Some (F.Carriers length))) (Some F.Over)

-- the faults of listening
abbrev pub listen_fault_number : ListenFault → ℕ
listen_fault_number (L.Symbol fault) = symbol_fault_number fault

-- the carrier and the axis that a fault names, if it names one
abbrev pub carrier_named_by : CarrierFault → ℕ × Axis
carrier_named_by (CF.NotANumber place axis) = (place, axis)

abbrev pub carrier_named : ListenFault → Option (ℕ × Axis)
carrier_named (L.Symbol (SF.Count n)) = None
carrier_named (L.Symbol (SF.Carrier fault)) = Some (carrier_named_by fault)

-- a symbol's fault as one of the listening
abbrev pub of_symbol : Option SymbolFault → Option ListenFault
of_symbol None = None
of_symbol (Some fault) = Some (L.Symbol fault)

-- why the carriers of a symbol are refused, if they are
abbrev pub listening_fault : List Carrier → Option ListenFault
listening_fault carriers = of_symbol (symbol_fault carriers)
