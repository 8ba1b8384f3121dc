-- Why the carriers of a symbol are refused: the faults, their numbers, and in which order they are looked for.
use Rattle.std.specs.Prelude.{◌≡◌, ℕ, ◌+◌, ◌<◌, cond, List, [], ◌∷◌, length, Some, None, Ok, Err, Option, Result, ◌==◌, is_nan, slice_index_or}
use Rattle.carriers.specs.declared.carrier.Carrier.{Carrier}
use Rattle.carriers.specs.declared.carrier.Carrier.TheVariants.{Heard, Struck}
use Rattle.carriers.specs.declared.fault.Axis.{Axis}
use Rattle.carriers.specs.declared.fault.Axis.TheVariants.{I, Q}
use Rattle.carriers.specs.declared.fault.CarrierFault.{CarrierFault}
use Rattle.carriers.specs.declared.fault.CarrierFault.TheVariants as CF
use Rattle.carriers.specs.declared.fault.SymbolFault.{SymbolFault}
use Rattle.carriers.specs.declared.fault.SymbolFault.TheVariants as SF

abbrev pub carrier_fault_number : CarrierFault → ℕ
carrier_fault_number (CF.NotANumber place axis) = 7

abbrev pub symbol_fault_number : SymbolFault → ℕ
symbol_fault_number (SF.Count n) = 1
symbol_fault_number (SF.Carrier fault) = carrier_fault_number fault

-- a call is refused by the fault that was found, if any
abbrev pub checked : {F : Type 0} → Option F → Result (Unit {0}) F
checked None = Ok tt
checked (Some fault) = Err fault

-- the axis of a heard carrier on which its coordinate is not a number, I before Q; a struck carrier has none
abbrev pub bad_axis : Carrier → Option Axis
bad_axis (Heard p) = cond (is_nan p.i) (Some I) (cond (is_nan p.q) (Some Q) None)
bad_axis Struck = None

-- the carrier at place n is named if it has one, and else a later one
abbrev pub named : ℕ → Option Axis → Option CarrierFault → Option CarrierFault
named n (Some axis) later = Some (CF.NotANumber n axis)
named n None later = later

-- the first carrier that has one, the first of the list standing at place n
unfoldable pub first_bad : ℕ → List Carrier → Option CarrierFault
first_bad n [] = None
first_bad n (c ∷ cs) = named n (bad_axis c) (first_bad (n + 1) cs)

abbrev pub carrier_fault : List Carrier → Option CarrierFault
carrier_fault cs = first_bad 0 cs

-- what that comes to: the carrier that is named has this axis, and no carrier before it has any; with none named, none has
abbrev pub FirstNamed : List Carrier → Option CarrierFault → Type 0
FirstNamed cs None = (k : ℕ) → k < length cs → bad_axis (slice_index_or cs k Struck) ≡ None
FirstNamed cs (Some (CF.NotANumber n axis)) =
    (n < length cs) × (bad_axis (slice_index_or cs n Struck) ≡ Some axis) × ((k : ℕ) → k < n → bad_axis (slice_index_or cs k Struck) ≡ None)

-- a carrier's fault as one of the symbol
abbrev pub of_carrier : Option CarrierFault → Option SymbolFault
of_carrier None = None
of_carrier (Some fault) = Some (SF.Carrier fault)

-- first the number of carriers, then the carriers
abbrev pub symbol_fault : List Carrier → Option SymbolFault
symbol_fault cs = cond (length cs == 48) (of_carrier (carrier_fault cs)) (Some (SF.Count (length cs)))
