-- What a fault of a symbol's carriers prints.
use Rattle.std.specs.Prelude.{ℕ, List, ◌++◌, codes}
use Rattle.std.specs.Fmt.{decimal}
use Rattle.carriers.specs.declared.fault.Axis.{Axis}
use Rattle.carriers.specs.declared.fault.Axis.TheVariants.{I, Q}
use Rattle.carriers.specs.declared.fault.CarrierFault.{CarrierFault}
use Rattle.carriers.specs.declared.fault.CarrierFault.TheVariants as CF
use Rattle.carriers.specs.declared.fault.SymbolFault.{SymbolFault}
use Rattle.carriers.specs.declared.fault.SymbolFault.TheVariants as SF

abbrev pub axis_text : Axis → List ℕ
axis_text I = codes "I"
axis_text Q = codes "Q"

abbrev pub carrier_fault_text : CarrierFault → List ℕ
carrier_fault_text (CF.NotANumber place axis) = axis_text axis ++ codes " of carrier " ++ decimal place ++ codes " is not a number"

abbrev pub symbol_fault_text : SymbolFault → List ℕ
symbol_fault_text (SF.Count n) = decimal n ++ codes " carriers: a symbol has 48"
symbol_fault_text (SF.Carrier fault) = carrier_fault_text fault
