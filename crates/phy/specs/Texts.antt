-- What a refusal prints.
use Rattle.std.specs.Prelude.{ℕ, List, ◌++◌, codes}
use Rattle.std.specs.Fmt.{decimal}
use Rattle.frame.specs.Texts.{unknown_rate_text}
use Rattle.carriers.specs.declared.fault.SymbolFault.TheVariants as SF
use Rattle.carriers.specs.Texts.{symbol_fault_text}
use Rattle.phy.specs.declared.fault.SendFault.{SendFault}
use Rattle.phy.specs.declared.fault.SendFault.TheVariants as F
use Rattle.phy.specs.declared.fault.ListenFault.{ListenFault}
use Rattle.phy.specs.declared.fault.ListenFault.TheVariants as L

abbrev pub send_fault_text : SendFault → List ℕ
send_fault_text (F.Rate number) = unknown_rate_text (record { number = number })
send_fault_text (F.Seed seed) = codes "the seed " ++ decimal seed ++ codes " is outside 1 to 127"
send_fault_text (F.Length count) = decimal count ++ codes " bytes: a frame holds 1 to 4095 bytes"
send_fault_text F.Over = codes "the sending is over"
send_fault_text (F.Carriers count) = symbol_fault_text (SF.Count count)

abbrev pub listen_fault_text : ListenFault → List ℕ
listen_fault_text (L.Symbol fault) = symbol_fault_text fault
