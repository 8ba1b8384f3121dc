use Rattle.std.proofs.Common.{◌*◌}
use Rattle.coding.specs.Interleaver.{Moved}
use Rattle.coding.proofs.Deinterleaving.{flag}
use Rattle.coding.proofs.interleaver.Grid.move_all.Given as goal

abbrev pub invariant-loop-column : goal.invariant-loop-column
invariant-loop-column g l = Moved (flag g.row.BACK) g.row.COLUMNS g.row.TURN l.self.from.now l.to (g.row.TURN * (g.row.GROUPS * l.column))
