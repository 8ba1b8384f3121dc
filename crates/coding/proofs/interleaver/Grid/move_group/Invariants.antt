use Rattle.std.proofs.Common.{◌+◌, ◌*◌}
use Rattle.coding.specs.Interleaver.{Moved}
use Rattle.coding.proofs.Deinterleaving.{flag}
use Rattle.coding.proofs.interleaver.Grid.move_group.Given as goal

abbrev pub invariant-loop-t : goal.invariant-loop-t
invariant-loop-t g l =
    Moved (flag g.row.BACK) g.row.COLUMNS g.row.TURN l.self.from.now l.initial.to (g.row.TURN * (g.row.GROUPS * l.column + l.group)) →
    Moved (flag g.row.BACK) g.row.COLUMNS g.row.TURN l.self.from.now l.to (g.row.TURN * (g.row.GROUPS * l.column + l.group) + l.t)
