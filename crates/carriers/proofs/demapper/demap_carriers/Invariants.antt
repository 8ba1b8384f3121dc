use Rattle.std.proofs.Common.{◌≡◌, ◌*◌, take}
use Rattle.carriers.specs.Demapper.{demapped}
use Rattle.carriers.proofs.demapper.demap_carriers.Given as goal

abbrev pub invariant-loop-n : goal.invariant-loop-n
invariant-loop-n g l = take (g.row.BITS * l.n) l.out ≡ demapped l.modulation (take l.n l.carriers)
