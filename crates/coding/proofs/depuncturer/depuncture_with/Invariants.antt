use Rattle.std.proofs.Common.{◌*◌}
use Rattle.coding.specs.Depuncturing.{Restored}
use Rattle.coding.proofs.depuncturer.depuncture_with.Given as goal

abbrev pub invariant-loop-k : goal.invariant-loop-k
invariant-loop-k g l = Restored l.hole g.P.Pattern.code_rate l.sent l.out (l.k * l.in_pairs)
