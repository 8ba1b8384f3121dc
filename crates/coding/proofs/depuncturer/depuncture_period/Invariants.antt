use Rattle.std.proofs.Common.{◌≡◌}
use Rattle.coding.specs.Puncturing.{sent_count}
use Rattle.coding.specs.Depuncturing.{Restored}
use Rattle.coding.proofs.depuncturer.depuncture_period.Given as goal

abbrev pub invariant-loop-t : goal.invariant-loop-t
invariant-loop-t g l = (l.at ≡ sent_count g.P.Pattern.code_rate l.t) × Restored l.hole g.P.Pattern.code_rate l.sent l.out l.t
