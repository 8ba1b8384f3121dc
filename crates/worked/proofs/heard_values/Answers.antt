use Rattle.std.proofs.Common.{refl}
use lib.Ieee.{of_int, round}
use Rattle.carriers.specs.Demapper.{quantised}
use Rattle.worked.specs.Table.{same, all_same}
use Rattle.worked.specs.HeardTable.{heard_table}
use Rattle.worked.proofs.heard_values.Goals as goal

pub returns : goal.returns
unfolding heard_table same all_same of_int round quantised
returns c = refl
