use Rattle.coding.proofs.Depuncturing.{depuncturing_undoes}
use Rattle.coding.proofs.depuncturer.puncturing_is_undone.Goals as goal

pub returns : goal.returns
returns g c = depuncturing_undoes
