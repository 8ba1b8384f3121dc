use Rattle.coding.proofs.Interleaving.{undone}
use Rattle.coding.proofs.interleaver.interleaving_is_undone.Goals as goal

pub returns : goal.returns
returns c = undone
