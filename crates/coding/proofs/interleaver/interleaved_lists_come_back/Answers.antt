use Rattle.coding.proofs.Deinterleaving.{comes_back}
use Rattle.coding.proofs.interleaver.interleaved_lists_come_back.Goals as goal

pub returns : goal.returns
returns g c = comes_back
