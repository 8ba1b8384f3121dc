use Rattle.phy.proofs.Tells.{symbols_tell_the_frame}
use Rattle.phy.proofs.telling.symbols_tell_the_frame.Goals as goal

pub returns : goal.returns
returns c = symbols_tell_the_frame
