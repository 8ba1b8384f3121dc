use Rattle.coding.proofs.Punctured.{marks_half}
use Rattle.coding.proofs.puncturing.HalfPattern.marks.Goals as goal

pub returns : goal.returns
returns c = marks_half c.args._t c.requires
