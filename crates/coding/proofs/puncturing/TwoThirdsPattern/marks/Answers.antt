use Rattle.coding.proofs.Punctured.{marks_two_thirds}
use Rattle.coding.proofs.puncturing.TwoThirdsPattern.marks.Goals as goal

pub returns : goal.returns
returns c = marks_two_thirds c.args.t c.requires
