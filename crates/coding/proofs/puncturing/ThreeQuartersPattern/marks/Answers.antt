use Rattle.coding.proofs.Punctured.{marks_three_quarters}
use Rattle.coding.proofs.puncturing.ThreeQuartersPattern.marks.Goals as goal

pub returns : goal.returns
returns c = marks_three_quarters c.args.t c.requires
