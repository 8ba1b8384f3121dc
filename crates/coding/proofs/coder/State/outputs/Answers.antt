use Rattle.std.proofs.Common.{ℕ, ap, ◌∙◌}
use Rattle.coding.specs.Coder.{outputs}
use Rattle.coding.proofs.States.{outputs_are}
use Rattle.coding.proofs.coder.State.outputs.Goals as goal

pub returns : goal.returns
returns c = outputs_are c.self.inside.bits c.args.bit ∙ ap (λ (s : ℕ). outputs s c.args.bit) c.self.view_is
