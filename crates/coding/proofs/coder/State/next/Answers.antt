use Rattle.std.proofs.Common.{ℕ, ap, ◌∙◌}
use Rattle.coding.specs.Coder.{next_state}
use Rattle.coding.proofs.States.{next_state_is}
use Rattle.coding.proofs.coder.State.next.Goals as goal

pub returns : goal.returns
returns c = next_state_is c.self.inside.bits c.args.bit ∙ ap (λ (s : ℕ). next_state s c.args.bit) c.self.view_is
