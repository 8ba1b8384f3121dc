use Rattle.std.proofs.Common.{◌≡◌, ℕ, false, ap, ◌∙◌, rules, arith}
use Rattle.coding.specs.Coder.{next_state}
use Rattle.phy.proofs.InStep.{starts}
use Rattle.phy.proofs.sending.Sending.new.Goals as goal

-- a zero after zeros leaves zeros
zeros_stay : (s t : ℕ) → s ≡ 0 → t ≡ next_state s false → t ≡ 0
unfolding next_state
zeros_stay s t e n = n ∙ ap (λ (x : ℕ). next_state x false) e

-- by search, so that the state may come from wherever it does, if it is known to be zeros
pub invariant_of-result : goal.invariant_of-result
invariant_of-result c =
    record {
      long = omega arith;
      in_all = omega (arith, c.symbol_count-total.ensures);
      in_step = search (rules, starts c.in_ok-rate.rate c.args.seed c.args.bytes.now, zeros_stay c.zeros.result);
    }
