use Rattle.std.proofs.Common.{◌≡◌, ℕ, ◌-◌, ◌≤◌, List, ◌++◌, length, drop, None, Err, Result, sym, ap, ◌∙◌, subst, ap₂, arith, rules}
use borrow.Rule.Slice.PartMut.{mid_of}
use Rattle.std.proofs.lemmas.List.{length-take-le}
use Rattle.std.proofs.lemmas.Result.{err_from_is_err_and}
use Rattle.frame.specs.declared.rate.Mode.{Mode}
use Rattle.frame.specs.Rate.{shaped, shape, n_dbps}
use Rattle.carriers.specs.declared.soft.SoftBit.{SoftBit}
use Rattle.carriers.specs.declared.carrier.Carrier.{Carrier}
use Rattle.carriers.specs.Fault.{carrier_fault}
use Rattle.carriers.proofs.Refusals.{are_numbers}
use Rattle.phy.specs.declared.fault.ListenFault.{ListenFault}
use Rattle.phy.specs.declared.fault.ListenFault.TheVariants as L
use Rattle.phy.specs.Fault.{of_symbol}
use Rattle.phy.specs.Demodulation.{demodulated, Demodulates}
use Rattle.phy.proofs.Shapes.{fills}
use Rattle.phy.proofs.Demodulating.{accepts, refuses}
use Rattle.phy.proofs.demodulator.demodulate.Goals as goal

pub returns-in_err-symbol : goal.returns-in_err-symbol
returns-in_err-symbol c =
    let carriers = c.args.carriers.now in
    let out = c.args.out.now in
    let fault = c.in_err-symbol.field-0.0 in
    let p = err_from_is_err_and c.from_residual.result c.from_residual.ensures.1 in
    subst (λ (r : Result (Unit {0}) ListenFault). Demodulates (shape c.args.rate) carriers r out out) (sym (p.1 ∙ ap Err p.2))
    (refuses c.args.rate carriers (L.Symbol fault) out (ap of_symbol (sym c.in_err-symbol.ensures.answer)))

pub demodulate_symbol-requires : goal.demodulate_symbol-requires
demodulate_symbol-requires c =
    let r = c.args.rate in
    let carriers = c.args.carriers.now in
    let n = length (mid_of 0 (c.n_dbps.result - 0) c.args.out.now) in
    let fine = sym c.in_ok-symbol.ensures.answer in
    let fits : c.n_dbps.result - 0 ≤ length c.args.out.now = search rules in
    let long : n ≡ n_dbps (shape r) = omega (arith, length-take-le (c.n_dbps.result - 0) c.args.out.now fits, c.n_dbps.ensures) in
    record {
      numbers = subst (λ (y : List Carrier). carrier_fault y ≡ None) (sym c.in_ok-symbol.ensures.same) (are_numbers carriers fine);
      fills = fills r c.mode.result n c.mode.ensures long;
      just = long ∙ sym (ap (λ (x : Mode). n_dbps (shaped x)) c.mode.ensures);
    }

pub returns : goal.returns
returns c =
    let r = c.args.rate in
    let carriers = c.args.carriers.now in
    let out = c.args.out.now in
    let pairs : c.demodulate_symbol.new.pairs ≡ demodulated (shape r) carriers =
    c.demodulate_symbol.ensures ∙ ap₂ (λ (x : Mode) (y : List Carrier). demodulated (shaped x) y) c.mode.ensures c.in_ok-symbol.ensures.same in
    let rest : c.n_dbps.result - 0 ≡ n_dbps (shape r) = omega (arith, c.n_dbps.ensures) in
    accepts r carriers out (c.demodulate_symbol.new.pairs ++ drop (c.n_dbps.result - 0) out)
    (ap of_symbol (sym c.in_ok-symbol.ensures.answer))
    (ap₂ (λ (x : List (SoftBit × SoftBit)) (y : ℕ). x ++ drop y out) pairs rest)
