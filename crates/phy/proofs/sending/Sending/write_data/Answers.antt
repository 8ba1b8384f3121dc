use Rattle.std.proofs.Common.{◌≡◌, ◌∙◌, ◌<◌, length, sym, subst, arith}
use Rattle.std.proofs.lemmas.List.{length-take-le}
use Rattle.frame.proofs.DataBits.{sizes}
use Rattle.phy.specs.OnItsWay.{OnItsWay, all_symbols}
use Rattle.phy.specs.Sends.{on_its_way}
use Rattle.phy.proofs.Shapes.{fills}
use Rattle.phy.proofs.InStep.{data_sent}
use Rattle.phy.proofs.sending.Sending.write_data.Goals as goal

pub write_symbol-state-requires : goal.write_symbol-state-requires
write_symbol-state-requires c =
    let long : length c.fill_data_bits-register.new.out ≡ c.n_dbps-n_dbps.result = c.fill_data_bits-register.auto.out ∙ length-take-le c.n_dbps-n_dbps.result _ (omega (arith, (sizes c.self.inside.header.rate).few_data, c.n_dbps-n_dbps.ensures)) in
    fills c.self.inside.header.rate c.mode.result (length c.fill_data_bits-register.new.out) c.mode.ensures (omega (arith, long, c.n_dbps-n_dbps.ensures))

pub returns : goal.returns
returns c =
    let me = c.self.inside in
    let filled = c.fill_data_bits-register in
    let symbol = c.write_symbol-state in
    let part : (0 < me.written) × (me.written < all_symbols (on_its_way me)) =
    subst (λ (f : OnItsWay). (0 < f.written) × (f.written < all_symbols f)) (sym c.self.view_is) (c.requires.past_header, c.requires.not_over) in
    let long : length filled.new.out ≡ c.n_dbps-n_dbps.result = filled.auto.out ∙ length-take-le c.n_dbps-n_dbps.result _ (omega (arith, (sizes me.header.rate).few_data, c.n_dbps-n_dbps.ensures)) in
    let sent = data_sent (omega arith) part.1 c.self.invariant.in_step c.mode.ensures c.n_dbps-n_dbps.ensures (sym filled.auto.out ∙ long ∙ c.n_dbps-n_dbps.ensures)
    filled.ensures.bits filled.ensures.moved symbol.ensures in
    rw (← c.self.view_is) (record { carriers = sent.0; after = sent.1 })
