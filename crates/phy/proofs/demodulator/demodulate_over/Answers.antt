use Rattle.std.proofs.Common.{ap, ◌∙◌, ap₂}
use Rattle.coding.specs.Depuncturing.{depunctured}
use Rattle.coding.specs.Interleaver.{deinterleaved, turn_size}
use Rattle.carriers.specs.declared.soft.SoftBit.TheVariants.{Absent}
use Rattle.phy.specs.Demodulation.{demodulated}
use Rattle.phy.proofs.demodulator.demodulate_over.Goals as goal

pub returns : goal.returns
unfolding demodulated
returns c =
    c.depuncture.ensures
    ∙ ap₂ (depunctured Absent c.args.mode.code_rate) c.requires.ready.just
    (c.deinterleave_symbol.ensures.value Absent ∙ ap (deinterleaved Absent 16 (turn_size c.args.mode.modulation)) c.demap_symbol.ensures)
