use Rattle.std.proofs.Common.{List, Bool, ap, ◌∙◌, ap₂}
use lib.Ieee.{Float, of_bits, of_int}
use Rattle.carriers.specs.declared.carrier.Point.{Point}
use Rattle.carriers.specs.Mapper.{coordinate, level_of}
use Rattle.carriers.proofs.Mapping.{on_i, on_both}
use Rattle.carriers.proofs.mapper.point.Goals as goal

-- 0.0 is the float of the level 0
pub returns-in-Bpsk : goal.returns-in-Bpsk
unfolding of_bits of_int
returns-in-Bpsk c = let is = on_i c.args.modulation c.args.bits.now c.in-Bpsk.is c.requires in cc

pub returns-in_default : goal.returns-in_default
returns-in_default c =
    let at : Float → Float → Point = λ i q. record { i = i; q = q } in
    let heard : List Bool → Float = λ bits. coordinate (level_of bits) in
    ap₂ at (c.level-in_default.ensures ∙ ap heard c.split_at.ensures.front) (c.level-in_default-2.ensures ∙ ap heard c.split_at.ensures.back)
    ∙ on_both c.args.modulation c.args.bits.now c.in_default.not-Bpsk c.requires
