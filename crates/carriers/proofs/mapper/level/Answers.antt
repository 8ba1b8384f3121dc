use Rattle.std.proofs.Common.{◌≡◌, ap, ◌∙◌, take_all}
use Rattle.carriers.proofs.Mapping.{place_of, found}
use Rattle.carriers.proofs.mapper.level.Goals as goal

pub returns : goal.returns
returns c =
    let bits = c.args.bits.now in
    let is : c.loop-bit.place ≡ place_of bits = c.loop-bit.invariant ∙ ap place_of (take_all c.loop-bit.bit-index bits c.loop-bit-test.false) in
    c.from-2.ensures ∙ found bits c.loop-bit.place is c.requires.some c.requires.few
