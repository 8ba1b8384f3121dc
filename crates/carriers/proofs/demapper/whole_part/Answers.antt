use Rattle.std.proofs.Common.{true, false, refl, ◌∙◌, arith, rules}
use lib.Ieee.{of_bits}
use Rattle.std.proofs.lemmas.Int.{ints}
use Rattle.carriers.proofs.WholePart.{sized}
use Rattle.carriers.proofs.demapper.whole_part.Goals as goal

pub cut_size-whole-requires : goal.cut_size-whole-requires
cut_size-whole-requires c =
    let k = sized c.args.x c.magnitude.result _ refl c.requires c.magnitude.ensures in
    record { small = k.small; above = k.above }

-- 0.0 by its bits is zero
pub overflow_sub-result : goal.overflow_sub-result
unfolding of_bits
overflow_sub-result c =
    let k = sized c.args.x c.magnitude.result true c.if-x.true c.requires c.magnitude.ensures in
    let is = c.cut_size-whole.ensures ∙ k.of in
    let few = k.few in
    search rules

pub returns-then-x : goal.returns-then-x
unfolding of_bits
returns-then-x c =
    let k = sized c.args.x c.magnitude.result true c.if-x.true c.requires c.magnitude.ensures in
    omega (arith, ints, c.cut_size-whole.ensures ∙ k.of, k.few, k.is)

pub returns-else-x : goal.returns-else-x
unfolding of_bits
returns-else-x c =
    let k = sized c.args.x c.magnitude.result false c.if-x.false c.requires c.magnitude.ensures in
    omega (arith, ints, c.cut_size-whole.ensures ∙ k.of, k.few, k.is)
