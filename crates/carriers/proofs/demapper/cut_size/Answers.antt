use Rattle.std.proofs.Common.{true, false, arith, rules}
use Rattle.std.proofs.lemmas.Int.{ints}
use Rattle.carriers.proofs.WholePart.{nears}
use Rattle.carriers.proofs.demapper.cut_size.Goals as goal

pub float_to_int-whole : goal.float_to_int-whole
float_to_int-whole c = (nears c.args.size c.requires.small c.requires.above).casts

pub overflow_sub-result : goal.overflow_sub-result
overflow_sub-result c =
    let near = nears c.args.size c.requires.small c.requires.above in
    let is = near.to in
    let small = near.small in
    search rules

pub returns-then-size-nearest : goal.returns-then-size-nearest
returns-then-size-nearest c =
    let near = nears c.args.size c.requires.small c.requires.above in
    omega (arith, ints, near.to, near.small, near.is true c.if-size-nearest.true)

pub returns-else-size-nearest : goal.returns-else-size-nearest
returns-else-size-nearest c =
    let near = nears c.args.size c.requires.small c.requires.above in
    omega (arith, ints, near.to, near.small, near.is false c.if-size-nearest.false)
