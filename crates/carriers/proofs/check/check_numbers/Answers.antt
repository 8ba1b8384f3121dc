use Rattle.carriers.proofs.FirstBad.{found_bad, past_good, none_bad}
use Rattle.carriers.proofs.check.check_numbers.Goals as goal

pub returns-in-Some-clause-answer : goal.returns-in-Some-clause-answer
returns-in-Some-clause-answer c = found_bad c.args.carriers.now c.loop-place.place _ c.in-Some.axis c.loop-place-test.true c.in-Some.ensures c.loop-place.invariant

pub loop-place-preserved : goal.loop-place-preserved
loop-place-preserved c = past_good c.args.carriers.now c.loop-place.place _ c.loop-place-test.true c.in_default.ensures c.loop-place.invariant

pub returns-clause-answer : goal.returns-clause-answer
returns-clause-answer c = none_bad c.args.carriers.now c.loop-place.place c.loop-place-test.false c.loop-place.invariant
