use Rattle.std.proofs.Common.{ℕ, ◌+◌, ◌-◌, ◌*◌, ◌<◌, length, ap, ◌∙◌, arith, get_or-set_same, below_more}
use Rattle.std.proofs.lemmas.Grind.{common_steps}
use Rattle.std.proofs.lemmas.List.FromFn.{fill_by_all}
use Rattle.carriers.specs.declared.carrier.Carrier.{Carrier}
use Rattle.carriers.specs.declared.carrier.Carrier.TheVariants.{Heard, Struck}
use Rattle.carriers.specs.Mapper.{point_at}
use Rattle.carriers.proofs.Mapping.{point_of_part}
use Rattle.carriers.proofs.mapper.map_carriers.Goals as goal

pub loop-n-preserved : goal.loop-n-preserved
loop-n-preserved g c =
    let b = g.row.BITS in
    let n = c.loop-n.n in
    let is =
    point_of_part c.args.modulation c.args.bits.now b n (b * n + b - b * n) (length c.args.out.now)
    c.requires.bits_value (omega arith) c.loop-n-test.true c.requires.bits_len in
    below_more _ _ (λ k h. grind (arith, common_steps, c.loop-n.invariant k h))
    (let lt : n < length c.loop-n.out = omega arith in rw get_or-set_same (ap Heard (c.point.ensures ∙ is)))

pub returns : goal.returns
returns g c =
    let F : ℕ → Carrier = λ k. Heard (point_at c.args.modulation c.args.bits.now k) in
    fill_by_all F c.loop-n.out (length c.args.out.now) Struck (omega arith) (λ k h. c.loop-n.invariant k (omega arith))
