use Rattle.std.proofs.Common.{◌∙◌, arith}
use Rattle.carriers.proofs.Demapping.{demapped_more, demapped_all}
use Rattle.carriers.proofs.Refusals.{good_at}
use Rattle.carriers.proofs.demapper.demap_carriers.Goals as goal

pub demap_carrier-requires-clause-is_number : goal.demap_carrier-requires-clause-is_number
demap_carrier-requires-clause-is_number g c = good_at c.args.carriers.now c.requires.are_numbers c.loop-n.n _ c.loop-n-test.true

pub loop-n-preserved : goal.loop-n-preserved
loop-n-preserved g c =
    demapped_more c.args.modulation c.args.carriers.now g.row.BITS c.requires.bits_value c.loop-n.n _ c.loop-n.out c.demap_carrier.new.out _
    c.loop-n-test.true (c.loop-n.auto.out ∙ c.requires.out_len) c.loop-n.invariant c.demap_carrier.ensures

pub returns : goal.returns
returns g c =
    demapped_all c.args.modulation c.args.carriers.now g.row.BITS c.requires.bits_value c.loop-n.n c.loop-n.out
    (omega arith) (c.loop-n.auto.out ∙ c.requires.out_len) c.loop-n.invariant
