use Rattle.std.proofs.Common.{◌≡◌, ◌+◌, length, sym, ◌∙◌, arith}
use Rattle.frame.specs.Bits.{bit_of}
use Rattle.frame.proofs.Bits.{bit_true}
use Rattle.coding.specs.Puncturing.{sent_count}
use Rattle.coding.proofs.Punctured.{room, count_none, count_more}
use Rattle.coding.proofs.Depuncturing.{restored_more}
use Rattle.coding.proofs.depuncturer.depuncture_period.Goals as goal

pub loop-t-init : goal.loop-t-init
loop-t-init g c = (sym (count_none g.P.Pattern.code_rate), λ i d h. absurd (omega arith))

pub taken-a-requires : goal.taken-a-requires
taken-a-requires g c =
    let marks = c.marks-a_sent in
    let period = g.met.P.Pattern.period in
    let r = room g.P.Pattern.code_rate c.loop-t.t g.P.Pattern.PAIRS (length c.args.sent.now) marks.result (omega arith) (c.requires.sent_len ∙ period.many) marks.ensures in
    λ e. omega (arith, r, c.loop-t.invariant.0, bit_true _ e)

pub taken-b-requires : goal.taken-b-requires
taken-b-requires g c =
    let marks = c.marks-a_sent in
    let period = g.met.P.Pattern.period in
    let r = room g.P.Pattern.code_rate c.loop-t.t g.P.Pattern.PAIRS (length c.args.sent.now) marks.result (omega arith) (c.requires.sent_len ∙ period.many) marks.ensures in
    λ e. omega (arith, r, c.loop-t.invariant.0, c.taken-a.ensures.after, bit_true _ e)

pub loop-t-preserved : goal.loop-t-preserved
loop-t-preserved g c =
    let rate = g.P.Pattern.code_rate in
    let marks = c.marks-a_sent in
    let at = c.loop-t.invariant.0 in
    let more : sent_count rate (c.loop-t.t + 1) ≡ sent_count rate c.loop-t.t + (bit_of marks.result.0 + bit_of marks.result.1) = rw marks.ensures (count_more rate c.loop-t.t) in (
      omega (arith, more, at, c.taken-a.ensures.after, c.taken-b.ensures.after),
      restored_more c.args.hole rate c.args.sent.now c.loop-t.out c.loop-t.t c.loop-t.at c.taken-a.result.1 c.taken-a.result.0 c.taken-b.result.0 marks.result
          (omega arith) marks.ensures at c.taken-a.ensures.after c.taken-a.ensures.bit c.taken-b.ensures.bit c.loop-t.invariant.1,
    )
