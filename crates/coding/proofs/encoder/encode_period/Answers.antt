use Rattle.std.proofs.Common.{arith, ap, ◌∙◌}
use Rattle.frame.proofs.Bits.{bit_true}
use Rattle.coding.specs.Puncturing.{sent_count}
use Rattle.coding.proofs.Encoding.{underway_none, underway_more, room_for}
use Rattle.coding.proofs.encoder.encode_period.Goals as goal

pub loop-t-init : goal.loop-t-init
loop-t-init g c =
    let rate = g.P.Pattern.code_rate in
    underway_none c.args.bits.now rate c.args.state c.args.out.now (c.requires.out_len ∙ g.met.P.Pattern.period.many ∙ ap (sent_count rate) (omega arith))

pub put-at-requires : goal.put-at-requires
put-at-requires g c =
    let marks = c.marks-send_a in
    let r = room_for c.args.bits.now g.P.Pattern.code_rate c.args.state c.loop-t.t c.loop-t.held c.loop-t.at c.loop-t.out c.loop-t.invariant marks.result (omega arith) marks.ensures in
    record { fits_if_sent = λ e. omega (arith, r, bit_true _ e); within = omega (arith, r) }

pub put-at-requires-in-loop-t : goal.put-at-requires-in-loop-t
put-at-requires-in-loop-t g c =
    let marks = c.marks-send_a in
    let r = room_for c.args.bits.now g.P.Pattern.code_rate c.args.state c.loop-t.t c.loop-t.held c.loop-t.at c.loop-t.out c.loop-t.invariant marks.result (omega arith) marks.ensures in
    record { fits_if_sent = λ e. omega (arith, r, c.put-at.ensures.moved, bit_true _ e); within = omega (arith, r, c.put-at.ensures.moved) }

pub loop-t-preserved : goal.loop-t-preserved
loop-t-preserved g c =
    underway_more c.args.bits.now g.P.Pattern.code_rate c.args.state c.loop-t.t c.loop-t.held c.loop-t.at c.loop-t.out c.loop-t.invariant
    c.put-at.result c.put-at-in-loop-t.result c.next-held.result c.put-at.new.out c.put-at-in-loop-t.new.out c.outputs-a.result c.marks-send_a.result
    (omega arith) c.marks-send_a.ensures c.outputs-a.ensures c.put-at.ensures c.put-at-in-loop-t.ensures (omega arith) c.next-held.ensures
