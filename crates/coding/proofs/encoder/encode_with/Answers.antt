use Rattle.std.proofs.Common.{ℕ, ◌+◌, ◌*◌, ◌%◌, ◌≤◌, length, ap, ◌∙◌, arith, rules}
use Rattle.frame.proofs.Parts.{length_part}
use Rattle.coding.proofs.Punctured.{period_read, period_within, periods_fit}
use Rattle.coding.proofs.Encoding.{encoded_period, encoded_whole}
use Rattle.coding.proofs.encoder.encode_with.Goals as goal

pub overflow_mul-k : goal.overflow_mul-k
overflow_mul-k g c =
    let w = periods_fit g.P.Pattern.code_rate g.P.Pattern.PAIRS g.P.Pattern.SENT c.PAIRS-pairs.result c.SENT-sent.result (length c.args.bits.now) (length c.args.out.now) c.loop-k.k g.met.P.Pattern.period c.PAIRS-pairs.ensures c.SENT-sent.ensures c.requires.out_len c.loop-k-test.true in
    omega (arith, w)

pub overflow_mul-k-in-loop-k : goal.overflow_mul-k-in-loop-k
overflow_mul-k-in-loop-k g c =
    let w = periods_fit g.P.Pattern.code_rate g.P.Pattern.PAIRS g.P.Pattern.SENT c.PAIRS-pairs.result c.SENT-sent.result (length c.args.bits.now) (length c.args.out.now) c.loop-k.k g.met.P.Pattern.period c.PAIRS-pairs.ensures c.SENT-sent.ensures c.requires.out_len c.loop-k-test.true in
    omega (arith, w)

pub overflow_add-k : goal.overflow_add-k
overflow_add-k g c =
    let w = periods_fit g.P.Pattern.code_rate g.P.Pattern.PAIRS g.P.Pattern.SENT c.PAIRS-pairs.result c.SENT-sent.result (length c.args.bits.now) (length c.args.out.now) c.loop-k.k g.met.P.Pattern.period c.PAIRS-pairs.ensures c.SENT-sent.ensures c.requires.out_len c.loop-k-test.true in
    omega (arith, w)

pub slice_bounds-encode_period-end : goal.slice_bounds-encode_period-end
slice_bounds-encode_period-end g c =
    let w = periods_fit g.P.Pattern.code_rate g.P.Pattern.PAIRS g.P.Pattern.SENT c.PAIRS-pairs.result c.SENT-sent.result (length c.args.bits.now) (length c.args.out.now) c.loop-k.k g.met.P.Pattern.period c.PAIRS-pairs.ensures c.SENT-sent.ensures c.requires.out_len c.loop-k-test.true in
    let fits : c.loop-k.k * c.SENT-sent.result + c.SENT-sent.result ≤ length c.loop-k.out = omega (arith, w) in search rules

pub loop-k-preserved : goal.loop-k-preserved
loop-k-preserved g c =
    let p = period_read g.P.Pattern.code_rate g.P.Pattern.PAIRS g.P.Pattern.SENT c.PAIRS-pairs.result c.SENT-sent.result g.met.P.Pattern.period c.PAIRS-pairs.ensures c.SENT-sent.ensures in
    let w = period_within g.P.Pattern.code_rate c.PAIRS-pairs.result c.SENT-sent.result (length c.args.bits.now) c.loop-k.k p c.loop-k-test.true in
    encoded_period g.P.Pattern.code_rate c.PAIRS-pairs.result c.SENT-sent.result p c.args.bits.now c.loop-k.out c.encode_period-held.new.out
    c.args.state c.loop-k.held c.encode_period-held.result c.loop-k.k _ c.loop-k-test.true (omega (arith, c.requires.out_len))
    (c.encode_period-held.auto.out ∙ length_part (c.loop-k.k * c.SENT-sent.result) c.SENT-sent.result c.loop-k.out (omega (arith, w.sent_fit, c.requires.out_len)))
    c.loop-k.invariant c.encode_period-held.ensures

pub returns : goal.returns
returns g c =
    let p = period_read g.P.Pattern.code_rate g.P.Pattern.PAIRS g.P.Pattern.SENT c.PAIRS-pairs.result c.SENT-sent.result g.met.P.Pattern.period c.PAIRS-pairs.ensures c.SENT-sent.ensures in
    encoded_whole g.P.Pattern.code_rate c.PAIRS-pairs.result c.SENT-sent.result c.loop-k.k c.args.state c.loop-k.held p c.args.bits.now c.loop-k.out
    (ap (λ (n : ℕ). length c.args.bits.now % n) c.PAIRS-pairs.ensures ∙ c.requires.whole_periods) (omega arith) (omega (arith, c.requires.out_len)) c.loop-k.invariant
