use Rattle.std.proofs.Common.{◌≡◌, ℕ, ◌+◌, ◌*◌, ◌/◌, ◌%◌, ◌<◌, ◌≤◌, length, ap, ◌∙◌, subst, mul_comm, arith, rules}
use native.Mathlib.Nat.{div-add-mod}
use Rattle.frame.proofs.Parts.{length_part}
use Rattle.coding.specs.Depuncturing.{Restored}
use Rattle.coding.proofs.Punctured.{period_read, period_within, periods_fit}
use Rattle.coding.proofs.Depuncturing.{restored_period, restored_all}
use Rattle.coding.proofs.depuncturer.depuncture_with.Goals as goal

pub overflow_mul-period : goal.overflow_mul-period
overflow_mul-period g c =
    let w = periods_fit g.P.Pattern.code_rate g.P.Pattern.PAIRS g.P.Pattern.SENT c.PAIRS-in_pairs.result c.SENT-in_sent.result (length c.args.out.now) (length c.args.sent.now) c.loop-k.k g.met.P.Pattern.period c.PAIRS-in_pairs.ensures c.SENT-in_sent.ensures c.requires.sent_len c.loop-k-test.true in
    omega (arith, w)

pub overflow_mul-period-in-loop-k : goal.overflow_mul-period-in-loop-k
overflow_mul-period-in-loop-k g c =
    let w = periods_fit g.P.Pattern.code_rate g.P.Pattern.PAIRS g.P.Pattern.SENT c.PAIRS-in_pairs.result c.SENT-in_sent.result (length c.args.out.now) (length c.args.sent.now) c.loop-k.k g.met.P.Pattern.period c.PAIRS-in_pairs.ensures c.SENT-in_sent.ensures c.requires.sent_len c.loop-k-test.true in
    omega (arith, w)

pub overflow_add-period : goal.overflow_add-period
overflow_add-period g c =
    let w = periods_fit g.P.Pattern.code_rate g.P.Pattern.PAIRS g.P.Pattern.SENT c.PAIRS-in_pairs.result c.SENT-in_sent.result (length c.args.out.now) (length c.args.sent.now) c.loop-k.k g.met.P.Pattern.period c.PAIRS-in_pairs.ensures c.SENT-in_sent.ensures c.requires.sent_len c.loop-k-test.true in
    omega (arith, w)

pub offset_bounds-sent-k : goal.offset_bounds-sent-k
offset_bounds-sent-k g c =
    let w = periods_fit g.P.Pattern.code_rate g.P.Pattern.PAIRS g.P.Pattern.SENT c.PAIRS-in_pairs.result c.SENT-in_sent.result (length c.args.out.now) (length c.args.sent.now) c.loop-k.k g.met.P.Pattern.period c.PAIRS-in_pairs.ensures c.SENT-in_sent.ensures c.requires.sent_len c.loop-k-test.true in
    omega (arith, w)

pub slice_bounds-period-end : goal.slice_bounds-period-end
slice_bounds-period-end g c =
    let w = periods_fit g.P.Pattern.code_rate g.P.Pattern.PAIRS g.P.Pattern.SENT c.PAIRS-in_pairs.result c.SENT-in_sent.result (length c.args.out.now) (length c.args.sent.now) c.loop-k.k g.met.P.Pattern.period c.PAIRS-in_pairs.ensures c.SENT-in_sent.ensures c.requires.sent_len c.loop-k-test.true in
    let fits : c.loop-k.k * c.SENT-in_sent.result + c.SENT-in_sent.result ≤ length c.args.sent.now = omega (arith, w) in search rules

pub offset_bounds-out-k : goal.offset_bounds-out-k
offset_bounds-out-k g c =
    let p = period_read g.P.Pattern.code_rate g.P.Pattern.PAIRS g.P.Pattern.SENT c.PAIRS-in_pairs.result c.SENT-in_sent.result g.met.P.Pattern.period c.PAIRS-in_pairs.ensures c.SENT-in_sent.ensures in
    let w = period_within g.P.Pattern.code_rate c.PAIRS-in_pairs.result c.SENT-in_sent.result (length c.args.out.now) c.loop-k.k p c.loop-k-test.true in
    let fits : c.loop-k.k * c.PAIRS-in_pairs.result < length c.loop-k.out = omega (arith, w) in search rules

pub loop-k-preserved : goal.loop-k-preserved
loop-k-preserved g c =
    let rate = g.P.Pattern.code_rate in
    let pairs = c.PAIRS-in_pairs.result in
    let p = period_read rate g.P.Pattern.PAIRS g.P.Pattern.SENT pairs c.SENT-in_sent.result g.met.P.Pattern.period c.PAIRS-in_pairs.ensures c.SENT-in_sent.ensures in
    let w = period_within rate pairs c.SENT-in_sent.result (length c.args.out.now) c.loop-k.k p c.loop-k-test.true in
    restored_period c.args.hole rate pairs c.SENT-in_sent.result p c.args.sent.now c.loop-k.k c.loop-k.out c.depuncture_period.new.out _
    (omega (arith, w.pairs_fit)) (c.depuncture_period.auto.out ∙ length_part (c.loop-k.k * pairs) pairs c.loop-k.out (omega (arith, w.pairs_fit))) c.loop-k.invariant
    (λ i d h. c.depuncture_period.ensures i d (omega (arith, c.PAIRS-in_pairs.ensures)))

pub returns : goal.returns
returns g c =
    let n = length c.args.out.now in
    let pairs = c.PAIRS-in_pairs.result in
    let whole : n % pairs ≡ 0 = ap (λ (z : ℕ). n % z) c.PAIRS-in_pairs.ensures ∙ c.requires.whole_periods in
    let all : c.loop-k.k ≡ n / pairs = omega arith in
    let e : c.loop-k.k * pairs ≡ n = ap (λ (z : ℕ). z * pairs) all ∙ mul_comm (n / pairs) pairs ∙ (let w : pairs * (n / pairs) ≡ n = omega (arith, div-add-mod n pairs, whole) in w) in
    restored_all c.args.hole g.P.Pattern.code_rate c.args.sent.now c.loop-k.out n (omega arith)
    (subst (λ (m : ℕ). Restored c.args.hole g.P.Pattern.code_rate c.args.sent.now c.loop-k.out m) e c.loop-k.invariant)
