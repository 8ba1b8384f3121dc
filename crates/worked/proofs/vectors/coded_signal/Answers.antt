use Rattle.std.proofs.Common.{◌≡◌, length, sym, ap, ◌∙◌, arith}
use Rattle.frame.specs.declared.rate.Rate.TheVariants.{R36}
use Rattle.frame.specs.declared.rate.CodeRate.TheVariants.{Half}
use Rattle.frame.proofs.HeaderBits.{header_parts}
use Rattle.coding.specs.Puncturing.{sent_of, sent_count}
use Rattle.worked.proofs.vectors.coded_signal.Goals as goal

-- 24 bits at 1/2 give 48
pub encode-requires : goal.encode-requires
unfolding sent_of sent_count
encode-requires g c =
    let long : length c.bits.result ≡ 24 = ap length c.bits.ensures ∙ (header_parts R36 100).long in
    record { whole_periods = omega arith; out_len = ap (sent_count Half) (sym long) }
