use Rattle.std.proofs.Common.{◌≡◌, length, sym, ap, arith}
use Rattle.frame.specs.declared.rate.CodeRate.TheVariants.{ThreeQuarters}
use Rattle.coding.specs.Puncturing.{sent_of, sent_count}
use Rattle.worked.proofs.vectors.coded_bits_of_the_first_symbol.Goals as goal

-- 144 bits at 3/4 give 192
pub encode-requires : goal.encode-requires
unfolding sent_of sent_count
encode-requires g c =
    let long : length c.fill_data_bits.new.out ≡ 144 = omega arith in
    record { whole_periods = omega arith; out_len = ap (sent_count ThreeQuarters) (sym long) }
