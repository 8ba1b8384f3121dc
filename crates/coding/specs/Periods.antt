-- The three patterns' periods.
use Rattle.std.specs.Prelude.{refl}
use Rattle.frame.specs.declared.rate.CodeRate.TheVariants as C
use Rattle.coding.specs.Puncturing.{sent_of, sent_count, Period}

pub half : Period C.Half 1 2
unfolding sent_count sent_of
half = record { long = refl; many = refl }

pub two_thirds : Period C.TwoThirds 2 3
unfolding sent_count sent_of
two_thirds = record { long = refl; many = refl }

pub three_quarters : Period C.ThreeQuarters 3 4
unfolding sent_count sent_of
three_quarters = record { long = refl; many = refl }
