-- What is printed of a number that no rate has.
use Rattle.std.specs.Prelude.{ℕ, List, ◌++◌, codes}
use Rattle.std.specs.Fmt.{decimal}
use Rattle.frame.specs.declared.rate.UnknownRate.{UnknownRate}

abbrev pub unknown_rate_text : UnknownRate → List ℕ
unknown_rate_text unknown = codes "the rate " ++ decimal unknown.number ++ codes " is not one of 6, 9, 12, 18, 24, 36, 48 and 54"
