-- What is printed of a number that is no state.
use Rattle.std.specs.Prelude.{ℕ, List, ◌++◌, codes}
use Rattle.std.specs.Fmt.{decimal}
use Rattle.coding.specs.declared.coder.NoState.{NoState}

abbrev pub no_state_text : NoState → List ℕ
no_state_text none = decimal none.number ++ codes " is no state of the coder: it is not below 64"
