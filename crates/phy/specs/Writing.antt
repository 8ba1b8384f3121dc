-- A symbol written from the coder's state before it.
use Rattle.std.specs.Prelude.{◌≡◌, ℕ, ◌*◌, ◌%◌, Bool, List, length}
use Rattle.frame.specs.declared.rate.Mode.{Mode}
use Rattle.frame.specs.Rate.{shaped, n_bpsc}
use Rattle.coding.specs.Coder.{coded_from, state_from}
use Rattle.coding.specs.Puncturing.{pattern, punctured, sent_count}
use Rattle.carriers.specs.declared.carrier.Carrier.{Carrier}
use Rattle.phy.specs.Symbols.{symbol_of}

-- n data bits fill a symbol: they are whole periods of the pattern, and the coded bits that are sent of them fill 48 carriers
pub record Fills (m : Mode) (n : ℕ) : Type 0 where
  pub whole : n % length (pattern m.code_rate) ≡ 0
  pub filled : sent_count m.code_rate n ≡ 48 * n_bpsc m.modulation

-- `out` is the symbol of these data bits, coded from the state before them, and `after` the state after them
pub record Written (m : Mode) (bits : List Bool) (before after : ℕ) (out : List Carrier) : Type 0 where
  pub left : after ≡ state_from before bits
  pub carriers : out ≡ symbol_of (shaped m) (punctured m.code_rate (coded_from before bits))
