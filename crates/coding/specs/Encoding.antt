-- A row of bits coded and punctured, from the coder's state before it.
use Rattle.std.specs.Prelude.{◌≡◌, ℕ, ◌+◌, Bool, cond, List, [], ◌∷◌, ◌++◌, length, take}
use Rattle.frame.specs.declared.rate.CodeRate.{CodeRate}
use Rattle.frame.specs.Bits.{bit_of}
use Rattle.coding.specs.Coder.{coded_from, state_from}
use Rattle.coding.specs.Puncturing.{punctured, sent_count}

-- a bit was written at `place` if it is sent, and r is the place after it
pub record Put (out : List Bool) (place : ℕ) (send bit : Bool) (r : ℕ) (out' : List Bool) : Type 0 where
  pub moved : r ≡ place + bit_of send
  pub front : take r out' ≡ take place out ++ cond send (bit ∷ []) []

-- the first i bits are coded: the coder is in the state `held`, and the first `place` places of `out` are written
pub record Underway (bits : List Bool) (c : CodeRate) (before i held place : ℕ) (out : List Bool) : Type 0 where
  pub room : length out ≡ sent_count c (length bits)
  pub counted : place ≡ sent_count c i
  pub left : held ≡ state_from before (take i bits)
  pub written : take place out ≡ punctured c (coded_from before (take i bits))

-- all bits are coded
pub record Encoded (bits : List Bool) (c : CodeRate) (before after : ℕ) (out : List Bool) : Type 0 where
  pub left : after ≡ state_from before bits
  pub written : out ≡ punctured c (coded_from before bits)
