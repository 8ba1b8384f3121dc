-- The convolutional coder of constraint length 7.
use Rattle.std.specs.Prelude.{ℕ, ◌+◌, ◌*◌, ◌/◌, ◌%◌, Bool, cond, List, [], ◌∷◌, Ok, Err, Result, ◌==◌, nat_lt, bit_and, count_ones}
use Rattle.coding.specs.declared.coder.NoState.{NoState}
use Rattle.frame.specs.Bits.{bit_of}

-- a state is the last six bits as a number, the newest counting 32; a new bit enters and the oldest falls out
unfoldable pub next_state : ℕ → Bool → ℕ
next_state s b = s / 2 + 32 * bit_of b

-- whether there is an odd number of ones among the register bits that the generator taps
unfoldable pub tapped : ℕ → ℕ → Bool
tapped generator register = count_ones (bit_and register generator) % 2 == 1

-- A and then B, the outputs as the bit comes to the state: the generators' leading bit taps the new bit
unfoldable pub outputs : ℕ → Bool → Bool × Bool
outputs s b = (tapped 0o133 (64 * bit_of b + s), tapped 0o171 (64 * bit_of b + s))

-- the outputs of a row of bits, and the state after them
abbrev pub coded_from : ℕ → List Bool → List (Bool × Bool)
coded_from s [] = []
coded_from s (b ∷ bits) = outputs s b ∷ coded_from (next_state s b) bits

abbrev pub state_from : ℕ → List Bool → ℕ
state_from s [] = s
state_from s (b ∷ bits) = state_from (next_state s b) bits

-- the coder starts from zeros
abbrev pub coded : List Bool → List (Bool × Bool)
coded bits = coded_from 0 bits

-- a number as a state, or that it is none
abbrev pub state_or_none : ℕ → Result ℕ NoState
state_or_none n = cond (nat_lt n 64) (Ok n) (Err (record { number = n }))
