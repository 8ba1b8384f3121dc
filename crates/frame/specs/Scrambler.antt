-- The scrambler: a register x1 to x7 as a number, x1 its lowest bit.
use Rattle.std.specs.Prelude.{ℕ, zero, suc, ◌+◌, ◌*◌, ◌%◌, Bool}
use Rattle.frame.specs.Bits.{bit_of, differs, bit_at}

-- x7 xor x4
unfoldable pub key_bit : ℕ → Bool
key_bit x = differs (bit_at x 6) (bit_at x 3)

-- the key bit enters at x1 and the others move up one place
unfoldable pub moved_up : ℕ → ℕ
moved_up x = (2 * x + bit_of (key_bit x)) % 128

-- the register after n key bits, the seed before the first
unfoldable pub register_after : ℕ → ℕ → ℕ
register_after seed zero = seed
register_after seed (suc n) = moved_up (register_after seed n)

-- key bit n
abbrev pub key : ℕ → ℕ → Bool
key seed n = key_bit (register_after seed n)
