-- The data bits of a frame: SERVICE, the bytes, the tail and the pads, scrambled.
use Rattle.std.specs.Prelude.{ℕ, ◌+◌, ◌-◌, ◌*◌, ◌/◌, ◌%◌, Bool, false, cond, ◌&&◌, List, map, length, nat_le, nat_lt, slice_index}
use Rattle.std.specs.List.{range_with_len}
use Rattle.frame.specs.Rate.{Shape, n_dbps}
use Rattle.frame.specs.Bits.{differs, bit_at}
use Rattle.frame.specs.Scrambler.{key}

-- the data up to the tail's end: 16 SERVICE bits, the bytes and six tail bits; pads come after it
abbrev pub steps : ℕ → ℕ
steps length = 22 + 8 * length

-- N_SYM, and the pad bits that fill the last symbol
unfoldable pub symbols : Shape → ℕ → ℕ
symbols s length = (steps length + (n_dbps s - 1)) / n_dbps s

unfoldable pub pads : Shape → ℕ → ℕ
pads s length = symbols s length * n_dbps s - steps length

-- bit n before the scrambler: 16 zeros, then the bytes lowest bit first; tail and pads, past the last byte, are zero
unfoldable pub plain_bit : List ℕ → ℕ → Bool
plain_bit octets n = cond (nat_lt n 16) false (bit_at (slice_index octets ((n - 16) / 8)) ((n - 16) % 8))

unfoldable pub in_tail : ℕ → ℕ → Bool
in_tail length n = nat_le (16 + 8 * length) n && nat_lt n (steps length)

-- a data bit under its key bit: the six tail bits are set to zero after scrambling
unfoldable pub scrambled_bit : List ℕ → ℕ → Bool → Bool
scrambled_bit octets n key_bit = cond (in_tail (length octets) n) false (differs (plain_bit octets n) key_bit)

abbrev pub data_bit : ℕ → List ℕ → ℕ → Bool
data_bit seed octets n = scrambled_bit octets n (key seed n)

-- the data bits from `start` on
abbrev pub data_bits : ℕ → List ℕ → ℕ → ℕ → List Bool
data_bits seed octets start count = map (data_bit seed octets) (range_with_len start count)
