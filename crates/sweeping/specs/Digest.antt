-- 32-bit FNV-1a, over whole numbers instead of bytes.
use Rattle.std.specs.Prelude.{ℕ, ◌*◌, ◌%◌, ◌^◌, bit_xor}

abbrev pub empty : ℕ
empty = 2166136261

abbrev pub with_item : ℕ → ℕ → ℕ
with_item digest item = bit_xor digest item * 16777619 % 2 ^ 32
