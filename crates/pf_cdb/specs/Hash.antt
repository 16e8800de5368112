-- The hash of a key (D. J. Bernstein, A structure for constant databases; cdb(5)).
use Rattle.std.specs.Prelude.{ℕ, ◌*◌, ◌%◌, ◌^◌, List, bit_xor, fold}

-- a hash with one byte more: 33 times it, without the bits above the lowest 32, xor the byte
abbrev pub hash_step : ℕ → ℕ → ℕ
hash_step hash byte = bit_xor (33 * hash % 2 ^ 32) byte % 2 ^ 32

-- the hash of a key; that of no byte is 5381
unfoldable pub hash_of : List ℕ → ℕ
hash_of key = fold hash_step 5381 key
