-- The words that decide: the key stream of ChaCha8, word by word.
use Rattle.std.specs.Prelude.{ℕ, List, ◌++◌, replicate}
use Rattle.std.specs.Int.{w64, to_be_bytes}
use Rattle.rand_chacha.specs.ChaCha.{word_at, key_of}

-- the 32 bytes of ChaCha's key: the number as 8 big-endian bytes, and 24 zeros
abbrev pub key_bytes : ℕ → List ℕ
key_bytes key = to_be_bytes w64 key ++ replicate 24 0

-- the word at place n, from 0, of the key's stream; four double rounds are eight rounds
unfoldable pub nth_word : ℕ → ℕ → ℕ
nth_word key n = word_at 4 (key_of (key_bytes key)) 0 n

-- what a contract sees: the key, and how many words were drawn, modulo 2^68
pub record Keystream : Type 0 where
  pub key : ℕ
  pub drawn : ℕ
