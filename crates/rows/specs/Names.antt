-- Names of jobs, groups and classes.
use Rattle.std.specs.Prelude.{ℕ, ◌≤◌, List, length, Bool, nat_le, nat_eq, ◌&&◌, ◌||◌, IsTrue}
use Rattle.std.specs.List.{list_all}

-- a small letter, a digit or a dash
abbrev pub is_name_byte : ℕ → Bool
is_name_byte b = (nat_le 97 b && nat_le b 122) || (nat_le 48 b && nat_le b 57) || nat_eq b 45

-- 1 to 32 of them, as a test
abbrev pub is_name : List ℕ → Bool
is_name bytes = nat_le 1 (length bytes) && nat_le (length bytes) 32 && list_all is_name_byte bytes

-- and as a fact
abbrev pub NameFits : List ℕ → Type 0
NameFits bytes = (1 ≤ length bytes) × (length bytes ≤ 32) × IsTrue (list_all is_name_byte bytes)
