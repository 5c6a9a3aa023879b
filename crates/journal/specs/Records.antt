-- The records of a journal: a checksum, a length, and a payload.
use Rattle.std.specs.Prelude.{ℕ, ◌-◌, ◌^◌, ◌==◌, Bool, true, Option, Some, None, List, if◌then◌else◌}
use Rattle.byteorder.specs.Endian.{big_number}
use Rattle.sha2.specs.Sha256.{sha256}
use Rattle.fields_model.specs.Format.{Format, number, string, ◌then◌, coded}

-- the number that the first eight bytes of the digest of a payload spell
unfoldable pub checksum : List ℕ → ℕ
checksum payload = big_number 8 (sha256 payload)

abbrev pub any_byte : ℕ → Bool
any_byte b = true

-- a payload that has the checksum in front of it
abbrev pub checked : ℕ × List ℕ → Option (List ℕ)
checked p = if p.0 == checksum p.1 then Some p.1 else None

-- Eight bytes of checksum, a length in four, and so many bytes: fewer than 2 ^ 32.
abbrev pub wal_record : Format (List ℕ)
wal_record = coded checked (λ payload. (checksum payload, payload)) (number 8 0 (2 ^ 64) then string 4 0 (2 ^ 32 - 1) any_byte)
