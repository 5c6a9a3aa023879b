-- What a server stores, as bytes: the grammar of each version, and how bytes are read by it. All
-- that stands behind the version byte is one format in each.
use Rattle.std.specs.Prelude.{◌≡◌, ◌≤◌, ℕ, ◌+◌, ◌-◌, ◌^◌, Bool, ◌&&◌, ◌||◌, nat_eq, nat_lt, bytes_eq, if◌then◌else◌, List, ◌++◌, length, drop, Option, Some, Result, Ok, Err}
use Rattle.rows.specs.Versions.{newest}
use Rattle.fields_model.specs.Format.{◌>>=◌, Format, spelled, number_at, number, ◌then◌, depends, made, list, coded, placed, kept as passing}
use Rattle.fields_model.specs.Fields.{term, index}
use Rattle.fields_model.specs.Services.{leader_of, leader_number}
use Rattle.machine_model.specs.MachineSpec.{MachineSpec}
use Rattle.machine_model.specs.Entries.{entry}
use Rattle.machine_model.specs.declared.entry.Entry.{Entry}
use Rattle.raft_snapshot.specs.Bases.{IsSnapshot}
use Rattle.raft_snapshot.specs.Kept.{kept}
use Rattle.raft_snapshot.specs.Stored.{Stored}

-- ---- in front of the state

-- one byte: 0 where no vote was given, or the number of the server that has it, from 1 to 5
abbrev pub vote : Format (Option ℕ)
vote = made leader_of leader_number (number 1 0 6)

-- how many entries are covered, and the term of the last one, which is 0 where none is
abbrev pub covered : Format (ℕ × ℕ)
covered = depends index 8 (λ n. passing (λ t. nat_lt 0 n || nat_eq t 0) term)

-- so many entries have places behind that many: the last place is below 2^40
abbrev pub most_behind : ℕ → ℕ
most_behind n = 2 ^ 40 - 1 - n

-- a count of eight bytes, and that many entries behind those that are covered, each its term and
-- its command
abbrev pub entries : {C : Type 0} → Format C → ℕ → Format (List (Entry C))
entries commands n = list 8 (most_behind n) (entry (placed commands))

-- all that stands in front of the state
pub record Front (C : Type 0) : Type 0 where
  pub term : ℕ
  pub vote : Option ℕ
  -- how many entries are covered, and the term of the last one
  pub index : ℕ
  pub index_term : ℕ
  -- those behind them
  pub entries : List (Entry C)

abbrev pub front : {C : Type 0} → Format C → Format (Front C)
front commands = made
    (λ p. let log = p.1.1 in record { term = p.0; vote = p.1.0; index = log.0.0; index_term = log.0.1; entries = log.1 })
    (λ f. (f.term, (f.vote, ((f.index, f.index_term), f.entries))))
    (term then vote then depends covered (entries commands 0).most (λ c. entries commands c.0))

-- ---- the whole

-- what is stored, of what stands in front of the state, and the state
abbrev pub stored_of : {S C : Type 0} → MachineSpec S C → Front C × S → Stored S C
stored_of m p = record {
  term = p.0.term;
  vote = p.0.vote;
  log = kept m (record { index = p.0.index; term = p.0.index_term; state = p.1 }) p.0.entries;
}

-- and of what it is made
abbrev pub parts_of : {S C : Type 0} → Stored S C → Front C × S
parts_of s = (
  record { term = s.term; vote = s.vote; index = s.log.base.index; index_term = s.log.base.term; entries = drop s.log.base.index s.log.entries },
  s.log.base.state,
)

-- what stands behind the version byte, in each version
abbrev pub stable : {S C : Type 0} → MachineSpec S C → ℕ → Format (Stored S C)
stable m version = coded (λ p. Some (stored_of m p)) parts_of (front (m.commands version) then placed (m.states version))

-- the one text of what is stored in a version: the version, and what it says
abbrev pub stable_text : {S C : Type 0} → MachineSpec S C → ℕ → Stored S C → List ℕ
stable_text m version s = spelled 1 version ++ (stable m version).text s

-- what has a text of a version, which is there: each part is within its range, the covered entries
-- are blank, and the base is one that a snapshot has
pub record StableFits {S C : Type 0} (m : MachineSpec S C) (version : ℕ) (s : Stored S C) : Type 0 where
  pub known : (1 ≤ version) × (version ≤ newest)
  pub fits : (stable m version).Fits s
  pub snapshot : IsSnapshot m s.log.base

-- the bytes are the text of what is stored, which has one, in some version
abbrev pub IsStableText : {S C : Type 0} → MachineSpec S C → Stored S C → List ℕ → Type 0
IsStableText m s bytes = (version : ℕ) × StableFits m version s × (bytes ≡ stable_text m version s)

-- ---- reading

-- the state has seen as many commands as entries are covered, and where none is, it is the first
-- one: it has that one's text, as it is written
abbrev pub agrees : {S C : Type 0} → MachineSpec S C → ℕ → S → Bool
agrees m n state = nat_eq (m.count state) n && (nat_lt 0 n || bytes_eq ((m.states newest).text state) ((m.states newest).text m.empty))

-- where the state's text of a version begins, which ends the bytes
abbrev pub state_offset : {S C : Type 0} → MachineSpec S C → ℕ → List ℕ → S → ℕ
state_offset m version bytes state = length bytes - length ((m.states version).text state)

-- What is stored, of which these bytes are the text in the version that the first of them names, or
-- the place of their first fault. Bytes left over come before a state that does not agree, which is
-- at fault where it begins.
unfoldable pub stable_at : {S C : Type 0} → MachineSpec S C → List ℕ → Result (Stored S C) ℕ
stable_at m bytes =
    number_at 1 1 (newest + 1) bytes 0 >>= λ version.
    (stable m version.0).read bytes version.1 >>= λ s.
    if nat_eq s.1 (length bytes) then
    (if agrees m s.0.log.base.index s.0.log.base.state then Ok s.0 else Err (state_offset m version.0 bytes s.0.log.base.state))
    else Err s.1
