-- The tally, a small machine: a count of commands and a sum of at most 1,000; the commands are the
-- no-op, and those that add an amount to the sum.
use Rattle.std.specs.Prelude.{ℕ, ◌+◌, ◌≤◌, Option, Some, None, nat_lt, if◌then◌else◌}
use Rattle.rows.specs.declared.refusal.Refusal.{Refusal}
use Rattle.rows.specs.declared.refusal.Refusal.TheVariants.{OutOfRange}
use Rattle.fields_model.specs.Format.{Format, number, nothing, ◌then◌, made, tagged, variant, never, choice}
use Rattle.fields_model.specs.Fields.{index}
use Rattle.machine_model.specs.MachineSpec.{MachineSpec}
use Rattle.machine_model.specs.TallyState.{TallyState}
use Rattle.machine_model.specs.declared.tally.TallyCommand.{TallyCommand}
use Rattle.machine_model.specs.declared.tally.TallyCommand.TheVariants.{Noop, Add}

-- ---- texts

-- two bytes, from 0 to 1,000
abbrev pub amount : Format ℕ
amount = number 2 0 1001

-- a tally's text: the count, and then the sum
abbrev pub tally : Format TallyState
tally = made (λ p. record { count = p.0; sum = p.1 }) (λ s. (s.count, s.sum)) (index then amount)

-- the tag of a command, and what it holds, where it is one of that kind
abbrev pub tag_of : TallyCommand → ℕ
tag_of Noop = 0
tag_of (Add _) = 1

abbrev pub noop_of : TallyCommand → Option (Unit {0})
noop_of Noop = Some tt
noop_of (Add _) = None

abbrev pub add_of : TallyCommand → Option ℕ
add_of Noop = None
add_of (Add k) = Some k

-- a command's text: tag 0 is the no-op, and tag 1 adds the amount that follows
abbrev pub tally_command : Format TallyCommand
tally_command = tagged tag_of (number 1 0 2)
    (choice 0 (variant (λ _. Noop) noop_of nothing)
    (choice 1 (variant (λ k. Add k) add_of amount)
    (λ _. never)))

-- ---- what the commands do

-- the sum with an amount added; it stays as it is where it would pass 1,000
abbrev pub raised : ℕ → ℕ → ℕ
raised sum k = if nat_lt (sum + k) 1001 then sum + k else sum

-- each command counts
abbrev pub tally_applied : TallyState → TallyCommand → TallyState
tally_applied s Noop = record { count = s.count + 1; sum = s.sum }
tally_applied s (Add k) = record { count = s.count + 1; sum = raised s.sum k }

-- an amount is out of range where the sum would pass 1,000
abbrev pub tally_admission : TallyState → TallyCommand → Option Refusal
tally_admission s Noop = None
tally_admission s (Add k) = if nat_lt (s.sum + k) 1001 then None else Some OutOfRange

-- the tally as a machine: its texts are the same in each version, and it is safe where its sum is at
-- most 1,000
abbrev pub tally_spec : MachineSpec TallyState TallyCommand
tally_spec = record {
  states = λ _. tally;
  commands = λ _. tally_command;
  safe = λ s. s.sum ≤ 1000;
  empty = record { count = 0; sum = 0 };
  noop = Noop;
  count = λ s. s.count;
  applied = tally_applied;
  admission = tally_admission;
}
