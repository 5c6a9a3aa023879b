-- The state after a list of commands, and the lists that were admitted command by command.
use Rattle.std.specs.Prelude.{◌≡◌, ◌^◌, ◌<◌, List, [], ◌∷◌, length, None}
use Rattle.machine_model.specs.MachineSpec.{MachineSpec, IsCommandOf}

-- the state after the commands, from s on
abbrev pub after_from : {S C : Type 0} → MachineSpec S C → S → List C → S
after_from m s [] = s
after_from m s (c ∷ cs) = after_from m (m.applied s c) cs

-- the state after the commands
abbrev pub after : {S C : Type 0} → MachineSpec S C → List C → S
after m cs = after_from m m.empty cs

-- each command is one of the machine's, and was admitted at the state after those before it
abbrev pub AdmittedFrom : {S C : Type 0} → MachineSpec S C → S → List C → Type 0
AdmittedFrom m s [] = Unit {0}
AdmittedFrom m s (c ∷ cs) = IsCommandOf m c × (m.admission s c ≡ None) × AdmittedFrom m (m.applied s c) cs

-- the list was admitted command by command, and has a length that indexes can hold
pub record Admitted {S C : Type 0} (m : MachineSpec S C) (cs : List C) : Type 0 where
  pub short : length cs < 2 ^ 40
  pub each : AdmittedFrom m m.empty cs
