-- What a watcher may make of the entries that a leader applies.
use Rattle.std.specs.Prelude.{◌≡◌, ℕ, Bool, true, false, List, [], ◌∷◌, take, drop}
use Rattle.machine_model.specs.MachineSpec.{MachineSpec}
use Rattle.machine_model.specs.declared.entry.Entry.{Entry}
use Rattle.raft_model.specs.Logs.{state_after}
use Rattle.raft_model.specs.Rafts.{Raft, is_leader}
use Rattle.raft_snapshot.specs.Bases.{Base}
use Rattle.raft_snapshot.specs.Compacted.{compacted_state}

-- Watcher w is `new` once it saw a leader of this term apply entries in state s, one after the
-- other: each with the state that it left.
abbrev pub SeesAll : {S C W : Type 0} → MachineSpec S C → (W → ℕ → Entry C → S → W → Type 0) → ℕ → S
    → List (Entry C) → W → W → Type 0
SeesAll m Sees term s [] w new = new ≡ w
SeesAll {W = W} m Sees term s (e ∷ es) w new =
    (mid : W) × Sees w term e (m.applied s e.command) mid
    × SeesAll m Sees term (m.applied s e.command) es mid new

-- a step of a server that leads after it, or does not: the entries that it newly applied are seen,
-- from the state on in which it was; else nothing
abbrev pub SeesWhere : {S C W : Type 0} → MachineSpec S C → (W → ℕ → Entry C → S → W → Type 0) → Bool
    → Raft C → Raft C → W → W → Type 0
SeesWhere m Sees true before after w new =
    SeesAll m Sees after.term (state_after m (take before.commit before.log))
    (drop before.commit (take after.commit after.log)) w new
SeesWhere m Sees false before after w new = new ≡ w

-- Watcher w is `new` once it saw a step of a server.
abbrev pub SeesStep : {S C W : Type 0} → MachineSpec S C → (W → ℕ → Entry C → S → W → Type 0)
    → Raft C → Raft C → W → W → Type 0
SeesStep m Sees before after w new = SeesWhere m Sees (is_leader after.mode) before after w new

-- The same of what is shown, from a base on: what the code knows, whichever servers that stands
-- for.
abbrev pub ShowsWhere : {S C W : Type 0} → MachineSpec S C → (W → ℕ → Entry C → S → W → Type 0) → Bool
    → Base S → Raft C → Raft C → W → W → Type 0
ShowsWhere m Sees true base before after w new =
    SeesAll m Sees after.term (compacted_state m base before)
    (drop before.commit (take after.commit after.log)) w new
ShowsWhere m Sees false base before after w new = new ≡ w

abbrev pub ShowsStep : {S C W : Type 0} → MachineSpec S C → (W → ℕ → Entry C → S → W → Type 0)
    → Base S → Raft C → Raft C → W → W → Type 0
ShowsStep m Sees base before after w new =
    ShowsWhere m Sees (is_leader after.mode) base before after w new
