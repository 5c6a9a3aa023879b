-- Room in terms and indexes.
use Rattle.std.specs.Prelude.{◌≡◌, ℕ, ◌+◌, ◌≤◌, Some, List, length, slice_get}
use Rattle.raft_model.specs.Logs.{MAX}
use Rattle.raft_model.specs.Rafts.{Raft}
use Rattle.group_model.specs.Servers.{Server}

-- above this term and this index there is room for two more of each
abbrev pub RoomAbove : ℕ → ℕ → Type 0
RoomAbove term last = (term + 2 ≤ MAX) × (last + 2 ≤ MAX)

abbrev pub RaftHasRoom : {C : Type 0} → Raft C → Type 0
RaftHasRoom s = RoomAbove s.term (length s.log)

abbrev pub ServerHasRoom : Server → Type 0
ServerHasRoom s = RaftHasRoom s.raft

module _ {A B : Type 0} (IsOf : A → B → Type 0) (P : B → Type 0) where
  -- P holds of whatever one of these stands for
  abbrev pub EachHas : List A → Type 0
  EachHas xs = (i : ℕ) (a : A) → slice_get xs i ≡ Some a → (b : B) → IsOf a b → P b

  -- and of nothing that this one of them stands for
  pub record OneLacks (xs : List A) : Type 0 where
    pub place : ℕ
    pub item : A
    pub at : slice_get xs place ≡ Some item
    pub lacks : (b : B) → IsOf item b → P b → ⊥
