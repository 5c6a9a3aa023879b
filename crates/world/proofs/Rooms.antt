-- What holds of each item of a list whose items stand for those of another: here, that servers have
-- room in terms and indexes.
use Rattle.std.proofs.Common.{◌≡◌, ℕ, suc, ◌+◌, ◌<◌, ◌≤◌, inl, inr, true, false, Bool, MatchBool, Some, List, length, refl, sym, ap, ◌∙◌, subst, arith, slice_get}
use Rattle.std.proofs.lemmas.Bool.Decides.{leb_tells}
use Rattle.std.proofs.lemmas.Option.{same_Some}
use Rattle.std.specs.List.{AllZip}
use Rattle.machine_model.specs.MachineSpec.{MachineSpec}
use Rattle.raft_model.specs.Logs.{MAX}
use Rattle.raft_model.specs.Worlds.{World}
use Rattle.raft_core.specs.Steps.{RefinesRaft}
use Rattle.raft_safety.specs.Claims.{EachRun}
use Rattle.raft_safety.proofs.Places.{get-within}
use Rattle.raft_progress.specs.Recovery.{HasRoom, everybody}
use Rattle.group_model.specs.Worlds as group_worlds
use Rattle.group_model.specs.Worlds.{raft_of, raft_part}
use Rattle.group_safety.specs.Claims.{EachRun as EachGroupRun}
use Rattle.group_safety.specs.Limits.{LimitsAreKept}
use Rattle.group_safety.proofs.Lists.{map_get, get_map}
use Rattle.server.specs.ServerViews.{RefinesServer}
use Rattle.world.specs.WorldView.{WorldView, RefinesWorld, IsRaftWorld}
use Rattle.world.specs.GroupView.{GroupView, RefinesGroup, GroupInvariant, nodes_of}
use Rattle.world.specs.Inner.Room.{RaftHasRoom, ServerHasRoom, EachHas, OneLacks}
use Rattle.world.proofs.Recoveries.{two}
use Rattle.world.proofs.Zips.{zip_at, zip_from, zip_length}

module _ {A B : Type 0} (IsOf : A → B → Type 0) (P : B → Type 0) where
  -- P holds of whatever the first k items stand for
  abbrev pub FirstHave : List A → ℕ → Type 0
  FirstHave xs k = (i : ℕ) (a : A) → i < k → slice_get xs i ≡ Some a → (b : B) → IsOf a b → P b

  pub first_none : (xs : List A) → FirstHave xs 0
  first_none xs i a less at b r = absurd (omega (arith, less))

  pub one_more : (xs : List A) (k : ℕ) (a : A) → slice_get xs k ≡ Some a → ((b : B) → IsOf a b → P b) → FirstHave xs k → FirstHave xs (k + 1)
  one_more xs k a here own so i x less at b r = elim (leb_tells (suc i) k) [
    | inl e ↦ so i x e.1 at b r
    | inr e ↦
        let same : i ≡ k = omega (arith, less, e.1) in
        own b (subst (λ z. IsOf z b) (same_Some x a (sym at ∙ (ap (slice_get xs) same ∙ here))) r)
  ]

  -- the first k are all of them
  pub each_has : (xs : List A) (k : ℕ) → (k < length xs → ⊥) → FirstHave xs k → EachHas IsOf P xs
  each_has xs k past so i a at b r = elim (leb_tells (suc i) k) [
    | inl e ↦ so i a e.1 at b r
    | inr e ↦ absurd (past (omega (arith, e.1, get-within xs i a at)))
  ]

  module _ (xs : List A) (ys : List B) (zip : AllZip IsOf xs ys) where
    pub all_have : EachHas IsOf P xs → (j : ℕ) (b : B) → slice_get ys j ≡ Some b → P b
    all_have so j b at = let z = zip_from IsOf xs ys j b zip at in so j z.0 z.1 b z.2

    pub not_all : OneLacks IsOf P xs → ((j : ℕ) (b : B) → slice_get ys j ≡ Some b → P b) → ⊥
    not_all one have = let z = zip_at IsOf xs ys one.place one.item zip one.at in one.lacks z.0 z.2 (have one.place z.0 z.1)

-- so of the servers of a world
pub room_told : {S C : Type 0} (m : MachineSpec S C) (view : WorldView S C) (w : World C) (b : Bool) → RefinesWorld m view w →
    MatchBool b (EachHas (RefinesRaft m) RaftHasRoom view.servers) (OneLacks (RefinesRaft m) RaftHasRoom view.servers) →
    MatchBool b (HasRoom (length view.servers) everybody w) (HasRoom (length view.servers) everybody w → ⊥)
room_told m view w true r told = λ j s less q here. all_have (RefinesRaft m) RaftHasRoom view.servers w.servers r.servers told j s here
room_told m view w false r told = λ room. not_all (RefinesRaft m) RaftHasRoom view.servers w.servers r.servers told
    (λ j s here. room j s (omega (arith, get-within w.servers j s here, zip_length (RefinesRaft m) view.servers w.servers r.servers)) refl here)

-- and of a group
pub group_room_told : (view : GroupView) (w : group_worlds.World) (b : Bool) → RefinesGroup view w →
    MatchBool b (EachHas RefinesServer ServerHasRoom view.servers) (OneLacks RefinesServer ServerHasRoom view.servers) →
    MatchBool b (HasRoom (length view.servers) everybody (raft_of w)) (HasRoom (length view.servers) everybody (raft_of w) → ⊥)
group_room_told view w true r told = λ j s less q here.
    let g = map_get raft_part w.servers j s here in
    subst (λ z. RaftHasRoom z) g.2 (all_have RefinesServer ServerHasRoom view.servers w.servers r.servers told j g.0 g.1)
group_room_told view w false r told = λ room. not_all RefinesServer ServerHasRoom view.servers w.servers r.servers told
    (λ j s here. room j s.raft (omega (arith, get-within w.servers j s here, zip_length RefinesServer view.servers w.servers r.servers)) refl (get_map raft_part w.servers j s here))

-- a short run has room
pub short_told : {S C : Type 0} (m : MachineSpec S C) (view : WorldView S C) → IsRaftWorld m view →
    EachRun m (λ n events past w. 2 ≤ n → length events + 2 ≤ MAX → (Q : ℕ → Bool) → HasRoom n Q w) → (b : Bool) →
    MatchBool b (EachHas (RefinesRaft m) RaftHasRoom view.servers) (OneLacks (RefinesRaft m) RaftHasRoom view.servers) → length view.trace + 2 ≤ MAX → b ≡ true
short_told m view i has true told short = refl
short_told m view i has false told short = absurd (room_told m view i.world false i.runs.refines told (has (length view.servers) view.trace i.past i.world i.runs.run (two (length view.servers) i.size) short everybody))

pub group_short_told : (view : GroupView) → GroupInvariant view → LimitsAreKept →
    EachGroupRun (λ n nodes events past w. 2 ≤ n → length events + 2 ≤ MAX → (Q : ℕ → Bool) → HasRoom n Q (raft_of w)) → (b : Bool) →
    MatchBool b (EachHas RefinesServer ServerHasRoom view.servers) (OneLacks RefinesServer ServerHasRoom view.servers) → length view.trace + 2 ≤ MAX → b ≡ true
group_short_told view i limits has true told short = refl
group_short_told view i limits has false told short = absurd (group_room_told view i.world false i.runs.refines told
    (has (length view.servers) (nodes_of view) view.trace i.past i.world (limits (length view.servers) (nodes_of view) view.trace i.past i.world i.nodes i.runs.run) (two (length view.servers) i.size) short everybody))
