-- What the replicated states of a group's servers have to do with its one list.
use Rattle.std.proofs.Common.{◌≡◌, ℕ, zero, suc, Bor, true, false, Option, Some, None, MatchOption, IfSome, List, [], ◌∷◌, map, refl, sym, subst, slice_get}
use Rattle.std.specs.Option.{option_copied}
use Rattle.raft_model.specs.Rafts.{is_up}
use Rattle.fsm_model.specs.Words.{State}
use Rattle.fsm_model.specs.SafeFacts.{Safe}
use Rattle.fsm_model.specs.ClusterMachine.{cluster_spec}
use Rattle.fsm_model.proofs.ClusterMachine.{cluster_lawful}
use Rattle.group_model.specs.Desks.{applied_state}
use Rattle.group_model.specs.Servers.{Server}
use Rattle.group_model.specs.Worlds.{World, raft_of, raft_part}
use Rattle.group_safety.specs.Claims.{logs}
use Rattle.group_safety.proofs.Lists.{get_map}
use Rattle.server.specs.ServerViews.{ServerView, RefinesServer}
use Rattle.world.specs.Claims.{OneHistory}
use Rattle.world.specs.GroupView.{GroupView, GroupRunsTo}
use Rattle.world.specs.GroupClaims.{OneGroupList, SafeGroupStates, state_of}
use Rattle.world.proofs.Histories.{IsPart, running_is, part, history_of}
use Rattle.world.proofs.Zips.{zip_at, zip_none}

pub get_map_none : {A B : Type 0} (f : A → B) (xs : List A) (i : ℕ) → slice_get xs i ≡ None → slice_get (map f xs) i ≡ None
get_map_none f [] i h = refl
get_map_none f (x ∷ xs) zero h = absurd (cc)
get_map_none f (x ∷ xs) (suc i) h = get_map_none f xs i h

module _ (view : GroupView) (i : ℕ) (past : List World) (w : World) (runs : GroupRunsTo view past w) where
  pub no_state : slice_get view.servers i ≡ None → None ≡ state_of w i
  no_state gone = let st = runs.refines in let none : slice_get w.servers i ≡ None = zip_none RefinesServer view.servers w.servers i st.servers gone in rw (get_map_none raft_part w.servers i none) refl

  pub state_is : (h : ServerView) (o : Option (Bor State)) → slice_get view.servers i ≡ Some h →
      ((s : Server) → RefinesServer h s → MatchOption o (is_up s.raft.mode ≡ false) (λ r. (is_up s.raft.mode ≡ true) × (r.now ≡ applied_state s.raft))) → option_copied o ≡ state_of w i
  state_is h o here says =
      let st = runs.refines in
      let s = zip_at RefinesServer view.servers w.servers i h st.servers here in
      rw (get_map raft_part w.servers i s.0 s.1) (running_is cluster_spec s.0.raft o (says s.0 s.2))

module _ (view : GroupView) (l : OneGroupList view) where
  -- a server's state is that after a first part of the list
  state_part : (i : ℕ) (a : State) → ((past : List World) (w : World) → GroupRunsTo view past w → Some a ≡ state_of w i) → IsPart cluster_spec l.list a
  state_part i a is =
      part cluster_spec (logs l.past) (raft_of l.world) l.list (l.ever l.past l.world l.runs) i a (slice_get (raft_of l.world).servers i) refl (sym (is l.past l.world l.runs))

  pub state_safe : SafeGroupStates view → (i : ℕ) (o : Option (Bor State)) → ((past : List World) (w : World) → GroupRunsTo view past w → option_copied o ≡ state_of w i) → IfSome o (λ a. Safe a.now)
  state_safe s i None says = tt
  state_safe s i (Some a) says =
      let p = state_part i a.now says in
      subst Safe (sym p.is) (s.ever l.past l.world l.runs l.list (l.ever l.past l.world l.runs) p.count)

  pub states_history : (i j : ℕ) (a b : State) → ((past : List World) (w : World) → GroupRunsTo view past w → Some a ≡ state_of w i) →
      ((past : List World) (w : World) → GroupRunsTo view past w → Some b ≡ state_of w j) → OneHistory cluster_spec a b
  states_history i j a b is_a is_b = history_of cluster_spec cluster_lawful l.list a b (state_part i a is_a) (state_part j b is_b)
