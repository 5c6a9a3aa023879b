-- How far a group has committed, from one world to the next.
use Rattle.std.proofs.Common.{◌≡◌, ℕ, inl, inr, max, Some, List, [], ◌∷◌, ◌++◌, map, refl, sym, ap, ◌∙◌, subst, slice_get, slice_set}
use Rattle.raft_model.specs.Rafts.{Raft}
use Rattle.raft_model.specs.Worlds as raft_worlds
use Rattle.raft_model.specs.Chains.{At}
use Rattle.raft_safety.specs.Claims.{IsGreatestCommit}
use Rattle.raft_safety.proofs.Places.{get-more, get-later, get-split, get-one}
use Rattle.group_model.specs.Servers.{Server}
use Rattle.group_model.specs.Worlds.{World, raft_of, raft_part}
use Rattle.group_safety.specs.Claims.{logs}
use Rattle.group_safety.proofs.Lists.{get_map, map_set, map_append}
use Rattle.world.specs.Inner.Inputs.{committed}
use Rattle.world.proofs.Heights.{height_next}

-- where the servers stay, so does the height
module _ {C : Type 0} (past : List (raft_worlds.World C)) (w next : raft_worlds.World C) (height : ℕ) (same : next.servers ≡ w.servers) where
  was_at : (k j : ℕ) (s : Raft C) → At (past ++ w ∷ []) next k j s → (l : ℕ) × At past w l j s
  was_at k j s at = elim (get-split (past ++ w ∷ []) (next ∷ []) k at.world at.world_is) [
    | inl e ↦ (k, record { world = at.world; world_is = e; here = at.here })
    | inr e ↦
        let is : next ≡ at.world = get-one next e.0 at.world e.1 in
        let here : slice_get next.servers j ≡ Some s = subst (λ (x : raft_worlds.World C). slice_get x.servers j ≡ Some s) (sym is) at.here in
        let l = get-later past (w ∷ []) 0 w refl in
        (l.0, record { world = w; world_is = l.1; here = subst (λ l. slice_get l j ≡ Some s) same here })
  ]

  log_height_kept : IsGreatestCommit past w height → IsGreatestCommit (past ++ w ∷ []) next height
  log_height_kept h = record {
    bound = λ k j s at up. let e = was_at k j s at in h.bound e.0 j s e.1 up;
    reached = elim h.reached [
      | inl none ↦ inl none
      | inr r ↦ inr (record {
        moment = r.moment;
        who = r.who;
        server = r.server;
        at = record { world = r.at.world; world_is = get-more (past ++ w ∷ []) (next ∷ []) r.moment r.at.world r.at.world_is; here = r.at.here };
        up = r.up;
        commit = r.commit;
      })
    ];
  }

module _ (past : List World) (w next : World) (height : ℕ) (h : IsGreatestCommit (logs past) (raft_of w) height) where
  and_now : logs past ++ raft_of w ∷ [] ≡ logs (past ++ w ∷ [])
  and_now = sym (map_append raft_of past (w ∷ []))

  -- an event that one server takes
  pub group_height_next : (i : ℕ) (s t : Server) → slice_get w.servers i ≡ Some s → next.servers ≡ slice_set w.servers i t →
      IsGreatestCommit (logs (past ++ w ∷ [])) (raft_of next) (max height (committed t.raft))
  group_height_next i s t here is =
      let turned = ap (λ l. map raft_part l) is ∙ map_set raft_part w.servers i t in
      let on = height_next (logs past) (raft_of w) (raft_of next) i t.raft height s.raft h (get_map raft_part w.servers i s here) turned in
      subst (λ ws. IsGreatestCommit ws (raft_of next) (max height (committed t.raft))) and_now on

  -- an event that leaves the servers alone
  pub height_kept : next.servers ≡ w.servers → IsGreatestCommit (logs (past ++ w ∷ [])) (raft_of next) height
  height_kept is =
      let on = log_height_kept (logs past) (raft_of w) (raft_of next) height (ap (λ l. map raft_part l) is) h in
      subst (λ ws. IsGreatestCommit ws (raft_of next) height) and_now on
