-- What comes from a server comes from one of the group.
use Rattle.std.proofs.Common.{◌≡◌, ℕ, inl, inr, Some, List, sym, ap, ◌∙◌, subst, slice_get}
use Rattle.rows.specs.declared.node.NodeSpec.{NodeSpec}
use Rattle.raft_safety.proofs.Places.{get-split}
use Rattle.raft_safety.proofs.Limits.{Bounds, run_bounds}
use Rattle.fsm_model.specs.ClusterMachine.{cluster_spec}
use Rattle.group_model.specs.Messages.{GroupMessage, OfLog, Service, ServiceMessage}
use Rattle.group_model.specs.Worlds.{World, Event, Run, start, more, raft_of, raft_part}
use Rattle.group_safety.specs.Claims.{IsFromMember}
use Rattle.group_safety.proofs.Lists.{map_length, message_place}
use Rattle.group_safety.proofs.Projections.{projection}
use Rattle.group_safety.proofs.Showings.{event_goes}

module _ (n : ℕ) (nodes : List NodeSpec) where
  bounds : (events : List Event) (past : List World) (w : World) → Run n nodes events past w → Bounds n (raft_of w)
  bounds events past w run = let p = projection n nodes events past w run in run_bounds cluster_spec n p.log_events p.log_past (raft_of w) p.run

  -- the services of a run
  services : (events : List Event) (past : List World) (w : World) → Run n nodes events past w → (k : ℕ) (p : ServiceMessage) → slice_get w.sent k ≡ Some (Service p) → IsFromMember n (Service p)
  services events past w start k p at = absurd (cc)
  services events past w (more {events = es} {past = before} {w = last} e next r is h) k p at =
      let g = event_goes last next e h in
      let b = bounds es before last r in
      elim (get-split last.sent g.more k (Service p) (ap (λ l. slice_get l k) (sym g.sent) ∙ at)) [
        | inl old ↦ services es before last r k p old
        | inr new ↦ subst (λ (m : ℕ). IsFromMember m (Service p)) (sym (map_length raft_part last.servers) ∙ b.size) (g.from new.0 p new.1)
      ]

  pub senders : (events : List Event) (past : List World) (w : World) → Run n nodes events past w → (k : ℕ) (x : GroupMessage) → slice_get w.sent k ≡ Some x → IsFromMember n x
  senders events past w run k (OfLog message) at = let b = bounds events past w run in (b.given message (_, message_place w.sent k message at)).from
  senders events past w run k (Service p) at = services events past w run k p at
