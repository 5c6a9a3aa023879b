-- What a server's standing in a group says of its runs.
use Rattle.std.proofs.Common.{◌≡◌, ℕ, Option, Some, None, List, length, refl, sym, ap, ◌∙◌, subst, slice_get}
use Rattle.raft_model.specs.Chains.{At}
use Rattle.raft_core.specs.declared.ticket.ProposalStatus.{ProposalStatus}
use Rattle.raft_core.specs.Tickets.{proposal_status_of}
use Rattle.raft_safety.specs.Tickets.{Committed, CommitIsFinal}
use Rattle.raft_safety.proofs.Places.{get-last}
use Rattle.group_model.specs.Servers.{Server}
use Rattle.group_model.specs.Worlds.{World, raft_of, raft_part}
use Rattle.group_safety.specs.Claims.{OfTheList, logs}
use Rattle.group_safety.specs.Limits.{NodesFit, LimitsAreKept}
use Rattle.group_safety.proofs.Lists.{get_map}
use Rattle.server.specs.ServerViews.{ServerView, RefinesServer}
use Rattle.world.specs.GroupView.{GroupView, GroupRunsTo, nodes_of}
use Rattle.world.specs.GroupClaims.{OneGroupList}
use Rattle.world.specs.Tickets.{running_status, proposal_status_in}
use Rattle.world.specs.GroupTickets.{CommittedInGroup}
use Rattle.world.proofs.GroupRuns.{group_runs_are_one}
use Rattle.world.proofs.GroupStates.{get_map_none}
use Rattle.world.proofs.Standings.{AppliesIn}
use Rattle.world.proofs.Zips.{zip_at, zip_none}

module _ (view : GroupView) (i index term : ℕ) (past : List World) (w : World) (runs : GroupRunsTo view past w) where
  pub no_standing : slice_get view.servers i ≡ None → None ≡ proposal_status_in (raft_of w) i index term
  no_standing gone = let st = runs.refines in let none : slice_get w.servers i ≡ None = zip_none RefinesServer view.servers w.servers i st.servers gone in rw (get_map_none raft_part w.servers i none) refl

  pub standing_is : (h : ServerView) (r : Option ProposalStatus) → slice_get view.servers i ≡ Some h → ((s : Server) → RefinesServer h s → r ≡ proposal_status_of s.raft index term) → r ≡ proposal_status_in (raft_of w) i index term
  standing_is h r here says =
      let st = runs.refines in
      let s = zip_at RefinesServer view.servers w.servers i h st.servers here in
      says s.0 s.2 ∙ ap (running_status index term) (sym (get_map raft_part w.servers i s.0 s.1))

-- what a server has applied is settled
pub settled_in_group : (view : GroupView) → OneGroupList view → NodesFit (nodes_of view) → LimitsAreKept → OfTheList (λ events past w list. CommitIsFinal (logs past) (raft_of w) list) →
    (i index : ℕ) (IsSuch : ℕ → Type 0) → ((past : List World) (w : World) → GroupRunsTo view past w → AppliesIn (raft_of w) i index IsSuch) → CommittedInGroup view index IsSuch
settled_in_group view l fit limits settles i index IsSuch known =
    let runs = l.runs in
    let s = known l.past l.world l.runs in
    let run = limits (length view.servers) (nodes_of view) view.trace l.past l.world fit runs.run in
    let at : At (logs l.past) (raft_of l.world) (length (logs l.past)) i s.0 = record { world = raft_of l.world; world_is = get-last (logs l.past) (raft_of l.world); here = s.1 } in
    let k = s.2 in
    let q = settles (length view.servers) (nodes_of view) view.trace l.past l.world run l.list (l.ever l.past l.world l.runs) (length (logs l.past)) i index s.0 at k.one k.applied in
    record {
      past = l.past;
      world = l.world;
      runs = l.runs;
      list = l.list;
      long = l.long;
      ever = l.ever;
      entry = q.entry;
      of = subst IsSuch (sym q.of) k.such;
      settled = λ past w r.
          let same = group_runs_are_one view l.past past l.world w l.runs r in
          subst (λ x. Committed (logs past) (raft_of x) l.list index q.entry) same.1 (subst (λ x. Committed (logs x) (raft_of l.world) l.list index q.entry) same.0 q.settled);
    }
