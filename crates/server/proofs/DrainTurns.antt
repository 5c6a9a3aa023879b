-- A turn of a node's drain is told by the answer of the desk's call.
use Rattle.std.proofs.Common.{◌≡◌, ◌⊎◌, inl, inr, ℕ, Option, Some, None, Result, Ok, Err, refl, sym, ap, subst, ◌∙◌, if◌then◌else◌}
use Rattle.std.specs.Prelude.{IfOk, IfErr}
use Rattle.rows.specs.declared.command.Command.{Command}
use Rattle.rows.specs.declared.refusal.Refusal.{Refusal}
use Rattle.rows.specs.declared.refusal.Refusal.TheVariants as refusals
use Rattle.raft_model.specs.Rafts.{Raft}
use Rattle.raft_core.specs.RaftView.{RaftView}
use Rattle.raft_core.specs.Steps.{RefinesRaft}
use Rattle.fsm_model.specs.Words.{State}
use Rattle.fsm_model.specs.ClusterMachine.{cluster_spec}
use Rattle.group_model.specs.Desks.{Desk, projected_state}
use Rattle.group_model.specs.Inputs.{DrainTurn}
use Rattle.group_model.specs.Servers.{Server, open_or, at_desk}
use Rattle.group_model.specs.DeskTurns.{drain_turn}
use Rattle.leader.specs.OpenDesks.{OpenDesk, OutOfMemoryIfOpen, if_open, on_drain_turn}
use Rattle.leader.specs.GroupActs.{drain_act}
use Rattle.leader.proofs.Acts.{drains_by_drain_turn}
use Rattle.server.specs.ServerViews.{ServerView, RefinesServer, group_desk}
use Rattle.server.specs.Refusals.{HasOpenDesk}
use Rattle.server.specs.Inner.Acts.{act_of, drain_at, proposes_if_any}
use Rattle.server.proofs.Serving.{act_taken}

module _ (s : Raft Command) (node : ℕ) where
  told : (d : Option OpenDesk) (c : Option Command) → if_open (on_drain_turn node (projected_state s)) d ≡ Ok c → drain_at s (group_desk d) node ≡ Ok (proposes_if_any (group_desk d) c)
  told None c e = absurd cc
  told (Some o) c e = drains_by_drain_turn s node o ∙ ap (drain_act o.desk) e ∙ by c where
    by : (c : Option Command) → drain_act o.desk (Ok c) ≡ Ok (proposes_if_any (Some o.desk) c)
    by None = refl
    by (Some c) = refl

  drain_told : (d : Option OpenDesk) (r : Result (Option Command) Refusal) → IfOk r (λ c. if_open (on_drain_turn node (projected_state s)) d ≡ Ok c) → IfOk r (λ c. drain_at s (group_desk d) node ≡ Ok (proposes_if_any (group_desk d) c))
  drain_told d (Ok c) e = told d c e
  drain_told d (Err cause) e = tt

pub drain_told_each : (raft : RaftView State Command) (node : ℕ) (d : Option OpenDesk) (w : State) → ((s : Raft Command) → RefinesRaft cluster_spec raft s → w ≡ projected_state s) → (r : Result (Option Command) Refusal) → IfOk r (λ c. if_open (on_drain_turn node w) d ≡ Ok c) →
    IfOk r (λ c. (s : Raft Command) → RefinesRaft cluster_spec raft s → drain_at s (group_desk d) node ≡ Ok (proposes_if_any (group_desk d) c))
drain_told_each raft node d w known (Ok c) e = λ s r. drain_told s node d (Ok c) (subst (λ (x : State). if_open (on_drain_turn node x) d ≡ Ok c) (known s r) e)
drain_told_each raft node d w known (Err cause) e = tt

-- so is its refusal
module _ (s : Raft Command) (node : ℕ) where
  refused : (d : Option OpenDesk) (e : Refusal) → if_open (on_drain_turn node (projected_state s)) d ≡ Err e → drain_at s (group_desk d) node ≡ Err e
  refused None e call = let same : refusals.NotOpen ≡ e = cc in ap (λ (r : Refusal). Err r) same
  refused (Some o) e call = drains_by_drain_turn s node o ∙ ap (drain_act o.desk) call

  refused_or : (d : Option OpenDesk) (e : Refusal) → OutOfMemoryIfOpen d e ⊎ (if_open (on_drain_turn node (projected_state s)) d ≡ Err e) → (e ≡ refusals.NoMemory) ⊎ (drain_at s (group_desk d) node ≡ Err e)
  refused_or d e (inl lacks) = inl (lacked d lacks) where
    lacked : (d : Option OpenDesk) → OutOfMemoryIfOpen d e → e ≡ refusals.NoMemory
    lacked None h = absurd h
    lacked (Some o) h = h
  refused_or d e (inr call) = inr (refused d e call)

pub drain_refused_each : (raft : RaftView State Command) (node : ℕ) (d : Option OpenDesk) (w : State) → ((s : Raft Command) → RefinesRaft cluster_spec raft s → w ≡ projected_state s) → (r : Result (Option Command) Refusal) → IfErr r (λ e. OutOfMemoryIfOpen d e ⊎ (if_open (on_drain_turn node w) d ≡ Err e)) →
    IfErr r (λ e. (s : Raft Command) → RefinesRaft cluster_spec raft s → (e ≡ refusals.NoMemory) ⊎ (drain_at s (group_desk d) node ≡ Err e))
drain_refused_each raft node d w known (Ok c) told = tt
drain_refused_each raft node d w known (Err e) told = λ s r. refused_or s node d e (subst (λ (x : State). OutOfMemoryIfOpen d e ⊎ (if_open (on_drain_turn node x) d ≡ Err e)) (known s r) told)

-- the turn of each server that a value is, by that of its log with the desk
pub drain_is : (old : ServerView) (node : ℕ) (s : Server) → RefinesServer old s → HasOpenDesk s → act_of old (DrainTurn node) s ≡ drain_at s.raft (group_desk old.desk) node
drain_is old node s is h =
    ap (λ b. at_desk (if b then open_or s.desk else Err (refusals.NotLeader s.raft.known)) (λ d. drain_turn s.raft d node)) h.leads
    ∙ ap (λ (d : Option Desk). drain_at s.raft d node) (sym is.desk)

pub drain_asks : (old : ServerView) (node : ℕ) (c : Option Command) (s : Server) → RefinesServer old s → HasOpenDesk s → drain_at s.raft (group_desk old.desk) node ≡ Ok (proposes_if_any (group_desk old.desk) c) → act_of old (DrainTurn node) s ≡ Ok (proposes_if_any s.desk c)
drain_asks old node c s is h turn = drain_is old node s is h ∙ turn ∙ ap (λ (d : Option Desk). act_taken (proposes_if_any d c)) is.desk
