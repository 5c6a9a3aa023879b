-- What a desk's parts are told of a command makes them those of the state that it left.
use Rattle.std.proofs.Common.{◌≡◌, ◌≤◌, true, List, [], length, refl, sym, ap, subst, ◌∙◌, arith}
use Rattle.std.specs.Ordering.{nat_cmp}
use Rattle.std.specs.Cmp.{nat_cmp_total}
use Rattle.rows.specs.declared.node.Node.{Node}
use Rattle.rows.specs.declared.evaluation.Evaluation.{Evaluation}
use Rattle.rows.specs.declared.command.Command.{Command}
use Rattle.rows.specs.declared.command.Command.TheVariants as commands
use Rattle.rows.specs.Keys.{node_number}
use Rattle.fsm_model.specs.Words.{State}
use Rattle.fsm_model.specs.Effect.{applied}
use Rattle.fsm_model.proofs.StateLaws.{applied_are_tables}
use Rattle.group_model.specs.Brokers.{Broker, broker_over, HoldsPending}
use Rattle.group_model.specs.Blocked.{BlockedEvals, blocked_over}
use Rattle.group_model.specs.Expiry.{HeartbeatCount, is_held, count_node, counted_node, heartbeat_count_of, heartbeat_counts_over, HoldsHeld}
use Rattle.leader.specs.Following.{AreOf, WereOf, tells_desk}
use Rattle.leader.specs.Inner.Changes.{TellsEvals, broker_after, blocked_after, tell_job, tell_node, tell_rooms}
use Rattle.leader.proofs.Holding.{of_rows}
use Rattle.leader.proofs.ToldEvals.{over_holds, broker_told, blocked_told}
use Rattle.leader.proofs.Commands.{evals_told, job_told, node_told, rooms_told}

module _ (c : Command) (t : State) (rows : List Evaluation) (broker : Broker) (held : BlockedEvals) (counts : List HeartbeatCount) (told : TellsEvals c t rows) where
  -- the three, told in turn
  pub broker_follows : WereOf c t broker held counts → broker_after rows broker ≡ broker_over t.evals broker
  broker_follows w =
      let s = w.before in
      let is = w.left in
      let its = subst (λ (t : State). TellsEvals c t rows) is told in
      let changes = evals_told s c rows w.tables its in
      broker_told rows s.evals (applied s c).evals broker w.tables.evals.rising (applied_are_tables s c w.tables).evals.rising w.of.pending changes.each changes.others
      ∙ ap (λ (t : State). broker_over t.evals broker) (sym is)

  pub blocked_follows : WereOf c t broker held counts → tell_rooms c t (blocked_after t rows (tell_job c t held)) ≡ blocked_over t
  blocked_follows w =
      let s = w.before in
      let is = w.left in
      let its = subst (λ (t : State). TellsEvals c t rows) is told in
      let changes = evals_told s c rows w.tables its in
      ap (λ (t : State). tell_rooms c t (blocked_after t rows (tell_job c t held))) is
      ∙ ap (λ (b : BlockedEvals). tell_rooms c (applied s c) (blocked_after (applied s c) rows b)) (ap (tell_job c (applied s c)) w.of.blocked ∙ job_told s c)
      ∙ ap (tell_rooms c (applied s c)) (blocked_told (applied s c) s.nodes rows s.evals w.tables.evals.rising (applied_are_tables s c w.tables).evals.rising changes.each changes.others)
      ∙ rooms_told s c
      ∙ ap blocked_over (sym is)

  pub counts_follow : WereOf c t broker held counts → tell_node c t counts ≡ heartbeat_counts_over t.nodes counts
  counts_follow w =
      let s = w.before in
      let is = w.left in
      ap (λ (t : State). tell_node c t counts) is
      ∙ node_told s counts w.tables.nodes.rising w.of.nodes_held c
      ∙ ap (λ (t : State). heartbeat_counts_over t.nodes counts) (sym is)

  pub again : WereOf c t broker held counts → AreOf t (broker_after rows broker) (tell_rooms c t (blocked_after t rows (tell_job c t held))) (tell_node c t counts)
  again w = record {
    pending = subst (λ (b : Broker). HoldsPending t.evals b.tasks) (sym (broker_follows w)) (over_holds t.evals broker);
    blocked = blocked_follows w;
    nodes_held = subst (λ (cs : List HeartbeatCount). HoldsHeld t.nodes cs) (sym (counts_follow w))
        (of_rows nat_cmp node_number count_node (λ k. k) node_number count_node (λ n. refl) (λ x. refl) (λ (n : Node). is_held n.status) nat_cmp_total counted_node (λ n m. refl) (λ n. heartbeat_count_of n.number counts) t.nodes);
  }

-- where there are evaluations to tell of, a desk is to be told
pub told_some : (c : Command) (s : State) (rows : List Evaluation) → TellsEvals c s rows → 1 ≤ length rows → tells_desk c s ≡ true
told_some c s rows told some = by c told where
  none : rows ≡ [] → ⊥
  none e = let zero : length rows ≡ 0 = ap length e in absurd (omega (arith, zero, some))

  by : (c : Command) → TellsEvals c s rows → tells_desk c s ≡ true
  by commands.Noop told = absurd (none told)
  by (commands.JobPut j) told = refl
  by (commands.JobStop name) told = refl
  by (commands.NodePut n) told = refl
  by (commands.NodeDown n) told = refl
  by (commands.Disconnect n) told = refl
  by (commands.Drain n force) told = absurd (none told)
  by (commands.DrainDone n) told = absurd (none told)
  by (commands.Migrate ids) told = refl
  by (commands.EvalPut name) told = refl
  by (commands.EvalStatus id to) told = refl
  by (commands.Plan p) told = absurd (none told)
  by (commands.Report n rs) told = refl
