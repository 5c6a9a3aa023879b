use Rattle.std.proofs.Common.{cond, length, T, List, refl, sym, subst, ◌∙◌, arith}
use Rattle.std.specs.Prelude.{◌||◌, nat_lt}
use Rattle.rows.specs.Keys.{eval_cmp}
use Rattle.rows.proofs.KeyLaws.{eval_cmp_total}
use Rattle.rows.specs.Rising.{is_rising}
use Rattle.fsm_tables.specs.Rows.{put, has_row}
use Rattle.fsm_tables.proofs.RowLaws.{rising_put}
use Rattle.fsm_tables.specs.ReservedTables.{Stock}
use Rattle.fsm_tables.specs.declared.urgency.Urgency.{Urgency}
use Rattle.fsm_tables.specs.Urgencies.{urgency_cmp}
use Rattle.group_model.specs.Brokers.{Task, task_id}
use Rattle.eval_broker.specs.declared.ranks.Head.{Head}
use Rattle.eval_broker.specs.Answers.{urgency_of}
use Rattle.eval_broker.specs.Inner.Lists.{rank_cmp, is_failed, AreHeads, AreTaskLists, HaveCapacity}
use Rattle.eval_broker.proofs.Heads.{few_heads}
use Rattle.eval_broker.proofs.Relisting.{ranks_in, failed_in, rank_spare, failed_spare, all_listed}
use Rattle.eval_broker.proofs.Stored.{capacity_kept}
use Rattle.eval_broker.proofs.tasks.Tasks.bring_in.Goals as goal

pub add_rank-requires-clause-space : goal.add_rank-requires-clause-space
add_rank-requires-clause-space c =
    let lists = c.args.self.now.lists in
    rank_spare c.args.task c.args.self.now.tasks.rows c.requires.rising c.rank.result lists.ranks.rows lists.ranks.capacity c.requires.listed.ranks c.requires.capacity.ranks

pub add_rank-requires-clause-capacity : goal.add_rank-requires-clause-capacity
add_rank-requires-clause-capacity c =
    let t = c.args.task in
    let ts = c.args.self.now.tasks.rows in
    let ps = c.args.self.now.lists.ranks.rows in
    let new = put rank_cmp (λ p. p) c.rank.result ps in
    few_heads (put eval_cmp task_id t ts) new c.args.self.now.lists.heads.capacity c.requires.capacity.heads (ranks_in t ts c.requires.rising c.rank.result ps new c.rank.ensures refl c.requires.listed.ranks)

pub add_failed-requires : goal.add_failed-requires
add_failed-requires c =
    let t = c.args.task in
    let lists = c.args.self.now.lists in
    subst (λ (s : Stock Urgency). T (has_row urgency_cmp (λ x. x) (urgency_of t) s.rows || nat_lt (length s.rows) s.capacity)) (sym c.add_rank.ensures.failed)
    (failed_spare t c.args.self.now.tasks.rows c.requires.rising (urgency_of t) lists.failed.rows lists.failed.capacity c.requires.listed.failed c.requires.capacity.failed)

pub returns-clause-kept : goal.returns-clause-kept
returns-clause-kept c =
    let t = c.args.task in
    let ts = c.args.self.now.tasks.rows in
    let us = put eval_cmp task_id t ts in
    let old = c.args.self.now.lists in
    let new = c.add_failed.new.self in
    let listed : AreTaskLists us new =
    all_listed us new c.add_rank.new.self.ranks new.failed c.add_failed.ensures.ranks refl
    (ranks_in t ts c.requires.rising c.rank.result old.ranks.rows c.add_rank.new.self.ranks.rows c.rank.ensures c.add_rank.ensures.ranks c.requires.listed.ranks)
    (subst (λ (s : Stock Head). AreHeads c.add_rank.new.self.ranks.rows s.rows) (sym c.add_failed.ensures.heads) c.add_rank.ensures.heads)
    (failed_in t ts c.requires.rising old.failed.rows new.failed.rows
    (c.add_failed.ensures.failed ∙ (λ i. cond (is_failed t) (put urgency_cmp (λ x. x) (urgency_of t) (c.add_rank.ensures.failed i).rows) (c.add_rank.ensures.failed i).rows)) c.requires.listed.failed) in
    record {
      rising = subst (λ (vs : List Task). T (is_rising eval_cmp task_id vs)) (sym c.put.ensures.rows) (rising_put eval_cmp task_id eval_cmp_total t ts c.requires.rising);
      listed = subst (λ (vs : List Task). AreTaskLists vs new) (sym c.put.ensures.rows) listed;
      capacity = subst (λ (vs : List Task). HaveCapacity (length vs) new) (sym c.put.ensures.rows)
          (capacity_kept (length us) (length us) old c.add_rank.new.self new (omega arith) c.requires.capacity c.add_rank.ensures.kept c.add_failed.ensures.kept);
    }
