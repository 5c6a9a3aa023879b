use Rattle.std.proofs.Common.{◌≡◌, ◌≤◌, true, T, List, length, sym, ap, subst, ◌∙◌, arith}
use Rattle.std.specs.Prelude.{◌||◌, nat_lt}
use Rattle.fsm_tables.specs.Rows.{put, row_of, has_row}
use Rattle.fsm_tables.specs.ReservedTables.{Stock}
use Rattle.rows.specs.Keys.{name_cmp}
use Rattle.eval_broker.specs.declared.ranks.Rank.{Rank}
use Rattle.eval_broker.specs.Inner.Lists.{rank_cmp, rank_job, is_behind, AreHeads, AreHeadsBut}
use Rattle.eval_broker.proofs.Heads.{heads_stay, moved_put}
use Rattle.eval_broker.proofs.lists.Lists.add_rank.Goals as goal

pub returns-then-is_behind-clause-heads : goal.returns-then-is_behind-clause-heads
returns-then-is_behind-clause-heads c =
    let p = c.args.rank in
    let ps = c.args.self.now.ranks.rows in
    let behind : is_behind p (row_of name_cmp rank_job p.job ps) ≡ true = ap (λ (rs : List Rank). is_behind p (row_of name_cmp rank_job p.job rs)) (sym c.tree.ensures.rows) ∙ sym c.is_behind.ensures ∙ c.if-is_behind.true in
    subst (λ (rs : List Rank). AreHeads rs c.args.self.now.heads.rows) (sym c.put.ensures.rows) (heads_stay p ps c.args.self.now.heads.rows c.tree.ensures.rising behind c.requires.heads)

pub put-requires-2 : goal.put-requires-2
put-requires-2 c =
    subst (λ (s : Stock Rank). T (has_row rank_cmp (λ x. x) c.args.rank s.rows || nat_lt (length s.rows) s.capacity)) (sym c.drop_head.ensures.ranks) c.requires.space

pub add_head-requires-clause-heads : goal.add_head-requires-clause-heads
add_head-requires-clause-heads c =
    let p = c.args.rank in
    let hs = c.drop_head.new.self.heads.rows in
    let to = c.put-2.ensures.rows ∙ (λ i. put rank_cmp (λ x. x) p (c.drop_head.ensures.ranks i).rows) in
    subst (λ (rs : List Rank). AreHeadsBut p.job rs hs) (sym to) (moved_put p c.args.self.now.ranks.rows hs c.drop_head.ensures.heads)

pub add_head-requires-clause-capacity : goal.add_head-requires-clause-capacity
add_head-requires-clause-capacity c hs heads =
    let to = c.put-2.ensures.rows ∙ (λ i. put rank_cmp (λ x. x) c.args.rank (c.drop_head.ensures.ranks i).rows) in
    let few : length hs ≤ c.args.self.now.heads.capacity = c.requires.capacity hs (subst (λ (rs : List Rank). AreHeads rs hs) to heads) in
    omega (arith, few, c.drop_head.ensures.capacity)
