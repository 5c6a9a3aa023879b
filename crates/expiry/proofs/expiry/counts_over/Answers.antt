use Rattle.std.proofs.Common.{◌≡◌, ◌<◌, suc, cond, [], ◌∷◌, None, length, drop, sym, ap, ◌∙◌, arith}
use Rattle.std.specs.Ordering.{nat_cmp}
use Rattle.fsm_tables.specs.Rows.{put}
use Rattle.group_model.specs.Expiry.{count_node, counted_node, heartbeat_counts_over}
use Rattle.expiry.proofs.Counting.{before_the_others, over_before}
use Rattle.expiry.proofs.expiry.counts_over.Goals as goal

pub loop-at-preserved-then-is_held : goal.loop-at-preserved-then-is_held
loop-at-preserved-then-is_held c =
    let nodes = c.args.nodes.now in
    let at = c.loop-at.at in
    let n = c.in-Some.row.now in
    let some : 0 < at = omega arith in
    let rest = heartbeat_counts_over (drop at nodes) [] in
    let one : c.put.new.self.rows ≡ counted_node n None ∷ rest =
    c.put.ensures.rows ∙ ap (put nat_cmp count_node (counted_node n None)) c.loop-at.invariant.counts ∙ before_the_others nodes at n c.ranges-2.ensures.rising some c.in-Some.ensures in
    let all = over_before nodes at n some c.in-Some.ensures in
    let longer : length c.put.new.self.rows ≡ suc (length c.loop-at.counts.rows) = ap length one ∙ ap (λ rows. suc (length rows)) (sym c.loop-at.invariant.counts) in
    record {
      within = omega arith;
      counts = one ∙ ap (λ b. cond b (counted_node n None ∷ rest) rest) c.if-is_held.ensures ∙ sym all;
      few = omega arith;
      capacity = omega arith;
    }

pub loop-at-preserved : goal.loop-at-preserved
loop-at-preserved c =
    let nodes = c.args.nodes.now in
    let at = c.loop-at.at in
    let n = c.in-Some.row.now in
    let some : 0 < at = omega arith in
    let rest = heartbeat_counts_over (drop at nodes) [] in
    record {
      within = omega arith;
      counts = c.loop-at.invariant.counts ∙ ap (λ b. cond b (counted_node n None ∷ rest) rest) c.if-is_held.ensures ∙ sym (over_before nodes at n some c.in-Some.ensures);
      few = omega arith;
      capacity = c.loop-at.invariant.capacity;
    }
