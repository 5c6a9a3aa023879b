use Rattle.std.proofs.Common.{◌≡◌, ◌++◌, T, List, length, take, sym, ap, subst, ◌∙◌}
use Rattle.std.proofs.Math.Seq.{take-append_seam}
use Rattle.fsm_tables.specs.Claims.{Claim}
use Rattle.fsm_model.specs.Safe.{are_safe, are_distinct}
use Rattle.fsm_model.specs.Plans.{wanted, left_by}
use Rattle.fsm_state.proofs.Claimed.{bears_is_safe, left_is_distinct}
use Rattle.fsm_state.proofs.cluster.Cluster.bears_all.Goals as goal

pub bears-requires-clause-held : goal.bears-requires-clause-held
bears-requires-clause-held c =
    let s = c.args.self.now in
    let p = c.args.plan.now in
    let claimed : c.add_wanted.new.claims ≡ left_by p s ++ wanted p = c.in_ok-add_wanted.ensures ∙ ap (λ (cs : List Claim). cs ++ wanted p) c.in_ok-claims.ensures in
    let size : c.len-held.result ≡ length (left_by p s) = c.len-held.ensures ∙ ap length c.in_ok-claims.ensures in
    let front : take c.len-held.result c.as_slice.result.now ≡ left_by p s = (λ i. take (size i) ((c.as_slice.ensures ∙ claimed) i)) ∙ take-append_seam (left_by p s) (wanted p) in
    λ h. subst (λ cs. T (are_distinct cs)) (sym front) (left_is_distinct p s h)

pub returns : goal.returns
returns c =
    let s = c.args.self.now in
    let p = c.args.plan.now in
    let claimed : c.add_wanted.new.claims ≡ left_by p s ++ wanted p = c.in_ok-add_wanted.ensures ∙ ap (λ (cs : List Claim). cs ++ wanted p) c.in_ok-claims.ensures in
    c.bears.ensures ∙ ap (are_safe s.nodes) (c.as_slice.ensures ∙ claimed)
    ∙ bears_is_safe p s (record {
      few = c.requires;
      nodes_rising = c.ranges-2.ensures.tables.nodes.rising;
      allocs_rising = c.ranges-2.ensures.tables.allocs.rising;
      nodes = c.ranges-2.ensures.tables.nodes.fit;
      allocs = c.ranges-2.ensures.tables.allocs.fit;
      places = c.ranges-3.ensures.5.1;
    })
