use Rattle.std.proofs.Common.{◌≡◌, T, not, ◌||◌, List, ◌∷◌, [], ap, sym, subst, ◌∙◌, Ok, Err}
use Rattle.std.specs.Prelude.{Result, OnOk, OnErr}
use Rattle.rows.specs.declared.allocation.Allocation.{Allocation}
use Rattle.rows.specs.declared.refusal.NoMemory.{NoMemory}
use Rattle.rows.specs.Keys.{alloc_cmp, alloc_id}
use Rattle.rows.specs.Rising.{is_rising}
use Rattle.fsm_tables.specs.Rows.{put_within}
use Rattle.fsm_tables.specs.TableRows.{TableRows}
use Rattle.fsm_tables.specs.Claims.{claims, claim_of, is_live}
use Rattle.fsm_model.specs.Words.{State}
use Rattle.fsm_model.specs.Safe.{are_distinct}
use Rattle.fsm_state.specs.Inner.Alone.{is_name_free}
use Rattle.fsm_state.proofs.Alone.{put_within_once}
use Rattle.fsm_state.proofs.cluster.Cluster.put_alloc.Goals as goal
use Rattle.fsm_state.proofs.cluster.Cluster.put_alloc.Goals.{then-self, else-self}

after_put : (r : Result (Unit {0}) NoMemory) (a : Allocation) (old new : TableRows) → OnOk r (new ≡ record old { allocs = put_within alloc_cmp alloc_id 65536 a old.allocs }) → OnErr r (new ≡ old)
    → T (are_distinct (claims old.allocs)) → T (are_distinct (claims (put_within alloc_cmp alloc_id 65536 a old.allocs))) → T (are_distinct (claims new.allocs))
after_put (Ok u) a old new ok err before after = subst (λ (t : TableRows). T (are_distinct (claims t.allocs))) (sym ok) after
after_put (Err e) a old new ok err before after = subst (λ (t : TableRows). T (are_distinct (claims t.allocs))) (sym err) before

pub invariant_of-self : goal.invariant_of-self
invariant_of-self c =
    let rows = c.self.inside.tables.allocs in
    let same : rows ≡ c.args.self.now.allocs = ap (λ (s : State). s.allocs) c.self.view_is in
    let rising : T (is_rising alloc_cmp alloc_id rows) = subst (λ zs. T (is_rising alloc_cmp alloc_id zs)) (sym same) c.ranges-2.ensures.tables.allocs.rising in
    elim c.if-self.branch [
      | then-self w ↦ λ h.
          let once : T (are_distinct (claims rows)) = c.self.invariant (subst T (sym w.if-self.true) tt) in
          let free : T (not (is_live c.args.row) || is_name_free (c.args.row.id ∷ []) rows (claim_of c.args.row)) =
          subst (λ (zs : List Allocation). T (not (is_live c.args.row) || is_name_free (c.args.row.id ∷ []) zs (claim_of c.args.row))) (sym same) (subst T (w.self-is ∙ w.takes_no_name-self-inside.ensures) h) in
          after_put c.put_alloc.result c.args.row c.self.inside.tables c.put_alloc.new.self c.put_alloc.ensures.ok c.put_alloc.ensures.err once (put_within_once 65536 c.args.row rows rising once free)
      | else-self w ↦ λ h. absurd (subst T (w.self-is ∙ w.if-self.false) h)
    ]
