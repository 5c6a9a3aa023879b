use Rattle.std.proofs.Common.{◌≡◌, true, [], ◌∷◌, ap, sym, subst, ◌∙◌}
use Rattle.std.specs.List.{list_all}
use Rattle.std.proofs.lemmas.Bool.{and_parts}
use Rattle.std.proofs.lemmas.List.Folds.{list_all-append}
use Rattle.blocked.specs.Inner.Anew.{is_held, put_all}
use Rattle.blocked.proofs.Anew.{put_last, still_held}
use Rattle.blocked.proofs.of_job.put_all.Goals as goal

pub loop-held-preserved : goal.loop-held-preserved
loop-held-preserved c =
    let anew = c.pop.new.self.items in
    let b = c.in-Some.held in
    let rows = c.loop-held.evals.rows in
    let parts = c.in-Some.ensures.items in
    let all = sym (list_all-append (is_held rows) anew (b ∷ [])) ∙ subst (λ bs. list_all (is_held rows) bs ≡ true) parts c.loop-held.invariant.1 in
    let each = and_parts (list_all (is_held rows) anew) (list_all (is_held rows) (b ∷ [])) all in (
      ap (put_all anew) c.put.ensures.rows ∙ sym (put_last anew b rows) ∙ ap (λ bs. put_all bs rows) (sym parts) ∙ c.loop-held.invariant.0,
      subst (λ rs. list_all (is_held rs) anew ≡ true) (sym c.put.ensures.rows) (still_held anew b rows each.0),
    )
