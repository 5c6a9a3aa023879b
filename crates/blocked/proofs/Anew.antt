-- The evaluations of a job that are put anew are those whose classes change.
use Rattle.std.proofs.Common.{◌≡◌, Bool, true, false, ◌&&◌, cond, T, List, [], ◌∷◌, ◌++◌, map, filter, Some, is_some, refl, sym, ap, subst, ◌∙◌}
use Rattle.std.specs.List.{list_all}
use Rattle.std.specs.Cmp.{tied_itself}
use Rattle.std.specs.Ordering.{is_eq}
use Rattle.std.proofs.lemmas.Map.Text.{is_eq-slice_cmp}
use Rattle.std.proofs.lemmas.List.{append_assoc}
use Rattle.rows.specs.declared.job.Job.{Job}
use Rattle.rows.specs.declared.evaluation.EvalId.{EvalId}
use Rattle.rows.specs.Keys.{eval_cmp}
use Rattle.rows.specs.Rising.{is_below, is_rising}
use Rattle.rows.proofs.KeyLaws.{eval_cmp_total}
use Rattle.fsm_tables.specs.Rows.{row_of, put}
use Rattle.fsm_tables.proofs.RowLaws.{both, first, second, row_of-put, below_mapped, rising_mapped}
use Rattle.fsm_state.proofs.StepLaws.{put_between}
use Rattle.group_model.specs.Blocked.{BlockedEval, blocked_id, classes_of, with_classes_of}
use Rattle.blocked.specs.Inner.Anew.{anew_of, is_held, put_all}
use Rattle.blocked.specs.Rooms.{is_of_job}

-- ---- one is put, the last of those that are left

pub put_last : (anew : List BlockedEval) (b : BlockedEval) (rows : List BlockedEval) → put_all (anew ++ b ∷ []) rows ≡ put_all anew (put eval_cmp blocked_id b rows)
put_last [] b rows = refl
put_last (x ∷ anew) b rows = ap (put eval_cmp blocked_id x) (put_last anew b rows)

-- what is held stays so
pub still_held : (anew : List BlockedEval) (b : BlockedEval) (rows : List BlockedEval) → list_all (is_held rows) anew ≡ true → list_all (is_held (put eval_cmp blocked_id b rows)) anew ≡ true
still_held [] b rows all = refl
still_held (x ∷ anew) b rows all = by (is_held rows x) refl all (still_held anew b rows) where
  more : (c : Bool) → is_held rows x ≡ true → is_some (cond c (Some b) (row_of eval_cmp blocked_id x.row.id rows)) ≡ true
  more true held = refl
  more false held = held

  by : (h : Bool) → is_held rows x ≡ h → (h && list_all (is_held rows) anew) ≡ true → (list_all (is_held rows) anew ≡ true → list_all (is_held (put eval_cmp blocked_id b rows)) anew ≡ true) → (is_held (put eval_cmp blocked_id b rows) x && list_all (is_held (put eval_cmp blocked_id b rows)) anew) ≡ true
  by false e all rest = absurd cc
  by true e all rest =
      ap (λ c. c && list_all (is_held (put eval_cmp blocked_id b rows)) anew)
      (ap is_some (row_of-put eval_cmp blocked_id eval_cmp_total x.row.id b rows) ∙ more (is_eq (eval_cmp x.row.id b.row.id)) e)
      ∙ rest all

-- ---- all of a job

module _ (j : Job) where
  abbrev change : BlockedEval → BlockedEval
  change b = with_classes_of j b

  changed_is : (b : BlockedEval) (c : Bool) → is_of_job j.name b ≡ c → change b ≡ record b { classes = cond c (classes_of (Some j)) b.classes }
  changed_is b c e = ap (λ t. let x : BlockedEval = record b { classes = cond t (classes_of (Some j)) b.classes } in x) (is_eq-slice_cmp b.row.job j.name ∙ e)

  abbrev pub those : List BlockedEval → List BlockedEval
  those evals = map (anew_of j) (filter (is_of_job j.name) evals)

  held_there : (xs : List BlockedEval) (y : BlockedEval) (ys : List BlockedEval) → T (is_rising eval_cmp blocked_id (xs ++ y ∷ ys)) → is_held (xs ++ y ∷ ys) (anew_of j y) ≡ true
  held_there xs y ys h =
      let rows = xs ++ y ∷ ys in
      ap (λ zs. is_held zs y) (sym (put_between eval_cmp blocked_id eval_cmp_total y y refl xs ys h))
      ∙ ap is_some (row_of-put eval_cmp blocked_id eval_cmp_total y.row.id y rows)
      ∙ ap (λ r. is_some (cond (is_eq r) (Some y) (row_of eval_cmp blocked_id y.row.id rows))) (tied_itself eval_cmp_total y.row.id)

  held_from : (ys xs : List BlockedEval) → T (is_rising eval_cmp blocked_id (xs ++ ys)) → list_all (is_held (xs ++ ys)) (those ys) ≡ true
  held_from [] xs h = refl
  held_from (y ∷ ys) xs h =
      let front = xs ++ y ∷ [] in
      let whole : front ++ ys ≡ xs ++ y ∷ ys = append_assoc xs (y ∷ []) ys in
      let rest = subst (λ zs. list_all (is_held zs) (those ys) ≡ true) whole (held_from ys front (subst (λ zs. T (is_rising eval_cmp blocked_id zs)) (sym whole) h)) in
      elim (is_of_job j.name y) as (λ c. list_all (is_held (xs ++ y ∷ ys)) (map (anew_of j) (cond c (y ∷ filter (is_of_job j.name) ys) (filter (is_of_job j.name) ys))) ≡ true) [
        | true ↦ ap (λ c. c && list_all (is_held (xs ++ y ∷ ys)) (those ys)) (held_there xs y ys h) ∙ rest
        | false ↦ rest
      ]

  -- each of them is held
  pub all_held : (evals : List BlockedEval) → T (is_rising eval_cmp blocked_id evals) → list_all (is_held evals) (those evals) ≡ true
  all_held evals h = held_from evals [] h

  -- their ids stay
  below_behind : (k : EvalId) (xs ys : List BlockedEval) → T (is_below eval_cmp blocked_id k (xs ++ ys)) → T (is_below eval_cmp blocked_id k (xs ++ map change ys))
  below_behind k [] ys h = below_mapped eval_cmp blocked_id change (λ b. refl) k ys h
  below_behind k (x ∷ xs) ys h = both _ _ (first _ _ h) (below_behind k xs ys (second _ _ h))

  rising_behind : (xs ys : List BlockedEval) → T (is_rising eval_cmp blocked_id (xs ++ ys)) → T (is_rising eval_cmp blocked_id (xs ++ map change ys))
  rising_behind [] ys h = rising_mapped eval_cmp blocked_id change (λ b. refl) ys h
  rising_behind (x ∷ xs) ys h = both _ _ (below_behind x.row.id xs ys (first _ _ h)) (rising_behind xs ys (second _ _ h))

  -- those behind are changed, and now one more
  anew_from : (ys xs : List BlockedEval) → T (is_rising eval_cmp blocked_id (xs ++ ys)) → put_all (those ys) (xs ++ ys) ≡ xs ++ map change ys
  anew_from [] xs h = refl
  anew_from (y ∷ ys) xs h =
      let front = xs ++ y ∷ [] in
      let whole : front ++ ys ≡ xs ++ y ∷ ys = append_assoc xs (y ∷ []) ys in
      let parted = subst (λ zs. T (is_rising eval_cmp blocked_id zs)) (sym whole) h in
      let after : front ++ map change ys ≡ xs ++ y ∷ map change ys = append_assoc xs (y ∷ []) (map change ys) in
      let rest = ap (put_all (those ys)) (sym whole) ∙ anew_from ys front parted ∙ after in
      let rising = subst (λ zs. T (is_rising eval_cmp blocked_id zs)) after (rising_behind front ys parted) in
      elim (is_of_job j.name y) as (λ c. is_of_job j.name y ≡ c → put_all (map (anew_of j) (cond c (y ∷ filter (is_of_job j.name) ys) (filter (is_of_job j.name) ys))) (xs ++ y ∷ ys) ≡ xs ++ map change (y ∷ ys)) [
        | true ↦ λ e.
            ap (put eval_cmp blocked_id (anew_of j y)) rest
            ∙ put_between eval_cmp blocked_id eval_cmp_total (anew_of j y) y refl xs (map change ys) rising
            ∙ ap (λ z. xs ++ z ∷ map change ys) (sym (changed_is y true e))
        | false ↦ λ e. rest ∙ ap (λ z. xs ++ z ∷ map change ys) (sym (changed_is y false e))
      ] refl

  pub anew : (evals : List BlockedEval) → T (is_rising eval_cmp blocked_id evals) → put_all (those evals) evals ≡ map change evals
  anew evals h = anew_from evals [] h
