-- The groups on the move, by one look at each job.
use Rattle.std.proofs.Common.{◌≡◌, Bool, true, false, cond, ◌&&◌, ◌||◌, List, [], ◌∷◌, filter, bytes_eq, refl, sym, ap, ◌∙◌}
use Rattle.std.specs.List.{list_any}
use Rattle.std.specs.Ordering.{is_eq}
use Rattle.std.proofs.lemmas.Map.Text.{is_eq-slice_cmp}
use Rattle.rows.specs.Keys.{name_cmp}
use Rattle.rows.specs.declared.allocation.Allocation.{Allocation}
use Rattle.fsm_tables.specs.Claims.{is_live}
use Rattle.fsm_tables.specs.Lookups.{lives_for}
use Rattle.fsm_model.proofs.Keys.{names_turn}
use Rattle.fsm_model.proofs.Lists.{anys_same}
use Rattle.group_model.specs.Drains.{same_group, group_moves}
use Rattle.drain.proofs.Groups.{any_both}
use Rattle.drain.proofs.Moving.{same_name}

-- ---- one row after the other

pub marked_row : (old rest mark same all : Bool) → mark ≡ true → (old || ((mark && same) || rest)) ≡ all → ((same || old) || rest) ≡ all
marked_row old rest mark same all e h = by old same rest ∙ ap (λ m. old || ((m && same) || rest)) (sym e) ∙ h where
  by : (old same rest : Bool) → ((same || old) || rest) ≡ (old || (same || rest))
  by true true rest = refl
  by true false rest = refl
  by false true rest = refl
  by false false rest = refl

pub passed_row : (old rest mark same all : Bool) → mark ≡ false → (old || ((mark && same) || rest)) ≡ all → (old || rest) ≡ all
passed_row old rest mark same all e h = ap (λ m. old || ((m && same) || rest)) (sym e) ∙ h

-- ---- one job more

any_and : {A : Type 0} (c : Bool) (g : A → Bool) (xs : List A) → list_any (λ x. c && g x) xs ≡ (c && list_any g xs)
any_and true g xs = refl
any_and false g [] = refl
any_and false g (x ∷ xs) = any_and false g xs

-- one row of the job, told by its group
of_job : (a b : Allocation) (job : List _) → (lives_for job b && (b.migrate && same_group a b)) ≡ (bytes_eq a.job job && (same_group a b && (is_live b && b.migrate)))
of_job a b job = by (bytes_eq a.job b.job) refl where
  alike : (live one other group mark : Bool) → one ≡ other → ((live && one) && (mark && group)) ≡ (other && (group && (live && mark)))
  alike live one true group mark e = ap (λ x. (live && x) && (mark && group)) e ∙ at live group mark where
    at : (live group mark : Bool) → ((live && true) && (mark && group)) ≡ (group && (live && mark))
    at true true true = refl
    at true true false = refl
    at true false true = refl
    at true false false = refl
    at false true mark = refl
    at false false mark = refl
  alike live one false group mark e = ap (λ x. (live && x) && (mark && group)) e ∙ at live where
    at : (live : Bool) → ((live && false) && (mark && group)) ≡ false
    at true = refl
    at false = refl

  none : (p mark q : Bool) → (p && (mark && false)) ≡ (q && false)
  none true true true = refl
  none true true false = refl
  none true false true = refl
  none true false false = refl
  none false mark true = refl
  none false mark false = refl

  by : (e : Bool) → bytes_eq a.job b.job ≡ e → (lives_for job b && (b.migrate && (e && bytes_eq a.group b.group))) ≡ (bytes_eq a.job job && ((e && bytes_eq a.group b.group) && (is_live b && b.migrate)))
  by true e = alike (is_live b) (bytes_eq b.job job) (bytes_eq a.job job) (bytes_eq a.group b.group) b.migrate (same_name a.job b.job job e)
  by false e = none (lives_for job b) b.migrate (bytes_eq a.job job)

marked_of_job : (a : Allocation) (job : List _) (rows : List Allocation) → list_any (λ (b : Allocation). b.migrate && same_group a b) (filter (lives_for job) rows) ≡ (bytes_eq a.job job && group_moves rows a)
marked_of_job a job rows =
    any_both (lives_for job) (λ (b : Allocation). b.migrate && same_group a b) rows
    ∙ anys_same _ (λ b. bytes_eq a.job job && (same_group a b && (is_live b && b.migrate))) (λ b. of_job a b job) rows
    ∙ any_and (bytes_eq a.job job) (λ b. same_group a b && (is_live b && b.migrate)) rows

pub job_more : (a : Allocation) (job : List _) (rows : List Allocation) (old new : Bool) → new ≡ cond (is_eq (name_cmp job a.job)) true old →
    ((old && group_moves rows a) || list_any (λ (b : Allocation). b.migrate && same_group a b) (filter (lives_for job) rows)) ≡ (new && group_moves rows a)
job_more a job rows old new e =
    ap (λ x. (old && group_moves rows a) || x) (marked_of_job a job rows)
    ∙ by old (bytes_eq a.job job) (group_moves rows a)
    ∙ ap (λ x. x && group_moves rows a) (ap (λ b. cond b true old) (names_turn a.job job ∙ sym (is_eq-slice_cmp job a.job)) ∙ sym e)
  where
    by : (old same moves : Bool) → ((old && moves) || (same && moves)) ≡ (cond same true old && moves)
    by true true true = refl
    by true true false = refl
    by true false true = refl
    by true false false = refl
    by false true moves = refl
    by false false moves = refl
