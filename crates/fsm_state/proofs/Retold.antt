-- What a call's answer says of the state, told in other words.
use Rattle.std.proofs.Common.{◌≡◌, Bool, List, ℕ, sym, subst}
use Rattle.std.specs.Prelude.{Result, Ok, Err, OnOk, IfOk}
use Rattle.std.specs.BTreeSet.{BTreeSet}
use Rattle.rows.specs.declared.job.Job.{Job}
use Rattle.fsm_tables.specs.Lookups.{GivesRows}
use Rattle.fsm_model.specs.Words.{State}
use Rattle.fsm_model.specs.Effect.{evaluations_created}
use Rattle.fsm_state.specs.Inner.Steps.{is_named_in}

pub retold : {A E : Type 0} (r : Result A E) (x y z : State) → y ≡ z → OnOk r (x ≡ y) → OnOk r (x ≡ z)
retold r x y z e h = subst (λ (w : State). OnOk r (x ≡ w)) e h

pub touched_both : (those : Job → Bool) (names : BTreeSet (List ℕ)) (s t : State) → ((j : Job) → those j ≡ is_named_in names j) → s ≡ t → evaluations_created (is_named_in names) s ≡ evaluations_created those t
touched_both those names s t h e = λ i. evaluations_created (λ j. sym (h j) i) (e i)

-- rows that are given keep what is said of them
pub given_rows : {X E : Type 0} (r : Result (List X) E) (P : List X → Type 0) (rows : List X) → GivesRows r rows → P rows → IfOk r P
given_rows (Ok ys) P rows h p = subst P (sym h) p
given_rows (Err e) P rows h p = tt
