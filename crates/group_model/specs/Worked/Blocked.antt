-- Which blocked evaluation becomes due: one of snapshot 5, whose job asks for class `linux`.
use Rattle.std.specs.Prelude.{◌≡◌, ℕ, List, [], ◌∷◌, map}
use Rattle.rows.specs.declared.evaluation.EvalId.{EvalId}
use Rattle.rows.specs.declared.evaluation.EvalStatus.TheVariants as eval_statuses
use Rattle.fsm_model.specs.Worked.Words.{linux, web, eval_id}
use Rattle.group_model.specs.Blocked.{BlockedEval, BlockedEvals, with_blocked, made_due}

-- `arm`
abbrev pub arm : List ℕ
arm = 97 ∷ 114 ∷ 109 ∷ []

abbrev pub one_blocked : BlockedEvals
one_blocked = with_blocked (record { id = eval_id 2 0; job = web; priority = 50; status = eval_statuses.Blocked; snapshot = 5 }) (linux ∷ []) (record { evals = []; room = λ class. 0 })

abbrev pub made : List ℕ → ℕ → List EvalId
made class index = map (λ (e : BlockedEval). e.row.id) (made_due class index one_blocked)

abbrev pub NoNewRoom : Type 0
NoNewRoom = made linux 5 ≡ []

abbrev pub OtherClass : Type 0
OtherClass = made arm 9 ≡ []

abbrev pub NewRoom : Type 0
NewRoom = made linux 6 ≡ eval_id 2 0 ∷ []
