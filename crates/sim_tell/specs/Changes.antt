-- What is told of a state's rows that are not as they were in another state.
use Rattle.std.specs.Prelude.{◌≡◌, ℕ, Bool, if◌then◌else◌, Some, MatchOption, List, [], ◌++◌, decimal, codes}
use Rattle.rows.specs.declared.allocation.Allocation.{Allocation}
use Rattle.rows.specs.declared.allocation.Desired.{Desired}
use Rattle.rows.specs.declared.allocation.Desired.TheVariants as desires
use Rattle.rows.specs.declared.evaluation.Evaluation.{Evaluation}
use Rattle.rows.specs.declared.job.Job.{Job}
use Rattle.rows.specs.declared.node.DrainMode.{DrainMode}
use Rattle.rows.specs.declared.node.DrainMode.TheVariants as drains
use Rattle.rows.specs.declared.node.Node.{Node}
use Rattle.fsm_model.specs.Words.{State, job_of, node_of, eval_of, alloc_of}
use Rattle.sim_labels.specs.Words.{eval_text, alloc_text, name_text, node_word, drain_word, status_word, client_word}
use Rattle.sim_tell.specs.Words.{TellsNew}

-- ---- jobs

-- it was put or stopped last by the same entry
abbrev pub IsOldJob : State → Job → Type 0
IsOldJob old row = MatchOption (job_of row.name old) ⊥ (λ before. before.version ≡ row.version)

abbrev pub job_state : Bool → List ℕ
job_state stopped = if stopped then codes "stopped" else codes "put"

abbrev pub job_words : Job → List ℕ
job_words row = codes "job " ++ (row.name ++ (codes " " ++ job_state row.stopped))

-- ---- nodes

-- it is as it was, but for the entry that gave room on it
abbrev pub IsOldNode : State → Node → Type 0
IsOldNode old row =
    MatchOption (node_of row.number old) ⊥
    (λ before. (before.status ≡ row.status) × (before.eligible ≡ row.eligible) × (before.drain ≡ row.drain))

-- how it is emptied; or, where it is not, that nothing may be placed on it
abbrev pub care_words : DrainMode → Bool → List ℕ
care_words drains.Off eligible = if eligible then [] else codes " not eligible"
care_words drain eligible = codes " draining " ++ drain_word drain

abbrev pub node_words : Node → List ℕ
node_words row =
    codes "node " ++ (decimal row.number ++ (codes " " ++ (node_word row.status ++ care_words row.drain row.eligible)))

-- ---- evaluations

abbrev pub IsOldEval : State → Evaluation → Type 0
IsOldEval old row = eval_of row.id old ≡ Some row

abbrev pub eval_words : Evaluation → List ℕ
eval_words row =
    codes "eval " ++ (eval_text row.id ++ (codes " of " ++ (row.job ++ (codes " " ++ status_word row.status))))

-- ---- allocations

-- what may change of it is as it was
abbrev pub IsOldAlloc : State → Allocation → Type 0
IsOldAlloc old row =
    MatchOption (alloc_of row.id old) ⊥
    (λ before. (before.desired ≡ row.desired) × (before.client ≡ row.client) × (before.migrate ≡ row.migrate))

-- that it is to stop, or to move
abbrev pub wish_words : Desired → Bool → List ℕ
wish_words desires.Stop migrate = codes " to stop"
wish_words desires.Run migrate = if migrate then codes " to move" else []

abbrev pub alloc_words : Allocation → List ℕ
alloc_words row =
    codes "alloc " ++ (alloc_text row.id ++ (codes " " ++ (name_text row
    ++ (codes " node " ++ (decimal row.node ++ (codes " " ++ (client_word row.client ++ wish_words row.desired row.migrate)))))))

-- ---- all tables

-- What is new in a state came behind a text: jobs, nodes, evaluations and allocations.
pub record TellsTables (old new : State) (before after : List ℕ) : Type 0 where
  pub jobs : List ℕ
  pub nodes : List ℕ
  pub evals : List ℕ
  pub of_jobs : TellsNew (IsOldJob old) job_words new.jobs before jobs
  pub of_nodes : TellsNew (IsOldNode old) node_words new.nodes jobs nodes
  pub of_evals : TellsNew (IsOldEval old) eval_words new.evals nodes evals
  pub of_allocs : TellsNew (IsOldAlloc old) alloc_words new.allocs evals after
