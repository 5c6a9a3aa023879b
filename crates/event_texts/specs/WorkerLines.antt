-- The words of what a server's workers ask of another server.
use Rattle.std.specs.Prelude.{◌∷◌, ℕ, List, [], map, codes, decimal}
use Rattle.std.specs.List.{join_with_byte}
use Rattle.rows.specs.Fits.{IndexFits}
use Rattle.rows.specs.declared.allocation.AllocId.{AllocId}
use Rattle.rows.specs.declared.evaluation.EvalId.{EvalId}
use Rattle.rows.specs.declared.plan.Place.{Place}
use Rattle.rows.specs.declared.plan.Plan.{Plan}
use Rattle.rows.specs.declared.token.Token.{Token}
use Rattle.rows.specs.declared.worker.EvalOutcome.{EvalOutcome}
use Rattle.rows.specs.declared.worker.EvalOutcome.TheVariants.{Blocked, Complete, Failed}

-- ---- ids and tokens: two numbers with a dot between

abbrev pub eval_text : EvalId → List ℕ
eval_text eval = join_with_byte 46 (decimal eval.index ∷ decimal eval.slot ∷ [])

abbrev pub alloc_text : AllocId → List ℕ
alloc_text id = join_with_byte 46 (decimal id.index ∷ decimal id.slot ∷ [])

abbrev pub token_text : Token → List ℕ
token_text token = join_with_byte 46 (decimal token.term ∷ decimal token.serial ∷ [])

-- ---- lists: items with commas between, and a dash where there are none

abbrev pub comma_list : List (List ℕ) → List ℕ
comma_list [] = codes "-"
comma_list (item ∷ items) = join_with_byte 44 (item ∷ items)

-- a group, which of its allocations, and a node
abbrev pub place_text : Place → List ℕ
place_text place = join_with_byte 58 (place.group ∷ decimal place.index ∷ decimal place.node ∷ [])

-- ---- what stands behind the verb and the two servers

abbrev pub plan_words : Plan → List (List ℕ)
plan_words plan =
    eval_text plan.eval
    ∷ token_text plan.token
    ∷ plan.job
    ∷ decimal plan.version
    ∷ decimal plan.snapshot
    ∷ comma_list (map alloc_text plan.stops)
    ∷ comma_list (map place_text plan.places)
    ∷ []

-- a status, and the state's index: 0 unless blocked
abbrev pub outcome_words : EvalOutcome → List (List ℕ)
outcome_words (Blocked snapshot) = codes "blocked" ∷ decimal snapshot ∷ []
outcome_words Complete = codes "complete" ∷ codes "0" ∷ []
outcome_words Failed = codes "failed" ∷ codes "0" ∷ []

-- ---- the values are within their limits

abbrev pub EndFits : EvalOutcome → Type 0
EndFits (Blocked snapshot) = IndexFits snapshot
EndFits _ = Unit {0}
