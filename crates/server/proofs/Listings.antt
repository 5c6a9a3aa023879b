-- What a node's agent is shown is a list that a message bears.
use Rattle.std.proofs.Common.{ℕ, ◌≤◌, Bool, true, false, cond, List, [], ◌∷◌, length, map, filter, refl, ◌∙◌, arith}
use Rattle.rows.specs.Keys.{alloc_cmp, alloc_id}
use Rattle.rows.specs.Listings.{AreListed, listed_id}
use Rattle.rows.specs.States.{InOrder}
use Rattle.rows.specs.Versions.{newest}
use Rattle.rows.proofs.KeyLaws.{alloc_cmp_total}
use Rattle.rows.proofs.RisingLaws.{keeps_rising}
use Rattle.rows.proofs.Truth.{is_true}
use Rattle.fsm_tables.specs.Lookups.{lives_on}
use Rattle.fields_model.specs.StateText.{state}
use Rattle.fields_model.proofs.RangeLaws.{state_fits}
use Rattle.fsm_model.specs.Words.{State}
use Rattle.group_model.specs.ClientRequests.{shown, listed}
use Rattle.group_model.proofs.KeptRows.{rising_kept}

few_made : {A B : Type 0} (make : A → B) (keep : A → Bool) (xs : List A) → length (map make (filter keep xs)) ≤ length xs
few_made make keep [] = omega arith
few_made make keep (x ∷ xs) = elim (keep x) as (λ b. length (map make (cond b (x ∷ filter keep xs) (filter keep xs))) ≤ length (x ∷ xs)) [
  | true ↦ omega (arith, few_made make keep xs)
  | false ↦ omega (arith, few_made make keep xs)
]

pub are_listed : (n : ℕ) (s : State) → (state newest).Fits s → AreListed (listed n s)
are_listed n s fits =
    let allocs : InOrder alloc_cmp alloc_id 65536 s.allocs = (state_fits newest s fits).tables.allocs in
    let few : length (listed n s) ≤ length s.allocs = few_made shown (lives_on n) s.allocs in (
      omega (arith, few, allocs.few),
      keeps_rising alloc_cmp alloc_cmp_total listed_id (listed n s)
          ∙ is_true _ (rising_kept alloc_cmp alloc_id listed_id shown (λ a. refl) (lives_on n) s.allocs allocs.rising),
    )
