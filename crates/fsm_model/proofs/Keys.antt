-- Keys told by their tests.
use Rattle.std.proofs.Common.{◌≡◌, ℕ, ◌&&◌, List, refl, sym, ap, ◌∙◌, arith}
use Rattle.std.specs.Prelude.{nat_eq, bytes_eq}
use Rattle.std.specs.Cmp.Lexicographic.{nat_list_cmp_total}
use Rattle.std.specs.Ordering.{nat_cmp, ordering_then, is_eq, ordering_reverse}
use Rattle.std.specs.declared.cmp.Ordering.{Ordering}
use Rattle.std.specs.declared.cmp.Ordering.TheVariants.{Less, Equal, Greater}
use Rattle.std.proofs.lemmas.Map.Text.{is_eq-slice_cmp}
use Rattle.rows.specs.declared.job.Job.{Job}
use Rattle.rows.specs.declared.evaluation.EvalId.{EvalId}
use Rattle.rows.specs.declared.evaluation.Evaluation.{Evaluation}
use Rattle.rows.specs.declared.allocation.AllocId.{AllocId}
use Rattle.rows.specs.declared.allocation.Allocation.{Allocation}
use Rattle.rows.specs.Keys.{name_cmp, eval_cmp, alloc_cmp}
use Rattle.fsm_model.specs.Words.{same_alloc, same_eval}
use Rattle.fsm_model.specs.Effect.{is_named}

turned : (r : Ordering) → is_eq (ordering_reverse r) ≡ is_eq r
turned Less = refl
turned Equal = refl
turned Greater = refl

pub names_turn : (a b : List ℕ) → bytes_eq a b ≡ bytes_eq b a
names_turn a b = sym (is_eq-slice_cmp a b) ∙ ap is_eq (nat_list_cmp_total.antisymm a b) ∙ turned (name_cmp b a) ∙ is_eq-slice_cmp b a

pub at_name : (name : List ℕ) (j : Job) → is_eq (name_cmp name j.name) ≡ is_named name j
at_name name j = is_eq-slice_cmp name j.name ∙ names_turn name j.name

pub at_number : (n m : ℕ) → is_eq (nat_cmp n m) ≡ nat_eq m n
at_number n m = grind arith

two_keys : (r q : Ordering) → is_eq (ordering_then r q) ≡ (is_eq r && is_eq q)
two_keys Less q = refl
two_keys Equal q = refl
two_keys Greater q = refl

pub at_alloc : (id : AllocId) (a : Allocation) → is_eq (alloc_cmp id a.id) ≡ same_alloc a.id id
at_alloc id a = two_keys (nat_cmp id.index a.id.index) (nat_cmp id.slot a.id.slot) ∙ (λ i. at_number id.index a.id.index i && at_number id.slot a.id.slot i)

pub at_eval : (id : EvalId) (e : Evaluation) → is_eq (eval_cmp id e.id) ≡ same_eval e.id id
at_eval id e = two_keys (nat_cmp id.index e.id.index) (nat_cmp id.slot e.id.slot) ∙ (λ i. at_number id.index e.id.index i && at_number id.slot e.id.slot i)
