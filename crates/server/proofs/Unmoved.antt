-- Reports change no row exactly where they change none of their own allocations.
use Rattle.std.proofs.Common.{◌≡◌, ℕ, Bool, true, false, not, T, ◌&&◌, ◌||◌, List, [], ◌∷◌, Option, Some, None, refl, sym, ap, ◌∙◌}
use Rattle.std.specs.List.{list_any, list_all}
use Rattle.rows.specs.declared.allocation.Allocation.{Allocation}
use Rattle.rows.specs.declared.allocation.ClientState.{ClientState}
use Rattle.rows.specs.declared.allocation.ClientState.TheVariants as clients
use Rattle.rows.specs.declared.command.Report.{Report}
use Rattle.rows.specs.Keys.{alloc_cmp, alloc_id}
use Rattle.rows.specs.Rising.{is_rising}
use Rattle.fsm_model.specs.Words.{State, alloc_of, is_some_and}
use Rattle.fsm_model.proofs.Lists.{anys_same}
use Rattle.fsm_state.proofs.Reports.{is_told, untold, told_rows}
use Rattle.group_model.specs.ClientRequests.{same_state, is_unmoved}
use Rattle.server.specs.Inner.Idle.{stays_of, is_unmoved_at}

same_itself : (state : ClientState) → same_state state state ≡ true
same_itself clients.Pending = refl
same_itself clients.Running = refl
same_itself clients.Complete = refl
same_itself clients.Failed = refl
same_itself clients.Lost = refl
same_itself clients.Unknown = refl

-- a row that moves is told
abbrev moves : ℕ → List Report → Allocation → Bool
moves n rs a = not (is_unmoved n rs a)

moves_told : (n : ℕ) (rs : List Report) (a : Allocation) → moves n rs a ≡ (is_told rs a && moves n rs a)
moves_told n rs a =
    elim (is_told rs a) as (λ b. is_told rs a ≡ b → moves n rs a ≡ (b && moves n rs a)) [
      | true ↦ λ e. refl
      | false ↦ λ e. ap (λ (z : Allocation). not (same_state z.client a.client)) (untold n rs a e) ∙ ap not (same_itself a.client)
    ] refl

not_and : (a b : Bool) → (a && b) ≡ not (not a || not b)
not_and true true = refl
not_and true false = refl
not_and false b = refl

twice : (b : Bool) → not (not b) ≡ b
twice true = refl
twice false = refl

all_by : {X : Type 0} (p : X → Bool) (xs : List X) → list_all p xs ≡ not (list_any (λ x. not (p x)) xs)
all_by p [] = refl
all_by p (x ∷ xs) =
    ap (λ b. p x && b) (all_by p xs)
    ∙ not_and (p x) (not (list_any (λ x. not (p x)) xs))
    ∙ ap (λ b. not (not (p x) || b)) (twice (list_any (λ x. not (p x)) xs))

moves_at : (n : ℕ) (rs : List Report) (a : Option Allocation) → is_some_and (moves n rs) a ≡ not (stays_of n rs a)
moves_at n rs None = refl
moves_at n rs (Some a) = refl

-- reports of a node move no row exactly where they move none of their own
pub idle_by_reports : (n : ℕ) (rs : List Report) (s : State) → T (is_rising alloc_cmp alloc_id s.allocs) → list_all (is_unmoved_at n rs s) rs ≡ list_all (is_unmoved n rs) s.allocs
idle_by_reports n rs s h =
    all_by (is_unmoved_at n rs s) rs
    ∙ ap not (sym (
    anys_same (moves n rs) (λ a. is_told rs a && moves n rs a) (moves_told n rs) s.allocs
    ∙ told_rows (moves n rs) rs s h
    ∙ anys_same (λ (r : Report). is_some_and (moves n rs) (alloc_of r.id s)) (λ (r : Report). not (is_unmoved_at n rs s r)) (λ r. moves_at n rs (alloc_of r.id s)) rs))
    ∙ sym (all_by (is_unmoved n rs) s.allocs)
