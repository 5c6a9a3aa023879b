-- A node's use told from the sums of the state and from what is kept, as the code looks at them.
use Rattle.std.proofs.Common.{◌≡◌, ℕ, ◌+◌, T, List, ◌++◌, map, sym, ap, ◌∙◌, arith}
use Rattle.std.specs.Prelude.{sum_by, nat_le}
use Rattle.std.proofs.lemmas.List.Sums.{sum_by-append}
use Rattle.rows.specs.declared.node.Node.{Node}
use Rattle.rows.specs.declared.allocation.Allocation.{Allocation}
use Rattle.rows.specs.declared.command.AcceptedPlace.{AcceptedPlace}
use Rattle.rows.specs.Keys.{alloc_cmp, alloc_id}
use Rattle.rows.specs.Rising.{is_rising}
use Rattle.rows.specs.Sizes.{amount, plus, fits}
use Rattle.rows.proofs.SizeLaws.{amount_of_plus, same_in_each}
use Rattle.fsm_tables.proofs.Uses.{use_is}
use Rattle.fsm_tables.specs.Claims.{Claim, claim_of, claims, on_node, used}
use Rattle.fsm_model.specs.Words.{State}
use Rattle.fsm_model.specs.Effect.{stop}
use Rattle.fsm_model.specs.Safe.{is_within}
use Rattle.fsm_model.specs.Plans.{ended}
use Rattle.fsm_model.proofs.SafeLaws.{stop_releases}
use Rattle.fsm_model.proofs.UseLaws.{released_sum}
use Rattle.group_model.specs.Acceptance.{place_claims}
use Rattle.fsm_state.proofs.Alone.{ended_sum, gone_sum, plus_use, room_with}
use Rattle.plan_apply.specs.Inner.Stops.{AreEnded}

moved : (u a e f h m r : ℕ) → a + e ≡ u → e ≡ f → nat_le (u + (h + m)) (r + f) ≡ nat_le (a + h + m) r
moved u a e f h m r p q = grind arith

part_is : (w : Claim → ℕ) (s : State) (rows : List Allocation) (job : List ℕ) (ks ms : List AcceptedPlace) (r : ℕ) → T (is_rising alloc_cmp alloc_id s.allocs) → AreEnded s rows
    → nat_le (sum_by w (claims s.allocs) + (sum_by w (place_claims job ks) + sum_by w (place_claims job ms))) (r + sum_by w (map claim_of rows))
    ≡ nat_le (sum_by w ((claims (map (stop (map alloc_id rows)) s.allocs) ++ place_claims job ks) ++ place_claims job ms)) r
part_is w s rows job ks ms r h e =
    let ids = map alloc_id rows in
    let left = claims (map (stop ids) s.allocs) in
    moved (sum_by w (claims s.allocs)) (sum_by w left) (sum_by w (ended (stop ids) s.allocs)) (sum_by w (map claim_of rows)) (sum_by w (place_claims job ks)) (sum_by w (place_claims job ms)) r
    (released_sum w (stop ids) (stop_releases ids) s.allocs) (ended_sum w ids s.allocs ∙ gone_sum w ids s.allocs h ∙ ap (sum_by w) e)
    ∙ ap (λ (n : ℕ). nat_le n r) (sym (sum_by-append w (left ++ place_claims job ks) (place_claims job ms) ∙ ap (λ (n : ℕ). n + sum_by w (place_claims job ms)) (sum_by-append w left (place_claims job ks))))

-- the test of the code
pub room_test : (s : State) (rows : List Allocation) (job : List ℕ) (ks ms : List AcceptedPlace) (n : Node) → T (is_rising alloc_cmp alloc_id s.allocs) → AreEnded s rows
    → fits (plus (used n.number (claims s.allocs)) (plus (used n.number (place_claims job ks)) (used n.number (place_claims job ms)))) (plus n.size (used n.number (map claim_of rows)))
    ≡ is_within ((claims (map (stop (map alloc_id rows)) s.allocs) ++ place_claims job ks) ++ place_claims job ms) n
room_test s rows job ks ms n h e =
    let held = plus (used n.number (place_claims job ks)) (used n.number (place_claims job ms)) in
    let more = plus (used n.number (claims s.allocs)) held in
    let whole = plus n.size (used n.number (map claim_of rows)) in
    let cs = (claims (map (stop (map alloc_id rows)) s.allocs) ++ place_claims job ks) ++ place_claims job ms in
    same_in_each (λ p. nat_le (amount p more) (amount p whole)) (λ p. nat_le (amount p (used n.number cs)) (amount p n.size)) (λ p.
    ap (λ (m : ℕ). nat_le m (amount p whole)) (amount_of_plus p (used n.number (claims s.allocs)) held)
    ∙ (λ i. nat_le (use_is p n.number (claims s.allocs) i + plus_use p n.number (place_claims job ks) (place_claims job ms) i) (room_with p n.number n.size (map claim_of rows) i))
    ∙ part_is (on_node n.number p) s rows job ks ms (amount p n.size) h e
    ∙ ap (λ (m : ℕ). nat_le m (amount p n.size)) (sym (use_is p n.number cs)))
