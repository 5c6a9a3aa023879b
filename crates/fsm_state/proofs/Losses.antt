-- A node's loss: the rows that the look-up by node lists are all that is lost.
use Rattle.std.proofs.Common.{◌≡◌, ℕ, List, [], ◌∷◌, ◌++◌, true, false, cond, T, map, refl, sym, ap, subst, ◌∙◌}
use Rattle.std.specs.Prelude.{filter}
use Rattle.std.proofs.lemmas.List.{append_assoc, append-nil, map-append}
use Rattle.rows.specs.declared.allocation.Allocation.{Allocation}
use Rattle.rows.specs.declared.allocation.ClientState.{ClientState}
use Rattle.rows.specs.Keys.{alloc_cmp, alloc_id}
use Rattle.rows.specs.Rising.{is_rising}
use Rattle.rows.proofs.KeyLaws.{alloc_cmp_total}
use Rattle.fsm_tables.specs.Rows.{put_within}
use Rattle.fsm_tables.specs.Lookups.{is_active_on}
use Rattle.fsm_model.specs.Words.{State}
use Rattle.fsm_model.specs.Effect.{client_row, left_as}
use Rattle.fsm_state.specs.Inner.Steps.{all_left, left_steps}
use Rattle.fsm_state.proofs.StepLaws.{one_more}

-- ---- one row after the other

left_keeps : (client : ClientState) (n : ℕ) (a : Allocation) → alloc_id (left_as client n a) ≡ alloc_id a
left_keeps client n a = elim (is_active_on n a) as (λ b. alloc_id (cond b (client_row client a) a) ≡ a.id) [ true ↦ refl | false ↦ refl ]

-- the rows before are as they will be, and the rows behind as they were
left_behind : (client : ClientState) (n : ℕ) (s : State) (xs ys : List Allocation) → T (is_rising alloc_cmp alloc_id (xs ++ ys))
    → left_steps client (filter (is_active_on n) ys) (record s { allocs = map (left_as client n) xs ++ ys }) ≡ record s { allocs = map (left_as client n) (xs ++ ys) }
left_behind client n s xs [] h = ap (λ (zs : List Allocation). record s { allocs = zs }) (append-nil (map (left_as client n) xs) ∙ ap (map (left_as client n)) (sym (append-nil xs)))
left_behind client n s xs (y ∷ ys) h =
    let done = map (left_as client n) xs in
    let others = filter (is_active_on n) ys in
    let step = λ (zs : List Allocation). left_steps client others (record s { allocs = zs }) in
    let seam : done ++ left_as client n y ∷ ys ≡ map (left_as client n) (xs ++ y ∷ []) ++ ys = sym (ap (λ zs. zs ++ ys) (map-append (left_as client n) xs (y ∷ [])) ∙ append_assoc done (left_as client n y ∷ []) ys) in
    let rest : step (map (left_as client n) (xs ++ y ∷ []) ++ ys) ≡ record s { allocs = map (left_as client n) (xs ++ y ∷ ys) } =
    left_behind client n s (xs ++ y ∷ []) ys (subst (λ zs. T (is_rising alloc_cmp alloc_id zs)) (sym (append_assoc xs (y ∷ []) ys)) h)
    ∙ ap (λ (zs : List Allocation). record s { allocs = map (left_as client n) zs }) (append_assoc xs (y ∷ []) ys) in
    elim (is_active_on n y) as (λ b. is_active_on n y ≡ b → left_steps client (cond b (y ∷ others) others) (record s { allocs = done ++ y ∷ ys }) ≡ record s { allocs = map (left_as client n) (xs ++ y ∷ ys) }) [
      | true ↦ λ e.
          let is : client_row client y ≡ left_as client n y = sym (ap (λ b. cond b (client_row client y) y) e) in
          ap step (ap (λ z. put_within alloc_cmp alloc_id 65536 z (done ++ y ∷ ys)) is ∙ one_more alloc_cmp alloc_id alloc_cmp_total 65536 (left_as client n) (left_keeps client n) xs y ys h ∙ seam) ∙ rest
      | false ↦ λ e.
          let is : y ≡ left_as client n y = sym (ap (λ b. cond b (client_row client y) y) e) in
          ap step (ap (λ z. done ++ z ∷ ys) is ∙ seam) ∙ rest
    ] refl

pub left_is : (client : ClientState) (n : ℕ) (s : State) → T (is_rising alloc_cmp alloc_id s.allocs) → left_steps client (filter (is_active_on n) s.allocs) s ≡ all_left client n s
left_is client n s h = left_behind client n s [] s.allocs h
