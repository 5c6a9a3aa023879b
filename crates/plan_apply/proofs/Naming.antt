-- Names told from the rows and from what is kept, as the code looks at them.
use Rattle.std.proofs.Common.{◌≡◌, ℕ, zero, suc, ◌+◌, ◌≤◌, Bool, true, false, cond, not, ◌&&◌, ◌||◌, T, List, [], ◌∷◌, ◌++◌, length, map, filter, Some, None, refl, sym, ap, subst, ◌∙◌, arith, length-append}
use Rattle.std.specs.Prelude.{nat_eq, bytes_eq}
use Rattle.std.specs.List.{list_any, slice_get}
use Rattle.std.proofs.lemmas.List.Elements.{filter-append}
use Rattle.rows.specs.declared.allocation.AllocId.{AllocId}
use Rattle.rows.specs.declared.allocation.Allocation.{Allocation}
use Rattle.rows.specs.declared.command.AcceptedPlace.{AcceptedPlace}
use Rattle.rows.proofs.Truth.{is_true}
use Rattle.fsm_tables.specs.Claims.{Claim, claim_of, claims, is_live}
use Rattle.fsm_tables.specs.LiveNames.{is_called, live_named}
use Rattle.fsm_tables.specs.declared.name.AllocName.{AllocName}
use Rattle.fsm_tables.proofs.RowLaws.{first, second}
use Rattle.fsm_model.specs.Words.{same_alloc}
use Rattle.fsm_model.specs.Effect.{stop}
use Rattle.fsm_model.specs.Safe.{same_name, are_distinct}
use Rattle.fsm_model.proofs.SafeLaws.{stop_releases}
use Rattle.fsm_model.proofs.NameLaws.{itself}
use Rattle.fsm_model.proofs.Lists.{same_truth, anys_same}
use Rattle.group_model.specs.Acceptance.{claim_at, place_claims, is_held_once}
use Rattle.fsm_state.specs.Inner.Alone.{claim_name, is_free_but}
use Rattle.fsm_state.proofs.Alone.{turned_name, stop_lives, free_of}
use Rattle.plan_apply.specs.Inner.Names.{same_place, is_single, place_name, keeps_name}

-- ---- names of rows

-- whether one of the claims is of the name of d
abbrev holds_name : Claim → List Claim → Bool
holds_name d cs = list_any (λ c. same_name c d) cs

kept_is : (ids : List AllocId) (d : Claim) (rows : List Allocation) → list_any (keeps_name (claim_name d) ids) rows ≡ holds_name d (claims (map (stop ids) rows))
kept_is ids d [] = refl
kept_is ids d (a ∷ rows) =
    let rest = claims (map (stop ids) rows) in
    sym ((λ i. holds_name d (cond (stop_lives ids a i) ((stop_releases ids).same_claim a i ∷ rest) rest))
    ∙ elim (is_live a && not (list_any (same_alloc a.id) ids)) as (λ b. holds_name d (cond b (claim_of a ∷ rest) rest) ≡ ((b && is_called (claim_name d) a) || list_any (keeps_name (claim_name d) ids) rows)) [
      | true ↦ ap (λ t. same_name (claim_of a) d || t) (sym (kept_is ids d rows))
      | false ↦ sym (kept_is ids d rows)
    ])

or_true : (b : Bool) → (b || true) ≡ true
or_true true = refl
or_true false = refl

no_call : (l m t : Bool) → (l && t) ≡ false → ((l && m) && t) ≡ false
no_call true true t e = e
no_call true false t e = refl
no_call false m t e = refl

pub none_kept : (name : AllocName) (ids : List AllocId) (rows : List Allocation) → live_named name rows ≡ None → list_any (keeps_name name ids) rows ≡ false
none_kept name ids [] e = refl
none_kept name ids (a ∷ rows) e =
    elim (is_live a && is_called name a) as (λ b. (is_live a && is_called name a) ≡ b → cond b (Some a) (live_named name rows) ≡ None → (keeps_name name ids a || list_any (keeps_name name ids) rows) ≡ false) [
      | true ↦ λ t e. absurd cc
      | false ↦ λ t e. ap (λ b. b || list_any (keeps_name name ids) rows) (no_call (is_live a) (not (list_any (same_alloc a.id) ids)) (is_called name a) t) ∙ none_kept name ids rows e
    ] refl e

called : (l m t : Bool) → (l && t) ≡ true → m ≡ true → ((l && m) && t) ≡ true
called true m t e f = ap (λ b. b && t) f ∙ e
called false m t e f = absurd cc

pub found_kept : (name : AllocName) (ids : List AllocId) (r : Allocation) (rows : List Allocation) → live_named name rows ≡ Some r → not (list_any (same_alloc r.id) ids) ≡ true → list_any (keeps_name name ids) rows ≡ true
found_kept name ids r [] e f = absurd cc
found_kept name ids r (a ∷ rows) e f =
    elim (is_live a && is_called name a) as (λ b. (is_live a && is_called name a) ≡ b → cond b (Some a) (live_named name rows) ≡ Some r → (keeps_name name ids a || list_any (keeps_name name ids) rows) ≡ true) [
      | true ↦ λ t e.
          let same : r ≡ a = cc in
          ap (λ b. b || list_any (keeps_name name ids) rows) (called (is_live a) (not (list_any (same_alloc a.id) ids)) (is_called name a) t (subst (λ z. not (list_any (same_alloc z.id) ids) ≡ true) same f))
      | false ↦ λ t e. ap (λ b. keeps_name name ids a || b) (found_kept name ids r rows e f) ∙ or_true (keeps_name name ids a)
    ] refl e

turned : (b : Bool) → not b ≡ true → b ≡ false
turned true e = absurd cc
turned false e = refl

-- where names are held once, the row that the name finds is the only one
pub once_kept : (name : AllocName) (ids : List AllocId) (r : Allocation) (rows : List Allocation) → T (are_distinct (claims rows)) → live_named name rows ≡ Some r → list_any (same_alloc r.id) ids ≡ true → list_any (keeps_name name ids) rows ≡ false
once_kept name ids r rows h e f =
    let d : Claim = record (claim_of r) { job = name.job; group = name.group; index = name.index } in
    kept_is ids d rows ∙ turned (holds_name d (claims (map (stop ids) rows))) (free_of ids d rows h ∙ ap (is_free_but ids) e ∙ f)

-- ---- counts

some_not_none : (n : ℕ) → nat_eq (suc n) 0 ≡ false
some_not_none n = grind arith

none_or_some : {A : Type 0} (b : Bool) (p : A → Bool) (x : A) (xs : List A) → nat_eq (length (filter p xs)) 0 ≡ not (list_any p xs) → nat_eq (length (cond b (x ∷ filter p xs) (filter p xs))) 0 ≡ not (b || list_any p xs)
none_or_some true p x xs e = some_not_none (length (filter p xs))
none_or_some false p x xs e = e

none_counted : {A : Type 0} (p : A → Bool) (xs : List A) → nat_eq (length (filter p xs)) 0 ≡ not (list_any p xs)
none_counted p [] = refl
none_counted p (x ∷ xs) = none_or_some (p x) p x xs (none_counted p xs)

-- an element of the list is counted
pub counted_itself : (k : AcceptedPlace) (ks : List AcceptedPlace) (i : ℕ) → slice_get ks i ≡ Some k → 1 ≤ length (filter (same_place k) ks)
counted_itself k [] i e = absurd cc
counted_itself k (l ∷ ks) zero e =
    let same : l ≡ k = cc in
    let is : same_place k l ≡ true = ap (same_place k) same ∙ is_true (same_place k k) (second (bytes_eq [] []) (same_place k k) (itself (claim_at [] k))) in
    subst (λ b. 1 ≤ length (cond b (l ∷ filter (same_place k) ks) (filter (same_place k) ks))) (sym is) (omega arith)
counted_itself k (l ∷ ks) (suc i) e =
    let rest : 1 ≤ length (filter (same_place k) ks) = counted_itself k ks i e in
    elim (same_place k l) as (λ b. 1 ≤ length (cond b (l ∷ filter (same_place k) ks) (filter (same_place k) ks))) [ true ↦ omega arith | false ↦ rest ]

same_job : (job : List ℕ) (k l : AcceptedPlace) → same_name (claim_at job k) (claim_at job l) ≡ same_place k l
same_job job k l =
    let is : bytes_eq job job ≡ true = is_true (bytes_eq job job) (first (bytes_eq job job) (bytes_eq [] []) (first (bytes_eq job job && bytes_eq [] []) (nat_eq 0 0) (itself (record { job = job; group = []; index = 0; node = 0; size = record { cpu = 0; mem = 0; disk = 0 } })))) in
    ap (λ b. b && bytes_eq k.group l.group && nat_eq k.index l.index) is

same_count : (job : List ℕ) (k : AcceptedPlace) (ks : List AcceptedPlace) → length (filter (same_name (claim_at job k)) (place_claims job ks)) ≡ length (filter (same_place k) ks)
same_count job k [] = refl
same_count job k (l ∷ ks) =
    ap (λ b. length (cond b (claim_at job l ∷ filter (same_name (claim_at job k)) (place_claims job ks)) (filter (same_name (claim_at job k)) (place_claims job ks)))) (same_job job k l)
    ∙ elim (same_place k l) as (λ b. length (cond b (claim_at job l ∷ filter (same_name (claim_at job k)) (place_claims job ks)) (filter (same_name (claim_at job k)) (place_claims job ks))) ≡ length (cond b (l ∷ filter (same_place k) ks) (filter (same_place k) ks))) [
      | true ↦ ap suc (same_count job k ks)
      | false ↦ same_count job k ks
    ]

name_turn : (c d : Claim) → same_name c d ≡ same_name d c
name_turn c d = same_truth (same_name c d) (same_name d c) (turned_name c d) (turned_name d c)

split_one : (a b c : ℕ) → 1 ≤ c → nat_eq (a + b + c) 1 ≡ ((nat_eq b 0 && nat_eq c 1) && nat_eq a 0)
split_one a b c le = grind arith

pub alone_is : (job : List ℕ) (ids : List AllocId) (rows : List Allocation) (ks ms : List AcceptedPlace) (k : AcceptedPlace) → 1 ≤ length (filter (same_place k) ms)
    → (is_single ks ms k && not (list_any (keeps_name (place_name job k) ids) rows)) ≡ is_held_once ((claims (map (stop ids) rows) ++ place_claims job ks) ++ place_claims job ms) (claim_at job k)
alone_is job ids rows ks ms k le =
    let d = claim_at job k in
    let p = same_name d in
    let cs = claims (map (stop ids) rows) in
    let left = length (filter p cs) in
    let none : nat_eq left 0 ≡ not (list_any (keeps_name (place_name job k) ids) rows) =
    none_counted p cs ∙ ap not (anys_same p (λ c. same_name c d) (name_turn d) cs ∙ sym (kept_is ids d rows)) in
    let all : length (filter p ((cs ++ place_claims job ks) ++ place_claims job ms)) ≡ left + length (filter (same_place k) ks) + length (filter (same_place k) ms) =
    ap length (filter-append p (cs ++ place_claims job ks) (place_claims job ms))
    ∙ length-append (filter p (cs ++ place_claims job ks)) (filter p (place_claims job ms))
    ∙ (λ i. (ap length (filter-append p cs (place_claims job ks)) ∙ length-append (filter p cs) (filter p (place_claims job ks)) ∙ ap (λ (n : ℕ). left + n) (same_count job k ks)) i + same_count job k ms i) in
    sym (ap (λ (n : ℕ). nat_eq n 1) all ∙ split_one left (length (filter (same_place k) ks)) (length (filter (same_place k) ms)) le ∙ ap (λ b. is_single ks ms k && b) none)
