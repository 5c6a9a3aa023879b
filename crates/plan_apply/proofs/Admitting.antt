-- What is kept of a plan at a safe state is admitted there, but for a full table.
use Rattle.std.proofs.Common.{◌≡◌, ℕ, zero, suc, ◌+◌, ◌≤◌, Bool, true, false, cond, not, ◌&&◌, T, List, [], ◌∷◌, ◌++◌, length, map, filter, Option, Some, None, Result, Ok, Err, is_none, refl, sym, ap, subst, ◌∙◌, arith}
use Rattle.std.specs.Prelude.{nat_eq, nat_lt}
use Rattle.std.specs.List.{list_all, list_any}
use Rattle.std.specs.Cmp.Lexicographic.{slice_cmp}
use Rattle.std.specs.Ordering.{nat_cmp, is_eq}
use Rattle.std.specs.declared.cmp.Ordering.TheVariants.{Equal}
use Rattle.std.proofs.lemmas.Map.Text.{is_eq-slice_cmp}
use Rattle.std.proofs.lemmas.Slice.Eq.{bytes_eq-Decides}
use Rattle.rows.specs.declared.job.Job.{Job}
use Rattle.rows.specs.declared.plan.Place.{Place}
use Rattle.rows.specs.declared.plan.Plan.{Plan}
use Rattle.rows.specs.declared.node.Node.{Node}
use Rattle.rows.specs.declared.allocation.AllocId.{AllocId}
use Rattle.rows.specs.declared.command.AcceptedPlace.{AcceptedPlace}
use Rattle.rows.specs.declared.refusal.Refusal.{Refusal}
use Rattle.rows.specs.declared.refusal.Refusal.TheVariants as refusals
use Rattle.rows.specs.Keys.{name_cmp, job_name, node_number}
use Rattle.fsm_tables.specs.Claims.{Claim}
use Rattle.fsm_tables.specs.Rows.{row_of}
use Rattle.fsm_tables.proofs.RowLaws.{both, first, second}
use Rattle.fsm_tables.proofs.Filters.{found_at}
use Rattle.fsm_model.specs.Words.{State, same_alloc, job_of, node_of, eval_of, is_some_and, is_pending, no_job}
use Rattle.fsm_model.specs.Safe.{are_distinct, is_safe}
use Rattle.fsm_model.specs.Effect.{stop, with_next_count, planned}
use Rattle.fsm_model.specs.Admission.{first_of, is_live_of, is_stopped, is_asked, fits_job}
use Rattle.fsm_model.specs.Plans.{room_of, fits_number, kept_claims, wanted, left_by, FitsWhereAsked}
use Rattle.fsm_model.proofs.SafeLaws.{Fewer, nothing, kept, gone, fewer_distinct, fewer_used}
use Rattle.fsm_model.proofs.AfterLaws.{planned_is_safe}
use Rattle.group_model.specs.Acceptance.{Accepted, once_after, kept_stops, kept_where, with_kept, claimed, on, keep_places, keep_upto, keep, is_eval_of, accept_of, accept, plan_of_accepted}
use Rattle.group_model.proofs.PlanLimits.{accept_fits}
use Rattle.fsm_state.proofs.Claimed.{left_fewer}
use Rattle.plan_apply.specs.Admitted.{KeptIsAdmitted}
use Rattle.plan_apply.specs.Inner.Overlay.{stops_alone}
use Rattle.plan_apply.proofs.Fewness.{places_past, split_places, all_places, few_more}
use Rattle.plan_apply.proofs.Keeping.{Holds, upto_holds}

-- ---- what an answer says

record Parts (s : State) (p : Plan) (a : Accepted) : Type 0 where
  job : Job
  row : job_of p.job s ≡ Some job
  allows : (job.stopped && nat_lt 0 (length p.places)) ≡ false
  is : keep s job p ≡ a

same_answer : (x a : Accepted) (r : Result Accepted Refusal) → r ≡ Ok x → r ≡ Ok a → x ≡ a
same_answer x a r e f = let g : Ok x ≡ r = sym e in let h = g ∙ f in cc

passed : (b c d : Bool) (x a : Accepted) → cond (not b) (Err refusals.UnknownJob) (cond (not c) (Err refusals.JobChanged) (cond d (Err refusals.JobStopped) (Ok x))) ≡ Ok a → (d ≡ false) × (x ≡ a)
passed false c d x a e = absurd cc
passed true false d x a e = absurd cc
passed true true true x a e = absurd cc
passed true true false x a e = (refl, same_answer x a (Ok x) refl e)

parts_of : (s : State) (p : Plan) (a : Accepted) (o : Option Job) → job_of p.job s ≡ o → accept_of s p o ≡ Ok a → Parts s p a
parts_of s p a None e f = absurd cc
parts_of s p a (Some j) e f =
    let q = passed (is_eval_of s p) (nat_eq p.version j.version) (j.stopped && nat_lt 0 (length p.places)) (keep s j p) a f in
    record { job = j; row = e; allows = q.0; is = q.1 }

young : (b : Bool) (r : Result Accepted Refusal) (a : Accepted) → cond b (Err refusals.SnapshotTooOld) r ≡ Ok a → r ≡ Ok a
young true r a e = absurd cc
young false r a e = e

parts : (s : State) (p : Plan) (wait : ℕ) (a : Accepted) → accept s p wait ≡ Ok a → Parts s p a
parts s p wait a e = parts_of s p a (job_of p.job s) refl (young (nat_lt p.snapshot wait) (accept_of s p (job_of p.job s)) a e)

-- ---- the stops, and how many places

kept_ids : (m : ℕ) (a : Accepted) (o : Option (List AcceptedPlace)) → (with_kept m a o).stops ≡ a.stops
kept_ids m a None = refl
kept_ids m a (Some ks) = refl

places_ids : (s : State) (j : Job) (m : ℕ) (a : Accepted) (ks : List Place) → (keep_places s j m a ks).stops ≡ a.stops
places_ids s j m a [] = refl
places_ids s j m a (k ∷ ks) = kept_ids m a (kept_where j (claimed s j.name a) (k ∷ ks) (node_of m s))

upto_ids : (s : State) (j : Job) (p : Plan) (a : Accepted) (m : ℕ) → (keep_upto s j p a m).stops ≡ a.stops
upto_ids s j p a zero = refl
upto_ids s j p a (suc m) = places_ids s j (suc m) (keep_upto s j p a m) (on (suc m) p.places) ∙ upto_ids s j p a m

upto_few : (s : State) (j : Job) (p : Plan) (ids : List AllocId) (m : ℕ) → length (keep_upto s j p (stops_alone ids) m).places + length (places_past m p.places) ≤ length p.places
upto_few s j p ids zero = omega (arith, all_places 0 p.places)
upto_few s j p ids (suc m) =
    let rest : length (keep_upto s j p (stops_alone ids) m).places + length (places_past m p.places) ≤ length p.places = upto_few s j p ids m in
    let more = few_more s j (suc m) (keep_upto s j p (stops_alone ids) m) (on (suc m) p.places) in
    let e : m + 1 ≡ suc m = omega arith in
    let two : length (places_past m p.places) ≡ length (on (suc m) p.places) + length (places_past (suc m) p.places) = split_places m p.places ∙ (λ i. length (on (e i) p.places) + length (places_past (e i) p.places)) in
    omega (arith, rest, more, two)

live_filtered : (q : AllocId → Bool) (ids : List AllocId) → T (list_all q (filter q ids))
live_filtered q [] = tt
live_filtered q (id ∷ ids) = elim (q id) as (λ b. q id ≡ b → T (list_all q (cond b (id ∷ filter q ids) (filter q ids)))) [
  | true ↦ λ e. both _ _ (subst T (sym e) tt) (live_filtered q ids)
  | false ↦ λ e. live_filtered q ids
] refl

live_once : (q : AllocId → Bool) (seen ids : List AllocId) → T (list_all q ids) → T (list_all q (once_after seen ids))
live_once q seen [] h = tt
live_once q seen (id ∷ ids) h = elim (list_any (same_alloc id) seen) as (λ b. T (list_all q (cond b (once_after seen ids) (id ∷ once_after (id ∷ seen) ids)))) [
  | true ↦ live_once q seen ids (second (q id) (list_all q ids) h)
  | false ↦ both _ _ (first (q id) (list_all q ids) h) (live_once q (id ∷ seen) ids (second (q id) (list_all q ids) h))
]

-- ---- the state after it is safe

fewer_append : {A : Type 0} (xs ys zs : List A) → Fewer xs ys → Fewer (xs ++ zs) (ys ++ zs)
fewer_append _ _ [] nothing = nothing
fewer_append _ _ (z ∷ zs) nothing = kept z zs zs (fewer_append [] [] zs nothing)
fewer_append _ _ zs (kept x xs ys f) = kept x (xs ++ zs) (ys ++ zs) (fewer_append xs ys zs f)
fewer_append _ _ zs (gone y xs ys f) = gone y (xs ++ zs) (ys ++ zs) (fewer_append xs ys zs f)

fewer_fits : (nodes : List Node) (cs ds : List Claim) → Fewer cs ds → (n : ℕ) → T (fits_number nodes ds n) → T (fits_number nodes cs n)
fewer_fits nodes cs ds f n h =
    fewer_used cs ds f n (room_of (row_of nat_cmp node_number n nodes)) h

names_exact : (a b : List ℕ) → slice_cmp nat_cmp a b ≡ Equal → a ≡ b
names_exact a b e = (bytes_eq-Decides a b).0 (sym (is_eq-slice_cmp a b) ∙ ap is_eq e)

safe_after : (s : State) (p : Plan) (a : Accepted) (j : Job) → j.name ≡ p.job → Holds s j a → FitsWhereAsked (plan_of_accepted p a) s → T (is_safe (planned (plan_of_accepted p a) (with_next_count s)))
safe_after s p a j is h known =
    let q = plan_of_accepted p a in
    let all = kept_claims q s ++ wanted q in
    let same : claimed s j.name a ≡ all = ap (λ job. claimed s job a) is in
    let less : Fewer (left_by q s ++ wanted q) all = fewer_append (left_by q s) (kept_claims q s) (wanted q) (left_fewer (s.count + 1) 0 (length a.places) (map (stop a.stops) s.allocs)) in
    planned_is_safe q s known (record {
      fit = λ n lt. fewer_fits s.nodes (left_by q s ++ wanted q) all less n (subst (λ cs. T (fits_number s.nodes cs n)) same (h.fit n));
      distinct = fewer_distinct (left_by q s ++ wanted q) all less (subst (λ cs. T (are_distinct cs)) same h.distinct);
    })

-- ---- the tests of admission

not_true : (b : Bool) → T b → not b ≡ false
not_true true h = refl
not_true false h = absurd h

not_full : (a b : ℕ) → nat_lt a b ≡ false → b ≤ a
not_full a b e = grind (arith, e)

fewer_open : (b : Bool) (x y : ℕ) → x ≤ y → (b && nat_lt 0 y) ≡ false → (b && nat_lt 0 x) ≡ false
fewer_open false x y le e = refl
fewer_open true x y le e = grind (arith, e, le)

pub kept_is_admitted : KeptIsAdmitted
kept_is_admitted s p wait a state safe fit pending e =
    let h = parts s p wait a e in
    let j = h.job in
    let q = plan_of_accepted p a in
    let begun = kept_stops s p in
    let holds : Holds s j a = subst (Holds s j) h.is (upto_holds s j p begun safe 64) in
    let ids : a.stops ≡ begun = sym (ap (λ (z : Accepted). z.stops) h.is) ∙ upto_ids s j p (stops_alone begun) 64 in
    let few : length a.places ≤ length p.places = subst (λ (z : Accepted). length z.places ≤ length p.places) h.is (omega (arith, upto_few s j p begun 64)) in
    let known_job : no_job p.job s ≡ false = ap is_none h.row in
    let live : T (list_all (is_live_of p.job s) a.stops) = subst (λ zs. T (list_all (is_live_of p.job s) zs)) (sym ids) (live_once (is_live_of p.job s) [] (filter (is_live_of p.job s) p.stops) (live_filtered (is_live_of p.job s) p.stops)) in
    let stopped : (is_stopped p.job s && nat_lt 0 (length a.places)) ≡ false = ap (λ o. is_some_and (λ (r : Job). r.stopped) o && nat_lt 0 (length a.places)) h.row ∙ fewer_open j.stopped (length a.places) (length p.places) few h.allows in
    let asked : T (list_all (fits_job s p.job) a.places) = subst (λ o. T (list_all (λ k. is_some_and (λ (r : Job). list_any (is_asked s k) r.groups) o) a.places)) (sym h.row) holds.asked in
    let full = nat_lt 65536 (length s.allocs + length a.places) in
    let fits = accept_fits s p wait a state.rows fit e in
    let rest : List (Bool × Refusal) = (is_stopped p.job s && nat_lt 0 (length a.places), refusals.JobStopped) ∷ (not (list_all (fits_job s p.job) a.places), refusals.OutOfRange) ∷ (not (is_safe (planned q (with_next_count s))), refusals.OutOfRange) ∷ [] in
    (λ i. first_of ((not_true (is_some_and (λ r. is_pending r.status) (eval_of p.eval s)) pending i, refusals.NotOutstanding) ∷ (known_job i, refusals.UnknownJob) ∷ (not_true (list_all (is_live_of p.job s) a.stops) live i, refusals.UnknownAlloc) ∷ (full, refusals.TableFull) ∷ rest))
    ∙ elim full as (λ b. full ≡ b → cond b (Some refusals.TableFull) (first_of rest) ≡ cond b (Some refusals.TableFull) None) [
      | true ↦ λ t. refl
      | false ↦ λ t.
          let known : FitsWhereAsked q s = record {
            few = not_full 65536 (length s.allocs + length a.places) t;
            nodes_rising = state.tables.nodes.rising;
            allocs_rising = state.tables.allocs.rising;
            nodes = state.rows.nodes;
            allocs = state.rows.allocs;
            places = fits.5.1;
          } in
          let done = safe_after s p a j (found_at name_cmp job_name names_exact p.job j s.jobs h.row) holds known in
          λ i. first_of ((stopped i, refusals.JobStopped) ∷ (not_true (list_all (fits_job s p.job) a.places) asked i, refusals.OutOfRange) ∷ (not_true (is_safe (planned q (with_next_count s))) done i, refusals.OutOfRange) ∷ [])
    ] refl
