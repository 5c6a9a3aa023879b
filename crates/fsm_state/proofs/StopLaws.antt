-- Stops, reports and marks one after the other are one change of all allocations.
use Rattle.std.proofs.Common.{◌≡◌, ℕ, Bool, true, false, cond, not, ◌&&◌, ◌||◌, T, List, [], ◌∷◌, map, Option, Some, None, refl, sym, ap, ◌∙◌, arith}
use Rattle.std.specs.Prelude.{nat_eq, bytes_eq}
use Rattle.std.specs.List.{list_any}
use Rattle.std.specs.Ordering.{nat_cmp, is_eq}
use Rattle.rows.specs.declared.job.Job.{Job}
use Rattle.rows.specs.declared.node.Node.{Node}
use Rattle.rows.specs.declared.allocation.Desired.{Desired}
use Rattle.rows.specs.declared.allocation.Desired.TheVariants as desires
use Rattle.rows.specs.declared.allocation.AllocId.{AllocId}
use Rattle.rows.specs.declared.allocation.Allocation.{Allocation}
use Rattle.rows.specs.declared.command.Report.{Report}
use Rattle.rows.specs.Keys.{alloc_cmp, node_number, alloc_id}
use Rattle.rows.specs.Rising.{is_rising}
use Rattle.fsm_tables.specs.Rows.{row_of, put_within}
use Rattle.fsm_tables.proofs.RowLaws.{rising_mapped}
use Rattle.fsm_tables.specs.Claims.{Claim, claim_of, is_active, is_live, is_wanted}
use Rattle.fsm_model.specs.Words.{State, alloc_of, is_some_and, same_alloc}
use Rattle.fsm_model.specs.Effect.{owns, moves, with_migrate_mark, is_ended_by, frees, with_room, altered, stop, client_state_of, told, told_all}
use Rattle.fsm_model.proofs.SafeLaws.{Releases, with_room_keeps, stop_releases, told_releases, told_all_releases}
use Rattle.rows.proofs.KeyLaws.{alloc_cmp_total}
use Rattle.fsm_state.specs.Inner.Steps.{put_changed, room_at, alloc_changed, revised_row, revised, ended_job, stop_one, stopped_all, tell_one, told_steps, ended_jobs, mark_one, marked_all, live_job, live_jobs}
use Rattle.fsm_state.proofs.Touching.{is_one_of}
use Rattle.fsm_model.proofs.Lists.{maps, map_itself, maps_same, anys_same, and_false, swap, and_assoc, both_tests}
use Rattle.fsm_state.proofs.StepLaws.{only, only_keeps, none_only, changed_is, any_at, node_changed_is}
use Rattle.fsm_model.proofs.Keys.{names_turn, at_alloc}

-- the change of the allocation of an id
abbrev pub at_id : (Allocation → Allocation) → AllocId → Allocation → Allocation
at_id f id = only alloc_cmp alloc_id f id

-- ---- tests of what a change ends

pub live_stays : (b : Bool) → (b && not b) ≡ false
live_stays true = refl
live_stays false = refl

ends_at : (f : Allocation → Allocation) (id : AllocId) (a : Allocation) → is_ended_by (at_id f id) a ≡ (is_eq (alloc_cmp id a.id) && is_ended_by f a)
ends_at f id a = elim (is_eq (alloc_cmp id a.id)) as (λ b. (is_live a && not (is_live (cond b (f a) a))) ≡ (b && is_ended_by f a)) [ true ↦ refl | false ↦ live_stays (is_live a) ]

through : (a b c : Bool) → (T b → T a) → (T c → T b) → (a && not c) ≡ ((a && not b) || (b && not c))
through true true c p q = refl
through true false true p q = absurd (q tt)
through true false false p q = refl
through false true c p q = absurd (p tt)
through false false true p q = refl
through false false false p q = refl

-- whether a change ends a claim that passes a test
abbrev pub ends_one : (Claim → Bool) → (Allocation → Allocation) → List Allocation → Bool
ends_one q f rows = list_any (λ a. is_ended_by f a && q (claim_of a)) rows

spread : (e d q x y : Bool) → (((e || d) && q) || (x || y)) ≡ (((e && q) || x) || ((d && q) || y))
spread true true true x y = refl
spread true true false x y = refl
spread true false true x y = refl
spread true false false x y = refl
spread false true true true y = refl
spread false true true false y = refl
spread false true false x y = refl
spread false false q x y = refl

ends_twice : (q : Claim → Bool) (g f : Allocation → Allocation) → Releases g → Releases f → (rows : List Allocation) → ends_one q (λ a. g (f a)) rows ≡ (ends_one q f rows || ends_one q g (map f rows))
ends_twice q g f r t [] = refl
ends_twice q g f r t (a ∷ rows) =
    (λ i. (through (is_live a) (is_live (f a)) (is_live (g (f a))) (t.lives a) (r.lives (f a)) i && q (claim_of a)) || ends_twice q g f r t rows i)
    ∙ spread (is_ended_by f a) (is_ended_by g (f a)) (q (claim_of a)) (ends_one q f rows) (ends_one q g (map f rows))
    ∙ (λ i. ((is_ended_by f a && q (claim_of a)) || ends_one q f rows) || ((is_ended_by g (f a) && q (sym (t.same_claim a) i)) || ends_one q g (map f rows)))

ends_one_at : (q : Claim → Bool) (f : Allocation → Allocation) (id : AllocId) (rows : List Allocation) → T (is_rising alloc_cmp alloc_id rows) → ends_one q (at_id f id) rows ≡ is_some_and (λ a. is_ended_by f a && q (claim_of a)) (row_of alloc_cmp alloc_id id rows)
ends_one_at q f id rows h =
    anys_same (λ a. is_ended_by (at_id f id) a && q (claim_of a)) (λ a. is_eq (alloc_cmp id a.id) && (is_ended_by f a && q (claim_of a)))
    (λ a. ap (λ b. b && q (claim_of a)) (ends_at f id a) ∙ and_assoc (is_eq (alloc_cmp id a.id)) (is_ended_by f a) (q (claim_of a))) rows
    ∙ any_at alloc_cmp alloc_id alloc_cmp_total (λ a. is_ended_by f a && q (claim_of a)) id rows h

ends_none : (q : Claim → Bool) (rows : List Allocation) → ends_one q (λ a. a) rows ≡ false
ends_none q [] = refl
ends_none q (a ∷ rows) = λ i. (live_stays (is_live a) i && q (claim_of a)) || ends_none q rows i

frees_is : (f : Allocation → Allocation) (rows : List Allocation) (n : ℕ) → frees f rows n ≡ ends_one (λ c. nat_eq c.node n) f rows
frees_is f rows n = anys_same (λ a. nat_eq a.node n && is_ended_by f a) (λ a. is_ended_by f a && nat_eq a.node n) (λ a. swap (nat_eq a.node n) (is_ended_by f a)) rows

-- ---- nodes that have room

rooms_same : (p q : ℕ → Bool) (x : ℕ) → ((n : ℕ) → p n ≡ q n) → (nodes : List Node) → map (with_room p x) nodes ≡ map (with_room q x) nodes
rooms_same p q x h nodes = λ i. map (with_room (λ n. h n i) x) nodes

room_twice : (p q : ℕ → Bool) (x : ℕ) (r : Node) → with_room q x (with_room p x r) ≡ with_room (λ n. p n || q n) x r
room_twice p q x r =
    elim (p r.number) as (λ b. with_room q x (cond b (record r { room = x }) r) ≡ cond (b || q r.number) (record r { room = x }) r) [
      | true ↦ elim (q r.number) as (λ b. cond b (record r { room = x }) (record r { room = x }) ≡ record r { room = x }) [ true ↦ refl | false ↦ refl ]
      | false ↦ refl
    ]

no_room : (x : ℕ) (nodes : List Node) → map (with_room (λ n. false) x) nodes ≡ nodes
no_room x nodes = map_itself nodes

eq_turn : (m n : ℕ) → nat_eq m n ≡ nat_eq n m
eq_turn m n = grind arith

room_here : (b : Bool) (x n : ℕ) (nodes : List Node) → T (is_rising nat_cmp node_number nodes) → cond b (room_at x n nodes) nodes ≡ map (with_room (λ m. b && nat_eq n m) x) nodes
room_here true x n nodes h =
    node_changed_is (λ r. record r { room = x }) (λ r. refl) n nodes h
    ∙ maps_same (λ r. cond (nat_eq r.number n) (record r { room = x }) r) (with_room (λ m. nat_eq n m) x) (λ r. ap (λ b. cond b (record r { room = x }) r) (eq_turn r.number n)) nodes
room_here false x n nodes h = sym (no_room x nodes)

-- ---- one change, and one after another

altered_same : (f g : Allocation → Allocation) → ((a : Allocation) → f a ≡ g a) → (s : State) → altered f s ≡ altered g s
altered_same f g h s = λ i. altered (λ a. h a i) s

altered_none : (s : State) → altered (λ a. a) s ≡ s
altered_none s =
    let nodes : map (with_room (frees (λ a. a) s.allocs) s.count) s.nodes ≡ s.nodes =
    rooms_same (frees (λ a. a) s.allocs) (λ n. false) s.count (λ n. frees_is (λ a. a) s.allocs n ∙ ends_none (λ c. nat_eq c.node n) s.allocs) s.nodes ∙ no_room s.count s.nodes in
    λ i. record s { nodes = nodes i; allocs = map_itself s.allocs i }

altered_twice : (g f : Allocation → Allocation) → Releases g → Releases f → (s : State) → altered g (altered f s) ≡ altered (λ a. g (f a)) s
altered_twice g f r t s =
    let p = frees f s.allocs in
    let q = frees g (map f s.allocs) in
    let either : (n : ℕ) → (p n || q n) ≡ frees (λ a. g (f a)) s.allocs n = λ n.
    sym (frees_is (λ a. g (f a)) s.allocs n ∙ ends_twice (λ c. nat_eq c.node n) g f r t s.allocs ∙ (λ i. sym (frees_is f s.allocs n) i || sym (frees_is g (map f s.allocs) n) i)) in
    let nodes : map (with_room q s.count) (map (with_room p s.count) s.nodes) ≡ map (with_room (frees (λ a. g (f a)) s.allocs) s.count) s.nodes =
    maps (with_room q s.count) (with_room p s.count) s.nodes
    ∙ maps_same (λ r. with_room q s.count (with_room p s.count r)) (with_room (λ n. p n || q n) s.count) (room_twice p q s.count) s.nodes
    ∙ rooms_same (λ n. p n || q n) (frees (λ a. g (f a)) s.allocs) s.count either s.nodes in
    λ i. record s { nodes = nodes i; allocs = maps g f s.allocs i }

-- ---- one allocation changed at its id

at_id_releases : (f : Allocation → Allocation) → Releases f → (id : AllocId) → Releases (at_id f id)
at_id_releases f r id = record {
  same_claim = λ a. elim (is_eq (alloc_cmp id a.id)) as (λ b. claim_of (cond b (f a) a) ≡ claim_of a) [ true ↦ r.same_claim a | false ↦ refl ];
  lives = λ a. elim (is_eq (alloc_cmp id a.id)) as (λ b. T (is_live (cond b (f a) a)) → T (is_live a)) [ true ↦ r.lives a | false ↦ λ h. h ];
}

pub record AreRising (s : State) : Type 0 where
  pub nodes : T (is_rising nat_cmp node_number s.nodes)
  pub allocs : T (is_rising alloc_cmp alloc_id s.allocs)

altered_rising : (f : Allocation → Allocation) → ((a : Allocation) → (f a).id ≡ a.id) → (s : State) → AreRising s → AreRising (altered f s)
altered_rising f keeps s h = record {
  nodes = rising_mapped nat_cmp node_number (with_room (frees f s.allocs) s.count) (with_room_keeps (frees f s.allocs) s.count).number s.nodes h.nodes;
  allocs = rising_mapped alloc_cmp alloc_id f keeps s.allocs h.allocs;
}

freed_at : (f : Allocation → Allocation) (id : AllocId) (s : State) → AreRising s → (n : ℕ) → frees (at_id f id) s.allocs n ≡ is_some_and (λ a. is_ended_by f a && nat_eq a.node n) (alloc_of id s)
freed_at f id s h n = frees_is (at_id f id) s.allocs n ∙ ends_one_at (λ c. nat_eq c.node n) f id s.allocs h.allocs

pub revised_is : (f : Allocation → Allocation) → ((a : Allocation) → (f a).id ≡ a.id) → (id : AllocId) (s : State) → AreRising s → revised f id s ≡ altered (at_id f id) s
revised_is f keeps id s h =
    elim (alloc_of id s) as (λ m. alloc_of id s ≡ m → revised_row f m s ≡ altered (at_id f id) s) [
      | None ↦ λ e.
          let nodes : map (with_room (frees (at_id f id) s.allocs) s.count) s.nodes ≡ s.nodes =
          rooms_same (frees (at_id f id) s.allocs) (λ n. false) s.count (λ n. freed_at f id s h n ∙ ap (is_some_and (λ a. is_ended_by f a && nat_eq a.node n)) e) s.nodes ∙ no_room s.count s.nodes in
          let allocs = none_only alloc_cmp alloc_id f id s.allocs e in
          λ i. record s { nodes = sym nodes i; allocs = sym allocs i }
      | Some a ↦ λ e.
          let nodes : cond (is_ended_by f a) (room_at s.count a.node s.nodes) s.nodes ≡ map (with_room (frees (at_id f id) s.allocs) s.count) s.nodes =
          room_here (is_ended_by f a) s.count a.node s.nodes h.nodes
          ∙ rooms_same (λ n. is_ended_by f a && nat_eq a.node n) (frees (at_id f id) s.allocs) s.count (λ n. sym (freed_at f id s h n ∙ ap (is_some_and (λ a. is_ended_by f a && nat_eq a.node n)) e)) s.nodes in
          let allocs : put_within alloc_cmp alloc_id 65536 (f a) s.allocs ≡ map (at_id f id) s.allocs =
          ap (λ m. put_changed alloc_cmp alloc_id 65536 f m s.allocs) (sym e) ∙ changed_is alloc_cmp alloc_id alloc_cmp_total 65536 f keeps id s.allocs h.allocs in
          λ i. record s { nodes = nodes i; allocs = allocs i }
    ] refl

-- ---- stops

stop_one_releases : Releases stop_one
stop_one_releases = record { same_claim = λ a. refl; lives = λ a h. absurd h }

stays_stopped : (a : Allocation) → a.desired ≡ desires.Stop → stop_one a ≡ a
stays_stopped a e = λ i. record a { desired = sym e i }

stop_after : (b : Bool) (a : Allocation) (d : Desired) → a.desired ≡ d → stop_one a ≡ cond (is_wanted d) (stop_one a) a
stop_after b a desires.Run e = refl
stop_after b a desires.Stop e = stays_stopped a e

-- a stop and then others are the stops together
stop_more : (id : AllocId) (ids : List AllocId) (a : Allocation) → stop ids (at_id stop_one id a) ≡ stop (id ∷ ids) a
stop_more id ids a =
    ap (λ b. stop ids (cond b (stop_one a) a)) (at_alloc id a)
    ∙ elim (same_alloc a.id id) as (λ b. stop ids (cond b (stop_one a) a) ≡ cond ((b || list_any (same_alloc a.id) ids) && is_wanted a.desired) (stop_one a) a) [
      | true ↦ ap (λ b. cond b (stop_one a) (stop_one a)) (and_false (list_any (same_alloc a.id) ids)) ∙ stop_after true a a.desired refl
      | false ↦ refl
    ]

pub stopped_is : (ids : List AllocId) (s : State) → AreRising s → stopped_all ids s ≡ altered (stop ids) s
stopped_is [] s h = sym (altered_none s)
stopped_is (id ∷ ids) s h =
    let keeps : (a : Allocation) → (at_id stop_one id a).id ≡ a.id = only_keeps alloc_cmp alloc_id stop_one (λ a. refl) id in
    ap (stopped_all ids) (revised_is stop_one (λ a. refl) id s h)
    ∙ stopped_is ids (altered (at_id stop_one id) s) (altered_rising (at_id stop_one id) keeps s h)
    ∙ altered_twice (stop ids) (at_id stop_one id) (stop_releases ids) (at_id_releases stop_one stop_one_releases id) s
    ∙ altered_same (λ a. stop ids (at_id stop_one id a)) (stop (id ∷ ids)) (stop_more id ids) s

-- ---- reports

tell_keeps : (n : ℕ) (r : Report) (a : Allocation) → (tell_one n r a).id ≡ a.id
tell_keeps n r a = elim (nat_eq a.node n && is_active a.client) as (λ b. (cond b (record a { client = client_state_of r.state }) a).id ≡ a.id) [ true ↦ refl | false ↦ refl ]

tell_is : (n : ℕ) (r : Report) (a : Allocation) → at_id (tell_one n r) r.id a ≡ told n r a
tell_is n r a =
    ap (λ b. cond b (tell_one n r a) a) (at_alloc r.id a)
    ∙ both_tests (same_alloc a.id r.id) (nat_eq a.node n && is_active a.client) (record a { client = client_state_of r.state }) a
    ∙ ap (λ b. cond b (record a { client = client_state_of r.state }) a) (sym (and_assoc (same_alloc a.id r.id) (nat_eq a.node n) (is_active a.client)))

told_step : (n : ℕ) (r : Report) (s : State) → AreRising s → revised (tell_one n r) r.id s ≡ altered (told n r) s
told_step n r s h = revised_is (tell_one n r) (tell_keeps n r) r.id s h ∙ altered_same (at_id (tell_one n r) r.id) (told n r) (tell_is n r) s

pub told_id : (n : ℕ) (r : Report) (a : Allocation) → (told n r a).id ≡ a.id
told_id n r a = elim (same_alloc a.id r.id && nat_eq a.node n && is_active a.client) as (λ b. (cond b (record a { client = client_state_of r.state }) a).id ≡ a.id) [ true ↦ refl | false ↦ refl ]

pub told_is : (n : ℕ) (rs : List Report) (s : State) → AreRising s → told_steps n rs s ≡ altered (told_all n rs) s
told_is n [] s h = sym (altered_none s)
told_is n (r ∷ rs) s h =
    ap (told_steps n rs) (told_step n r s h)
    ∙ told_is n rs (altered (told n r) s) (altered_rising (told n r) (told_id n r) s h)
    ∙ altered_twice (told_all n rs) (told n r) (told_all_releases n rs) (told_releases n r) s

pub one_ended : (f : Allocation → Allocation) (m : Option Allocation) (names : List (List ℕ)) (j : Job) → is_one_of (ended_job f m names) j ≡ (is_some_and (λ a. is_ended_by f a && bytes_eq a.job j.name) m || is_one_of names j)
one_ended f None names j = refl
one_ended f (Some a) names j = elim (is_ended_by f a) as (λ b. is_one_of (cond b (a.job ∷ names) names) j ≡ ((b && bytes_eq a.job j.name) || is_one_of names j)) [
  | true ↦ ap (λ b. b || is_one_of names j) (names_turn j.name a.job)
  | false ↦ refl
]

pub told_jobs : (n : ℕ) (rs : List Report) (s : State) → AreRising s → (j : Job) → owns (is_ended_by (told_all n rs)) s.allocs j ≡ is_one_of (ended_jobs n rs s) j
told_jobs n [] s h j = ends_none (λ c. bytes_eq c.job j.name) s.allocs
told_jobs n (r ∷ rs) s h j =
    let q : Claim → Bool = λ c. bytes_eq c.job j.name in
    let here : ends_one q (told n r) s.allocs ≡ is_some_and (λ a. is_ended_by (tell_one n r) a && bytes_eq a.job j.name) (alloc_of r.id s) =
    (λ i. ends_one q (λ a. sym (tell_is n r a) i) s.allocs) ∙ ends_one_at q (tell_one n r) r.id s.allocs h.allocs in
    let rest : ends_one q (told_all n rs) (map (told n r) s.allocs) ≡ is_one_of (ended_jobs n rs (revised (tell_one n r) r.id s)) j =
    told_jobs n rs (altered (told n r) s) (altered_rising (told n r) (told_id n r) s h) j ∙ ap (λ t. is_one_of (ended_jobs n rs t) j) (sym (told_step n r s h)) in
    ends_twice q (told_all n rs) (told n r) (told_all_releases n rs) (told_releases n r) s.allocs
    ∙ (λ i. here i || rest i)
    ∙ sym (one_ended (tell_one n r) (alloc_of r.id s) (ended_jobs n rs (revised (tell_one n r) r.id s)) j)

-- ---- marks

mark_keeps : (a : Allocation) → (mark_one a).id ≡ a.id
mark_keeps a = elim (is_live a) as (λ b. (cond b (record a { migrate = true }) a).id ≡ a.id) [ true ↦ refl | false ↦ refl ]

mark_more : (id : AllocId) (ids : List AllocId) (a : Allocation) → with_migrate_mark ids (at_id mark_one id a) ≡ with_migrate_mark (id ∷ ids) a
mark_more id ids a =
    ap (λ b. with_migrate_mark ids (cond b (mark_one a) a)) (at_alloc id a)
    ∙ elim (same_alloc a.id id) as (λ b. with_migrate_mark ids (cond b (mark_one a) a) ≡ cond ((b || list_any (same_alloc a.id) ids) && is_live a) (record a { migrate = true }) a) [
      | true ↦ elim (is_live a) as (λ b. is_live a ≡ b → with_migrate_mark ids (cond b (record a { migrate = true }) a) ≡ cond b (record a { migrate = true }) a) [
        | true ↦ λ e. elim (list_any (same_alloc a.id) ids && is_live a) as (λ b. cond b (record a { migrate = true }) (record a { migrate = true }) ≡ record a { migrate = true }) [ true ↦ refl | false ↦ refl ]
        | false ↦ λ e. ap (λ b. cond (list_any (same_alloc a.id) ids && b) (record a { migrate = true }) a) e ∙ ap (λ b. cond b (record a { migrate = true }) a) (and_false (list_any (same_alloc a.id) ids))
      ] refl
      | false ↦ refl
    ]

marks_one : (id : AllocId) (s : State) → AreRising s → alloc_changed mark_one id s ≡ record s { allocs = map (at_id mark_one id) s.allocs }
marks_one id s h = λ i. record s { allocs = changed_is alloc_cmp alloc_id alloc_cmp_total 65536 mark_one mark_keeps id s.allocs h.allocs i }

pub marked_is : (ids : List AllocId) (s : State) → AreRising s → marked_all ids s ≡ record s { allocs = map (with_migrate_mark ids) s.allocs }
marked_is [] s h = λ i. record s { allocs = sym (map_itself s.allocs) i }
marked_is (id ∷ ids) s h =
    let keeps : (a : Allocation) → (at_id mark_one id a).id ≡ a.id = only_keeps alloc_cmp alloc_id mark_one mark_keeps id in
    let next : AreRising (record s { allocs = map (at_id mark_one id) s.allocs }) = record { nodes = h.nodes; allocs = rising_mapped alloc_cmp alloc_id (at_id mark_one id) keeps s.allocs h.allocs } in
    ap (marked_all ids) (marks_one id s h)
    ∙ marked_is ids (record s { allocs = map (at_id mark_one id) s.allocs }) next
    ∙ (λ i. record s { allocs = (maps (with_migrate_mark ids) (at_id mark_one id) s.allocs ∙ maps_same (λ a. with_migrate_mark ids (at_id mark_one id a)) (with_migrate_mark (id ∷ ids)) (mark_more id ids) s.allocs) i })

one_live : (m : Option Allocation) (names : List (List ℕ)) (j : Job) → is_one_of (live_job m names) j ≡ (is_some_and (λ a. is_live a && bytes_eq a.job j.name) m || is_one_of names j)
one_live None names j = refl
one_live (Some a) names j = elim (is_live a) as (λ b. is_one_of (cond b (a.job ∷ names) names) j ≡ ((b && bytes_eq a.job j.name) || is_one_of names j)) [
  | true ↦ ap (λ b. b || is_one_of names j) (names_turn j.name a.job)
  | false ↦ refl
]

split : (s t l q x y : Bool) → ((((s || t) && l) && q) || (x || y)) ≡ (((s && (l && q)) || x) || (((t && l) && q) || y))
split true true true true x y = refl
split true true true false x y = refl
split true true false q x y = refl
split true false true true x y = refl
split true false true false x y = refl
split true false false q x y = refl
split false true true true true y = refl
split false true true true false y = refl
split false true true false x y = refl
split false true false q x y = refl
split false false l q x y = refl

moves_more : (id : AllocId) (ids : List AllocId) (rows : List Allocation) (j : Job) → owns (moves (id ∷ ids)) rows j ≡ (list_any (λ a. same_alloc a.id id && (is_live a && bytes_eq a.job j.name)) rows || owns (moves ids) rows j)
moves_more id ids [] j = refl
moves_more id ids (a ∷ rows) j =
    ap (λ b. (((same_alloc a.id id || list_any (same_alloc a.id) ids) && is_live a) && bytes_eq a.job j.name) || b) (moves_more id ids rows j)
    ∙ split (same_alloc a.id id) (list_any (same_alloc a.id) ids) (is_live a) (bytes_eq a.job j.name) (list_any (λ a. same_alloc a.id id && (is_live a && bytes_eq a.job j.name)) rows) (owns (moves ids) rows j)

no_moves : (rows : List Allocation) (j : Job) → owns (moves []) rows j ≡ false
no_moves [] j = refl
no_moves (a ∷ rows) j = no_moves rows j

pub moved_jobs : (ids : List AllocId) (s : State) → AreRising s → (j : Job) → owns (moves ids) s.allocs j ≡ is_one_of (live_jobs ids s) j
moved_jobs [] s h j = no_moves s.allocs j
moved_jobs (id ∷ ids) s h j =
    let here : list_any (λ a. same_alloc a.id id && (is_live a && bytes_eq a.job j.name)) s.allocs ≡ is_some_and (λ a. is_live a && bytes_eq a.job j.name) (alloc_of id s) =
    anys_same (λ a. same_alloc a.id id && (is_live a && bytes_eq a.job j.name)) (λ a. is_eq (alloc_cmp id a.id) && (is_live a && bytes_eq a.job j.name)) (λ a. ap (λ b. b && (is_live a && bytes_eq a.job j.name)) (sym (at_alloc id a))) s.allocs
    ∙ any_at alloc_cmp alloc_id alloc_cmp_total (λ a. is_live a && bytes_eq a.job j.name) id s.allocs h.allocs in
    moves_more id ids s.allocs j
    ∙ (λ i. here i || moved_jobs ids s h j i)
    ∙ sym (one_live (alloc_of id s) (live_jobs ids s) j)
