-- What stops and places change of the nodes' loads.
use Rattle.std.proofs.Common.{◌≡◌, ℕ, ◌+◌, ◌-◌, ◌≤◌, Bool, true, false, cond, ◌||◌, T, List, [], ◌∷◌, ◌++◌, map, Option, Some, None, refl, sym, ap, subst, ◌∙◌, arith}
use Rattle.std.specs.Prelude.{sum_by, nat_eq, min, ◌^◌}
use Rattle.std.specs.List.{list_any}
use Rattle.std.proofs.lemmas.List.{append-nil, map-append}
use Rattle.std.proofs.lemmas.List.Folds.{list_any-append}
use Rattle.std.proofs.lemmas.List.Sums.{sum_by-cons, sum_by-append}
use Rattle.rows.specs.declared.size.Size.{Size}
use Rattle.rows.specs.Sizes.{Part, amount, less, plus_within}
use Rattle.rows.proofs.SizeLaws.{amount_by, size_by, amount_of_less}
use Rattle.fsm_tables.proofs.Uses.{use_is}
use Rattle.rows.specs.declared.node.Node.{Node}
use Rattle.rows.specs.declared.allocation.AllocId.{AllocId}
use Rattle.rows.specs.declared.allocation.Allocation.{Allocation}
use Rattle.rows.specs.declared.command.AcceptedPlace.{AcceptedPlace}
use Rattle.rows.specs.Keys.{alloc_cmp, alloc_id}
use Rattle.rows.specs.Rising.{is_rising}
use Rattle.fsm_tables.specs.Rows.{row_of}
use Rattle.fsm_tables.specs.Claims.{Claim, claim_of, claims, on_node, used, is_live}
use Rattle.fsm_model.specs.Words.{State, same_alloc}
use Rattle.fsm_model.specs.Effect.{stop}
use Rattle.fsm_model.specs.Plans.{ended}
use Rattle.fsm_model.proofs.Lists.{maps}
use Rattle.fsm_model.proofs.SafeLaws.{stop_releases}
use Rattle.fsm_model.proofs.UseLaws.{released_sum}
use Rattle.fsm_model.proofs.AfterLaws.{sums_same}
use Rattle.fsm_tables.specs.Inner.Sums.{weight}
use Rattle.fsm_state.specs.Inner.Alone.{claim_if_live, ended_by}
use Rattle.fsm_state.proofs.Alone.{ended_sum, gone_sum}
use Rattle.group_model.specs.Acceptance.{claim_at, place_claims}
use Rattle.group_model.specs.Scheduling.{PlanPart, with_stop, claimed_by}
use Rattle.scheduler.specs.declared.load.Load.{Load}
use Rattle.scheduler.specs.Inner.Loads.{load_of, load_less, with_load}
use Rattle.scheduler.specs.Inner.Growing.{fresh, IsLiveRow}

-- ---- one more stop

turned : (b c : Bool) → (b || (c || false)) ≡ (c || b)
turned true true = refl
turned true false = refl
turned false true = refl
turned false false = refl

among_more : (a id : AllocId) (ids : List AllocId) → list_any (same_alloc a) (ids ++ id ∷ []) ≡ list_any (same_alloc a) (id ∷ ids)
among_more a id ids = list_any-append (same_alloc a) ids (id ∷ []) ∙ turned (list_any (same_alloc a) ids) (same_alloc a id)

live_share : (w : Claim → ℕ) (a : Allocation) (rest : List Claim) → is_live a ≡ true → sum_by w (claim_if_live (Some a) rest) ≡ w (claim_of a) + sum_by w rest
live_share w a rest e = ap (λ b. sum_by w (cond b (claim_of a ∷ rest) rest)) e ∙ sum_by-cons w (claim_of a) rest

module _ (w : Claim → ℕ) (rows : List Allocation) (rising : T (is_rising alloc_cmp alloc_id rows)) where
  -- what is claimed, and what the stops end
  split : (ids : List AllocId) → sum_by w (claims (map (stop ids) rows)) + sum_by w (ended_by ids rows) ≡ sum_by w (claims rows)
  split ids =
      let rest : sum_by w (claims (map (stop ids) rows)) + sum_by w (ended (stop ids) rows) ≡ sum_by w (claims rows) = released_sum w (stop ids) (stop_releases ids) rows in
      let same : sum_by w (ended (stop ids) rows) ≡ sum_by w (ended_by ids rows) = ended_sum w ids rows ∙ gone_sum w ids rows rising in
      omega (arith, rest, same)

  -- the order of stops is nothing to it
  split_last : (ids : List AllocId) (id : AllocId) → sum_by w (claims (map (stop (ids ++ id ∷ [])) rows)) + sum_by w (ended_by (id ∷ ids) rows) ≡ sum_by w (claims rows)
  split_last ids id =
      let rest : sum_by w (claims (map (stop (ids ++ id ∷ [])) rows)) + sum_by w (ended (stop (ids ++ id ∷ [])) rows) ≡ sum_by w (claims rows) = released_sum w (stop (ids ++ id ∷ [])) (stop_releases (ids ++ id ∷ [])) rows in
      let same : sum_by w (ended (stop (ids ++ id ∷ [])) rows) ≡ sum_by w (ended_by (id ∷ ids) rows) =
      ended_sum w (ids ++ id ∷ []) rows
      ∙ sums_same (λ a. cond (list_any (same_alloc a.id) (ids ++ id ∷ [])) (weight w a) 0) (λ a. cond (list_any (same_alloc a.id) (id ∷ ids)) (weight w a) 0) (λ a. ap (λ b. cond b (weight w a) 0) (among_more a.id id ids)) rows
      ∙ gone_sum w (id ∷ ids) rows rising in
      omega (arith, rest, same)

  -- a live row stops: its share is taken off, unless it stops already
  pub one_stops : (ids : List AllocId) (a : Allocation) → is_live a ≡ true → row_of alloc_cmp alloc_id a.id rows ≡ Some a
      → sum_by w (claims (map (stop (ids ++ a.id ∷ [])) rows)) + cond (list_any (same_alloc a.id) ids) 0 (w (claim_of a)) ≡ sum_by w (claims (map (stop ids) rows))
  one_stops ids a live found =
      let all = split ids in
      let with_load = split_last ids a.id in
      elim (list_any (same_alloc a.id) ids) as (λ b. sum_by w (ended_by (a.id ∷ ids) rows) ≡ sum_by w (cond b (ended_by ids rows) (claim_if_live (row_of alloc_cmp alloc_id a.id rows) (ended_by ids rows)))
      → sum_by w (claims (map (stop (ids ++ a.id ∷ [])) rows)) + cond b 0 (w (claim_of a)) ≡ sum_by w (claims (map (stop ids) rows))) [
        | true ↦ λ e. omega (arith, all, with_load, e)
        | false ↦ λ e.
            let share : sum_by w (claim_if_live (row_of alloc_cmp alloc_id a.id rows) (ended_by ids rows)) ≡ w (claim_of a) + sum_by w (ended_by ids rows) =
            ap (λ o. sum_by w (claim_if_live o (ended_by ids rows))) found ∙ live_share w a (ended_by ids rows) live in
            omega (arith, all, with_load, e, share)
      ] refl

-- ---- loads once one more stops

abbrev loaded : Node → Size → Load
loaded n z = record { node = n; used = z }

less_share : (a : Allocation) (n : Node) (y z : Size) → ((q : Part) → amount q z + cond (nat_eq a.node n.number) (amount q a.size) 0 ≡ amount q y)
    → load_less (Some a) (loaded n y) ≡ loaded n z
less_share a n y z =
    elim (nat_eq a.node n.number) as (λ b. ((q : Part) → amount q z + cond b (amount q a.size) 0 ≡ amount q y) → cond b (loaded n (less y a.size)) (loaded n y) ≡ loaded n z) [
      | true ↦ λ h. ap (loaded n) (size_by (less y a.size) z (λ q. let all = h q in let rest = amount_of_less q y a.size in omega (arith, all, rest)))
      | false ↦ λ h. ap (loaded n) (size_by y z (λ q. let all = h q in omega (arith, all)))
    ]

module _ (s : State) (job : List ℕ) (p : PlanPart) where
  stops_of : (w : Claim → ℕ) (a : Allocation) → T (is_rising alloc_cmp alloc_id s.allocs) → IsLiveRow s a
      → sum_by w (claimed_by s job (with_stop (Some a) p)) + cond (list_any (same_alloc a.id) p.stops) 0 (w (claim_of a)) ≡ sum_by w (claimed_by s job p)
  stops_of w a rising live =
      let one = one_stops w s.allocs rising p.stops a live.0 live.1 in
      let new = sum_by-append w (claims (map (stop (p.stops ++ a.id ∷ [])) s.allocs)) (place_claims job p.places) in
      let old = sum_by-append w (claims (map (stop p.stops) s.allocs)) (place_claims job p.places) in
      omega (arith, one, new, old)

  less_one : (a : Allocation) (n : Node) → T (is_rising alloc_cmp alloc_id s.allocs) → IsLiveRow s a
      → load_less (fresh p.stops (Some a)) (load_of (claimed_by s job p) n) ≡ load_of (claimed_by s job (with_stop (Some a) p)) n
  less_one a n rising live =
      let old = claimed_by s job p in
      let new = claimed_by s job (with_stop (Some a) p) in
      elim (list_any (same_alloc a.id) p.stops) as (λ b. ((q : Part) → amount q (used n.number new) + cond b 0 (on_node n.number q (claim_of a)) ≡ amount q (used n.number old))
      → load_less (cond b None (Some a)) (load_of old n) ≡ load_of new n) [
        | true ↦ λ h. ap (loaded n) (size_by (used n.number old) (used n.number new) (λ q. let all = h q in omega (arith, all)))
        | false ↦ λ h. less_share a n (used n.number old) (used n.number new) h
      ] (λ q.
      ap (λ (m : ℕ). m + cond (list_any (same_alloc a.id) p.stops) 0 (on_node n.number q (claim_of a))) (use_is q n.number new)
      ∙ stops_of (on_node n.number q) a rising live ∙ sym (use_is q n.number old))

  pub loads_less : (o : Option Allocation) (ns : List Node) → T (is_rising alloc_cmp alloc_id s.allocs) → ((a : Allocation) → o ≡ Some a → IsLiveRow s a)
      → map (load_less (fresh p.stops o)) (map (load_of (claimed_by s job p)) ns) ≡ map (load_of (claimed_by s job (with_stop o p))) ns
  loads_less None ns rising live = maps (load_less None) (load_of (claimed_by s job p)) ns
  loads_less (Some a) ns rising live =
      maps (load_less (fresh p.stops (Some a))) (load_of (claimed_by s job p)) ns
      ∙ (λ i. map (λ n. less_one a n rising (live a refl) i) ns)

  -- ---- loads once one more is placed

  places_of : (w : Claim → ℕ) (k : AcceptedPlace) → sum_by w (claimed_by s job (record p { places = p.places ++ k ∷ [] })) ≡ sum_by w (claimed_by s job p) + w (claim_at job k)
  places_of w k =
      let kept = claims (map (stop p.stops) s.allocs) in
      let new = sum_by-append w kept (place_claims job (p.places ++ k ∷ [])) in
      let old = sum_by-append w kept (place_claims job p.places) in
      let with_load : sum_by w (place_claims job (p.places ++ k ∷ [])) ≡ sum_by w (place_claims job p.places) + sum_by w (claim_at job k ∷ []) =
      ap (sum_by w) (map-append (claim_at job) p.places (k ∷ [])) ∙ sum_by-append w (place_claims job p.places) (claim_at job k ∷ []) in
      let one = sum_by-cons w (claim_at job k) [] in
      omega (arith, new, old, with_load, one)

least : (a b : ℕ) → a + b ≤ 1000000 → min (a + b) (2 ^ 64 - 1) ≡ a + b
least a b le = grind arith

number_of : (a b : ℕ) → nat_eq a b ≡ true → a ≡ b
number_of a b e = grind arith

-- what the place takes keeps its node within a room
abbrev pub HasRoomFor : List Claim → AcceptedPlace → Type 0
HasRoomFor cs k = (q : Part) → amount q (used k.node cs) + amount q k.size ≤ 1000000

more_share : (k : AcceptedPlace) (cs : List Claim) (n : Node) (z : Size) → HasRoomFor cs k → ((q : Part) → amount q z ≡ amount q (used n.number cs) + cond (nat_eq k.node n.number) (amount q k.size) 0)
    → with_load k (load_of cs n) ≡ loaded n z
more_share k cs n z room =
    let taken = used n.number cs in
    elim (nat_eq k.node n.number) as (λ b. nat_eq k.node n.number ≡ b → ((q : Part) → amount q z ≡ amount q taken + cond b (amount q k.size) 0) → cond b (loaded n (plus_within taken k.size)) (loaded n taken) ≡ loaded n z) [
      | true ↦ λ e h.
          let here = number_of k.node n.number e in
          ap (loaded n) (size_by (plus_within taken k.size) z (λ q.
          amount_by q (λ r. min (amount r taken + amount r k.size) (2 ^ 64 - 1))
          ∙ least (amount q taken) (amount q k.size) (subst (λ m. amount q (used m cs) + amount q k.size ≤ 1000000) here (room q)) ∙ sym (h q)))
      | false ↦ λ e h. ap (loaded n) (size_by taken z (λ q. let all = h q in omega (arith, all)))
    ] refl

pub loads_more : (s : State) (job : List ℕ) (p : PlanPart) (k : AcceptedPlace) (ns : List Node) → HasRoomFor (claimed_by s job p) k
    → map (with_load k) (map (load_of (claimed_by s job p)) ns) ≡ map (load_of (claimed_by s job (record p { places = p.places ++ k ∷ [] }))) ns
loads_more s job p k ns room =
    let old = claimed_by s job p in
    let new = claimed_by s job (record p { places = p.places ++ k ∷ [] }) in
    maps (with_load k) (load_of old) ns
    ∙ (λ i. map (λ n. more_share k old n (used n.number new) room (λ q.
    use_is q n.number new ∙ places_of s job p (on_node n.number q) k ∙ ap (λ (m : ℕ). m + on_node n.number q (claim_at job k)) (sym (use_is q n.number old))) i) ns)

-- ---- without a plan

none_stop : (rows : List Allocation) → map (stop []) rows ≡ rows
none_stop [] = refl
none_stop (a ∷ rows) = ap (λ zs. a ∷ zs) (none_stop rows)

pub nothing_claimed : (s : State) (job : List ℕ) → claims s.allocs ≡ claimed_by s job (record { stops = []; places = [] })
nothing_claimed s job = ap claims (sym (none_stop s.allocs)) ∙ sym (append-nil (claims (map (stop []) s.allocs)))
