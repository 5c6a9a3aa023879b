-- What holds of what is kept so far, node by node: each number's use is within what it has, no two
-- claims are of one name, and the job asks for each place.
use Rattle.std.proofs.Common.{◌≡◌, ℕ, zero, suc, Bool, true, false, cond, ◌&&◌, ◌||◌, T, List, [], ◌∷◌, ◌++◌, map, Option, Some, None, is_some, refl, sym, ap, subst, ◌∙◌, arith, append_assoc}
use Rattle.std.specs.Prelude.{nat_eq, nat_lt, bytes_eq, sum_by, find, filter_map}
use Rattle.std.specs.List.{AllByRecursion, list_all, list_any, cons_option}
use Rattle.std.specs.Ordering.{nat_cmp}
use Rattle.std.proofs.lemmas.List.{map-append, append-nil}
use Rattle.std.proofs.lemmas.List.Folds.{list_all-append}
use Rattle.std.proofs.lemmas.List.Sums.{sum_by-append, sum_by-cons}
use Rattle.std.proofs.lemmas.Map.Lookups.{exact_unsigned}
use Rattle.rows.specs.declared.size.Size.{Size}
use Rattle.rows.specs.declared.job.Job.{Job}
use Rattle.rows.specs.declared.job.Group.{Group}
use Rattle.rows.specs.declared.node.Node.{Node}
use Rattle.rows.specs.declared.plan.Place.{Place}
use Rattle.rows.specs.declared.plan.Plan.{Plan}
use Rattle.rows.specs.declared.command.AcceptedPlace.{AcceptedPlace}
use Rattle.rows.specs.declared.allocation.AllocId.{AllocId}
use Rattle.rows.specs.Keys.{node_number}
use Rattle.fsm_tables.specs.Claims.{Claim, claims, on_node, used}
use Rattle.fsm_tables.specs.Rows.{row_of}
use Rattle.fsm_tables.proofs.RowLaws.{both, first, second}
use Rattle.fsm_tables.proofs.Filters.{found_at}
use Rattle.fsm_model.specs.Words.{State, node_of, is_some_and}
use Rattle.rows.specs.Sizes.{Part, amount, fits}
use Rattle.rows.proofs.SizeLaws.{size_itself}
use Rattle.fsm_tables.proofs.Uses.{same_use}
use Rattle.fsm_model.specs.Safe.{is_within, are_distinct, are_safe}
use Rattle.fsm_model.specs.SafeFacts.{Safe}
use Rattle.fsm_model.specs.Effect.{stop}
use Rattle.fsm_model.specs.Admission.{may_hold, is_asked}
use Rattle.fsm_model.specs.Plans.{room_of, fits_number}
use Rattle.fsm_model.proofs.SafeFacts.{test_by_safe}
use Rattle.fsm_model.proofs.SafeLaws.{stop_releases, released, fewer_safe, distinct_of}
use Rattle.fsm_model.proofs.UseLaws.{number_fits}
use Rattle.group_model.specs.Acceptance.{Accepted, is_group_of, with_group_size, sized_on, claim_at, place_claims, is_held_once, bears, on, kept_on, kept_where, with_kept, claimed, keep_places, keep_upto}
use Rattle.plan_apply.specs.Inner.Overlay.{stops_alone}
use Rattle.plan_apply.proofs.Alone.{once_is_distinct}

pub record Holds (s : State) (j : Job) (a : Accepted) : Type 0 where
  pub fit : (n : ℕ) → T (fits_number s.nodes (claimed s j.name a) n)
  pub distinct : T (are_distinct (claimed s j.name a))
  pub asked : T (list_all (λ k. list_any (is_asked s k) j.groups) a.places)

-- ---- the places of one node

abbrev with_size : Place → Group → AcceptedPlace
with_size k g = record { group = k.group; index = k.index; node = k.node; size = g.size }

-- the group that is found asks for its place
found_asks : (s : State) (n : Node) (k : Place) (g : Group) → node_of k.node s ≡ Some n → T (is_group_of n k g) → T (is_asked s (with_size k g) g)
found_asks s n k g e h =
    let front = first (bytes_eq g.name k.group && nat_lt k.index g.count) (may_hold g n) h in
    both _ _ (both _ _ (both _ _ (first (bytes_eq g.name k.group) (nat_lt k.index g.count) front) (size_itself g.size)) (second (bytes_eq g.name k.group) (nat_lt k.index g.count) front))
    (subst (λ o. T (is_some_and (may_hold g) o)) (sym e) (second (bytes_eq g.name k.group && nat_lt k.index g.count) (may_hold g n) h))

any_there : (b c : Bool) → T c → T (b || c)
any_there true c h = tt
any_there false c h = h

any_here : (b c : Bool) → T b → T (b || c)
any_here true c h = tt
any_here false c h = absurd h

one_asks : (s : State) (n : Node) (k : Place) (gs : List Group) (g : Group) → node_of k.node s ≡ Some n → find (is_group_of n k) gs ≡ Some g → T (list_any (is_asked s (with_size k g)) gs)
one_asks s n k [] g e f = absurd cc
one_asks s n k (x ∷ gs) g e f =
    elim (is_group_of n k x) as (λ b. is_group_of n k x ≡ b → cond b (Some x) (find (is_group_of n k) gs) ≡ Some g → T (list_any (is_asked s (with_size k g)) (x ∷ gs))) [
      | true ↦ λ t f.
          let same : x ≡ g = cc in
          any_here (is_asked s (with_size k g) x) (list_any (is_asked s (with_size k g)) gs) (subst (λ y. T (is_asked s (with_size k y) x)) same (found_asks s n k x e (subst T (sym t) tt)))
      | false ↦ λ t f. any_there (is_asked s (with_size k g) x) (list_any (is_asked s (with_size k g)) gs) (one_asks s n k gs g e f)
    ] refl f

-- places that a node takes: the job asks for them, and they are on the node
module _ (s : State) (j : Job) (n : Node) (m : ℕ) (e : node_of m s ≡ Some n) where
  abbrev Taken : AcceptedPlace → Type 0
  Taken k = T (list_any (is_asked s k) j.groups) × (k.node ≡ m)

  one_taken : (k : Place) (o : Option Group) → k.node ≡ m → find (is_group_of n k) j.groups ≡ o → (ks : List AcceptedPlace) → AllByRecursion Taken ks → AllByRecursion Taken (cons_option (with_group_size k o) ks)
  one_taken k None is f ks h = h
  one_taken k (Some g) is f ks h = ((one_asks s n k j.groups g (subst (λ i. node_of i s ≡ Some n) (sym is) e) f, is), h)

  all_taken : (ks : List Place) → AllByRecursion (λ (k : Place). k.node ≡ m) ks → AllByRecursion Taken (filter_map (sized_on j n) ks)
  all_taken [] h = tt
  all_taken (k ∷ ks) h = one_taken k (find (is_group_of n k) j.groups) h.0 refl (filter_map (sized_on j n) ks) (all_taken ks h.1)

all_asked : (s : State) (j : Job) (m : ℕ) (ks : List AcceptedPlace) → AllByRecursion (λ k. T (list_any (is_asked s k) j.groups) × (k.node ≡ m)) ks → T (list_all (λ k. list_any (is_asked s k) j.groups) ks)
all_asked s j m [] h = tt
all_asked s j m (k ∷ ks) h = both _ _ h.0.0 (all_asked s j m ks h.1)

number_of : (a b : ℕ) → T (nat_eq a b) → a ≡ b
number_of a b h = grind arith

on_it : (m : ℕ) (ks : List Place) → AllByRecursion (λ (k : Place). k.node ≡ m) (on m ks)
on_it m [] = tt
on_it m (k ∷ ks) = elim (nat_eq k.node m) as (λ b. nat_eq k.node m ≡ b → AllByRecursion (λ (k : Place). k.node ≡ m) (cond b (k ∷ on m ks) (on m ks))) [
  | true ↦ λ t. (number_of k.node m (subst T (sym t) tt), on_it m ks)
  | false ↦ λ t. on_it m ks
] refl

-- they take nothing of other nodes
apart_zero : (a m n x : ℕ) → a ≡ m → nat_eq m n ≡ false → cond (nat_eq a n) x 0 ≡ 0
apart_zero a m n x p e = ap (λ i. cond (nat_eq i n) x 0) p ∙ ap (λ b. cond b x 0) e

none_elsewhere : (p : Part) (s : State) (j : Job) (job : List ℕ) (m n : ℕ) → nat_eq m n ≡ false → (ks : List AcceptedPlace) → AllByRecursion (λ k. T (list_any (is_asked s k) j.groups) × (k.node ≡ m)) ks → sum_by (on_node n p) (place_claims job ks) ≡ 0
none_elsewhere p s j job m n e [] h = refl
none_elsewhere p s j job m n e (k ∷ ks) h =
    let rest : sum_by (on_node n p) (place_claims job ks) ≡ 0 = none_elsewhere p s j job m n e ks h.1 in
    let here : on_node n p (claim_at job k) ≡ 0 = apart_zero k.node m n (amount p k.size) h.0.1 e in
    sum_by-cons (on_node n p) (claim_at job k) (place_claims job ks) ∙ omega (arith, rest, here)

same_sum : (w : Claim → ℕ) (cs ds : List Claim) → sum_by w ds ≡ 0 → sum_by w (cs ++ ds) ≡ sum_by w cs
same_sum w cs ds e = let all = sum_by-append w cs ds in omega (arith, all, e)

-- ---- a node that keeps its places

module _ (s : State) (j : Job) (m : ℕ) (n : Node) (e : node_of m s ≡ Some n) (a : Accepted) (h : Holds s j a) (ks : List AcceptedPlace) (taken : AllByRecursion (λ k. T (list_any (is_asked s k) j.groups) × (k.node ≡ m)) ks) (b : T (bears j.name (claimed s j.name a) n ks)) where
  abbrev cs : List Claim
  cs = claimed s j.name a

  abbrev ds : List Claim
  ds = place_claims j.name ks

  together : cs ++ ds ≡ claimed s j.name (record a { places = a.places ++ ks })
  together = append_assoc (claims (map (stop a.stops) s.allocs)) (place_claims j.name a.places) ds ∙ ap (λ zs. claims (map (stop a.stops) s.allocs) ++ zs) (sym (map-append (claim_at j.name) a.places ks))

  within : T (is_within (cs ++ ds) n)
  within = second (list_all (is_held_once (cs ++ ds)) ds) (is_within (cs ++ ds) n) b

  fit_here : T (fits_number s.nodes (cs ++ ds) m)
  fit_here =
      let is : n.number ≡ m = found_at nat_cmp node_number exact_unsigned m n s.nodes e in
      subst (λ o. T (fits (used m (cs ++ ds)) (room_of o))) (sym e) (subst (λ i. T (fits (used i (cs ++ ds)) n.size)) is within)

  fit_at : (i : ℕ) → T (fits_number s.nodes (cs ++ ds) i)
  fit_at i = elim (nat_eq m i) as (λ t. nat_eq m i ≡ t → T (fits_number s.nodes (cs ++ ds) i)) [
    | true ↦ λ t. subst (λ x. T (fits_number s.nodes (cs ++ ds) x)) (number_of m i (subst T (sym t) tt)) fit_here
    | false ↦ λ t.
        let same = same_use (cs ++ ds) cs i (λ p. same_sum (on_node i p) cs ds (none_elsewhere p s j j.name m i t ks taken)) in
        subst (λ (z : Size). T (fits z (room_of (row_of nat_cmp node_number i s.nodes)))) (sym same) (h.fit i)
  ] refl

  pub more_holds : Holds s j (record a { places = a.places ++ ks })
  more_holds = record {
    fit = λ i. subst (λ zs. T (fits_number s.nodes zs i)) together (fit_at i);
    distinct = subst (λ zs. T (are_distinct zs)) together (once_is_distinct cs ds h.distinct (first (list_all (is_held_once (cs ++ ds)) ds) (is_within (cs ++ ds) n) b));
    asked = subst T (sym (list_all-append (λ k. list_any (is_asked s k) j.groups) a.places ks)) (both _ _ h.asked (all_asked s j m ks taken));
  }

-- ---- one node more, and all

refused_holds : (s : State) (j : Job) (a : Accepted) (rs : List ℕ) → Holds s j a → Holds s j (record a { refused = rs })
refused_holds s j a rs h = record { fit = h.fit; distinct = h.distinct; asked = h.asked }

kept_holds : (s : State) (j : Job) (m : ℕ) (n : Node) → node_of m s ≡ Some n → (a : Accepted) → Holds s j a → (ks : List Place) → AllByRecursion (λ (k : Place). k.node ≡ m) ks → Holds s j (with_kept m a (kept_on j (claimed s j.name a) ks n))
kept_holds s j m n e a h ks f =
    let each = list_all (λ k. is_some (sized_on j n k)) ks in
    let ms = filter_map (sized_on j n) ks in
    let borne = bears j.name (claimed s j.name a) n ms in
    elim (each && borne) as (λ b. (each && borne) ≡ b → Holds s j (with_kept m a (cond b (Some ms) None))) [
      | true ↦ λ t. more_holds s j m n e a h ms (all_taken s j n m e ks f) (second each borne (subst T (sym t) tt))
      | false ↦ λ t. refused_holds s j a (a.refused ++ m ∷ []) h
    ] refl

where_holds : (s : State) (j : Job) (m : ℕ) (o : Option Node) → node_of m s ≡ o → (a : Accepted) → Holds s j a → (ks : List Place) → AllByRecursion (λ (k : Place). k.node ≡ m) ks → Holds s j (with_kept m a (kept_where j (claimed s j.name a) ks o))
where_holds s j m None e a h ks f = refused_holds s j a (a.refused ++ m ∷ []) h
where_holds s j m (Some n) e a h ks f = kept_holds s j m n e a h ks f

places_hold : (s : State) (j : Job) (m : ℕ) (a : Accepted) → Holds s j a → (ks : List Place) → AllByRecursion (λ (k : Place). k.node ≡ m) ks → Holds s j (keep_places s j m a ks)
places_hold s j m a h [] f = h
places_hold s j m a h (k ∷ ks) f = where_holds s j m (node_of m s) refl a h (k ∷ ks) f

stops_hold : (s : State) (j : Job) (ids : List AllocId) → Safe s → Holds s j (stops_alone ids)
stops_hold s j ids safe =
    let left = claims (map (stop ids) s.allocs) in
    let still : T (are_safe s.nodes left) = fewer_safe s.nodes left (claims s.allocs) (released (stop ids) (stop_releases ids) s.allocs) (test_by_safe s safe) in
    record {
      fit = λ n. subst (λ zs. T (fits_number s.nodes zs n)) (sym (append-nil left)) (number_fits s.nodes left still n);
      distinct = subst (λ zs. T (are_distinct zs)) (sym (append-nil left)) (distinct_of s.nodes left still);
      asked = tt;
    }

pub upto_holds : (s : State) (j : Job) (p : Plan) (ids : List AllocId) → Safe s → (m : ℕ) → Holds s j (keep_upto s j p (stops_alone ids) m)
upto_holds s j p ids safe zero = stops_hold s j ids safe
upto_holds s j p ids safe (suc m) = places_hold s j (suc m) (keep_upto s j p (stops_alone ids) m) (upto_holds s j p ids safe m) (on (suc m) p.places) (on_it (suc m) p.places)
