-- The best of the nodes, told by places in the list of their loads.
use Rattle.std.proofs.Common.{◌≡◌, ◌⊎◌, Some, None, ℕ, zero, suc, ◌+◌, ◌<◌, ◌≤◌, Bool, true, false, not, ◌&&◌, ◌||◌, T, List, [], ◌∷◌, length, get_or, map, refl, sym, ap, subst, ◌∙◌, arith, inl, inr}
use Rattle.std.specs.Prelude.{nat_lt, nat_eq, nat_le}
use Rattle.std.specs.List.{list_all}
use Rattle.std.specs.Ordering.{nat_cmp}
use Rattle.std.proofs.lemmas.Bool.{cases_lt}
use Rattle.std.proofs.lemmas.List.{get_or-map, get_or_default, length-map}
use Rattle.rows.specs.declared.job.Group.{Group}
use Rattle.rows.specs.declared.node.Node.{Node}
use Rattle.rows.specs.Keys.{node_number}
use Rattle.rows.specs.Rising.{is_rising}
use Rattle.fsm_tables.specs.Rows.{row_of}
use Rattle.fsm_tables.specs.Claims.{Claim}
use Rattle.fsm_model.specs.Words.{State}
use Rattle.group_model.specs.Scheduling.{has_room_for, fullness_with, is_as_good, IsBest, fits_nowhere}
use Rattle.scheduler.specs.declared.load.Load.{Load}
use Rattle.scheduler.specs.Inner.Loads.{load_of, takes_one_of, fullness_on, IsBestAt, IsBestOf}
use Rattle.scheduler.proofs.Found.{node_found, numbers_rise}

-- ---- while the list is walked

-- after so many of them
pub record BestSoFar (f : Load → Load) (g : Group) (ls : List Load) (found : Bool) (best most at : ℕ) : Type 0 where
  pub none : found ≡ false → (j : ℕ) (d : Load) → j < at → takes_one_of g (f (get_or ls j d)) ≡ false
  pub within : found ≡ true → best < at
  pub fits : found ≡ true → (d : Load) → takes_one_of g (f (get_or ls best d)) ≡ true
  pub most_is : found ≡ true → (d : Load) → most ≡ fullness_on g (f (get_or ls best d))
  pub fullest : found ≡ true → (j : ℕ) (d : Load) → j < at → takes_one_of g (f (get_or ls j d)) ≡ true → fullness_on g (f (get_or ls j d)) ≤ most
  pub first : found ≡ true → (j : ℕ) (d : Load) → j < best → takes_one_of g (f (get_or ls j d)) ≡ true → fullness_on g (f (get_or ls j d)) < most

pub both_kinds : true ≡ false → ⊥
both_kinds e = absurd cc

module _ (f : Load → Load) (g : Group) (ls : List Load) where
  here_or_before : (P : Load → Type 0) (at : ℕ) (x : Load) → at < length ls → x ≡ get_or ls at x → P x → ((j : ℕ) (d : Load) → j < at → P (get_or ls j d)) → (j : ℕ) (d : Load) → j < at + 1 → P (get_or ls j d)
  here_or_before P at x lt is here before j d below = elim (cases_lt j at) [
    | inl less ↦ before j d less
    | inr more ↦
        let same : at ≡ j = omega (arith, below, more) in
        subst (λ k. P (get_or ls k d)) same (subst P (is ∙ get_or_default ls at x d lt) here)
  ]

  module _ (found : Bool) (best most at : ℕ) (x : Load) (so_far : BestSoFar f g ls found best most at) (lt : at < length ls) (is : x ≡ get_or ls at x) where
    -- the next does not take it
    pub not_taken : takes_one_of g (f x) ≡ false → BestSoFar f g ls found best most (at + 1)
    not_taken t = record {
      none = λ e. here_or_before (λ l. takes_one_of g (f l) ≡ false) at x lt is t (so_far.none e);
      within = λ e. let below = so_far.within e in omega (arith, below);
      fits = so_far.fits;
      most_is = so_far.most_is;
      fullest = λ e. here_or_before (λ l. takes_one_of g (f l) ≡ true → fullness_on g (f l) ≤ most) at x lt is (λ u. absurd (both_kinds (sym u ∙ t))) (so_far.fullest e);
      first = so_far.first;
    }

    -- it is not fuller
    pub not_fuller : found ≡ true → fullness_on g (f x) ≤ most → BestSoFar f g ls found best most (at + 1)
    not_fuller t le = record {
      none = λ e. absurd (both_kinds (sym t ∙ e));
      within = λ e. let below = so_far.within e in omega (arith, below);
      fits = so_far.fits;
      most_is = so_far.most_is;
      fullest = λ e. here_or_before (λ l. takes_one_of g (f l) ≡ true → fullness_on g (f l) ≤ most) at x lt is (λ u. le) (so_far.fullest e);
      first = so_far.first;
    }

    -- it is the best so far
    pub taken : takes_one_of g (f x) ≡ true → (n : ℕ) → n ≡ fullness_on g (f x) → (found ≡ true → most < n) → BestSoFar f g ls true at n (at + 1)
    taken t n same fuller = record {
      none = λ e. absurd (both_kinds e);
      within = λ e. omega arith;
      fits = λ e d. ap (λ l. takes_one_of g (f l)) (sym (is ∙ get_or_default ls at x d lt)) ∙ t;
      most_is = λ e d. same ∙ ap (λ l. fullness_on g (f l)) (is ∙ get_or_default ls at x d lt);
      fullest = λ e. here_or_before (λ l. takes_one_of g (f l) ≡ true → fullness_on g (f l) ≤ n) at x lt is (λ u. omega (arith, same)) (λ j d below u. let lt = before j d below u in omega (arith, lt));
      first = λ e. before;
    } where
      before : (j : ℕ) (d : Load) → j < at → takes_one_of g (f (get_or ls j d)) ≡ true → fullness_on g (f (get_or ls j d)) < n
      before j d below u = elim found as (λ b. found ≡ b → fullness_on g (f (get_or ls j d)) < n) [
        | true ↦ λ e. let le = so_far.fullest e j d below u in let lt = fuller e in omega (arith, le, lt)
        | false ↦ λ e. absurd (both_kinds (sym u ∙ so_far.none e j d below))
      ] refl

  pub best_of_all : (best most at : ℕ) → BestSoFar f g ls true best most at → length ls ≤ at → at ≤ length ls → IsBestAt f g ls best
  best_of_all best most at b ge le = record {
    within = let below = b.within refl in omega (arith, below, le);
    fits = b.fits refl;
    fullest = λ j d lt t. let e = b.most_is refl d in let h = b.fullest refl j d (omega (arith, lt, ge)) t in omega (arith, e, h);
    first = λ j d lt t. let e = b.most_is refl d in let h = b.first refl j d lt t in omega (arith, e, h);
  }

-- ---- and told by the nodes

all_by_place : {A : Type 0} (p : A → Bool) (xs : List A) → ((j : ℕ) (d : A) → j < length xs → p (get_or xs j d) ≡ true) → list_all p xs ≡ true
all_by_place p [] h = refl
all_by_place p (x ∷ xs) h = ap (λ b. b && list_all p xs) (h zero x (omega arith)) ∙ all_by_place p xs (λ j d lt. h (suc j) d (omega (arith, lt)))

as_good : (m n a b : ℕ) → m ≤ n → (m < n) ⊎ (a ≤ b) → (nat_lt m n || (nat_eq m n && nat_le a b)) ≡ true
as_good m n a b le (inl lt) = grind arith
as_good m n a b le (inr ab) = grind arith

module _ (s : State) (cs before : List Claim) (g : Group) (f : Load → Load) (rising : T (is_rising nat_cmp node_number s.nodes))
    (seen : map f (map (load_of before) s.nodes) ≡ map (load_of cs) s.nodes) where
  load_at : (j : ℕ) (d : Load) (e : Node) → j < length s.nodes → f (get_or (map (load_of before) s.nodes) j d) ≡ load_of cs (get_or s.nodes j e)
  load_at j d e lt =
      let long : length (map (load_of before) s.nodes) ≡ length s.nodes = length-map s.nodes (load_of before) in
      sym (get_or-map f (map (load_of before) s.nodes) j d (f d) (omega (arith, lt, long)))
      ∙ ap (λ ls. get_or ls j (f d)) seen
      ∙ get_or-map (load_of cs) s.nodes j e (f d) lt

  pub nowhere : IsBestOf f g (map (load_of before) s.nodes) None → fits_nowhere s cs g ≡ true
  nowhere none = all_by_place (λ n. not (has_room_for cs g n)) s.nodes (λ j d lt.
      let long : length (map (load_of before) s.nodes) ≡ length s.nodes = length-map s.nodes (load_of before) in
      ap not (ap (takes_one_of g) (sym (load_at j (load_of cs d) d lt)) ∙ none j (load_of cs d) (omega (arith, lt, long))))

  pub best_node : (at : ℕ) (l : Load) → IsBestAt f g (map (load_of before) s.nodes) at → l ≡ get_or (map (load_of before) s.nodes) at l → IsBest s cs g l.node
  best_node at l best is =
      let long : length (map (load_of before) s.nodes) ≡ length s.nodes = length-map s.nodes (load_of before) in
      let lt : at < length s.nodes = omega (arith, long, best.within) in
      let node : l.node ≡ get_or s.nodes at l.node = ap (λ (x : Load). x.node) (is ∙ get_or-map (load_of before) s.nodes at l.node l lt) in
      record {
        there = ap (λ (n : Node). row_of nat_cmp node_number n.number s.nodes) node ∙ node_found s.nodes at l.node rising lt ∙ ap Some (sym node);
        fits = ap (has_room_for cs g) node ∙ ap (takes_one_of g) (sym (load_at at l l.node lt)) ∙ best.fits l;
        best = all_by_place (λ m. not (has_room_for cs g m) || is_as_good cs g l.node m) s.nodes (λ j d below. good at l best lt node j d below);
      }
    where
      good : (at : ℕ) (l : Load) → IsBestAt f g (map (load_of before) s.nodes) at → at < length s.nodes → l.node ≡ get_or s.nodes at l.node → (j : ℕ) (d : Node) → j < length s.nodes
          → (not (has_room_for cs g (get_or s.nodes j d)) || is_as_good cs g l.node (get_or s.nodes j d)) ≡ true
      good at l best lt node j d below = elim (has_room_for cs g (get_or s.nodes j d)) as (λ b. has_room_for cs g (get_or s.nodes j d) ≡ b → (not b || is_as_good cs g l.node (get_or s.nodes j d)) ≡ true) [
        | true ↦ λ e.
            let long : length (map (load_of before) s.nodes) ≡ length s.nodes = length-map s.nodes (load_of before) in
            let t : takes_one_of g (f (get_or (map (load_of before) s.nodes) j l)) ≡ true = ap (takes_one_of g) (load_at j l d below) ∙ e in
            let fuller = best.fullest j l (omega (arith, below, long)) t in
            let mine : fullness_on g (f (get_or (map (load_of before) s.nodes) at l)) ≡ fullness_with cs g l.node = ap (fullness_on g) (load_at at l l.node lt) ∙ ap (fullness_with cs g) (sym node) in
            let other : fullness_on g (f (get_or (map (load_of before) s.nodes) j l)) ≡ fullness_with cs g (get_or s.nodes j d) = ap (fullness_on g) (load_at j l d below) in
            as_good (fullness_with cs g (get_or s.nodes j d)) (fullness_with cs g l.node) l.node.number (get_or s.nodes j d).number (omega (arith, fuller, mine, other)) (elim (cases_lt j at) [
              | inl less ↦ let strict = best.first j l less t in inl (omega (arith, strict, mine, other))
              | inr more ↦
                  let rise = numbers_rise s.nodes at j l.node d rising (omega (arith, more)) below in
                  let number : l.node.number ≡ (get_or s.nodes at l.node).number = ap (λ (n : Node). n.number) node in
                  inr (omega (arith, rise, number))
            ])
        | false ↦ λ e. refl
      ] refl
