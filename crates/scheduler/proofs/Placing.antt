-- One missing name: where it goes.
use Rattle.std.proofs.Common.{◌≡◌, ℕ, ◌≤◌, Bool, true, false, cond, ◌&&◌, T, List, [], ◌∷◌, get_or, map, Option, Some, None, refl, sym, ap, subst, ◌∙◌, arith, inl}
use Rattle.std.specs.List.{AllByRecursion}
use Rattle.std.specs.Ordering.{nat_cmp, is_eq}
use Rattle.rows.specs.declared.job.Group.{Group}
use Rattle.rows.specs.declared.node.Node.{Node}
use Rattle.rows.specs.declared.allocation.Allocation.{Allocation}
use Rattle.rows.specs.Fits.{NodeFits}
use Rattle.rows.specs.Keys.{node_number, alloc_cmp, alloc_id}
use Rattle.rows.specs.Rising.{is_rising}
use Rattle.fsm_tables.specs.Rows.{row_of}
use Rattle.fsm_tables.specs.Claims.{Claim, used}
use Rattle.fsm_tables.proofs.RowLaws.{some_same}
use Rattle.fsm_model.specs.Words.{State}
use Rattle.rows.specs.Sizes.{amount, fits}
use Rattle.rows.proofs.SizeLaws.{of_fits, size_small, amount_of_plus}
use Rattle.fsm_model.specs.Admission.{may_hold}
use Rattle.group_model.specs.Scheduling.{WantedName, PlanPart, live_of_name, claimed_by, with_stop, place_on, use_with, IsBest, IsNext}
use Rattle.scheduler.specs.declared.load.Load.{Load}
use Rattle.scheduler.specs.Inner.Loads.{load_of, load_less, IsBestAt, IsBestOf}
use Rattle.scheduler.specs.Inner.Growing.{fresh}
use Rattle.scheduler.proofs.Found.{named_live}
use Rattle.scheduler.proofs.Best.{nowhere, best_node}
use Rattle.scheduler.proofs.Shares.{HasRoomFor, loads_less}

module _ (s : State) (job : List ℕ) (w : WantedName) (p : PlanPart) (allocs : T (is_rising alloc_cmp alloc_id s.allocs)) where
  -- the loads with the old allocation gone
  pub loads_without : map (load_less (fresh p.stops (live_of_name s job w))) (map (load_of (claimed_by s job p)) s.nodes) ≡ map (load_of (claimed_by s job (with_stop (live_of_name s job w) p))) s.nodes
  loads_without = loads_less s job p (live_of_name s job w) s.nodes allocs (λ a e. named_live s _ a allocs e)

  module _ (ls : List Load) (gone : Option Allocation) (g : Group) (nodes : T (is_rising nat_cmp node_number s.nodes))
      (are : ls ≡ map (load_of (claimed_by s job p)) s.nodes) (without : gone ≡ fresh p.stops (live_of_name s job w)) (same : g ≡ w.group) where
    pub next_nowhere : IsBestOf (load_less gone) g ls None → IsNext s job w p p
    next_nowhere none = inl (
      nowhere s (claimed_by s job (with_stop (live_of_name s job w) p)) (claimed_by s job p) w.group (load_less (fresh p.stops (live_of_name s job w))) nodes loads_without
          (subst (λ h. IsBestOf (load_less (fresh p.stops (live_of_name s job w))) h (map (load_of (claimed_by s job p)) s.nodes) None) same
          (subst (λ o. IsBestOf (load_less o) g (map (load_of (claimed_by s job p)) s.nodes) None) without
          (subst (λ zs. IsBestOf (load_less gone) g zs None) are none))),
      refl,
    )

    pub best_is : (at : ℕ) (l : Load) → IsBestAt (load_less gone) g ls at → l ≡ get_or ls at l → IsBest s (claimed_by s job (with_stop (live_of_name s job w) p)) w.group l.node
    best_is at l best is =
        best_node s (claimed_by s job (with_stop (live_of_name s job w) p)) (claimed_by s job p) w.group (load_less (fresh p.stops (live_of_name s job w))) nodes loads_without at l
        (subst (λ h. IsBestAt (load_less (fresh p.stops (live_of_name s job w))) h (map (load_of (claimed_by s job p)) s.nodes) at) same
        (subst (λ o. IsBestAt (load_less o) g (map (load_of (claimed_by s job p)) s.nodes) at) without
        (subst (λ zs. IsBestAt (load_less gone) g zs at) are best)))
        (is ∙ ap (λ zs. get_or zs at l) are)

-- ---- room on the best node

all_found : (P : Node → Type 0) (k : ℕ) (n : Node) (nodes : List Node) → AllByRecursion P nodes → row_of nat_cmp node_number k nodes ≡ Some n → P n
all_found P k n [] h e = absurd cc
all_found P k n (m ∷ nodes) h e =
    elim (is_eq (nat_cmp k m.number)) as (λ b. cond b (Some m) (row_of nat_cmp node_number k nodes) ≡ Some n → P n) [
      | true ↦ λ same. subst P (some_same m n same) h.0
      | false ↦ λ rest. all_found P k n nodes h.1 rest
    ] e

both_true : (a b : Bool) → (a && b) ≡ true → (a ≡ true) × (b ≡ true)
both_true true b e = (refl, e)
both_true false b e = absurd cc

pub best_has_room : (s : State) (cs : List Claim) (w : WantedName) (n : Node) → AllByRecursion NodeFits s.nodes → IsBest s cs w.group n → HasRoomFor cs (place_on w n)
best_has_room s cs w n all best =
    let size = (all_found NodeFits n.number n s.nodes all best.there).2 in
    let room = (both_true (may_hold w.group n) (fits (use_with cs w.group n) n.size) best.fits).1 in
    λ q.
    let fit : amount q (use_with cs w.group n) ≤ amount q n.size = of_fits (use_with cs w.group n) n.size (subst T (sym room) tt) q in
    let small : amount q n.size ≤ 1000000 = size_small n.size size q in
    let sum = amount_of_plus q (used n.number cs) w.group.size in
    omega (arith, fit, small, sum)
