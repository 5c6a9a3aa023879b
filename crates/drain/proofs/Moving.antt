-- The moves without force, one after the other.
use Rattle.std.proofs.Common.{◌≡◌, ℕ, Bool, true, false, not, cond, ◌&&◌, ◌||◌, List, [], ◌∷◌, map, filter, take, bytes_eq, Some, Ok, Err, T, refl, sym, ap, subst, ◌∙◌, arith}
use Rattle.std.proofs.lemmas.Map.Text.{is_eq-slice_cmp}
use Rattle.std.specs.Cmp.Lexicographic.{nat_list_cmp_total}
use Rattle.std.specs.declared.cmp.Ordering.TheVariants.{Equal}
use Rattle.std.specs.Ordering.{nat_cmp, is_eq}
use Rattle.std.specs.Cmp.{nat_cmp_total}
use Rattle.std.specs.List.{list_any}
use Rattle.std.specs.Prelude.{Result, IfErr}
use Rattle.rows.specs.declared.node.Node.{Node}
use Rattle.rows.specs.Keys.{name_cmp, node_number}
use Rattle.fsm_tables.proofs.RowLaws.{equal}
use Rattle.fsm_tables.proofs.ReservedTables.{found_tied}
use Rattle.rows.specs.declared.allocation.AllocId.{AllocId}
use Rattle.rows.specs.declared.allocation.Allocation.{Allocation}
use Rattle.rows.specs.declared.node.DrainMode.TheVariants as drains
use Rattle.fsm_tables.specs.Rows.{put}
use Rattle.fsm_tables.specs.Claims.{is_live}
use Rattle.fsm_tables.specs.Lookups.{lives_on}
use Rattle.fsm_model.specs.Words.{State, node_of}
use Rattle.fsm_model.proofs.Lists.{anys_same, filter_both}
use Rattle.group_model.specs.Drains.{is_done, same_group, group_moves, firsts, movers, moves_of}
use Rattle.drain.specs.declared.group.JobGroup.{JobGroup}
use Rattle.drain.specs.Inner.Groups.{job_group, job_group_cmp, itself, is_met, firsts_but, stays}
use Rattle.drain.proofs.Groups.{met_more, firsts_are, firsts_kept}

-- ---- a group that is on the move

-- it is the same for all of the group
pub same_name : (xs ys zs : List ℕ) → bytes_eq xs ys ≡ true → bytes_eq ys zs ≡ bytes_eq xs zs
same_name xs ys zs e =
    let tie : name_cmp xs ys ≡ Equal = equal _ (subst T (sym (is_eq-slice_cmp xs ys ∙ e)) tt) in
    sym (is_eq-slice_cmp ys zs) ∙ ap is_eq (sym (nat_list_cmp_total.congr xs ys zs tie)) ∙ is_eq-slice_cmp xs zs

one_of : (p q : Bool) → (p && q) ≡ true → p ≡ true
one_of true q e = refl
one_of false q e = absurd cc

other_of : (p q : Bool) → (p && q) ≡ true → q ≡ true
other_of true q e = e
other_of false q e = absurd cc

alike_groups : (a b c : Allocation) → same_group a b ≡ true → same_group b c ≡ same_group a c
alike_groups a b c e =
    let job = same_name a.job b.job c.job (one_of (bytes_eq a.job b.job) (bytes_eq a.group b.group) e) in
    let group = same_name a.group b.group c.group (other_of (bytes_eq a.job b.job) (bytes_eq a.group b.group) e) in
    λ i. job i && group i

alike_moves : (s : State) (a b : Allocation) → same_group a b ≡ true → stays s b ≡ stays s a
alike_moves s a b e = ap not (anys_same _ _ (λ c. ap (λ t. t && (is_live c && c.migrate)) (alike_groups a b c e)) s.allocs)

-- ---- the moves

pub one_by_one_is : (n : ℕ) (s : State) → filter (stays s) (firsts [] (filter (lives_on n) s.allocs)) ≡ movers drains.Slow n s.allocs
one_by_one_is n s = sym (firsts_kept (stays s) (alike_moves s) (filter (lives_on n) s.allocs) []) ∙ ap (firsts []) (filter_both (lives_on n) (stays s) s.allocs)

pub forced_is : (n : ℕ) (s : State) → filter (λ (a : Allocation). not a.migrate) (filter (lives_on n) s.allocs) ≡ movers drains.Force n s.allocs
forced_is n s = filter_both (lives_on n) (λ (a : Allocation). not a.migrate) s.allocs

-- a node on which nothing lives has none
none_live : (p q : Allocation → Bool) (rows : List Allocation) → not (list_any p rows) ≡ true → filter (λ a. p a && q a) rows ≡ []
none_live p q [] e = refl
none_live p q (a ∷ rows) e = by (p a) (q a) e (none_live p q rows) where
  by : (b c : Bool) → not (b || list_any p rows) ≡ true → (not (list_any p rows) ≡ true → filter (λ x. p x && q x) rows ≡ []) → cond (b && c) (a ∷ filter (λ x. p x && q x) rows) (filter (λ x. p x && q x) rows) ≡ []
  by true c e rest = absurd cc
  by false c e rest = rest e

pub none_forced : (n : ℕ) (s : State) → is_done n s ≡ true → moves_of drains.Force n s ≡ []
none_forced n s e = ap (λ rows. take 64 (map (λ (a : Allocation). a.id) rows)) (none_live (lives_on n) (λ (a : Allocation). not a.migrate) s.allocs e)

pub none_by_one : (n : ℕ) (s : State) → is_done n s ≡ true → moves_of drains.Slow n s ≡ []
none_by_one n s e = ap (λ rows. take 64 (map (λ (a : Allocation). a.id) (firsts [] rows))) (none_live (lives_on n) (stays s) s.allocs e)

-- a node that is found has the number
pub own_number : (n : ℕ) (r : Node) (s : State) → node_of n s ≡ Some r → r.number ≡ n
own_number n r s e = by n r.number (found_tied nat_cmp node_number nat_cmp_total n s.nodes r e) where
  by : (x y : ℕ) → nat_cmp x y ≡ Equal → y ≡ x
  by x y e = grind arith

-- what is so of each error is so of the one that there may be
pub any_err : {T E : Type 0} (r : Result T E) (P : E → Type 0) → ((e : E) → P e) → IfErr r P
any_err (Ok x) P all = tt
any_err (Err e) P all = all e

-- ---- one row after the other

-- the ids of those that stay among the first ones of groups that were not met
abbrev pub ids_left : State → List JobGroup → List Allocation → List AllocId
ids_left s groups rows = map (λ (a : Allocation). a.id) (filter (stays s) (firsts_but (is_met groups) rows))

pub none_met : (s : State) (rows : List Allocation) → ids_left s [] rows ≡ map (λ (a : Allocation). a.id) (filter (stays s) (firsts [] rows))
none_met s rows = ap (λ zs. map (λ (a : Allocation). a.id) (filter (stays s) zs)) (sym (firsts_are [] rows))

-- of a group that was met
pub met_row : (s : State) (groups : List JobGroup) (a : Allocation) (rows : List Allocation) → is_met groups a ≡ true → ids_left s groups (a ∷ rows) ≡ ids_left s groups rows
met_row s groups a rows e =
    ap (λ b. map (λ (x : Allocation). x.id) (filter (stays s) (cond b (firsts_but (is_met groups) rows) (a ∷ firsts_but (λ x. same_group x a || is_met groups x) rows)))) e

abbrev and_met : List JobGroup → Allocation → List JobGroup
and_met groups a = put job_group_cmp itself (job_group a) groups

new_row : (s : State) (groups : List JobGroup) (a : Allocation) (rows : List Allocation) → is_met groups a ≡ false →
    ids_left s groups (a ∷ rows) ≡ map (λ (x : Allocation). x.id) (filter (stays s) (a ∷ firsts_but (is_met (and_met groups a)) rows))
new_row s groups a rows e =
    ap (λ b. map (λ (x : Allocation). x.id) (filter (stays s) (cond b (firsts_but (is_met groups) rows) (a ∷ firsts_but (λ x. same_group x a || is_met groups x) rows)))) e
    ∙ (λ i. map (λ (x : Allocation). x.id) (filter (stays s) (a ∷ firsts_but (λ x. sym (met_more a x groups) i) rows)))

pub moving_row : (s : State) (groups : List JobGroup) (a : Allocation) (rows : List Allocation) → is_met groups a ≡ false → group_moves s.allocs a ≡ true →
    ids_left s groups (a ∷ rows) ≡ ids_left s (and_met groups a) rows
moving_row s groups a rows e m =
    let rest = filter (stays s) (firsts_but (is_met (and_met groups a)) rows) in
    new_row s groups a rows e ∙ ap (λ b. map (λ (x : Allocation). x.id) (cond (not b) (a ∷ rest) rest)) m

pub staying_row : (s : State) (groups : List JobGroup) (a : Allocation) (rows : List Allocation) → is_met groups a ≡ false → group_moves s.allocs a ≡ false →
    ids_left s groups (a ∷ rows) ≡ a.id ∷ ids_left s (and_met groups a) rows
staying_row s groups a rows e m =
    let rest = filter (stays s) (firsts_but (is_met (and_met groups a)) rows) in
    new_row s groups a rows e ∙ ap (λ b. map (λ (x : Allocation). x.id) (cond (not b) (a ∷ rest) rest)) m

-- ---- those that are not on the move

abbrev pub resting : List Allocation → List AllocId
resting rows = map (λ (a : Allocation). a.id) (filter (λ (a : Allocation). not a.migrate) rows)

pub resting_row : (a : Allocation) (rows : List Allocation) → a.migrate ≡ false → resting (a ∷ rows) ≡ a.id ∷ resting rows
resting_row a rows e = ap (λ b. map (λ (x : Allocation). x.id) (cond (not b) (a ∷ filter (λ (x : Allocation). not x.migrate) rows) (filter (λ (x : Allocation). not x.migrate) rows))) e
