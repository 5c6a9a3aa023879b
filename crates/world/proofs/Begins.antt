-- The first servers of a group, as they are made.
use Rattle.std.proofs.Common.{◌≡◌, ℕ, zero, suc, ◌+◌, ◌⊎◌, inl, inr, Some, List, [], ◌∷◌, ◌++◌, length, length-append, replicate, refl, sym, ap, ◌∙◌, subst, arith, slice_get}
use Rattle.std.specs.List.{AllZip}
use Rattle.machine_model.specs.MachineSpec.{MachineSpec}
use Rattle.raft_model.specs.Rafts.{newcomer}
use Rattle.raft_model.specs.Worlds.{first, start, Run}
use Rattle.raft_core.specs.RaftView.{RaftView}
use Rattle.raft_core.specs.Steps.{RefinesRaft}
use Rattle.raft_core.specs.Frames.{FrameCarries}
use Rattle.raft_safety.specs.Claims.{IsGreatestCommit}
use Rattle.rows.specs.GroupSizes.{IsGroup}
use Rattle.world.specs.WorldView.{WorldView, RefinesWorld, RunsTo, IsRaftWorld}
use Rattle.world.proofs.Zips.{zip_append}
use Rattle.world.proofs.Heights.{first_height}

-- the first servers are made, so many
pub record Begun {S C : Type 0} (m : MachineSpec S C) (n made : ℕ) (servers : List (RaftView S C)) : Type 0 where
  pub count : length servers ≡ made
  pub stand : AllZip (RefinesRaft m) servers (replicate made newcomer)
  pub numbered : (j : ℕ) (h : RaftView S C) → slice_get servers j ≡ Some h → (h.me ≡ j) × (h.size ≡ n)

pub begun_none : {S C : Type 0} (m : MachineSpec S C) (n : ℕ) → Begun m n 0 []
begun_none m n = record { count = refl; stand = tt; numbered = λ j h e. absurd (cc) }

get_end : {A : Type 0} (xs : List A) (x : A) (j : ℕ) (y : A) → slice_get (xs ++ x ∷ []) j ≡ Some y → (slice_get xs j ≡ Some y) ⊎ ((j ≡ length xs) × (x ≡ y))
get_end [] x zero y h = inr (refl, cc)
get_end [] x (suc j) y h = absurd (cc)
get_end (z ∷ zs) x zero y h = inl h
get_end (z ∷ zs) x (suc j) y h = elim (get_end zs x j y h) [ inl e ↦ inl e | inr e ↦ inr (ap suc e.0, e.1) ]

one_more : {A : Type 0} (k : ℕ) (x : A) → replicate k x ++ x ∷ [] ≡ replicate (suc k) x
one_more zero x = refl
one_more (suc k) x = ap (λ l. x ∷ l) (one_more k x)

pub begun_next : {S C : Type 0} (m : MachineSpec S C) (n made : ℕ) (servers after : List (RaftView S C)) (h : RaftView S C) → Begun m n made servers → after ≡ servers ++ h ∷ [] → (h.me ≡ made) × (h.size ≡ n) →
    RefinesRaft m h newcomer → Begun m n (made + 1) after
begun_next {S = S} {C = C} m n made servers after h b pushed is r =
    let next : made + 1 ≡ suc made = omega arith in
    subst (λ l. Begun m n (made + 1) l) (sym pushed) (record {
      count = (let c = b.count in omega (arith, length-append servers (h ∷ [])));
      stand = subst (λ k. AllZip (RefinesRaft m) (servers ++ h ∷ []) (replicate k newcomer)) (sym next)
          (subst (λ l. AllZip (RefinesRaft m) (servers ++ h ∷ []) l) (one_more made newcomer) (zip_append (RefinesRaft m) servers (replicate made newcomer) (h ∷ []) (newcomer ∷ []) b.stand (r, tt)));
      numbered = λ j a at. elim (get_end servers h j a at) [
        | inl e ↦ b.numbered j a e
        | inr e ↦ subst (λ (x : RaftView S C). (x.me ≡ j) × (x.size ≡ n)) e.1 (is.0 ∙ sym (e.0 ∙ b.count), is.1)
      ];
    })

pub begun_refines : {S C : Type 0} (m : MachineSpec S C) (n : ℕ) (seen : WorldView S C) → Begun m n n seen.servers → seen.sent ≡ [] → RefinesWorld m seen (first n)
begun_refines m n seen b none = record { servers = b.stand; sent = subst (λ l. AllZip (FrameCarries m) l []) (sym none) tt }

pub new_runs : {S C : Type 0} (m : MachineSpec S C) (n : ℕ) (seen : WorldView S C) → length seen.servers ≡ n → seen.trace ≡ [] → seen.chain ≡ 0 → RefinesWorld m seen (first n) → RunsTo m seen [] (first n)
new_runs {C = C} m n seen count empty zero_is st = record {
  run = subst (λ k. Run m k seen.trace [] (first n)) (sym count) (subst (λ es. Run m n es [] (first n)) (sym empty) start);
  refines = st;
  chain = subst (λ c. IsGreatestCommit {C = C} [] (first n) c) (sym zero_is) (first_height n);
}

pub begun_reached : {S C : Type 0} (m : MachineSpec S C) (n : ℕ) (seen : WorldView S C) → IsGroup n → Begun m n n seen.servers → seen.sent ≡ [] → seen.trace ≡ [] → seen.chain ≡ 0 → IsRaftWorld m seen
begun_reached m n seen size b none empty zero_is = record {
  past = [];
  world = first n;
  runs = new_runs m n seen b.count empty zero_is (begun_refines m n seen b none);
  numbered = λ i h at. let k = b.numbered i h at in (k.0, k.1 ∙ sym b.count);
  size = subst (λ k. IsGroup k) (sym b.count) size;
}
