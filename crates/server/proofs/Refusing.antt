-- The nodes of which nothing of a plan is kept strictly rise.
use Rattle.std.proofs.Common.{◌≡◌, ℕ, zero, suc, ◌≤◌, Bool, true, false, if◌then◌else◌, Option, Some, None, Result, Ok, Err, List, [], ◌∷◌, ◌++◌, refl, subst, ◌∙◌, arith}
use Rattle.std.specs.Prelude.{not, ◌&&◌, nat_eq, nat_lt, length}
use Rattle.std.proofs.lemmas.Bool.{lt-ltb}
use Rattle.std.proofs.lemmas.Cmp.{nat_cmp_total}
use Rattle.std.specs.Cmp.{first_so, second_so}
use Rattle.std.specs.Cmp.Derive.{both_true}
use Rattle.std.specs.Ordering.{nat_cmp, is_lt}
use Rattle.rows.specs.Rising.{is_below, is_rising}
use Rattle.rows.specs.Ids.{AreRisingNodes}
use Rattle.rows.specs.declared.job.Job.{Job}
use Rattle.rows.specs.declared.plan.Place.{Place}
use Rattle.rows.specs.declared.plan.Plan.{Plan}
use Rattle.rows.specs.declared.command.AcceptedPlace.{AcceptedPlace}
use Rattle.rows.specs.declared.refusal.Refusal.{Refusal}
use Rattle.rows.specs.declared.refusal.Refusal.TheVariants as refusals
use Rattle.rows.proofs.RisingLaws.{keeps_rising}
use Rattle.fsm_model.specs.Words.{State, job_of, node_of}
use Rattle.group_model.specs.Acceptance.{Accepted, NODES, kept_stops, claimed, kept_where, with_kept, on, keep_places, keep_upto, keep, is_eval_of, accept_of}
use Rattle.leader.specs.Verdicts.{verdict_for}

-- all at most this
abbrev AllUpTo : ℕ → List ℕ → Type 0
AllUpTo n [] = Unit {0}
AllUpTo n (x ∷ xs) = (x ≤ n) × AllUpTo n xs

one_more : (n : ℕ) (xs : List ℕ) → AllUpTo n xs → AllUpTo (suc n) xs
one_more n [] all = tt
one_more n (x ∷ xs) all = (omega (arith, all.0), one_more n xs all.1)

with_next : (n : ℕ) (xs : List ℕ) → AllUpTo n xs → AllUpTo (suc n) (xs ++ suc n ∷ [])
with_next n [] all = (omega arith, tt)
with_next n (x ∷ xs) all = (omega (arith, all.0), with_next n xs all.1)

below_next : (x n : ℕ) → x ≤ n → is_lt (nat_cmp x (suc n)) ≡ true
below_next x n le =
    let lt : nat_lt x (suc n) ≡ true = lt-ltb x (suc n) (omega (arith, le)) in
    rw lt refl

below_end : (k y : ℕ) (xs : List ℕ) → is_below nat_cmp (λ a. a) k xs ≡ true → is_lt (nat_cmp k y) ≡ true → is_below nat_cmp (λ a. a) k (xs ++ y ∷ []) ≡ true
below_end k y [] below lt = both_true lt refl
below_end k y (x ∷ xs) below lt =
    both_true (first_so (is_lt (nat_cmp k x)) (is_below nat_cmp (λ a. a) k xs) below) (below_end k y xs (second_so (is_lt (nat_cmp k x)) (is_below nat_cmp (λ a. a) k xs) below) lt)

rising_next : (n : ℕ) (xs : List ℕ) → is_rising nat_cmp (λ (a : ℕ). a) xs ≡ true → AllUpTo n xs → is_rising nat_cmp (λ (a : ℕ). a) (xs ++ suc n ∷ []) ≡ true
rising_next n [] rise all = refl
rising_next n (x ∷ xs) rise all =
    both_true (below_end x (suc n) xs (first_so (is_below nat_cmp (λ a. a) x xs) (is_rising nat_cmp (λ a. a) xs) rise) (below_next x n all.0))
    (rising_next n xs (second_so (is_below nat_cmp (λ a. a) x xs) (is_rising nat_cmp (λ a. a) xs) rise) all.1)

-- of the nodes up to a number
record RisesTo (n : ℕ) (a : Accepted) : Type 0 where
  pub rising : is_rising nat_cmp (λ (x : ℕ). x) a.refused ≡ true
  pub most : AllUpTo n a.refused

kept_next : (n : ℕ) (a : Accepted) (kept : Option (List AcceptedPlace)) → RisesTo n a → RisesTo (suc n) (with_kept (suc n) a kept)
kept_next n a None r = record { rising = rising_next n a.refused r.rising r.most; most = with_next n a.refused r.most }
kept_next n a (Some ks) r = record { rising = r.rising; most = one_more n a.refused r.most }

places_next : (s : State) (j : Job) (n : ℕ) (a : Accepted) (ks : List Place) → RisesTo n a → RisesTo (suc n) (keep_places s j (suc n) a ks)
places_next s j n a [] r = record { rising = r.rising; most = one_more n a.refused r.most }
places_next s j n a (k ∷ ks) r = kept_next n a (kept_where j (claimed s j.name a) (k ∷ ks) (node_of (suc n) s)) r

upto_rises : (s : State) (j : Job) (p : Plan) (a : Accepted) (n : ℕ) → RisesTo 0 a → RisesTo n (keep_upto s j p a n)
upto_rises s j p a zero r = r
upto_rises s j p a (suc n) r = places_next s j n (keep_upto s j p a n) (on (suc n) p.places) (upto_rises s j p a n r)

keep_rises : (s : State) (j : Job) (p : Plan) → AreRisingNodes (keep s j p).refused
keep_rises s j p =
    let none : Accepted = record { stops = kept_stops s p; places = []; refused = [] } in
    let r = upto_rises s j p none NODES (record { rising = refl; most = tt }) in
    keeps_rising nat_cmp nat_cmp_total (λ (a : ℕ). a) (keep s j p).refused ∙ r.rising

same_kept : {a b : Accepted} → (let r : Result Accepted Refusal = Ok a in r ≡ Ok b) → a ≡ b
same_kept h = cc

kept_if : (b c d : Bool) (k a : Accepted) → (let r : Result Accepted Refusal = if b then Err refusals.UnknownJob else if c then Err refusals.JobChanged else if d then Err refusals.JobStopped else Ok k in r ≡ Ok a) → k ≡ a
kept_if true c d k a h = absurd cc
kept_if false true d k a h = absurd cc
kept_if false false true k a h = absurd cc
kept_if false false false k a h = same_kept h

module _ (s : State) (p : Plan) (a : Accepted) where
  of_rises : (j : Option Job) → accept_of s p j ≡ Ok a → AreRisingNodes a.refused
  of_rises None h = absurd cc
  of_rises (Some j) h =
      subst (λ (k : Accepted). AreRisingNodes k.refused) (kept_if (not (is_eval_of s p)) (not (nat_eq p.version j.version)) (j.stopped && nat_lt 0 (length p.places)) (keep s j p) a h) (keep_rises s j p)

  old_rises : (b : Bool) → (let r : Result Accepted Refusal = if b then Err refusals.SnapshotTooOld else accept_of s p (job_of p.job s) in r ≡ Ok a) → AreRisingNodes a.refused
  old_rises true h = absurd cc
  old_rises false h = of_rises (job_of p.job s) h

  pub verdict_rises : (pair : Result ℕ Refusal) → verdict_for s p pair ≡ Ok a → AreRisingNodes a.refused
  verdict_rises (Err e) h = absurd cc
  verdict_rises (Ok wait) h = old_rises (nat_lt p.snapshot wait) h
