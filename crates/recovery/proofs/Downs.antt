-- Who is down, and a restart.
use Rattle.std.proofs.Common.{◌≡◌, ◌≢◌, ℕ, zero, suc, ◌+◌, ◌-◌, ◌<◌, ◌≤◌, inl, inr, Bool, true, false, Option, Some, Ok, List, [], ◌∷◌, ◌++◌, length, map, if◌then◌else◌, refl, sym, ap, ◌∙◌, subst, arith, slice_get, slice_set, append_assoc, true≢false}
use Rattle.std.proofs.lemmas.Bool.Decides.{leb_tells, eqb_tells}
use Rattle.std.proofs.lemmas.List.{map-append}
use Rattle.std.proofs.lemmas.Option.{same_Some}
use Rattle.machine_model.specs.MachineSpec.{MachineSpec}
use Rattle.raft_model.specs.Quorums.{count, Quorum}
use Rattle.raft_model.specs.Rafts.{Raft, is_up, silent, restarted}
use Rattle.raft_model.specs.Steps.{Restart, step}
use Rattle.raft_model.specs.Worlds.{World, Event, Restarts, happens}
use Rattle.raft_model.proofs.Cases.{bool_cases, same_ok}
use Rattle.raft_safety.proofs.Places.{get-some, get-within, get_set-cases, get_set-same, push_length}
use Rattle.raft_progress.specs.Recovery.{HasRoom, everybody, CanSettle}
use Rattle.raft_progress.proofs.Moves.{own_turn, turned, get_set-other}
use Rattle.recovery.specs.Runs.{up_there, is_up_in}
use Rattle.recovery.specs.Restarting.{downs}
use Rattle.recovery.specs.Inner.DownServers.{IsDown, KeepsStored}

pub nil_end : {A : Type 0} (l : List A) → l ++ [] ≡ l
nil_end [] = refl
nil_end (x ∷ l) = ap (λ z. x ∷ z) (nil_end l)

-- ---- who is down

pub down_none : {C : Type 0} (w : World C) → downs 0 w ≡ []
unfolding downs
down_none w = refl

pub down_next : {C : Type 0} (k : ℕ) (w : World C) → is_up_in w k ≡ false → downs (suc k) w ≡ downs k w ++ k ∷ []
unfolding downs
down_next k w down = ap (λ b. downs k w ++ (if b then [] else k ∷ [])) down

pub up_next : {C : Type 0} (k : ℕ) (w : World C) → is_up_in w k ≡ true → downs (suc k) w ≡ downs k w
unfolding downs
up_next k w up = ap (λ b. downs k w ++ (if b then [] else k ∷ [])) up ∙ nil_end (downs k w)

-- those of more servers begin with those of fewer
down_more : {C : Type 0} (k left : ℕ) (w : World C) → (later : List ℕ) × (downs (left + k) w ≡ downs k w ++ later)
down_more k zero w = let same : 0 + k ≡ k = omega arith in ([], ap (λ q. downs q w) same ∙ sym (nil_end (downs k w)))
down_more k (suc left) w =
    let r = down_more k left w in
    let same : suc left + k ≡ suc (left + k) = omega arith in
    elim (bool_cases (is_up_in w (left + k))) [
      | inl b ↦ (r.0, ap (λ q. downs q w) same ∙ (up_next (left + k) w b ∙ r.1))
      | inr b ↦ (
        r.0 ++ (left + k) ∷ [],
        ap (λ q. downs q w) same ∙ (down_next (left + k) w b ∙ (ap (λ l. l ++ (left + k) ∷ []) r.1 ∙ append_assoc (downs k w) r.0 ((left + k) ∷ []))),
      )
    ]

-- server k is one of them
pub down_split : {C : Type 0} (n k : ℕ) (w : World C) → k < n → is_up_in w k ≡ false → (later : List ℕ) × (downs n w ≡ downs k w ++ k ∷ later)
down_split n k w less down =
    let r = down_more (suc k) (n - suc k) w in
    let size : (n - suc k) + suc k ≡ n = omega (arith, less) in (
      r.0,
      ap (λ q. downs q w) (sym size) ∙ (r.1 ∙ (ap (λ l. l ++ r.0) (down_next k w down) ∙ append_assoc (downs k w) (k ∷ []) r.0)),
    )

-- ---- all are up

count_all : (f : ℕ → Bool) (n : ℕ) → ((j : ℕ) → j < n → f j ≡ true) → count f n ≡ n
unfolding count
count_all f zero all = refl
count_all f (suc n) all = rw (all n (omega arith)) (omega (arith, count_all f n (λ j less. all j (omega (arith, less)))))

pub all_quorum : (f : ℕ → Bool) (n : ℕ) → 1 ≤ n → ((j : ℕ) → j < n → f j ≡ true) → Quorum n f
unfolding Quorum
all_quorum f n one all = omega (arith, one, count_all f n all)

-- a server that is there and not up is down
pub is_down : {C : Type 0} (j : ℕ) (w : World C) → j < length w.servers → is_up_in w j ≡ false → IsDown j w
is_down j w less down =
    let s = get-some w.servers j less in
    (s.0, s.1, sym (ap (λ o. up_there o) s.1) ∙ down)

-- as many restarted as there were, and these are no more than there are servers
pub few_down : {C : Type 0} (k : ℕ) (w : World C) → length (downs k w) ≤ k
few_down zero w = omega (arith, ap length (down_none w))
few_down (suc k) w = elim (bool_cases (is_up_in w k)) [
  | inl b ↦ omega (arith, ap length (up_next k w b), few_down k w)
  | inr b ↦ omega (arith, ap length (down_next k w b), push_length (downs k w) k, few_down k w)
]

module _ {S C : Type 0} (m : MachineSpec S C) where
  -- the world after a restart
  abbrev after : World C → ℕ → Raft C → World C
  after x k s = turned m (length x.servers) x k (silent (restarted s))

  pub restart_happens : (k : ℕ) (x : World C) (s : Raft C) → slice_get x.servers k ≡ Some s → is_up s.mode ≡ false → happens m x (Restarts k) ≡ Ok (after x k s)
  restart_happens k x s here down =
      let step_is : step m (length x.servers) k s Restart ≡ Ok (silent (restarted s)) = rw down refl in
      own_turn m (length x.servers) x k Restart s (silent (restarted s)) refl here step_is

  -- It is up then, the others are as they were, and each has what it had stored.
  pub record AfterOne (k : ℕ) (x v : World C) : Type 0 where
    pub up : is_up_in v k ≡ true
    pub others : (j : ℕ) → j ≢ k → is_up_in v j ≡ is_up_in x j
    pub stored : KeepsStored x v

  after_one : (k : ℕ) (x : World C) (s : Raft C) → slice_get x.servers k ≡ Some s → AfterOne k x (after x k s)
  after_one k x s here = record {
    up = ap (λ o. up_there o) (get_set-same x.servers k (restarted s) (get-within x.servers k s here));
    others = λ j other. ap (λ o. up_there o) (get_set-other x.servers k (restarted s) j other);
    stored = λ j t there. elim (get_set-cases x.servers k (restarted s) j t there) [
      | inl e ↦ (s, ap (slice_get x.servers) e.0 ∙ here, ap (λ (z : Raft C). z.term) (sym e.1), ap (λ (z : Raft C). z.log) (sym e.1))
      | inr e ↦ (t, e.1, refl, refl)
    ];
  }

  pub restarted_one : (k : ℕ) (x v : World C) → IsDown k x → happens m x (Restarts k) ≡ Ok v → AfterOne k x v
  restarted_one k x v d h = subst (λ z. AfterOne k x z) (same_ok (after x k d.0) v (sym (restart_happens k x d.0 d.1 d.2) ∙ h)) (after_one k x d.0 d.1)

  pub room_kept : (n : ℕ) (w x : World C) → KeepsStored w x → HasRoom n everybody w → HasRoom n (is_up_in x) x
  room_kept n w x stored room j t less q there =
      let s = stored j t there in
      let f = room j s.0 less refl s.1 in
      (omega (arith, f.0, s.2), omega (arith, f.1, ap length s.3))

  -- whoever is up is everybody
  unfoldable pub of_everybody : (n : ℕ) (x : World C) → ((j : ℕ) → j < n → is_up_in x j ≡ true) → CanSettle m n (is_up_in x) x → CanSettle m n everybody x
  of_everybody n x up c = record {
    who = c.who;
    below = c.below;
    member = refl;
    server = c.server;
    here = c.here;
    timeouts = c.timeouts;
    beats = c.beats;
    world = c.world;
    recovery = c.recovery;
    few_timeouts = c.few_timeouts;
    few_beats = c.few_beats;
    settled = c.settled;
    keeps = c.keeps;
    applied = λ j less q. c.applied j less (up j less);
  }
