-- Whether a quorum is up, whether there is room, and who has the best log.
use Rattle.std.proofs.Common.{◌≡◌, ℕ, suc, ◌+◌, ◌*◌, ◌<◌, ◌≤◌, inl, inr, Bool, true, false, not, MatchBool, ◌&&◌, ◌==◌, nat_lt, if◌then◌else◌, Option, Some, None, List, length, refl, sym, ap, ◌∙◌, subst, arith, slice_get, true≢false}
use Rattle.std.proofs.lemmas.Bool.{lt-ltb, eq-eqb, ltb-true, ltb-false, eqb-true, and_from, and_parts, or_left, or_right}
use Rattle.std.proofs.lemmas.Bool.Decides.{leb_tells}
use Rattle.std.proofs.lemmas.Option.{same_Some}
use Rattle.machine_model.specs.MachineSpec.{MachineSpec}
use Rattle.machine_model.specs.declared.entry.Entry.{Entry}
use Rattle.raft_model.specs.Logs.{MAX, last_term}
use Rattle.raft_model.specs.Quorums.{count, Quorum}
use Rattle.raft_model.specs.Rafts.{Raft, is_up}
use Rattle.raft_model.specs.Worlds.{World}
use Rattle.raft_safety.proofs.QuietSteps.{or_either}
use Rattle.raft_safety.proofs.Places.{get-within}
use Rattle.raft_model.proofs.Cases.{bool_cases}
use Rattle.raft_core.specs.RaftView.{RaftView}
use Rattle.raft_core.specs.Steps.{RefinesRaft}
use Rattle.raft_progress.proofs.Choosing.{NoOlder, no_older, told, older_self, older_trans}
use Rattle.raft_progress.proofs.Settling.{count_none}
use Rattle.recovery.specs.Runs.{is_up_in}
use Rattle.recovery.specs.Inner.Spreads.{IsBehind, Chosen, Highest}
use Rattle.recovery.specs.Inner.Drives.{Drive, LawfulDrive, Ever, HasRun, Known, StandsThere}
use Rattle.recovery.specs.Inner.Goings.{QuorumIsUp, QuorumLacks, RoomIsThere, RoomLacks, IsFull, HasPlace, is_older_log, IsOlder, leads_in, LeadsAll, IsPreferred, IsBetter, IsBest}
use Rattle.recovery.proofs.Spreads.{up_is, is_up_at}
use Rattle.recovery.proofs.Looks.{count_there, there, up_within, read, read_each, UpAre}

-- ---- counts

pub count_up : (f : ℕ → Bool) (k : ℕ) → f k ≡ true → count f (k + 1) ≡ count f k + 1
unfolding count
count_up f k h = let e : k + 1 ≡ suc k = omega arith in ap (count f) e ∙ (let z : (if f k then 1 else 0) + count f k ≡ count f k + 1 = rw h (omega arith) in z)

pub count_down : (f : ℕ → Bool) (k : ℕ) → f k ≡ false → count f (k + 1) ≡ count f k
unfolding count
count_down f k h = let e : k + 1 ≡ suc k = omega arith in ap (count f) e ∙ (let z : (if f k then 1 else 0) + count f k ≡ count f k = rw h (omega arith) in z)

pub count_nobody : (f : ℕ → Bool) → count f 0 ≡ 0
unfolding count
count_nobody f = refl

no_quorum : (n : ℕ) (Q : ℕ → Bool) → Quorum n Q → ((j : ℕ) → j < n → Q j ≡ true → ⊥) → ⊥
unfolding Quorum
no_quorum n Q q none = omega (arith, q, count_none n Q none)

quorum_is : (n all up : ℕ) (f : ℕ → Bool) → all ≡ n → up ≡ count f all → all < 2 * up → Quorum n f
unfolding Quorum
quorum_is n all up f e c less = omega (arith, e, ap (λ k. count f k) e, c, less)

quorum_is_not : (n all up : ℕ) (f : ℕ → Bool) → all ≡ n → up ≡ count f all → (all < 2 * up → ⊥) → Quorum n f → ⊥
unfolding Quorum
quorum_is_not n all up f e c not q = not (omega (arith, e, ap (λ k. count f k) e, c, q))

-- ---- logs

module _ {C : Type 0} where
  older_true : (X Y : List (Entry C)) → is_older_log X Y ≡ true → NoOlder X Y
  older_true X Y h = elim (or_either (nat_lt (last_term X) (last_term Y)) ((last_term X == last_term Y) && nat_lt (length X) (length Y)) h) [
    | inl a ↦ no_older X Y (inl (ltb-true (last_term X) (last_term Y) a))
    | inr b ↦
        let c = and_parts (last_term X == last_term Y) (nat_lt (length X) (length Y)) b in
        no_older X Y (inr (eqb-true (last_term X) (last_term Y) c.0, omega (arith, ltb-true (length X) (length Y) c.1)))
  ]

  older_false : (X Y : List (Entry C)) → is_older_log X Y ≡ false → NoOlder Y X
  older_false X Y h = elim (leb_tells (suc (last_term X)) (last_term Y)) [
    | inl e ↦ absurd (true≢false (sym (or_left (nat_lt (last_term X) (last_term Y)) ((last_term X == last_term Y) && nat_lt (length X) (length Y)) (lt-ltb (last_term X) (last_term Y) e.1)) ∙ h))
    | inr e ↦ elim (leb_tells (suc (last_term Y)) (last_term X)) [
      | inl f ↦ no_older Y X (inl f.1)
      | inr f ↦ elim (leb_tells (suc (length X)) (length Y)) [
        | inl g ↦ absurd (true≢false (sym (or_right (nat_lt (last_term X) (last_term Y)) ((last_term X == last_term Y) && nat_lt (length X) (length Y))
            (and_from (last_term X == last_term Y) (nat_lt (length X) (length Y)) (eq-eqb (last_term X) (last_term Y) (omega (arith, e.1, f.1))) (lt-ltb (length X) (length Y) g.1))) ∙ h))
        | inr g ↦ no_older Y X (inr (omega (arith, e.1, f.1), omega (arith, g.1)))
      ]
    ]
  ]

  older_not : (X Y : List (Entry C)) → is_older_log X Y ≡ true → NoOlder Y X → ⊥
  older_not X Y h n = elim (told Y X n) [
    | inl a ↦ elim (or_either (nat_lt (last_term X) (last_term Y)) ((last_term X == last_term Y) && nat_lt (length X) (length Y)) h) [
      | inl b ↦ omega (arith, a, ltb-true (last_term X) (last_term Y) b)
      | inr b ↦ let c = and_parts (last_term X == last_term Y) (nat_lt (length X) (length Y)) b in omega (arith, a, eqb-true (last_term X) (last_term Y) c.0)
    ]
    | inr a ↦ elim (or_either (nat_lt (last_term X) (last_term Y)) ((last_term X == last_term Y) && nat_lt (length X) (length Y)) h) [
      | inl b ↦ omega (arith, a.0, ltb-true (last_term X) (last_term Y) b)
      | inr b ↦ let c = and_parts (last_term X == last_term Y) (nat_lt (length X) (length Y)) b in omega (arith, a.1, ltb-true (length X) (length Y) c.1)
    ]
  ]

-- a server that is up is full, or has room
pub full_raft : {C : Type 0} (s : Raft C) (b : Bool) → is_up s.mode ≡ true → MatchBool b ((s.term + 2 ≤ MAX) × (length s.log + 2 ≤ MAX)) ((s.term + 2 ≤ MAX) × (length s.log + 2 ≤ MAX) → ⊥) →
    MatchBool (not b) ((is_up s.mode ≡ true) × ((s.term + 2 ≤ MAX) × (length s.log + 2 ≤ MAX) → ⊥)) (is_up s.mode ≡ true → (s.term + 2 ≤ MAX) × (length s.log + 2 ≤ MAX))
full_raft s true up h = λ alive. h
full_raft s false up h = (up, h)

-- so many of the first k are up
abbrev pub CountIs : {C : Type 0} → ℕ → ℕ → World C → Type 0
CountIs up k w = up ≡ count (is_up_in w) k

-- it has room
abbrev pub Roomy : {C : Type 0} → Raft C → Type 0
Roomy s = (s.term + 2 ≤ MAX) × (length s.log + 2 ≤ MAX)

-- it has room, if it is up
abbrev pub Takes : {C : Type 0} → Raft C → Type 0
Takes s = is_up s.mode ≡ true → Roomy s

-- Of n servers, the one of the first k with the best log. It leads all if another of these with such
-- a log does.
pub record BestSoFar {C : Type 0} (n b k : ℕ) (w : World C) : Type 0 where
  pub less : b < n
  pub up : is_up_in w b ≡ true
  pub below : (j : ℕ) (s z : Raft C) → j < k → is_up_in w j ≡ true → slice_get w.servers j ≡ Some s → slice_get w.servers b ≡ Some z → NoOlder s.log z.log
  pub leads : (j : ℕ) (s z : Raft C) → j < k → is_up_in w j ≡ true → slice_get w.servers j ≡ Some s → slice_get w.servers b ≡ Some z → NoOlder z.log s.log → LeadsAll n j w → LeadsAll n b w

abbrev pub BestBelow : {C : Type 0} → ℕ → Option ℕ → ℕ → World C → Type 0
BestBelow n None k w = (j : ℕ) → j < k → is_up_in w j ≡ false
BestBelow n (Some b) k w = BestSoFar n b k w

module _ {V S C : Type 0} (m : MachineSpec S C) (d : Drive V S C) (view : V) where
  pub full_read : (k : ℕ) (h : RaftView S C) → StandsThere d m k h view → (b : Bool) → ((s : Raft C) → RefinesRaft m h s → MatchBool b ((is_up s.mode ≡ true) × (Roomy s → ⊥)) (Takes s)) →
      MatchBool b (Ever d view (λ w. IsFull k w)) (Ever d view (λ w. HasPlace k w))
  full_read k h here true says = λ past w r. let z = read m d view k h (λ s. (is_up s.mode ≡ true) × (Roomy s → ⊥)) here says past w r in (z.0, z.1, z.2.0, z.2.1)
  full_read k h here false says = read_each m d view k h Takes here says

  pub older_read : (j k : ℕ) (a b : RaftView S C) → StandsThere d m j a view → StandsThere d m k b view → (older : Bool) → ((s t : Raft C) → RefinesRaft m a s → RefinesRaft m b t → older ≡ is_older_log s.log t.log) → Ever d view (λ w. IsOlder j k older w)
  older_read j k a b one two older says past w r s t at there2 =
      says s t (read_each m d view j a (λ q. RefinesRaft m a q) one (λ q z. z) past w r s at) (read_each m d view k b (λ q. RefinesRaft m b q) two (λ q z. z) past w r t there2)

  -- a next server whose log is as new is preferred if it leads all
  pub preferred_level : (j next : ℕ) (b : Bool) → Ever d view (λ w. IsOlder j next false w) → Ever d view (λ w. IsOlder next j false w) →
      MatchBool b (Ever d view (λ w. LeadsAll (d.size view) next w)) (Ever d view (λ w. LeadsAll (d.size view) next w → ⊥)) → Ever d view (λ w. IsPreferred (d.size view) j next b w)
  preferred_level j next true a c led past w r = inr (c past w r, led past w r)
  preferred_level j next false a c not_led past w r = (a past w r, inr (not_led past w r))

module _ {V S C : Type 0} (m : MachineSpec S C) (d : Drive V S C) (dl : LawfulDrive m d) (view : V) where
  -- ---- the quorum

  pub count_start : Ever d view (λ w. CountIs 0 0 w)
  count_start past w r = sym (count_nobody (is_up_in (d.log w)))

  module _ (up k j : ℕ) (b : Bool) (same : j ≡ k) (old : Ever d view (λ w. CountIs up k w)) (one : Ever d view (λ w. b ≡ is_up_in w j)) where
    pub count_one : b ≡ true → Ever d view (λ w. CountIs (up + 1) (k + 1) w)
    count_one is past w r = let e = count_up (is_up_in (d.log w)) k (ap (is_up_in (d.log w)) (sym same) ∙ (sym (one past w r) ∙ is)) in omega (arith, e, old past w r)

    pub count_none_here : b ≡ false → Ever d view (λ w. CountIs up (k + 1) w)
    count_none_here is past w r = let e = count_down (is_up_in (d.log w)) k (ap (is_up_in (d.log w)) (sym same) ∙ (sym (one past w r) ∙ is)) in omega (arith, e, old past w r)

  pub quorum_told : (all up : ℕ) → all ≡ d.size view → Ever d view (λ w. CountIs up all w) → all < 2 * up → QuorumIsUp d view
  quorum_told all up e c less past w r = quorum_is (d.size view) all up (is_up_in (d.log w)) e (c past w r) less

  pub quorum_lacks : (all up : ℕ) → all ≡ d.size view → Ever d view (λ w. CountIs up all w) → (all < 2 * up → ⊥) → QuorumLacks d view
  quorum_lacks all up e c not past w r = quorum_is_not (d.size view) all up (is_up_in (d.log w)) e (c past w r) not

  pub quorum_match : (all up : ℕ) → all ≡ d.size view → Ever d view (λ w. CountIs up all w) → MatchBool (nat_lt all (2 * up)) (QuorumIsUp d view) (QuorumLacks d view)
  quorum_match all up e c = elim (bool_cases (nat_lt all (2 * up))) [
    | inl b ↦ rw b (quorum_told all up e c (ltb-true all (2 * up) b))
    | inr b ↦ rw b (quorum_lacks all up e c (λ less. omega (arith, less, ltb-false all (2 * up) b)))
  ]

  -- ---- room

  pub room_told : (k : ℕ) → d.size view ≤ k → Ever d view (λ w. UpAre Roomy k w) → RoomIsThere d view
  room_told k all old past w r j s less up at = old past w r j s (omega (arith, less, all)) at (up_is (d.log w) j s at up)

  pub room_lacks : (j : ℕ) → Ever d view (λ w. IsFull j w) → RoomLacks d view
  room_lacks j full past w r room =
      let f = full past w r in
      f.3 (room j f.0 (omega (arith, get-within (let x = d.log w in x.servers) j f.0 f.1, count_there m d dl view past w r)) (is_up_at (d.log w) j f.0 f.1 f.2) f.1)

  -- ---- a leader of all

  pub leads_not : (j : ℕ) → Ever d view (λ w. false ≡ leads_in w j) → Ever d view (λ w. LeadsAll (d.size view) j w → ⊥)
  leads_not j not_led past w r all = true≢false (sym all.0 ∙ sym (not_led past w r))

  module _ (j k : ℕ) (high : Ever d view (λ w. Highest (d.size view) k w)) where
    pub leads_all_told : (b : Bool) → Ever d view (λ w. true ≡ leads_in w j) → Known d view (λ w. is_up_in w j ≡ true) → MatchBool b (Ever d view (λ w. IsBehind j k w)) (Ever d view (λ w. IsBehind j k w → ⊥)) →
        MatchBool (not b) (Ever d view (λ w. LeadsAll (d.size view) j w)) (Ever d view (λ w. LeadsAll (d.size view) j w → ⊥))
    leads_all_told true leads up behind = λ past w r all.
        let h = high past w r in
        let z = there m d dl view k h.less past w r in
        let s = there m d dl view j (up_within m d dl view j past w r (up.ever past w r)) past w r in
        omega (arith, all.1 k z.0 s.0 h.less h.up z.1 s.1, behind past w r s.0 z.0 s.1 z.1)
    leads_all_told false leads up level = λ past w r. (
      sym (leads past w r),
      λ i s me less upi at here. elim (leb_tells s.term me.term) [
        | inl e ↦ e.1
        | inr e ↦ absurd (level past w r (λ a z ha hz.
            let h = high past w r in
            omega (arith, e.1, h.top i s z less upi at hz, ap (λ (q : Raft C). q.term) (same_Some a me (sym ha ∙ here)))))
      ],
    )

  -- ---- the best log

  pub best_start : Ever d view (λ w. BestBelow (d.size view) None 0 w)
  best_start past w r j less = absurd (omega (arith, less))

  module _ (k next : ℕ) (same : next ≡ k) (less_next : next < d.size view) (past : List d.Moment) (w : d.Moment) (r : d.Runs view past w) where
    abbrev At : ℕ → Raft C → Type 0
    At j s = slice_get (let x = d.log w in x.servers) j ≡ Some s

    one_at : (j i : ℕ) (s z : Raft C) → j ≡ i → At j s → At i z → s ≡ z
    one_at j i s z is at there = same_Some s z (sym at ∙ (ap (slice_get (let x = d.log w in x.servers)) is ∙ there))

    -- the next one is the best
    next_best : is_up_in (d.log w) next ≡ true → ((j : ℕ) (s z : Raft C) → j < k → is_up_in (d.log w) j ≡ true → At j s → At next z → NoOlder s.log z.log) →
        ((j : ℕ) (s z : Raft C) → j < k → is_up_in (d.log w) j ≡ true → At j s → At next z → NoOlder z.log s.log → LeadsAll (d.size view) next (d.log w)) → BestSoFar (d.size view) next (k + 1) (d.log w)
    next_best up f led = record {
      less = less_next;
      up = up;
      below = λ j s z lo upj at after. elim (leb_tells (suc j) k) [
        | inl e ↦ f j s z e.1 upj at after
        | inr e ↦ let is : j ≡ next = omega (arith, lo, e.1, same) in subst (λ (q : Raft C). NoOlder s.log q.log) (one_at j next s z is at after) (older_self s.log)
      ];
      leads = λ j s z lo upj at after level all. elim (leb_tells (suc j) k) [
        | inl e ↦ led j s z e.1 upj at after level
        | inr e ↦ let is : j ≡ next = omega (arith, lo, e.1, same) in subst (λ q. LeadsAll (d.size view) q (d.log w)) is all
      ];
    }

    -- the old one stays
    old_best : (b : ℕ) → BestSoFar (d.size view) b k (d.log w) → (is_up_in (d.log w) next ≡ true → (s z : Raft C) → At next s → At b z → NoOlder s.log z.log × (NoOlder z.log s.log → LeadsAll (d.size view) next (d.log w) → ⊥)) → BestSoFar (d.size view) b (k + 1) (d.log w)
    old_best b a f = record {
      less = a.less;
      up = a.up;
      below = λ j s z lo upj at after. elim (leb_tells (suc j) k) [
        | inl e ↦ a.below j s z e.1 upj at after
        | inr e ↦ let is : next ≡ j = omega (arith, lo, e.1, same) in (f (ap (is_up_in (d.log w)) is ∙ upj) s z (ap (slice_get (let x = d.log w in x.servers)) is ∙ at) after).0
      ];
      leads = λ j s z lo upj at after level all. elim (leb_tells (suc j) k) [
        | inl e ↦ a.leads j s z e.1 upj at after level all
        | inr e ↦
            let is : next ≡ j = omega (arith, lo, e.1, same) in
            absurd ((f (ap (is_up_in (d.log w)) is ∙ upj) s z (ap (slice_get (let x = d.log w in x.servers)) is ∙ at) after).1 level (subst (λ q. LeadsAll (d.size view) q (d.log w)) (sym is) all))
      ];
    }

    best_next : (b after : Option ℕ) → BestBelow (d.size view) b k (d.log w) → IsBetter (d.size view) b next after (d.log w) → BestBelow (d.size view) after (k + 1) (d.log w)
    best_next None None old h = λ j lo. elim (leb_tells (suc j) k) [
      | inl e ↦ old j e.1
      | inr e ↦ let is : j ≡ next = omega (arith, lo, e.1, same) in ap (is_up_in (d.log w)) is ∙ h
    ]
    best_next None (Some q) old h = subst (λ z. BestSoFar (d.size view) z (k + 1) (d.log w)) (sym h.0)
        (next_best h.1 (λ j s z lo up at after. absurd (true≢false (sym up ∙ old j lo))) (λ j s z lo up at after level. absurd (true≢false (sym up ∙ old j lo))))
    best_next (Some b) None old h = absurd h
    best_next (Some b) (Some q) old (inl h) = subst (λ z. BestSoFar (d.size view) z (k + 1) (d.log w)) (sym h.0) (old_best b old (λ up s z at after. absurd (true≢false (sym up ∙ h.1))))
    best_next (Some b) (Some q) old (inr h) = subst (λ z. BestSoFar (d.size view) z (k + 1) (d.log w)) (sym h.3) (by h.1 h.2)
      where
        -- the old one's server, and what is as new as it
        mine : (s : Raft C) × At b s
        mine = there m d dl view b old.less past w r

        newer : (j : ℕ) (s z : Raft C) → j < k → is_up_in (d.log w) j ≡ true → At j s → At next z → NoOlder (mine.0).log z.log → NoOlder s.log z.log
        newer j s z lo up at after n = older_trans s.log (mine.0).log z.log (old.below j s mine.0 lo up at mine.1) n

        by : (preferred : Bool) → IsPreferred (d.size view) b next preferred (d.log w) → BestSoFar (d.size view) (if preferred then next else b) (k + 1) (d.log w)
        by true (inl older) = next_best h.0 (λ j s z lo up at after. newer j s z lo up at after (older_true (mine.0).log z.log (sym (older mine.0 z mine.1 after))))
            (λ j s z lo up at after level. absurd (older_not (mine.0).log z.log (sym (older mine.0 z mine.1 after)) (older_trans z.log s.log (mine.0).log level (old.below j s mine.0 lo up at mine.1))))
        by true (inr l) = next_best h.0 (λ j s z lo up at after. newer j s z lo up at after (older_false z.log (mine.0).log (sym (l.0 z mine.0 after mine.1)))) (λ j s z lo up at after level. l.1)
        by false l = old_best b old (λ up s z at after. (
          older_false z.log s.log (sym (l.0 z s after at)),
          λ level all. elim l.1 [
            | inl older ↦ older_not s.log z.log (sym (older s z at after)) level
            | inr not_led ↦ not_led all
          ],
        ))

  pub best_more : (k next : ℕ) → next ≡ k → next < d.size view → (b after : Option ℕ) → Ever d view (λ w. BestBelow (d.size view) b k w) → Ever d view (λ w. IsBetter (d.size view) b next after w) → Ever d view (λ w. BestBelow (d.size view) after (k + 1) w)
  best_more k next same less b after old one past w r = best_next k next same less past w r b after (old past w r) (one past w r)

  pub best_all : (b k : ℕ) → d.size view ≤ k → Ever d view (λ w. BestBelow (d.size view) (Some b) k w) → Ever d view (λ w. IsBest (d.size view) b w)
  best_all b k all old past w r =
      let a = old past w r in
      record {
        less = a.less;
        up = a.up;
        best = λ j s me less up at after. a.below j s me (omega (arith, less, all)) up at after;
        leads = λ j less up best led.
            let s = there m d dl view j less past w r in
            let z = there m d dl view b a.less past w r in
            a.leads j s.0 z.0 (omega (arith, less, all)) up s.1 z.1 (best b z.0 s.0 a.less a.up z.1 s.1) led;
      }

  -- somebody is up
  pub best_some : (k : ℕ) → d.size view ≤ k → Known d view (λ w. Quorum (d.size view) (is_up_in w)) → Ever d view (λ w. BestBelow (d.size view) None k w) → ⊥
  best_some k all q old = no_quorum (d.size view) (is_up_in (d.log q.moment)) (q.ever q.past q.moment q.runs) (λ j less up. true≢false (sym up ∙ old q.past q.moment q.runs j (omega (arith, less, all))))

  -- and so the best may be let stand
  pub chosen : (who : ℕ) → HasRun d view → QuorumIsUp d view → RoomIsThere d view → Ever d view (λ w. IsBest (d.size view) who w) → Known d view (λ w. Chosen (d.size view) who w)
  chosen who run quorum room best = record {
    past = run.past;
    moment = run.moment;
    runs = run.runs;
    ever = λ p v q. let b = best p v q in record { less = b.less; up = b.up; quorum = quorum p v q; best = b.best; room = room p v q };
  }
