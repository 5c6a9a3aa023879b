-- What a value shows is so of each world that it stands for.
use Rattle.std.proofs.Common.{◌≡◌, ℕ, suc, ◌+◌, ◌<◌, ◌≤◌, inl, inr, Bool, true, false, nat_lt, MatchBool, Option, Some, None, List, length, refl, sym, ap, ◌∙◌, subst, arith, slice_get, true≢false}
use Rattle.std.proofs.lemmas.Bool.{ltb-true, ltb-false}
use Rattle.std.proofs.lemmas.Bool.Decides.{leb_tells}
use Rattle.std.proofs.lemmas.Option.{same_Some}
use Rattle.machine_model.specs.MachineSpec.{MachineSpec}
use Rattle.raft_model.specs.Messages.{Message}
use Rattle.raft_model.specs.Rafts.{Raft, is_up, is_leader}
use Rattle.raft_model.specs.Worlds.{World}
use Rattle.raft_model.proofs.Cases.{bool_cases}
use Rattle.raft_core.specs.RaftView.{RaftView}
use Rattle.raft_core.specs.Steps.{RefinesRaft}
use Rattle.raft_safety.proofs.Places.{get-some, get-within}
use Rattle.raft_progress.proofs.Moves.{reached_size}
use Rattle.recovery.specs.Runs.{up_there, is_up_in}
use Rattle.recovery.specs.Inner.Spreads.{IsBehind, AllApplied, Highest}
use Rattle.recovery.specs.Inner.Drives.{Drive, LawfulDrive, Ever, EverAt, StandsThere, NoneThere}
use Rattle.recovery.specs.Inner.Goings.{leader_there, leads_in, GoesTo, ForServer, ForNobody, IsOf, IsHigher}
use Rattle.recovery.proofs.Goings.{reached}

-- P holds of those of the first k that are up
abbrev pub UpAre : {C : Type 0} → (Raft C → Type 0) → ℕ → World C → Type 0
UpAre {C} P k w = (j : ℕ) (s : Raft C) → j < k → slice_get w.servers j ≡ Some s → is_up s.mode ≡ true → P s

-- the highest, of n servers, of the first k
pub record HighestBelow {C : Type 0} (n top k : ℕ) (w : World C) : Type 0 where
  pub less : top < n
  pub up : is_up_in w top ≡ true
  pub below : (j : ℕ) (s z : Raft C) → j < k → is_up_in w j ≡ true → slice_get w.servers j ≡ Some s → slice_get w.servers top ≡ Some z → s.term ≤ z.term

module _ {V S C : Type 0} (m : MachineSpec S C) (d : Drive V S C) (view : V) where
  -- a server that is there
  pub read : (k : ℕ) (h : RaftView S C) (P : Raft C → Type 0) → StandsThere d m k h view → ((s : Raft C) → RefinesRaft m h s → P s) → Ever d view (λ w. (s : Raft C) × (slice_get w.servers k ≡ Some s) × P s)
  read k h P here says past w r = let z = here past w r in (z.0, z.1, says z.0 z.2)

  pub read_each : (k : ℕ) (h : RaftView S C) (P : Raft C → Type 0) → StandsThere d m k h view → ((s : Raft C) → RefinesRaft m h s → P s) → Ever d view (λ w. (s : Raft C) → slice_get w.servers k ≡ Some s → P s)
  read_each k h P here says past w r s at = let z = read k h P here says past w r in subst (λ q. P q) (same_Some z.0 s (sym z.1 ∙ at)) z.2

  -- and one that is not
  pub none_each : (k : ℕ) (P : Raft C → Type 0) → NoneThere d k view → Ever d view (λ w. (s : Raft C) → slice_get w.servers k ≡ Some s → P s)
  none_each k P none past w r s at = absurd (let q = sym (none past w r) ∙ at in cc)

  pub up_read : (k : ℕ) (h : RaftView S C) (b : Bool) → StandsThere d m k h view → ((s : Raft C) → RefinesRaft m h s → b ≡ is_up s.mode) → Ever d view (λ w. b ≡ is_up_in w k)
  up_read k h b here says past w r = let z = read k h (λ s. b ≡ is_up s.mode) here says past w r in z.2 ∙ sym (ap (λ q. up_there q) z.1)

  pub up_none : (k : ℕ) → NoneThere d k view → Ever d view (λ w. false ≡ is_up_in w k)
  up_none k none past w r = sym (ap (λ q. up_there q) (none past w r))

  pub leads_read : (k : ℕ) (h : RaftView S C) (b : Bool) → StandsThere d m k h view → ((s : Raft C) → RefinesRaft m h s → b ≡ is_leader s.mode) → Ever d view (λ w. b ≡ leads_in w k)
  leads_read k h b here says past w r = let z = read k h (λ s. b ≡ is_leader s.mode) here says past w r in z.2 ∙ sym (ap (λ q. leader_there q) z.1)

  pub leads_none : (k : ℕ) → NoneThere d k view → Ever d view (λ w. false ≡ leads_in w k)
  leads_none k none past w r = sym (ap (λ q. leader_there q) (none past w r))

  -- how much one that is up has applied
  module _ (k : ℕ) (h : RaftView S C) (here : StandsThere d m k h view) (last : ℕ) where
    pub lacks_told : (a : ℕ) → ((s : Raft C) → RefinesRaft m h s → (is_up s.mode ≡ true) × (a ≡ s.commit)) →
        MatchBool (nat_lt a last) (Ever d view (λ w. (s : Raft C) → slice_get w.servers k ≡ Some s → (is_up s.mode ≡ true) × (s.commit < last)))
        (Ever d view (λ w. (s : Raft C) → slice_get w.servers k ≡ Some s → is_up s.mode ≡ true → last ≤ s.commit))
    lacks_told a says = elim (bool_cases (nat_lt a last)) [
      | inl b ↦ rw b (read_each k h (λ s. (is_up s.mode ≡ true) × (s.commit < last)) here (λ s r. let z = says s r in (z.0, omega (arith, z.1, ltb-true a last b))))
      | inr b ↦ rw b (read_each k h (λ s. is_up s.mode ≡ true → last ≤ s.commit) here (λ s r up. let z = says s r in omega (arith, z.1, ltb-false a last b)))
    ]

    pub lacks_down : ((s : Raft C) → RefinesRaft m h s → is_up s.mode ≡ false) → Ever d view (λ w. (s : Raft C) → slice_get w.servers k ≡ Some s → is_up s.mode ≡ true → last ≤ s.commit)
    lacks_down says = read_each k h (λ s. is_up s.mode ≡ true → last ≤ s.commit) here (λ s r up. absurd (true≢false (sym up ∙ says s r)))

  -- ---- messages

  -- to whom a message goes that has a receiver
  its_receiver : (to : Option ℕ) (k p : ℕ) (x : World C) (z : Message C) → to ≡ Some k → GoesTo to p x → slice_get x.sent p ≡ Some z → z.to ≡ k
  its_receiver to k p x z is for at = same_Some z.to k (sym (for z at) ∙ is)

  pub for_server : (place k : ℕ) (to : Option ℕ) → to ≡ Some k → EverAt d view place (λ p w. GoesTo to p w) → Ever d view (λ w. true ≡ is_up_in w k) → EverAt d view place (λ p w. ForServer p k w)
  for_server place k to is for up past w r p at z there = (its_receiver to k p (d.log w) z is (for past w r p at) there, sym (up past w r))

  pub for_down : (place k : ℕ) (to : Option ℕ) → to ≡ Some k → EverAt d view place (λ p w. GoesTo to p w) → Ever d view (λ w. false ≡ is_up_in w k) → EverAt d view place (λ p w. ForNobody p w)
  for_down place k to is for down past w r p at z there = ap (is_up_in (d.log w)) (its_receiver to k p (d.log w) z is (for past w r p at) there) ∙ sym (down past w r)

  pub for_none : (place : ℕ) (to : Option ℕ) → to ≡ None → EverAt d view place (λ p w. GoesTo to p w) → EverAt d view place (λ p w. ForNobody p w)
  for_none place to is for past w r p at z there = absurd (let q = sym is ∙ for past w r p at z there in cc)

module _ {V S C : Type 0} (m : MachineSpec S C) (d : Drive V S C) (dl : LawfulDrive m d) (view : V) where
  -- so many servers are there
  pub count_there : (past : List d.Moment) (w : d.Moment) → d.Runs view past w → length (let x = d.log w in x.servers) ≡ d.size view
  count_there past w r = reached_size m (d.size view) (d.log w) (reached m d dl view past w r)

  -- one of the group's servers is there
  pub there : (k : ℕ) → k < d.size view → Ever d view (λ w. (s : Raft C) × (slice_get w.servers k ≡ Some s))
  there k less past w r = get-some (let x = d.log w in x.servers) k (omega (arith, less, count_there past w r))

  -- so a server that is looked for is
  pub not_missing : (k : ℕ) → k < d.size view → (past : List d.Moment) (w : d.Moment) → d.Runs view past w → NoneThere d k view → ⊥
  not_missing k less past w r none = let s = there k less past w r in let q = sym s.1 ∙ none past w r in cc

  -- two terms compared
  module _ (j k x y : ℕ) (first : Ever d view (λ w. IsOf (λ s. s.term) j x w)) (second : Ever d view (λ w. IsOf (λ s. s.term) k y w)) where
    pub behind_read : x < y → Ever d view (λ w. IsBehind j k w)
    behind_read less past w r s z at then = omega (arith, less, first past w r s at, second past w r z then)

    pub level_read : (x < y → ⊥) → j < d.size view → k < d.size view → Ever d view (λ w. IsBehind j k w → ⊥)
    level_read not lj lk past w r b =
        let s = there j lj past w r in
        let z = there k lk past w r in
        not (omega (arith, b s.0 z.0 s.1 z.1, first past w r s.0 s.1, second past w r z.0 z.1))

    pub behind_told : j < d.size view → k < d.size view → MatchBool (nat_lt x y) (Ever d view (λ w. IsBehind j k w)) (Ever d view (λ w. IsBehind j k w → ⊥))
    behind_told lj lk = elim (bool_cases (nat_lt x y)) [
      | inl b ↦ rw b (behind_read (ltb-true x y b))
      | inr b ↦ rw b (level_read (λ less. omega (arith, less, ltb-false x y b)) lj lk)
    ]

  -- ---- loops over the servers

  module _ (P : Raft C → Type 0) where
    pub up_are_start : Ever d view (λ w. UpAre P 0 w)
    up_are_start past w r j s less at up = absurd (omega (arith, less))

    pub up_are_more : (k j : ℕ) → j ≡ k → Ever d view (λ w. UpAre P k w) → Ever d view (λ w. (s : Raft C) → slice_get w.servers j ≡ Some s → is_up s.mode ≡ true → P s) → Ever d view (λ w. UpAre P (k + 1) w)
    up_are_more k j same old one past w r i s less at up = elim (leb_tells (suc i) k) [
      | inl e ↦ old past w r i s e.1 at up
      | inr e ↦ let is : i ≡ j = omega (arith, less, e.1, same) in one past w r s (ap (slice_get (let x = d.log w in x.servers)) (sym is) ∙ at) up
    ]

  pub all_applied : (last k i : ℕ) → d.size view ≤ k → Ever d view (λ w. IsOf (λ s. length s.log) i last w) → Ever d view (λ w. UpAre (λ s. last ≤ s.commit) k w) → Ever d view (λ w. AllApplied i w)
  all_applied last k i all is old past w r me at j s there up =
      let z = old past w r j s (omega (arith, all, get-within (let x = d.log w in x.servers) j s there, count_there past w r)) there up in
      omega (arith, z, is past w r me at)

  -- who is up is one of the group's servers
  pub up_within : (j : ℕ) (past : List d.Moment) (w : d.Moment) → d.Runs view past w → is_up_in (d.log w) j ≡ true → j < d.size view
  up_within j past w r up =
      let s = there_of (slice_get (let x = d.log w in x.servers) j) up in
      omega (arith, get-within (let x = d.log w in x.servers) j s.0 s.1, count_there past w r)
    where
      there_of : (o : Option (Raft C)) → up_there o ≡ true → (s : Raft C) × (o ≡ Some s)
      there_of None h = absurd (cc)
      there_of (Some s) h = (s, refl)

  pub highest_start : (who : ℕ) → Ever d view (λ w. is_up_in w who ≡ true) → Ever d view (λ w. HighestBelow (d.size view) who 0 w)
  highest_start who up past w r = record { less = up_within who past w r (up past w r); up = up past w r; below = λ j s z lo upj at there. absurd (omega (arith, lo)) }

  pub highest_more : (top k j then : ℕ) → j ≡ k → j < d.size view → Ever d view (λ w. HighestBelow (d.size view) top k w) → Ever d view (λ w. IsHigher top j then w) → Ever d view (λ w. HighestBelow (d.size view) then (k + 1) w)
  highest_more top k j then same less old one past w r =
      let a = old past w r in
      elim (one past w r) [
        | inl h ↦ subst (λ q. HighestBelow (d.size view) q (k + 1) (d.log w)) (sym h.0) (record {
          less = less;
          up = h.1;
          below = λ i s z lo up at there. elim (leb_tells (suc i) k) [
            | inl e ↦ let t = there_in top a.less past w r in omega (arith, a.below i s t.0 e.1 up at t.1, h.2 t.0 z t.1 there)
            | inr e ↦ let is : i ≡ j = omega (arith, lo, e.1, same) in omega (arith, ap (λ (q : Raft C). q.term) (same_Some s z (sym at ∙ (ap (slice_get (let x = d.log w in x.servers)) is ∙ there))))
          ];
        })
        | inr h ↦ subst (λ q. HighestBelow (d.size view) q (k + 1) (d.log w)) (sym h.0) (record {
          less = a.less;
          up = a.up;
          below = λ i s z lo up at there. elim (leb_tells (suc i) k) [
            | inl e ↦ a.below i s z e.1 up at there
            | inr e ↦
                let is : i ≡ j = omega (arith, lo, e.1, same) in
                elim (leb_tells s.term z.term) [
                  | inl le ↦ le.1
                  | inr gt ↦ absurd (h.1 (ap (is_up_in (d.log w)) (sym is) ∙ up) (λ b c bt ct. omega (arith, gt.1, ap (λ (q : Raft C). q.term) (same_Some b z (sym bt ∙ there)), ap (λ (q : Raft C). q.term) (same_Some c s (sym ct ∙ (ap (slice_get (let x = d.log w in x.servers)) (sym is) ∙ at))))))
                ]
          ];
        })
      ]
    where
      there_in : (k : ℕ) → k < d.size view → (past : List d.Moment) (w : d.Moment) → d.Runs view past w → (s : Raft C) × (slice_get (let x = d.log w in x.servers) k ≡ Some s)
      there_in k less past w r = there k less past w r

  pub highest_all : (top k : ℕ) → d.size view ≤ k → Ever d view (λ w. HighestBelow (d.size view) top k w) → Ever d view (λ w. Highest (d.size view) top w)
  highest_all top k all old past w r =
      let a = old past w r in
      record { less = a.less; up = a.up; top = λ j s z less up at there. a.below j s z (omega (arith, less, all)) up at there }
