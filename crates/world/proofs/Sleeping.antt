-- Events for a server that is not there, or is down.
use Rattle.std.proofs.Common.{◌≡◌, ◌≢◌, ◌⊎◌, inl, inr, ◌&&◌, ℕ, nat_lt, Bool, true, false, if◌then◌else◌, Option, Some, None, Result, Ok, Err, is_some, List, length, refl, sym, ap, ◌∙◌, subst, slice_get}
use Rattle.std.specs.List.{AllZip}
use Rattle.rows.specs.declared.refusal.Refusal.{Refusal}
use Rattle.rows.specs.declared.refusal.Refusal.TheVariants as refusals
use Rattle.machine_model.specs.MachineSpec.{MachineSpec, LawfulMachine, IsMachineRefusal}
use Rattle.wire.specs.Frames.{Frame}
use Rattle.raft_model.specs.Logs.{MAX, state_after}
use Rattle.raft_model.specs.Rafts.{Raft, Mode, Down, Follower, Candidate, Leader, RaftTurn, is_up, is_leader}
use Rattle.raft_model.specs.Steps.{Input, Arrives, Timeout, Beat, Propose, Compact, Crash, Restart, acts, unless, step}
use Rattle.raft_model.specs.Worlds.{World, Event, happens, after_turn, acting_server}
use Rattle.raft_safety.proofs.Places.{get-within}
use Rattle.raft_core.specs.RaftView.{RaftView}
use Rattle.raft_core.specs.Frames.{FrameCarries}
use Rattle.raft_core.specs.Steps.{RefinesRaft, role_of}
use Rattle.raft_core.specs.declared.role.Role.{Role}
use Rattle.world.specs.WorldView.{WorldView}
use Rattle.world.specs.Steps.{RefusesEvent, IsAwake}
use Rattle.world.specs.Inner.Inputs.{ActsIn, is_restart}
use Rattle.world.proofs.Zips.{zip_at, zip_none}
use Rattle.world.proofs.Inputs.{brings}
use Rattle.world.proofs.Taken.{took}

module _ {S C : Type 0} (m : MachineSpec S C) (sent : List Frame) (w : World C) (z : AllZip (FrameCarries m) sent w.sent) where
  absent : (e : Event C) (i : ℕ) → acting_server m w e ≡ Some i → slice_get w.servers i ≡ None → happens m w e ≡ Err refusals.OutOfRange
  absent e i who gone = let b = brings m sent w e i z who in b.takes ∙ rw gone refl

  sleeping : (e : Event C) (i : ℕ) (s : Raft C) → acting_server m w e ≡ Some i → slice_get w.servers i ≡ Some s → is_up s.mode ≡ false → is_restart e ≡ false → happens m w e ≡ Err refusals.Down
  sleeping e i s who here down other = let b = brings m sent w e i z who in b.takes ∙ took m w i b.input s (Err refusals.Down) here (b.sleeps other _ i s down)

-- no refusal for being down
abbrev pub Awake : {A : Type 0} → Result A Refusal → Type 0
Awake (Ok a) = Unit {0}
Awake (Err r) = r ≢ refusals.Down

pub awake_is : {A : Type 0} (q : Result A Refusal) → Awake q → q ≢ Err refusals.Down
awake_is (Ok a) h e = cc
awake_is (Err r) h e = h (cc)

pub awake_if : {A : Type 0} (b : Bool) (x y : Result A Refusal) → Awake x → Awake y → Awake (if b then x else y)
awake_if true x y f g = f
awake_if false x y f g = g

pub own_is_no_down : (r : Refusal) → IsMachineRefusal r → r ≢ refusals.Down
own_is_no_down refusals.Down h e = h
own_is_no_down _ h e = absurd (cc)

module _ {S C : Type 0} (m : MachineSpec S C) (law : LawfulMachine m) (n me : ℕ) (s : Raft C) where
  awake_unless : (refusal : Option Refusal) (turn : RaftTurn C) → ((r : Refusal) → refusal ≡ Some r → r ≢ refusals.Down) → Awake (unless refusal turn)
  awake_unless None turn h = tt
  awake_unless (Some r) turn h = h r refl

  admitted_awake : (b : Bool) (command : C) (r : Refusal) → (if b then m.admission (state_after m s.log) command else Some refusals.Exhausted) ≡ Some r → r ≢ refusals.Down
  admitted_awake true command r h = own_is_no_down r (law.refusal_is_its_own (state_after m s.log) command r h)
  admitted_awake false command r h = λ e. cc

  acts_awake : (x : Input C) → Awake (acts m n me s x)
  acts_awake (Arrives message) = awake_if (nat_lt message.from n) _ _ tt (λ e. cc)
  acts_awake Timeout = awake_if (is_leader s.mode) _ _ tt (awake_if (nat_lt s.term MAX && nat_lt (length s.log) MAX) _ _ tt (λ e. cc))
  acts_awake Beat = tt
  acts_awake (Propose command) = awake_if (is_leader s.mode) _ _ (awake_unless _ _ (λ r h. admitted_awake (nat_lt (length s.log) MAX) command r h)) (λ e. cc)
  acts_awake Compact = tt
  acts_awake Crash = tt
  acts_awake Restart = λ e. cc

  pub up_awake : (x : Input C) → is_up s.mode ≡ true → Awake (step m n me s x)
  up_awake x up = rw up (acts_awake x)

  restart_awake : Awake (step m n me s Restart)
  restart_awake = awake_if (is_up s.mode) _ _ (λ e. cc) tt

  after_awake : (w : World C) (i : ℕ) (q : Result (RaftTurn C) Refusal) → Awake q → Awake (after_turn m w i q)
  after_awake w i (Ok turn) h = tt
  after_awake w i (Err r) h = h

-- what a server says that it does, where it does nothing
pub asleep : (mode : Mode) → is_some (role_of mode) ≡ false → is_up mode ≡ false
asleep Down h = refl
asleep Follower h = absurd (cc)
asleep (Candidate votes) h = absurd (cc)
asleep (Leader next match) h = absurd (cc)

pub awake_role : (mode : Mode) → is_some (role_of mode) ≡ true → is_up mode ≡ true
awake_role Down h = absurd (cc)
awake_role Follower h = refl
awake_role (Candidate votes) h = refl
awake_role (Leader next match) h = refl

module _ {S C : Type 0} (m : MachineSpec S C) (now : WorldView S C) (e : Event C) (i : ℕ) (acts : ActsIn m now.sent e i) where
  pub refuses_absent : slice_get now.servers i ≡ None → RefusesEvent m now e refusals.OutOfRange
  refuses_absent gone past w r =
      let st = r.refines in
      absent m now.sent w st.sent e i (acts w st.sent) (zip_none (RefinesRaft m) now.servers w.servers i st.servers gone)

  module _ (h : RaftView S C) (role : Option Role) (here : slice_get now.servers i ≡ Some h) (says : (s : Raft C) → RefinesRaft m h s → role ≡ role_of s.mode) where
    pub refuses_sleeping : is_some role ≡ false → is_restart e ≡ false → RefusesEvent m now e refusals.Down
    refuses_sleeping none other past w r =
        let st = r.refines in
        let s = zip_at (RefinesRaft m) now.servers w.servers i h st.servers here in
        let down : is_up s.0.mode ≡ false = asleep s.0.mode (ap is_some (sym (says s.0 s.2)) ∙ none) in
        sleeping m now.sent w st.sent e i s.0 (acts w st.sent) s.1 down other

    -- a server that is up does not refuse for being down, nor does one that is to restart
    pub is_awake : LawfulMachine m → (is_some role ≡ true) ⊎ (is_restart e ≡ true) → IsAwake m now e
    is_awake law up past w r =
        let st = r.refines in
        let s = zip_at (RefinesRaft m) now.servers w.servers i h st.servers here in
        let b = brings m now.sent w e i st.sent (acts w st.sent) in
        let n = length w.servers in
        let stepped : Awake (step m n i s.0 b.input) = elim up [
          | inl some ↦ up_awake m law n i s.0 b.input (awake_role s.0.mode (ap is_some (sym (says s.0 s.2)) ∙ some))
          | inr so ↦ subst (λ x. Awake (step m n i s.0 x)) (sym (b.wakes so)) (restart_awake m law n i s.0)
        ] in
        let taken = b.takes ∙ took m w i b.input s.0 (step m n i s.0 b.input) s.1 refl in
        record {
          who = i;
          actor = acts w st.sent;
          there = get-within w.servers i s.0 s.1;
          awake = awake_is (happens m w e) (subst (λ q. Awake q) (sym taken) (after_awake m law n i s.0 w i (step m n i s.0 b.input) stepped));
        }
