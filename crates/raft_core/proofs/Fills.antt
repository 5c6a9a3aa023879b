-- What a step of what is shown is to each server that it stands for.
use Rattle.std.specs.Option.{MatchOption}
use Rattle.std.proofs.Common.{◌≡◌, ℕ, ◌≤◌, Bool, true, false, nat_lt, if◌then◌else◌, Result, Ok, Err, Option, Some, None, IfSome, Bor, List, [], take, refl, sym, ap, subst, ◌∙◌}
use Rattle.rows.specs.declared.actor.Actor.{Actor}
use Rattle.rows.specs.declared.actor.Actor.TheVariants.{Server as ServerActor}
use Rattle.rows.specs.declared.refusal.Refusal.{Refusal}
use Rattle.rows.specs.declared.refusal.Refusal.TheVariants as refusals
use Rattle.machine_model.specs.MachineSpec.{MachineSpec}
use Rattle.machine_model.specs.declared.entry.Entry.{Entry}
use Rattle.wire.specs.Messages.{Message as WireMessage}
use Rattle.wire.specs.Frames.{Frame}
use Rattle.wire.specs.declared.body.Body.{Body as WireBody}
use Rattle.wire.specs.declared.body.Body.TheVariants as bodies
use Rattle.raft_model.specs.Messages.{Message}
use Rattle.raft_model.specs.Messages.{Install as InstallBody}
use Rattle.raft_model.specs.Rafts.{Raft, RaftTurn, is_up, is_leader, silent, term_observed, beats, crashed, compacted}
use Rattle.raft_model.specs.Steps.{step, receives, Input, Arrives, Timeout, Beat, Compact, Crash, Restart}
use Rattle.raft_model.specs.Logs.{state_after}
use Rattle.raft_snapshot.specs.Bases.{Base, IsBaseOf, noop_prefix, state_from}
use Rattle.raft_snapshot.specs.Prefixes.{with_prefix, turn_with_prefix, result_with_prefix, IsPlain, IsPlainInput}
use Rattle.raft_snapshot.specs.Compacted.{IsCompacted, IsCompactionOf, compacted_state, turn_of, base_after}
use Rattle.raft_snapshot.specs.Watching.{SeesStep, ShowsStep}
use Rattle.raft_snapshot.proofs.Shown.{may_fill, state_shown, whole_shown, received, compact_stands}
use Rattle.raft_snapshot.proofs.Seen.{sees_filled}
use Rattle.raft_snapshot.proofs.Steps.{step-with_prefix}
use Rattle.raft_core.specs.declared.input.Input.{Input as CodeInput}
use Rattle.raft_core.specs.declared.input.Input.TheVariants as inputs
use Rattle.raft_core.specs.Frames.{Means, Says, Sends, base_of}
use Rattle.raft_core.specs.Inputs.{Handed, Bytes, handed}
use Rattle.raft_core.specs.RaftView.{RaftView, SameRaft, IsCrashOf}
use Rattle.raft_core.specs.Refusals.{refusal, refusal_by, early_refusal, HidesNothing, IsRefused, RefusalLeaves, Stays}
use Rattle.raft_core.specs.Steps.{RefinesRaft, Steps, Takes, TakesMessage}
use Rattle.raft_core.specs.Inner.Moves.{Moves, MovesMessage, MovesBy, Beats, Compacts}
use Rattle.raft_core.specs.Inner.Stops.{EndsRefused}
use Rattle.raft_core.proofs.Sends.{sends-none}

-- ---- inputs

module _ {S C : Type 0} (m : MachineSpec S C) where
  fills : (old new : RaftView S C) (before after : List Frame) (input : Input C) → IsCompacted old.base old.server → IsPlainInput input → Moves m old.base old input new before after → (s : Raft C) → RefinesRaft m old s → Steps m old s input new before after
  fills old new before after input shown plain moves s r =
      let P = r.covered in
      let may = may_fill m old.base old.server shown P r.fits in
      record {
        turn = turn_with_prefix P moves.turn;
        step = ap (λ (x : Raft C). step m old.size old.me x input) r.is ∙ step-with_prefix m old.size old.me P old.server may input plain ∙ ap (result_with_prefix P) moves.step;
        refines = record { covered = P; fits = rw moves.taken.base r.fits; is = ap (with_prefix P) (sym moves.taken.server) };
        sent = moves.taken.sent;
      }

  came_by : (up among : Bool) (turn taken : RaftTurn C) → (if up then (if among then Ok turn else Err refusals.OutOfRange) else Err refusals.Down) ≡ Ok taken → (up ≡ true) × (among ≡ true) × (turn ≡ taken)
  came_by true true turn taken is = (refl, refl, cc)
  came_by true false turn taken is = absurd cc
  came_by false among turn taken is = absurd cc

  -- a snapshot comes, of each list that its frame may carry
  installs : (old new : RaftView S C) (before after : List Frame) (from to term : ℕ) (snapshot : Base S) (Q : List (Entry C)) → IsCompacted old.base old.server → IsBaseOf m snapshot Q → Moves m (base_after old.base old.server term snapshot) old (Arrives (record { from = from; to = to; term = term; body = InstallBody (noop_prefix m snapshot.index snapshot.term) })) new before after → (s : Raft C) → RefinesRaft m old s → Steps m old s (Arrives (record { from = from; to = to; term = term; body = InstallBody Q })) new before after
  installs old new before after from to term snapshot Q shown fits moves s r =
      let came = came_by (is_up old.server.mode) (nat_lt from old.size) (turn_of m old.size old.me old.server from term snapshot) moves.turn moves.step in
      let got = received m old.size old.me from term snapshot old.base old.server s shown r Q fits in
      let up : is_up s.mode ≡ true = ap (λ (x : Raft C). is_up x.mode) r.is ∙ came.0 in
      record {
        turn = receives m.noop old.size old.me (term_observed term s) from term (InstallBody Q);
        step = rw (up, came.1) refl;
        refines = record {
          covered = got.stands.covered;
          fits = rw moves.taken.base got.stands.fits;
          is = got.stands.is ∙ ap (with_prefix got.stands.covered) (ap (λ (t : RaftTurn C). t.server) came.2 ∙ sym moves.taken.server);
        };
        sent = subst (λ (l : List (Message C)). Sends m before after l) (sym (ap (λ (t : RaftTurn C). t.sent) came.2) ∙ got.sent) moves.taken.sent;
      }

  plain_by : (o : Option (Message C)) (message : Message C) → IfSome o (λ x. IsPlain x.body) → o ≡ Some message → IsPlain message.body
  plain_by o message plain is = subst (λ (z : Option (Message C)). IfSome z (λ x. IsPlain x.body)) is plain

  arrives_by : (old new : RaftView S C) (before after : List Frame) (from to : Actor) (body : WireBody S C) (message : Message C) → IsCompacted old.base old.server → from ≡ ServerActor message.from → to ≡ ServerActor message.to → Says m message.from message.to body message → MovesMessage m old (record { from = from; to = to; body = body }) new before after → (s : Raft C) → RefinesRaft m old s → Steps m old s (Arrives message) new before after
  arrives_by old new before after from to (bodies.Install i) message shown f t said moves s r =
      let sees : Message C = record { from = message.from; to = message.to; term = i.head.term; body = InstallBody (noop_prefix m i.head.index i.head.index_term) } in
      subst (λ (x : Message C). Steps m old s (Arrives x) new before after) (sym said.2)
      (installs old new before after message.from message.to i.head.term (base_of i) said.0 shown said.1 (moves sees (record { from = f; to = t; said = refl })) s r)
  arrives_by old new before after from to body message shown f t said moves s r =
      fills old new before after (Arrives message) shown (plain_by _ message tt said) (moves message (record { from = f; to = t; said = said })) s r

  arrives : (old new : RaftView S C) (before after : List Frame) (read : WireMessage S C) (message : Message C) → IsCompacted old.base old.server → Means m read message → MovesMessage m old read new before after → (s : Raft C) → RefinesRaft m old s → Steps m old s (Arrives message) new before after
  arrives old new before after read message shown means moves s r =
      arrives_by old new before after read.from read.to read.body message shown means.from means.to means.said (λ x shows. moves x (record { from = shows.from; to = shows.to; said = shows.said })) s r

  beat_fills : (old new : RaftView S C) (before after : List Frame) → (new ≡ old) × Beats m old before after → (s : Raft C) → RefinesRaft m old s → Steps m old s Beat new before after
  beat_fills old new before after moves s r =
      let up : is_up s.mode ≡ true = ap (λ (x : Raft C). is_up x.mode) r.is ∙ moves.1.up in
      record {
        turn = record { server = s; sent = beats old.size old.me s s.mode };
        step = rw up refl;
        refines = subst (λ (v : RaftView S C). RefinesRaft m v s) (sym moves.0) r;
        sent = subst (λ (x : Raft C). Sends m before after (beats old.size old.me x x.mode)) (sym r.is) (moves.1.sent r.covered r.fits);
      }

  compact_fills : (old new : RaftView S C) (before after : List Frame) → IsCompacted old.base old.server → (after ≡ before) × Compacts m old new → (s : Raft C) → RefinesRaft m old s → Steps m old s Compact new before after
  compact_fills old new before after shown moves s r =
      let up : is_up s.mode ≡ true = ap (λ (x : Raft C). is_up x.mode) r.is ∙ moves.1.up in
      let stands = (compact_stands m old.base old.server s shown moves.1.within r).0 in
      record {
        turn = silent (compacted s);
        step = rw up refl;
        refines = record { covered = stands.covered; fits = rw moves.1.base stands.fits; is = stands.is ∙ ap (with_prefix stands.covered) (sym moves.1.server) };
        sent = subst (λ (l : List Frame). Sends m before l []) (sym moves.0) (sends-none m before);
      }

  pub takes_by : (input : CodeInput) (old new : RaftView S C) (before after : List Frame) → IsCompacted old.base old.server → MovesBy m old (handed input) new before after → (s : Raft C) → RefinesRaft m old s → Takes m old s (handed input) new before after
  takes_by (inputs.Frame bytes) old new before after shown moves s r = λ input reads.
      let frame = reads.1 in
      subst (λ (i : Input C). Steps m old s i new before after) (sym reads.2)
      (arrives old new before after frame.read reads.0 shown frame.means (moves frame.read frame.fits frame.text) s r)
  takes_by inputs.Timeout old new before after shown moves s r = λ input reads.
      subst (λ (i : Input C). Steps m old s i new before after) (sym reads) (fills old new before after Timeout shown tt moves s r)
  takes_by inputs.Beat old new before after shown moves s r = λ input reads.
      subst (λ (i : Input C). Steps m old s i new before after) (sym reads) (beat_fills old new before after moves s r)
  takes_by inputs.Compact old new before after shown moves s r = λ input reads.
      subst (λ (i : Input C). Steps m old s i new before after) (sym reads) (compact_fills old new before after shown moves s r)
  takes_by inputs.Crash old new before after shown moves s r = λ input reads.
      subst (λ (i : Input C). Steps m old s i new before after) (sym reads) (fills old new before after Crash shown tt moves s r)
  takes_by inputs.Restart old new before after shown moves s r = λ input reads.
      subst (λ (i : Input C). Steps m old s i new before after) (sym reads) (fills old new before after Restart shown tt moves s r)

  pub takes_message : (old new : RaftView S C) (before after : List Frame) (read : WireMessage S C) → IsCompacted old.base old.server → MovesMessage m old read new before after → (s : Raft C) → RefinesRaft m old s → TakesMessage m old s read new before after
  takes_message old new before after read shown moves s r = λ message means.
      arrives old new before after read message shown means moves s r

  -- ---- refusals

  same_refusal : (P : List (Entry C)) (result : Result (RaftTurn C) Refusal) → refusal_by (result_with_prefix P result) ≡ refusal_by result
  same_refusal P (Ok turn) = refl
  same_refusal P (Err cause) = refl

  either_turn : (b : Bool) (t u : RaftTurn C) → refusal_by (if b then Ok t else Err refusals.Down) ≡ refusal_by (if b then Ok u else Err refusals.Down)
  either_turn true t u = refl
  either_turn false t u = refl

  module _ (n me : ℕ) (base : Base S) (shown s : Raft C) (is : IsCompacted base shown) (r : IsCompactionOf m base shown s) where
    own_refusal : (input : Input C) → IsPlainInput input → refusal_by (step m n me s input) ≡ refusal_by (step m n me shown input)
    own_refusal input plain =
        ap (λ (x : Raft C). refusal_by (step m n me x input)) r.is
        ∙ ap refusal_by (step-with_prefix m n me r.covered shown (may_fill m base shown is r.covered r.fits) input plain)
        ∙ same_refusal r.covered (step m n me shown input)

    beat_refusal : refusal_by (step m n me s Beat) ≡ refusal_by (step m n me shown Beat)
    beat_refusal = ap (λ (x : Raft C). refusal_by (step m n me x Beat)) r.is ∙ either_turn (is_up shown.mode) _ _

    compact_refusal : refusal_by (step m n me s Compact) ≡ refusal_by (step m n me shown Compact)
    compact_refusal = ap (λ (x : Raft C). refusal_by (step m n me x Compact)) r.is ∙ either_turn (is_up shown.mode) _ _

    refusal_shown : (input : CodeInput) → refusal m n me s (handed input) ≡ refusal m n me shown (handed input)
    refusal_shown (inputs.Frame bytes) = ap (λ (x : Raft C). refusal m n me x (Bytes bytes.now)) r.is
    refusal_shown inputs.Timeout = own_refusal Timeout tt
    refusal_shown inputs.Beat = beat_refusal
    refusal_shown inputs.Compact = compact_refusal
    refusal_shown inputs.Crash = own_refusal Crash tt
    refusal_shown inputs.Restart = own_refusal Restart tt

    early_shown : (input : CodeInput) → early_refusal m n me s (handed input) ≡ early_refusal m n me shown (handed input)
    early_shown (inputs.Frame bytes) = ap (λ (x : Raft C). early_refusal m n me x (Bytes bytes.now)) r.is
    early_shown inputs.Timeout = own_refusal Timeout tt
    early_shown inputs.Beat = beat_refusal
    early_shown inputs.Compact = compact_refusal
    early_shown inputs.Crash = own_refusal Crash tt
    early_shown inputs.Restart = own_refusal Restart tt

    pub hides_shown : (input : CodeInput) (cause : Refusal) → HidesNothing m n me shown (handed input) cause → HidesNothing m n me s (handed input) cause
    hides_shown input refusals.NoMemory hides = early_shown input ∙ hides
    hides_shown input cause hides = tt

  -- a refusal that is not want of memory
  pub other_refused : (input : CodeInput) (cause : Refusal) (old new : RaftView S C) (before after : List Frame) → (cause ≡ refusals.NoMemory → ⊥) → IsCompacted old.base old.server → EndsRefused m old (handed input) cause new before after → (s : Raft C) → RefinesRaft m old s → IsRefused m old.size old.me s (handed input) cause
  other_refused input refusals.NoMemory old new before after other shown ends s r = absurd (other refl)
  other_refused input cause old new before after other shown ends s r = refusal_shown old.size old.me old.base old.server s shown r input ∙ ends.0

  pub other_same : (input : CodeInput) (cause : Refusal) (old new : RaftView S C) (before after : List Frame) → (cause ≡ refusals.NoMemory → ⊥) → EndsRefused m old (handed input) cause new before after → new ≡ old
  other_same input refusals.NoMemory old new before after other ends = absurd (other refl)
  other_same input cause old new before after other ends = ends.1.same

  pub other_unsent : (input : CodeInput) (cause : Refusal) (old new : RaftView S C) (before after : List Frame) → (cause ≡ refusals.NoMemory → ⊥) → EndsRefused m old (handed input) cause new before after → after ≡ before
  other_unsent input refusals.NoMemory old new before after other ends = absurd (other refl)
  other_unsent input cause old new before after other ends = ends.1.nothing

  pub other_leaves : (h : Handed C) (cause : Refusal) (old new : RaftView S C) (s : Raft C) → (cause ≡ refusals.NoMemory → ⊥) → new ≡ old → RefusalLeaves m old s h cause new
  other_leaves h refusals.NoMemory old new s other same = absurd (other refl)
  other_leaves h cause old new s other same = same

  pub other_stays : (h : Handed C) (cause : Refusal) (old new : RaftView S C) → (cause ≡ refusals.NoMemory → ⊥) → new ≡ old → Stays h cause old new
  other_stays h refusals.NoMemory old new other same = absurd (other refl)
  other_stays h cause old new other same = same

  -- a crash, by what is shown
  pub crash_fills : (old new : RaftView S C) → IsCrashOf old new → (s : Raft C) → RefinesRaft m old s → RefinesRaft m new (crashed s)
  crash_fills old new crash s r = record {
    covered = r.covered;
    fits = rw crash.1 r.fits;
    is = ap crashed r.is ∙ ap (with_prefix r.covered) (sym crash.0);
  }

  -- the same server, by what is shown
  pub same_fills : (old new : RaftView S C) → SameRaft old new → (s : Raft C) → RefinesRaft m old s → RefinesRaft m new s
  same_fills old new same s r = record {
    covered = r.covered;
    fits = rw same.base r.fits;
    is = r.is ∙ ap (with_prefix r.covered) (sym same.server);
  }

  -- ---- machines

  pub machine_each : (view : RaftView S C) → IsCompacted view.base view.server → (o : Option (Bor S)) → MatchOption o (is_up view.server.mode ≡ false) (λ r. (is_up view.server.mode ≡ true) × (r.now ≡ compacted_state m view.base view.server)) → (s : Raft C) → RefinesRaft m view s → MatchOption o (is_up s.mode ≡ false) (λ r. (is_up s.mode ≡ true) × (r.now ≡ state_after m (take s.commit s.log)))
  machine_each view shown None off s r = ap (λ (x : Raft C). is_up x.mode) r.is ∙ off
  machine_each view shown (Some it) on s r = (ap (λ (x : Raft C). is_up x.mode) r.is ∙ on.0, on.1 ∙ sym (state_shown m view.base view.server s shown r))

  pub whole_each : (old mid : RaftView S C) (it : Bor S) → SameRaft old mid → is_leader old.server.mode ≡ true → it.now ≡ state_from m mid.base mid.server.log → (s : Raft C) → RefinesRaft m old s → (is_leader s.mode ≡ true) × (it.now ≡ state_after m s.log)
  whole_each old mid it same leads is s r = (
    ap (λ (x : Raft C). is_leader x.mode) r.is ∙ leads,
    is ∙ ap (λ (b : Base S). state_from m b mid.server.log) same.base ∙ ap (λ (x : Raft C). state_from m old.base x.log) same.server ∙ sym (whole_shown m old.base old.server s r),
  )

  -- ---- watchers

  pub seen_each : {W : Type 0} (Sees : W → ℕ → Entry C → S → W → Type 0) (old new : RaftView S C) → IsCompacted old.base old.server → IsCompacted new.base new.server → (is_leader new.server.mode ≡ true → new.base.index ≤ old.server.commit) → (w v : W) → ShowsStep m Sees old.base old.server new.server w v → (s next : Raft C) → RefinesRaft m old s → RefinesRaft m new next → SeesStep m Sees s next w v
  seen_each Sees old new shown after led w v shows s next r q =
      sees_filled m Sees old.base new.base old.server new.server shown after led s next r q w v shows
