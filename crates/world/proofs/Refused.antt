-- What a server refuses, and what is left of it where it lacks memory.
use Rattle.std.proofs.Common.{◌≡◌, ◌≢◌, ℕ, ◌<◌, Bool, true, false, nat_lt, ◌==◌, if◌then◌else◌, Some, None, Result, Ok, Err, IfErr, List, refl, sym, ap, ◌∙◌, subst}
use Rattle.std.proofs.lemmas.Bool.{lt-ltb, eq-eqb}
use Rattle.rows.specs.declared.refusal.Refusal.{Refusal}
use Rattle.rows.specs.declared.refusal.Refusal.TheVariants as refusals
use Rattle.machine_model.specs.MachineSpec.{MachineSpec}
use Rattle.wire.specs.Messages.{Message as WireMessage, kind_of, is_of_log}
use Rattle.wire.specs.declared.body.Body.{Body}
use Rattle.wire.specs.declared.body.Body.TheVariants as bodies
use Rattle.wire.specs.Frames.{Frame, MessageFits, message_at, message_text}
use Rattle.raft_model.specs.Messages.{Message}
use Rattle.raft_model.specs.Rafts.{Raft, Mode, Down, Follower, Candidate, Leader, RaftTurn, is_up, is_leader, crashed}
use Rattle.raft_model.specs.Steps.{Input, Arrives, Timeout, Beat, Propose, Compact, Crash, Restart, step}
use Rattle.raft_model.specs.Worlds.{Event, Deliver, TimesOut, Beats, Proposes, Compacts, Crashes, Restarts}
use Rattle.raft_core.specs.RaftView.{RaftView}
use Rattle.raft_core.specs.Frames.{IsFrameOf, Says}
use Rattle.raft_core.specs.Inputs.{Handed, Bytes, Own, Reads}
use Rattle.raft_core.specs.Steps.{RefinesRaft}
use Rattle.raft_core.specs.Refusals.{refusal, refusal_by, frame_refusal, MayEndOutOfMemory, IsRefused, OutOfMemoryLeaves, OutOfMemoryStays, RefusalLeaves, Stays}
use Rattle.world.specs.Steps.{LeftServer}
use Rattle.world.specs.Inner.HistoryView.{HistoryView}
use Rattle.world.specs.Inner.Inputs.{is_restart, Leaves, StaysOrLeft, handed_by}
use Rattle.world.specs.Inner.Parts.{IsPartRefused}

refusal_is : {C : Type 0} (q : Result (RaftTurn C) Refusal) (r : Refusal) → refusal_by q ≡ Some r → q ≡ Err r
refusal_is (Ok turn) r h = absurd (cc)
refusal_is (Err e) r h = let same : e ≡ r = cc in ap (λ x. Err x) same

-- a message of the group for server `me`
abbrev pub IsAddressed : {C : Type 0} → ℕ → ℕ → Input C → Type 0
IsAddressed n me (Arrives message) = (message.from < n) × (message.to ≡ me)
IsAddressed n me Timeout = Unit {0}
IsAddressed n me Beat = Unit {0}
IsAddressed n me (Propose command) = Unit {0}
IsAddressed n me Compact = Unit {0}
IsAddressed n me Crash = Unit {0}
IsAddressed n me Restart = Unit {0}

-- a body that says a message of the log is of such a kind
said_kind : {S C : Type 0} (m : MachineSpec S C) (from to : ℕ) (body : Body S C) (x : Message C) → Says m from to body x → is_of_log (kind_of body) ≡ true
said_kind m from to (bodies.VoteRequest v) x is = refl
said_kind m from to (bodies.VoteReply v) x is = refl
said_kind m from to (bodies.Append a) x is = refl
said_kind m from to (bodies.AppendReply r) x is = refl
said_kind m from to (bodies.Install i) x is = refl
said_kind m from to (bodies.InstallReply r) x is = refl
said_kind m from to (bodies.Request r) x is = absurd (cc is)
said_kind m from to (bodies.Response r) x is = absurd (cc is)
said_kind m from to (bodies.Register class size) x is = absurd (cc is)
said_kind m from to bodies.Heartbeat x is = absurd (cc is)
said_kind m from to bodies.Pull x is = absurd (cc is)
said_kind m from to (bodies.List index rows) x is = absurd (cc is)
said_kind m from to (bodies.Report items) x is = absurd (cc is)
said_kind m from to (bodies.Told kind reason) x is = absurd (cc is)

module _ {S C : Type 0} (m : MachineSpec S C) (n me : ℕ)
    (again : (y : WireMessage S C) → MessageFits m y → message_at m (message_text m y) ≡ Ok y) where
  -- a frame that was sent to this server is not refused for its bytes
  readable : (bytes : List ℕ) (x : Message C) → IsFrameOf m bytes x → x.from < n → x.to ≡ me → frame_refusal m n me bytes ≡ None
  readable bytes x f from to =
      let read : message_at m bytes ≡ Ok f.read = ap (message_at m) f.text ∙ again f.read f.fits in
      let inside : nat_lt x.from n ≡ true = lt-ltb x.from n from in
      let mine : (x.to == me) ≡ true = eq-eqb x.to me to in
      let f_from = f.means.from in
      let f_to = f.means.to in
      let kind : is_of_log (kind_of f.read.body) ≡ true = said_kind m x.from x.to f.read.body x f.means.said in
      rw (read, kind, f_from, f_to, inside, mine) refl

  frame_refused : (s : Raft C) (bytes : List ℕ) (x : Message C) (r : Refusal) (up : Bool) → is_up s.mode ≡ up → IsFrameOf m bytes x → x.from < n → x.to ≡ me →
      (if up then frame_refusal m n me bytes else Some refusals.Down) ≡ Some r → step m n me s (Arrives x) ≡ Err r
  frame_refused s bytes x r true is f from to h = absurd (let none : frame_refusal m n me bytes ≡ None = readable bytes x f from to in cc)
  frame_refused s bytes x r false is f from to h = let same : refusals.Down ≡ r = cc in rw is (ap (λ e. Err e) same)

  -- the refusal of what is handed in is that of the step
  pub refused_is : (s : Raft C) (h : Handed C) (x : Input C) (r : Refusal) → Reads m h x → IsAddressed n me x → refusal m n me s h ≡ Some r → step m n me s x ≡ Err r
  refused_is s (Bytes bytes) x r reads for h =
      let to : IsAddressed n me (Arrives reads.0) = subst (λ y. IsAddressed n me y) reads.2 for in
      subst (λ y. step m n me s y ≡ Err r) (sym reads.2) (frame_refused s bytes reads.0 r (is_up s.mode) refl reads.1 to.0 to.1 h)
  refused_is s (Own own) x r reads for h = subst (λ y. step m n me s y ≡ Err r) (sym reads) (refusal_is (step m n me s own) r h)

leads_up : (mode : Mode) → is_leader mode ≡ true → is_up mode ≡ true
leads_up Down h = absurd (cc)
leads_up Follower h = refl
leads_up (Candidate votes) h = refl
leads_up (Leader next match) h = refl

module _ {S C : Type 0} (m : MachineSpec S C) (h h2 : RaftView S C) (sent : List Frame) (s : Raft C) where
  -- want of memory is a crash
  pub fallen : (e : Event C) → is_restart e ≡ false → MayEndOutOfMemory s.mode (handed_by sent e) → OutOfMemoryLeaves m h s (handed_by sent e) h2 → (is_up s.mode ≡ true) × RefinesRaft m h2 (crashed s)
  fallen (Deliver k) other may left = (may, left)
  fallen (TimesOut i) other may left = (may.0, left)
  fallen (Beats i) other may left = (leads_up s.mode may, left)
  fallen (Proposes i command) other may left = (leads_up s.mode may, left)
  fallen (Compacts i) other may left = (may, left)
  fallen (Crashes i) other may left = absurd may
  fallen (Restarts i) other may left = absurd (cc)

  -- but that of a restart, of one that is down
  pub stayed : (e : Event C) → is_restart e ≡ true → MayEndOutOfMemory s.mode (handed_by sent e) → is_up s.mode ≡ false
  stayed (Deliver k) so may = absurd (cc)
  stayed (TimesOut i) so may = absurd (cc)
  stayed (Beats i) so may = absurd (cc)
  stayed (Proposes i command) so may = absurd (cc)
  stayed (Compacts i) so may = absurd (cc)
  stayed (Crashes i) so may = absurd (cc)
  stayed (Restarts i) so may = may

-- which changes nothing
pub same_raft : {S C : Type 0} (h h2 : RaftView S C) (sent : List Frame) (e : Event C) → is_restart e ≡ true → OutOfMemoryStays (handed_by sent e) h h2 → h2 ≡ h
same_raft h h2 sent (Deliver k) so left = absurd (cc)
same_raft h h2 sent (TimesOut i) so left = absurd (cc)
same_raft h h2 sent (Beats i) so left = absurd (cc)
same_raft h h2 sent (Proposes i command) so left = absurd (cc)
same_raft h h2 sent (Compacts i) so left = absurd (cc)
same_raft h h2 sent (Crashes i) so left = absurd (cc)
same_raft h h2 sent (Restarts i) so left = left.1

pub as_is : {S C : Type 0} (old new : RaftView S C) → new ≡ old → LeftServer old new
as_is old new e = (record { me = ap (λ (x : RaftView _ _). x.me) e; size = ap (λ (x : RaftView _ _). x.size) e; base = ap (λ (x : RaftView _ _). x.base) e; server = ap (λ (x : RaftView _ _). x.server) e }, λ h. ap (λ (x : RaftView _ _). x.projected) e ∙ h)

module _ {S C : Type 0} (m : MachineSpec S C) (old : RaftView S C) (h : Handed C) (new : RaftView S C) where
  leaves : (s : Raft C) (cause : Refusal) → RefusalLeaves m old s h cause new → Leaves m old s h cause new
  leaves s refusals.NoMemory left = left
  leaves s _ left = as_is old new left

  -- a refusal of a step leaves the same server
  pub step_leaves : {T : Type 0} (r : Result T Refusal) → IfErr r (λ cause. (s : Raft C) → RefinesRaft m old s → RefusalLeaves m old s h cause new) → IfErr r (λ cause. (s : Raft C) → RefinesRaft m old s → Leaves m old s h cause new)
  step_leaves (Ok x) f = tt
  step_leaves (Err cause) f = λ s r. leaves s cause (f s r)

module _ {S C : Type 0} (old : RaftView S C) (h : Handed C) (new : RaftView S C) where
  stays : (cause : Refusal) → Stays h cause old new → StaysOrLeft h cause old new
  stays refusals.NoMemory left = left
  stays _ left = as_is old new left

  pub step_stays : {T : Type 0} (r : Result T Refusal) → IfErr r (λ cause. Stays h cause old new) → IfErr r (λ cause. StaysOrLeft h cause old new)
  step_stays (Ok x) f = tt
  step_stays (Err cause) f = stays cause f

-- any other refusal leaves the same server, and is that of what is handed in
pub part_refused : {S C : Type 0} (m : MachineSpec S C) (h h2 : RaftView S C) (past : HistoryView C) (e : Event C) (cause : Refusal) → cause ≢ refusals.NoMemory →
    ((s : Raft C) → RefinesRaft m h s → IsRefused m h.size h.me s (handed_by past.sent e) cause) →
    StaysOrLeft (handed_by past.sent e) cause h h2 → LeftServer h h2 × IsPartRefused m h past e cause
part_refused m h h2 past e refusals.NoMemory other refused left = absurd (other refl)
part_refused m h h2 past e _ other refused left = (left, refused)
