-- Servers of the log are joined so, whatever the machine.
use Rattle.std.proofs.Common.{◌≡◌, ◌∙◌, inl, inr, ℕ, Bool, true, false, Option, Some, None, Ok, if◌then◌else◌, List, [], ◌∷◌, length, drop, refl, sym, ap, subst, arith, length-append, length-drop}
use Rattle.std.specs.Prelude.{◌==◌}
use Rattle.std.specs.List.{AllZip}
use Rattle.std.proofs.lemmas.Bool.{eqb-true}
use Rattle.std.proofs.lemmas.Bool.Decides.{eqb_tells}
use Rattle.rows.specs.declared.refusal.Refusal.{Refusal}
use Rattle.rows.specs.declared.refusal.Refusal.TheVariants as refusals
use Rattle.machine_model.specs.MachineSpec.{MachineSpec, LawfulMachine}
use Rattle.machine_model.specs.declared.entry.Entry.{Entry}
use Rattle.wire.specs.Frames.{Frame, message_at}
use Rattle.wire.specs.Messages.{kind_of, is_of_log}
use Rattle.wire.proofs.Framing.{message_only}
use Rattle.raft_model.specs.Messages.{Message}
use Rattle.raft_model.specs.Rafts.{Raft, is_up, restarted}
use Rattle.raft_model.specs.Steps.{Input, Arrives, Timeout, Beat, Propose, Compact, Crash, Restart, step}
use Rattle.raft_model.specs.Chains.{At, Agree}
use Rattle.raft_model.specs.Logs.{commands}
use Rattle.machine_model.specs.After.{Admitted}
use Rattle.raft_safety.proofs.Paths.{CameIn}
use Rattle.raft_safety.proofs.Chains.{st, chain, log_commands}
use Rattle.raft_snapshot.specs.Bases.{Base}
use Rattle.raft_snapshot.specs.Stored.{Stored}
use Rattle.raft_core.specs.Frames.{IsFrameOf, FrameCarries}
use Rattle.raft_core.specs.Inputs.{Handed, Bytes, Own, Reads}
use Rattle.raft_core.specs.RaftView.{RaftView, SameRaft}
use Rattle.raft_core.specs.Refusals.{refusal, frame_refusal, unreadable, message_fault, misdirected, is_server_of, is_server_at}
use Rattle.raft_core.specs.Steps.{RefinesRaft, Stores}
use Rattle.raft_core.specs.StoredParts.{stored_part}
use Rattle.journal.specs.Events.{IoEvent, BytesCame, InputEnded, RecordAppended, JournalReplaced, BytesSent, LineReported}
use Rattle.processes.specs.Processes.{told_by}
use Rattle.processes.specs.Claims.{OccursIn, took_none, one_more, RefinesWorld}
use Rattle.processes.specs.Logs.{Persistent, persistent_of, nothing_persistent, started, stopped, IsOffered, log_actors, log_abstraction}
use Rattle.processes.proofs.Logs.{log_world}
use Rattle.process_lives.specs.Lives.{Code, Past, Process, Lived}
use Rattle.process_lives.specs.Joined.{Joined}
use Rattle.process_lives.specs.Servers.{AreFrames, CoversAll, MayMean, TurnTakes, TurnIs, stays_so, takes_it, RunsServers, OneListOfLives}
use Rattle.process_lives.proofs.Bounds.{InBounds, step_bounds}
use Rattle.process_lives.proofs.Turns.{Sends, sends_nothing, sends_message, reports_line, Turned, HadCome, Joins}
use Rattle.process_lives.proofs.Living.{joined}

module _ {S C : Type 0} (m : MachineSpec S C) (n : ℕ) where
  -- this server of the definitions is what the code's value stands for
  pub record ShowsServer (k : ℕ) (v : RaftView S C) (s : Raft C) : Type 0 where
    pub stands : RefinesRaft m v s
    pub me : v.me ≡ k
    pub size : v.size ≡ n
    pub based : v.base.index ≡ s.covered
    pub bounds : InBounds s

  abbrev pub KeepsServer : ℕ → Stored S C → Persistent C → Type 0
  KeepsServer k part q = Stores m part (started q)

  -- ---- what is stored

  pub keeps_stored : (k : ℕ) (v : RaftView S C) (s : Raft C) → ShowsServer k v s → Stores m (stored_part v) (started (persistent_of s))
  keeps_stored k v s is = record {
    term = sym (ap (λ (x : Raft C). x.term) is.stands.is);
    vote = sym (ap (λ (x : Raft C). x.vote) is.stands.is);
    log = record { covered = is.stands.covered; fits = is.stands.fits; is = ap (λ (x : Raft C). x.log) is.stands.is };
    covered = is.based;
  }

  pub shows_started : (k : ℕ) (v : RaftView S C) (q : Persistent C) → (v.me ≡ k) × (v.size ≡ n) → ((s : Raft C) → Stores m (stored_part v) s → RefinesRaft m v (restarted s)) → Stores m (stored_part v) (started q)
      → ShowsServer k v (started q)
  shows_started k v q place starts stored =
      let log = stored.log in
      let front = ap length log.is in
      let size = length-append log.covered (drop (length log.covered) v.server.log) in
      record {
        stands = starts (started q) stored;
        me = place.0;
        size = place.1;
        based = stored.covered;
        bounds = record { covered = omega arith; commit = omega (arith, stored.covered, log.fits.index, front, size) };
      }

  pub covers_same : (view : RaftView S C) (t : Raft C) → RefinesRaft m view t → InBounds t → CoversAll view → view.base.index ≡ t.covered
  covers_same view t r bounds all =
      let same : t.covered ≡ view.server.covered = ap (λ (x : Raft C). x.covered) r.is in
      let long = ap (λ (x : Raft C). length x.log) r.is in
      let size = length-append r.covered (drop (length r.covered) view.server.log) in
      let behind = length-drop (length r.covered) view.server.log in
      elim all.most [
        | inl most ↦ omega (arith, all.least, most, same)
        | inr most ↦ omega (arith, all.least, most, same, long, size, behind, r.fits.index, bounds.covered, bounds.commit)
      ]

module _ {S C : Type 0} (m : MachineSpec S C) (n : ℕ) (c : Code ℕ (RaftView S C) (Stored S C)) where
  abbrev Shows : ℕ → RaftView S C → Raft C → Type 0
  Shows k v s = ShowsServer m n k v s

  abbrev Keeps : ℕ → Stored S C → Persistent C → Type 0
  Keeps k part q = KeepsServer m n k part q

  abbrev pub CarriesMessage : List ℕ → Message C → Type 0
  CarriesMessage bytes message = IsFrameOf m bytes message

  -- ---- what is sent

  sends_frames : (outs : List IoEvent) (frames : List Frame) (messages : List (Message C)) → AreFrames outs frames → AllZip (FrameCarries m) frames messages → Sends c.IsFrame CarriesMessage outs messages
  sends_frames [] [] [] of carry = sends_nothing
  sends_frames [] [] (x ∷ messages) of carry = absurd carry
  sends_frames [] (frame ∷ frames) messages of carry = absurd of
  sends_frames (BytesCame bytes ∷ outs) frames messages of carry = absurd of
  sends_frames (InputEnded ∷ outs) frames messages of carry = absurd of
  sends_frames (RecordAppended payload ∷ outs) frames messages of carry = absurd of
  sends_frames (JournalReplaced payload ∷ outs) frames messages of carry = absurd of
  sends_frames (BytesSent bytes ∷ outs) [] messages of carry = absurd of
  sends_frames (BytesSent bytes ∷ outs) (frame ∷ frames) [] of carry = absurd carry
  sends_frames (BytesSent bytes ∷ outs) (frame ∷ frames) (x ∷ messages) of carry = sends_message bytes x (frame.bytes, of.0, carry.0.bytes) (sends_frames outs frames messages of.1 carry.1)
  sends_frames (LineReported line ∷ outs) frames messages of carry = reports_line line (sends_frames outs frames messages of carry)

  -- ---- a frame is for its receiver

  at_me : (me : ℕ) (b d : Bool) (x y : Refusal) → (if b then (if d then None else Some x) else Some y) ≡ None → d ≡ true
  at_me me true true x y e = refl
  at_me me true false x y e = let no : Some x ≡ None = e in absurd (cc no)
  at_me me false d x y e = let no : Some y ≡ None = e in absurd (cc no)

  of_log : (b : Bool) (o : Option Refusal) (x : Refusal) → (if b then o else Some x) ≡ None → o ≡ None
  of_log true o x e = e
  of_log false o x e = let no : Some x ≡ None = e in absurd (cc no)

  for_me : LawfulMachine m → (size me : ℕ) (s : Raft C) (item : List ℕ) (x : Message C) → refusal m size me s (Bytes item) ≡ None → IsFrameOf m item x → x.to ≡ me
  for_me law size me s item x none of =
      let up = of_log (is_up s.mode) (frame_refusal m size me item) refusals.Down none in
      let read : message_at m item ≡ Ok of.read = ap (message_at m) of.text ∙ message_only m law of.read of.fits in
      let fault : message_fault size me of.read ≡ None = sym (ap (unreadable {S = S} {C = C} size me) read) ∙ up in
      let way : misdirected size me of.read.from of.read.to ≡ None = of_log (is_of_log (kind_of of.read.body)) (misdirected size me of.read.from of.read.to) (refusals.Frame 1) fault in
      let here : is_server_at me of.read.to ≡ true = at_me me (is_server_of size of.read.from) (is_server_at me of.read.to) (refusals.Frame 3) (refusals.Frame 2) way in
      let same : (x.to == me) ≡ true = subst (λ a. is_server_at me a ≡ true) of.means.to here in
      eqb-true x.to me same

  came_in : (left : List (Message C)) (k : ℕ) (input : Input C) → IsOffered m n left k input → CameIn m left k input
  came_in left k (Arrives message) offered = offered
  came_in left k Timeout offered = tt
  came_in left k Beat offered = tt
  came_in left k (Propose command) offered = offered
  came_in left k Compact offered = tt
  came_in left k Crash offered = tt
  came_in left k Restart offered = tt

  -- ---- a turn

  module _ (law : LawfulMachine m) (k : ℕ) (left : List (Message C)) (item : List ℕ) (old new : RaftView S C) (outs : List IoEvent) (a : Raft C) (is : Shows k old a) (t : TurnTakes m n c item old new outs) where
    taken_by : (input : Input C) → Reads m t.handed input → IsOffered m n left k input → Turned c (log_actors m n) Shows Keeps CarriesMessage k left a new outs
    taken_by input reads offered =
        let s = t.step a is.stands input reads in
        let stepped : step m n k a input ≡ Ok s.turn = subst (λ i. step m n i a input ≡ Ok s.turn) is.me (subst (λ z. step m z old.me a input ≡ Ok s.turn) is.size s.step) in
        let bounds = step_bounds m n k left a input s.turn (came_in left k input offered) stepped is.bounds in
        let covers = t.based (sym (ap (λ (x : Raft C). x.covered) is.stands.is) ∙ sym is.based) in
        record {
          actor = s.turn.server;
          after = s.turn.server ∷ [];
          sent = s.turn.sent;
          takes = one_more input s.turn.server s.turn.sent took_none (offered, stepped);
          shows = record { stands = s.refines; me = t.same.0 ∙ is.me; size = t.same.1 ∙ is.size; based = covers_same m n new s.turn.server s.refines bounds covers; bounds = bounds };
          sends = sends_frames outs t.frames s.turn.sent t.outs_are (subst (λ l. AllZip (FrameCarries m) l s.turn.sent) (sym s.sent.added) s.sent.carry);
        }

    taken : HadCome c (log_actors m n) Shows Keeps CarriesMessage left item → (h : Handed C) → t.handed ≡ h → MayMean m n c item h → Turned c (log_actors m n) Shows Keeps CarriesMessage k left a new outs
    taken come (Bytes bytes) e means =
        let x = come means.1 in
        let of : IsFrameOf m bytes x.0 = subst (λ b. IsFrameOf m b x.0) (sym means.0) x.2 in
        let reads : Reads m t.handed (Arrives x.0) = subst (λ h. Reads m h (Arrives x.0)) (sym e) (x.0, of, refl) in
        let none : refusal m old.size old.me a (Bytes bytes) ≡ None = subst (λ h. refusal m old.size old.me a h ≡ None) e (t.admitted a is.stands) in
        taken_by (Arrives x.0) reads (x.1, for_me law old.size old.me a bytes x.0 none of ∙ is.me)
    taken come (Own (Arrives message)) e means = absurd means
    taken come (Own Timeout) e means = taken_by Timeout (subst (λ h. Reads m h Timeout) (sym e) refl) tt
    taken come (Own Beat) e means = taken_by Beat (subst (λ h. Reads m h Beat) (sym e) refl) tt
    taken come (Own (Propose command)) e means = taken_by (Propose command) (subst (λ h. Reads m h (Propose command)) (sym e) refl) means
    taken come (Own Compact) e means = taken_by Compact (subst (λ h. Reads m h Compact) (sym e) refl) tt
    taken come (Own Crash) e means = absurd means
    taken come (Own Restart) e means = absurd means

  shows_same : (k : ℕ) (old new : RaftView S C) (a : Raft C) → SameRaft old new → Shows k old a → Shows k new a
  shows_same k old new a same is = record {
    stands = record {
      covered = is.stands.covered;
      fits = rw same.base is.stands.fits;
      is = rw same.server is.stands.is;
    };
    me = same.me ∙ is.me;
    size = same.size ∙ is.size;
    based = ap (λ (b : Base S). b.index) same.base ∙ is.based;
    bounds = is.bounds;
  }

  one_turn : LawfulMachine m → (k : ℕ) (left : List (Message C)) (item : List ℕ) (old new : RaftView S C) (outs : List IoEvent) (a : Raft C) → Shows k old a
      → HadCome c (log_actors m n) Shows Keeps CarriesMessage left item → TurnIs m n c item old new outs → Turned c (log_actors m n) Shows Keeps CarriesMessage k left a new outs
  one_turn law k left item old new outs a is come (stays_so same none) = record {
    actor = a;
    after = [];
    sent = [];
    takes = took_none;
    shows = shows_same k old new a same is;
    sends = sends_frames outs [] [] none tt;
  }
  one_turn law k left item old new outs a is come (takes_it t) = taken law k left item old new outs a is t come t.handed refl (t.means a is.stands)

  module _ (law : LawfulMachine m) (runs : RunsServers m n c) where
    joins : Joins c (log_actors m n) Shows Keeps CarriesMessage
    joins = record {
      same_name = λ j k. elim (eqb_tells j k) [ inl e ↦ inl e.1 | inr e ↦ inr e.1 ];
      is_one = runs.member;
      first = λ k v from. subst (λ p. Stores m p (started nothing_persistent)) (sym (runs.part_is v)) (runs.first k v from);
      reads = runs.reads;
      shows = λ k store v q from keeps. shows_started m n k v q (runs.place k store v from) (runs.starts k store v from) (subst (λ p. Stores m p (started q)) (runs.part_is v) keeps);
      keeps = λ k v a is. subst (λ p. Stores m p (started (persistent_of a))) (sym (runs.part_is v)) (keeps_stored m n k v a is);
      turns = λ k left item old new outs a is reached turn come. one_turn law k left item old new outs a is come (runs.turn item old new outs turn);
    }

    -- ---- the one list

    module _ (past : Past ℕ) (j : Joined c (log_actors m n) Shows CarriesMessage past) where
      W : RefinesWorld (log_actors m n) (log_abstraction m n) stopped j.before j.last
      W = log_world m n j.before j.last j.execution

      list : List (Entry C)
      list = (st m law n W.events W.past W.world W.reach).list

      was_so : (k : ℕ) (a : Raft C) → OccursIn j.last.told (told_by (log_actors m n) k a) → (l : ℕ) × At W.past W.world l k a
      was_so k a told =
          let t = told_by (log_actors m n) k a in
          let w = W.told told.0 told.0 t t (omega arith) told.1 told.1 in
          (w.first, record { world = w.first_at.world; world_is = w.first_at.world_is; here = w.first_at.here })

      agrees_so : (k : ℕ) (a : Raft C) → OccursIn j.last.told (told_by (log_actors m n) k a) → Agree a.commit a.log list
      unfolding list
      agrees_so k a told = let w = was_so k a told in (chain m law n W.events W.past W.world W.reach).agrees w.0 k a w.1

      admitted_so : (k : ℕ) (a : Raft C) → OccursIn j.last.told (told_by (log_actors m n) k a) → Admitted m (commands a.log)
      admitted_so k a told = let w = was_so k a told in log_commands m law n W.events W.past W.world W.reach w.0 k a w.1

      pub one_list : OneListOfLives m c.Turn past
      one_list = record {
        list = list;
        lines = λ k line had.
            let r = j.outputs k (LineReported line) tt had in
            record {
              item = r.item;
              old = r.old;
              new = r.new;
              outs = r.outs;
              turn = r.turn;
              among = r.among;
              before = r.before;
              after = r.after;
              shows_before = r.shows_before.stands;
              shows_after = r.shows_after.stands;
              agrees_before = agrees_so k r.before r.such_before;
              agrees_after = agrees_so k r.after r.such_after;
              admitted_before = admitted_so k r.before r.such_before;
              admitted_after = admitted_so k r.after r.such_after;
            };
      }

    -- what such processes report is of one list
    pub lives_keep_one_list : (past : Past ℕ) (now : ℕ → Process (RaftView S C)) → Lived c past now → OneListOfLives m c.Turn past
    lives_keep_one_list past now lived =
        one_list past (joined c (log_actors m n) Shows Keeps CarriesMessage joins past now lived)
