-- Such processes run servers of the log.
use Rattle.std.proofs.Common.{◌≡◌, ◌∙◌, inl, inr, ℕ, suc, ◌+◌, Bool, true, false, Option, Some, None, Result, Ok, Err, if◌then◌else◌, List, [], ◌∷◌, ◌++◌, drop, refl, sym, ap, subst, arith}
use Rattle.std.specs.Prelude.{codes, decimal, bytes_eq}
use Rattle.std.proofs.lemmas.List.{append_cancel_left}
use Rattle.rows.specs.Versions.{newest}
use Rattle.rows.specs.declared.refusal.Refusal.{Refusal}
use Rattle.rows.specs.declared.refusal.Refusal.TheVariants as refusals
use Rattle.fields_model.specs.Format.{◌>>=◌, IsBytes, whole, number, spelled}
use Rattle.fields_model.proofs.FormatLaws.{number_lawful}
use Rattle.fields_model.proofs.WholeTexts.{whole_found, no_text_begins_another}
use Rattle.machine_model.specs.MachineSpec.{MachineSpec, LawfulMachine}
use Rattle.wire.specs.Frames.{Frame, message_at}
use Rattle.wire.specs.Messages.{Message}
use Rattle.wire.proofs.Framing.{message_found}
use Rattle.raft_model.specs.Logs.{term_at, commands}
use Rattle.raft_model.specs.Rafts.{Raft, is_up}
use Rattle.raft_model.specs.Steps.{Timeout, Beat, Propose, Compact}
use Rattle.raft_snapshot.specs.Bases.{IsBaseOf}
use Rattle.raft_snapshot.specs.Stored.{Stored}
use Rattle.raft_snapshot.specs.Texts.{IsStableText, stable}
use Rattle.raft_core.specs.Inputs.{Handed, Bytes, Own}
use Rattle.raft_core.specs.RaftView.{RaftView, SameRaft}
use Rattle.raft_core.specs.Refusals.{refusal, frame_refusal, unreadable}
use Rattle.raft_core.specs.Steps.{Stores}
use Rattle.raft_core.specs.StoredParts.{stored_part}
use Rattle.journal.specs.Events.{IoEvent, LineReported}
use Rattle.journal.specs.Records.{wal_record}
use Rattle.journal.specs.Journals.{IsJournal}
use Rattle.processes.specs.Logs.{nothing_persistent, started}
use Rattle.process_lives.specs.Lives.{IsReadAs}
use Rattle.process_lives.specs.Servers.{AreFrames, MayMean, TurnIs, stays_so, takes_it, RunsServers}
use Rattle.example_bank_server.specs.Items.{input_of, is_proposal}
use Rattle.example_bank_server.specs.Lines.{refused_line, proposal_line, ticket_line}
use Rattle.example_bank_server.specs.Lives.{header_text, IsFrameItem, node_code}
use Rattle.raft_records.specs.Records.{raft_replay}
use Rattle.raft_records.specs.Starts.{IsStored, new_part}
use Rattle.example_bank_server.specs.Turns.{IsTaken, Turn, taken, proposed, refused, shown, told, sends}

frames_are : (frames : List Frame) → AreFrames (sends frames) frames
frames_are [] = tt
frames_are (frame ∷ frames) = (refl, frames_are frames)

module _ {S C : Type 0} (m : MachineSpec S C) (law : LawfulMachine m) (words : S → List ℕ) (reason : Refusal → Option (List ℕ)) (n : ℕ) where
  abbrev Means : List ℕ → Handed C → Type 0
  Means item h = MayMean m n (node_code m words reason n) item h

  -- ---- what an item is

  of_log : (b : Bool) (o : Option Refusal) (x : Refusal) → (if b then o else Some x) ≡ None → o ≡ None
  of_log true o x e = e
  of_log false o x e = let no : Some x ≡ None = e in absurd (cc no)

  read_from : (size me : ℕ) (item : List ℕ) (r : Result (Message S C) ℕ) → message_at m item ≡ r → IsBytes item → unreadable {S = S} {C = C} size me r ≡ None → IsFrameItem m item
  read_from size me item (Ok message) is bytes none = (message, message_found m law item message bytes is)
  read_from size me item (Err place) is bytes none = let no : Some (refusals.Frame place) ≡ None = none in absurd (cc no)

  frame_item : (size me : ℕ) (s : Raft C) (item : List ℕ) → IsBytes item → refusal m size me s (Bytes item) ≡ None → IsFrameItem m item
  frame_item size me s item bytes none =
      read_from size me item (message_at m item) refl bytes (of_log (is_up s.mode) (frame_refusal m size me item) refusals.Down none)

  own_of : (t b c : Bool) (item : List ℕ) (h : Handed C) → (if t then Own Timeout else if b then Own Beat else if c then Own Compact else Bytes item) ≡ h → ((bytes : List ℕ) → h ≡ Bytes bytes → bytes ≡ item → IsFrameItem m item) → Means item h
  own_of true b c item h e frame = subst (Means item) e tt
  own_of false true c item h e frame = subst (Means item) e tt
  own_of false false true item h e frame = subst (Means item) e tt
  own_of false false false item h e frame = subst (Means item) e (refl, frame item (sym e) refl)

  proposal_of : (r : Result C ℕ) (item text : List ℕ) (h : Handed C) → whole (m.commands newest) text ≡ r → IsBytes text → (r >>= λ command. Ok (Own (Propose command))) ≡ Ok h → Means item h
  proposal_of (Ok command) item text h is bytes e =
      let same : Own (Propose command) ≡ h = cc e in
      subst (Means item) same (whole_found (m.commands newest) (law.commands_lawful newest) text command bytes is).0
  proposal_of (Err place) item text h is bytes e = let no : Err place ≡ Ok h = e in absurd (cc no)

  meant : (b : Bool) (item : List ℕ) (h : Handed C) → IsBytes item → IsBytes (drop 1 item)
      → (if b then (whole (m.commands newest) (drop 1 item) >>= λ command. Ok (Own (Propose command))) else Ok (input_of item)) ≡ Ok h
      → ((bytes : List ℕ) → h ≡ Bytes bytes → bytes ≡ item → IsFrameItem m item) → Means item h
  meant true item h bytes behind e frame = proposal_of (whole (m.commands newest) (drop 1 item)) item (drop 1 item) h refl behind e
  meant false item h bytes behind e frame =
      let same : input_of item ≡ h = cc e in
      own_of (bytes_eq item (codes "T")) (bytes_eq item (codes "B")) (bytes_eq item (codes "C")) item h same frame

  bytes_behind : (item : List ℕ) → IsBytes item → IsBytes (drop 1 item)
  bytes_behind [] bytes i = bytes i
  bytes_behind (x ∷ item) bytes i = bytes (suc i)

  -- ---- turns

  takes_so : (item : List ℕ) (old new : RaftView S C) (outs : List IoEvent) (frames : List Frame) → AreFrames outs frames → IsTaken m item old new frames → TurnIs m n (node_code m words reason n) item old new outs
  takes_so item old new outs frames are t = takes_it (record {
    handed = t.handed;
    means = λ s r. meant (is_proposal item) item t.handed t.bytes (bytes_behind item t.bytes) t.is
        (λ bytes is same. frame_item old.size old.me s item t.bytes (subst (λ h. refusal m old.size old.me s h ≡ None) (is ∙ ap (λ b. Bytes b) same) (t.admitted s r)));
    frames = frames;
    step = t.step;
    admitted = t.admitted;
    same = t.same;
    based = t.covers;
    outs_are = are;
  })

  one_line : (line : List ℕ) (outs : List IoEvent) → outs ≡ LineReported line ∷ [] → AreFrames outs []
  one_line line outs is = subst (λ l. AreFrames l []) (sym is) tt

  same_view : (old new : RaftView S C) → new ≡ old → SameRaft old new
  same_view old new same = record { me = ap (λ v. v.me) same; size = ap (λ v. v.size) same; base = ap (λ v. v.base) same; server = ap (λ v. v.server) same }

  turn_is : (item : List ℕ) (old new : RaftView S C) (outs : List IoEvent) → Turn m words reason item old new outs → TurnIs m n (node_code m words reason n) item old new outs
  turn_is item old new outs (taken frames other no_proposal no_question t is) = takes_so item old new outs frames (subst (λ l. AreFrames l frames) (sym is) (frames_are frames)) t
  turn_is item old new outs (proposed command index term is whole t ticket line) = takes_so item old new outs [] (one_line (ticket_line index term) outs line) t
  turn_is item old new outs (refused cause other same lacks may line) = stays_so same (one_line (refused_line reason cause) outs line)
  turn_is item old new outs (shown text is same shows line) = stays_so (same_view old new same) (one_line text outs line)
  turn_is item old new outs (told index term word is whole same word_is line) = stays_so (same_view old new same) (one_line (proposal_line index term word) outs line)

  -- ---- stores

  spells_m : spelled 1 109 ≡ 109 ∷ []
  unfolding spelled
  spells_m = refl

  -- a journal's first line is no text of the old form
  no_old_text : (k : ℕ) (file : List ℕ) (part : Stored S C) → IsStableText m part (header_text n k ++ file) → ⊥
  no_old_text k file part (version, fits, is) =
      let byte = number 1 0 256 in
      let behind = (codes "inutebarn journal 1 bank_node " ++ (decimal (k + 1) ++ (codes " of " ++ (decimal n ++ codes "\n")))) ++ file in
      let front : byte.text 109 ++ behind ≡ header_text n k ++ file = ap (λ l. l ++ behind) spells_m in
      let same : version ≡ 109 = no_text_begins_another byte (number_lawful 1 0 256 (omega arith) (omega arith)) version 109 ((stable m version).text part) behind
      (omega arith, omega (arith, fits.known.1)) (omega arith, omega arith) (sym is ∙ sym front) in
      omega (arith, same, fits.known.1)

  -- what the store has is what its records stand for
  reads_so : (k : ℕ) (file : List ℕ) (v : RaftView S C) → IsStored m (header_text n k) (Some (header_text n k ++ file)) (stored_part v) → IsReadAs (raft_replay m) file (stored_part v)
  reads_so k file v (inl (behind, is, kept)) =
      let same : file ≡ behind = append_cancel_left (header_text n k) file behind is in
      record { payloads = kept.payloads; tail = kept.tail; journal = subst (λ l. IsJournal wal_record l kept.payloads kept.tail) (sym same) kept.journal; part_is = kept.part_is }
  reads_so k file v (inr old) = absurd (no_old_text k file (stored_part v) old)

  nothing_covered : IsBaseOf m (record { index = 0; term = 0; state = m.empty }) []
  unfolding term_at commands
  nothing_covered = record { index = refl; term = refl; state = refl }

  first_so : (k : ℕ) (v : RaftView S C) → stored_part v ≡ new_part m → Stores m (stored_part v) (started nothing_persistent)
  first_so k v is = subst (λ p. Stores m p (started nothing_persistent)) (sym is) (record { term = refl; vote = refl; log = record { covered = []; fits = nothing_covered; is = refl }; covered = refl })

  pub runs_servers : RunsServers m n (node_code m words reason n)
  runs_servers = record {
    part_is = λ v. refl;
    turn = turn_is;
    member = λ k store v from. from.member.1;
    place = λ k store v from. from.place;
    starts = λ k store v from. from.server;
    first = λ k v from. first_so k v from.stored;
    reads = λ k file v from. reads_so k file v from.stored;
  }
