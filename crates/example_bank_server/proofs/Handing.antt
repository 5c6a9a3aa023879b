-- What the node makes of an item.
use Rattle.std.proofs.Common.{◌≡◌, ◌≢◌, ◌∙◌, ◌+◌, ◌++◌, ◌∷◌, [], ℕ, arith, inl, None, Bool, true, false, List, Option, Some, Result, Ok, Err, OnOk, ap, append_assoc, drop, refl, subst, sym, take}
use Rattle.std.specs.Prelude.{IfSome, bytes_eq, codes, slice_get, if◌then◌else◌}
use Rattle.std.proofs.lemmas.List.{map-append, take_more}
use Rattle.std.proofs.lemmas.Slice.Eq.{bytes_eq-Decides}
use Rattle.std.proofs.lemmas.Option.{get_or_from_slice_get, slice_get_within}
use Rattle.rows.specs.Versions.{newest}
use Rattle.rows.specs.declared.refusal.Refusal.{Refusal}
use Rattle.rows.specs.declared.refusal.Refusal.TheVariants as refusals
use Rattle.fields_model.specs.Format.{◌>>=◌, IsBytes, Refuses, whole}
use Rattle.fields_model.proofs.WholeTexts.{whole_only}
use Rattle.machine_model.specs.MachineSpec.{MachineSpec, LawfulMachine}
use Rattle.wire.specs.Frames.{Frame, sized}
use Rattle.raft_model.specs.Rafts.{Raft, extended}
use Rattle.raft_model.specs.Steps.{Beat, Compact, Propose, Timeout}
use Rattle.raft_core.specs.Inputs.{Bytes, Handed, Own}
use Rattle.raft_core.specs.RaftView.{RaftView, SameNumber, SameRaft}
use Rattle.raft_core.specs.Refusals.{IsRefused, Stays, refusal, refusal_by}
use Rattle.raft_core.specs.Steps.{RefinesRaft, Takes}
use Rattle.raft_core.specs.StoredParts.{KeepsLog, MayKeepLog}
use Rattle.raft_core.specs.Tickets.{IsTicket, proposal_status_of}
use Rattle.raft_core.specs.declared.ticket.ProposalStatus.{ProposalStatus}
use Rattle.raft_snapshot.specs.Bases.{Base}
use Rattle.raft_snapshot.specs.Changes.{changed_part, log_change}
use Rattle.raft_snapshot.specs.Compacted.{IsCompacted}
use Rattle.raft_snapshot.specs.Stored.{Stored}
use Rattle.raft_snapshot.specs.Texts.{front, stable_at, stable_text}
use Rattle.raft_snapshot.proofs.TextLaws.{front_lawful}
use Rattle.journal.specs.Events.{IoEvent, BytesSent, LineReported}
use Rattle.raft_records.specs.Remembering.{Remembers}
use Rattle.example_bank_server.specs.Inner.Refusals.{is_memory}
use Rattle.example_bank_server.specs.Items.{asked, input_of, is_proposal, is_question, ticket}
use Rattle.example_bank_server.specs.Lines.{Shows, refused_line, ticket_line, proposal_line, proposal_word}
use Rattle.raft_records.specs.Records.{changed_by, raft_replay, part_read}
use Rattle.example_bank_server.specs.Turns.{IsDeclined, IsTaken, MayRefuse, Turn, at_fault, by_server, no_ticket, proposed, refused, sends, shown, taken, told}
use Rattle.raft_records.specs.declared.delta.Before.{Before}

-- ---- frames, one after the other

pub sent_more : (frames : List Frame) (i : ℕ) (frame : Frame) (old mid new : List IoEvent) → slice_get frames i ≡ Some frame → mid ≡ old ++ sends (take i frames)
    → new ≡ mid ++ BytesSent (sized frame.bytes) ∷ [] → new ≡ old ++ sends (take (i + 1) frames)
sent_more frames i frame old mid new at first second =
    let event : Frame → IoEvent = λ f. BytesSent (sized f.bytes) in
    let before = sends (take i frames) in
    let one : take (i + 1) frames ≡ take i frames ++ frame ∷ [] =
    take_more frames i frame (slice_get_within frames i frame at) ∙ ap (λ z. take i frames ++ z ∷ []) (get_or_from_slice_get frames i frame frame at) in
    let more : sends (take (i + 1) frames) ≡ before ++ BytesSent (sized frame.bytes) ∷ [] = ap sends one ∙ map-append event (take i frames) (frame ∷ []) in
    second ∙ ap (λ l. l ++ BytesSent (sized frame.bytes) ∷ []) first ∙ append_assoc old before (BytesSent (sized frame.bytes) ∷ []) ∙ ap (λ l. old ++ l) (sym more)

-- ---- answers of calls

pub on_ok_both : {T E : Type 0} (r : Result T E) {P Q R : Type 0} → (P → Q → R) → OnOk r P → OnOk r Q → OnOk r R
on_ok_both (Ok x) f p q = f p q
on_ok_both (Err e) f p q = tt

-- ---- refusals

not_memory : (cause : Refusal) → is_memory cause ≡ false → cause ≢ refusals.NoMemory
not_memory cause is same = let both : false ≡ true = sym is ∙ ap is_memory same in cc both

same_view : {S C : Type 0} (old new : RaftView S C) → new ≡ old → SameRaft old new
same_view old new same = record { me = ap (λ v. v.me) same; size = ap (λ v. v.size) same; base = ap (λ v. v.base) same; server = ap (λ v. v.server) same }

pub question_is_other : (item : List ℕ) → is_question item ≡ true → item ≢ codes "S"
question_is_other item is same = let both : false ≡ true = sym (ap is_question same) ∙ is in cc both

module _ {S C : Type 0} (m : MachineSpec S C) (item : List ℕ) where
  abbrev proposal_of : Result C ℕ → Result (Handed C) ℕ
  proposal_of read = read >>= λ command. Ok (Own (Propose command))

  proposal_asks : (text : List ℕ) (read : Result C ℕ) → is_proposal item ≡ true → text ≡ drop 1 item → whole (m.commands newest) text ≡ read → asked m item ≡ proposal_of read
  proposal_asks text read is behind reads =
      let whole_is : whole (m.commands newest) (drop 1 item) ≡ read = subst (λ t. whole (m.commands newest) t ≡ read) behind reads in
      let chosen : asked m item ≡ proposal_of (whole (m.commands newest) (drop 1 item)) =
      ap (λ b. if b then proposal_of (whole (m.commands newest) (drop 1 item)) else Ok (input_of item)) is in
      chosen ∙ ap proposal_of whole_is

  other_asks : is_proposal item ≡ false → asked m item ≡ Ok (input_of item)
  other_asks is = ap (λ b. if b then proposal_of (whole (m.commands newest) (drop 1 item)) else Ok (input_of item)) is

  pub read_declined : (text : List ℕ) (view : RaftView S C) (cause : Refusal) → is_proposal item ≡ true → text ≡ drop 1 item
      → Refuses (Unit {0}) cause (whole (m.commands newest) text) → IsDeclined m item view view cause
  read_declined text view refusals.NoMemory is behind why = tt
  read_declined text view (refusals.Frame place) is behind why =
      (same_view view view refl, at_fault place (proposal_asks text (Err place) is behind why) refl)
  read_declined text view _ is behind why = absurd why

  pub ticket_declined : (text : List ℕ) (view : RaftView S C) (cause : Refusal) → is_question item ≡ true → text ≡ drop 1 item
      → Refuses ⊥ cause (whole ticket text) → IsDeclined m item view view cause
  ticket_declined text view refusals.NoMemory is behind why = tt
  ticket_declined text view (refusals.Frame place) is behind why =
      (same_view view view refl, no_ticket place is (subst (λ t. whole ticket t ≡ Err place) behind why) refl)
  ticket_declined text view _ is behind why = absurd why

  module _ (text : List ℕ) (command : C) (old new : RaftView S C) (is : is_proposal item ≡ true) (behind : text ≡ drop 1 item) (read : whole (m.commands newest) text ≡ Ok command) where
    proposal_taken : IsBytes item → SameNumber old new → (new.base ≡ old.base) × (new.server ≡ extended old.server command)
        → ((s : Raft C) (sent : List Frame) → RefinesRaft m old s → Takes m old s (Own (Propose command)) new sent sent) → IsTaken m item old new []
    proposal_taken bytes same shows takes = record {
      bytes = bytes;
      handed = Own (Propose command);
      is = proposal_asks text (Ok command) is behind read;
      step = λ s r. takes s [] r;
      admitted = λ s r. ap refusal_by (takes s [] r (Propose command) refl).step;
      same = same;
      covers = λ covered.
          let stays : new.server.covered ≡ old.server.covered = ap (λ (x : Raft C). x.covered) shows.1 in
          let base : new.base.index ≡ old.base.index = ap (λ (b : Base S). b.index) shows.0 in
          record { least = omega (arith, stays, base, covered); most = inl (omega (arith, stays, base, covered)) };
    }

    pub proposal_declined : (cause : Refusal) → SameRaft old new → ((s : Raft C) → RefinesRaft m old s → IsRefused m old.size old.me s (Own (Propose command)) cause) → IsDeclined m item old new cause
    proposal_declined refusals.NoMemory same why = tt
    proposal_declined _ same why = (same, by_server (Own (Propose command)) (proposal_asks text (Ok command) is behind read) why)

  module _ (h : Handed C) (old new : RaftView S C) (is : is_proposal item ≡ false) (of : h ≡ input_of item) where
    asks : asked m item ≡ Ok h
    asks = other_asks is ∙ ap Ok (sym of)

    step_taken : IsBytes item → (before after : List Frame) → before ≡ [] → ((s : Raft C) → RefinesRaft m old s → Takes m old s h new before after)
        → ((s : Raft C) → RefinesRaft m old s → refusal m old.size old.me s h ≡ None) → SameNumber old new → IsCompacted new.base new.server → IsTaken m item old new after
    step_taken bytes before after none takes admitted same shows = record {
      bytes = bytes;
      handed = h;
      is = asks;
      step = λ s r. subst (λ l. Takes m old s h new l after) none (takes s r);
      admitted = admitted;
      same = same;
      covers = λ _. record { least = omega (arith, shows.count); most = inl (omega (arith, shows.count)) };
    }

    pub step_declined : (cause : Refusal) → Stays h cause old new → ((s : Raft C) → RefinesRaft m old s → IsRefused m old.size old.me s h cause) → IsDeclined m item old new cause
    step_declined refusals.NoMemory same why = tt
    step_declined _ same why = (same_view old new same, by_server h asks why)

  parts : (old new : RaftView S C) (cause : Refusal) → cause ≢ refusals.NoMemory → IsDeclined m item old new cause → SameRaft old new × MayRefuse m item old cause
  parts old new refusals.NoMemory other why = absurd (other refl)
  parts old new _ other why = why

  -- ---- turns

  module _ (words : S → List ℕ) (reason : Refusal → Option (List ℕ)) where
    -- a turn that was made: what it sends and reports stands behind what was there
    abbrev pub Made : (old new : RaftView S C) (before after : List IoEvent) → Type 0
    Made old new before after = (more : List IoEvent) × Turn m words reason item old new more × (after ≡ before ++ more)

    pub shown_made : (view : RaftView S C) (line : List ℕ) (before after : List IoEvent) → item ≡ codes "S" → Shows m words view line
        → after ≡ before ++ LineReported line ∷ [] → Made view view before after
    shown_made view line before after is shows put = (LineReported line ∷ [], shown line is refl shows refl, put)

    pub told_made : (view : RaftView S C) (text line word : List ℕ) (at : ℕ × ℕ) (index term : ℕ) (standing : Option ProposalStatus) (before after : List IoEvent) → is_question item ≡ true
        → text ≡ drop 1 item → whole ticket text ≡ Ok at → index ≡ at.0 → term ≡ at.1 → ((s : Raft C) → RefinesRaft m view s → standing ≡ proposal_status_of s at.0 at.1)
        → word ≡ proposal_word standing → line ≡ proposal_line index term word → after ≡ before ++ LineReported line ∷ [] → Made view view before after
    told_made view text line word at index term standing before after is behind read index_is term_is stands word_is line_is put =
        let here = subst (λ t. whole ticket t ≡ Ok at) behind read in
        let shown_is : line ≡ proposal_line at.0 at.1 word = line_is ∙ ap (λ n. proposal_line n term word) index_is ∙ ap (λ n. proposal_line at.0 n word) term_is in (
          LineReported line ∷ [],
          told at.0 at.1 word is here refl (λ s r. word_is ∙ ap proposal_word (stands s r)) (ap (λ l. LineReported l ∷ []) shown_is),
          put,
        )

    pub refused_made : (old new : RaftView S C) (cause : Refusal) (before after : List IoEvent) → item ≢ codes "S" → is_memory cause ≡ false → IsDeclined m item old new cause
        → after ≡ before ++ LineReported (refused_line reason cause) ∷ [] → Made old new before after
    refused_made old new cause before after other is why put =
        let lacks = not_memory cause is in
        let p = parts old new cause lacks why in
        (LineReported (refused_line reason cause) ∷ [], refused cause other p.0 lacks p.1 refl, put)

    pub proposed_made : (old new : RaftView S C) (text line : List ℕ) (command : C) (index term : ℕ) (before after : List IoEvent) → is_proposal item ≡ true → text ≡ drop 1 item
        → whole (m.commands newest) text ≡ Ok command → IsBytes item → SameNumber old new → (new.base ≡ old.base) × (new.server ≡ extended old.server command)
        → ((s : Raft C) (sent : List Frame) → RefinesRaft m old s → Takes m old s (Own (Propose command)) new sent sent)
        → ((s : Raft C) → RefinesRaft m new s → IsTicket s command index term) → line ≡ ticket_line index term → after ≡ before ++ LineReported line ∷ [] → Made old new before after
    proposed_made old new text line command index term before after is behind read bytes same shows takes stands line_is put =
        let here = subst (λ t. whole (m.commands newest) t ≡ Ok command) behind read in (
          LineReported line ∷ [],
          proposed command index term is here (proposal_taken text command old new is behind read bytes same shows takes) stands (ap (λ l. LineReported l ∷ []) line_is),
          put,
        )

    pub taken_made : (h : Handed C) (old new : RaftView S C) (none frames : List Frame) (before after : List IoEvent) → item ≢ codes "S" → is_proposal item ≡ false → is_question item ≡ false
        → h ≡ input_of item → none ≡ [] → IsBytes item → ((s : Raft C) → RefinesRaft m old s → Takes m old s h new none frames)
        → ((s : Raft C) → RefinesRaft m old s → refusal m old.size old.me s h ≡ None) → SameNumber old new → IsCompacted new.base new.server → after ≡ before ++ sends frames → Made old new before after
    taken_made h old new none frames before after other no_proposal no_question of empty bytes takes admitted same shows put =
        (sends frames, taken frames other no_proposal no_question (step_taken h old new no_proposal of bytes none frames empty takes admitted same shows) refl, put)

-- of an item that is no Compact it is said how much of the log a step keeps
kept_by : {S C : Type 0} (t b c : Bool) (item : List ℕ) (old new : RaftView S C) → c ≢ true
    → MayKeepLog (if t then Own Timeout else if b then Own Beat else if c then Own Compact else Bytes item) old new → new.base.index ≡ old.base.index → KeepsLog old new
kept_by true b c item old new other may = may
kept_by false true c item old new other may = may
kept_by false false true item old new other may = absurd (other refl)
kept_by false false false item old new other may = may

pub kept_log : {S C : Type 0} (item : List ℕ) (old new : RaftView S C) → item ≢ codes "C" → MayKeepLog (input_of item) old new → new.base.index ≡ old.base.index → KeepsLog old new
kept_log item old new other may =
    kept_by (bytes_eq item (codes "T")) (bytes_eq item (codes "B")) (bytes_eq item (codes "C")) item old new (λ is. other ((bytes_eq-Decides item (codes "C")).0 is)) may

pub remembered : {S C : Type 0} (known : Option Before) (before : Before) (old : RaftView S C) → known ≡ Some before → IfSome known (λ b. Remembers b old) → Remembers before old
remembered known before old is all = subst (λ k. IfSome k (λ b. Remembers b old)) is all

-- ---- how it is saved

module _ {S C : Type 0} (m : MachineSpec S C) where
  pub change_saved : LawfulMachine m → (first now : Stored S C) (keep : ℕ) → (front (m.commands newest)).Fits (log_change now.term now.vote now.log keep)
      → changed_part first (log_change now.term now.vote now.log keep) ≡ Some now
      → (raft_replay m).after first ((front (m.commands newest)).text (log_change now.term now.vote now.log keep)) ≡ Some now
  change_saved law first now keep fits leads =
      let f = front (m.commands newest) in
      ap (changed_by first) (whole_only f (front_lawful (m.commands newest) (law.commands_lawful newest)) (log_change now.term now.vote now.log keep) fits) ∙ leads

  pub whole_saved : (now : Stored S C) → stable_at m (stable_text m newest now) ≡ Ok now → (raft_replay m).whole (stable_text m newest now) ≡ Some now
  whole_saved now read = ap part_read read
