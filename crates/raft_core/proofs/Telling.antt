-- A step keeps the log as far as terms tell.
use Rattle.std.proofs.Common.{◌≡◌, ◌∙◌, ℕ, ◌≤◌, Bool, true, false, nat_lt, cond, leb, not, Ok, Option, Some, None, List, length, refl, sym, ap, subst, arith}
use Rattle.std.proofs.lemmas.Bool.{leb-false}
use Rattle.rows.specs.declared.actor.Actor.{Actor}
use Rattle.rows.specs.declared.actor.Actor.TheVariants as actors
use Rattle.rows.specs.declared.refusal.Refusal.TheVariants as refusals
use Rattle.machine_model.specs.MachineSpec.{MachineSpec}
use Rattle.rows.specs.declared.worker.WorkerRequest.{WorkerRequest}
use Rattle.rows.specs.declared.worker.WorkerRequest.TheVariants as requests
use Rattle.rows.specs.declared.worker.WorkerResponse.{WorkerResponse}
use Rattle.rows.specs.declared.worker.WorkerResponse.TheVariants as responses
use Rattle.wire.specs.Messages.{Message as WireMessage, kind_of, is_of_log, request_kind, response_kind}
use Rattle.wire.specs.Frames.{Frame, MessageFits, message_text}
use Rattle.wire.specs.declared.body.Body.{Body}
use Rattle.wire.specs.declared.body.Body.TheVariants as bodies
use Rattle.raft_model.specs.Rafts.{Raft, RaftTurn, Follower, term_observed, is_leader}
use Rattle.raft_model.specs.Messages.{Message}
use Rattle.raft_model.specs.Steps.{Input, Arrives, Timeout, Beat, Propose, Compact, Crash, Restart, step}
use Rattle.raft_snapshot.specs.Bases.{Base}
use Rattle.raft_snapshot.specs.Changes.{TermsTell}
use Rattle.raft_snapshot.specs.Prefixes.{takes_snapshot}
use Rattle.raft_snapshot.specs.Compacted.{IsCompacted, base_after}
use Rattle.raft_snapshot.proofs.TermsOfMerges.{tells_same}
use Rattle.raft_snapshot.proofs.TermsOfSteps.{step_tells}
use Rattle.raft_core.specs.Frames.{log_message, base_of}
use Rattle.raft_core.specs.Inputs.{Handed, Bytes, Own}
use Rattle.raft_core.specs.RaftView.{RaftView}
use Rattle.raft_core.specs.Refusals.{message_fault, misdirected}
use Rattle.raft_core.specs.StoredParts.{KeepsLog, MayKeepLog}
use Rattle.raft_core.specs.Inner.Moves.{Moves, MovesBy, MovesFrame, MovesMessage, Shows, WasRead, IsReadIn, base_left}

module _ {S C : Type 0} (m : MachineSpec S C) where
  same_keeps : (old new : RaftView S C) → new ≡ old → KeepsLog old new
  same_keeps old new is = subst (KeepsLog old) (sym is) (record { base = refl; entries = tells_same old.server.commit old.server.log })

  -- a snapshot that is taken over covers more than the one before
  base_case : (old : RaftView S C) (term : ℕ) (snapshot new : Base S) (s : Raft C) (x y z : Bool) → s.commit ≡ old.server.commit → IsCompacted old.base old.server
      → new ≡ cond (cond x false (cond y false (not z))) snapshot old.base → leb snapshot.index s.commit ≡ z → new.index ≡ old.base.index → new ≡ old.base
  base_case old term snapshot new s true y z commit shown is low index = is
  base_case old term snapshot new s false true z commit shown is low index = is
  base_case old term snapshot new s false false true commit shown is low index = is
  base_case old term snapshot new s false false false commit shown is low index =
      absurd (omega (arith, leb-false snapshot.index s.commit low, commit, shown.covered, index, ap (λ (b : Base S). b.index) is))

  met_commit : (b : Bool) (s t : Raft C) → t.commit ≡ s.commit → (cond b t s).commit ≡ s.commit
  met_commit true s t e = e
  met_commit false s t e = refl

  left_same : (old : RaftView S C) (new : Base S) (body : Body S C) → IsCompacted old.base old.server → new ≡ base_left old body → new.index ≡ old.base.index → new ≡ old.base
  left_same old new (bodies.VoteRequest v) shown is index = is
  left_same old new (bodies.VoteReply v) shown is index = is
  left_same old new (bodies.Append a) shown is index = is
  left_same old new (bodies.AppendReply r) shown is index = is
  left_same old new (bodies.Install i) shown is index =
      let s = term_observed i.head.term old.server in
      base_case old i.head.term (base_of i) new s (nat_lt i.head.term s.term) (is_leader s.mode) (leb i.head.index s.commit)
      (met_commit (nat_lt old.server.term i.head.term) old.server (record old.server { term = i.head.term; vote = None; known = None; mode = Follower }) refl) shown is refl index
  left_same old new (bodies.InstallReply r) shown is index = is
  left_same old new (bodies.Request a) shown is index = is
  left_same old new (bodies.Response a) shown is index = is
  left_same old new (bodies.Register a b) shown is index = is
  left_same old new bodies.Heartbeat shown is index = is
  left_same old new bodies.Pull shown is index = is
  left_same old new (bodies.List a b) shown is index = is
  left_same old new (bodies.Report a) shown is index = is
  left_same old new (bodies.Told a b) shown is index = is

  module _ (old new : RaftView S C) (before after : List Frame) (reaches : old.server.commit ≤ length old.server.log) (shown : IsCompacted old.base old.server) (now : IsCompacted new.base new.server) where
    moved : (left : Base S) (input : Input C) → Moves m left old input new before after → (new.base.index ≡ old.base.index → new.base ≡ old.base) → new.base.index ≡ old.base.index → KeepsLog old new
    moved left input moves same index =
        let server = moves.taken.server in
        let covered : moves.turn.server.covered ≡ old.server.covered = ap (λ (s : Raft C). s.covered) (sym server) ∙ now.count ∙ index ∙ sym shown.count in
        record {
          base = same index;
          entries = subst (λ (s : Raft C). TermsTell old.server.commit old.server.log s.log) (sym server)
              (step_tells m old.size old.me old.server reaches (omega (arith, shown.count, shown.covered)) input moves.turn moves.step covered);
        }

    by_base : (input : Input C) → Moves m old.base old input new before after → new.base.index ≡ old.base.index → KeepsLog old new
    by_base input moves = moved old.base input moves (λ _. moves.taken.base)

    pub may_keep : (h : Handed C) → IsReadIn m h → MovesBy m old h new before after → MayKeepLog h old new
    may_keep (Bytes bytes) was moves =
        let move = moves was.read was.fits was.text was.message was.shows in
        moved (base_left old was.read.body) (Arrives was.message) move (left_same old new.base was.read.body shown move.taken.base)
    may_keep (Own Beat) was moves = λ _. same_keeps old new moves.0
    may_keep (Own Compact) was moves = tt
    may_keep (Own (Arrives message)) was moves = by_base (Arrives message) moves
    may_keep (Own Timeout) was moves = by_base Timeout moves
    may_keep (Own (Propose command)) was moves = by_base (Propose command) moves
    may_keep (Own Crash) was moves = by_base Crash moves
    may_keep (Own Restart) was moves = by_base Restart moves

  -- ---- a message in which nothing is wrong

  no_request : (r : WorkerRequest) → is_of_log (request_kind r) ≡ true → ⊥
  no_request requests.Take e = absurd cc
  no_request (requests.Submit a) e = absurd cc
  no_request (requests.Finish a b c) e = absurd cc
  no_request (requests.Nack a b) e = absurd cc

  no_response : (r : WorkerResponse) → is_of_log (response_kind r) ≡ true → ⊥
  no_response (responses.Delivered a) e = absurd cc
  no_response (responses.PlanResult a) e = absurd cc
  no_response (responses.Refused a b) e = absurd cc

  -- a body says a message between these two
  record Said (from to : ℕ) (body : Body S C) : Type 0 where
    pub message : Message C
    pub said : log_message m message.from message.to body ≡ Some message
    pub from_is : message.from ≡ from
    pub to_is : message.to ≡ to

  says : (from to : ℕ) (body : Body S C) → is_of_log (kind_of body) ≡ true → Said from to body
  says from to (bodies.VoteRequest v) e = record { message = _; said = refl; from_is = refl; to_is = refl }
  says from to (bodies.VoteReply v) e = record { message = _; said = refl; from_is = refl; to_is = refl }
  says from to (bodies.Append a) e = record { message = _; said = refl; from_is = refl; to_is = refl }
  says from to (bodies.AppendReply r) e = record { message = _; said = refl; from_is = refl; to_is = refl }
  says from to (bodies.Install i) e = record { message = _; said = refl; from_is = refl; to_is = refl }
  says from to (bodies.InstallReply r) e = record { message = _; said = refl; from_is = refl; to_is = refl }
  says from to (bodies.Request r) e = absurd (no_request r e)
  says from to (bodies.Response r) e = absurd (no_response r e)
  says from to (bodies.Register a b) e = absurd cc
  says from to bodies.Heartbeat e = absurd cc
  says from to bodies.Pull e = absurd cc
  says from to (bodies.List a b) e = absurd cc
  says from to (bodies.Report a) e = absurd cc
  says from to (bodies.Told a b) e = absurd cc

  to_client : (b : Bool) → cond b (Some (refusals.Frame 3)) (Some (refusals.Frame 2)) ≡ None → ⊥
  to_client true e = absurd cc
  to_client false e = absurd cc

  addressed : (n me : ℕ) (from to : Actor) → misdirected n me from to ≡ None → (f t : ℕ) × (from ≡ actors.Server f) × (to ≡ actors.Server t)
  addressed n me (actors.Server f) (actors.Server t) e = (f, t, refl, refl)
  addressed n me (actors.Server f) (actors.Client c) e = absurd (to_client (nat_lt f n) e)
  addressed n me (actors.Client c) to e = absurd cc

  fault_case : (b : Bool) (n me : ℕ) (from to : Actor) → cond b (misdirected n me from to) (Some (refusals.Frame 1)) ≡ None → misdirected n me from to ≡ None
  fault_case true n me from to e = e
  fault_case false n me from to e = absurd cc

  pub was_read : (n me : ℕ) (bytes : List ℕ) (read : WireMessage S C) → MessageFits m read → bytes ≡ message_text m read → is_of_log (kind_of read.body) ≡ true → message_fault n me read ≡ None → WasRead m bytes
  was_read n me bytes read fits text of_log right =
      let a = addressed n me read.from read.to (fault_case (is_of_log (kind_of read.body)) n me read.from read.to right) in
      let said = says a.0 a.1 read.body of_log in
      record {
        read = read;
        fits = fits;
        text = text;
        message = said.message;
        shows = record {
          from = a.2 ∙ ap actors.Server (sym said.from_is);
          to = a.3 ∙ ap actors.Server (sym said.to_is);
          said = said.said;
        };
      }

  kind_case : (b : Bool) (n me : ℕ) (from to : Actor) → cond b (misdirected n me from to) (Some (refusals.Frame 1)) ≡ None → b ≡ true
  kind_case true n me from to e = refl
  kind_case false n me from to e = absurd cc

  -- so does a message that came, and in which nothing is wrong
  pub message_keeps : (old new : RaftView S C) (before after : List Frame) → old.server.commit ≤ length old.server.log → IsCompacted old.base old.server → IsCompacted new.base new.server
      → (read : WireMessage S C) → message_fault old.size old.me read ≡ None → MovesMessage m old read new before after → new.base.index ≡ old.base.index → KeepsLog old new
  message_keeps old new before after reaches shown now read right moves =
      let of_log = kind_case (is_of_log (kind_of read.body)) old.size old.me read.from read.to right in
      let a = addressed old.size old.me read.from read.to (fault_case (is_of_log (kind_of read.body)) old.size old.me read.from read.to right) in
      let said = says a.0 a.1 read.body of_log in
      let move = moves said.message (record { from = a.2 ∙ ap actors.Server (sym said.from_is); to = a.3 ∙ ap actors.Server (sym said.to_is); said = said.said }) in
      moved old new before after reaches shown now (base_left old read.body) (Arrives said.message) move (left_same old new.base read.body shown move.taken.base)
