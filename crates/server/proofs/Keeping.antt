-- What a server keeps of its log.
use Rattle.std.proofs.Common.{◌≡◌, ◌∙◌, ℕ, ◌++◌, ◌∷◌, [], Result, Ok, Err, ap, arith, length, length-append, subst, sym}
use Rattle.std.specs.Prelude.{OnOk}
use Rattle.rows.specs.declared.command.Command.{Command}
use Rattle.rows.specs.declared.refusal.Refusal.{Refusal}
use Rattle.fsm_model.specs.Words.{State}
use Rattle.raft_model.specs.Rafts.{Raft, extended}
use Rattle.raft_snapshot.specs.Changes.{TermsTell}
use Rattle.raft_snapshot.proofs.TermsOfMerges.{tells_same, tells_more}
use Rattle.raft_core.specs.RaftView.{RaftView, SameRaft}
use Rattle.raft_core.specs.StoredParts.{KeepsLog}
use Rattle.raft_core.specs.Tickets.{IsTicket}
use Rattle.server.specs.Keeping.{IsLastEntry}

-- of one that is the same
pub same_keeps : (old new : RaftView State Command) → SameRaft old new → KeepsLog old new
same_keeps old new same = record {
  base = same.base;
  entries = subst (λ (s : Raft Command). TermsTell old.server.commit old.server.log s.log) (sym same.server) (tells_same old.server.commit old.server.log);
}

-- of one that was the same before
pub keeps_from : (old mid new : RaftView State Command) → SameRaft old mid → KeepsLog mid new → KeepsLog old new
keeps_from old mid new same keeps = record {
  base = keeps.base ∙ same.base;
  entries = subst (λ (s : Raft Command). TermsTell s.commit s.log new.server.log) same.server keeps.entries;
}

-- of one whose log is longer by a command
pub longer_keeps : (old new : RaftView State Command) (c : Command) → new.base ≡ old.base → new.server ≡ extended old.server c → KeepsLog old new
longer_keeps old new c base server = record {
  base = base;
  entries =
      subst (λ (s : Raft Command). TermsTell old.server.commit old.server.log s.log) (sym server)
      (tells_more old.server.commit old.server.log (record { term = old.server.term; command = c } ∷ []));
}

-- a ticket is that of the last entry
pub last_by_ticket : (s : Raft Command) (c : Command) (index term : ℕ) → IsTicket s c index term → IsLastEntry s c
last_by_ticket s c index term is = record {
  before = is.before;
  log = is.log ∙ ap (λ n. is.before ++ record { term = n; command = c } ∷ []) is.own;
  place = ap length is.log ∙ length-append is.before (record { term = term; command = c } ∷ []) ∙ omega arith;
  own = omega arith;
}

-- whatever was answered
pub on_ok : {P : Type 0} (r : Result (Unit {0}) Refusal) → P → OnOk r P
on_ok (Ok u) p = p
on_ok (Err cause) p = tt
