-- What an Append does to a server, by cases.
use Rattle.std.proofs.Common.{◌≡◌, ℕ, ◌+◌, ◌-◌, ◌≤◌, ◌||◌, nat_le, nat_lt, min, max, true, false, inl, inr, Bool, Option, Some, List, [], ◌∷◌, length, refl, sym, ap, subst, ◌∙◌, arith}
use Rattle.std.proofs.lemmas.Bool.{lt-ltb, le-ltb}
use Rattle.std.proofs.lemmas.Bool.Decides.{leb_tells}
use Rattle.machine_model.specs.MachineSpec.{MachineSpec}
use Rattle.machine_model.specs.declared.entry.Entry.{Entry}
use Rattle.raft_model.specs.Logs.{has, merge}
use Rattle.raft_model.specs.Messages.{Append, AppendReply}
use Rattle.raft_model.specs.Rafts.{Raft, is_leader, term_observed, following, appended, follows_append, reply, silent}
use Rattle.raft_model.specs.Rafts.{Follower as FollowerMode}
use Rattle.raft_model.specs.Steps.{receives}
use Rattle.wire.specs.Frames.{Frame}
use Rattle.raft_core.specs.RaftView.{RaftView}
use Rattle.raft_core.specs.Inner.Views.{with_server}
use Rattle.raft_core.specs.Frames.{Sends}
use Rattle.raft_core.specs.Inner.Turns.{TurnTaken}

-- what follows the sender of an Append of its own term or a greater one
abbrev pub follower : {C : Type 0} → Raft C → ℕ → ℕ → List (Entry C) → ℕ → Option ℕ → Raft C
follower s term from log commit vote = record { term = term; vote = vote; log = log; covered = s.covered; commit = commit; known = Some from; mode = FollowerMode }

module _ {C : Type 0} (s : Raft C) (term from : ℕ) (le : s.term ≤ term) where
  pub followed : following (term_observed term s) from ≡ follower s term from s.log s.commit (term_observed term s).vote
  followed = elim (leb_tells term s.term) [
    | inl t ↦ let same : s.term ≡ term = omega (arith, t.1, le) in let b : nat_lt s.term term ≡ false = le-ltb s.term term t.1 in rw b (ap (λ (x : ℕ). follower s x from s.log s.commit s.vote) same)
    | inr t ↦ let b : nat_lt s.term term ≡ true = lt-ltb s.term term t.1 in rw b refl
  ]

  -- the same where the log and commit were changed before
  pub followed_last : (log : List (Entry C)) (commit : ℕ) → following (term_observed term (record s { log = log; commit = commit; mode = FollowerMode })) from ≡ follower s term from log commit (term_observed term s).vote
  followed_last log commit = elim (leb_tells term s.term) [
    | inl t ↦ let same : s.term ≡ term = omega (arith, t.1, le) in let b : nat_lt s.term term ≡ false = le-ltb s.term term t.1 in rw b (ap (λ (x : ℕ). follower s x from log commit s.vote) same)
    | inr t ↦ let b : nat_lt s.term term ≡ true = lt-ltb s.term term t.1 in rw b refl
  ]

module _ {S C : Type 0} (m : MachineSpec S C) (old new : RaftView S C) (before after : List Frame) (from term prev prev_term commit : ℕ) (le : old.server.term ≤ term) where
  pub refuses : (nat_le prev old.server.commit || has old.server.log prev prev_term) ≡ false → new ≡ with_server old (following (term_observed term old.server) from) →
      Sends m before after (record { from = old.me; to = from; term = term; body = AppendReply term false (min (prev - 1) (length old.server.log)) } ∷ []) →
      (entries : List (Entry C)) → TurnTaken m old.base old new before after (follows_append old.me (following (term_observed term old.server) from) from prev prev_term commit entries)
  refuses missing is sent entries =
      let s = followed old.server term from le in
      let f = follower old.server term from old.server.log old.server.commit (term_observed term old.server).vote in
      let turn : follows_append old.me f from prev prev_term commit entries ≡ reply old.me f from (AppendReply term false (min (prev - 1) (length old.server.log))) = rw missing refl in
      subst (λ t. TurnTaken m old.base old new before after t) (sym (ap (λ x. follows_append old.me x from prev prev_term commit entries) s ∙ turn))
      (record { server = ap (λ x. x.server) is ∙ s; base = ap (λ x. x.base) is; me = ap (λ x. x.me) is; size = ap (λ x. x.size) is; sent = sent })

  pub accepts : (entries log : List (Entry C)) (risen : ℕ) (held : Bool) → (nat_le prev old.server.commit || has old.server.log prev prev_term) ≡ true → log ≡ merge old.server.commit prev old.server.log entries → risen ≡ max old.server.commit (min commit (prev + length entries)) →
      new ≡ with_server (record old { projected = held }) (following (term_observed term (record old.server { log = log; commit = risen; mode = FollowerMode })) from) →
      Sends m before after (record { from = old.me; to = from; term = term; body = AppendReply term true (prev + length entries) } ∷ []) →
      TurnTaken m old.base old new before after (follows_append old.me (following (term_observed term old.server) from) from prev prev_term commit entries)
  accepts entries log risen second held grown rises is sent =
      let s = followed old.server term from le in
      let f = follower old.server term from old.server.log old.server.commit (term_observed term old.server).vote in
      let turn : follows_append old.me f from prev prev_term commit entries ≡ reply old.me (appended f prev commit entries) from (AppendReply term true (prev + length entries)) = rw held refl in
      let last = followed_last old.server term from le log risen in
      let taken : follower old.server term from log risen (term_observed term old.server).vote ≡ appended f prev commit entries = rw (grown, rises) refl in
      subst (λ t. TurnTaken m old.base old new before after t) (sym (ap (λ x. follows_append old.me x from prev prev_term commit entries) s ∙ turn))
      (record { server = ap (λ x. x.server) is ∙ last ∙ taken; base = ap (λ x. x.base) is; me = ap (λ x. x.me) is; size = ap (λ x. x.size) is; sent = sent })

module _ {C : Type 0} (noop : C) (n me : ℕ) (s : Raft C) (from term prev prev_term commit : ℕ) (entries : List (Entry C)) where
  -- a leader is silent to one of its own term
  pub append_own : s.term ≡ term → is_leader s.mode ≡ true → receives noop n me (term_observed term s) from term (Append prev prev_term commit entries) ≡ silent s
  append_own same leads =
      let a : nat_lt s.term term ≡ false = le-ltb s.term term (omega (arith, same)) in
      let b : nat_lt term s.term ≡ false = le-ltb term s.term (omega (arith, same)) in
      rw a (rw (b, leads) refl)

  -- any other is followed
  pub append_followed : s.term ≤ term → (s.term ≡ term → is_leader s.mode ≡ false) → receives noop n me (term_observed term s) from term (Append prev prev_term commit entries) ≡ follows_append me (following (term_observed term s) from) from prev prev_term commit entries
  append_followed le other = elim (leb_tells term s.term) [
    | inl t ↦
        let same : s.term ≡ term = omega (arith, t.1, le) in
        let a : nat_lt s.term term ≡ false = le-ltb s.term term t.1 in
        let b : nat_lt term s.term ≡ false = le-ltb term s.term le in
        rw a (rw (b, other same) refl)
    | inr t ↦
        let a : nat_lt s.term term ≡ true = lt-ltb s.term term t.1 in
        let b : nat_lt term term ≡ false = le-ltb term term (omega arith) in
        rw a (rw b refl)
  ]
