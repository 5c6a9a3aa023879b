-- Each small step, each path and each event keeps the invariants, with a history that grows.
use Rattle.std.proofs.Common.{◌≡◌, ℕ, ◌⊎◌, true, inl, inr, Some, List, [], ◌++◌, length, refl, sym, ap, ◌∙◌, subst, slice_get, slice_set}
use Rattle.machine_model.specs.MachineSpec.{MachineSpec, LawfulMachine}
use Rattle.machine_model.specs.declared.entry.Entry.{Entry}
use Rattle.raft_model.specs.Messages.{Message}
use Rattle.raft_model.specs.Rafts.{Raft, is_leader}
use Rattle.raft_model.specs.Worlds.{World, Event}
use Rattle.raft_safety.specs.Inner.SmallSteps.{Small, raises, stands, grants_vote, refuses, counts, wins, extends, follows, takes_append, takes_install, acks, backs, advances, covers, beats_all, Path, still, only, after_one, Turns, walks, resets}
use Rattle.raft_safety.specs.Inner.History.{History, Ledgers, Extends}
use Rattle.raft_safety.specs.Inner.Invariants.{ServerOk, BodyOk, SentOk, KeepsHistory}
use Rattle.raft_safety.proofs.Places.{get_set-cases, set-length, get-split}
use Rattle.raft_safety.proofs.VoterSteps.{VotesKept, small_votes, reset_votes}
use Rattle.raft_safety.proofs.Frame.{server_on, message_on, keeps_more, keeps_same}
use Rattle.raft_safety.proofs.QuietSteps.{raise_keeps, follow_keeps, cover_keeps, reset_keeps, refuse_keeps, count_keeps, ack_told, ack_keeps, back_keeps}
use Rattle.raft_safety.proofs.LeaderSteps.{advance_keeps, beat_keeps}
use Rattle.raft_safety.proofs.CandidateSteps.{grant_keeps, stand_keeps}
use Rattle.raft_safety.proofs.Adoption.{append_keeps, install_keeps}
use Rattle.raft_safety.proofs.WritingSteps.{extend_keeps, win_keeps}
use Rattle.raft_safety.proofs.Election.{Moves}
use Rattle.raft_safety.proofs.Sound.{Sound, none_sound, first_sound, proposal_sound, noop_sound}

-- a server and messages given by equations
shift : {C : Type 0} (P : List (Entry C) → Type 0) (n : ℕ) (G : History C) (i : ℕ) (t r : Raft C) (out said : List (Message C)) → t ≡ r → out ≡ said → VotesKept n G.ballots i t out →
    (VotesKept n G.ballots i r said → KeepsHistory P n G i r said) → KeepsHistory P n G i t out
shift P n G i t r out said e o v f =
    subst (λ x. KeepsHistory P n G i x out) (sym e) (subst (λ x. KeepsHistory P n G i r x) (sym o)
    (f (subst (λ x. VotesKept n G.ballots i r x) o (subst (λ x. VotesKept n G.ballots i x out) e v))))

module _ {S C : Type 0} (m : MachineSpec S C) (law : LawfulMachine m) (n i : ℕ) (sent : List (Message C)) where
  -- the votes of a small step
  kept_votes : (G : History C) (s t : Raft C) (out : List (Message C)) → ServerOk n G i s → SentOk n G sent → Small m n i sent s t out → VotesKept n G.ballots i t out
  kept_votes G s t out ok given x = small_votes m n G.ballots i sent s ok.voter (λ y came. let g = given y came in g.vote) t out x

  -- each small step
  small_keeps : (G : History C) (s t : Raft C) (out : List (Message C)) → Ledgers n G → ServerOk n G i s → SentOk n G sent → VotesKept n G.ballots i t out → Small m n i sent s t out → KeepsHistory (Sound m) n G i t out
  unfolding BodyOk
  small_keeps G s t out I ok given v (raises x came less e o) = shift (Sound m) n G i t _ out out e refl v (raise_keeps (Sound m) n G i s I ok x.term out less o)
  small_keeps G s t out I ok given v (stands term_fits index_fits e o) = shift (Sound m) n G i t _ out _ e o v (stand_keeps (Sound m) n G i s I ok index_fits)
  small_keeps G s t out I ok given v (grants_vote from index its_last came free newer e o) = shift (Sound m) n G i t _ out _ e o v
      (grant_keeps (Sound m) n G i s I ok from index its_last (let g = given _ came in g.body) newer)
  small_keeps G s t out I ok given v (refuses from term request answer came h e o) = shift (Sound m) n G i t _ out _ e o v (refuse_keeps (Sound m) n G i s I ok _ h)
  small_keeps G s t out I ok given v (counts votes from term less came mode e o) = shift (Sound m) n G i t _ out out e refl v
      (count_keeps (Sound m) n G i s I ok votes from out mode (let g = given _ came in g.body) o)
  small_keeps G s t out I ok given v (wins votes mode many e o) = shift (Sound m) n G i t _ out out e refl v (win_keeps (Sound m) n G i s I ok m.noop votes out (none_sound m) (first_sound m) (noop_sound m law s.log s.term) mode many o)
  small_keeps G s t out I ok given v (extends next match command is mode none e o) = shift (Sound m) n G i t _ out out e refl v (extend_keeps (Sound m) n G i s I ok next match command out (proposal_sound m s command is none) mode o)
  small_keeps G s t out I ok given v (follows from e o) = shift (Sound m) n G i t _ out out e refl v (follow_keeps (Sound m) n G i s I ok from out o)
  small_keeps G s t out I ok given v (takes_append from prev prev_term commit entries came mode held e o) =
      let g = given _ came in let a = g.body in
      shift (Sound m) n G i t _ out _ e o v (append_keeps (Sound m) n G i s I ok a.led from prev prev_term commit entries mode a held)
  small_keeps G s t out I ok given v (takes_install from P came mode e o) =
      let g = given _ came in let a = g.body in
      shift (Sound m) n G i t _ out _ e o v (install_keeps (Sound m) n G i s I ok a.led from P mode a)
  small_keeps G s t out I ok given v (acks next match from term at body came ack mode e o) = shift (Sound m) n G i t _ out out e refl v
      (ack_keeps (Sound m) n G i s I ok next match from at out mode (let g = given _ came in ack_told (Sound m) n G i s I ok from i term s.term at body ack g.body) o)
  small_keeps G s t out I ok given v (backs next match from at mode e o) = shift (Sound m) n G i t _ out out e refl v (back_keeps (Sound m) n G i s I ok next match from at out mode o)
  small_keeps G s t out I ok given v (advances next match mode e o) = shift (Sound m) n G i t _ out out e refl v (advance_keeps (Sound m) n G i s I ok next match mode out o)
  small_keeps G s t out I ok given v (covers e o) = shift (Sound m) n G i t _ out out e refl v (cover_keeps (Sound m) n G i s I ok out o)
  small_keeps G s t out I ok given v (beats_all next match mode e o) = shift (Sound m) n G i t _ out _ e o v (beat_keeps (Sound m) n G i s I ok next match mode)

  -- each path
  pub path_keeps : (t : Raft C) (out : List (Message C)) (G : History C) (s : Raft C) → Ledgers n G → ServerOk n G i s → SentOk n G sent → Path m n i sent s t out → KeepsHistory (Sound m) n G i t out
  path_keeps t out G s I ok given (still e o) = subst (λ x. KeepsHistory (Sound m) n G i x out) (sym e) (subst (λ x. KeepsHistory (Sound m) n G i s x) (sym o) (keeps_same (Sound m) n G i s I ok))
  path_keeps t out G s I ok given (only x) = small_keeps G s t out I ok given (kept_votes G s t out ok given x) x
  path_keeps t out G s I ok given (after_one r x passes p) =
      let one = small_keeps G s r [] I ok given (kept_votes G s r [] ok given x) x in
      keeps_more (Sound m) n G i s r t out ok passes one (path_keeps t out one.after r one.ledgers one.own (λ y came. message_on n G one.after y one.extends (given y came)) p)

module _ {S C : Type 0} (m : MachineSpec S C) (law : LawfulMachine m) (n i : ℕ) (sent : List (Message C)) where
  -- each turn
  pub turn_keeps : (t : Raft C) (out : List (Message C)) (G : History C) (s : Raft C) → Ledgers n G → ServerOk n G i s → SentOk n G sent → Turns m n i sent s t out → KeepsHistory (Sound m) n G i t out
  turn_keeps t out G s I ok given (walks up p) = path_keeps m law n i sent t out G s I ok given p
  turn_keeps t out G s I ok given (resets mode h down e o) = shift (Sound m) n G i t _ out out e refl
      (reset_votes m n G.ballots i sent s ok.voter (λ y came. let g = given y came in g.vote) t out mode h e o) (reset_keeps (Sound m) n G i s I ok mode out h o)

-- the invariants of a world
pub record WorldOk {S C : Type 0} (m : MachineSpec S C) (n : ℕ) (G : History C) (w : World C) : Type 0 where
  pub size : length w.servers ≡ n
  pub ledgers : Ledgers n G
  pub each : (j : ℕ) (s : Raft C) → slice_get w.servers j ≡ Some s → ServerOk n G j s
  pub given : SentOk n G w.sent
  pub sound : (u : ℕ) → Sound m (G.ledger u)

-- after a step of one server, which is `new` then
pub record WorldGoes {S C : Type 0} (m : MachineSpec S C) (n : ℕ) (G : History C) (w : World C) (new : Raft C) : Type 0 where
  pub after : History C
  pub extends : Extends G after
  pub ok : WorldOk m n after w
  pub writes : (u : ℕ) → (after.ledger u ≡ G.ledger u) ⊎ ((new.term ≡ u) × (is_leader new.mode ≡ true))

module _ {S C : Type 0} (m : MachineSpec S C) (law : LawfulMachine m) (n : ℕ) (G : History C) (w : World C) (event : Event C) (next : World C) (ok : WorldOk m n G w) (x : Moves m w event next) where
  -- the server that took the event
  kept : KeepsHistory (Sound m) n G x.who x.new x.out
  kept = turn_keeps m law n x.who w.sent x.new x.out G x.old ok.ledgers (ok.each x.who x.old x.here) ok.given
      (subst (λ k. Turns m k x.who w.sent x.old x.new x.out) ok.size x.path)

  -- each server
  goes_each : (j : ℕ) (s : Raft C) → slice_get (slice_set w.servers x.who x.new) j ≡ Some s → ServerOk n kept.after j s
  goes_each j s h = elim (get_set-cases w.servers x.who x.new j s h) [
    | inl e ↦ subst (λ k. ServerOk n kept.after k s) (sym e.0) (subst (λ y. ServerOk n kept.after x.who y) e.1 kept.own)
    | inr e ↦ server_on n G kept.after x.who j s kept.extends kept.apart e.0 (ok.each j s e.1)
  ]

  -- each message
  goes_sent : SentOk n kept.after (w.sent ++ x.out)
  goes_sent y came = elim (get-split w.sent x.out came.0 y came.1) [
    | inl e ↦ message_on n G kept.after y kept.extends (ok.given y (came.0, e))
    | inr e ↦ kept.says e.0 y e.1
  ]

  -- each event
  pub world_goes : WorldGoes m n G next x.new
  world_goes = record {
    after = kept.after;
    extends = kept.extends;
    ok = record {
      size = ap length x.servers ∙ (set-length w.servers x.who x.new ∙ ok.size);
      ledgers = kept.ledgers;
      each = λ j s h. goes_each j s (subst (λ l. slice_get l j ≡ Some s) x.servers h);
      given = λ y came. goes_sent y (came.0, subst (λ l. slice_get l came.0 ≡ Some y) x.sent came.1);
      sound = kept.sound ok.sound;
    };
    writes = kept.writes;
  }
