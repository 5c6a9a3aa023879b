-- A run of k events has no term and no index above k.
use Rattle.std.proofs.Common.{◌≡◌, ◌≢◌, ℕ, zero, suc, ◌+◌, ◌-◌, ◌<◌, ◌≤◌, inl, inr, max, Bool, true, ◌||◌, nat_le, Some, List, [], ◌∷◌, ◌++◌, length, take, drop, refl, sym, ap, subst, arith, slice_get}
use Rattle.std.proofs.lemmas.Bool.Decides.{leb_tells, eqb_tells}
use Rattle.std.proofs.lemmas.List.{length-append, length-take}
use Rattle.machine_model.specs.MachineSpec.{MachineSpec}
use Rattle.machine_model.specs.declared.entry.Entry.{Entry}
use Rattle.raft_model.specs.Logs.{MAX, has, last_term, merge, install}
use Rattle.raft_model.specs.Messages.{Message, Body, VoteRequest, VoteReply, Append, AppendReply, Install, InstallReply, to_others}
use Rattle.raft_model.specs.Rafts.{Raft, newcomer, is_leader, election_started, vote_request_to, beat_body, beat_message, installed}
use Rattle.raft_model.specs.Worlds.{World, Event, Run, start, more}
use Rattle.raft_model.proofs.Cases.{bool_cases}
use Rattle.raft_safety.specs.Inner.SmallSteps.{WasSent, LedBefore, Small, raises, stands, grants_vote, refuses, counts, wins, extends, follows, takes_append, takes_install, acks, backs, advances, covers, beats_all, OwesNothing, Path, still, only, after_one, Turns, walks, resets}
use Rattle.raft_safety.proofs.LeaderSteps.{length_take, length_drop}
use Rattle.raft_safety.proofs.Places.{get_set-cases, get-split, get-one, push_length, replicate-get, to_others_is}
use Rattle.raft_safety.proofs.Election.{event_moves}
use Rattle.raft_safety.proofs.Limits.{run_bounds}
use Rattle.raft_progress.specs.Recovery.{HasRoom}
use Rattle.raft_progress.proofs.Moves.{to_others_has}

module _ {C : Type 0} where
  -- a server's numbers
  record Within (k : ℕ) (s : Raft C) : Type 0 where
    term : s.term ≤ k
    index : length s.log ≤ k

  -- how far a message's entries reach, if it has any
  BodyWithin : ℕ → Body C → Type 0
  BodyWithin k (VoteRequest index its_last) = Unit {0}
  BodyWithin k (VoteReply asked granted) = Unit {0}
  BodyWithin k (Append prev prev_term commit entries) = 1 ≤ length entries → prev + length entries ≤ k
  BodyWithin k (AppendReply asked ok at) = Unit {0}
  BodyWithin k (Install P) = length P ≤ k
  BodyWithin k (InstallReply asked at) = Unit {0}

  record MessageWithin (k : ℕ) (x : Message C) : Type 0 where
    term : x.term ≤ k
    body : BodyWithin k x.body

  abbrev AllWithin : ℕ → List (Message C) → Type 0
  AllWithin k sent = (x : Message C) → WasSent sent x → MessageWithin k x

  body_later : (j k : ℕ) (b : Body C) → j ≤ k → BodyWithin j b → BodyWithin k b
  unfolding BodyWithin
  body_later j k (VoteRequest index its_last) le h = tt
  body_later j k (VoteReply asked granted) le h = tt
  body_later j k (Append prev prev_term commit entries) le h = λ some. omega (arith, h some, le)
  body_later j k (AppendReply asked ok at) le h = tt
  body_later j k (Install P) le h = omega (arith, h, le)
  body_later j k (InstallReply asked at) le h = tt

  -- a log that took up entries
  merge_size : (c p : ℕ) (log es : List (Entry C)) → length (merge c p log es) ≤ max (length log) (p + length es)
  unfolding merge
  merge_size c p log [] = omega arith
  merge_size c p log (e ∷ es) = elim (bool_cases (nat_le (suc p) c || has log (suc p) e.term)) [
    | inl b ↦ rw b (omega (arith, merge_size c (suc p) log es))
    | inr b ↦ rw b (omega (arith, length-append (take p log) (e ∷ es), length-take p log))
  ]

  merged_size : (k c p : ℕ) (log es : List (Entry C)) → length log ≤ k → (1 ≤ length es → p + length es ≤ k) → length (merge c p log es) ≤ k
  unfolding merge
  merged_size k c p log [] le h = le
  merged_size k c p log (e ∷ es) le h = omega (arith, merge_size c p log (e ∷ es), le, h (omega arith))

  -- a snapshot
  install_size : (log P : List (Entry C)) → length (install log P) ≤ max (length log) (length P)
  unfolding install
  install_size log P = elim (bool_cases (has log (length P) (last_term P))) [
    | inl b ↦ rw b (elim (leb_tells (length P) (length log)) [
      | inl e ↦ omega (arith, length-append P (drop (length P) log), length_drop (length P) log e.1)
      | inr e ↦ omega (arith, length-append P (drop (length P) log), drop_short (length P) log (omega (arith, e.1)))
    ])
    | inr b ↦ rw b (omega arith)
  ]
    where
      drop_short : (p : ℕ) (X : List (Entry C)) → length X ≤ p → length (drop p X) ≤ 0
      drop_short zero X h = omega (arith, h)
      drop_short (suc p) [] h = omega arith
      drop_short (suc p) (x ∷ X) h = drop_short p X (omega (arith, h))

  -- a beat
  beat_within : (k : ℕ) (s : Raft C) (next : ℕ) → length s.log ≤ k → BodyWithin k (beat_body s next)
  unfolding BodyWithin
  beat_within k s next le = elim (bool_cases (nat_le next s.covered)) [
    | inl b ↦ rw b (omega (arith, length_take s.covered s.log, le))
    | inr b ↦ rw b (λ some. omega (arith, le, part (next - 1) s.log some))
  ]
    where
      part : (p : ℕ) (X : List (Entry C)) → 1 ≤ length (take 32 (drop p X)) → p + length (take 32 (drop p X)) ≤ length X
      part zero X some = omega (arith, length_take 32 X)
      part (suc p) [] some = absurd (omega (arith, some))
      part (suc p) (x ∷ X) some = omega (arith, part p X some)

module _ {S C : Type 0} (m : MachineSpec S C) (n i : ℕ) (two : 2 ≤ n) (sent : List (Message C)) (k : ℕ) (given : AllWithin k sent) where
  record After (t : Raft C) (out : List (Message C)) : Type 0 where
    server : Within (suc k) t
    says : (p : ℕ) (x : Message C) → slice_get out p ≡ Some x → MessageWithin (suc k) x

  -- nothing is said
  quiet : (t u : Raft C) (out : List (Message C)) → t ≡ u → out ≡ [] → u.term ≤ suc k → length u.log ≤ suc k → After t out
  quiet t u out e o term index = record {
    server = subst (λ z. Within (suc k) z) (sym e) (record { term = term; index = index });
    says = λ p x h. absurd (let q = subst (λ l. slice_get l p ≡ Some x) o h in cc);
  }

  -- one answer
  answers : (t u : Raft C) (out : List (Message C)) (y : Message C) → t ≡ u → out ≡ y ∷ [] → u.term ≤ suc k → length u.log ≤ suc k → MessageWithin (suc k) y → After t out
  answers t u out y e o term index its = record {
    server = subst (λ z. Within (suc k) z) (sym e) (record { term = term; index = index });
    says = λ p x h. subst (λ z. MessageWithin (suc k) z) (get-one y p x (subst (λ l. slice_get l p ≡ Some x) o h)) its;
  }

  -- a message to each other
  tells : (t u : Raft C) (out : List (Message C)) (message : ℕ → Message C) → t ≡ u → out ≡ to_others i message n → u.term ≤ suc k → length u.log ≤ suc k → ((j : ℕ) → MessageWithin (suc k) (message j)) → After t out
  tells t u out message e o term index its = record {
    server = subst (λ z. Within (suc k) z) (sym e) (record { term = term; index = index });
    says = λ p x h. let q = to_others_is i message n p x (subst (λ l. slice_get l p ≡ Some x) o h) in subst (λ z. MessageWithin (suc k) z) (sym q.3) (its q.0);
  }

  owes_within : (b : Body C) → OwesNothing b → BodyWithin (suc k) b
  unfolding BodyWithin
  owes_within (VoteRequest index its_last) h = absurd h
  owes_within (VoteReply asked granted) h = tt
  owes_within (Append prev prev_term commit entries) h = absurd h
  owes_within (AppendReply asked ok at) h = tt
  owes_within (Install P) h = absurd h
  owes_within (InstallReply asked at) h = tt

  installed_size : (s : Raft C) (P : List (Entry C)) → ((installed s P).term ≡ s.term) × (length (installed s P).log ≤ max (length s.log) (length P))
  installed_size s P = elim (bool_cases (nat_le (length P) s.commit)) [ inl b ↦ rw b (refl, omega arith) | inr b ↦ rw b (refl, install_size s.log P) ]

  module _ (s : Raft C) (w : Within k s) where
    small_within : (t : Raft C) (out : List (Message C)) → Small m n i sent s t out → After t out
    unfolding BodyWithin
    small_within t out (raises x came less e o) = let g = given x came in quiet t _ out e o (omega (arith, g.term)) (omega (arith, w.index))
    small_within t out (stands term_fits index_fits e o) = tells t (election_started n i s) out (vote_request_to i (election_started n i s)) e o (omega (arith, w.term)) (omega (arith, w.index)) (λ j. record { term = omega (arith, w.term); body = tt })
    small_within t out (grants_vote from index its_last came free newer e o) = answers t _ out _ e o (omega (arith, w.term)) (omega (arith, w.index)) (record { term = omega (arith, w.term); body = tt })
    small_within t out (refuses from term request answer came h e o) = answers t s out _ e o (omega (arith, w.term)) (omega (arith, w.index)) (record { term = omega (arith, w.term); body = owes_within answer h })
    small_within t out (counts votes from term less came mode e o) = quiet t _ out e o (omega (arith, w.term)) (omega (arith, w.index))
    small_within t out (wins votes mode many e o) = quiet t _ out e o (omega (arith, w.term)) (omega (arith, w.index, push_length s.log (record { term = s.term; command = m.noop })))
    small_within t out (extends next match command is mode none e o) = quiet t _ out e o (omega (arith, w.term)) (omega (arith, w.index, push_length s.log (record { term = s.term; command = command })))
    small_within t out (follows from e o) = quiet t _ out e o (omega (arith, w.term)) (omega (arith, w.index))
    small_within t out (takes_append from prev prev_term commit entries came mode held e o) =
        let g = given _ came in
        answers t _ out _ e o (omega (arith, w.term)) (omega (arith, merged_size k s.commit prev s.log entries w.index g.body)) (record { term = omega (arith, w.term); body = tt })
    small_within t out (takes_install from P came mode e o) =
        let g = given _ came in
        let z = installed_size s P in
        answers t _ out _ e o (omega (arith, w.term, z.0)) (omega (arith, w.index, z.1, g.body)) (record { term = omega (arith, w.term, z.0); body = tt })
    small_within t out (acks next match from term at body came ack mode e o) = elim (bool_cases (nat_le at (length s.log))) [
      | inl b ↦ quiet t _ out (rw b at e) o (omega (arith, w.term)) (omega (arith, w.index))
      | inr b ↦ quiet t _ out (rw b at e) o (omega (arith, w.term)) (omega (arith, w.index))
    ]
    small_within t out (backs next match from at mode e o) = quiet t _ out e o (omega (arith, w.term)) (omega (arith, w.index))
    small_within t out (advances next match mode e o) = quiet t _ out e o (omega (arith, w.term)) (omega (arith, w.index))
    small_within t out (covers e o) = quiet t _ out e o (omega (arith, w.term)) (omega (arith, w.index))
    small_within t out (beats_all next match mode e o) = tells t s out (beat_message i s next) e o (omega (arith, w.term)) (omega (arith, w.index))
        (λ j. record { term = omega (arith, w.term); body = body_later k (suc k) (beat_message i s next j).body (omega arith) (beat_within k s _ w.index) })

    -- one that others follow raises nothing
    silent_within : (t : Raft C) → Small m n i sent s t [] → LedBefore s t → Within k t
    unfolding BodyWithin
    silent_within t (raises x came less e o) led = let g = given x came in subst (λ z. Within k z) (sym e) (record { term = g.term; index = w.index })
    silent_within t (stands term_fits index_fits e o) led = absurd (elim (eqb_tells i 0) [ inl z ↦ none 1 (omega (arith, two)) (λ q. omega (arith, q, z.1)) | inr z ↦ none 0 (omega (arith, two)) (λ q. z.1 (sym q)) ])
      where
        none : (j : ℕ) → j < n → j ≢ i → ⊥
        none j less other = let a = to_others_has i (vote_request_to i (election_started n i s)) n j less other in let q = subst (λ l. slice_get l a.0 ≡ Some (vote_request_to i (election_started n i s) j)) (sym o) a.1 in cc
    silent_within t (grants_vote from index its_last came free newer e o) led = absurd (cc)
    silent_within t (refuses from term request answer came h e o) led = absurd (cc)
    silent_within t (counts votes from term less came mode e o) led = subst (λ z. Within k z) (sym e) (record { term = w.term; index = w.index })
    silent_within t (wins votes mode many e o) led = let l = led (subst (λ (z : Raft C). is_leader z.mode ≡ true) (sym e) refl) in record { term = omega (arith, w.term, l.1); index = omega (arith, w.index, ap length l.2) }
    silent_within t (extends next match command is mode none e o) led = let l = led (subst (λ (z : Raft C). is_leader z.mode ≡ true) (sym e) (ap is_leader mode)) in record { term = omega (arith, w.term, l.1); index = omega (arith, w.index, ap length l.2) }
    silent_within t (follows from e o) led = subst (λ z. Within k z) (sym e) (record { term = w.term; index = w.index })
    silent_within t (takes_append from prev prev_term commit entries came mode held e o) led = absurd (cc)
    silent_within t (takes_install from P came mode e o) led = absurd (cc)
    silent_within t (acks next match from term at body came ack mode e o) led = elim (bool_cases (nat_le at (length s.log))) [
      | inl b ↦ subst (λ z. Within k z) (sym (rw b at e)) (record { term = w.term; index = w.index })
      | inr b ↦ subst (λ z. Within k z) (sym (rw b at e)) w
    ]
    silent_within t (backs next match from at mode e o) led = subst (λ z. Within k z) (sym e) (record { term = w.term; index = w.index })
    silent_within t (advances next match mode e o) led = subst (λ z. Within k z) (sym e) (record { term = w.term; index = w.index })
    silent_within t (covers e o) led = subst (λ z. Within k z) (sym e) (record { term = w.term; index = w.index })
    silent_within t (beats_all next match mode e o) led = subst (λ z. Within k z) (sym e) w

  path_within : (t : Raft C) (out : List (Message C)) (s : Raft C) → Within k s → Path m n i sent s t out → After t out
  path_within t out s w (still e o) = quiet t s out e o (omega (arith, w.term)) (omega (arith, w.index))
  path_within t out s w (only x) = small_within s w t out x
  path_within t out s w (after_one r x passes p) = path_within t out r (silent_within s w r x passes) p

  turn_within : (s t : Raft C) (out : List (Message C)) → Within k s → Turns m n i sent s t out → After t out
  turn_within s t out w (walks up p) = path_within t out s w p
  turn_within s t out w (resets mode h up e o) = quiet t _ out e o (omega (arith, w.term)) (omega (arith, w.index))

module _ {S C : Type 0} (m : MachineSpec S C) (n : ℕ) (two : 2 ≤ n) where
  record WorldWithin (k : ℕ) (w : World C) : Type 0 where
    each : (i : ℕ) (s : Raft C) → slice_get w.servers i ≡ Some s → Within k s
    given : AllWithin k w.sent

  run_within : (events : List (Event C)) (past : List (World C)) (w : World C) → Run m n events past w → WorldWithin (length events) w
  unfolding BodyWithin
  run_within events past w start = record {
    each = λ i s h. let e = replicate-get n newcomer i s h in subst (λ z. Within 0 z) e (record { term = omega arith; index = omega arith });
    given = λ x came. absurd (let e = came.1 in cc);
  }
  run_within events past w (more {events = es} {past = before} {w = last} e next r is h) =
      let old = run_within es before last r in
      let bounds = run_bounds m n es before last r in
      let x = event_moves m last w e is h in
      let a = turn_within m n x.who two last.sent (length es) old.given x.old x.new x.out (old.each x.who x.old x.here) (subst (λ k. Turns m k x.who last.sent x.old x.new x.out) bounds.size x.path) in
      let size = push_length es e in
      record {
        each = λ i s here. elim (get_set-cases last.servers x.who x.new i s (subst (λ l. slice_get l i ≡ Some s) x.servers here)) [
          | inl q ↦ subst (λ z. Within (length (es ++ e ∷ [])) z) q.1 (let z = a.server in record { term = omega (arith, z.term, size); index = omega (arith, z.index, size) })
          | inr q ↦ let z = old.each i s q.1 in record { term = omega (arith, z.term, size); index = omega (arith, z.index, size) }
        ];
        given = λ y came. elim (get-split last.sent x.out came.0 y (subst (λ l. slice_get l came.0 ≡ Some y) x.sent came.1)) [
          | inl q ↦ let z = old.given y (came.0, q) in record { term = omega (arith, z.term, size); body = body_later (length es) (length (es ++ e ∷ [])) y.body (omega (arith, size)) z.body }
          | inr q ↦ let z = a.says q.0 y q.1 in record { term = omega (arith, z.term, size); body = body_later (suc (length es)) (length (es ++ e ∷ [])) y.body (omega (arith, size)) z.body }
        ];
      }

  -- so a short run has room
  pub short_has_room : (events : List (Event C)) (past : List (World C)) (w : World C) → Run m n events past w → length events + 2 ≤ MAX → (Q : ℕ → Bool) → HasRoom n Q w
  short_has_room events past w r short Q j s less q here = let a = run_within events past w r in let z = a.each j s here in (omega (arith, z.term, short), omega (arith, z.index, short))
