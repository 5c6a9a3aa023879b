-- Terms stay below 2^40, and every message goes from one server of the group to another.
use Rattle.std.proofs.Common.{◌≡◌, ℕ, suc, ◌<◌, ◌≤◌, inl, inr, nat_le, Some, List, [], ◌∷◌, length, refl, sym, ap, ◌∙◌, subst, arith, slice_get}
use Rattle.machine_model.specs.MachineSpec.{MachineSpec}
use Rattle.raft_model.specs.Logs.{MAX}
use Rattle.raft_model.specs.Messages.{Message, Body, to_others}
use Rattle.raft_model.specs.Rafts.{Raft, newcomer, installed}
use Rattle.raft_model.specs.Worlds.{World, Event, Run, start, more}
use Rattle.raft_model.proofs.Cases.{bool_cases}
use Rattle.raft_safety.specs.Inner.SmallSteps.{WasSent, Small, raises, stands, grants_vote, refuses, counts, wins, extends, follows, takes_append, takes_install, acks, backs, advances, covers, beats_all, Path, still, only, after_one, Turns, walks, resets}
use Rattle.raft_safety.specs.Claims.{IsAmongMembers}
use Rattle.raft_safety.proofs.Places.{get_set-cases, set-length, get-split, get-one, get-within, replicate-get, to_others_is}
use Rattle.raft_safety.proofs.Election.{Moves, event_moves, replicate-length}

-- a server, and what it says
record Bounded {C : Type 0} (n : ℕ) (t : Raft C) (out : List (Message C)) : Type 0 where
  term : t.term ≤ MAX
  says : (k : ℕ) (x : Message C) → slice_get out k ≡ Some x → IsAmongMembers n x

module _ {S C : Type 0} (m : MachineSpec S C) (n i : ℕ) (less_n : i < n) (sent : List (Message C)) (given : (x : Message C) → WasSent sent x → IsAmongMembers n x) where
  -- a step that sends nothing
  says_none : (t : Raft C) (out : List (Message C)) → out ≡ [] → t.term ≤ MAX → Bounded n t out
  says_none t out o le = record { term = le; says = λ k x h. absurd (let q = rw o at h in cc) }

  -- an answer to what came
  says_back : (t : Raft C) (out : List (Message C)) (from term its : ℕ) (request answer : Body C) → WasSent sent (record { from = from; to = i; term = term; body = request }) →
      out ≡ record { from = i; to = from; term = its; body = answer } ∷ [] → its ≤ MAX → t.term ≤ MAX → Bounded n t out
  says_back t out from term its request answer came o fits le =
      let g = given (record { from = from; to = i; term = term; body = request }) came in
      let y : Message C = record { from = i; to = from; term = its; body = answer } in
      let w : IsAmongMembers n y = record { from = less_n; to = g.from; apart = λ q. g.apart (sym q); term = fits } in
      record { term = le; says = λ k x h. subst (λ z. IsAmongMembers n z) (get-one y k x (ap (λ l. slice_get l k) (sym o) ∙ h)) w }

  -- one message to each other server
  says_all : (t : Raft C) (out : List (Message C)) (its : ℕ) (body : ℕ → Body C) →
      out ≡ to_others i (λ to. record { from = i; to = to; term = its; body = body to }) n → its ≤ MAX → t.term ≤ MAX → Bounded n t out
  says_all t out its body o fits le = record {
    term = le;
    says = λ k x h.
        let r = to_others_is i (λ to. record { from = i; to = to; term = its; body = body to }) n k x (ap (λ l. slice_get l k) (sym o) ∙ h) in
        subst (λ z. IsAmongMembers n z) (sym r.3) (record { from = less_n; to = r.1; apart = λ q. r.2 (sym q); term = fits });
  }

  -- each small step
  small_bounded : (s t : Raft C) (out : List (Message C)) → s.term ≤ MAX → Small m n i sent s t out → Bounded n t out
  small_bounded s t out le (raises x came less e o) = says_none t out o (let w = given x came in omega (arith, ap (λ (y : Raft C). y.term) e, w.term))
  small_bounded s t out le (stands term_fits index_fits e o) =
      says_all t out (suc s.term) _ o (omega (arith, term_fits)) (omega (arith, term_fits, ap (λ (y : Raft C). y.term) e))
  small_bounded s t out le (grants_vote from index its_last came free newer e o) = says_back t out from _ _ _ _ came o le (omega (arith, le, ap (λ (y : Raft C). y.term) e))
  small_bounded s t out le (refuses from term request answer came h e o) = says_back t out from _ _ _ _ came o le (omega (arith, le, ap (λ (y : Raft C). y.term) e))
  small_bounded s t out le (counts votes from term less came mode e o) = says_none t out o (omega (arith, le, ap (λ (y : Raft C). y.term) e))
  small_bounded s t out le (wins votes mode many e o) = says_none t out o (omega (arith, le, ap (λ (y : Raft C). y.term) e))
  small_bounded s t out le (extends next match command is mode none e o) = says_none t out o (omega (arith, le, ap (λ (y : Raft C). y.term) e))
  small_bounded s t out le (follows from e o) = says_none t out o (omega (arith, le, ap (λ (y : Raft C). y.term) e))
  small_bounded s t out le (takes_append from prev prev_term commit entries came mode held e o) = says_back t out from _ _ _ _ came o le (omega (arith, le, ap (λ (y : Raft C). y.term) e))
  small_bounded s t out le (takes_install from P came mode e o) =
      let same : (installed s P).term ≡ s.term = elim (bool_cases (nat_le (length P) s.commit)) [ inl b ↦ rw b refl | inr b ↦ rw b refl ] in
      says_back t out from _ _ _ _ came o (omega (arith, le, same)) (omega (arith, le, same, ap (λ (y : Raft C). y.term) e))
  small_bounded s t out le (acks next match from term at body came ack mode e o) = says_none t out o (elim (bool_cases (nat_le at (length s.log))) [
    | inl b ↦ let q = rw b at e in omega (arith, le, ap (λ (y : Raft C). y.term) q)
    | inr b ↦ let q = rw b at e in omega (arith, le, ap (λ (y : Raft C). y.term) q)
  ])
  small_bounded s t out le (backs next match from at mode e o) = says_none t out o (omega (arith, le, ap (λ (y : Raft C). y.term) e))
  small_bounded s t out le (advances next match mode e o) = says_none t out o (omega (arith, le, ap (λ (y : Raft C). y.term) e))
  small_bounded s t out le (covers e o) = says_none t out o (omega (arith, le, ap (λ (y : Raft C). y.term) e))
  small_bounded s t out le (beats_all next match mode e o) = says_all t out s.term _ o le (omega (arith, le, ap (λ (y : Raft C). y.term) e))

  -- each path
  path_bounded : (t : Raft C) (out : List (Message C)) (s : Raft C) → s.term ≤ MAX → Path m n i sent s t out → Bounded n t out
  path_bounded t out s le (still e o) = says_none t out o (omega (arith, le, ap (λ (y : Raft C). y.term) e))
  path_bounded t out s le (only x) = small_bounded s t out le x
  path_bounded t out s le (after_one r x passes p) = let b = small_bounded s r [] le x in path_bounded t out r b.term p

  -- each turn
  turn_bounded : (s t : Raft C) (out : List (Message C)) → s.term ≤ MAX → Turns m n i sent s t out → Bounded n t out
  turn_bounded s t out le (walks up p) = path_bounded t out s le p
  turn_bounded s t out le (resets mode h down e o) = says_none t out o (omega (arith, le, ap (λ (y : Raft C). y.term) e))

-- all servers, and all messages
pub record Bounds {C : Type 0} (n : ℕ) (w : World C) : Type 0 where
  pub size : length w.servers ≡ n
  pub terms : (j : ℕ) (s : Raft C) → slice_get w.servers j ≡ Some s → s.term ≤ MAX
  pub given : (x : Message C) → WasSent w.sent x → IsAmongMembers n x

module _ {S C : Type 0} (m : MachineSpec S C) (n : ℕ) (w : World C) (event : Event C) (next : World C) (b : Bounds n w) (x : Moves m w event next) where
  -- the server that took the event
  now : Bounded n x.new x.out
  now = turn_bounded m n x.who (let q = get-within w.servers x.who x.old x.here in omega (arith, q, b.size)) w.sent b.given x.old x.new x.out (b.terms x.who x.old x.here)
      (subst (λ k. Turns m k x.who w.sent x.old x.new x.out) b.size x.path)

  -- an event
  next_bounds : Bounds n next
  next_bounds = record {
    size = ap length x.servers ∙ (set-length w.servers x.who x.new ∙ b.size);
    terms = λ j s h. elim (get_set-cases w.servers x.who x.new j s (subst (λ l. slice_get l j ≡ Some s) x.servers h)) [
      | inl e ↦ omega (arith, ap (λ (y : Raft C). y.term) e.1, now.term)
      | inr e ↦ b.terms j s e.1
    ];
    given = λ y came. elim (get-split w.sent x.out came.0 y (subst (λ l. slice_get l came.0 ≡ Some y) x.sent came.1)) [
      | inl e ↦ b.given y (came.0, e)
      | inr e ↦ now.says e.0 y e.1
    ];
  }

module _ {S C : Type 0} (m : MachineSpec S C) (n : ℕ) where
  -- a run
  pub run_bounds : (events : List (Event C)) (past : List (World C)) (w : World C) → Run m n events past w → Bounds n w
  run_bounds events past w start = record {
    size = replicate-length n _;
    terms = λ j s h. omega (arith, ap (λ (y : Raft C). y.term) (replicate-get n newcomer j s h));
    given = λ x came. absurd (let e = came.1 in cc);
  }
  run_bounds events past w (more {past = before} {w = last} e next r is h) = next_bounds m n last e w (run_bounds _ before last r) (event_moves m last w e is h)
