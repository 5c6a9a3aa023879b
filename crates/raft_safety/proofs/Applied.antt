-- What a server has applied stays while it is up; what it has stored stays always.
use Rattle.std.proofs.Common.{◌≡◌, ℕ, zero, suc, ◌≤◌, ◌⊎◌, inl, inr, true, false, Some, List, length, refl, sym, ap, ◌∙◌, subst, arith, slice_get, true≢false}
use Rattle.std.proofs.lemmas.Bool.Decides.{leb_tells}
use Rattle.std.proofs.lemmas.Option.{same_Some}
use Rattle.machine_model.specs.MachineSpec.{MachineSpec, LawfulMachine}
use Rattle.raft_model.specs.Messages.{Message}
use Rattle.raft_model.specs.Rafts.{Raft, is_up}
use Rattle.raft_model.specs.Worlds.{World, Event, Run, moment}
use Rattle.raft_model.specs.Chains.{Agree, At}
use Rattle.raft_safety.specs.Inner.SmallSteps.{Turns}
use Rattle.raft_safety.specs.Claims.{UpFromTo, SameStored}
use Rattle.raft_safety.proofs.Places.{get_set-cases}
use Rattle.raft_safety.proofs.Runs.{run_step, moment_before}
use Rattle.raft_safety.proofs.Commits.{turn_commit, turn_stored, turn_resumes}
use Rattle.raft_safety.proofs.Logs.{agree_sym, agree_trans, agree_less}
use Rattle.raft_safety.proofs.Election.{Moves, event_moves}
use Rattle.raft_safety.proofs.Chains.{chain}

-- server i at a moment, which is t at the next one
record Before {S C : Type 0} (m : MachineSpec S C) (past : List (World C)) (w : World C) (k i : ℕ) (t : Raft C) : Type 0 where
  server : Raft C
  at : At past w k i server
  goes : (server ≡ t) ⊎ ((n : ℕ) × (sent : List (Message C)) × (out : List (Message C)) × Turns m n i sent server t out)

module _ {S C : Type 0} (m : MachineSpec S C) (n : ℕ) (events : List (Event C)) (past : List (World C)) (w : World C) (run : Run m n events past w) where
  -- an event of one server
  moved : (k i : ℕ) (x : World C) (t : Raft C) (event : Event C) (y : World C) → moment past w k ≡ Some x → slice_get y.servers i ≡ Some t → Moves m x event y → Before m past w k i t
  moved k i x t event y at here v = elim (get_set-cases x.servers v.who v.new i t (subst (λ l. slice_get l i ≡ Some t) v.servers here)) [
    | inl e ↦ record {
      server = v.old;
      at = record { world = x; world_is = at; here = subst (λ j. slice_get x.servers j ≡ Some v.old) (sym e.0) v.here };
      goes = inr (length x.servers, x.sent, v.out, subst (λ j. Turns m (length x.servers) j x.sent v.old t v.out) (sym e.0) (subst (λ z. Turns m (length x.servers) v.who x.sent v.old z v.out) e.1 v.path));
    }
    | inr e ↦ record { server = t; at = record { world = x; world_is = at; here = e.1 }; goes = inl refl }
  ]

  -- at each moment but the first, server i was there at the one before
  before : (k i : ℕ) (t : Raft C) → At past w (suc k) i t → Before m past w k i t
  before k i t a =
      let x = moment_before past w k (suc k) a.world (omega arith) a.world_is in
      let h = run_step m n events past w run k x.0 a.world x.1 a.world_is in
      moved k i x.0 t h.event a.world x.1 a.here (event_moves m x.0 a.world h.event h.is h.happens)

  -- one server at one moment
  at_one : (k i : ℕ) (s t : Raft C) → At past w k i s → At past w k i t → s ≡ t
  at_one k i s t a b =
      let same : a.world ≡ b.world = same_Some a.world b.world (sym a.world_is ∙ b.world_is) in
      same_Some s t (sym a.here ∙ (ap (λ (x : World C). slice_get x.servers i) same ∙ b.here))

  -- who is down at one of two neighbouring moments keeps what is stored
  pub stored_stays : (k i : ℕ) (s t : Raft C) → At past w k i s → At past w (suc k) i t → (is_up s.mode ≡ false) ⊎ (is_up t.mode ≡ false) → SameStored s t
  stored_stays k i s t a b down =
      let p = before k i t b in
      let same = at_one k i p.server s p.at a in
      subst (λ x. ((is_up x.mode ≡ false) ⊎ (is_up t.mode ≡ false)) → SameStored x t) same
      (λ d. elim p.goes [
        | inl e ↦ record { term = ap (λ (y : Raft C). y.term) (sym e); vote = ap (λ (y : Raft C). y.vote) (sym e); log = ap (λ (y : Raft C). y.log) (sym e); covered = ap (λ (y : Raft C). y.covered) (sym e) }
        | inr g ↦ turn_stored m g.0 i g.1 p.server t g.2 g.3 d
      ]) down

  -- who comes up begins from what its snapshot covers
  pub resumes : (k i : ℕ) (s t : Raft C) → At past w k i s → At past w (suc k) i t → is_up s.mode ≡ false → is_up t.mode ≡ true → t.commit ≡ s.covered
  resumes k i s t a b down up =
      let p = before k i t b in
      let same = at_one k i p.server s p.at a in
      subst (λ x. is_up x.mode ≡ false → t.commit ≡ x.covered) same
      (λ d. elim p.goes [
        | inl e ↦ absurd (true≢false (sym up ∙ (ap (λ (y : Raft C). is_up y.mode) (sym e) ∙ d)))
        | inr g ↦ turn_resumes m g.0 i g.1 p.server t g.2 g.3 d
      ]) down

  -- one moment
  at_same : (k l i : ℕ) (s t : Raft C) → k ≡ l → At past w k i s → At past w l i t → s.commit ≤ t.commit
  at_same k l i s t e a b = omega (arith, ap (λ (y : Raft C). y.commit) (at_one l i s t (subst (λ j. At past w j i s) e a) b))

  -- commit does not fall while the server is up
  rises : (l k i : ℕ) (s t : Raft C) → k ≤ l → At past w k i s → At past w l i t → UpFromTo past w i k l → s.commit ≤ t.commit
  rises zero k i s t le a b up = at_same k zero i s t (omega (arith, le)) a b
  rises (suc l) k i s t le a b up = elim (leb_tells k l) [
    | inr now ↦ at_same k (suc l) i s t (omega (arith, le, now.1)) a b
    | inl earlier ↦
        let p = before l i t b in
        let first = rises l k i s p.server earlier.1 a p.at (λ j r low high at. up j r low (omega (arith, high)) at) in
        let old_up : is_up p.server.mode ≡ true = up l p.server earlier.1 (omega arith) p.at in
        let new_up : is_up t.mode ≡ true = up (suc l) t le (omega arith) b in
        elim p.goes [
          | inl e ↦ omega (arith, first, ap (λ (y : Raft C). y.commit) e)
          | inr g ↦ omega (arith, first, turn_commit m g.0 i g.1 p.server t g.2 g.3 old_up new_up)
        ]
  ]

  -- what was committed stands in the log as long as the server is up
  pub applied_stays : LawfulMachine m → (k l i : ℕ) (s t : Raft C) → k ≤ l → At past w k i s → At past w l i t → UpFromTo past w i k l → (s.commit ≤ t.commit) × Agree s.commit s.log t.log
  applied_stays law k l i s t le a b up =
      let more : s.commit ≤ t.commit = rises l k i s t le a b up in
      let c = chain m law n events past w run in
      (more, agree_trans (c.agrees k i s a) (agree_less s.commit more (agree_sym (c.agrees l i t b))))
