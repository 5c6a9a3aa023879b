-- What a small step changes of a server's term, role and log. What each such change keeps is kept
-- by each event of a run.
use Rattle.std.proofs.Common.{◌≡◌, ℕ, suc, ◌-◌, ◌<◌, ◌≤◌, ◌⊎◌, inl, inr, max, min, Bool, true, nat_le, Some, Ok, List, [], ◌∷◌, ◌++◌, length, replicate, refl, sym, ap, ◌∙◌, subst, arith, slice_get, slice_set}
use Rattle.std.proofs.lemmas.Bool.Decides.{eqb_tells}
use Rattle.machine_model.specs.MachineSpec.{MachineSpec}
use Rattle.raft_model.specs.Quorums.{index_at}
use Rattle.raft_model.specs.Messages.{Message}
use Rattle.raft_model.specs.Rafts.{Raft, Candidate, Leader, newcomer, is_chosen}
use Rattle.raft_model.specs.Worlds.{World, Event, Run, IsEvent, happens, start, more}
use Rattle.raft_model.proofs.Cases.{bool_cases}
use Rattle.raft_safety.specs.Inner.SmallSteps.{Small, raises, stands, grants_vote, refuses, counts, wins, extends, follows, takes_append, takes_install, acks, backs, advances, covers, beats_all, KnowsNothing, Path, still, only, after_one, Turns, walks, resets}
use Rattle.raft_safety.proofs.Places.{get_set-cases, set-length, replicate-get}
use Rattle.raft_safety.proofs.Election.{event_moves}
use Rattle.raft_safety.proofs.Commits.{greatest_from}
use Rattle.raft_safety.proofs.Limits.{run_bounds}
use Rattle.raft_progress.proofs.Moves.{index_same, index_other}

-- A leader's lists: they have an index for each server, next is past match, and right past it once
-- the server is known to hold anything.
pub record Lists (n : ℕ) (next match : List ℕ) : Type 0 where
  pub next_size : length next ≡ n
  pub match_size : length match ≡ n
  pub gap : (j : ℕ) → j < n → index_at match j < index_at next j
  pub probed : (j : ℕ) → j < n → 1 ≤ index_at match j → index_at next j ≡ suc (index_at match j)

-- from one moment of a leader's lists to another
pub record Closes (n : ℕ) (next match next2 match2 : List ℕ) : Type 0 where
  pub rises : (j : ℕ) → j < n → index_at match j ≤ index_at match2 j
  pub closes : (j : ℕ) → j < n → index_at next2 j - index_at match2 j ≤ index_at next j - index_at match j

-- an ok
acked : (n : ℕ) (next match : List ℕ) (from at : ℕ) → Lists n next match →
    let x = max (index_at match from) at in Lists n (slice_set next from (suc x)) (slice_set match from x) × Closes n next match (slice_set next from (suc x)) (slice_set match from x)
acked n next match from at g =
    let x = max (index_at match from) at in
    let its : (j : ℕ) → j < n → j ≡ from → (index_at (slice_set match from x) j ≡ x) × (index_at (slice_set next from (suc x)) j ≡ suc x) × (index_at match j ≤ x) × (index_at match j < index_at next j) = λ j less e. (
      ap (index_at (slice_set match from x)) e ∙ index_same match from x (omega (arith, e, less, g.match_size)),
      ap (index_at (slice_set next from (suc x))) e ∙ index_same next from (suc x) (omega (arith, e, less, g.next_size)),
      omega (arith, ap (index_at match) e),
      g.gap j less,
    ) in (
      record {
        next_size = set-length next from (suc x) ∙ g.next_size;
        match_size = set-length match from x ∙ g.match_size;
        gap = λ j less. elim (eqb_tells j from) [
          | inl e ↦ let t = its j less e.1 in omega (arith, t.0, t.1)
          | inr e ↦ omega (arith, index_other match from x j e.1, index_other next from (suc x) j e.1, g.gap j less)
        ];
        probed = λ j less some. elim (eqb_tells j from) [
          | inl e ↦ let t = its j less e.1 in omega (arith, t.0, t.1)
          | inr e ↦ omega (arith, index_other match from x j e.1, index_other next from (suc x) j e.1, g.probed j less (omega (arith, some, index_other match from x j e.1)))
        ];
      },
      record {
        rises = λ j less. elim (eqb_tells j from) [
          | inl e ↦ let t = its j less e.1 in omega (arith, t.0, t.2)
          | inr e ↦ omega (arith, index_other match from x j e.1)
        ];
        closes = λ j less. elim (eqb_tells j from) [
          | inl e ↦ let t = its j less e.1 in omega (arith, t.0, t.1, t.3)
          | inr e ↦ omega (arith, index_other match from x j e.1, index_other next from (suc x) j e.1)
        ];
      },
    )

-- a refusal
backed : (n : ℕ) (next match : List ℕ) (from at : ℕ) → Lists n next match →
    let x = max (suc (index_at match from)) (min (index_at next from - 1) (suc at)) in Lists n (slice_set next from x) match × Closes n next match (slice_set next from x) match
backed n next match from at g =
    let x = max (suc (index_at match from)) (min (index_at next from - 1) (suc at)) in
    let its : (j : ℕ) → j < n → j ≡ from → (index_at (slice_set next from x) j ≡ x) × (index_at match j < x) × (x ≤ index_at next j) = λ j less e. (
      ap (index_at (slice_set next from x)) e ∙ index_same next from x (omega (arith, e, less, g.next_size)),
      omega (arith, ap (index_at match) e),
      omega (arith, ap (index_at match) e, ap (index_at next) e, g.gap j less),
    ) in (
      record {
        next_size = set-length next from x ∙ g.next_size;
        match_size = g.match_size;
        gap = λ j less. elim (eqb_tells j from) [
          | inl e ↦ let t = its j less e.1 in omega (arith, t.0, t.1)
          | inr e ↦ omega (arith, index_other next from x j e.1, g.gap j less)
        ];
        probed = λ j less some. elim (eqb_tells j from) [
          | inl e ↦ let t = its j less e.1 in omega (arith, t.0, t.1, t.2, g.probed j less some)
          | inr e ↦ omega (arith, index_other next from x j e.1, g.probed j less some)
        ];
      },
      record {
        rises = λ j less. omega arith;
        closes = λ j less. elim (eqb_tells j from) [
          | inl e ↦ let t = its j less e.1 in omega (arith, t.0, t.1, t.2)
          | inr e ↦ omega (arith, index_other next from x j e.1)
        ];
      },
    )

module _ {S C : Type 0} (m : MachineSpec S C) (n i : ℕ) where
  pub data Kind (s t : Raft C) : Type 0 where
    -- neither term, role nor log
    stays : t.mode ≡ s.mode → t.term ≡ s.term → t.log ≡ s.log → (s.covered ≤ s.commit → s.covered ≤ t.covered) → Kind s t
    -- it follows, or is down
    falls : KnowsNothing t.mode → s.term ≤ t.term → Kind s t
    -- it stands in a greater term
    stands_up : s.term < t.term → (votes : List Bool) → t.mode ≡ Candidate votes → Kind s t
    -- a vote
    counts_one : (votes : List Bool) (from : ℕ) → s.mode ≡ Candidate votes → t.mode ≡ Candidate (slice_set votes from true) → t.term ≡ s.term → Kind s t
    -- an election
    wins_now : (votes : List Bool) → s.mode ≡ Candidate votes → t.mode ≡ Leader (replicate n (suc (length s.log))) (replicate n 0) → t.term ≡ s.term →
        t.log ≡ s.log ++ record { term = s.term; command = m.noop } ∷ [] → Kind s t
    -- a proposal
    appends_one : (next match : List ℕ) (command : C) → s.mode ≡ Leader next match → t.mode ≡ Leader next match → t.term ≡ s.term →
        t.log ≡ s.log ++ record { term = s.term; command = command } ∷ [] → t.covered ≡ s.covered → Kind s t
    -- a reply to a leader
    hears_one : (next match next2 match2 : List ℕ) → s.mode ≡ Leader next match → t.mode ≡ Leader next2 match2 → t.term ≡ s.term → t.log ≡ s.log → t.covered ≡ s.covered →
        (Lists n next match → Lists n next2 match2 × Closes n next match next2 match2) → Kind s t

  pub record Change (s t : Raft C) : Type 0 where
    pub kind : Kind s t
    pub based : s.covered ≤ s.commit → t.covered ≤ t.commit

  -- the same server but for what `stays` leaves open
  alike : (s t u : Raft C) → t ≡ u → u.mode ≡ s.mode → u.term ≡ s.term → u.log ≡ s.log → u.covered ≡ s.covered → s.commit ≤ u.commit → Change s t
  alike s t u e mode term log covered commit = subst (λ z. Change s z) (sym e) (record {
    kind = stays mode term log (λ le. omega (arith, covered));
    based = λ le. omega (arith, le, covered, commit);
  })

  -- it follows or is down, as u
  fallen : (s t u : Raft C) → t ≡ u → KnowsNothing u.mode → s.term ≤ u.term → (s.covered ≤ s.commit → u.covered ≤ u.commit) → Change s t
  fallen s t u e idle le based = subst (λ z. Change s z) (sym e) (record { kind = falls idle le; based = based })

  module _ (sent : List (Message C)) where
    -- each small step
    pub small_change : (s t : Raft C) (out : List (Message C)) → Small m n i sent s t out → Change s t
    small_change s t out (raises x came less e o) = fallen s t _ e tt (omega (arith, less)) (λ le. le)
    small_change s t out (stands term_fits index_fits e o) = subst (λ z. Change s z) (sym e) (record { kind = stands_up (omega arith) _ refl; based = λ le. le })
    small_change s t out (grants_vote from index its_last came free newer e o) = alike s t _ e refl refl refl refl (omega arith)
    small_change s t out (refuses from term request answer came h e o) = alike s t s e refl refl refl refl (omega arith)
    small_change s t out (counts votes from term less came mode e o) = subst (λ z. Change s z) (sym e) (record { kind = counts_one votes from mode refl refl; based = λ le. le })
    small_change s t out (wins votes mode many e o) = subst (λ z. Change s z) (sym e) (record { kind = wins_now votes mode refl refl refl; based = λ le. le })
    small_change s t out (extends next match command is mode none e o) = subst (λ z. Change s z) (sym e) (record { kind = appends_one next match command mode mode refl refl refl; based = λ le. le })
    small_change s t out (follows from e o) = fallen s t _ e tt (omega arith) (λ le. le)
    small_change s t out (takes_append from prev prev_term commit entries came mode held e o) = fallen s t _ e (subst (λ z. KnowsNothing z) (sym mode) tt) (omega arith) (λ le. omega (arith, le))
    small_change s t out (takes_install from P came mode e o) = elim (bool_cases (nat_le (length P) s.commit)) [
      | inl b ↦ fallen s t s (rw b at e) (subst (λ z. KnowsNothing z) (sym mode) tt) (omega arith) (λ le. le)
      | inr b ↦ fallen s t _ (rw b at e) (subst (λ z. KnowsNothing z) (sym mode) tt) (omega arith) (λ le. omega arith)
    ]
    small_change s t out (acks next match from term at body came ack mode e o) = elim (bool_cases (nat_le at (length s.log))) [
      | inr b ↦ alike s t s (rw b at e) refl refl refl refl (omega arith)
      | inl b ↦ subst (λ z. Change s z) (sym (rw b at e)) (record { kind = hears_one next match _ _ mode refl refl refl refl (acked n next match from at); based = λ le. le })
    ]
    small_change s t out (backs next match from at mode e o) = subst (λ z. Change s z) (sym e) (record { kind = hears_one next match _ _ mode refl refl refl refl (backed n next match from at); based = λ le. le })
    small_change s t out (advances next match mode e o) = alike s t _ e refl refl refl refl (greatest_from (is_chosen n i s match) s.commit (length s.log))
    small_change s t out (covers e o) = subst (λ z. Change s z) (sym e) (record { kind = stays refl refl refl (λ le. le); based = λ le. omega arith })
    small_change s t out (beats_all next match mode e o) = alike s t s e refl refl refl refl (omega arith)

    -- what each change keeps
    module _ (P : Raft C → Type 0) (keeps : (r t : Raft C) → Change r t → P r → P t) where
      path_keeps : (t : Raft C) (out : List (Message C)) (r : Raft C) → Path m n i sent r t out → P r → P t
      path_keeps t out r (still e o) p = subst (λ y. P y) (sym e) p
      path_keeps t out r (only x) p = keeps r t (small_change r t out x) p
      path_keeps t out r (after_one q x passes y) p = path_keeps t out q y (keeps r q (small_change r q [] x) p)

      pub turn_keeps : (r t : Raft C) (out : List (Message C)) → Turns m n i sent r t out → P r → P t
      turn_keeps r t out (walks up x) p = path_keeps t out r x p
      turn_keeps r t out (resets mode h up e o) p = keeps r t (fallen r t _ e h (omega arith) (λ le. omega arith)) p

-- server i before an event, and its turn, if it was its own
pub record Before {S C : Type 0} (m : MachineSpec S C) (n : ℕ) (w : World C) (i : ℕ) (t : Raft C) : Type 0 where
  pub server : Raft C
  pub here : slice_get w.servers i ≡ Some server
  pub out : List (Message C)
  pub turn : (t ≡ server) ⊎ Turns m n i w.sent server t out

module _ {S C : Type 0} (m : MachineSpec S C) (n : ℕ) where
  pub event_before : (w : World C) (e : Event C) (next : World C) → length w.servers ≡ n → IsEvent m e → happens m w e ≡ Ok next →
      (i : ℕ) (t : Raft C) → slice_get next.servers i ≡ Some t → Before m n w i t
  event_before w e next size is h i t here =
      let x = event_moves m w next e is h in
      elim (get_set-cases w.servers x.who x.new i t (subst (λ l. slice_get l i ≡ Some t) x.servers here)) [
        | inr q ↦ record { server = t; here = q.1; out = []; turn = inl refl }
        | inl q ↦ record {
          server = x.old;
          here = ap (slice_get w.servers) q.0 ∙ x.here;
          out = x.out;
          turn = inr (subst (λ j. Turns m n j w.sent x.old t x.out) (sym q.0) (subst (λ y. Turns m n x.who w.sent x.old y x.out) q.1
              (subst (λ k. Turns m k x.who w.sent x.old x.new x.out) size x.path)));
        }
      ]

  -- what a new server has and each change keeps, each server has
  module _ (P : ℕ → Raft C → Type 0) (new : (i : ℕ) → P i newcomer) (keeps : (i : ℕ) (r t : Raft C) → Change m n i r t → P i r → P i t) where
    pub run_keeps : (events : List (Event C)) (past : List (World C)) (w : World C) → Run m n events past w → (i : ℕ) (s : Raft C) → slice_get w.servers i ≡ Some s → P i s
    run_keeps events past w start i s here = subst (λ y. P i y) (replicate-get n newcomer i s here) (new i)
    run_keeps events past w (more {events = es} {past = before} {w = last} e next r is h) i s here =
        let b = event_before last e w (let bounds = run_bounds m n es before last r in bounds.size) is h i s here in
        let old = run_keeps es before last r i b.server b.here in
        elim b.turn [
          | inl same ↦ subst (λ y. P i y) (sym same) old
          | inr turn ↦ turn_keeps m n i last.sent (P i) (keeps i) b.server s b.out turn old
        ]
