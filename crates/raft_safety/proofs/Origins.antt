-- Each entry that a ledger has of its own term was written by the term's leader at some moment.
use Rattle.std.proofs.Common.{◌≡◌, ℕ, suc, ◌<◌, inl, inr, Bool, true, Option, Some, None, List, [], ◌∷◌, ◌++◌, length, take, refl, sym, ap, ◌∙◌, subst, arith, slice_get, take_all}
use Rattle.std.proofs.lemmas.Bool.Decides.{leb_tells}
use Rattle.std.proofs.lemmas.Option.{same_Some}
use Rattle.machine_model.specs.MachineSpec.{MachineSpec}
use Rattle.machine_model.specs.declared.entry.Entry.{Entry}
use Rattle.raft_model.specs.Logs.{term_at}
use Rattle.raft_model.specs.Rafts.{Raft, Candidate, is_leader}
use Rattle.raft_model.specs.Worlds.{World, Event}
use Rattle.raft_model.specs.Chains.{Agree, At}
use Rattle.raft_model.proofs.Leading.{Leading, goes_on, hears, appends, wins, step_leads}
use Rattle.raft_safety.specs.Inner.History.{History}
use Rattle.raft_safety.specs.Inner.Invariants.{CandidateOk, ServerOk}
use Rattle.raft_safety.specs.Claims.{Origin, Grew, proposed, elected}
use Rattle.raft_safety.proofs.Places.{get-more, get-last, get_set-same, get-within, take_append, push_length}
use Rattle.raft_safety.proofs.Logs.{agree_less, agree_term, rooted_at}
use Rattle.raft_safety.proofs.Frame.{leader_wrote, leader_leads}
use Rattle.raft_safety.proofs.QuietSteps.{as_candidate}
use Rattle.raft_safety.proofs.WritingSteps.{agree_append}
use Rattle.raft_safety.proofs.Election.{Moves}
use Rattle.raft_safety.proofs.Steps.{WorldOk, WorldGoes}

module _ {S C : Type 0} (m : MachineSpec S C) (events : List (Event C)) (past : List (World C)) (w : World C) where
  -- where a list's entries come from depends on the list up to that entry
  pub origin_agree : (A B : List (Entry C)) (p : ℕ) → Agree (suc p) A B → Origin m events past w A p → Origin m events past w B p
  origin_agree A B p a o =
      let term : term_at A (suc p) ≡ term_at B (suc p) = agree_term (suc p) (suc p) A B a (omega arith) (omega arith) in
      let before = agree_less p (omega arith) a in
      record {
        moment = o.moment;
        who = o.who;
        before = o.before;
        after = o.after;
        event = o.event;
        before_at = o.before_at;
        event_at = o.event_at;
        after_at = o.after_at;
        had = o.had ∙ before.same;
        has = o.has ∙ a.same;
        before_term = o.before_term ∙ term;
        after_term = o.after_term ∙ term;
        leads = o.leads;
        grew = o.grew;
      }

  -- a moment stays one while the run goes on
  at_on : (next : World C) (k i : ℕ) (s : Raft C) → At past w k i s → At (past ++ w ∷ []) next k i s
  at_on next k i s a = record { world = a.world; world_is = get-more (past ++ w ∷ []) (next ∷ []) k a.world a.world_is; here = a.here }

  -- an origin stays one while the run goes on
  origin_on : (event : Event C) (next : World C) (A : List (Entry C)) (p : ℕ) → Origin m events past w A p → Origin m (events ++ event ∷ []) (past ++ w ∷ []) next A p
  origin_on event next A p o = record {
    moment = o.moment;
    who = o.who;
    before = o.before;
    after = o.after;
    event = o.event;
    before_at = at_on next o.moment o.who o.before o.before_at;
    event_at = get-more events (event ∷ []) o.moment o.event o.event_at;
    after_at = at_on next (suc o.moment) o.who o.after o.after_at;
    had = o.had;
    has = o.has;
    before_term = o.before_term;
    after_term = o.after_term;
    leads = o.leads;
    grew = o.grew;
  }

-- where the ledgers' own entries come from
pub record Born {S C : Type 0} (m : MachineSpec S C) (events : List (Event C)) (past : List (World C)) (w : World C) (G : History C) : Type 0 where
  pub own : (u p : ℕ) → p < length (G.ledger u) → term_at (G.ledger u) (suc p) ≡ u → Origin m events past w (G.ledger u) p

module _ {S C : Type 0} (m : MachineSpec S C) (n : ℕ) (events : List (Event C)) (past : List (World C)) (w : World C) (event : Event C) (next : World C) (even : length events ≡ length past)
    (G : History C) (ok : WorldOk m n G w) (x : Moves m w event next) (g : WorldGoes m n G next x.new) (born : Born m events past w G) where
  -- the server before the event
  old_ok : ServerOk n G x.who x.old
  old_ok = ok.each x.who x.old x.here

  -- the server after the event
  pub now_here : slice_get next.servers x.who ≡ Some x.new
  now_here = subst (λ l. slice_get l x.who ≡ Some x.new) (sym x.servers) (get_set-same w.servers x.who x.new (get-within w.servers x.who x.old x.here))

  -- is borne out too
  new_ok : ServerOk n g.after x.who x.new
  new_ok = g.ok.each x.who x.new now_here

  -- the entry that follows the first p of the ledger of term u has an origin
  Comes : ℕ → ℕ → Type 0
  Comes u p = Origin m (events ++ event ∷ []) (past ++ w ∷ []) next (g.after.ledger u) p

  -- the ledger of a leader whose log stays
  ledger_stays : (u : ℕ) → x.new.term ≡ u → is_leader x.new.mode ≡ true → is_leader x.old.mode ≡ true → x.old.term ≡ u → x.new.log ≡ x.old.log → g.after.ledger u ≡ G.ledger u
  ledger_stays u its l old_l old_its log =
      ap g.after.ledger (sym its) ∙ (sym (leader_wrote n g.after x.who x.new x.new.mode new_ok refl l) ∙ (log ∙ (leader_wrote n G x.who x.old x.old.mode old_ok refl old_l ∙ ap G.ledger old_its)))

  -- the ledger had the entry before
  before : (u p : ℕ) → p < length (G.ledger u) → term_at (g.after.ledger u) (suc p) ≡ u → Comes u p
  unfolding Comes
  before u p less own =
      let a : Agree (suc p) (G.ledger u) (g.after.ledger u) = agree_less (suc p) (omega (arith, less)) (g.extends.ledgers u) in
      origin_agree m (events ++ event ∷ []) (past ++ w ∷ []) next (G.ledger u) (g.after.ledger u) p a
      (origin_on m events past w event next (G.ledger u) p
      (born.own u p less (agree_term (suc p) (suc p) (G.ledger u) (g.after.ledger u) a (omega arith) (omega arith) ∙ own)))

  -- the ledger got the entry now
  now : (u p : ℕ) (e : Entry C) → x.new.term ≡ u → is_leader x.new.mode ≡ true → x.new.term ≡ x.old.term → x.new.log ≡ x.old.log ++ e ∷ [] → p ≡ length x.old.log →
      term_at (g.after.ledger u) (suc p) ≡ u → Grew m x.who event x.old x.new → Comes u p
  unfolding Comes
  now u p e its l same log at own grew =
      let L = g.after.ledger u in
      let wrote : x.new.log ≡ L = leader_wrote n g.after x.who x.new x.new.mode new_ok refl l ∙ ap g.after.ledger its in
      let size : length L ≡ suc p = sym (ap length (sym log ∙ wrote)) ∙ (push_length x.old.log e ∙ ap suc (sym at)) in
      record {
        moment = length past;
        who = x.who;
        before = x.old;
        after = x.new;
        event = event;
        before_at = record { world = w; world_is = get-more (past ++ w ∷ []) (next ∷ []) (length past) w (get-last past w); here = x.here };
        event_at = ap (slice_get (events ++ event ∷ [])) (sym even) ∙ get-last events event;
        after_at = record { world = next; world_is = ap (slice_get ((past ++ w ∷ []) ++ next ∷ [])) (sym (push_length past w)) ∙ get-last (past ++ w ∷ []) next; here = now_here };
        had = sym (take_all p x.old.log (omega (arith, at))) ∙ (take_append p x.old.log (e ∷ []) (omega (arith, at)) ∙ ap (take p) (sym log ∙ wrote));
        has = wrote ∙ sym (take_all (suc p) L (omega (arith, size)));
        before_term = sym same ∙ (its ∙ sym own);
        after_term = its ∙ sym own;
        leads = l;
        grew = grew;
      }

  -- a candidate that wins now has no entry of its own term yet: that would be another leader's
  none_own : (u p : ℕ) (votes : List Bool) → x.old.mode ≡ Candidate votes → x.old.term ≡ u → x.new.term ≡ u → is_leader x.new.mode ≡ true → p < length x.old.log → term_at x.old.log (suc p) ≡ u →
      (o : Option ℕ) → G.leader u ≡ o → ⊥
  none_own u p votes mode its new_its l less own None none =
      let r : Agree (suc p) x.old.log (G.ledger (term_at x.old.log (suc p))) = rooted_at G.ledger x.old.log (suc p) old_ok.log.rooted (omega arith) (omega (arith, less)) in
      let I = ok.ledgers in
      omega (arith, r.right, ap (λ t. length (G.ledger t)) own, I.unled u none)
  none_own u p votes mode its new_its l less own (Some d) led =
      let c : CandidateOk n G x.who x.old.term x.old.log votes = as_candidate (λ L. Unit {0}) n G x.who x.old ok.ledgers old_ok votes mode in
      let mine : g.after.leader u ≡ Some x.who = ap g.after.leader (sym new_its) ∙ leader_leads n g.after x.who x.new x.new.mode new_ok refl l in
      let same : d ≡ x.who = same_Some d x.who (sym (g.extends.leaders u d led) ∙ mine) in
      c.unled (ap G.leader its ∙ (led ∙ ap Some same))

  -- the new server leads term u, and its log is the ledger
  comes_led : (u p : ℕ) → x.new.term ≡ u → is_leader x.new.mode ≡ true → p < length (g.after.ledger u) → term_at (g.after.ledger u) (suc p) ≡ u →
      Leading m n x.who x.old x.input x.new → Comes u p
  comes_led u p its l less own (goes_on mode term log commit) =
      let old_leads : is_leader x.old.mode ≡ true = ap is_leader (sym mode) ∙ l in
      before u p (omega (arith, less, ap length (ledger_stays u its l old_leads (sym term ∙ its) log))) own
  comes_led u p its l less own (hears r next_index match leads mode term log commit is) =
      let same_term : x.old.term ≡ u = sym term ∙ (sym (ap (λ (y : Raft C). y.term) is) ∙ its) in
      before u p (omega (arith, less, ap length (ledger_stays u its l leads same_term (ap (λ (y : Raft C). y.log) is ∙ log)))) own
  comes_led u p its l less own (appends command leads input is) =
      let term : x.new.term ≡ x.old.term = ap (λ (y : Raft C). y.term) is in
      let log = ap (λ (y : Raft C). y.log) is in
      let wrote : x.new.log ≡ g.after.ledger u = leader_wrote n g.after x.who x.new x.new.mode new_ok refl l ∙ ap g.after.ledger its in
      let was : x.old.log ≡ G.ledger u = leader_wrote n G x.who x.old x.old.mode old_ok refl leads ∙ ap G.ledger (sym term ∙ its) in
      elim (leb_tells (suc p) (length x.old.log)) [
        | inl a ↦ before u p (omega (arith, a.1, ap length was)) own
        | inr a ↦ now u p _ its l term log (omega (arith, a.1, less, ap length (sym log ∙ wrote), push_length x.old.log (record { term = x.old.term; command = command }))) own
            (proposed command leads (x.proposal command input) log)
      ]
  comes_led u p its l less own (wins votes mode is) =
      let term : x.new.term ≡ x.old.term = ap (λ (y : Raft C). y.term) is in
      let log = ap (λ (y : Raft C). y.log) is in
      let e : Entry C = record { term = x.old.term; command = m.noop } in
      let wrote : x.new.log ≡ g.after.ledger u = leader_wrote n g.after x.who x.new x.new.mode new_ok refl l ∙ ap g.after.ledger its in
      elim (leb_tells (suc p) (length x.old.log)) [
        | inl a ↦ absurd (none_own u p votes mode (sym term ∙ its) its l (omega (arith, a.1))
            (agree_term (suc p) (suc p) x.old.log (x.old.log ++ e ∷ []) (agree_append (suc p) x.old.log (e ∷ []) a.1) (omega arith) (omega arith) ∙ (ap (λ L. term_at L (suc p)) (sym log ∙ wrote) ∙ own))
            (G.leader u) refl)
        | inr a ↦ now u p e its l term log (omega (arith, a.1, less, ap length (sym log ∙ wrote), push_length x.old.log e)) own (elected votes mode log)
      ]

  -- an event keeps the origins
  pub born_next : Born m (events ++ event ∷ []) (past ++ w ∷ []) next g.after
  unfolding Comes
  born_next = record {
    own = λ u p less own. elim (g.writes u) [
      | inl same ↦ before u p (omega (arith, less, ap length same)) own
      | inr led ↦ comes_led u p led.0 led.1 less own
          (subst (λ k. Leading m k x.who x.old x.input x.new) ok.size (step_leads m (length w.servers) x.who x.old x.input (record { server = x.new; sent = x.out }) x.step led.1))
    ];
  }
