-- Servers of the log alone restart, and then they settle.
use Rattle.std.proofs.Common.{◌≡◌, ℕ, suc, ◌<◌, ◌≤◌, ◌⊎◌, inl, inr, true, Some, Ok, Err, List, [], ◌∷◌, ◌++◌, length, map, refl, sym, ap, ◌∙◌, subst, arith}
use Rattle.std.proofs.lemmas.List.{map-append}
use Rattle.std.proofs.lemmas.Option.{same_Some}
use Rattle.rows.specs.declared.refusal.Refusal.{Refusal}
use Rattle.rows.specs.declared.refusal.Refusal.TheVariants as refusals
use Rattle.rows.specs.GroupSizes.{IsGroup}
use Rattle.machine_model.specs.MachineSpec.{MachineSpec}
use Rattle.raft_model.specs.Quorums.{Quorum}
use Rattle.raft_model.specs.Steps.{Crash, step}
use Rattle.raft_model.specs.Worlds.{World, Event, Restarts, Crashes, happens, input_to, after_turn}
use Rattle.raft_safety.proofs.Places.{push_length}
use Rattle.raft_progress.specs.Recovery.{HasRoom, AfterRestarts, no_restart, a_restart, everybody}
use Rattle.world.specs.WorldView.{WorldView}
use Rattle.world.specs.Steps.{EventHappened, ActorCrashed, StaysDown, SameWorld, RefusesEvent}
use Rattle.recovery.specs.declared.unsettled.Unsettled.{Unsettled}
use Rattle.recovery.specs.declared.unsettled.Unsettled.TheVariants.{NoQuorum, Exhausted, NoMemory, Crashed}
use Rattle.recovery.specs.Runs.{is_up_in, events_of, Settles, Began}
use Rattle.recovery.specs.Settling.{Goes, Fell, WhyUnsettled, IsSettled}
use Rattle.recovery.specs.Restarting.{downs, restarts_of, Restarted, RestartedUntil, RestartedThen, Recovers, AllHaveRoom, WhyAllUnsettled, AreSettled}
use Rattle.recovery.specs.Inner.Drives.{HasRun, Known, WentOf, NothingYet}
use Rattle.recovery.specs.Inner.Kinds.{log_drive}
use Rattle.recovery.specs.Inner.DownServers.{IsDown, IsBack, AreBack, nobody, one_more, RestartedSoFar, WokenUntil, IsLeftDown, RestartsFail, log_restarting}
use Rattle.recovery.proofs.Goings.{went_none}
use Rattle.recovery.proofs.LogDriving.{log_lawful, still}
use Rattle.recovery.proofs.Downs.{nil_end, few_down, restart_happens, of_everybody}
use Rattle.recovery.proofs.Wakings.{all_up, further}

module _ {S C : Type 0} (m : MachineSpec S C) where
  -- ---- one restart

  module _ (old : WorldView S C) (j : ℕ) (k : Known (log_drive m) old (λ w. IsDown j w)) (new : WorldView S C) where
    pub restarted_back : EventHappened m old (Restarts j) new → WentOf (log_drive m) old new (λ ts w v. IsBack m (log_drive m) (log_restarting m) j ts w v)
    restarted_back h = (
      Restarts j ∷ [],
      record { size = h.size; stays = tt; trace = h.trace; runs = λ past w r. let n = h.runs past w r in (w ∷ [], n.0, n.2, (refl, n.1, n.1)) },
    )

    -- a server that is down does not crash
    no_crash : (w next : World C) → IsDown j w → happens m w (Crashes j) ≡ Ok next → ⊥
    no_crash w next d h =
        let refused : step m (length w.servers) j d.0 Crash ≡ Err refusals.Down = rw d.2 refl in
        let q = sym h ∙ (ap (input_to m w j Crash) d.1 ∙ ap (after_turn m w j) refused) in
        cc

    pub asleep_by : ActorCrashed m old (Restarts j) new ⊎ StaysDown m old (Restarts j) new → IsLeftDown (log_drive m) j old new (Crashed j)
    asleep_by (inl c) =
        let r = k.runs in
        let h = c.happened in
        let n = h.worlds k.moment r.refines in
        let same : j ≡ c.who = same_Some j c.who (c.actor k.moment r.refines) in
        absurd (no_crash k.moment n.0 (k.ever k.past k.moment k.runs) (ap (λ q. happens m k.moment (Crashes q)) same ∙ n.1))
    asleep_by (inr d) = (refl, subst (λ q. WentOf (log_drive m) old q (λ ts w v. NothingYet (log_drive m) ts w v)) (sym d.same) (went_none m (log_drive m) (log_lawful m) old (λ ts w v. NothingYet (log_drive m) ts w v) (λ w. IsDown j w) k (λ w r p. (refl, refl))))

    pub same_asleep : SameWorld old new → IsLeftDown (log_drive m) j old new NoMemory
    same_asleep same = still m old new same

    pub restart_not_refused : (cause : Refusal) → RefusesEvent m old (Restarts j) cause → ⊥
    restart_not_refused cause h =
        let d = k.ever k.past k.moment k.runs in
        let q = sym (restart_happens m j k.moment d.0 d.1 d.2) ∙ h k.past k.moment k.runs in
        cc

  -- ---- some restarts

  -- their events, and how many
  record LogBack (w : World C) (back : List ℕ) (v : World C) : Type 0 where
    count : ℕ
    restarted : AfterRestarts m w count v
    are : restarts_of m w count v restarted ≡ map Restarts back
    many : count ≡ length back

  log_back : (w : World C) (back : List ℕ) (v : World C) → AreBack m (log_drive m) (log_restarting m) w back v → LogBack w back v
  unfolding restarts_of
  log_back w back v nobody = record { count = 0; restarted = no_restart; are = refl; many = refl }
  log_back w back v (one_more {back = earlier} {x = x} j y b h) =
      let old = log_back w earlier x b in
      record {
        count = suc old.count;
        restarted = a_restart j y old.restarted h;
        are = ap (λ l. l ++ Restarts j ∷ []) old.are ∙ sym (map-append Restarts earlier (j ∷ []));
        many = omega (arith, old.many, push_length earlier j);
      }

  until : (n who : ℕ) (ts : List (Event C)) (w v : World C) → WokenUntil m (log_drive m) (log_restarting m) n who ts w v → RestartedUntil m n who ts w v
  until n who ts w v s =
      let b = log_back w s.before v s.back in
      (s.later, record { back = s.before; were_down = s.were_down; restarts = b.count; restarted = b.restarted; restarts_are = b.are ∙ sym s.taken_are; taken_are = s.taken_are })

  module _ (n : ℕ) (ts us : List (Event C)) (w x v : World C) (s : RestartedSoFar m (log_drive m) (log_restarting m) n ts w x) where
    its : LogBack w (downs n w) x
    its = log_back w (downs n w) x s.back

    recovers : (who : ℕ) → Settles m n who us x v → Recovers m n who (ts ++ us) w v
    unfolding of_everybody
    recovers who e = record {
      can = record { restarts = its.count; world = x; restarted = its.restarted; few_restarts = omega (arith, its.many, few_down n w); settles = of_everybody m n x s.up e.can };
      who_is = e.who_is;
      world_is = e.world_is;
      restarts_are = its.are;
      taken_are = ap (λ l. l ++ us) s.taken_are ∙ ap (λ l. map Restarts (downs n w) ++ l) (sym e.taken_are);
    }

    restarted_then : (R : List (Event C) → World C → World C → Type 0) → R us x v → RestartedThen m n R (ts ++ us) w v
    restarted_then R h = record {
      restarts = ts;
      further = us;
      awake = x;
      restarted = record { back = downs n w; were_down = sym (nil_end (downs n w)); restarts = its.count; restarted = its.restarted; restarts_are = its.are ∙ sym s.taken_are; taken_are = s.taken_are };
      came = h;
      taken_are = refl;
    }

  -- ---- what is answered

  goes_of : (old new : WorldView S C) (R1 R : List (Event C) → World C → World C → Type 0) → WentOf (log_drive m) old new R1 → ((ts : List (Event C)) (w v : World C) → R1 ts w v → R ts w v) → Goes m old new R
  goes_of old new R1 R g f =
      let one = g.1 in
      (g.0, record { size = one.size; trace = one.trace; runs = λ past w r. let x = one.runs past w r in (x.0, x.1, x.2, f g.0 w x.1 x.3) })

  went_of : (old new : WorldView S C) (R : List (Event C) → World C → World C → Type 0) → Goes m old new R → WentOf (log_drive m) old new R
  went_of old new R g = let one = g.1 in (g.0, record { size = one.size; stays = tt; trace = one.trace; runs = one.runs })

  module _ (old : WorldView S C) (h : HasRun (log_drive m) old) (group : IsGroup (length old.servers)) (room : AllHaveRoom m old) where
    abbrev all_n : ℕ
    all_n = length old.servers

    module _ (mid : WorldView S C) (g : WentOf (log_drive m) old mid (λ ts w v. RestartedSoFar m (log_drive m) (log_restarting m) (length old.servers) ts w v)) where
      up_in_mid : Known (log_drive m) mid (λ v. Quorum (length old.servers) (is_up_in v) × HasRoom (length old.servers) (is_up_in v) v)
      up_in_mid = all_up m (log_drive m) (log_lawful m) (log_restarting m) old mid h group room g

      same_size : length mid.servers ≡ all_n
      same_size = let one = g.1 in one.size

      then_goes : (new : WorldView S C) (R Q : List (Event C) → World C → World C → Type 0) → Goes m mid new R → ((ts us : List (Event C)) (w x v : World C) → RestartedSoFar m (log_drive m) (log_restarting m) all_n ts w x → R us x v → Q (ts ++ us) w v) → Goes m old new Q
      then_goes new R Q more f = goes_of old new Q Q (further m (log_drive m) (log_lawful m) (log_restarting m) old mid h group room g new R Q (went_of mid new R more) f) (λ ts w v q. q)

      pub are_settled : (new : WorldView S C) (who : ℕ) → IsSettled m mid new who → AreSettled m old new who
      are_settled new who s = record {
        room = room;
        went = then_goes new (λ us x v. Settles m all_n who us x v) (λ ts w v. Recovers m all_n who ts w v) (subst (λ q. Goes m mid new (λ us x v. Settles m q who us x v)) same_size s.went)
            (λ ts us w x v a b. recovers all_n ts us w x v a who b);
      }

      pub why_all_unsettled : (new : WorldView S C) (why : Unsettled) → WhyUnsettled m mid new why → WhyAllUnsettled m old new why
      why_all_unsettled new NoQuorum q =
          let k = up_in_mid in
          let now = k.ever k.past k.moment k.runs in
          q.0 k.past k.moment k.runs (subst (λ z. Quorum z (is_up_in k.moment)) (sym same_size) now.0)
      why_all_unsettled new Exhausted q =
          let k = up_in_mid in
          let now = k.ever k.past k.moment k.runs in
          absurd (q.1 k.past k.moment k.runs (subst (λ z. HasRoom z (is_up_in k.moment) k.moment) (sym same_size) now.1))
      why_all_unsettled new NoMemory q = (room, then_goes new (λ us x v. Began m us x v) _ q.2 (λ ts us w x v a b. inr (restarted_then all_n ts us w x v a (λ calm y z. Began m calm y z) b)))
      why_all_unsettled new (Crashed who) q = (room, then_goes new (λ us x v. Fell m who us x v) _ q.2 (λ ts us w x v a b. inr (restarted_then all_n ts us w x v a (λ calm y z. Fell m who calm y z) b)))

    -- or not all could restart
    pub why_asleep : (new : WorldView S C) (why : Unsettled) → RestartsFail m (log_drive m) (log_restarting m) old new why → WhyAllUnsettled m old new why
    why_asleep new NoQuorum q = q
    why_asleep new Exhausted q = absurd q
    why_asleep new NoMemory q = (room, goes_of old new (λ ts w v. (who : ℕ) × WokenUntil m (log_drive m) (log_restarting m) all_n who ts w v) _ q (λ ts w v c. inl (c.0, until all_n c.0 ts w v c.1)))
    why_asleep new (Crashed who) q = (room, goes_of old new (λ ts w v. WokenUntil m (log_drive m) (log_restarting m) all_n who ts w v) _ q (λ ts w v c. inl (until all_n who ts w v c)))
