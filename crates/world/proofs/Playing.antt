-- What becomes of a list of events, one after the other.
use Rattle.std.proofs.Common.{◌≡◌, ◌≢◌, ℕ, inl, inr, Some, Result, Ok, Err, IfOk, IfErr, OnErr, List, [], ◌∷◌, ◌++◌, length, length-append, refl, sym, ap, ◌∙◌, subst, slice_get, arith}
use Rattle.rows.specs.declared.refusal.Refusal.{Refusal}
use Rattle.rows.specs.declared.refusal.Refusal.TheVariants as refusals
use Rattle.machine_model.specs.MachineSpec.{MachineSpec}
use Rattle.raft_model.specs.Rafts.{Raft}
use Rattle.raft_model.specs.Worlds.{World, Event, Crashes, Outcome, first, Kept, LeftOut, IsEvent, Run, start, more, acting_server, Trace, nothing, kept, crashed, left_out}
use Rattle.raft_model.specs.Worlds as model
use Rattle.world.specs.declared.done.Done.{Done}
use Rattle.world.specs.declared.done.Done.TheVariants.{Taken, Crashed}
use Rattle.world.specs.WorldView.{WorldView}
use Rattle.raft_safety.proofs.Places.{get-more, get-last}
use Rattle.world.specs.Steps.{WasDone, SameWorld, RefusesEvent, IsNew, OutOfMemoryMayEndFor, OutOfMemoryCrash, MayBecome, EachBecame, Played}
use Rattle.world.proofs.Outcomes.{place_after, place_more, became_more, became_map}
use Rattle.world.proofs.Begins.{new_runs}
use Rattle.world.proofs.Same.{same_world, same_count, same_runs}

-- ---- what became of each event

module _ {S C : Type 0} (m : MachineSpec S C) where
  -- a run has as many worlds before the last one as events
  run_length : (n : ℕ) (events : List (Event C)) (past : List (World C)) (w : World C) → Run m n events past w → length past ≡ length events
  run_length n events past w start = refl
  run_length n events past w (more {events = es} {past = before} {w = last} e next run is so) =
      omega (arith, run_length n es before last run, length-append before (last ∷ []), length-append es (e ∷ []))

  -- the next event is due at the last moment
  place_is : (n : ℕ) (events trace : List (Event C)) (outcomes : List Outcome) (past : List (World C)) (w : World C) → Trace m n events outcomes trace past w → place_after 0 outcomes ≡ length past
  place_is n events trace outcomes past w nothing = refl
  place_is n events trace outcomes past w (kept {events = es} {trace = ts} {outcomes = os} {past = before} {w = last} e next t is so) =
      omega (arith, place_more 0 os Kept, place_is n es ts os before last t, length-append before (last ∷ []))
  place_is n events trace outcomes past w (crashed {events = es} {trace = ts} {outcomes = os} {past = before} {w = last} e i next t is so) =
      omega (arith, place_more 0 os model.Crashed, place_is n es ts os before last t, length-append before (last ∷ []))
  place_is n events trace outcomes past w (left_out {events = es} {trace = ts} {outcomes = os} {past = before} {w = last} e r t left) =
      place_more 0 os (LeftOut r) ∙ place_is n es ts os before last t

  stands_on : (trace : List (Event C)) (past : List (World C)) (w next : World C) (c : Event C) (place : ℕ) (e : Event C) (o : Outcome) → MayBecome m trace past w place e o → MayBecome m (trace ++ c ∷ []) (past ++ w ∷ []) next place e o
  stands_on trace past w next c place e Kept s = tt
  stands_on trace past w next c place e (LeftOut r) s = tt
  stands_on trace past w next c place e model.Crashed s = record {
    before = s.before;
    who = s.who;
    before_is = get-more (past ++ w ∷ []) (next ∷ []) place s.before s.before_is;
    crash_is = get-more trace (c ∷ []) place (Crashes s.who) s.crash_is;
    of = s.of;
    lacking = s.lacking;
  }

  became_on : (trace : List (Event C)) (past : List (World C)) (w next : World C) (c : Event C) (handed : List (Event C)) (outcomes : List Outcome) → EachBecame (MayBecome m trace past w) 0 handed outcomes →
      EachBecame (MayBecome m (trace ++ c ∷ []) (past ++ w ∷ []) next) 0 handed outcomes
  became_on trace past w next c handed outcomes all =
      became_map (MayBecome m trace past w) (MayBecome m (trace ++ c ∷ []) (past ++ w ∷ []) next) (λ place e o became. stands_on trace past w next c place e o became) 0 handed outcomes all

  starved_now : (trace : List (Event C)) (past : List (World C)) (w next : World C) (e : Event C) (i place : ℕ) → place ≡ length past → length past ≡ length trace → acting_server m w e ≡ Some i → ((s : Raft C) → slice_get w.servers i ≡ Some s → OutOfMemoryMayEndFor w e s) →
      OutOfMemoryCrash m (trace ++ Crashes i ∷ []) (past ++ w ∷ []) next place e
  starved_now trace past w next e i place due same is lacking = record {
    before = w;
    who = i;
    before_is = get-more (past ++ w ∷ []) (next ∷ []) place w (subst (λ k. slice_get (past ++ w ∷ []) k ≡ Some w) (sym due) (get-last past w));
    crash_is = subst (λ k. slice_get (trace ++ Crashes i ∷ []) k ≡ Some (Crashes i)) (sym (due ∙ same)) (get-last trace (Crashes i));
    of = is;
    lacking = lacking;
  }

-- ---- one event after the other

module _ {S C : Type 0} (m : MachineSpec S C) (n : ℕ) where
  pub play_begins : (seen : WorldView S C) → IsNew m n seen → Played m n [] seen
  play_begins seen begun = record {
    count = begun.count;
    outcomes = [];
    past = [];
    world = first n;
    trace = subst (λ es. Trace m n [] [] es [] (first n)) (sym begun.trace) nothing;
    runs = new_runs m n seen begun.count begun.trace begun.chain begun.refines;
    became = tt;
  }

  -- an event that left the same world
  passed_over : (handed : List (Event C)) (old new : WorldView S C) (e : Event C) (r : Refusal) (p : Played m n handed old) → model.IsLeftOut m p.world e r → SameWorld old new → Played m n (handed ++ e ∷ []) new
  passed_over handed old new e r p left same = record {
    count = same_count m old new same ∙ p.count;
    outcomes = p.outcomes ++ LeftOut r ∷ [];
    past = p.past;
    world = p.world;
    trace = subst (λ es. Trace m n (handed ++ e ∷ []) (p.outcomes ++ LeftOut r ∷ []) es p.past p.world) (sym same.trace) (left_out e r p.trace left);
    runs = same_runs m old new same p.past p.world p.runs;
    became = subst (λ ts. EachBecame (MayBecome m ts p.past p.world) 0 (handed ++ e ∷ []) (p.outcomes ++ LeftOut r ∷ [])) (sym same.trace) (became_more (MayBecome m old.trace p.past p.world) 0 handed p.outcomes e (LeftOut r) p.became tt);
  }

  pub play_next : (handed : List (Event C)) (old new : WorldView S C) (e : Event C) (result : Result Done Refusal) → IsEvent m e → Played m n handed old →
      IfOk result (λ done. WasDone m old e done new) → OnErr result (SameWorld old new) → IfErr result (λ refusal. refusal ≢ refusals.NoMemory → RefusesEvent m old e refusal) → result ≢ Err refusals.NoMemory →
      Played m n (handed ++ e ∷ []) new
  play_next handed old new e (Ok Taken) is p went err cause memory =
      let q = went.runs p.past p.world p.runs in
      record {
        count = went.size ∙ p.count;
        outcomes = p.outcomes ++ Kept ∷ [];
        past = p.past ++ p.world ∷ [];
        world = q.0;
        trace = subst (λ es. Trace m n (handed ++ e ∷ []) (p.outcomes ++ Kept ∷ []) es (p.past ++ p.world ∷ []) q.0) (sym went.trace) (kept e q.0 p.trace is q.1);
        runs = q.2;
        became = subst (λ ts. EachBecame (MayBecome m ts (p.past ++ p.world ∷ []) q.0) 0 (handed ++ e ∷ []) (p.outcomes ++ Kept ∷ [])) (sym went.trace)
            (became_more (MayBecome m (old.trace ++ e ∷ []) (p.past ++ p.world ∷ []) q.0) 0 handed p.outcomes e Kept (became_on m old.trace p.past p.world q.0 e handed p.outcomes p.became) tt);
      }
  play_next handed old new e (Ok Crashed) is p went err cause memory = elim went [
    | inl f ↦
        let happened = f.happened in
        let q = happened.runs p.past p.world p.runs in
        let run = p.runs in
        record {
          count = happened.size ∙ p.count;
          outcomes = p.outcomes ++ model.Crashed ∷ [];
          past = p.past ++ p.world ∷ [];
          world = q.0;
          trace = subst (λ es. Trace m n (handed ++ e ∷ []) (p.outcomes ++ model.Crashed ∷ []) es (p.past ++ p.world ∷ []) q.0) (sym happened.trace) (crashed e f.who q.0 p.trace (f.actor p.world run.refines) q.1);
          runs = q.2;
          became = subst (λ ts. EachBecame (MayBecome m ts (p.past ++ p.world ∷ []) q.0) 0 (handed ++ e ∷ []) (p.outcomes ++ model.Crashed ∷ [])) (sym happened.trace)
              (became_more (MayBecome m (old.trace ++ Crashes f.who ∷ []) (p.past ++ p.world ∷ []) q.0) 0 handed p.outcomes e model.Crashed (became_on m old.trace p.past p.world q.0 (Crashes f.who) handed p.outcomes p.became)
              (starved_now m old.trace p.past p.world q.0 e f.who (place_after 0 p.outcomes) (place_is m n handed old.trace p.outcomes p.past p.world p.trace) (run_length m (length old.servers) old.trace p.past p.world run.run) (f.actor p.world run.refines) (λ s at. f.lacking p.world s run.refines at)));
        }
    | inr s ↦ let run = p.runs in passed_over handed old new e refusals.NoMemory p (inr (s.restart, s.could p.world run.refines, refl)) (subst (λ x. SameWorld old x) (sym s.same) (same_world old))
  ]
  play_next handed old new e (Err refusal) is p went err cause memory =
      passed_over handed old new e refusal p (inl (cause (λ r. memory (ap (λ x. Err x) r)) p.past p.world p.runs)) err
