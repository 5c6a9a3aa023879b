-- The run of a list of events comes again when the list is played, unless memory is wanting.
use Rattle.std.proofs.Common.{◌≡◌, ℕ, ◌⊎◌, inl, inr, Some, Ok, Err, List, [], ◌∷◌, ◌++◌, length, refl, sym, ap, ◌∙◌, subst, slice_get}
use Rattle.machine_model.specs.MachineSpec.{MachineSpec}
use Rattle.raft_model.specs.Worlds.{World, Event, Run, start, more, happens, Outcome, Kept, LeftOut, Trace, nothing, kept, crashed, left_out}
use Rattle.raft_model.specs.Worlds.{Crashed as OutcomeCrashed}
use Rattle.raft_safety.proofs.Places.{get-more, get-last}
use Rattle.raft_safety.proofs.Chains.{greatest_one}
use Rattle.world.specs.WorldView.{WorldView, RunsTo}
use Rattle.world.specs.Steps.{Played, WasOutOfMemory, Replays}
use Rattle.world.proofs.Runs.{ends_alike, no_end, runs_are_one}

module _ {S C : Type 0} (m : MachineSpec S C) (n : ℕ) where
  -- an event for which memory was wanting
  record Lack (outcomes : List Outcome) : Type 0 where
    place : ℕ
    outcome : Outcome
    at : slice_get outcomes place ≡ Some outcome
    lacked : WasOutOfMemory outcome

  lack_on : (outcomes : List Outcome) (o : Outcome) → Lack outcomes → Lack (outcomes ++ o ∷ [])
  lack_on outcomes o l = record { place = l.place; outcome = l.outcome; at = get-more outcomes (o ∷ []) l.place l.outcome l.at; lacked = l.lacked }

  lack_now : (outcomes : List Outcome) (o : Outcome) → WasOutOfMemory o → Lack (outcomes ++ o ∷ [])
  lack_now outcomes o l = record { place = length outcomes; outcome = o; at = get-last outcomes o; lacked = l }

  -- each event was kept, on the way of the run
  record Same (events trace : List (Event C)) (past past2 : List (World C)) (w w2 : World C) : Type 0 where
    trace_is : trace ≡ events
    past_is : past ≡ past2
    world_is : w ≡ w2

  again : (events handed trace : List (Event C)) (outcomes : List Outcome) (past past2 : List (World C)) (w w2 : World C) → events ≡ handed → Trace m n events outcomes trace past w →
      Run m n handed past2 w2 → Same events trace past past2 w w2 ⊎ Lack outcomes
  again events handed trace outcomes past past2 w w2 same nothing start = inl (record { trace_is = refl; past_is = refl; world_is = refl })
  again events handed trace outcomes past past2 w w2 same nothing (more {events = fs} f next2 run is2 so2) = absurd (no_end fs f (sym same))
  again events handed trace outcomes past past2 w w2 same (kept {events = es} e next t is so) start = absurd (no_end es e same)
  again events handed trace outcomes past past2 w w2 same (crashed {events = es} e i next t actor so) start = absurd (no_end es e same)
  again events handed trace outcomes past past2 w w2 same (left_out {events = es} e r t left) start = absurd (no_end es e same)
  again events handed trace outcomes past past2 w w2 same (crashed {outcomes = os} e i next t actor so) (more f next2 run is2 so2) = inr (lack_now os OutcomeCrashed tt)
  again events handed trace outcomes past past2 w w2 same (kept {events = es} {trace = ts} {outcomes = os} {past = before} {w = last} e next t is so) (more {events = fs} {past = before2} {w = last2} f next2 run is2 so2) =
      let s = ends_alike es fs e f same in
      elim (again es fs ts os before before2 last last2 s.0 t run) [
        | inl q ↦
            let x : e ≡ f = s.1 in
            let y : last ≡ last2 = q.world_is in
            let z : Ok next ≡ Ok next2 = sym so ∙ (ap (λ v. happens m v e) y ∙ (ap (λ v. happens m last2 v) x ∙ so2)) in
            inl (record { trace_is = ap (λ l. l ++ e ∷ []) q.trace_is; past_is = ap (λ l. l ++ last ∷ []) q.past_is ∙ ap (λ v. before2 ++ v ∷ []) y; world_is = cc })
        | inr l ↦ inr (lack_on os Kept l)
      ]
  again events handed trace outcomes past past2 w w2 same (left_out {events = es} {trace = ts} {outcomes = os} {past = before} {w = last} e r t left) (more {events = fs} {past = before2} {w = last2} f next2 run is2 so2) =
      let s = ends_alike es fs e f same in
      elim (again es fs ts os before before2 last last2 s.0 t run) [
        | inl q ↦
            let x : e ≡ f = s.1 in
            let y : last ≡ last2 = q.world_is in
            elim left [
              | inl refused ↦ absurd (let z : Err r ≡ Ok next2 = sym refused ∙ (ap (λ v. happens m v e) y ∙ (ap (λ v. happens m last2 v) x ∙ so2)) in cc)
              | inr lack ↦ inr (lack_now os (LeftOut r) lack.2)
            ]
        | inr l ↦ inr (lack_on os (LeftOut r) l)
      ]

  pub replays : (handed : List (Event C)) (seen : WorldView S C) → Played m n handed seen → Replays m n handed seen
  replays handed seen p old reached count is =
      let runs = reached.runs in
      let run : Run m n handed reached.past reached.world = subst (λ es. Run m n es reached.past reached.world) is (subst (λ k. Run m k old.trace reached.past reached.world) count runs.run) in
      elim (again handed handed seen.trace p.outcomes p.past reached.past p.world reached.world refl p.trace run) [
        | inl q ↦
            let new : RunsTo m seen reached.past reached.world = subst (λ x. RunsTo m seen reached.past x) q.world_is (subst (λ x. RunsTo m seen x p.world) q.past_is p.runs) in
            inl (record {
              trace = q.trace_is ∙ sym is;
              chain = greatest_one reached.past reached.world seen.chain old.chain new.chain runs.chain;
              runs = λ past w r. let same = runs_are_one m old reached.past past reached.world w runs r in
                  subst (λ x. RunsTo m seen past x) same.1 (subst (λ x. RunsTo m seen x reached.world) same.0 new);
            })
        | inr l ↦ inr (record { played = p; place = l.place; outcome = l.outcome; at = l.at; lacked = l.lacked })
      ]
