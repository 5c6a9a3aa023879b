-- A list of events has one run.
use Rattle.std.proofs.Common.{◌≡◌, ℕ, Ok, List, [], ◌∷◌, ◌++◌, length, refl, sym, ap, ◌∙◌, subst}
use Rattle.machine_model.specs.MachineSpec.{MachineSpec}
use Rattle.machine_model.specs.declared.entry.Entry.{Entry}
use Rattle.raft_model.specs.Worlds.{World, Event, Run, start, more, happens}
use Rattle.raft_model.specs.Chains.{Chain}
use Rattle.raft_safety.specs.Claims.{EachRun, IsGreatestCommit}
use Rattle.world.specs.WorldView.{WorldView, RunsTo, IsRaftWorld}
use Rattle.world.specs.Claims.{OneListEver}

-- two lists that end alike are alike
pub ends_alike : {A : Type 0} (xs ys : List A) (x y : A) → xs ++ x ∷ [] ≡ ys ++ y ∷ [] → (xs ≡ ys) × (x ≡ y)
ends_alike [] [] x y h = (refl, cc)
ends_alike [] (b ∷ []) x y h = absurd (cc)
ends_alike [] (b ∷ c ∷ ys) x y h = absurd (cc)
ends_alike (a ∷ []) [] x y h = absurd (cc)
ends_alike (a ∷ c ∷ xs) [] x y h = absurd (cc)
ends_alike (a ∷ xs) (b ∷ ys) x y h =
    let head : a ≡ b = cc in
    let tail : xs ++ x ∷ [] ≡ ys ++ y ∷ [] = cc in
    let r = ends_alike xs ys x y tail in
    (rw (head, r.0) refl, r.1)

pub no_end : {A : Type 0} (xs : List A) (x : A) → xs ++ x ∷ [] ≡ [] → ⊥
no_end [] x h = cc
no_end (a ∷ xs) x h = cc

module _ {S C : Type 0} (m : MachineSpec S C) (n : ℕ) where
  pub run_is_one : (events again : List (Event C)) (past past2 : List (World C)) (w w2 : World C) → events ≡ again → Run m n events past w → Run m n again past2 w2 → (past ≡ past2) × (w ≡ w2)
  run_is_one events again past past2 w w2 same start start = (refl, refl)
  run_is_one events again past past2 w w2 same start (more {events = fs} f next2 run2 is2 so2) = absurd (no_end fs f (sym same))
  run_is_one events again past past2 w w2 same (more {events = es} e next run is so) start = absurd (no_end es e same)
  run_is_one events again past past2 w w2 same (more {events = es} {past = before} {w = last} e next run is so) (more {events = fs} {past = before2} {w = last2} f next2 run2 is2 so2) =
      let s = ends_alike es fs e f same in
      let q = run_is_one es fs before before2 last last2 s.0 run run2 in
      let x : e ≡ f = s.1 in
      let y : last ≡ last2 = q.1 in
      let z : Ok next ≡ Ok next2 = sym so ∙ (ap (λ v. happens m v e) y ∙ (ap (λ v. happens m last2 v) x ∙ so2)) in
      let k : next ≡ next2 = cc in
      (ap (λ l. l ++ last ∷ []) q.0 ∙ ap (λ v. before2 ++ v ∷ []) y, k)

module _ {S C : Type 0} (m : MachineSpec S C) where
  -- so all runs of a value are one
  pub runs_are_one : (seen : WorldView S C) (past past2 : List (World C)) (w w2 : World C) → RunsTo m seen past w → RunsTo m seen past2 w2 → (past ≡ past2) × (w ≡ w2)
  runs_are_one seen past past2 w w2 one other = run_is_one m (length seen.servers) seen.trace seen.trace past past2 w w2 refl one.run other.run

  -- and they have one list
  pub one_list_ever : (seen : WorldView S C) → IsRaftWorld m seen → EachRun m (λ n events past w. (list : List (Entry C)) × Chain past w list) →
      ((past : List (World C)) (w : World C) (list : List (Entry C)) → Chain past w list → IsGreatestCommit past w (length list)) →
      ((past : List (World C)) (w : World C) (c d : ℕ) → IsGreatestCommit past w c → IsGreatestCommit past w d → c ≡ d) → OneListEver m seen
  one_list_ever seen r exists long number =
      let runs = r.runs in
      let l = exists (length seen.servers) seen.trace r.past r.world runs.run in
      record {
        past = r.past;
        world = r.world;
        runs = runs;
        list = l.0;
        long = number r.past r.world (length l.0) seen.chain (long r.past r.world l.0 l.1) runs.chain;
        ever = λ past w q.
            let same = runs_are_one seen r.past past r.world w runs q in
            subst (λ x. Chain past x l.0) same.1 (subst (λ x. Chain x r.world l.0) same.0 l.1);
      }
