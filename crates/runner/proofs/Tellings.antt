-- What is told of a run as a whole.
use Rattle.std.proofs.Common.{◌≡◌, ◌⊎◌, ◌∙◌, ◌≤◌, ◌∷◌, ℕ, List, [], Option, IfSome, OnOk, Result, Ok, Err, ap, arith, inl, inr, length, refl, subst}
use Rattle.clap.specs.Words.{IsAmong, Kinds}
use Rattle.rows.specs.declared.actor.Actor.{Actor}
use Rattle.rows.specs.declared.node.NodeSpec.{NodeSpec}
use Rattle.rows.specs.declared.refusal.Refusal.{Refusal}
use Rattle.world.specs.GroupView.{GroupView, nodes_of, renumbered}
use Rattle.cells.specs.Cells.{CellView}
use Rattle.cluster.specs.Closing.{ClosesTo}
use Rattle.event_texts.specs.Transcripts.{IsTranscript}
use Rattle.transcript.specs.Records.{record_of}
use Rattle.sim_ending.specs.Endings.{TellsEnding}
use Rattle.sim_scenario.specs.declared.scenario.Scenario.{Scenario}
use Rattle.sim_scenario.specs.Complaints.{IsGood}
use Rattle.sim_scenario.specs.Objects.{IsScenarioText}
use Rattle.sim_scenario.specs.Steps.{Step}
use Rattle.sim_play.specs.Played.{LinePlayed, LinesPlayed, Refused}
use Rattle.sim_files.specs.Faults.{IsStatus}
use Rattle.runner.specs.Faults.{AskForHelp}
use Rattle.runner.specs.ThreadSteps.{LinesOnThreads, RefusedOnThreads, TakenOnThreads}
use Rattle.runner.specs.Told.{TellsThreads}
use Rattle.runner.specs.Inner.Closed.{TellsClosed, TellsOnThreads}
use Rattle.runner.specs.Inner.Faults.{IsFound}
use Rattle.sim_files.specs.declared.fault.Fault.{Fault}
use Rattle.sim_files.specs.declared.fault.Fault.TheVariants.{CommandLine, CannotRead, CannotWrite, BadScenario, BadTranscript, NoSuchEvent, NoSuchStride, NoRoom, Percentages, NoMemory, Output}

-- ---- threads

-- where the group to which cells close is told to its end, its transcript is written before
pub closed_told : (n : ℕ) (nodes : List NodeSpec) (all : List Actor) (cells : List CellView) (group : GroupView) (written old new : Option (List ℕ)) (r : Result (Unit {0}) Fault)
    → ClosesTo all cells group → length group.servers ≡ n → nodes_of group ≡ renumbered 1 nodes
    → IfSome written (λ known. OnOk r (IsTranscript (record_of group) known)) → OnOk r (TellsEnding group old new)
    → OnOk r (TellsClosed n nodes all cells written old new)
closed_told n nodes all cells group written old new (Ok u) closes servers clients recorded ending = record {
  group = group;
  closes = closes;
  servers = servers;
  clients = clients;
  recorded = recorded;
  ending = ending;
}
closed_told n nodes all cells group written old new (Err fault) closes servers clients recorded ending = tt

pub on_threads_told : (file written : Option (List ℕ)) (s : Scenario) (status : ℕ) (old new : Option (List ℕ)) → IfSome file (λ text. IsScenarioText text s) → IsGood s
    → TellsOnThreads s written status old new → TellsThreads file written status old new
on_threads_told file written s status old new read good (between, all, cells, steps, closed) = record {
  scenario = s;
  read = read;
  good = good;
  all = all;
  refused = steps.0;
  played = steps.1;
  cells = cells;
  group = closed.group;
  closes = closed.closes;
  size = closed.servers;
  nodes = closed.clients;
  recorded = closed.recorded;
  told = (between, steps.2, closed.ending);
}

-- ---- lines on threads

-- a stage that stays as it is, whose steps do what they do on threads of these actors
module _ {S : Type 0} (n : ℕ) (actors_in : S → List Actor) where
  abbrev pub StaysTaken : Step → S → S → Type 0
  StaysTaken step old new = (new ≡ old) × TakenOnThreads n step

  abbrev pub StaysRefused : Step → S → Refusal → S → Type 0
  StaysRefused step old refusal new = (new ≡ old) × RefusedOnThreads n (actors_in old) step refusal

  abbrev LineOn : List Actor → List ℕ → List Refused → Type 0
  LineOn all line refused =
      LinePlayed {S = Unit {0}} (λ step old new. TakenOnThreads n step) (λ step old refusal new. RefusedOnThreads n all step refusal) line tt refused tt

  line_on : (line : List ℕ) (old new : S) (refused : List Refused) → LinePlayed StaysTaken StaysRefused line old refused new → (new ≡ old) × LineOn (actors_in old) line refused
  line_on line old new refused played =
      elim played.became [
        | inl taken ↦ (taken.0.0, record { step = played.step; named = played.named; became = inl (taken.0.1, taken.1) })
        | inr refuses ↦ (refuses.1.0, record { step = played.step; named = played.named; became = inr (refuses.0, refuses.1.1, refuses.2) })
      ]

  pub lines_on : (all : List Actor) (lines : List (List ℕ)) (first last : S) (refused : List Refused) → actors_in first ≡ all
      → LinesPlayed StaysTaken StaysRefused lines first refused last → LinesOnThreads n all lines refused
  lines_on all [] first last refused are played = (played.0, refl)
  lines_on all (line ∷ lines) first last refused are played =
      let own = line_on line first played.2 played.0 played.4 in
      (played.0, played.1, tt, played.3, subst (λ a. LineOn a line played.0) are own.1, lines_on all lines played.2 last played.1 (ap actors_in own.0 ∙ are) played.5)

-- ---- help

-- where a run ends by a fault with such a status, help was asked for
pub help_is_told : (found : Kinds) (fault : Fault) (status : ℕ) → IsFound found fault → (status ≡ 2) ⊎ IsStatus fault status → status ≤ 1 → AskForHelp found × (status ≡ 0)
help_is_told found fault status is (inl two) few = absurd (omega (arith, two, few))
help_is_told found (CommandLine error) status is (inr (inl (inl help, zero))) few = (inl (subst (λ kind. IsAmong kind found) help is), zero)
help_is_told found (CommandLine error) status is (inr (inl (inr version, zero))) few = (inr (subst (λ kind. IsAmong kind found) version is), zero)
help_is_told found (CommandLine error) status is (inr (inr other)) few = absurd (omega (arith, other.1, few))
help_is_told found (CannotRead name) status is (inr two) few = absurd (omega (arith, two, few))
help_is_told found (CannotWrite name) status is (inr two) few = absurd (omega (arith, two, few))
help_is_told found BadScenario status is (inr two) few = absurd (omega (arith, two, few))
help_is_told found (BadTranscript place hint) status is (inr two) few = absurd (omega (arith, two, few))
help_is_told found (NoSuchEvent events) status is (inr two) few = absurd (omega (arith, two, few))
help_is_told found (NoSuchStride events) status is (inr two) few = absurd (omega (arith, two, few))
help_is_told found NoRoom status is (inr two) few = absurd (omega (arith, two, few))
help_is_told found (Percentages lost repeated) status is (inr two) few = absurd (omega (arith, two, few))
help_is_told found NoMemory status is (inr three) few = absurd (omega (arith, three, few))
help_is_told found Output status is (inr two) few = absurd (omega (arith, two, few))
