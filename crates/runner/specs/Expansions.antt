-- What a scenario in short form comes to.
use Rattle.std.specs.Prelude.{◌≡◌, ℕ, List, [], map}
use Rattle.std.specs.List.{All}
use Rattle.sim_scenario.specs.Complaints.{IsStepLine}
use Rattle.sim_play.specs.declared.play.Play.{Play}
use Rattle.sim_expand.specs.declared.short.ShortScenario.{ShortScenario}
use Rattle.sim_expand.specs.EachInTurn.{OfEachBehind}
use Rattle.sim_expand.specs.Expanded.{AreTaken, LinesOf}
use Rattle.sim_expand.specs.Plains.{IsPlainOf, plain_form}
use Rattle.sim_expand.specs.ShortSteps.{short_step}
use Rattle.sim_expand.specs.Shorts.{IsShortText}

-- each of its steps took these lines in turn, and by them a new group of its own came to stand so
pub record TakesLines (s : ShortScenario) (lines : List (List ℕ)) : Type 0 where
  pub order : OfEachBehind (LinesOf s.settings s.nodes.items) [] [] (map short_step s.steps.items) lines
  pub play : Play
  pub taken : AreTaken s.settings s.nodes.items lines play

-- The text in short form comes to this plain one: which is the scenario of just the lines, each a
-- step's, that were taken.
pub record IsExpansion (text form : List ℕ) : Type 0 where
  pub short : ShortScenario
  pub read : IsShortText text short
  pub lines : List (List ℕ)
  pub taken : TakesLines short lines
  pub good : All IsStepLine lines
  pub plain : IsPlainOf form short.settings short.nodes.items lines
  pub is : form ≡ plain_form short.settings short.nodes.items lines
