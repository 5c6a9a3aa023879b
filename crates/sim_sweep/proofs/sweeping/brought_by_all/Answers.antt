use Rattle.std.proofs.Common.{ℕ, All}
use Rattle.std.specs.Prelude.{MatchResult}
use Rattle.sim_sweep.specs.Inner.Found.{IsNumbered}
use Rattle.sim_sweep.specs.Rows.{WhyNoRow}
use Rattle.sim_sweep.proofs.Keys.{all_gathered, all_zipped, err_of_match, ok_of_match}
use Rattle.sim_sweep.proofs.sweeping.brought_by_all.Goals as goal

pub returns : goal.returns
returns g c =
    let task = c.args.task.now in
    let brought = c.in_ok-collect.ensures in
    let chain = rw c.map.ensures.f at brought.1 in
    let result = c.in_ok-collect.field-0 in
    let whole = all_gathered (λ rows. All (IsNumbered task.scenario.now task.settings task.first) rows.items) (WhyNoRow task.scenario.now task.settings) (λ all. all.items) brought.0 result
    (all_zipped (λ rows. MatchResult rows (λ own. All (IsNumbered task.scenario.now task.settings task.first) own.items) (WhyNoRow task.scenario.now task.settings)) (λ (worker : ℕ) rows. MatchResult rows (λ own. All (IsNumbered task.scenario.now task.settings task.first) own.items) (WhyNoRow task.scenario.now task.settings)) (λ worker rows is. is) chain.0 brought.0 chain.2) brought.2 in
    record {
      brought = ok_of_match _ _ result whole;
      refused = err_of_match _ _ result whole;
    }
