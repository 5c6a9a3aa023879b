use Rattle.std.proofs.Common.{refl}
use Rattle.runner.proofs.sweeping.sweep_file.Goals as goal

pub returns-clause-told : goal.returns-clause-told
returns-clause-told g c = record {
  scenario = c.in_ok-scenario.scenario;
  read = c.in_ok-scenario.ensures.read;
  good = c.in_ok-check_steps.ensures.good;
  settings = c.in_ok-settings.settings;
  under = c.in_ok-settings.ensures.ok;
  rows = c.in_ok-show_runs.ensures.told.0;
  are = c.in_ok-show_runs.ensures.told.1;
  shown = c.in_ok-show_runs.ensures.told.2;
  taken = refl;
}
