use Rattle.sim_files.proofs.running.run_file.Goals as goal

pub returns-clause-told : goal.returns-clause-told
returns-clause-told g c =
    let contents = g.W.Write.contents in
    let told = rw c.deref.ensures.value at c.in_ok-status.ensures.told in
    record {
      scenario = c.in_ok-scenario.scenario;
      read = c.in_ok-scenario.ensures.read;
      good = c.in_ok-steps.ensures.good;
      first = c.in_ok-play.play;
      last = c.take_steps.new.stage;
      begun = c.in_ok-play.ensures.ok;
      refused = told.0;
      played = told.1;
      recorded = c.in_ok-end_run.ensures.written;
      told = (contents c.take_steps.new.out, told.2, c.in_ok-end_run.ensures.ending);
    }
