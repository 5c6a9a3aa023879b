use Rattle.sim_args.specs.Words.{bare_app, check_app, draw_app, expand_app, inspect_app, recover_app, replay_app, run_app, sweep_app, tell_app, threads_app}
use Rattle.sim_args.proofs.command.program.Goals as goal

pub returns : goal.returns
returns c =
    let with_run = c.with_part-whole.ensures bare_app run_app ((c.bare.ensures.app, c.bare.ensures.local), tt) c.run_command.ensures in
    let with_threads = c.with_part-whole-2.ensures _ threads_app with_run c.threads_command.ensures in
    let with_replay = c.with_part-whole-3.ensures _ replay_app with_threads c.replay_command.ensures in
    let with_draw = c.with_part-whole-4.ensures _ draw_app with_replay c.draw_command.ensures in
    let with_check = c.with_part-whole-5.ensures _ check_app with_draw c.check_command.ensures in
    let with_tell = c.with_part-whole-6.ensures _ tell_app with_check c.tell_command.ensures in
    let with_inspect = c.with_part-whole-7.ensures _ inspect_app with_tell c.inspect_command.ensures in
    let with_recover = c.with_part-whole-8.ensures _ recover_app with_inspect c.recover_command.ensures in
    let with_expand = c.with_part-whole-9.ensures _ expand_app with_recover c.expand_command.ensures in
    c.with_part-whole-10.ensures _ sweep_app with_expand c.sweep_command.ensures
