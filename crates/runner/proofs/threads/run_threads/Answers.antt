use Rattle.std.proofs.Common.{◌≡◌, ◌∙◌, subst}
use Rattle.cells.specs.Actors.{group_size}
use Rattle.cells.proofs.Members.{size_is}
use Rattle.sim_scenario.specs.Objects.{step_lines}
use Rattle.runner.specs.Inner.Closed.{TellsLinesOn}
use Rattle.runner.proofs.threads.run_threads.Goals as goal

pub returns-clause-told : goal.returns-clause-told
returns-clause-told g c =
    let all = g.B.BookId.actors in
    let contents = g.W.Write.contents in
    let s = c.args.scenario.now in
    let cells = c.in_ok-status.cells in
    let played = c.in_ok-status.ensures in
    let size : group_size all ≡ s.settings.servers = size_is cells.servers cells.clients all played.whole.group ∙ played.servers in (
      contents c.play_threads.new.out,
      all,
      cells.cells.items,
      subst (λ n. TellsLinesOn n all (step_lines s) c.in_ok-status.status (contents c.args.out.now) (contents c.play_threads.new.out)) size played.told,
      rw (played.servers, played.nodes) at c.in_ok-end_threads.ensures.told,
    )
