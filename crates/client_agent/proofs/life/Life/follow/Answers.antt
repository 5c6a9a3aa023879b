use Rattle.std.proofs.Common.{sym, subst}
use Rattle.group_model.specs.Agents.{Life, Running, is_shown}
use Rattle.client_agent.specs.Capacity.{FitTogether}
use Rattle.client_agent.proofs.Fits.{fit_part}
use Rattle.client_agent.proofs.life.Life.follow.Goals as goal

pub start_listed-requires : goal.start_listed-requires
start_listed-requires c =
    let fit = subst (λ (l : Life). FitTogether c.args.whole l.running) (sym c.self.view_is) c.requires.fit in
    rw c.keep_shown.ensures (fit_part c.args.whole (λ (r : Running). is_shown c.args.rows.now r.id) c.self.inside.running.items fit)
