use Rattle.std.proofs.Common.{length, subst, sym}
use Rattle.sim_draw.specs.Pictures.{IsRunPicture}
use Rattle.runner.specs.Pages.{IsMoments}
use Rattle.runner.proofs.paging.page_text.Goals as goal

pub returns-clause-page : goal.returns-clause-page
returns-clause-page c =
    let drawn_as = IsRunPicture c.args.servers (length c.args.nodes.now) (length c.args.events.now) in
    record {
      picture = c.as_str.result.now;
      json = c.as_str-2.result.now;
      moments = c.in_ok-found.found;
      drawn = subst drawn_as (sym c.as_str.ensures.value) c.in_ok-drawn.ensures.picture;
      told = subst (IsMoments c.in_ok-found.found) (sym c.as_str-2.ensures.value) c.in_ok-json.ensures;
      many = c.in_ok-found.ensures.moments;
      whole = rw c.name_of.ensures at c.in_ok-text.ensures;
    }
