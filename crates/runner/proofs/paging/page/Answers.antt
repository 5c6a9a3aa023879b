use Rattle.std.proofs.Common.{length, subst, sym}
use Rattle.runner.specs.Pages.{IsPage}
use Rattle.runner.proofs.paging.page.Goals as goal

pub returns-clause-page : goal.returns-clause-page
returns-clause-page g c =
    let page_as = IsPage c.args.path.now c.args.servers (length c.args.nodes.now) (length c.args.events.now) in
    record {
      text = c.as_str.result.now;
      page = subst page_as (sym c.as_str.ensures.value) c.in_ok-text.ensures.page;
      appended = c.in_ok-write_out.ensures.ok;
    }
