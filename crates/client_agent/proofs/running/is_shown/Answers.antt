use Rattle.std.proofs.Common.{rules, ◌∙◌}
use Rattle.std.proofs.lemmas.Fn.{always_returns_same}
use Rattle.rows.specs.Ids.{alloc_cmp}
use Rattle.rows.specs.declared.listing.ListedAllocation.{ListedAllocation}
use Rattle.client_agent.proofs.Indexes.{shown_by_place}
use Rattle.client_agent.proofs.running.is_shown.Goals as goal

pub returns : goal.returns
returns c =
    let id = c.args.id.now in
    c.is_ok.ensures.value
    ∙ shown_by_place c.args.rows.now id c.binary_search_by.result c.requires c.binary_search_by.ensures.bound
    (c.binary_search_by.ensures.position (λ (y : ListedAllocation). alloc_cmp y.id id) (always_returns_same _ _ _ (λ a r q k. (search rules, search rules))))
