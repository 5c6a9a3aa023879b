use Rattle.std.proofs.Common.{◌≡◌, map, sym, ap, subst, ◌∙◌}
use Rattle.rows.specs.Listings.{AreListed}
use Rattle.group_model.specs.ClientRequests.{shown, listed}
use Rattle.server.proofs.Listings.{are_listed}
use Rattle.server.proofs.server.listing.listed.Goals as goal

pub unreachable-requires : goal.unreachable-requires
unreachable-requires c =
    let s = c.args.state.now in
    let rows : c.in_ok-all_shown.field-0 ≡ listed c.args.node s = c.in_ok-all_shown.ensures ∙ ap (map shown) (c.as_slice.ensures ∙ c.in_ok-rows.ensures) in
    c.in-Err.ensures.err.1 (subst AreListed (sym rows) (are_listed c.args.node s c.count-count.ensures.fits))
