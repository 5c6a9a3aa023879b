use Rattle.std.proofs.Common.{◌≡◌, ◌++◌, drop}
use Rattle.std.specs.List.{list_all}
use Rattle.group_model.specs.Acceptance.{place_claims, is_held_once, claimed}
use Rattle.plan_apply.specs.Inner.Overlay.{kept_so_far}
use Rattle.plan_apply.proofs.names.are_alone.Given as goal

abbrev pub invariant-loop-place : goal.invariant-loop-place
invariant-loop-place l =
    let cs = claimed l.state l.job (kept_so_far l.stopped l.kept) ++ place_claims l.job l.more in
    list_all (is_held_once cs) (place_claims l.job l.more) ≡ list_all (is_held_once cs) (place_claims l.job (drop l.place-index l.more))
