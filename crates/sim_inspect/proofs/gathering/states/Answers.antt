use Rattle.std.proofs.Common.{◌≡◌, ◌∙◌, ◌<◌, ◌≤◌, List, inl, inr, length, refl, rules, subst, sym, true, true≢false}
use Rattle.std.specs.List.{AllZip, list_any}
use Rattle.std.proofs.lemmas.List.{take_all}
use Rattle.std.proofs.lemmas.Option.{slice_get_read}
use Rattle.sim_report_lines.specs.declared.recorder.Standing.{Standing}
use Rattle.sim_inspect.specs.Inner.Applied.{AreStanding, IsStateAfter, has_applied}
use Rattle.sim_inspect.proofs.AppliedNumbers.{is_applied}
use Rattle.sim_inspect.proofs.Zips.{zip_more}
use Rattle.sim_inspect.proofs.gathering.states.Goals as goal

pub loop-one-preserved : goal.loop-one-preserved
loop-one-preserved c =
    let servers = c.args.world.now.servers in
    let items = c.deref-one-items.result.now in
    let i = c.loop-one.one-index in
    let one = c.one-item.result in
    let lt : i < length items = search rules in
    let so : AreStanding servers items = rw (sym c.deref-one-items.ensures.value) at c.in_ok-all.ensures in
    let some : list_any (has_applied one.applied) servers ≡ true = is_applied servers items so i one (slice_get_read items _ i one refl lt c.one-item.is) in
    elim c.in_ok-push_state.ensures [
      | inl none ↦ absurd (true≢false (sym some ∙ none.0))
      | inr put ↦ zip_more (IsStateAfter servers) items i one c.loop-one.reports.items _ put.0 lt c.one-item.is c.loop-one.invariant put.1 put.2
    ]

pub returns : goal.returns
returns c =
    let servers = c.args.world.now.servers in
    let items = c.deref-one-items.result.now in
    let i = c.loop-one.one-index in
    let most : length items ≤ i = search rules in
    record {
      standing = items;
      are = rw (sym c.deref-one-items.ensures.value) at c.in_ok-all.ensures;
      each = subst (λ (all : List Standing). AllZip (IsStateAfter servers) all c.loop-one.reports.items) (take_all i items most) c.loop-one.invariant;
    }
