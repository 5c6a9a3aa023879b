use Rattle.std.proofs.Common.{◌≡◌, ℕ, take, drop, add-zero, sym, ap, ◌∙◌}
use Rattle.std.proofs.lemmas.List.{drop-take}
use Rattle.raft_snapshot.specs.Bases.{state_from}
use Rattle.raft_snapshot.proofs.Applies.{from-none}
use Rattle.test_units.proofs.tests.logs.state_at.Goals as goal

-- at the base nothing more is applied
pub apply_range-requires-clause-state : goal.apply_range-requires-clause-state
apply_range-requires-clause-state g c =
    let m = g.M.Machine.spec in
    let base = c.args.log.now.base in
    let es = c.args.log.now.entries in
    let rest : drop base.index (take base.index es) ≡ take 0 (drop base.index es) = ap (λ (i : ℕ). drop base.index (take i es)) (sym (add-zero base.index)) ∙ drop-take base.index 0 es in
    let none = from-none m base.state (drop base.index es) ∙ sym (ap (state_from m (record { index = 0; term = 0; state = base.state })) rest) in
    rw (c.get-covered.ensures.value ∙ c.covered.ensures.value) (c.in-Ok.ensures ∙ c.state.ensures.value ∙ none)
