use Rattle.std.proofs.Common.{◌≡◌, List, Result, Ok, Err, ap, rules}
use Rattle.std.specs.Result.{IfErr, IfOk}
use Rattle.rows.specs.declared.refusal.Refusal.{Refusal}
use Rattle.rows.specs.declared.refusal.Refusal.TheVariants.{OutOfRange}
use Rattle.rows.specs.declared.job.Group.{Group}
use Rattle.rows.specs.Groups.{AreGroups}
use Rattle.event_texts.proofs.request.read_groups.Goals as goal

is_checked : (r : Result (List Group) Refusal) (items : List Group) → IfOk r (λ groups. (groups ≡ items) × AreGroups items)
    → IfErr r (λ e. (e ≡ OutOfRange) × (AreGroups items → ⊥)) → AreGroups items → r ≡ Ok items
is_checked (Ok groups) items ok err are = ap (λ gs. Ok gs) ok.0
is_checked (Err e) items ok err are = absurd (err.1 are)

pub returns-in_default-clause-read : goal.returns-in_default-clause-read
returns-in_default-clause-read c gs fits is =
    let read = c.read_items.ensures.read gs fits.1 fits.0.0 is in
    search rules

pub returns-clause-read : goal.returns-clause-read
returns-clause-read c gs fits is =
    let read = c.read_items.ensures.read gs fits.1 fits.0.0 is in
    let same : c.in-Some.groups ≡ gs = search rules in
    let are : AreGroups c.in-Some.groups = rw same fits.0 in
    let checked = is_checked c.check.result _ c.check.ensures.ok c.check.ensures.err are in
    rw (← same) (search rules)
