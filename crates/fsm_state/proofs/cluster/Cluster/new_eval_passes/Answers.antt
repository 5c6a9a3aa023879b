use mir.Val.{bool_byte}
use Rattle.std.proofs.Common.{◌≡◌, ℕ, ◌+◌, Bool, true, false, cond, length, is_some, refl, sym, ap, ◌∙◌}
use Rattle.std.specs.Prelude.{nat_lt}
use Rattle.fsm_state.proofs.Admitting.{mapped_some}
use Rattle.fsm_state.proofs.Touching.{named_once}
use Rattle.fsm_state.proofs.cluster.Cluster.new_eval_passes.Goals as goal

as_number : (b : Bool) → bool_byte b ≡ cond b 1 0
as_number true = refl
as_number false = refl

pub returns : goal.returns
returns c =
    let has = c.is_some-has_row.ensures ∙ sym (mapped_some (λ r. r.now) c.job.result) ∙ ap is_some c.job.ensures in
    let more = as_number c.is_some-has_row.result ∙ ap (λ b. cond b 1 0) has ∙ sym (named_once c.args.name.now c.args.self.now.jobs c.ranges-2.ensures.tables.jobs.rising) in
    c.evals_pass.ensures ∙ ap (λ (n : ℕ). nat_lt 65536 (length c.args.self.now.evals + n)) more
