-- Registrations and reports at a full log.
use Rattle.std.proofs.Common.{◌≡◌, Bool, true, false, cond, not, Some, refl, ap, ◌∙◌}
use Rattle.rows.specs.declared.refusal.Refusal.TheVariants as refusals
use Rattle.fsm_model.specs.Admission.{admission}
use Rattle.group_model.specs.Inputs.{Act}
use Rattle.group_model.specs.Desks.{projected_state}
use Rattle.group_model.specs.ClientRequests.{proposes_for}
use Rattle.group_model.specs.FullLogs.{TakenAtFullLog, ExhaustedAtFullLog}

-- the second of three, and the third
second : (a b : Bool) (x y z : Act) → a ≡ true → b ≡ true → cond (not a) x (cond b y z) ≡ y
second true true x y z p q = refl
second true false x y z p q = absurd (cc)
second false b x y z p q = absurd (cc)

third : (a b : Bool) (x y z : Act) → a ≡ true → b ≡ false → cond (not a) x (cond b y z) ≡ z
third true false x y z p q = refl
third true true x y z p q = absurd (cc)
third false b x y z p q = absurd (cc)

pub taken_at_full_log : TakenAtFullLog
taken_at_full_log me c s kind command d h taken = second _ _ _ _ _ h.leads taken

pub exhausted_at_full_log : ExhaustedAtFullLog
exhausted_at_full_log me c s kind command d h other =
    third _ _ _ _ _ h.leads other ∙ ap (λ b. proposes_for me c kind command d (cond b (admission (projected_state s) command) (Some refusals.Exhausted))) h.full
