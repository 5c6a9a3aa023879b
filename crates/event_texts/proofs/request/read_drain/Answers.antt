use Rattle.std.proofs.Common.{◌≡◌, ◌∙◌, ℕ, Bool, List, arith, codes, decimal, false, refl, rules, sym, true}
use Rattle.event_texts.proofs.Words.{apart}
use Rattle.event_texts.specs.Laws.PlainTexts.{decimal_lacks}
use Rattle.event_texts.specs.Requests.{mode_text}
use Rattle.event_texts.proofs.request.read_drain.Goals as goal

is_slow : (force : Bool) (mode : List ℕ) → mode ≡ codes "slow" → mode ≡ mode_text force → force ≡ false
is_slow true mode slow is = apart 0 refl (sym slow ∙ is)
is_slow false mode slow is = refl

is_force : (force : Bool) (mode : List ℕ) → mode ≡ codes "force" → mode ≡ mode_text force → force ≡ true
is_force true mode slow is = refl
is_force false mode slow is = apart 0 refl (sym slow ∙ is)

is_either : (force : Bool) (mode : List ℕ) → (mode ≡ codes "slow" → ⊥) → (mode ≡ codes "force" → ⊥) → mode ≡ mode_text force → ⊥
is_either true mode slow force is = force is
is_either false mode slow force is = slow is

pub returns-in_err-node-clause-read : goal.returns-in_err-node-clause-read
returns-in_err-node-clause-read c node force fits is =
    absurd (c.in_err-node.ensures.first (decimal node) _ (decimal_lacks 32 node (λ h. omega arith) (omega arith)) is)

pub returns-in_err-node-2-clause-read : goal.returns-in_err-node-2-clause-read
returns-in_err-node-2-clause-read c node force fits is =
    let first = c.in_ok-node.ensures.first (decimal node) _ (decimal_lacks 32 node (λ h. omega arith) (omega arith)) is in
    let number = c.read_node.ensures.read node fits first.0 in
    search rules

pub returns-in-slow-clause-read : goal.returns-in-slow-clause-read
returns-in-slow-clause-read c node force fits is =
    let first = c.in_ok-node.ensures.first (decimal node) _ (decimal_lacks 32 node (λ h. omega arith) (omega arith)) is in
    let number = c.read_node.ensures.read node fits first.0 in
    rw (is_slow force _ c.in-slow.is first.1) (search rules)

pub returns-in-force-clause-read : goal.returns-in-force-clause-read
returns-in-force-clause-read c node force fits is =
    let first = c.in_ok-node.ensures.first (decimal node) _ (decimal_lacks 32 node (λ h. omega arith) (omega arith)) is in
    let number = c.read_node.ensures.read node fits first.0 in
    rw (is_force force _ c.in-force.is first.1) (search rules)

pub returns-in_default-clause-read : goal.returns-in_default-clause-read
returns-in_default-clause-read c node force fits is =
    let first = c.in_ok-node.ensures.first (decimal node) _ (decimal_lacks 32 node (λ h. omega arith) (omega arith)) is in
    let number = c.read_node.ensures.read node fits first.0 in
    absurd (is_either force _ c.in_default.not-slow c.in_default.not-force first.1)
