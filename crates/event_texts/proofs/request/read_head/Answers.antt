use Rattle.std.proofs.Common.{arith, decimal, refl, rules}
use Rattle.event_texts.specs.Laws.PlainTexts.{decimal_lacks, name_lacks}
use Rattle.event_texts.proofs.request.read_head.Goals as goal

pub returns-in_err-priority-clause-read : goal.returns-in_err-priority-clause-read
returns-in_err-priority-clause-read c name priority groups named fits is =
    let first = c.in_ok-name.ensures.first name _ (name_lacks 32 name refl named.2) is in
    absurd (c.in_err-priority.ensures.first (decimal priority) _ (decimal_lacks 32 priority (λ h. omega arith) (omega arith)) first.1)

pub returns-in_err-read_priority-clause-read : goal.returns-in_err-read_priority-clause-read
returns-in_err-read_priority-clause-read c name priority groups named fits is =
    let first = c.in_ok-name.ensures.first name _ (name_lacks 32 name refl named.2) is in
    let second = c.in_ok-priority.ensures.first (decimal priority) _ (decimal_lacks 32 priority (λ h. omega arith) (omega arith)) first.1 in
    let third = c.read_priority.ensures.read priority fits second.0 in
    search rules

pub returns-clause-read : goal.returns-clause-read
returns-clause-read c name priority groups named fits is =
    let first = c.in_ok-name.ensures.first name _ (name_lacks 32 name refl named.2) is in
    let second = c.in_ok-priority.ensures.first (decimal priority) _ (decimal_lacks 32 priority (λ h. omega arith) (omega arith)) first.1 in
    let third = c.read_priority.ensures.read priority fits second.0 in
    let fourth = c.read_name.ensures.read name named first.0 in
    search rules
