use Rattle.std.proofs.Common.{◌≡◌, arith, decimal, refl, rules}
use Rattle.event_texts.specs.Laws.PlainTexts.{decimal_lacks, name_lacks}
use Rattle.event_texts.proofs.spelled.PlaceSpelled.read_text.Goals as goal

pub returns-in_err-index-clause-read : goal.returns-in_err-index-clause-read
returns-in_err-index-clause-read c p fits is =
    let first = c.in_ok-group.ensures.first p.group _ (name_lacks 58 p.group refl fits.0.2) is in
    absurd (c.in_err-index.ensures.first (decimal p.index) _ (decimal_lacks 58 p.index (λ h. omega arith) (omega arith)) first.1)

pub returns-in_err-read_ordinal-clause-read : goal.returns-in_err-read_ordinal-clause-read
returns-in_err-read_ordinal-clause-read c p fits is =
    let first = c.in_ok-group.ensures.first p.group _ (name_lacks 58 p.group refl fits.0.2) is in
    let second = c.in_ok-index.ensures.first (decimal p.index) _ (decimal_lacks 58 p.index (λ h. omega arith) (omega arith)) first.1 in
    let index = c.read_ordinal.ensures.read p.index fits.1 second.0 in
    search rules

pub returns-in_err-read_node-clause-read : goal.returns-in_err-read_node-clause-read
returns-in_err-read_node-clause-read c p fits is =
    let first = c.in_ok-group.ensures.first p.group _ (name_lacks 58 p.group refl fits.0.2) is in
    let second = c.in_ok-index.ensures.first (decimal p.index) _ (decimal_lacks 58 p.index (λ h. omega arith) (omega arith)) first.1 in
    let node = c.read_node.ensures.read p.node fits.2 second.1 in
    search rules

pub returns-clause-read : goal.returns-clause-read
returns-clause-read c p fits is =
    let first = c.in_ok-group.ensures.first p.group _ (name_lacks 58 p.group refl fits.0.2) is in
    let second = c.in_ok-index.ensures.first (decimal p.index) _ (decimal_lacks 58 p.index (λ h. omega arith) (omega arith)) first.1 in
    let group = c.read_name.ensures.read p.group fits.0 first.0 in
    let index = c.read_ordinal.ensures.read p.index fits.1 second.0 in
    let node = c.read_node.ensures.read p.node fits.2 second.1 in
    let is_group : c.in_ok-read_name.field-0 ≡ p.group = search rules in
    let is_index : c.in_ok-read_ordinal.field-0 ≡ p.index = search rules in
    let is_node : c.in_ok-read_node.field-0 ≡ p.node = search rules in
    rw (is_group, is_index, is_node) refl
