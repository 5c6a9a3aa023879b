use Rattle.std.proofs.Common.{◌≡◌, arith, decimal, refl, rules}
use Rattle.event_texts.specs.Laws.PlainTexts.{decimal_lacks, name_lacks}
use Rattle.event_texts.proofs.request.read_group.Goals as goal

pub returns-in_err-count-clause-read : goal.returns-in_err-count-clause-read
returns-in_err-count-clause-read c g fits is =
    let first = c.in_ok-name.ensures.first g.name _ (name_lacks 58 g.name refl fits.0.2) is in
    absurd (c.in_err-count.ensures.first (decimal g.count) _ (decimal_lacks 58 g.count (λ h. omega arith) (omega arith)) first.1)

pub returns-in_err-class-clause-read : goal.returns-in_err-class-clause-read
returns-in_err-class-clause-read c g fits is =
    let first = c.in_ok-name.ensures.first g.name _ (name_lacks 58 g.name refl fits.0.2) is in
    let second = c.in_ok-count.ensures.first (decimal g.count) _ (decimal_lacks 58 g.count (λ h. omega arith) (omega arith)) first.1 in
    absurd (c.in_err-class.ensures.first g.class _ (name_lacks 58 g.class refl fits.2.2) second.1)

pub returns-in_err-cpu-clause-read : goal.returns-in_err-cpu-clause-read
returns-in_err-cpu-clause-read c g fits is =
    let first = c.in_ok-name.ensures.first g.name _ (name_lacks 58 g.name refl fits.0.2) is in
    let second = c.in_ok-count.ensures.first (decimal g.count) _ (decimal_lacks 58 g.count (λ h. omega arith) (omega arith)) first.1 in
    let third = c.in_ok-class.ensures.first g.class _ (name_lacks 58 g.class refl fits.2.2) second.1 in
    absurd (c.in_err-cpu.ensures.first (decimal g.size.cpu) _ (decimal_lacks 58 g.size.cpu (λ h. omega arith) (omega arith)) third.1)

pub returns-in_err-mem-clause-read : goal.returns-in_err-mem-clause-read
returns-in_err-mem-clause-read c g fits is =
    let first = c.in_ok-name.ensures.first g.name _ (name_lacks 58 g.name refl fits.0.2) is in
    let second = c.in_ok-count.ensures.first (decimal g.count) _ (decimal_lacks 58 g.count (λ h. omega arith) (omega arith)) first.1 in
    let third = c.in_ok-class.ensures.first g.class _ (name_lacks 58 g.class refl fits.2.2) second.1 in
    let fourth = c.in_ok-cpu.ensures.first (decimal g.size.cpu) _ (decimal_lacks 58 g.size.cpu (λ h. omega arith) (omega arith)) third.1 in
    absurd (c.in_err-mem.ensures.first (decimal g.size.mem) _ (decimal_lacks 58 g.size.mem (λ h. omega arith) (omega arith)) fourth.1)

pub returns-in_err-read_name-clause-read : goal.returns-in_err-read_name-clause-read
returns-in_err-read_name-clause-read c g fits is =
    let first = c.in_ok-name.ensures.first g.name _ (name_lacks 58 g.name refl fits.0.2) is in
    let name = c.read_name.ensures.read g.name fits.0 first.0 in
    search rules

pub returns-in_err-read_count-clause-read : goal.returns-in_err-read_count-clause-read
returns-in_err-read_count-clause-read c g fits is =
    let first = c.in_ok-name.ensures.first g.name _ (name_lacks 58 g.name refl fits.0.2) is in
    let second = c.in_ok-count.ensures.first (decimal g.count) _ (decimal_lacks 58 g.count (λ h. omega arith) (omega arith)) first.1 in
    let count = c.read_count.ensures.read g.count fits.1 second.0 in
    search rules

pub returns-in_err-read_name-2-clause-read : goal.returns-in_err-read_name-2-clause-read
returns-in_err-read_name-2-clause-read c g fits is =
    let first = c.in_ok-name.ensures.first g.name _ (name_lacks 58 g.name refl fits.0.2) is in
    let second = c.in_ok-count.ensures.first (decimal g.count) _ (decimal_lacks 58 g.count (λ h. omega arith) (omega arith)) first.1 in
    let third = c.in_ok-class.ensures.first g.class _ (name_lacks 58 g.class refl fits.2.2) second.1 in
    let class = c.read_name-2.ensures.read g.class fits.2 third.0 in
    search rules

pub returns-in_err-read_quantity-clause-read : goal.returns-in_err-read_quantity-clause-read
returns-in_err-read_quantity-clause-read c g fits is =
    let first = c.in_ok-name.ensures.first g.name _ (name_lacks 58 g.name refl fits.0.2) is in
    let second = c.in_ok-count.ensures.first (decimal g.count) _ (decimal_lacks 58 g.count (λ h. omega arith) (omega arith)) first.1 in
    let third = c.in_ok-class.ensures.first g.class _ (name_lacks 58 g.class refl fits.2.2) second.1 in
    let fourth = c.in_ok-cpu.ensures.first (decimal g.size.cpu) _ (decimal_lacks 58 g.size.cpu (λ h. omega arith) (omega arith)) third.1 in
    let cpu = c.read_quantity.ensures.read g.size.cpu fits.3.0 fourth.0 in
    search rules

pub returns-in_err-read_quantity-2-clause-read : goal.returns-in_err-read_quantity-2-clause-read
returns-in_err-read_quantity-2-clause-read c g fits is =
    let first = c.in_ok-name.ensures.first g.name _ (name_lacks 58 g.name refl fits.0.2) is in
    let second = c.in_ok-count.ensures.first (decimal g.count) _ (decimal_lacks 58 g.count (λ h. omega arith) (omega arith)) first.1 in
    let third = c.in_ok-class.ensures.first g.class _ (name_lacks 58 g.class refl fits.2.2) second.1 in
    let fourth = c.in_ok-cpu.ensures.first (decimal g.size.cpu) _ (decimal_lacks 58 g.size.cpu (λ h. omega arith) (omega arith)) third.1 in
    let fifth = c.in_ok-mem.ensures.first (decimal g.size.mem) _ (decimal_lacks 58 g.size.mem (λ h. omega arith) (omega arith)) fourth.1 in
    let mem = c.read_quantity-2.ensures.read g.size.mem fits.3.1 fifth.0 in
    search rules

pub returns-in_err-read_space-clause-read : goal.returns-in_err-read_space-clause-read
returns-in_err-read_space-clause-read c g fits is =
    let first = c.in_ok-name.ensures.first g.name _ (name_lacks 58 g.name refl fits.0.2) is in
    let second = c.in_ok-count.ensures.first (decimal g.count) _ (decimal_lacks 58 g.count (λ h. omega arith) (omega arith)) first.1 in
    let third = c.in_ok-class.ensures.first g.class _ (name_lacks 58 g.class refl fits.2.2) second.1 in
    let fourth = c.in_ok-cpu.ensures.first (decimal g.size.cpu) _ (decimal_lacks 58 g.size.cpu (λ h. omega arith) (omega arith)) third.1 in
    let fifth = c.in_ok-mem.ensures.first (decimal g.size.mem) _ (decimal_lacks 58 g.size.mem (λ h. omega arith) (omega arith)) fourth.1 in
    let disk = c.read_space.ensures.read g.size.disk fits.3.2 fifth.1 in
    search rules

pub returns-clause-read : goal.returns-clause-read
returns-clause-read c g fits is =
    let first = c.in_ok-name.ensures.first g.name _ (name_lacks 58 g.name refl fits.0.2) is in
    let second = c.in_ok-count.ensures.first (decimal g.count) _ (decimal_lacks 58 g.count (λ h. omega arith) (omega arith)) first.1 in
    let third = c.in_ok-class.ensures.first g.class _ (name_lacks 58 g.class refl fits.2.2) second.1 in
    let fourth = c.in_ok-cpu.ensures.first (decimal g.size.cpu) _ (decimal_lacks 58 g.size.cpu (λ h. omega arith) (omega arith)) third.1 in
    let fifth = c.in_ok-mem.ensures.first (decimal g.size.mem) _ (decimal_lacks 58 g.size.mem (λ h. omega arith) (omega arith)) fourth.1 in
    let name = c.read_name.ensures.read g.name fits.0 first.0 in
    let count = c.read_count.ensures.read g.count fits.1 second.0 in
    let class = c.read_name-2.ensures.read g.class fits.2 third.0 in
    let cpu = c.read_quantity.ensures.read g.size.cpu fits.3.0 fourth.0 in
    let mem = c.read_quantity-2.ensures.read g.size.mem fits.3.1 fifth.0 in
    let disk = c.read_space.ensures.read g.size.disk fits.3.2 fifth.1 in
    let is_name : c.in_ok-read_name.field-0 ≡ g.name = search rules in
    let is_count : c.in_ok-read_count.field-0 ≡ g.count = search rules in
    let is_class : c.in_ok-read_name-2.field-0 ≡ g.class = search rules in
    let is_cpu : c.in_ok-read_quantity.field-0 ≡ g.size.cpu = search rules in
    let is_mem : c.in_ok-read_quantity-2.field-0 ≡ g.size.mem = search rules in
    let is_disk : c.in_ok-read_space.field-0 ≡ g.size.disk = search rules in
    rw (is_name, is_count, is_class, is_cpu, is_mem, is_disk) refl
