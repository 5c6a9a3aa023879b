use Rattle.std.proofs.Common.{◌≡◌, ◌++◌, ◌∷◌, arith, decimal, refl, rules}
use Rattle.event_texts.specs.Laws.PlainTexts.{decimal_lacks, name_lacks}
use Rattle.event_texts.proofs.reading.read_node_line.Goals as goal

pub returns-in_err-number-clause-read : goal.returns-in_err-number-clause-read
returns-in_err-number-clause-read c node fits is =
    let behind : c.in_ok-words.words.now ≡ decimal node.number ++ 32 ∷ (node.class ++ 32 ∷ (decimal node.size.cpu ++ 32 ∷ (decimal node.size.mem ++ 32 ∷ decimal node.size.disk))) = search rules in
    absurd (c.in_err-number.ensures.first (decimal node.number) _ (decimal_lacks 32 node.number (λ h. omega arith) (omega arith)) behind)

pub returns-in_err-class-clause-read : goal.returns-in_err-class-clause-read
returns-in_err-class-clause-read c node fits is =
    let behind : c.in_ok-words.words.now ≡ decimal node.number ++ 32 ∷ (node.class ++ 32 ∷ (decimal node.size.cpu ++ 32 ∷ (decimal node.size.mem ++ 32 ∷ decimal node.size.disk))) = search rules in
    let first = c.in_ok-number.ensures.first (decimal node.number) _ (decimal_lacks 32 node.number (λ h. omega arith) (omega arith)) behind in
    absurd (c.in_err-class.ensures.first node.class _ (name_lacks 32 node.class refl fits.1.2) first.1)

pub returns-in_err-cpu-clause-read : goal.returns-in_err-cpu-clause-read
returns-in_err-cpu-clause-read c node fits is =
    let behind : c.in_ok-words.words.now ≡ decimal node.number ++ 32 ∷ (node.class ++ 32 ∷ (decimal node.size.cpu ++ 32 ∷ (decimal node.size.mem ++ 32 ∷ decimal node.size.disk))) = search rules in
    let first = c.in_ok-number.ensures.first (decimal node.number) _ (decimal_lacks 32 node.number (λ h. omega arith) (omega arith)) behind in
    let second = c.in_ok-class.ensures.first node.class _ (name_lacks 32 node.class refl fits.1.2) first.1 in
    absurd (c.in_err-cpu.ensures.first (decimal node.size.cpu) _ (decimal_lacks 32 node.size.cpu (λ h. omega arith) (omega arith)) second.1)

pub returns-in_err-mem-clause-read : goal.returns-in_err-mem-clause-read
returns-in_err-mem-clause-read c node fits is =
    let behind : c.in_ok-words.words.now ≡ decimal node.number ++ 32 ∷ (node.class ++ 32 ∷ (decimal node.size.cpu ++ 32 ∷ (decimal node.size.mem ++ 32 ∷ decimal node.size.disk))) = search rules in
    let first = c.in_ok-number.ensures.first (decimal node.number) _ (decimal_lacks 32 node.number (λ h. omega arith) (omega arith)) behind in
    let second = c.in_ok-class.ensures.first node.class _ (name_lacks 32 node.class refl fits.1.2) first.1 in
    let third = c.in_ok-cpu.ensures.first (decimal node.size.cpu) _ (decimal_lacks 32 node.size.cpu (λ h. omega arith) (omega arith)) second.1 in
    absurd (c.in_err-mem.ensures.first (decimal node.size.mem) _ (decimal_lacks 32 node.size.mem (λ h. omega arith) (omega arith)) third.1)

pub returns-in_err-read_node-clause-read : goal.returns-in_err-read_node-clause-read
returns-in_err-read_node-clause-read c node fits is =
    let behind : c.in_ok-words.words.now ≡ decimal node.number ++ 32 ∷ (node.class ++ 32 ∷ (decimal node.size.cpu ++ 32 ∷ (decimal node.size.mem ++ 32 ∷ decimal node.size.disk))) = search rules in
    let first = c.in_ok-number.ensures.first (decimal node.number) _ (decimal_lacks 32 node.number (λ h. omega arith) (omega arith)) behind in
    let number = c.read_node.ensures.read node.number fits.0 first.0 in
    search rules

pub returns-in_err-read_name-clause-read : goal.returns-in_err-read_name-clause-read
returns-in_err-read_name-clause-read c node fits is =
    let behind : c.in_ok-words.words.now ≡ decimal node.number ++ 32 ∷ (node.class ++ 32 ∷ (decimal node.size.cpu ++ 32 ∷ (decimal node.size.mem ++ 32 ∷ decimal node.size.disk))) = search rules in
    let first = c.in_ok-number.ensures.first (decimal node.number) _ (decimal_lacks 32 node.number (λ h. omega arith) (omega arith)) behind in
    let second = c.in_ok-class.ensures.first node.class _ (name_lacks 32 node.class refl fits.1.2) first.1 in
    let class = c.read_name.ensures.read node.class fits.1 second.0 in
    search rules

pub returns-in_err-read_quantity-clause-read : goal.returns-in_err-read_quantity-clause-read
returns-in_err-read_quantity-clause-read c node fits is =
    let behind : c.in_ok-words.words.now ≡ decimal node.number ++ 32 ∷ (node.class ++ 32 ∷ (decimal node.size.cpu ++ 32 ∷ (decimal node.size.mem ++ 32 ∷ decimal node.size.disk))) = search rules in
    let first = c.in_ok-number.ensures.first (decimal node.number) _ (decimal_lacks 32 node.number (λ h. omega arith) (omega arith)) behind in
    let second = c.in_ok-class.ensures.first node.class _ (name_lacks 32 node.class refl fits.1.2) first.1 in
    let third = c.in_ok-cpu.ensures.first (decimal node.size.cpu) _ (decimal_lacks 32 node.size.cpu (λ h. omega arith) (omega arith)) second.1 in
    let cpu = c.read_quantity.ensures.read node.size.cpu fits.2.0 third.0 in
    search rules

pub returns-in_err-read_quantity-2-clause-read : goal.returns-in_err-read_quantity-2-clause-read
returns-in_err-read_quantity-2-clause-read c node fits is =
    let behind : c.in_ok-words.words.now ≡ decimal node.number ++ 32 ∷ (node.class ++ 32 ∷ (decimal node.size.cpu ++ 32 ∷ (decimal node.size.mem ++ 32 ∷ decimal node.size.disk))) = search rules in
    let first = c.in_ok-number.ensures.first (decimal node.number) _ (decimal_lacks 32 node.number (λ h. omega arith) (omega arith)) behind in
    let second = c.in_ok-class.ensures.first node.class _ (name_lacks 32 node.class refl fits.1.2) first.1 in
    let third = c.in_ok-cpu.ensures.first (decimal node.size.cpu) _ (decimal_lacks 32 node.size.cpu (λ h. omega arith) (omega arith)) second.1 in
    let fourth = c.in_ok-mem.ensures.first (decimal node.size.mem) _ (decimal_lacks 32 node.size.mem (λ h. omega arith) (omega arith)) third.1 in
    let mem = c.read_quantity-2.ensures.read node.size.mem fits.2.1 fourth.0 in
    search rules

pub returns-in_err-read_space-clause-read : goal.returns-in_err-read_space-clause-read
returns-in_err-read_space-clause-read c node fits is =
    let behind : c.in_ok-words.words.now ≡ decimal node.number ++ 32 ∷ (node.class ++ 32 ∷ (decimal node.size.cpu ++ 32 ∷ (decimal node.size.mem ++ 32 ∷ decimal node.size.disk))) = search rules in
    let first = c.in_ok-number.ensures.first (decimal node.number) _ (decimal_lacks 32 node.number (λ h. omega arith) (omega arith)) behind in
    let second = c.in_ok-class.ensures.first node.class _ (name_lacks 32 node.class refl fits.1.2) first.1 in
    let third = c.in_ok-cpu.ensures.first (decimal node.size.cpu) _ (decimal_lacks 32 node.size.cpu (λ h. omega arith) (omega arith)) second.1 in
    let fourth = c.in_ok-mem.ensures.first (decimal node.size.mem) _ (decimal_lacks 32 node.size.mem (λ h. omega arith) (omega arith)) third.1 in
    let disk = c.read_space.ensures.read node.size.disk fits.2.2 fourth.1 in
    search rules

pub returns-clause-read : goal.returns-clause-read
returns-clause-read c node fits is =
    let behind : c.in_ok-words.words.now ≡ decimal node.number ++ 32 ∷ (node.class ++ 32 ∷ (decimal node.size.cpu ++ 32 ∷ (decimal node.size.mem ++ 32 ∷ decimal node.size.disk))) = search rules in
    let first = c.in_ok-number.ensures.first (decimal node.number) _ (decimal_lacks 32 node.number (λ h. omega arith) (omega arith)) behind in
    let second = c.in_ok-class.ensures.first node.class _ (name_lacks 32 node.class refl fits.1.2) first.1 in
    let third = c.in_ok-cpu.ensures.first (decimal node.size.cpu) _ (decimal_lacks 32 node.size.cpu (λ h. omega arith) (omega arith)) second.1 in
    let fourth = c.in_ok-mem.ensures.first (decimal node.size.mem) _ (decimal_lacks 32 node.size.mem (λ h. omega arith) (omega arith)) third.1 in
    let number = c.read_node.ensures.read node.number fits.0 first.0 in
    let class = c.read_name.ensures.read node.class fits.1 second.0 in
    let cpu = c.read_quantity.ensures.read node.size.cpu fits.2.0 third.0 in
    let mem = c.read_quantity-2.ensures.read node.size.mem fits.2.1 fourth.0 in
    let disk = c.read_space.ensures.read node.size.disk fits.2.2 fourth.1 in
    let is_number : c.in_ok-read_node.field-0 ≡ node.number = search rules in
    let is_class : c.in_ok-read_name.field-0 ≡ node.class = search rules in
    let is_cpu : c.in_ok-read_quantity.field-0 ≡ node.size.cpu = search rules in
    let is_mem : c.in_ok-read_quantity-2.field-0 ≡ node.size.mem = search rules in
    let is_disk : c.in_ok-read_space.field-0 ≡ node.size.disk = search rules in
    rw (is_number, is_class, is_cpu, is_mem, is_disk) refl
