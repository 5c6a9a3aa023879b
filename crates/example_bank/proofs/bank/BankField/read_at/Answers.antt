use Rattle.std.proofs.Common.{◌≤◌, ℕ, List, length, All, subst, sym, arith}
use Rattle.example_bank.specs.Outcomes.{MOST_MONEY}
use Rattle.example_bank.specs.Laws.TextLaws.{balances_lawful}
use Rattle.example_bank.specs.Laws.BankLaws.{balances_within}
use Rattle.example_bank.proofs.bank.BankField.read_at.Goals as goal

pub invariant_of-result : goal.invariant_of-result
invariant_of-result c =
    let s = balances_lawful.found c.args.bytes.now c.in_ok-count.at c.in_ok-balances.balances c.in_ok-balances.at (λ i. omega (arith, c.type_inv.bytes i)) c.in_ok-balances.ensures in
    let within = subst (λ (bs : List ℕ). (length bs ≤ 1000) × All (λ b. b ≤ MOST_MONEY) bs) (sym c.into_vec-balances.ensures) (balances_within c.in_ok-balances.balances s.fits) in
    (omega arith, within.0, within.1)
