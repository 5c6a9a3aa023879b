-- The laws of a bank's texts.
use Rattle.std.proofs.Common.{◌≡◌, ℕ, Some, refl, ap, sym, arith}
use Rattle.fields_model.specs.Format.{Lawful}
use Rattle.fields_model.proofs.FormatLaws.{number_lawful, nothing_lawful, list_lawful, then_lawful, made_lawful, no_choice, variant_choice, choice_lawful}
use Rattle.fields_model.proofs.FieldLaws.{index_lawful, u16_lawful}
use Rattle.example_bank.specs.Texts.{money, balances, bank, tag_of, noop_of, open_of, deposit_of, withdrawal_of, transfer_of, bank_command}
use Rattle.example_bank.specs.declared.command.BankCommand.{BankCommand}
use Rattle.example_bank.specs.declared.command.BankCommand.TheVariants.{Noop, Open, Deposit, Withdraw, Transfer}

pub money_lawful : Lawful money
money_lawful = number_lawful 8 0 1000000000001 (omega arith) (omega arith)

pub balances_lawful : Lawful balances
balances_lawful = list_lawful 4 1000 money (omega arith) (omega arith) money_lawful

pub bank_text_lawful : Lawful bank
bank_text_lawful = made_lawful _ _ _ (λ _. refl) (λ _ _. refl) (then_lawful _ _ index_lawful balances_lawful)

-- each variant is made of what it holds
noop_there : (v : BankCommand) (a : Unit {0}) → noop_of v ≡ Some a → Noop ≡ v
noop_there Noop a e = refl
noop_there _ a e = absurd cc

open_there : (v : BankCommand) (a : Unit {0}) → open_of v ≡ Some a → Open ≡ v
open_there Open a e = refl
open_there _ a e = absurd cc

one_is : (p q : ℕ × ℕ) → Some p ≡ Some q → p ≡ q
one_is p q e = cc

deposit_there : (v : BankCommand) (a : ℕ × ℕ) → deposit_of v ≡ Some a → Deposit a.0 a.1 ≡ v
deposit_there (Deposit x y) a e = ap (λ (p : ℕ × ℕ). Deposit p.0 p.1) (sym (one_is (x, y) a e))
deposit_there _ a e = absurd cc

withdrawal_there : (v : BankCommand) (a : ℕ × ℕ) → withdrawal_of v ≡ Some a → Withdraw a.0 a.1 ≡ v
withdrawal_there (Withdraw x y) a e = ap (λ (p : ℕ × ℕ). Withdraw p.0 p.1) (sym (one_is (x, y) a e))
withdrawal_there _ a e = absurd cc

two_is : (p q : ℕ × (ℕ × ℕ)) → Some p ≡ Some q → p ≡ q
two_is p q e = cc

transfer_there : (v : BankCommand) (a : ℕ × (ℕ × ℕ)) → transfer_of v ≡ Some a → Transfer a.0 a.1.0 a.1.1 ≡ v
transfer_there (Transfer x y z) a e = ap (λ (p : ℕ × (ℕ × ℕ)). Transfer p.0 p.1.0 p.1.1) (sym (two_is (x, (y, z)) a e))
transfer_there _ a e = absurd cc

pub bank_command_lawful : Lawful bank_command
bank_command_lawful = choice_lawful tag_of _ _ (number_lawful 1 0 5 (omega arith) (omega arith))
    (variant_choice tag_of 0 _ _ _ _ (record { back = λ _. refl; there = noop_there }) (λ _. refl) nothing_lawful
    (variant_choice tag_of 1 _ _ _ _ (record { back = λ _. refl; there = open_there }) (λ _. refl) nothing_lawful
    (variant_choice tag_of 2 _ _ _ _ (record { back = λ _. refl; there = deposit_there }) (λ _. refl) (then_lawful _ _ u16_lawful money_lawful)
    (variant_choice tag_of 3 _ _ _ _ (record { back = λ _. refl; there = withdrawal_there }) (λ _. refl) (then_lawful _ _ u16_lawful money_lawful)
    (variant_choice tag_of 4 _ _ _ _ (record { back = λ _. refl; there = transfer_there }) (λ _. refl) (then_lawful _ _ u16_lawful (then_lawful _ _ u16_lawful money_lawful))
    (no_choice tag_of))))))
