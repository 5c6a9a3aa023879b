-- The law of the bank.
use Rattle.std.proofs.Common.{◌≡◌, ℕ, ◌+◌, ◌-◌, ◌^◌, ◌<◌, ◌≤◌, Bool, true, false, cond, Some, None, Option, List, [], ◌∷◌, ◌++◌, length, length-append, All, IfSome, nat_eq, nat_le, nat_lt, slice_get, slice_set, unwrap_or, refl, subst, arith}
use Rattle.std.proofs.lemmas.Bool.{leb-true, ltb-true}
use Rattle.std.proofs.lemmas.List.{length-set}
use Rattle.std.proofs.lemmas.List.Elements.{All-nil, All-get_or, All-set, All-push, All-from_recursion, recursion_from_All, All-weaker}
use Rattle.std.proofs.lemmas.Option.{slice_get_within, get_or_from_slice_get}
use Rattle.rows.specs.declared.refusal.Refusal.{Refusal}
use Rattle.machine_model.specs.MachineSpec.{LawfulMachine, IsMachineRefusal}
use Rattle.example_bank.specs.BankState.{BankState}
use Rattle.example_bank.specs.Outcomes.{MOST_MONEY, raised, lowered, both, with_one, with_two, outcome, command_refusal}
use Rattle.example_bank.specs.Texts.{money, balances, bank, bank_command}
use Rattle.example_bank.specs.Bank.{refused, bank_spec}
use Rattle.example_bank.specs.Laws.TextLaws.{bank_text_lawful, bank_command_lawful}
use Rattle.example_bank.specs.declared.command.BankCommand.{BankCommand}
use Rattle.example_bank.specs.declared.command.BankCommand.TheVariants.{Noop, Open, Deposit, Withdraw, Transfer}

-- balances that a bank may have
record AreBalances (balances : List ℕ) : Type 0 where
  short : length balances ≤ 1000
  each : All (λ b. b ≤ MOST_MONEY) balances

-- what a command makes of a balance is no more than an account holds
abbrev IsLow : Option ℕ → Type 0
IsLow r = IfSome r (λ b. b ≤ MOST_MONEY)

low_if : (test : Bool) (b : ℕ) → (test ≡ true → b ≤ MOST_MONEY) → IsLow (cond test (Some b) None)
low_if true b low = low refl
low_if false b low = tt

raised_low : (amount : ℕ) (balance : Option ℕ) → IsLow (raised amount balance)
raised_low amount None = tt
raised_low amount (Some b) = low_if (nat_le (b + amount) MOST_MONEY) (b + amount) (λ e. leb-true (b + amount) MOST_MONEY e)

lowered_low : (amount : ℕ) (balance : Option ℕ) → IfSome balance (λ b. b ≤ MOST_MONEY) → IsLow (lowered amount balance)
lowered_low amount None low = tt
lowered_low amount (Some b) low = low_if (nat_le amount b) (b - amount) (λ e. omega arith)

held : (bs : List ℕ) (k : ℕ) (o : Option ℕ) → slice_get bs k ≡ o → All (λ b. b ≤ MOST_MONEY) bs → IfSome o (λ b. b ≤ MOST_MONEY)
held bs k None e all = tt
held bs k (Some b) e all = subst (λ x. x ≤ MOST_MONEY) (get_or_from_slice_get bs k b b e) (All-get_or (λ x. x ≤ MOST_MONEY) bs k b (slice_get_within bs k b e) all)

-- and so the balances are within their limits
set_within : (bs : List ℕ) (k b : ℕ) → AreBalances bs → b ≤ MOST_MONEY → AreBalances (slice_set bs k b)
set_within bs k b w low = record { short = omega (arith, w.short, length-set bs k b); each = All-set (λ x. x ≤ MOST_MONEY) bs k b low w.each }

one_within : (bs : List ℕ) (k : ℕ) (r : Option ℕ) → AreBalances bs → IsLow r → IfSome (with_one bs k r) AreBalances
one_within bs k None w low = tt
one_within bs k (Some b) w low = set_within bs k b w low

two_within : (bs : List ℕ) (from to : ℕ) (r q : Option ℕ) → AreBalances bs → IsLow r → IsLow q → IfSome (with_two bs from to (both r q)) AreBalances
two_within bs from to (Some a) (Some b) w one other = set_within (slice_set bs from a) to b (set_within bs from a w one) other
two_within bs from to (Some a) None w one other = tt
two_within bs from to None q w one other = tt

apart_within : (same : Bool) (bs : List ℕ) (from to : ℕ) (r q : Option ℕ) → AreBalances bs → IsLow r → IsLow q → IfSome (with_two bs from to (cond same None (both r q))) AreBalances
apart_within true bs from to r q w one other = tt
apart_within false bs from to r q w one other = two_within bs from to r q w one other

opened_within : (test : Bool) (bs : List ℕ) → (test ≡ true → length bs < 1000) → AreBalances bs → IfSome (cond test (Some (bs ++ 0 ∷ [])) None) AreBalances
opened_within true bs room w = record { short = omega (arith, room refl, length-append bs (0 ∷ [])); each = All-push (λ b. b ≤ MOST_MONEY) bs 0 w.each (omega arith) }
opened_within false bs room w = tt

outcome_within : (bs : List ℕ) (c : BankCommand) → AreBalances bs → IfSome (outcome bs c) AreBalances
outcome_within bs Noop w = w
outcome_within bs Open w = opened_within (nat_lt (length bs) 1000) bs (λ e. ltb-true (length bs) 1000 e) w
outcome_within bs (Deposit k a) w = one_within bs k (raised a (slice_get bs k)) w (raised_low a (slice_get bs k))
outcome_within bs (Withdraw k a) w = one_within bs k (lowered a (slice_get bs k)) w (lowered_low a (slice_get bs k) (held bs k (slice_get bs k) refl w.each))
outcome_within bs (Transfer from to a) w =
    apart_within (nat_eq from to) bs from to (lowered a (slice_get bs from)) (raised a (slice_get bs to)) w
    (lowered_low a (slice_get bs from) (held bs from (slice_get bs from) refl w.each)) (raised_low a (slice_get bs to))

new_within : (bs : List ℕ) (r : Option (List ℕ)) → AreBalances bs → IfSome r AreBalances → AreBalances (unwrap_or r bs)
new_within bs None w ok = w
new_within bs (Some new) w ok = ok

-- limits as the format has them
pub balances_within : (bs : List ℕ) → balances.Fits bs → (length bs ≤ 1000) × All (λ b. b ≤ MOST_MONEY) bs
balances_within bs fits = (fits.0, All-weaker money.Fits (λ b. b ≤ MOST_MONEY) (λ b f. omega (arith, f.1)) bs (All-from_recursion money.Fits bs fits.1))

within_of : (s : BankState) → bank.Fits s → AreBalances s.balances
within_of s fits = let w = balances_within s.balances fits.1 in record { short = w.0; each = w.1 }

pub bank_fits : (s : BankState) → s.count < 2 ^ 40 → length s.balances ≤ 1000 → All (λ b. b ≤ MOST_MONEY) s.balances → bank.Fits s
bank_fits s count short each = ((omega arith, count), (short, recursion_from_All money.Fits s.balances (All-weaker (λ b. b ≤ MOST_MONEY) money.Fits (λ b low. (omega arith, omega arith)) s.balances each)))

-- the parts of the law
applied_within : (s : BankState) (c : BankCommand) → AreBalances s.balances → AreBalances (unwrap_or (outcome s.balances c) s.balances)
applied_within s c w = new_within s.balances (outcome s.balances c) w (outcome_within s.balances c w)

applied_fits : (s : BankState) (c : BankCommand) → bank.Fits s → bank_command.Fits c → s.count + 1 < 2 ^ 40 → bank.Fits (bank_spec.applied s c)
applied_fits s c fits _ below = let w = applied_within s c (within_of s fits) in bank_fits (bank_spec.applied s c) below w.short w.each

applied_safe : (s : BankState) (c : BankCommand) → bank.Fits s → bank_command.Fits c → bank_spec.safe s → bank_spec.admission s c ≡ None → bank_spec.safe (bank_spec.applied s c)
applied_safe s c fits _ safe none = let w = applied_within s c (within_of s fits) in w.each

-- a refusal is the bank's own
own : (c : BankCommand) → IsMachineRefusal (command_refusal c)
own Open = tt
own _ = tt

refused_own : (c : BankCommand) (r : Option (List ℕ)) (e : Refusal) → refused c r ≡ Some e → IsMachineRefusal e
refused_own c None e same = let is : command_refusal c ≡ e = cc in subst IsMachineRefusal is (own c)
refused_own c (Some x) e same = absurd cc

pub bank_lawful : LawfulMachine bank_spec
bank_lawful = record {
  states_lawful = λ version. bank_text_lawful;
  commands_lawful = λ version. bank_command_lawful;
  states_short = λ version. omega arith;
  commands_short = λ version. omega arith;
  states_stay = λ version s fits. fits;
  commands_stay = λ version c fits. fits;
  empty_fits = ((omega arith, omega arith), (omega arith, tt));
  empty_is_safe = All-nil (λ b. b ≤ MOST_MONEY);
  empty_has_count = refl;
  noop_fits = ((omega arith, omega arith), tt);
  noop_is_admitted = λ s fits. refl;
  count_is_below = λ s fits. fits.0.1;
  applied_fits = applied_fits;
  applied_has_count = λ s c. refl;
  admitted_is_safe = applied_safe;
  refusal_is_its_own = λ s c e same. refused_own c (outcome s.balances c) e same;
}
