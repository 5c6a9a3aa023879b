-- What admitted commands leave on the accounts.
use Rattle.std.proofs.Common.{◌≡◌, ◌≢◌, ℕ, ◌+◌, ◌-◌, ◌<◌, ◌≤◌, Bool, true, false, cond, Some, None, Option, List, [], ◌∷◌, ◌++◌, length, get_or, nat_eq, nat_le, nat_lt, slice_get, slice_set, unwrap_or, refl, sym, ap, ◌∙◌, arith}
use Rattle.std.specs.List.{sum}
use Rattle.std.proofs.lemmas.Bool.{leb-true, eqb-false, lt-leb}
use Rattle.std.proofs.lemmas.List.{length-set, get_or-set_other}
use Rattle.std.proofs.lemmas.List.Sums.{sum_by-set, sum_by_push}
use Rattle.std.proofs.lemmas.Option.{slice_get_within, get_or_from_slice_get}
use Rattle.rows.specs.declared.refusal.Refusal.TheVariants.{OutOfRange}
use Rattle.machine_model.specs.After.{after_from, after, AdmittedFrom, Admitted}
use Rattle.example_bank.specs.BankState.{BankState}
use Rattle.example_bank.specs.Outcomes.{MOST_MONEY, raised, lowered, both, with_one, with_two, outcome}
use Rattle.example_bank.specs.Bank.{refused, bank_spec}
use Rattle.example_bank.specs.Books.{paid_in, paid_out, deposited, withdrawn, Balanced}
use Rattle.example_bank.specs.declared.command.BankCommand.{BankCommand}
use Rattle.example_bank.specs.declared.command.BankCommand.TheVariants.{Noop, Open, Deposit, Withdraw, Transfer}

-- the balance that was there, and what it was made
record IsMore (amount : ℕ) (o : Option ℕ) (new : ℕ) : Type 0 where
  old : ℕ
  there : o ≡ Some old
  more : new ≡ old + amount

record IsLess (amount : ℕ) (o : Option ℕ) (new : ℕ) : Type 0 where
  old : ℕ
  there : o ≡ Some old
  less : new + amount ≡ old

more_if : (test : Bool) (amount b new : ℕ) → cond test (Some (b + amount)) None ≡ Some new → IsMore amount (Some b) new
more_if true amount b new e = record { old = b; there = refl; more = cc }
more_if false amount b new e = absurd cc

less_if : (test : Bool) (amount b new : ℕ) → nat_le amount b ≡ test → cond test (Some (b - amount)) None ≡ Some new → IsLess amount (Some b) new
less_if true amount b new t e =
    let is : b - amount ≡ new = cc in
    let low : amount ≤ b = leb-true amount b t in
    record { old = b; there = refl; less = omega arith }
less_if false amount b new t e = absurd cc

raised_is : (amount : ℕ) (o : Option ℕ) (new : ℕ) → raised amount o ≡ Some new → IsMore amount o new
raised_is amount None new e = absurd cc
raised_is amount (Some b) new e = more_if (nat_le (b + amount) MOST_MONEY) amount b new e

lowered_is : (amount : ℕ) (o : Option ℕ) (new : ℕ) → lowered amount o ≡ Some new → IsLess amount o new
lowered_is amount None new e = absurd cc
lowered_is amount (Some b) new e = less_if (nat_le amount b) amount b new refl e

-- one balance is written down
sum_set : (bs : List ℕ) (k new old : ℕ) → k < length bs → get_or bs k old ≡ old → sum (slice_set bs k new) + old ≡ sum bs + new
sum_set bs k new old within there =
    let h : sum (slice_set bs k new) + get_or bs k old ≡ sum bs + new = sum_by-set (λ x. x) bs k new old within in
    omega arith

more_sum : (bs ys : List ℕ) (k amount : ℕ) (o : Option ℕ) (r : Option ℕ) → slice_get bs k ≡ o → raised amount o ≡ r → with_one bs k r ≡ Some ys → sum ys ≡ sum bs + amount
more_sum bs ys k amount o (Some new) here is e =
    let m = raised_is amount o new is in
    let there : slice_get bs k ≡ Some m.old = here ∙ m.there in
    let same : slice_set bs k new ≡ ys = cc in
    let set = sum_set bs k new m.old (slice_get_within bs k m.old there) (get_or_from_slice_get bs k m.old m.old there) in
    let total : sum (slice_set bs k new) ≡ sum ys = ap sum same in
    let more = m.more in
    omega arith
more_sum bs ys k amount o None here is e = absurd cc

less_sum : (bs ys : List ℕ) (k amount : ℕ) (o : Option ℕ) (r : Option ℕ) → slice_get bs k ≡ o → lowered amount o ≡ r → with_one bs k r ≡ Some ys → sum ys + amount ≡ sum bs
less_sum bs ys k amount o (Some new) here is e =
    let m = lowered_is amount o new is in
    let there : slice_get bs k ≡ Some m.old = here ∙ m.there in
    let same : slice_set bs k new ≡ ys = cc in
    let set = sum_set bs k new m.old (slice_get_within bs k m.old there) (get_or_from_slice_get bs k m.old m.old there) in
    let total : sum (slice_set bs k new) ≡ sum ys = ap sum same in
    let less = m.less in
    omega arith
less_sum bs ys k amount o None here is e = absurd cc

-- two balances are
both_sum : (bs ys : List ℕ) (from to amount : ℕ) (o p : Option ℕ) (r q : Option ℕ) → to ≢ from → slice_get bs from ≡ o → slice_get bs to ≡ p →
    lowered amount o ≡ r → raised amount p ≡ q → with_two bs from to (both r q) ≡ Some ys → sum ys ≡ sum bs
both_sum bs ys from to amount o p (Some left) (Some more) apart here there is are e =
    let l = lowered_is amount o left is in
    let m = raised_is amount p more are in
    let one : slice_get bs from ≡ Some l.old = here ∙ l.there in
    let other : slice_get bs to ≡ Some m.old = there ∙ m.there in
    let first = sum_set bs from left l.old (slice_get_within bs from l.old one) (get_or_from_slice_get bs from l.old l.old one) in
    let kept : get_or (slice_set bs from left) to m.old ≡ m.old = get_or-set_other bs from to left m.old apart ∙ get_or_from_slice_get bs to m.old m.old other in
    let second = sum_set (slice_set bs from left) to more m.old (omega (arith, slice_get_within bs to m.old other, length-set bs from left)) kept in
    let same : slice_set (slice_set bs from left) to more ≡ ys = cc in
    let total : sum (slice_set (slice_set bs from left) to more) ≡ sum ys = ap sum same in
    let less = l.less in
    let gain = m.more in
    omega arith
both_sum bs ys from to amount o p (Some left) None apart here there is are e = absurd cc
both_sum bs ys from to amount o p None q apart here there is are e = absurd cc

move_sum : (same : Bool) (bs ys : List ℕ) (from to amount : ℕ) → nat_eq from to ≡ same →
    with_two bs from to (cond same None (both (lowered amount (slice_get bs from)) (raised amount (slice_get bs to)))) ≡ Some ys → sum ys ≡ sum bs
move_sum true bs ys from to amount t e = absurd cc
move_sum false bs ys from to amount t e =
    both_sum bs ys from to amount (slice_get bs from) (slice_get bs to) (lowered amount (slice_get bs from)) (raised amount (slice_get bs to))
    (λ is. eqb-false from to t (sym is)) refl refl refl refl e

open_sum : (test : Bool) (bs ys : List ℕ) → cond test (Some (bs ++ 0 ∷ [])) None ≡ Some ys → sum ys ≡ sum bs
open_sum true bs ys e =
    let same : bs ++ 0 ∷ [] ≡ ys = cc in
    let total : sum (bs ++ 0 ∷ []) ≡ sum ys = ap sum same in
    let push : sum (bs ++ 0 ∷ []) ≡ sum bs + 0 = sum_by_push (λ x. x) bs 0 in
    omega arith
open_sum false bs ys e = absurd cc

-- what a command that is not refused does to the total
outcome_sum : (bs ys : List ℕ) (c : BankCommand) → outcome bs c ≡ Some ys → sum ys + paid_out c ≡ sum bs + paid_in c
outcome_sum bs ys Noop e = let same : bs ≡ ys = cc in let total : sum bs ≡ sum ys = ap sum same in omega arith
outcome_sum bs ys Open e = let total = open_sum (nat_lt (length bs) 1000) bs ys e in omega arith
outcome_sum bs ys (Deposit k a) e = let total = more_sum bs ys k a (slice_get bs k) (raised a (slice_get bs k)) refl refl e in omega arith
outcome_sum bs ys (Withdraw k a) e = let total = less_sum bs ys k a (slice_get bs k) (lowered a (slice_get bs k)) refl refl e in omega arith
outcome_sum bs ys (Transfer from to a) e = let total = move_sum (nat_eq from to) bs ys from to a refl e in omega arith

-- and an admitted one is not refused
new_sum : (bs : List ℕ) (c : BankCommand) (r : Option (List ℕ)) → outcome bs c ≡ r → refused c r ≡ None → sum (unwrap_or r bs) + paid_out c ≡ sum bs + paid_in c
new_sum bs c (Some ys) e none = outcome_sum bs ys c e
new_sum bs c None e none = absurd cc

books_from : (s : BankState) (cs : List BankCommand) → AdmittedFrom bank_spec s cs →
    sum (after_from bank_spec s cs).balances + withdrawn cs ≡ sum s.balances + deposited cs
books_from s [] admitted = refl
books_from s (c ∷ cs) admitted =
    let one = new_sum s.balances c (outcome s.balances c) refl admitted.1 in
    let rest = books_from (bank_spec.applied s c) cs admitted.2 in
    omega arith

pub books : (cs : List BankCommand) → Admitted bank_spec cs → Balanced (after bank_spec cs) cs
books cs admitted = let total = books_from bank_spec.empty cs admitted.each in omega arith

-- a transfer, refused or not, leaves the total
pub transfer_total : (s : BankState) (from to amount : ℕ) → sum (bank_spec.applied s (Transfer from to amount)).balances ≡ sum s.balances
transfer_total s from to amount = kept (outcome s.balances (Transfer from to amount)) refl
  where
    kept : (r : Option (List ℕ)) → outcome s.balances (Transfer from to amount) ≡ r → sum (unwrap_or r s.balances) ≡ sum s.balances
    kept (Some ys) e = let total = outcome_sum s.balances ys (Transfer from to amount) e in omega arith
    kept None e = refl

-- an account gives no more than it holds
pub overdrawn : (s : BankState) (account amount balance : ℕ) → slice_get s.balances account ≡ Some balance → balance < amount → bank_spec.admission s (Withdraw account amount) ≡ Some OutOfRange
overdrawn s account amount balance here more = let short : nat_le amount balance ≡ false = lt-leb amount balance more in rw (here, short) refl

-- what is refused leaves the balances
pub refused_leaves : (s : BankState) (c : BankCommand) → bank_spec.admission s c ≢ None → (bank_spec.applied s c).balances ≡ s.balances
refused_leaves s c is = left (outcome s.balances c) is
  where
    left : (r : Option (List ℕ)) → refused c r ≢ None → unwrap_or r s.balances ≡ s.balances
    left (Some ys) some = absurd (some refl)
    left None some = refl
