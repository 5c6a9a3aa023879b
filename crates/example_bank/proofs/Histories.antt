-- What the banks of a world's servers have to do with its one list.
use Rattle.std.proofs.Common.{◌≡◌, ℕ, zero, suc, Bool, true, false, Bor, Option, Some, None, if◌then◌else◌, IfSome, List, [], ◌∷◌, ◌++◌, length, take, drop, take-append-drop, refl, sym, ap, ◌∙◌, subst, slice_get, arith}
use Rattle.std.proofs.lemmas.Option.{same_Some}
use Rattle.std.proofs.lemmas.List.{length-take-le}
use Rattle.std.specs.Option.{option_copied}
use Rattle.machine_model.specs.After.{after, Admitted}
use Rattle.machine_model.specs.declared.entry.Entry.{Entry}
use Rattle.machine_model.proofs.Afters.{after-count, after_good, Admitted-front}
use Rattle.raft_model.specs.Logs.{commands, state_after}
use Rattle.raft_model.specs.Rafts.{Raft, is_up}
use Rattle.raft_model.specs.Worlds.{World, moment}
use Rattle.raft_model.specs.Chains.{Agree, At, Chain}
use Rattle.raft_safety.proofs.Places.{get-last}
use Rattle.raft_safety.proofs.Sound.{commands_length}
use Rattle.world.specs.WorldView.{WorldView, RunsTo}
use Rattle.world.specs.Claims.{OneListEver, running_state, machine_of}
use Rattle.example_bank.specs.BankState.{BankState}
use Rattle.example_bank.specs.Bank.{bank_spec}
use Rattle.example_bank.specs.Laws.BankLaws.{bank_lawful}
use Rattle.example_bank.specs.Books.{Balanced}
use Rattle.example_bank.specs.Histories.{IsBankOf, OneBook}
use Rattle.example_bank.specs.declared.command.BankCommand.{BankCommand}
use Rattle.example_bank.proofs.Books.{books}

-- the commands of the first entries are the first commands
commands_take : (k : ℕ) (log : List (Entry BankCommand)) → commands (take k log) ≡ take k (commands log)
unfolding commands
commands_take zero log = refl
commands_take (suc k) [] = refl
commands_take (suc k) (e ∷ log) = ap (λ cs. e.command ∷ cs) (commands_take k log)

-- the first entries of a log whose commands were admitted were admitted too
first_admitted : (k : ℕ) (log : List (Entry BankCommand)) → Admitted bank_spec (commands log) → Admitted bank_spec (commands (take k log))
first_admitted k log admitted =
    let cs = commands log in
    let whole : Admitted bank_spec (take k cs ++ drop k cs) = subst (Admitted bank_spec) (sym (take-append-drop k cs)) admitted in
    subst (Admitted bank_spec) (sym (commands_take k log)) (Admitted-front bank_spec bank_lawful (take k cs) (drop k cs) whole)

-- the bank after the first k entries of the list, which some log has too
part_is : (list log : List (Entry BankCommand)) (k : ℕ) (bank : BankState) → Agree k log list → Admitted bank_spec (commands log) →
    bank ≡ state_after bank_spec (take k log) → IsBankOf (commands list) bank
part_is list log k bank agree admitted is =
    let these = first_admitted k log admitted in
    let counted : bank.count ≡ k = ap (λ s. s.count) is ∙ (after-count bank_spec bank_lawful (commands (take k log)) ∙ (commands_length (take k log) ∙ length-take-le k log agree.left)) in
    let same : commands (take k log) ≡ take bank.count (commands list) = ap commands agree.same ∙ (commands_take k list ∙ ap (λ n. take n (commands list)) (sym counted)) in
    let state : bank ≡ after bank_spec (take bank.count (commands list)) = is ∙ ap (after bank_spec) same in
    let balanced : Balanced bank (commands (take k log)) = subst (λ s. Balanced s (commands (take k log))) (sym is) (books (commands (take k log)) these) in
    let good = after_good bank_spec bank_lawful (commands (take k log)) these in
    record {
      count = omega (arith, counted, agree.right, commands_length list);
      applied = state;
      balanced = subst (Balanced bank) same balanced;
      limit = subst (λ s. bank_spec.safe s) (sym is) good.safe;
    }

-- each running server's bank, at each moment
module _ (list : List (Entry BankCommand)) (past : List (World BankCommand)) (w : World BankCommand) (chain : Chain past w list)
    (admitted : (k i : ℕ) (s : Raft BankCommand) → At past w k i s → Admitted bank_spec (commands s.log))
    (k : ℕ) (x : World BankCommand) (here : moment past w k ≡ Some x) (i : ℕ) (bank : BankState) where
  up_part : (s : Raft BankCommand) (up : Bool) → is_up s.mode ≡ up → slice_get x.servers i ≡ Some s →
      (if up then Some (state_after bank_spec (take s.commit s.log)) else None) ≡ Some bank → IsBankOf (commands list) bank
  up_part s false down there is = absurd (cc)
  up_part s true up there is =
      let at : At past w k i s = record { world = x; world_is = here; here = there } in
      part_is list s.log s.commit bank (chain.agrees k i s at) (admitted k i s at) (sym (same_Some (state_after bank_spec (take s.commit s.log)) bank is))

  server_part : (o : Option (Raft BankCommand)) → slice_get x.servers i ≡ o → running_state bank_spec o ≡ Some bank → IsBankOf (commands list) bank
  server_part None there is = absurd (cc)
  server_part (Some s) there is = up_part s (is_up s.mode) refl there is

  bank_part : machine_of bank_spec x i ≡ Some bank → IsBankOf (commands list) bank
  bank_part is = server_part (slice_get x.servers i) refl is

pub one_book : (view : WorldView BankState BankCommand) → OneListEver bank_spec view →
    ((past : List (World BankCommand)) (w : World BankCommand) → RunsTo bank_spec view past w → (k i : ℕ) (s : Raft BankCommand) → At past w k i s → Admitted bank_spec (commands s.log)) → OneBook view
one_book view l admitted = record {
  past = l.past;
  world = l.world;
  runs = l.runs;
  list = commands l.list;
  long = commands_length l.list ∙ l.long;
  ever = λ past w runs k x server bank here is. bank_part l.list past w (l.ever past w runs) (admitted past w runs) k x here server bank is;
}

-- and so now
in_book : (view : WorldView BankState BankCommand) (i : ℕ) (bank : BankState) → ((past : List (World BankCommand)) (w : World BankCommand) → RunsTo bank_spec view past w → Some bank ≡ machine_of bank_spec w i) →
    (book : OneBook view) → IsBankOf book.list bank
in_book view i bank says book =
    book.ever book.past book.world book.runs (length book.past) book.world i bank (get-last book.past book.world) (sym (says book.past book.world book.runs))

pub bank_now : (view : WorldView BankState BankCommand) → OneBook view → (i : ℕ) (o : Option (Bor BankState)) →
    ((past : List (World BankCommand)) (w : World BankCommand) → RunsTo bank_spec view past w → option_copied o ≡ machine_of bank_spec w i) →
    IfSome o (λ bank. (list : List BankCommand) × IsBankOf list bank.now)
bank_now view book i None says = tt
bank_now view book i (Some b) says = (book.list, in_book view i b.now says book)

-- of each list that is the world's
pub bank_of_each : (view : WorldView BankState BankCommand) (i : ℕ) (o : Option (Bor BankState)) →
    ((past : List (World BankCommand)) (w : World BankCommand) → RunsTo bank_spec view past w → option_copied o ≡ machine_of bank_spec w i) →
    IfSome o (λ bank. (book : OneBook view) → IsBankOf book.list bank.now)
bank_of_each view i None says = tt
bank_of_each view i (Some b) says = in_book view i b.now says
