-- What processes of such servers tell of their banks.
use Rattle.std.proofs.Common.{◌≡◌, ◌∙◌, ℕ, zero, suc, Some, None, List, [], ◌∷◌, ◌++◌, length, take, drop, take-append-drop, refl, sym, ap, subst, arith}
use Rattle.std.specs.Prelude.{slice_get, codes}
use Rattle.std.proofs.lemmas.List.{length-take-le}
use Rattle.raft_safety.proofs.Places.{get-one}
use Rattle.machine_model.specs.After.{after, Admitted}
use Rattle.machine_model.specs.declared.entry.Entry.{Entry}
use Rattle.machine_model.proofs.Afters.{after-count, after_good, Admitted-front}
use Rattle.wire.specs.Frames.{Frame, sized}
use Rattle.raft_model.specs.Logs.{commands, state_after}
use Rattle.raft_model.specs.Rafts.{Raft}
use Rattle.raft_model.specs.Chains.{Agree}
use Rattle.raft_safety.proofs.Sound.{commands_length}
use Rattle.journal.specs.Events.{IoEvent, BytesSent, LineReported}
use Rattle.processes.specs.Claims.{OccursIn}
use Rattle.process_lives.specs.Servers.{IsOfServer}
use Rattle.example_bank.specs.Bank.{bank_spec}
use Rattle.example_bank.specs.BankState.{BankState}
use Rattle.example_bank.specs.Books.{Balanced}
use Rattle.example_bank.specs.Histories.{IsBankOf}
use Rattle.example_bank.specs.Laws.BankLaws.{bank_lawful}
use Rattle.example_bank.specs.declared.command.BankCommand.{BankCommand}
use Rattle.example_bank.proofs.Books.{books}
use Rattle.example_bank_server.specs.Books.{SaysOf, of_bank, of_none, of_ticket, of_standing, of_refusal}
use Rattle.example_bank_server.specs.Lines.{ShowsState, down, up, applied_text, bank_reason, bank_words, refused_line, role_word, server_text, proposal_line, ticket_line}
use Rattle.example_bank_server.specs.Turns.{Turn, taken, proposed, refused, shown, told, sends}
use Rattle.raft_core.specs.Steps.{role_of}

-- ---- a bank after the first entries of a list

commands_take : (k : ℕ) (log : List (Entry BankCommand)) → commands (take k log) ≡ take k (commands log)
unfolding commands
commands_take zero log = refl
commands_take (suc k) [] = refl
commands_take (suc k) (e ∷ log) = ap (λ cs. e.command ∷ cs) (commands_take k log)

first_admitted : (k : ℕ) (log : List (Entry BankCommand)) → Admitted bank_spec (commands log) → Admitted bank_spec (commands (take k log))
first_admitted k log admitted =
    let cs = commands log in
    let whole : Admitted bank_spec (take k cs ++ drop k cs) = subst (Admitted bank_spec) (sym (take-append-drop k cs)) admitted in
    subst (Admitted bank_spec) (sym (commands_take k log)) (Admitted-front bank_spec bank_lawful (take k cs) (drop k cs) whole)

module _ (list log : List (Entry BankCommand)) (k : ℕ) (bank : BankState) (agree : Agree k log list) (admitted : Admitted bank_spec (commands log)) (is : bank ≡ state_after bank_spec (take k log)) where
  counted : bank.count ≡ k
  counted = ap (λ (s : BankState). s.count) is ∙ (after-count bank_spec bank_lawful (commands (take k log)) ∙ (commands_length (take k log) ∙ length-take-le k log agree.left))

  part_is : IsBankOf (commands list) bank
  part_is =
      let these = first_admitted k log admitted in
      let same : commands (take k log) ≡ take bank.count (commands list) = ap commands agree.same ∙ (commands_take k list ∙ ap (λ n. take n (commands list)) (sym counted)) in
      let state : bank ≡ after bank_spec (take bank.count (commands list)) = is ∙ ap (after bank_spec) same in
      let balanced : Balanced bank (commands (take k log)) = subst (λ s. Balanced s (commands (take k log))) (sym is) (books (commands (take k log)) these) in
      let good = after_good bank_spec bank_lawful (commands (take k log)) these in
      record {
        count = omega (arith, counted, agree.right, commands_length list);
        applied = state;
        balanced = subst (Balanced bank) same balanced;
        limit = subst (λ s. bank_spec.safe s) (sym is) good.safe;
      }

-- ---- lines

one_line : (line text : List ℕ) (event : IoEvent) (outs : List IoEvent) → event ≡ LineReported line → outs ≡ LineReported text ∷ [] → OccursIn outs event → line ≡ text
one_line line text event outs of is among =
    let same : LineReported text ≡ event = get-one (LineReported text) among.0 event (ap (λ l. slice_get l among.0) (sym is) ∙ among.1) in
    let both : LineReported text ≡ LineReported line = same ∙ of in
    sym (cc both)

no_line : (line : List ℕ) (frames : List Frame) (place : ℕ) → slice_get (sends frames) place ≡ Some (LineReported line) → ⊥
no_line line [] place at = let none : None ≡ Some (LineReported line) = at in cc none
no_line line (frame ∷ frames) zero at = let some : Some (BytesSent (sized frame.bytes)) ≡ Some (LineReported line) = at in cc some
no_line line (frame ∷ frames) (suc place) at = no_line line frames place at

module _ (list : List (Entry BankCommand)) (line : List ℕ) (r : IsOfServer bank_spec (Turn bank_spec bank_words bank_reason) list (LineReported line)) where
  state_says : (state_text : List ℕ) → ShowsState bank_spec bank_words r.old state_text → line ≡ server_text r.old.me (role_word (role_of r.old.server.mode)) r.old.server.term (length r.old.server.log) ++ (state_text ++ codes "\n") → SaysOf (commands list) line
  state_says state_text (down low none) is = of_none r.old.me r.old.server.term (length r.old.server.log) (role_word (role_of r.old.server.mode)) (is ∙ ap (λ t. server_text r.old.me (role_word (role_of r.old.server.mode)) r.old.server.term (length r.old.server.log) ++ (t ++ codes "\n")) none)
  state_says state_text (up state high of text) is =
      let s = r.before in
      let here = of s r.shows_before in
      let bank = part_is list s.log s.commit state r.agrees_before r.admitted_before here in
      let count : r.old.server.commit ≡ state.count = sym (counted list s.log s.commit state r.agrees_before r.admitted_before here ∙ ap (λ (x : Raft BankCommand). x.commit) r.shows_before.is) in
      let front = server_text r.old.me (role_word (role_of r.old.server.mode)) r.old.server.term (length r.old.server.log) in
      of_bank state r.old.me r.old.server.term (length r.old.server.log) (role_word (role_of r.old.server.mode)) bank
      (is ∙ ap (λ t. front ++ (t ++ codes "\n")) text ∙ ap (λ n. front ++ ((applied_text n ++ bank_words state) ++ codes "\n")) count)

  turn_says : Turn bank_spec bank_words bank_reason r.item r.old r.new r.outs → SaysOf (commands list) line
  turn_says (taken frames other no_proposal no_question is outs) = absurd (no_line line frames r.among.0 (ap (λ l. slice_get l r.among.0) (sym outs) ∙ r.among.1))
  turn_says (proposed command index term is whole took ticket outs) = of_ticket index term (one_line line (ticket_line index term) (LineReported line) r.outs refl outs r.among)
  turn_says (refused cause other same lacks may outs) = of_refusal cause (one_line line (refused_line bank_reason cause) (LineReported line) r.outs refl outs r.among)
  turn_says (shown text is same shows outs) = state_says shows.told shows.state (one_line line text (LineReported line) r.outs refl outs r.among ∙ shows.is)
  turn_says (told index term word is whole same word_is outs) = of_standing index term word (one_line line (proposal_line index term word) (LineReported line) r.outs refl outs r.among)

  pub line_says : SaysOf (commands list) line
  line_says = turn_says r.turn
