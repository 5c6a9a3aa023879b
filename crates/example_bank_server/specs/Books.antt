-- What the lines that such processes report tell of their banks.
use Rattle.std.specs.Prelude.{◌≡◌, ℕ, List, ◌++◌, codes}
use Rattle.rows.specs.declared.refusal.Refusal.{Refusal}
use Rattle.journal.specs.Events.{LineReported}
use Rattle.example_bank.specs.BankState.{BankState}
use Rattle.example_bank.specs.Histories.{IsBankOf}
use Rattle.example_bank.specs.declared.command.BankCommand.{BankCommand}
use Rattle.process_lives.specs.Lives.{Past, HasDone}
use Rattle.example_bank_server.specs.Lines.{applied_text, bank_reason, bank_words, refused_line, server_text, proposal_line, ticket_line}

-- What a line says: how a server stands that is up, with its bank, which is one of this list; or
-- how one stands that is down; or it answers a proposal or a question.
pub data SaysOf (list : List BankCommand) (line : List ℕ) : Type 0 where
  of_bank : (bank : BankState) (me term last : ℕ) (role : List ℕ) → IsBankOf list bank →
      line ≡ server_text me role term last ++ ((applied_text bank.count ++ bank_words bank) ++ codes "\n") → SaysOf list line
  of_none : (me term last : ℕ) (role : List ℕ) → line ≡ server_text me role term last ++ codes "\n" → SaysOf list line
  of_ticket : (index term : ℕ) → line ≡ ticket_line index term → SaysOf list line
  of_standing : (index term : ℕ) (word : List ℕ) → line ≡ proposal_line index term word → SaysOf list line
  of_refusal : (cause : Refusal) → line ≡ refused_line bank_reason cause → SaysOf list line

-- There is one list of commands such that each bank of which a process ever told is that after its
-- first commands, and balances.
pub record OneBookOfLives (past : Past ℕ) : Type 0 where
  pub list : List BankCommand
  pub lines : (k : ℕ) (line : List ℕ) → HasDone past k (LineReported line) → SaysOf list line
