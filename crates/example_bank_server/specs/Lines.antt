-- The lines that the standard error is told.
use Rattle.std.specs.Prelude.{◌≡◌, true, false, ℕ, ◌+◌, Option, Some, None, List, [], ◌++◌, length, take, codes, decimal}
use Rattle.std.specs.List.{flat_map}
use Rattle.rows.specs.Refusals.{number_of}
use Rattle.rows.specs.Words.{refusal_words}
use Rattle.rows.specs.declared.refusal.Refusal.{Refusal}
use Rattle.rows.specs.declared.refusal.Refusal.TheVariants as refusals
use Rattle.machine_model.specs.MachineSpec.{MachineSpec}
use Rattle.raft_model.specs.Logs.{state_after}
use Rattle.raft_model.specs.Rafts.{Raft, is_up}
use Rattle.raft_core.specs.declared.role.Role.{Role}
use Rattle.raft_core.specs.declared.role.Role.TheVariants as roles
use Rattle.raft_core.specs.declared.ticket.ProposalStatus.{ProposalStatus}
use Rattle.raft_core.specs.declared.ticket.ProposalStatus.TheVariants as statuses
use Rattle.raft_core.specs.RaftView.{RaftView}
use Rattle.raft_core.specs.Steps.{RefinesRaft, role_of}
use Rattle.example_bank.specs.BankState.{BankState}

-- `refused N: WORDS`: the refusal's number, and what is wrong, in the machine's words if it has some
abbrev pub reason_or : Option (List ℕ) → Refusal → List ℕ
reason_or (Some reason) cause = reason
reason_or None cause = refusal_words cause

abbrev pub refused_line : (Refusal → Option (List ℕ)) → Refusal → List ℕ
refused_line reason cause = codes "refused " ++ (decimal (number_of cause) ++ (codes ": " ++ (reason_or (reason cause) cause ++ codes "\n")))

-- `ticket INDEX TERM`: where a proposal stands that was taken
abbrev pub ticket_line : ℕ → ℕ → List ℕ
ticket_line index term = codes "ticket " ++ (decimal index ++ (codes " " ++ (decimal term ++ codes "\n")))

-- what a server knows of a ticket
abbrev pub proposal_word : Option ProposalStatus → List ℕ
proposal_word None = codes "down"
proposal_word (Some statuses.Pending) = codes "open"
proposal_word (Some statuses.Committed) = codes "settled"
proposal_word (Some statuses.Superseded) = codes "lost"
proposal_word (Some statuses.Compacted) = codes "covered"

-- `standing INDEX TERM WORD`
abbrev pub proposal_line : ℕ → ℕ → List ℕ → List ℕ
proposal_line index term word = codes "standing " ++ (decimal index ++ (codes " " ++ (decimal term ++ (codes " " ++ (word ++ codes "\n")))))

-- the bank's own reasons
abbrev pub bank_reason : Refusal → Option (List ℕ)
bank_reason refusals.OutOfRange = Some (codes "no such account, too little money in it, or no room for more")
bank_reason refusals.TableFull = Some (codes "there are as many accounts as there may be")
bank_reason _ = None

-- what a server is doing
abbrev pub role_word : Option Role → List ℕ
role_word None = codes "down"
role_word (Some roles.Follower) = codes "follower"
role_word (Some roles.Candidate) = codes "candidate"
role_word (Some roles.Leader) = codes "leader"

-- `server K ROLE term T last L`
abbrev pub server_text : ℕ → List ℕ → ℕ → ℕ → List ℕ
server_text me role term last =
    codes "server " ++ (decimal (me + 1) ++ (codes " " ++ (role ++ (codes " term " ++ (decimal term ++ (codes " last " ++ decimal last))))))

-- ` applied A`
abbrev pub applied_text : ℕ → List ℕ
applied_text commit = codes " applied " ++ decimal commit

-- a balance, with a space in front
abbrev pub balance_text : ℕ → List ℕ
balance_text balance = codes " " ++ decimal balance

-- ` balances`, and each balance in order
abbrev pub bank_words : BankState → List ℕ
bank_words s = codes " balances" ++ flat_map balance_text s.balances

-- What is told of the state: of a server that is up how many entries it has applied, and the state
-- after these.
pub data ShowsState {S C : Type 0} (m : MachineSpec S C) (words : S → List ℕ) (view : RaftView S C) (told : List ℕ) : Type 0 where
  down : is_up view.server.mode ≡ false → told ≡ [] → ShowsState m words view told
  up : (state : S) → is_up view.server.mode ≡ true
      → ((s : Raft C) → RefinesRaft m view s → state ≡ state_after m (take s.commit s.log))
      → told ≡ applied_text view.server.commit ++ words state → ShowsState m words view told

-- The line of a server: what it does, its term, how long its log is, and its state.
pub record Shows {S C : Type 0} (m : MachineSpec S C) (words : S → List ℕ) (view : RaftView S C) (line : List ℕ) : Type 0 where
  pub told : List ℕ
  pub state : ShowsState m words view told
  pub is : line ≡ server_text view.me (role_word (role_of view.server.mode)) view.server.term (length view.server.log) ++ (told ++ codes "\n")
