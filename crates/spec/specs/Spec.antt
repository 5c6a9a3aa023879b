-- The specification: the whole group as one state machine. Its state is one log, how far that is
-- committed, what each server has applied of it, what each client ever started, and which
-- evaluations were delivered to workers. It knows no message, no election and no byte. A term is
-- the number of a leader; an entry is a command with the term in which it was appended; a token is
-- the term of the leader who delivers under it, and that leader's serial number.
--
-- It never fails: nothing is ever taken from its log, its starts or its deliveries. A crash is one
-- of its actions, and takes the state of one server alone, until that restarts.
--
-- The log is no single server's. It is the one list of a whole run, chosen in hindsight: the
-- entries that the run commits in the end. At a moment it has those first ones of them that some
-- server's log had held by then. What some leader appended and another overwrote never was in it.
use Rattle.std.specs.Prelude.{◌≡◌, ◌≢◌, ℕ, suc, ◌-◌, ◌<◌, ◌≤◌, nat_eq, true, ◌&&◌, if◌then◌else◌, Option, Some, None, List, [], ◌∷◌, ◌++◌, length, take, replicate, slice_get, slice_set}
use Rattle.rows.specs.declared.evaluation.EvalId.{EvalId}
use Rattle.rows.specs.declared.evaluation.Evaluation.{Evaluation}
use Rattle.rows.specs.declared.allocation.AllocId.{AllocId}
use Rattle.rows.specs.declared.token.Token.{Token}
use Rattle.rows.specs.declared.command.AcceptedPlace.{AcceptedPlace}
use Rattle.rows.specs.declared.command.AcceptedPlan.{AcceptedPlan}
use Rattle.rows.specs.declared.command.Command.{Command}
use Rattle.rows.specs.declared.command.Command.TheVariants as commands
use Rattle.machine_model.specs.declared.entry.Entry.{Entry}
use Rattle.raft_model.specs.Logs.{last_term}
use Rattle.fsm_model.specs.Words.{State, no_rows, same_eval, is_pending}
use Rattle.fsm_model.specs.Effect.{applied}
use Rattle.fsm_model.specs.Admission.{admission}

-- Servers stand at their numbers from 0, the client of node m at place m - 1.
pub record SpecState : Type 0 where
  pub log : List (Entry Command)
  -- how many of its first entries are committed
  pub committed : ℕ
  -- how many each server has applied; none while it is down
  pub last_applied : List (Option ℕ)
  -- the allocations that each client ever started
  pub started : List (List AllocId)
  -- in a term: the token under which an evaluation is outstanding, so that a plan under it may be
  -- appended. It may be so in two terms at once: an old leader may not know yet of a newer one
  pub outstanding : ℕ → EvalId → Option Token
  -- the evaluations that were ever delivered to workers, each with its token
  pub delivered : List (EvalId × Token)

-- so many servers and clients, before anything
abbrev pub init : ℕ → ℕ → SpecState
init servers clients = record {
  log = [];
  committed = 0;
  last_applied = replicate servers (Some 0);
  started = replicate clients [];
  outstanding = λ term eval. None;
  delivered = [];
}

-- the state after some entries, from s on
abbrev pub state_from : State → List (Entry Command) → State
state_from s [] = s
state_from s (e ∷ entries) = state_from (applied s e.command) entries

abbrev pub state_of : List (Entry Command) → State
state_of entries = state_from no_rows entries

-- What may be appended: an entry of the last term or a later one, which the state after the whole
-- log admits; a plan under the token under which its evaluation is outstanding in that term.
pub record MayFollow (g : SpecState) (e : Entry Command) : Type 0 where
  pub term : last_term g.log ≤ e.term
  -- `admission` is why a command is refused: none, so it is admitted
  pub admitted : admission (state_of g.log) e.command ≡ None
  -- no other command needs a token
  pub token : (plan : AcceptedPlan) →
      e.command ≡ commands.Plan plan → g.outstanding e.term plan.eval ≡ Some plan.token

-- A server applies more of what is committed, crashes, or restarts with some first entries of it.
pub data ServerStep (committed : ℕ) : Option ℕ → Option ℕ → Type 0 where
  applies : (j k : ℕ) → j ≤ k → k ≤ committed → ServerStep committed (Some j) (Some k)
  crashes : (j : ℕ) → ServerStep committed (Some j) None
  restarts : (k : ℕ) → k ≤ committed → ServerStep committed None (Some k)

-- A committed plan has a place on the node, of that id: the index of the plan's entry, and the
-- number of the place in the plan.
pub record IsPlaced (g : SpecState) (node : ℕ) (id : AllocId) : Type 0 where
  pub entry : Entry Command
  pub plan : AcceptedPlan
  pub place : AcceptedPlace
  pub one : 1 ≤ id.index
  pub committed : id.index ≤ g.committed
  pub entry_is : slice_get g.log (id.index - 1) ≡ Some entry
  pub plan_is : entry.command ≡ commands.Plan plan
  pub place_is : slice_get plan.places id.slot ≡ Some place
  pub on : place.node ≡ node

-- the evaluation is pending in the state
pub record IsPending (s : State) (eval : EvalId) : Type 0 where
  pub place : ℕ
  pub row : Evaluation
  pub here : slice_get s.evals place ≡ Some row
  pub same : row.id ≡ eval
  pub pending : is_pending row.status ≡ true

-- every token of its term so far has a smaller serial
abbrev pub IsNewest : SpecState → Token → Type 0
IsNewest g token =
    (j : ℕ) (old : EvalId × Token) → slice_get g.delivered j ≡ Some old →
    old.1.term ≡ token.term → old.1.serial < token.serial

-- the evaluation is outstanding under this token, in the token's term
abbrev pub with_token : EvalId → Token → (ℕ → EvalId → Option Token) → ℕ → EvalId → Option Token
with_token eval token outstanding t e =
    if nat_eq t token.term && same_eval e eval then Some token else outstanding t e

-- one action
pub data Action (g : SpecState) : SpecState → Type 0 where
  -- a leader appends an entry
  appends : (e : Entry Command) → MayFollow g e → Action g (record g { log = g.log ++ e ∷ [] })
  -- more of the log is committed
  commits : (k : ℕ) → g.committed ≤ k → k ≤ length g.log → Action g (record g { committed = k })
  -- a server applies, crashes or restarts
  at_server : (i : ℕ) (old new : Option ℕ) →
      slice_get g.last_applied i ≡ Some old → ServerStep g.committed old new →
      Action g (record g { last_applied = slice_set g.last_applied i new })
  -- a client starts an allocation that is placed on its node and that it never started
  starts : (client : ℕ) (ids : List AllocId) (id : AllocId) →
      slice_get g.started client ≡ Some ids → ((j : ℕ) → slice_get ids j ≢ Some id) →
      IsPlaced g (suc client) id →
      Action g (record g { started = slice_set g.started client (ids ++ id ∷ []) })
  -- a leader delivers to a worker an evaluation that is pending after some committed entries, be
  -- they not the newest, and is not outstanding in the leader's term, under a new token of that term
  delivers : (eval : EvalId) (token : Token) (k : ℕ) →
      k ≤ g.committed → IsPending (state_of (take k g.log)) eval →
      g.outstanding token.term eval ≡ None → IsNewest g token →
      Action g (record g {
        outstanding = with_token eval token g.outstanding;
        delivered = g.delivered ++ (eval, token) ∷ [];
      })
  -- evaluations are outstanding no more: they are acked, nacked or pending no more, their time is
  -- up, or their leader steps down. It may be any of them, at any time
  ends : (outstanding : ℕ → EvalId → Option Token) →
      ((term : ℕ) (eval : EvalId) (token : Token) →
      outstanding term eval ≡ Some token → g.outstanding term eval ≡ Some token) →
      Action g (record g { outstanding = outstanding })

-- any number of actions, one after the other
pub data Actions (g : SpecState) : SpecState → Type 0 where
  none : Actions g g
  more : {h k : SpecState} → Actions g h → Action h k → Actions g k
