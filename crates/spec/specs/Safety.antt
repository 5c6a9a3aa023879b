-- What holds of the specification alone, whatever it does. These claims use none of the conditions
-- under which it acts, so that each is a check of them.
use Rattle.std.specs.Prelude.{◌≡◌, ◌≢◌, ℕ, suc, ◌-◌, ◌<◌, ◌≤◌, true, Some, List, length, take, slice_get}
use Rattle.rows.specs.declared.evaluation.EvalId.{EvalId}
use Rattle.rows.specs.declared.evaluation.Evaluation.{Evaluation}
use Rattle.rows.specs.declared.token.Token.{Token}
use Rattle.rows.specs.declared.allocation.AllocId.{AllocId}
use Rattle.rows.specs.declared.command.AcceptedPlan.{AcceptedPlan}
use Rattle.rows.specs.declared.command.AcceptedPlace.{AcceptedPlace}
use Rattle.rows.specs.declared.command.Command.{Command}
use Rattle.rows.specs.declared.command.Command.TheVariants as commands
use Rattle.machine_model.specs.declared.entry.Entry.{Entry}
use Rattle.fsm_model.specs.Words.{is_pending}
use Rattle.fsm_model.specs.SafeFacts.{Safe}
use Rattle.spec.specs.Spec.{SpecState, init, state_of, Action, Actions}

-- entry p, from 0, is this plan, of this term
abbrev pub IsPlanAt : List (Entry Command) → ℕ → ℕ → AcceptedPlan → Type 0
IsPlanAt log p term plan =
    slice_get log p ≡ Some (record { term = term; command = commands.Plan plan })

-- ---- the log, servers and clients

-- on the way to g the plan was appended as entry p, and just before its evaluation was outstanding
-- under its token
pub record WasOutstanding (servers clients : ℕ) (g : SpecState) (p term : ℕ) (plan : AcceptedPlan) : Type 0 where
  pub then : SpecState
  pub next : SpecState
  pub before : Actions (init servers clients) then
  pub append : Action then next
  pub after : Actions next g
  pub had : then.log ≡ take p g.log
  pub has : next.log ≡ take (suc p) g.log
  pub out : then.outstanding term plan.eval ≡ Some plan.token

-- place `id.slot` of the committed plan that is entry `id.index`, from 1, is on the node
pub record IsAllocated (g : SpecState) (node : ℕ) (id : AllocId) : Type 0 where
  pub term : ℕ
  pub plan : AcceptedPlan
  pub place : AcceptedPlace
  pub one : 1 ≤ id.index
  pub plan_is : IsPlanAt (take g.committed g.log) (id.index - 1) term plan
  pub place_is : slice_get plan.places id.slot ≡ Some place
  pub on : place.node ≡ node

pub record IsSafe (servers clients : ℕ) (g : SpecState) : Type 0 where
  -- what is committed is there, and what a server has applied is committed
  pub within : g.committed ≤ length g.log
  pub only_committed : (i k : ℕ) → slice_get g.last_applied i ≡ Some (Some k) → k ≤ g.committed
  -- terms never fall
  pub terms : (p : ℕ) (d e : Entry Command) →
      slice_get g.log p ≡ Some d → slice_get g.log (suc p) ≡ Some e → d.term ≤ e.term
  -- after any first entries of the log no node is oversubscribed and no allocation name live twice
  pub safe : (k : ℕ) → Safe (state_of (take k g.log))
  -- each plan was appended under an outstanding token
  pub backed : (p term : ℕ) (plan : AcceptedPlan) →
      IsPlanAt g.log p term plan → WasOutstanding servers clients g p term plan
  -- what a client ever started is placed on its node, and it started it once
  pub placed : (k : ℕ) (ids : List AllocId) (j : ℕ) (id : AllocId) →
      slice_get g.started k ≡ Some ids → slice_get ids j ≡ Some id → IsAllocated g (suc k) id
  pub once : (k : ℕ) (ids : List AllocId) (i j : ℕ) (id : AllocId) →
      slice_get g.started k ≡ Some ids →
      slice_get ids i ≡ Some id → slice_get ids j ≡ Some id → i ≡ j

-- of each state to which it comes
abbrev pub SpecIsSafe : Type 0
SpecIsSafe =
    (servers clients : ℕ) (g : SpecState) →
    Actions (init servers clients) g → IsSafe servers clients g

-- ---- from one state to a later one

-- What is committed stays committed, and every entry of the log stays; what a client started it
-- started; and what was delivered was delivered.
pub record Stays (g h : SpecState) : Type 0 where
  pub committed : g.committed ≤ h.committed
  pub entries : (p : ℕ) (e : Entry Command) →
      slice_get g.log p ≡ Some e → slice_get h.log p ≡ Some e
  pub started : (k : ℕ) (ids : List AllocId) (j : ℕ) (id : AllocId) →
      slice_get g.started k ≡ Some ids → slice_get ids j ≡ Some id →
      (all : List AllocId) × (slice_get h.started k ≡ Some all) × (slice_get all j ≡ Some id)
  pub delivered : (j : ℕ) (pair : EvalId × Token) →
      slice_get g.delivered j ≡ Some pair → slice_get h.delivered j ≡ Some pair

abbrev pub NothingIsLost : Type 0
NothingIsLost = (g h : SpecState) → Actions g h → Stays g h

-- while a server is up, what it has applied never shrinks
abbrev pub AppliedGrows : Type 0
AppliedGrows =
    (g h : SpecState) → Action g h → (i j k : ℕ) →
    slice_get g.last_applied i ≡ Some (Some j) → slice_get h.last_applied i ≡ Some (Some k) → j ≤ k

-- ---- tokens are fencing tokens

-- after some committed entries the evaluation was pending
pub record WasPending (g : SpecState) (eval : EvalId) : Type 0 where
  pub first : ℕ
  pub place : ℕ
  pub row : Evaluation
  pub committed : first ≤ g.committed
  pub here : slice_get (state_of (take first g.log)).evals place ≡ Some row
  pub same : row.id ≡ eval
  pub pending : is_pending row.status ≡ true

abbrev pub WasDelivered : SpecState → EvalId → Token → Type 0
WasDelivered g eval token = (j : ℕ) × (slice_get g.delivered j ≡ Some (eval, token))

pub record IsFenced (g : SpecState) : Type 0 where
  -- the tokens of one term are newer and newer, and what was delivered had been pending
  pub newer : (i j : ℕ) (one two : EvalId × Token) → i < j →
      slice_get g.delivered i ≡ Some one → slice_get g.delivered j ≡ Some two →
      one.1.term ≡ two.1.term → one.1.serial < two.1.serial
  pub pending : (j : ℕ) (pair : EvalId × Token) →
      slice_get g.delivered j ≡ Some pair → WasPending g pair.0
  -- what is outstanding in a term is so under a token of that term, which was delivered for it,
  -- and after which no other of that term was
  pub outstanding : (term : ℕ) (eval : EvalId) (token : Token) →
      g.outstanding term eval ≡ Some token → (token.term ≡ term) × WasDelivered g eval token
  pub last : (term : ℕ) (eval : EvalId) (token other : Token) →
      g.outstanding term eval ≡ Some token → WasDelivered g eval other → other.term ≡ term →
      other.serial ≤ token.serial
  -- a plan's token is of its entry's term, and was delivered for its evaluation
  pub plans : (p term : ℕ) (plan : AcceptedPlan) →
      IsPlanAt g.log p term plan → (plan.token.term ≡ term) × WasDelivered g plan.eval plan.token
  -- of two plans of one evaluation in one term the later one has no older token
  pub later : (p q term : ℕ) (one two : AcceptedPlan) → p < q →
      IsPlanAt g.log p term one → IsPlanAt g.log q term two →
      one.eval ≡ two.eval → one.token.serial ≤ two.token.serial

-- of each state to which it comes
abbrev pub TokensFence : Type 0
TokensFence =
    (servers clients : ℕ) (g : SpecState) → Actions (init servers clients) g → IsFenced g

-- In a term an evaluation is with one worker at a time, from its delivery until that ends; here of
-- what one action makes of g. In another term it may be with another worker; but once an entry of a
-- later term is in the log, no plan of the earlier one is appended.
pub record HasOneHolder (g h : SpecState) (term : ℕ) (eval : EvalId) : Type 0 where
  -- what is delivered is outstanding then, under that token
  pub holds : (j : ℕ) (token : Token) → token.term ≡ term →
      slice_get h.delivered j ≡ Some (eval, token) → slice_get g.delivered j ≢ Some (eval, token) →
      h.outstanding term eval ≡ Some token
  -- while it is outstanding, it is not delivered in that term
  pub not_again : (j : ℕ) (one two : Token) →
      g.outstanding term eval ≡ Some one → two.term ≡ term →
      slice_get h.delivered j ≡ Some (eval, two) → slice_get g.delivered j ≡ Some (eval, two)
  -- while it is outstanding, no other token takes its token's place
  pub same : (one two : Token) →
      g.outstanding term eval ≡ Some one → h.outstanding term eval ≡ Some two → one ≡ two
  -- a delivery that has ended never comes back
  pub ended : (token : Token) → WasDelivered g eval token →
      h.outstanding term eval ≡ Some token → g.outstanding term eval ≡ Some token

-- of each action
abbrev pub OneHolder : Type 0
OneHolder =
    (g h : SpecState) → Action g h → (term : ℕ) (eval : EvalId) → HasOneHolder g h term eval
