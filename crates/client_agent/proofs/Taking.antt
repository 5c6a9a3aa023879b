-- What a client does is a step of the definitions.
use Rattle.std.proofs.Common.{◌≡◌, ℕ, ◌<◌, ◌≤◌, Bool, true, false, is_some, Option, Some, None, List, [], ◌∷◌, map, Ok, nat_lt, refl, ap, ◌∙◌, lt-ltb, le-ltb}
use Rattle.rows.specs.declared.allocation.AllocId.{AllocId}
use Rattle.rows.specs.declared.listing.ListedAllocation.{ListedAllocation}
use Rattle.rows.specs.declared.worker.ClientRequestKind.{ClientRequestKind}
use Rattle.rows.specs.declared.reason.Reason.{Reason}
use Rattle.wire.specs.Frames.{Frame}
use Rattle.fsm_model.specs.ClusterMachine.{cluster_spec}
use Rattle.group_model.specs.Messages.{ToServer, Listing, Told, Service}
use Rattle.group_model.specs.Agents.{Agent, Life, Started, Input, Arrives, RegisterAt, Ping, PullFrom, End, Crash, Restart, AgentTurn, step, lives, new_life, runs, news, report_messages, with_end, with_started}
use Rattle.group_frames.specs.GroupFrames.{SendsGroup}
use Rattle.group_frames.proofs.Sending.{sends_nothing}
use Rattle.group_inputs.specs.declared.client_input.ClientInput.TheVariants as inputs
use Rattle.client_agent.specs.declared.asking.Asked.{Asked}
use Rattle.client_agent.specs.declared.asking.Asked.TheVariants as asked
use Rattle.client_agent.specs.AgentView.{AgentView, crashed_agent}
use Rattle.client_agent.specs.Steps.{AgentSteps, AgentTakes}
use Rattle.client_agent.specs.Inner.Asking.{request_of, handing_of}
use Rattle.client_agent.specs.Inner.Runs.{followed}

-- the turn of an input is a step
steps_by : (old new : AgentView) (input : Input) (before after : List Frame) (turn : AgentTurn) → step old.size old.client input ≡ Ok turn → new.client ≡ turn.client →
    SendsGroup cluster_spec before after (map Service turn.sent) → AgentSteps old input new before after
steps_by old new input before after turn is client sent = record { turn = turn; step = is; client = client; sent = sent }

-- the definitions' step of a client that is up, or down
up_step : (n : ℕ) (c : Agent) (l : Life) (input : Input) → c.life ≡ Some l → step n c input ≡ lives n c l input
up_step n c l input up = rw up refl

life_of : (o : Option Life) → is_some o ≡ true → (l : Life) × (o ≡ Some l)
life_of None up = absurd (cc up)
life_of (Some l) up = (l, refl)

no_life : (o : Option Life) → is_some o ≡ false → o ≡ None
no_life None down = refl
no_life (Some l) down = absurd (cc down)

-- ---- what a server says

-- a request is taken or refused
pub told_by : (old : AgentView) (from : ℕ) (kind : ClientRequestKind) (refused : Option Reason) (all : List Frame) → is_some old.client.life ≡ true →
    AgentSteps old (Arrives from (Told kind refused)) old all all
told_by old from kind refused all up =
    let c = old.client in
    let life = life_of c.life up in
    steps_by old old (Arrives from (Told kind refused)) all all (record { client = c; sent = [] }) (up_step old.size c life.0 (Arrives from (Told kind refused)) life.1) refl (sends_nothing cluster_spec all)

-- a list of an index below that of the last one
pub list_is_old : (old : AgentView) (l : Life) (from index : ℕ) (rows : List ListedAllocation) (all : List Frame) → old.client.life ≡ Some l → index < l.seen →
    AgentSteps old (Arrives from (Listing index rows)) old all all
list_is_old old l from index rows all up below =
    let c = old.client in
    let behind : nat_lt index l.seen ≡ true = lt-ltb index l.seen below in
    steps_by old old (Arrives from (Listing index rows)) all all (record { client = c; sent = [] })
    (up_step old.size c l (Arrives from (Listing index rows)) up ∙ rw behind refl) refl (sends_nothing cluster_spec all)

-- any other list
pub list_is_taken : (old new : AgentView) (l : Life) (from index : ℕ) (rows : List ListedAllocation) (before after : List Frame) → old.client.life ≡ Some l → l.seen ≤ index →
    (let next = followed old.client.node.size rows old.client.started l in
    (new.client ≡ record old.client { started = next.ids; life = Some (record l { seen = index; running = next.running }) })
    → SendsGroup cluster_spec before after (map Service (report_messages old.client.node.number from (news next l.ended rows)))
    → AgentSteps old (Arrives from (Listing index rows)) new before after)
list_is_taken old new l from index rows before after up above made sent =
    let c = old.client in
    let next : Started = followed c.node.size rows c.started l in
    let ahead : nat_lt index l.seen ≡ false = le-ltb index l.seen above in
    steps_by old new (Arrives from (Listing index rows)) before after (with_started c from index rows l next)
    (up_step old.size c l (Arrives from (Listing index rows)) up ∙ rw ahead refl) made sent

-- ---- what it is to ask

pub asked_by : (what : Asked) (old : AgentView) (server : ℕ) (before after : List Frame) → is_some old.client.life ≡ true → server < old.size →
    SendsGroup cluster_spec before after (Service (ToServer old.client.node.number server (request_of old.client.node what)) ∷ []) →
    AgentTakes old (handing_of what server) old before after
asked_by what old server before after up member sent =
    of what (life_of old.client.life up) (lt-ltb server old.size member) sent where
      of : (what : Asked) (life : (l : Life) × (old.client.life ≡ Some l)) → nat_lt server old.size ≡ true →
          SendsGroup cluster_spec before after (Service (ToServer old.client.node.number server (request_of old.client.node what)) ∷ []) → AgentTakes old (handing_of what server) old before after
      of asked.Registration life there sent input is =
          rw is (steps_by old old (RegisterAt server) before after (record { client = old.client; sent = ToServer old.client.node.number server (request_of old.client.node asked.Registration) ∷ [] }) (up_step old.size old.client life.0 (RegisterAt server) life.1 ∙ rw there refl) refl sent)
      of asked.Heartbeat life there sent input is =
          rw is (steps_by old old (Ping server) before after (record { client = old.client; sent = ToServer old.client.node.number server (request_of old.client.node asked.Heartbeat) ∷ [] }) (up_step old.size old.client life.0 (Ping server) life.1 ∙ rw there refl) refl sent)
      of asked.Listing life there sent input is =
          rw is (steps_by old old (PullFrom server) before after (record { client = old.client; sent = ToServer old.client.node.number server (request_of old.client.node asked.Listing) ∷ [] }) (up_step old.size old.client life.0 (PullFrom server) life.1 ∙ rw there refl) refl sent)

-- ---- an end, a crash, a restart

pub ended_by : (old new : AgentView) (l : Life) (id : AllocId) (ok : Bool) (all : List Frame) → old.client.life ≡ Some l → runs l.running id ≡ true →
    new.client ≡ record old.client { life = Some (with_end l id ok) } → AgentTakes old (inputs.End id ok) new all all
ended_by old new l id ok all up there made input is =
    let c = old.client in
    rw is (steps_by old new (End id ok) all all (record { client = record c { life = Some (with_end l id ok) }; sent = [] }) (up_step old.size c l (End id ok) up ∙ rw there refl) made (sends_nothing cluster_spec all))

pub crashed_by : (old new : AgentView) (all : List Frame) → is_some old.client.life ≡ true → new ≡ crashed_agent old → AgentTakes old inputs.Crash new all all
crashed_by old new all up made input is =
    let c = old.client in
    let life = life_of c.life up in
    rw is (steps_by old new Crash all all (record { client = record c { life = None }; sent = [] }) (up_step old.size c life.0 Crash life.1) (ap (λ (a : AgentView). a.client) made) (sends_nothing cluster_spec all))

pub restarted_by : (old new : AgentView) (all : List Frame) → is_some old.client.life ≡ false → new.client ≡ record old.client { life = Some new_life } → AgentTakes old inputs.Restart new all all
restarted_by old new all down made input is =
    let c = old.client in
    let turn : AgentTurn = record { client = record c { life = Some new_life }; sent = [] } in
    let taken : step old.size c Restart ≡ Ok turn = rw (no_life c.life down) refl in
    rw is (steps_by old new Restart all all turn taken made (sends_nothing cluster_spec all))
