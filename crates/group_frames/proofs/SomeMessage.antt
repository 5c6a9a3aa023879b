-- A frame that can be read, and is no Install, is of some message.
use Rattle.std.proofs.Common.{◌≡◌, ◌⊎◌, inl, inr, ℕ, true, Some, refl}
use Rattle.rows.specs.declared.actor.Actor.{Actor}
use Rattle.rows.specs.declared.actor.Actor.TheVariants.{Server, Client}
use Rattle.rows.specs.declared.command.Command.{Command}
use Rattle.rows.specs.declared.worker.WorkerRequest.{WorkerRequest}
use Rattle.rows.specs.declared.worker.WorkerRequest.TheVariants as requests
use Rattle.rows.specs.declared.worker.WorkerResponse.{WorkerResponse}
use Rattle.rows.specs.declared.worker.WorkerResponse.TheVariants as responses
use Rattle.machine_model.specs.MachineSpec.{MachineSpec}
use Rattle.wire.specs.Messages.{Message as WireMessage, kind_of, is_of_log, is_another_server, are_servers, may_go}
use Rattle.wire.specs.declared.body.Body.{Body}
use Rattle.wire.specs.declared.body.Body.TheVariants as bodies
use Rattle.raft_model.specs.Messages.{Message, VoteRequest, VoteReply, Append, AppendReply, InstallReply}
use Rattle.raft_core.specs.Frames.{Means}
use Rattle.group_model.specs.Messages.{GroupMessage, OfLog, Service, ServiceMessage, BetweenServers, ToServer, ToClient, Asks, Answers, Register, Heartbeat, Pull, ReportStates, Listing, Told}
use Rattle.group_frames.specs.GroupFrames.{service_of, IsGroupFrame, IsNoInstall, FramesAreOfSome}

module _ {S : Type 0} (m : MachineSpec S Command) where
  -- what one server says to another by a kind of the log
  said_between : (i j : ℕ) (body : Body S Command) → IsNoInstall body → is_of_log (kind_of body) ≡ true → (said : Message Command) × Means m (record { from = Server i; to = Server j; body = body }) said
  said_between i j (bodies.VoteRequest v) plain h = (record { from = i; to = j; term = v.term; body = VoteRequest v.last_index v.last_term }, record { from = refl; to = refl; said = refl })
  said_between i j (bodies.VoteReply v) plain h = (record { from = i; to = j; term = v.term; body = VoteReply v.asked v.granted }, record { from = refl; to = refl; said = refl })
  said_between i j (bodies.Append a) plain h = (record { from = i; to = j; term = a.head.term; body = Append a.head.prev_index a.head.prev_term a.head.commit a.entries }, record { from = refl; to = refl; said = refl })
  said_between i j (bodies.AppendReply r) plain h = (record { from = i; to = j; term = r.term; body = AppendReply r.asked r.ok r.at }, record { from = refl; to = refl; said = refl })
  said_between i j (bodies.Install v) plain h = absurd plain
  said_between i j (bodies.InstallReply r) plain h = (record { from = i; to = j; term = r.term; body = InstallReply r.asked r.at }, record { from = refl; to = refl; said = refl })
  said_between i j (bodies.Request requests.Take) plain h = absurd cc
  said_between i j (bodies.Request (requests.Submit plan)) plain h = absurd cc
  said_between i j (bodies.Request (requests.Finish eval token outcome)) plain h = absurd cc
  said_between i j (bodies.Request (requests.Nack eval token)) plain h = absurd cc
  said_between i j (bodies.Response (responses.Delivered what)) plain h = absurd cc
  said_between i j (bodies.Response (responses.PlanResult result)) plain h = absurd cc
  said_between i j (bodies.Response (responses.Refused asked reason)) plain h = absurd cc
  said_between i j (bodies.Register class size) plain h = absurd cc
  said_between i j bodies.Heartbeat plain h = absurd cc
  said_between i j bodies.Pull plain h = absurd cc
  said_between i j (bodies.List index rows) plain h = absurd cc
  said_between i j (bodies.Report items) plain h = absurd cc
  said_between i j (bodies.Told kind refused) plain h = absurd cc

  -- what was read says a message
  abbrev Says : WireMessage S Command → Type 0
  Says read = ((x : Message Command) × Means m read x) ⊎ ((y : ServiceMessage) × (service_of read ≡ Some y))

  says_log : (from to : Actor) (body : Body S Command) → IsNoInstall body → is_of_log (kind_of body) ≡ true → is_another_server from to ≡ true → Says (record { from = from; to = to; body = body })
  says_log (Server i) (Server j) body plain log goes = inl (said_between i j body plain log)
  says_log (Server i) (Client c) body plain log goes = absurd cc
  says_log (Client c) to body plain log goes = absurd cc

  asks : (from to : Actor) (r : WorkerRequest) → are_servers from to ≡ true → (let body : Body S Command = bodies.Request r in Says (record { from = from; to = to; body = body }))
  asks (Server i) (Server j) r goes = inr (BetweenServers i j (Asks r), refl)
  asks (Server i) (Client c) r goes = absurd cc
  asks (Client c) to r goes = absurd cc

  answers : (from to : Actor) (r : WorkerResponse) → are_servers from to ≡ true → (let body : Body S Command = bodies.Response r in Says (record { from = from; to = to; body = body }))
  answers (Server i) (Server j) r goes = inr (BetweenServers i j (Answers r), refl)
  answers (Server i) (Client c) r goes = absurd cc
  answers (Client c) to r goes = absurd cc

  says : (from to : Actor) (body : Body S Command) → IsNoInstall body → may_go (kind_of body) from to ≡ true → Says (record { from = from; to = to; body = body })
  says from to (bodies.VoteRequest v) plain goes = says_log from to (bodies.VoteRequest v) plain refl goes
  says from to (bodies.VoteReply v) plain goes = says_log from to (bodies.VoteReply v) plain refl goes
  says from to (bodies.Append a) plain goes = says_log from to (bodies.Append a) plain refl goes
  says from to (bodies.AppendReply r) plain goes = says_log from to (bodies.AppendReply r) plain refl goes
  says from to (bodies.Install v) plain goes = absurd plain
  says from to (bodies.InstallReply r) plain goes = says_log from to (bodies.InstallReply r) plain refl goes
  says from to (bodies.Request requests.Take) plain goes = asks from to requests.Take goes
  says from to (bodies.Request (requests.Submit plan)) plain goes = asks from to (requests.Submit plan) goes
  says from to (bodies.Request (requests.Finish eval token outcome)) plain goes = asks from to (requests.Finish eval token outcome) goes
  says from to (bodies.Request (requests.Nack eval token)) plain goes = asks from to (requests.Nack eval token) goes
  says from to (bodies.Response (responses.Delivered what)) plain goes = answers from to (responses.Delivered what) goes
  says from to (bodies.Response (responses.PlanResult result)) plain goes = answers from to (responses.PlanResult result) goes
  says from to (bodies.Response (responses.Refused asked reason)) plain goes = answers from to (responses.Refused asked reason) goes
  says (Client c) (Server j) (bodies.Register class size) plain goes = inr (ToServer c j (Register class size), refl)
  says (Client c) (Client d) (bodies.Register class size) plain goes = absurd cc
  says (Server i) to (bodies.Register class size) plain goes = absurd cc
  says (Client c) (Server j) bodies.Heartbeat plain goes = inr (ToServer c j Heartbeat, refl)
  says (Client c) (Client d) bodies.Heartbeat plain goes = absurd cc
  says (Server i) to bodies.Heartbeat plain goes = absurd cc
  says (Client c) (Server j) bodies.Pull plain goes = inr (ToServer c j Pull, refl)
  says (Client c) (Client d) bodies.Pull plain goes = absurd cc
  says (Server i) to bodies.Pull plain goes = absurd cc
  says (Client c) (Server j) (bodies.Report items) plain goes = inr (ToServer c j (ReportStates items), refl)
  says (Client c) (Client d) (bodies.Report items) plain goes = absurd cc
  says (Server i) to (bodies.Report items) plain goes = absurd cc
  says (Server i) (Client c) (bodies.List index rows) plain goes = inr (ToClient i c (Listing index rows), refl)
  says (Server i) (Server j) (bodies.List index rows) plain goes = absurd cc
  says (Client c) to (bodies.List index rows) plain goes = absurd cc
  says (Server i) (Client c) (bodies.Told kind refused) plain goes = inr (ToClient i c (Told kind refused), refl)
  says (Server i) (Server j) (bodies.Told kind refused) plain goes = absurd cc
  says (Client c) to (bodies.Told kind refused) plain goes = absurd cc

  pub some_message : FramesAreOfSome m
  some_message bytes read frame plain = of (says read.from read.to read.body plain frame.0.header_fits.1.1.1.1) where
    of : Says read → (message : GroupMessage) × IsGroupFrame m bytes message
    of (inl x) = (OfLog x.0, record { read = read; fits = frame.0; text = frame.1; means = x.1 })
    of (inr y) = (Service y.0, record { read = read; fits = frame.0; text = frame.1; means = y.1 })
