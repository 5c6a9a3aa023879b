-- A message of the group has one frame at most.
use Rattle.std.proofs.Common.{◌≡◌, ℕ, Option, Some, None, length, refl, sym, ap, subst, ◌∙◌}
use Rattle.rows.specs.declared.actor.Actor.{Actor}
use Rattle.rows.specs.declared.actor.Actor.TheVariants.{Server, Client}
use Rattle.rows.specs.declared.command.Command.{Command}
use Rattle.machine_model.specs.MachineSpec.{MachineSpec}
use Rattle.wire.specs.Messages.{Message as WireMessage}
use Rattle.wire.specs.Frames.{message_text}
use Rattle.wire.specs.declared.body.Body.{Body}
use Rattle.wire.specs.declared.body.Body.TheVariants as bodies
use Rattle.raft_model.specs.Logs.{last_term, state_after}
use Rattle.raft_model.specs.Messages.{Message, VoteRequest, VoteReply, Append, AppendReply, Install, InstallReply}
use Rattle.raft_model.specs.Messages.{Body as Said}
use Rattle.raft_core.specs.Frames.{Means, Says}
use Rattle.group_model.specs.Messages.{OfLog, Service, ServiceMessage, BetweenServers, ToServer, ToClient, Asks, Answers, Register, Heartbeat, Pull, ReportStates, Listing, Told}
use Rattle.group_frames.specs.GroupFrames.{service_between, MessagesHaveOneFrame}

-- the body that says a message of the log
abbrev body_of : {S : Type 0} → MachineSpec S Command → ℕ → Said Command → Body S Command
body_of m term (VoteRequest index its_last) = bodies.VoteRequest (record { term = term; last_index = index; last_term = its_last })
body_of m term (VoteReply asked granted) = bodies.VoteReply (record { term = term; asked = asked; granted = granted })
body_of m term (Append prev prev_term commit entries) =
    bodies.Append (record { head = record { term = term; prev_index = prev; prev_term = prev_term; commit = commit }; entries = entries })
body_of m term (AppendReply asked ok at) = bodies.AppendReply (record { term = term; asked = asked; ok = ok; at = at })
body_of m term (Install covered) =
    bodies.Install (record { head = record { term = term; index = length covered; index_term = last_term covered }; state = state_after m covered })
body_of m term (InstallReply asked at) = bodies.InstallReply (record { term = term; asked = asked; at = at })

same_message : {a b : Message Command} → (let x : Option (Message Command) = Some a in x ≡ Some b) → a ≡ b
same_message h = cc

no_message : {a : Message Command} → (let x : Option (Message Command) = None in x ≡ Some a) → ⊥
no_message h = cc

same_service : {a b : ServiceMessage} → (let x : Option ServiceMessage = Some a in x ≡ Some b) → a ≡ b
same_service h = cc

no_service : {a : ServiceMessage} → (let x : Option ServiceMessage = None in x ≡ Some a) → ⊥
no_service h = cc

module _ {S : Type 0} where
  same_parts : (r q : WireMessage S Command) → r.from ≡ q.from → r.to ≡ q.to → r.body ≡ q.body → r ≡ q
  same_parts r q from to body =
      ap (λ (x : Actor). let w : WireMessage S Command = record { from = x; to = r.to; body = r.body } in w) from
      ∙ (ap (λ (x : Actor). let w : WireMessage S Command = record { from = q.from; to = x; body = r.body } in w) to
      ∙ ap (λ (x : Body S Command). let w : WireMessage S Command = record { from = q.from; to = q.to; body = x } in w) body)

  -- what is read of a message beside the log's
  abbrev read_of : ServiceMessage → WireMessage S Command
  read_of (BetweenServers from to (Asks request)) = record { from = Server from; to = Server to; body = bodies.Request request }
  read_of (BetweenServers from to (Answers response)) = record { from = Server from; to = Server to; body = bodies.Response response }
  read_of (ToServer client server (Register class size)) = record { from = Client client; to = Server server; body = bodies.Register class size }
  read_of (ToServer client server Heartbeat) = record { from = Client client; to = Server server; body = bodies.Heartbeat }
  read_of (ToServer client server Pull) = record { from = Client client; to = Server server; body = bodies.Pull }
  read_of (ToServer client server (ReportStates items)) = record { from = Client client; to = Server server; body = bodies.Report items }
  read_of (ToClient server client (Listing index rows)) = record { from = Server server; to = Client client; body = bodies.List index rows }
  read_of (ToClient server client (Told kind refused)) = record { from = Server server; to = Client client; body = bodies.Told kind refused }

  service_is : (from to : Actor) (b : Body S Command) (y : ServiceMessage) → service_between from to b ≡ Some y → read_of y ≡ record { from = from; to = to; body = b }
  service_is (Server from) (Server to) (bodies.Request request) y h = ap read_of (sym (same_service h))
  service_is (Server from) (Server to) (bodies.Response response) y h = ap read_of (sym (same_service h))
  service_is (Client client) (Server server) (bodies.Register class size) y h = ap read_of (sym (same_service h))
  service_is (Client client) (Server server) bodies.Heartbeat y h = ap read_of (sym (same_service h))
  service_is (Client client) (Server server) bodies.Pull y h = ap read_of (sym (same_service h))
  service_is (Client client) (Server server) (bodies.Report items) y h = ap read_of (sym (same_service h))
  service_is (Server server) (Client client) (bodies.List index rows) y h = ap read_of (sym (same_service h))
  service_is (Server server) (Client client) (bodies.Told kind refused) y h = ap read_of (sym (same_service h))
  service_is from to b y h = absurd (no_service h)

module _ {S : Type 0} (m : MachineSpec S Command) where
  abbrev says_it : Body S Command → Message Command → Type 0
  says_it b x = body_of m x.term x.body ≡ b

  -- a message of the log is said by this body alone
  body_is : (i j : ℕ) (b : Body S Command) (x : Message Command) → Says m i j b x → body_of m x.term x.body ≡ b
  body_is i j (bodies.VoteRequest v) x h = subst (says_it (bodies.VoteRequest v)) (same_message h) refl
  body_is i j (bodies.VoteReply v) x h = subst (says_it (bodies.VoteReply v)) (same_message h) refl
  body_is i j (bodies.Append a) x h = subst (says_it (bodies.Append a)) (same_message h) refl
  body_is i j (bodies.AppendReply r) x h = subst (says_it (bodies.AppendReply r)) (same_message h) refl
  body_is i j (bodies.Install v) x h =
      subst (says_it (bodies.Install v)) (sym h.2)
      (λ k. bodies.Install (record { head = record { term = v.head.term; index = h.1.index k; index_term = h.1.term k }; state = h.1.state k }))
  body_is i j (bodies.InstallReply r) x h = subst (says_it (bodies.InstallReply r)) (same_message h) refl
  body_is i j b x h = absurd (no_message h)

  -- so two that were read and are the same message are the same
  log_read_is : (r q : WireMessage S Command) (x : Message Command) → Means m r x → Means m q x → r ≡ q
  log_read_is r q x p h =
      let said : r.body ≡ q.body = sym (body_is x.from x.to r.body x p.said) ∙ body_is x.from x.to q.body x h.said in
      same_parts r q (p.from ∙ sym h.from) (p.to ∙ sym h.to) said

  pub one_frame : MessagesHaveOneFrame m
  one_frame (OfLog x) a b p q =
      p.text ∙ ap (message_text m) (log_read_is p.read q.read x p.means q.means) ∙ sym q.text
  one_frame (Service y) a b p q =
      let same : p.read ≡ q.read = sym (service_is p.read.from p.read.to p.read.body y p.means) ∙ service_is q.read.from q.read.to q.read.body y q.means in
      p.text ∙ ap (message_text m) same ∙ sym q.text
