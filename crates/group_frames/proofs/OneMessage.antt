-- A frame is of one message at most, but for the entries that an Install covers.
use Rattle.std.proofs.Common.{◌≡◌, ℕ, Option, Some, None, List, [], ◌++◌, refl, sym, ap, subst, ◌∙◌}
use Rattle.rows.specs.declared.actor.Actor.{Actor}
use Rattle.rows.specs.declared.actor.Actor.TheVariants.{Server}
use Rattle.rows.specs.declared.command.Command.{Command}
use Rattle.machine_model.specs.MachineSpec.{MachineSpec, LawfulMachine}
use Rattle.wire.specs.Messages.{Message as WireMessage}
use Rattle.wire.specs.Frames.{MessageFits, message_text}
use Rattle.wire.specs.declared.body.Body.{Body}
use Rattle.wire.specs.declared.body.Body.TheVariants as bodies
use Rattle.wire.proofs.Framing.{frames_apart}
use Rattle.raft_model.specs.Messages.{Message, Install}
use Rattle.raft_model.specs.Messages.{Body as Said}
use Rattle.raft_core.specs.Frames.{Means, Says, log_message}
use Rattle.group_model.specs.Messages.{OfLog, Service, ServiceMessage}
use Rattle.group_frames.specs.GroupFrames.{service_of, service_between, SameSaid, FramesAreOfOne}

same_place : {a b : ℕ} → (let x : Actor = Server a in x ≡ Server b) → a ≡ b
same_place h = cc

same_service : {a b : ServiceMessage} → (let x : Option ServiceMessage = Some a in x ≡ Some b) → a ≡ b
same_service h = cc

no_service : {a : ServiceMessage} → (let x : Option ServiceMessage = None in x ≡ Some a) → ⊥
no_service h = cc

same_message : {a b : Message Command} → (let x : Option (Message Command) = Some a in x ≡ Some b) → a ≡ b
same_message h = cc

no_message : {a : Message Command} → (let x : Option (Message Command) = None in x ≡ Some a) → ⊥
no_message h = cc

-- what is of the log is nothing beside it
apart : {S : Type 0} (m : MachineSpec S Command) (i j : ℕ) (body : Body S Command) (x : Message Command) (y : ServiceMessage) → Says m i j body x → service_between (Server i) (Server j) body ≡ Some y → ⊥
apart m i j (bodies.VoteRequest v) x y p h = no_service h
apart m i j (bodies.VoteReply v) x y p h = no_service h
apart m i j (bodies.Append a) x y p h = no_service h
apart m i j (bodies.AppendReply r) x y p h = no_service h
apart m i j (bodies.Install v) x y p h = no_service h
apart m i j (bodies.InstallReply r) x y p h = no_service h
apart m i j (bodies.Request r) x y p h = no_message p
apart m i j (bodies.Response r) x y p h = no_message p
apart m i j (bodies.Register class size) x y p h = no_message p
apart m i j bodies.Heartbeat x y p h = no_message p
apart m i j bodies.Pull x y p h = no_message p
apart m i j (bodies.List index rows) x y p h = no_message p
apart m i j (bodies.Report items) x y p h = no_message p
apart m i j (bodies.Told kind refused) x y p h = no_message p

module _ {S : Type 0} (m : MachineSpec S Command) where
  same_at : (x : Message Command) (b : Said Command) → SameSaid m x x b b
  same_at x (Install a) = record { from = refl; to = refl; term = refl; index = refl; last = refl; state = refl }
  same_at x b = refl

  same_said : (x y : Message Command) → x ≡ y → SameSaid m x y x.body y.body
  same_said x y e = subst (λ (z : Message Command). SameSaid m x z x.body z.body) e (same_at x x.body)

  -- what one body says
  one_said : (body : Body S Command) (x y : Message Command) → x.from ≡ y.from → x.to ≡ y.to → Says m x.from x.to body x → Says m y.from y.to body y → SameSaid m x y x.body y.body
  one_said (bodies.Install v) x y from to p q =
      subst (λ (b : Said Command). SameSaid m x y b y.body) (sym (ap (λ (z : Message Command). z.body) p.2))
      (subst (λ (b : Said Command). SameSaid m x y (Install p.0) b) (sym (ap (λ (z : Message Command). z.body) q.2)) (record {
        from = from;
        to = to;
        term = ap (λ (z : Message Command). z.term) p.2 ∙ sym (ap (λ (z : Message Command). z.term) q.2);
        index = p.1.index ∙ sym q.1.index;
        last = p.1.term ∙ sym q.1.term;
        state = p.1.state ∙ sym q.1.state;
      }))
  one_said body x y from to p q =
      let said : log_message m y.from y.to body ≡ Some x =
      subst (λ (i : ℕ). log_message m i y.to body ≡ Some x) from
      (subst (λ (j : ℕ). log_message m x.from j body ≡ Some x) to p) in
      same_said x y (same_message (sym said ∙ q))

  one_log : (r : WireMessage S Command) (x y : Message Command) → Means m r x → Means m r y → SameSaid m x y x.body y.body
  one_log r x y p q = one_said r.body x y (same_place (sym p.from ∙ q.from)) (same_place (sym p.to ∙ q.to)) p.said q.said

  log_is_no_service : (r : WireMessage S Command) (x : Message Command) (y : ServiceMessage) → Means m r x → service_of r ≡ Some y → ⊥
  log_is_no_service r x y p h =
      apart m x.from x.to r.body x y p.said (subst (λ (a : Actor). service_between a (Server x.to) r.body ≡ Some y) p.from (subst (λ (a : Actor). service_between r.from a r.body ≡ Some y) p.to h))

module _ {S : Type 0} (m : MachineSpec S Command) (law : LawfulMachine m) where
  pub one_text : (r q : WireMessage S Command) → MessageFits m r → MessageFits m q → message_text m r ≡ message_text m q → r ≡ q
  one_text r q fr fq same = frames_apart m law r q [] [] fr fq (ap (λ (t : List ℕ). t ++ []) same)

  pub one_message : FramesAreOfOne m
  one_message bytes (OfLog x) (OfLog y) p q =
      let same : p.read ≡ q.read = one_text p.read q.read p.fits q.fits (sym p.text ∙ q.text) in
      one_log m q.read x y (rw same at p.means) q.means
  one_message bytes (Service x) (Service y) p q =
      let same : p.read ≡ q.read = one_text p.read q.read p.fits q.fits (sym p.text ∙ q.text) in
      ap (λ z. Service z) (same_service (sym (subst (λ (r : WireMessage S Command). service_of r ≡ Some x) same p.means) ∙ q.means))
  one_message bytes (OfLog x) (Service y) p q =
      let same : p.read ≡ q.read = one_text p.read q.read p.fits q.fits (sym p.text ∙ q.text) in
      absurd (log_is_no_service m q.read x y (rw same at p.means) q.means)
  one_message bytes (Service x) (OfLog y) p q =
      let same : q.read ≡ p.read = one_text q.read p.read q.fits p.fits (sym q.text ∙ p.text) in
      absurd (log_is_no_service m p.read y x (rw same at q.means) p.means)
