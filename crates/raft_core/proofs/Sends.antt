-- Frames sent one after the other.
use Rattle.std.proofs.Common.{◌≡◌, ◌≢◌, ℕ, ◌≤◌, IfSome, suc, ◌+◌, ◌==◌, true, false, List, [], ◌∷◌, ◌++◌, length, take, refl, sym, ap, ◌∙◌, append_assoc, arith}
use Rattle.std.proofs.lemmas.Bool.{eq-eqb, ne_eqb}
use Rattle.std.proofs.Math.Seq.{take-append_seam, take-length}
use Rattle.std.proofs.lemmas.List.{append-nil, length-take, take-take}
use Rattle.std.specs.List.{AllZip}
use Rattle.machine_model.specs.MachineSpec.{MachineSpec}
use Rattle.raft_model.specs.Messages.{Message, to_others}
use Rattle.rows.specs.declared.actor.Actor.TheVariants.{Server}
use Rattle.wire.specs.Frames.{Frame, ListsFrame, frame_of}
use Rattle.wire.specs.Messages.{Message as WireMessage, may_go, kind_of, is_of_log, is_another_server}
use Rattle.wire.specs.declared.kind.Kind.{Kind}
use Rattle.wire.specs.declared.kind.Kind.TheVariants as kinds
use Rattle.wire.specs.declared.body.Body.{Body}
use Rattle.wire.specs.declared.body.Body.TheVariants as bodies
use Rattle.raft_core.specs.Frames.{FrameCarries, Means, Sends, log_message}
use Rattle.raft_core.specs.Inner.Turns.{KeepsFront}
use Rattle.raft_core.specs.Inner.Moves.{is_install}

module _ {S C : Type 0} (m : MachineSpec S C) where
  pub sends-none : (all : List Frame) → Sends m all all []
  sends-none all = record { frames = []; added = sym (append-nil all); carry = tt }

  carry-more : (fs gs : List Frame) (xs ys : List (Message C)) → AllZip (FrameCarries m) fs xs → AllZip (FrameCarries m) gs ys → AllZip (FrameCarries m) (fs ++ gs) (xs ++ ys)
  carry-more [] gs [] ys p q = q
  carry-more [] gs (x ∷ xs) ys p q = absurd p
  carry-more (f ∷ fs) gs [] ys p q = absurd p
  carry-more (f ∷ fs) gs (x ∷ xs) ys p q = (p.0, carry-more fs gs xs ys p.1 q)

  pub sends-more : (a b c : List Frame) (xs ys : List (Message C)) → Sends m a b xs → Sends m b c ys → Sends m a c (xs ++ ys)
  sends-more a b c xs ys p q = record {
    frames = p.frames ++ q.frames;
    added = q.added ∙ ap (λ (z : List Frame). z ++ q.frames) p.added ∙ append_assoc a p.frames q.frames;
    carry = carry-more p.frames q.frames xs ys p.carry q.carry;
  }

module _ {S C : Type 0} (m : MachineSpec S C) (me : ℕ) (f : ℕ → Message C) where
  others_skip : (k : ℕ) → k ≡ me → to_others me f (k + 1) ≡ to_others me f k ++ []
  unfolding to_others
  others_skip k e = let q : k + 1 ≡ suc k = omega arith in let b : (k == me) ≡ true = eq-eqb k me e in rw q (rw b refl)

  others_next : (k : ℕ) → k ≢ me → to_others me f (k + 1) ≡ to_others me f k ++ f k ∷ []
  unfolding to_others
  others_next k e = let q : k + 1 ≡ suc k = omega arith in let b : (k == me) ≡ false = ne_eqb k me e in rw q (rw b refl)

  -- no message goes to the sender itself
  pub asks_skip : (a b : List Frame) (k : ℕ) → k ≡ me → Sends m a b (to_others me f k) → Sends m a b (to_others me f (k + 1))
  asks_skip a b k e p = rw (others_skip k e, append-nil (to_others me f k)) p

  pub asks_next : (a b c : List Frame) (k : ℕ) → k ≢ me → Sends m a b (to_others me f k) → Sends m b c (f k ∷ []) → Sends m a c (to_others me f (k + 1))
  asks_next a b c k e p q = rw (others_next k e) (sends-more m a b c (to_others me f k) (f k ∷ []) p q)

  pub asks_none : (a : List Frame) → Sends m a a (to_others me f 0)
  unfolding to_others
  asks_none a = sends-none m a

module _ {S C : Type 0} (m : MachineSpec S C) where
  pub sent_front : (a b : List Frame) (xs : List (Message C)) → Sends m a b xs → KeepsFront a b
  sent_front a b xs p = rw p.added (take-append_seam a p.frames)

pub sent_all : (a : List Frame) → KeepsFront a a
sent_all a = take-length a

-- what keeps what was sent, and then what keeps that
pub front_on : (a b c : List Frame) → KeepsFront a b → KeepsFront b c → KeepsFront a c
front_on a b c p q =
    let size : length a ≤ length b = omega (arith, ap length p, length-take (length a) b) in
    sym (take-take (length a) (length b) c size) ∙ ap (take (length a)) q ∙ p

pub another : (from to : ℕ) → from ≢ to → is_another_server (Server from) (Server to) ≡ true
another from to other = let e : (to == from) ≡ false = ne_eqb to from (λ q. other (sym q)) in rw e refl

may_go_by : (kind : Kind) (from to : ℕ) → from ≢ to → is_of_log kind ≡ true → may_go kind (Server from) (Server to) ≡ true
may_go_by kinds.VoteRequest from to other log = another from to other
may_go_by kinds.VoteReply from to other log = another from to other
may_go_by kinds.Append from to other log = another from to other
may_go_by kinds.AppendReply from to other log = another from to other
may_go_by kinds.Install from to other log = another from to other
may_go_by kinds.InstallReply from to other log = another from to other
may_go_by kinds.Take from to other log = refl
may_go_by kinds.Delivered from to other log = refl
may_go_by kinds.Submit from to other log = refl
may_go_by kinds.PlanResult from to other log = refl
may_go_by kinds.Finish from to other log = refl
may_go_by kinds.Nack from to other log = refl
may_go_by kinds.Refused from to other log = refl
may_go_by kinds.Register from to other log = absurd (cc log)
may_go_by kinds.Heartbeat from to other log = absurd (cc log)
may_go_by kinds.Pull from to other log = absurd (cc log)
may_go_by kinds.List from to other log = absurd (cc log)
may_go_by kinds.Report from to other log = absurd (cc log)
may_go_by kinds.Told from to other log = absurd (cc log)

-- messages of the log go to another server
pub may_go_between : {S C : Type 0} (from to : ℕ) (body : Body S C) → from ≢ to → is_of_log (kind_of body) ≡ true → may_go (kind_of body) (Server from) (Server to) ≡ true
may_go_between from to body other log = may_go_by (kind_of body) from to other log

module _ {S C : Type 0} (m : MachineSpec S C) where
  sends_said : (read : WireMessage S C) (x : Message C) (before after : List Frame) → Means m read x → ListsFrame m read before after → Sends m before after (x ∷ [])
  sends_said read x before after means listed = record {
    frames = frame_of m read ∷ [];
    added = listed.1;
    carry = (record { to = means.to; bytes = record { read = read; fits = listed.0; text = refl; means = means } }, tt);
  }

  -- the frame of a body carries the message that it says
  pub sends_one : (from to : ℕ) (body : Body S C) (before after : List Frame) → ListsFrame m (record { from = Server from; to = Server to; body = body }) before after → is_install body ≡ false → IfSome (log_message m from to body) (λ x. Sends m before after (x ∷ []))
  sends_one from to (bodies.VoteRequest v) before after listed other = sends_said _ _ before after (record { from = refl; to = refl; said = refl }) listed
  sends_one from to (bodies.VoteReply v) before after listed other = sends_said _ _ before after (record { from = refl; to = refl; said = refl }) listed
  sends_one from to (bodies.Append a) before after listed other = sends_said _ _ before after (record { from = refl; to = refl; said = refl }) listed
  sends_one from to (bodies.AppendReply r) before after listed other = sends_said _ _ before after (record { from = refl; to = refl; said = refl }) listed
  sends_one from to (bodies.Install i) before after listed other = absurd cc
  sends_one from to (bodies.InstallReply r) before after listed other = sends_said _ _ before after (record { from = refl; to = refl; said = refl }) listed
  sends_one from to (bodies.Request r) before after listed other = tt
  sends_one from to (bodies.Response r) before after listed other = tt
  sends_one from to (bodies.Register class size) before after listed other = tt
  sends_one from to bodies.Heartbeat before after listed other = tt
  sends_one from to bodies.Pull before after listed other = tt
  sends_one from to (bodies.List index rows) before after listed other = tt
  sends_one from to (bodies.Report items) before after listed other = tt
  sends_one from to (bodies.Told kind reason) before after listed other = tt
