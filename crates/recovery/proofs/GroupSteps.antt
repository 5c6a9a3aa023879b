-- What the events of a settlement are for a group.
use Rattle.std.proofs.Common.{◌≡◌, ℕ, zero, suc, ◌+◌, ◌≤◌, inl, inr, true, false, Option, Some, None, Result, Ok, Err, List, [], ◌∷◌, ◌++◌, length, map, take, refl, sym, ap, ◌∙◌, subst, arith, slice_get, append-nil}
use Rattle.std.proofs.lemmas.Option.{same_Some}
use Rattle.rows.specs.declared.command.Command.{Command}
use Rattle.rows.specs.declared.refusal.Refusal.{Refusal}
use Rattle.rows.specs.declared.refusal.Refusal.TheVariants as refusals
use Rattle.raft_model.specs.Messages.{Message}
use Rattle.raft_model.specs.Rafts.{Raft, RaftTurn, is_up}
use Rattle.raft_model.specs.Steps as raft_steps
use Rattle.raft_model.specs.Worlds as raft_worlds
use Rattle.raft_model.proofs.Cases.{bool_cases, same_ok}
use Rattle.fsm_model.specs.ClusterMachine.{cluster_spec}
use Rattle.group_model.specs.Messages.{GroupMessage, OfLog, Service}
use Rattle.group_model.specs.Inputs as inputs
use Rattle.group_model.specs.Inputs.{Act, Ask, AskTimeout, AskHeartbeat, AskCrash, rests, asks, input_of, event_of}
use Rattle.group_model.specs.Servers.{Server, logged, done, decides, wakes, acts}
use Rattle.group_model.specs.Worlds.{World, Deliver, AtServer, happens, after_turn, message_to, input_to, takes_input, own_input, delivers, raft_of, raft_part, raft_messages, raft_delivery, raft_event, event_at, asked_of, log_request}
use Rattle.group_safety.proofs.Lists.{map_get, map_length, messages_append}
use Rattle.group_safety.proofs.WorldSteps.{Moves, event_moves}
use Rattle.world.specs.GroupWork.{work_of, turn_work, log_work, input_work}
use Rattle.world.specs.GroupWork.{message_work as sent_work}

-- ---- places

messages_are : (ms : List (Message Command)) → raft_messages (map OfLog ms) ≡ ms
messages_are [] = refl
messages_are (z ∷ ms) = ap (λ l. z ∷ l) (messages_are ms)

pub messages_behind : (xs : List GroupMessage) (ms : List (Message Command)) → raft_messages (xs ++ map OfLog ms) ≡ raft_messages xs ++ ms
messages_behind xs ms = messages_append xs (map OfLog ms) ∙ ap (λ l. raft_messages xs ++ l) (messages_are ms)

-- what is in front of a place of the front
pub take_front : {A : Type 0} (xs ys : List A) (k : ℕ) → k ≤ length xs → take k (xs ++ ys) ≡ take k xs
take_front xs ys zero le = refl
take_front [] ys (suc k) le = absurd (omega (arith, le))
take_front (x ∷ xs) ys (suc k) le = ap (λ l. x ∷ l) (take_front xs ys k (omega (arith, le)))

counted_own : (ms : List (Message Command)) (j : ℕ) → j ≤ length ms → length (raft_messages (take j (map OfLog ms))) ≡ j
counted_own ms zero le = refl
counted_own [] (suc j) le = absurd (omega (arith, le))
counted_own (z ∷ ms) (suc j) le = ap suc (counted_own ms j (omega (arith, le)))

-- how many messages of the log stand in front of one that was sent behind these
pub counted : (xs : List GroupMessage) (ms : List (Message Command)) (j : ℕ) → j ≤ length ms → length (raft_messages (take (length xs + j) (xs ++ map OfLog ms))) ≡ length (raft_messages xs) + j
counted [] ms j le =
    let e : 0 + j ≡ j = omega arith in
    ap (λ k. length (raft_messages (take k (map OfLog ms)))) e ∙ (counted_own ms j le ∙ sym e)
counted (OfLog z ∷ xs) ms j le =
    let e : suc (length xs) + j ≡ suc (length xs + j) = omega arith in
    let f : suc (length (raft_messages xs)) + j ≡ suc (length (raft_messages xs) + j) = omega arith in
    ap (λ k. length (raft_messages (take k (OfLog z ∷ (xs ++ map OfLog ms))))) e ∙ (ap suc (counted xs ms j le) ∙ sym f)
counted (Service p ∷ xs) ms j le =
    let e : suc (length xs) + j ≡ suc (length xs + j) = omega arith in
    ap (λ k. length (raft_messages (take k (Service p ∷ (xs ++ map OfLog ms))))) e ∙ counted xs ms j le

-- a message of the log that is none of the log's first is none of the first
pub behind : (front rest : List GroupMessage) (q : ℕ) (z : Message Command) → slice_get (front ++ rest) q ≡ Some (OfLog z) → length (raft_messages front) ≤ length (raft_messages (take q (front ++ rest))) → length front ≤ q
behind [] rest q z at le = omega arith
behind (OfLog x ∷ front) rest zero z at le = absurd (omega (arith, le))
behind (OfLog x ∷ front) rest (suc q) z at le = omega (arith, behind front rest q z at (omega (arith, le)))
behind (Service x ∷ front) rest zero z at le = absurd (let e = same_Some (Service x) (OfLog z) at in cc)
behind (Service x ∷ front) rest (suc q) z at le = omega (arith, behind front rest q z at le)

-- ---- a turn

module _ (w v : World) (i : ℕ) (s : Server) where
  -- it sends what the log sends, and nothing else
  turn_sent : (act : Act) → act.sent ≡ [] → (res : Result (RaftTurn Command) Refusal) → after_turn w i (logged s act res) ≡ Ok v → (ms : List (Message Command)) × (v.sent ≡ w.sent ++ map OfLog ms)
  turn_sent act none (Err r) h = absurd (cc)
  turn_sent act none (Ok turn) h = (
    turn.sent,
    sym (ap (λ (q : World). q.sent) (same_ok _ v h)) ∙ ap (λ l. w.sent ++ l) (ap (λ l. map OfLog turn.sent ++ map Service l) none ∙ append-nil (map OfLog turn.sent)),
  )

  -- and its workers get nothing
  turn_rests : (act : Act) → act.work ≡ [] → (res : Result (RaftTurn Command) Refusal) → after_turn w i (logged s act res) ≡ Ok v → turn_work (logged s act res) ≡ []
  turn_rests act none (Err r) h = absurd (cc)
  turn_rests act none (Ok turn) h = none

  -- it is not refused where the log's is not
  turn_goes : (act : Act) (r : Refusal) (res : Result (RaftTurn Command) Refusal) (n : ℕ) (lw y : raft_worlds.World Command) → raft_worlds.after_turn cluster_spec lw i res ≡ Ok y → after_turn w i (logged s act res) ≡ Err r → ⊥
  turn_goes act r (Err e) n lw y h g = cc
  turn_goes act r (Ok turn) n lw y h g = cc

-- ---- an input of a server's own, of which the log is asked

module _ (w : World) (i : ℕ) (input : inputs.Input) (ask : Ask)
    (its_own : own_input w i input ≡ takes_input w i input)
    (awake : (s : Server) → acts (length w.servers) i s input ≡ Ok (asks ask s.desk))
    (down : (s : Server) → wakes s input ≡ Err refusals.Down)
    (sleeps : (n : ℕ) (t : Raft Command) → is_up t.mode ≡ false → raft_steps.step cluster_spec n i t (input_of ask) ≡ Err refusals.Down) where
  decided : (s : Server) → is_up s.raft.mode ≡ true → decides (length w.servers) i s input ≡ Ok (asks ask s.desk)
  decided s on = rw on (awake s)

  not_decided : (s : Server) → is_up s.raft.mode ≡ false → decides (length w.servers) i s input ≡ Err refusals.Down
  not_decided s off = rw off (down s)

  -- its turn
  record OwnTurn (v : World) : Type 0 where
    server : Server
    here : slice_get w.servers i ≡ Some server
    on : is_up server.raft.mode ≡ true
    turn : after_turn w i (logged server (asks ask server.desk) (raft_steps.step cluster_spec (length w.servers) i server.raft (input_of ask))) ≡ Ok v

  own_turn : (v : World) (o : Option Server) → slice_get w.servers i ≡ o → input_to w i input o ≡ Ok v → OwnTurn v
  own_turn v None is h = absurd (cc)
  own_turn v (Some s) is h = elim (bool_cases (is_up s.raft.mode)) [
    | inl on ↦ record { server = s; here = is; on = on; turn = sym (ap (λ z. after_turn w i (done (length w.servers) i s z)) (decided s on)) ∙ h }
    | inr off ↦ absurd (let q : after_turn w i (done (length w.servers) i s (Err refusals.Down)) ≡ Ok v = sym (ap (λ z. after_turn w i (done (length w.servers) i s z)) (not_decided s off)) ∙ h in cc)
  ]

  module _ (v : World) (h : happens w (AtServer i input) ≡ Ok v) where
    the_turn : OwnTurn v
    the_turn = own_turn v (slice_get w.servers i) refl (sym its_own ∙ h)

    pub own_sent : (ms : List (Message Command)) × (v.sent ≡ w.sent ++ map OfLog ms)
    own_sent = let o = the_turn in let s = o.server in turn_sent w v i s (asks ask s.desk) refl (raft_steps.step cluster_spec (length w.servers) i s.raft (input_of ask)) o.turn

    pub own_work : work_of w (AtServer i input) ≡ []
    own_work =
        let o = the_turn in
        let s = o.server in
        ap (λ z. input_work w i input z) o.here
        ∙ (ap (λ z. turn_work (done (length w.servers) i s z)) (decided s o.on) ∙ turn_rests w v i s (asks ask s.desk) refl (raft_steps.step cluster_spec (length w.servers) i s.raft (input_of ask)) o.turn)

    pub own_asked : raft_event w (AtServer i input) ≡ Some (event_of i ask)
    own_asked =
        let o = the_turn in
        let s = o.server in
        ap (λ z. event_at i (asked_of w i input z)) o.here ∙ ap (λ z. event_at i (log_request z)) (decided s o.on)

    pub own_log : raft_worlds.happens cluster_spec (raft_of w) (event_of i ask) ≡ Ok (raft_of v)
    own_log = subst (λ z. Moves w v z) own_asked (event_moves w v (AtServer i input) h)

  -- it is not refused where the log takes it
  pub own_goes : (r : Refusal) (o : Option (Raft Command)) → slice_get (map raft_part w.servers) i ≡ o → (y : raft_worlds.World Command) → raft_worlds.input_to cluster_spec (raft_of w) i (input_of ask) o ≡ Ok y → happens w (AtServer i input) ≡ Err r → ⊥
  own_goes r None there y h g = cc
  own_goes r (Some t) there y h g = elim (bool_cases (is_up t.mode)) [
    | inr off ↦ let q : raft_worlds.after_turn cluster_spec (raft_of w) i (Err refusals.Down) ≡ Ok y = sym (ap (λ z. raft_worlds.after_turn cluster_spec (raft_of w) i z) (sleeps (length (map raft_part w.servers)) t off)) ∙ h in cc
    | inl on ↦
        let x = map_get raft_part w.servers i t there in
        let s = x.0 in
        let up : is_up s.raft.mode ≡ true = ap (λ (z : Raft Command). is_up z.mode) x.2 ∙ on in
        let size = map_length raft_part w.servers in
        let log : raft_worlds.after_turn cluster_spec (raft_of w) i (raft_steps.step cluster_spec (length w.servers) i s.raft (input_of ask)) ≡ Ok y =
        ap (λ z. raft_worlds.after_turn cluster_spec (raft_of w) i (raft_steps.step cluster_spec (length w.servers) i z (input_of ask))) x.2
        ∙ (ap (λ c. raft_worlds.after_turn cluster_spec (raft_of w) i (raft_steps.step cluster_spec c i t (input_of ask))) (sym size) ∙ h) in
        let group : after_turn w i (logged s (asks ask s.desk) (raft_steps.step cluster_spec (length w.servers) i s.raft (input_of ask))) ≡ Err r =
        sym (ap (λ z. after_turn w i (done (length w.servers) i s z)) (decided s up)) ∙ (sym (ap (λ z. input_to w i input z) x.1) ∙ (sym its_own ∙ g)) in
        turn_goes w w i s (asks ask s.desk) r (raft_steps.step cluster_spec (length w.servers) i s.raft (input_of ask)) 0 (raft_of w) y log group
  ]

-- ---- a message of the log

module _ (w : World) (q : ℕ) (z : Message Command) (at : slice_get w.sent q ≡ Some (OfLog z)) where
  abbrev its_place : ℕ
  its_place = length (raft_messages (take q w.sent))

  record LogTurn (v : World) : Type 0 where
    server : Server
    here : slice_get w.servers z.to ≡ Some server
    turn : after_turn w z.to (logged server (rests server.desk) (raft_steps.step cluster_spec (length w.servers) z.to server.raft (raft_steps.Arrives z))) ≡ Ok v

  log_turn : (v : World) (o : Option Server) → slice_get w.servers z.to ≡ o → message_to w z.to z o ≡ Ok v → LogTurn v
  log_turn v None is h = absurd (cc)
  log_turn v (Some s) is h = record { server = s; here = is; turn = h }

  module _ (v : World) (h : happens w (Deliver q) ≡ Ok v) where
    its_turn : LogTurn v
    its_turn = log_turn v (slice_get w.servers z.to) refl (sym (ap (λ o. delivers w o) at) ∙ h)

    pub message_sent : (ms : List (Message Command)) × (v.sent ≡ w.sent ++ map OfLog ms)
    message_sent = let o = its_turn in let s = o.server in turn_sent w v z.to s (rests s.desk) refl (raft_steps.step cluster_spec (length w.servers) z.to s.raft (raft_steps.Arrives z)) o.turn

    pub message_work : work_of w (Deliver q) ≡ []
    message_work =
        let o = its_turn in
        let s = o.server in
        ap (λ (y : Option GroupMessage). sent_work w y) at
        ∙ (ap (λ y. log_work w z.to z y) o.here ∙ turn_rests w v z.to s (rests s.desk) refl (raft_steps.step cluster_spec (length w.servers) z.to s.raft (raft_steps.Arrives z)) o.turn)

    pub message_asked : raft_event w (Deliver q) ≡ Some (raft_worlds.Deliver its_place)
    message_asked = ap (λ o. raft_delivery w q o) at

    pub message_log : raft_worlds.happens cluster_spec (raft_of w) (raft_worlds.Deliver its_place) ≡ Ok (raft_of v)
    message_log = subst (λ y. Moves w v y) message_asked (event_moves w v (Deliver q) h)

  -- it is not refused where the log takes it
  pub message_goes : (r : Refusal) (o : Option (Raft Command)) → slice_get (map raft_part w.servers) z.to ≡ o → (y : raft_worlds.World Command) → raft_worlds.input_to cluster_spec (raft_of w) z.to (raft_steps.Arrives z) o ≡ Ok y → happens w (Deliver q) ≡ Err r → ⊥
  message_goes r None there y h g = cc
  message_goes r (Some t) there y h g =
      let x = map_get raft_part w.servers z.to t there in
      let s = x.0 in
      let size = map_length raft_part w.servers in
      let log : raft_worlds.after_turn cluster_spec (raft_of w) z.to (raft_steps.step cluster_spec (length w.servers) z.to s.raft (raft_steps.Arrives z)) ≡ Ok y =
      ap (λ b. raft_worlds.after_turn cluster_spec (raft_of w) z.to (raft_steps.step cluster_spec (length w.servers) z.to b (raft_steps.Arrives z))) x.2
      ∙ (ap (λ c. raft_worlds.after_turn cluster_spec (raft_of w) z.to (raft_steps.step cluster_spec c z.to t (raft_steps.Arrives z))) (sym size) ∙ h) in
      let group : after_turn w z.to (logged s (rests s.desk) (raft_steps.step cluster_spec (length w.servers) z.to s.raft (raft_steps.Arrives z))) ≡ Err r =
      sym (ap (λ b. message_to w z.to z b) x.1) ∙ (sym (ap (λ o. delivers w o) at) ∙ g) in
      turn_goes w w z.to s (rests s.desk) r (raft_steps.step cluster_spec (length w.servers) z.to s.raft (raft_steps.Arrives z)) 0 (raft_of w) y log group
