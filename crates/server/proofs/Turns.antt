-- Turns of the desk: what each server that a value is makes of them.
use Rattle.std.proofs.Common.{◌≡◌, ◌≢◌, ℕ, ◌⊎◌, inl, inr, Bool, true, false, cond, Option, Some, None, Result, Ok, Err, [], refl, sym, ap, subst, ◌∙◌, if◌then◌else◌}
use Rattle.std.proofs.Math.Seq.{take-length}
use Rattle.std.specs.Prelude.{OnOk, OnErr, IfErr, option_map, is_some, nat_eq}
use Rattle.rows.specs.Keys.{eval_id}
use Rattle.rows.specs.declared.evaluation.EvalId.{EvalId}
use Rattle.rows.specs.declared.evaluation.Evaluation.{Evaluation}
use Rattle.rows.specs.declared.command.Command.{Command}
use Rattle.rows.specs.declared.command.Command.TheVariants as commands
use Rattle.rows.specs.declared.command.StatusChange.TheVariants as changes
use Rattle.rows.specs.declared.refusal.Refusal.{Refusal}
use Rattle.rows.specs.declared.refusal.Refusal.TheVariants as refusals
use Rattle.raft_model.specs.Rafts.{is_leader, crashed}
use Rattle.raft_model.specs.Steps as raft_steps
use Rattle.raft_core.specs.RaftView.{SameRaft}
use Rattle.fsm_model.specs.Words.{State}
use Rattle.fsm_model.specs.ClusterMachine.{cluster_spec}
use Rattle.group_model.specs.HeartbeatCounts.{expiry_refusal, expiry_refusal_of}
use Rattle.group_model.specs.Blocked.{first_due}
use Rattle.group_model.specs.Expiry.{HeartbeatCount, heartbeat_count_of}
use Rattle.group_model.specs.Desks.{Desk, applied_state, projected_state}
use Rattle.group_model.specs.Inputs.{Input, Lapse, Expire, FreeTurn, Reap, Act, AskPropose, rests, asks}
use Rattle.group_model.specs.Servers.{Server, open_desk, at_desk, done, logged}
use Rattle.group_model.specs.DeskTurns.{lapse, expiry_command, expire, free_turn, free_turn_of, reap}
use Rattle.group_frames.proofs.Sending.{sends_nothing}
use Rattle.leader.specs.OpenDesks.{OpenDesk, if_open, at_open, unless_refused, on_lapse, on_expire, on_reap}
use Rattle.leader.specs.GroupActs.{lapse_act, expire_act, status_act}
use Rattle.leader.proofs.Acts.{lapses_by_lapse, expires_by_expire, reaps_by_reap}
use Rattle.server.specs.declared.server.Outbox.{Outbox}
use Rattle.server.specs.ServerViews.{ServerView, RefinesServer, SameServer}
use Rattle.server.specs.Refusals.{CanAppend, HasOpenDesk, CountedSoOften, OutOfMemoryMayEnd}
use Rattle.server.specs.Inner.Acts.{EachServer, DoesAct, EachDoes, DeclinesOwn, OutOfMemoryTurn, IsProposed, WhyNotProposed, act_of, proposes_if_any}
use Rattle.server.proofs.Servers.{same_is, same_then, desk_at, open_at}
use Rattle.server.proofs.DeskCalls.{open_of, Moves, moves, lapse_keeps}
use Rattle.server.proofs.Serving.{leader_up, act_taken, does_proposed, does_nothing}

abbrev Answer : Type 0
Answer = Result (Unit {0}) Refusal

-- ---- a refusal

pub same_view : (v : ServerView) → SameServer v v
same_view v = record { raft = record { me = refl; size = refl; base = refl; server = refl }; desk = refl }

pub falters : (old new : ServerView) (out : Outbox) → SameServer old new → OutOfMemoryTurn old new out out
falters old new out same = record { me = same.raft.me; size = same.raft.size; base = same.raft.base; stored = ap crashed same.raft.server; front = take-length out.frames; work = refl }

no_memory_or : (e : Refusal) → (e ≡ refusals.NoMemory) ⊎ (e ≢ refusals.NoMemory)
no_memory_or refusals.NoMemory = inl refl
no_memory_or _ = inr (λ q. absurd (cc q))

module _ (old new : ServerView) (input : Input) (same : SameServer old new) (out : Outbox) where
  pub lacks : EachServer old (λ s. OutOfMemoryMayEnd old.raft.size s input) → DeclinesOwn old input refusals.NoMemory new out out
  lacks may = (may, falters old new out same)

  -- as the definitions refuse it
  pub declines : (e : Refusal) → e ≢ refusals.NoMemory → EachServer old (λ s. act_of old input s ≡ Err e) → DeclinesOwn old input e new out out
  declines refusals.NoMemory other why = absurd (other refl)
  declines e other why = (λ s is. ap (done old.raft.size old.raft.me s) (why s is), record { same = same; nothing = refl })

  -- the desk is shut
  pub shut : (turn : Server → Desk → Result Act Refusal) → ((s : Server) → act_of old input s ≡ at_desk (open_desk s) (turn s)) → (e : Refusal) → e ≢ refusals.NoMemory → EachServer old (λ s. open_desk s ≡ Err e) → DeclinesOwn old input e new out out
  shut turn by e other closed = declines e other (λ s is. by s ∙ ap (λ d. at_desk d (turn s)) (closed s is))

  -- or for want of memory
  pub stops : (e : Refusal) → EachServer old (λ s. OutOfMemoryMayEnd old.raft.size s input) → EachServer old (λ s. (e ≡ refusals.NoMemory) ⊎ (act_of old input s ≡ Err e)) → DeclinesOwn old input e new out out
  stops e may why = elim (no_memory_or e) [
    | inl none ↦ subst (λ (r : Refusal). DeclinesOwn old input r new out out) (sym none) (lacks may)
    | inr other ↦ declines e other (λ s is. elim (why s is) [
      | inl none ↦ absurd (other none)
      | inr turn ↦ turn
    ])
  ]

-- ---- a turn that proposes a command, or nothing

module _ (old mid new : ServerView) (input : Input) (c : Command) (turn : EachServer old (λ s. act_of old input s ≡ Ok (asks (AskPropose c) s.desk))) (same : SameServer old mid) where
  proposed : EachServer mid (λ s. IsProposed s c new) → (out : Outbox) → EachDoes old (act_of old input) new out out
  proposed p out s is =
      let one = p s (same_is old mid s same is) in
      subst (λ (a : Result Act Refusal). DoesAct old.raft.size old.raft.me s a new out out) (sym (turn s is))
      (does_proposed old.raft.size old.raft.me s new out out c [] s.desk one.leads one.admitted one.server (sends_nothing cluster_spec out.frames) refl)

  pub turn_taken : (r : Answer) → OnOk r (EachServer mid (λ s. IsProposed s c new)) → OnOk r ((out : Outbox) → EachDoes old (act_of old input) new out out)
  turn_taken (Ok u) p = proposed p
  turn_taken (Err cause) p = tt

  module _ (leads : EachServer old (λ s. is_leader s.raft.mode ≡ true)) (may : EachServer old (λ s. CanAppend s.raft → OutOfMemoryMayEnd old.raft.size s input)) where
    declined : (cause : Refusal) → EachServer mid (λ s. WhyNotProposed s.raft c cause) → SameServer old new → (out : Outbox) → DeclinesOwn old input cause new out out
    declined refusals.NoMemory why stays out = (λ s is. may s is (why s (same_is old mid s same is)), falters old new out stays)
    declined cause why stays out = (
      λ s is.
          let act : Act = asks (AskPropose c) s.desk in
          ap (done old.raft.size old.raft.me s) (turn s is)
          ∙ ap (λ b. logged s act (if b then raft_steps.proposes cluster_spec s.raft c else Err refusals.Down)) (leader_up s.raft.mode (leads s is))
          ∙ ap (logged s act) (why s (same_is old mid s same is)),
      record { same = stays; nothing = refl },
    )

    pub turn_declined : (r : Answer) → IfErr r (λ cause. EachServer mid (λ s. WhyNotProposed s.raft c cause)) → OnErr r (SameServer mid new) → IfErr r (λ cause. (out : Outbox) → DeclinesOwn old input cause new out out)
    turn_declined (Ok u) why stays = tt
    turn_declined (Err cause) why stays = declined cause why (same_then old mid new same stays)

pub turn_rests : (old new : ServerView) (input : Input) → EachServer old (λ s. act_of old input s ≡ Ok (rests s.desk)) → SameServer old new → (out : Outbox) → EachDoes old (act_of old input) new out out
turn_rests old new input turn same out s is =
    subst (λ (a : Result Act Refusal). DoesAct old.raft.size old.raft.me s a new out out) (sym (turn s is))
    (does_nothing old.raft.size old.raft.me s new out out s.desk (same_is old new s same is) refl)

-- ---- Lapse

pub lapse_moved : (old new : ServerView) (s : Server) (id : EvalId) → Moves (on_lapse id) s tt new → (out : Outbox) → DoesAct old.raft.size old.raft.me s (act_of old (Lapse id) s) new out out
lapse_moved old new s id m out =
    let o = m.before in
    let act : act_of old (Lapse id) s ≡ Ok (rests (Some m.after.desk)) = ap (λ (d : Result Desk Refusal). at_desk d (λ d. lapse d id)) m.is_open ∙ lapses_by_lapse id o ∙ ap lapse_act m.answers in
    subst (λ (a : Result Act Refusal). DoesAct old.raft.size old.raft.me s a new out out) (sym act) (does_nothing old.raft.size old.raft.me s new out out (Some m.after.desk) m.server refl)

pub lapse_done : (old new : ServerView) (id : EvalId) → EachServer old (λ s. HasOpenDesk s) → SameRaft old.raft new.raft → at_open (on_lapse id) old.desk ≡ Ok (tt, new.desk) → (out : Outbox) → EachDoes old (act_of old (Lapse id)) new out out
lapse_done old new id h same call out s is = lapse_moved old new s id (moves (on_lapse id) (lapse_keeps id) s old new tt (h s is).leads is same call) out

-- ---- Expire, Free, Reap

-- an expiry is never refused for want of memory
expiry_memory_of : (c : Command) (beats : ℕ) (m : Option HeartbeatCount) (e : Refusal) → unless_refused c (expiry_refusal_of beats m) ≡ Err e → e ≢ refusals.NoMemory
expiry_memory_of c beats None e h = λ q. cc
expiry_memory_of c beats (Some p) e h = by (nat_eq p.beats beats) h where
  by : (b : Bool) → unless_refused c (cond b None (Some refusals.StaleExpiry)) ≡ Err e → e ≢ refusals.NoMemory
  by true h = λ q. cc
  by false h = λ q. cc

expiry_memory : (node beats : ℕ) (applied : State) (d : Option OpenDesk) (e : Refusal) → if_open (on_expire node beats applied) d ≡ Err e → e ≢ refusals.NoMemory
expiry_memory node beats applied None e h = λ q. cc
expiry_memory node beats applied (Some o) e h = expiry_memory_of (expiry_command applied node) beats (heartbeat_count_of node o.desk.heartbeat_counts) e h

module _ (old : ServerView) (s : Server) (is : RefinesServer old s) (h : HasOpenDesk s) where
  open_one : (o : OpenDesk) × (old.desk ≡ Some o)
  open_one = open_of old.desk (subst (λ (d : Option Desk). is_some d ≡ true) (sym is.desk) h.is_open)

  abbrev one : OpenDesk
  one = open_one.0

  is_open : open_desk s ≡ Ok one.desk
  is_open = open_at old s is one h.leads open_one.1

  was : s.desk ≡ Some one.desk
  was = desk_at old s is one open_one.1

  unrefused : (command c : Command) (r : Option Refusal) → unless_refused command r ≡ Ok c → r ≡ None
  unrefused command c None call = refl
  unrefused command c (Some r) call = absurd (cc)

  pub expire_is : (node beats : ℕ) (c : Command) → if_open (on_expire node beats (applied_state s.raft)) old.desk ≡ Ok c → act_of old (Expire node beats) s ≡ Ok (asks (AskPropose c) s.desk)
  expire_is node beats c call =
      let told : on_expire node beats (applied_state s.raft) one ≡ Ok c = rw open_one.1 at call in
      ap (λ (d : Result Desk Refusal). at_desk d (λ d. expire s.raft d node beats)) is_open
      ∙ expires_by_expire s.raft node beats one ∙ ap (expire_act one.desk) told
      ∙ ap (λ (d : Option Desk). act_taken (asks (AskPropose c) d)) (sym was)

  -- so the node was heard of so often
  pub expire_heard : (node beats : ℕ) (c : Command) → if_open (on_expire node beats (applied_state s.raft)) old.desk ≡ Ok c → CountedSoOften node beats s.desk
  expire_heard node beats c call =
      let told : on_expire node beats (applied_state s.raft) one ≡ Ok c = rw open_one.1 at call in
      rw was (unrefused (expiry_command (applied_state s.raft) node) c (expiry_refusal node beats one.desk.heartbeat_counts) told)

  expire_refused : (node beats : ℕ) (e : Refusal) → if_open (on_expire node beats (applied_state s.raft)) old.desk ≡ Err e → act_of old (Expire node beats) s ≡ Err e
  expire_refused node beats e call =
      let told : on_expire node beats (applied_state s.raft) one ≡ Err e = rw open_one.1 at call in
      ap (λ (d : Result Desk Refusal). at_desk d (λ d. expire s.raft d node beats)) is_open
      ∙ expires_by_expire s.raft node beats one ∙ ap (expire_act one.desk) told

  freed_is : (d : Desk) (id : Option EvalId) (due : Option Evaluation) → id ≡ option_map eval_id due → free_turn_of d due ≡ proposes_if_any (Some d) (option_map (λ i. commands.EvalStatus i changes.Pending) id)
  freed_is d id None e = rw e refl
  freed_is d id (Some v) e = rw e refl

  pub free_is : (id : Option EvalId) → id ≡ option_map eval_id (first_due (applied_state s.raft) (projected_state s.raft)) → act_of old FreeTurn s ≡ Ok (proposes_if_any s.desk (option_map (λ i. commands.EvalStatus i changes.Pending) id))
  free_is id e =
      ap (λ (d : Result Desk Refusal). at_desk d (λ d. Ok (free_turn s.raft d))) is_open
      ∙ ap act_taken (freed_is one.desk id (first_due (applied_state s.raft) (projected_state s.raft)) e)
      ∙ ap (λ (d : Option Desk). act_taken (proposes_if_any d (option_map (λ i. commands.EvalStatus i changes.Pending) id))) (sym was)

  reaped_is : (d : Desk) (id : Option EvalId) → status_act changes.Failed d (Ok id) ≡ Ok (proposes_if_any (Some d) (option_map (λ i. commands.EvalStatus i changes.Failed) id))
  reaped_is d None = refl
  reaped_is d (Some id) = refl

  pub reap_is : (id : Option EvalId) → if_open (on_reap (projected_state s.raft)) old.desk ≡ Ok id → act_of old Reap s ≡ Ok (proposes_if_any s.desk (option_map (λ i. commands.EvalStatus i changes.Failed) id))
  reap_is id call =
      let told : on_reap (projected_state s.raft) one ≡ Ok id = rw open_one.1 at call in
      ap (λ (d : Result Desk Refusal). at_desk d (λ d. Ok (reap s.raft d))) is_open
      ∙ sym (reaps_by_reap s.raft one) ∙ ap (status_act changes.Failed one.desk) told ∙ reaped_is one.desk id
      ∙ ap (λ (d : Option Desk). act_taken (proposes_if_any d (option_map (λ i. commands.EvalStatus i changes.Failed) id))) (sym was)

-- an expiry is refused as the desk refuses it
pub expire_declines : (old : ServerView) (node beats : ℕ) (e : Refusal) → EachServer old (λ s. HasOpenDesk s) → EachServer old (λ s. if_open (on_expire node beats (applied_state s.raft)) old.desk ≡ Err e) → (out : Outbox) → DeclinesOwn old (Expire node beats) e old out out
expire_declines old node beats e h call out = elim (no_memory_or e) [
  | inl none ↦ subst (λ (r : Refusal). DeclinesOwn old (Expire node beats) r old out out) (sym none) (lacks old old (Expire node beats) (same_view old) out (λ s is. absurd (expiry_memory node beats (applied_state s.raft) old.desk e (call s is) none)))
  | inr other ↦ declines old old (Expire node beats) (same_view old) out e other (λ s is. expire_refused old s is (h s is) node beats e (call s is))
]
