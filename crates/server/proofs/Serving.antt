-- What a server's parts do is what the definitions say.
use Rattle.std.proofs.Common.{◌≡◌, ◌≢◌, ℕ, zero, suc, true, Option, Some, None, Result, Ok, Err, List, [], ◌∷◌, ◌++◌, map, take, drop, refl, sym, ap, subst, ◌∙◌}
use Rattle.std.proofs.lemmas.List.{append-nil}
use Rattle.std.proofs.Math.Seq.{take-append_seam}
use Rattle.rows.specs.declared.command.Command.{Command}
use Rattle.rows.specs.declared.refusal.Refusal.{Refusal}
use Rattle.rows.specs.declared.refusal.Refusal.TheVariants as refusals
use Rattle.rows.specs.declared.worker.Work.{Work}
use Rattle.wire.specs.Frames.{Frame}
use Rattle.raft_model.specs.Rafts.{Raft, RaftTurn, Mode, Down, Follower, Candidate, Leader, is_up, is_leader, silent, extended}
use Rattle.raft_model.specs.Steps as raft_steps
use Rattle.raft_core.specs.Inner.Turns.{KeepsFront}
use Rattle.fsm_model.specs.ClusterMachine.{cluster_spec}
use Rattle.group_model.specs.Messages.{GroupMessage, Service, ServiceMessage}
use Rattle.group_model.specs.Desks.{Desk, applied_state, after_entries, desk_after}
use Rattle.group_model.specs.Inputs.{Act, AskPropose, rests}
use Rattle.group_model.specs.Servers.{Server, logged}
use Rattle.group_frames.specs.GroupFrames.{SendsGroup}
use Rattle.group_frames.proofs.Sending.{sends_nothing}
use Rattle.server.specs.declared.server.Outbox.{Outbox}
use Rattle.server.specs.ServerViews.{ServerView, RefinesServer}
use Rattle.server.specs.Inner.Acts.{DoesAct, WhyNotProposed}

pub leader_up : (mode : Mode) → is_leader mode ≡ true → is_up mode ≡ true
leader_up Down e = absurd cc
leader_up Follower e = refl
leader_up (Candidate votes) e = refl
leader_up (Leader next match) e = refl

pub drop_same : {A : Type 0} (n : ℕ) (xs : List A) → drop n (take n xs) ≡ []
drop_same zero xs = refl
drop_same (suc n) [] = refl
drop_same (suc n) (x ∷ xs) = drop_same n xs

-- a proposal leaves the desk as it is
pub desk_stays : (s : Raft Command) (c : Command) (d : Option Desk) → is_leader s.mode ≡ true → desk_after s (extended s c) d ≡ d
desk_stays s c d leads = rw leads (ap (λ es. after_entries s.term (applied_state s) es d) (drop_same s.commit (extended s c).log))

-- an act, as one that is not refused
abbrev pub act_taken : Act → Result Act Refusal
act_taken a = Ok a

-- ---- what a proposal is refused for

same_refusal : {A : Type 0} {x y : Refusal} → (let r : Result A Refusal = Err x in r ≡ Err y) → x ≡ y
same_refusal h = cc

why_not : (s : Raft Command) (c : Command) (cause : Refusal) → cause ≢ refusals.NoMemory → WhyNotProposed s c cause → raft_steps.proposes cluster_spec s c ≡ Err cause
why_not s c refusals.NoMemory other h = absurd (other refl)
why_not s c _ other h = h

why_by : (a : Option Refusal) (turn : RaftTurn Command) (cause : Refusal) → raft_steps.unless a turn ≡ Err cause → a ≡ Some cause
why_by None turn cause h = absurd cc
why_by (Some r) turn cause h = ap (λ (x : Refusal). Some x) (same_refusal h)

-- a refusal but want of memory is that of the definitions
pub refused_why : (s : Raft Command) (c : Command) (cause : Refusal) → is_leader s.mode ≡ true → cause ≢ refusals.NoMemory → WhyNotProposed s c cause → raft_steps.admission_refusal cluster_spec s c ≡ Some cause
refused_why s c cause leads other h =
    let why = why_not s c cause other h in
    why_by (raft_steps.admission_refusal cluster_spec s c) (silent (extended s c)) cause (rw leads at why)

-- ---- acts that are done

pub nothing_sent : (before after : Outbox) → after ≡ before → SendsGroup cluster_spec before.frames after.frames []
nothing_sent before after nothing = subst (λ (o : Outbox). SendsGroup cluster_spec before.frames o.frames []) (sym nothing) (sends_nothing cluster_spec before.frames)

module _ (n me : ℕ) (s : Server) (new : ServerView) (before after : Outbox) where
  -- nothing is asked of the log
  pub does_alone : (services : List ServiceMessage) (d : Option Desk) (work : List Work) → RefinesServer new (record s { desk = d }) →
      SendsGroup cluster_spec before.frames after.frames (map Service services) → after.work ≡ before.work ++ work →
      DoesAct n me s (Ok (record { ask = None; desk = d; sent = services; work = work })) new before after
  does_alone services d work server sent out = record {
    turn = record { server = record s { desk = d }; sent = map Service services; work = work };
    is = refl;
    server = server;
    sent = sent;
    work = out;
  }

  pub does_nothing : (d : Option Desk) → RefinesServer new (record s { desk = d }) → after ≡ before → DoesAct n me s (Ok (rests d)) new before after
  does_nothing d server nothing = does_alone [] d [] server (nothing_sent before after nothing) (ap (λ (o : Outbox). o.work) nothing ∙ sym (append-nil before.work))

  -- a command is appended
  pub does_proposed : (c : Command) (services : List ServiceMessage) (d : Option Desk) → is_leader s.raft.mode ≡ true → raft_steps.admission_refusal cluster_spec s.raft c ≡ None →
      RefinesServer new (record { raft = extended s.raft c; desk = d }) → SendsGroup cluster_spec before.frames after.frames (map Service services) → after.work ≡ before.work →
      DoesAct n me s (Ok (record { ask = Some (AskPropose c); desk = d; sent = services; work = [] })) new before after
  does_proposed c services d leads admitted server sent out =
      let up : is_up s.raft.mode ≡ true = leader_up s.raft.mode leads in
      let step : raft_steps.step cluster_spec n me s.raft (raft_steps.Propose c) ≡ Ok (silent (extended s.raft c)) = rw (up, leads, admitted) refl in
      let act : Act = record { ask = Some (AskPropose c); desk = d; sent = services; work = [] } in
      record {
        turn = record { server = record { raft = extended s.raft c; desk = desk_after s.raft (extended s.raft c) d }; sent = map Service services; work = [] };
        is = ap (logged s act) step;
        server = record { raft = server.raft; desk = server.desk ∙ sym (desk_stays s.raft c d leads); led = server.led };
        sent = sent;
        work = out ∙ sym (append-nil before.work);
      }

-- ---- want of memory

pub front_of : (before after : List Frame) (messages : List GroupMessage) → SendsGroup cluster_spec before after messages → KeepsFront before after
front_of before after messages s = rw s.added (take-append_seam before s.frames)
