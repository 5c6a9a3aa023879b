-- What a server does with a command that a client's request asks for.
use Rattle.std.proofs.Common.{◌≡◌, ◌≢◌, ℕ, Bool, true, false, not, if◌then◌else◌, [], ◌∷◌, Option, Some, None, Result, Ok, Err, sym, subst, ap, ◌∙◌}
use Rattle.std.specs.Prelude.{OnOk}
use Rattle.std.proofs.lemmas.List.{append-nil}
use Rattle.rows.specs.declared.command.Command.{Command}
use Rattle.rows.specs.declared.refusal.NoMemory.{NoMemory}
use Rattle.rows.specs.declared.refusal.Refusal.{Refusal}
use Rattle.rows.specs.declared.refusal.Refusal.TheVariants as refusals
use Rattle.rows.specs.declared.worker.ClientRequestKind.{ClientRequestKind}
use Rattle.raft_model.specs.Rafts.{is_leader}
use Rattle.raft_model.specs.Steps.{admission_refusal}
use Rattle.fsm_model.specs.ClusterMachine.{cluster_spec}
use Rattle.group_model.specs.ClientRequests.{tells, answers, is_taken_already, proposes_for}
use Rattle.group_model.specs.Desks.{projected_state}
use Rattle.group_model.specs.Inputs.{Act}
use Rattle.group_model.specs.Servers.{Server}
use Rattle.server.specs.declared.server.Outbox.{Outbox}
use Rattle.server.specs.ServerViews.{ServerView, RefinesServer, SameServer}
use Rattle.server.specs.Inner.Acts.{EachServer, DoesAct, EachDoes, WhyNotProposed, write_act}
use Rattle.server.specs.Inner.Replies.{SendsOne}
use Rattle.server.proofs.Servers.{same_is}
use Rattle.server.proofs.Serving.{act_taken, does_alone, refused_why}

module _ (old new : ServerView) (before after : Outbox) (client : ℕ) (kind : ClientRequestKind) (command : Command) (s : Server) where
  abbrev by : Bool → Bool → Option Refusal → Act
  by leads taken r =
      if not leads then answers old.raft.me client kind (Some (refusals.NotLeader s.raft.known)) s.desk
      else if taken then answers old.raft.me client kind None s.desk
      else proposes_for old.raft.me client kind command s.desk r

  write_is : (taken : Bool) (r : Option Refusal) → is_leader s.raft.mode ≡ true → is_taken_already (projected_state s.raft) command ≡ taken → admission_refusal cluster_spec s.raft command ≡ r → write_act old client kind command s ≡ Ok (by true taken r)
  write_is taken r leads fresh why =
      ap (λ b. act_taken (by b (is_taken_already (projected_state s.raft) command) (admission_refusal cluster_spec s.raft command))) leads
      ∙ ap (λ b. act_taken (by true b (admission_refusal cluster_spec s.raft command))) fresh
      ∙ ap (λ x. act_taken (by true taken x)) why

  -- the client is told, and that is all
  write_told : (act : Result Act Refusal) (e : Option Refusal) → act ≡ Ok (answers old.raft.me client kind e s.desk) → RefinesServer new s → after.work ≡ before.work → SendsOne before.frames after.frames (tells old.raft.me client kind e) →
      DoesAct old.raft.size old.raft.me s act new before after
  write_told act e is server work sent =
      subst (λ (a : Result Act Refusal). DoesAct old.raft.size old.raft.me s a new before after) (sym is)
      (does_alone old.raft.size old.raft.me s new before after (tells old.raft.me client kind e ∷ []) s.desk [] server sent (work ∙ sym (append-nil before.work)))

  -- the log refuses it
  pub write_refused : (e : Refusal) → is_leader s.raft.mode ≡ true → is_taken_already (projected_state s.raft) command ≡ false → WhyNotProposed s.raft command e → e ≢ refusals.NoMemory → RefinesServer new s → after.work ≡ before.work →
      SendsOne before.frames after.frames (tells old.raft.me client kind (Some e)) → DoesAct old.raft.size old.raft.me s (write_act old client kind command s) new before after
  write_refused e leads fresh why other = write_told (write_act old client kind command s) (Some e) (write_is false (Some e) leads fresh (refused_why s.raft command e leads other why))

-- the same of what the sending answers
module _ (old new : ServerView) (before after : Outbox) (client : ℕ) (kind : ClientRequestKind) (command : Command) (r : Result (Unit {0}) NoMemory) where
  pub refusal_told : (e : Refusal) → EachServer old (λ s. is_leader s.raft.mode ≡ true) → EachServer old (λ s. is_taken_already (projected_state s.raft) command ≡ false) → EachServer old (λ s. WhyNotProposed s.raft command e) → e ≢ refusals.NoMemory → SameServer old new → after.work ≡ before.work →
      OnOk r (SendsOne before.frames after.frames (tells old.raft.me client kind (Some e))) → OnOk r (EachDoes old (write_act old client kind command) new before after)
  refusal_told e leads fresh why other same work = by r where
    by : (r : Result (Unit {0}) NoMemory) → OnOk r (SendsOne before.frames after.frames (tells old.raft.me client kind (Some e))) → OnOk r (EachDoes old (write_act old client kind command) new before after)
    by (Err x) sent = tt
    by (Ok u) sent = λ s is. write_refused old new before after client kind command s e (leads s is) (fresh s is) (why s is) other (same_is old new s same is) work sent
