-- What a server answers, by what its call leaves.
use Rattle.std.proofs.Common.{◌≡◌, ℕ, Bool, true, false, Result, Ok, Err, refl, subst, sym}
use Rattle.rows.specs.declared.refusal.Refusal.{Refusal}
use Rattle.rows.specs.declared.refusal.Refusal.TheVariants as refusals
use Rattle.raft_model.specs.Rafts.{is_up}
use Rattle.group_model.specs.Inputs.{Arrives, Timeout, Beat, Request, TakeFrom, SubmitTo, FinishAt, NackAt, PlanTurn, Lapse, Expire, DrainTurn, FreeTurn, Reap, Compact, Crash, Restart}
use Rattle.group_model.specs.Servers.{Server}
use Rattle.server.specs.declared.server.Outbox.{Outbox}
use Rattle.server.specs.ServerViews.{ServerView, RefinesServer, SameServer, crashed_server}
use Rattle.group_inputs.specs.Handings.{Handing, FrameBytes, OwnInput}
use Rattle.server.specs.Refusals.{MayEndOutOfMemory, OutOfMemoryLeaves}
use Rattle.server.specs.Answers.{HandedIn}
use Rattle.server.proofs.Serving.{leader_up}
use Rattle.actor.specs.Answers.{ServerAnswers}
use Rattle.actor.specs.Handed.{restarts_server}
use Rattle.actor.specs.Inner.Outcomes.{outcome, without_memory}

same_server : (old new : ServerView) → new ≡ old → SameServer old new
same_server old new e = subst (λ (v : ServerView). SameServer old v) (sym e) (record { raft = record { me = refl; size = refl; base = refl; server = refl }; desk = refl })

-- one that may lack memory, and is not to start again, is up
lacks_up : (n : ℕ) (s : Server) (h : Handing) → restarts_server h ≡ false → MayEndOutOfMemory n s h → is_up s.raft.mode ≡ true
lacks_up n s (FrameBytes bytes) other may = may
lacks_up n s (OwnInput (Arrives message)) other may = may
lacks_up n s (OwnInput Timeout) other may = may.up
lacks_up n s (OwnInput Beat) other may = leader_up s.raft.mode may
lacks_up n s (OwnInput (Request request)) other may = leader_up s.raft.mode may.leads
lacks_up n s (OwnInput (TakeFrom to)) other may = may.up
lacks_up n s (OwnInput (SubmitTo to plan)) other may = may.up
lacks_up n s (OwnInput (FinishAt to eval token outcome)) other may = may.up
lacks_up n s (OwnInput (NackAt to eval token)) other may = may.up
lacks_up n s (OwnInput PlanTurn) other may = leader_up s.raft.mode may.leads
lacks_up n s (OwnInput (Lapse eval)) other may = absurd may
lacks_up n s (OwnInput (Expire node beats)) other may = leader_up s.raft.mode may.0.leads
lacks_up n s (OwnInput (DrainTurn node)) other may = leader_up s.raft.mode may.leads
lacks_up n s (OwnInput FreeTurn) other may = leader_up s.raft.mode may.leads
lacks_up n s (OwnInput Reap) other may = leader_up s.raft.mode may.leads
lacks_up n s (OwnInput Compact) other may = may
lacks_up n s (OwnInput Crash) other may = absurd may
lacks_up n s (OwnInput Restart) other may = absurd (cc)

crashes : (old new : ServerView) (s : Server) (h : Handing) → restarts_server h ≡ false → OutOfMemoryLeaves old s h new → RefinesServer new (crashed_server s)
crashes old new s (FrameBytes bytes) other left = left
crashes old new s (OwnInput Restart) other left = absurd (cc)
crashes old new s (OwnInput input) other left = left

module _ (old new : ServerView) (before after : Outbox) where
  lacks : (h : Handing) (again : Bool) → again ≡ restarts_server h → HandedIn old h (Err refusals.NoMemory) new before after → ServerAnswers old h before (without_memory again) new after
  lacks h false same got =
      let other = sym same in (
        record {
          same = got.same;
          fell = λ s is. (lacks_up old.raft.size s h other (got.refused s is), crashes old new s h other (got.left s is));
        },
        got.refused,
        got.unsent,
      )
  lacks (OwnInput Restart) true same got = (same_server old new got.stays, record { restart = refl; down = got.refused; same = got.stays }, got.unsent)
  lacks h true same got = absurd (cc)

  refuses : (h : Handing) (again : Bool) → again ≡ restarts_server h → (cause : Refusal) → HandedIn old h (Err cause) new before after → ServerAnswers old h before (outcome again (let r : Result (Unit {0}) Refusal = Err cause in r)) new after
  refuses h again same refusals.NoMemory got = lacks h again same got
  refuses h again same cause got = (got.stays, got.refused, got.unsent)

  pub answers : (h : Handing) (again : Bool) → again ≡ restarts_server h → (r : Result (Unit {0}) Refusal) → HandedIn old h r new before after → ServerAnswers old h before (outcome again r) new after
  answers h again same (Ok u) got = record { same = got.same; admitted = got.admitted; taken = got.taken }
  answers h again same (Err cause) got = refuses h again same cause got
