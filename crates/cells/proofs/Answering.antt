-- What a server or a client answers, as what its actor does with an event.
use Rattle.std.proofs.Common.{◌≡◌, ℕ, false, List, [], ◌∷◌, map, refl, sym, ap, ◌∙◌, subst}
use Rattle.std.specs.Prelude.{Result, Ok, Err}
use Rattle.std.specs.declared.boxed.Box.{Box}
use Rattle.std.specs.declared.alloc.Global.{Global}
use Rattle.rows.specs.declared.refusal.Refusal.{Refusal}
use Rattle.rows.specs.declared.refusal.Refusal.TheVariants as refusals
use Rattle.wire.specs.Frames.{Frame}
use Rattle.client_agent.specs.AgentView.{AgentView}
use Rattle.group_inputs.specs.declared.client_input.ClientInput.{ClientInput}
use Rattle.group_inputs.specs.declared.client_input.ClientInput.TheVariants as client_inputs
use Rattle.server.specs.declared.server.Outbox.{Outbox}
use Rattle.group_inputs.specs.declared.server_input.ServerInput.{ServerInput}
use Rattle.server.specs.ServerViews.{ServerView}
use Rattle.group_inputs.specs.Handings.{Handing, FrameBytes, OwnInput, handing}
use Rattle.actor.specs.declared.group_actor.GroupActor.TheVariants as actors
use Rattle.actor.specs.declared.stepped.Stepped.{Stepped}
use Rattle.actor.specs.declared.stepped.Stepped.TheVariants.{Taken, Crashed}
use Rattle.actor.specs.Handed.{comes_as_frame, is_client_frame}
use Rattle.actor.specs.Refusals.{RefusedSo, ServerRefuses, ServerMayEndOutOfMemory, ClientRefuses}
use Rattle.actor.specs.Answers.{nothing_sent, ServerSteps, ServerStays, ServerAnswers, ClientSteps, ClientAnswers}
use Rattle.event_book.specs.declared.view.EventView.TheVariants.{Own, Delivery}
use Rattle.event_book.specs.declared.view.Output.{Output}
use Rattle.cells.specs.declared.own_input.OwnInput.TheVariants as own
use Rattle.cells.specs.Actors.{output_frame, ServerTurned, TakesInput, ClientTurned, TakesClientInput}
use Rattle.cells.specs.Refusals.{InputRefused, ClientInputRefused}
use Rattle.cells.specs.Inner.Steps.{output_of, DidOrRefused}

frames_again : (fs : List Frame) → map output_frame (map output_of fs) ≡ fs
frames_again [] = refl
frames_again (f ∷ fs) = ap (λ l. f ∷ l) (frames_again fs)

-- here nothing is said of where memory is wanting
said : (lack : Type 0) (says : Refusal → Type 0) (cause : Refusal) → RefusedSo lack says cause → RefusedSo (Unit {0}) says cause
said lack says refusals.NoMemory h = tt
said lack says _ h = h

-- ---- servers

module _ (old new : ServerView) (before after : Outbox) (empty : before ≡ nothing_sent) where
  turned : (h : Handing) → ServerSteps old h new before after → ServerTurned old h (map output_of after.frames) after.work new
  turned h t =
      subst (λ (l : List Frame). ServerSteps old h new nothing_sent (record { frames = l; work = after.work })) (sym (frames_again after.frames))
      (subst (λ (o : Outbox). ServerSteps old h new o after) empty t)

  -- a frame comes
  pub server_brought : (stamp place : ℕ) (frame : List ℕ) (q : Result Stepped Refusal) → ServerAnswers old (FrameBytes frame) before q new after → DidOrRefused (actors.Server old) (Delivery stamp place frame) q after (actors.Server new)
  server_brought stamp place frame (Ok Taken) a = turned (FrameBytes frame) a
  server_brought stamp place frame (Ok Crashed) a = (a.2 ∙ empty, (refl, refl, a.0), a.1)
  server_brought stamp place frame (Err cause) a = (a.0, said (ServerStays old (FrameBytes frame) new) (ServerRefuses old (FrameBytes frame)) cause a.1)

  -- an input of its own, which is no frame
  pub server_handed : (input : Box ServerInput Global) (h : Handing) (q : Result Stepped Refusal) → handing input.value ≡ h → comes_as_frame h ≡ false → ServerAnswers old h before q new after → DidOrRefused (actors.Server old) (Own (own.Server input)) q after (actors.Server new)
  server_handed input (FrameBytes bytes) q is other a = absurd (cc)
  server_handed input (OwnInput x) (Ok Taken) is other a = subst (λ k. TakesInput old k (map output_of after.frames) after.work new) (sym is) (turned (OwnInput x) a)
  server_handed input (OwnInput x) (Ok Crashed) is other a = (a.2 ∙ empty, (refl, refl, a.0), subst (λ k. ServerMayEndOutOfMemory old k) (sym is) a.1)
  server_handed input (OwnInput x) (Err cause) is other a = (a.0, subst (λ k. RefusedSo (Unit {0}) (InputRefused old k) cause) (sym is) (said (ServerStays old (OwnInput x) new) (ServerRefuses old (OwnInput x)) cause a.1))

-- ---- clients

takes_input : (old new : AgentView) (given : ClientInput) (outs : List Output) → is_client_frame given ≡ false → ClientTurned old given outs new → TakesClientInput old given outs new
takes_input old new (client_inputs.Frame bytes) outs other t = absurd (cc)
takes_input old new _ outs other t = t

input_refused : (old : AgentView) (given : ClientInput) → is_client_frame given ≡ false → (r : Refusal) → ClientRefuses old given r → ClientInputRefused old given r
input_refused old (client_inputs.Frame bytes) other r h = absurd (cc)
input_refused old _ other r h = h

refused_too : (lack : Type 0) (P Q : Refusal → Type 0) → ((r : Refusal) → P r → Q r) → (cause : Refusal) → RefusedSo lack P cause → RefusedSo (Unit {0}) Q cause
refused_too lack P Q f refusals.NoMemory h = tt
refused_too lack P Q f _ h = f _ h

module _ (old new : AgentView) (before after : Outbox) (empty : before ≡ nothing_sent) (kept : after.work ≡ before.work) where
  no_work : after.work ≡ []
  no_work = kept ∙ ap (λ (o : Outbox). o.work) empty

  client_turned : (given : ClientInput) → ClientSteps old given new before.frames after.frames → ClientTurned old given (map output_of after.frames) new
  client_turned given t =
      subst (λ (l : List Frame). ClientSteps old given new [] l) (sym (frames_again after.frames))
      (subst (λ (o : Outbox). ClientSteps old given new o.frames after.frames) empty t)

  none_sent : after.frames ≡ before.frames → after ≡ nothing_sent
  none_sent same = let frames = same ∙ ap (λ (o : Outbox). o.frames) empty in λ t. record { frames = frames t; work = no_work t }

  pub client_brought : (stamp place : ℕ) (frame : List ℕ) (q : Result Stepped Refusal) → ClientAnswers old (client_inputs.Frame frame) before.frames q new after.frames → DidOrRefused (actors.Client old) (Delivery stamp place frame) q after (actors.Client new)
  client_brought stamp place frame (Ok Taken) a = (no_work, client_turned (client_inputs.Frame frame) a)
  client_brought stamp place frame (Ok Crashed) a = (none_sent a.2, (refl, (refl, a.0)), a.1)
  client_brought stamp place frame (Err cause) a = (a.0, said ⊥ (ClientRefuses old (client_inputs.Frame frame)) cause a.1)

  pub client_handed : (input : Box ClientInput Global) (q : Result Stepped Refusal) → is_client_frame input.value ≡ false → ClientAnswers old input.value before.frames q new after.frames → DidOrRefused (actors.Client old) (Own (own.Client input)) q after (actors.Client new)
  client_handed input (Ok Taken) other a = (no_work, takes_input old new input.value (map output_of after.frames) other (client_turned input.value a))
  client_handed input (Ok Crashed) other a = (none_sent a.2, (refl, (refl, a.0)), a.1)
  client_handed input (Err cause) other a = (a.0, refused_too ⊥ (ClientRefuses old input.value) (ClientInputRefused old input.value) (input_refused old input.value other) cause a.1)
