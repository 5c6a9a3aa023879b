-- Which server takes an event, and what it is for it.
use Rattle.std.proofs.Common.{◌≡◌, ℕ, ◌<◌, true, false, Option, Some, None, Err, List, length, refl, sym, ap, ◌∙◌, subst, slice_get}
use Rattle.std.proofs.lemmas.Option.{same_Some}
use Rattle.std.specs.List.{AllZip}
use Rattle.rows.specs.declared.actor.Actor.TheVariants as actors
use Rattle.rows.specs.declared.refusal.Refusal.TheVariants as refusals
use Rattle.machine_model.specs.MachineSpec.{MachineSpec}
use Rattle.wire.specs.Frames.{Frame}
use Rattle.raft_model.specs.Messages.{Message}
use Rattle.raft_model.specs.Rafts.{Raft, Mode, is_up}
use Rattle.raft_model.specs.Steps.{Input, Arrives, Timeout, Beat, Propose, Compact, Crash, Restart, step}
use Rattle.raft_model.specs.Worlds.{World, Event, Deliver, TimesOut, Beats, Proposes, Compacts, Crashes, Restarts, happens, takes, receiver, delivers, acting_server}
use Rattle.raft_core.specs.Frames.{IsFrameOf, FrameCarries}
use Rattle.raft_core.specs.Inputs.{Reads}
use Rattle.raft_core.specs.Refusals.{MayEndOutOfMemory, OutOfMemoryMayEnd}
use Rattle.raft_safety.proofs.Places.{get-within}
use Rattle.server.specs.SentBytes.{bytes_of}
use Rattle.world.specs.Events.{arrival, event_input}
use Rattle.world.specs.Inner.Inputs.{ActsIn, NobodyActsIn, is_restart, handed_by}
use Rattle.world.proofs.Zips.{zip_at, zip_from, zip_none}

module _ {S C : Type 0} (m : MachineSpec S C) (sent : List Frame) (k : ℕ) where
  pub gone : slice_get sent k ≡ None → NobodyActsIn m sent (Deliver k) refusals.OutOfRange
  gone h w z = let none : slice_get w.sent k ≡ None = zip_none (FrameCarries m) sent w.sent k z h in rw none refl

  pub received : (frame : Frame) (i : ℕ) → slice_get sent k ≡ Some frame → frame.to ≡ actors.Server i → ActsIn m sent (Deliver k) i
  received frame i h to w z =
      let x = zip_at (FrameCarries m) sent w.sent k frame z h in
      let same : x.0.to ≡ i = (let c = x.2 in let e : actors.Server x.0.to ≡ actors.Server i = sym c.to ∙ to in cc) in
      let here : slice_get w.sent k ≡ Some x.0 = x.1 in
      rw here (ap (λ j. Some j) same)

  pub astray : (frame : Frame) (client : ℕ) → slice_get sent k ≡ Some frame → frame.to ≡ actors.Client client → NobodyActsIn m sent (Deliver k) refusals.OutOfRange
  astray frame client h to w z =
      let x = zip_at (FrameCarries m) sent w.sent k frame z h in
      absurd (let c = x.2 in let e : actors.Server x.0.to ≡ actors.Client client = sym c.to ∙ to in cc)

pub sent_there : (sent : List Frame) (k : ℕ) (frame : Frame) → slice_get sent k ≡ Some frame → k < length sent
sent_there sent k frame h = get-within sent k frame h

-- a message that comes to server i was sent to it
abbrev pub WasSent : {C : Type 0} → World C → ℕ → Input C → Type 0
WasSent w i (Arrives message) = (k : ℕ) × (slice_get w.sent k ≡ Some message) × (message.to ≡ i)
WasSent w i Timeout = Unit {0}
WasSent w i Beat = Unit {0}
WasSent w i (Propose command) = Unit {0}
WasSent w i Compact = Unit {0}
WasSent w i Crash = Unit {0}
WasSent w i Restart = Unit {0}

module _ {S C : Type 0} (m : MachineSpec S C) (sent : List Frame) (w : World C) where
  -- in this world the event is that server i takes this input
  pub record Brings (e : Event C) (i : ℕ) : Type 0 where
    pub input : Input C
    pub is : event_input w e ≡ Some input
    pub reads : Reads m (handed_by sent e) input
    pub came : WasSent w i input
    pub takes : happens m w e ≡ takes m w i input
    pub wants : (mode : Mode) → MayEndOutOfMemory mode (handed_by sent e) → OutOfMemoryMayEnd mode input
    pub wakes : is_restart e ≡ true → input ≡ Restart
    pub sleeps : is_restart e ≡ false → (n me : ℕ) (s : Raft C) → is_up s.mode ≡ false → step m n me s input ≡ Err refusals.Down

  arrived : (o : Option (Message C)) (i : ℕ) → receiver m o ≡ Some i → (x : Message C) × (o ≡ Some x) × (x.to ≡ i)
  arrived None i h = absurd (cc)
  arrived (Some x) i h = (x, refl, same_Some x.to i h)

  -- an input of the server's own
  own : (e : Event C) (i j : ℕ) (x : Input C) → Some j ≡ Some i → happens m w e ≡ takes m w j x → happens m w e ≡ takes m w i x
  own e i j x who is = is ∙ ap (λ k. takes m w k x) (same_Some j i who)

  pub brings : (e : Event C) (i : ℕ) → AllZip (FrameCarries m) sent w.sent → acting_server m w e ≡ Some i → Brings e i
  brings (Deliver k) i z who =
      let x = arrived (slice_get w.sent k) i who in
      let here : slice_get w.sent k ≡ Some x.0 = x.1 in
      let f = zip_from (FrameCarries m) sent w.sent k x.0 z here in
      let frame : slice_get sent k ≡ Some f.0 = f.1 in
      let c = f.2 in
      record {
        input = Arrives x.0;
        is = ap arrival here;
        reads = (x.0, subst (λ o. IsFrameOf m (bytes_of o) x.0) (sym frame) c.bytes, refl);
        came = (k, here, x.2);
        takes = ap (λ o. delivers m w o) here ∙ ap (λ j. takes m w j (Arrives x.0)) x.2;
        wants = λ mode may. may;
        wakes = λ so. absurd (cc);
        sleeps = λ other n me s down. rw down refl;
      }
  brings (TimesOut j) i z who = record { input = Timeout; is = refl; reads = refl; came = tt; takes = own (TimesOut j) i j Timeout who refl; wants = λ mode may. may; wakes = λ so. absurd (cc); sleeps = λ other n me s down. rw down refl }
  brings (Beats j) i z who = record { input = Beat; is = refl; reads = refl; came = tt; takes = own (Beats j) i j Beat who refl; wants = λ mode may. may; wakes = λ so. absurd (cc); sleeps = λ other n me s down. rw down refl }
  brings (Proposes j command) i z who = record { input = Propose command; is = refl; reads = refl; came = tt; takes = own (Proposes j command) i j (Propose command) who refl; wants = λ mode may. may; wakes = λ so. absurd (cc); sleeps = λ other n me s down. rw down refl }
  brings (Compacts j) i z who = record { input = Compact; is = refl; reads = refl; came = tt; takes = own (Compacts j) i j Compact who refl; wants = λ mode may. may; wakes = λ so. absurd (cc); sleeps = λ other n me s down. rw down refl }
  brings (Crashes j) i z who = record { input = Crash; is = refl; reads = refl; came = tt; takes = own (Crashes j) i j Crash who refl; wants = λ mode may. may; wakes = λ so. absurd (cc); sleeps = λ other n me s down. rw down refl }
  brings (Restarts j) i z who = record { input = Restart; is = refl; reads = refl; came = tt; takes = own (Restarts j) i j Restart who refl; wants = λ mode may. may; wakes = λ so. refl; sleeps = λ other n me s down. absurd (cc) }
