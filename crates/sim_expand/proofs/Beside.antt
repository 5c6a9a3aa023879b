-- What a step does that is no flow rests neither on what is in flight nor on the words that were
-- drawn.
use Rattle.std.proofs.Common.{◌≡◌, ◌≢◌, ◌∙◌, ◌⊎◌, ◌++◌, ◌∷◌, ℕ, Bool, true, false, Option, Some, None, List, [], ap, inl, inr, length, max, refl, slice_set, subst}
use Rattle.group_inputs.specs.declared.server_input.ServerInput.{ServerInput}
use Rattle.group_model.specs.Worlds.{Event}
use Rattle.lossy_net.specs.Words.{Keystream}
use Rattle.rows.specs.declared.refusal.Refusal.{Refusal}
use Rattle.sim_play.specs.declared.play.Play.{Play}
use Rattle.sim_play.specs.Flight.{InFlight, newly_sent}
use Rattle.sim_play.specs.PlayEvents.{EventRefused, EventTaken}
use Rattle.sim_play.specs.PlaySteps.{StepRefused, StepTaken}
use Rattle.sim_play.specs.PlayWork.{AskRefused, AskTaken, WorkRefused, WorkTaken, WorkersAsk, own_event}
use Rattle.sim_play.specs.Played.{LinePlayed, Refused}
use Rattle.sim_scenario.specs.Steps.{AnEvent, Flow, IsLine, Step, Work}
use Rattle.sim_expand.specs.Counts.{IsNoFlow}
use Rattle.sim_expand.specs.Expanded.{MayStand}
use Rattle.sim_expand.specs.Inner.Taking.{StandsBeside}

-- with this in flight, and these words to come
abbrev pub with_net : Play → InFlight → Keystream → Play
with_net play flight fates = record play { flight = flight; fates = fates }

abbrev pub IsBeside : Play → Play → Type 0
IsBeside other play = StandsBeside true other play

event_beside : (p : Play) (f : InFlight) (w : Keystream) (event : Event) (new : Play) → EventTaken (with_net p f w) event new → (q : Play) × EventTaken p event q × IsBeside q new
event_beside p f w event new t =
    let sent = length t.world.outbox.frames in
    let q = record p {
      world = new.world;
      workers = new.workers;
      flight = record { waiting = p.flight.waiting ++ newly_sent p.flight.seen sent; seen = max p.flight.seen sent };
      lacked = new.lacked;
    } in (
      q,
      record {
        world = t.world;
        done = t.done;
        happened = t.happened;
        group = t.group;
        workers = t.workers;
        flight = record { waiting = refl; seen = refl };
        lacked = t.lacked;
        rest = refl;
      },
      (new.flight, w, t.rest),
    )

refusal_beside : (p : Play) (f : InFlight) (w : Keystream) (event : Event) (r : Refusal) (new : Play) → EventRefused (with_net p f w) event r new → (q : Play) × EventRefused p event r q × IsBeside q new
refusal_beside p f w event r new t =
    (record p { world = new.world }, record { reason = t.reason; cause = t.cause; group = t.group; rest = refl }, (f, w, t.rest))

-- ---- a turn of a worker

ask_beside : (p : Play) (f : InFlight) (w : Keystream) (server : ℕ) (asked : Option ServerInput) (new : Play) → AskTaken (with_net p f w) server asked new → (q : Play) × AskTaken p server asked q × IsBeside q new
ask_beside p f w server None new t = (p, refl, (f, w, t))
ask_beside p f w server (Some input) new t = event_beside p f w (own_event server input) new t

ask_refusal_beside : (p : Play) (f : InFlight) (w : Keystream) (server : ℕ) (asked : Option ServerInput) (r : Refusal) (new : Play) → AskRefused (with_net p f w) server asked r new
    → (q : Play) × AskRefused p server asked r q × IsBeside q new
ask_refusal_beside p f w server None r new t = absurd t
ask_refusal_beside p f w server (Some input) r new t = refusal_beside p f w (own_event server input) r new t

workers_beside : (p : Play) (f : InFlight) (w : Keystream) (server : ℕ) (asked : Option ServerInput) (mid : Play) → WorkersAsk (with_net p f w) server asked mid
    → (q : Play) × WorkersAsk p server asked q × (mid ≡ with_net q f w)
workers_beside p f w server asked mid t =
    (record p { workers = slice_set p.workers server t.after }, record { before = t.before; after = t.after; own = t.own; asks = t.asks; others = refl }, t.others)

work_beside : (p : Play) (f : InFlight) (w : Keystream) (server : ℕ) (new : Play) → WorkTaken (with_net p f w) server new → (q : Play) × WorkTaken p server q × IsBeside q new
work_beside p f w server new t =
    let mid = workers_beside p f w server t.asked t.between t.worked in
    let last = ask_beside mid.0 f w server t.asked new (subst (λ x. AskTaken x server t.asked new) mid.2 t.taken) in
    (last.0, record { asked = t.asked; between = mid.0; worked = mid.1; taken = last.1 }, last.2)

work_refusal_beside : (p : Play) (f : InFlight) (w : Keystream) (server : ℕ) (r : Refusal) (new : Play) → WorkRefused (with_net p f w) server r new → (q : Play) × WorkRefused p server r q × IsBeside q new
work_refusal_beside p f w server r new t =
    let mid = workers_beside p f w server t.asked t.between t.worked in
    let last = ask_refusal_beside mid.0 f w server t.asked r new (subst (λ x. AskRefused x server t.asked r new) mid.2 t.refused) in
    (last.0, record { asked = t.asked; between = mid.0; worked = mid.1; refused = last.1 }, last.2)

-- ---- a step

step_beside : (p : Play) (f : InFlight) (w : Keystream) (step : Step) (new : Play) → ((count : Option ℕ) → step ≢ Flow count) → StepTaken step (with_net p f w) new → (q : Play) × StepTaken step p q × IsBeside q new
step_beside p f w (AnEvent event) new other t = event_beside p f w event new t
step_beside p f w (Work server) new other t = work_beside p f w server new t
step_beside p f w (Flow count) new other t = absurd (other count refl)

step_refusal_beside : (p : Play) (f : InFlight) (w : Keystream) (step : Step) (r : Refusal) (new : Play) → StepRefused step (with_net p f w) r new → (q : Play) × StepRefused step p r q × IsBeside q new
step_refusal_beside p f w (AnEvent event) r new t = refusal_beside p f w event r new t
step_refusal_beside p f w (Work server) r new t = work_refusal_beside p f w server r new t
step_refusal_beside p f w (Flow count) r new t = absurd t

-- ---- a line

module _ (line : List ℕ) (refused : List Refused) where
  abbrev Played : Play → Play → Type 0
  Played old new = LinePlayed StepTaken StepRefused line old refused new

  became_beside : (p : Play) (f : InFlight) (w : Keystream) (new : Play) (step : Step) → IsLine step line → IsNoFlow line
      → (StepTaken step (with_net p f w) new × (refused ≡ [])) ⊎ ((r : Refusal) × StepRefused step (with_net p f w) r new × (refused ≡ (r, line) ∷ []))
      → (q : Play) × Played p q × IsBeside q new
  became_beside p f w new step named other (inl took) =
      let is = step_beside p f w step new (λ count same. other count (subst (λ s. IsLine s line) same named)) took.0 in
      (is.0, record { step = step; named = named; became = inl (is.1, took.1) }, is.2)
  became_beside p f w new step named other (inr (r, refuses, all)) =
      let is = step_refusal_beside p f w step r new refuses in
      (is.0, record { step = step; named = named; became = inr (r, is.1, all) }, is.2)

  -- a line that may stand there is played beside the other play too
  pub line_beside : (behind : Bool) (other play new : Play) → StandsBeside behind other play → MayStand behind line → Played play new
      → (q : Play) × Played other q × StandsBeside behind q new
  line_beside false other play new same may t = (new, subst (λ p. Played p new) same t, refl)
  line_beside true other play new beside may t =
      let t = subst (λ p. Played p new) beside.2 t in
      became_beside other beside.0 beside.1 new t.step t.named may t.became

-- ---- beside a play

pub same_world : (behind : Bool) (other play : Play) → StandsBeside behind other play → play.world ≡ other.world
same_world false other play same = ap (λ (p : Play). p.world) same
same_world true other play beside = ap (λ (p : Play). p.world) beside.2

pub same_lack : (behind : Bool) (other play : Play) → StandsBeside behind other play → play.lacked ≡ other.lacked
same_lack false other play same = ap (λ (p : Play). p.lacked) same
same_lack true other play beside = ap (λ (p : Play). p.lacked) beside.2

-- whatever is in flight then, and whatever words are to come
pub still_beside : (behind : Bool) (other play : Play) (f : InFlight) (w : Keystream) (new : Play) → StandsBeside behind other play → new ≡ with_net play f w → IsBeside other new
still_beside false other play f w new same is = (f, w, is ∙ ap (λ p. with_net p f w) same)
still_beside true other play f w new beside is = (f, w, is ∙ ap (λ p. with_net p f w) beside.2)
