-- The first word of an event's line holds no space, and what stands behind it is found there.
use Rattle.std.proofs.Common.{◌≡◌, ◌≢◌, ◌++◌, ◌∷◌, ℕ, List, codes, refl}
use Rattle.rows.specs.declared.actor.Actor.{Actor}
use Rattle.rows.specs.declared.actor.Actor.TheVariants.{Server, Client}
use Rattle.group_model.specs.Inputs as inputs
use Rattle.group_model.specs.Agents as agents
use Rattle.group_model.specs.Worlds.{Event, Deliver, AtServer, AtClient}
use Rattle.event_texts.specs.EventLines.{HasLine, ServerInputHasLine, event_line}
use Rattle.event_texts.specs.Inner.Actors.{ActorFits, actor_text}
use Rattle.event_texts.specs.Inner.Lines.{HasParts, IsCrash, IsRestart, IsSmall, operands_of, verb_of}
use Rattle.event_texts.specs.Laws.PlainTexts.{name_lacks}
use Rattle.event_texts.specs.Inner.Plain.{IsWithout}

abbrev pub IsParted : Event → Type 0
IsParted event = IsWithout 32 (verb_of event) × (event_line event ≡ verb_of event ++ 32 ∷ operands_of event)

server_parted : (server : ℕ) (input : inputs.Input) → ServerInputHasLine input → IsParted (AtServer server input)
server_parted server (inputs.Arrives message) has = absurd has
server_parted server inputs.Timeout has = (name_lacks 32 (codes "timeout") refl refl, refl)
server_parted server inputs.Beat has = (name_lacks 32 (codes "beat") refl refl, refl)
server_parted server (inputs.Request request) has = (name_lacks 32 (codes "request") refl refl, refl)
server_parted server (inputs.TakeFrom to) has = (name_lacks 32 (codes "take") refl refl, refl)
server_parted server (inputs.SubmitTo to plan) has = (name_lacks 32 (codes "submit") refl refl, refl)
server_parted server (inputs.FinishAt to eval token outcome) has = (name_lacks 32 (codes "finish") refl refl, refl)
server_parted server (inputs.NackAt to eval token) has = (name_lacks 32 (codes "nack") refl refl, refl)
server_parted server inputs.PlanTurn has = (name_lacks 32 (codes "plan") refl refl, refl)
server_parted server (inputs.Lapse eval) has = (name_lacks 32 (codes "lapse") refl refl, refl)
server_parted server (inputs.Expire node beats) has = (name_lacks 32 (codes "expire") refl refl, refl)
server_parted server (inputs.DrainTurn node) has = (name_lacks 32 (codes "drain") refl refl, refl)
server_parted server inputs.FreeTurn has = (name_lacks 32 (codes "free") refl refl, refl)
server_parted server inputs.Reap has = (name_lacks 32 (codes "reap") refl refl, refl)
server_parted server inputs.Compact has = (name_lacks 32 (codes "compact") refl refl, refl)
server_parted server inputs.Crash has = (name_lacks 32 (codes "crash") refl refl, refl)
server_parted server inputs.Restart has = (name_lacks 32 (codes "restart") refl refl, refl)

-- there is something behind the first word
pub parted : (event : Event) → HasLine event → IsParted event
parted (Deliver place) has = (name_lacks 32 (codes "deliver") refl refl, refl)
parted (AtServer server input) has = server_parted server input has.1
parted (AtClient client (agents.Arrives from response)) has = absurd has.1
parted (AtClient client (agents.RegisterAt server)) has = (name_lacks 32 (codes "register") refl refl, refl)
parted (AtClient client (agents.Ping server)) has = (name_lacks 32 (codes "ping") refl refl, refl)
parted (AtClient client (agents.PullFrom server)) has = (name_lacks 32 (codes "pull") refl refl, refl)
parted (AtClient client (agents.End id ok)) has = (name_lacks 32 (codes "end") refl refl, refl)
parted (AtClient client agents.Crash) has = (name_lacks 32 (codes "crash") refl refl, refl)
parted (AtClient client agents.Restart) has = (name_lacks 32 (codes "restart") refl refl, refl)

-- by their first words, all events but two kinds take no memory
pub is_small : (event : Event) → verb_of event ≢ codes "request" → verb_of event ≢ codes "submit" → IsSmall event
is_small (Deliver place) request submit = tt
is_small (AtServer server (inputs.Arrives message)) request submit = tt
is_small (AtServer server inputs.Timeout) request submit = tt
is_small (AtServer server inputs.Beat) request submit = tt
is_small (AtServer server (inputs.Request asked)) request submit = absurd (request refl)
is_small (AtServer server (inputs.TakeFrom to)) request submit = tt
is_small (AtServer server (inputs.SubmitTo to plan)) request submit = absurd (submit refl)
is_small (AtServer server (inputs.FinishAt to eval token outcome)) request submit = tt
is_small (AtServer server (inputs.NackAt to eval token)) request submit = tt
is_small (AtServer server inputs.PlanTurn) request submit = tt
is_small (AtServer server (inputs.Lapse eval)) request submit = tt
is_small (AtServer server (inputs.Expire node beats)) request submit = tt
is_small (AtServer server (inputs.DrainTurn node)) request submit = tt
is_small (AtServer server inputs.FreeTurn) request submit = tt
is_small (AtServer server inputs.Reap) request submit = tt
is_small (AtServer server inputs.Compact) request submit = tt
is_small (AtServer server inputs.Crash) request submit = tt
is_small (AtServer server inputs.Restart) request submit = tt
is_small (AtClient client input) request submit = tt

-- ---- who crashes, and who begins again

abbrev pub crash_of : Actor → Event
crash_of (Server server) = AtServer server inputs.Crash
crash_of (Client client) = AtClient client agents.Crash

abbrev pub restart_of : Actor → Event
restart_of (Server server) = AtServer server inputs.Restart
restart_of (Client client) = AtClient client agents.Restart

pub who_crashes : (event : Event) → IsCrash event → (words : List ℕ) → HasParts event (codes "crash") words
    → (actor : Actor) × ActorFits actor × (words ≡ actor_text actor) × (event ≡ crash_of actor)
who_crashes (AtServer server inputs.Crash) is words parts = (Server server, parts.fits.0, parts.behind, refl)
who_crashes (AtClient client agents.Crash) is words parts = (Client client, parts.fits.0, parts.behind, refl)
who_crashes _ is words parts = absurd is

pub who_restarts : (event : Event) → IsRestart event → (words : List ℕ) → HasParts event (codes "restart") words
    → (actor : Actor) × ActorFits actor × (words ≡ actor_text actor) × (event ≡ restart_of actor)
who_restarts (AtServer server inputs.Restart) is words parts = (Server server, parts.fits.0, parts.behind, refl)
who_restarts (AtClient client agents.Restart) is words parts = (Client client, parts.fits.0, parts.behind, refl)
who_restarts _ is words parts = absurd is
