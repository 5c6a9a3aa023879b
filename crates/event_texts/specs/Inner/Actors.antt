-- Who crashes and begins again.
use Rattle.std.specs.Prelude.{ℕ, List}
use Rattle.rows.specs.Fits.{NodeIdFits}
use Rattle.rows.specs.declared.actor.Actor.{Actor}
use Rattle.rows.specs.declared.actor.Actor.TheVariants.{Server, Client}
use Rattle.event_texts.specs.EventLines.{ServerFits, client_text, server_text}

-- a client has a `c` before its number
abbrev pub actor_text : Actor → List ℕ
actor_text (Server server) = server_text server
actor_text (Client client) = client_text client

abbrev pub ActorFits : Actor → Type 0
ActorFits (Server server) = ServerFits server
ActorFits (Client client) = NodeIdFits client
