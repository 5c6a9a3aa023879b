-- What is printed of actors, leaders and refusals.
use Rattle.std.specs.Prelude.{ℕ, ◌+◌, List, ◌++◌, Option, Some, None, codes, decimal}
use Rattle.rows.specs.declared.actor.Actor.{Actor}
use Rattle.rows.specs.declared.actor.Actor.TheVariants.{Server, Client}
use Rattle.rows.specs.declared.refusal.Refusal.{Refusal}
use Rattle.rows.specs.declared.refusal.Refusal.TheVariants as refusals

-- a server is shown from 1
abbrev pub server_words : ℕ → List ℕ
server_words place = codes "server " ++ decimal (place + 1)

abbrev pub actor_words : Actor → List ℕ
actor_words (Server place) = server_words place
actor_words (Client number) = codes "client " ++ decimal number

abbrev pub leader_words : Option ℕ → List ℕ
leader_words (Some place) = server_words place ++ codes " leads"
leader_words None = codes "no leader is known"

-- what is wrong, without the leader or the offset that goes with it
abbrev pub plain_words : Refusal → List ℕ
plain_words refusals.NoMemory = codes "memory ran out"
plain_words (refusals.NotLeader leader) = codes "this server does not lead"
plain_words refusals.NotOpen = codes "the leader's services are not open yet"
plain_words refusals.NotOutstanding = codes "the evaluation is not outstanding"
plain_words refusals.TokenDiffers = codes "the evaluation is outstanding under another token"
plain_words refusals.SnapshotTooOld = codes "the plan was made from too old a state"
plain_words refusals.JobChanged = codes "the job was changed since the plan was made"
plain_words refusals.UnknownJob = codes "there is no such job"
plain_words refusals.UnknownNode = codes "there is no such node"
plain_words refusals.NodeDiffers = codes "the node has another class or size"
plain_words refusals.BadName = codes "a name is not 1 to 32 bytes of a-z, 0-9 and -"
plain_words refusals.OutOfRange = codes "a number is out of range"
plain_words refusals.TableFull = codes "a table is full"
plain_words refusals.Exhausted = codes "a term, an index or a serial is at its greatest"
plain_words (refusals.Frame offset) = codes "the bytes are at fault"
plain_words refusals.Down = codes "the actor is down"
plain_words refusals.QueueFull = codes "the queue is full"
plain_words refusals.JobStopped = codes "the job is stopped"
plain_words refusals.StaleExpiry = codes "the node was heard of since"
plain_words refusals.NotDraining = codes "the node is not being drained"
plain_words refusals.UnknownAlloc = codes "there is no such allocation"

abbrev pub refusal_words : Refusal → List ℕ
refusal_words (refusals.NotLeader leader) = plain_words (refusals.NotLeader leader) ++ codes ": " ++ leader_words leader
refusal_words (refusals.Frame offset) = plain_words (refusals.Frame offset) ++ codes " at offset " ++ decimal offset
refusal_words e = plain_words e
