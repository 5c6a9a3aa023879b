-- Which message a flow takes, and what becomes of it.
use Rattle.std.specs.Prelude.{◌≡◌, ◌⊎◌, ◌+◌, ◌%◌, ◌^◌, ◌<◌, ◌≤◌, ◌++◌, ◌∷◌, ℕ, zero, suc, Some, [], length, remove, slice_get}
use Rattle.group_model.specs.Worlds.{Deliver, Event}
use Rattle.lossy_net.specs.declared.message_fate.MessageFate.{MessageFate}
use Rattle.lossy_net.specs.declared.message_fate.MessageFate.TheVariants as fates
use Rattle.lossy_net.specs.Fates.{HasFate}
use Rattle.lossy_net.specs.Words.{Keystream, nth_word}
use Rattle.rows.specs.declared.refusal.Refusal.{Refusal}
use Rattle.group_inputs.specs.Events.{position_of}
use Rattle.sim_scenario.specs.declared.scenario.Order.{Order}
use Rattle.sim_scenario.specs.declared.scenario.Order.TheVariants as orders
use Rattle.sim_play.specs.declared.play.Play.{Play}
use Rattle.sim_play.specs.PlayEvents.{EventRefused, EventTaken}

-- ---- words

abbrev pub next_word : Keystream → ℕ
next_word words = nth_word words.key words.drawn

-- the words that come once the next is drawn
abbrev pub words_left : Keystream → Keystream
words_left words = record words { drawn = (words.drawn + 1) % 2 ^ 68 }

-- ---- which message is taken

-- its place among those in flight: the one in front; or by lot, as the next word says
abbrev pub position_taken : Order → Keystream → ℕ → ℕ
position_taken orders.Sent words count = 0
position_taken orders.Any words count = next_word words % count

abbrev pub words_after : Order → Keystream → Keystream
words_after orders.Sent words = words
words_after orders.Any words = words_left words

abbrev pub position_in : Play → ℕ
position_in play = position_taken play.order play.fates (length play.flight.waiting)

-- the message is no longer in flight, and nothing else changed but that its word is drawn
pub record MessageTaken (old : Play) (message : ℕ) (new : Play) : Type 0 where
  pub taken : slice_get old.flight.waiting (position_in old) ≡ Some message
  pub rest : new ≡ record old {
    flight = record old.flight { waiting = remove old.flight.waiting (position_in old) };
    fates = words_after old.order old.fates;
  }

-- ---- what becomes of it

-- it comes to its receiver
abbrev pub arrival : ℕ → Event
arrival message = Deliver (position_of message)

-- its receiver refuses it, and it is lost
abbrev pub IsNotTaken : Play → ℕ → Play → Type 0
IsNotTaken old message new = (refusal : Refusal) × EventRefused old (arrival message) refusal new

-- it is put in flight again, behind all others
abbrev pub put_again : ℕ → Play → Play
put_again message play = record play {
  flight = record play.flight { waiting = play.flight.waiting ++ message ∷ [] };
}

-- it comes once, or comes and is in flight again, behind what its coming sent; one that is refused
-- is lost, whatever its fate
abbrev pub MeetsFate : MessageFate → Play → ℕ → Play → Type 0
MeetsFate fates.Lose old message new = new ≡ old
MeetsFate fates.Once old message new =
    EventTaken old (arrival message) new ⊎ IsNotTaken old message new
MeetsFate fates.Repeat old message new =
    ((come : Play) × EventTaken old (arrival message) come × (new ≡ put_again message come))
    ⊎ IsNotTaken old message new

-- the next word is drawn, and the message meets the fate that it gives
pub record MessagePassed (old : Play) (message : ℕ) (new : Play) : Type 0 where
  pub fate : MessageFate
  pub given : HasFate (next_word old.fates) old.drop old.repeat fate
  pub met : MeetsFate fate (record old { fates = words_left old.fates }) message new

-- ---- a flow

-- one message is taken, and meets its fate
pub record OnePassed (old new : Play) : Type 0 where
  pub message : ℕ
  pub between : Play
  pub taken : MessageTaken old message between
  pub passed : MessagePassed between message new

-- so many messages, one after the other
abbrev pub ManyPassed : ℕ → Play → Play → Type 0
ManyPassed zero old new = new ≡ old
ManyPassed (suc n) old new = (last : Play) × ManyPassed n old last × OnePassed last new

-- a flow of up to so many: fewer are taken only where nothing is left in flight
pub record Flowed (most : ℕ) (old new : Play) : Type 0 where
  pub count : ℕ
  pub within : count ≤ most
  pub passed : ManyPassed count old new
  pub spent : count < most → new.flight.waiting ≡ []
