-- What becomes of an event of a run that is played again.
use Rattle.std.specs.Prelude.{◌≡◌, ◌≢◌, ℕ, Option, None, Some, []}
use Rattle.rows.specs.declared.refusal.Refusal.{Refusal}
use Rattle.rows.specs.declared.refusal.Refusal.TheVariants as refusals
use Rattle.rows.specs.Refusals.{number_of}
use Rattle.group_model.specs.Worlds.{Event}
use Rattle.world.specs.declared.done.Done.TheVariants.{Taken}
use Rattle.world.specs.GroupSteps.{IsGroupDone, SameView, RefusesGroupEvent}
use Rattle.world.specs.GroupView.{GroupView}

-- the group, once what came for workers was fetched
abbrev pub fetched : GroupView → GroupView
fetched group = record group { outbox = record group.outbox { work = [] } }

-- The event happened.
pub record Happened (old : GroupView) (event : Event) (new : GroupView) : Type 0 where
  pub between : GroupView
  pub done : IsGroupDone old event Taken between
  pub rest : new ≡ fetched between

-- The definitions refuse the event with a refusal of this number, which is none for want of memory,
-- and nothing happened.
pub record Refused (old : GroupView) (event : Event) (number : ℕ) (new : GroupView) : Type 0 where
  pub refusal : Refusal
  pub known : refusal ≢ refusals.NoMemory
  pub number_is : number ≡ number_of refusal
  pub cause : RefusesGroupEvent old event refusal
  pub between : GroupView
  pub same : SameView old between
  pub rest : new ≡ fetched between

-- the group took the event, or refused it with this number
abbrev pub Took : GroupView → Event → Option ℕ → GroupView → Type 0
Took old event None new = Happened old event new
Took old event (Some number) new = Refused old event number new
