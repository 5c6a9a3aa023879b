-- Events of the program's world as the model's.
use Rattle.std.proofs.Common.{◌≡◌, ◌∙◌, ap, List, [], ◌∷◌, ◌++◌}
use Rattle.std.proofs.lemmas.List.{map-append}
use Rattle.world.specs.declared.event.RaftEvent.{RaftEvent}
use Rattle.world.specs.Events.{world_event, world_events}

pub one_event_more : {S C : Type 0} (before after was : List (RaftEvent S C)) (e : RaftEvent S C) → before ≡ was → after ≡ before ++ e ∷ [] → world_events after ≡ world_events was ++ world_event e ∷ []
one_event_more before after was e same is = ap world_events is ∙ (map-append world_event before (e ∷ []) ∙ ap (λ l. world_events l ++ world_event e ∷ []) same)
