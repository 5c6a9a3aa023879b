-- What an answer says is kept.
use Rattle.group_model.specs.Acceptance.{Accepted}
use Rattle.plan_apply.specs.declared.accepted.Accepted.{Accepted as AnyAccepted}

abbrev pub kept_by : AnyAccepted → Accepted
kept_by a = record { stops = a.plan.stops; places = a.plan.places; refused = a.refused }
