-- The refusals that the errors of a desk stand for.
use Rattle.rows.specs.declared.refusal.Refusal.{Refusal}
use Rattle.rows.specs.declared.refusal.Refusal.TheVariants as refusals
use Rattle.eval_broker.specs.declared.answers.PairError.{PairError}
use Rattle.eval_broker.specs.declared.answers.PairError.TheVariants as pair_errors
use Rattle.expiry.specs.declared.errors.ExpiryError.{ExpiryError}
use Rattle.expiry.specs.declared.errors.ExpiryError.TheVariants as expiry_errors
use Rattle.leader.specs.declared.desk_error.DeskError.{DeskError}
use Rattle.leader.specs.declared.desk_error.DeskError.TheVariants as desk_errors

abbrev pub desk_refusal : DeskError → Refusal
desk_refusal desk_errors.NotOpen = refusals.NotOpen
desk_refusal desk_errors.NotOutstanding = refusals.NotOutstanding
desk_refusal desk_errors.TokenDiffers = refusals.TokenDiffers
desk_refusal desk_errors.UnknownNode = refusals.UnknownNode
desk_refusal desk_errors.Exhausted = refusals.Exhausted
desk_refusal desk_errors.StaleExpiry = refusals.StaleExpiry

-- of a pair that is not outstanding
abbrev pub pair_refused : PairError → DeskError
pair_refused pair_errors.NotOutstanding = desk_errors.NotOutstanding
pair_refused pair_errors.TokenDiffers = desk_errors.TokenDiffers

-- of a node that does not expire
abbrev pub expiry_refused : ExpiryError → DeskError
expiry_refused expiry_errors.UnknownNode = desk_errors.UnknownNode
expiry_refused expiry_errors.StaleExpiry = desk_errors.StaleExpiry
