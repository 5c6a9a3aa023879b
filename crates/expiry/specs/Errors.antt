-- The refusals that the errors of an expiry stand for.
use Rattle.rows.specs.declared.refusal.Refusal.{Refusal}
use Rattle.rows.specs.declared.refusal.Refusal.TheVariants as refusals
use Rattle.expiry.specs.declared.errors.ExpiryError.{ExpiryError}
use Rattle.expiry.specs.declared.errors.ExpiryError.TheVariants as errors

abbrev pub refusal_of : ExpiryError → Refusal
refusal_of errors.UnknownNode = refusals.UnknownNode
refusal_of errors.StaleExpiry = refusals.StaleExpiry
