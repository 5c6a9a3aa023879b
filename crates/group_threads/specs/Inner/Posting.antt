-- How often a message is put on its way, and what is put then.
use Rattle.std.specs.Prelude.{◌≡◌, ◌⊎◌, ◌≤◌, ℕ, Option, Some, None}
use Rattle.lossy_net.specs.Fates.{IsPutSoOften}
use Rattle.cells.specs.Cells.{EnvelopeView}

-- by the fate that some word gives it
abbrev pub MayBePutSoOften : ℕ → ℕ → ℕ → Type 0
MayBePutSoOften drop repeat times = (word : ℕ) × IsPutSoOften word drop repeat times

-- so often: nothing, it alone, or two of it; it alone too where there is no memory for two
abbrev pub ArePut : ℕ → EnvelopeView → Option EnvelopeView → Option EnvelopeView → Type 0
ArePut times envelope first second =
    (times ≡ 0) × (first ≡ None) × (second ≡ None)
    ⊎ (times ≡ 1) × (first ≡ Some envelope) × (second ≡ None)
    ⊎ (2 ≤ times) × (first ≡ Some envelope) × ((second ≡ Some envelope) ⊎ (second ≡ None))

-- so often as the fate allows that some word gives it, where so many of a hundred are to be lost
-- and so many to come twice
abbrev pub ArePutByParts : ℕ → ℕ → EnvelopeView → Option EnvelopeView → Option EnvelopeView → Type 0
ArePutByParts drop repeat envelope first second =
    (times : ℕ) × MayBePutSoOften drop repeat times × ArePut times envelope first second
