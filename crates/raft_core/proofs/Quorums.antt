-- Counting the servers that pass a test.
use Rattle.std.proofs.Common.{◌≡◌, ℕ, suc, ◌+◌, ◌<◌, Bool, false, cond, List, length, refl, ap, ◌∙◌, arith, get_or}
use Rattle.std.proofs.lemmas.Option.{slice_get-get_or}
use Rattle.raft_model.specs.Quorums.{count, marked, or_else}

pub count-next : (f : ℕ → Bool) (i : ℕ) → count f (i + 1) ≡ cond (f i) 1 0 + count f i
unfolding count
count-next f i = let e : i + 1 ≡ suc i = omega arith in ap (count f) e

pub count-none : (f : ℕ → Bool) → count f 0 ≡ 0
unfolding count
count-none f = refl

pub marked-read : (votes : List Bool) (i : ℕ) (d : Bool) → i < length votes → marked votes i ≡ get_or votes i d
marked-read votes i d within = ap (or_else false) (slice_get-get_or votes i d within)

-- one more item of a list of votes
pub count-marked : (votes : List Bool) (i : ℕ) (d b : Bool) → i < length votes → get_or votes i d ≡ b → count (marked votes) (i + 1) ≡ cond b 1 0 + count (marked votes) i
count-marked votes i d b within is = count-next (marked votes) i ∙ ap (λ (x : Bool). cond x 1 0 + count (marked votes) i) (marked-read votes i d within ∙ is)
