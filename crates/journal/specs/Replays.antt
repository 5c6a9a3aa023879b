-- What the payloads of a journal stand for: the first is the whole of what is stored, and each
-- other one changes it.
use Rattle.std.specs.Prelude.{ℕ, Option, Some, None, List, [], ◌∷◌}

pub record Replay (P : Type 0) : Type 0 where
  -- the stored part of which this is the whole
  pub whole : List ℕ → Option P
  -- the stored part after this change
  pub after : P → List ℕ → Option P

abbrev pub replayed_on : {P : Type 0} → Replay P → Option P → List (List ℕ) → Option P
replayed_on k None payloads = None
replayed_on k (Some part) [] = Some part
replayed_on k (Some part) (payload ∷ payloads) = replayed_on k (k.after part payload) payloads

-- what these payloads stand for
abbrev pub replayed : {P : Type 0} → Replay P → List (List ℕ) → Option P
replayed k [] = None
replayed k (payload ∷ payloads) = replayed_on k (k.whole payload) payloads
