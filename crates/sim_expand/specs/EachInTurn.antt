-- Lists that are made of what comes of each of others.
use Rattle.std.specs.Prelude.{◌≡◌, ◌++◌, List, [], ◌∷◌}

-- what comes of each of xs in turn, one behind the other, and nothing else
abbrev pub OfEach : {A B : Type 0} → (A → List B → Type 0) → List A → List B → Type 0
OfEach One [] all = all ≡ []
OfEach {A} {B} One (x ∷ xs) all =
    (own : List B) × (others : List B) × (all ≡ own ++ others) × One x own × OfEach One xs others

-- the same, where what comes of each rests also on those before it, and on what came of them
abbrev pub OfEachBehind : {A B : Type 0} → (List A → List B → A → List B → Type 0) → List A → List B → List A → List B → Type 0
OfEachBehind One passed before [] all = all ≡ []
OfEachBehind {A} {B} One passed before (x ∷ xs) all =
    (own : List B) × (others : List B) × (all ≡ own ++ others) × One passed before x own
    × OfEachBehind One (passed ++ x ∷ []) (before ++ own) xs others
