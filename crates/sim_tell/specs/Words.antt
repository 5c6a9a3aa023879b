-- One change after another, as words in one text.
use Rattle.std.specs.Prelude.{◌⊎◌, ◌≡◌, ℕ, List, [], ◌∷◌, ◌++◌, codes}

-- a text behind which more words come: with a comma, where it has some
abbrev pub parted : List ℕ → List ℕ
parted [] = []
parted (byte ∷ bytes) = (byte ∷ bytes) ++ codes ", "

-- a text with some words more
abbrev pub with_word : List ℕ → List ℕ → List ℕ
with_word text word = parted text ++ word

-- Of a row that is old nothing is told, and of another its words come behind a text.
abbrev pub TellsRow : {A : Type 0} → (A → Type 0) → (A → List ℕ) → A → List ℕ → List ℕ → Type 0
TellsRow IsOld words row before after =
    (IsOld row × (after ≡ before)) ⊎ ((IsOld row → ⊥) × (after ≡ with_word before (words row)))

-- so each of these is told, in their order
abbrev pub TellsNew : {A : Type 0} → (A → Type 0) → (A → List ℕ) → List A → List ℕ → List ℕ → Type 0
TellsNew IsOld words [] before after = after ≡ before
TellsNew IsOld words (row ∷ rows) before after =
    (between : List ℕ) × TellsRow IsOld words row before between × TellsNew IsOld words rows between after
