-- Texts of one format, one behind the other, of which the last may be torn.
use Rattle.std.specs.Prelude.{◌≡◌, List, [], ◌++◌, ℕ}
use Rattle.std.specs.List.{flat_map, AllByRecursion}
use Rattle.fields_model.specs.Format.{Format}

module _ {A : Type 0} (f : Format A) where
  -- no value's text stands at the front of these bytes
  abbrev pub NoneBegins : List ℕ → Type 0
  NoneBegins bytes = (v : A) (rest : List ℕ) → f.Fits v → bytes ≡ f.text v ++ rest → ⊥

  -- The bytes are the texts of these values, as many as stand there from the front, and a tail.
  pub record IsJournal (bytes : List ℕ) (values : List A) (tail : List ℕ) : Type 0 where
    pub fits : AllByRecursion f.Fits values
    pub is : bytes ≡ flat_map f.text values ++ tail
    pub ends : NoneBegins tail

  -- What a crash may leave of the text of v that was being written: at its front stands no other
  -- value's text, and this one's only if nothing follows. Each beginning of the text is such. Of
  -- what a disk writes out of order it is so unless a checksum of the format fits by chance.
  abbrev pub IsTorn : A → List ℕ → Type 0
  IsTorn v tail = (w : A) (rest : List ℕ) → f.Fits w → tail ≡ f.text w ++ rest → (w ≡ v) × (rest ≡ [])

  -- each text has a byte
  abbrev pub IsFilled : Type 0
  IsFilled = (v : A) → f.Fits v → f.text v ≡ [] → ⊥
