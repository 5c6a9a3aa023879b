-- The cells of a row come one by one.
use Rattle.std.proofs.Common.{◌≡◌, ◌∙◌, ℕ, List, [], ◌∷◌, ◌++◌, Option, Result, Ok, Err, IfOk, String, ap, map, refl, string_bytes, subst}
use Rattle.std.specs.Result.{IsOkAnd}
use Rattle.std.specs.declared.alloc.Global.{Global}
use Rattle.rows.specs.declared.refusal.NoMemory.{NoMemory}
use Rattle.server.specs.ServerViews.{ServerView}
use Rattle.sim_tell.specs.Events.{answered_text}
use Rattle.sim_tell.specs.Inner.Cells.{PutsCell}
use Rattle.sim_tell.specs.Marks.{Mark, TellsNewest}

-- the cell that came is what its maker says of it
pub cell_of : {P : String Global → Type 0} (cell : Result (String Global) NoMemory) (old new : List (String Global))
    → IfOk cell P → PutsCell cell old new → (text : String Global) × P text × (new ≡ old ++ text ∷ []) × (cell ≡ Ok text)
cell_of (Ok text) old new is puts = (text, is, puts, refl)
cell_of (Err error) old new is puts = absurd puts

-- what an actor took is told, since there was memory for it
pub answered_is : (took : Result (String Global) NoMemory) (text : List ℕ) (answer : Option ℕ) (own : List ℕ)
    → IfOk took (λ it. string_bytes it ≡ own) → IsOkAnd took (λ it. text ≡ answered_text answer (string_bytes it)) → text ≡ answered_text answer own
answered_is (Ok it) text answer own is told = told ∙ ap (answered_text answer) is
answered_is (Err error) text answer own is told = absurd told

-- five cells one after the other, of these texts, are the row
pub row_is : (none one two three four five : List (String Global)) (a b c d e : String Global) (ta tb tc td te : List ℕ)
    → none ≡ [] → one ≡ none ++ a ∷ [] → two ≡ one ++ b ∷ [] → three ≡ two ++ c ∷ [] → four ≡ three ++ d ∷ [] → five ≡ four ++ e ∷ []
    → string_bytes a ≡ ta → string_bytes b ≡ tb → string_bytes c ≡ tc → string_bytes d ≡ td → string_bytes e ≡ te
    → map string_bytes five ≡ ta ∷ tb ∷ tc ∷ td ∷ te ∷ []
row_is none one two three four five a b c d e ta tb tc td te i0 i1 i2 i3 i4 i5 ea eb ec ed ee =
    let more : String Global → List (String Global) → List (String Global) = λ it row. row ++ it ∷ [] in
    let row : five ≡ a ∷ b ∷ c ∷ d ∷ e ∷ [] =
    i5 ∙ ap (more e) (i4 ∙ ap (more d) (i3 ∙ ap (more c) (i2 ∙ ap (more b) (i1 ∙ ap (more a) i0)))) in
    let texts : string_bytes a ∷ string_bytes b ∷ string_bytes c ∷ string_bytes d ∷ string_bytes e ∷ [] ≡ ta ∷ tb ∷ tc ∷ td ∷ te ∷ [] = cc in
    ap (map string_bytes) row ∙ texts

-- the same is told of the same server, behind the same words
pub same_told : (mark : Mark) (server same : Option ServerView) (words same_words : List ℕ) (later : Mark) (text : List ℕ)
    → server ≡ same → words ≡ same_words → TellsNewest mark server words later text → TellsNewest mark same same_words later text
same_told mark server same words same_words later text is are told =
    subst (λ (s : Option ServerView). TellsNewest mark s same_words later text) is
    (subst (λ (w : List ℕ). TellsNewest mark server w later text) are told)
