-- The text of a list, cut at its commas.
use Rattle.std.proofs.Common.{◌≡◌, Bor, ◌≢◌, ◌<◌, ◌≤◌, ◌∙◌, ◌++◌, ℕ, List, [], ◌∷◌, ap, arith, codes, eqb, false, get_or, length, map, refl, sym, take, zero, suc}
use Rattle.std.specs.List.{All, AllByRecursion, join_with_byte, slice_split}
use Rattle.std.proofs.lemmas.Bool.{ne_eqb}
use Rattle.std.proofs.lemmas.List.{map-append}
use Rattle.std.proofs.lemmas.List.Elements.{All-append, All-cons}
use Rattle.std.proofs.lemmas.List.Splits.{slice_split_at, slice_split_none}
use Rattle.event_texts.specs.Inner.Plain.{IsNoDash, IsPlainWord, IsWithout}
use Rattle.event_texts.specs.WorkerLines.{comma_list}

-- each item of a type has a text of one word
abbrev pub ArePlain : {A : Type 0} → (A → Type 0) → (A → List ℕ) → Type 0
ArePlain {A} Fits spelling = (x : A) → Fits x → IsPlainWord (spelling x)

no_comma : (text : List ℕ) → IsWithout 44 text → All (λ b. eqb b 44 ≡ false) text
no_comma text lacks k d lt = ne_eqb (get_or text k d) 44 (lacks k d lt)

pub parts_of : {A : Type 0} (Fits : A → Type 0) (spelling : A → List ℕ) → ArePlain Fits spelling → (xs : List A) → AllByRecursion Fits xs
    → 1 ≤ length xs → slice_split (λ b. eqb b 44) (join_with_byte 44 (map spelling xs)) ≡ map spelling xs
parts_of Fits spelling plain [] fits some = absurd (omega arith)
parts_of Fits spelling plain (x ∷ []) fits some =
    slice_split_none (λ b. eqb b 44) (spelling x) (no_comma (spelling x) (plain x fits.0).1)
parts_of Fits spelling plain (x ∷ y ∷ xs) fits some =
    let rest = join_with_byte 44 (map spelling (y ∷ xs)) in
    let first = slice_split_at (λ b. eqb b 44) (spelling x) 44 rest (no_comma (spelling x) (plain x fits.0).1) refl in
    first ∙ ap (λ parts. spelling x ∷ parts) (parts_of Fits spelling plain (y ∷ xs) fits.1 (omega arith))

-- the item whose text is the part at an index
pub at_part : {A : Type 0} (Fits : A → Type 0) (spelling : A → List ℕ) (xs : List A) (n : ℕ) (part : List ℕ) → AllByRecursion Fits xs
    → n < length (map spelling xs) → part ≡ get_or (map spelling xs) n part
    → (x : A) × Fits x × (part ≡ spelling x) × (take (suc n) xs ≡ take n xs ++ x ∷ [])
at_part Fits spelling [] n part fits lt is = absurd (omega arith)
at_part Fits spelling (x ∷ xs) zero part fits lt is = (x, fits.0, is, refl)
at_part Fits spelling (x ∷ xs) (suc n) part fits lt is =
    let found = at_part Fits spelling xs n part fits.1 (omega arith) is in
    (found.0, found.1, found.2, ap (λ more. x ∷ more) found.3)

pub more_texts : {A : Type 0} (spelling : A → List ℕ) (xs : List A) (x : A) (parts : List (Bor (List ℕ))) (part : Bor (List ℕ))
    → map spelling xs ≡ map (λ p. p.now) parts → part.now ≡ spelling x
    → map spelling (xs ++ x ∷ []) ≡ map (λ p. p.now) (parts ++ part ∷ [])
more_texts spelling xs x parts part same is =
    let left = map-append spelling xs (x ∷ []) in
    let right = map-append (λ (p : Bor (List ℕ)). p.now) parts (part ∷ []) in
    rw (left, right, same, is) refl

pub more_fit : {A : Type 0} (Fits : A → Type 0) (xs : List A) (x : A) → AllByRecursion Fits xs → Fits x → AllByRecursion Fits (xs ++ x ∷ [])
more_fit Fits [] x fits fit = (fit, tt)
more_fit Fits (y ∷ xs) x fits fit = (fits.0, more_fit Fits xs x fits.1 fit)

-- ---- lists that may be empty

not_dash : (front back : List ℕ) (c : ℕ) → c ≢ 45 → front ++ c ∷ back ≡ codes "-" → ⊥
not_dash [] back c other is = other (ap (λ text. get_or text 0 0) is)
not_dash (f ∷ []) back c other is = absurd (cc)
not_dash (f ∷ g ∷ front) back c other is = absurd (cc)

-- a list with items has another text than the one without
some_no_dash : {A : Type 0} (spelling : A → List ℕ) (x : A) (xs : List A) → AllByRecursion (λ y. IsNoDash (spelling y)) (x ∷ xs)
    → IsNoDash (comma_list (map spelling (x ∷ xs)))
some_no_dash spelling x [] dashes is = dashes.0 is
some_no_dash spelling x (y ∷ xs) dashes is = not_dash (spelling x) _ 44 (λ e. omega arith) is

pub dash_is_none : {A : Type 0} (spelling : A → List ℕ) (xs : List A) → AllByRecursion (λ y. IsNoDash (spelling y)) xs
    → codes "-" ≡ comma_list (map spelling xs) → xs ≡ []
dash_is_none spelling [] dashes is = refl
dash_is_none spelling (x ∷ xs) dashes is = absurd (some_no_dash spelling x xs dashes (sym is))

pub parted_no_dash : (front back : List ℕ) (c : ℕ) → c ≢ 45 → IsNoDash (front ++ c ∷ back)
parted_no_dash front back c other is = not_dash front back c other is

-- a list of words is one word
pub list_lacks : {A : Type 0} (Fits : A → Type 0) (spelling : A → List ℕ) → ArePlain Fits spelling → (xs : List A) → AllByRecursion Fits xs
    → IsWithout 32 (comma_list (map spelling xs))
list_lacks Fits spelling plain [] fits = All-cons (λ b. b ≢ 32) 45 [] (λ e. omega arith) (λ k d lt. absurd (omega arith))
list_lacks Fits spelling plain (x ∷ []) fits = (plain x fits.0).0
list_lacks Fits spelling plain (x ∷ y ∷ xs) fits =
    All-append (λ b. b ≢ 32) (spelling x) _ (plain x fits.0).0
    (All-cons (λ b. b ≢ 32) 44 _ (λ e. omega arith) (list_lacks Fits spelling plain (y ∷ xs) fits.1))
