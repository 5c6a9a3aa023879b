-- Reports are made one by one.
use Rattle.std.proofs.Common.{◌≡◌, ◌∙◌, ℕ, ◌+◌, ◌<◌, List, [], ◌∷◌, ◌++◌, ap, get_or, length, subst, sym, take}
use Rattle.std.specs.List.{AllZip}
use Rattle.std.proofs.lemmas.List.{append-nil, append_assoc, take_more}
use Rattle.sim_metrics.proofs.Rooms.{zip_push}

pub zip_more : {A B : Type 0} (R : A → B → Type 0) (items : List A) (i : ℕ) (x : A) (old new : List B) (y : B)
    → i < length items → x ≡ get_or items i x → AllZip R (take i items) old → R x y → new ≡ old ++ y ∷ []
    → AllZip R (take (i + 1) items) new
zip_more {A} {B} R items i x old new y inside at before own grown =
    let taken : take (i + 1) items ≡ take i items ++ x ∷ [] = take_more items i x inside ∙ ap (λ z. take i items ++ z ∷ []) (sym at) in
    let whole = zip_push R (take i items) old x y before own in
    subst (λ (xs : List A). AllZip R xs new) (sym taken)
    (subst (λ (ys : List B). AllZip R (take i items ++ x ∷ []) ys) (sym grown) whole)

-- Of the rows that are left reports may come, behind those that were made.
abbrev pub ZipsOn : {A B : Type 0} → (A → B → Type 0) → List A → List A → List B → Type 0
ZipsOn {A} {B} R all left done = (rest : List B) → AllZip R left rest → AllZip R all (done ++ rest)

pub zips_more : {A B : Type 0} (R : A → B → Type 0) (all left later : List A) (x : A) (done more : List B) (y : B)
    → ZipsOn R all left done → left ≡ x ∷ later → R x y → more ≡ done ++ y ∷ [] → ZipsOn R all later more
zips_more {A} {B} R all left later x done more y on is own grown = λ rest zip.
    subst (λ (ys : List B). AllZip R all (ys ++ rest)) (sym grown)
    (subst (λ (ys : List B). AllZip R all ys) (sym (append_assoc done (y ∷ []) rest))
    (on (y ∷ rest) (subst (λ (xs : List A). AllZip R xs (y ∷ rest)) (sym is) (own, zip))))

pub zips_all : {A B : Type 0} (R : A → B → Type 0) (all left : List A) (done : List B)
    → ZipsOn R all left done → left ≡ [] → AllZip R all done
zips_all {A} {B} R all left done on is =
    subst (λ (ys : List B). AllZip R all ys) (append-nil done)
    (on [] (subst (λ (xs : List A). AllZip R xs []) (sym is) tt))
