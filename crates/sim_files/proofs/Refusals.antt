-- What is told of one more line.
use Rattle.std.proofs.Common.{◌≡◌, ◌∙◌, ◌++◌, ◌∷◌, ℕ, List, [], Option, ap, refl}
use Rattle.std.specs.Io.KnownBytes.{Appends}
use Rattle.std.specs.List.{flat_map}
use Rattle.std.proofs.KnownBytes.{Appends-trans}
use Rattle.std.proofs.lemmas.Grind.{flat_map-append}
use Rattle.std.proofs.lemmas.List.{append-nil}
use Rattle.sim_play.specs.Played.{Refused}
use Rattle.sim_files.specs.Refusals.{TellsRefusals, refused_line, status_of}

one_refused : (refused : List Refused) (one : Refused) → 1 ≡ status_of (refused ++ one ∷ [])
one_refused [] one = refl
one_refused (first ∷ others) one = refl

pub one_more_refused : (refused : List Refused) (status : ℕ) (one : Refused) (old mid new : Option (List ℕ))
    → TellsRefusals refused status old mid → Appends mid new (refused_line one) → TellsRefusals (refused ++ one ∷ []) 1 old new
one_more_refused refused status one old mid new told more =
    let lines : flat_map refused_line (refused ++ one ∷ []) ≡ flat_map refused_line refused ++ refused_line one =
    flat_map-append refused_line refused (one ∷ []) ∙ ap (λ x. flat_map refused_line refused ++ x) (append-nil (refused_line one)) in
    (one_refused refused one, rw lines (Appends-trans old mid new _ _ told.1 more))
