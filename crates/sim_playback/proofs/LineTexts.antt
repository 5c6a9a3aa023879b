-- A text grows by one more line.
use Rattle.std.proofs.Common.{◌≡◌, ◌∙◌, ℕ, ◌+◌, ◌<◌, List, [], ◌∷◌, ◌++◌, Err, Ok, OnOk, Result, String, ap, get_or, length, map, string_bytes, sym, take}
use Rattle.std.specs.declared.alloc.Global.{Global}
use Rattle.std.proofs.lemmas.Grind.{flat_map-append}
use Rattle.std.proofs.lemmas.List.{append-nil, map-append, take_more}
use Rattle.sim_playback.specs.Lines.{lines_text}

pub text_more : (lines : List (String Global)) (i : ℕ) (line : String Global) → i < length lines → line ≡ get_or lines i line
    → lines_text (map string_bytes (take (i + 1) lines)) ≡ lines_text (map string_bytes (take i lines)) ++ (string_bytes line ++ 10 ∷ [])
text_more lines i line inside at =
    let front = map string_bytes (take i lines) in
    let taken : take (i + 1) lines ≡ take i lines ++ line ∷ [] = take_more lines i line inside ∙ ap (λ x. take i lines ++ x ∷ []) (sym at) in
    ap (λ (all : List (String Global)). lines_text (map string_bytes all)) taken
    ∙ ap lines_text (map-append string_bytes (take i lines) (line ∷ []))
    ∙ flat_map-append (λ (own : List ℕ). own ++ 10 ∷ []) front (string_bytes line ∷ [])
    ∙ ap (λ (rest : List ℕ). lines_text front ++ rest) (append-nil (string_bytes line ++ 10 ∷ []))

pub on_ok : {A E P Q : Type 0} (r : Result A E) → (P → Q) → OnOk r P → OnOk r Q
on_ok (Ok a) f is = f is
on_ok (Err e) f is = tt
