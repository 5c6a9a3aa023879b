-- What is written of a record, line for line.
use Rattle.std.proofs.Common.{◌≡◌, ◌∙◌, ◌+◌, ◌<◌, ◌++◌, ◌∷◌, ℕ, zero, suc, List, [], ap, arith, get_or, length, map, sym, take}
use Rattle.std.specs.List.{AllByRecursion}
use Rattle.std.proofs.lemmas.List.{append_assoc, map-append, take_more}
use Rattle.event_texts.specs.EventLines.{event_line}
use Rattle.event_texts.specs.Transcripts.{Recorded, lines_text, node_line, servers_line, transcript_lines}
use Rattle.event_texts.proofs.Lines.{lines_append}

-- ---- one more

pub one_more_written : (old before after line : List ℕ) (lines : List (List ℕ)) → before ≡ old ++ lines_text lines → after ≡ before ++ (line ++ 10 ∷ [])
    → after ≡ old ++ lines_text (lines ++ line ∷ [])
one_more_written old before after line lines is more =
    more
    ∙ ap (λ text. text ++ (line ++ 10 ∷ [])) is
    ∙ append_assoc old (lines_text lines) (line ++ 10 ∷ [])
    ∙ ap (λ text. old ++ text) (sym (lines_append lines (line ∷ [])))

pub map_more : {A B : Type 0} (f : A → B) (xs : List A) (i : ℕ) (x : A) → i < length xs → x ≡ get_or xs i x
    → map f (take (i + 1) xs) ≡ map f (take i xs) ++ f x ∷ []
map_more f xs i x lt is =
    ap (map f) (take_more xs i x lt) ∙ map-append f (take i xs) (get_or xs i x ∷ []) ∙ ap (λ y. map f (take i xs) ++ f y ∷ []) (sym is)

pub at_index : {A : Type 0} (P : A → Type 0) (xs : List A) (i : ℕ) (d : A) → AllByRecursion P xs → i < length xs → P (get_or xs i d)
at_index P [] i d all lt = absurd (omega arith)
at_index P (x ∷ xs) zero d all lt = all.0
at_index P (x ∷ xs) (suc i) d all lt = at_index P xs i d all.1 (omega arith)

-- ---- the whole text

pub written : (r : Recorded) (first second third : List ℕ) → first ≡ servers_line r.servers ++ 10 ∷ [] → second ≡ first ++ lines_text (map node_line r.nodes)
    → third ≡ second ++ lines_text (map event_line r.events) → third ≡ lines_text (transcript_lines r)
written r first second third servers nodes events =
    let front = servers_line r.servers in
    let middle = map node_line r.nodes in
    let last = map event_line r.events in
    events
    ∙ ap (λ text. text ++ lines_text last) (nodes ∙ ap (λ text. text ++ lines_text middle) servers)
    ∙ append_assoc (front ++ 10 ∷ []) (lines_text middle) (lines_text last)
    ∙ append_assoc front (10 ∷ []) (lines_text middle ++ lines_text last)
    ∙ ap (λ text. front ++ 10 ∷ text) (sym (lines_append middle last))
