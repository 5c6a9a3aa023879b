-- Texts of one word, and of requests.
use Rattle.std.specs.Prelude.{◌≡◌, ◌≢◌, ◌≤◌, ◌⊎◌, ℕ, List, [], ◌∷◌, codes, get_or, length, map}
use Rattle.std.specs.List.{All, join_with_byte}
use Rattle.rows.specs.declared.allocation.AllocId.{AllocId}
use Rattle.rows.specs.declared.plan.Place.{Place}
use Rattle.rows.specs.declared.request.OperatorRequest.{OperatorRequest}
use Rattle.event_texts.specs.Requests.{RequestFits, request_text}
use Rattle.event_texts.specs.WorkerLines.{alloc_text, comma_list, place_text}

-- no byte of the text is the separator
abbrev pub IsWithout : ℕ → List ℕ → Type 0
IsWithout separator text = All (λ b. b ≢ separator) text

-- a plus sign stands in front, or a zero that is not all
abbrev pub IsPadded : List ℕ → Type 0
IsPadded text = (get_or text 0 0 ≡ 43) ⊎ ((get_or text 0 0 ≡ 48) × (2 ≤ length text))

-- without a space and without a comma
abbrev pub IsPlainWord : List ℕ → Type 0
IsPlainWord text = IsWithout 32 text × IsWithout 44 text

-- other than the text of a list without items
abbrev pub IsNoDash : List ℕ → Type 0
IsNoDash text = text ≢ codes "-"

-- what stands at the end of a plan's line
abbrev pub lists_text : List AllocId → List Place → List ℕ
lists_text stops places = join_with_byte 32 (comma_list (map alloc_text stops) ∷ comma_list (map place_text places) ∷ [])

abbrev pub IsRequestText : OperatorRequest → List ℕ → Type 0
IsRequestText request text = RequestFits request × (text ≡ request_text request)
