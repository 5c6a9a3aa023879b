-- What a page is.
use Rattle.std.specs.Prelude.{◌≡◌, ◌+◌, ◌++◌, ◌==◌, ◌∷◌, [], ℕ, List, Option, Some, String, if◌then◌else◌, codes, length, nat_lt, string_bytes, unwrap_or}
use Rattle.std.specs.List.{flat_map}
use Rattle.std.specs.Io.KnownBytes.{Appends}
use Rattle.std.specs.declared.alloc.Global.{Global}
use Rattle.std.specs.declared.vec.Vec.{Vec}
use Rattle.std.specs.Path.{path_file_name}
use Rattle.serde.specs.Event.{InSeq, Log, Sends, Then, WritesSeq, text, unsigned}
use Rattle.serde_json.specs.Sent.{IsTextOf}
use Rattle.sim_draw.specs.Pictures.{IsRunPicture, shown_byte}
use Rattle.sim_report_lines.specs.declared.changes.Change.{Change}
use Rattle.sim_report_lines.specs.declared.moments.Moments.{Moments}
use Rattle.runner.specs.declared.frame.TheConstants.{FRONT, STYLE, MIDDLE, BACK}

-- ---- the JSON

-- a JSON text of these lines
abbrev pub IsLinesJson : List (String Global) → List ℕ → Type 0
IsLinesJson lines json =
    (log : Log) × WritesSeq (λ line. Sends (text (string_bytes line))) lines (Some []) log × IsTextOf log json

-- a change is an array: where, how many lines go, and the places of those that come
abbrev pub SendsChange : Change → Log → Log → Type 0
SendsChange c =
    InSeq 3 (Then (Sends (unsigned c.at)) (Then (Sends (unsigned c.gone)) (WritesSeq (λ place. Sends (unsigned place)) c.come.items)))

-- a JSON text of each moment's changes
abbrev pub IsChangesJson : List (Vec Change Global) → List ℕ → Type 0
IsChangesJson moments json =
    (log : Log) × WritesSeq (λ (own : Vec Change Global). WritesSeq SendsChange own.items) moments (Some []) log × IsTextOf log json

-- a JSON text of these lines, and of each moment's changes, in which these have their places
pub record IsMoments (m : Moments) (json : List ℕ) : Type 0 where
  pub lines : List ℕ
  pub changes : List ℕ
  pub told : IsLinesJson m.lines.items lines
  pub each : IsChangesJson m.moments.items changes
  pub whole : json ≡ codes "{\"lines\":" ++ (lines ++ (codes ",\"moments\":" ++ (changes ++ codes "}")))

-- A byte of a JSON text as it stands in an element of a script: no `<`, which alone could end it.
-- What is no character of ASCII is a question mark.
abbrev pub script_byte : ℕ → List ℕ
script_byte byte = if byte == 60 then codes "\\u003c" else (if nat_lt byte 128 then byte ∷ [] else codes "?")

-- ---- the page

-- the element of a script that holds some JSON begins
abbrev pub json_begins : List ℕ
json_begins = codes "<script id=\"moments\" type=\"application/json\">"

-- it ends
abbrev pub json_ends : List ℕ
json_ends = codes "</script>\n"

-- the name of the file at a path: what it ends with, or all of it, where that is no name
abbrev pub name_at : List ℕ → List ℕ
name_at path = unwrap_or (path_file_name path) path

-- a name, a picture and some JSON, in what frames them
abbrev pub framed : (name picture json : List ℕ) → List ℕ
framed name picture json =
    (((((((FRONT.now ++ flat_map shown_byte name) ++ STYLE.now) ++ picture) ++ MIDDLE.now) ++ json_begins) ++ flat_map script_byte json)
    ++ json_ends)
    ++ BACK.now

-- A page of a run of so many servers, clients and events, from the file at a path: its picture, and
-- the JSON of what is told before the first event and behind each
pub record IsPage (path : List ℕ) (servers clients events : ℕ) (text : List ℕ) : Type 0 where
  pub picture : List ℕ
  pub json : List ℕ
  pub moments : Moments
  pub drawn : IsRunPicture servers clients events picture
  pub told : IsMoments moments json
  pub many : length moments.moments.items ≡ events + 1
  pub whole : text ≡ framed (name_at path) picture json

-- known bytes stay at the front and grow by one such page
pub record GrowsByPage (path : List ℕ) (servers clients events : ℕ) (old new : Option (List ℕ)) : Type 0 where
  pub text : List ℕ
  pub page : IsPage path servers clients events text
  pub appended : Appends old new text
