-- Which text is a scenario in short form.
use Rattle.std.specs.Prelude.{◌≡◌, ◌⊎◌, ◌<◌, ◌≤◌, ◌^◌, ◌++◌, ℕ, zero, suc, List, [], ◌∷◌, None, Some, codes, decimal, length, map, sum_by}
use Rattle.std.specs.List.{repeat}
use Rattle.serde_json.specs.Data.{Data, Items, string}
use Rattle.serde_json.specs.Read.{read}
use Rattle.serde_json.specs.View.{items_of}
use Rattle.sim_scenario.specs.Objects.{AreNodes, HasKeys, HasSettings, HasSingleKeys, list_at, whole_number_at}
use Rattle.sim_expand.specs.declared.short.ShortScenario.{ShortScenario}
use Rattle.sim_expand.specs.EachInTurn.{OfEach}
use Rattle.sim_expand.specs.ShortSteps.{Short, AsItStands, Settles, Elects, line_bytes, short_step}

-- the line of a `settle`, with a number, with `elect` or without, or of what begins as one
abbrev pub BeginsAsSettle : List ℕ → Type 0
BeginsAsSettle line = (line ≡ codes "settle") ⊎ ((rest : List ℕ) × (line ≡ codes "settle " ++ rest))

-- the one line of a step; each line that does not begin as a `settle` is one that is taken as it
-- stands
abbrev pub IsShortLine : Short → List ℕ → Type 0
IsShortLine (AsItStands own) line = (own ≡ line) × ¬ BeginsAsSettle line
IsShortLine (Settles None) line = line ≡ codes "settle"
IsShortLine (Settles (Some count)) line = (count < 2 ^ 64) × (line ≡ codes "settle " ++ decimal count)
IsShortLine Elects line = line ≡ codes "settle elect"

-- ---- the values among the steps

-- a line, which is one step
pub record IsOneStep (d : Data) (steps : List Short) : Type 0 where
  pub line : List ℕ
  pub text : d ≡ string line
  pub step : Short
  pub is : IsShortLine step line
  pub alone : steps ≡ step ∷ []

-- an object of exactly two keys: `repeat` with this number, and `steps` with these values
pub record IsRepeat (d : Data) (times : ℕ) (items : Items) : Type 0 where
  pub keys : HasKeys 2 d
  pub number : whole_number_at (codes "repeat") d ≡ Some times
  pub list : list_at (codes "steps") d ≡ Some items

-- so few as a scenario may have once it is expanded, with lines so short together
pub record AreFew (steps : List Short) : Type 0 where
  pub count : length steps ≤ 1_000_000
  pub bytes : sum_by line_bytes steps ≤ 33_554_432

-- the steps of a list, of which there are few, so many times
pub record IsRepeated (One : Data → List Short → Type 0) (d : Data) (steps : List Short) : Type 0 where
  pub times : ℕ
  pub ds : List Data
  pub is : IsRepeat d times (items_of ds)
  pub own : List Short
  pub each : OfEach One ds own
  pub few : AreFew own
  pub all : steps ≡ repeat times own

-- a value comes to these steps: to that of its line, or to those of its list so many times; lists
-- lie in each other only so deep
unfoldable pub ComesTo : ℕ → Data → List Short → Type 0
ComesTo zero d steps = IsOneStep d steps
ComesTo (suc depth) d steps = IsOneStep d steps ⊎ IsRepeated (ComesTo depth) d steps

-- the values of a list come to these steps, of which there are few
abbrev pub AreSteps : ℕ → List Data → List Short → Type 0
AreSteps depth ds steps = OfEach (ComesTo depth) ds steps × AreFew steps

-- ---- the whole text

-- an object of exactly the seven keys of a scenario, with these values; lists of steps lie in each
-- other at most 128 deep
pub record IsShortScenario (d : Data) (s : ShortScenario) : Type 0 where
  pub settings : HasSettings d s.settings
  pub nodes : (ds : List Data) × (list_at (codes "nodes") d ≡ Some (items_of ds)) × AreNodes 1 ds s.nodes.items
  pub steps : (ds : List Data) × (list_at (codes "steps") d ≡ Some (items_of ds)) × AreSteps 128 ds (map short_step s.steps.items)

-- a JSON text of such an object, with no key written twice
abbrev pub IsShortText : List ℕ → ShortScenario → Type 0
IsShortText text s = HasSingleKeys text × ((d : Data) × (read text ≡ Some d) × IsShortScenario d s)
