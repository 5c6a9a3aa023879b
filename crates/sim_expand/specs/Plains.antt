-- Which text is the plain form of what was expanded.
use Rattle.std.specs.Prelude.{◌≡◌, ◌⊎◌, ◌++◌, ℕ, zero, suc, List, [], ◌∷◌, codes, decimal, map}
use Rattle.std.specs.List.{flat_map}
use Rattle.rows.specs.declared.node.NodeSpec.{NodeSpec}
use Rattle.rows.specs.declared.refusal.Refusal.{Refusal}
use Rattle.rows.specs.declared.refusal.Refusal.TheVariants.{NoMemory, OutOfRange}
use Rattle.sim_scenario.specs.declared.scenario.Scenario.{Scenario}
use Rattle.sim_scenario.specs.declared.scenario.Settings.{Settings}
use Rattle.sim_scenario.specs.Objects.{IsScenarioText, order_text, step_lines}

-- it is the text of a scenario of these settings, nodes and steps
pub record IsPlainOf (text : List ℕ) (settings : Settings) (nodes : List NodeSpec) (lines : List (List ℕ)) : Type 0 where
  pub scenario : Scenario
  pub read : IsScenarioText text scenario
  pub has_settings : scenario.settings ≡ settings
  pub has_nodes : scenario.nodes.items ≡ nodes
  pub has_lines : step_lines scenario ≡ lines

-- ---- the text, byte by byte

-- of a node that has disk, what is said of it
abbrev pub disk_form : ℕ → List ℕ
disk_form zero = []
disk_form (suc n) = codes ", \"disk\": " ++ decimal (suc n)

abbrev pub size_form : NodeSpec → List ℕ
size_form node =
    codes "\n    {\"class\": \"" ++ (node.class ++ (codes "\", \"cpu\": " ++ (decimal node.size.cpu ++ (codes ", \"mem\": " ++ decimal node.size.mem))))

-- a node, on a line of its own
unfoldable pub node_form : NodeSpec → List ℕ
node_form node = size_form node ++ (disk_form node.size.disk ++ codes "}")

-- the line of a step, on a line of its own; nothing in it is escaped
abbrev pub line_form : List ℕ → List ℕ
line_form line = codes "\n    \"" ++ (line ++ codes "\"")

-- with a comma before each
abbrev pub others_form : List (List ℕ) → List ℕ
others_form texts = flat_map (λ text. 44 ∷ text) texts

-- with a comma between each two, and where there are some a new line behind them
abbrev pub list_form : List (List ℕ) → List ℕ
list_form [] = []
list_form (first ∷ others) = first ++ (others_form others ++ codes "\n  ")

abbrev pub head_form : ℕ → List ℕ
head_form servers = codes "{\n  \"servers\": " ++ (decimal servers ++ codes ",\n  \"nodes\": [")

abbrev pub numbers_form : Settings → List ℕ
numbers_form s =
    codes "],\n  \"key\": " ++ (decimal s.key ++ (codes ",\n  \"drop\": " ++ (decimal s.drop ++ (codes ",\n  \"repeat\": " ++ (decimal s.repeat ++ codes ",\n")))))

-- what stands between the nodes and the steps
abbrev pub settings_form : Settings → List ℕ
settings_form s = numbers_form s ++ (codes "  \"order\": \"" ++ (order_text s.order ++ codes "\",\n  \"steps\": ["))

-- the whole text
abbrev pub plain_form : Settings → List NodeSpec → List (List ℕ) → List ℕ
plain_form settings nodes lines =
    head_form settings.servers ++ (list_form (map node_form nodes) ++ (settings_form settings ++ (list_form (map line_form lines) ++ codes "]\n}\n")))

-- ---- why there is none

-- there is no memory, or the text of these is no scenario of them
abbrev pub WhyNoPlain : Settings → List NodeSpec → List (List ℕ) → Refusal → Type 0
WhyNoPlain settings nodes lines refusal =
    (refusal ≡ NoMemory) ⊎ ((refusal ≡ OutOfRange) × ¬ IsPlainOf (plain_form settings nodes lines) settings nodes lines)
