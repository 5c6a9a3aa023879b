-- Which text is a scenario.
use Rattle.std.specs.Prelude.{◌≡◌, ◌+◌, ◌≤◌, ◌⊎◌, ℕ, suc, List, [], ◌∷◌, Option, Some, codes, map, option_and_then, string_bytes}
use Rattle.rows.specs.Fits.{NodeIdFits, SizeFits}
use Rattle.rows.specs.Names.{NameFits}
use Rattle.rows.specs.declared.node.NodeSpec.{NodeSpec}
use Rattle.rows.specs.declared.size.Size.{Size}
use Rattle.json.specs.Json.{Json, document}
use Rattle.json.specs.Strict.{HasUniqueKeys}
use Rattle.serde_json.specs.Data.{Data, Items, Members, no_members, member, object, string}
use Rattle.serde_json.specs.Find.{as_array, as_number, as_str, as_u64, get}
use Rattle.serde_json.specs.Read.{read}
use Rattle.serde_json.specs.View.{items_of}
use Rattle.rows.specs.GroupSizes.{IsGroup}
use Rattle.sim_scenario.specs.declared.scenario.Order.{Order}
use Rattle.sim_scenario.specs.declared.scenario.Order.TheVariants.{Sent, Any}
use Rattle.sim_scenario.specs.declared.scenario.Settings.{Settings}
use Rattle.sim_scenario.specs.declared.scenario.Scenario.{Scenario}

abbrev pub members_count : Members → ℕ
members_count no_members = 0
members_count (member k d ms) = suc (members_count ms)

-- the number, the text and the list at a key, where one stands there
abbrev pub whole_number_at : List ℕ → Data → Option ℕ
whole_number_at key d = option_and_then as_u64 (option_and_then as_number (get key d))

abbrev pub text_at : List ℕ → Data → Option (List ℕ)
text_at key d = option_and_then as_str (get key d)

abbrev pub list_at : List ℕ → Data → Option Items
list_at key d = option_and_then as_array (get key d)

-- an object of just so many keys
abbrev pub HasKeys : ℕ → Data → Type 0
HasKeys n d = (ms : Members) × (d ≡ object ms) × (members_count ms ≡ n)

-- no object in the text has a key twice
abbrev pub HasSingleKeys : List ℕ → Type 0
HasSingleKeys text = (j : Json) × (document text ≡ Some j) × HasUniqueKeys j

abbrev pub order_text : Order → List ℕ
order_text Sent = codes "sent"
order_text Any = codes "any"

-- an object of seven keys, five of which are these settings
pub record HasSettings (d : Data) (s : Settings) : Type 0 where
  pub keys : HasKeys 7 d
  pub servers : whole_number_at (codes "servers") d ≡ Some s.servers
  pub size : IsGroup s.servers
  pub key : whole_number_at (codes "key") d ≡ Some s.key
  pub lost : whole_number_at (codes "drop") d ≡ Some s.drop
  pub repeated : whole_number_at (codes "repeat") d ≡ Some s.repeat
  pub percent : s.drop + s.repeat ≤ 100
  pub order : text_at (codes "order") d ≡ Some (order_text s.order)

-- the disk of an object that has the three other keys of a node: 0 where it has no more, else it
-- has one more and this is the number at it
abbrev pub HasDisk : Data → ℕ → Type 0
HasDisk d disk = (HasKeys 3 d × (disk ≡ 0)) ⊎ (HasKeys 4 d × (whole_number_at (codes "disk") d ≡ Some disk))

pub record HasSize (d : Data) (size : Size) : Type 0 where
  pub cpu : whole_number_at (codes "cpu") d ≡ Some size.cpu
  pub mem : whole_number_at (codes "mem") d ≡ Some size.mem
  pub disk : HasDisk d size.disk
  pub fits : SizeFits size

-- an object of exactly the keys of a node, of which that of its disk may be left out, with the
-- node's values; no node has a number past 64
pub record IsNode (d : Data) (node : NodeSpec) : Type 0 where
  pub number : NodeIdFits node.number
  pub class : text_at (codes "class") d ≡ Some node.class
  pub name : NameFits node.class
  pub size : HasSize d node.size

-- these are the nodes, in order, and numbered from k on
abbrev pub AreNodes : ℕ → List Data → List NodeSpec → Type 0
AreNodes k [] [] = Unit {0}
AreNodes k (d ∷ ds) (node ∷ nodes) = (node.number ≡ k) × IsNode d node × AreNodes (suc k) ds nodes
AreNodes k _ _ = ⊥

-- the lines of its steps
abbrev pub step_lines : Scenario → List (List ℕ)
step_lines s = map string_bytes s.steps.items

-- the list of these texts
abbrev pub strings : List (List ℕ) → List Data
strings texts = map string texts

-- an object of exactly the seven keys, with the scenario's values
pub record IsScenario (d : Data) (s : Scenario) : Type 0 where
  pub settings : HasSettings d s.settings
  pub nodes : (ds : List Data) × (list_at (codes "nodes") d ≡ Some (items_of ds)) × AreNodes 1 ds s.nodes.items
  pub steps : list_at (codes "steps") d ≡ Some (items_of (strings (step_lines s)))

-- a JSON text of such an object, with no key written twice
abbrev pub IsScenarioText : List ℕ → Scenario → Type 0
IsScenarioText text s = HasSingleKeys text × ((d : Data) × (read text ≡ Some d) × IsScenario d s)
