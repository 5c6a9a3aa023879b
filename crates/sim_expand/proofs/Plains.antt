-- Of what a text is the scenario.
use Rattle.std.proofs.Common.{◌≡◌, ◌∙◌, ℕ, List, [], ◌∷◌, ap, ap₂, arith, codes, inl, inr, refl, suc, sym}
use Rattle.rows.specs.declared.node.NodeSpec.{NodeSpec}
use Rattle.serde_json.specs.Data.{Data}
use Rattle.serde_json.specs.View.{items_of}
use Rattle.sim_scenario.specs.declared.scenario.Order.{Order}
use Rattle.sim_scenario.specs.declared.scenario.Order.TheVariants.{Any, Sent}
use Rattle.sim_scenario.specs.declared.scenario.Scenario.{Scenario}
use Rattle.sim_scenario.specs.declared.scenario.Settings.{Settings}
use Rattle.sim_scenario.specs.Objects.{AreNodes, HasDisk, HasKeys, HasSettings, IsScenarioText, list_at, members_count, order_text, step_lines}
use Rattle.sim_scenario.proofs.Complaints.{same_lines}
use Rattle.sim_scenario.proofs.Objects.{same_items}
use Rattle.sim_expand.specs.Plains.{IsPlainOf}
use Rattle.sim_expand.proofs.Texts.{same_node}

same_count : (d : Data) (m n : ℕ) → HasKeys m d → HasKeys n d → m ≡ n
same_count d m n is also =
    let there = is.1 in
    let again = also.1 in
    let same : is.0 ≡ also.0 = cc in
    sym is.2 ∙ ap members_count same ∙ also.2

same_disk : (d : Data) (m n : ℕ) → HasDisk d m → HasDisk d n → m ≡ n
same_disk d m n (inl none) (inl also) = none.1 ∙ sym also.1
same_disk d m n (inl none) (inr some) = let three : 3 ≡ 4 = same_count d 3 4 none.0 some.0 in absurd (omega (arith, three))
same_disk d m n (inr some) (inl none) = let three : 3 ≡ 4 = same_count d 3 4 none.0 some.0 in absurd (omega (arith, three))
same_disk d m n (inr some) (inr also) = let there = some.1 in let again = also.1 in cc

same_nodes : (k : ℕ) (ds : List Data) (nodes others : List NodeSpec) → AreNodes k ds nodes → AreNodes k ds others → nodes ≡ others
same_nodes k [] [] [] are also = refl
same_nodes k [] [] (n ∷ others) are also = absurd also
same_nodes k [] (n ∷ nodes) others are also = absurd are
same_nodes k (d ∷ ds) [] others are also = absurd are
same_nodes k (d ∷ ds) (n ∷ nodes) [] are also = absurd also
same_nodes k (d ∷ ds) (n ∷ nodes) (m ∷ others) are also =
    let is = are.1 in
    let it = also.1 in
    let class : n.class ≡ m.class = let there = is.class in let again = it.class in cc in
    let cpu : n.size.cpu ≡ m.size.cpu = let there = is.size.cpu in let again = it.size.cpu in cc in
    let mem : n.size.mem ≡ m.size.mem = let there = is.size.mem in let again = it.size.mem in cc in
    let disk = same_disk d n.size.disk m.size.disk is.size.disk it.size.disk in
    ap₂ ◌∷◌ (same_node n m (are.0 ∙ sym also.0) class cpu mem disk) (same_nodes (suc k) ds nodes others are.2 also.2)

same_order : (a b : Order) → order_text a ≡ order_text b → a ≡ b
same_order Sent Sent e = refl
same_order Sent Any e = cc
same_order Any Sent e = cc
same_order Any Any e = refl

abbrev settings_of : ℕ → ℕ → ℕ → ℕ → Order → Settings
settings_of servers key drop repeat order = record { servers = servers; key = key; drop = drop; repeat = repeat; order = order }

same_settings : (d : Data) (a b : Settings) → HasSettings d a → HasSettings d b → a ≡ b
same_settings d a b is also =
    let servers : a.servers ≡ b.servers = let there = is.servers in let again = also.servers in cc in
    let key : a.key ≡ b.key = let there = is.key in let again = also.key in cc in
    let drop : a.drop ≡ b.drop = let there = is.lost in let again = also.lost in cc in
    let repeat : a.repeat ≡ b.repeat = let there = is.repeated in let again = also.repeated in cc in
    let texts : order_text a.order ≡ order_text b.order = let there = is.order in let again = also.order in cc in
    ap₂ (λ n k. settings_of n k a.drop a.repeat a.order) servers key
    ∙ ap₂ (λ m n. settings_of b.servers b.key m n a.order) drop repeat
    ∙ ap (settings_of b.servers b.key b.drop b.repeat) (same_order a.order b.order texts)

-- a text of these settings, nodes and steps is no scenario of others
pub is_plain_of : (text : List ℕ) (s : Scenario) (settings : Settings) (nodes : List NodeSpec) (lines : List (List ℕ)) → IsScenarioText text s → IsPlainOf text settings nodes lines
    → (s.settings ≡ settings) × (s.nodes.items ≡ nodes) × (step_lines s ≡ lines)
is_plain_of text s settings nodes lines is of =
    let data_read = is.1.1 in
    let data_again = of.read.1.1 in
    let same : is.1.0 ≡ of.read.1.0 = cc in
    let own = is.1.2.nodes in
    let others = of.read.1.2.nodes in
    let moved : list_at (codes "nodes") is.1.0 ≡ list_at (codes "nodes") of.read.1.0 = ap (list_at (codes "nodes")) same in
    let listed = own.1 in
    let listed_again = others.1 in
    let items : items_of own.0 ≡ items_of others.0 = cc in
    let are : AreNodes 1 own.0 of.scenario.nodes.items = rw (same_items own.0 others.0 items) others.2 in (
      same_settings is.1.0 s.settings of.scenario.settings is.1.2.settings (rw same of.read.1.2.settings) ∙ of.has_settings,
      same_nodes 1 own.0 s.nodes.items of.scenario.nodes.items own.2 are ∙ of.has_nodes,
      same_lines text s of.scenario is of.read ∙ of.has_lines,
    )
