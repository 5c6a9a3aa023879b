-- Texts and nodes that are the same, one by one.
use Rattle.std.proofs.Common.{◌≡◌, ◌∙◌, ◌&&◌, Bool, ℕ, List, [], ◌∷◌, String, ap, ap₂, bytes_eq, eqb, map, refl, string_bytes, subst}
use Rattle.std.specs.Bool.{Decides}
use Rattle.std.specs.declared.alloc.Global.{Global}
use Rattle.std.specs.Cmp.Lexicographic.{pointwise}
use Rattle.std.proofs.lemmas.Bool.Decides.{Decides-and, Decides-eqb, Decides-like}
use Rattle.std.proofs.lemmas.Slice.Eq.{bytes_eq-Decides}
use Rattle.rows.specs.declared.node.NodeSpec.{NodeSpec}
use Rattle.rows.specs.declared.size.Size.{Size}
use Rattle.sim_scenario.specs.declared.scenario.Scenario.{Scenario}
use Rattle.sim_scenario.specs.Objects.{IsScenarioText}

abbrev same_bytes : String Global → String Global → Bool
same_bytes a b = bytes_eq (string_bytes a) (string_bytes b)

-- two lists of texts are compared text by text
pub texts_decide : (own lines : List (String Global)) → Decides (pointwise same_bytes own lines) (map string_bytes own ≡ map string_bytes lines)
texts_decide [] [] = ((λ is. refl), (λ is. refl))
texts_decide [] (y ∷ ys) = ((λ is. cc), (λ is. cc))
texts_decide (x ∷ xs) [] = ((λ is. cc), (λ is. cc))
texts_decide (x ∷ xs) (y ∷ ys) = Decides-like _
    (λ both. ap₂ ◌∷◌ both.0 both.1)
    (λ same. let head : string_bytes x ≡ string_bytes y = cc in let rest : map string_bytes xs ≡ map string_bytes ys = cc in (head, rest))
    (Decides-and _ _ (bytes_eq-Decides (string_bytes x) (string_bytes y)) (texts_decide xs ys))

abbrev size_of : ℕ → ℕ → ℕ → Size
size_of cpu mem disk = record { cpu = cpu; mem = mem; disk = disk }

abbrev node_of : ℕ → List ℕ → Size → NodeSpec
node_of number class size = record { number = number; class = class; size = size }

pub same_node : (a b : NodeSpec) → a.number ≡ b.number → a.class ≡ b.class → a.size.cpu ≡ b.size.cpu → a.size.mem ≡ b.size.mem → a.size.disk ≡ b.size.disk → a ≡ b
same_node a b number class cpu mem disk =
    ap (λ n. node_of n a.class a.size) number
    ∙ ap (λ c. node_of b.number c a.size) class
    ∙ ap (λ s. node_of b.number b.class s) (ap₂ (λ c m. size_of c m a.size.disk) cpu mem ∙ ap (size_of b.size.cpu b.size.mem) disk)

-- two nodes are compared part by part
pub nodes_decide : (a b : NodeSpec) → Decides (eqb a.number b.number && (bytes_eq a.class b.class && (eqb a.size.cpu b.size.cpu && (eqb a.size.mem b.size.mem && eqb a.size.disk b.size.disk)))) (a ≡ b)
nodes_decide a b = Decides-like _
    (λ all. same_node a b all.0 all.1.0 all.1.1.0 all.1.1.1.0 all.1.1.1.1)
    (λ same. (ap (λ n. n.number) same, (ap (λ n. n.class) same, (ap (λ n. n.size.cpu) same, (ap (λ n. n.size.mem) same, ap (λ n. n.size.disk) same)))))
    (Decides-and _ _ (Decides-eqb a.number b.number)
    (Decides-and _ _ (bytes_eq-Decides a.class b.class)
    (Decides-and _ _ (Decides-eqb a.size.cpu b.size.cpu)
    (Decides-and _ _ (Decides-eqb a.size.mem b.size.mem) (Decides-eqb a.size.disk b.size.disk)))))

-- a text that is the same as a scenario's is that scenario's
pub same_scenario : (own text : List ℕ) (scenario : Scenario) → own ≡ text → IsScenarioText own scenario → IsScenarioText text scenario
same_scenario own text scenario same is = subst (λ t. IsScenarioText t scenario) same is
