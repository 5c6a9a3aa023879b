-- Objects and lists of JSON values.
use Rattle.std.proofs.Common.{◌≡◌, ◌∙◌, ◌+◌, ◌<◌, ◌++◌, ◌∷◌, ℕ, List, [], None, String, ap, ap₂, arith, get_or, length, map, refl, string_bytes, suc, sym, zero}
use Rattle.std.proofs.lemmas.List.{map-append}
use Rattle.std.specs.declared.alloc.Global.{Global}
use Rattle.rows.specs.declared.node.NodeSpec.{NodeSpec}
use Rattle.serde_json.specs.Data.{Data, string}
use Rattle.serde_json.specs.Find.{as_str}
use Rattle.serde_json.specs.View.{items_of, members_view, view}
use Rattle.serde_json.specs.declared.value.Value.{Value}
use Rattle.sim_scenario.specs.Objects.{AreNodes, IsNode, members_count, strings}

pub count_of : (es : List (String Global × Value)) → members_count (members_view es) ≡ length es
count_of [] = refl
count_of (e ∷ es) = ap (λ n. suc n) (count_of es)

pub same_items : (ds es : List Data) → items_of ds ≡ items_of es → ds ≡ es
same_items [] [] e = refl
same_items [] (x ∷ es) e = cc
same_items (x ∷ ds) [] e = cc
same_items (x ∷ ds) (y ∷ es) e =
    let head : x ≡ y = cc in
    let rest : items_of ds ≡ items_of es = cc in
    ap₂ (λ a b. a ∷ b) head (same_items ds es rest)

-- ---- texts

-- a list of texts has nothing else in it
pub no_other : (texts : List (List ℕ)) (front back : List Data) (d : Data) → front ++ d ∷ back ≡ strings texts → as_str d ≡ None → ⊥
no_other [] [] back d is none = cc
no_other [] (x ∷ front) back d is none = cc
no_other (text ∷ texts) [] back d is none =
    let same : d ≡ string text = cc in
    let some = ap as_str same in
    cc
no_other (text ∷ texts) (x ∷ front) back d is none =
    let others : front ++ d ∷ back ≡ strings texts = cc in
    no_other texts front back d others none

pub one_more_text : (front : List Value) (v : Value) (texts : List (String Global)) (text : String Global) → map view front ≡ strings (map string_bytes texts)
    → view v ≡ string (string_bytes text) → map view (front ++ v ∷ []) ≡ strings (map string_bytes (texts ++ text ∷ []))
one_more_text front v texts text same is =
    map-append view front (v ∷ [])
    ∙ ap₂ (λ ds d. ds ++ d ∷ []) same is
    ∙ sym (map-append string (map string_bytes texts) (string_bytes text ∷ []))
    ∙ ap strings (sym (map-append string_bytes texts (text ∷ [])))

-- ---- nodes

pub one_more_node : (k : ℕ) (ds : List Data) (nodes : List NodeSpec) (d : Data) (node : NodeSpec) → AreNodes k ds nodes → node.number ≡ k + length nodes → IsNode d node
    → AreNodes k (ds ++ d ∷ []) (nodes ++ node ∷ [])
one_more_node k [] [] d node are number is = (omega (arith, number), is, tt)
one_more_node k [] (n ∷ nodes) d node are number is = absurd are
one_more_node k (x ∷ ds) [] d node are number is = absurd are
one_more_node k (x ∷ ds) (n ∷ nodes) d node are number is =
    (are.0, are.1, one_more_node (suc k) ds nodes d node are.2 (omega (arith, number)) is)

pub node_count : (k : ℕ) (ds : List Data) (nodes : List NodeSpec) → AreNodes k ds nodes → length ds ≡ length nodes
node_count k [] [] are = refl
node_count k [] (n ∷ nodes) are = absurd are
node_count k (d ∷ ds) [] are = absurd are
node_count k (d ∷ ds) (n ∷ nodes) are = ap (λ n. suc n) (node_count (suc k) ds nodes are.2)

-- the node whose object stands at a place
pub node_at : (k : ℕ) (ds : List Data) (nodes : List NodeSpec) (i : ℕ) (d : Data) → AreNodes k ds nodes → i < length ds → get_or ds i d ≡ d
    → (node : NodeSpec) × (node.number ≡ k + i) × IsNode d node
node_at k [] nodes i d are lt at = absurd (omega arith)
node_at k (x ∷ ds) [] i d are lt at = absurd are
node_at k (x ∷ ds) (n ∷ nodes) zero d are lt at = (n, omega (arith, are.0), rw (← at) are.1)
node_at k (x ∷ ds) (n ∷ nodes) (suc i) d are lt at =
    let found = node_at (suc k) ds nodes i d are.2 (omega arith) at in
    (found.0, omega (arith, found.1), found.2)
