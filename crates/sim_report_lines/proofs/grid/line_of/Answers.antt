use Rattle.std.proofs.Common.{◌≡◌, ◌∙◌, ◌+◌, ◌<◌, ◌≤◌, ◌⊎◌, ◌∷◌, [], inl, inr, List, ℕ, ap, String, arith, drop, length, map, refl, rules, string_bytes, sym}
use Rattle.std.proofs.lemmas.List.{drop-map, drop_all, drop_more, length-map}
use Rattle.std.specs.declared.alloc.Global.{Global}
use Rattle.sim_report_lines.specs.Grids.{Laid, laid, with_column, with_columns}
use Rattle.sim_report_lines.proofs.grid.line_of.Goals as goal

column_more : (front next : Laid) (cells : List (List ℕ)) (widths : List ℕ) (i : ℕ) (cell : List ℕ) (width : ℕ)
    → next ≡ with_column front cell width
    → drop i cells ≡ cell ∷ drop (i + 1) cells → drop i widths ≡ width ∷ drop (i + 1) widths
    → with_columns next (drop (i + 1) cells) (drop (i + 1) widths) ≡ with_columns front (drop i cells) (drop i widths)
column_more front next cells widths i cell width is cs ws =
    ap (λ (n : Laid). with_columns n (drop (i + 1) cells) (drop (i + 1) widths)) is
    ∙ sym (ap (λ (c : List (List ℕ)). with_columns front c (drop i widths)) cs
    ∙ ap (with_columns front (cell ∷ drop (i + 1) cells)) ws)

no_widths : (front : Laid) (cells : List (List ℕ)) → with_columns front cells [] ≡ front
no_widths front [] = refl
no_widths front (cell ∷ cells) = refl

no_columns : (front : Laid) (cells : List (List ℕ)) (widths : List ℕ) (i : ℕ) → length cells ≤ i ⊎ length widths ≤ i
    → with_columns front (drop i cells) (drop i widths) ≡ front
no_columns front cells widths i (inl past) =
    ap (λ (c : List (List ℕ)). with_columns front c (drop i widths)) (drop_all i cells past)
no_columns front cells widths i (inr past) =
    ap (with_columns front (drop i cells)) (drop_all i widths past) ∙ no_widths front (drop i cells)

pub loop-place-preserved : goal.loop-place-preserved
loop-place-preserved c =
    let i = c.loop-place.place in
    let row = c.args.row.now in
    let cells = map string_bytes row in
    let widths = c.args.widths.now in
    let cell = c.index-row-place.result in
    let lc : i < length row = search (rules, arith) in
    let lw : i < length widths = search (rules, arith) in
    let own : drop i row ≡ cell ∷ drop (i + 1) row =
    drop_more row i cell lc ∙ ap (λ (x : String Global). x ∷ drop (i + 1) row) (sym c.index-row-place.is) in
    let cs : drop i cells ≡ string_bytes cell ∷ drop (i + 1) cells =
    drop-map string_bytes i row ∙ ap (map string_bytes) own
    ∙ ap (λ (x : List (List ℕ)). string_bytes cell ∷ x) (sym (drop-map string_bytes (i + 1) row)) in
    ap (λ (l : Laid). l.line)
    (column_more _ _ cells widths i (string_bytes cell) _ (search rules) cs (drop_more widths i 0 lw))
    ∙ c.loop-place.invariant

pub returns : goal.returns
returns c =
    let i = c.loop-place.place in
    let cells = map string_bytes c.args.row.now in
    let widths = c.args.widths.now in
    let past : length cells ≤ i ⊎ length widths ≤ i = search (rules, arith, length-map) in
    sym (ap (λ (l : Laid). l.line) (no_columns (laid (string_bytes c.loop-place.line) c.loop-place.owed) cells widths i past))
    ∙ c.loop-place.invariant
