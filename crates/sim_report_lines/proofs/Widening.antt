-- Columns become as wide as one cell more.
use Rattle.std.proofs.Common.{◌≡◌, ◌∙◌, ℕ, zero, suc, ◌+◌, ◌<◌, ◌≤◌, List, [], ◌∷◌, ◌++◌, String, ap, arith, get_or, length, map, max, refl, set, string_bytes, sym, take}
use Rattle.std.specs.declared.alloc.Global.{Global}
use Rattle.std.proofs.lemmas.List.{length-take-le, take_more}
use Rattle.sim_report_lines.specs.Grids.{widened}
use Rattle.sim_report_lines.specs.Inner.Widths.{with_width}

pub width_within : (widths : List ℕ) (column width : ℕ) → column < length widths
    → set widths column (max (get_or widths column 0) width) ≡ with_width column width widths
width_within [] column width within = absurd (omega arith)
width_within (wide ∷ widths) zero width within = refl
width_within (wide ∷ widths) (suc column) width within = ap (λ rest. wide ∷ rest) (width_within widths column width (omega arith))

pub width_behind : (widths : List ℕ) (column width : ℕ) → column ≡ length widths → widths ++ width ∷ [] ≡ with_width column width widths
width_behind widths column width is = behind widths width ∙ ap (λ at. with_width at width widths) (sym is) where
  behind : (widths : List ℕ) (width : ℕ) → widths ++ width ∷ [] ≡ with_width (length widths) width widths
  behind [] width = refl
  behind (wide ∷ widths) width = ap (λ rest. wide ∷ rest) (behind widths width)

cell_more : (widths : List ℕ) (cells : List (List ℕ)) (cell : List ℕ)
    → with_width (length cells) (length cell) (widened widths cells) ≡ widened widths (cells ++ cell ∷ [])
cell_more [] [] cell = refl
cell_more (wide ∷ widths) [] cell = refl
cell_more [] (first ∷ cells) cell = ap (λ rest. length first ∷ rest) (cell_more [] cells cell)
cell_more (wide ∷ widths) (first ∷ cells) cell = ap (λ rest. max wide (length first) ∷ rest) (cell_more widths cells cell)

pub widened_more : (widths : List ℕ) (cells : List (List ℕ)) (i : ℕ) (cell : List ℕ) → i < length cells → cell ≡ get_or cells i cell
    → with_width i (length cell) (widened widths (take i cells)) ≡ widened widths (take (i + 1) cells)
widened_more widths cells i cell within is =
    ap (λ at. with_width at (length cell) (widened widths (take i cells))) (sym (length-take-le i cells (omega arith)))
    ∙ cell_more widths (take i cells) cell
    ∙ ap (widened widths) (ap (λ it. take i cells ++ it ∷ []) is ∙ sym (take_more cells i cell within))

pub enough : (widths : List ℕ) (cells : List (List ℕ)) → length cells ≤ length (widened widths cells)
enough widths [] = omega arith
enough [] (cell ∷ cells) = let rest = enough [] cells in omega arith
enough (wide ∷ widths) (cell ∷ cells) = let rest = enough widths cells in omega arith

pub text_at : (row : List (String Global)) (i : ℕ) (cell : String Global) → i < length row → cell ≡ get_or row i cell
    → string_bytes cell ≡ get_or (map string_bytes row) i (string_bytes cell)
text_at [] i cell inside is = absurd (omega arith)
text_at (first ∷ row) zero cell inside is = ap string_bytes is
text_at (first ∷ row) (suc i) cell inside is = text_at row i cell (omega arith) is
