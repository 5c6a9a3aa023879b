-- Rows of cells as lines.
use Rattle.std.specs.Prelude.{ℕ, ◌+◌, ◌-◌, String, Vec, List, [], ◌∷◌, ◌++◌, length, map, max, replicate, string_bytes}
use Rattle.std.specs.List.{fold}
use Rattle.std.specs.declared.alloc.Global.{Global}

-- the texts of a row
abbrev pub cells_of : Vec (String Global) Global → List (List ℕ)
cells_of row = map string_bytes row.items

-- a line behind which another cell comes: with two spaces, where it has some
abbrev pub spaced : List ℕ → List ℕ
spaced [] = []
spaced (byte ∷ bytes) = (byte ∷ bytes) ++ 32 ∷ 32 ∷ []

-- an empty cell adds nothing
abbrev pub with_cell : List ℕ → List ℕ → List ℕ
with_cell line [] = line
with_cell line (byte ∷ bytes) = spaced line ++ (byte ∷ bytes)

-- a row by itself, with two spaces between its cells
abbrev pub loose_line : List (List ℕ) → List ℕ
loose_line row = fold with_cell [] row

-- a line, and how many spaces are owed before a cell that comes
pub record Laid : Type 0 where
  pub line : List ℕ
  pub owed : ℕ

abbrev pub laid : List ℕ → ℕ → Laid
laid line owed = record { line = line; owed = owed }

-- a cell more, in a column of this width
abbrev pub with_column : Laid → List ℕ → ℕ → Laid
with_column front [] width = laid front.line (front.owed + width + 2)
with_column front (byte ∷ bytes) width =
    laid (front.line ++ (replicate front.owed 32 ++ (byte ∷ bytes))) (width - length (byte ∷ bytes) + 2)

abbrev pub with_columns : Laid → List (List ℕ) → List ℕ → Laid
with_columns front [] widths = front
with_columns front (cell ∷ cells) [] = front
with_columns front (cell ∷ cells) (width ∷ widths) = with_columns (with_column front cell width) cells widths

-- a row in columns of these widths, with two spaces between them and none at the end
abbrev pub aligned_line : List ℕ → List (List ℕ) → List ℕ
aligned_line widths row = (with_columns (laid [] 0) row widths).line

-- columns that are as wide as these cells too
abbrev pub widened : List ℕ → List (List ℕ) → List ℕ
widened widths [] = widths
widened [] (cell ∷ cells) = length cell ∷ widened [] cells
widened (width ∷ widths) (cell ∷ cells) = max width (length cell) ∷ widened widths cells

-- how wide the columns of these rows are: each as its widest cell
abbrev pub column_widths : List (List (List ℕ)) → List ℕ
column_widths rows = fold widened [] rows

-- these rows, in columns that line up
abbrev pub aligned_lines : List (List (List ℕ)) → List (List ℕ)
aligned_lines rows = map (aligned_line (column_widths rows)) rows
