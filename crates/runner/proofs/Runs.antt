-- Runs under many keys, told some at a time.
use Rattle.std.proofs.Common.{◌≡◌, ◌∙◌, ◌+◌, ◌++◌, ℕ, List, [], Option, ap, append_assoc, subst, sym}
use Rattle.std.specs.Io.KnownBytes.{Appends}
use Rattle.std.specs.List.{flat_map}
use Rattle.std.proofs.KnownBytes.{Appends-trans}
use Rattle.std.proofs.lemmas.Grind.{flat_map-append}
use Rattle.std.proofs.lemmas.List.{append-nil}
use Rattle.sim_scenario.specs.declared.scenario.Scenario.{Scenario}
use Rattle.sim_scenario.specs.declared.scenario.Settings.{Settings}
use Rattle.sim_sweep.specs.declared.row.Row.{Row}
use Rattle.sim_sweep.specs.Rows.{AreRows, key_at}
use Rattle.sim_sweep.specs.Tables.{csv_head, csv_line}
use Rattle.sim_sweep.proofs.Keys.{rows_behind}
use Rattle.runner.specs.Inner.Runs.{ShowsSome}

-- the rows under no key are shown by the names alone
pub shows_none : (s : Scenario) (settings : Settings) (first : ℕ) (old new : Option (List ℕ)) (head : List ℕ) → head ≡ csv_head → Appends old new head → ShowsSome s settings first 0 old new
shows_none s settings first old new head is shown = ([], tt, subst (Appends old new) (is ∙ sym (append-nil csv_head)) shown)

-- those under some keys, and then those under the next
pub shows_more : (s : Scenario) (settings : Settings) (first n m : ℕ) (a b d : Option (List ℕ)) → ShowsSome s settings first n a b
    → (others : List Row) × AreRows s settings (key_at first n) m others × Appends b d (flat_map csv_line others) → ShowsSome s settings first (n + m) a d
shows_more s settings first n m a b d (rows, are, shown) (others, more, told) =
    let front = flat_map csv_line rows in
    let back = flat_map csv_line others in
    let same : (csv_head ++ front) ++ back ≡ csv_head ++ flat_map csv_line (rows ++ others) =
    append_assoc csv_head front back ∙ ap (λ text. csv_head ++ text) (sym (flat_map-append csv_line rows others)) in
    (rows ++ others, rows_behind s settings first n m rows others are more, subst (Appends a d) same (Appends-trans a b d (csv_head ++ front) back shown told))
