use Rattle.std.proofs.Common.{◌≡◌, ℕ, ◌<◌, ◌≤◌, Bool, true, false, Option, Some, None, is_some, length, refl, sym, ap, ◌∙◌, arith}
use Rattle.std.specs.Prelude.{◌||◌, nat_lt, option_map}
use Rattle.std.specs.Cmp.Lexicographic.{nat_list_cmp_total}
use Rattle.rows.specs.Keys.{name_cmp, job_name}
use Rattle.fsm_tables.specs.Rows.{row_of, has_row}
use Rattle.fsm_tables.proofs.RowLaws.{row_of-put_within}
use Rattle.fsm_tables.proofs.tables.Tables.put_job_within.Goals as goal
use Rattle.fsm_tables.proofs.tables.Tables.put_job_within.Goals.{then-len-lt-MOST_JOBS, else-len-lt-MOST_JOBS}

below : (n m : ℕ) → n < m → nat_lt n m ≡ true
below n m lt = grind arith

above : (n m : ℕ) → m ≤ n → nat_lt n m ≡ false
above n m le = grind arith

either : (a b : Bool) → b ≡ true → (a || b) ≡ true
either true b e = refl
either false b e = e

neither : (a b : Bool) → b ≡ false → (a || b) ≡ a
neither true b e = refl
neither false b e = e

mapped : {A B : Type 0} (f : A → B) (m : Option A) → is_some (option_map f m) ≡ is_some m
mapped f None = refl
mapped f (Some x) = refl

pub returns-clause-row : goal.returns-clause-row
returns-clause-row c =
    let ys = c.self.inside.jobs in
    let has = has_row name_cmp job_name c.args.row.name ys in
    let told : (has || nat_lt (length ys) 256) ≡ c.if-len-lt-MOST_JOBS.is_there =
    elim c.if-len-lt-MOST_JOBS.branch [
      | then-len-lt-MOST_JOBS w ↦
          either has (nat_lt (length ys) 256) (below (length ys) 256 (omega (arith, w.if-len-lt-MOST_JOBS.true, c.len.ensures)))
          ∙ sym (w.is_there-is ∙ below c.len.result 256 w.if-len-lt-MOST_JOBS.true)
      | else-len-lt-MOST_JOBS w ↦
          neither has (nat_lt (length ys) 256) (above (length ys) 256 (omega (arith, w.if-len-lt-MOST_JOBS.false, c.len.ensures)))
          ∙ sym (w.is_there-is ∙ w.is_some-is_there.ensures ∙ sym (mapped (λ row. row.now) w.get.result) ∙ ap is_some w.get.ensures)
    ] in
    ap (row_of name_cmp job_name c.args.row.name) c.in_ok-put_within.ensures.ok
    ∙ row_of-put_within name_cmp job_name nat_list_cmp_total 256 c.args.row ys c.if-len-lt-MOST_JOBS.is_there told
