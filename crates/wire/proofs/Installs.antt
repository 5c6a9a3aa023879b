-- A fault of a state that is read whole lies within its bytes.
use Rattle.std.proofs.Common.{◌≡◌, ℕ, ◌≤◌, Bool, true, false, cond, eqb, List, length, Ok, Err, arith}
use Rattle.fields_model.specs.Format.{Format, whole, IsBytes, Lawful}
use Rattle.fields_model.proofs.FormatLaws.{seq_inside}

err_is : {A : Type 0} (t : Bool) (x : A) (k p : ℕ) → cond t (Ok x) (Err k) ≡ Err p → k ≡ p
err_is true x k p e = absurd cc
err_is false x k p e = cc

pub whole_inside : {A : Type 0} (f : Format A) → Lawful f → (bytes : List ℕ) (place : ℕ) → IsBytes bytes → whole f bytes ≡ Err place → place ≤ length bytes
whole_inside f lf bytes place fits e =
    seq_inside f lf bytes 0 place (λ a. cond (eqb a.1 (length bytes)) (Ok a.0) (Err a.1)) fits (omega arith) e
    (λ a here le more. let same = err_is (eqb a.1 (length bytes)) a.0 a.1 place more in omega arith)
