-- A node's use, part by part.
use Rattle.std.proofs.Common.{ℕ, ◌≡◌, ◌≤◌, T, List, sym, subst, ◌∙◌}
use Rattle.std.specs.Prelude.{sum_by}
use Rattle.rows.specs.declared.size.Size.{Size}
use Rattle.rows.specs.Sizes.{Part, amount, fits}
use Rattle.rows.proofs.SizeLaws.{amount_by, size_by, fits_of, of_fits}
use Rattle.fsm_tables.specs.Claims.{Claim, on_node, used}

pub use_is : (p : Part) (n : ℕ) (cs : List Claim) → amount p (used n cs) ≡ sum_by (on_node n p) cs
use_is p n cs = amount_by p (λ q. sum_by (on_node n q) cs)

pub same_use : (cs ds : List Claim) (n : ℕ) → ((p : Part) → sum_by (on_node n p) cs ≡ sum_by (on_node n p) ds) → used n cs ≡ used n ds
same_use cs ds n same = size_by (used n cs) (used n ds) (λ p. use_is p n cs ∙ same p ∙ sym (use_is p n ds))

pub use_fits : (n : ℕ) (cs : List Claim) (room : Size) → ((p : Part) → sum_by (on_node n p) cs ≤ amount p room) → T (fits (used n cs) room)
use_fits n cs room h = fits_of (used n cs) room (λ p. subst (λ (m : ℕ). m ≤ amount p room) (sym (use_is p n cs)) (h p))

pub fitting_use : (n : ℕ) (cs : List Claim) (room : Size) → T (fits (used n cs) room) → (p : Part) → sum_by (on_node n p) cs ≤ amount p room
fitting_use n cs room h p = subst (λ (m : ℕ). m ≤ amount p room) (use_is p n cs) (of_fits (used n cs) room h p)
