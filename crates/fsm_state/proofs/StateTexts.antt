-- The text of a state, part by part.
use Rattle.std.proofs.Common.{◌≡◌, ◌<◌, ◌^◌, ℕ, List, [], ◌∷◌, ◌++◌, length, refl, sym, ap, ◌∙◌, Ok, Err}
use Rattle.std.specs.Prelude.{Result, IsErr}
use Rattle.std.specs.List.{flat_map, AllByRecursion}
use Rattle.std.proofs.lemmas.List.{append_assoc, append-nil}
use Rattle.rows.specs.Versions.{newest}
use Rattle.rows.specs.declared.refusal.NoMemory.{NoMemory}
use Rattle.fields_model.specs.Format.{Format, Grows, Puts, items, list}
use Rattle.fields_model.specs.Fields.{index}
use Rattle.fields_model.specs.Rows.{allocation}
use Rattle.fields_model.specs.StateText.{jobs, nodes, evaluations, allocations, state}
use Rattle.fields_model.proofs.RangeLaws.{fits_state}
use Rattle.fsm_tables.specs.TableRows.{TablesFit}
use Rattle.fsm_model.specs.Words.{State}

pub all_fit : (s : State) → s.count < 2 ^ 40 → TablesFit (record { jobs = s.jobs; nodes = s.nodes; evals = s.evals; allocs = s.allocs }) → (state newest).Fits s
all_fit s low t = fits_state s (record {
  count = low;
  tables = record {
    jobs = record { rising = t.jobs.rising; few = t.jobs.few };
    nodes = record { rising = t.nodes.rising; few = t.nodes.few };
    evals = record { rising = t.evals.rising; few = t.evals.few };
    allocs = record { rising = t.allocs.rising; few = t.allocs.few };
  };
  rows = record { jobs = t.jobs.fit; nodes = t.nodes.fit; evals = t.evals.fit; allocs = t.allocs.fit };
})

-- five parts, one after the other
parts : (o0 o1 o2 o3 o4 a b c d e : List ℕ) → o1 ≡ o0 ++ a → o2 ≡ o1 ++ b → o3 ≡ o2 ++ c → o4 ≡ o3 ++ d → o4 ++ e ≡ o0 ++ (a ++ (b ++ (c ++ (d ++ e))))
parts o0 o1 o2 o3 o4 a b c d e p q r t =
    ap (λ (z : List ℕ). z ++ e) (t ∙ ap (λ (z : List ℕ). z ++ d) (r ∙ ap (λ (z : List ℕ). z ++ c) (q ∙ ap (λ (z : List ℕ). z ++ b) p)))
    ∙ append_assoc (((o0 ++ a) ++ b) ++ c) d e ∙ append_assoc ((o0 ++ a) ++ b) c (d ++ e) ∙ append_assoc (o0 ++ a) b (c ++ (d ++ e)) ∙ append_assoc o0 a (b ++ (c ++ (d ++ e)))

pub put_state : (s : State) (r : Result (Unit {0}) NoMemory) (o0 o1 o2 o3 o4 new : List ℕ) → (state newest).Fits s
    → o1 ≡ o0 ++ index.text s.count → o2 ≡ o1 ++ (jobs newest).text s.jobs → o3 ≡ o2 ++ (nodes newest).text s.nodes → o4 ≡ o3 ++ evaluations.text s.evals
    → Puts (list 4 65536 (allocation newest)) s.allocs r o4 new → Puts (state newest) s r o0 new
put_state s (Ok u) o0 o1 o2 o3 o4 new fits p q r t h =
    (fits, h.1 ∙ parts o0 o1 o2 o3 o4 (index.text s.count) ((jobs newest).text s.jobs) ((nodes newest).text s.nodes) (evaluations.text s.evals) ((allocations newest).text s.allocs) p q r t)
put_state s (Err e) o0 o1 o2 o3 o4 new fits p q r t h = (
  index.text s.count ++ ((jobs newest).text s.jobs ++ ((nodes newest).text s.nodes ++ (evaluations.text s.evals ++ h.0))),
  h.1 ∙ parts o0 o1 o2 o3 o4 (index.text s.count) ((jobs newest).text s.jobs) ((nodes newest).text s.nodes) (evaluations.text s.evals) h.0 p q r t,
)

-- ---- rows written one after the other

-- what was written, and what is left of it
pub record WrittenBut {A : Type 0} (f : Format A) (left all : List A) (old new : List ℕ) : Type 0 where
  pub bytes : new ++ flat_map f.text left ≡ old ++ flat_map f.text all
  pub grown : Grows old new
  pub fits : AllByRecursion f.Fits left → AllByRecursion f.Fits all

pub written_none : {A : Type 0} (f : Format A) (all : List A) (old : List ℕ) → WrittenBut f all all old old
written_none f all old = record { bytes = refl; grown = ([], sym (append-nil old)); fits = λ h. h }

grown_more : (old middle new : List ℕ) → Grows old middle → Grows middle new → Grows old new
grown_more old middle new a b = (a.0 ++ b.0, b.1 ∙ ap (λ (z : List ℕ). z ++ b.0) a.1 ∙ append_assoc old a.0 b.0)

pub written_one : {A : Type 0} (f : Format A) (x : A) (left all : List A) (old middle new : List ℕ) → WrittenBut f (x ∷ left) all old middle → f.Fits x × (new ≡ middle ++ f.text x) → WrittenBut f left all old new
written_one f x left all old middle new so_far one = record {
  bytes = ap (λ (z : List ℕ). z ++ flat_map f.text left) one.1 ∙ append_assoc middle (f.text x) (flat_map f.text left) ∙ so_far.bytes;
  grown = grown_more old middle new so_far.grown (f.text x, one.1);
  fits = λ h. so_far.fits (one.0, h);
}

pub written_part : {A : Type 0} (f : Format A) (left all : List A) (n : ℕ) (old middle new : List ℕ) (r : Result (Unit {0}) NoMemory) → IsErr r → WrittenBut f left all old middle → Grows middle new → Puts (items n f) all r old new
written_part f left all n old middle new (Ok _) failed so_far grown = absurd cc
written_part f left all n old middle new (Err _) failed so_far grown = grown_more old middle new so_far.grown grown

pub written_all : {A : Type 0} (f : Format A) (all : List A) (old new : List ℕ) → WrittenBut f [] all old new → Puts (items (length all) f) all (Ok tt) old new
written_all f all old new h = ((refl, h.fits tt), sym (append-nil new) ∙ h.bytes)
