use Rattle.std.proofs.Common.{◌≡◌, ◌∙◌, ◌++◌, ◌∷◌, ℕ, List, Bool, Option, Some, codes, refl, rules}
use Rattle.rows.specs.Fits.{NodeIdFits}
use Rattle.rows.specs.Names.{NameFits}
use Rattle.rows.specs.declared.request.OperatorRequest.{OperatorRequest}
use Rattle.rows.specs.declared.request.OperatorRequest.TheVariants.{Drain, EvalPut, JobPut, JobStop}
use Rattle.event_texts.specs.Requests.{RequestFits, drain_text, request_text}
use Rattle.event_texts.specs.Inner.Plain.{IsWithout}
use Rattle.event_texts.specs.Laws.PlainTexts.{name_lacks}
use Rattle.event_texts.proofs.request.read_request.Goals as goal

-- each request's text is a verb, a space, and what stands behind it
verb_of : (r : OperatorRequest) → (verb : List ℕ) × (words : List ℕ) × IsWithout 32 verb × (request_text r ≡ verb ++ 32 ∷ words)
verb_of (JobPut job) = (codes "put", _, name_lacks 32 (codes "put") refl refl, refl)
verb_of (JobStop name) = (codes "stop", _, name_lacks 32 (codes "stop") refl refl, refl)
verb_of (EvalPut name) = (codes "eval", _, name_lacks 32 (codes "eval") refl refl, refl)
verb_of (Drain node force) = (codes "drain", _, name_lacks 32 (codes "drain") refl refl, refl)

-- a request other than `put` is the one that is read
small : (r : OperatorRequest) (verb words : List ℕ) (read : Option OperatorRequest) → RequestFits r
    → ((front back : List ℕ) → IsWithout 32 front → request_text r ≡ front ++ 32 ∷ back → (verb ≡ front) × (words ≡ back))
    → (verb ≡ codes "put" → ⊥)
    → ((name : List ℕ) → NameFits name → verb ≡ codes "stop" → words ≡ name → read ≡ Some (JobStop name))
    → ((name : List ℕ) → NameFits name → verb ≡ codes "eval" → words ≡ name → read ≡ Some (EvalPut name))
    → ((node : ℕ) (force : Bool) → NodeIdFits node → verb ≡ codes "drain" → words ≡ drain_text node force → read ≡ Some (Drain node force))
    → read ≡ Some r
small (JobPut job) verb words read fits first not_put stop eval drain =
    absurd (not_put (first (codes "put") _ (name_lacks 32 (codes "put") refl refl) refl).0)
small (JobStop name) verb words read fits first not_put stop eval drain =
    let is = first (codes "stop") name (name_lacks 32 (codes "stop") refl refl) refl in
    stop name fits is.0 is.1
small (EvalPut name) verb words read fits first not_put stop eval drain =
    let is = first (codes "eval") name (name_lacks 32 (codes "eval") refl refl) refl in
    eval name fits is.0 is.1
small (Drain node force) verb words read fits first not_put stop eval drain =
    let is = first (codes "drain") _ (name_lacks 32 (codes "drain") refl refl) refl in
    drain node force fits is.0 is.1

pub returns-in_default-clause-read : goal.returns-in_default-clause-read
returns-in_default-clause-read c r fits is =
    let verb = verb_of r in
    absurd (c.in_default.ensures.first verb.0 verb.1 verb.2 (is ∙ verb.3))

pub returns-then-ne-clause-read : goal.returns-then-ne-clause-read
returns-then-ne-clause-read c r fits is =
    let called = c.read_small_request.ensures in
    small r _ _ c.read_small_request.result fits (λ front back lacks e. c.in-Some.ensures.first front back lacks (is ∙ e))
    (λ e. search rules) called.stop called.eval called.drain
