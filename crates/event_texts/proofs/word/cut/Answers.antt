use Rattle.std.proofs.Common.{Option, Some, None}
use Rattle.std.specs.Option.{IfSome, IsSomeAnd, MatchOption}
use Rattle.std.proofs.lemmas.Str.Pattern.{split_after, split_parts}
use Rattle.event_texts.proofs.word.cut.Goals as goal

first_fact : {X : Type 0} (r : Option X) (N : Type 0) (P Q : X → Type 0) → MatchOption r N (λ x. P x × Q x) → IfSome r P
first_fact None N P Q h = tt
first_fact (Some x) N P Q h = h.0

not_none : {X : Type 0} (r : Option X) (P : X → Type 0) → MatchOption r ⊥ P → IsSomeAnd r P
not_none None P h = h
not_none (Some x) P h = h

pub returns-clause-parts : goal.returns-clause-parts
returns-clause-parts c =
    first_fact c.split_once.result _ _ _ (split_parts c.args.separator c.args.text.now c.split_once.result c.split_once.ensures.cases c.requires)

pub returns-clause-first : goal.returns-clause-first
returns-clause-first c front back lacks is =
    not_none c.split_once.result _ (split_after c.args.separator c.args.text.now front back c.split_once.result c.split_once.ensures.cases c.requires is (λ i lt. lacks i 0 lt))
