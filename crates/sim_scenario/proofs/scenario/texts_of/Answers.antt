use Rattle.std.proofs.Common.{◌≡◌, ◌∙◌, ◌++◌, ◌∷◌, [], None, ap, inr, map, refl, rules, sym}
use Rattle.std.specs.Vec.Iter.{into_iter_items}
use Rattle.std.proofs.lemmas.List.{append_assoc, map-append}
use Rattle.serde_json.specs.Find.{as_str}
use Rattle.serde_json.specs.View.{view}
use Rattle.serde_json.specs.declared.value.Value.{the_lemmas}
use Rattle.sim_scenario.proofs.Objects.{no_other, one_more_text}
use Rattle.sim_scenario.proofs.scenario.texts_of.Goals as goal

pub returns-in_default : goal.returns-in_default
returns-in_default c =
    let v = c.in-Some.value in
    let front = c.loop-value.yielded in
    let rest = into_iter_items c.next.new.self in
    let all : front ++ v ∷ rest ≡ c.args.list.items = search rules in
    let none : as_str (view v) ≡ None = search (rules, the_lemmas) in
    record {
      ok = tt;
      refused = inr (
        refl,
        λ texts e. no_other texts (map view front) (map view rest) (view v) (sym (map-append view front (v ∷ rest)) ∙ ap (map view) all ∙ e) none,
      );
    }

pub loop-value-preserved : goal.loop-value-preserved
loop-value-preserved c =
    let same = one_more_text c.loop-value.yielded c.in-Some.value c.loop-value.texts.items c.in-String.text (search rules) (search (rules, the_lemmas)) in
    let pushed : c.push.new.self.items ≡ c.loop-value.texts.items ++ c.in-String.text ∷ [] = search rules in
    let rest = into_iter_items c.next.new.self in
    let all : c.loop-value.yielded ++ c.in-Some.value ∷ rest ≡ c.args.list.items = search rules in
    (append_assoc c.loop-value.yielded (c.in-Some.value ∷ []) rest ∙ all, rw pushed same)
