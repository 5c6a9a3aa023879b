use Rattle.std.proofs.Common.{◌≡◌, ◌∙◌, map, refl, rules, subst, sym, tests}
use Rattle.std.proofs.lemmas.Iterator.{YieldsList-from_slice}
use Rattle.std.proofs.lemmas.Iterator.Consumers.{YieldsList-from_filter, count_from_yields_List}
use Rattle.std.proofs.lemmas.List.Sums.{length-filter}
use Rattle.std.proofs.lemmas.Option.{MatchOption-at_some}
use Rattle.sim_sweep.specs.Summaries.{IsSpread, IsWorst, all_run, has_refused, is_led}
use Rattle.sim_sweep.proofs.summary.summary_of.Goals as goal

pub returns : goal.returns
returns c =
    let rows = c.args.rows.now in
    let terms : c.in_ok-collect.field-0.items ≡ map (λ r. r.end.term) rows = search rules in
    let messages : c.in_ok-collect-2.field-0.items ≡ map (λ r. r.end.messages) rows = search rules in
    let events : c.in_ok-collect-3.field-0.items ≡ map (λ r. r.end.events) rows = search rules in
    record {
      runs = refl;
      led =
          count_from_yields_List c.filter.result _ c.count.ensures.ran (YieldsList-from_filter _ is_led (YieldsList-from_slice rows (cc)) c.filter.ensures.closure (λ x b q k. search (rules, tests)))
          ∙ length-filter is_led rows;
      running =
          count_from_yields_List c.filter-2.result _ c.count-2.ensures.ran (YieldsList-from_filter _ all_run (YieldsList-from_slice rows (cc)) c.filter-2.ensures.closure (λ x b q k. search (rules, tests)))
          ∙ length-filter all_run rows;
      refused =
          count_from_yields_List c.filter-3.result _ c.count-3.ensures.ran (YieldsList-from_filter _ has_refused (YieldsList-from_slice rows (cc)) c.filter-3.ensures.closure (λ x b q k. search (rules, tests)))
          ∙ length-filter has_refused rows;
      terms = subst (λ ns. IsSpread ns c.in-Some-Some-Some.terms) terms (MatchOption-at_some _ _ _ c.in-Some-Some-Some.is-0 c.in_ok-terms.ensures);
      messages = subst (λ ns. IsSpread ns c.in-Some-Some-Some.messages) messages (MatchOption-at_some _ _ _ c.in-Some-Some-Some.is-1 c.in_ok-messages.ensures);
      events = subst (λ ns. IsSpread ns c.in-Some-Some-Some.events) events (MatchOption-at_some _ _ _ c.in-Some-Some-Some.is-2 c.in_ok-events.ensures);
      row = c.worst_of.result;
      worst = subst (λ of. IsWorst of c.worst_of.result) (sym c.in-Some.ensures.cases.0) c.worst_of.ensures;
      key = refl;
    }
