use Rattle.std.proofs.Common.{◌≡◌, codes, subst, sym, ◌∙◌}
use Rattle.std.specs.Prelude.{IsSomeAnd, Some}
use Rattle.clap.specs.Walk.{one_of}
use Rattle.clap.specs.Words.{found_of, rows_of}
use Rattle.clap.proofs.WalkLemmas.{one_text-rows}
use Rattle.sim_args.specs.Numbers.{IsGiven, keys_in}
use Rattle.sim_args.proofs.Counts.{flag_said}
use Rattle.sim_args.proofs.command.sweep_words.Goals as goal

pub returns-clause-some : goal.returns-clause-some
returns-clause-some c =
    let found = found_of c.args.given.now in
    let text = one_text-rows found (codes "csv") in
    record {
      keys = subst (λ o. IsSomeAnd o (λ word. keys_in word ≡ Some c.in_ok-keys.keys)) c.in_ok-value_of.ensures (sym c.in_ok-keys.ensures);
      lost = subst (λ o. IsGiven 0 100 o c.in_ok-drop.drop) c.value_of-2.ensures c.in_ok-drop.ensures.some;
      repeated = subst (λ o. IsGiven 0 100 o c.in_ok-repeat.repeat) c.value_of-3.ensures c.in_ok-repeat.ensures.some;
      jobs = subst (λ o. IsGiven 1 64 o c.in_ok-jobs.jobs) c.value_of-4.ensures c.in_ok-jobs.ensures.some;
      csv =
          flag_said (one_of (codes "csv") (rows_of found)) c.get_flag-csv.result (λ is. c.get_flag-csv.ensures.none (text ∙ is)) (λ is. c.get_flag-csv.ensures.value (text ∙ is))
          (λ is. c.get_flag-csv.ensures.other (text ∙ is));
    }
