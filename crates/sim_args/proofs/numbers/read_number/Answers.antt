use Rattle.std.proofs.Common.{◌≡◌, Ok, decimal, rules, sym}
use Rattle.std.proofs.lemmas.Fmt.{parse-decimal}
use Rattle.sim_args.proofs.numbers.read_number.Goals as goal

pub returns-in_err-number-clause-read : goal.returns-in_err-number-clause-read
returns-in_err-number-clause-read c n lt is =
    let same : c.parse.result ≡ Ok n = parse-decimal 64 n _ _ lt lt is c.parse.ensures.value.0 in
    search rules

pub returns-then-eq-clause-read : goal.returns-then-eq-clause-read
returns-then-eq-clause-read c n lt is =
    let same : c.parse.result ≡ Ok n = parse-decimal 64 n _ _ lt lt is c.parse.ensures.value.0 in
    search rules

pub returns-else-eq-clause-read : goal.returns-else-eq-clause-read
returns-else-eq-clause-read c n lt is =
    let same : c.parse.result ≡ Ok n = parse-decimal 64 n _ _ lt lt is c.parse.ensures.value.0 in
    let number : c.in_ok-number.number ≡ n = search rules in
    let text : decimal c.in_ok-number.number ≡ c.args.word.now = rw number (sym is) in
    search rules
