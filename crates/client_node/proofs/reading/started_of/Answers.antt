use Rattle.std.proofs.Common.{◌≡◌, ◌∙◌, false, true, option_map, ap, sym}
use Rattle.std.proofs.lemmas.Bool.Decides.{Decides-eqb}
use Rattle.std.proofs.lemmas.Slice.Eq.{starts_is}
use Rattle.client_node.proofs.Starting.{anothers_there, bad_behind, own_only, stored_behind}
use Rattle.client_node.proofs.reading.started_of.Goals as goal

pub returns-then-starts_with-clause-stored : goal.returns-then-starts_with-clause-stored
returns-then-starts_with-clause-stored c =
    let header = c.args.header.now in
    let bytes = c.in-Some.bytes.now in
    stored_behind (λ ids. ids.items) header bytes (option_map (λ text. text.now) c.args.stored) c.from_journal.result (ap (option_map (λ text. text.now)) c.in-Some.is)
    ((starts_is Decides-eqb bytes header c.starts_with.result c.starts_with.ensures.value).0 c.if-starts_with.true) c.from_journal.ensures.kept

pub returns-then-starts_with-clause-fault : goal.returns-then-starts_with-clause-fault
returns-then-starts_with-clause-fault c =
    bad_behind c.args.header.now c.in-Some.bytes.now (option_map (λ text. text.now) c.args.stored) c.from_journal.result (ap (option_map (λ text. text.now)) c.in-Some.is)
    c.from_journal.ensures.fault

pub returns-then-starts_with-clause-another : goal.returns-then-starts_with-clause-another
returns-then-starts_with-clause-another c = own_only c.from_journal.result _ c.from_journal.ensures.own

pub returns-clause-another : goal.returns-clause-another
returns-clause-another c = λ is.
    let header = c.args.header.now in
    let bytes = c.in-Some.bytes.now in
    let own = starts_is Decides-eqb bytes header c.starts_with.result c.starts_with.ensures.value in
    anothers_there header bytes (option_map (λ text. text.now) c.args.stored) (ap (option_map (λ text. text.now)) c.in-Some.is)
    (λ rest begins. let both : false ≡ true = sym c.if-starts_with.false ∙ own.1 rest begins in cc both)
