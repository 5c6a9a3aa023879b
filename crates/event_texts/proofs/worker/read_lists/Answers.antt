use Rattle.std.proofs.Common.{◌∷◌, List, [], arith, decimal, map, rules}
use Rattle.std.specs.List.{AllByRecursion}
use Rattle.rows.specs.Fits.{AllocIdFits}
use Rattle.rows.specs.declared.allocation.AllocId.{AllocId}
use Rattle.rows.specs.declared.plan.Place.{Place}
use Rattle.event_texts.specs.Inner.Plain.{IsNoDash}
use Rattle.event_texts.specs.Laws.PlainTexts.{alloc_plain}
use Rattle.event_texts.specs.WorkerLines.{alloc_text, comma_list, place_text}
use Rattle.event_texts.proofs.CommaLists.{list_lacks, parted_no_dash}
use Rattle.event_texts.proofs.worker.read_lists.Goals as goal

ids_no_dash : (ids : List AllocId) → AllByRecursion (λ id. IsNoDash (alloc_text id)) ids
ids_no_dash [] = tt
ids_no_dash (id ∷ ids) = (parted_no_dash (decimal id.index) _ 46 (λ e. omega arith), ids_no_dash ids)

places_no_dash : (places : List Place) → AllByRecursion (λ place. IsNoDash (place_text place)) places
places_no_dash [] = tt
places_no_dash (place ∷ places) = (parted_no_dash place.group _ 58 (λ e. omega arith), places_no_dash places)

pub returns-in_default-clause-read : goal.returns-in_default-clause-read
returns-in_default-clause-read c stops places s p is =
    absurd (c.in_default.ensures.first (comma_list (map alloc_text stops)) _ (list_lacks AllocIdFits alloc_text alloc_plain stops s.1) is)

pub returns-in_default-2-clause-read : goal.returns-in_default-2-clause-read
returns-in_default-2-clause-read c stops places s p is =
    let first = c.in-Some.ensures.first (comma_list (map alloc_text stops)) _ (list_lacks AllocIdFits alloc_text alloc_plain stops s.1) is in
    let read = c.read_batch.ensures.read stops s (ids_no_dash stops) first.0 in
    search rules

pub returns-in_default-3-clause-read : goal.returns-in_default-3-clause-read
returns-in_default-3-clause-read c stops places s p is =
    let first = c.in-Some.ensures.first (comma_list (map alloc_text stops)) _ (list_lacks AllocIdFits alloc_text alloc_plain stops s.1) is in
    let read = c.read_batch-2.ensures.read places p (places_no_dash places) first.1 in
    search rules

pub returns-clause-read : goal.returns-clause-read
returns-clause-read c stops places s p is =
    let first = c.in-Some.ensures.first (comma_list (map alloc_text stops)) _ (list_lacks AllocIdFits alloc_text alloc_plain stops s.1) is in
    let ids = c.read_batch.ensures.read stops s (ids_no_dash stops) first.0 in
    let rest = c.read_batch-2.ensures.read places p (places_no_dash places) first.1 in
    search rules
