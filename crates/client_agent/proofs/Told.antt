-- What is reported of the listed ones, one after the other.
use Rattle.std.proofs.Common.{◌≡◌, ◌≤◌, ℕ, suc, ◌+◌, ◌-◌, ◌<◌, List, [], Some, ◌∷◌, ◌++◌, length, take, drop, get_or, ap, sym, ◌∙◌, arith}
use Rattle.std.proofs.lemmas.List.{length-take, append_assoc, length_push, at_drop_more}
use Rattle.std.specs.List.{filter_map, cons_option}
use Rattle.rows.specs.declared.listing.ListedAllocation.{ListedAllocation}
use Rattle.rows.specs.declared.command.Report.{Report}
use Rattle.group_model.specs.Agents.{Started, Ended, news_of, news, state_to_report}

-- all of it, however much that is
abbrev pub told_of : Started → List Ended → List ListedAllocation → List Report
told_of s ended rows = filter_map (λ (r : ListedAllocation). news_of r (state_to_report s ended r.id)) rows

-- the next row, of which this is told
pub said_row : (s : Started) (ended : List Ended) (rows : List ListedAllocation) (i : ℕ) (r : ListedAllocation) (item : Report) → i < length rows → r ≡ get_or rows i r → Some item ≡ news_of r (state_to_report s ended r.id) → told_of s ended (drop i rows) ≡ item ∷ told_of s ended (drop (i + 1) rows)
said_row s ended rows i r item lt e told =
    at_drop_more (told_of s ended) rows i r lt
    ∙ ap (λ (x : ListedAllocation). told_of s ended (x ∷ drop (i + 1) rows)) (sym e)
    ∙ ap (λ o. cons_option o (told_of s ended (drop (i + 1) rows))) (sym told)

-- one more report is taken of at most 64
pub one_taken : (items : List Report) (item : Report) (rest : List Report) → length items < 64 → items ++ take (64 - length items) (item ∷ rest) ≡ (items ++ item ∷ []) ++ take (64 - length (items ++ item ∷ [])) rest
one_taken items item rest lt =
    let longer = length_push items item in
    let more : 64 - length items ≡ suc (64 - length (items ++ item ∷ [])) = omega (arith, longer) in
    ap (λ n. items ++ take n (item ∷ rest)) more ∙ sym (append_assoc items (item ∷ []) (take (64 - length (items ++ item ∷ [])) rest))

pub few_news : (s : Started) (ended : List Ended) (rows : List ListedAllocation) → length (news s ended rows) ≤ 64
few_news s ended rows = omega (arith, length-take 64 (told_of s ended rows))
