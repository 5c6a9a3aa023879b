-- What became of tickets, one after the other.
use Rattle.std.proofs.Common.{◌≡◌, ◌∙◌, ◌+◌, ◌<◌, ◌++◌, ◌∷◌, [], ℕ, Bool, false, true, if◌then◌else◌, not, Option, Some, None, List, ap, get_or, length, refl, sym, take}
use Rattle.std.specs.List.{AllByRecursion, cons_option, filter, filter_map}
use Rattle.std.proofs.lemmas.List.{take_more}
use Rattle.std.proofs.lemmas.List.Elements.{filter-append, filter_map-append}
use Rattle.rows.specs.declared.command.Command.{Command}
use Rattle.raft_model.specs.Rafts.{Raft}
use Rattle.raft_core.specs.declared.ticket.ProposalStatus.{ProposalStatus}
use Rattle.group_model.specs.Servers.{Server}
use Rattle.journal.specs.Events.{IoEvent}
use Rattle.server.specs.ServerViews.{ServerView, RefinesServer}
use Rattle.server_node.specs.declared.asked.Asked.{Asked}
use Rattle.server_node.specs.Answers.{IsAnswer, Settles, answer, is_open, is_settled, placed_text, proposal_word, settled, status_of, told_of}

pub settles_none : (server : ServerView) → Settles server [] [] []
settles_none server = record { answers = tt; all = λ s is. refl; others = λ s is. refl }

one_settled : (s : Raft Command) (a : Asked) (status : Option ProposalStatus) → status ≡ status_of s a → is_settled status ≡ true → settled s a ≡ Some (answer a.id (placed_text (proposal_word status) a.index a.term))
one_settled s a status stands is =
    sym (ap (told_of a) stands) ∙ ap (λ b. if b then Some (answer a.id (placed_text (proposal_word status) a.index a.term)) else None) is

one_open : (s : Raft Command) (a : Asked) (status : Option ProposalStatus) → status ≡ status_of s a → is_settled status ≡ false → settled s a ≡ None
one_open s a status stands is =
    sym (ap (told_of a) stands) ∙ ap (λ b. if b then Some (answer a.id (placed_text (proposal_word status) a.index a.term)) else None) is

-- whether it is left
one_left : (s : Raft Command) (a : Asked) (status : Option ProposalStatus) (known : Bool) → status ≡ status_of s a → is_settled status ≡ known → is_open s a ≡ not known
one_left s a status known stands is = sym (ap (λ t. not (is_settled t)) stands) ∙ ap not is

module _ (server : ServerView) (a : Asked) (status : Option ProposalStatus) (stands : (s : Server) → RefinesServer server s → status ≡ status_of s.raft a) where
  pub settles_one : is_settled status ≡ true → Settles server (a ∷ []) (answer a.id (placed_text (proposal_word status) a.index a.term) ∷ []) []
  settles_one is = record {
    answers = ((a.id, placed_text (proposal_word status) a.index a.term, refl), tt);
    all = λ s r. sym (ap (λ o. cons_option o []) (one_settled s.raft a status (stands s r) is));
    others = λ s r. sym (ap (λ b. if b then a ∷ [] else []) (one_left s.raft a status true (stands s r) is));
  }

  pub settles_not : is_settled status ≡ false → Settles server (a ∷ []) [] (a ∷ [])
  settles_not is = record {
    answers = tt;
    all = λ s r. sym (ap (λ o. cons_option o []) (one_open s.raft a status (stands s r) is));
    others = λ s r. sym (ap (λ b. if b then a ∷ [] else []) (one_left s.raft a status false (stands s r) is));
  }

all_both : (P : IoEvent → Type 0) (events more : List IoEvent) → AllByRecursion P events → AllByRecursion P more → AllByRecursion P (events ++ more)
all_both P [] more first rest = rest
all_both P (event ∷ events) more first rest = (first.0, all_both P events more first.1 rest)

pub settles_both : (server : ServerView) (first next : List Asked) (told more : List IoEvent) (left others : List Asked) → Settles server first told left → Settles server next more others → Settles server (first ++ next) (told ++ more) (left ++ others)
settles_both server first next told more left others one two = record {
  answers = all_both IsAnswer told more one.answers two.answers;
  all = λ s r. ap (λ l. l ++ more) (one.all s r) ∙ ap (λ l. filter_map (settled s.raft) first ++ l) (two.all s r) ∙ sym (filter_map-append (settled s.raft) first next);
  others = λ s r. ap (λ l. l ++ others) (one.others s r) ∙ ap (λ l. filter (is_open s.raft) first ++ l) (two.others s r) ∙ sym (filter-append (is_open s.raft) first next);
}

pub tickets_longer : (asked : List Asked) (i : ℕ) (a : Asked) → i < length asked → a ≡ get_or asked i a → take i asked ++ a ∷ [] ≡ take (i + 1) asked
tickets_longer asked i a within at = sym (take_more asked i a within ∙ ap (λ z. take i asked ++ z ∷ []) (sym at))
