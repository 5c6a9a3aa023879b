-- The laws of the parts of a frame that are fields by themselves.
use Rattle.std.proofs.Common.{refl}
use Rattle.fields_model.specs.Format.{Lawful}
use Rattle.fields_model.proofs.FormatLaws.{then_lawful, made_lawful, numbered_lawful}
use Rattle.fields_model.proofs.FieldLaws.{term_lawful, index_lawful, bool_lawful}
use Rattle.wire.specs.Grammar.{all_kinds, number_of_kind, kind, vote_request, vote_reply, append_head, append_reply, install_reply}

-- ---- the kind

pub kind_lawful : Lawful kind
kind_lawful = numbered_lawful all_kinds number_of_kind

-- ---- the bodies

pub vote_request_lawful : Lawful vote_request
vote_request_lawful = made_lawful _ _ _ (λ _. refl) (λ _ _. refl) (then_lawful _ _ term_lawful (then_lawful _ _ index_lawful term_lawful))

pub vote_reply_lawful : Lawful vote_reply
vote_reply_lawful = made_lawful _ _ _ (λ _. refl) (λ _ _. refl) (then_lawful _ _ term_lawful (then_lawful _ _ term_lawful bool_lawful))

pub append_head_lawful : Lawful append_head
append_head_lawful = made_lawful _ _ _ (λ _. refl) (λ _ _. refl) (then_lawful _ _ term_lawful (then_lawful _ _ index_lawful (then_lawful _ _ term_lawful index_lawful)))

pub append_reply_lawful : Lawful append_reply
append_reply_lawful = made_lawful _ _ _ (λ _. refl) (λ _ _. refl) (then_lawful _ _ term_lawful (then_lawful _ _ term_lawful (then_lawful _ _ bool_lawful index_lawful)))

pub install_reply_lawful : Lawful install_reply
install_reply_lawful = made_lawful _ _ _ (λ _. refl) (λ _ _. refl) (then_lawful _ _ term_lawful (then_lawful _ _ term_lawful index_lawful))
