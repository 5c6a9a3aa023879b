-- How a server stands.
use Rattle.std.proofs.Common.{◌≡◌, ◌∙◌, ◌++◌, ℕ, Bool, false, true, if◌then◌else◌, List, [], ap, refl, sym}
use Rattle.std.specs.Prelude.{codes}
use Rattle.rows.specs.Versions.{newest}
use Rattle.rows.specs.declared.command.Command.{Command}
use Rattle.fields_model.specs.StateText.{state}
use Rattle.fsm_model.specs.Words.{State}
use Rattle.raft_model.specs.Rafts.{Raft, is_up}
use Rattle.group_model.specs.Desks.{applied_state}
use Rattle.server_node.specs.Answers.{applied_by, state_text, unread_text}

module _ (s : Raft Command) where
  pub applied_up : (n : ℕ) → is_up s.mode ≡ true → n ≡ s.commit → n ≡ applied_by s
  applied_up n up is = is ∙ sym (ap (λ b. if b then s.commit else 0) up)

  pub applied_down : is_up s.mode ≡ false → 0 ≡ applied_by s
  applied_down down = sym (ap (λ b. if b then s.commit else 0) down)

  abbrev shown : Bool → List ℕ
  shown up = if up then (state newest).text (applied_state s) else []

  pub state_up : (value : State) (old text : List ℕ) → is_up s.mode ≡ true → value ≡ applied_state s → old ≡ [] → text ≡ old ++ (state newest).text value → text ≡ state_text s
  state_up value old text up is none put = put ∙ ap (λ l. l ++ (state newest).text value) none ∙ ap (state newest).text is ∙ sym (ap shown up)

  pub state_down : (text : List ℕ) → is_up s.mode ≡ false → text ≡ [] → text ≡ state_text s
  state_down text down none = none ∙ sym (ap shown down)

pub unread_is : codes "no request to this server" ≡ unread_text
unfolding unread_text
unread_is = refl
