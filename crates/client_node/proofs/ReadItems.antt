-- What is read of an item.
use Rattle.std.proofs.Common.{◌≡◌, ◌≢◌, ◌∙◌, ◌⊎◌, inl, inr, ℕ, Bool, false, true, List, Option, Some, None, Result, Ok, Err, ap, drop, sym, subst}
use Rattle.std.specs.Prelude.{IsUtf8, MatchOption}
use Rattle.rows.specs.declared.refusal.Refusal.{Refusal}
use Rattle.rows.specs.declared.refusal.Refusal.TheVariants as refusals
use Rattle.fields_model.specs.Format.{Refuses}
use Rattle.rows.specs.declared.allocation.AllocId.{AllocId}
use Rattle.group_model.specs.Agents.{Input, End}
use Rattle.group_model.specs.Worlds.{Event, AtClient}
use Rattle.group_inputs.specs.declared.event.Event.{Event as GroupEvent}
use Rattle.group_inputs.specs.Events.{group_event}
use Rattle.event_texts.specs.EventLines.{IsEventLine}
use Rattle.event_texts.proofs.Lines.{printable_is_text}
use Rattle.event_texts.proofs.Printable.{event_printable}
use Rattle.client_node.specs.Inner.Lines.{IsReadAs}
use Rattle.client_node.specs.Inner.Outcomes.{is_memory}
use Rattle.client_node.specs.Items.{IsEnd, begins_with}

-- what is refused was not read
pub refused_unread : {A : Type 0} (cause : Refusal) (reading : Result A ℕ) (x : A) → Refuses ⊥ cause reading → reading ≡ Ok x → ⊥
refused_unread refusals.NoMemory reading x why read = why
refused_unread (refusals.Frame place) reading x why read = let both : Err place ≡ Ok x = sym why ∙ read in cc both
refused_unread _ reading x why read = why

-- each event's line is text
pub no_text_no_line : (line : List ℕ) → (IsUtf8 line → ⊥) → (event : Event) → IsEventLine event line → ⊥
no_text_no_line line none event is = none (subst IsUtf8 (sym is.1) (printable_is_text _ (event_printable event is.0)))

pub apart : (b : Bool) → b ≡ false → b ≡ true → ⊥
apart b off on = let both : false ≡ true = sym off ∙ on in cc both

pub none_there : (cause : Refusal) (line : List ℕ) → is_memory cause ≡ false
    → (cause ≡ refusals.NoMemory) ⊎ ((cause ≡ refusals.Frame 0) × ((event : Event) → IsEventLine event line → ⊥)) → (event : Event) → IsEventLine event line → ⊥
none_there cause line other (inl is) = let both : true ≡ false = sym (ap is_memory is) ∙ other in absurd (cc both)
none_there cause line other (inr why) = why.1

-- ---- an end

abbrev pub IsEndOf : Event → ℕ → Option (AllocId × Bool) → Type 0
IsEndOf event me r = MatchOption r ((id : AllocId) (well : Bool) → event ≡ AtClient me (End id well) → ⊥) (λ (e : AllocId × Bool). event ≡ AtClient me (End e.0 e.1))

pub own_end : (me client : ℕ) (event : Event) (input : Input) (r : Option (AllocId × Bool)) → event ≡ AtClient client input → client ≡ me
    → MatchOption r ((id : AllocId) (well : Bool) → input ≡ End id well → ⊥) (λ (e : AllocId × Bool). input ≡ End e.0 e.1) → IsEndOf event me r
own_end me client event input None is same none = λ id well ends. let both : AtClient client input ≡ AtClient me (End id well) = sym is ∙ ends in let here : input ≡ End id well = cc both in none id well here
own_end me client event input (Some e) is same ends = is ∙ ap (λ n. AtClient n input) same ∙ ap (AtClient me) ends

pub anothers_end : (me client : ℕ) (event : Event) (input : Input) → event ≡ AtClient client input → client ≢ me → IsEndOf event me None
anothers_end me client event input is other = λ id well ends. let both : AtClient client input ≡ AtClient me (End id well) = sym is ∙ ends in let here : client ≡ me = cc both in other here

abbrev pub IsNoEnd : Input → Type 0
IsNoEnd (End id well) = ⊥
IsNoEnd _ = Unit {0}

pub no_end : {a b : Input} → a ≡ b → IsNoEnd b → (id : AllocId) (well : Bool) → a ≡ End id well → ⊥
no_end is none id well ends = subst IsNoEnd (sym is ∙ ends) none

abbrev pub IsNoClients : Event → Type 0
IsNoClients (AtClient client input) = ⊥
IsNoClients _ = Unit {0}

pub no_clients : {a b : Event} (me : ℕ) → a ≡ b → IsNoClients b → IsEndOf a me None
no_clients me is none = λ id well ends. subst IsNoClients (sym is ∙ ends) none

pub end_read : (me : ℕ) (item line : List ℕ) (event : GroupEvent) (r : Option (AllocId × Bool)) → begins_with 69 item ≡ true → line ≡ drop 1 item → IsReadAs line (Some event) → IsEndOf (group_event event) me r
    → MatchOption r ((id : AllocId) (well : Bool) → IsEnd me item id well → ⊥) (λ (e : AllocId × Bool). IsEnd me item e.0 e.1)
end_read me item line event None letter behind read none =
    λ id well is. none id well (read.1 (AtClient me (End id well)) (subst (λ l. IsEventLine (AtClient me (End id well)) l) (sym behind) is.line))
end_read me item line event (Some e) letter behind read ends =
    record { letter = letter; line = subst (λ l. IsEventLine (AtClient me (End e.0 e.1)) l) behind (subst (λ (w : Event). IsEventLine w line) ends read.0) }

pub no_end_read : (me : ℕ) (item line : List ℕ) → line ≡ drop 1 item → IsReadAs line None → (id : AllocId) (well : Bool) → IsEnd me item id well → ⊥
no_end_read me item line behind none id well is = none (AtClient me (End id well)) (subst (λ l. IsEventLine (AtClient me (End id well)) l) (sym behind) is.line)
