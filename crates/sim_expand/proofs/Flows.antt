-- Which lines are those of flows.
use Rattle.std.proofs.Common.{◌≡◌, ◌∙◌, ◌==◌, ◌++◌, ℕ, Bool, true, false, Option, Some, None, List, ap, arith, codes, decimal, get_or, inl, inr, length, refl, subst, sym, unwrap_or}
use Rattle.std.proofs.lemmas.Fmt.{decimal_injective}
use Rattle.std.proofs.lemmas.List.{append_cancel_left}
use Rattle.group_model.specs.Agents as agents
use Rattle.group_model.specs.Inputs as inputs
use Rattle.group_model.specs.Worlds.{Event, Deliver, AtServer, AtClient}
use Rattle.event_texts.specs.EventLines.{HasLine, ServerInputHasLine, event_line}
use Rattle.sim_scenario.specs.Steps.{Flow, IsLine}
use Rattle.sim_expand.specs.Counts.{IsFlow, IsMost, IsNoFlow}
use Rattle.sim_expand.specs.ShortSteps.{Short, AsItStands, Settles, Elects}

not_same : true ≡ false → ⊥
not_same same = cc same

-- the third letter of `flow` is an o
pub third_letter : (line : List ℕ) → (get_or line 2 0 == 111) ≡ false → IsNoFlow line
third_letter line other None is = not_same (subst (λ l. (get_or l 2 0 == 111) ≡ false) is other)
third_letter line other (Some count) is = not_same (subst (λ l. (get_or l 2 0 == 111) ≡ false) is.1 other)

server_no_flow : (server : ℕ) (input : inputs.Input) → ServerInputHasLine input → IsNoFlow (event_line (AtServer server input))
server_no_flow server (inputs.Arrives message) has = absurd has
server_no_flow server inputs.Timeout has = third_letter (event_line (AtServer server inputs.Timeout)) refl
server_no_flow server inputs.Beat has = third_letter (event_line (AtServer server inputs.Beat)) refl
server_no_flow server (inputs.Request request) has = third_letter (event_line (AtServer server (inputs.Request request))) refl
server_no_flow server (inputs.TakeFrom to) has = third_letter (event_line (AtServer server (inputs.TakeFrom to))) refl
server_no_flow server (inputs.SubmitTo to plan) has = third_letter (event_line (AtServer server (inputs.SubmitTo to plan))) refl
server_no_flow server (inputs.FinishAt to eval token outcome) has = third_letter (event_line (AtServer server (inputs.FinishAt to eval token outcome))) refl
server_no_flow server (inputs.NackAt to eval token) has = third_letter (event_line (AtServer server (inputs.NackAt to eval token))) refl
server_no_flow server inputs.PlanTurn has = third_letter (event_line (AtServer server inputs.PlanTurn)) refl
server_no_flow server (inputs.Lapse eval) has = third_letter (event_line (AtServer server (inputs.Lapse eval))) refl
server_no_flow server (inputs.Expire node beats) has = third_letter (event_line (AtServer server (inputs.Expire node beats))) refl
server_no_flow server (inputs.DrainTurn node) has = third_letter (event_line (AtServer server (inputs.DrainTurn node))) refl
server_no_flow server inputs.FreeTurn has = third_letter (event_line (AtServer server inputs.FreeTurn)) refl
server_no_flow server inputs.Reap has = third_letter (event_line (AtServer server inputs.Reap)) refl
server_no_flow server inputs.Compact has = third_letter (event_line (AtServer server inputs.Compact)) refl
server_no_flow server inputs.Crash has = third_letter (event_line (AtServer server inputs.Crash)) refl
server_no_flow server inputs.Restart has = third_letter (event_line (AtServer server inputs.Restart)) refl

client_no_flow : (client : ℕ) (input : agents.Input) → IsNoFlow (event_line (AtClient client input))
client_no_flow client (agents.Arrives from response) = third_letter (event_line (AtClient client (agents.Arrives from response))) refl
client_no_flow client (agents.RegisterAt server) = third_letter (event_line (AtClient client (agents.RegisterAt server))) refl
client_no_flow client (agents.Ping server) = third_letter (event_line (AtClient client (agents.Ping server))) refl
client_no_flow client (agents.PullFrom server) = third_letter (event_line (AtClient client (agents.PullFrom server))) refl
client_no_flow client (agents.End id ok) = third_letter (event_line (AtClient client (agents.End id ok))) refl
client_no_flow client agents.Crash = third_letter (event_line (AtClient client agents.Crash)) refl
client_no_flow client agents.Restart = third_letter (event_line (AtClient client agents.Restart)) refl

-- the line of an event is no flow's
pub event_no_flow : (event : Event) → HasLine event → IsNoFlow (event_line event)
event_no_flow (Deliver place) has = third_letter (event_line (Deliver place)) refl
event_no_flow (AtServer server input) has = server_no_flow server input has.1
event_no_flow (AtClient client input) has = client_no_flow client input

-- ---- how many lines a step comes to

same_flow : (line : List ℕ) (a b : Option ℕ) → IsLine (Flow a) line → IsLine (Flow b) line → a ≡ b
same_flow line None None is too = refl
same_flow line None (Some n) is too =
    let lengths : length (codes "flow") ≡ length (codes "flow " ++ decimal n) = ap length (sym is ∙ too.1) in
    absurd (omega (arith, lengths))
same_flow line (Some m) None is too =
    let lengths : length (codes "flow") ≡ length (codes "flow " ++ decimal m) = ap length (sym too ∙ is.1) in
    absurd (omega (arith, lengths))
same_flow line (Some m) (Some n) is too =
    let same : decimal m ≡ decimal n = append_cancel_left (codes "flow ") (decimal m) (decimal n) (sym is.1 ∙ too.1) in
    ap (λ k. Some k) (decimal_injective m n is.0 too.0 same)

same_most_of_flow : (line : List ℕ) (a b : ℕ) → IsFlow line a → IsFlow line b → a ≡ b
same_most_of_flow line a b is too = is.2 ∙ ap (λ count. unwrap_or count 10000) (same_flow line is.0 too.0 is.1 too.1) ∙ sym too.2

pub same_most : (behind : Bool) (step : Short) (a b : ℕ) → IsMost behind step a → IsMost behind step b → a ≡ b
same_most false (AsItStands line) a b is too = is ∙ sym too
same_most true (AsItStands line) a b (inl is) (inl too) = same_most_of_flow line a b is too
same_most true (AsItStands line) a b (inl is) (inr too) = absurd (too.0 is.0 is.1)
same_most true (AsItStands line) a b (inr is) (inl too) = absurd (is.0 too.0 too.1)
same_most true (AsItStands line) a b (inr is) (inr too) = is.1 ∙ sym too.1
same_most behind (Settles count) a b is too = is ∙ sym too
same_most behind Elects a b is too = is ∙ sym too

pub most_before : (behind : Bool) (line : List ℕ) (most : ℕ) → behind ≡ false → IsMost behind (AsItStands line) most → most ≡ 1
most_before behind line most before is = rw before at is

pub most_of_other : (behind : Bool) (line : List ℕ) (most : ℕ) → behind ≡ true → IsNoFlow line → IsMost behind (AsItStands line) most → most ≡ 1
most_of_other behind line most after other is = same_most true (AsItStands line) most 1 (rw after at is) (inr (other, refl))

pub most_of_flow : (behind : Bool) (line : List ℕ) (flow most : ℕ) → behind ≡ true → IsFlow line flow → IsMost behind (AsItStands line) most → most ≡ flow
most_of_flow behind line flow most after own is = same_most true (AsItStands line) most flow (rw after at is) (inl own)
