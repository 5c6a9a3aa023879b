-- What a client receives is what the frame says.
use Rattle.std.proofs.Common.{◌≡◌, ℕ, true, is_some, Option, Some, None, List, refl, subst}
use Rattle.rows.specs.declared.command.Command.{Command}
use Rattle.rows.specs.declared.listing.ListedAllocation.{ListedAllocation}
use Rattle.wire.specs.Frames.{Frame}
use Rattle.wire.specs.declared.body.Body.{Body}
use Rattle.wire.specs.declared.body.Body.TheVariants as bodies
use Rattle.fsm_model.specs.Words.{State}
use Rattle.group_model.specs.Messages.{ServiceMessage, ToClient, ClientResponse, Told}
use Rattle.group_model.specs.Agents.{Arrives}
use Rattle.client_agent.specs.AgentView.{AgentView}
use Rattle.client_agent.specs.Steps.{AgentSteps}
use Rattle.client_agent.specs.Inner.Received.{TakesReceived}
use Rattle.client_agent.proofs.Taking.{told_by}

-- ---- what is taken of it

same_from : {i j c : ℕ} {r q : ClientResponse} → (let m : Option ServiceMessage = Some (ToClient i c r) in m ≡ Some (ToClient j c q)) → i ≡ j
same_from h = cc

same_response : {i j c : ℕ} {r q : ClientResponse} → (let m : Option ServiceMessage = Some (ToClient i c r) in m ≡ Some (ToClient j c q)) → r ≡ q
same_response h = cc

no_response : {j c : ℕ} {q : ClientResponse} → (let m : Option ServiceMessage = None in m ≡ Some (ToClient j c q)) → ⊥
no_response h = cc

-- anything else
pub takes_other : (old : AgentView) (i : ℕ) (body : Body State Command) (all : List Frame) → is_some old.client.life ≡ true →
    ((index : ℕ) (rows : List ListedAllocation) → body ≡ bodies.List index rows → ⊥) → TakesReceived old (record { from = i; body = body }) old all all
takes_other old i (bodies.List index rows) all up other from response of = absurd (other index rows refl)
takes_other old i (bodies.Told kind refused) all up other from response of =
    subst (λ (r : ClientResponse). AgentSteps old (Arrives from r) old all all) (same_response of)
    (subst (λ (j : ℕ). AgentSteps old (Arrives j (Told kind refused)) old all all) (same_from of) (told_by old i kind refused all up))
takes_other old i _ all up other from response of = absurd (no_response of)
