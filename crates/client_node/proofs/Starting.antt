-- What is read of a store.
use Rattle.std.proofs.Common.{◌≡◌, ℕ, List, ◌++◌, Option, Some, Result, Ok, Err, IfOk, IfErr, ap, length, drop, refl, sym, subst, ◌∙◌}
use Rattle.rows.specs.declared.allocation.AllocId.{AllocId}
use Rattle.journal.specs.Starts.{FaultAt, ReplaysTo}
use Rattle.rows.specs.Fits.{NodeSpecFits}
use Rattle.rows.specs.declared.node.NodeSpec.{NodeSpec}
use Rattle.group_model.specs.Agents.{agent_of}
use Rattle.process_lives.specs.Groups.{IsNodeOf}
use Rattle.client_agent.specs.AgentView.{AgentView}
use Rattle.timers.specs.ClientTimes.{ClientTimes}
use Rattle.client_node.specs.Lives.{BeginsWith, client_header, header_text, node_header}
use Rattle.client_node.specs.Turns.{NodeView}
use Rattle.client_node.specs.Records.{started_replay}
use Rattle.client_node.specs.Starts.{IsAnothers, IsBadStore, IsStored}
use Rattle.client_node.specs.declared.fault.Fault.{Fault}
use Rattle.client_node.specs.declared.fault.Fault.TheVariants as faults

-- what is read behind the header of a store is what the store has
pub stored_behind : {T E : Type 0} (items : T → List AllocId) (header bytes : List ℕ) (stored : Option (List ℕ)) (read : Result T E) → stored ≡ Some bytes
    → bytes ≡ header ++ drop (length header) bytes → IfOk read (λ ids. ReplaysTo started_replay (drop (length header) bytes) (items ids)) → IfOk read (λ ids. IsStored header stored (items ids))
stored_behind items header bytes stored (Err e) is split so = tt
stored_behind items header bytes stored (Ok ids) is split so =
    subst (λ (z : Option (List ℕ)). IsStored header z (items ids)) (sym is) (drop (length header) bytes, split, so)

pub bad_behind : {T : Type 0} (header bytes : List ℕ) (stored : Option (List ℕ)) (r : Result T Fault) → stored ≡ Some bytes
    → IfErr r (λ fault. (place : ℕ) → fault ≡ faults.BadStore place → FaultAt started_replay bytes (length header) place) → IfErr r (λ fault. (place : ℕ) → fault ≡ faults.BadStore place → IsBadStore header stored place)
bad_behind header bytes stored (Ok x) is why = tt
bad_behind header bytes stored (Err fault) is why = λ place e. subst (λ o. IsBadStore header o place) (sym is) (why place e)

-- a journal's own records are not another's
pub own_only : {T : Type 0} (r : Result T Fault) (P : Type 0) → IfErr r (λ fault. fault ≡ faults.Another → ⊥) → IfErr r (λ fault. fault ≡ faults.Another → P)
own_only (Ok x) P never = tt
own_only (Err fault) P never = λ is. absurd (never is)

pub anothers_there : (header bytes : List ℕ) (stored : Option (List ℕ)) → stored ≡ Some bytes → ((rest : List ℕ) → bytes ≡ header ++ rest → ⊥) → IsAnothers header stored
anothers_there header bytes stored is other = subst (λ o. IsAnothers header o) (sym is) other

-- ---- the agent that begins

pub begins : {E : Type 0} (r : Result NodeView E) (size : ℕ) (node : NodeSpec) (header : List ℕ) (store : Option (List ℕ)) (started : List AllocId) (timers : ClientTimes) → NodeSpecFits node → IsStored header store started
    → IfOk r (λ v. (v.timers ≡ timers) × (v.agent ≡ record { size = size; client = record (agent_of node) { started = started } }))
    → IfOk r (λ v. header ≡ node_header size node → (nodes : List NodeSpec) → IsNodeOf nodes node.number node → BeginsWith size nodes node.number store v)
begins (Err e) size node header store started timers fits stored got = tt
begins (Ok v) size node header store started timers fits stored got = λ is nodes of.
    let text : header ≡ header_text size nodes node.number = is ∙ ap (node_header size) of.2 ∙ sym (ap (client_header size) of.1) in
    subst (λ (a : AgentView). BeginsWith size nodes node.number store (record v { agent = a })) (sym got.1)
    (record { member = of; place = (refl, refl); within = fits; life = refl; stored = subst (λ h. IsStored h store started) text stored })
