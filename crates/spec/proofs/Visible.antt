-- What a run shows; and what the old claims take from the page.
use Rattle.std.proofs.Common.{◌≡◌, ℕ, suc, inl, inr, Some, List, [], ◌∷◌, ◌++◌, length, map, take, refl, sym, ap, ◌∙◌, subst, slice_get}
use Rattle.std.specs.Prelude.{option_map}
use Rattle.rows.specs.declared.node.NodeSpec.{NodeSpec}
use Rattle.rows.specs.declared.command.Command.{Command}
use Rattle.machine_model.specs.declared.entry.Entry.{Entry}
use Rattle.raft_model.specs.Logs.{state_after}
use Rattle.raft_model.specs.Rafts.{is_up}
use Rattle.raft_model.specs.Chains.{Agree}
use Rattle.raft_model.proofs.Cases.{bool_cases}
use Rattle.fsm_model.specs.Words.{no_rows}
use Rattle.fsm_model.specs.SafeFacts.{Safe}
use Rattle.fsm_model.specs.ClusterMachine.{cluster_spec}
use Rattle.group_model.specs.Servers.{Server}
use Rattle.group_model.specs.Worlds as worlds
use Rattle.group_model.specs.Worlds.{World, Event, Run, agents_from}
use Rattle.group_safety.specs.Claims.{OneList, SafeStates, logs}
use Rattle.group_safety.proofs.Lists.{map_append}
use Rattle.raft_safety.proofs.Chains.{chain_one}
use Rattle.spec.specs.Spec.{SpecState, init, state_of, Actions, none}
use Rattle.spec.specs.Visible as showing
use Rattle.spec.specs.Visible.{Visible, Behavior, visible_of}
use Rattle.spec.specs.Refinement.{last_applied_by, state_shown, visible_in, Refines, begins, moves, Shows, ShowsSpec}
use Rattle.spec.proofs.Steps.{then_on, state_same}
use Rattle.spec.proofs.Safety.{safe}
use Rattle.spec.proofs.Runs.{every_run}

-- the last state of a run is one to which the actions lead
refined_acts : (n : ℕ) (nodes : List NodeSpec) (past : List World) (w : World) (g : SpecState) → Refines n nodes past w g → Actions (init n (length nodes)) g
refined_acts n nodes past w g (begins s) = none
refined_acts n nodes past w g (moves {past = ws} {w = v} {g = old} next h r a s) = then_on _ old h (refined_acts n nodes ws v old r) a

-- what a world shows is what the state shows
one_state : (L : List (Entry Command)) (s : Server) → Agree s.raft.commit s.raft.log L → option_map (λ j. state_of (take j L)) (last_applied_by s) ≡ state_shown s
one_state L s a = elim (bool_cases (is_up s.raft.mode)) [
  | inl b ↦ rw b (ap Some (state_same no_rows (take s.raft.commit L) ∙ ap (λ l. state_after cluster_spec l) (sym a.same)))
  | inr b ↦ rw b refl
]

all_states : (L : List (Entry Command)) (ss : List Server) → ((i : ℕ) (s : Server) → slice_get ss i ≡ Some s → Agree s.raft.commit s.raft.log L) → map (option_map (λ j. state_of (take j L))) (map last_applied_by ss) ≡ map state_shown ss
all_states L [] h = refl
all_states L (s ∷ ss) h = (λ j. one_state L s (h 0 s refl) j ∷ all_states L ss (λ i x at. h (suc i) x at) j)

shows_seen : (w : World) (g : SpecState) → Shows w g → visible_of g ≡ visible_in w
shows_seen w g s = (λ j. record {
  states = (ap (map (option_map (λ k. state_of (take k g.log)))) (sym s.servers) ∙ all_states g.log w.servers s.entries) j;
  started = sym s.clients j;
  delivered = sym s.delivered j;
})

showed : (n : ℕ) (nodes : List NodeSpec) (past : List World) (w : World) (g : SpecState) → Refines n nodes past w g → Behavior n (length nodes) (map visible_in (past ++ w ∷ [])) g
showed n nodes past w g (begins s) = subst (λ (x : Visible). Behavior n (length nodes) (x ∷ []) (init n (length nodes))) (shows_seen w g s) showing.begins
showed n nodes past w g (moves {past = ws} {w = v} {g = old} next h r a s) =
    subst (λ l. Behavior n (length nodes) l h) (ap (λ (x : Visible). map visible_in (ws ++ v ∷ []) ++ x ∷ []) (shows_seen next h s) ∙ sym (map_append visible_in (ws ++ v ∷ []) (next ∷ [])))
    (showing.goes (showed n nodes ws v old r) a)

pub shows_spec : (n : ℕ) (nodes : List NodeSpec) (events : List Event) (past : List World) (w : World) → Run n nodes events past w → ShowsSpec n nodes past w
shows_spec n nodes events past w run = let m = every_run n nodes events past w run in (m.last, showed n nodes past w m.last m.refines)

pub states_safe : (n : ℕ) (nodes : List NodeSpec) (events : List Event) (past : List World) (w : World) → Run n nodes events past w → (list : List (Entry Command)) → OneList past w list → SafeStates list
states_safe n nodes events past w run list one k =
    let m = every_run n nodes events past w run in
    let p = safe n (length nodes) m.last (refined_acts n nodes past w m.last m.refines) in
    let same : m.last.log ≡ list = chain_one (logs past) (worlds.raft_of w) m.last.log list m.list one in
    subst (λ l. Safe (state_after cluster_spec (take k l))) same (subst (λ s. Safe s) (state_same no_rows (take k m.last.log)) (p.safe k))
