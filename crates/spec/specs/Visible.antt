-- What is visible of a group from outside, moment by moment, and that it is the specification's.
use Rattle.std.specs.Prelude.{ℕ, Option, option_map, List, [], ◌∷◌, ◌++◌, map, take}
use Rattle.rows.specs.declared.evaluation.EvalId.{EvalId}
use Rattle.rows.specs.declared.allocation.AllocId.{AllocId}
use Rattle.rows.specs.declared.token.Token.{Token}
use Rattle.fsm_model.specs.Words.{State}
use Rattle.spec.specs.Spec.{SpecState, init, state_of, Actions}

-- the state of each server, none while it is down; the allocations that each client ever started;
-- and the evaluations that were ever delivered to workers, with their tokens
pub record Visible : Type 0 where
  pub states : List (Option State)
  pub started : List (List AllocId)
  pub delivered : List (EvalId × Token)

abbrev pub visible_of : SpecState → Visible
visible_of g = record {
  states = map (option_map (λ k. state_of (take k g.log))) g.last_applied;
  started = g.started;
  delivered = g.delivered;
}

-- What servers and clients show at each moment is what states of the specification show, which go
-- on by its actions; the last state is g. Between two moments lie any number of actions, of which
-- nothing is seen: a server may have crashed there and restarted, with less than it had applied.
pub data Behavior (servers clients : ℕ) : List Visible → SpecState → Type 0 where
  begins : Behavior servers clients (visible_of (init servers clients) ∷ []) (init servers clients)
  goes : {shown : List Visible} {g h : SpecState} →
      Behavior servers clients shown g → Actions g h →
      Behavior servers clients (shown ++ visible_of h ∷ []) h
