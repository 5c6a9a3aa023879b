-- What the server sends beside the log's messages, and what its desk holds.
use Rattle.std.specs.Prelude.{◌≡◌, ℕ, List, [], ◌∷◌, Option, Ok}
use Rattle.rows.specs.declared.evaluation.EvalId.{EvalId}
use Rattle.rows.specs.declared.token.Token.{Token}
use Rattle.wire.specs.Frames.{Frame}
use Rattle.fsm_model.specs.ClusterMachine.{cluster_spec}
use Rattle.group_model.specs.Messages.{Service, ServiceMessage}
use Rattle.leader.specs.OpenDesks.{OpenDesk, if_open, on_outstanding}
use Rattle.group_frames.specs.GroupFrames.{SendsGroup}

-- the frame of one message was added, and nothing else
abbrev pub SendsOne : List Frame → List Frame → ServiceMessage → Type 0
SendsOne before after message = SendsGroup cluster_spec before after (Service message ∷ [])

-- the pair is outstanding at an open desk, and waits for a state of this index
pub record HasPair (eval : EvalId) (token : Token) (d : Option OpenDesk) : Type 0 where
  pub wait : ℕ
  pub is : if_open (on_outstanding eval token) d ≡ Ok wait
