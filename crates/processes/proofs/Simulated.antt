-- What a world has to have so that processes of its actors refine it.
use Rattle.std.proofs.Common.{◌≡◌, ◌≢◌, ◌⊎◌, Some, List, [], ◌∷◌, ◌++◌}
use Rattle.processes.specs.Processes.{Actors}
use Rattle.processes.specs.Claims.{Abstraction, OccursIn}

module _ {K A P I M E W : Type 0} (actors : Actors K A P I M) (above : Abstraction K A M E W) (stop : P → A) where
  -- one event more, by which the actor of this name alone changed, and sent this
  pub record OneEvent (events : List E) (past : List W) (w : W) (k : K) (b : A) (out : List M) : Type 0 where
    pub event : E
    pub next : W
    pub reach : above.Reach (events ++ event ∷ []) (past ++ w ∷ []) next
    pub here : above.actor next k ≡ Some b
    pub others : (j : K) → j ≢ k → above.actor next j ≡ above.actor w j
    pub sent_is : above.sent next ≡ above.sent w ++ out

  pub record IsSimulated (Fine : A → Type 0) : Type 0 where
    pub same_name : (j k : K) → (j ≡ k) ⊎ (j ≢ k)
    -- before the first event all have an empty store, and are up
    pub first : W
    pub begins : above.Reach [] [] first
    pub first_actor : (k : K) → actors.IsOne k → above.actor first k ≡ Some (actors.restarted (actors.initial k))
    -- what may come where some messages left may come where these and others did
    pub grows : (left sent : List M) (k : K) (a b : A) (input : I) (out : List M) → ((x : M) → OccursIn left x → OccursIn sent x) → actors.Takes left k a input b out → actors.Takes sent k a input b out
    -- who takes an item makes an event
    pub does : (events : List E) (past : List W) (w : W) (k : K) (a b : A) (input : I) (out : List M) → above.Reach events past w → above.actor w k ≡ Some a → actors.Takes (above.sent w) k a input b out → OneEvent events past w k b out
    -- an actor crashes, unless it is stopped already
    pub crashes : (events : List E) (past : List W) (w : W) (k : K) (a : A) → above.Reach events past w → above.actor w k ≡ Some a → Fine a → (a ≡ stop (actors.stored a)) ⊎ OneEvent events past w k (stop (actors.stored a)) []
    -- one that is stopped restarts
    pub restarts : (events : List E) (past : List W) (w : W) (k : K) (p : P) → above.Reach events past w → above.actor w k ≡ Some (stop p) → OneEvent events past w k (actors.restarted p) []
    pub store_begin : (p : P) → actors.stored (actors.restarted p) ≡ p
    pub fine_begin : (p : P) → Fine (actors.restarted p)
    pub fine_takes : (sent : List M) (k : K) (a b : A) (input : I) (out : List M) → Fine a → actors.Takes sent k a input b out → Fine b
