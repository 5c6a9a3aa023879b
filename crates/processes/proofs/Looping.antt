-- Processes of which each does what it may by itself are a run of processes.
use Rattle.std.proofs.Common.{◌≡◌, ◌≢◌, inl, inr, List, [], ◌∷◌, ◌++◌, map, refl, sym, ap, ◌∙◌, subst}
use Rattle.processes.specs.Processes as processes
use Rattle.processes.specs.Processes.{Actors, Process, told_by, System, SystemStep, begun, continued}
use Rattle.processes.specs.Loops.{Move, left_after, MayMake, may_start, may_read, may_persist, may_send, may_exit, Each, ExecutionTo}

module _ {K A P I M : Type 0} (actors : Actors K A P I M) where
  -- a move of one is a step of all
  move_goes : (moves : List (K × Move A I M)) (k : K) (move : Move A I M) (q p : Process actors) (g : System actors) (process : K → Process actors) → MayMake actors k (left_after moves) q move p →
      g.process k ≡ q → g.left ≡ left_after moves → process k ≡ p → ((j : K) → j ≢ k → process j ≡ g.process j) →
      (h : System actors) × SystemStep actors g h × ((j : K) → h.process j ≡ process j) × (h.left ≡ left_after ((k, move) ∷ moves))
  move_goes moves k move q p g process (may_start store life is idle) was left now others =
      let h : System actors = record { process = process; left = g.left; told = g.told ++ told_by actors k (actors.restarted store) ∷ [] } in
      (h, processes.comes_up k store life h is was idle (record { here = now; others = others; left_is = refl; told_is = refl }), (λ j. refl), left)
  move_goes moves k move q p g process (may_read store a b unsaved held ready input out t) was left now others =
      let h : System actors = record { process = process; left = g.left; told = g.told } in
      (h, processes.takes_item k store a b unsaved held ready input out h was (subst (λ l. actors.Takes l k a input b out) (sym left) t) (record { here = now; others = others; left_is = refl; told_is = refl }), (λ j. refl), left)
  move_goes moves k move q p g process (may_persist store a unsaved held ready) was left now others =
      let h : System actors = record { process = process; left = g.left; told = g.told ++ map (told_by actors k) unsaved } in
      (h, processes.saves k store a unsaved held ready h was (record { here = now; others = others; left_is = refl; told_is = refl }), (λ j. refl), left)
  move_goes moves k move q p g process (may_send store a unsaved held ready message) was left now others =
      let h : System actors = record { process = process; left = g.left ++ message ∷ []; told = g.told } in
      (h, processes.message_leaves k store a unsaved held ready message h was (record { here = now; others = others; left_is = refl; told_is = refl }), (λ j. refl), ap (λ l. l ++ message ∷ []) left)
  move_goes moves k move q p g process (may_exit store a unsaved held ready) was left now others =
      let h : System actors = record { process = process; left = g.left; told = g.told } in
      (h, processes.dies k store a unsaved held ready h was (record { here = now; others = others; left_is = refl; told_is = refl }), (λ j. refl), left)

  -- all moves
  pub execution_to : (moves : List (K × Move A I M)) (process : K → Process actors) → Each actors moves process → ExecutionTo actors moves process
  execution_to [] process each = record { past = []; last = processes.new_system actors; execution = begun; same = λ k. sym (each k); left = refl }
  execution_to ((j, move) ∷ moves) process each =
      let r = execution_to moves (λ k. (each k).0) (λ k. (each k).1) in
      let g = r.last in
      let own : MayMake actors j (left_after moves) (each j).0 move (process j) = elim (each j).2 [ inl e ↦ absurd (e.0 refl) | inr e ↦ e.1 ] in
      let others : (k : K) → k ≢ j → process k ≡ g.process k = λ k other. elim (each k).2 [ inl e ↦ e.1 ∙ sym (r.same k) | inr e ↦ absurd (other (sym e.0)) ] in
      let n = move_goes moves j move (each j).0 (process j) g process own (r.same j) r.left refl others in
      record { past = r.past ++ g ∷ []; last = n.0; execution = continued n.0 r.execution n.1; same = n.2; left = n.3 }
