-- Steps of one process, in an execution of all.
use Rattle.std.proofs.Common.{◌≡◌, ◌≢◌, ◌∙◌, ◌⊎◌, inl, inr, List, [], ◌∷◌, ◌++◌, map, refl, sym, ap, subst}
use Rattle.processes.specs.Processes.{Actors, ProcessLife, Killed, Up, Process, IsNotUp, ToldActor, told_by, up_with, System, SystemStep, Becomes, comes_up, takes_item, saves, message_leaves, dies, Execution, continued}
use Rattle.processes.specs.Claims.{TakesInTurn, took_none, one_more}
use Rattle.processes.proofs.Batching.{becoming as next_system}

module _ {K A Q I M : Type 0} (actors : Actors K A Q I M) (same_name : (j k : K) → (j ≡ k) ⊎ (j ≢ k)) where
  pub choose : {X : Type 0} (j k : K) → (j ≡ k) ⊎ (j ≢ k) → X → X → X
  choose j k (inl e) x y = x
  choose j k (inr e) x y = y

  pub chosen : {X : Type 0} (j k : K) (c : (j ≡ k) ⊎ (j ≢ k)) (x y : X) → j ≡ k → choose j k c x y ≡ x
  unfolding choose
  chosen j k (inl e) x y is = refl
  chosen j k (inr e) x y is = absurd (e is)

  pub passed_over : {X : Type 0} (j k : K) (c : (j ≡ k) ⊎ (j ≢ k)) (x y : X) → j ≢ k → choose j k c x y ≡ y
  unfolding choose
  passed_over j k (inl e) x y other = absurd (other e)
  passed_over j k (inr e) x y other = refl

  -- an execution that came to a system in which the process of this name is this one, these
  -- messages left and this was told, and the other processes are as in the first system
  pub record By (k : K) (g : System actors) (p : Process actors) (left : List M) (told : List (ToldActor actors)) : Type 0 where
    pub past : List (System actors)
    pub last : System actors
    pub execution : Execution actors past last
    pub here : last.process k ≡ p
    pub others : (j : K) → j ≢ k → last.process j ≡ g.process j
    pub left_is : last.left ≡ left
    pub told_is : last.told ≡ told

  pub nothing_yet : (k : K) (past : List (System actors)) (g : System actors) → Execution actors past g → By k g (g.process k) g.left g.told
  nothing_yet k past g e = record { past = past; last = g; execution = e; here = refl; others = λ j other. refl; left_is = refl; told_is = refl }

  module _ (k : K) (g : System actors) (p : Process actors) (left : List M) (told : List (ToldActor actors)) (by : By k g p left told) where
    -- one step more
    becoming : (store : Q) (life : ProcessLife actors) (more : List M) (tells : List (ToldActor actors))
        → ((h : System actors) → Becomes actors by.last k store life more tells h → SystemStep actors by.last h) → By k g (record { store = store; life = life }) more tells
    becoming store life more tells step =
        let new : Process actors = record { store = store; life = life } in
        let next : System actors = record { process = λ j. choose j k (same_name j k) new (by.last.process j); left = more; told = tells } in
        let others : (j : K) → j ≢ k → next.process j ≡ by.last.process j = λ j other. passed_over j k (same_name j k) new (by.last.process j) other in
        let here : next.process k ≡ new = chosen k k (same_name k k) new (by.last.process k) refl in
        record {
          past = by.past ++ by.last ∷ [];
          last = next;
          execution = continued next by.execution (step next (record { here = here; others = others; left_is = refl; told_is = refl }));
          here = here;
          others = λ j other. others j other ∙ by.others j other;
          left_is = refl;
          told_is = refl;
        }

    pub start_up : (store : Q) (life : ProcessLife actors) → p ≡ record { store = store; life = life } → actors.IsOne k → IsNotUp actors life
        → By k g (up_with actors store (actors.restarted store) [] [] []) left (told ++ told_by actors k (actors.restarted store) ∷ [])
    start_up store life is one idle =
        becoming store (Up (actors.restarted store) [] [] []) left (told ++ told_by actors k (actors.restarted store) ∷ [])
        (λ h b. comes_up k store life h one (by.here ∙ is) idle (record {
          here = b.here;
          others = b.others;
          left_is = b.left_is ∙ sym by.left_is;
          told_is = b.told_is ∙ ap (λ t. t ++ told_by actors k (actors.restarted store) ∷ []) (sym by.told_is);
        }))

    pub take_one : (store : Q) (a b : A) (unsaved : List A) (held ready : List M) (input : I) (out : List M) → p ≡ up_with actors store a unsaved held ready → actors.Takes left k a input b out
        → By k g (up_with actors store b (unsaved ++ b ∷ []) (held ++ out) ready) left told
    take_one store a b unsaved held ready input out is takes =
        becoming store (Up b (unsaved ++ b ∷ []) (held ++ out) ready) left told
        (λ h n. takes_item k store a b unsaved held ready input out h (by.here ∙ is) (subst (λ l. actors.Takes l k a input b out) (sym by.left_is) takes)
        (record { here = n.here; others = n.others; left_is = n.left_is ∙ sym by.left_is; told_is = n.told_is ∙ sym by.told_is }))

    pub save_all : (store : Q) (a : A) (unsaved : List A) (held ready : List M) → p ≡ up_with actors store a unsaved held ready
        → By k g (up_with actors (actors.stored a) a [] [] (ready ++ held)) left (told ++ map (told_by actors k) unsaved)
    save_all store a unsaved held ready is =
        becoming (actors.stored a) (Up a [] [] (ready ++ held)) left (told ++ map (told_by actors k) unsaved)
        (λ h n. saves k store a unsaved held ready h (by.here ∙ is)
        (record { here = n.here; others = n.others; left_is = n.left_is ∙ sym by.left_is; told_is = n.told_is ∙ ap (λ t. t ++ map (told_by actors k) unsaved) (sym by.told_is) }))

    pub send_one : (store : Q) (a : A) (unsaved : List A) (held ready : List M) (message : M) → p ≡ up_with actors store a unsaved held (message ∷ ready)
        → By k g (up_with actors store a unsaved held ready) (left ++ message ∷ []) told
    send_one store a unsaved held ready message is =
        becoming store (Up a unsaved held ready) (left ++ message ∷ []) told
        (λ h n. message_leaves k store a unsaved held ready message h (by.here ∙ is)
        (record { here = n.here; others = n.others; left_is = n.left_is ∙ ap (λ l. l ++ message ∷ []) (sym by.left_is); told_is = n.told_is ∙ sym by.told_is }))

    pub die : (store : Q) (a : A) (unsaved : List A) (held ready : List M) → p ≡ up_with actors store a unsaved held ready → By k g (record { store = store; life = Killed }) left told
    die store a unsaved held ready is =
        becoming store Killed left told
        (λ h n. dies k store a unsaved held ready h (by.here ∙ is)
        (record { here = n.here; others = n.others; left_is = n.left_is ∙ sym by.left_is; told_is = n.told_is ∙ sym by.told_is }))

    -- the same, of a process that is said otherwise
    pub renamed : (q : Process actors) → p ≡ q → By k g q left told
    renamed q is = record { past = by.past; last = by.last; execution = by.execution; here = by.here ∙ is; others = by.others; left_is = by.left_is; told_is = by.told_is }

-- in some execution, in which these messages left, the process of this name is up and this actor
pub record IsReached {K A Q I M : Type 0} (actors : Actors K A Q I M) (k : K) (left : List M) (a : A) : Type 0 where
  pub past : List (System actors)
  pub last : System actors
  pub execution : Execution actors past last
  pub store : Q
  pub unsaved : List A
  pub held : List M
  pub ready : List M
  pub here : last.process k ≡ up_with actors store a unsaved held ready
  pub left_is : last.left ≡ left

-- and so is what it becomes by what may come
pub reach_on : {K A Q I M : Type 0} (actors : Actors K A Q I M) (same_name : (j k : K) → (j ≡ k) ⊎ (j ≢ k)) (k : K) (left : List M) (a b : A) (more : List A) (out : List M) → IsReached actors k left a → TakesInTurn actors k left a b more out → IsReached actors k left b
reach_on actors same_name k left a b more out r took_none = r
reach_on actors same_name k left a b more out r (one_more {a = mid} {unsaved = before} {out = sent_before} input new others t takes) =
    let m = reach_on actors same_name k left a mid before sent_before r t in
    let h = next_system actors same_name m.last k m.store (Up new (m.unsaved ++ new ∷ []) (m.held ++ others) m.ready) m.last.left m.last.told in
    record {
      past = m.past ++ m.last ∷ [];
      last = h.0;
      execution = continued h.0 m.execution (takes_item k m.store mid new m.unsaved m.held m.ready input others h.0 m.here (subst (λ l. actors.Takes l k mid input new others) (sym m.left_is) takes) h.1);
      store = m.store;
      unsaved = m.unsaved ++ new ∷ [];
      held = m.held ++ others;
      ready = m.ready;
      here = h.1.here;
      left_is = h.1.left_is ∙ m.left_is;
    }
