-- What one step is to a process that is up after it; and what an actor was that has not died since
-- is told, or is to be told.
use Rattle.std.proofs.Common.{◌≡◌, ◌≢◌, ◌⊎◌, inl, inr, ℕ, zero, suc, Some, None, List, [], ◌∷◌, ◌++◌, map, refl, sym, ap, ◌∙◌, subst, slice_get, append-nil}
use Rattle.raft_safety.proofs.Places.{get-more, get-later}
use Rattle.processes.specs.Processes.{Actors, ProcessLife, NotStarted, Killed, Up, up_with, IsNotUp, Process, ToldActor, told_by, System, Becomes, SystemStep, comes_up, takes_item, saves, message_leaves, dies, Execution, begun, continued}
use Rattle.processes.specs.Claims.{OccursIn}

pub mapped_get : {X Y : Type 0} (f : X → Y) (xs : List X) (i : ℕ) (x : X) → slice_get xs i ≡ Some x → slice_get (map f xs) i ≡ Some (f x)
mapped_get f [] i x at = let none : None ≡ Some x = at in absurd (cc none)
mapped_get f (y ∷ xs) zero x at = let same : y ≡ x = cc at in ap (λ z. Some (f z)) same
mapped_get f (y ∷ xs) (suc i) x at = mapped_get f xs i x at

pub occurs_more : {X : Type 0} (xs ys : List X) (x : X) → OccursIn xs x → OccursIn (xs ++ ys) x
occurs_more xs ys x a = (a.0, get-more xs ys a.0 x a.1)

pub occurs_later : {X : Type 0} (xs ys : List X) (x : X) → OccursIn ys x → OccursIn (xs ++ ys) x
occurs_later xs ys x a = get-later xs ys a.0 x a.1

module _ {K A P I M : Type 0} (actors : Actors K A P I M) (same_name : (j k : K) → (j ≡ k) ⊎ (j ≢ k)) (k : K) where
  -- it was told, or is to be told when the process next saves
  abbrev pub Known : System actors → List A → A → Type 0
  Known g unsaved x = OccursIn g.told (told_by actors k x) ⊎ OccursIn unsaved x

  abbrev pub IsUp : System actors → P → A → List A → List M → List M → Type 0
  IsUp g store a unsaved held ready = g.process k ≡ up_with actors store a unsaved held ready

  -- what is known once it is saved
  pub known_told : (told : List (ToldActor actors)) (unsaved : List A) (x : A) → OccursIn told (told_by actors k x) ⊎ OccursIn unsaved x → OccursIn (told ++ map (told_by actors k) unsaved) (told_by actors k x)
  known_told told unsaved x (inl was) = occurs_more told (map (told_by actors k) unsaved) (told_by actors k x) was
  known_told told unsaved x (inr is) = occurs_later told (map (told_by actors k) unsaved) (told_by actors k x) (is.0, mapped_get (told_by actors k) unsaved is.0 x is.1)

  -- a process that is up after a step came up by it, or was up before it
  pub data WasBefore (g next : System actors) (b : A) (unsaved : List A) : Type 0 where
    came : (store : P) → actors.restarted store ≡ b → IsNotUp actors (g.process k).life → Known next unsaved b → WasBefore g next b unsaved
    went : (store : P) (a : A) (before : List A) (held ready : List M) → IsUp g store a before held ready → ((x : A) → Known g before x → Known next unsaved x) →
        (a ≡ b) ⊎ ((input : I) × (out : List M) × actors.Takes g.left k a input b out × Known next unsaved b) → WasBefore g next b unsaved

  module _ (g next : System actors) (store : P) (b : A) (unsaved : List A) (held ready : List M) (now : IsUp next store b unsaved held ready) where
    -- another process went on
    passed : (j : K) (at_store : P) (life : ProcessLife actors) (left : List M) (told more : List (ToldActor actors)) → told ≡ g.told ++ more → Becomes actors g j at_store life left told next → k ≢ j → WasBefore g next b unsaved
    passed j at_store life left told more grew c other =
        went store b unsaved held ready (sym (c.others k other) ∙ now)
        (λ x was. elim was [
          | inl e ↦ inl (subst (λ t. OccursIn t (told_by actors k x)) (sym (c.told_is ∙ grew)) (occurs_more g.told more (told_by actors k x) e))
          | inr e ↦ inr e
        ])
        (inl refl)

    -- what it became is what it is
    became : (j : K) (at_store : P) (a : A) (before : List A) (at_held at_ready : List M) (left : List M) (told : List (ToldActor actors)) → Becomes actors g j at_store (Up a before at_held at_ready) left told next → k ≡ j → (a ≡ b) × (before ≡ unsaved)
    became j at_store a before at_held at_ready left told c e =
        let both : up_with actors at_store a before at_held at_ready ≡ up_with actors store b unsaved held ready = sym c.here ∙ ap next.process (sym e) ∙ now in
        let life : Up a before at_held at_ready ≡ Up b unsaved held ready = ap (λ (p : Process actors). p.life) both in
        (cc life, cc life)

    pub step_before : SystemStep actors g next → WasBefore g next b unsaved
    step_before (comes_up j at_store life last is here idle c) = elim (same_name k j) [
      | inr other ↦ passed j at_store (Up (actors.restarted at_store) [] [] []) g.left (g.told ++ told_by actors j (actors.restarted at_store) ∷ []) (told_by actors j (actors.restarted at_store) ∷ []) refl c other
      | inl e ↦
          let is_now = became j at_store (actors.restarted at_store) [] [] [] g.left (g.told ++ told_by actors j (actors.restarted at_store) ∷ []) c e in
          let a = actors.restarted at_store in
          let told : OccursIn next.told (told_by actors j a) = subst (λ t. OccursIn t (told_by actors j a)) (sym c.told_is) (occurs_later g.told (told_by actors j a ∷ []) (told_by actors j a) (0, refl)) in
          came at_store is_now.0 (subst (λ (p : Process actors). IsNotUp actors p.life) (sym (ap g.process e ∙ here)) idle)
          (inl (subst (λ y. OccursIn next.told (told_by actors k y)) is_now.0 (subst (λ i. OccursIn next.told (told_by actors i a)) (sym e) told)))
    ]
    step_before (takes_item j at_store a new before at_held at_ready input out last here t c) = elim (same_name k j) [
      | inr other ↦ passed j at_store (Up new (before ++ new ∷ []) (at_held ++ out) at_ready) g.left g.told [] (sym (append-nil g.told)) c other
      | inl e ↦
          let is_now = became j at_store new (before ++ new ∷ []) (at_held ++ out) at_ready g.left g.told c e in
          went at_store a before at_held at_ready (ap g.process e ∙ here)
          (λ x was. elim was [
            | inl d ↦ inl (subst (λ t. OccursIn t (told_by actors k x)) (sym c.told_is) d)
            | inr d ↦ inr (subst (λ l. OccursIn l x) is_now.1 (occurs_more before (new ∷ []) x d))
          ])
          (inr (
            input,
            out,
            subst (λ y. actors.Takes g.left k a input y out) is_now.0 (subst (λ i. actors.Takes g.left i a input new out) (sym e) t),
            inr (subst (λ l. OccursIn l b) is_now.1 (subst (λ y. OccursIn (before ++ new ∷ []) y) is_now.0 (occurs_later before (new ∷ []) new (0, refl)))),
          ))
    ]
    step_before (saves j at_store a before at_held at_ready last here c) = elim (same_name k j) [
      | inr other ↦ passed j (actors.stored a) (Up a [] [] (at_ready ++ at_held)) g.left (g.told ++ map (told_by actors j) before) (map (told_by actors j) before) refl c other
      | inl e ↦
          let is_now = became j (actors.stored a) a [] [] (at_ready ++ at_held) g.left (g.told ++ map (told_by actors j) before) c e in
          went at_store a before at_held at_ready (ap g.process e ∙ here)
          (λ x was. inl (subst (λ t. OccursIn t (told_by actors k x)) (sym (c.told_is ∙ ap (λ i. g.told ++ map (told_by actors i) before) (sym e))) (known_told g.told before x was)))
          (inl is_now.0)
    ]
    step_before (message_leaves j at_store a before at_held at_ready message last here c) = elim (same_name k j) [
      | inr other ↦ passed j at_store (Up a before at_held at_ready) (g.left ++ message ∷ []) g.told [] (sym (append-nil g.told)) c other
      | inl e ↦
          let is_now = became j at_store a before at_held at_ready (g.left ++ message ∷ []) g.told c e in
          went at_store a before at_held (message ∷ at_ready) (ap g.process e ∙ here)
          (λ x was. elim was [
            | inl d ↦ inl (subst (λ t. OccursIn t (told_by actors k x)) (sym c.told_is) d)
            | inr d ↦ inr (subst (λ l. OccursIn l x) is_now.1 d)
          ])
          (inl is_now.0)
    ]
    step_before (dies j at_store a before at_held at_ready last here c) = elim (same_name k j) [
      | inr other ↦ passed j at_store Killed g.left g.told [] (sym (append-nil g.told)) c other
      | inl e ↦
          let both : record { store = at_store; life = Killed } ≡ up_with actors store b unsaved held ready = sym c.here ∙ ap next.process (sym e) ∙ now in
          let life : Killed ≡ Up b unsaved held ready = ap (λ (p : Process actors). p.life) both in
          absurd (cc life)
    ]

  known_by : (g next : System actors) (b : A) (unsaved : List A) → ((store : P) (a : A) (before : List A) (held ready : List M) → IsUp g store a before held ready → Known g before a)
      → WasBefore g next b unsaved → Known next unsaved b
  known_by g next b unsaved earlier (came store begun_so idle is) = is
  known_by g next b unsaved earlier (went store a before held ready was kept (inl same)) = subst (λ y. Known next unsaved y) same (kept a (earlier store a before held ready was))
  known_by g next b unsaved earlier (went store a before held ready was kept (inr t)) = t.3

  -- the actor of a process that is up
  pub known_now : (past : List (System actors)) (g : System actors) → Execution actors past g → (store : P) (b : A) (unsaved : List A) (held ready : List M) → IsUp g store b unsaved held ready → Known g unsaved b
  known_now past g begun store b unsaved held ready now =
      let life : NotStarted ≡ Up b unsaved held ready = ap (λ (p : Process actors). p.life) now in
      absurd (cc life)
  known_now past g (continued {past = earlier} {g = last} next e step) store b unsaved held ready now =
      known_by last next b unsaved (λ at_store a before at_held at_ready was. known_now earlier last e at_store a before at_held at_ready was) (step_before last next store b unsaved held ready now step)
