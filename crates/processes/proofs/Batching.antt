-- A batch happens as a whole, cut or dropped.
use Rattle.std.proofs.Common.{◌≡◌, ◌≢◌, ◌⊎◌, inl, inr, List, [], ◌∷◌, ◌++◌, map, refl, sym, ap, ◌∙◌, subst, append_assoc, append-nil}
use Rattle.processes.specs.Processes.{Actors, ProcessLife, Killed, Up, Process, ToldActor, told_by, System, Becomes, takes_item, saves, message_leaves, dies}
use Rattle.processes.specs.Claims.{TakesInTurn, took_none, one_more}
use Rattle.processes.specs.Batches.{no_step, then_step, CanBecome, IsBatch, MayHappen}

module _ {K A P I M : Type 0} (actors : Actors K A P I M) (same_name : (j k : K) → (j ≡ k) ⊎ (j ≢ k)) where
  choose : {X : Type 0} (j k : K) → (j ≡ k) ⊎ (j ≢ k) → X → X → X
  choose j k (inl e) x y = x
  choose j k (inr e) x y = y

  chosen : {X : Type 0} (j k : K) (c : (j ≡ k) ⊎ (j ≢ k)) (x y : X) → j ≡ k → choose j k c x y ≡ x
  unfolding choose
  chosen j k (inl e) x y is = refl
  chosen j k (inr e) x y is = absurd (e is)

  passed_over : {X : Type 0} (j k : K) (c : (j ≡ k) ⊎ (j ≢ k)) (x y : X) → j ≢ k → choose j k c x y ≡ y
  unfolding choose
  passed_over j k (inl e) x y other = absurd (other e)
  passed_over j k (inr e) x y other = refl

  -- there is a group in which one process is another
  pub becoming : (g : System actors) (k : K) (store : P) (life : ProcessLife actors) (left : List M) (told : List (ToldActor actors)) → (h : System actors) × Becomes actors g k store life left told h
  becoming g k store life left told =
      let p : Process actors = record { store = store; life = life } in (
        record { process = λ j. choose j k (same_name j k) p (g.process j); left = left; told = told },
        record {
          here = chosen k k (same_name k k) p (g.process k) refl;
          others = λ j other. passed_over j k (same_name j k) p (g.process j) other;
          left_is = refl;
          told_is = refl;
        },
      )

  module _ (k : K) where
    -- the items, one by one
    takes_all : (g : System actors) (store : P) (a b : A) (unsaved : List A) (out : List M) → g.process k ≡ record { store = store; life = Up a [] [] [] } → TakesInTurn actors k g.left a b unsaved out →
        (h : System actors) × CanBecome actors g k store (Up b unsaved out []) g.left h
    takes_all g store a b unsaved out is took_none = (g, (no_step, is, refl))
    takes_all g store a b unsaved out is (one_more {a = old} {unsaved = before} {out = sent_before} input new more t h) =
        let r = takes_all g store a old before sent_before is t in
        let x = r.0 in
        let n = becoming x k store (Up new (before ++ new ∷ []) (sent_before ++ more) []) x.left x.told in
        (n.0, (then_step n.0 r.1.0 (takes_item k store old new before sent_before [] input more n.0 r.1.1 (subst (λ l. actors.Takes l k old input new more) (sym r.1.2) h) n.1), n.1.here, n.1.left_is ∙ r.1.2))

    -- the messages, one by one
    sends_all : (g h : System actors) (store : P) (b : A) (left front back : List M) → CanBecome actors g k store (Up b [] [] (front ++ back)) left h →
        (last : System actors) × CanBecome actors g k store (Up b [] [] back) (left ++ front) last
    sends_all g h store b left [] back r = (h, (r.0, r.1, r.2 ∙ sym (append-nil left)))
    sends_all g h store b left (x ∷ front) back r =
        let n = becoming h k store (Up b [] [] (front ++ back)) (h.left ++ x ∷ []) h.told in
        let q = sends_all g n.0 store b (left ++ x ∷ []) front back (then_step n.0 r.0 (message_leaves k store b [] [] (front ++ back) x n.0 r.1 n.1), n.1.here, n.1.left_is ∙ ap (λ l. l ++ x ∷ []) r.2) in
        (q.0, (q.1.0, q.1.1, q.1.2 ∙ append_assoc left (x ∷ []) front))

    module _ (g : System actors) (a b : A) (unsaved : List A) (out : List M) (batch : IsBatch actors g k a b unsaved out) where
      -- it stores
      stored : (h : System actors) × CanBecome actors g k (actors.stored b) (Up b [] [] out) g.left h
      stored =
          let r = takes_all g (actors.stored a) a b unsaved out batch.is batch.taken in
          let x = r.0 in
          let n = becoming x k (actors.stored b) (Up b [] [] out) x.left (x.told ++ map (told_by actors k) unsaved) in
          (n.0, (then_step n.0 r.1.0 (saves k (actors.stored a) b unsaved out [] n.0 r.1.1 n.1), n.1.here, n.1.left_is ∙ r.1.2))

      -- and it dies
      killed : (h : System actors) (store : P) (c : A) (gone : List A) (held ready left : List M) → CanBecome actors g k store (Up c gone held ready) left h → (last : System actors) × CanBecome actors g k store Killed left last
      killed h store c gone held ready left r =
          let n = becoming h k store Killed h.left h.told in
          (n.0, (then_step n.0 r.0 (dies k store c gone held ready n.0 r.1 n.1), n.1.here, n.1.left_is ∙ r.2))

      pub may_happen : MayHappen actors g k a b unsaved out
      may_happen = record {
        taken =
            let s = stored in
            sends_all g s.0 (actors.stored b) b g.left out [] (subst (λ l. CanBecome actors g k (actors.stored b) (Up b [] [] l) g.left s.0) (sym (append-nil out)) s.1);
        cut = λ front back is.
            let s = stored in
            let r = sends_all g s.0 (actors.stored b) b g.left front back (subst (λ l. CanBecome actors g k (actors.stored b) (Up b [] [] l) g.left s.0) is s.1) in
            killed r.0 (actors.stored b) b [] [] back (g.left ++ front) r.1;
        dropped =
            let r = takes_all g (actors.stored a) a b unsaved out batch.is batch.taken in
            killed r.0 (actors.stored a) b unsaved out [] g.left r.1;
      }
