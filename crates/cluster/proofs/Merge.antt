-- A legal history is a run: the notes of all actors of a group, in the order of their stamps, are
-- events that happen one after the other.
use Rattle.std.proofs.Common.{◌≡◌, ◌≢◌, ℕ, zero, suc, ◌+◌, ◌<◌, List, [], ◌∷◌, ◌++◌, length, Option, Some, Bool, true, false, sym, refl, ap, ◌∙◌, subst, arith, append_assoc, length-append, true≢false, append-nil, eq-eqb}
use Rattle.std.specs.Prelude.{slice_get, cond}
use Rattle.std.specs.List.{AllByRecursion}
use Rattle.std.proofs.lemmas.Bool.{eqb-true, false_from_ne_true}
use Rattle.std.proofs.lemmas.Option.{none-some}
use Rattle.rows.specs.declared.actor.Actor.{Actor}
use Rattle.rows.specs.declared.actor.Actor.TheVariants.{Server, Client}
use Rattle.group_model.specs.Worlds.{Event}
use Rattle.event_book.specs.Actors.{same_actor, lists_actor}
use Rattle.event_book.specs.Histories.{notes_of, NumberedFrom, IsDueEvent, IsDueNote, IsLegal}
use Rattle.event_book.specs.declared.view.EventView.{EventView}
use Rattle.event_book.specs.declared.view.EventView.TheVariants.{Own, Delivery, Crash}
use Rattle.event_book.specs.declared.view.Note.{Note}
use Rattle.event_book.specs.declared.view.Output.{Output}
use Rattle.cells.specs.declared.own_input.OwnInput.{OwnInput}
use Rattle.cluster.proofs.CellWorlds.{Brings, Runs}
use Rattle.cluster.specs.Closing.{sent_before, noted_event, noted_events}

-- the notes of all actors, in the order of their stamps
abbrev pub History : Type 0
History = List (Note OwnInput)

-- ---- runs of a group

-- A group of actors: how an actor steps, and what an event does to a world of all of them.
-- A: actors, W: worlds
pub record Group (A W : Type 0) : Type 1 where
  pub steps : A → EventView OwnInput → List Output → A → Type 0
  pub here : W → Actor → Option A
  pub sent : W → List Output
  pub happens : W → Event → W → Type 0
  -- a step of an actor that is there is an event of the world, and changes that actor alone
  pub takes : (w : W) (a : Actor) (s t : A) (noted : EventView OwnInput) (outputs : List Output) →
      (e : Event) → here w a ≡ Some s → Brings (sent w) a noted e → steps s noted outputs t →
      (v : W) × happens w e v × (here v a ≡ Some t)
      × ((b : Actor) → b ≢ a → here v b ≡ here w b)
      × (sent v ≡ sent w ++ outputs)

module _ {A : Type 0} where
  -- these notes lead an actor from a to b
  abbrev pub Leads : (A → EventView OwnInput → List Output → A → Type 0) → A → History → A → Type 0
  Leads steps a [] b = a ≡ b
  Leads steps a (e ∷ es) b = (c : A) × steps a e.noted.event e.noted.outputs c × Leads steps c es b

-- all outputs, in order of stamp and then of place
abbrev pub sent_by : History → List Output
sent_by [] = []
sent_by (e ∷ es) = e.noted.outputs ++ sent_by es

module _ {A W : Type 0} where
  -- the actor's own notes lead it from where it is in w to where it is at last
  abbrev pub Lead : Group A W → (Actor → Option A) → W → History → Actor → Type 0
  Lead g last w log a =
      (s : A) × (t : A) × (g.here w a ≡ Some s) × (last a ≡ Some t)
      × Leads g.steps s (notes_of a log) t

  abbrev pub AllLead : Group A W → List Actor → History → W → (Actor → Option A) → Type 0
  AllLead g all log w last = (a : Actor) → lists_actor all a ≡ true → Lead g last w log a

  -- the events of the history are a run from w, whose last world has these actors and these outputs
  abbrev pub EndsIn : Group A W → List Actor → History → W → (Actor → Option A) → Type 0
  EndsIn g all log w last =
      (v : W) × Runs g.happens w (noted_events log log) v × (g.sent v ≡ sent_by log)
      × ((a : Actor) → lists_actor all a ≡ true → g.here v a ≡ last a)

-- ---- actors

pub same_actor-refl : (a : Actor) → same_actor a a ≡ true
same_actor-refl (Server i) = eq-eqb i i refl
same_actor-refl (Client c) = eq-eqb c c refl

pub same_actor-true : (a b : Actor) → same_actor a b ≡ true → a ≡ b
same_actor-true (Server m) (Server n) e = ap Server (eqb-true m n e)
same_actor-true (Server m) (Client n) e = absurd (true≢false (sym e))
same_actor-true (Client m) (Server n) e = absurd (true≢false (sym e))
same_actor-true (Client m) (Client n) e = ap Client (eqb-true m n e)

pub same_actor-false : (a b : Actor) → a ≢ b → same_actor a b ≡ false
same_actor-false a b apart =
    false_from_ne_true (same_actor a b) (λ e. apart (same_actor-true a b e))

pub same_actor-apart : (a b : Actor) → same_actor a b ≡ false → a ≢ b
same_actor-apart a b e same = true≢false (sym (same_actor-refl a) ∙ ap (same_actor a) same ∙ e)

-- ---- outputs by stamp and place

get_left : {X : Type 0} (xs ys : List X) (k : ℕ) (x : X) → slice_get xs k ≡ Some x →
    slice_get (xs ++ ys) k ≡ Some x
get_left [] ys k x e = absurd (none-some x e)
get_left (y ∷ xs) ys zero x e = e
get_left (y ∷ xs) ys (suc k) x e = get_left xs ys k x e

get_right : {X : Type 0} (xs ys : List X) (k : ℕ) →
    slice_get (xs ++ ys) (length xs + k) ≡ slice_get ys k
get_right [] ys k = ap (slice_get ys) (omega arith)
get_right (x ∷ xs) ys k =
    let e : length (x ∷ xs) + k ≡ suc (length xs + k) = omega arith in
    ap (slice_get (x ∷ xs ++ ys)) e ∙ get_right xs ys k

sent_more : (xs ys : History) → sent_by (xs ++ ys) ≡ sent_by xs ++ sent_by ys
sent_more [] ys = refl
sent_more (x ∷ xs) ys =
    ap (λ l. x.noted.outputs ++ l) (sent_more xs ys)
    ∙ sym (append_assoc x.noted.outputs (sent_by xs) (sent_by ys))

-- the output at a place of a note of the first list, among all outputs of the first list
sent_at : (pre post : History) (stamp place : ℕ) (f : Note OwnInput) (m : Output) →
    slice_get (pre ++ post) stamp ≡ Some f →
    stamp < length pre →
    slice_get f.noted.outputs place ≡ Some m →
    slice_get (sent_by pre) (sent_before (pre ++ post) stamp + place) ≡ Some m
sent_at [] post stamp place f m at less here = absurd (omega arith)
sent_at (x ∷ xs) post zero place f m at less here =
    let is : x ≡ f = cc in
    let zero_plus : 0 + place ≡ place = omega arith in
    let at_x = ap (λ (n : Note OwnInput). slice_get n.noted.outputs place) is ∙ here in
    ap (slice_get (x.noted.outputs ++ sent_by xs)) zero_plus
    ∙ get_left x.noted.outputs (sent_by xs) place m at_x
sent_at (x ∷ xs) post (suc k) place f m at less here =
    let before = sent_before (xs ++ post) k in
    let size = length x.noted.outputs in
    let moved : (size + before) + place ≡ size + (before + place) = omega arith in
    ap (slice_get (x.noted.outputs ++ sent_by xs)) moved
    ∙ get_right x.noted.outputs (sent_by xs) (before + place)
    ∙ sent_at xs post k place f m at (omega arith) here

-- a due event is an event of a world in which what came before it was sent
brings : (pre post : History) (sent : List Output) (n : ℕ) (a : Actor) →
    (noted : EventView OwnInput) → IsDueEvent (pre ++ post) n a noted → n ≡ length pre →
    sent ≡ sent_by pre →
    Brings sent a noted (noted_event (pre ++ post) a noted)
brings pre post sent n a (Own input) due is so = refl
brings pre post sent n a (Delivery stamp place frame) due is so =
    let k = sent_before (pre ++ post) stamp + place in
    let m : Output = record { to = a; frame = frame } in
    let less = subst (λ x. stamp < x) is due.2 in
    (k, refl, ap (λ l. slice_get l k) so ∙ sent_at pre post stamp place due.0 m due.1 less due.3)
brings pre post sent n a Crash due is so = refl

-- ---- one note after the other

-- the first note is the actor's own, or is not
first_own : (a : Actor) (e : Note OwnInput) (es : History) → same_actor a e.actor ≡ true →
    notes_of a (e ∷ es) ≡ e ∷ notes_of a es
first_own a e es is = ap (λ (b : Bool). cond b (e ∷ notes_of a es) (notes_of a es)) is

not_own : (a : Actor) (e : Note OwnInput) (es : History) → same_actor a e.actor ≡ false →
    notes_of a (e ∷ es) ≡ notes_of a es
not_own a e es is = ap (λ (b : Bool). cond b (e ∷ notes_of a es) (notes_of a es)) is

module _ {A W : Type 0} (g : Group A W) (all : List Actor) (last : Actor → Option A) where
  -- after the event the rest of each actor's notes lead it on
  go_on : (w v : W) (e : Note OwnInput) (es : History) (c t : A) →
      g.here v e.actor ≡ Some c →
      last e.actor ≡ Some t →
      Leads g.steps c (notes_of e.actor es) t →
      ((b : Actor) → b ≢ e.actor → g.here v b ≡ g.here w b) →
      (a : Actor) → Lead g last w (e ∷ es) a → (b : Bool) → same_actor a e.actor ≡ b →
      Lead g last v es a
  go_on w v e es c t at end on others a lead true is =
      subst (λ n. Lead g last v es n) (sym (same_actor-true a e.actor is)) (c, t, at, end, on)
  go_on w v e es c t at end on others a lead false is = (
    lead.0,
    lead.1,
    others a (λ same. same_actor-apart a e.actor is same) ∙ lead.2,
    lead.3,
    subst (λ l. Leads g.steps lead.0 l lead.1) (not_own a e es is) lead.4,
  )

  -- what is left of the history runs on from a world in which what came before it was sent
  replays : (log pre post : History) (w : W) → log ≡ pre ++ post → NumberedFrom (length pre) post →
      AllByRecursion (IsDueNote log) post →
      AllByRecursion (λ (e : Note OwnInput). lists_actor all e.actor ≡ true) post →
      g.sent w ≡ sent_by pre →
      ((a : Actor) → lists_actor all a ≡ true → Lead g last w post a) →
      (v : W) × Runs g.happens w (noted_events log post) v × (g.sent v ≡ sent_by log)
      × ((a : Actor) → lists_actor all a ≡ true → g.here v a ≡ last a)
  replays log pre [] w is numbered due there sent lead = (
    w,
    refl,
    sent ∙ sym (ap sent_by (is ∙ append-nil pre)),
    λ a inn. let l = lead a inn in l.2 ∙ ap Some l.4 ∙ sym l.3,
  )
  replays log pre (e ∷ es) w is numbered due there sent lead =
      let a = e.actor in
      let d = e.noted.event in
      let l : Lead g last w (e ∷ es) a = lead a there.0 in
      let mine = first_own a e es (same_actor-refl a) in
      let steps : Leads g.steps l.0 (e ∷ notes_of a es) l.1 =
      subst (λ x. Leads g.steps l.0 x l.1) mine l.4 in
      let due' : IsDueEvent (pre ++ e ∷ es) e.stamp a d =
      subst (λ x. IsDueEvent x e.stamp a d) is due.0 in
      let b : Brings (g.sent w) a d (noted_event log a d) =
      subst (λ x. Brings (g.sent w) a d (noted_event x a d)) (sym is)
      (brings pre (e ∷ es) (g.sent w) e.stamp a d due' numbered.0 sent) in
      let t = g.takes w a l.0 steps.0 d e.noted.outputs (noted_event log a d) l.2 b steps.1 in
      let v = t.0 in
      let size : suc (length pre) ≡ length (pre ++ e ∷ []) =
      sym (length-append pre (e ∷ []) ∙ omega arith) in
      let so_far : g.sent v ≡ sent_by (pre ++ e ∷ []) =
      t.4 ∙ ap (λ x. x ++ e.noted.outputs) sent
      ∙ ap (λ x. sent_by pre ++ x) (sym (append-nil e.noted.outputs))
      ∙ sym (sent_more pre (e ∷ [])) in
      let rest = replays log (pre ++ e ∷ []) es v (is ∙ sym (append_assoc pre (e ∷ []) es))
      (subst (λ n. NumberedFrom n es) size numbered.1) due.1 there.1 so_far
      (λ n inn.
      go_on w v e es steps.0 l.1 t.2 l.3 steps.2 t.3 n (lead n inn) (same_actor n a) refl) in
      (rest.0, (v, t.1, rest.1), rest.2, rest.3)

-- A legal history whose actors each went by their steps is, in the order of its stamps, a run: its
-- last world has every actor where its own notes leave it.
pub legal_runs : {A W : Type 0} (g : Group A W) (all : List Actor) (log : History) (w : W) →
    (last : Actor → Option A) → IsLegal all log → g.sent w ≡ [] → AllLead g all log w last →
    EndsIn g all log w last
legal_runs g all log w last legal none lead =
    replays g all last log [] log w refl legal.0 legal.1 legal.2 none lead

-- Where each event of a world is an event of each world of the definitions that it stands for, a
-- run is a run of the definitions.
pub lifts : {W X E : Type 0} (happens : W → E → W → Type 0) (models : X → E → X → Type 0) →
    (Stands : W → X → Type 0) →
    ((w v : W) (e : E) (x : X) → happens w e v → Stands w x → (y : X) × models x e y × Stands v y) →
    (es : List E) (w v : W) (x : X) → Runs happens w es v → Stands w x →
    (y : X) × Runs models x es y × Stands v y
lifts happens models Stands step [] w v x run at = (x, refl, subst (λ u. Stands u x) run at)
lifts happens models Stands step (e ∷ es) w v x run at =
    let one = step w run.0 e x run.1 at in
    let rest = lifts happens models Stands step es run.0 v one.0 run.2 one.2 in
    (rest.0, (one.0, one.1, rest.1), rest.2)
