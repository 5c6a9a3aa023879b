-- A run of processes is a run of the world: what happens to one process is some events of one actor,
-- or none.
use Rattle.std.proofs.Common.{◌≡◌, ◌≢◌, ℕ, suc, ◌≤◌, ◌⊎◌, inl, inr, nat_le, if◌then◌else◌, Option, Some, List, [], ◌∷◌, ◌++◌, map, length, refl, sym, ap, ◌∙◌, subst, arith, slice_get, append_assoc, append-nil}
use Rattle.std.proofs.lemmas.List.{map-append}
use Rattle.std.proofs.lemmas.Bool.Decides.{leb_tells}
use Rattle.raft_safety.proofs.Places.{get-split, get-where, get-more, get-later, get-last, get-one, push_length}
use Rattle.processes.specs.Processes.{Actors, ProcessLife, NotStarted, Killed, Up, Process, IsNotUp, ToldActor, told_by, System, new_system, Becomes, SystemStep, comes_up, takes_item, saves, message_leaves, dies, Execution, begun, continued}
use Rattle.processes.specs.Claims.{Abstraction, OccursIn, TakesInTurn, took_none, one_more, WasAt, RunsAhead, AgreesIn, WereInOrder, Matches, RefinesWorld}
use Rattle.processes.proofs.Simulated.{OneEvent, IsSimulated}

-- what is among some is among more
among_more : {M : Type 0} (sent later others : List M) → later ≡ sent ++ others → (x : M) → OccursIn sent x → OccursIn later x
among_more sent later others e x a = (a.0, ap (λ l. slice_get l a.0) e ∙ get-more sent others a.0 x a.1)

module _ {K A P I M E W : Type 0} (actors : Actors K A P I M) (above : Abstraction K A M E W) (stop : P → A) (Fine : A → Type 0) (law : IsSimulated actors above stop Fine) where
  abbrev Moment : List W → W → ℕ → Option W
  Moment past w l = slice_get (past ++ w ∷ []) l

  abbrev IsAt : List W → W → ℕ → K → A → Type 0
  IsAt past w l k a = WasAt actors above stop past w l k a

  abbrev Agrees : K → W → P → ProcessLife actors → Type 0
  Agrees k w store life = AgreesIn actors above stop k w store life

  -- ---- what was told

  -- these were so in this order, the last of them at this moment or before
  data Tells (past : List W) (w : W) : List (ToldActor actors) → ℕ → Type 0 where
    nobody : Tells past w [] 0
    tells : {ts : List (ToldActor actors)} {l : ℕ} (t : ToldActor actors) (now : ℕ) → Tells past w ts l → l ≤ now → IsAt past w now t.who t.actor → Tells past w (ts ++ t ∷ []) now

  -- they are, and the moment is one of the run
  record Tellings (past : List W) (w : W) (ts : List (ToldActor actors)) : Type 0 where
    last : ℕ
    within : last ≤ length past
    tells : Tells past w ts last

  -- one more, at the last moment
  tells_now : (past : List W) (w : W) (ts : List (ToldActor actors)) (k : K) (a : A) → Tellings past w ts → above.actor w k ≡ Some a → Tellings past w (ts ++ told_by actors k a ∷ [])
  tells_now past w ts k a t here = record {
    last = length past;
    within = omega arith;
    tells = tells (told_by actors k a) (length past) t.tells t.within (record { world = w; world_is = get-last past w; here = here });
  }

  abbrev Keeps : List W → W → List W → W → Type 0
  Keeps past w later last = (l : ℕ) (x : W) → Moment past w l ≡ Some x → Moment later last l ≡ Some x

  tells_kept : (past : List W) (w : W) (later : List W) (last : W) → Keeps past w later last → (ts : List (ToldActor actors)) (l : ℕ) → Tells past w ts l → Tells later last ts l
  tells_kept past w later last kept ts l nobody = nobody
  tells_kept past w later last kept ts l (tells {ts = before} {l = earlier} t now a le at) =
      tells t now (tells_kept past w later last kept before earlier a) le (record { world = at.world; world_is = kept now at.world at.world_is; here = at.here })

  tellings_kept : (past : List W) (w : W) (later : List W) (last : W) → Keeps past w later last → length past ≤ length later → (ts : List (ToldActor actors)) → Tellings past w ts → Tellings later last ts
  tellings_kept past w later last kept longer ts a = record { last = a.last; within = omega (arith, a.within, longer); tells = tells_kept past w later last kept ts a.last a.tells }

  record WasByThen (past : List W) (w : W) (t : ToldActor actors) (last : ℕ) : Type 0 where
    when : ℕ
    by_then : when ≤ last
    at : IsAt past w when t.who t.actor

  tells_one : (past : List W) (w : W) (ts : List (ToldActor actors)) (last : ℕ) → Tells past w ts last → (k : ℕ) (t : ToldActor actors) → slice_get ts k ≡ Some t → WasByThen past w t last
  tells_one past w ts last nobody k t h = absurd (cc)
  tells_one past w ts last (tells {ts = before} {l = earlier} new now a le at) k t h = elim (get-where before (new ∷ []) k t h) [
    | inl e ↦ let q = tells_one past w before earlier a k t e.1 in record { when = q.when; by_then = omega (arith, q.by_then, le); at = q.at }
    | inr e ↦ subst (λ x. WasByThen past w x now) (get-one new e.1.0 t e.1.1) (record { when = now; by_then = omega arith; at = at })
  ]

  tells_two : (past : List W) (w : W) (ts : List (ToldActor actors)) (last : ℕ) → Tells past w ts last → (k l : ℕ) (t u : ToldActor actors) → k ≤ l → slice_get ts k ≡ Some t → slice_get ts l ≡ Some u → WereInOrder actors above stop past w t u
  tells_two past w ts last nobody k l t u order h h2 = absurd (cc)
  tells_two past w ts last (tells {ts = before} {l = earlier} new now a le at) k l t u order h h2 = elim (get-where before (new ∷ []) l u h2) [
    | inl e ↦ elim (get-where before (new ∷ []) k t h) [
      | inl d ↦ tells_two past w before earlier a k l t u order d.1 e.1
      | inr d ↦ absurd (omega (arith, d.0, e.0, order))
    ]
    | inr e ↦
        let q = tells_one past w (before ++ new ∷ []) now (tells new now a le at) k t h in
        subst (λ x. WereInOrder actors above stop past w t x) (get-one new e.1.0 u e.1.1) (record { first = q.when; second = now; order = q.by_then; first_at = q.at; second_at = at })
  ]

  -- ---- the world goes on by events of one actor

  -- actor k alone moved on, by way of these, to this one, and sent this
  record Beyond (k : K) (past : List W) (w : W) (a : A) (unsaved : List A) (out : List M) : Type 0 where
    events : List E
    worlds : List W
    world : W
    reach : above.Reach events worlds world
    here : above.actor world k ≡ Some a
    others : (j : K) → j ≢ k → above.actor world j ≡ above.actor w j
    sent : above.sent world ≡ above.sent w ++ out
    kept : Keeps past w worlds world
    longer : length past ≤ length worlds
    told : (ts : List (ToldActor actors)) → Tellings past w ts → Tellings worlds world (ts ++ map (told_by actors k) unsaved)

  stays : (k : K) (events : List E) (past : List W) (w : W) (a : A) → above.Reach events past w → above.actor w k ≡ Some a → Beyond k past w a [] []
  stays k events past w a reach here = record {
    events = events;
    worlds = past;
    world = w;
    reach = reach;
    here = here;
    others = λ j other. refl;
    sent = sym (append-nil (above.sent w));
    kept = λ l x at. at;
    longer = omega arith;
    told = λ ts t. subst (Tellings past w) (sym (append-nil ts)) t;
  }

  goes_on : (k : K) (past : List W) (w : W) (a : A) (unsaved : List A) (out : List M) (b : Beyond k past w a unsaved out) (c : A) (more : List M) →
      OneEvent actors above stop b.events b.worlds b.world k c more → Beyond k past w c (unsaved ++ c ∷ []) (out ++ more)
  goes_on k past w a unsaved out b c more o =
      let on : Keeps b.worlds b.world (b.worlds ++ b.world ∷ []) o.next = λ l x at. get-more (b.worlds ++ b.world ∷ []) (o.next ∷ []) l x at in
      record {
        events = b.events ++ o.event ∷ [];
        worlds = b.worlds ++ b.world ∷ [];
        world = o.next;
        reach = o.reach;
        here = o.here;
        others = λ j other. o.others j other ∙ b.others j other;
        sent = o.sent_is ∙ (ap (λ l. l ++ more) b.sent ∙ append_assoc (above.sent w) out more);
        kept = λ l x at. on l x (b.kept l x at);
        longer = omega (arith, b.longer, push_length b.worlds b.world);
        told = λ ts t.
            subst (Tellings (b.worlds ++ b.world ∷ []) o.next)
            (append_assoc ts (map (told_by actors k) unsaved) (told_by actors k c ∷ []) ∙ ap (λ l. ts ++ l) (sym (map-append (told_by actors k) unsaved (c ∷ []))))
            (tells_now (b.worlds ++ b.world ∷ []) o.next (ts ++ map (told_by actors k) unsaved) k c
            (tellings_kept b.worlds b.world (b.worlds ++ b.world ∷ []) o.next on (omega (arith, push_length b.worlds b.world)) (ts ++ map (told_by actors k) unsaved) (b.told ts t))
            o.here);
      }

  taken_more : (k : K) (left sent : List M) → ((x : M) → OccursIn left x → OccursIn sent x) → (base a : A) (unsaved : List A) (out : List M) → TakesInTurn actors k left base a unsaved out → TakesInTurn actors k sent base a unsaved out
  taken_more k left sent more base a unsaved out took_none = took_none
  taken_more k left sent more base a unsaved out (one_more {a = old} {unsaved = before} {out = sent_before} input b others t h) =
      one_more input b others (taken_more k left sent more base old before sent_before t) (law.grows left sent k old b input others more h)

  taken_fine : (k : K) (sent : List M) (base a : A) (unsaved : List A) (out : List M) → Fine base → TakesInTurn actors k sent base a unsaved out → Fine a
  taken_fine k sent base a unsaved out fine took_none = fine
  taken_fine k sent base a unsaved out fine (one_more {a = old} {unsaved = before} {out = sent_before} input b others t h) =
      law.fine_takes sent k old b input others (taken_fine k sent base old before sent_before fine t) h

  module _ (k : K) (events : List E) (past : List W) (w : W) (reach : above.Reach events past w) where
    -- What a process took, one event for each item, in a row, and nothing between them: what came to
    -- it had been sent before.
    taken_beyond : (base a : A) (unsaved : List A) (out : List M) → above.actor w k ≡ Some base → TakesInTurn actors k (above.sent w) base a unsaved out → Beyond k past w a unsaved out
    taken_beyond base a unsaved out here took_none = stays k events past w base reach here
    taken_beyond base a unsaved out here (one_more {a = old} {unsaved = before} {out = sent_before} input b others t h) =
        let c = taken_beyond base old before sent_before here t in
        goes_on k past w old before sent_before c b others (law.does c.events c.worlds c.world k old b input others c.reach c.here
        (law.grows (above.sent w) (above.sent c.world) k old b input others (λ x a. among_more (above.sent w) (above.sent c.world) sent_before c.sent x a) h))

  -- ---- the processes

  record Holds (g : System actors) : Type 0 where
    events : List E
    past : List W
    world : W
    reach : above.Reach events past world
    processes : (k : K) → Agrees k world (g.process k).store (g.process k).life
    fine : (k : K) (a : A) → above.actor world k ≡ Some a → IsNotUp actors (g.process k).life ⊎ Fine a
    left : (x : M) → OccursIn g.left x → OccursIn (above.sent world) x
    told : Tellings past world g.told

  record Next (past : List W) (w : W) (g : System actors) : Type 0 where
    holds : Holds g
    kept : Keeps past w holds.past holds.world
    longer : length past ≤ length holds.past

  begins : Holds (new_system actors)
  begins = record {
    events = [];
    past = [];
    world = law.first;
    reach = law.begins;
    processes = λ k. (refl, λ is. law.first_actor k is);
    fine = λ k a h. inl tt;
    left = λ x h. absurd (let e = h.1 in cc);
    told = record { last = 0; within = omega arith; tells = nobody };
  }

  agrees_on : (w v : W) (others : List M) (j : K) → above.sent v ≡ above.sent w ++ others → above.actor v j ≡ above.actor w j → (store : P) (life : ProcessLife actors) → Agrees j w store life → Agrees j v store life
  agrees_on w v others j sent same store NotStarted a = (a.0, λ is. same ∙ a.1 is)
  agrees_on w v others j sent same store Killed a = same ∙ a
  agrees_on w v others j sent same store (Up actor unsaved held ready) a = record {
    base = a.base;
    here = same ∙ a.here;
    stored = a.stored;
    taken = taken_more j (above.sent w) (above.sent v) (λ x h. among_more (above.sent w) (above.sent v) others sent x h) a.base actor unsaved held a.taken;
    sends = λ x h. among_more (above.sent w) (above.sent v) others sent x (a.sends x h);
  }

  module _ (g next : System actors) (H : Holds g) (k : K) where
    -- one process and one actor moved on
    joined : (store : P) (life : ProcessLife actors) (left : List M) (told : List (ToldActor actors)) → Becomes actors g k store life left told next → {a : A} {unsaved : List A} {out : List M} (b : Beyond k H.past H.world a unsaved out) →
        Agrees k b.world store life → (IsNotUp actors life ⊎ Fine a) → ((x : M) → OccursIn left x → OccursIn (above.sent b.world) x) → Tellings b.worlds b.world told → Next H.past H.world next
    joined store life left told c {a} {unsaved} {out} b new fine sent tellings = record {
      holds = record {
        events = b.events;
        past = b.worlds;
        world = b.world;
        reach = b.reach;
        processes = λ j. elim (law.same_name j k) [
          | inl e ↦ subst (λ i. Agrees i b.world (next.process i).store (next.process i).life) (sym e) (subst (λ (p : Process actors). Agrees k b.world p.store p.life) (sym c.here) new)
          | inr e ↦ subst (λ (p : Process actors). Agrees j b.world p.store p.life) (sym (c.others j e)) (agrees_on H.world b.world out j b.sent (b.others j e) (g.process j).store (g.process j).life (H.processes j))
        ];
        fine = λ j x h. elim (law.same_name j k) [
          | inl e ↦
              let same : a ≡ x = some_same a x (sym b.here ∙ (ap (above.actor b.world) (sym e) ∙ h)) in
              subst (λ i. IsNotUp actors (next.process i).life ⊎ Fine x) (sym e) (subst (λ (p : Process actors). IsNotUp actors p.life ⊎ Fine x) (sym c.here) (subst (λ y. IsNotUp actors life ⊎ Fine y) same fine))
          | inr e ↦ subst (λ (p : Process actors). IsNotUp actors p.life ⊎ Fine x) (sym (c.others j e)) (H.fine j x (sym (b.others j e) ∙ h))
        ];
        left = λ x h. sent x (subst (λ l. OccursIn l x) c.left_is h);
        told = subst (Tellings b.worlds b.world) (sym c.told_is) tellings;
      };
      kept = b.kept;
      longer = b.longer;
    }
      where
        some_same : (x y : A) → Some x ≡ Some y → x ≡ y
        some_same x y e = cc

    -- what had left was sent
    left_on : {a : A} {unsaved : List A} {out : List M} (b : Beyond k H.past H.world a unsaved out) → (x : M) → OccursIn g.left x → OccursIn (above.sent b.world) x
    left_on {a} {unsaved} {out} b x h = among_more (above.sent H.world) (above.sent b.world) out b.sent x (H.left x h)

    told_on : {a : A} {unsaved : List A} {out : List M} (b : Beyond k H.past H.world a unsaved out) → Tellings b.worlds b.world g.told
    told_on b = tellings_kept H.past H.world b.worlds b.world b.kept b.longer g.told H.told

    -- a process that begins: nothing was taken
    begun_agrees : (w : W) (p : P) → above.actor w k ≡ Some (actors.restarted p) → Agrees k w p (Up (actors.restarted p) [] [] [])
    begun_agrees w p here = record { base = actors.restarted p; here = here; stored = law.store_begin p; taken = took_none; sends = λ x h. absurd (let e = h.1 in cc) }

    -- It starts: one that never was is as at first, and another restarts.
    starting : (store : P) (life : ProcessLife actors) → actors.IsOne k → IsNotUp actors life → Agrees k H.world store life →
        Becomes actors g k store (Up (actors.restarted store) [] [] []) g.left (g.told ++ told_by actors k (actors.restarted store) ∷ []) next → Next H.past H.world next
    starting store NotStarted is idle a c =
        let b = stays k H.events H.past H.world (actors.restarted store) H.reach (subst (λ s. above.actor H.world k ≡ Some (actors.restarted s)) (sym a.0) (a.1 is)) in
        joined store (Up (actors.restarted store) [] [] []) g.left (g.told ++ told_by actors k (actors.restarted store) ∷ []) c b (begun_agrees b.world store b.here) (inr (law.fine_begin store)) (left_on b)
        (tells_now b.worlds b.world g.told k (actors.restarted store) (told_on b) b.here)
    starting store Killed is idle a c =
        let s = stays k H.events H.past H.world (stop store) H.reach a in
        let b = goes_on k H.past H.world (stop store) [] [] s (actors.restarted store) [] (law.restarts s.events s.worlds s.world k store s.reach s.here) in
        joined store (Up (actors.restarted store) [] [] []) g.left (g.told ++ told_by actors k (actors.restarted store) ∷ []) c b (begun_agrees b.world store b.here) (inr (law.fine_begin store)) (left_on b)
        (b.told g.told H.told)
    starting store (Up actor unsaved held ready) is idle a c = absurd idle

    module _ (store : P) (a : A) (unsaved : List A) (held ready : List M) (is : g.process k ≡ record { store = store; life = Up a unsaved held ready }) where
      ahead : RunsAhead actors above stop k H.world store a unsaved held ready
      ahead = subst (λ (p : Process actors). Agrees k H.world p.store p.life) is (H.processes k)

      base_fine : (x : A) → above.actor H.world k ≡ Some x → Fine x
      base_fine x h = elim (subst (λ (p : Process actors). IsNotUp actors p.life ⊎ Fine x) is (H.fine k x h)) [ inl e ↦ absurd e | inr e ↦ e ]

      -- It takes an item: the world does not know of it yet.
      taking : (b : A) (input : I) (out : List M) → actors.Takes g.left k a input b out →
          Becomes actors g k store (Up b (unsaved ++ b ∷ []) (held ++ out) ready) g.left g.told next → Next H.past H.world next
      taking b input out h c =
          let x = ahead in
          let y = stays k H.events H.past H.world x.base H.reach x.here in
          let on : (z : M) → OccursIn (above.sent H.world) z → OccursIn (above.sent y.world) z = λ z q. among_more (above.sent H.world) (above.sent y.world) [] y.sent z q in
          joined store (Up b (unsaved ++ b ∷ []) (held ++ out) ready) g.left g.told c y
          (record {
            base = x.base;
            here = y.here;
            stored = x.stored;
            taken = one_more input b out (taken_more k (above.sent H.world) (above.sent y.world) on x.base a unsaved held x.taken) (law.grows g.left (above.sent y.world) k a b input out (λ z q. left_on y z q) h);
            sends = λ z q. on z (x.sends z q);
          })
          (inr (base_fine x.base x.here)) (left_on y) (told_on y)

      -- It stores: now all that it took happens in the world.
      saving : Becomes actors g k (actors.stored a) (Up a [] [] (ready ++ held)) g.left (g.told ++ map (told_by actors k) unsaved) next → Next H.past H.world next
      saving c =
          let x = ahead in
          let b = taken_beyond k H.events H.past H.world H.reach x.base a unsaved held x.here x.taken in
          joined (actors.stored a) (Up a [] [] (ready ++ held)) g.left (g.told ++ map (told_by actors k) unsaved) c b
          (record {
            base = a;
            here = b.here;
            stored = refl;
            taken = took_none;
            sends = λ z h. elim (get-split ready held h.0 z h.1) [
              | inl e ↦ among_more (above.sent H.world) (above.sent b.world) held b.sent z (x.sends z (h.0, e))
              | inr e ↦ let q = get-later (above.sent H.world) held e.0 z e.1 in (q.0, ap (λ l. slice_get l q.0) b.sent ∙ q.1)
            ];
          })
          (inr (taken_fine k (above.sent H.world) x.base a unsaved held (base_fine x.base x.here) x.taken)) (left_on b) (b.told g.told H.told)

      -- A message leaves: it was sent when it was stored.
      sending : (message : M) (others : List M) → ready ≡ message ∷ others → Becomes actors g k store (Up a unsaved held others) (g.left ++ message ∷ []) g.told next → Next H.past H.world next
      sending message others same c =
          let x = ahead in
          let y = stays k H.events H.past H.world x.base H.reach x.here in
          let on : (z : M) → OccursIn (above.sent H.world) z → OccursIn (above.sent y.world) z = λ z q. among_more (above.sent H.world) (above.sent y.world) [] y.sent z q in
          let sent : (z : M) → OccursIn (message ∷ others) z → OccursIn (above.sent y.world) z = λ z q. on z (x.sends z (subst (λ l. OccursIn l z) (sym same) q)) in
          joined store (Up a unsaved held others) (g.left ++ message ∷ []) g.told c y
          (record {
            base = x.base;
            here = y.here;
            stored = x.stored;
            taken = taken_more k (above.sent H.world) (above.sent y.world) on x.base a unsaved held x.taken;
            sends = λ z q. sent z (suc q.0, q.1);
          })
          (inr (base_fine x.base x.here))
          (λ z q. elim (get-split g.left (message ∷ []) q.0 z q.1) [
            | inl e ↦ left_on y z (q.0, e)
            | inr e ↦ sent z (0, ap Some (get-one message e.0 z e.1))
          ])
          (told_on y)

      -- It dies: what it took is lost, and the actor that it was crashes.
      dying : Becomes actors g k store Killed g.left g.told next → Next H.past H.world next
      dying c =
          let x = ahead in
          let s = stays k H.events H.past H.world x.base H.reach x.here in
          elim (law.crashes s.events s.worlds s.world k x.base s.reach s.here (base_fine x.base x.here)) [
            | inl e ↦ joined store Killed g.left g.told c s (s.here ∙ ap Some (e ∙ ap stop x.stored)) (inl tt) (left_on s) (told_on s)
            | inr o ↦
                let b = goes_on k H.past H.world x.base [] [] s (stop (actors.stored x.base)) [] o in
                joined store Killed g.left g.told c b (b.here ∙ ap (λ p. Some (stop p)) x.stored) (inl tt) (left_on b) (told_on b)
          ]

  -- whatever happens
  steps : (g : System actors) (H : Holds g) (next : System actors) → SystemStep actors g next → Next H.past H.world next
  steps g H next (comes_up k store life now is here idle c) = starting g next H k store life is idle (subst (λ (p : Process actors). Agrees k H.world p.store p.life) here (H.processes k)) c
  steps g H next (takes_item k store a b unsaved held ready input out now here h c) = taking g next H k store a unsaved held ready here b input out h c
  steps g H next (saves k store a unsaved held ready now here c) = saving g next H k store a unsaved held ready here c
  steps g H next (message_leaves k store a unsaved held ready message now here c) = sending g next H k store a unsaved held (message ∷ ready) here message ready refl c
  steps g H next (dies k store a unsaved held ready now here c) = dying g next H k store a unsaved held ready here c

  -- ---- each moment of the processes is one of the world

  abbrev Likes : List W → W → ℕ → System actors → Type 0
  Likes past w l g = Matches actors above stop past w l g

  record Whole (before : List (System actors)) (g : System actors) : Type 0 where
    holds : Holds g
    place : ℕ → ℕ
    same : (k : ℕ) (x : System actors) → slice_get (before ++ g ∷ []) k ≡ Some x → Likes holds.past holds.world (place k) x
    ordered : (k l : ℕ) → k ≤ l → place k ≤ place l
    within : (k : ℕ) → place k ≤ length holds.past

  like_now : (g : System actors) (H : Holds g) → Likes H.past H.world (length H.past) g
  like_now g H = record { world = H.world; world_is = get-last H.past H.world; processes = H.processes; left = H.left }

  whole : (before : List (System actors)) (g : System actors) → Execution actors before g → Whole before g
  whole before g begun = let H = begins in record {
    holds = H;
    place = λ k. length H.past;
    same = λ k x h. subst (λ y. Likes H.past H.world (length H.past) y) (get-one g k x h) (like_now g H);
    ordered = λ k l le. omega arith;
    within = λ k. omega arith;
  }
  whole before g (continued {past = earlier} {g = last} next c step) =
      let V = whole earlier last c in
      let N = steps last V.holds next step in
      let H = N.holds in
      let place : ℕ → ℕ = λ k. if nat_le k (length earlier) then V.place k else length H.past in
      record {
        holds = H;
        place = place;
        same = λ k x h. elim (get-where (earlier ++ last ∷ []) (next ∷ []) k x h) [
          | inl e ↦
              let a = V.same k x e.1 in
              elim (leb_tells k (length earlier)) [
                | inl b ↦ rw b.0 (record { world = a.world; world_is = N.kept (V.place k) a.world a.world_is; processes = a.processes; left = a.left })
                | inr b ↦ absurd (omega (arith, b.1, e.0, push_length earlier last))
              ]
          | inr e ↦ elim (leb_tells k (length earlier)) [
            | inl b ↦ absurd (omega (arith, b.1, e.0, push_length earlier last))
            | inr b ↦ rw b.0 (subst (λ y. Likes H.past H.world (length H.past) y) (get-one next e.1.0 x e.1.1) (like_now next H))
          ]
        ];
        ordered = λ k l le. elim (leb_tells k (length earlier)) [
          | inl a ↦ elim (leb_tells l (length earlier)) [
            | inl b ↦ rw a.0 (rw b.0 (V.ordered k l le))
            | inr b ↦ rw a.0 (rw b.0 (omega (arith, V.within k, N.longer)))
          ]
          | inr a ↦ elim (leb_tells l (length earlier)) [
            | inl b ↦ absurd (omega (arith, a.1, b.1, le))
            | inr b ↦ rw a.0 (rw b.0 (omega arith))
          ]
        ];
        within = λ k. elim (leb_tells k (length earlier)) [
          | inl a ↦ rw a.0 (omega (arith, V.within k, N.longer))
          | inr a ↦ rw a.0 (omega arith)
        ];
      }

  -- processes are a world
  pub refines : (before : List (System actors)) (g : System actors) → Execution actors before g → RefinesWorld actors above stop before g
  refines before g c =
      let V = whole before g c in
      let H = V.holds in
      record {
        events = H.events;
        past = H.past;
        world = H.world;
        reach = H.reach;
        place = V.place;
        same = V.same;
        ordered = V.ordered;
        told = tells_two H.past H.world g.told H.told.last H.told.tells;
      }
