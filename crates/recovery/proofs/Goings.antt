-- Parts of a value's run, one after the other.
use Rattle.std.proofs.Common.{◌≡◌, ℕ, suc, ◌+◌, ◌-◌, ◌<◌, inl, inr, Ok, List, [], ◌∷◌, ◌++◌, length, refl, sym, ap, ◌∙◌, subst, arith, append_assoc}
use Rattle.std.proofs.lemmas.Bool.Decides.{leb_tells}
use Rattle.machine_model.specs.MachineSpec.{MachineSpec}
use Rattle.raft_model.specs.Worlds.{World, Event, happens}
use Rattle.raft_progress.proofs.Moves.{Reached}
use Rattle.world.proofs.Runs.{ends_alike, no_end}
use Rattle.recovery.specs.declared.unsettled.Unsettled.{Unsettled}
use Rattle.recovery.specs.declared.unsettled.Unsettled.TheVariants.{NoQuorum, Exhausted, NoMemory, Crashed}
use Rattle.recovery.specs.Inner.Drives.{Drive, LawfulDrive, EverOf, Ever, KnownOf, Known, Trail, trail_here, trail_on, Drove, WentOf, Went, FellAfter, Halts}

pub nil_end : {A : Type 0} (l : List A) → l ≡ l ++ []
nil_end [] = refl
nil_end (x ∷ l) = ap (λ z. x ∷ z) (nil_end l)

module _ {V S C : Type 0} (m : MachineSpec S C) (d : Drive V S C) (dl : LawfulDrive m d) where
  -- ---- paths

  abbrev log_sent : d.Moment → ℕ
  log_sent w = length (let x = d.log w in x.sent)

  -- the last event of a path
  pub record LastStep (w : d.Moment) (taken : List d.Own) (es : List (Event C)) (f : Event C) (v : d.Moment) : Type 0 where
    pub before : d.Moment
    pub own : d.Own
    pub earlier : List d.Own
    pub path : Trail d w earlier es before
    pub step : d.Step before own f v
    pub taken_are : taken ≡ earlier ++ own ∷ []

  pub last_step : (w : d.Moment) (taken : List d.Own) (all : List (Event C)) (v : d.Moment) → Trail d w taken all v → (es : List (Event C)) (f : Event C) → all ≡ es ++ f ∷ [] → LastStep w taken es f v
  last_step w taken all v trail_here es f h = absurd (no_end es f (sym h))
  last_step w taken all v (trail_on {taken = ts} {es = fs} {x = x} e g y q s) es f h =
      let a = ends_alike fs es g f h in
      record {
        before = x;
        own = e;
        earlier = ts;
        path = subst (λ l. Trail d w ts l x) a.0 q;
        step = subst (λ z. d.Step x e z v) a.1 s;
        taken_are = refl;
      }

  pub trail_nil : (w : d.Moment) (taken : List d.Own) (all : List (Event C)) (v : d.Moment) → Trail d w taken all v → all ≡ [] → (taken ≡ []) × (v ≡ w)
  trail_nil w taken all v trail_here h = (refl, refl)
  trail_nil w taken all v (trail_on {taken = ts} {es = fs} {x = x} e g y q s) h = absurd (no_end fs g h)

  pub trail_one : (w : d.Moment) (taken : List d.Own) (f : Event C) (v : d.Moment) → Trail d w taken (f ∷ []) v → happens m (d.log w) f ≡ Ok (d.log v)
  trail_one w taken f v p =
      let l = last_step w taken (f ∷ []) v p [] f refl in
      let none = trail_nil w l.earlier [] l.before l.path refl in
      subst (λ z. happens m (d.log z) f ≡ Ok (d.log v)) none.1 (dl.step_log l.before l.own f v l.step)

  -- one after another
  pub trail_more : (w : d.Moment) (ts : List d.Own) (es : List (Event C)) (x : d.Moment) → Trail d w ts es x → (us : List d.Own) (fs : List (Event C)) (v : d.Moment) → Trail d x us fs v → Trail d w (ts ++ us) (es ++ fs) v
  trail_more w ts es x p us fs v trail_here = subst (λ l. Trail d w l (es ++ []) v) (nil_end ts) (subst (λ l. Trail d w ts l v) (nil_end es) p)
  trail_more w ts es x p us fs v (trail_on {taken = us2} {es = fs2} {x = y} e f z q s) =
      subst (λ l. Trail d w l (es ++ (fs2 ++ f ∷ [])) v) (append_assoc ts us2 (e ∷ []))
      (subst (λ l. Trail d w ((ts ++ us2) ++ e ∷ []) l v) (append_assoc es fs2 (f ∷ [])) (trail_on e f v (trail_more w ts es x p us2 fs2 y q) s))

  -- as many messages of the log were sent as messages at all
  pub trail_sent : (w : d.Moment) (ts : List d.Own) (es : List (Event C)) (v : d.Moment) → Trail d w ts es v → d.sent v + log_sent w ≡ d.sent w + log_sent v
  trail_sent w ts es v trail_here = refl
  trail_sent w ts es v (trail_on {taken = ts2} {es = es2} {x = x} e f z q s) = omega (arith, trail_sent w ts2 es2 x q, dl.step_sent x e f v s)

  -- and a message keeps its place
  pub trail_keeps : (w : d.Moment) (ts : List d.Own) (es : List (Event C)) (v : d.Moment) → Trail d w ts es v → (q p : ℕ) → d.At w q p → d.At v q p
  trail_keeps w ts es v trail_here q p h = h
  trail_keeps w ts es v (trail_on {taken = ts2} {es = es2} {x = x} e f z a s) q p h = dl.step_at x e f v s q p (trail_keeps w ts2 es2 x a q p h)

  -- a message that was sent on the way
  pub trail_at : (w : d.Moment) (ts : List d.Own) (es : List (Event C)) (v : d.Moment) → Trail d w ts es v → (j : ℕ) → d.sent w + j < d.sent v → d.At v (d.sent w + j) (log_sent w + j)
  trail_at w ts es v trail_here j less = absurd (omega (arith, less))
  trail_at w ts es v (trail_on {taken = ts2} {es = es2} {x = x} e f z a s) j less = elim (leb_tells (suc (d.sent w + j)) (d.sent x)) [
    | inl k ↦ dl.step_at x e f v s (d.sent w + j) (log_sent w + j) (trail_at w ts2 es2 x a j k.1)
    | inr k ↦
        let more : ℕ = (d.sent w + j) - d.sent x in
        let at : d.sent x + more ≡ d.sent w + j = omega (arith, k.1) in
        let there : log_sent x + more ≡ log_sent w + j = omega (arith, k.1, trail_sent w ts2 es2 x a) in
        subst (λ q. d.At v q (log_sent w + j)) at (subst (λ p. d.At v (d.sent x + more) p) there (dl.step_new x e f v s more (omega (arith, at, less))))
  ]

  pub drove_none : (w : d.Moment) (R : List (Event C) → World C → World C → Type 0) → R [] (d.log w) (d.log w) → Drove d [] w w R
  drove_none w R r = record { events = []; path = trail_here; told = r }

  pub drove_more : (ts us : List d.Own) (w x v : d.Moment) (R1 R2 R : List (Event C) → World C → World C → Type 0) (a : Drove d ts w x R1) (b : Drove d us x v R2) → R (a.events ++ b.events) (d.log w) (d.log v) → Drove d (ts ++ us) w v R
  drove_more ts us w x v R1 R2 R a b r = record { events = a.events ++ b.events; path = trail_more w ts a.events x a.path us b.events v b.path; told = r }

  -- ---- runs

  pub reached : (view : V) (past : List d.Moment) (w : d.Moment) → d.Runs view past w → Reached m (d.size view) (d.log w)
  reached view past w r = let q = dl.run view past w r in record { events = q.0; past = q.1; run = q.2 }

  -- what is so of one run is so of all
  pub known_by : (view : V) (P : d.Moment → Type 0) (past : List d.Moment) (w : d.Moment) → d.Runs view past w → P w → KnownOf d view P
  known_by view P past w r p = record { past = past; moment = w; runs = r; ever = λ past2 w2 r2. subst (λ z. P z) (dl.one view past past2 w w2 r r2) p }

  pub known_more : (view : V) (P Q : d.Moment → Type 0) → KnownOf d view P → ((w : d.Moment) → Reached m (d.size view) (d.log w) → P w → Q w) → KnownOf d view Q
  known_more view P Q k f = record { past = k.past; moment = k.moment; runs = k.runs; ever = λ past w r. f w (reached view past w r) (k.ever past w r) }

  -- what is known, and one thing more
  pub known_with : (view : V) (P Q : d.Moment → Type 0) → KnownOf d view P → EverOf d view Q → KnownOf d view (λ w. P w × Q w)
  known_with view P Q k f = record { past = k.past; moment = k.moment; runs = k.runs; ever = λ past w r. (k.ever past w r, f past w r) }

  -- and of what it goes on to
  pub known_after : (old new : V) (P Q : d.Moment → Type 0) (R : List d.Own → d.Moment → d.Moment → Type 0) → KnownOf d old P → WentOf d old new R →
      ((ts : List d.Own) (w v : d.Moment) → Reached m (d.size old) (d.log w) → Reached m (d.size old) (d.log v) → P w → R ts w v → Q v) → KnownOf d new Q
  known_after old new P Q R k g f =
      let went = g.1 in
      let n = went.runs k.past k.moment k.runs in
      let there = subst (λ z. Reached m z (d.log n.1)) went.size (reached new (k.past ++ n.0) n.1 n.2) in
      known_by new Q (k.past ++ n.0) n.1 n.2 (f g.0 k.moment n.1 (reached old k.past k.moment k.runs) there (k.ever k.past k.moment k.runs) n.3)

  -- nothing happened
  pub went_none : (view : V) (R : List d.Own → d.Moment → d.Moment → Type 0) (P : d.Moment → Type 0) → KnownOf d view P → ((w : d.Moment) → Reached m (d.size view) (d.log w) → P w → R [] w w) → WentOf d view view R
  went_none view R P k f = (
    [],
    record {
      size = refl;
      stays = dl.stays_here view;
      trace = nil_end (d.trace view);
      runs = λ past w r. ([], w, subst (λ l. d.Runs view l w) (nil_end past) r, f w (reached view past w r) (k.ever past w r));
    },
  )

  -- one part after another
  pub went_more : (old mid new : V) (P : d.Moment → Type 0) (R1 R2 R : List d.Own → d.Moment → d.Moment → Type 0) → KnownOf d old P → WentOf d old mid R1 → WentOf d mid new R2 →
      ((ts us : List d.Own) (w x v : d.Moment) → Reached m (d.size old) (d.log w) → Reached m (d.size old) (d.log x) → Reached m (d.size old) (d.log v) → P w → R1 ts w x → R2 us x v → R (ts ++ us) w v) → WentOf d old new R
  went_more old mid new P R1 R2 R k a b f =
      let one = a.1 in
      let two = b.1 in (
        a.0 ++ b.0,
        record {
          size = two.size ∙ one.size;
          stays = dl.stays_on old mid new one.stays two.stays;
          trace = two.trace ∙ (ap (λ l. l ++ b.0) one.trace ∙ append_assoc (d.trace old) a.0 b.0);
          runs = λ past w r.
              let x = one.runs past w r in
              let v = two.runs (past ++ x.0) x.1 x.2 in
              let at_x = subst (λ z. Reached m z (d.log x.1)) one.size (reached mid (past ++ x.0) x.1 x.2) in
              let at_v = subst (λ z. Reached m z (d.log v.1)) (two.size ∙ one.size) (reached new ((past ++ x.0) ++ v.0) v.1 v.2) in
              (x.0 ++ v.0, v.1, subst (λ l. d.Runs new l v.1) (append_assoc past x.0 v.0) v.2, f a.0 b.0 w x.1 v.1 (reached old past w r) at_x at_v (k.ever past w r) x.3 v.3);
        },
      )

  pub went_as : (old new : V) (P : d.Moment → Type 0) (R1 R : List d.Own → d.Moment → d.Moment → Type 0) → KnownOf d old P → WentOf d old new R1 →
      ((ts : List d.Own) (w v : d.Moment) → Reached m (d.size old) (d.log w) → Reached m (d.size old) (d.log v) → P w → R1 ts w v → R ts w v) → WentOf d old new R
  went_as old new P R1 R k a f =
      let one = a.1 in (
        a.0,
        record {
          size = one.size;
          stays = one.stays;
          trace = one.trace;
          runs = λ past w r.
              let x = one.runs past w r in
              let at_x = subst (λ z. Reached m z (d.log x.1)) one.size (reached new (past ++ x.0) x.1 x.2) in
              (x.0, x.1, x.2, f a.0 w x.1 (reached old past w r) at_x (k.ever past w r) x.3);
        },
      )

  pub went_with : (old new : V) (R : List d.Own → d.Moment → d.Moment → Type 0) (Q : d.Moment → Type 0) → WentOf d old new R → EverOf d new Q → WentOf d old new (λ ts w v. R ts w v × Q v)
  went_with old new R Q g f =
      let one = g.1 in (
        g.0,
        record {
          size = one.size;
          stays = one.stays;
          trace = one.trace;
          runs = λ past w r. let x = one.runs past w r in (x.0, x.1, x.2, (x.3, f (past ++ x.0) x.1 x.2));
        },
      )

  -- ---- the log's part of them

  pub goes_none : (view : V) (R : List (Event C) → World C → World C → Type 0) (P : World C → Type 0) → Known d view P → ((w : World C) → Reached m (d.size view) w → P w → R [] w w) → Went d view view R
  goes_none view R P k f = went_none view (λ ts w v. Drove d ts w v R) (λ w. P (d.log w)) k (λ w r p. drove_none w R (f (d.log w) r p))

  pub goes_more : (old mid new : V) (P : World C → Type 0) (R1 R2 R : List (Event C) → World C → World C → Type 0) → Known d old P → Went d old mid R1 → Went d mid new R2 →
      ((es fs : List (Event C)) (w x v : World C) → Reached m (d.size old) w → Reached m (d.size old) x → Reached m (d.size old) v → P w → R1 es w x → R2 fs x v → R (es ++ fs) w v) → Went d old new R
  goes_more old mid new P R1 R2 R k a b f = went_more old mid new (λ w. P (d.log w)) (λ ts w v. Drove d ts w v R1) (λ ts w v. Drove d ts w v R2) (λ ts w v. Drove d ts w v R) k a b
      (λ ts us w x v rw rx rv p g h. drove_more ts us w x v R1 R2 R g h (f g.events h.events (d.log w) (d.log x) (d.log v) rw rx rv p g.told h.told))

  pub goes_as : (old new : V) (P : World C → Type 0) (R1 R : List (Event C) → World C → World C → Type 0) → Known d old P → Went d old new R1 →
      ((es : List (Event C)) (w v : World C) → Reached m (d.size old) w → Reached m (d.size old) v → P w → R1 es w v → R es w v) → Went d old new R
  goes_as old new P R1 R k a f = went_as old new (λ w. P (d.log w)) (λ ts w v. Drove d ts w v R1) (λ ts w v. Drove d ts w v R) k a
      (λ ts w v rw rv p g. record { events = g.events; path = g.path; told = f g.events (d.log w) (d.log v) rw rv p g.told })

  pub goes_with : (old new : V) (R : List (Event C) → World C → World C → Type 0) (Q : World C → Type 0) → Went d old new R → Ever d new Q → Went d old new (λ es w v. R es w v × Q v)
  goes_with old new R Q g f =
      let one = g.1 in (
        g.0,
        record {
          size = one.size;
          stays = one.stays;
          trace = one.trace;
          runs = λ past w r.
              let x = one.runs past w r in
              let a = x.3 in
              (x.0, x.1, x.2, record { events = a.events; path = a.path; told = (a.told, f (past ++ x.0) x.1 x.2) });
        },
      )

  pub log_known_more : (view : V) (P Q : World C → Type 0) → Known d view P → ((w : World C) → Reached m (d.size view) w → P w → Q w) → Known d view Q
  log_known_more view P Q k f = known_more view (λ w. P (d.log w)) (λ w. Q (d.log w)) k (λ w r p. f (d.log w) r p)

  pub log_known_after : (old new : V) (P Q : World C → Type 0) (R : List (Event C) → World C → World C → Type 0) → Known d old P → Went d old new R →
      ((es : List (Event C)) (w v : World C) → Reached m (d.size old) w → Reached m (d.size old) v → P w → R es w v → Q v) → Known d new Q
  log_known_after old new P Q R k g f = known_after old new (λ w. P (d.log w)) (λ w. Q (d.log w)) (λ ts w v. Drove d ts w v R) k g (λ ts w v rw rv p a. f a.events (d.log w) (d.log v) rw rv p a.told)

  pub log_known_with : (view : V) (P Q : World C → Type 0) → Known d view P → Ever d view Q → Known d view (λ w. P w × Q w)
  log_known_with view P Q k f = known_with view (λ w. P (d.log w)) (λ w. Q (d.log w)) k f

  -- ---- want of memory

  module _ (A B : List d.Own → d.Moment → d.Moment → Type 0) where
    -- told in other words
    pub halts_as : (old new : V) (P : d.Moment → Type 0) (why : Unsettled) → KnownOf d old P → ((ts : List d.Own) (w v : d.Moment) → P w → A ts w v → B ts w v) → Halts d A old new why → Halts d B old new why
    halts_as old new P NoQuorum k f h = absurd h
    halts_as old new P Exhausted k f h = absurd h
    halts_as old new P NoMemory k f h = went_as old new P A B k h (λ ts w v rw rv p a. f ts w v p a)
    halts_as old new P (Crashed who) k f h = went_as old new P (λ ts w v. FellAfter d A who ts w v) (λ ts w v. FellAfter d B who ts w v) k h
        (λ ts w v rw rv p a. record { before = a.before; calm = a.calm; came = f a.calm w a.before p a.came; event = a.event; falls = a.falls; taken_are = a.taken_are })

    -- behind an earlier part
    pub halts_later : (old mid new : V) (P : d.Moment → Type 0) (R : List d.Own → d.Moment → d.Moment → Type 0) (why : Unsettled) → KnownOf d old P → WentOf d old mid R →
        ((ts us : List d.Own) (w x v : d.Moment) → Reached m (d.size old) (d.log w) → P w → R ts w x → A us x v → B (ts ++ us) w v) → Halts d A mid new why → Halts d B old new why
    halts_later old mid new P R NoQuorum k g f h = absurd h
    halts_later old mid new P R Exhausted k g f h = absurd h
    halts_later old mid new P R NoMemory k g f h = went_more old mid new P R A B k g h (λ ts us w x v rw rx rv p a b. f ts us w x v rw p a b)
    halts_later old mid new P R (Crashed who) k g f h = went_more old mid new P R (λ ts w v. FellAfter d A who ts w v) (λ ts w v. FellAfter d B who ts w v) k g h
        (λ ts us w x v rw rx rv p a b. record {
          before = b.before;
          calm = ts ++ b.calm;
          came = f ts b.calm w x b.before rw p a b.came;
          event = b.event;
          falls = b.falls;
          taken_are = ap (λ l. ts ++ l) b.taken_are ∙ sym (append_assoc ts b.calm (b.event ∷ []));
        })
