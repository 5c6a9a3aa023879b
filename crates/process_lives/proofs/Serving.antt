-- A process that runs: how far its actor has come in an execution, and what one event more does.
use Rattle.std.proofs.Common.{◌≡◌, ◌≢◌, ◌∙◌, ◌⊎◌, inl, inr, ℕ, zero, suc, Some, None, List, [], ◌∷◌, ◌++◌, map, refl, sym, ap, subst, append_assoc, append-nil}
use Rattle.std.specs.Prelude.{⊤, slice_get}
use Rattle.std.specs.List.{flat_map, AllByRecursion}
use Rattle.wire.specs.Frames.{sized}
use Rattle.journal.specs.Events.{IoEvent, BytesCame, InputEnded, RecordAppended, JournalReplaced, BytesSent, LineReported, records_after}
use Rattle.journal.specs.Replays.{replayed}
use Rattle.journal.specs.Batches.{BatchTurns, SavesBatch, saves_nothing, saves_change, saves_whole}
use Rattle.journal.proofs.Leaving.{records_both}
use Rattle.processes.specs.Processes.{Actors, Process, ToldActor, told_by, up_with, System}
use Rattle.processes.specs.Claims.{OccursIn}
use Rattle.process_lives.specs.Lives.{Code, came}
use Rattle.process_lives.specs.Joined.{IsOfTurn}
use Rattle.process_lives.proofs.Scripts.{among_more, among_later, among_front, each_later, each_weaker, one_item, items_both, came_both, whole_alone, one_change, Script, script_ends, script_more, script_batch}
use Rattle.process_lives.proofs.Steps.{By, save_all, send_one, renamed}
use Rattle.process_lives.proofs.Turns.{Sends, sends_nothing, sends_message, sends_other, reports_line, Joins, HadCome, Known, AreOf, are_weaker, take_items}

-- what stands behind all that is read: that the input ended, or nothing
abbrev pub IsTail : List IoEvent → Type 0
IsTail tail = (tail ≡ InputEnded ∷ []) ⊎ (tail ≡ [])

pub some_more : (xs : List IoEvent) (x : IoEvent) → xs ++ x ∷ [] ≢ []
some_more [] x e = cc
some_more (y ∷ xs) x e = cc

mapped_get : {X Y : Type 0} (f : X → Y) (xs : List X) (i : ℕ) (x : X) → slice_get xs i ≡ Some x → slice_get (map f xs) i ≡ Some (f x)
mapped_get f [] i x at = let none : None ≡ Some x = at in absurd (cc none)
mapped_get f (y ∷ xs) zero x at = let same : y ≡ x = cc at in ap (λ z. Some (f z)) same
mapped_get f (y ∷ xs) (suc i) x at = mapped_get f xs i x at

-- the first of two lists that are one, and the others
pub same_first : (x y : IoEvent) (xs ys : List IoEvent) → x ∷ xs ≡ y ∷ ys → x ≡ y
same_first x y xs ys e = cc e

pub same_rest : (x y : IoEvent) (xs ys : List IoEvent) → x ∷ xs ≡ y ∷ ys → xs ≡ ys
same_rest x y xs ys e = cc e

module _ {K V P A Q I M : Type 0} (c : Code K V P) (actors : Actors K A Q I M)
    (Shows : K → V → A → Type 0) (Keeps : K → P → Q → Type 0) (Carries : List ℕ → M → Type 0) (law : Joins c actors Shows Keeps Carries) (k : K) where
  abbrev pub Told : List (ToldActor actors) → A → Type 0
  Told told a = OccursIn told (told_by actors k a)

  abbrev pub Come : List M → List ℕ → Type 0
  Come left item = HadCome c actors Shows Keeps Carries left item

  abbrev pub Of : List (ToldActor actors) → List IoEvent → Type 0
  Of told events = AreOf c actors Shows Keeps Carries k (Told told) events

  -- each whole item in front of these bytes that is a frame carries a message that had left
  abbrev pub Fed : List M → List ℕ → Type 0
  Fed left bytes = (items : List (List ℕ)) (rest : List ℕ) → bytes ≡ flat_map sized items ++ rest → AllByRecursion (Come left) items

  -- where it has done these: the actor was told and is what its code's is, what is stored is its,
  -- and this has come and was not taken
  pub record Standing (left : List M) (told : List (ToldActor actors)) (done : List IoEvent) (now : V) (actor : A) (pending : List ℕ) : Type 0 where
    pub some : done ≢ []
    pub stored : replayed (c.replay k) (records_after [] done) ≡ Some (c.part now)
    pub shows : Shows k now actor
    pub was_told : Told told actor
    pub taken : List (List ℕ)
    pub came_is : came done ≡ flat_map sized taken ++ pending
    pub fed : Fed left pending

  -- it has done these, and is to do the others: what is left of a batch that is stored, and then
  -- what is in the script
  pub record GoesOn (left : List M) (told : List (ToldActor actors)) (done others : List IoEvent) (p : Process actors) : Type 0 where
    pub now : V
    pub actor : A
    pub pending : List ℕ
    pub standing : Standing left told done now actor pending
    pub ready : List M
    pub back : List IoEvent
    pub later : List IoEvent
    pub tail : List IoEvent
    pub sends : Sends c.IsFrame Carries back ready
    pub of : Of told back
    pub script : Script c k pending now later
    pub ends : IsTail tail
    pub others_are : others ≡ back ++ (later ++ tail)
    pub is : p ≡ up_with actors (actors.stored actor) actor [] [] ready

  -- where these bytes are a frame's, its message had left
  abbrev pub IsLeft : List M → List ℕ → Type 0
  IsLeft left bytes = (item : List ℕ) → bytes ≡ sized item → c.IsFrame item → (x : M) × OccursIn left x × Carries item x

  -- what an event is to those outside: a frame that left is a message that left, and what is sent or
  -- reported is of a turn
  abbrev pub Seen : List M → List (ToldActor actors) → IoEvent → Type 0
  Seen left told (BytesSent bytes) = IsLeft left bytes × IsOfTurn c actors Shows Carries k (Told told) (BytesSent bytes)
  Seen left told (LineReported line) = IsOfTurn c actors Shows Carries k (Told told) (LineReported line)
  Seen left told (BytesCame bytes) = ⊤
  Seen left told InputEnded = ⊤
  Seen left told (RecordAppended payload) = ⊤
  Seen left told (JournalReplaced payload) = ⊤

  -- what comes is fed
  abbrev pub IsFed : List M → List IoEvent → IoEvent → Type 0
  IsFed left done (BytesCame bytes) = Fed left (came done ++ bytes)
  IsFed left done (BytesSent bytes) = ⊤
  IsFed left done (LineReported line) = ⊤
  IsFed left done InputEnded = ⊤
  IsFed left done (RecordAppended payload) = ⊤
  IsFed left done (JournalReplaced payload) = ⊤

  -- one event more
  pub record Advanced (g : System actors) (left : List M) (told : List (ToldActor actors)) (done others : List IoEvent) (event : IoEvent) : Type 0 where
    pub p : Process actors
    pub more_left : List M
    pub more_told : List (ToldActor actors)
    pub by : By actors law.same_name k g p (left ++ more_left) (told ++ more_told)
    pub goes : GoesOn (left ++ more_left) (told ++ more_told) (done ++ event ∷ []) others p
    pub seen : Seen (left ++ more_left) (told ++ more_told) event

  -- ---- where more had left and more was told

  pub fed_more : (left more : List M) (bytes : List ℕ) → Fed left bytes → Fed (left ++ more) bytes
  fed_more left more bytes fed items rest is =
      each_weaker (Come left) (Come (left ++ more)) items (λ item come frame. let x = come frame in (x.0, among_more left more x.0 x.1, x.2)) (fed items rest is)

  fed_rest : (left : List M) (bytes : List ℕ) (items : List (List ℕ)) (rest : List ℕ) → Fed left bytes → bytes ≡ flat_map sized items ++ rest → Fed left rest
  fed_rest left bytes items rest fed is more end e =
      each_later (Come left) items more
      (fed (items ++ more) end (is ∙ ap (λ l. flat_map sized items ++ l) e ∙ sym (append_assoc (flat_map sized items) (flat_map sized more) end) ∙ ap (λ l. l ++ end) (sym (items_both items more))))

  of_more : (told more : List (ToldActor actors)) (events : List IoEvent) → Of told events → Of (told ++ more) events
  of_more told more events p = are_weaker c actors Shows Keeps Carries k (Told told) (Told (told ++ more)) events (λ a was. among_more told more (told_by actors k a) was) p

  standing_more : (left more_left : List M) (told more_told : List (ToldActor actors)) (done : List IoEvent) (now : V) (actor : A) (pending : List ℕ)
      → Standing left told done now actor pending → Standing (left ++ more_left) (told ++ more_told) done now actor pending
  standing_more left more_left told more_told done now actor pending s = record {
    some = s.some;
    stored = s.stored;
    shows = s.shows;
    was_told = among_more told more_told (told_by actors k actor) s.was_told;
    taken = s.taken;
    came_is = s.came_is;
    fed = fed_more left more_left pending s.fed;
  }

  pub goes_more : (left more_left : List M) (told more_told : List (ToldActor actors)) (done others : List IoEvent) (p : Process actors) → GoesOn left told done others p → GoesOn (left ++ more_left) (told ++ more_told) done others p
  goes_more left more_left told more_told done others p s = record {
    now = s.now;
    actor = s.actor;
    pending = s.pending;
    standing = standing_more left more_left told more_told done s.now s.actor s.pending s.standing;
    ready = s.ready;
    back = s.back;
    later = s.later;
    tail = s.tail;
    sends = s.sends;
    of = of_more told more_told s.back s.of;
    script = s.script;
    ends = s.ends;
    others_are = s.others_are;
    is = s.is;
  }

  -- what is known once it is stored
  known_told : (told : List (ToldActor actors)) (unsaved : List A) (a : A) → Known c actors Shows Keeps Carries k told unsaved a → Told (told ++ map (told_by actors k) unsaved) a
  known_told told unsaved a (inl was) = among_more told (map (told_by actors k) unsaved) (told_by actors k a) was
  known_told told unsaved a (inr is) = among_later told (map (told_by actors k) unsaved) (told_by actors k a) (is.0, mapped_get (told_by actors k) unsaved is.0 a is.1)

  module _ (g : System actors) where
    abbrev ByNow : Process actors → List M → List (ToldActor actors) → Type 0
    ByNow p left told = By actors law.same_name k g p left told

    -- nothing else was sent or told
    no_more : (left : List M) (told : List (ToldActor actors)) (done others : List IoEvent) (event : IoEvent) (p : Process actors) → ByNow p left told → GoesOn left told (done ++ event ∷ []) others p
        → Seen left told event → Advanced g left told done others event
    no_more left told done others event p by goes seen =
        let l = sym (append-nil left) in
        let t = sym (append-nil told) in
        record {
          p = p;
          more_left = [];
          more_told = [];
          by = subst (λ x. ByNow p x (told ++ [])) l (subst (λ x. ByNow p left x) t by);
          goes = goes_more left [] told [] (done ++ event ∷ []) others p goes;
          seen = subst (λ x. Seen x (told ++ []) event) l (subst (λ x. Seen left x event) t seen);
        }

    -- this was told before
    told_before : (left : List M) (told first : List (ToldActor actors)) (done others : List IoEvent) (event : IoEvent) → Advanced g left (told ++ first) done others event → Advanced g left told done others event
    told_before left told first done others event a =
        let e = append_assoc told first a.more_told in
        let now = left ++ a.more_left in
        record {
          p = a.p;
          more_left = a.more_left;
          more_told = first ++ a.more_told;
          by = subst (λ x. ByNow a.p now x) e a.by;
          goes = subst (λ x. GoesOn now x (done ++ event ∷ []) others a.p) e a.goes;
          seen = subst (λ x. Seen now x event) e a.seen;
        }

    -- ---- events that store nothing and bring nothing

    quiet : (left : List M) (told : List (ToldActor actors)) (done : List IoEvent) (event : IoEvent) (now : V) (actor : A) (pending : List ℕ) → records_after [] (done ++ event ∷ []) ≡ records_after [] done → came (event ∷ []) ≡ []
        → Standing left told done now actor pending → Standing left told (done ++ event ∷ []) now actor pending
    quiet left told done event now actor pending same none s = record {
      some = some_more done event;
      stored = ap (replayed (c.replay k)) same ∙ s.stored;
      shows = s.shows;
      was_told = s.was_told;
      taken = s.taken;
      came_is = came_both done (event ∷ []) ∙ ap (λ l. came done ++ l) none ∙ append-nil (came done) ∙ s.came_is;
      fed = s.fed;
    }

    -- what stands behind a batch's first output, and what is ready
    module _ (left : List M) (told : List (ToldActor actors)) (done : List IoEvent) (now : V) (actor : A) (pending : List ℕ) (standing : Standing left told done now actor pending)
        (later tail : List IoEvent) (script : Script c k pending now later) (tails : IsTail tail) where
      abbrev Ready : List M → Process actors
      Ready ready = up_with actors (actors.stored actor) actor [] [] ready

      -- nothing left, or no message
      nothing_left : (event : IoEvent) (back : List IoEvent) (ready : List M) → records_after [] (done ++ event ∷ []) ≡ records_after [] done → came (event ∷ []) ≡ [] → Sends c.IsFrame Carries back ready → Of told back
          → ByNow (Ready ready) left told → Seen left told event → Advanced g left told done (back ++ (later ++ tail)) event
      nothing_left event back ready same none sends of by seen =
          no_more left told done (back ++ (later ++ tail)) event (Ready ready) by
          (record {
            now = now;
            actor = actor;
            pending = pending;
            standing = quiet left told done event now actor pending same none standing;
            ready = ready;
            back = back;
            later = later;
            tail = tail;
            sends = sends;
            of = of;
            script = script;
            ends = tails;
            others_are = refl;
            is = refl;
          })
          seen

      emit : (event : IoEvent) (back : List IoEvent) (ready : List M) → Sends c.IsFrame Carries (event ∷ back) ready → Of told (event ∷ back) → ByNow (Ready ready) left told → Advanced g left told done (back ++ (later ++ tail)) event
      emit event back ready (reports_line line sends) of by =
          nothing_left (LineReported line) back ready (records_both [] done (LineReported line ∷ [])) refl sends of.1 by of.0
      emit event back ready (sends_other bytes none sends) of by =
          nothing_left (BytesSent bytes) back ready (records_both [] done (BytesSent bytes ∷ [])) refl sends of.1 by ((λ item is frame. absurd (none item is frame)), of.0)
      emit event back all_ready (sends_message {xs = ready} bytes x carries sends) of by =
          let sending = BytesSent bytes in
          let t = sym (append-nil told) in
          let now_left = left ++ x ∷ [] in
          record {
            p = Ready ready;
            more_left = x ∷ [];
            more_told = [];
            by = subst (λ y. ByNow (Ready ready) now_left y) t (send_one actors law.same_name k g (Ready (x ∷ ready)) left told by (actors.stored actor) actor [] [] ready x refl);
            goes = goes_more left (x ∷ []) told [] (done ++ sending ∷ []) (back ++ (later ++ tail)) (Ready ready) (record {
              now = now;
              actor = actor;
              pending = pending;
              standing = quiet left told done sending now actor pending (records_both [] done (sending ∷ [])) refl standing;
              ready = ready;
              back = back;
              later = later;
              tail = tail;
              sends = sends;
              of = of.1;
              script = script;
              ends = tails;
              others_are = refl;
              is = refl;
            });
            seen = (
              (λ item is frame. (x, among_later left (x ∷ []) x (among_front x []), subst (λ f. Carries f x) (one_item carries.0 item (sym carries.1 ∙ is)) carries.2)),
              subst (λ y. IsOfTurn c actors Shows Carries k (Told y) sending) t of.0,
            );
          }

    -- ---- batches

    module _ (left : List M) (event : IoEvent) (others : List IoEvent) (done : List IoEvent) (fed_now : IsFed left done event) where
      abbrev Next : List (ToldActor actors) → Type 0
      Next told = Advanced g left told done others event

      abbrev Bare : A → Process actors
      Bare actor = up_with actors (actors.stored actor) actor [] [] []

      -- the input is at its end
      at_end : (told : List (ToldActor actors)) (now : V) (actor : A) (pending : List ℕ) (tail : List IoEvent) → Standing left told done now actor pending → ByNow (Bare actor) left told
          → IsTail tail → tail ≡ event ∷ others → Next told
      at_end told now actor pending tail s by (inr none) e = let empty : [] ≡ event ∷ others = sym none ∙ e in absurd (cc empty)
      at_end told now actor pending tail s by (inl one) e =
          let both : InputEnded ∷ [] ≡ event ∷ others = sym one ∙ e in
          let here = same_first InputEnded event [] others both in
          let none = same_rest InputEnded event [] others both in
          subst (λ x. Advanced g left told done others x) here
          (subst (λ x. Advanced g left told done x InputEnded) none
          (no_more left told done [] InputEnded (Bare actor) by
          (record {
            now = now;
            actor = actor;
            pending = pending;
            standing = quiet left told done InputEnded now actor pending (records_both [] done (InputEnded ∷ [])) refl s;
            ready = [];
            back = [];
            later = [];
            tail = [];
            sends = sends_nothing;
            of = tt;
            script = script_ends pending now;
            ends = inr refl;
            others_are = refl;
            is = refl;
          })
          tt))

      -- bytes come
      bytes_came : (told : List (ToldActor actors)) (now : V) (actor : A) (pending bytes : List ℕ) (later tail : List IoEvent) → Standing left told done now actor pending → ByNow (Bare actor) left told
          → Script c k (pending ++ bytes) now later → IsTail tail → BytesCame bytes ∷ (later ++ tail) ≡ event ∷ others → Next told
      bytes_came told now actor pending bytes later tail s by script tails e =
          let here = same_first (BytesCame bytes) event (later ++ tail) others e in
          let rest = same_rest (BytesCame bytes) event (later ++ tail) others e in
          let fed : Fed left (came done ++ bytes) = subst (IsFed left done) (sym here) fed_now in
          let all : came done ++ bytes ≡ flat_map sized s.taken ++ (pending ++ bytes) = ap (λ l. l ++ bytes) s.came_is ∙ append_assoc (flat_map sized s.taken) pending bytes in
          subst (λ x. Advanced g left told done others x) here
          (subst (λ x. Advanced g left told done x (BytesCame bytes)) rest
          (no_more left told done (later ++ tail) (BytesCame bytes) (Bare actor) by
          (record {
            now = now;
            actor = actor;
            pending = pending ++ bytes;
            standing = record {
              some = some_more done (BytesCame bytes);
              stored = ap (replayed (c.replay k)) (records_both [] done (BytesCame bytes ∷ [])) ∙ s.stored;
              shows = s.shows;
              was_told = s.was_told;
              taken = s.taken;
              came_is = came_both done (BytesCame bytes ∷ []) ∙ ap (λ l. came done ++ l) (append-nil bytes) ∙ all;
              fed = fed_rest left (came done ++ bytes) s.taken (pending ++ bytes) fed all;
            };
            ready = [];
            back = [];
            later = later;
            tail = tail;
            sends = sends_nothing;
            of = tt;
            script = script;
            ends = tails;
            others_are = refl;
            is = refl;
          })
          tt))

      -- a batch was taken, and all of it is told
      record TookBatch (told : List (ToldActor actors)) (new : V) (outs : List IoEvent) : Type 0 where
        actor : A
        sent : List M
        more_told : List (ToldActor actors)
        by : ByNow (up_with actors (actors.stored actor) actor [] [] sent) left (told ++ more_told)
        shows : Shows k new actor
        was_told : Told (told ++ more_told) actor
        sends : Sends c.IsFrame Carries outs sent
        of : Of (told ++ more_told) outs

      took : (told : List (ToldActor actors)) (now new : V) (actor : A) (pending rest : List ℕ) (items : List (List ℕ)) (outs : List IoEvent) → Standing left told done now actor pending
          → ByNow (Bare actor) left told → pending ≡ flat_map sized items ++ rest → BatchTurns (c.replay k) c.part c.Turn items now new outs → TookBatch told new outs
      took told now new actor pending rest items outs s by is turns =
          let t = take_items c actors Shows Keeps Carries law k g (actors.stored actor) left told items now new outs actor [] [] turns s.shows (inl s.was_told) (s.fed items rest is) by in
          let tells = map (told_by actors k) t.unsaved in
          record {
            actor = t.actor;
            sent = t.sent;
            more_told = tells;
            by = subst (λ x. ByNow (up_with actors (actors.stored t.actor) t.actor [] [] x) left (told ++ tells)) t.held_is
                (save_all actors law.same_name k g (up_with actors (actors.stored actor) t.actor t.unsaved t.held []) left told t.by (actors.stored actor) t.actor t.unsaved t.held [] refl);
            shows = t.shows;
            was_told = known_told told t.unsaved t.actor t.known;
            sends = t.sends;
            of = are_weaker c actors Shows Keeps Carries k (Known c actors Shows Keeps Carries k told t.unsaved) (Told (told ++ tells)) outs (known_told told t.unsaved) t.of;
          }

      -- where it stands then
      stands : (told first : List (ToldActor actors)) (ends_with : List IoEvent) (now new : V) (actor b : A) (pending rest : List ℕ) (items : List (List ℕ)) → Standing left first done now actor pending
          → pending ≡ flat_map sized items ++ rest → ends_with ≢ [] → replayed (c.replay k) (records_after [] ends_with) ≡ Some (c.part new) → came ends_with ≡ came done → Shows k new b → Told told b
          → Standing left told ends_with new b rest
      stands told first ends_with now new actor b pending rest items s is some stored same shows was_told = record {
        some = some;
        stored = stored;
        shows = shows;
        was_told = was_told;
        taken = s.taken ++ items;
        came_is = same ∙ s.came_is ∙ ap (λ l. flat_map sized s.taken ++ l) is ∙ sym (append_assoc (flat_map sized s.taken) (flat_map sized items) rest) ∙ ap (λ l. l ++ rest) (sym (items_both s.taken items));
        fed = fed_rest left pending items rest s.fed is;
      }

      -- a batch of which nothing is stored: the event is its first output, or there is none
      unstored : (told : List (ToldActor actors)) (new : V) (b : A) (rest : List ℕ) (outs later tail : List IoEvent) (sent : List M) → Standing left told done new b rest
          → ByNow (up_with actors (actors.stored b) b [] [] sent) left told → Sends c.IsFrame Carries outs sent → Of told outs → Script c k rest new later → IsTail tail → outs ++ (later ++ tail) ≡ event ∷ others
          → (ByNow (Bare b) left told → later ++ tail ≡ event ∷ others → Next told) → Next told
      unstored told new b rest [] later tail sent s by sends_nothing of script tails e again = again by e
      unstored told new b rest (d ∷ outs) later tail sent s by sends of script tails e again =
          let behind = outs ++ (later ++ tail) in
          subst (λ x. Advanced g left told done others x) (same_first d event behind others e)
          (subst (λ x. Advanced g left told done x d) (same_rest d event behind others e) (emit left told done new b rest s later tail script tails d outs sent sends of by))

      -- a batch of which something is stored: the event is that
      stored_first : (told : List (ToldActor actors)) (new : V) (b : A) (rest : List ℕ) (saving : IoEvent) (outs later tail : List IoEvent) (sent : List M) → Standing left told (done ++ saving ∷ []) new b rest
          → ByNow (up_with actors (actors.stored b) b [] [] sent) left told → Sends c.IsFrame Carries outs sent → Of told outs → Script c k rest new later → IsTail tail
          → saving ∷ (outs ++ (later ++ tail)) ≡ event ∷ others → Seen left told saving → Next told
      stored_first told new b rest saving outs later tail sent s by sends of script tails e seen =
          let behind = outs ++ (later ++ tail) in
          subst (λ x. Advanced g left told done others x) (same_first saving event behind others e)
          (subst (λ x. Advanced g left told done x saving) (same_rest saving event behind others e)
          (no_more left told done behind saving (up_with actors (actors.stored b) b [] [] sent) by
          (record {
            now = new;
            actor = b;
            pending = rest;
            standing = s;
            ready = sent;
            back = outs;
            later = later;
            tail = tail;
            sends = sends;
            of = of;
            script = script;
            ends = tails;
            others_are = refl;
            is = refl;
          })
          seen))

      in_order : (events store outs later tail : List IoEvent) → events ≡ store ++ outs → (events ++ later) ++ tail ≡ event ∷ others → store ++ (outs ++ (later ++ tail)) ≡ event ∷ others
      in_order events store outs later tail is e =
          sym (append_assoc store outs (later ++ tail)) ∙ ap (λ l. l ++ (later ++ tail)) (sym is) ∙ sym (append_assoc events later tail) ∙ e

      -- each case of what is stored
      one_batch : (told : List (ToldActor actors)) (now new : V) (actor : A) (pending rest : List ℕ) (items : List (List ℕ)) (outs store later tail : List IoEvent) → Standing left told done now actor pending
          → pending ≡ flat_map sized items ++ rest → TookBatch told new outs → Script c k rest new later → IsTail tail → SavesBatch (c.replay k) c.part c.Turn now new store → store ++ (outs ++ (later ++ tail)) ≡ event ∷ others
          → ((next_told : List (ToldActor actors)) (b : A) → Standing left next_told done new b rest → ByNow (Bare b) left next_told → later ++ tail ≡ event ∷ others → Next next_told) → Next told
      one_batch told now new actor pending rest items outs store later tail s is t script tails (saves_nothing same none) e again =
          let next_told = told ++ t.more_told in
          let standing = stands next_told told done now new actor t.actor pending rest items s is s.some (s.stored ∙ ap (λ (z : P). Some z) same) refl t.shows t.was_told in
          told_before left told t.more_told done others event
          (unstored next_told new t.actor rest outs later tail t.sent standing t.by t.sends t.of script tails (sym (ap (λ l. l ++ (outs ++ (later ++ tail))) none) ∙ e)
          (λ by rest_is. again next_told t.actor standing by rest_is))
      one_batch told now new actor pending rest items outs store later tail s is t script tails (saves_change payload leads one) e again =
          let next_told = told ++ t.more_told in
          let saving = RecordAppended payload in
          let stored = ap (replayed (c.replay k)) (records_both [] done (saving ∷ [])) ∙ one_change (c.replay k) (records_after [] done) payload (c.part now) (c.part new) s.stored leads in
          let standing = stands next_told told (done ++ saving ∷ []) now new actor t.actor pending rest items s is (some_more done saving) stored (came_both done (saving ∷ []) ∙ append-nil (came done)) t.shows t.was_told in
          told_before left told t.more_told done others event
          (stored_first next_told new t.actor rest saving outs later tail t.sent standing t.by t.sends t.of script tails (sym (ap (λ l. l ++ (outs ++ (later ++ tail))) one) ∙ e) tt)
      one_batch told now new actor pending rest items outs store later tail s is t script tails (saves_whole payload leads one) e again =
          let next_told = told ++ t.more_told in
          let saving = JournalReplaced payload in
          let stored = ap (replayed (c.replay k)) (records_both [] done (saving ∷ [])) ∙ whole_alone (c.replay k) ((c.replay k).whole payload) (c.part new) leads in
          let standing = stands next_told told (done ++ saving ∷ []) now new actor t.actor pending rest items s is (some_more done saving) stored (came_both done (saving ∷ []) ∙ append-nil (came done)) t.shows t.was_told in
          told_before left told t.more_told done others event
          (stored_first next_told new t.actor rest saving outs later tail t.sent standing t.by t.sends t.of script tails (sym (ap (λ l. l ++ (outs ++ (later ++ tail))) one) ∙ e) tt)

      -- the script's front
      scripted_step : (pending : List ℕ) (now : V) (later : List IoEvent) → Script c k pending now later → (told : List (ToldActor actors)) (actor : A) (tail : List IoEvent) → Standing left told done now actor pending
          → ByNow (Bare actor) left told → IsTail tail → later ++ tail ≡ event ∷ others → Next told
      scripted_step pending now later (script_ends at v) told actor tail s by tails e = at_end told now actor pending tail s by tails e
      scripted_step pending now later (script_more at v bytes events script) told actor tail s by tails e = bytes_came told now actor pending bytes events tail s by script tails e
      scripted_step pending now all (script_batch at v new events later items rest is b script) told actor tail s by tails e =
          one_batch told now new actor pending rest items b.outs b.store later tail s is (took told now new actor pending rest items b.outs s by is b.turns) script tails b.stores
          (in_order events b.store b.outs later tail b.is e)
          (λ next_told next standing there rest_is. scripted_step rest new later script next_told next tail standing there tails rest_is)

    -- one event of a process that goes on
    pub advance : (left : List M) (told : List (ToldActor actors)) (done others : List IoEvent) (event : IoEvent) (p : Process actors) → ByNow p left told → GoesOn left told done (event ∷ others) p
        → IsFed left done event → Advanced g left told done others event
    advance left told done others event p by s fed =
        from s.back s.ready s.sends s.of (sym s.others_are) (renamed actors law.same_name k g p left told by (up_with actors (actors.stored s.actor) s.actor [] [] s.ready) s.is) where
          from : (back : List IoEvent) (ready : List M) → Sends c.IsFrame Carries back ready → Of told back → back ++ (s.later ++ s.tail) ≡ event ∷ others
              → ByNow (up_with actors (actors.stored s.actor) s.actor [] [] ready) left told → Advanced g left told done others event
          from [] ready sends_nothing of e now_by = scripted_step left event others done fed s.pending s.now s.later s.script told s.actor s.tail s.standing now_by s.ends e
          from (d ∷ back) ready sends of e now_by =
              let behind = back ++ (s.later ++ s.tail) in
              subst (λ x. Advanced g left told done others x) (same_first d event behind others e)
              (subst (λ x. Advanced g left told done x d) (same_rest d event behind others e)
              (emit left told done s.now s.actor s.pending s.standing s.later s.tail s.script s.ends d back ready sends of now_by))
