-- Processes over all that happened: an execution of the definitions' processes goes along.
use Rattle.std.proofs.Common.{◌≡◌, ◌≢◌, ◌∙◌, ◌⊎◌, inl, inr, ℕ, zero, suc, Option, Some, None, List, [], ◌∷◌, ◌++◌, refl, sym, ap, subst, append_assoc, append-nil}
use Rattle.std.specs.Prelude.{⊤, slice_get}
use Rattle.std.specs.List.{flat_map, AllByRecursion}
use Rattle.std.proofs.lemmas.List.{append_cancel_left}
use Rattle.wire.specs.Frames.{sized}
use Rattle.journal.specs.Records.{wal_record}
use Rattle.journal.specs.Journals.{IsJournal}
use Rattle.journal.specs.Events.{IoEvent, BytesCame, InputEnded, RecordAppended, JournalReplaced, BytesSent, LineReported, records_after}
use Rattle.journal.specs.Replays.{replayed}
use Rattle.journal.specs.Crashes.{CrashLeaves, between, within}
use Rattle.journal.proofs.RecordLaws.{record_lawful, record_filled}
use Rattle.journal.proofs.Reading.{whole_read, torn_read}
use Rattle.journal.proofs.Leaving.{records_both}
use Rattle.processes.specs.Processes.{Actors, ProcessLife, NotStarted, Killed, Process as AnyProcess, IsNotUp, ToldActor, told_by, up_with, System, new_system, Execution, begun}
use Rattle.processes.specs.Claims.{OccursIn}
use Rattle.process_lives.specs.Lives.{Code, Process, Running, Idle, Serves, Happening, Begins, Does, Ends, Past, HasDone, HadLeft, Journal, NoJournal, LeftBy, IsReadAs, IsWhole, StoreLeft, MayFind, IsCarried, Goes, begins, does, ends_at_once, ends, CameTo, IsUnderWay, Lived}
use Rattle.process_lives.specs.Joined.{IsOutput, IsOfTurn, Joined}
use Rattle.process_lives.proofs.Scripts.{among_more, among_later, among_front, each_weaker, no_items, whole_alone, Script, scripted, script_ends}
use Rattle.process_lives.proofs.Steps.{By, nothing_yet, start_up, save_all, die, renamed, choose, chosen, passed_over}
use Rattle.process_lives.proofs.Turns.{sends_nothing, Joins}
use Rattle.process_lives.proofs.Serving.{some_more, same_first, same_rest, Told, Come, Standing, GoesOn, Seen, IsFed, goes_more, advance}

module _ {K V P A Q I M : Type 0} (c : Code K V P) (actors : Actors K A Q I M)
    (Shows : K → V → A → Type 0) (Keeps : K → P → Q → Type 0) (Carries : List ℕ → M → Type 0) (law : Joins c actors Shows Keeps Carries) where
  abbrev Left : Type 0
  Left = List M

  abbrev Tells : Type 0
  Tells = List (ToldActor actors)

  -- it is to store the whole, and then to do what is in the script
  record FirstAhead (k : K) (first : V) (others : List IoEvent) : Type 0 where
    payload : List ℕ
    later : List IoEvent
    whole : (c.replay k).whole payload ≡ Some (c.part first)
    script : Script c k [] first later
    others_are : others ≡ JournalReplaced payload ∷ (later ++ InputEnded ∷ [])

  abbrev Goes_on : K → Left → Tells → List IoEvent → List IoEvent → AnyProcess actors → Type 0
  Goes_on k left told done others p = GoesOn c actors Shows Keeps Carries law k left told done others p

  -- What its last process did is behind it. In the execution that has not ended: it does so only
  -- when a process reads its journal anew, since only then what was under way is there, or not.
  data Behind (k : K) (left : Left) (told : Tells) (known : Journal) (p : AnyProcess actors) : Type 0 where
    fresh : known ≡ NoJournal → p ≡ record { store = actors.initial k; life = NotStarted } → Behind k left told known p
    ended : (done others : List IoEvent) → known ≡ LeftBy done others → Goes_on k left told done others p → Behind k left told known p

  -- it has begun, and done nothing
  record Waits (k : K) (left : Left) (told : Tells) (known : Journal) (first : V) (others : List IoEvent) (p : AnyProcess actors) : Type 0 where
    store : Option (List ℕ)
    finds : MayFind c k known store
    from : c.BeginsWith k store first
    ahead : (others ≡ []) ⊎ FirstAhead k first others
    behind : Behind k left told known p

  -- a process of the code, with what it is to do, is one of the definitions
  data IsLike (k : K) (left : Left) (told : Tells) (code : Process V) (others : List IoEvent) (p : AnyProcess actors) : Type 0 where
    rests : code.running ≡ Idle → Behind k left told code.journal p → IsLike k left told code others p
    waits : (first : V) → code.running ≡ Serves first [] → Waits k left told code.journal first others p → IsLike k left told code others p
    serves : (first : V) (done : List IoEvent) → code.running ≡ Serves first done → Goes_on k left told done others p → IsLike k left told code others p

  -- ---- where more had left and more was told

  behind_more : (k : K) (left more_left : Left) (told more_told : Tells) (known : Journal) (p : AnyProcess actors) → Behind k left told known p → Behind k (left ++ more_left) (told ++ more_told) known p
  behind_more k left more_left told more_told known p (fresh none is) = fresh none is
  behind_more k left more_left told more_told known p (ended done others is s) = ended done others is (goes_more c actors Shows Keeps Carries law k left more_left told more_told done others p s)

  like_more : (k : K) (left more_left : Left) (told more_told : Tells) (code : Process V) (others : List IoEvent) (p : AnyProcess actors)
      → IsLike k left told code others p → IsLike k (left ++ more_left) (told ++ more_told) code others p
  like_more k left more_left told more_told code others p (rests idle b) = rests idle (behind_more k left more_left told more_told code.journal p b)
  like_more k left more_left told more_told code others p (waits first is w) =
      waits first is (record { store = w.store; finds = w.finds; from = w.from; ahead = w.ahead; behind = behind_more k left more_left told more_told code.journal p w.behind })
  like_more k left more_left told more_told code others p (serves first done is s) = serves first done is (goes_more c actors Shows Keeps Carries law k left more_left told more_told done others p s)

  -- ---- what is read of a store

  read_whole : (k : K) (file : List ℕ) (payloads : List (List ℕ)) (x y : P) → file ≡ flat_map wal_record.text payloads → AllByRecursion wal_record.Fits payloads → replayed (c.replay k) payloads ≡ Some x
      → IsReadAs (c.replay k) file y → x ≡ y
  read_whole k file payloads x y is fits stored r =
      let same = (whole_read wal_record record_lawful record_filled payloads r.payloads r.tail fits (subst (λ z. IsJournal wal_record z r.payloads r.tail) is r.journal)).0 in
      let both : Some x ≡ Some y = sym stored ∙ ap (replayed (c.replay k)) (sym same) ∙ r.part_is in
      cc both

  -- ---- a process begins

  module _ (k : K) (g : System actors) where
    abbrev ByNow : AnyProcess actors → Left → Tells → Type 0
    ByNow p left told = By actors law.same_name k g p left told

    -- its last end is behind it: the execution's process does not run, and stores what this value
    -- of the code has
    record AtRest (left : Left) (told : Tells) (v : V) : Type 0 where
      stored : Q
      life : ProcessLife actors
      more_left : Left
      more_told : Tells
      by : ByNow (record { store = stored; life = life }) (left ++ more_left) (told ++ more_told)
      idle : IsNotUp actors life
      keeps : Keeps k (c.part v) stored

    -- nothing was sent or told for it
    same_told : (p : AnyProcess actors) (left : Left) (told : Tells) → ByNow p left told → ByNow p (left ++ []) (told ++ [])
    same_told p left told by = subst (λ l. ByNow p l (told ++ [])) (sym (append-nil left)) (subst (λ t. ByNow p left t) (sym (append-nil told)) by)

    -- one that went on, where what is read is what it stored last
    went_on : (left : Left) (told : Tells) (done others : List IoEvent) (p : AnyProcess actors) (v : V) → ByNow p left told → (s : Goes_on k left told done others p) → c.part s.now ≡ c.part v → AtRest left told v
    went_on left told done others p v by s same =
        let stored = actors.stored s.actor in
        record {
          stored = stored;
          life = Killed;
          more_left = [];
          more_told = [];
          by = same_told (record { store = stored; life = Killed }) left told (die actors law.same_name k g p left told by stored s.actor [] [] s.ready s.is);
          idle = tt;
          keeps = subst (λ x. Keeps k x stored) same (law.keeps k s.now s.actor s.standing.shows);
        }

    -- one whose last append was under way, and is read
    append_done : (left : Left) (told : Tells) (done others : List IoEvent) (payload : List ℕ) (p : AnyProcess actors) (file : List ℕ) (v : V) → ByNow p left told
        → Goes_on k left told done (RecordAppended payload ∷ others) p → (r : IsReadAs (c.replay k) file (c.part v)) → r.payloads ≡ records_after [] done ++ payload ∷ [] → AtRest left told v
    append_done left told done others payload p file v by s r is =
        let a = advance c actors Shows Keeps Carries law k g left told done others (RecordAppended payload) p by s tt in
        let both : Some (c.part a.goes.now) ≡ Some (c.part v) = sym a.goes.standing.stored ∙ ap (replayed (c.replay k)) (records_both [] done (RecordAppended payload ∷ []) ∙ sym is) ∙ r.part_is in
        let same : c.part a.goes.now ≡ c.part v = cc both in
        let stored = actors.stored a.goes.actor in
        record {
          stored = stored;
          life = Killed;
          more_left = a.more_left;
          more_told = a.more_told;
          by = die actors law.same_name k g a.p (left ++ a.more_left) (told ++ a.more_told) a.by stored a.goes.actor [] [] a.goes.ready a.goes.is;
          idle = tt;
          keeps = subst (λ x. Keeps k x stored) same (law.keeps k a.goes.now a.goes.actor a.goes.standing.shows);
        }

    torn_case : (left : Left) (told : Tells) (done others next : List IoEvent) (payload : List ℕ) (p : AnyProcess actors) (file : List ℕ) (v : V) → ByNow p left told
        → (s : Goes_on k left told done others p) → others ≡ RecordAppended payload ∷ next
        → (r : IsReadAs (c.replay k) file (c.part v)) → (r.payloads ≡ records_after [] done) ⊎ (r.payloads ≡ records_after [] done ++ payload ∷ []) → AtRest left told v
    torn_case left told done others next payload p file v by s is r (inl same) =
        let both : Some (c.part s.now) ≡ Some (c.part v) = sym s.standing.stored ∙ ap (replayed (c.replay k)) (sym same) ∙ r.part_is in
        went_on left told done others p v by s (cc both)
    torn_case left told done others next payload p file v by s is r (inr one) =
        append_done left told done next payload p file v by (subst (λ l. Goes_on k left told done l p) is s) r one

    crash_case : (left : Left) (told : Tells) (done others : List IoEvent) (p : AnyProcess actors) (file : List ℕ) (v : V) → ByNow p left told → Goes_on k left told done others p
        → IsReadAs (c.replay k) file (c.part v) → AllByRecursion wal_record.Fits (records_after [] done) → CrashLeaves wal_record [] (done ++ others) done file → AtRest left told v
    crash_case left told done others p file v by s r fits (between rest all at) =
        went_on left told done others p v by s (read_whole k file (records_after [] done) (c.part s.now) (c.part v) at fits s.standing.stored r)
    crash_case left told done others p file v by s r fits (within payload next tail all fits_payload torn at) =
        torn_case left told done others next payload p file v by s (append_cancel_left done others (RecordAppended payload ∷ next) all) r
        (torn_read wal_record record_lawful record_filled (records_after [] done) r.payloads payload tail r.tail fits fits_payload torn (subst (λ z. IsJournal wal_record z r.payloads r.tail) at r.journal))

    rests_now : (left : Left) (told : Tells) (known : Journal) (store : Option (List ℕ)) (p : AnyProcess actors) (v : V) → ByNow p left told
        → MayFind c k known store → c.BeginsWith k store v → Behind k left told known p → AtRest left told v
    rests_now left told known store p v by finds from (fresh none is) =
        let new : AnyProcess actors = record { store = actors.initial k; life = NotStarted } in
        let nothing : store ≡ None = subst (λ j. MayFind c k j store) none finds in
        record {
          stored = actors.initial k;
          life = NotStarted;
          more_left = [];
          more_told = [];
          by = same_told new left told (renamed actors law.same_name k g p left told by new is);
          idle = tt;
          keeps = law.first k v (subst (λ x. c.BeginsWith k x v) nothing from);
        }
    rests_now left told known store p v by finds from (ended done others is s) =
        let l : StoreLeft c k done others store = subst (λ j. MayFind c k j store) is finds in
        crash_case left told done others p l.file v by s (law.reads k l.file v (subst (λ x. c.BeginsWith k x v) l.is from)) l.fits l.leaves

    -- ---- one happening

    abbrev SeenBy : Left → Tells → Happening → Type 0
    SeenBy left told Begins = ⊤
    SeenBy left told (Does event) = Seen c actors Shows Keeps Carries law k left told event
    SeenBy left told Ends = ⊤

    record Stepped (left : Left) (told : Tells) (x : Happening) (code : Process V) (others : List IoEvent) : Type 0 where
      p : AnyProcess actors
      more_left : Left
      more_told : Tells
      by : ByNow p (left ++ more_left) (told ++ more_told)
      like : IsLike k (left ++ more_left) (told ++ more_told) code others p
      seen : SeenBy (left ++ more_left) (told ++ more_told) x

    abbrev Now : Journal → V → List IoEvent → Process V
    Now known first done = record { journal = known; running = Serves first done }

    -- the first thing that it does
    replaces : (left : Left) (told : Tells) (known : Journal) (store : Option (List ℕ)) (first : V) (others : List IoEvent) (event : IoEvent) → AtRest left told first → c.BeginsWith k store first
        → FirstAhead k first (event ∷ others) → Stepped left told (Does event) (Now known first (event ∷ [])) others
    replaces left told known store first others event r from ahead =
        let saving = JournalReplaced ahead.payload in
        let behind = ahead.later ++ InputEnded ∷ [] in
        let here : saving ≡ event = sym (same_first event saving others behind ahead.others_are) in
        let rest : behind ≡ others = sym (same_rest event saving others behind ahead.others_are) in
        let a = actors.restarted r.stored in
        let tells = r.more_told ++ told_by actors k a ∷ [] in
        let l = left ++ r.more_left in
        let t = told ++ tells in
        let up = up_with actors r.stored a [] [] [] in
        let new = up_with actors (actors.stored a) a [] [] [] in
        let started : ByNow up l t = subst (λ z. ByNow up l z) (append_assoc told r.more_told (told_by actors k a ∷ []))
        (start_up actors law.same_name k g (record { store = r.stored; life = r.life }) l (told ++ r.more_told) r.by r.stored r.life refl (law.is_one k store first from) r.idle) in
        let saved : ByNow new l t = subst (λ z. ByNow new l z) (append-nil t) (save_all actors law.same_name k g up l t started r.stored a [] [] [] refl) in
        let standing : Standing c actors Shows Keeps Carries law k l t (saving ∷ []) first a [] = record {
          some = λ none. cc none;
          stored = whole_alone (c.replay k) ((c.replay k).whole ahead.payload) (c.part first) ahead.whole;
          shows = law.shows k store first r.stored from r.keeps;
          was_told = among_later told tells (told_by actors k a) (among_later r.more_told (told_by actors k a ∷ []) (told_by actors k a) (among_front (told_by actors k a) []));
          taken = [];
          came_is = refl;
          fed = λ items end is. subst (AllByRecursion (Come c actors Shows Keeps Carries law k l)) (sym (no_items items end is)) tt;
        } in
        let goes : Goes_on k l t (saving ∷ []) behind new = record {
          now = first;
          actor = a;
          pending = [];
          standing = standing;
          ready = [];
          back = [];
          later = ahead.later;
          tail = InputEnded ∷ [];
          sends = sends_nothing;
          of = tt;
          script = ahead.script;
          ends = inl refl;
          others_are = refl;
          is = refl;
        } in
        let result : Stepped left told (Does saving) (Now known first (saving ∷ [])) behind = record {
          p = new;
          more_left = r.more_left;
          more_told = tells;
          by = saved;
          like = serves first (saving ∷ []) refl goes;
          seen = tt;
        } in
        subst (λ e. Stepped left told (Does e) (Now known first (e ∷ [])) others) here (subst (λ o. Stepped left told (Does saving) (Now known first (saving ∷ [])) o) rest result)

    first_act : (left : Left) (told : Tells) (known : Journal) (first : V) (others : List IoEvent) (event : IoEvent) (p : AnyProcess actors) → ByNow p left told
        → Waits k left told known first (event ∷ others) p → Stepped left told (Does event) (Now known first (event ∷ [])) others
    first_act left told known first others event p by w = elim w.ahead [
      | inl nothing ↦ let no : event ∷ others ≡ [] = nothing in absurd (cc no)
      | inr ahead ↦ replaces left told known w.store first others event (rests_now left told known w.store p first by w.finds w.from w.behind) w.from ahead
    ]

    acts : (left : Left) (told : Tells) (known : Journal) (first : V) (done others : List IoEvent) (event : IoEvent) (p : AnyProcess actors) → ByNow p left told
        → IsFed c actors Shows Keeps Carries law k left done event
        → IsLike k left told (Now known first done) (event ∷ others) p → Stepped left told (Does event) (Now known first (done ++ event ∷ [])) others
    acts left told known first done others event p by fed (rests idle b) = let no : Serves first done ≡ Idle = idle in absurd (cc no)
    acts left told known first done others event p by fed (waits start is w) =
        let same : Serves first done ≡ Serves start [] = is in
        let one : start ≡ first = sym (cc same) in
        let none : [] ≡ done = sym (cc same) in
        subst (λ d. Stepped left told (Does event) (Now known first (d ++ event ∷ [])) others) none
        (first_act left told known first others event p by (subst (λ v. Waits k left told known v (event ∷ others) p) one w))
    acts left told known first done others event p by fed (serves start had is s) =
        let same : Serves first done ≡ Serves start had = is in
        let two : had ≡ done = sym (cc same) in
        let a = advance c actors Shows Keeps Carries law k g left told done others event p by (subst (λ d. Goes_on k left told d (event ∷ others) p) two s) fed in
        record { p = a.p; more_left = a.more_left; more_told = a.more_told; by = a.by; like = serves first (done ++ event ∷ []) refl a.goes; seen = a.seen }

    -- nothing happens in the execution
    nothing_done : (left : Left) (told : Tells) (x : Happening) (code : Process V) (others : List IoEvent) (p : AnyProcess actors) → ByNow p left told
        → IsLike k left told code others p → SeenBy (left ++ []) (told ++ []) x → Stepped left told x code others
    nothing_done left told x code others p by like seen = record {
      p = p;
      more_left = [];
      more_told = [];
      by = same_told p left told by;
      like = like_more k left [] told [] code others p like;
      seen = seen;
    }

    starts : (left : Left) (told : Tells) (known : Journal) (store : Option (List ℕ)) (first : V) (before others : List IoEvent) (p : AnyProcess actors) → ByNow p left told
        → MayFind c k known store → c.BeginsWith k store first → (others ≡ []) ⊎ FirstAhead k first others
        → IsLike k left told (record { journal = known; running = Idle }) before p → Stepped left told Begins (Now known first []) others
    starts left told known store first before others p by finds from ahead (rests idle b) =
        nothing_done left told Begins (Now known first []) others p by (waits first refl (record { store = store; finds = finds; from = from; ahead = ahead; behind = b })) tt
    starts left told known store first before others p by finds from ahead (waits start is w) = let no : Idle ≡ Serves start [] = is in absurd (cc no)
    starts left told known store first before others p by finds from ahead (serves start had is s) = let no : Idle ≡ Serves start had = is in absurd (cc no)

    stops_at_once : (left : Left) (told : Tells) (known : Journal) (first : V) (before others : List IoEvent) (p : AnyProcess actors) → ByNow p left told
        → IsLike k left told (Now known first []) before p → Stepped left told Ends (record { journal = known; running = Idle }) others
    stops_at_once left told known first before others p by (rests idle b) = let no : Serves first [] ≡ Idle = idle in absurd (cc no)
    stops_at_once left told known first before others p by (waits start is w) = nothing_done left told Ends (record { journal = known; running = Idle }) others p by (rests refl w.behind) tt
    stops_at_once left told known first before others p by (serves start had is s) =
        let same : Serves first [] ≡ Serves start had = is in
        let none : had ≡ [] = sym (cc same) in
        absurd (s.standing.some none)

    stops : (left : Left) (told : Tells) (known : Journal) (first : V) (done others later : List IoEvent) (p : AnyProcess actors) → ByNow p left told → done ≢ []
        → IsLike k left told (Now known first done) others p → Stepped left told Ends (record { journal = LeftBy done others; running = Idle }) later
    stops left told known first done others later p by some (rests idle b) = let no : Serves first done ≡ Idle = idle in absurd (cc no)
    stops left told known first done others later p by some (waits start is w) =
        let same : Serves first done ≡ Serves start [] = is in
        let none : done ≡ [] = cc same in
        absurd (some none)
    stops left told known first done others later p by some (serves start had is s) =
        let same : Serves first done ≡ Serves start had = is in
        let two : had ≡ done = sym (cc same) in
        nothing_done left told Ends (record { journal = LeftBy done others; running = Idle }) later p by
        (rests refl (ended done others refl (subst (λ d. Goes_on k left told d others p) two s))) tt

  -- ---- all

  -- what a process is to do, where it is to do these later
  abbrev plan_before : {k : K} {past : Past K} {q p : Process V} {x : Happening} → Goes c k past q x p → List IoEvent → List IoEvent
  plan_before (begins known store first finds from) others = []
  plan_before (does known first done event carried) others = event ∷ others
  plan_before (ends_at_once known first) others = []
  plan_before (ends known first done rest some whole) others = rest

  abbrev Ahead : K → Running V → List IoEvent → Type 0
  Ahead k Idle others = ⊤
  Ahead k (Serves first done) others = ((done ≡ []) × (others ≡ [])) ⊎ IsWhole c k first (done ++ others)

  ahead_before : (k : K) (past : Past K) (q p : Process V) (x : Happening) (step : Goes c k past q x p) (others : List IoEvent) → Ahead k p.running others → Ahead k q.running (plan_before step others)
  ahead_before k past q p x (begins known store first finds from) others ahead = tt
  ahead_before k past q p x (does known first done event carried) others (inl none) = absurd (some_more done event none.0)
  ahead_before k past q p x (does known first done event carried) others (inr whole) = inr (subst (IsWhole c k first) (append_assoc done (event ∷ []) others) whole)
  ahead_before k past q p x (ends_at_once known first) others ahead = inl (refl, refl)
  ahead_before k past q p x (ends known first done rest some whole) others ahead = inr whole

  -- what a process is to do that begins
  first_ahead : (k : K) (v : V) (others : List IoEvent) → Ahead k (Serves v []) others → (others ≡ []) ⊎ FirstAhead k v others
  first_ahead k v others (inl none) = inl none.1
  first_ahead k v others (inr w) =
      let run = w.runs in
      inr (record {
        payload = run.payload;
        later = run.later;
        whole = run.whole;
        script = subst (Script c k [] v) (append-nil run.later) (scripted c k [] v w.left w.last run.later run.serves [] (script_ends w.left w.last));
        others_are = w.is ∙ ap (λ l. l ++ InputEnded ∷ []) run.is;
      })

  -- each frame that left is a message that left
  abbrev Leaves : Past K → Left → Type 0
  Leaves past left = (item : List ℕ) → c.IsFrame item → HadLeft past (sized item) → (x : M) × OccursIn left x × Carries item x

  come_of : (past : Past K) (left : Left) (k : K) → Leaves past left → (items : List (List ℕ)) → AllByRecursion (λ item. c.IsFrame item → HadLeft past (sized item)) items
      → AllByRecursion (Come c actors Shows Keeps Carries law k left) items
  come_of past left k leaves items carried =
      each_weaker (λ item. c.IsFrame item → HadLeft past (sized item)) (Come c actors Shows Keeps Carries law k left) items
      (λ item had frame. leaves item frame (had frame))
      carried

  fed_of : (past : Past K) (left : Left) (k : K) (done : List IoEvent) (event : IoEvent) → Leaves past left → IsCarried c past done event → IsFed c actors Shows Keeps Carries law k left done event
  fed_of past left k done (BytesCame bytes) leaves carried = λ items rest is. come_of past left k leaves items (carried items rest is)
  fed_of past left k done InputEnded leaves carried = tt
  fed_of past left k done (RecordAppended payload) leaves carried = tt
  fed_of past left k done (JournalReplaced payload) leaves carried = tt
  fed_of past left k done (BytesSent bytes) leaves carried = tt
  fed_of past left k done (LineReported line) leaves carried = tt

  one_step : (k : K) (past : Past K) (q p : Process V) (x : Happening) (step : Goes c k past q x p) (others : List IoEvent) → Ahead k p.running others
      → (g : System actors) (left : Left) (told : Tells) (was : AnyProcess actors) → Leaves past left → By actors law.same_name k g was left told → IsLike k left told q (plan_before step others) was
      → Stepped k g left told x p others
  one_step k past q p x (begins known store first finds from) others ahead g left told was leaves by like =
      starts k g left told known store first [] others was by finds from (first_ahead k first others ahead) like
  one_step k past q p x (does known first done event carried) others ahead g left told was leaves by like =
      acts k g left told known first done others event was by (fed_of past left k done event leaves carried) like
  one_step k past q p x (ends_at_once known first) others ahead g left told was leaves by like =
      stops_at_once k g left told known first [] others was by like
  one_step k past q p x (ends known first done rest some whole) others ahead g left told was leaves by like =
      stops k g left told known first done rest others was by some like

  record Along (past : Past K) (now : K → Process V) (plan : K → List IoEvent) : Type 0 where
    before : List (System actors)
    last : System actors
    execution : Execution actors before last
    like : (k : K) → IsLike k last.left last.told (now k) (plan k) (last.process k)
    leaves : Leaves past last.left
    outputs : (k : K) (event : IoEvent) → IsOutput event → HasDone past k event → IsOfTurn c actors Shows Carries k (Told c actors Shows Keeps Carries law k last.told) event

  nothing_left : {X : Type 0} (place : ℕ) (y : X) → slice_get [] place ≡ Some y → ⊥
  nothing_left place y at = let none : None ≡ Some y = at in cc none

  first_alone : (now : K → Process V) → ((k : K) → now k ≡ record { journal = NoJournal; running = Idle }) → (plan : K → List IoEvent) → Along [] now plan
  first_alone now new plan = record {
    before = [];
    last = new_system actors;
    execution = begun;
    like = λ k. rests (ap (λ (p : Process V). p.running) (new k)) (fresh (ap (λ (p : Process V). p.journal) (new k)) refl);
    leaves = λ item frame had. absurd (nothing_left had.1.0 (had.0, Does (BytesSent (sized item))) had.1.1);
    outputs = λ k event is had. absurd (nothing_left had.0 (k, Does event) had.1);
  }

  module _ (j : K) (x : Happening) (past : Past K) (now prev : K → Process V) (plan plan_then : K → List IoEvent)
      (own : Goes c j past (prev j) x (now j)) (others : (k : K) → k ≢ j → now k ≡ prev k)
      (plan_here : plan_then j ≡ plan_before own (plan j)) (plan_others : (k : K) → k ≢ j → plan_then k ≡ plan k)
      (ahead : Ahead j (now j).running (plan j)) (a : Along past prev plan_then) where
    s : Stepped j a.last a.last.left a.last.told x (now j) (plan j)
    s =
        one_step j past (prev j) (now j) x own (plan j) ahead a.last a.last.left a.last.told (a.last.process j) a.leaves
        (nothing_yet actors law.same_name j a.before a.last a.execution)
        (subst (λ l. IsLike j a.last.left a.last.told (prev j) l (a.last.process j)) plan_here (a.like j))

    like_in : (k : K) → IsLike k (a.last.left ++ s.more_left) (a.last.told ++ s.more_told) (now k) (plan k) (s.by.last.process k)
    like_in k = elim (law.same_name k j) [
      | inl e ↦ subst (λ i. IsLike i (a.last.left ++ s.more_left) (a.last.told ++ s.more_told) (now i) (plan i) (s.by.last.process i)) (sym e)
          (subst (λ p. IsLike j (a.last.left ++ s.more_left) (a.last.told ++ s.more_told) (now j) (plan j) p) (sym s.by.here) s.like)
      | inr other ↦
          let was = like_more k a.last.left s.more_left a.last.told s.more_told (prev k) (plan_then k) (a.last.process k) (a.like k) in
          subst (λ p. IsLike k (a.last.left ++ s.more_left) (a.last.told ++ s.more_told) (now k) (plan k) p) (sym (s.by.others k other))
          (subst (λ l. IsLike k (a.last.left ++ s.more_left) (a.last.told ++ s.more_told) (now k) l (a.last.process k)) (plan_others k other)
          (subst (λ q. IsLike k (a.last.left ++ s.more_left) (a.last.told ++ s.more_told) q (plan_then k) (a.last.process k)) (sym (others k other)) was))
    ]

    was_here : (k : K) (event : IoEvent) → HasDone ((j, x) ∷ past) k event → ((j ≡ k) × (x ≡ Does event)) ⊎ HasDone past k event
    was_here k event (zero, at) =
        let both : (j, x) ≡ (k, Does event) = cc at in
        inl (ap (λ (p : K × Happening). p.0) both, ap (λ (p : K × Happening). p.1) both)
    was_here k event (suc place, at) = inr (place, at)

    leaves_in : Leaves ((j, x) ∷ past) (a.last.left ++ s.more_left)
    leaves_in item frame (k, had) = elim (was_here k (BytesSent (sized item)) had) [
      | inl e ↦ (subst (λ y. SeenBy j a.last (a.last.left ++ s.more_left) (a.last.told ++ s.more_told) y) e.1 s.seen).0 item refl frame
      | inr before ↦ let r = a.leaves item frame (k, before) in (r.0, among_more a.last.left s.more_left r.0 r.1, r.2)
    ]

    abbrev Output : Tells → K → IoEvent → Type 0
    Output told k event = IsOfTurn c actors Shows Carries k (Told c actors Shows Keeps Carries law k told) event

    output_more : (k : K) (event : IoEvent) → Output a.last.told k event → Output (a.last.told ++ s.more_told) k event
    output_more k event t = record {
      item = t.item;
      old = t.old;
      new = t.new;
      outs = t.outs;
      turn = t.turn;
      among = t.among;
      before = t.before;
      after = t.after;
      shows_before = t.shows_before;
      shows_after = t.shows_after;
      such_before = among_more a.last.told s.more_told (told_by actors k t.before) t.such_before;
      such_after = among_more a.last.told s.more_told (told_by actors k t.after) t.such_after;
    }

    seen_output : (left : Left) (told : Tells) (event : IoEvent) → IsOutput event → Seen c actors Shows Keeps Carries law j left told event → Output told j event
    seen_output left told (BytesCame bytes) is seen = absurd is
    seen_output left told InputEnded is seen = absurd is
    seen_output left told (RecordAppended payload) is seen = absurd is
    seen_output left told (JournalReplaced payload) is seen = absurd is
    seen_output left told (BytesSent bytes) is seen = seen.1
    seen_output left told (LineReported line) is seen = seen

    outputs_in : (k : K) (event : IoEvent) → IsOutput event → HasDone ((j, x) ∷ past) k event → Output (a.last.told ++ s.more_told) k event
    outputs_in k event is had = elim (was_here k event had) [
      | inl e ↦
          let left = a.last.left ++ s.more_left in
          let told = a.last.told ++ s.more_told in
          subst (λ i. Output told i event) e.0 (seen_output left told event is (subst (λ y. SeenBy j a.last left told y) e.1 s.seen))
      | inr before ↦ output_more k event (a.outputs k event is before)
    ]

    one_longer : Along ((j, x) ∷ past) now plan
    one_longer =
        let l = sym s.by.left_is in
        let t = sym s.by.told_is in
        record {
          before = s.by.past;
          last = s.by.last;
          execution = s.by.execution;
          like = λ k. subst (λ left. IsLike k left s.by.last.told (now k) (plan k) (s.by.last.process k)) l
              (subst (λ told. IsLike k (a.last.left ++ s.more_left) told (now k) (plan k) (s.by.last.process k)) t (like_in k));
          leaves = subst (λ left. Leaves ((j, x) ∷ past) left) l leaves_in;
          outputs = λ k event is had. subst (λ told. Output told k event) t (outputs_in k event is had);
        }

  along : (past : Past K) (now : K → Process V) → ((k : K) → CameTo c k past (now k)) → (plan : K → List IoEvent) → ((k : K) → Ahead k (now k).running (plan k)) → Along past now plan
  along [] now each plan ahead = first_alone now each plan
  along ((j, x) ∷ past) now each plan ahead =
      let prev : K → Process V = λ k. (each k).0 in
      let own : Goes c j past (prev j) x (now j) = elim (each j).2 [ inl e ↦ absurd (e.0 refl) | inr e ↦ e.1 ] in
      let others : (k : K) → k ≢ j → now k ≡ prev k = λ k other. elim (each k).2 [ inl e ↦ e.1 | inr e ↦ absurd (other (sym e.0)) ] in
      let here = plan_before own (plan j) in
      let plan_then : K → List IoEvent = λ k. choose actors law.same_name k j (law.same_name k j) here (plan k) in
      let plan_here : plan_then j ≡ here = chosen actors law.same_name j j (law.same_name j j) here (plan j) refl in
      let plan_others : (k : K) → k ≢ j → plan_then k ≡ plan k = λ k other. passed_over actors law.same_name k j (law.same_name k j) here (plan k) other in
      let ahead_then : (k : K) → Ahead k (prev k).running (plan_then k) = λ k. elim (law.same_name k j) [
        | inl e ↦ subst (λ i. Ahead i (prev i).running (plan_then i)) (sym e) (subst (λ l. Ahead j (prev j).running l) (sym plan_here) (ahead_before j past (prev j) (now j) x own (plan j) (ahead j)))
        | inr other ↦ subst (λ l. Ahead k (prev k).running l) (sym (plan_others k other)) (subst (λ (q : Process V). Ahead k q.running (plan k)) (others k other) (ahead k))
      ] in
      one_longer j x past now prev plan plan_then own others plan_here plan_others (ahead j) (along past prev (λ k. (each k).1) plan_then ahead_then)

  abbrev plan_of : (k : K) (r : Running V) → IsUnderWay c k r → List IoEvent
  plan_of k Idle way = []
  plan_of k (Serves first done) (inl none) = []
  plan_of k (Serves first done) (inr way) = way.0

  ahead_of : (k : K) (r : Running V) (way : IsUnderWay c k r) → Ahead k r (plan_of k r way)
  ahead_of k Idle way = tt
  ahead_of k (Serves first done) (inl none) = inl (none, refl)
  ahead_of k (Serves first done) (inr way) = inr way.1

  -- what processes of the code did is what those of the definitions may do
  pub joined : (past : Past K) (now : K → Process V) → Lived c past now → Joined c actors Shows Carries past
  joined past now lived =
      let a = along past now lived.each (λ k. plan_of k (now k).running (lived.under_way k)) (λ k. ahead_of k (now k).running (lived.under_way k)) in
      record { before = a.before; last = a.last; execution = a.execution; left = a.leaves; outputs = a.outputs }
