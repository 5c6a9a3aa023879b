-- What code has to have so that its processes are those of the definitions; and the items of a
-- batch, one by one.
use Rattle.std.proofs.Common.{◌≡◌, ◌≢◌, ◌∙◌, ◌⊎◌, inl, inr, ℕ, Option, Some, None, List, [], ◌∷◌, ◌++◌, refl, sym, subst, append_assoc, append-nil}
use Rattle.std.specs.List.{AllByRecursion}
use Rattle.wire.specs.Frames.{sized}
use Rattle.journal.specs.Events.{IoEvent, BytesSent, LineReported}
use Rattle.journal.specs.Batches.{BatchTurns}
use Rattle.processes.specs.Processes.{Actors, ToldActor, told_by, up_with, System}
use Rattle.processes.specs.Claims.{OccursIn, TakesInTurn, took_none, one_more}
use Rattle.process_lives.specs.Lives.{Code, IsReadAs}
use Rattle.process_lives.specs.Joined.{IsItemOf, IsOfTurn}
use Rattle.process_lives.proofs.Scripts.{among_more, among_later, among_front, each_among, each_both, each_weaker}
use Rattle.process_lives.proofs.Steps.{By, IsReached, take_one}

-- What is sent is these messages, one for one and in order; what else is sent is no frame, and the
-- rest is reported.
pub data Sends {M : Type 0} (IsFrame : List ℕ → Type 0) (Carries : List ℕ → M → Type 0) : List IoEvent → List M → Type 0 where
  sends_nothing : Sends IsFrame Carries [] []
  sends_message : {events : List IoEvent} {xs : List M} (bytes : List ℕ) (x : M) → IsItemOf Carries bytes x → Sends IsFrame Carries events xs → Sends IsFrame Carries (BytesSent bytes ∷ events) (x ∷ xs)
  sends_other : {events : List IoEvent} {xs : List M} (bytes : List ℕ) → ((item : List ℕ) → bytes ≡ sized item → IsFrame item → ⊥) → Sends IsFrame Carries events xs → Sends IsFrame Carries (BytesSent bytes ∷ events) xs
  reports_line : {events : List IoEvent} {xs : List M} (line : List ℕ) → Sends IsFrame Carries events xs → Sends IsFrame Carries (LineReported line ∷ events) xs

pub sends_both : {M : Type 0} (IsFrame : List ℕ → Type 0) (Carries : List ℕ → M → Type 0) (events more : List IoEvent) (xs ys : List M) → Sends IsFrame Carries events xs → Sends IsFrame Carries more ys → Sends IsFrame Carries (events ++ more) (xs ++ ys)
sends_both IsFrame Carries events more xs ys sends_nothing q = q
sends_both IsFrame Carries all more all_sent ys (sends_message {events = events} {xs = xs} bytes x is p) q = sends_message bytes x is (sends_both IsFrame Carries events more xs ys p q)
sends_both IsFrame Carries all more xs ys (sends_other {events = events} bytes none p) q = sends_other bytes none (sends_both IsFrame Carries events more xs ys p q)
sends_both IsFrame Carries all more xs ys (reports_line {events = events} line p) q = reports_line line (sends_both IsFrame Carries events more xs ys p q)

module _ {K V P A Q I M : Type 0} (c : Code K V P) (actors : Actors K A Q I M)
    (Shows : K → V → A → Type 0) (Keeps : K → P → Q → Type 0) (Carries : List ℕ → M → Type 0) where
  -- a turn is some inputs that the actor takes, one after the other, or none
  pub record Turned (k : K) (left : List M) (a : A) (new : V) (outs : List IoEvent) : Type 0 where
    pub actor : A
    pub after : List A
    pub sent : List M
    pub takes : TakesInTurn actors k left a actor after sent
    pub shows : Shows k new actor
    pub sends : Sends c.IsFrame Carries outs sent

  -- a frame carries a message that had left
  abbrev pub HadCome : List M → List ℕ → Type 0
  HadCome left item = c.IsFrame item → (x : M) × OccursIn left x × Carries item x

  pub record Joins : Type 0 where
    pub same_name : (j k : K) → (j ≡ k) ⊎ (j ≢ k)
    pub is_one : (k : K) (store : Option (List ℕ)) (v : V) → c.BeginsWith k store v → actors.IsOne k
    pub first : (k : K) (v : V) → c.BeginsWith k None v → Keeps k (c.part v) (actors.initial k)
    pub reads : (k : K) (file : List ℕ) (v : V) → c.BeginsWith k (Some (c.header k ++ file)) v → IsReadAs (c.replay k) file (c.part v)
    pub shows : (k : K) (store : Option (List ℕ)) (v : V) (q : Q) → c.BeginsWith k store v → Keeps k (c.part v) q → Shows k v (actors.restarted q)
    pub keeps : (k : K) (v : V) (a : A) → Shows k v a → Keeps k (c.part v) (actors.stored a)
    pub turns : (k : K) (left : List M) (item : List ℕ) (old new : V) (outs : List IoEvent) (a : A) → Shows k old a → IsReached actors k left a → c.Turn item old new outs → HadCome left item → Turned k left a new outs

  -- was told, or is to be told when the process next stores
  abbrev pub Known : K → List (ToldActor actors) → List A → A → Type 0
  Known k told unsaved a = OccursIn told (told_by actors k a) ⊎ OccursIn unsaved a

  abbrev pub AreOf : K → (A → Type 0) → List IoEvent → Type 0
  AreOf k IsSuch events = AllByRecursion (IsOfTurn c actors Shows Carries k IsSuch) events

  of_weaker : (k : K) (IsSuch Weaker : A → Type 0) → ((a : A) → IsSuch a → Weaker a) → (event : IoEvent) → IsOfTurn c actors Shows Carries k IsSuch event → IsOfTurn c actors Shows Carries k Weaker event
  of_weaker k IsSuch Weaker all event t = record {
    item = t.item;
    old = t.old;
    new = t.new;
    outs = t.outs;
    turn = t.turn;
    among = t.among;
    before = t.before;
    after = t.after;
    shows_before = t.shows_before;
    shows_after = t.shows_after;
    such_before = all t.before t.such_before;
    such_after = all t.after t.such_after;
  }

  pub are_weaker : (k : K) (IsSuch Weaker : A → Type 0) (events : List IoEvent) → ((a : A) → IsSuch a → Weaker a) → AreOf k IsSuch events → AreOf k Weaker events
  are_weaker k IsSuch Weaker events all p = each_weaker (IsOfTurn c actors Shows Carries k IsSuch) (IsOfTurn c actors Shows Carries k Weaker) events (of_weaker k IsSuch Weaker all) p

  module _ (law : Joins) (k : K) (g : System actors) (store : Q) (left : List M) (told : List (ToldActor actors)) where
    abbrev ByUp : A → List A → List M → Type 0
    ByUp a unsaved held = By actors law.same_name k g (up_with actors store a unsaved held []) left told

    -- what some items led to
    pub record TookItems (new : V) (outs : List IoEvent) (before : List A) (held_before : List M) : Type 0 where
      pub actor : A
      pub unsaved : List A
      pub held : List M
      pub sent : List M
      pub by : ByUp actor unsaved held
      pub held_is : held ≡ held_before ++ sent
      pub shows : Shows k new actor
      pub known : Known k told unsaved actor
      pub kept : (x : A) → Known k told before x → Known k told unsaved x
      pub sends : Sends c.IsFrame Carries outs sent
      pub of : AreOf k (Known k told unsaved) outs

    -- the first item, and the others
    both_took : (item : List ℕ) (old mid new : V) (first others : List IoEvent) (a b : A) (before unsaved : List A) (held more : List M) → c.Turn item old mid first
        → Shows k old a → Shows k mid b → Known k told unsaved a → Known k told unsaved b → ((x : A) → Known k told before x → Known k told unsaved x) → Sends c.IsFrame Carries first more
        → TookItems new others unsaved (held ++ more) → TookItems new (first ++ others) before held
    both_took item old mid new first others a b before unsaved held more turn shows_a shows_b known_a known_b kept sends rest = record {
      actor = rest.actor;
      unsaved = rest.unsaved;
      held = rest.held;
      sent = more ++ rest.sent;
      by = rest.by;
      held_is = rest.held_is ∙ append_assoc held more rest.sent;
      shows = rest.shows;
      known = rest.known;
      kept = λ x was. rest.kept x (kept x was);
      sends = sends_both c.IsFrame Carries first others more rest.sent sends rest.sends;
      of = each_both (IsOfTurn c actors Shows Carries k (Known k told rest.unsaved)) first others
          (each_among (IsOfTurn c actors Shows Carries k (Known k told rest.unsaved)) first (λ event among. record {
            item = item;
            old = old;
            new = mid;
            outs = first;
            turn = turn;
            among = among;
            before = a;
            after = b;
            shows_before = shows_a;
            shows_after = shows_b;
            such_before = rest.kept a known_a;
            such_after = rest.kept b known_b;
          }))
          rest.of;
    }

    kept_more : (unsaved more : List A) (x : A) → Known k told unsaved x → Known k told (unsaved ++ more) x
    kept_more unsaved more x (inl was) = inl was
    kept_more unsaved more x (inr is) = inr (among_more unsaved more x is)

    -- all that a turn is
    took_all : (a b : A) (unsaved more : List A) (held out : List M) → ByUp a unsaved held → TakesInTurn actors k left a b more out → ByUp b (unsaved ++ more) (held ++ out)
    took_all a b unsaved more held out by took_none = subst (λ u. ByUp b u (held ++ [])) (sym (append-nil unsaved)) (subst (λ h. ByUp b unsaved h) (sym (append-nil held)) by)
    took_all a b unsaved more held out by (one_more {a = mid} {unsaved = before} {out = sent_before} input new others t takes) =
        subst (λ u. ByUp new u (held ++ (sent_before ++ others))) (append_assoc unsaved before (new ∷ []))
        (subst (λ h. ByUp new ((unsaved ++ before) ++ new ∷ []) h) (append_assoc held sent_before others)
        (take_one actors law.same_name k g (up_with actors store mid (unsaved ++ before) (held ++ sent_before) []) left told (took_all a mid unsaved before held sent_before by t) store mid new (unsaved ++ before) (held ++ sent_before) [] input others refl takes))

    -- the last of what it was is known
    last_known : (a b : A) (unsaved more : List A) (out : List M) → Known k told unsaved a → TakesInTurn actors k left a b more out → Known k told (unsaved ++ more) b
    last_known a b unsaved more out known took_none = kept_more unsaved [] b known
    last_known a b unsaved more out known (one_more {a = mid} {unsaved = before} {out = sent_before} input new others t takes) =
        inr (among_later unsaved (before ++ new ∷ []) new (among_later before (new ∷ []) new (among_front new [])))

    -- the first item, and then whatever the others lead to
    one_then : (item : List ℕ) (old mid new : V) (first others : List IoEvent) (a : A) (unsaved : List A) (held : List M) → c.Turn item old mid first
        → Shows k old a → Known k told unsaved a → ByUp a unsaved held
        → ((b : A) (more : List A) (owed : List M) → Shows k mid b → Known k told more b → ByUp b more owed → TookItems new others more owed)
        → Turned k left a mid first → TookItems new (first ++ others) unsaved held
    one_then item old mid new first others a unsaved held turn shows known by rest t =
        let more = unsaved ++ t.after in
        let told_next = last_known a t.actor unsaved t.after t.sent known t.takes in
        both_took item old mid new first others a t.actor unsaved more held t.sent turn shows t.shows (kept_more unsaved t.after a known) told_next
        (kept_more unsaved t.after) t.sends
        (rest t.actor more (held ++ t.sent) t.shows told_next (took_all a t.actor unsaved t.after held t.sent by t.takes))

    reached : (a : A) (unsaved : List A) (held : List M) → ByUp a unsaved held → IsReached actors k left a
    reached a unsaved held by = record { past = by.past; last = by.last; execution = by.execution; store = store; unsaved = unsaved; held = held; ready = []; here = by.here; left_is = by.left_is }

    pub take_items : (items : List (List ℕ)) (old new : V) (outs : List IoEvent) (a : A) (unsaved : List A) (held : List M) → BatchTurns (c.replay k) c.part c.Turn items old new outs
        → Shows k old a → Known k told unsaved a → AllByRecursion (HadCome left) items → ByUp a unsaved held → TookItems new outs unsaved held
    take_items [] old new outs a unsaved held turns shows known fed by = record {
      actor = a;
      unsaved = unsaved;
      held = held;
      sent = [];
      by = by;
      held_is = sym (append-nil held);
      shows = subst (λ v. Shows k v a) (sym turns.1) shows;
      known = known;
      kept = λ x was. was;
      sends = subst (λ l. Sends c.IsFrame Carries l []) (sym turns.0) sends_nothing;
      of = subst (λ l. AreOf k (Known k told unsaved) l) (sym turns.0) tt;
    }
    take_items (item ∷ items) old new outs a unsaved held turns shows known fed by =
        subst (λ l. TookItems new l unsaved held) (sym turns.3)
        (one_then item old turns.0 new turns.1 turns.2 a unsaved held turns.4 shows known by
        (λ b more owed next told_next there. take_items items turns.0 new turns.2 b more owed turns.5 next told_next fed.1 there)
        (law.turns k left item old turns.0 turns.1 a shows (reached a unsaved held by) turns.4 fed.0))
