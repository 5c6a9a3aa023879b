-- What a process still does, from its front on.
use Rattle.std.proofs.Common.{◌≡◌, ◌∙◌, ℕ, Option, Some, None, List, [], ◌∷◌, ◌++◌, length, drop, refl, sym, ap, subst, append_assoc, arith, length-append}
use Rattle.std.specs.List.{flat_map, AllByRecursion}
use Rattle.fields_model.specs.Format.{spelled}
use Rattle.fields_model.proofs.FormatLaws.{length-spelled}
use Rattle.wire.specs.Frames.{sized}
use Rattle.raft_safety.proofs.Places.{get-more, get-later}
use Rattle.journal.specs.Events.{IoEvent, BytesCame, InputEnded, RecordAppended, JournalReplaced, BytesSent, LineReported}
use Rattle.journal.specs.Replays.{Replay, replayed_on, replayed}
use Rattle.journal.specs.Batches.{IsDoneBatch}
use Rattle.journal.specs.Serving.{TakesBatches, took_none, more_came, took_batch}
use Rattle.processes.specs.Claims.{OccursIn}
use Rattle.process_lives.specs.Lives.{Code, came}

-- ---- lists

pub among_more : {X : Type 0} (xs ys : List X) (x : X) → OccursIn xs x → OccursIn (xs ++ ys) x
among_more xs ys x a = (a.0, get-more xs ys a.0 x a.1)

pub among_later : {X : Type 0} (xs ys : List X) (x : X) → OccursIn ys x → OccursIn (xs ++ ys) x
among_later xs ys x a = get-later xs ys a.0 x a.1

pub among_front : {X : Type 0} (x : X) (xs : List X) → OccursIn (x ∷ xs) x
among_front x xs = (0, refl)

pub each_among : {X : Type 0} (Such : X → Type 0) (xs : List X) → ((x : X) → OccursIn xs x → Such x) → AllByRecursion Such xs
each_among Such [] all = tt
each_among Such (x ∷ xs) all = (all x (among_front x xs), each_among Such xs (λ y a. all y (among_later (x ∷ []) xs y a)))

pub each_both : {X : Type 0} (Such : X → Type 0) (xs ys : List X) → AllByRecursion Such xs → AllByRecursion Such ys → AllByRecursion Such (xs ++ ys)
each_both Such [] ys p q = q
each_both Such (x ∷ xs) ys p q = (p.0, each_both Such xs ys p.1 q)

pub each_later : {X : Type 0} (Such : X → Type 0) (xs ys : List X) → AllByRecursion Such (xs ++ ys) → AllByRecursion Such ys
each_later Such [] ys p = p
each_later Such (x ∷ xs) ys p = each_later Such xs ys p.1

pub each_first : {X : Type 0} (Such : X → Type 0) (xs ys : List X) → AllByRecursion Such (xs ++ ys) → AllByRecursion Such xs
each_first Such [] ys p = tt
each_first Such (x ∷ xs) ys p = (p.0, each_first Such xs ys p.1)

pub each_weaker : {X : Type 0} (Such Weaker : X → Type 0) (xs : List X) → ((x : X) → Such x → Weaker x) → AllByRecursion Such xs → AllByRecursion Weaker xs
each_weaker Such Weaker [] all p = tt
each_weaker Such Weaker (x ∷ xs) all p = (all x p.0, each_weaker Such Weaker xs all p.1)

-- ---- items

drop_front : {X : Type 0} (xs ys : List X) → drop (length xs) (xs ++ ys) ≡ ys
drop_front [] ys = refl
drop_front (x ∷ xs) ys = drop_front xs ys

behind_length : (x : List ℕ) → drop 4 (sized x) ≡ x
behind_length x = sym (ap (λ n. drop n (sized x)) (length-spelled 4 (length x))) ∙ drop_front (spelled 4 (length x)) x

pub one_item : (x y : List ℕ) → sized x ≡ sized y → x ≡ y
one_item x y e = sym (behind_length x) ∙ ap (drop 4) e ∙ behind_length y

pub no_items : (items : List (List ℕ)) (rest : List ℕ) → [] ≡ flat_map sized items ++ rest → items ≡ []
no_items [] rest e = refl
no_items (item ∷ items) rest e =
    let whole = ap length (e ∙ append_assoc (sized item) (flat_map sized items) rest ∙ append_assoc (spelled 4 (length item)) item (flat_map sized items ++ rest)) in
    absurd (omega (arith, whole, length-append (spelled 4 (length item)) (item ++ (flat_map sized items ++ rest)), length-spelled 4 (length item)))

pub items_both : (xs ys : List (List ℕ)) → flat_map sized (xs ++ ys) ≡ flat_map sized xs ++ flat_map sized ys
items_both [] ys = refl
items_both (x ∷ xs) ys = ap (λ l. sized x ++ l) (items_both xs ys) ∙ sym (append_assoc (sized x) (flat_map sized xs) (flat_map sized ys))

-- ---- what came, and what is stored

pub came_both : (xs ys : List IoEvent) → came (xs ++ ys) ≡ came xs ++ came ys
came_both [] ys = refl
came_both (BytesCame bytes ∷ xs) ys = ap (λ l. bytes ++ l) (came_both xs ys) ∙ sym (append_assoc bytes (came xs) (came ys))
came_both (InputEnded ∷ xs) ys = came_both xs ys
came_both (RecordAppended payload ∷ xs) ys = came_both xs ys
came_both (JournalReplaced payload ∷ xs) ys = came_both xs ys
came_both (BytesSent bytes ∷ xs) ys = came_both xs ys
came_both (LineReported line ∷ xs) ys = came_both xs ys

module _ {P : Type 0} (k : Replay P) where
  pub whole_alone : (r : Option P) (part : P) → r ≡ Some part → replayed_on k r [] ≡ Some part
  whole_alone r part e = ap (λ z. replayed_on k z []) e

  changed_more : (start : Option P) (payloads : List (List ℕ)) (payload : List ℕ) (part : P) → replayed_on k start payloads ≡ Some part → replayed_on k start (payloads ++ payload ∷ []) ≡ replayed_on k (k.after part payload) []
  changed_more None payloads payload part e = let none : None ≡ Some part = e in absurd (cc none)
  changed_more (Some q) [] payload part e = let same : q ≡ part = cc e in ap (λ z. replayed_on k (k.after z payload) []) same
  changed_more (Some q) (first ∷ payloads) payload part e = changed_more (k.after q first) payloads payload part e

  pub one_change : (payloads : List (List ℕ)) (payload : List ℕ) (old new : P) → replayed k payloads ≡ Some old → k.after old payload ≡ Some new → replayed k (payloads ++ payload ∷ []) ≡ Some new
  one_change [] payload old new e a = let none : None ≡ Some old = e in absurd (cc none)
  one_change (first ∷ payloads) payload old new e a = changed_more (k.whole first) payloads payload old e ∙ whole_alone (k.after old payload) new a

-- ---- what is still done

module _ {K V P : Type 0} (c : Code K V P) (k : K) where
  pub data Script : List ℕ → V → List IoEvent → Type 0 where
    script_ends : (pending : List ℕ) (now : V) → Script pending now []
    script_more : (pending : List ℕ) (now : V) (bytes : List ℕ) (events : List IoEvent) → Script (pending ++ bytes) now events → Script pending now (BytesCame bytes ∷ events)
    script_batch : (pending : List ℕ) (now new : V) (events later : List IoEvent) (items : List (List ℕ)) (rest : List ℕ) → pending ≡ flat_map sized items ++ rest
        → IsDoneBatch (c.replay k) c.part c.Turn items now new events → Script rest new later → Script pending now (events ++ later)

  pub scripted : (pending : List ℕ) (old : V) (left : List ℕ) (new : V) (events : List IoEvent) → TakesBatches (c.replay k) c.part c.Turn pending old left new events
      → (later : List IoEvent) → Script left new later → Script pending old (events ++ later)
  scripted pending old left new events took_none later s = s
  scripted pending old left new all (more_came before now events bytes t) later s =
      subst (Script pending old) (sym (append_assoc events (BytesCame bytes ∷ []) later)) (scripted pending old before now events t (BytesCame bytes ∷ later) (script_more before now bytes later s))
  scripted pending old left new all (took_batch before mid now events done items rest t is b) later s =
      subst (Script pending old) (sym (append_assoc events done later)) (scripted pending old before mid events t (done ++ later) (script_batch before mid now done later items rest is b s))
