-- Each kind of move keeps the rule of the book's table.
use Rattle.std.proofs.Common.{◌≡◌, ◌≢◌, ◌⊎◌, ℕ, eq-eqb, ne_eqb, subst, zero, suc, ◌+◌, ◌%◌, ◌^◌, ◌<◌, ◌≤◌, List, [], ◌∷◌, ◌++◌, map, length, set, drop, get_or, Some, Bool, true, false, true≢false, sym, refl, ap, ◌∙◌, inl, inr, ⊎_elim, arith, length-append, append_assoc}
use Rattle.std.specs.Prelude.{slice_get, slice_index, slice_set, if◌then◌else◌, ◌==◌, ◌||◌}
use Rattle.std.specs.List.{AllByRecursion}
use Rattle.std.proofs.Math.Nat.{mod-eq_of_lt}
use Rattle.std.proofs.Math.Seq.{drop-cons}
use Rattle.std.proofs.lemmas.List.{length-map}
use Rattle.std.proofs.lemmas.Option.{slice_get_within}
use mathlib.Core.Option.{some, some-injective, some-ne-none}
use lib.ListN.{get_elem?}
use Rattle.atomic_table.specs.Table.{State, keeps, opening, Allows, Splits, Joins}
use Rattle.atomic_table.proofs.Lists.{at_set, set_again}
use Rattle.rows.specs.declared.actor.Actor.{Actor}
use Rattle.rows.specs.declared.actor.Actor.TheVariants.{Server}
use Rattle.event_book.specs.declared.view.EventView.{EventView}
use Rattle.event_book.specs.declared.view.EventView.TheVariants.{Own, Delivery, Crash}
use Rattle.event_book.specs.declared.view.NotedView.{NotedView}
use Rattle.event_book.specs.declared.view.Note.{Note}
use Rattle.event_book.specs.declared.view.MessageTokenView.{MessageTokenView}
use Rattle.event_book.specs.declared.view.SeatView.{SeatView}
use Rattle.event_book.specs.declared.view.BookView.{BookView}
use Rattle.event_book.specs.Actors.{same_actor, lists_actor, are_apart}
use Rattle.event_book.specs.Histories.{notes_of, NumberedFrom, IsDueEvent, IsDueNote}
use Rattle.event_book.specs.Seats.{actor_in, MayNote, HasOutput, last_token, new_seat, with_note}
use Rattle.event_book.specs.Inner.Views.{HolderView, IsSeat, IsMessageToken, opening_view, spent_view, seat_view, token_view, only_seat, token_in, first_token, last_token_view, taken_in, joined, handed_view, rest_view}
use Rattle.event_book.specs.Inner.Rule.{NamesOutput, FitsSeat, Fits, IsBookState, AddsTo, LooksAt}
use Rattle.event_book.proofs.Actors.{same_is, is_same, apart_is, same_tells, or_left, or_right, not_true, and_true, named_at, covers}
use Rattle.event_book.proofs.Logs.{all_at, all_map, all_append, notes_mine, notes_other, numbered_more, due_longer, sent_longer, fits_longer, bounded, notes_sit, token_sent, apart_join}

-- the last of a list one longer, with its place
at_end : {A : Type 0} (l : List A) (a b : A) (j : ℕ) → get_elem? (l ++ a ∷ []) j ≡ some b → (get_elem? l j ≡ some b) ⊎ ((j ≡ length l) × (a ≡ b))
at_end [] a b zero e = inr (refl, some-injective a b e)
at_end [] a b (suc j) e = absurd (some-ne-none b (sym e))
at_end (x ∷ xs) a b zero e = inl e
at_end (x ∷ xs) a b (suc j) e = ⊎_elim (λ h. inl h) (λ h. inr (ap suc h.0, h.1)) (at_end xs a b j e)

length_set : {A : Type 0} (l : List A) (i : ℕ) (a : A) → length (set l i a) ≡ length l
length_set [] i a = refl
length_set (x ∷ xs) zero a = refl
length_set (x ∷ xs) (suc i) a = ap suc (length_set xs i a)

-- the seats of two views stand in one
moved : (Actor → ℕ) → ℕ → ℕ → Actor → ℕ
moved holder other id a = if holder a == other then id else holder a

moved_there : (holder : Actor → ℕ) (other id : ℕ) (a : Actor) → holder a ≡ other → moved holder other id a ≡ id
unfolding moved
moved_there holder other id a h = ap (λ (b : Bool). if b then id else holder a) (eq-eqb (holder a) other h)

moved_else : (holder : Actor → ℕ) (other id : ℕ) (a : Actor) (i : ℕ) → holder a ≡ i → i ≢ other → moved holder other id a ≡ i
unfolding moved
moved_else holder other id a i h apart = ap (λ (b : Bool). if b then id else holder a) (ne_eqb (holder a) other (λ e. apart (sym h ∙ e))) ∙ h

-- the seat of one actor stands in a new view
dealt : Actor → ℕ → (Actor → ℕ) → Actor → ℕ
dealt a n holder b = if same_actor b a then n else holder b

dealt_there : (a : Actor) (n : ℕ) (holder : Actor → ℕ) → dealt a n holder a ≡ n
unfolding dealt
dealt_there a n holder = ap (λ (c : Bool). if c then n else holder a) (is_same a a refl)

dealt_else : (a : Actor) (n : ℕ) (holder : Actor → ℕ) (b : Actor) → b ≢ a → dealt a n holder b ≡ holder b
unfolding dealt
dealt_else a n holder b apart = ap (λ (c : Bool). if c then n else holder b) (apart_is b a apart)

new_fit : (I : Type 0) (pre rest : List Actor) → AllByRecursion (FitsSeat {I = I} (pre ++ rest) (λ _. 0) [] 0) (map new_seat rest)
new_fit I pre [] = tt
new_fit I pre (a ∷ rest) = (
  (refl, named_at pre rest a, refl, tt),
  subst (λ (l : List Actor). AllByRecursion (FitsSeat {I = I} l (λ _. 0) [] 0) (map new_seat rest)) (append_assoc pre (a ∷ []) rest) (new_fit I (pre ++ a ∷ []) rest),
)

new_actors : (I : Type 0) (actors : List Actor) → map (actor_in {I = I}) (map new_seat actors) ≡ actors
new_actors I [] = refl
new_actors I (x ∷ xs) = ap (λ (l : List Actor). x ∷ l) (new_actors I xs)

others_apart : (I : Type 0) (a : Actor) (rest : List Actor) → lists_actor rest a ≡ false → AllByRecursion (λ (q : SeatView I). q.actor ≢ a) (map new_seat rest)
others_apart I a [] h = tt
others_apart I a (x ∷ xs) h = (
  (λ e. true≢false (sym (is_same x a e) ∙ or_left (same_actor x a) (lists_actor xs a) h)),
  others_apart I a xs (or_right (same_actor x a) (lists_actor xs a) h),
)

within_one : (b c : Bool) (actors : List Actor) (a z : Actor) → same_actor a z ≡ b → lists_actor actors a ≡ true → (b || c) ≡ true → (c ≡ true → lists_actor actors z ≡ true) → lists_actor actors z ≡ true
within_one true c actors a z is at h f = sym (ap (lists_actor actors) (same_is a z is)) ∙ at
within_one false c actors a z is at h f = f h

module _ {I : Type 0} where
  -- what is due is known from a token that was taken in
  due_from : (log : List (Note I)) (p : SeatView I) (d : EventView I) → AllByRecursion (NamesOutput log) p.taken → MayNote p d → IsDueEvent log (length log) p.actor d
  due_from log p (Own x) sent may = tt
  due_from log p (Delivery stamp place frame) sent may =
      let k = may.0 in let t = may.1 in
      let known = all_at (NamesOutput log) p.taken k t sent may.2 in
      let there : slice_get log stamp ≡ Some t.note = subst (λ (n : ℕ). slice_get log n ≡ Some t.note) may.3.0 known.0 in
      (t.note, there, slice_get_within log stamp t.note there, subst (λ (n : ℕ). slice_get t.note.noted.outputs n ≡ Some (record { to = p.actor; frame = frame })) may.3.1 may.3.2)
  due_from log p Crash sent may = tt

  shorter : (a : Actor) (log : List (Note I)) (e : Note I) (p : SeatView I) → e.actor ≡ p.actor → p.notes ≡ notes_of p.actor log → length p.notes + 1 < 2 ^ 40 → length (notes_of a log) < 2 ^ 40 → (p.actor ≡ a) ⊎ (p.actor ≢ a)
      → length (notes_of a (log ++ e ∷ [])) < 2 ^ 40
  shorter a log e p of same room old (inl h) =
      let longer : length (notes_of a (log ++ e ∷ [])) ≡ length (notes_of a log) + 1 = ap (λ (l : List (Note I)). length l) (notes_mine a log e (of ∙ h)) ∙ length-append (notes_of a log) (e ∷ []) in
      let here : length p.notes ≡ length (notes_of a log) = ap (λ (l : List (Note I)). length l) (same ∙ ap (λ (k : Actor). notes_of k log) h) in
      omega arith
  shorter a log e p of same room old (inr h) =
      let as_long : length (notes_of a (log ++ e ∷ [])) ≡ length (notes_of a log) = ap (λ (l : List (Note I)). length l) (notes_other a log e (λ x. h (sym of ∙ x))) in
      omega arith

  fits_mine : (actors : List Actor) (holder : Actor → ℕ) (id : ℕ) (log : List (Note I)) (n : ℕ) (p : SeatView I) (t : NotedView I) → FitsSeat actors holder log id p
      → Fits actors holder (log ++ record { stamp = n; actor = p.actor; noted = t } ∷ []) id (seat_view (with_note t n p))
  fits_mine actors holder id log n p t mine =
      let e : Note I = record { stamp = n; actor = p.actor; noted = t } in
      (((mine.0, mine.1, ap (λ (l : List (Note I)). l ++ e ∷ []) mine.2 ∙ sym (notes_mine p.actor log e refl), all_map (NamesOutput log) (NamesOutput (log ++ e ∷ [])) p.taken (λ x. sent_longer log (e ∷ []) x) mine.3), tt), tt, refl)

  earlier : (log : List (Note I)) (n : ℕ) (p : SeatView I) → n ≡ length log → NumberedFrom 0 log → p.notes ≡ notes_of p.actor log → AllByRecursion (λ (e : Note I). e.stamp < n) p.notes
  earlier log n p is num same =
      all_map (λ (e : Note I). slice_get log e.stamp ≡ Some e) (λ (e : Note I). e.stamp < n) p.notes
      (λ e h. subst (λ (k : ℕ). e.stamp < k) (sym is) (slice_get_within log e.stamp e h))
      (subst (λ (l : List (Note I)). AllByRecursion (λ (e : Note I). slice_get log e.stamp ≡ Some e) l) (sym same) (notes_sit p.actor log num))

  notes : (actors : List Actor) (slots id : ℕ) (p : SeatView I) (t : NotedView I) → length p.notes + 1 < 2 ^ 40 → MayNote p t.event
      → Allows (IsBookState actors) slots id (seat_view p, []) 0 (λ n. (n + 1) % 2 ^ 64) (AddsTo t (seat_view p, []))
  notes actors slots id p t room may s kept wide at range =
      let log = kept.log in
      let n = slice_index s.words 0 in
      let e : Note I = record { stamp = n; actor = p.actor; noted = t } in
      let is : n ≡ length log = ap (λ (w : List ℕ). slice_index w 0) kept.words in
      let fit = kept.fits id (seat_view p) at in
      let mine = fit.0.0 in
      let long : length (log ++ e ∷ []) ≡ length log + 1 = length-append log (e ∷ []) in
      let few = bounded actors (2 ^ 40) log kept.legal.2 (λ a. let s = kept.short a in omega arith) in
      let small : length log + 1 < 2 ^ 64 = omega (arith, kept.few) in
      let view = seat_view (with_note t n p) in (
        view,
        keeps,
        tt,
        record {
          log = log ++ e ∷ [];
          holder = kept.holder;
          words = ap (λ (w : List ℕ). slice_set w 0 ((slice_index w 0 + 1) % 2 ^ 64)) kept.words ∙ ap (λ (k : ℕ). k ∷ []) (mod-eq_of_lt small ∙ sym long);
          legal = (
            numbered_more 0 log e kept.legal.0 (is ∙ omega arith),
            all_append (IsDueNote (log ++ e ∷ [])) log (e ∷ []) (all_map (IsDueNote log) (IsDueNote (log ++ e ∷ [])) log (λ f. due_longer log (e ∷ []) f) kept.legal.1)
                (due_longer log (e ∷ []) e (subst (λ (k : ℕ). IsDueEvent log k p.actor t.event) (sym is) (due_from log p t.event mine.3 may)), tt),
            all_append (λ (f : Note I). lists_actor actors f.actor ≡ true) log (e ∷ []) kept.legal.2 (mine.1, tt),
          );
          few = kept.few;
          short = λ a. shorter a log e p refl mine.2 room (kept.short a) (same_tells p.actor a);
          fits = λ i v there. ⊎_elim
              (λ (x : (i ≡ id) × (view ≡ v)). subst (λ (y : ℕ × BookView I). Fits actors kept.holder (log ++ e ∷ []) y.0 y.1) (λ k. (sym x.0 k, x.1 k)) (fits_mine actors kept.holder id log n p t mine))
              (λ (x : (i ≢ id) × (get_elem? s.views i ≡ some v)). fits_longer actors kept.holder log e i v (λ same. x.0 (sym same ∙ mine.0)) (kept.fits i v x.1))
              (at_set s.views id i view v there);
        },
        (refl, (earlier log n p is kept.legal.0 mine.2, tt)),
      )

  -- the same history, with other views
  with_views : (actors : List Actor) (s : State (Unit {0}) (BookView I)) (kept : IsBookState actors s) (holder : Actor → ℕ) (views : List (BookView I))
      → ((i : ℕ) (v : BookView I) → get_elem? views i ≡ some v → Fits actors holder kept.log i v) → IsBookState actors record { words = s.words; homes = s.homes; views = views }
  with_views actors s kept holder views fits = record { log = kept.log; holder = holder; words = kept.words; legal = kept.legal; few = kept.few; short = kept.short; fits = fits }

  -- a new view, which has no seat
  comes : (actors : List Actor) (s : State (Unit {0}) (BookView I)) (kept : IsBookState actors s) (id : ℕ) (v : BookView I) (ts : List (MessageTokenView I)) → get_elem? s.views id ≡ some v → AllByRecursion (NamesOutput kept.log) ts
      → IsBookState actors record { words = s.words; homes = s.homes; views = slice_set s.views id v ++ record { seats = []; tokens = ts } ∷ [] }
  comes actors s kept id v ts at sent = with_views actors s kept kept.holder (slice_set s.views id v ++ record { seats = []; tokens = ts } ∷ [])
      (λ i w there. ⊎_elim
      (λ (x : get_elem? (slice_set s.views id v) i ≡ some w). kept.fits i w (subst (λ (l : List (BookView I)). get_elem? l i ≡ some w) (set_again s.views id v at) x))
      (λ (x : (i ≡ length (slice_set s.views id v)) × (record { seats = []; tokens = ts } ≡ w)). subst (λ (y : BookView I). Fits actors kept.holder kept.log i y) x.1 (tt, sent, refl))
      (at_end (slice_set s.views id v) record { seats = []; tokens = ts } w i there))

  -- a token of an output of the last note
  gives_token : (actors : List Actor) (id place : ℕ) (p : SeatView I) → HasOutput place p.notes → Splits (IsBookState actors) id (seat_view p) (seat_view p) (last_token_view place (seat_view p))
  gives_token actors id place p has s kept at =
      let mine = (kept.fits id (seat_view p) at).0.0 in
      comes actors s kept id (seat_view p) (last_token place p.notes) at
      (token_sent kept.log place p.notes (subst (λ (l : List (Note I)). AllByRecursion (λ (e : Note I). slice_get kept.log e.stamp ≡ Some e) l) (sym mine.2) (notes_sit p.actor kept.log kept.legal.0)) has)

  -- two tokens of one
  repeats : (actors : List Actor) (id : ℕ) (t : MessageTokenView I) → Splits (IsBookState actors) id (token_view t) (token_view t) (token_view t)
  repeats actors id t s kept at = comes actors s kept id (token_view t) (t ∷ []) at (kept.fits id (token_view t) at).1

  -- what stood at another number stands there still
  stood : (l : List (BookView I)) (i j : ℕ) (a b : BookView I) → ¬ (j ≡ i) → get_elem? (set l i a) j ≡ some b → get_elem? l j ≡ some b
  stood l i j a b apart e = ⊎_elim (λ x. absurd (apart x.0)) (λ x. x.1) (at_set l i j a b e)

  -- two views change, and the second is spent
  merges : (actors : List Actor) (s : State (Unit {0}) (BookView I)) (kept : IsBookState actors s) (holder : Actor → ℕ) (id other : ℕ) (both : BookView I)
      → ((i : ℕ) (v : BookView I) → i ≢ id → i ≢ other → get_elem? s.views i ≡ some v → Fits actors holder kept.log i v) → Fits actors holder kept.log id both
      → IsBookState actors record { words = s.words; homes = s.homes; views = slice_set (slice_set s.views id both) other spent_view }
  merges actors s kept holder id other both rest mine = with_views actors s kept holder (slice_set (slice_set s.views id both) other spent_view)
      (λ i v there. ⊎_elim
      (λ (x : (i ≡ other) × (spent_view ≡ v)). subst (λ (y : BookView I). Fits actors holder kept.log i y) x.1 (tt, tt, refl))
      (λ (x : (i ≢ other) × (get_elem? (slice_set s.views id both) i ≡ some v)). ⊎_elim
      (λ (y : (i ≡ id) × (both ≡ v)). subst (λ (z : ℕ × BookView I). Fits actors holder kept.log z.0 z.1) (λ k. (sym y.0 k, y.1 k)) mine)
      (λ (y : (i ≢ id) × (get_elem? s.views i ≡ some v)). rest i v y.0 x.0 y.1)
      (at_set s.views id i both v x.1))
      (at_set (slice_set s.views id both) other i spent_view v there))

  takes_in : (actors : List Actor) (id other : ℕ) (p : SeatView I) (t : MessageTokenView I) → Joins (IsBookState actors) id (seat_view p) other (token_view t) (taken_in (seat_view p) (token_view t)) spent_view
  takes_in actors id other p t s kept at apart there =
      let mine = (kept.fits id (seat_view p) at).0.0 in
      let sent = (kept.fits other (token_view t) (stood s.views id other (taken_in (seat_view p) (token_view t)) (token_view t) apart there)).1 in
      merges actors s kept kept.holder id other (taken_in (seat_view p) (token_view t)) (λ i v _ _ h. kept.fits i v h)
      (((mine.0, mine.1, mine.2, all_append (NamesOutput kept.log) p.taken (t ∷ []) mine.3 sent), tt), tt, refl)

  fits_moved : (actors : List Actor) (holder to : Actor → ℕ) (log : List (Note I)) (i j : ℕ) (v : BookView I) → ((a : Actor) → holder a ≡ i → to a ≡ j) → Fits actors holder log i v → Fits actors to log j v
  fits_moved actors holder to log i j v f h = (all_map (FitsSeat actors holder log i) (FitsSeat actors to log j) v.seats (λ p x. (f p.actor x.0, x.1, x.2, x.3)) h.0, h.1, h.2)

  held : (actors : List Actor) (holder : Actor → ℕ) (log : List (Note I)) (i : ℕ) (v : BookView I) → Fits actors holder log i v → AllByRecursion (λ (p : SeatView I). holder p.actor ≡ i) v.seats
  held actors holder log i v h = all_map (FitsSeat actors holder log i) (λ (p : SeatView I). holder p.actor ≡ i) v.seats (λ p x. x.0) h.0

  -- two seats become one
  pub joins : (actors : List Actor) (id other : ℕ) (v w : BookView I) → Joins (IsBookState actors) id v other w (joined v w) spent_view
  joins actors id other v w s kept at apart there =
      let to = moved kept.holder other id in
      let mine = kept.fits id v at in
      let theirs = kept.fits other w (stood s.views id other (joined v w) w apart there) in
      let first = fits_moved actors kept.holder to kept.log id id v (λ a h. moved_else kept.holder other id a id h (λ e. apart (sym e))) mine in
      let second = fits_moved actors kept.holder to kept.log other id w (λ a h. moved_there kept.holder other id a h) theirs in
      merges actors s kept to id other (joined v w)
      (λ i u _ far h. fits_moved actors kept.holder to kept.log i i u (λ a e. moved_else kept.holder other id a i e far) (kept.fits i u h)) (
        all_append (FitsSeat actors to kept.log id) v.seats w.seats first.0 second.0,
        all_append (NamesOutput kept.log) v.tokens w.tokens first.1 second.1,
        apart_join kept.holder id other v.seats w.seats (λ e. apart (sym e)) (held actors kept.holder kept.log id v mine) (held actors kept.holder kept.log other w theirs) first.2 second.2,
      )

  within : (actors : List Actor) (holder : Actor → ℕ) (log : List (Note I)) (i : ℕ) (z : Actor) (ps : List (SeatView I)) → AllByRecursion (FitsSeat actors holder log i) ps → lists_actor (map actor_in ps) z ≡ true → lists_actor actors z ≡ true
  within actors holder log i z [] h k = absurd (true≢false (sym k))
  within actors holder log i z (p ∷ ps) h k = within_one (same_actor p.actor z) (lists_actor (map actor_in ps) z) actors p.actor z refl h.0.1 k (within actors holder log i z ps h.1)

  looks : (actors : List Actor) (slots id : ℕ) (v : BookView I) → Allows (IsBookState actors) slots id (v, []) 0 (λ n. n) (LooksAt actors (v, []))
  looks actors slots id v s kept wide at range =
      let fit = kept.fits id v at in (
        v,
        keeps,
        tt,
        record {
          log = kept.log;
          holder = kept.holder;
          words = ap (λ (w : List ℕ). slice_set w 0 (slice_index w 0)) kept.words;
          legal = kept.legal;
          few = kept.few;
          short = kept.short;
          fits = λ i w there. kept.fits i w (subst (λ (l : List (BookView I)). get_elem? l i ≡ some w) (set_again s.views id v at) there);
        },
        (
          refl,
          fit.2,
          (λ z h. within actors kept.holder kept.log id z v.seats fit.0 h),
          (kept.log, ap (λ (w : List ℕ). slice_index w 0) kept.words, (kept.legal, all_map (FitsSeat actors kept.holder kept.log id) (λ (p : SeatView I). p.notes ≡ notes_of p.actor kept.log) v.seats (λ p h. h.2) fit.0)),
        ),
      )

  -- the book at the start
  pub begins : (actors : List Actor) → length actors ≤ 69 → are_apart actors ≡ true → IsBookState {I = I} actors (opening (0 ∷ []) [] (opening_view actors))
  begins actors few apart = record {
    log = [];
    holder = λ _. 0;
    words = refl;
    legal = (tt, tt, tt);
    few = few;
    short = λ a. omega arith;
    fits = one;
  }
    where
      one : (i : ℕ) (v : BookView I) → get_elem? (opening_view actors ∷ []) i ≡ some v → Fits actors (λ _. 0) [] i v
      one zero v e = subst (Fits actors (λ _. 0) [] 0) (some-injective (opening_view actors) v e) (new_fit I [] actors, tt, ap are_apart (new_actors I actors) ∙ apart)
      one (suc i) v e = absurd (some-ne-none v (sym e))

  apart_seats : (actors : List Actor) (holder : Actor → ℕ) (log : List (Note I)) (i : ℕ) (a : Actor) (n : ℕ) (ps : List (SeatView I)) → AllByRecursion (λ (q : SeatView I). q.actor ≢ a) ps → AllByRecursion (FitsSeat actors holder log i) ps
      → AllByRecursion (FitsSeat actors (dealt a n holder) log i) ps
  apart_seats actors holder log i a n [] h k = tt
  apart_seats actors holder log i a n (p ∷ ps) h k = ((dealt_else a n holder p.actor h.0 ∙ k.0.0, k.0.1, k.0.2, k.0.3), apart_seats actors holder log i a n ps h.1 k.1)

  far_seats : (actors : List Actor) (holder : Actor → ℕ) (log : List (Note I)) (i : ℕ) (a : Actor) (ps : List (SeatView I)) → holder a ≢ i → AllByRecursion (FitsSeat actors holder log i) ps → AllByRecursion (λ (q : SeatView I). q.actor ≢ a) ps
  far_seats actors holder log i a ps apart h = all_map (FitsSeat actors holder log i) (λ (q : SeatView I). q.actor ≢ a) ps (λ q x e. apart (ap holder (sym e) ∙ x.0)) h

  deals : (actors : List Actor) (id : ℕ) (p : SeatView I) (ps : List (SeatView I)) → AllByRecursion (λ (q : SeatView I). q.actor ≢ p.actor) ps
      → Splits (IsBookState actors) id record { seats = p ∷ ps; tokens = [] } record { seats = ps; tokens = [] } (seat_view p)
  deals actors id p ps apart s kept at =
      let mine = kept.fits id record { seats = p ∷ ps; tokens = [] } at in
      let left : BookView I = record { seats = ps; tokens = [] } in
      let n = length s.views in
      let to = dealt p.actor n kept.holder in
      with_views actors s kept to (slice_set s.views id left ++ seat_view p ∷ [])
      (λ i v there. ⊎_elim
      (λ (x : get_elem? (slice_set s.views id left) i ≡ some v). ⊎_elim
      (λ (y : (i ≡ id) × (left ≡ v)). subst (λ (z : ℕ × BookView I). Fits actors to kept.log z.0 z.1) (λ k. (sym y.0 k, y.1 k))
      (apart_seats actors kept.holder kept.log id p.actor n ps apart mine.0.1, tt, and_true (lists_actor (map actor_in ps) p.actor) (are_apart (map actor_in ps)) mine.2))
      (λ (y : (i ≢ id) × (get_elem? s.views i ≡ some v)).
      let old = kept.fits i v y.1 in
      (apart_seats actors kept.holder kept.log i p.actor n v.seats (far_seats actors kept.holder kept.log i p.actor v.seats (λ e. y.0 (sym e ∙ mine.0.0.0)) old.0) old.0, old.1, old.2))
      (at_set s.views id i left v x))
      (λ (x : (i ≡ length (slice_set s.views id left)) × (seat_view p ≡ v)). subst (λ (z : ℕ × BookView I). Fits actors to kept.log z.0 z.1) (λ k. (sym (x.0 ∙ length_set s.views id left) k, x.1 k))
      (((dealt_there p.actor n kept.holder, mine.0.0.1, mine.0.0.2, mine.0.0.3), tt), tt, refl))
      (at_end (slice_set s.views id left) (seat_view p) v i there))

  -- the moves, at what is known of a holder
  pub notes_as : (actors : List Actor) (slots id : ℕ) (me : HolderView I) (t : NotedView I) → IsSeat me → length (only_seat me.0).notes + 1 < 2 ^ 40 → MayNote (only_seat me.0) t.event
      → Allows (IsBookState actors) slots id me 0 (λ n. (n + 1) % 2 ^ 64) (AddsTo t me)
  notes_as actors slots id me t is room may = subst (λ (m : HolderView I). Allows (IsBookState actors) slots id m 0 (λ n. (n + 1) % 2 ^ 64) (AddsTo t m)) (sym is) (notes actors slots id (only_seat me.0) t room may)

  pub gives_token_as : (actors : List Actor) (id place : ℕ) (me : HolderView I) → IsSeat me → HasOutput place (only_seat me.0).notes → Splits (IsBookState actors) id me.0 me.0 (last_token_view place me.0)
  gives_token_as actors id place me is has = subst (λ (m : HolderView I). Splits (IsBookState actors) id m.0 m.0 (last_token_view place m.0)) (sym is) (gives_token actors id place (only_seat me.0) has)

  pub repeats_as : (actors : List Actor) (id : ℕ) (me : HolderView I) → IsMessageToken me → Splits (IsBookState actors) id me.0 me.0 me.0
  repeats_as actors id me is = subst (λ (m : HolderView I). Splits (IsBookState actors) id m.0 m.0 m.0) (sym is) (repeats actors id (token_in me.0))

  pub takes_in_as : (actors : List Actor) (id other : ℕ) (me them : HolderView I) → IsSeat me → IsMessageToken them
      → Joins (IsBookState actors) id me.0 other them.0 (taken_in me.0 them.0) spent_view
  takes_in_as actors id other me them is theirs =
      subst (λ (u : BookView I × BookView I). Joins (IsBookState actors) id u.0 other u.1 (taken_in u.0 u.1) spent_view) (λ k. ((sym is k).0, (sym theirs k).0)) (takes_in actors id other (only_seat me.0) (token_in them.0))

  one_token : (place : ℕ) (notes : List (Note I)) → HasOutput place notes → last_token place notes ≡ first_token (last_token place notes) ∷ []
  one_token place [] h = absurd h
  one_token place (e ∷ []) h = refl
  one_token place (e ∷ f ∷ es) h = one_token place (f ∷ es) h

  -- what a new token knows
  pub new_token : (place : ℕ) (me them : HolderView I) → them ≡ (last_token_view place me.0, []) → IsSeat me → HasOutput place (only_seat me.0).notes → last_token place (only_seat me.0).notes ≡ token_in them.0 ∷ []
  new_token place me them is seat has =
      let notes = (only_seat me.0).notes in
      let same : token_in them.0 ≡ first_token (last_token place notes) = ap (λ (x : HolderView I). token_in x.0) is ∙ ap (λ (x : HolderView I). token_in (last_token_view place x.0)) seat in
      one_token place notes has ∙ ap (λ (t : MessageTokenView I). t ∷ []) (sym same)

  pub token_stands : (place : ℕ) (me them : HolderView I) → them ≡ (last_token_view place me.0, []) → IsSeat me → HasOutput place (only_seat me.0).notes → IsMessageToken them
  token_stands place me them is seat has =
      is ∙ ap (λ (x : HolderView I). (last_token_view place x.0, [])) seat ∙ ap (λ (l : List (MessageTokenView I)). (record { seats = []; tokens = l }, [])) (new_token place me them is seat has)

  deals_as : (actors rest : List Actor) (a : Actor) (id : ℕ) (v : BookView I) → v ≡ opening_view (a ∷ rest) → are_apart (a ∷ rest) ≡ true → Splits (IsBookState actors) id v (rest_view v) (handed_view v)
  deals_as actors rest a id v is apart =
      subst (λ (u : BookView I). Splits (IsBookState actors) id u (rest_view u) (handed_view u)) (sym is) (deals actors id (new_seat a) (map new_seat rest) (others_apart I a rest (not_true (lists_actor rest a) (are_apart rest) apart)))

  pub looks_as : (actors key : List Actor) (slots id : ℕ) (me : HolderView I) → me ≡ (record { seats = me.0.seats; tokens = [] }, []) → key ≡ actors → Allows (IsBookState key) slots id me 0 (λ n. n) (LooksAt actors me)
  looks_as actors key slots id me is same =
      subst (λ (x : HolderView I × List Actor). Allows (IsBookState key) slots id x.0 0 (λ n. n) (LooksAt x.1 x.0)) (λ k. (sym is k, same k)) (looks key slots id record { seats = me.0.seats; tokens = [] })

  -- as many seats as the book has actors are all its seats
  pub all_seats : (actors : List Actor) (seats : List (SeatView I)) (me after : HolderView I) (n : ℕ) (a : Actor) → LooksAt actors me n after → me.0.seats ≡ seats → length seats ≡ length actors → lists_actor actors a ≡ true
      → lists_actor (map actor_in seats) a ≡ true
  all_seats actors seats me after n a look is long inn =
      let size : length (map actor_in seats) ≡ length seats = length-map seats actor_in in
      covers (map actor_in seats) actors a (sym (ap (λ l. are_apart (map actor_in l)) is) ∙ look.1) (λ z h. look.2 z (ap (λ l. lists_actor (map actor_in l) z) is ∙ h)) (omega arith) inn

  -- the seat of the i-th actor is handed out
  pub hands_out : (actors items : List Actor) (i id : ℕ) (v : BookView I) → v ≡ opening_view (drop i items) → are_apart (drop i items) ≡ true → i < length items → Splits (IsBookState actors) id v (rest_view v) (handed_view v)
  hands_out actors items i id v is apart h =
      let off : drop i items ≡ get_or items i (Server 0) ∷ drop (suc i) items = drop-cons items i (Server 0) h in
      deals_as actors (drop (suc i) items) (get_or items i (Server 0)) id v (is ∙ ap opening_view off) (sym (ap are_apart off) ∙ apart)
