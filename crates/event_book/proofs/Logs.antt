-- Histories that grow by a note, and what one actor noted in them.
use Rattle.std.proofs.Common.{◌≡◌, ◌≢◌, ℕ, subst, zero, suc, ◌+◌, ◌*◌, ◌≤◌, List, [], ◌∷◌, ◌++◌, map, length, Some, Bool, true, false, true≢false, cond, sym, refl, ap, ◌∙◌, arith, length-append, append_assoc, suc-mul}
use Rattle.std.specs.Prelude.{slice_get, ◌||◌, not}
use Rattle.std.specs.List.{filter, AllByRecursion}
use Rattle.std.proofs.lemmas.List.{append-nil}
use Rattle.std.proofs.lemmas.List.Elements.{filter-append}
use Rattle.rows.specs.declared.actor.Actor.{Actor}
use Rattle.event_book.specs.declared.view.EventView.{EventView}
use Rattle.event_book.specs.declared.view.EventView.TheVariants.{Own, Delivery, Crash}
use Rattle.event_book.specs.declared.view.Note.{Note}
use Rattle.event_book.specs.declared.view.MessageTokenView.{MessageTokenView}
use Rattle.event_book.specs.declared.view.SeatView.{SeatView}
use Rattle.event_book.specs.declared.view.BookView.{BookView}
use Rattle.event_book.specs.Actors.{same_actor, lists_actor, are_apart}
use Rattle.event_book.specs.Histories.{notes_of, NumberedFrom, IsDueEvent, IsDueNote}
use Rattle.event_book.specs.Seats.{actor_in, HasOutput, last_token}
use Rattle.event_book.specs.Inner.Rule.{NamesOutput, FitsSeat, Fits}
use Rattle.event_book.proofs.Actors.{is_same, apart_is, or_false, or_left, or_right, not_true, and_true, both_true}

module _ {A : Type 0} where
  pub all_at : (P : A → Type 0) (xs : List A) (k : ℕ) (x : A) → AllByRecursion P xs → slice_get xs k ≡ Some x → P x
  all_at P [] k x h e = absurd (cc)
  all_at P (y ∷ ys) zero x h e = subst P (cc) h.0
  all_at P (y ∷ ys) (suc k) x h e = all_at P ys k x h.1 e

  pub all_map : (P Q : A → Type 0) (xs : List A) → ((x : A) → P x → Q x) → AllByRecursion P xs → AllByRecursion Q xs
  all_map P Q [] f h = tt
  all_map P Q (x ∷ xs) f h = (f x h.0, all_map P Q xs f h.1)

  pub all_append : (P : A → Type 0) (xs ys : List A) → AllByRecursion P xs → AllByRecursion P ys → AllByRecursion P (xs ++ ys)
  all_append P [] ys h k = k
  all_append P (x ∷ xs) ys h k = (h.0, all_append P xs ys h.1 k)

  all_one : (P : A → Type 0) (b : Bool) (x : A) (l : List A) → P x → AllByRecursion P l → AllByRecursion P (cond b (x ∷ l) l)
  all_one P true x l h k = (h, k)
  all_one P false x l h k = k

  all_filter : (P : A → Type 0) (test : A → Bool) (xs : List A) → AllByRecursion P xs → AllByRecursion P (filter test xs)
  all_filter P test [] h = tt
  all_filter P test (x ∷ xs) h = all_one P (test x) x (filter test xs) h.0 (all_filter P test xs h.1)

  pub got_longer : (xs ys : List A) (k : ℕ) (x : A) → slice_get xs k ≡ Some x → slice_get (xs ++ ys) k ≡ Some x
  got_longer [] ys k x e = absurd (cc)
  got_longer (y ∷ xs) ys zero x e = e
  got_longer (y ∷ xs) ys (suc k) x e = got_longer xs ys k x e

  pub got_last : (xs ys : List A) (x : A) (k : ℕ) → k ≡ length xs → slice_get (xs ++ x ∷ ys) k ≡ Some x
  got_last [] ys x zero e = refl
  got_last [] ys x (suc k) e = absurd (omega arith)
  got_last (y ∷ xs) ys x zero e = absurd (omega arith)
  got_last (y ∷ xs) ys x (suc k) e = got_last xs ys x k (omega arith)

module _ {I : Type 0} where
  pub notes_mine : (a : Actor) (log : List (Note I)) (e : Note I) → e.actor ≡ a → notes_of a (log ++ e ∷ []) ≡ notes_of a log ++ e ∷ []
  notes_mine a log e is = filter-append (λ (x : Note I). same_actor a x.actor) log (e ∷ []) ∙ ap (λ (b : Bool). notes_of a log ++ cond b (e ∷ []) []) (is_same a e.actor (sym is))

  pub notes_other : (a : Actor) (log : List (Note I)) (e : Note I) → e.actor ≢ a → notes_of a (log ++ e ∷ []) ≡ notes_of a log
  notes_other a log e apart =
      filter-append (λ (x : Note I). same_actor a x.actor) log (e ∷ []) ∙ ap (λ (b : Bool). notes_of a log ++ cond b (e ∷ []) []) (apart_is a e.actor (λ s. apart (sym s))) ∙ append-nil (notes_of a log)

  pub numbered_more : (k : ℕ) (log : List (Note I)) (e : Note I) → NumberedFrom k log → e.stamp ≡ k + length log → NumberedFrom k (log ++ e ∷ [])
  numbered_more k [] e h is = (is ∙ omega arith, tt)
  numbered_more k (x ∷ xs) e h is = (h.0, numbered_more (suc k) xs e h.1 (is ∙ omega arith))

  due_of : (log more : List (Note I)) (n : ℕ) (a : Actor) (d : EventView I) → IsDueEvent log n a d → IsDueEvent (log ++ more) n a d
  due_of log more n a (Own x) h = tt
  due_of log more n a (Delivery stamp place frame) h = (h.0, got_longer log more stamp h.0 h.1, h.2, h.3)
  due_of log more n a Crash h = tt

  pub due_longer : (log more : List (Note I)) (e : Note I) → IsDueNote log e → IsDueNote (log ++ more) e
  due_longer log more e h = due_of log more e.stamp e.actor e.noted.event h

  pub sent_longer : (log more : List (Note I)) (t : MessageTokenView I) → NamesOutput log t → NamesOutput (log ++ more) t
  sent_longer log more t h = (got_longer log more t.note.stamp t.note h.0, h.1)

  -- a view whose actors aren't the noting one fits the longer history
  pub fits_longer : (actors : List Actor) (holder : Actor → ℕ) (log : List (Note I)) (e : Note I) (i : ℕ) (v : BookView I) → holder e.actor ≢ i → Fits actors holder log i v → Fits actors holder (log ++ e ∷ []) i v
  fits_longer actors holder log e i v apart h = (
    all_map (FitsSeat actors holder log i) (FitsSeat actors holder (log ++ e ∷ []) i) v.seats
        (λ p f. (
          f.0,
          f.1,
          f.2 ∙ sym (notes_other p.actor log e (λ same. apart (ap holder same ∙ f.0))),
          all_map (NamesOutput log) (NamesOutput (log ++ e ∷ [])) p.taken (λ t. sent_longer log (e ∷ []) t) f.3,
        ))
        h.0,
    all_map (NamesOutput log) (NamesOutput (log ++ e ∷ [])) v.tokens (λ t. sent_longer log (e ∷ []) t) h.1,
    h.2,
  )

  -- the notes of all but one actor
  without : Actor → List (Note I) → List (Note I)
  without a log = filter (λ e. not (same_actor a e.actor)) log

  split_one : (b : Bool) (x : Note I) (l m r : List (Note I)) → length l ≡ length m + length r → suc (length l) ≡ length (cond b (x ∷ m) m) + length (cond (not b) (x ∷ r) r)
  split_one true x l m r e = omega arith
  split_one false x l m r e = omega arith

  split_length : (a : Actor) (log : List (Note I)) → length log ≡ length (notes_of a log) + length (without a log)
  unfolding without
  split_length a [] = omega arith
  split_length a (x ∷ xs) = split_one (same_actor a x.actor) x xs (notes_of a xs) (without a xs) (split_length a xs)

  fewer_one : (b c : Bool) (x : Note I) (a : Actor) (l m : List (Note I)) → same_actor a x.actor ≡ c → length (notes_of a l) ≤ length m → length (notes_of a (cond b (x ∷ l) l)) ≤ length (cond c (x ∷ m) m)
  fewer_one false true x a l m is h = omega arith
  fewer_one false false x a l m is h = h
  fewer_one true true x a l m is h = rw is (omega arith)
  fewer_one true false x a l m is h = rw is h

  fewer : (a y : Actor) (log : List (Note I)) → length (notes_of a (without y log)) ≤ length (notes_of a log)
  unfolding without
  fewer a y [] = omega arith
  fewer a y (x ∷ xs) = fewer_one (not (same_actor y x.actor)) (same_actor a x.actor) x a (without y xs) (notes_of a xs) refl (fewer a y xs)

  named_one : (b : Bool) (xs : List Actor) (e : Note I) (l : List (Note I)) → (b || lists_actor xs e.actor) ≡ true → AllByRecursion (λ (f : Note I). lists_actor xs f.actor ≡ true) l
      → AllByRecursion (λ (f : Note I). lists_actor xs f.actor ≡ true) (cond (not b) (e ∷ l) l)
  named_one true xs e l h k = k
  named_one false xs e l h k = (h, k)

  named_without : (y : Actor) (xs : List Actor) (log : List (Note I)) → AllByRecursion (λ (e : Note I). lists_actor (y ∷ xs) e.actor ≡ true) log → AllByRecursion (λ (e : Note I). lists_actor xs e.actor ≡ true) (without y log)
  unfolding without
  named_without y xs [] h = tt
  named_without y xs (e ∷ es) h = named_one (same_actor y e.actor) xs e (without y es) h.0 (named_without y xs es h.1)

  -- actors who note m events each at most note so many together
  pub bounded : (actors : List Actor) (m : ℕ) (log : List (Note I)) → AllByRecursion (λ (e : Note I). lists_actor actors e.actor ≡ true) log → ((a : Actor) → length (notes_of a log) ≤ m) → length log ≤ length actors * m
  bounded [] m [] h s = omega arith
  bounded [] m (e ∷ es) h s = absurd (true≢false (sym h.0))
  bounded (y ∷ ys) m log h s =
      let ih : length (without y log) ≤ length ys * m = bounded ys m (without y log) (named_without y ys log h) (λ a. let f = fewer a y log in let t = s a in omega arith) in
      let here = s y in
      let parts = split_length y log in
      omega (arith, suc-mul (length ys) m)

  not_among : (holder : Actor → ℕ) (i j : ℕ) (a : Actor) (qs : List (SeatView I)) → holder a ≡ i → i ≢ j → AllByRecursion (λ (q : SeatView I). holder q.actor ≡ j) qs → lists_actor (map actor_in qs) a ≡ false
  not_among holder i j a [] at apart h = refl
  not_among holder i j a (q ∷ qs) at apart h =
      or_false (same_actor q.actor a) (lists_actor (map actor_in qs) a) (apart_is q.actor a (λ e. apart (sym at ∙ ap holder (sym e) ∙ h.0))) (not_among holder i j a qs at apart h.1)

  named_append : (a : Actor) (ps qs : List (SeatView I)) → lists_actor (map actor_in ps) a ≡ false → lists_actor (map actor_in qs) a ≡ false → lists_actor (map actor_in (ps ++ qs)) a ≡ false
  named_append a [] qs h k = k
  named_append a (p ∷ ps) qs h k =
      or_false (same_actor p.actor a) (lists_actor (map actor_in (ps ++ qs)) a) (or_left (same_actor p.actor a) (lists_actor (map actor_in ps) a) h) (named_append a ps qs (or_right (same_actor p.actor a) (lists_actor (map actor_in ps) a) h) k)

  -- the seats of two views
  pub apart_join : (holder : Actor → ℕ) (i j : ℕ) (ps qs : List (SeatView I)) → i ≢ j → AllByRecursion (λ (p : SeatView I). holder p.actor ≡ i) ps → AllByRecursion (λ (q : SeatView I). holder q.actor ≡ j) qs
      → are_apart (map actor_in ps) ≡ true → are_apart (map actor_in qs) ≡ true → are_apart (map actor_in (ps ++ qs)) ≡ true
  apart_join holder i j [] qs apart h k d e = e
  apart_join holder i j (p ∷ ps) qs apart h k d e =
      both_true (lists_actor (map actor_in (ps ++ qs)) p.actor) (are_apart (map actor_in (ps ++ qs)))
      (named_append p.actor ps qs (not_true (lists_actor (map actor_in ps) p.actor) (are_apart (map actor_in ps)) d) (not_among holder i j p.actor qs h.0 apart k))
      (apart_join holder i j ps qs apart h.1 k (and_true (lists_actor (map actor_in ps) p.actor) (are_apart (map actor_in ps)) d) e)

  sits : (pre log : List (Note I)) → NumberedFrom (length pre) log → AllByRecursion (λ (e : Note I). slice_get (pre ++ log) e.stamp ≡ Some e) log
  sits pre [] h = tt
  sits pre (x ∷ xs) h = (
    got_last pre xs x x.stamp h.0,
    subst (λ (l : List (Note I)). AllByRecursion (λ (e : Note I). slice_get l e.stamp ≡ Some e) xs) (append_assoc pre (x ∷ []) xs)
        (sits (pre ++ x ∷ []) xs (subst (λ (k : ℕ). NumberedFrom k xs) (sym (length-append pre (x ∷ []) ∙ omega arith)) h.1)),
  )

  -- each of an actor's notes stands in the history at its stamp
  pub notes_sit : (a : Actor) (log : List (Note I)) → NumberedFrom 0 log → AllByRecursion (λ (e : Note I). slice_get log e.stamp ≡ Some e) (notes_of a log)
  notes_sit a log h = all_filter (λ (e : Note I). slice_get log e.stamp ≡ Some e) (λ (e : Note I). same_actor a e.actor) log (sits [] log h)

  pub token_sent : (log : List (Note I)) (place : ℕ) (notes : List (Note I)) → AllByRecursion (λ (e : Note I). slice_get log e.stamp ≡ Some e) notes → HasOutput place notes → AllByRecursion (NamesOutput log) (last_token place notes)
  token_sent log place [] h k = absurd k
  token_sent log place (e ∷ []) h k = ((h.0, k), tt)
  token_sent log place (e ∷ f ∷ es) h k = token_sent log place (f ∷ es) h.1 k
