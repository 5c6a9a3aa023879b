-- One event more of a run.
use Rattle.std.proofs.Common.{◌≡◌, ◌∙◌, ℕ, ◌+◌, ◌≤◌, List, [], ◌∷◌, ◌++◌, ap, drop, length, refl, subst, sym}
use Rattle.std.proofs.lemmas.List.{append-nil, append_assoc, drop_all}
use Rattle.group_inputs.specs.declared.event.Event.{Event}
use Rattle.world.specs.GroupView.{GroupView}
use Rattle.sim_tell.specs.Events.{TellsEvent, TellsRun}
use Rattle.sim_tell.specs.Marks.{Mark, first_mark}

-- what the others come to, the rows of those so far belong before
abbrev pub LeadsOn : GroupView → List Event → List (List (List ℕ)) → GroupView → Mark → ℕ → Type 0
LeadsOn first events done now mark i =
    (rest : List (List (List ℕ))) → TellsRun now mark i (drop i events) rest → TellsRun first first_mark 0 events (done ++ rest)

pub leads_on : (first : GroupView) (events : List Event) (done : List (List (List ℕ))) (now : GroupView) (mark : Mark) (i : ℕ)
    → LeadsOn first events done now mark i
    → (event : Event) → drop i events ≡ event ∷ drop (i + 1) events
    → (next : GroupView) (later : Mark) (row : List (List ℕ)) → TellsEvent now mark (i + 1) event next later row
    → LeadsOn first events (done ++ row ∷ []) next later (i + 1)
leads_on first events done now mark i on event left next later row told rest more =
    subst (TellsRun first first_mark 0 events) (sym (append_assoc done (row ∷ []) rest))
    (on (row ∷ rest)
    (subst (λ (es : List Event). TellsRun now mark i es (row ∷ rest)) (sym left)
    (next, later, row, rest, told, refl, more)))

-- behind some rows stand those of the first so many events
pub record ToldSoFar (first : GroupView) (events : List Event) (front rows : List (List (List ℕ))) (now : GroupView) (mark : Mark) (i : ℕ) : Type 0 where
  pub done : List (List (List ℕ))
  pub are : rows ≡ front ++ done
  pub on : LeadsOn first events done now mark i

pub none_so_far : (first : GroupView) (events : List Event) (front : List (List (List ℕ))) (mark : Mark) → mark ≡ first_mark
    → ToldSoFar first events front front first mark 0
none_so_far first events front mark is = record {
  done = [];
  are = sym (append-nil front);
  on = λ rest told. subst (λ (m : Mark). TellsRun first m 0 events rest) is told;
}

pub one_more : (first : GroupView) (events : List Event) (front rows more : List (List (List ℕ))) (now : GroupView) (mark : Mark) (i : ℕ)
    → ToldSoFar first events front rows now mark i
    → (event : Event) → drop i events ≡ event ∷ drop (i + 1) events
    → (next : GroupView) (later : Mark) (row : List (List ℕ)) → TellsEvent now mark (i + 1) event next later row
    → more ≡ rows ++ row ∷ []
    → ToldSoFar first events front more next later (i + 1)
one_more first events front rows more now mark i so event left next later row told grown = record {
  done = so.done ++ row ∷ [];
  are = grown ∙ ap (λ (all : List (List (List ℕ))). all ++ row ∷ []) so.are ∙ append_assoc front so.done (row ∷ []);
  on = leads_on first events so.done now mark i so.on event left next later row told;
}

pub all_told : (first : GroupView) (events : List Event) (front rows : List (List (List ℕ))) (now : GroupView) (mark : Mark) (i : ℕ)
    → ToldSoFar first events front rows now mark i → length events ≤ i
    → (done : List (List (List ℕ))) × TellsRun first first_mark 0 events done × (rows ≡ front ++ done)
all_told first events front rows now mark i so past = (
  so.done,
  subst (TellsRun first first_mark 0 events) (append-nil so.done)
      (so.on [] (subst (λ (es : List Event). TellsRun now mark i es []) (sym (drop_all i events past)) refl)),
  so.are,
)
