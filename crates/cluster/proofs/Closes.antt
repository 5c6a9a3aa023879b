-- The cells of a book, all together, make a run.
use Rattle.std.proofs.Common.{◌≡◌, List, [], ◌∷◌, ◌++◌, map, Option, Some, Bool, true, false, true≢false, sym, refl, ap, ◌∙◌, subst, append_assoc, append-nil}
use Rattle.std.specs.Prelude.{if◌then◌else◌, ◌||◌, not, reverse, None}
use Rattle.std.specs.List.{AllByRecursion}
use Rattle.std.proofs.lemmas.Bool.{false_from_ne_true, and_parts, or_parts, or_right, not-true}
use Rattle.std.proofs.lemmas.List.{reverse-reverse, reverse-append}
use Rattle.rows.specs.declared.actor.Actor.{Actor}
use Rattle.event_book.specs.Actors.{same_actor, lists_actor, are_apart}
use Rattle.event_book.specs.Histories.{notes_of}
use Rattle.event_book.specs.Seats.{actor_in, IsWhole}
use Rattle.event_book.specs.declared.view.Note.{Note}
use Rattle.event_book.specs.declared.view.SeatView.{SeatView}
use Rattle.cells.specs.declared.own_input.OwnInput.{OwnInput}
use Rattle.actor.specs.declared.group_actor.GroupActor.{GroupActor}
use Rattle.cells.specs.Actors.{ActorSteps}
use Rattle.cells.specs.Cells.{CellView, IsLed, IsLedFrom}
use Rattle.cluster.specs.Closing.{noted_events}
use Rattle.cells.specs.Groups.{seat_in}
use Rattle.cluster.proofs.CellWorlds.{CellWorld, put, Happened, Runs}
use Rattle.cluster.proofs.Merge.{Group, Leads, AllLead, History, sent_by, legal_runs, same_actor-refl, same_actor-true, same_actor-false, same_actor-apart}

-- ---- worlds of the actors of cells

-- each of these actors is new, and nothing was sent
abbrev pub Opens : (Actor → GroupActor → Type 0) → List Actor → CellWorld → Type 0
Opens began all w =
    (w.sent ≡ [])
    × ((a : Actor) → lists_actor all a ≡ true →
    (s : GroupActor) × (w.at a ≡ Some s) × began a s)

-- In the order of the stamps the history is a run of actors that began so, and no others, to those of
-- the cells.
pub record ClosedRun (began : Actor → GroupActor → Type 0) (all : List Actor) (log : History) (cells : List CellView)
    : Type 0 where
  pub first : CellWorld
  pub last : CellWorld
  pub opens : Opens began all first
  pub outside : (a : Actor) → lists_actor all a ≡ false → first.at a ≡ None
  pub runs : Runs Happened first (noted_events log log) last
  pub sent : last.sent ≡ sent_by log
  pub ends : AllByRecursion (λ (c : CellView). last.at c.seat.actor ≡ Some c.actor) cells

abbrev group : Group GroupActor CellWorld
group = record {
  steps = ActorSteps;
  here = λ w a. w.at a;
  sent = λ w. w.sent;
  happens = Happened;
  takes = λ w a s t noted outputs e here brings step. (
    put w a t outputs,
    record {
      actor = a;
      old = s;
      new = t;
      event = noted;
      outputs = outputs;
      here = here;
      brings = brings;
      step = step;
      after = refl;
    },
    ap (λ (x : Bool). if x then Some t else w.at a) (same_actor-refl a),
    (λ b apart. ap (λ (x : Bool). if x then Some t else w.at b) (same_actor-false b a apart)),
    refl,
  );
}

-- ---- where an actor began

-- where the notes, the newest first, began, and that they lead on
leads : (began : GroupActor → Type 0) (es rest : History) (t z : GroupActor) → IsLed began es t →
    Leads ActorSteps t rest z →
    (s : GroupActor) × began s × Leads ActorSteps s (reverse es ++ rest) z
leads began [] rest t z led on = (t, led, on)
leads began (e ∷ es) rest t z led on =
    let more = leads began es (e ∷ rest) led.0 z led.1 (t, led.2, on) in
    (more.0, more.1, subst (λ l. Leads ActorSteps more.0 l z) (same e es rest) more.2)
  where
    same : (e : Note OwnInput) (es rest : History) →
        reverse es ++ e ∷ rest ≡ reverse (e ∷ es) ++ rest
    same e es rest =
        sym (append_assoc (reverse es) (e ∷ []) rest)
        ∙ ap (λ l. l ++ rest) (sym (reverse-append (e ∷ []) es))

led_from : (began : Actor → GroupActor → Type 0) (c : CellView) → IsLedFrom began c →
    (s : GroupActor) × began c.seat.actor s × Leads ActorSteps s c.seat.notes c.actor
led_from began c led =
    let l = leads (began c.seat.actor) (reverse c.seat.notes) [] c.actor c.actor led refl in
    let all = append-nil (reverse (reverse c.seat.notes)) ∙ reverse-reverse c.seat.notes in
    (l.0, l.1, subst (λ x. Leads ActorSteps l.0 x c.actor) all l.2)

or_else : (b c : Bool) → (b || c) ≡ true → b ≡ false → c ≡ true
or_else b c h n = sym (ap (λ (x : Bool). x || c) n) ∙ h

other : (a b : Actor) → same_actor a b ≡ false → same_actor b a ≡ false
other a b e = same_actor-false b a (λ same. same_actor-apart a b e (sym same))

-- ---- the actors of cells, at first and at last

abbrev names : List CellView → List Actor
names cells = map actor_in (map seat_in cells)

module _ (began : Actor → GroupActor → Type 0) where
  abbrev first_at : (cells : List CellView) → AllByRecursion (IsLedFrom began) cells →
      Actor → Option GroupActor
  first_at [] h a = None
  first_at (c ∷ cs) h a =
      if same_actor c.seat.actor a then Some (led_from began c h.0).0 else first_at cs h.1 a

  abbrev last_at : List CellView → Actor → Option GroupActor
  last_at [] a = None
  last_at (c ∷ cs) a = if same_actor c.seat.actor a then Some c.actor else last_at cs a

  abbrev Found : History → (cells : List CellView) → AllByRecursion (IsLedFrom began) cells →
      Actor → Type 0
  Found log cells led a =
      (s : GroupActor) × (t : GroupActor) × (first_at cells led a ≡ Some s)
      × (last_at cells a ≡ Some t)
      × Leads ActorSteps s (notes_of a log) t
      × began a s

  found_one : (log : History) (c : CellView) (cs : List CellView) →
      (led : AllByRecursion (IsLedFrom began) (c ∷ cs)) → c.seat.notes ≡ notes_of c.seat.actor log →
      (a : Actor) → (same_actor c.seat.actor a ≡ false → Found log cs led.1 a) →
      (b : Bool) → same_actor c.seat.actor a ≡ b → Found log (c ∷ cs) led a
  found_one log c cs led mine a rest true e =
      let f = led_from began c led.0 in
      let on = subst (λ l. Leads ActorSteps f.0 l c.actor) mine f.2 in
      let is = same_actor-true c.seat.actor a e in (
        f.0,
        c.actor,
        ap (λ (b : Bool). if b then Some f.0 else first_at cs led.1 a) e,
        ap (λ (b : Bool). if b then Some c.actor else last_at cs a) e,
        subst (λ x. Leads ActorSteps f.0 (notes_of x log) c.actor) is on,
        subst (λ x. began x f.0) is f.1,
      )
  found_one log c cs led mine a rest false e =
      let r = rest e in (
        r.0,
        r.1,
        ap (λ (b : Bool). if b then Some (led_from began c led.0).0 else first_at cs led.1 a) e ∙ r.2,
        ap (λ (b : Bool). if b then Some c.actor else last_at cs a) e ∙ r.3,
        r.4,
        r.5,
      )

  -- each cell that is there was led from its first actor to its last
  found : (log : History) (cells : List CellView) (led : AllByRecursion (IsLedFrom began) cells) →
      AllByRecursion (λ (p : SeatView OwnInput). p.notes ≡ notes_of p.actor log)
      (map seat_in cells) →
      (a : Actor) → lists_actor (names cells) a ≡ true → Found log cells led a
  found log [] led mine a inn = absurd (true≢false (sym inn))
  found log (c ∷ cs) led mine a inn =
      let b = same_actor c.seat.actor a in
      let rest = or_else b (lists_actor (names cs) a) inn in
      found_one log c cs led mine.0 a (λ e. found log cs led.1 mine.1 a (rest e)) b refl

  -- an actor of no cell is nowhere
  not_found : (cells : List CellView) (led : AllByRecursion (IsLedFrom began) cells) (a : Actor) →
      lists_actor (names cells) a ≡ false → first_at cells led a ≡ None
  not_found [] led a out = refl
  not_found (c ∷ cs) led a out =
      let o = or_parts (same_actor c.seat.actor a) (lists_actor (names cs) a) out in
      ap (λ (b : Bool). if b then Some (led_from began c led.0).0 else first_at cs led.1 a) o.0
      ∙ not_found cs led.1 a o.1

  -- the cells of distinct actors are the last of their actors
  abbrev At : (Actor → Option GroupActor) → CellView → Type 0
  At at c = at c.seat.actor ≡ Some c.actor

  skip : (c : CellView) (cs ds : List CellView) → lists_actor (names ds) c.seat.actor ≡ false →
      AllByRecursion (At (last_at cs)) ds → AllByRecursion (At (last_at (c ∷ cs))) ds
  skip c cs [] out h = tt
  skip c cs (d ∷ ds) out h =
      let a = c.seat.actor in
      let b = d.seat.actor in
      let o = or_parts (same_actor b a) (lists_actor (names ds) a) out in (
        ap (λ (x : Bool). if x then Some c.actor else last_at cs b) (other b a o.0) ∙ h.0,
        skip c cs ds o.1 h.1,
      )

  all_last : (cells : List CellView) → are_apart (names cells) ≡ true →
      AllByRecursion (At (last_at cells)) cells
  all_last [] apart = tt
  all_last (c ∷ cs) apart =
      let a = c.seat.actor in
      let p = and_parts (not (lists_actor (names cs) a)) (are_apart (names cs)) apart in (
        ap (λ (b : Bool). if b then Some c.actor else last_at cs a) (same_actor-refl a),
        skip c cs cs (not-true (lists_actor (names cs) a) p.0) (all_last cs p.1),
      )

  all_there : (cells : List CellView) (at to : Actor → Option GroupActor) →
      ((a : Actor) → lists_actor (names cells) a ≡ true → to a ≡ at a) →
      AllByRecursion (At at) cells → AllByRecursion (At to) cells
  all_there [] at to same h = tt
  all_there (c ∷ cs) at to same h =
      let a = c.seat.actor in (
        same a (ap (λ (b : Bool). b || lists_actor (names cs) a) (same_actor-refl a)) ∙ h.0,
        all_there cs at to
            (λ b inn. same b (or_right (same_actor a b) (lists_actor (names cs) b) inn)) h.1,
      )

-- All cells of a book, each of which keeps to its own notes, make a run together.
pub closes : (began : Actor → GroupActor → Type 0) (all : List Actor) (log : History) (cells : List CellView) →
    AllByRecursion (IsLedFrom began) cells →
    IsWhole all log (map seat_in cells) →
    are_apart (map actor_in (map seat_in cells)) ≡ true →
    ((a : Actor) → lists_actor all a ≡ true → lists_actor (map actor_in (map seat_in cells)) a ≡ true) →
    ((a : Actor) → lists_actor (map actor_in (map seat_in cells)) a ≡ true → lists_actor all a ≡ true) →
    ClosedRun began all log cells
closes began all log cells led whole apart each within =
    let w : CellWorld = record { at = first_at began cells led; sent = [] } in
    let there : (a : Actor) → lists_actor all a ≡ true → Found began log cells led a =
    λ a inn. found began log cells led whole.1 a (each a inn) in
    let lead : AllLead group all log w (last_at began cells) =
    λ a inn. let f = there a inn in (f.0, f.1, f.2, f.3, f.4) in
    let out : (a : Actor) → lists_actor all a ≡ false → lists_actor (names cells) a ≡ false =
    λ a no. false_from_ne_true (lists_actor (names cells) a)
    (λ inn. true≢false (sym (within a inn) ∙ no)) in
    let ends = legal_runs group all log w (last_at began cells) whole.0 refl lead in
    record {
      first = w;
      last = ends.0;
      opens = (refl, λ a inn. let f = there a inn in (f.0, f.2, f.5));
      outside = λ a no. not_found began cells led a (out a no);
      runs = ends.1;
      sent = ends.2;
      ends = all_there began cells (last_at began cells) ends.0.at (λ a inn. ends.3 a (within a inn))
          (all_last began cells apart);
    }
