-- Lines that a group takes, one behind the other.
use Rattle.std.proofs.Common.{◌≡◌, ◌<◌, ◌≤◌, ◌∙◌, ◌+◌, ◌*◌, ◌++◌, ◌∷◌, ◌||◌, ℕ, Bool, true, false, Option, List, [], IfErr, OnOk, Result, Ok, Err, String, ap, append_assoc, arith, get_or, inl, inr, length, length-append, map, refl, string_bytes, subst, sym, unwrap_or}
use Rattle.std.specs.List.{All}
use Rattle.std.proofs.Math.Bool.{or-false, or-true}
use Rattle.std.proofs.lemmas.List.{append-nil, get_or-map, length-map, map-append}
use Rattle.std.proofs.lemmas.List.Elements.{All-append, All-cons, All-nil}
use Rattle.std.specs.declared.alloc.Global.{Global}
use Rattle.rows.specs.declared.node.NodeSpec.{NodeSpec}
use Rattle.rows.specs.declared.refusal.Refusal.{Refusal}
use Rattle.sim_scenario.specs.Complaints.{IsStepLine}
use Rattle.sim_scenario.specs.declared.scenario.Settings.{Settings}
use Rattle.sim_play.specs.declared.play.Play.{Play}
use Rattle.sim_play.specs.Played.{LinePlayed, Refused}
use Rattle.sim_play.specs.PlaySteps.{StepRefused, StepTaken}
use Rattle.sim_play.specs.Plays.{IsNewPlay}
use Rattle.sim_play.proofs.Steps.{one_more_played}
use Rattle.sim_expand.specs.declared.expanding.Taken.{Taken}
use Rattle.sim_expand.specs.Counts.{IsMost, IsNoFlow, most_at_once, most_elected}
use Rattle.sim_expand.specs.Expanded.{AreTaken, MayStand}
use Rattle.sim_expand.specs.ShortSteps.{AsItStands, Settles, Elects}
use Rattle.sim_expand.specs.Inner.Taking.{IsNoFlowLine, StandsAsTaken, TakesIf, TakesMore, TakesThese, TakesUpTo, WhyNoLine, WhyNoMore, WhyNoShort}
use Rattle.sim_expand.proofs.Beside.{line_beside, same_lack}

-- a new group took no line
pub none_taken : (settings : Settings) (nodes : List NodeSpec) (play : Play) → IsNewPlay settings nodes play → AreTaken settings nodes [] play
none_taken settings nodes play new = record { first = play; new = new; refused = []; played = (refl, refl); found = new.lacked }

pub one_more_taken : (settings : Settings) (nodes : List NodeSpec) (lines : List (List ℕ)) (mid : Play) (line : List ℕ) (own : List Refused) (new : Play)
    → AreTaken settings nodes lines mid → LinePlayed StepTaken StepRefused line mid own new → new.lacked ≡ false → AreTaken settings nodes (lines ++ line ∷ []) new
one_more_taken settings nodes lines mid line own new are is found = record {
  first = are.first;
  new = are.new;
  refused = are.refused ++ own;
  played = one_more_played StepTaken StepRefused lines line are.first mid new are.refused own are.played is;
  found = found;
}

-- ---- what is taken behind what was

pub no_line_more : (t : Taken) → StandsAsTaken t → TakesMore t [] t
no_line_more t stands = record { settings = refl; nodes = refl; lines = sym (append-nil (map string_bytes t.lines.items)); stands = stands }

pub more_and_more : (a b c : Taken) (own others : List (List ℕ)) → TakesMore a own b → TakesMore b others c → TakesMore a (own ++ others) c
more_and_more a b c own others first next = record {
  settings = next.settings ∙ first.settings;
  nodes = next.nodes ∙ first.nodes;
  lines = next.lines ∙ ap (λ l. l ++ others) first.lines ∙ append_assoc (map string_bytes a.lines.items) own others;
  stands = next.stands;
}

pub none_of_these : (t : Taken) → StandsAsTaken t → TakesThese t [] t
none_of_these t stands = record { more = no_line_more t stands; behind = refl }

pub these_and_these : (a b c : Taken) (own others : List (List ℕ)) → TakesThese a own b → TakesThese b others c → TakesThese a (own ++ others) c
these_and_these a b c own others first next = record { more = more_and_more a b c own others first.more next.more; behind = next.behind ∙ first.behind }

-- so many lines there are then
pub lines_now : (own : List (List ℕ)) (a b : Taken) → TakesMore a own b → length b.lines.items ≡ length a.lines.items + length own
lines_now own a b more =
    let all : length (map string_bytes b.lines.items) ≡ length (map string_bytes a.lines.items ++ own) = ap length more.lines in
    omega (arith, all, length-map b.lines.items string_bytes, length-map a.lines.items string_bytes, length-append (map string_bytes a.lines.items) own)

-- ---- up to so many

pub none_more : (t : Taken) → StandsAsTaken t → TakesUpTo 0 t t
none_more t stands = ([], omega arith, All-nil (MayStand t.behind), none_of_these t stands)

pub one_line : (a b : Taken) (line : List ℕ) → MayStand a.behind line → TakesThese a (line ∷ []) b → TakesUpTo 1 a b
one_line a b line may these = (line ∷ [], omega arith, All-cons (MayStand a.behind) line [] may (All-nil (MayStand a.behind)), these)

-- the line of no flow may stand anywhere
pub may_stand : (behind : Bool) (line : List ℕ) → IsNoFlow line → MayStand behind line
may_stand false line other = tt
may_stand true line other = other

-- just these lines
pub some_lines : (own : List (List ℕ)) (a b : Taken) → All IsNoFlowLine own → TakesThese a own b → TakesUpTo (length own) a b
some_lines own a b others these = (own, omega arith, λ i line inside. may_stand a.behind _ (others i line inside).other, these)

pub some_and_some : (m n : ℕ) (a b c : Taken) → TakesUpTo m a b → TakesUpTo n b c → TakesUpTo (m + n) a c
some_and_some m n a b c first next =
    let may = subst (λ behind. All (MayStand behind) next.0) first.3.behind next.2 in (
      first.0 ++ next.0,
      omega (arith, length-append first.0 next.0, first.1, next.1),
      All-append (MayStand a.behind) first.0 next.0 first.2 may,
      these_and_these a b c first.0 next.0 first.3 next.3,
    )

pub up_to_more : (m n : ℕ) (a b : Taken) → m ≤ n → TakesUpTo m a b → TakesUpTo n a b
up_to_more m n a b within some = (some.0, omega (arith, within, some.1), some.2, some.3)

-- so many lines there are then at most
pub reached : (m : ℕ) (a b : Taken) → TakesUpTo m a b → length b.lines.items ≤ length a.lines.items + m
reached m a b some = omega (arith, some.1, lines_now some.0 a b some.3.more)

-- ---- whether it was of use

pub was_of_use : (done : Bool) (n : ℕ) (a b : Taken) → done ≡ true → TakesIf done n a b → TakesUpTo n a b
was_of_use done n a b is some = rw is at some

pub was_of_none : (done : Bool) (n : ℕ) (a b : Taken) → done ≡ false → TakesIf done n a b → TakesUpTo 0 a b
was_of_none done n a b is some = rw is at some

-- ---- why nothing more is taken

pub stops_behind : (m n : ℕ) (a b : Taken) (r : Refusal) → length b.lines.items ≤ length a.lines.items + m → WhyNoMore n b r → WhyNoMore (m + n) a r
stops_behind m n a b r most (inl memory) = inl memory
stops_behind m n a b r most (inr past) = inr (past.0, omega (arith, most, past.1))

pub stops_with_more : (m n : ℕ) (t : Taken) (r : Refusal) → m ≤ n → WhyNoMore m t r → WhyNoMore n t r
stops_with_more m n t r within (inl memory) = inl memory
stops_with_more m n t r within (inr past) = inr (past.0, omega (arith, within, past.1))

pub if_stops_with_more : {X : Type 0} (r : Result X Refusal) (m n : ℕ) (t : Taken) → m ≤ n → IfErr r (WhyNoMore m t) → IfErr r (WhyNoMore n t)
if_stops_with_more (Ok x) m n t within why = tt
if_stops_with_more (Err e) m n t within why = stops_with_more m n t e within why

pub if_stops_behind : {X : Type 0} (r : Result X Refusal) (m n most : ℕ) (a b : Taken) → m + n ≤ most → length b.lines.items ≤ length a.lines.items + m → IfErr r (WhyNoMore n b) → IfErr r (WhyNoMore most a)
if_stops_behind (Ok x) m n most a b within some why = tt
if_stops_behind (Err e) m n most a b within some why = stops_with_more (m + n) most a e within (stops_behind m n a b e some why)

-- of the line of a step
pub step_stops : (line : List ℕ) (t : Taken) (r : Refusal) → IsStepLine line → WhyNoLine line t r → WhyNoMore 1 t r
step_stops line t r is (inl memory) = inl memory
step_stops line t r is (inr (out, inl none)) = absurd (none is)
step_stops line t r is (inr (out, inr past)) = inr (out, past)

pub if_settles_stops : {X : Type 0} (r : Result X Refusal) (count : Option ℕ) (t : Taken) → IfErr r (WhyNoMore (unwrap_or count 1000 * most_at_once t.behind) t) → IfErr r (WhyNoShort (Settles count) t)
if_settles_stops (Ok x) count t why = tt
if_settles_stops (Err e) count t (inl memory) = inl memory
if_settles_stops (Err e) count t (inr past) = inr (past.0, inr (λ most is. subst (λ n. 1_000_000 < length t.lines.items + n) (sym is) past.1))

pub if_elects_stops : {X : Type 0} (r : Result X Refusal) (t : Taken) → IfErr r (WhyNoMore most_elected t) → IfErr r (WhyNoShort Elects t)
if_elects_stops (Ok x) t why = tt
if_elects_stops (Err e) t (inl memory) = inl memory
if_elects_stops (Err e) t (inr past) = inr (past.0, inr (λ most is. subst (λ n. 1_000_000 < length t.lines.items + n) (sym is) past.1))

-- one line comes of a line that is no flow's, or where no `settle elect` stands before
pub line_stops : (line : List ℕ) (t : Taken) (r : Refusal) → ((most : ℕ) → IsMost t.behind (AsItStands line) most → most ≡ 1) → WhyNoLine line t r → WhyNoShort (AsItStands line) t r
line_stops line t r one (inl memory) = inl memory
line_stops line t r one (inr (out, inl none)) = inr (out, inl none)
line_stops line t r one (inr (out, inr past)) = inr (out, inr (λ most is. omega (arith, past, one most is)))

pub if_line_stops : {X : Type 0} (r : Result X Refusal) (line : List ℕ) (t : Taken) → ((most : ℕ) → IsMost t.behind (AsItStands line) most → most ≡ 1) → IfErr r (WhyNoLine line t) → IfErr r (WhyNoShort (AsItStands line) t)
if_line_stops (Ok x) line t one why = tt
if_line_stops (Err e) line t one why = line_stops line t e one why

-- and those of its messages of a flow that stands behind one
pub if_flow_stops : {X : Type 0} (r : Result X Refusal) (line : List ℕ) (flow : ℕ) (t : Taken) → ((most : ℕ) → IsMost t.behind (AsItStands line) most → most ≡ flow) → IfErr r (WhyNoMore flow t) → IfErr r (WhyNoShort (AsItStands line) t)
if_flow_stops (Ok x) line flow t same why = tt
if_flow_stops (Err e) line flow t same (inl memory) = inl memory
if_flow_stops (Err e) line flow t same (inr past) = inr (past.0, inr (λ most is. omega (arith, past.1, same most is)))

pub if_step_stops : {X : Type 0} (r : Result X Refusal) (line : List ℕ) (t : Taken) → IsStepLine line → IfErr r (WhyNoLine line t) → IfErr r (WhyNoMore 1 t)
if_step_stops (Ok x) line t is why = tt
if_step_stops (Err e) line t is why = step_stops line t e is why

-- a text that is put behind the others
pub pushed_line : (old new : List (String Global)) (own : String Global) (line : List ℕ) → new ≡ old ++ own ∷ [] → string_bytes own ≡ line
    → map string_bytes new ≡ map string_bytes old ++ line ∷ []
pushed_line old new own line put text =
    ap (map string_bytes) put ∙ map-append string_bytes old (own ∷ []) ∙ ap (λ l. map string_bytes old ++ l ∷ []) text

-- a step that is no `settle elect` leaves it as it is whether one stands before
pub still_before : (a : Taken) (own : List (List ℕ)) (b : Taken) → TakesThese a own b → b.behind ≡ (a.behind || false)
still_before a own b these = these.behind ∙ sym (or-false a.behind)

pub now_behind : (was now : Bool) → now ≡ true → now ≡ (was || true)
now_behind was now is = is ∙ sym (or-true was)

-- what holds of each line holds of the one at a place
pub at_line : (P : List ℕ → Type 0) (lines : List (String Global)) (i : ℕ) (line : String Global) → All P (map string_bytes lines) → i < length lines → line ≡ get_or lines i line → P (string_bytes line)
at_line P lines i line all inside at =
    subst P (get_or-map string_bytes lines i line (string_bytes line) inside ∙ ap string_bytes (sym at)) (all i (string_bytes line) (omega (arith, inside, length-map lines string_bytes)))

pub on_ok : {X E P : Type 0} (r : Result X E) → P → OnOk r P
on_ok (Ok x) holds = holds
on_ok (Err e) holds = tt

-- what follows from what holds of each success
pub and_so : {X E P Q : Type 0} (r : Result X E) → OnOk r P → (P → Q) → OnOk r Q
and_so (Ok x) h f = f h
and_so (Err e) h f = tt

-- a line that is played behind the others
pub line_taken : (t new : Taken) (line : List ℕ) (refused : List Refused) → StandsAsTaken t → MayStand t.behind line → LinePlayed StepTaken StepRefused line t.play refused new.play
    → new.play.lacked ≡ false → new.settings ≡ t.settings → new.nodes ≡ t.nodes → new.behind ≡ t.behind → map string_bytes new.lines.items ≡ map string_bytes t.lines.items ++ line ∷ [] → length new.lines.items ≤ 1_000_000 → TakesThese t (line ∷ []) new
line_taken t new line refused stands may played found settings nodes behind put few =
    let is = line_beside line refused t.behind stands.other t.play new.play stands.beside may played in
    let lacked = sym (same_lack t.behind is.0 new.play is.2) ∙ found in
    let led = one_more_taken t.settings t.nodes.now (map string_bytes t.lines.items) stands.other line refused is.0 stands.led is.1 lacked in
    record {
      more = record {
        settings = settings;
        nodes = ap (λ n. n.now) nodes;
        lines = put;
        stands = record { other = is.0; led = rw (settings, nodes, put) led; beside = rw behind is.2; few = few };
      };
      behind = behind;
    }
