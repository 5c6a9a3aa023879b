-- The lines of a transcript, one after the other.
use Rattle.std.proofs.Common.{◌≡◌, ◌∙◌, ◌+◌, ◌-◌, ◌<◌, ◌==◌, ◌++◌, ◌∷◌, ℕ, suc, List, [], Some, add-one, ap, arith, codes, drop, drop-cons, false, get_or, inl, inr, length, map, refl, subst, sym, take, true}
use Rattle.std.specs.List.{AllByRecursion, position, position_or_len}
use Rattle.std.proofs.Math.Seq.{drop-append-add, get_or-append_seam, take-append_seam}
use Rattle.std.proofs.lemmas.Bool.{eqb-true, lt-ltb, ne_eqb}
use Rattle.std.proofs.lemmas.Fmt.{decimal_digit}
use Rattle.std.proofs.lemmas.List.{append_assoc, get_or_append_left, length-append, length-drop, take-append-drop, take_all}
use Rattle.std.proofs.lemmas.List.Quantifiers.{position-Some}
use Rattle.std.proofs.lemmas.List.Sums.{position_or_len_is}
use Rattle.std.proofs.lemmas.Str.{IsUtf8-from_ascii}
use Rattle.std.proofs.lemmas.Str.Ascii.{IsAscii-from_all}
use Rattle.std.specs.Prelude.{IsUtf8}
use Rattle.rows.specs.Fits.{NodeSpecFits}
use Rattle.rows.specs.declared.node.NodeSpec.{NodeSpec}
use Rattle.group_model.specs.Worlds.{Event, Deliver, AtServer, AtClient}
use Rattle.group_model.specs.Inputs as inputs
use Rattle.group_model.specs.Agents as agents
use Rattle.rows.specs.GroupSizes.{IsGroup}
use Rattle.event_texts.specs.EventLines.{ClientInputHasLine, HasLine, ServerInputHasLine, event_line}
use Rattle.event_texts.specs.Inner.Printable.{IsPrintable}
use Rattle.event_texts.specs.Transcripts.{AreNumberedFrom, BeginsKept, Recorded, lines_text, node_line, of_event, of_node, servers_line, transcript_lines}
use Rattle.event_texts.proofs.Printable.{word}
use Rattle.event_texts.proofs.Words.{apart}

-- ---- the first line of bytes

-- the first newline is behind a line
pub newline_at : (front back : List ℕ) → IsPrintable front → position (λ b. b == 10) (front ++ 10 ∷ back) ≡ Some (length front)
newline_at front back line =
    let bytes = front ++ 10 ∷ back in
    let size = length-append front (10 ∷ back) in
    let before : (k : ℕ) → k < length front → (get_or bytes k 0 == 10) ≡ false =
    λ k lt. rw (get_or_append_left front (10 ∷ back) 0 k lt) (ne_eqb (get_or front k 0) 10 (λ e. omega (arith, line k 0 lt))) in
    let here : (get_or bytes (length front) 0 == 10) ≡ true = rw (get_or-append_seam front 10 back 0) refl in
    let found : position_or_len (λ b. b == 10) bytes ≡ length front = position_or_len_is (λ b. b == 10) bytes (length front) 0 (omega (arith, size)) before (λ lt. here) in
    let within = lt-ltb (length front) (length bytes) (omega (arith, size)) in
    rw (found, within) refl

pub line_at : (bytes front back : List ℕ) (end : ℕ) → bytes ≡ front ++ 10 ∷ back → end ≡ length front
    → (take end bytes ≡ front) × (drop (end + 1) bytes ≡ back)
line_at bytes front back end is at =
    (rw (is, at) (take-append_seam front (10 ∷ back)), rw (is, at) (drop-append-add front (10 ∷ back) 1))

pub printable_is_text : (text : List ℕ) → IsPrintable text → IsUtf8 text
printable_is_text text line = IsUtf8-from_ascii text (IsAscii-from_all text (λ k d lt. (line k d lt).1))

-- ---- the line of a group

line_of : (n : ℕ) → n < 10 → servers_line n ≡ codes "servers " ++ (48 + n) ∷ []
line_of n lt = ap (λ digits. codes "servers " ++ digits) (decimal_digit n lt)

digit_of : (n : ℕ) → IsGroup n → n < 10
digit_of n (inl is) = omega arith
digit_of n (inr is) = omega arith

pub group_line : (n : ℕ) → IsGroup n → servers_line n ≡ codes "servers " ++ (48 + n) ∷ []
group_line n group = line_of n (digit_of n group)

pub group_printable : (n : ℕ) → IsGroup n → IsPrintable (servers_line n)
group_printable n (inl is) = subst IsPrintable (sym (ap servers_line is ∙ line_of 3 (omega arith))) (word (codes "servers 3") refl)
group_printable n (inr is) = subst IsPrintable (sym (ap servers_line is ∙ line_of 5 (omega arith))) (word (codes "servers 5") refl)

-- ---- lists of lines

pub lines_append : (xs ys : List (List ℕ)) → lines_text (xs ++ ys) ≡ lines_text xs ++ lines_text ys
lines_append [] ys = refl
lines_append (x ∷ xs) ys =
    ap (λ text. x ++ 10 ∷ text) (lines_append xs ys) ∙ sym (append_assoc x (10 ∷ lines_text xs) (lines_text ys))

pub one_more_line : (text rest behind line : List ℕ) (lines : List (List ℕ)) → text ≡ lines_text lines ++ rest → rest ≡ line ++ 10 ∷ behind
    → text ≡ lines_text (lines ++ line ∷ []) ++ behind
one_more_line text rest behind line lines front is =
    front
    ∙ ap (λ more. lines_text lines ++ more) is
    ∙ ap (λ more. lines_text lines ++ more) (sym (append_assoc line (10 ∷ []) behind))
    ∙ sym (append_assoc (lines_text lines) (line ++ 10 ∷ []) behind)
    ∙ ap (λ front. front ++ behind) (sym (lines_append lines (line ∷ [])))

-- a line is something
no_line : (line behind : List ℕ) → [] ≡ line ++ 10 ∷ behind → ⊥
no_line [] behind is = apart 0 refl is
no_line (b ∷ line) behind is = absurd (cc)

-- ---- nodes in order

pub one_more_node : (k : ℕ) (nodes : List NodeSpec) (node : NodeSpec) → AreNumberedFrom k nodes → NodeSpecFits node → node.number ≡ k + length nodes
    → AreNumberedFrom k (nodes ++ node ∷ [])
one_more_node k [] node are fits is = (fits, omega arith, tt)
one_more_node k (first ∷ nodes) node are fits is = (are.0, are.1, one_more_node (suc k) nodes node are.2 fits (omega arith))

-- the line of a node is no event's: no event's line begins with `no`
at_server : (server : ℕ) (input : inputs.Input) (behind tail : List ℕ) → ServerInputHasLine input
    → event_line (AtServer server input) ++ behind ≡ 110 ∷ 111 ∷ tail → ⊥
at_server server (inputs.Arrives message) behind tail fits is = absurd fits
at_server server inputs.Timeout behind tail fits is = apart 1 refl is
at_server server inputs.Beat behind tail fits is = apart 1 refl is
at_server server (inputs.Request request) behind tail fits is = apart 1 refl is
at_server server (inputs.TakeFrom to) behind tail fits is = apart 1 refl is
at_server server (inputs.SubmitTo to plan) behind tail fits is = apart 1 refl is
at_server server (inputs.FinishAt to eval token outcome) behind tail fits is = apart 1 refl is
at_server server (inputs.NackAt to eval token) behind tail fits is = apart 1 refl is
at_server server inputs.PlanTurn behind tail fits is = apart 1 refl is
at_server server (inputs.Lapse eval) behind tail fits is = apart 1 refl is
at_server server (inputs.Expire node beats) behind tail fits is = apart 1 refl is
at_server server (inputs.DrainTurn node) behind tail fits is = apart 1 refl is
at_server server inputs.FreeTurn behind tail fits is = apart 1 refl is
at_server server inputs.Reap behind tail fits is = apart 1 refl is
at_server server inputs.Compact behind tail fits is = apart 0 refl is
at_server server inputs.Crash behind tail fits is = apart 1 refl is
at_server server inputs.Restart behind tail fits is = apart 1 refl is

at_client : (client : ℕ) (input : agents.Input) (behind tail : List ℕ) → ClientInputHasLine input
    → event_line (AtClient client input) ++ behind ≡ 110 ∷ 111 ∷ tail → ⊥
at_client client (agents.Arrives from response) behind tail fits is = absurd fits
at_client client (agents.RegisterAt server) behind tail fits is = apart 1 refl is
at_client client (agents.Ping server) behind tail fits is = apart 1 refl is
at_client client (agents.PullFrom server) behind tail fits is = apart 1 refl is
at_client client (agents.End id ok) behind tail fits is = apart 1 refl is
at_client client agents.Crash behind tail fits is = apart 1 refl is
at_client client agents.Restart behind tail fits is = apart 1 refl is

no_node : (event : Event) (behind tail : List ℕ) → HasLine event → event_line event ++ behind ≡ 110 ∷ 111 ∷ tail → ⊥
no_node (Deliver place) behind tail fits is = apart 1 refl is
no_node (AtServer server input) behind tail fits is = at_server server input behind tail fits.1 is
no_node (AtClient client input) behind tail fits is = at_client client input behind tail fits.1 is

abbrev pub rest_of : List NodeSpec → List Event → List ℕ
rest_of nodes events = lines_text (map node_line nodes ++ map event_line events)

-- where a node's line is first, and the node of a first line is found, that is the first node
pub next_node : (k : ℕ) (more : List NodeSpec) (events : List Event) (node : NodeSpec) (rest behind : List ℕ) → AreNumberedFrom k more
    → AllByRecursion HasLine events → rest ≡ rest_of more events → rest ≡ node_line node ++ 10 ∷ behind
    → ((m : NodeSpec) (b : List ℕ) → NodeSpecFits m → m.number ≡ k → rest ≡ node_line m ++ 10 ∷ b → (node ≡ m) × (behind ≡ b))
    → (later : List NodeSpec) × (more ≡ node ∷ later) × AreNumberedFrom (suc k) later × (behind ≡ rest_of later events)
next_node k [] [] node rest behind are have is first found = absurd (no_line (node_line node) behind (sym is ∙ first))
next_node k [] (event ∷ events) node rest behind are have is first found =
    absurd (no_node event _ _ have.0 (sym is ∙ first))
next_node k (m ∷ more) events node rest behind are have is first found =
    let same = found m (rest_of more events) are.0 are.1 is in
    (more, ap (λ n. n ∷ more) (sym same.0), are.2, same.1)

-- where none is found, there are no more nodes
pub no_next_node : (k : ℕ) (more : List NodeSpec) (events : List Event) (rest : List ℕ) → AreNumberedFrom k more → rest ≡ rest_of more events
    → ((m : NodeSpec) (b : List ℕ) → NodeSpecFits m → m.number ≡ k → rest ≡ node_line m ++ 10 ∷ b → ⊥) → more ≡ []
no_next_node k [] events rest are is none = refl
no_next_node k (m ∷ more) events rest are is none = absurd (none m (rest_of more events) are.0 are.1 is)

-- ---- events in order

pub next_event : (more : List Event) (event : Event) (rest behind : List ℕ) → AllByRecursion HasLine more
    → rest ≡ lines_text (map event_line more) → rest ≡ event_line event ++ 10 ∷ behind
    → ((e : Event) (b : List ℕ) → HasLine e → rest ≡ event_line e ++ 10 ∷ b → (event ≡ e) × (behind ≡ b))
    → (later : List Event) × (more ≡ event ∷ later) × AllByRecursion HasLine later × (behind ≡ lines_text (map event_line later))
next_event [] event rest behind have is first found = absurd (no_line (event_line event) behind (sym is ∙ first))
next_event (e ∷ more) event rest behind have is first found =
    let same = found e (lines_text (map event_line more)) have.0 is in
    (more, ap (λ x. x ∷ more) (sym same.0), have.1, same.1)

pub no_next_event : (more : List Event) (rest : List ℕ) → AllByRecursion HasLine more → rest ≡ lines_text (map event_line more)
    → ((e : Event) (b : List ℕ) → HasLine e → rest ≡ event_line e ++ 10 ∷ b → ⊥) → more ≡ []
no_next_event [] rest have is none = refl
no_next_event (e ∷ more) rest have is none = absurd (none e (lines_text (map event_line more)) have.0 is)

-- a slice from a place to its end
pub to_end : (k : ℕ) (text : List ℕ) → take (length text - k) (drop k text) ≡ drop k text
to_end k text = take_all (length text - k) (drop k text) (omega (arith, length-drop k text))

-- what the place of the first newline cuts
pub newline_parts : (text : List ℕ) (end : ℕ) → position (λ b. b == 10) text ≡ Some end → text ≡ take end text ++ 10 ∷ drop (end + 1) text
newline_parts text end is =
    let found = position-Some (λ b. b == 10) text end 0 is in
    let here : get_or text end 0 ≡ 10 = eqb-true (get_or text end 0) 10 found.1 in
    sym (take-append-drop end text) ∙ ap (λ more. take end text ++ more) (rw (add-one, drop-cons text end 0 found.0) (ap (λ b. b ∷ drop (suc end) text) here))

-- ---- the lines of a whole transcript

pub whole : (r : Recorded) (bytes lines more rest : List ℕ) → bytes ≡ servers_line r.servers ++ 10 ∷ lines → lines ≡ lines_text (map node_line r.nodes) ++ more
    → more ≡ lines_text (map event_line r.events) ++ rest → bytes ≡ lines_text (transcript_lines r) ++ rest
whole r bytes lines more rest first middle last =
    let nodes = map node_line r.nodes in
    let events = map event_line r.events in
    let behind : lines ≡ lines_text (nodes ++ events) ++ rest =
    middle
    ∙ ap (λ text. lines_text nodes ++ text) last
    ∙ sym (append_assoc (lines_text nodes) (lines_text events) rest)
    ∙ ap (λ text. text ++ rest) (sym (lines_append nodes events)) in
    first
    ∙ ap (λ text. servers_line r.servers ++ 10 ∷ text) behind
    ∙ sym (append_assoc (servers_line r.servers) (10 ∷ lines_text (nodes ++ events)) rest)

-- ---- where reading takes memory

-- a text of nodes, and then more, begins as the first of them
pub nodes_kept : (nodes : List NodeSpec) (text rest : List ℕ) → AreNumberedFrom 1 nodes → text ≡ lines_text (map node_line nodes) ++ rest
    → (length nodes ≡ 0 → BeginsKept rest) → BeginsKept text
nodes_kept [] text rest are is first = subst BeginsKept (sym is) (first refl)
nodes_kept (node ∷ nodes) text rest are is first = record {
  line = node_line node;
  behind = lines_text (map node_line nodes) ++ rest;
  kept = of_node node are.0 are.1 refl;
  is = is ∙ append_assoc (node_line node) (10 ∷ lines_text (map node_line nodes)) rest;
}

-- and so does one of events
pub events_kept : (events : List Event) (text rest : List ℕ) → AllByRecursion HasLine events → text ≡ lines_text (map event_line events) ++ rest
    → BeginsKept rest → BeginsKept text
events_kept [] text rest have is first = subst BeginsKept (sym is) first
events_kept (event ∷ events) text rest have is first = record {
  line = event_line event;
  behind = lines_text (map event_line events) ++ rest;
  kept = of_event event (have.0, refl);
  is = is ∙ append_assoc (event_line event) (10 ∷ lines_text (map event_line events)) rest;
}
