-- The lines of a transcript's events, and one more event that comes to the group.
use Rattle.std.proofs.Common.{◌≡◌, ◌∙◌, ◌+◌, ◌<◌, ◌≤◌, ◌++◌, ◌∷◌, ℕ, suc, List, [], Option, ap, append_assoc, arith, inl, inr, length, map, refl, subst, sym}
use Rattle.std.specs.Io.KnownBytes.{Appends}
use Rattle.std.specs.List.{AllByRecursion}
use Rattle.std.proofs.lemmas.List.{append-nil, length-map}
use Rattle.rows.specs.declared.node.NodeSpec.{NodeSpec}
use Rattle.rows.specs.declared.refusal.Refusal.{Refusal}
use Rattle.group_model.specs.Worlds.{Event}
use Rattle.world.specs.GroupSteps.{GroupEventHappened, RefusesGroupEvent, SameView}
use Rattle.world.specs.GroupView.{GroupView}
use Rattle.event_texts.specs.EventLines.{event_line}
use Rattle.event_texts.specs.Inner.Printable.{IsPrintable}
use Rattle.event_texts.specs.Transcripts.{AreNumberedFrom, IsTranscript, Recorded, lines_text, node_line, servers_line}
use Rattle.event_texts.proofs.Lines.{group_printable}
use Rattle.event_texts.proofs.Printable.{node_printable}
use Rattle.sim_play.specs.Played.{Refused}
use Rattle.sim_files.specs.Refusals.{refusal_line}
use Rattle.sim_files.specs.Replays.{EventPlayed, EventsPlayed}
use Rattle.sim_files.specs.Inner.Replayed.{TellsEvents}
use Rattle.sim_files.proofs.Refusals.{one_more_refused}

-- ---- lines that are passed

-- of so many lines, those behind the first ones, and then what is behind them all
abbrev pub IsLeft : List ℕ → List ℕ → ℕ → ℕ → Type 0
IsLeft rest back passed count =
    (left : List (List ℕ)) × AllByRecursion IsPrintable left × (length left + passed ≡ count) × (rest ≡ lines_text left ++ back)

module _ (rest back : List ℕ) (passed count : ℕ) where
  pub one_more_passed : (line next : List ℕ) → passed < count → ((f b : List ℕ) → IsPrintable f → rest ≡ f ++ 10 ∷ b → (line ≡ f) × (next ≡ b))
      → IsLeft rest back passed count → IsLeft next back (passed + 1) count
  one_more_passed line next more first ([], printable, size, is) = absurd (omega (arith, size, more))
  one_more_passed line next more first (l ∷ ls, printable, size, is) =
      (ls, printable.1, omega (arith, size), (first l _ printable.0 (is ∙ append_assoc l (10 ∷ lines_text ls) back)).1)

  pub all_passed : count ≤ passed → IsLeft rest back passed count → rest ≡ back
  all_passed done ([], printable, size, is) = is
  all_passed done (l ∷ ls, printable, size, is) = absurd (omega (arith, size, done))

-- ---- the head of a transcript

nodes_printable : (k : ℕ) (nodes : List NodeSpec) → AreNumberedFrom k nodes → AllByRecursion IsPrintable (map node_line nodes)
nodes_printable k [] are = tt
nodes_printable k (node ∷ nodes) are = (node_printable node are.0, nodes_printable (suc k) nodes are.2)

two_texts : (front back : List (List ℕ)) → lines_text (front ++ back) ≡ lines_text front ++ lines_text back
two_texts [] back = refl
two_texts (line ∷ front) back = ap (λ rest. line ++ 10 ∷ rest) (two_texts front back) ∙ sym (append_assoc line (10 ∷ lines_text front) (lines_text back))

-- the lines of the servers and of the nodes, and those of the events
module _ (r : Recorded) (text : List ℕ) (is : IsTranscript r text) where
  abbrev pub head_lines : List (List ℕ)
  head_lines = servers_line r.servers ∷ map node_line r.nodes

  pub head_printable : AllByRecursion IsPrintable head_lines
  head_printable = (group_printable r.servers is.can.servers, nodes_printable 1 r.nodes is.can.nodes)

  pub head_count : length head_lines ≡ length r.nodes + 1
  head_count = omega (arith, length-map r.nodes node_line)

  pub head_and_events : text ≡ lines_text head_lines ++ lines_text (map event_line r.events)
  head_and_events = is.is ∙ two_texts head_lines (map event_line r.events)

-- ---- one more event

one_more_event : (events : List Event) (event : Event) (old mid new : GroupView) (refused own : List Refused)
    → EventsPlayed events old refused mid → EventPlayed event mid own new → EventsPlayed (events ++ event ∷ []) old (refused ++ own) new
one_more_event [] event old mid new refused own played is =
    (own, [], new, ap (λ xs. xs ++ own) played.0 ∙ sym (append-nil own), subst (λ s. EventPlayed event s own new) played.1 is, (refl, refl))
one_more_event (first ∷ events) event old mid new refused own played is =
    (played.0, played.1 ++ own, played.2, ap (λ xs. xs ++ own) played.3 ∙ append_assoc played.0 played.1 own, played.4, one_more_event events event played.2 mid new played.1 own played.5 is)

module _ (events : List Event) (event : Event) (old mid new : GroupView) (status : ℕ) where
  pub event_done : (before after : Option (List ℕ)) → GroupEventHappened mid event new
      → TellsEvents events old mid status before after → TellsEvents (events ++ event ∷ []) old new status before after
  event_done before after is (refused, played, told) = (
    refused,
    subst (λ all. EventsPlayed (events ++ event ∷ []) old all new) (append-nil refused)
        (one_more_event events event old mid new refused [] played (inl (is, refl))),
    told,
  )

  pub event_refused : (refusal : Refusal) (before between after : Option (List ℕ)) → RefusesGroupEvent mid event refusal → SameView mid new
      → TellsEvents events old mid status before between → Appends between after (refusal_line refusal (event_line event))
      → TellsEvents (events ++ event ∷ []) old new 1 before after
  event_refused refusal before between after cause same (refused, played, told) more = (
    refused ++ (refusal, event_line event) ∷ [],
    one_more_event events event old mid new refused ((refusal, event_line event) ∷ []) played (inr (refusal, cause, same, refl)),
    one_more_refused refused status (refusal, event_line event) before between after told more,
  )
