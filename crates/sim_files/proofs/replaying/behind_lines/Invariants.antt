use Rattle.std.proofs.Common.{◌≡◌, ◌++◌, ℕ, List, length}
use Rattle.std.specs.List.{AllByRecursion}
use Rattle.event_texts.specs.Inner.Printable.{IsPrintable}
use Rattle.event_texts.specs.Transcripts.{lines_text}
use Rattle.sim_files.proofs.Replays.{IsLeft}
use Rattle.sim_files.proofs.replaying.behind_lines.Given as goal

-- the lines that are not passed yet
abbrev pub invariant-loop : goal.invariant-loop
invariant-loop l =
    (front : List (List ℕ)) (back : List ℕ) → AllByRecursion IsPrintable front → length front ≡ l.count
    → l.text ≡ lines_text front ++ back → IsLeft l.rest back l.counter l.count
