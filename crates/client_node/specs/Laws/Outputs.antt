-- A turn puts nothing into the store.
use Rattle.std.proofs.Common.{ℕ, Option, Some, None, List, [], ◌∷◌, ◌++◌, append_assoc, map, sym, subst}
use Rattle.std.specs.Prelude.{codes, filter}
use Rattle.rows.specs.declared.allocation.AllocId.{AllocId}
use Rattle.rows.specs.declared.refusal.Refusal.{Refusal}
use Rattle.wire.specs.Frames.{Frame}
use Rattle.journal.specs.Events.{IoEvent, AreOutputs}
use Rattle.client_node.specs.Turns.{NodeView, Turn, is_not_among, lines_of, runs_in, said_between, said_of, sends}

lines : (told : Option Refusal) → AreOutputs (lines_of told)
lines None = tt
lines (Some cause) = tt

words : (word : List ℕ) (ids : List AllocId) (rest : List IoEvent) → AreOutputs rest → AreOutputs (map (said_of word) ids ++ rest)
words word [] rest told = told
words word (id ∷ ids) rest told = words word ids rest told

frames_first : (frames : List Frame) (rest : List IoEvent) → AreOutputs rest → AreOutputs (sends frames ++ rest)
frames_first [] rest told = told
frames_first (frame ∷ frames) rest told = frames_first frames rest told

pub outputs_alone : (item : List ℕ) (old new : NodeView) (events : List IoEvent) → Turn item old new events → AreOutputs events
outputs_alone item old new events turn =
    let a = old.agent in
    let b = new.agent in
    let stops = filter (is_not_among (runs_in b)) (runs_in a) in
    let starts = filter (is_not_among (runs_in a)) (runs_in b) in
    let last = lines_of turn.told in
    let told : AreOutputs (map (said_of (codes "stop")) stops ++ (map (said_of (codes "start")) starts ++ last)) =
    words (codes "stop") stops (map (said_of (codes "start")) starts ++ last) (words (codes "start") starts last (lines turn.told)) in
    subst AreOutputs (sym turn.is)
    (frames_first turn.sent (said_between a b ++ last) (subst AreOutputs (sym (append_assoc (map (said_of (codes "stop")) stops) (map (said_of (codes "start")) starts) last)) told))
