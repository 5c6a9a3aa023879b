use Rattle.std.proofs.Common.{◌≡◌, ◌∙◌, ◌+◌, ◌<◌, ◌++◌, ◌∷◌, [], Err, IsOk, Ok, OnOk, Result, ap, length, rules, sym, take, true≢false}
use Rattle.std.specs.Io.KnownBytes.{Appends}
use Rattle.std.specs.List.{flat_map}
use Rattle.std.proofs.KnownBytes.{Appends-trans}
use Rattle.std.proofs.lemmas.Grind.{flat_map-append}
use Rattle.std.proofs.lemmas.List.{append-nil, take_more}
use Rattle.sim_files.specs.Notes.{note_line}
use Rattle.sim_files.proofs.checking.print_notes.Goals as goal

written : {T E : Type 0} (r : Result T E) (P : Type 0) → IsOk r → OnOk r P → P
written (Ok x) P is p = p
written (Err e) P is p = absurd (true≢false (sym is))

pub loop-note-preserved : goal.loop-note-preserved
loop-note-preserved g c =
    let notes = c.args.notes.now in
    let i = c.loop-note.note-index in
    let note = c.note-item.result in
    let contents = g.W.Write.contents in
    let inside : i < length notes = search rules in
    let taken : take (i + 1) notes ≡ take i notes ++ note ∷ [] = take_more notes i note inside ∙ ap (λ x. take i notes ++ x ∷ []) (sym c.note-item.is) in
    let went : IsOk c.writeln.result = search rules in
    let line : Appends (contents c.loop-note.out) (contents c.writeln.new.self) (note_line note) = written c.writeln.result _ went c.writeln.ensures.bytes in
    let lines : flat_map note_line (take (i + 1) notes) ≡ flat_map note_line (take i notes) ++ note_line note =
    ap (flat_map note_line) taken ∙ flat_map-append note_line (take i notes) (note ∷ []) ∙ ap (λ x. flat_map note_line (take i notes) ++ x) (append-nil (note_line note)) in
    rw lines (Appends-trans (contents c.args.out.now) (contents c.loop-note.out) (contents c.writeln.new.self) _ _ c.loop-note.invariant line)
