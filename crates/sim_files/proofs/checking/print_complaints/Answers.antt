use Rattle.std.proofs.Common.{◌≡◌, ◌∙◌, ◌+◌, ◌<◌, ◌++◌, ◌∷◌, List, [], IfSome, Option, ℕ, ap, length, refl, rules, sym, take}
use Rattle.std.specs.Io.KnownBytes.{Appends}
use Rattle.std.proofs.lemmas.List.{take_more}
use Rattle.sim_scenario.specs.declared.checking.Complaint.{Complaint}
use Rattle.sim_files.specs.Inner.Printed.{ShowsEach, complaint_line}
use Rattle.sim_files.proofs.checking.print_complaints.Goals as goal

one_more_shown : (found : List Complaint) (one : Complaint) (old mid new : Option (List ℕ)) → ShowsEach found old mid → IfSome (complaint_line one) (Appends mid new) → ShowsEach (found ++ one ∷ []) old new
one_more_shown [] one old mid new shown line = (new, rw shown at line, refl)
one_more_shown (x ∷ found) one old mid new shown line = (shown.0, shown.1, one_more_shown found one shown.0 mid new shown.2 line)

pub loop-complaint-preserved : goal.loop-complaint-preserved
loop-complaint-preserved g c =
    let found = c.args.found.now in
    let i = c.loop-complaint.complaint-index in
    let one = c.complaint-item.result in
    let contents = g.W.Write.contents in
    let inside : i < length found = search rules in
    let taken : take (i + 1) found ≡ take i found ++ one ∷ [] = take_more found i one inside ∙ ap (λ x. take i found ++ x ∷ []) (sym c.complaint-item.is) in
    rw taken
    (one_more_shown (take i found) one (contents c.args.out.now) (contents c.loop-complaint.out) (contents c.print_complaint.new.out) c.loop-complaint.invariant c.in_ok-print_complaint.ensures.line)
