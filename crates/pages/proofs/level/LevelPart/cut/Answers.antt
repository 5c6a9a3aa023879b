use Rattle.std.proofs.Common.{◌≡◌, ℕ, ◌+◌, ◌-◌, length, sym, ap, arith, ◌∙◌}
use Rattle.pages.specs.Inner.Parts.{rows_of}
use Rattle.pages.specs.Inner.Slots.{slot_rows}
use Rattle.pages.proofs.Cuts.{length-cut}
use Rattle.pages.proofs.level.LevelPart.cut.Goals as goal

one_less : (n count more : ℕ) → count ≡ more → n + 1 ≡ more → count - 1 ≡ n
one_less n count more a b = omega arith

pub invariant_of-self-2 : goal.invariant_of-self-2
invariant_of-self-2 g c =
    let R = g.T.Key.Ord.cmp in
    let key = g.T.Row.key_of in
    let old = rows_of (slot_rows g.C.Part.rows) c.self.inside.slots.items in
    let there = rw (sym c.self.view_is) at c.requires in
    record {
      count = one_less _ c.self.inside.count (length old) c.self.invariant.count (ap (λ zs. length zs + 1) c.in_ok-cut_slots.ensures.ok ∙ length-cut R key g.met.T.Key.Ord.total c.args.key.now old c.self.invariant.parted.rising there);
      parted = c.in_ok-cut_slots.ensures.parted;
    }
