-- How long a wait is.
use Rattle.std.proofs.Common.{◌≡◌, ◌∙◌, ℕ, zero, suc, ◌+◌, ◌%◌, ◌<◌, ◌≤◌, Bool, true, false, cond, leb, List, [], ◌∷◌, refl, sym, ap, subst, arith}
use Rattle.std.specs.Prelude.{sum}
use Rattle.std.proofs.lemmas.Bool.{leb-true, le-leb}
use Rattle.std.proofs.Math.Nat.{mod-lt}
use Rattle.timers.proofs.Sums.{sum_cons}
use Rattle.lossy_net.specs.Words.{nth_word}
use Rattle.timers.specs.declared.settings.Settings.{Settings}
use Rattle.timers.specs.Waits.{AreQuiet, EndsInTime, IsDrawnWithin, Waiting, first_wait, is_over, waited, waited_all, waits_anew}

abbrev waits_on : Waiting → ℕ → Waiting
waits_on w ms = record w { passed = w.passed + ms }

one_quiet : (w : Waiting) (ms : ℕ) (b : Bool) → b ≡ false → cond b (waits_anew w) (waits_on w ms) ≡ waits_on w ms
one_quiet w ms true e = absurd cc
one_quiet w ms false e = refl

pub ends_in_time : (w : Waiting) (items : List ℕ) (ms : ℕ) → AreQuiet w items → EndsInTime w items ms
ends_in_time w [] ms quiet = record {
  after = λ over. let least = leb-true w.wait (w.passed + ms) over in omega (arith, least);
  by = λ least. le-leb w.wait (w.passed + ms) (omega (arith, least));
}
ends_in_time w (first ∷ items) ms quiet =
    let on : waited first w ≡ waits_on w first = one_quiet w first (is_over first w) quiet.0 in
    let rest = ends_in_time (waits_on w first) items ms (subst (λ v. AreQuiet v items) on quiet.1) in
    let same : is_over ms (waited_all (waited first w) items) ≡ is_over ms (waited_all (waits_on w first) items) = ap (λ v. is_over ms (waited_all v items)) on in
    let all : sum (first ∷ items) ≡ first + sum items = sum_cons first items in
    record {
      after = λ over. let least = rest.after (sym same ∙ over) in omega (arith, least, all);
      by = λ least. same ∙ rest.by (omega (arith, least, all));
    }

within : (least more word : ℕ) → (least ≤ least + word % suc more) × (least + word % suc more ≤ least + more)
within least more word = let below : word % suc more < suc more = mod-lt word (omega arith) in (omega arith, omega (arith, below))

pub first_within : (s : Settings) (seed : ℕ) → IsDrawnWithin (first_wait s seed)
first_within s seed =
    let both = within s.least_wait s.more_wait (nth_word seed 0) in
    record { least = both.0; most = both.1 }

pub next_within : (w : Waiting) → IsDrawnWithin (waits_anew w)
next_within w =
    let both = within w.least w.more (nth_word w.seed w.drawn) in
    record { least = both.0; most = both.1 }
