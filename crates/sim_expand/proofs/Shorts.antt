-- What the values among the steps of a scenario in short form come to.
use Rattle.std.proofs.Common.{◌≡◌, ◌≢◌, ◌∙◌, ◌+◌, ◌*◌, ◌-◌, ◌<◌, ◌≤◌, ◌^◌, ◌++◌, ◌∷◌, ℕ, zero, suc, List, [], None, Some, ap, ap₂, append_assoc, arith, codes, decimal, get_or, inl, inr, length, length-append, map, refl, subst, sum_by, sym, take}
use Rattle.std.proofs.lemmas.List.{append-nil, append_cancel_left, get_or-map, length-map, map-append, take-map, take_more}
use Rattle.std.proofs.lemmas.List.Sums.{sum_by-append}
use Rattle.std.proofs.lemmas.Fmt.{decimal_injective, decimal_is_IsNumeral}
use Rattle.std.proofs.lemmas.Str.Parse.{digit_at}
use Rattle.std.proofs.Math.Nat.{suc-mul}
use Rattle.std.specs.List.{repeat}
use Rattle.serde_json.specs.Data.{Data, Items, null, boolean, number, string, array, object}
use Rattle.serde_json.specs.Find.{as_str}
use Rattle.serde_json.specs.View.{items_of, view}
use Rattle.serde_json.specs.declared.value.Value.{Value}
use Rattle.sim_scenario.proofs.Objects.{same_items}
use Rattle.sim_expand.specs.declared.short.ShortStep.{ShortStep}
use Rattle.sim_expand.specs.declared.short.Total.{Total}
use Rattle.sim_expand.specs.EachInTurn.{OfEach}
use Rattle.sim_expand.specs.Inner.Totals.{IsCounted, IsTotal}
use Rattle.sim_expand.specs.ShortSteps.{Short, AsItStands, Settles, Elects, line_bytes, short_step}
use Rattle.sim_expand.specs.Shorts.{AreFew, AreSteps, ComesTo, IsOneStep, IsRepeat, IsShortLine}
use Rattle.sim_expand.proofs.EachInTurn.{begins_of_each, of_one, of_one_more, same_of_each}

-- ---- one value

-- no number is written so
no_number : (n : ℕ) → n < 2 ^ 64 → decimal n ≡ codes "elect" → ⊥
no_number n lt is =
    let first : 0 < length (decimal n) = rw is (omega arith) in
    let digit = digit_at (decimal n) 0 (decimal_is_IsNumeral n lt).0.1 first in
    let read : get_or (decimal n) 0 0 ≡ 101 = ap (λ (word : List ℕ). get_or word 0 0) is in
    omega (arith, digit, read)

same_line : (s t : Short) (line : List ℕ) → IsShortLine s line → IsShortLine t line → s ≡ t
same_line (AsItStands a) (AsItStands b) line is too = ap AsItStands (is.0 ∙ sym too.0)
same_line (AsItStands a) (Settles None) line is too = absurd (is.1 (inl too))
same_line (AsItStands a) (Settles (Some n)) line is too = absurd (is.1 (inr (decimal n, too.1)))
same_line (Settles None) (AsItStands b) line is too = absurd (too.1 (inl is))
same_line (Settles (Some m)) (AsItStands b) line is too = absurd (too.1 (inr (decimal m, is.1)))
same_line (Settles None) (Settles None) line is too = refl
same_line (Settles None) (Settles (Some n)) line is too =
    let lengths : length (codes "settle") ≡ length (codes "settle " ++ decimal n) = ap length (sym is ∙ too.1) in
    absurd (omega (arith, lengths))
same_line (Settles (Some m)) (Settles None) line is too =
    let lengths : length (codes "settle") ≡ length (codes "settle " ++ decimal m) = ap length (sym too ∙ is.1) in
    absurd (omega (arith, lengths))
same_line (Settles (Some m)) (Settles (Some n)) line is too =
    let same : decimal m ≡ decimal n = append_cancel_left (codes "settle ") (decimal m) (decimal n) (sym is.1 ∙ too.1) in
    ap (λ k. Settles (Some k)) (decimal_injective m n is.0 too.0 same)
same_line (AsItStands a) Elects line is too = absurd (is.1 (inr (codes "elect", too)))
same_line Elects (AsItStands b) line is too = absurd (too.1 (inr (codes "elect", is)))
same_line (Settles None) Elects line is too =
    let lengths : length (codes "settle") ≡ length (codes "settle elect") = ap length (sym is ∙ too) in
    absurd (omega (arith, lengths))
same_line Elects (Settles None) line is too =
    let lengths : length (codes "settle") ≡ length (codes "settle elect") = ap length (sym too ∙ is) in
    absurd (omega (arith, lengths))
same_line (Settles (Some n)) Elects line is too = absurd (no_number n is.0 (append_cancel_left (codes "settle ") (decimal n) (codes "elect") (sym is.1 ∙ too)))
same_line Elects (Settles (Some n)) line is too = absurd (no_number n too.0 (append_cancel_left (codes "settle ") (decimal n) (codes "elect") (sym too.1 ∙ is)))
same_line Elects Elects line is too = refl

same_one : (d : Data) (a b : List Short) → IsOneStep d a → IsOneStep d b → a ≡ b
same_one d a b is too =
    let lines : is.line ≡ too.line = let e : string is.line ≡ string too.line = sym is.text ∙ too.text in cc in
    is.alone ∙ ap (λ s. s ∷ []) (same_line is.step too.step too.line (rw lines at is.is) too.is) ∙ sym too.alone

-- a line is no object
pub no_line : (d : Data) (line : List ℕ) (times : ℕ) (items : Items) → d ≡ string line → IsRepeat d times items → ⊥
no_line d line times items text is = let e = sym text ∙ is.keys.1 in cc

same_list : (d : Data) (times more : ℕ) (ds es : List Data) → IsRepeat d times (items_of ds) → IsRepeat d more (items_of es) → (times ≡ more) × (ds ≡ es)
same_list d times more ds es is too =
    let number : Some times ≡ Some more = sym is.number ∙ too.number in
    let items : Some (items_of ds) ≡ Some (items_of es) = sym is.list ∙ too.list in
    let times_same : times ≡ more = cc in
    let items_same : items_of ds ≡ items_of es = cc in
    (times_same, same_items ds es items_same)

-- a value comes to no other steps
pub comes_once : (depth : ℕ) (d : Data) (a b : List Short) → ComesTo depth d a → ComesTo depth d b → a ≡ b
unfolding ComesTo
comes_once zero d a b is too = same_one d a b is too
comes_once (suc depth) d a b (inl is) (inl too) = same_one d a b is too
comes_once (suc depth) d a b (inl is) (inr too) = absurd (no_line d is.line too.times (items_of too.ds) is.text too.is)
comes_once (suc depth) d a b (inr is) (inl too) = absurd (no_line d too.line is.times (items_of is.ds) too.text is.is)
comes_once (suc depth) d a b (inr is) (inr too) =
    let same = same_list d is.times too.times is.ds too.ds is.is too.is in
    let own : is.own ≡ too.own = same_of_each (ComesTo depth) (comes_once depth) too.ds is.own too.own (rw same.1 at is.each) too.each in
    is.all ∙ ap₂ (λ n s. repeat n s) same.0 own ∙ sym too.all

pub line_comes : (depth : ℕ) (d : Data) (line : List ℕ) (step : Short) → d ≡ string line → IsShortLine step line → ComesTo depth d (step ∷ [])
unfolding ComesTo
line_comes zero d line step text is = record { line = line; text = text; step = step; is = is; alone = refl }
line_comes (suc depth) d line step text is = inl (record { line = line; text = text; step = step; is = is; alone = refl })

pub repeat_comes : (depth : ℕ) (d : Data) (times : ℕ) (ds : List Data) (own : List Short) → depth ≢ 0 → IsRepeat d times (items_of ds) → AreSteps (depth - 1) ds own
    → ComesTo depth d (repeat times own)
unfolding ComesTo
repeat_comes zero d times ds own deep is are = absurd (deep refl)
repeat_comes (suc depth) d times ds own deep is are =
    let e : suc depth - 1 ≡ depth = omega arith in
    inr (record { times = times; ds = ds; is = is; own = own; each = rw e at are.0; few = are.1; all = refl })

-- no list lies deeper
pub none_deeper : (d : Data) (times : ℕ) (items : Items) (steps : List Short) → IsRepeat d times items → ComesTo 0 d steps → ⊥
unfolding ComesTo
none_deeper d times items steps is comes = no_line d comes.line times items comes.text is

-- what comes to something has a list that does
pub list_comes : (depth : ℕ) (d : Data) (times : ℕ) (ds : List Data) (steps : List Short) → depth ≢ 0 → IsRepeat d times (items_of ds) → ComesTo depth d steps
    → (own : List Short) × AreSteps (depth - 1) ds own
unfolding ComesTo
list_comes zero d times ds steps deep is comes = absurd (deep refl)
list_comes (suc depth) d times ds steps deep is (inl one) = absurd (no_line d one.line times (items_of ds) one.text is)
list_comes (suc depth) d times ds steps deep is (inr all) =
    let e : depth ≡ suc depth - 1 = omega arith in
    let same = same_list d all.times times all.ds ds all.is is in
    (all.own, rw (← e) (rw same.1 at all.each, all.few))

-- ---- what is neither a step nor a list that is repeated

pub is_string : (d : Data) (text : List ℕ) → as_str d ≡ Some text → d ≡ string text
is_string (string own) text is = let e : own ≡ text = cc in ap string e
is_string null text is = cc
is_string (boolean b) text is = cc
is_string (number n) text is = cc
is_string (array ds) text is = cc
is_string (object ms) text is = cc

no_step_alone : (d : Data) (line : List ℕ) → d ≡ string line → ((step : Short) → ¬ IsShortLine step line) → (steps : List Short) → ¬ IsOneStep d steps
no_step_alone d line text none steps one =
    let lines : one.line ≡ line = let e : string one.line ≡ string line = sym one.text ∙ text in cc in
    none one.step (rw lines at one.is)

-- a text that is no step's line comes to nothing
pub no_step_of : (d : Data) (line : List ℕ) → d ≡ string line → ((step : Short) → ¬ IsShortLine step line) → (depth : ℕ) (steps : List Short) → ¬ ComesTo depth d steps
unfolding ComesTo
no_step_of d line text none zero steps one = no_step_alone d line text none steps one
no_step_of d line text none (suc depth) steps (inl one) = no_step_alone d line text none steps one
no_step_of d line text none (suc depth) steps (inr all) = no_line d line all.times (items_of all.ds) text all.is

no_text : (d : Data) → as_str d ≡ None → (steps : List Short) → ¬ IsOneStep d steps
no_text d none steps one = let e : as_str d ≡ Some one.line = ap as_str one.text in cc

-- nor does what is neither a text nor a list that is repeated
pub neither : (d : Data) → as_str d ≡ None → ((times : ℕ) (items : Items) → ¬ IsRepeat d times items) → (depth : ℕ) (steps : List Short) → ¬ ComesTo depth d steps
unfolding ComesTo
neither d none never zero steps one = no_text d none steps one
neither d none never (suc depth) steps (inl one) = no_text d none steps one
neither d none never (suc depth) steps (inr all) = never all.times (items_of all.ds) all.is

-- ---- the values of a list

at_place : (list : List Value) (i : ℕ) (v : Value) → i < length list → v ≡ get_or list i v → get_or (map view list) i (view v) ≡ view v
at_place list i v lt is = get_or-map view list i v (view v) lt ∙ ap view (sym is)

-- the next value comes to what is put behind the others
pub next_comes : (depth : ℕ) (list : List Value) (i : ℕ) (v : Value) (old own new : List Short) → i < length list → v ≡ get_or list i v
    → OfEach (ComesTo depth) (map view (take i list)) old → ComesTo depth (view v) own → new ≡ old ++ own → AreFew new
    → AreSteps depth (map view (take (i + 1) list)) new
next_comes depth list i v old own new lt is are comes put few =
    let taken : take (i + 1) list ≡ take i list ++ v ∷ [] = take_more list i v lt ∙ ap (λ x. take i list ++ x ∷ []) (sym is) in
    let all : OfEach (ComesTo depth) (map view (take i list) ++ view v ∷ []) (old ++ own) = of_one_more (ComesTo depth) (map view (take i list)) (view v) old own are comes in
    (rw (taken, map-append view (take i list) (v ∷ []), put) all, few)

-- where one value comes to nothing, nor does the list
pub none_at : (depth : ℕ) (list : List Value) (i : ℕ) (v : Value) → i < length list → v ≡ get_or list i v → ((own : List Short) → ¬ ComesTo depth (view v) own)
    → (steps : List Short) → ¬ AreSteps depth (map view list) steps
none_at depth list i v lt is none steps are =
    let one = of_one (ComesTo depth) (map view list) i (view v) steps are.0 (omega (arith, length-map list view)) (at_place list i v lt is) in
    none one.0 one.1

-- ---- few steps

pub few_front : (front rest : List Short) → AreFew (front ++ rest) → AreFew front
few_front front rest few = record {
  count = omega (arith, length-append front rest, few.count);
  bytes = omega (arith, sum_by-append line_bytes front rest, few.bytes);
}

-- where the first ones and the next come to too many, the list comes to nothing
pub too_many : (depth : ℕ) (list : List Value) (i : ℕ) (v : Value) (front own : List Short) → i < length list → v ≡ get_or list i v
    → OfEach (ComesTo depth) (map view (take i list)) front → ComesTo depth (view v) own → ¬ AreFew (front ++ own)
    → (steps : List Short) → ¬ AreSteps depth (map view list) steps
too_many depth list i v front own lt is first comes many steps are =
    let before : OfEach (ComesTo depth) (take i (map view list)) front = rw (take-map view i list) first in
    let all = begins_of_each (ComesTo depth) (comes_once depth) (map view list) i (view v) front own steps before comes are.0 (omega (arith, length-map list view)) (at_place list i v lt is) in
    many (few_front (front ++ own) all.0 (subst AreFew all.1 are.1))

-- ---- copies

-- once more behind is once more in front
repeat_behind : (n : ℕ) (xs : List Short) → repeat n xs ++ xs ≡ xs ++ repeat n xs
repeat_behind zero xs = sym (append-nil xs)
repeat_behind (suc n) xs = append_assoc xs (repeat n xs) xs ∙ ap (λ s. xs ++ s) (repeat_behind n xs)

pub repeat_more : (n : ℕ) (front xs : List Short) → front ++ repeat n xs ++ xs ≡ front ++ repeat (n + 1) xs
repeat_more n front xs =
    let e : n + 1 ≡ suc n = omega arith in
    rw e (append_assoc front (repeat n xs) xs ∙ ap (λ s. front ++ s) (repeat_behind n xs))

-- nothing, however often
pub repeat_none : (n : ℕ) → repeat {A = Short} n [] ≡ []
repeat_none zero = refl
repeat_none (suc n) = repeat_none n

-- how many they are, and how long their lines
repeat_length : (n : ℕ) (xs : List Short) → length (repeat n xs) ≡ n * length xs
repeat_length zero xs = omega arith
repeat_length (suc n) xs = let one = length-append xs (repeat n xs) in let rest = repeat_length n xs in omega (arith, one, rest, suc-mul n (length xs))

repeat_bytes : (n : ℕ) (xs : List Short) → sum_by line_bytes (repeat n xs) ≡ n * sum_by line_bytes xs
repeat_bytes zero xs = omega arith
repeat_bytes (suc n) xs =
    let one = sum_by-append line_bytes xs (repeat n xs) in
    let rest = repeat_bytes n xs in
    omega (arith, one, rest, suc-mul n (sum_by line_bytes xs))

-- those that are not repeated make no difference
repeat_same : (n : ℕ) (xs ys : List Short) → (0 < n → xs ≡ ys) → repeat n xs ≡ repeat n ys
repeat_same zero xs ys same = refl
repeat_same (suc n) xs ys same = ap (repeat (suc n)) (same (omega arith))

-- ---- what a list comes to, behind which another is put so many times

all_length : (total own : Total) (n : ℕ) (before steps : List Short) → IsCounted before total → IsCounted steps own
    → length (before ++ repeat n steps) ≡ total.count + n * own.count
all_length total own n before steps is of =
    let all = length-append before (repeat n steps) in
    let more : length (repeat n steps) ≡ n * own.count = repeat_length n steps ∙ ap (λ k. n * k) (sym of.count) in
    omega (arith, all, more, is.count)

all_bytes : (total own : Total) (n : ℕ) (before steps : List Short) → IsCounted before total → IsCounted steps own
    → sum_by line_bytes (before ++ repeat n steps) ≡ total.bytes + n * own.bytes
all_bytes total own n before steps is of =
    let all = sum_by-append line_bytes before (repeat n steps) in
    let more : sum_by line_bytes (repeat n steps) ≡ n * own.bytes = repeat_bytes n steps ∙ ap (λ k. n * k) (sym of.bytes) in
    omega (arith, all, more, is.bytes)

pub too_many_steps : (total own : Total) (n : ℕ) (before steps : List Short) → IsCounted before total → IsCounted steps own → 1_000_000 < total.count + n * own.count
    → ¬ AreFew (before ++ repeat n steps)
too_many_steps total own n before steps is of many few = let all = all_length total own n before steps is of in omega (arith, all, many, few.count)

pub too_many_bytes : (total own : Total) (n : ℕ) (before steps : List Short) → IsCounted before total → IsCounted steps own → 33_554_432 < total.bytes + n * own.bytes
    → ¬ AreFew (before ++ repeat n steps)
too_many_bytes total own n before steps is of many few = let all = all_bytes total own n before steps is of in omega (arith, all, many, few.bytes)

pub put_behind : (total own new : Total) (n : ℕ) (Kept : Type 0) (before steps : List Short) → IsTotal (Kept × (0 < n)) steps own → IsTotal Kept before total
    → (new.count ≡ total.count + n * own.count) × (new.count ≤ 1_000_000) → (new.bytes ≡ total.bytes + n * own.bytes) × (new.bytes ≤ 33_554_432)
    → (Kept → map short_step new.steps.items ≡ map short_step total.steps.items ++ repeat n (map short_step own.steps.items))
    → AreFew (before ++ repeat n steps) × IsTotal Kept (before ++ repeat n steps) new
put_behind total own new n Kept before steps of is count bytes put =
    let long = all_length total own n before steps is.0 of.0 in
    let wide = all_bytes total own n before steps is.0 of.0 in (
      record { count = omega (arith, long, count.0, count.1); bytes = omega (arith, wide, bytes.0, bytes.1) },
      (
        record { count = count.0 ∙ sym long; bytes = bytes.0 ∙ sym wide },
        λ kept. put kept ∙ ap₂ (λ s t. s ++ t) (is.1 kept) (repeat_same n _ steps (λ some. of.1 (kept, some))),
      ),
    )

-- one more copy behind the others
pub put_more : (list : List ShortStep) (i : ℕ) (step : ShortStep) (old mid new : List Short) → i < length list → step ≡ get_or list i step
    → mid ≡ old ++ map short_step (take i list) → new ≡ mid ++ short_step step ∷ [] → new ≡ old ++ map short_step (take (i + 1) list)
put_more list i step old mid new lt is was put =
    let taken : take (i + 1) list ≡ take i list ++ step ∷ [] = take_more list i step lt ∙ ap (λ x. take i list ++ x ∷ []) (sym is) in
    rw (taken, map-append short_step (take i list) (step ∷ []))
    (put ∙ ap (λ s. s ++ short_step step ∷ []) was ∙ append_assoc old (map short_step (take i list)) (short_step step ∷ []))

pub none_there : (steps : List ShortStep) → length steps ≡ 0 → steps ≡ []
none_there [] none = refl
none_there (step ∷ steps) none = absurd (omega (arith, none))
