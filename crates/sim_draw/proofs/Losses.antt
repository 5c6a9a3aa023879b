-- Lost messages are counted one by one, on each side of their event's actor.
use Rattle.std.proofs.Common.{◌≡◌, ◌∙◌, ◌⊎◌, inl, inr, ℕ, zero, suc, ◌+◌, ◌^◌, ◌<◌, Bool, true, false, not, ◌&&◌, cond, nat_eq, nat_lt, if◌then◌else◌, Option, Some, None, List, [], ◌∷◌, ◌++◌, length, take, get_or, replicate, slice_get, slice_set, count_by, refl, sym, ap, arith}
use Rattle.std.specs.Option.{unwrap_or}
use Rattle.std.proofs.lemmas.Bool.{eq-eqb, ne_eqb, cases_eq}
use Rattle.std.proofs.lemmas.Option.{slice_get-get_or, slice_get_within}
use Rattle.std.proofs.lemmas.List.{length-set, length-replicate, get_or-replicate, get_or-set_other, take-append-le, take_all, length_push}
use Rattle.std.proofs.lemmas.Grind.{get_or-set_at}
use Rattle.std.proofs.lemmas.List.Sums.{sum_by-append, count_by-le-length}
use Rattle.sim_draw.specs.declared.layout.Fan.{Fan}
use Rattle.sim_draw.specs.declared.layout.Side.{Side}
use Rattle.sim_draw.specs.declared.layout.Side.TheVariants.{Left, Right}
use Rattle.sim_draw.specs.declared.record.Sending.{Sending}
use Rattle.sim_draw.specs.Inner.Positions.{capped, side_towards}
use Rattle.sim_draw.specs.Inner.Fans.{is_lost_on, lost_on, fan_of, place_behind, no_fan, count_on, one_more_on, place_among, fan_behind, fans_behind}
use Rattle.sim_draw.specs.Inner.Layouts.{AreFans, AreSlots}

abbrev once : Bool → ℕ
once b = cond b 1 0

abbrev fan : ℕ → ℕ → Fan
fan l r = record { left = l; right = r }

two : (a b c d : ℕ) → a ≡ b → c ≡ d → fan a c ≡ fan b d
two a b c d e f = ap (λ l. fan l c) e ∙ ap (λ r. fan b r) f

one_more : (p : Sending → Bool) (xs : List Sending) (s : Sending) → count_by p (xs ++ s ∷ []) ≡ count_by p xs + once (p s)
one_more p xs s =
    let parts : count_by p (xs ++ s ∷ []) ≡ count_by p xs + (0 + once (p s)) = sum_by-append (λ x. cond (p x) 1 0) xs (s ∷ []) in
    omega (arith, parts)

-- a message of another event
no_more : (came on : Bool) → once (not came && (false && on)) ≡ 0
no_more true on = refl
no_more false on = refl

other : (row : ℕ) (xs : List Sending) (s : Sending) → (row ≡ s.row → ⊥) → fan_of row (xs ++ s ∷ []) ≡ fan_of row xs
other row xs s ne =
    let off : nat_eq s.row row ≡ false = ne_eqb s.row row (λ e. ne (sym e)) in
    let none : (on : Bool) → once (not s.came && (nat_eq s.row row && on)) ≡ 0 =
    λ on. ap (λ b. once (not s.came && (b && on))) off ∙ no_more s.came on in
    let left : lost_on row Left (xs ++ s ∷ []) ≡ lost_on row Left xs = omega (arith, one_more (is_lost_on row Left) xs s, none (nat_lt s.to s.from)) in
    let right : lost_on row Right (xs ++ s ∷ []) ≡ lost_on row Right xs = omega (arith, one_more (is_lost_on row Right) xs s, none (not (nat_lt s.to s.from))) in
    two _ _ _ _ left right

-- one of the event itself
step : (came on : Bool) (l r : ℕ) → l + 1 < 2 ^ 64 → r + 1 < 2 ^ 64 →
    fan (l + once (not came && (true && on))) (r + once (not came && (true && not on)))
    ≡ (if came then fan l r else one_more_on (if on then Left else Right) (fan l r))
step true on l r a b = two (l + 0) l (r + 0) r (omega arith) (omega arith)
step false true l r a b = two (l + 1) (capped (l + 1)) (r + 0) r (omega (arith, a)) (omega arith)
step false false l r a b = two (l + 0) l (r + 1) (capped (r + 1)) (omega arith) (omega (arith, b))

same : (xs : List Sending) (s : Sending) → length xs + 1 < 2 ^ 64 → fan_of s.row (xs ++ s ∷ []) ≡ fan_behind (fan_of s.row xs) s
same xs s fits =
    let row = s.row in
    let here : nat_eq row row ≡ true = eq-eqb row row refl in
    let it : (on : Bool) → once (not s.came && (nat_eq row row && on)) ≡ once (not s.came && (true && on)) =
    λ on. ap (λ b. once (not s.came && (b && on))) here in
    let on = nat_lt s.to s.from in
    two _ _ _ _
    (one_more (is_lost_on row Left) xs s ∙ ap (λ n. lost_on row Left xs + n) (it on))
    (one_more (is_lost_on row Right) xs s ∙ ap (λ n. lost_on row Right xs + n) (it (not on)))
    ∙ step s.came on (lost_on row Left xs) (lost_on row Right xs)
    (omega (arith, count_by-le-length (is_lost_on row Left) xs))
    (omega (arith, count_by-le-length (is_lost_on row Right) xs))

-- that of its event
found : (events : ℕ) (xs : List Sending) (fans : List Fan) (row : ℕ) → AreFans events xs fans → row < events →
    slice_get fans row ≡ Some (fan_of row xs)
found events xs fans row all lt =
    let within : row < length fans = omega (arith, all.each) in
    slice_get-get_or fans row no_fan within ∙ ap Some (all.counts row lt)

none_missing : {X : Type 0} (x : X) (o : Option X) → o ≡ None → o ≡ Some x → ⊥
none_missing x o e f = absurd cc

the_same : {X : Type 0} (x y : X) → Some x ≡ Some y → x ≡ y
the_same x y e = ap (λ o. unwrap_or o x) e

at_row : (events : ℕ) (xs : List Sending) (s : Sending) (fans : List Fan) → AreFans events xs fans → (new : Fan) →
    new ≡ fan_of s.row (xs ++ s ∷ []) → s.row < events → (row : ℕ) → row < events → (row ≡ s.row) ⊎ (row ≡ s.row → ⊥) →
    get_or (slice_set fans s.row new) row no_fan ≡ fan_of row (xs ++ s ∷ [])
at_row events xs s fans all new is here row lt (inl e) =
    get_or-set_at fans s.row row new no_fan e (omega (arith, all.each, here)) ∙ is ∙ ap (λ r. fan_of r (xs ++ s ∷ [])) (sym e)
at_row events xs s fans all new is here row lt (inr ne) =
    get_or-set_other fans s.row row new no_fan ne ∙ all.counts row lt ∙ sym (other row xs s ne)

-- one message more
pub fans_more : (events : ℕ) (xs : List Sending) (s : Sending) (fans : List Fan) → length xs + 1 < 2 ^ 64 → AreFans events xs fans →
    (o : Option Fan) → slice_get fans s.row ≡ o → AreFans events (xs ++ s ∷ []) (fans_behind fans s o)
fans_more events xs s fans fits all None is = record {
  each = all.each;
  counts = λ row lt. all.counts row lt ∙ sym (other row xs s (λ e.
      none_missing (fan_of row xs) (slice_get fans s.row) is (ap (slice_get fans) (sym e) ∙ found events xs fans row all lt)));
}
fans_more events xs s fans fits all (Some here) is =
    let lt : s.row < events = omega (arith, slice_get_within fans s.row here is, all.each) in
    let was : here ≡ fan_of s.row xs = the_same here (fan_of s.row xs) (sym is ∙ found events xs fans s.row all lt) in
    let now : fan_behind here s ≡ fan_of s.row (xs ++ s ∷ []) = ap (λ f. fan_behind f s) was ∙ sym (same xs s fits) in
    record {
      each = length-set fans s.row (fan_behind here s) ∙ all.each;
      counts = λ row below. at_row events xs s fans all (fan_behind here s) now lt row below (cases_eq row s.row);
    }

pub no_losses : (events : ℕ) (fans : List Fan) → fans ≡ replicate events no_fan → AreFans events [] fans
no_losses events fans is = record {
  each = ap length is ∙ length-replicate events no_fan;
  counts = λ row lt. ap (λ fs. get_or fs row no_fan) is ∙ get_or-replicate events row no_fan no_fan lt;
}

-- ---- the place of each

counts_on : (side : Side) (row : ℕ) (xs : List Sending) → count_on side (fan_of row xs) ≡ lost_on row side xs
counts_on Left row xs = refl
counts_on Right row xs = refl

placed : (events : ℕ) (xs : List Sending) (s : Sending) (fans : List Fan) → AreFans events xs fans → s.row < events →
    place_among (slice_get fans s.row) s ≡ place_behind xs s
placed events xs s fans all lt =
    ap (λ o. place_among o s) (found events xs fans s.row all lt)
    ∙ ap (λ n. if s.came then 0 else n) (counts_on (side_towards s.from s.to) s.row xs)

in_front : {X : Type 0} (xs : List X) (ys : List X) (i : ℕ) → i < length xs → slice_get (xs ++ ys) i ≡ slice_get xs i
in_front [] ys i lt = absurd (omega (arith, lt))
in_front (x ∷ xs) ys zero lt = refl
in_front (x ∷ xs) ys (suc i) lt = in_front xs ys i (omega (arith, lt))

at_end : {X : Type 0} (xs : List X) (x : X) (i : ℕ) → i ≡ length xs → slice_get (xs ++ x ∷ []) i ≡ Some x
at_end [] x zero e = refl
at_end [] x (suc i) e = absurd (omega (arith, e))
at_end (y ∷ xs) x zero e = absurd (omega (arith, e))
at_end (y ∷ xs) x (suc i) e = at_end xs x i (omega (arith, e))

pub no_slots : (events : ℕ) (slots : List ℕ) → length slots ≡ 0 → AreSlots events [] slots
no_slots events slots is = record {
  each = is;
  places = λ i t at lt. absurd (omega (arith, slice_get_within [] i t at));
}

at_place : (events : ℕ) (xs : List Sending) (s : Sending) (fans : List Fan) (slots : List ℕ) (n : ℕ) → AreFans events xs fans → AreSlots events xs slots →
    n ≡ place_among (slice_get fans s.row) s → (i : ℕ) (t : Sending) → slice_get (xs ++ s ∷ []) i ≡ Some t → t.row < events →
    (i ≡ length xs) ⊎ (i ≡ length xs → ⊥) → slice_get (slots ++ n ∷ []) i ≡ Some (place_behind (take i (xs ++ s ∷ [])) t)
at_place events xs s fans slots n all old is i t at lt (inl e) =
    let it : s ≡ t = the_same s t (sym (at_end xs s i e) ∙ at) in
    let row : s.row < events = omega (arith, lt, ap (λ (x : Sending). x.row) it) in
    let front : take i (xs ++ s ∷ []) ≡ take i xs = take-append-le i xs (s ∷ []) (omega (arith, e)) in
    at_end slots n i (e ∙ sym old.each)
    ∙ ap Some (is ∙ placed events xs s fans all row
    ∙ ap (λ ys. place_behind ys s) (sym (front ∙ ap (λ k. take k xs) e ∙ take_all (length xs) xs (omega arith)))
    ∙ ap (place_behind (take i (xs ++ s ∷ []))) it)
at_place events xs s fans slots n all old is i t at lt (inr ne) =
    let within : i < length xs = omega (arith, slice_get_within (xs ++ s ∷ []) i t at, length_push xs s, ne) in
    let there : slice_get xs i ≡ Some t = sym (in_front xs (s ∷ []) i within) ∙ at in
    in_front slots (n ∷ []) i (omega (arith, within, old.each))
    ∙ old.places i t there lt
    ∙ ap (λ ys. Some (place_behind ys t)) (sym (take-append-le i xs (s ∷ []) (omega (arith, within))))

pub slots_more : (events : ℕ) (xs : List Sending) (s : Sending) (fans : List Fan) (slots new : List ℕ) (n : ℕ) → AreFans events xs fans → AreSlots events xs slots →
    n ≡ place_among (slice_get fans s.row) s → new ≡ slots ++ n ∷ [] → AreSlots events (xs ++ s ∷ []) new
slots_more events xs s fans slots new n all old is more = record {
  each = ap length more ∙ length_push slots n ∙ ap (λ k. k + 1) old.each ∙ sym (length_push xs s);
  places = λ i t at lt. ap (λ ns. slice_get ns i) more ∙ at_place events xs s fans slots n all old is i t at lt (cases_eq i (length xs));
}
