-- What runs fits the node.
use Rattle.std.proofs.Common.{◌≡◌, ℕ, ◌+◌, ◌<◌, ◌≤◌, Bool, not, T, List, [], ◌∷◌, ◌++◌, length, take, drop, get_or, Option, Some, filter, refl, sym, ap, subst, ◌∙◌, arith}
use Rattle.std.specs.Prelude.{IfSome, nat_le, true, false, ◌&&◌, if◌then◌else◌}
use Rattle.std.specs.List.{list_any, sum_by}
use Rattle.std.proofs.lemmas.List.Filters.{sum_by-filter_both}
use Rattle.std.proofs.Math.ListN.{drop_of_length-le}
use Rattle.std.proofs.lemmas.List.{take_more, take-append-drop, append-nil}
use Rattle.std.proofs.lemmas.List.Sums.{sum_by-cons, sum_by-append, sum_by-take-le}
use Rattle.rows.specs.declared.size.Size.{Size}
use Rattle.rows.specs.Sizes.{Part, amount, plus, less, total, fits}
use Rattle.rows.proofs.SizeLaws.{amount_of_plus, amount_of_less, amount_of_total, fits_of, of_fits, same_in_each}
use Rattle.rows.specs.declared.listing.ListedAllocation.{ListedAllocation}
use Rattle.fsm_model.specs.Words.{same_alloc}
use Rattle.group_model.specs.Agents.{Running, Life, Started, fits_beside, starts_one}
use Rattle.client_agent.specs.Capacity.{FitTogether}
use Rattle.client_agent.specs.Inner.Rooms.{runs_with, IsLeftBeside}

part : (p : Running → Bool) (w : Running → ℕ) (rs : List Running) → sum_by w (filter p rs) ≤ sum_by w rs
part p w rs = omega (arith, sum_by-filter_both p (λ r. not (p r)) (λ _. refl) w rs)

-- so does a part of it
pub fit_part : (whole : Size) (p : Running → Bool) (rs : List Running) → FitTogether whole rs → FitTogether whole (filter p rs)
fit_part whole p rs fit = fits_of (total (λ (r : Running). r.size) (filter p rs)) whole (λ q.
    let few = part p (λ (r : Running). amount q r.size) rs in
    let all = of_fits (total (λ (r : Running). r.size) rs) whole fit q in
    let old = amount_of_total q (λ (r : Running). r.size) rs in
    let new = amount_of_total q (λ (r : Running). r.size) (filter p rs) in
    omega (arith, few, all, old, new))

-- what fits beside what runs fits what is left
pub beside_is : (whole : Size) (rs : List Running) (left size : Size) → IsLeftBeside whole rs left → fits size left ≡ fits_beside whole rs size
beside_is whole rs left size beside =
    let runs = total (λ (r : Running). r.size) rs in
    let more = plus runs size in
    same_in_each (λ p. nat_le (amount p size) (amount p left)) (λ p. nat_le (amount p more) (amount p whole)) (λ p.
    same_test (runs_with rs p) (amount p size) (amount p left) (amount p more) (amount p whole) (beside p)
    (amount_of_plus p runs size ∙ ap (λ (m : ℕ). m + amount p size) (amount_of_total p (λ (r : Running). r.size) rs)))
  where
    same_test : (runs size left more whole : ℕ) → runs + left ≡ whole → more ≡ runs + size → nat_le size left ≡ nat_le more whole
    same_test runs size left more whole g h = grind arith

-- ---- what is left, one after the other

one_alone : (w : Running → ℕ) (r : Running) → sum_by w (r ∷ []) ≡ w r
one_alone w r = omega (arith, sum_by-cons w r [])

-- nothing yet
pub beside_none : (whole : Size) (p : Part) → runs_with [] p + amount p whole ≡ amount p whole
beside_none whole p = omega arith

-- one more of those that fit together
pub beside_next : (whole : Size) (rs : List Running) (i : ℕ) (r : Running) (left : Size) → FitTogether whole rs → i < length rs → r ≡ get_or rs i r
    → ((p : Part) → runs_with (take i rs) p + amount p left ≡ amount p whole) → (p : Part) → runs_with (take (i + 1) rs) p + amount p (less left r.size) ≡ amount p whole
beside_next whole rs i r left fit lt is before p =
    let w = λ (x : Running). amount p x.size in
    let here = before p in
    let rest = amount_of_less p left r.size in
    let more : sum_by w (take (i + 1) rs) ≡ sum_by w (take i rs) + w r =
    ap (sum_by w) (take_more rs i r lt ∙ ap (λ x. take i rs ++ x ∷ []) (sym is)) ∙ sum_by-append w (take i rs) (r ∷ []) ∙ ap (λ (m : ℕ). sum_by w (take i rs) + m) (one_alone w r) in
    let most = sum_by-take-le w rs (i + 1) in
    let all = amount_of_total p (λ (x : Running). x.size) rs in
    let within = of_fits (total (λ (x : Running). x.size) rs) whole fit p in
    omega (arith, here, rest, more, most, all, within)

take_all : (rs : List Running) (i : ℕ) → length rs ≤ i → take i rs ≡ rs
take_all rs i le = sym (append-nil (take i rs)) ∙ ap (λ ys. take i rs ++ ys) (sym (drop_of_length-le rs le)) ∙ take-append-drop i rs

-- all of them
pub beside_all : (whole : Size) (rs : List Running) (i : ℕ) (left : Size) → length rs ≤ i → ((p : Part) → runs_with (take i rs) p + amount p left ≡ amount p whole) → (p : Part) → runs_with rs p + amount p left ≡ amount p whole
beside_all whole rs i left le before p = ap (λ xs. runs_with xs p + amount p left) (sym (take_all rs i le)) ∙ before p

-- one more runs
pub beside_more : (whole : Size) (rs : List Running) (r : Running) (left : Size) → IsLeftBeside whole rs left → T (fits r.size left) → IsLeftBeside whole (rs ++ r ∷ []) (less left r.size)
beside_more whole rs r left beside fit p =
    let all = beside p in
    let within = of_fits r.size left fit p in
    let rest = amount_of_less p left r.size in
    let more = sum_by-append (λ (x : Running). amount p x.size) rs (r ∷ []) in
    let one = sum_by-cons (λ (x : Running). amount p x.size) r [] in
    omega (arith, all, within, rest, more, one)

-- what fits beside what is left of it fits together
pub fit_beside : (whole : Size) (rs : List Running) (left : Size) → IsLeftBeside whole rs left → FitTogether whole rs
fit_beside whole rs left beside = fits_of (total (λ (r : Running). r.size) rs) whole (λ p. let all = beside p in let sum = amount_of_total p (λ (r : Running). r.size) rs in omega (arith, all, sum))

-- what an agent that is up says of itself
pub fit_of : (whole : Size) (o : Option Life) (l : Life) → Some l ≡ o → IfSome o (λ (l : Life). FitTogether whole l.running) → FitTogether whole l.running
fit_of whole o l is fit = subst (λ (x : Option Life). IfSome x (λ (l : Life). FitTogether whole l.running)) (sym is) fit

-- ---- what is listed starts

-- not one that was ever started
pub not_again : (whole : Size) (row : ListedAllocation) (s : Started) → list_any (same_alloc row.id) s.ids ≡ true → s ≡ starts_one whole row s
not_again whole row s is = rw is refl

-- nor one that does not fit
pub not_past : (whole : Size) (row : ListedAllocation) (s : Started) → fits_beside whole s.running row.size ≡ false → s ≡ starts_one whole row s
not_past whole row s is = go (list_any (same_alloc row.id) s.ids)
  where
    go : (b : Bool) → s ≡ (if not b && fits_beside whole s.running row.size then record { ids = s.ids ++ row.id ∷ []; running = s.running ++ record { id = row.id; size = row.size } ∷ [] } else s)
    go true = refl
    go false = rw is refl

-- any other does
pub starts_now : (whole : Size) (row : ListedAllocation) (s : Started) → list_any (same_alloc row.id) s.ids ≡ false → fits_beside whole s.running row.size ≡ true
    → record { ids = s.ids ++ row.id ∷ []; running = s.running ++ record { id = row.id; size = row.size } ∷ [] } ≡ starts_one whole row s
starts_now whole row s is fit = rw (is, fit) refl
