-- Names compared eight bytes at a time.
use Rattle.std.proofs.Common.{◌≡◌, ◌≢◌, ℕ, zero, suc, ◌+◌, ◌*◌, ◌^◌, ◌-◌, ◌≤◌, ◌<◌, List, [], ◌∷◌, ◌++◌, length, take, drop, replicate, get_or, true, refl, sym, ap, ◌∙◌, arith, Ordering}
use Rattle.std.proofs.Math.Nat.{mul-le-mul_left, one-le-pow, pow-suc}
use Rattle.std.specs.Cmp.Lexicographic.{slice_cmp}
use Rattle.std.specs.Int.{w64, from_be_bytes}
use Rattle.std.specs.Ordering.{nat_cmp, ordering_then}
use Rattle.std.specs.declared.cmp.Ordering.TheVariants.{Less, Equal, Greater}
use Rattle.std.proofs.lemmas.Bool.Decides.{nat_tests}
use Rattle.std.proofs.lemmas.Cmp.{by_ranked, nat_list_cmp_total, ranked, tied_itself}
use Rattle.std.proofs.lemmas.Bool.{false≢true}
use Rattle.std.proofs.lemmas.List.{drop-drop, get_or-drop, length-drop}
use Rattle.std.specs.Cmp.{first_so, second_so}
use Rattle.std.specs.List.{list_all}
use Rattle.rows.specs.Laws.NameLaws.{bytes_back}
use Rattle.rows.specs.Names.{is_name_byte, NameFits}

abbrev AreBytes : List ℕ → Type 0
AreBytes xs = (k : ℕ) → get_or xs k 0 < 256

-- the number of the first n bytes, the first of them the highest
abbrev number : ℕ → List ℕ → ℕ
number zero xs = 0
number (suc n) [] = 0
number (suc n) (x ∷ xs) = x * 256 ^ n + number n xs

number_fits : (n : ℕ) (xs : List ℕ) → AreBytes xs → number n xs < 256 ^ n
number_fits zero xs bytes = omega arith
number_fits (suc n) [] bytes = one-le-pow (suc n) 256 (omega arith)
number_fits (suc n) (x ∷ xs) bytes =
    let small : x < 256 = bytes 0 in
    let rest = number_fits n xs (λ k. bytes (suc k)) in
    omega (arith, mul-le-mul_left (256 ^ n) small, pow-suc 256 n)

below : (x y : ℕ) → x < y → nat_cmp x y ≡ Less
below x y h = grind (arith, nat_tests)

above : (x y : ℕ) → y < x → nat_cmp x y ≡ Greater
above x y h = grind (arith, nat_tests)

level : (x y : ℕ) → x ≡ y → nat_cmp x y ≡ Equal
level x y h = grind (arith, nat_tests)

shifted : (q r s : ℕ) → nat_cmp r s ≡ nat_cmp (q + r) (q + s)
shifted q r s = by_ranked _ _ _ (nat_cmp r s) (ranked r s _ refl)
    (λ e h. e ∙ sym (below (q + r) (q + s) (omega (arith, h))))
    (λ e h. e ∙ sym (level (q + r) (q + s) (omega (arith, h))))
    (λ e h. e ∙ sym (above (q + r) (q + s) (omega (arith, h))))

-- a digit and what is below it decide as the number of both
digit : (p x y r s : ℕ) (o : Ordering) → r < p → s < p
    → ordering_then (nat_cmp x y) (ordering_then (nat_cmp r s) o) ≡ ordering_then (nat_cmp (x * p + r) (y * p + s)) o
digit p x y r s o low high = by_ranked _ _ _ (nat_cmp x y) (ranked x y _ refl)
    (λ e h. rw (e, below (x * p + r) (y * p + s) (omega (arith, mul-le-mul_left p h))) refl)
    (λ e h. rw (e, h, ← shifted (y * p) r s) refl)
    (λ e h. rw (e, above (x * p + r) (y * p + s) (omega (arith, mul-le-mul_left p h))) refl)

-- the first n bytes decide as the numbers that they are
by_number : (n : ℕ) (xs ys : List ℕ) → n ≤ length xs → n ≤ length ys → AreBytes xs → AreBytes ys
    → slice_cmp nat_cmp xs ys ≡ ordering_then (nat_cmp (number n xs) (number n ys)) (slice_cmp nat_cmp (drop n xs) (drop n ys))
by_number zero xs ys l r bx by = refl
by_number (suc n) [] ys l r bx by = absurd (omega arith)
by_number (suc n) (x ∷ xs) [] l r bx by = absurd (omega arith)
by_number (suc n) (x ∷ xs) (y ∷ ys) l r bx by =
    let tail = by_number n xs ys (omega arith) (omega arith) (λ k. bx (suc k)) (λ k. by (suc k)) in
    ap (ordering_then (nat_cmp x y)) tail
    ∙ digit (256 ^ n) x y (number n xs) (number n ys) _ (number_fits n xs (λ k. bx (suc k))) (number_fits n ys (λ k. by (suc k)))

-- eight bytes are the number that `from_be_bytes` makes of them
eight : (xs : List ℕ) → number 8 xs ≡ from_be_bytes w64 xs
eight (a ∷ b ∷ c ∷ d ∷ e ∷ f ∷ g ∷ h ∷ xs) = omega arith
eight _ = omega arith

number_take : (n m : ℕ) (xs : List ℕ) → n ≤ m → number n (take m xs) ≡ number n xs
number_take zero m xs le = refl
number_take (suc n) zero xs le = absurd (omega arith)
number_take (suc n) (suc m) [] le = refl
number_take (suc n) (suc m) (x ∷ xs) le = ap (λ rest. x * 256 ^ n + rest) (number_take n m xs (omega arith))

-- eight bytes from one place on decide as their numbers
pub by_word : (at m x y : ℕ) (xs ys : List ℕ) → 8 ≤ m → at + 8 ≤ length xs → at + 8 ≤ length ys → AreBytes xs → AreBytes ys
    → x ≡ from_be_bytes w64 (take m (drop at xs)) → y ≡ from_be_bytes w64 (take m (drop at ys))
    → slice_cmp nat_cmp (drop at xs) (drop at ys) ≡ ordering_then (nat_cmp x y) (slice_cmp nat_cmp (drop (at + 8) xs) (drop (at + 8) ys))
by_word at m x y xs ys more l r bx by ex ey =
    let left : AreBytes (drop at xs) = λ k. rw get_or-drop (bx (at + k)) in
    let right : AreBytes (drop at ys) = λ k. rw get_or-drop (by (at + k)) in
    let cut = by_number 8 (drop at xs) (drop at ys) (omega (arith, length-drop at xs)) (omega (arith, length-drop at ys)) left right in
    let word : (zs : List ℕ) → from_be_bytes w64 (take m zs) ≡ number 8 zs = λ zs. sym (eight (take m zs)) ∙ number_take 8 m zs more in
    rw (ex ∙ word (drop at xs), ey ∙ word (drop at ys), ← drop-drop 8 at xs, ← drop-drop 8 at ys) cut

-- numbers that differ decide
pub decided : (x y : ℕ) (o : Ordering) → x ≢ y → ordering_then (nat_cmp x y) o ≡ nat_cmp x y
decided x y o ne = by_ranked _ _ _ (nat_cmp x y) (ranked x y _ refl)
    (λ e h. rw e refl)
    (λ e h. absurd (ne h))
    (λ e h. rw e refl)

-- equal ones do not
pub undecided : (x y : ℕ) (o : Ordering) → x ≡ y → ordering_then (nat_cmp x y) o ≡ o
undecided x y o e = rw (level x y e) refl

positive : (x : ℕ) → is_name_byte x ≡ true → 0 < x
positive zero e = absurd (false≢true e)
positive (suc x) e = omega arith

-- zeros behind names, which have none, change nothing
padded : (xs ys : List ℕ) (m n : ℕ) → length xs + m ≡ length ys + n → list_all is_name_byte xs ≡ true → list_all is_name_byte ys ≡ true
    → slice_cmp nat_cmp (xs ++ replicate m 0) (ys ++ replicate n 0) ≡ slice_cmp nat_cmp xs ys
padded [] [] m n e p q = let same : m ≡ n = omega arith in rw same (tied_itself nat_list_cmp_total (replicate n 0))
padded [] (y ∷ ys) zero n e p q = absurd (omega arith)
padded [] (y ∷ ys) (suc m) n e p q = rw (below 0 y (positive y (first_so (is_name_byte y) (list_all is_name_byte ys) q))) refl
padded (x ∷ xs) [] m zero e p q = absurd (omega arith)
padded (x ∷ xs) [] m (suc n) e p q = rw (above x 0 (positive x (first_so (is_name_byte x) (list_all is_name_byte xs) p))) refl
padded (x ∷ xs) (y ∷ ys) m n e p q =
    ap (ordering_then (nat_cmp x y)) (padded xs ys m n (omega arith) (second_so (is_name_byte x) (list_all is_name_byte xs) p) (second_so (is_name_byte y) (list_all is_name_byte ys) q))

-- what the cells of a name of so many bytes are
abbrev pub NameCells : ℕ → List ℕ → Type 0
NameCells size cells = (length cells ≡ 32) × (size ≤ 32) × NameFits (take size cells) × (drop size cells ≡ replicate (32 - size) 0)

-- names lie as the cells do
pub by_cells : (m n : ℕ) (xs ys : List ℕ) → NameCells m xs → NameCells n ys → slice_cmp nat_cmp xs ys ≡ slice_cmp nat_cmp (take m xs) (take n ys)
by_cells m n xs ys a b =
    let left = bytes_back m xs a.0 a.1 a.3 in
    let right = bytes_back n ys b.0 b.1 b.3 in
    let whole : slice_cmp nat_cmp xs ys ≡ slice_cmp nat_cmp (take m xs ++ replicate (32 - length (take m xs)) 0) (take n ys ++ replicate (32 - length (take n ys)) 0) = cc in
    whole ∙ padded (take m xs) (take n ys) (32 - length (take m xs)) (32 - length (take n ys)) (omega (arith, a.2.1, b.2.1)) a.2.2 b.2.2
