-- The first of those that pass, by priority, is the first that passes of all in order.
use Rattle.std.proofs.Common.{◌≡◌, ℕ, ◌≤◌, Bool, true, false, cond, nat_lt, List, [], ◌∷◌, map, filter, Option, Some, None, refl, sym, ap, ◌∙◌, arith}
use Rattle.std.specs.Prelude.{find, option_map}
use Rattle.group_model.specs.Order.{Picked, or_head, pick, picked_one, first_by, put_in_order, in_order}

module _ {X : Type 0} (priority : X → ℕ) where
  -- the head goes, unless one of higher priority follows
  abbrev or_first : X → Option X → Option X
  or_first x None = Some x
  or_first x (Some y) = cond (nat_lt (priority x) (priority y)) (Some y) (Some x)

  pub first_of_more : (x : X) (xs : List X) → first_by priority (x ∷ xs) ≡ or_first x (first_by priority xs)
  first_of_more x xs = by (pick priority xs) where
    at : (p : Picked X) (b : Bool) → picked_one priority (Some (cond b (record { one = p.one; others = x ∷ p.others }) (record { one = x; others = xs }))) ≡ cond b (Some p.one) (Some x)
    at p true = refl
    at p false = refl

    by : (o : Option (Picked X)) → picked_one priority (Some (or_head priority x xs o)) ≡ or_first x (picked_one priority o)
    by None = refl
    by (Some p) = at p (nat_lt (priority x) (priority p.one))

  -- the head, if there is one, has at most this priority; and so at each place
  abbrev Under : ℕ → List X → Type 0
  Under n [] = Unit {0}
  Under n (x ∷ xs) = priority x ≤ n

  abbrev Falls : List X → Type 0
  Falls [] = Unit {0}
  Falls (x ∷ xs) = Under (priority x) xs × Falls xs

  put_under : (n : ℕ) (x : X) (xs : List X) → priority x ≤ n → Under n xs → Under n (put_in_order priority x xs)
  put_under n x [] le h = le
  put_under n x (y ∷ ys) le h =
      elim (nat_lt (priority x) (priority y)) as (λ b. Under n (cond b (y ∷ put_in_order priority x ys) (x ∷ y ∷ ys))) [ true ↦ h | false ↦ le ]

  put_falls : (x : X) (xs : List X) → Falls xs → Falls (put_in_order priority x xs)
  put_falls x [] h = (tt, tt)
  put_falls x (y ∷ ys) h =
      elim (nat_lt (priority x) (priority y)) as (λ b. nat_lt (priority x) (priority y) ≡ b → Falls (cond b (y ∷ put_in_order priority x ys) (x ∷ y ∷ ys))) [
        | true ↦ λ e.
            let le : priority x ≤ priority y = grind arith in
            (put_under (priority y) x ys le h.0, put_falls x ys h.1)
        | false ↦ λ e.
            let le : priority y ≤ priority x = grind arith in
            (le, h)
      ] refl

  falls : (xs : List X) → Falls (in_order priority xs)
  falls [] = tt
  falls (x ∷ xs) = put_falls x (in_order priority xs) (falls xs)

  module _ (passes : X → Bool) where
    -- one that goes in front of all stays the first
    stays_first : (x : X) (ys : List X) → Under (priority x) ys → Falls ys → or_first x (find passes ys) ≡ Some x
    stays_first x [] u h = refl
    stays_first x (y ∷ ys) u h = by (λ below. stays_first x ys below h.1) (passes y) where
      here : nat_lt (priority x) (priority y) ≡ false
      here = grind (arith, u)

      lower : (zs : List X) → Under (priority y) zs → Under (priority x) zs
      lower [] g = tt
      lower (z ∷ zs) g = omega (arith, u, g)

      by : (Under (priority x) ys → or_first x (find passes ys) ≡ Some x) → (b : Bool) → or_first x (cond b (Some y) (find passes ys)) ≡ Some x
      by rest true = ap (λ c. cond c (Some y) (Some x)) here
      by rest false = rest (lower ys h.0)

    put_passing : (x : X) (ys : List X) → passes x ≡ true → Falls ys → find passes (put_in_order priority x ys) ≡ or_first x (find passes ys)
    put_passing x [] is h = ap (λ b. cond b (Some x) None) is
    put_passing x (y ∷ ys) is h = by (put_passing x ys is h.1) (nat_lt (priority x) (priority y)) refl where
      head : find passes (put_in_order priority x ys) ≡ or_first x (find passes ys) → (b : Bool) → nat_lt (priority x) (priority y) ≡ true → cond b (Some y) (find passes (put_in_order priority x ys)) ≡ or_first x (cond b (Some y) (find passes ys))
      head rest true lt = sym (ap (λ c. cond c (Some y) (Some x)) lt)
      head rest false lt = rest

      by : find passes (put_in_order priority x ys) ≡ or_first x (find passes ys) → (c : Bool) → nat_lt (priority x) (priority y) ≡ c → find passes (cond c (y ∷ put_in_order priority x ys) (x ∷ y ∷ ys)) ≡ or_first x (find passes (y ∷ ys))
      by rest true lt = head rest (passes y) lt
      by rest false lt =
          let le : priority y ≤ priority x = grind arith in
          ap (λ b. cond b (Some x) (find passes (y ∷ ys))) is ∙ sym (stays_first x (y ∷ ys) le h)

    put_failing : (x : X) (ys : List X) → passes x ≡ false → find passes (put_in_order priority x ys) ≡ find passes ys
    put_failing x [] fails = ap (λ b. cond b (Some x) None) fails
    put_failing x (y ∷ ys) fails = by (put_failing x ys fails) (nat_lt (priority x) (priority y)) where
      by : find passes (put_in_order priority x ys) ≡ find passes ys → (c : Bool) → find passes (cond c (y ∷ put_in_order priority x ys) (x ∷ y ∷ ys)) ≡ find passes (y ∷ ys)
      by rest true = ap (λ o. cond (passes y) (Some y) o) rest
      by rest false = ap (λ b. cond b (Some x) (find passes (y ∷ ys))) fails

    pub first_passing : (xs : List X) → find passes (in_order priority xs) ≡ first_by priority (filter passes xs)
    first_passing [] = refl
    first_passing (x ∷ xs) = by (first_passing xs) (passes x) refl where
      by : find passes (in_order priority xs) ≡ first_by priority (filter passes xs) → (b : Bool) → passes x ≡ b → find passes (put_in_order priority x (in_order priority xs)) ≡ first_by priority (cond b (x ∷ filter passes xs) (filter passes xs))
      by rest true is =
          put_passing x (in_order priority xs) is (falls xs)
          ∙ ap (or_first x) rest ∙ sym (first_of_more x (filter passes xs))
      by rest false fails = put_failing x (in_order priority xs) fails ∙ rest

-- what is found of what is made of rows is made of the row that is found
pub find_mapped : {X Y : Type 0} (passes : Y → Bool) (f : X → Y) (xs : List X) → find passes (map f xs) ≡ option_map f (find (λ x. passes (f x)) xs)
find_mapped passes f [] = refl
find_mapped passes f (x ∷ xs) = by (find_mapped passes f xs) (passes (f x)) where
  by : find passes (map f xs) ≡ option_map f (find (λ x. passes (f x)) xs) → (b : Bool) → cond b (Some (f x)) (find passes (map f xs)) ≡ option_map f (cond b (Some x) (find (λ z. passes (f z)) xs))
  by rest true = refl
  by rest false = rest

-- and so is the first
pub first_mapped : {X Y : Type 0} (priority : Y → ℕ) (f : X → Y) (xs : List X) → first_by priority (map f xs) ≡ option_map f (first_by (λ x. priority (f x)) xs)
first_mapped priority f [] = refl
first_mapped priority f (x ∷ xs) =
    first_of_more priority (f x) (map f xs) ∙ ap (or_first priority (f x)) (first_mapped priority f xs)
    ∙ by (first_by (λ z. priority (f z)) xs) ∙ ap (option_map f) (sym (first_of_more (λ z. priority (f z)) x xs)) where
      at : (y : _) (b : Bool) → cond b (Some (f y)) (Some (f x)) ≡ option_map f (cond b (Some y) (Some x))
      at y true = refl
      at y false = refl

      by : (o : Option _) → or_first priority (f x) (option_map f o) ≡ option_map f (or_first (λ z. priority (f z)) x o)
      by None = refl
      by (Some y) = at y (nat_lt (priority (f x)) (priority (f y)))

-- of what is made of what was made
pub twice_mapped : {X Y Z : Type 0} (g : Y → Z) (f : X → Y) (o : Option X) → option_map g (option_map f o) ≡ option_map (λ x. g (f x)) o
twice_mapped g f None = refl
twice_mapped g f (Some x) = refl
