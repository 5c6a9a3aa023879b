-- Where the definition finds room, and for what of a group it finds none.
use Rattle.std.proofs.Common.{◌≡◌, ◌∙◌, ◌<◌, ◌+◌, ◌↔◌, ◌&&◌, ℕ, Bool, true, false, not, cond, List, [], ◌∷◌, ◌++◌, map, refl, sym, ap, arith, true≢false}
use Rattle.std.specs.Prelude.{nat_eq, nat_le, nat_lt, bytes_eq}
use Rattle.std.specs.List.{AllZip, count_by, list_all}
use Rattle.std.proofs.lemmas.List.Sums.{sum_by-cons}
use Rattle.rows.specs.declared.job.Group.{Group}
use Rattle.rows.specs.declared.node.Node.{Node}
use Rattle.rows.specs.NodeStatuses.{is_ready}
use Rattle.fsm_tables.specs.Claims.{Claim, used}
use Rattle.group_model.specs.Scheduling.{has_room_for}
use Rattle.sim_metrics.specs.Verdicts.{first_reason, is_verdict, verdict}
use Rattle.sim_metrics.specs.declared.verdict.Verdict.{Verdict}
use Rattle.sim_metrics.specs.declared.verdict.Verdict.TheVariants.{HasRoom}

all_pass : (of_class ready eligible cpu memory disk : Bool)
    → is_verdict HasRoom (first_reason of_class ready eligible cpu memory disk) ≡ (((ready && eligible) && of_class) && ((cpu && memory) && disk))
all_pass true true true true true true = refl
all_pass true true true true true false = refl
all_pass true true true true false disk = refl
all_pass true true true false memory disk = refl
all_pass true true false cpu memory disk = refl
all_pass true false eligible cpu memory disk = refl
all_pass false true true cpu memory disk = refl
all_pass false true false cpu memory disk = refl
all_pass false false eligible cpu memory disk = refl

-- a node has room exactly where the definition finds room on it
pub room_is : (cs : List Claim) (g : Group) (n : Node) → is_verdict HasRoom (verdict cs g n) ≡ has_room_for cs g n
room_is cs g n =
    let load = used n.number cs in
    all_pass (bytes_eq n.class g.class) (is_ready n.status) n.eligible (nat_le (load.cpu + g.size.cpu) n.size.cpu) (nat_le (load.mem + g.size.mem) n.size.mem)
    (nat_le (load.disk + g.size.disk) n.size.disk)

module _ (cs : List Claim) (g : Group) where
  pub rooms_are : (ns : List Node) → map (is_verdict HasRoom) (map (verdict cs g) ns) ≡ map (has_room_for cs g) ns
  rooms_are [] = refl
  rooms_are (n ∷ ns) = (λ i. room_is cs g n i ∷ rooms_are ns i)

module _ (f : Node → Verdict) (q : Node → Bool) (same : (n : Node) → is_verdict HasRoom (f n) ≡ q n) where
  abbrev count : List Node → ℕ
  count ns = count_by (is_verdict HasRoom) (map f ns)

  abbrev none : List Node → Bool
  none ns = list_all (λ n. not (q n)) ns

  next : (n : Node) (ns : List Node) → count (n ∷ ns) ≡ cond (q n) 1 0 + count ns
  next n ns = sum_by-cons (λ v. cond (is_verdict HasRoom v) 1 0) (f n) (map f ns) ∙ ap (λ b. cond b 1 0 + count ns) (same n)

  to : (ns : List Node) → count ns ≡ 0 → none ns ≡ true
  to [] e = refl
  to (n ∷ ns) e = go (q n) (next n ns) (to ns)
    where
      go : (b : Bool) → count (n ∷ ns) ≡ cond b 1 0 + count ns → (count ns ≡ 0 → none ns ≡ true) → (not b && none ns) ≡ true
      go true s rest = absurd (omega (arith, s, e))
      go false s rest = rest (omega (arith, s, e))

  from : (ns : List Node) → none ns ≡ true → count ns ≡ 0
  from [] e = refl
  from (n ∷ ns) e = go (q n) (next n ns) (from ns) e
    where
      go : (b : Bool) → count (n ∷ ns) ≡ cond b 1 0 + count ns → (none ns ≡ true → count ns ≡ 0) → (not b && none ns) ≡ true → count (n ∷ ns) ≡ 0
      go true s rest e = absurd (true≢false (sym e))
      go false s rest e = let zero_of = rest e in omega (arith, s, zero_of)

  pub none_counted : (ns : List Node) → (count ns ≡ 0) ↔ (none ns ≡ true)
  none_counted ns = (to ns, from ns)

-- ---- what is said

said : (a a' b b' : ℕ) (full full' : Bool) → a ≡ a' → b ≡ b' → full ≡ full' → (nat_lt 0 a && (nat_eq b 0 && not full)) ≡ true → (0 < a') × (b' ≡ 0) × (full' ≡ false)
said a a' b b' full full' p q r e = grind arith

unsaid : (a a' b b' : ℕ) (full full' : Bool) → a ≡ a' → b ≡ b' → full ≡ full' → (0 < a') × (b' ≡ 0) × (full' ≡ false) → (nat_lt 0 a && (nat_eq b 0 && not full)) ≡ true
unsaid a a' b b' full full' p q r is = grind arith

pub said_where : (a a' b b' : ℕ) (full full' : Bool) → a ≡ a' → b ≡ b' → full ≡ full' → ((nat_lt 0 a && (nat_eq b 0 && not full)) ≡ true) ↔ ((0 < a') × (b' ≡ 0) × (full' ≡ false))
said_where a a' b b' full full' p q r = (said a a' b b' full full' p q r, unsaid a a' b b' full full' p q r)

-- ---- one group after the other

pub zip_push : {A B : Type 0} (R : A → B → Type 0) (xs : List A) (ys : List B) (x : A) (y : B) → AllZip R xs ys → R x y → AllZip R (xs ++ x ∷ []) (ys ++ y ∷ [])
zip_push R [] [] x y all one = (one, tt)
zip_push R [] (z ∷ ys) x y all one = absurd all
zip_push R (w ∷ xs) [] x y all one = absurd all
zip_push R (w ∷ xs) (z ∷ ys) x y all one = (all.0, zip_push R xs ys x y all.1 one)
