-- Each verdict is counted once.
use Rattle.std.proofs.Common.{◌≡◌, ℕ, ◌+◌, List, [], ◌∷◌, cond, length, refl, arith}
use Rattle.std.specs.List.{count_by}
use Rattle.std.proofs.lemmas.List.Sums.{sum_by-cons}
use Rattle.sim_metrics.specs.Verdicts.{is_verdict}
use Rattle.sim_metrics.specs.declared.verdict.Verdict.{Verdict}
use Rattle.sim_metrics.specs.declared.verdict.Verdict.TheVariants.{OtherClass, NotReady, NotEligible, LacksCpu, LacksMemory, LacksDisk, HasRoom}

abbrev one : Verdict → Verdict → ℕ
one kind v = cond (is_verdict kind v) 1 0

one_more : (kind v : Verdict) (vs : List Verdict) → count_by (is_verdict kind) (v ∷ vs) ≡ one kind v + count_by (is_verdict kind) vs
one_more kind v vs = sum_by-cons (one kind) v vs

each_once : (v : Verdict) → one OtherClass v + one NotReady v + one NotEligible v + one LacksCpu v + one LacksMemory v + one LacksDisk v + one HasRoom v ≡ 1
each_once OtherClass = refl
each_once NotReady = refl
each_once NotEligible = refl
each_once LacksCpu = refl
each_once LacksMemory = refl
each_once LacksDisk = refl
each_once HasRoom = refl

pub counted_once : (vs : List Verdict)
    → count_by (is_verdict OtherClass) vs + count_by (is_verdict NotReady) vs + count_by (is_verdict NotEligible) vs + count_by (is_verdict LacksCpu) vs + count_by (is_verdict LacksMemory) vs + count_by (is_verdict LacksDisk) vs + count_by (is_verdict HasRoom) vs
    ≡ length vs
counted_once [] = refl
counted_once (v ∷ vs) = omega (
  arith,
  one_more OtherClass v vs,
  one_more NotReady v vs,
  one_more NotEligible v vs,
  one_more LacksCpu v vs,
  one_more LacksMemory v vs,
  one_more LacksDisk v vs,
  one_more HasRoom v vs,
  each_once v,
  counted_once vs,
)
