use Rattle.std.proofs.Common.{◌≡◌, ℕ, zero, suc, ◌<◌, ◌^◌, length, arith, refl, subst}
use Rattle.group_inputs.specs.Events.{position_of}
use Rattle.world.proofs.group.history.place.Goals as goal

not_both : (m n : ℕ) → m < n → n < m → ⊥
not_both m n less more = omega (arith, less, more)

-- no list in memory reaches the place of the number 0
numbered : (k n : ℕ) → position_of k < n → n < 2 ^ 64 → k ≡ suc (position_of k)
numbered zero n there few = absurd (not_both (2 ^ 64) n there few)
numbered (suc k) n there few = refl

pub overflow_sub-result : goal.overflow_sub-result
overflow_sub-result c =
    let few : length c.args.sent.now < 2 ^ 64 = subst (λ (n : ℕ). n < 2 ^ 64) c.len.ensures c.len.type_inv in
    let h = numbered c.args.k (length c.args.sent.now) c.requires few in
    omega (arith, h)

pub returns : goal.returns
returns c =
    let few : length c.args.sent.now < 2 ^ 64 = subst (λ (n : ℕ). n < 2 ^ 64) c.len.ensures c.len.type_inv in
    let h = numbered c.args.k (length c.args.sent.now) c.requires few in
    omega (arith, h)
