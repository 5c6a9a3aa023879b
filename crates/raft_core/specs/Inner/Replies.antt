-- What a leader learns from an answer to what it sent.
use Rattle.std.specs.Prelude.{ℕ, suc, ◌-◌, max, min, Bool, ◌&&◌, nat_le, if◌then◌else◌, List, slice_set}
use Rattle.raft_model.specs.Quorums.{index_at}
use Rattle.raft_model.specs.Rafts.{Raft, Mode, after_append_ok, after_append_refusal}

-- server j holds its log up to `at`, or refuses and says where to try again
abbrev pub after_append_reply : {C : Type 0} → ℕ → ℕ → Raft C → ℕ → Bool → ℕ → Mode → Raft C
after_append_reply n me s j ok at mode = if ok then after_append_ok n me s j at mode else after_append_refusal n me s j at mode

-- the match indexes after it, where the leader's log ends at `last`
abbrev pub match_after : ℕ → ℕ → Bool → ℕ → List ℕ → List ℕ
match_after last j ok at match = if ok && nat_le at last then slice_set match j (max (index_at match j) at) else match

-- and the next indexes
abbrev pub next_after : ℕ → ℕ → Bool → ℕ → List ℕ → List ℕ → List ℕ
next_after last j ok at next match =
    if ok
    then (if nat_le at last then slice_set next j (suc (max (index_at match j) at)) else next)
    else slice_set next j (max (suc (index_at match j)) (min (index_at next j - 1) (suc at)))
