use Rattle.std.proofs.Common.{◌≡◌, Bor, List, ℕ, map, string_bytes, take}
use Rattle.nomadsim.proofs.words_of.Given as goal

-- the words so far
abbrev pub invariant-loop-word : goal.invariant-loop-word
invariant-loop-word l = map (λ (w : Bor (List ℕ)). w.now) l.words.items ≡ map string_bytes (take l.word-index l.given)
