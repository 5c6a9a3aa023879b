-- Texts that are written piece by piece.
use Rattle.std.proofs.Common.{◌≡◌, ◌∙◌, ◌++◌, ℕ, List, ap, append_assoc}

pub two_pieces : (a b old mid new : List ℕ) → mid ≡ old ++ a → new ≡ mid ++ b → new ≡ old ++ (a ++ b)
two_pieces a b old mid new first next = next ∙ ap (λ x. x ++ b) first ∙ append_assoc old a b

pub three_pieces : (a b c old one two new : List ℕ) → one ≡ old ++ a → two ≡ one ++ b → new ≡ two ++ c → new ≡ old ++ (a ++ (b ++ c))
three_pieces a b c old one two new first next last = two_pieces a (b ++ c) old one new first (two_pieces b c one two new next last)
