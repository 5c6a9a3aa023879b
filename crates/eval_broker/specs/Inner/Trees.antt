-- Trees of rows.
use Rattle.std.specs.Prelude.{ℕ, zero, suc, ◌+◌, max, ◌≡◌, ◌≤◌, List, [], ◌∷◌, ◌++◌}
use Rattle.eval_broker.specs.declared.tree.Tree.{Tree, Leaf, Fork'}

-- the rows, from the left to the right
abbrev pub tree_rows : {X : Type 0} → Tree X → List X
tree_rows Leaf = []
tree_rows (Fork' p left row height right) = tree_rows left ++ row ∷ tree_rows right

-- how many forks a chain has, of which each hangs at the left of the one before it
abbrev pub chain_length : {X : Type 0} → Tree X → ℕ
chain_length Leaf = 0
chain_length (Fork' p left row height right) = suc (chain_length left)

-- the rows without the topmost one
abbrev pub below_top : {X : Type 0} → Tree X → List X
below_top Leaf = []
below_top (Fork' p left row height right) = tree_rows left ++ tree_rows right

-- how many levels of forks there are
abbrev pub levels : {X : Type 0} → Tree X → ℕ
levels Leaf = 0
levels (Fork' p left row height right) = suc (max (levels left) (levels right))

-- how many the topmost fork has noted
abbrev pub noted : {X : Type 0} → Tree X → ℕ
noted Leaf = 0
noted (Fork' p left row height right) = height

-- two sides of which neither has more than so many levels more than the other
abbrev pub AreWithin : {X : Type 0} → ℕ → Tree X → Tree X → Type 0
AreWithin k left right = (levels left ≤ k + levels right) × (levels right ≤ k + levels left)

-- Balanced by height, as AVL trees are: each fork has its height noted, and of its two sides
-- neither has more than one level more than the other.
abbrev pub IsBalanced : {X : Type 0} → Tree X → Type 0
IsBalanced Leaf = Unit {0}
IsBalanced (Fork' p left row height right) = IsBalanced left × IsBalanced right × (height ≡ suc (max (levels left) (levels right))) × AreWithin 1 left right

-- each side of the topmost fork is balanced, and neither has more than so many levels more
abbrev pub HasSides : {X : Type 0} → ℕ → Tree X → Type 0
HasSides k Leaf = Unit {0}
HasSides k (Fork' p left row height right) = IsBalanced left × IsBalanced right × AreWithin k left right

-- the fewest rows of a balanced tree of so many levels
abbrev pub fewest : ℕ → ℕ
fewest zero = 0
fewest (suc zero) = 1
fewest (suc (suc h)) = suc (fewest (suc h) + fewest h)
