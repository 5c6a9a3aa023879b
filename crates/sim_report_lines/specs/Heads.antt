-- The first line of what is told of a group.
use Rattle.std.specs.Prelude.{ℕ, List, ◌++◌, decimal, codes}

-- after how many of how many events, and how many messages were sent
abbrev pub head_line : ℕ → ℕ → ℕ → List ℕ
head_line after events messages =
    codes "after " ++ (decimal after ++ (codes " of " ++ (decimal events ++ (codes " events, " ++ (decimal messages ++ codes " messages sent")))))
