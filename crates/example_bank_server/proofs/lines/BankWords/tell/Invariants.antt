use Rattle.std.proofs.Common.{◌≡◌, ◌++◌, take}
use Rattle.std.specs.Prelude.{codes}
use Rattle.std.specs.List.{flat_map}
use Rattle.example_bank_server.specs.Lines.{balance_text}
use Rattle.example_bank_server.proofs.lines.BankWords.tell.Given as goal

-- the balances so far
abbrev pub invariant-loop-number : goal.invariant-loop-number
invariant-loop-number l = l.line.items ≡ l.fn.line.items ++ (codes " balances" ++ flat_map balance_text (take l.number l.self.balances))
