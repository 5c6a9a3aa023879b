use Rattle.std.proofs.Common.{◌≡◌, ◌<◌, ℕ, get_or, map}
use Rattle.lossy_net.proofs.net.mailbox_of.Given as goal

-- no mailbox passed so far is the actor's
abbrev pub invariant-loop-mailbox : goal.invariant-loop-mailbox
invariant-loop-mailbox g l =
    (k : ℕ) → k < l.mailbox-index → get_or (map (λ m. m.actor) l.mailboxes) k l.actor ≡ l.actor → ⊥
