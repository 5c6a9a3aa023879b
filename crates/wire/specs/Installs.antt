-- What a leader brings a server on with whose next entries are no more in its log. It stands alone,
-- since the bodies cite it, and the formats cite these.
use Rattle.wire.specs.declared.install.InstallHead.{InstallHead}

-- a leader sends the state that the entries up to an index lead to, of the states S
pub record Install (S : Type 0) : Type 0 where
  pub head : InstallHead
  pub state : S
