-- A leader that leads on keeps its machine after its whole log.
use Rattle.std.proofs.Common.{◌≡◌, true, refl, sym, subst}
use Rattle.raft_model.specs.Rafts.{Raft, is_leader}
use Rattle.raft_core.specs.RaftView.{RaftView, KeepsProjected}
use Rattle.raft_core.specs.Inner.Views.{with_server}

pub kept_by_view : {S C : Type 0} (old new : RaftView S C) (s : Raft C) → new ≡ with_server old s → KeepsProjected old new
kept_by_view old new s is held = subst (λ (v : RaftView _ _). is_leader v.server.mode ≡ true → v.projected ≡ true) (sym is) (λ leads. rw (held, leads) refl)
