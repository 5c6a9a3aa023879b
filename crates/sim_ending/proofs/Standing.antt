-- The lines of servers, by what is told of them.
use Rattle.std.proofs.Common.{◌≡◌, ℕ, false, Some, None, List, ◌++◌, codes, decimal, refl, length}
use Rattle.raft_core.specs.Steps.{role_of}
use Rattle.raft_core.specs.declared.role.Role.{Role}
use Rattle.raft_core.specs.declared.role.Role.TheVariants as roles
use Rattle.raft_model.specs.Rafts.{Mode, Down, Follower, Candidate, Leader, is_up}
use Rattle.group_model.specs.Servers.{Server}
use Rattle.sim_ending.specs.Endings.{applied_words, mode_word, server_line}
use Rattle.sim_ending.specs.Inner.Tells.{down_line, up_line}

abbrev line_of : ℕ → Mode → ℕ → ℕ → ℕ → List ℕ
line_of k mode term last commit =
    codes "server " ++ (decimal k ++ (codes " " ++ (mode_word mode ++ (codes " term " ++ (decimal term
    ++ (codes " last " ++ (decimal last ++ (applied_words mode commit ++ codes "\n"))))))))

line_down : (k : ℕ) (mode : Mode) (term last commit : ℕ) → is_up mode ≡ false → down_line k term last ≡ line_of k mode term last commit
line_down k Down term last commit is = refl
line_down k Follower term last commit is = absurd (cc)
line_down k (Candidate votes) term last commit is = absurd (cc)
line_down k (Leader next match) term last commit is = absurd (cc)

line_up : (k : ℕ) (mode : Mode) (term last commit : ℕ) (role : Role) → Some role ≡ role_of mode → up_line k role term last commit ≡ line_of k mode term last commit
line_up k Down term last commit role is = absurd (cc)
line_up k Follower term last commit role is = let same : role ≡ roles.Follower = cc in rw same refl
line_up k (Candidate votes) term last commit role is = let same : role ≡ roles.Candidate = cc in rw same refl
line_up k (Leader next match) term last commit role is = let same : role ≡ roles.Leader = cc in rw same refl

no_role_down : (mode : Mode) → None ≡ role_of mode → is_up mode ≡ false
no_role_down Down is = refl
no_role_down Follower is = absurd (cc)
no_role_down (Candidate votes) is = absurd (cc)
no_role_down (Leader next match) is = absurd (cc)

module _ (k : ℕ) (s : Server) (term last : ℕ) (is_term : term ≡ s.raft.term) (is_last : last ≡ length s.raft.log) where
  pub down_is : is_up s.raft.mode ≡ false → down_line k term last ≡ server_line k s
  down_is down = rw (is_term, is_last) (line_down k s.raft.mode s.raft.term (length s.raft.log) s.raft.commit down)

  pub no_role_is : None ≡ role_of s.raft.mode → down_line k term last ≡ server_line k s
  no_role_is is = down_is (no_role_down s.raft.mode is)

  pub up_is : (role : Role) (applied : ℕ) → Some role ≡ role_of s.raft.mode → applied ≡ s.raft.commit → up_line k role term last applied ≡ server_line k s
  up_is role applied is is_applied = rw (is_term, is_last, is_applied) (line_up k s.raft.mode s.raft.term (length s.raft.log) s.raft.commit role is)
