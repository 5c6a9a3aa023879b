-- What an event changed of its actor, in words behind a text.
use Rattle.std.specs.Prelude.{ℕ, Bool, true, false, ◌&&◌, nat_eq, nat_lt, if◌then◌else◌, Option, List, [], ◌++◌, decimal, codes}
use Rattle.raft_core.specs.declared.role.Role.{Role}
use Rattle.sim_labels.specs.Words.{role_word}
use Rattle.sim_tell.specs.declared.standing.ClientStanding.{ClientStanding}
use Rattle.sim_tell.specs.declared.standing.ServerStanding.{ServerStanding}
use Rattle.sim_tell.specs.declared.standing.Standing.{Standing}
use Rattle.sim_tell.specs.declared.standing.Standing.TheVariants as standings
use Rattle.sim_tell.specs.Standings.{leads, same_role}
use Rattle.sim_tell.specs.Words.{with_word}

-- ---- a server

-- another thing that it does now
abbrev pub with_doing : Option Role → Option Role → List ℕ → List ℕ
with_doing before after text = if same_role before after then text else with_word text (role_word after)

-- a later term
abbrev pub with_term : ℕ → ℕ → List ℕ → List ℕ
with_term before after text =
    if nat_lt before after then with_word text (codes "t" ++ decimal after) else text

-- that it leads a term, if it did not lead that before; or what else it does now, and a later term
abbrev pub with_role : ServerStanding → ServerStanding → List ℕ → List ℕ
with_role before after text =
    if leads after.role
    then (if leads before.role && nat_eq before.term after.term
    then text
    else with_word text (codes "leads t" ++ decimal after.term))
    else with_term before.term after.term (with_doing before.role after.role text)

-- another length of its log
abbrev pub with_log : ℕ → ℕ → List ℕ → List ℕ
with_log before after text =
    if nat_eq before after then text else with_word text (codes "log @" ++ decimal after)

-- more entries that it has applied
abbrev pub with_commit : ℕ → ℕ → List ℕ → List ℕ
with_commit before after text =
    if nat_lt before after then with_word text (codes "commit " ++ decimal after) else text

abbrev pub with_server : ServerStanding → ServerStanding → List ℕ → List ℕ
with_server before after text =
    with_commit before.applied after.applied
    (with_log before.last after.last (with_role before after text))

-- ---- a client

-- that it started, or went down
abbrev pub with_up : Bool → Bool → List ℕ → List ℕ
with_up false true text = with_word text (codes "up")
with_up true false text = with_word text (codes "down")
with_up before after text = text

-- a later list
abbrev pub with_seen : ℕ → ℕ → List ℕ → List ℕ
with_seen before after text =
    if nat_lt before after then with_word text (codes "seen " ++ decimal after) else text

-- of one that is down no list is told
abbrev pub with_client : ClientStanding → ClientStanding → List ℕ → List ℕ
with_client before after text =
    let started = with_up before.up after.up text in
    if after.up then with_seen before.seen after.seen started else started

-- ---- either

abbrev pub change_words : Standing → Standing → List ℕ
change_words (standings.Server before) (standings.Server after) = with_server before after []
change_words (standings.Client before) (standings.Client after) = with_client before after []
change_words before after = []
