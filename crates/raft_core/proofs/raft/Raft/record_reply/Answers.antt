use Rattle.std.proofs.Common.{◌≡◌, arith, refl, ap, ◌∙◌, length, Some}
use Rattle.raft_core.specs.Inner.Replies.{next_after, match_after}
use Rattle.raft_core.proofs.Replies.{next-length, match-length, put_back, second_stays, keeps, heard_by}
use Rattle.raft_core.proofs.raft.Raft.record_reply.Goals as goal

pub invariant_of-self : goal.invariant_of-self
invariant_of-self g c =
    let i = c.self.inside in
    let a = c.args in
    let last : c.get-last.result ≡ length i.log.entries = c.get-last.ensures.value ∙ c.last.ensures.value in
    let next : c.update_progress.new.next ≡ next_after (length i.log.entries) a.from a.ok a.at i.next.items i.matched.items = rw (c.deref_mut.ensures.value, c.deref_mut-in-Leader.ensures.value, last) at c.update_progress.ensures.next in
    let match : c.update_progress.new.matched ≡ match_after (length i.log.entries) a.from a.ok a.at i.matched.items = rw (c.deref_mut-in-Leader.ensures.value, last) at c.update_progress.ensures.matched in
    let next_whole = put_back i.next.items c.update_progress.new.next i.next.len (omega (arith, ap length next, next-length (length i.log.entries) a.from a.at a.ok i.next.items i.matched.items, i.next.ok.0)) in
    let match_whole = put_back i.matched.items c.update_progress.new.matched i.matched.len (omega (arith, ap length match, match-length (length i.log.entries) a.from a.at a.ok i.matched.items, i.matched.ok.0)) in
    let live = rw c.in-Some-machine.is at c.self.invariant.live in
    let done = c.in-Ok.ensures in
    rw (next_whole, match_whole, next, match) (keeps g.M.Machine.spec i.me i.size i.term i.log.base i.log.entries i.role i.votes.items i.next.items i.matched.items a.from a.at a.ok i.commit c.in-Ok.risen i.machine (Some c.advance.new.machine) i.projected i.projected c.self.invariant live.levels (omega arith) (omega (arith, live.covered, done.rises), done.within, done.state) (second_stays g.M.Machine.spec i.log.base i.log.entries i.role i.machine (Some c.advance.new.machine) i.projected refl c.self.invariant.second))

pub invariant_of-self-in-Err : goal.invariant_of-self-in-Err
invariant_of-self-in-Err g c =
    let i = c.self.inside in
    let a = c.args in
    let last : c.get-last.result ≡ length i.log.entries = c.get-last.ensures.value ∙ c.last.ensures.value in
    let next : c.update_progress.new.next ≡ next_after (length i.log.entries) a.from a.ok a.at i.next.items i.matched.items = rw (c.deref_mut.ensures.value, c.deref_mut-in-Leader.ensures.value, last) at c.update_progress.ensures.next in
    let match : c.update_progress.new.matched ≡ match_after (length i.log.entries) a.from a.ok a.at i.matched.items = rw (c.deref_mut-in-Leader.ensures.value, last) at c.update_progress.ensures.matched in
    let next_whole = put_back i.next.items c.update_progress.new.next i.next.len (omega (arith, ap length next, next-length (length i.log.entries) a.from a.at a.ok i.next.items i.matched.items, i.next.ok.0)) in
    let match_whole = put_back i.matched.items c.update_progress.new.matched i.matched.len (omega (arith, ap length match, match-length (length i.log.entries) a.from a.at a.ok i.matched.items, i.matched.ok.0)) in
    let live = rw c.in-Some-machine.is at c.self.invariant.live in
    rw (c.forget.ensures, c.forget-in-Err.ensures, next_whole, match_whole, next, match) (keeps g.M.Machine.spec i.me i.size i.term i.log.base i.log.entries i.role i.votes.items i.next.items i.matched.items a.from a.at a.ok i.commit i.commit i.machine _ i.projected _ c.self.invariant live.levels (omega arith) tt tt)

pub returns-in-Ok-clause-heard : goal.returns-in-Ok-clause-heard
returns-in-Ok-clause-heard g c =
    let i = c.self.inside in
    let a = c.args in
    let last : c.get-last.result ≡ length i.log.entries = c.get-last.ensures.value ∙ c.last.ensures.value in
    let next : c.update_progress.new.next ≡ next_after (length i.log.entries) a.from a.ok a.at i.next.items i.matched.items = rw (c.deref_mut.ensures.value, c.deref_mut-in-Leader.ensures.value, last) at c.update_progress.ensures.next in
    let match : c.update_progress.new.matched ≡ match_after (length i.log.entries) a.from a.ok a.at i.matched.items = rw (c.deref_mut-in-Leader.ensures.value, last) at c.update_progress.ensures.matched in
    let next_whole = put_back i.next.items c.update_progress.new.next i.next.len (omega (arith, ap length next, next-length (length i.log.entries) a.from a.at a.ok i.next.items i.matched.items, i.next.ok.0)) in
    let match_whole = put_back i.matched.items c.update_progress.new.matched i.matched.len (omega (arith, ap length match, match-length (length i.log.entries) a.from a.at a.ok i.matched.items, i.matched.ok.0)) in
    let old-is = rw c.in-Some-machine.is at c.self.view_is in
    let term = c.in-Some.ensures.some.0 ∙ c.get.ensures.value in
    let risen = rw (c.deref.ensures.value, term) at c.in-Ok.ensures.value in
    heard_by a.self.now i.log.base i.me i.size i.term i.vote i.log.entries i.log.base.index i.commit i.known i.role i.votes.items i.next.items i.matched.items _ _ c.in-Ok.risen a.from a.at a.ok _ old-is c.in-Leader.is (next_whole ∙ next) (match_whole ∙ match) c.self.invariant.matched_each risen
