use Rattle.nomadsim.proofs.play.Goals as goal

pub returns-clause-told : goal.returns-clause-told
returns-clause-told g c = rw (c.as_slice.ensures.value, c.in_ok-words.ensures) at c.nomadsim.ensures.told

pub returns-clause-quiet : goal.returns-clause-quiet
returns-clause-quiet g c = rw (c.as_slice.ensures.value, c.in_ok-words.ensures) at c.nomadsim.ensures.quiet
