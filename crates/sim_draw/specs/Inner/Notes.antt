-- What an event changed in its actor.
use Rattle.std.specs.Prelude.{ℕ, Bool, true, false, not, ◌&&◌, ◌||◌, nat_eq, nat_lt, if◌then◌else◌, List, [], ◌++◌, decimal, codes}
use Rattle.sim_draw.specs.declared.record.Face.{Face}

abbrev pub differ : Bool → Bool → Bool
differ true b = not b
differ false b = b

-- a server leads a term from the event on
abbrev pub leads_anew : Face → Face → Bool
leads_anew before after = after.leads && (not before.leads || not (nat_eq before.term after.term))

-- its lifeline looks otherwise from the event on
abbrev pub looks_otherwise : Face → Face → Bool
looks_otherwise before after = differ before.up after.up || (differ before.leads after.leads || leads_anew before after)

-- it applied entries
abbrev pub applies_more : Face → Face → Bool
applies_more before after = nat_lt before.applied after.applied

-- that it leads a term, else up to which entry it applied them, else its later term, else nothing
abbrev pub note_words : Face → Face → List ℕ
note_words before after =
    if leads_anew before after then codes "leads t" ++ decimal after.term else
    (if applies_more before after then codes "commit " ++ decimal after.applied else
    (if nat_lt before.term after.term then codes "t" ++ decimal after.term else []))
