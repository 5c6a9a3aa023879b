-- What is told of a way back, of a run's first events.
use Rattle.std.proofs.Common.{◌≡◌, ◌∙◌, ℕ, List, None, Some, ap, length, map, string_bytes, subst, sym, take}
use Rattle.std.proofs.lemmas.List.{length-map, take-map}
use Rattle.group_inputs.specs.declared.event.Event.{Event as GroupEvent}
use Rattle.group_inputs.specs.Events.{group_event, group_events}
use Rattle.event_texts.specs.declared.transcript.Transcript.{Transcript}
use Rattle.event_texts.specs.Transcripts.{recorded}
use Rattle.sim_recovery.specs.declared.recovering.Recovery.{Recovery}
use Rattle.sim_recovery.specs.declared.table.Table.{Table}
use Rattle.sim_recovery.specs.Recoveries.{IsRecovery, IsTable}
use Rattle.sim_recovery.specs.Tables.{recovery_text, table_text}
use Rattle.runner.specs.Told.{IsStride, IsWayText}

-- the first events of a transcript, as those of what it records
firsts : (events part : List GroupEvent) (after : ℕ) → part ≡ take after events → group_events part ≡ take after (group_events events)
firsts events part after is = ap group_events is ∙ sym (take-map group_event after events)

pub way_is_told : (t : Transcript) (part : List GroupEvent) (after all : ℕ) (way : Recovery) (text : List ℕ) → part ≡ take after t.events.items → all ≡ length t.events.items
    → IsRecovery t.servers t.nodes.items (group_events part) way → text ≡ recovery_text after all way.leader way.counts (map string_bytes way.lines.items)
    → IsWayText None (recorded t) after text
way_is_told t part after all way text is count told says = (
  way,
  subst (λ es. IsRecovery t.servers t.nodes.items es way) (firsts t.events.items part after is) told,
  says ∙ ap (λ n. recovery_text after n way.leader way.counts (map string_bytes way.lines.items)) (count ∙ sym (length-map t.events.items group_event)),
)

pub table_is_told : (t : Transcript) (part : List GroupEvent) (after every : ℕ) (word : List ℕ) (table : Table) (text : List ℕ) → part ≡ take after t.events.items → IsStride word every
    → IsTable t.servers t.nodes.items (group_events part) every table → text ≡ table_text table.rows.items table.farthest.after
    → IsWayText (Some word) (recorded t) after text
table_is_told t part after every word table text is stride told says =
    (every, table, stride, subst (λ es. IsTable t.servers t.nodes.items es every table) (firsts t.events.items part after is) told, says)
