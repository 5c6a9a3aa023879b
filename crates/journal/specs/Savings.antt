-- What is stored of a batch, and what is sent and reported of it.
use Rattle.std.specs.Prelude.{◌≡◌, ⊤, ℕ, Some, List, [], ◌∷◌}
use Rattle.journal.specs.Events.{IoEvent, RecordAppended, JournalReplaced, BytesSent, LineReported}
use Rattle.journal.specs.Replays.{Replay}
use Rattle.journal.specs.declared.storing.Saving.{Saving}
use Rattle.journal.specs.declared.storing.Saving.TheVariants as savings
use Rattle.journal.specs.declared.storing.Stored.{Stored}
use Rattle.journal.specs.declared.storing.Stored.TheVariants as stores
use Rattle.journal.specs.declared.storing.Out.{Out}
use Rattle.journal.specs.declared.storing.Out.TheVariants as outs

abbrev pub storing : Stored → List IoEvent
storing stores.Nothing = []
storing (stores.Change payload) = RecordAppended payload.items ∷ []
storing (stores.Whole payload) = JournalReplaced payload.items ∷ []

abbrev pub output_event : Out → IoEvent
output_event (outs.Item item) = BytesSent item.items
output_event (outs.Line line) = LineReported line.items

-- how what led from the first of these parts to the other is saved, with this payload
abbrev pub IsSaving : {P : Type 0} → Replay P → P → P → Saving → List ℕ → Type 0
IsSaving k first now savings.Nothing payload = first ≡ now
IsSaving k first now savings.Change payload = k.after first payload ≡ Some now
IsSaving k first now savings.Whole payload = ⊤
