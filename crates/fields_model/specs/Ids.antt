-- Names, sizes, ids and tokens.
use Rattle.std.specs.Prelude.{ℕ, ◌^◌, List}
use Rattle.rows.specs.Names.{is_name_byte}
use Rattle.rows.specs.declared.size.Size.{Size}
use Rattle.rows.specs.declared.evaluation.EvalId.{EvalId}
use Rattle.rows.specs.declared.allocation.AllocId.{AllocId}
use Rattle.rows.specs.declared.token.Token.{Token}
use Rattle.rows.specs.declared.token.Delivery.{Delivery}
use Rattle.fields_model.specs.Format.{Format, number, string, made, since, ◌then◌}
use Rattle.fields_model.specs.Fields.{index}

-- a length of one byte, from 1 to 32, and that many small letters, digits and dashes; one field
abbrev pub name : Format (List ℕ)
name = string 1 1 32 is_name_byte

-- four bytes, from 1 to 1,000,000
abbrev pub quantity : Format ℕ
quantity = number 4 1 1000001

-- four bytes, at most 1,000,000
abbrev pub space : Format ℕ
space = number 4 0 1000001

-- processor time, memory and, from version 2 on, disk, of which a size had none before
abbrev pub size : ℕ → Format Size
size version = made (λ p. record { cpu = p.0; mem = p.1.0; disk = p.1.1 }) (λ z. (z.cpu, (z.mem, z.disk))) (quantity then quantity then since 2 0 space version)

-- one byte: a node from 1 to 64, one of at most 64 from 0 on, a priority from 1 to 100, a count of
-- at most 64
abbrev pub node_id : Format ℕ
node_id = number 1 1 65

abbrev pub ordinal : Format ℕ
ordinal = number 1 0 64

abbrev pub priority : Format ℕ
priority = number 1 1 101

abbrev pub group_count : Format ℕ
group_count = number 1 0 65

-- eight bytes, from 1 on: an entry's index, a leader's term, a serial
abbrev pub from_one : Format ℕ
from_one = number 8 1 (2 ^ 40)

abbrev pub evaluation_id : Format EvalId
evaluation_id = made (λ p. record { index = p.0; slot = p.1 }) (λ e. (e.index, e.slot)) (from_one then number 2 0 256)

abbrev pub allocation_id : Format AllocId
allocation_id = made (λ p. record { index = p.0; slot = p.1 }) (λ a. (a.index, a.slot)) (from_one then ordinal)

abbrev pub token : Format Token
token = made (λ p. record { term = p.0; serial = p.1 }) (λ t. (t.term, t.serial)) (from_one then from_one)

-- what a worker is given: the evaluation, the token, and the index to wait for
abbrev pub delivery : Format Delivery
delivery = made (λ p. record { eval = p.0; token = p.1.0; wait = p.1.1 }) (λ d. (d.eval, (d.token, d.wait))) (evaluation_id then token then index)
