-- The laws of names, sizes, ids and tokens.
use Rattle.std.proofs.Common.{ℕ, refl, arith}
use Rattle.rows.specs.Names.{is_name_byte}
use Rattle.fields_model.specs.Format.{Lawful}
use Rattle.fields_model.proofs.FormatLaws.{number_lawful, string_lawful, made_lawful, then_lawful, since_lawful}
use Rattle.fields_model.proofs.FieldLaws.{index_lawful}
use Rattle.fields_model.specs.Ids.{name, quantity, space, size, node_id, ordinal, priority, group_count, from_one, evaluation_id, allocation_id, token, delivery}

pub name_lawful : Lawful name
name_lawful = string_lawful 1 1 32 is_name_byte (omega arith) (omega arith)

pub quantity_lawful : Lawful quantity
quantity_lawful = number_lawful 4 1 1000001 (omega arith) (omega arith)

pub space_lawful : Lawful space
space_lawful = number_lawful 4 0 1000001 (omega arith) (omega arith)

pub size_lawful : (version : ℕ) → Lawful (size version)
size_lawful version = made_lawful _ _ _ (λ _. refl) (λ _ _. refl) (then_lawful _ _ quantity_lawful (then_lawful _ _ quantity_lawful (since_lawful 2 0 space version space_lawful)))

pub node_id_lawful : Lawful node_id
node_id_lawful = number_lawful 1 1 65 (omega arith) (omega arith)

pub ordinal_lawful : Lawful ordinal
ordinal_lawful = number_lawful 1 0 64 (omega arith) (omega arith)

pub priority_lawful : Lawful priority
priority_lawful = number_lawful 1 1 101 (omega arith) (omega arith)

pub group_count_lawful : Lawful group_count
group_count_lawful = number_lawful 1 0 65 (omega arith) (omega arith)

pub from_one_lawful : Lawful from_one
from_one_lawful = number_lawful 8 1 _ (omega arith) (omega arith)

pub evaluation_id_lawful : Lawful evaluation_id
evaluation_id_lawful = made_lawful _ _ _ (λ _. refl) (λ _ _. refl) (then_lawful _ _ from_one_lawful (number_lawful 2 0 256 (omega arith) (omega arith)))

pub allocation_id_lawful : Lawful allocation_id
allocation_id_lawful = made_lawful _ _ _ (λ _. refl) (λ _ _. refl) (then_lawful _ _ from_one_lawful ordinal_lawful)

pub token_lawful : Lawful token
token_lawful = made_lawful _ _ _ (λ _. refl) (λ _ _. refl) (then_lawful _ _ from_one_lawful from_one_lawful)

pub delivery_lawful : Lawful delivery
delivery_lawful = made_lawful _ _ _ (λ _. refl) (λ _ _. refl) (then_lawful _ _ evaluation_id_lawful (then_lawful _ _ token_lawful index_lawful))
