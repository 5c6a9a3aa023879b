use Rattle.fields_model.proofs.FieldLaws.{byte_lawful, u16_lawful, u32_lawful, u64_lawful, bool_lawful, term_lawful, index_lawful}
use Rattle.fields_model.proofs.laws.numbers_are_lawful.Goals as goal

pub returns : goal.returns
returns c = record { byte = byte_lawful; u16 = u16_lawful; u32 = u32_lawful; u64 = u64_lawful; bool = bool_lawful; term = term_lawful; index = index_lawful }
