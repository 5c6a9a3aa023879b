use Rattle.std.proofs.Common.{arith}
use Rattle.fields_model.proofs.FormatLaws.{ruled_list_lawful, kept_is_ruled}
use Rattle.fields.proofs.laws.ruled_lists_are_lawful.Goals as goal

pub returns : goal.returns
returns g c =
    let f = g.F.Field.format in
    let lf = g.met.F.Field.lawful in
    let is = g.met.F.RuledField.ruled in
    record {
      asked = λ version most rule lt. ruled_list_lawful 1 most rule (f version) _ (omega arith) lt (lf version) (kept_is_ruled rule (f version) (lf version));
      short_list = λ version most lt. ruled_list_lawful 1 most _ (f version) _ (omega arith) lt (lf version) (is version);
      long_list = λ version most lt. ruled_list_lawful 4 most _ (f version) _ (omega arith) lt (lf version) (is version);
    }
