use Rattle.std.proofs.Common.{arith}
use Rattle.fields_model.proofs.FormatLaws.{number_lawful, string_lawful, then_lawful, depends_lawful, made_lawful, coded_lawful, absent_lawful, since_lawful, kept_lawful, known_lawful, choice_lawful, variant_choice, no_choice}
use Rattle.fields_model.proofs.PlacedLaws.{one_field_lawful, placed_lawful}
use Rattle.fields.proofs.laws.combinations_are_lawful.Goals as goal

pub returns : goal.returns
returns g c =
    let f = g.F.Field.format in
    let lf = g.met.F.Field.lawful in
    let h = g.G.Field.format in
    let lh = g.met.G.Field.lawful in
    record {
      number = number_lawful;
      string = string_lawful;
      in_a_row = λ version. then_lawful (f version) (h version) (lf version) (lh version);
      dependent = λ version n low limit some wide. depends_lawful (f version) n _ (lf version) (λ a fits. number_lawful n (low a) (limit a) some (wide a fits)) (λ a fits. omega arith);
      made = λ version make parts there back. made_lawful make parts (f version) there back (lf version);
      coded = λ version value code own. coded_lawful value code (f version) own (lf version);
      kept = λ version test. kept_lawful test (f version) (lf version);
      absent = absent_lawful;
      since = λ version first old. since_lawful first old (f version) version (lf version);
      known = λ version first. known_lawful first (f version) version (lf version);
      tagged = λ version tag_of make_first first make_other other is_first is_other tag_first tag_other.
          choice_lawful tag_of _ _ (number_lawful 1 0 2 (omega arith) (omega arith))
          (variant_choice tag_of 0 _ _ _ _ is_first tag_first (lf version) (variant_choice tag_of 1 _ _ _ _ is_other tag_other (lh version) (no_choice tag_of)));
      one_field = λ version. one_field_lawful (f version) (lf version);
      placed = λ version. placed_lawful (f version) (lf version);
    }
