use Rattle.std.proofs.Common.{◌++◌, codes, string_bytes}
use Rattle.sim_scenario.specs.Objects.{order_text}
use Rattle.sim_expand.specs.Plains.{numbers_form}
use Rattle.sim_expand.proofs.Pieces.{two_pieces}
use Rattle.sim_expand.proofs.plain.put_settings.Goals as goal

pub returns : goal.returns
returns c =
    let settings = c.args.settings in
    let order = codes "  \"order\": \"" ++ (order_text settings.order ++ codes "\",\n  \"steps\": [") in
    two_pieces (numbers_form settings) order (string_bytes c.args.text.now) (string_bytes c.write.new.self) (string_bytes c.write-2.new.self)
    c.in_ok-write.ensures.bytes (rw c.order_word-order.ensures at c.in_ok-write-2.ensures.bytes)
