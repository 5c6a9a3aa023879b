use Rattle.std.proofs.Common.{◌≡◌, ◌∙◌, ◌++◌, [], ap, codes, map, string_bytes}
use Rattle.sim_expand.specs.Plains.{head_form, line_form, list_form, node_form, settings_form}
use Rattle.sim_expand.proofs.Pieces.{three_pieces}
use Rattle.sim_expand.proofs.plain.text_of.Goals as goal

pub returns : goal.returns
returns c =
    let nodes = list_form (map node_form c.args.nodes.now) in
    let lines = list_form (map line_form (map string_bytes c.args.lines.now)) in
    let settings = settings_form c.args.settings in
    let head = head_form c.args.settings.servers in
    let end = codes "]\n}\n" in
    let first : string_bytes c.write.new.self ≡ [] ++ head = c.in_ok-write.ensures.bytes ∙ ap (λ x. x ++ head) c.new-text.ensures.bytes in
    let last = three_pieces settings lines end (string_bytes c.put_nodes.new.text) (string_bytes c.put_settings.new.text) (string_bytes c.put_lines.new.text) (string_bytes c.push_str.new.self)
    c.in_ok-put_settings.ensures c.in_ok-put_lines.ensures c.in_ok-push_str.ensures.bytes in
    three_pieces head nodes (settings ++ (lines ++ end)) [] (string_bytes c.write.new.self) (string_bytes c.put_nodes.new.text) (string_bytes c.push_str.new.self)
    first c.in_ok-put_nodes.ensures last
