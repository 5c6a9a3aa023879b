use Rattle.std.proofs.Common.{◌∙◌, ap, map}
use Rattle.std.proofs.lemmas.List.{map-append}
use Rattle.journal.specs.Savings.{output_event}
use Rattle.server_node.proofs.node.put_all.Goals as goal

pub returns : goal.returns
returns c = ap (map output_event) c.in_ok-append.ensures.items ∙ map-append output_event c.args.outs.now.items c.args.answers.items
