use Rattle.std.proofs.Common.{codes, string_bytes}
use Rattle.sim_expand.specs.Plains.{disk_form, node_form, size_form}
use Rattle.sim_expand.proofs.Pieces.{three_pieces}
use Rattle.sim_expand.proofs.plain.put_node.Goals as goal

pub returns : goal.returns
unfolding node_form
returns c =
    let node = c.args.node.now in
    three_pieces (size_form node) (disk_form node.size.disk) (codes "}") (string_bytes c.args.text.now) (string_bytes c.write.new.self) (string_bytes c.put_disk.new.text) (string_bytes c.push_str.new.self)
    (rw (c.get-cpu.ensures.value, c.get-mem.ensures.value) at c.in_ok-write.ensures.bytes) (rw c.get.ensures.value at c.in_ok-put_disk.ensures) c.in_ok-push_str.ensures.bytes
