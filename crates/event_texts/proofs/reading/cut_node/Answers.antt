use Rattle.std.proofs.Common.{◌≡◌, rules}
use Rattle.event_texts.specs.Transcripts.{node_line}
use Rattle.event_texts.proofs.Printable.{node_printable}
use Rattle.event_texts.proofs.reading.cut_node.Goals as goal

pub returns-in_err-line-clause-read : goal.returns-in_err-line-clause-read
returns-in_err-line-clause-read c node behind fits number is = absurd (c.in_err-line.ensures.first (node_line node) behind (node_printable node fits) is)

pub returns-in_err-node-clause-read : goal.returns-in_err-node-clause-read
returns-in_err-node-clause-read c node behind fits number is =
    let first = c.in_ok-line.ensures.first (node_line node) behind (node_printable node fits) is in
    let read = c.read_node_line.ensures.read node fits first.0 in
    absurd (search rules)

pub returns-then-from-others-clause-read : goal.returns-then-from-others-clause-read
returns-then-from-others-clause-read c node behind fits number is =
    let first = c.in_ok-line.ensures.first (node_line node) behind (node_printable node fits) is in
    let read = c.read_node_line.ensures.read node fits first.0 in
    let same : c.in_ok-node.node ≡ node = search rules in
    absurd (search rules)

pub returns-clause-read : goal.returns-clause-read
returns-clause-read c node behind fits number is =
    let first = c.in_ok-line.ensures.first (node_line node) behind (node_printable node fits) is in
    let read = c.read_node_line.ensures.read node fits first.0 in
    let same : c.in_ok-node.node ≡ node = search rules in
    (same, first.1)
