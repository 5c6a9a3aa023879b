use Rattle.std.proofs.Common.{◌++◌, subst, ap, ◌∙◌}
use Rattle.rows.specs.Versions.{newest}
use Rattle.fields_model.specs.Format.{Puts, list}
use Rattle.fields_model.specs.Fields.{index}
use Rattle.fields_model.specs.Rows.{allocation}
use Rattle.fields_model.specs.StateText.{jobs, nodes, evaluations}
use Rattle.fsm_state.proofs.StateTexts.{put_state}
use Rattle.fsm_state.proofs.text.ClusterField.append.Goals as goal

pub returns : goal.returns
returns c =
    let s = c.args.self.now in
    let o0 = c.args.out.now.items in
    let o1 = c.append.new.out.items in
    let o2 = c.append_table.new.out.items in
    let o3 = c.append_table-2.new.out.items in
    let o4 = c.append_table-3.new.out.items in
    let o5 = c.append_table-4.new.out.items in
    put_state s c.append_table-4.result o0 o1 o2 o3 o4 o5 c.fits.ensures
    (c.in_ok-append.ensures.1 ∙ ap (λ n. o0 ++ index.text n) c.applied.ensures)
    (c.in_ok-append_table.ensures.1 ∙ ap (λ rows. o1 ++ (jobs newest).text rows) c.job_table.ensures.rows)
    (c.in_ok-append_table-2.ensures.1 ∙ ap (λ rows. o2 ++ (nodes newest).text rows) c.node_table.ensures.rows)
    (c.in_ok-append_table-3.ensures.1 ∙ ap (λ rows. o3 ++ evaluations.text rows) c.eval_table.ensures.rows)
    (subst (λ rows. Puts (list 4 65536 (allocation newest)) rows c.append_table-4.result o4 o5) c.alloc_table.ensures.rows c.append_table-4.ensures)
