use Rattle.std.proofs.Common.{rules}
use Rattle.fsm_tables.specs.Inner.Keys.{alloc_name_cmp}
use Rattle.fsm_tables.proofs.Bounds.{names_total}
use Rattle.fsm_tables.proofs.Covers.{gains_grow}
use Rattle.fsm_tables.proofs.indexes.Indexes.add_unless.Goals as goal

pub returns-in_err-add_unless-2-clause-names_stay : goal.returns-in_err-add_unless-2-clause-names_stay
returns-in_err-add_unless-2-clause-names_stay c =
    let grown = gains_grow alloc_name_cmp names_total c.args.more.now.name c.args.had.now.name c.args.self.now.names c.add_unless.new.self c.in_ok-add_unless.ensures.ok in
    search (rules, grown)
