use Rattle.std.proofs.Common.{arith, ◌∙◌, ap, sym}
use Rattle.std.proofs.lemmas.Result.{err_from_is_err_and}
use Rattle.raft_snapshot.specs.Texts.{Front, agrees}
use Rattle.raft_snapshot.proofs.TextLaws.{ReadsFront, within, agreeing_read, disagreeing_read, snapshot_read, refused_state}
use Rattle.raft_snapshot.proofs.reading.read_text.Goals as goal

pub rest_of-text-requires : goal.rest_of-text-requires
rest_of-text-requires g c =
    let m = g.M.Machine.spec in
    let law = g.met.M.Machine.lawful in
    let is : ReadsFront m c.args.bytes.now c.in_ok-front.front c.in_ok-front.at = record { version = _; version_read = c.in_ok-version.ensures; front_read = c.in_ok-front.ensures; fits = λ i. omega (arith, c.type_inv.bytes i) } in
    within m law c.args.bytes.now c.in_ok-front.front c.in_ok-front.at is

pub returns-in_err-state : goal.returns-in_err-state
returns-in_err-state g c =
    let m = g.M.Machine.spec in
    let law = g.met.M.Machine.lawful in
    let is : ReadsFront m c.args.bytes.now c.in_ok-front.front c.in_ok-front.at = record { version = _; version_read = c.in_ok-version.ensures; front_read = c.in_ok-front.ensures; fits = λ i. omega (arith, c.type_inv.bytes i) } in
    let p = err_from_is_err_and c.from_residual-in_err-state.result c.from_residual-in_err-state.ensures.1 in
    rw (p.1, p.2) (refused_state m law c.args.bytes.now c.in_ok-front.front c.in_ok-front.at is c.in_err-state.field-0.0 (rw c.rest_of-text.ensures.value at c.in_err-state.ensures))

pub returns-then-not-branch : goal.returns-then-not-branch
returns-then-not-branch g c =
    let m = g.M.Machine.spec in
    let law = g.met.M.Machine.lawful in
    let is : ReadsFront m c.args.bytes.now c.in_ok-front.front c.in_ok-front.at = record { version = _; version_read = c.in_ok-version.ensures; front_read = c.in_ok-front.ensures; fits = λ i. omega (arith, c.type_inv.bytes i) } in
    let read = rw c.rest_of-text.ensures.value at c.in_ok-state.ensures in
    let agrees_so = ap (λ (f : Front _). agrees m f.index c.in_ok-state.state) (sym c.front.view_is) ∙ sym c.in_ok-agrees.ensures in
    disagreeing_read m law c.args.bytes.now c.in_ok-front.front c.in_ok-front.at is c.in_ok-state.state read (agrees_so ∙ c.if-not-branch.true)

pub stable_of-requires : goal.stable_of-requires
stable_of-requires g c =
    let m = g.M.Machine.spec in
    let law = g.met.M.Machine.lawful in
    let is : ReadsFront m c.args.bytes.now c.in_ok-front.front c.in_ok-front.at = record { version = _; version_read = c.in_ok-version.ensures; front_read = c.in_ok-front.ensures; fits = λ i. omega (arith, c.type_inv.bytes i) } in
    let read = rw c.rest_of-text.ensures.value at c.in_ok-state.ensures in
    let agrees_so = ap (λ (f : Front _). agrees m f.index c.in_ok-state.state) (sym c.front.view_is) ∙ sym c.in_ok-agrees.ensures in
    snapshot_read m law c.args.bytes.now c.in_ok-front.front c.in_ok-front.at is c.in_ok-state.state read (agrees_so ∙ c.if-not-branch.false)

pub returns : goal.returns
returns g c =
    let m = g.M.Machine.spec in
    let law = g.met.M.Machine.lawful in
    let is : ReadsFront m c.args.bytes.now c.in_ok-front.front c.in_ok-front.at = record { version = _; version_read = c.in_ok-version.ensures; front_read = c.in_ok-front.ensures; fits = λ i. omega (arith, c.type_inv.bytes i) } in
    let read = rw c.rest_of-text.ensures.value at c.in_ok-state.ensures in
    let agrees_so = ap (λ (f : Front _). agrees m f.index c.in_ok-state.state) (sym c.front.view_is) ∙ sym c.in_ok-agrees.ensures in
    rw c.stable_of.ensures (agreeing_read m law c.args.bytes.now c.in_ok-front.front c.in_ok-front.at is c.in_ok-state.state read (agrees_so ∙ c.if-not-branch.false))
