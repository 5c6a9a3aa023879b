use Rattle.std.proofs.Common.{◌≡◌, Err, arith, rules}
use Rattle.journal.proofs.Scanning.{one_further}
use Rattle.journal.specs.Starts.{no_record, no_whole}
use Rattle.journal.proofs.Starting.{read_first, read_more, read_all, fault_there, tail_there}
use Rattle.client_node.specs.Records.{started_replay}
use Rattle.client_node.proofs.reading.from_journal.Goals as goal

pub records-init : goal.records-init
records-init c =
    let bytes = c.args.bytes.now in
    let payload = c.in-Some.payload.now in
    record {
      within = (one_further bytes (λ i. omega (arith, c.type_inv.bytes i)) c.args.start payload c.in-Some.next c.in-Some.ensures c.requires).1;
      so =
          read_first started_replay bytes (λ i. omega (arith, c.type_inv.bytes i)) c.args.start payload c.in-Some.next c.in_ok-all.all.items
          c.in-Some.ensures c.in_ok-all.ensures.whole;
    }

pub records-preserved : goal.records-preserved
records-preserved c =
    let bytes = c.args.bytes.now in
    let read = c.in-Some-next_record in
    record {
      within = (one_further bytes (λ i. omega (arith, c.type_inv.bytes i)) c.records.at read.payload.now read.next read.ensures c.records.invariant.within).1;
      so =
          read_more started_replay bytes (λ i. omega (arith, c.type_inv.bytes i)) c.args.start c.records.at read.payload.now read.next read.ensures
          c.records.all.items c.follow.new.ids.items c.in_ok-follow.ensures.after c.records.invariant.so;
    }

pub returns-then-may_be_torn-clause-kept : goal.returns-then-may_be_torn-clause-kept
returns-then-may_be_torn-clause-kept c =
    let none = c.in_default-next_record.ensures in
    read_all started_replay c.args.bytes.now (λ i. omega (arith, c.type_inv.bytes i)) c.args.start c.records.at none.0 c.records.all.items none.1
    c.if-may_be_torn.ensures c.records.invariant.so

pub returns-in_default-clause-fault : goal.returns-in_default-clause-fault
returns-in_default-clause-fault c = λ place is.
    let here : place ≡ c.args.start = cc is in
    no_record c.in_default.ensures.0 here c.in_default.ensures.1

pub returns-in_err-all-clause-fault : goal.returns-in_err-all-clause-fault
returns-in_err-all-clause-fault c =
    let cause = c.in_err-all.field-0.0 in
    let is : c.from_residual.result ≡ Err cause = search rules in
    rw is (λ place e.
    let why = c.in_err-all.ensures.fault place e in
    no_whole c.in-Some.payload.now c.in-Some.next why.0 c.in-Some.ensures why.1)

pub returns-in_err-follow-clause-fault : goal.returns-in_err-follow-clause-fault
returns-in_err-follow-clause-fault c =
    let cause = c.in_err-follow.field-0.0 in
    let is : c.from_residual-in_err-follow.result ≡ Err cause = search rules in
    let read = c.in-Some-next_record in
    rw is (λ place e.
    let why = c.in_err-follow.ensures.fault place e in
    fault_there started_replay c.args.bytes.now c.args.start c.records.at place c.records.all.items read.payload.now read.next why.0 c.records.invariant.so read.ensures why.1)

pub returns-else-may_be_torn-clause-fault : goal.returns-else-may_be_torn-clause-fault
returns-else-may_be_torn-clause-fault c = λ place is.
    let none = c.in_default-next_record.ensures in
    let here : c.records.at ≡ place = cc is in
    tail_there started_replay c.args.bytes.now c.args.start c.records.at place c.records.all.items none.0 here c.records.invariant.so none.1 c.if-may_be_torn.ensures
