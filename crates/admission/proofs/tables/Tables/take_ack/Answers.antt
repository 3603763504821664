use Rattle.std.proofs.Common.{ap}
use Rattle.wire.specs.declared.message.Message.TheVariants as message
use Rattle.spec_model.specs.Histories.{as_coin}
use Rattle.spec_machine.specs.Machine.{certificate_of}
use Rattle.admission.specs.Votes.{is_peers_header}
use Rattle.admission.specs.HeaderLaws.{is_other}
use Rattle.admission.proofs.Closing.{comes_of}
use Rattle.admission.proofs.tables.Tables.take_ack.Goals as goal

pub returns-clause-answer : goal.returns-clause-answer
returns-clause-answer c = λ node state event meets. c.take_ack.ensures.answer node state event meets.message meets.at.batches

pub returns-clause-refused : goal.returns-clause-refused
returns-clause-refused c = λ node state event meets. c.take_ack.ensures.refused node state event meets.message meets.at.batches

pub returns-clause-at : goal.returns-clause-at
returns-clause-at c = λ new node state event meets there.
    let tables = c.args.self.now in
    let comes = comes_of node state event tables (message.BatchAck c.args.ack.now) meets there in
    let beside = c.others_stay.ensures.beside node state event tables comes meets.at (ap (certificate_of node state) meets.message) (ap as_coin meets.message) in
    record {
      own = meets.at.own;
      batches = c.take_ack.ensures.new new node state event meets.message meets.at.batches;
      votes = beside.votes (ap (is_peers_header node) meets.message);
      headers = beside.headers (ap (is_other node) meets.message);
      sequence = beside.sequence;
    }
