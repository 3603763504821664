use Rattle.std.proofs.Common.{◌≡◌, suc, ap, sym, ◌∙◌}
use Rattle.std.specs.Prelude.{◌==◌}
use Rattle.wire.specs.declared.keys.Author.{Author}
use Rattle.node_run.proofs.Asking.{batch_waits, batch_proposes, ack_waits, header_waits, header_proposes, coin_others, coin_proposes, vote_others, certificate_others}
use Rattle.node_run.proofs.due.due_after.Goals as goal

pub returns-in-Batch : goal.returns-in-Batch
returns-in-Batch c =
    record {
      left = rw c.in-Batch.is record {
        waiting = λ _. batch_waits c.args.own c.in-Batch.batch;
        others = λ low high never. absurd cc;
        proposal = λ other. batch_proposes c.args.own c.in-Batch.batch (ap (λ (author : Author). author.0 == c.args.own.0) (sym c.author.ensures) ∙ sym c.eq.ensures ∙ other);
      };
    }

pub returns-in-BatchAck : goal.returns-in-BatchAck
returns-in-BatchAck c =
    record {
      left = rw c.in-BatchAck.is record {
        waiting = λ _. ack_waits c.args.own c.in-BatchAck.field-0;
        others = λ low high never. absurd cc;
        proposal = λ never. absurd cc;
      };
    }

pub returns-in-Header : goal.returns-in-Header
returns-in-Header c =
    record {
      left = rw c.in-Header.is record {
        waiting = λ _. header_waits c.args.own c.in-Header.header;
        others = λ low high never. absurd cc;
        proposal = λ other. header_proposes c.args.own c.in-Header.header (sym c.eq-in-Header.ensures ∙ other);
      };
    }

pub returns-in-Vote : goal.returns-in-Vote
returns-in-Vote c =
    record {
      left = rw (c.in-Vote.is, c.certificate_due.ensures) record {
        waiting = λ never. absurd cc;
        others = λ low high same.
            let at_low : c.in-Vote.vote.round ≡ low = cc in
            let at_high : suc (suc c.in-Vote.vote.round) ≡ high = cc in
            rw (← at_low, ← at_high) (vote_others c.args.own c.in-Vote.vote);
        proposal = λ never. absurd cc;
      };
    }

pub returns-in-Certificate : goal.returns-in-Certificate
returns-in-Certificate c =
    record {
      left = rw (c.in-Certificate.is, c.certificate_due-in-Certificate.ensures) record {
        waiting = λ never. absurd cc;
        others = λ low high same.
            let at_low : c.in-Certificate.certificate.header.round ≡ low = cc in
            let at_high : suc (suc c.in-Certificate.certificate.header.round) ≡ high = cc in
            rw (← at_low, ← at_high) (certificate_others c.args.own c.in-Certificate.certificate);
        proposal = λ never. absurd cc;
      };
    }

pub returns-in-Coin : goal.returns-in-Coin
returns-in-Coin c =
    record {
      left = rw c.in-Coin.is record {
        waiting = λ never. absurd cc;
        others = λ low high _. coin_others c.args.own c.in-Coin.field-0 low high;
        proposal = λ _. coin_proposes c.sound_stays.ensures c.args.own c.in-Coin.field-0;
      };
    }
