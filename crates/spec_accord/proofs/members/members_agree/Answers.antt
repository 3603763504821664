use Rattle.std.proofs.Common.{sym, ◌∙◌}
use Rattle.spec_accord.proofs.Agreeing.{orders_agree}
use Rattle.spec_accord.proofs.CoinsAgree.{coins_agree}
use Rattle.spec_accord.proofs.OneHeader.{headers_agree}
use Rattle.spec_accord.proofs.members.members_agree.Goals as goal

pub returns : goal.returns
returns c party signed value is coins one other honest also =
    orders_agree (party.node one) (party.node other) (party.settled one) (party.settled other)
    (is.legal one honest) (is.legal other also) (record {
      charter = is.charter one honest ∙ sym (is.charter other also);
      slots = headers_agree party signed is one other honest also;
      coins = coins_agree party signed value is coins one other honest also;
    })
