-- What is on its way in an envelope, and for whom.
use Rattle.std.proofs.Common.{◌≡◌, ◌⊎◌, ℕ, inl, inr, Option, Some, None, refl, sym, ap, subst, ◌∙◌}
use Rattle.std.specs.Prelude.{◌≢◌, IfSome, IsNone}
use Rattle.spec_model.specs.Words.{Author, Event, Message, Output}
use Rattle.wire.specs.Outputs.{receiver_of}
use Rattle.wire.specs.declared.output_bytes.TheConstants.{TO_ALL}
use Rattle.cluster.specs.Outputs.{message_of}
use Rattle.cluster.specs.Threads.{IsSent, IsHeard}

named_as : (receiver : Option Author) (number : ℕ) → IfSome receiver (λ to. to.0 ≡ number) → (to : Author) → receiver ≡ Some to → number ≡ to.0
named_as (Some one) number is to same = let own : one ≡ to = cc in sym is ∙ (λ i. (own i).0)
named_as None number is to same = absurd cc

where_none : {X : Type 0} (receiver : Option Author) → (IsNone receiver → X) → receiver ≡ None → X
where_none (Some one) holds is = absurd cc
where_none None holds is = holds refl

pub sent : (sender : Author) (output : Output) (message : Message) (receiver : Option Author) → message_of output ≡ Some message → IfSome receiver (λ to. to.0 ≡ receiver_of output)
    → (IsNone receiver → (receiver_of output ≡ TO_ALL) ⊎ (message_of output ≡ None)) → IsSent receiver (record { sender = sender; message = message })
sent sender output message receiver is named unnamed = record {
  output = output;
  message = is;
  named = named_as receiver (receiver_of output) named;
  unnamed = λ none. elim (where_none receiver unnamed none) [ inl all ↦ all | inr lacks ↦ absurd (let bad : ◌≡◌ {A = Option Message} None (Some message) = sym lacks ∙ is in cc) ];
}

-- it is heard as what its parts are
pub heard_as : (own : Author) (event : Event) (sender : Author) (message : Message) → sender ≡ event.sender → message ≡ event.message
    → IsHeard own event → IsHeard own (record { sender = sender; message = message })
heard_as own event sender message by is heard = record {
  output = heard.output;
  message = heard.message ∙ ap (λ m. Some m) (sym is);
  for_it = heard.for_it;
  other = subst (λ (a : Author). a.0 ≢ own.0) (sym by) heard.other;
}
