-- What the tables give is what the machine proposes, where they are at a state.
use Rattle.std.proofs.Common.{◌≡◌, ℕ, ◌-◌, ◌^◌, Bool, true, false, cond, map, take, length, Option, Some, None, refl, ap, sym, ◌∙◌}
use Rattle.std.specs.Prelude.{◌||◌, nat_lt, is_some, option_map}
use Rattle.committee.specs.Charter.{Charter, numbers}
use Rattle.header.specs.Making.{body_of, signed_by}
use Rattle.spec_model.specs.Nodes.{Node, size_of}
use Rattle.spec_model.specs.Proposing as proposing
use Rattle.spec_model.specs.Proposing.{as_parent, proposal_of, propose_of, signed}
use Rattle.spec_model.specs.Slots.{Slots, round_of}
use Rattle.spec_model.specs.States.{State}
use Rattle.spec_model.specs.Words.{Author, Digest, Header, Signature}
use Rattle.spec_machine.specs.Machine.{proposed, round_in}
use Rattle.batchstore.specs.Stock.{BatchStoreView, nameable}
use Rattle.dag.specs.Graph.{DagView, size_in, slots_in}
use Rattle.sequencer.specs.Sequence.{SequencerView}
use Rattle.admission.specs.Headers.{AssembliesView, header_in}
use Rattle.validator.specs.Proposing.{AreAt, free_round, header_in_round, parents_in}
use Rattle.validator.proofs.Fitting.{mapped_filter}

-- what is made of a thing that is there unless a test holds
made_unless : {X Y : Type 0} (make : X → Y) (test : Bool) (x : X) → option_map make (cond test None (Some x)) ≡ cond test None (Some (make x))
made_unless make true x = refl
made_unless make false x = refl

parents_agree : (node : Node) (state : State) (own : Author) (sign : Digest → Signature) (stock : BatchStoreView) (headers : AssembliesView) (sequence : SequencerView)
    → AreAt node state own sign stock headers sequence → (round : ℕ) → parents_in sequence.graph round ≡ map as_parent (round_of (size_of node) state.slots round)
parents_agree node state own sign stock headers sequence at round =
    sym (mapped_filter as_parent (slots_in sequence.graph round) (numbers (size_in sequence.graph)))
    ∙ ap (λ (slots : Slots). map as_parent (round_of (size_in sequence.graph) slots round)) at.certificates.slots
    ∙ ap (λ (charter : Charter). map as_parent (round_of (length charter.keys) state.slots round)) at.certificates.charter

header_agrees : (node : Node) (state : State) (own : Author) (sign : Digest → Signature) (stock : BatchStoreView) (headers : AssembliesView) (sequence : SequencerView)
    → AreAt node state own sign stock headers sequence → nameable stock ≡ proposing.nameable node state → (round : ℕ)
    → header_in_round sign own stock sequence.graph round ≡ signed node (proposal_of node state round)
header_agrees node state own sign stock headers sequence at named round =
    ap (λ (s : Digest → Signature). header_in_round s own stock sequence.graph round) (sym at.signer)
    ∙ ap (λ (a : Author). header_in_round node.sign a stock sequence.graph round) (sym at.author)
    ∙ ap (λ batches. signed_by node.sign (body_of node.own round (take 128 batches) (parents_in sequence.graph (round - 1)))) named
    ∙ ap (λ parents. signed_by node.sign (body_of node.own round (take 128 (proposing.nameable node state)) parents))
    (parents_agree node state own sign stock headers sequence at (round - 1))

-- the header of the state's round, if it is free, is what the machine proposes
proposal_agrees : (node : Node) (state : State) (own : Author) (sign : Digest → Signature) (stock : BatchStoreView) (headers : AssembliesView) (sequence : SequencerView)
    → AreAt node state own sign stock headers sequence → nameable stock ≡ proposing.nameable node state → (number : ℕ) → number ≡ round_in node state
    → option_map (header_in_round sign own stock sequence.graph) (free_round headers number) ≡ proposed node state
proposal_agrees node state own sign stock headers sequence at named number is =
    made_unless (header_in_round sign own stock sequence.graph) (is_some (header_in headers number) || nat_lt (2 ^ 48) number) number
    ∙ ap (λ (o : Option Header). cond (is_some o || nat_lt (2 ^ 48) number) None (Some (header_in_round sign own stock sequence.graph number))) (at.own_headers.held number)
    ∙ ap (λ (h : Header). cond (is_some (state.own_headers number) || nat_lt (2 ^ 48) number) None (Some h)) (header_agrees node state own sign stock headers sequence at named number)
    ∙ ap (propose_of node state) is

-- so a header made for a free round over the tables' graph is what the machine proposes
pub header_is_proposed : (node : Node) (state : State) (own : Author) (sign : Digest → Signature) (stock : BatchStoreView) (headers : AssembliesView) (sequence : SequencerView)
    → AreAt node state own sign stock headers sequence → nameable stock ≡ proposing.nameable node state → (number round : ℕ) (graph : DagView) (header : Header) → number ≡ round_in node state
    → Some round ≡ free_round headers number → graph ≡ sequence.graph → header ≡ header_in_round sign own stock graph round → Some header ≡ proposed node state
header_is_proposed node state own sign stock headers sequence at named number round graph header is free same made =
    ap (λ (h : Header). Some h) (made ∙ ap (λ (g : DagView). header_in_round sign own stock g round) same)
    ∙ ap (option_map (header_in_round sign own stock sequence.graph)) free
    ∙ proposal_agrees node state own sign stock headers sequence at named number is
