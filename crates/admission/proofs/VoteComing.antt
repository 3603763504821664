-- A new vote on an own header.
use Rattle.std.proofs.Common.{◌≡◌, ℕ, ◌<◌, ◌≤◌, Bool, true, false, length, Option, Some, None, inl, inr, refl, ap, sym, ◌∙◌, subst, arith}
use Rattle.std.proofs.Math.Path.{fun_ext}
use Rattle.std.specs.Prelude.{not, ◌==◌, ◌&&◌, ◌||◌, nat_lt, is_some, option_map, option_and_then, if◌then◌else◌}
use Rattle.std.specs.Option.{option_map_or, option_or}
use Rattle.std.specs.Str.{bytes_eq}
use Rattle.std.proofs.lemmas.Bool.{cases_Bool, and_from, eqb-true, eq-eqb, lt-ltb}
use Rattle.std.proofs.lemmas.List.{length-set}
use Rattle.std.proofs.lemmas.Option.{none-some, same_Some}
use Rattle.std.proofs.lemmas.Slice.Eq.{bytes_eq-Decides}
use Rattle.wire.specs.Digests.{header_digest_of}
use Rattle.wire.specs.declared.message.Message.TheVariants as message
use Rattle.committee.specs.Charter.{Charter, quorum_of}
use Rattle.committee.proofs.Weights.{weight-same}
use Rattle.certify.specs.Answer.{is_ours, is_too_few, is_again, answer, after}
use Rattle.certify.specs.Answer as certify
use Rattle.certify.specs.Assembled.{AssemblyView, is_on, has_voted, votes_weight}
use Rattle.certify.specs.declared.added.Added.{Added}
use Rattle.certify.specs.declared.added.Added.TheVariants.{Counted, Complete, Again, NotOurs}
use Rattle.spec_laws.proofs.Lists.{given_or_none}
use Rattle.spec_laws.proofs.Meeting.{same_number}
use Rattle.spec_laws.proofs.SlotsGrow.{or_none}
use Rattle.spec_model.specs.Holdings.{certificate_by}
use Rattle.spec_model.specs.Nodes.{Node, size_of}
use Rattle.spec_model.specs.States.{State}
use Rattle.spec_model.specs.Words.{Author, Certificate, Event, Header, Message, Vote}
use Rattle.spec_machine.specs.Machine.{counted_with, certificate_of, vote_at, grown}
use Rattle.spec_machine.specs.Sound.{IsSound, IsCompleted, counts}
use Rattle.admission.specs.Headers.{AssembliesView, assembly_at, vote_in, answer_in, counted_in, IsEntry, IsHeaders, IsWith, IsAt}
use Rattle.spec_machine.specs.Laws.{FloorsAgree, Comes}
use Rattle.admission.specs.HeaderLaws.{added_by, VoteComesTo}
use Rattle.admission.proofs.HeadersAfter.{table_after}
use Rattle.admission.proofs.HeaderComing.{turned}
use Rattle.admission.proofs.NewThere.{IsNewVote, new_vote, voter_is_member}
use Rattle.admission.proofs.HeaderVotes.{with, vote_with, voted_is, certified}

-- ---- the assembly of a new vote's round

-- it is of the node's committee and its own header, the vote is on that, and it isn't counted nor are the votes complete
record IsMet (node : Node) (state : State) (vote : Vote) (before : AssembliesView) (assembled : AssemblyView) : Type 0 where
  held : assembly_at before vote.round ≡ Some assembled
  header : state.own_headers vote.round ≡ Some assembled.header
  charter : assembled.charter ≡ node.charter
  own : (assembled.header.body.author.0 == node.own.0) ≡ true
  long : length assembled.places ≡ size_of node
  on : is_on assembled.header.body vote ≡ true
  absent : state.counted vote.round vote.voter.0 ≡ None
  first : is_again assembled vote ≡ false

not_some : {X : Type 0} (o : Option X) → is_some o ≡ false → o ≡ None
not_some (Some x) is = absurd cc
not_some None is = refl

neither : (one other : Bool) → one ≡ false → other ≡ false → (one || other) ≡ false
neither one other not_one not_other = ap (λ b. b || other) not_one ∙ not_other

-- who counts has voted
counts_is : (node : Node) (state : State) (before : AssembliesView) (round voter : ℕ) (assembled : AssemblyView) → IsAt node state before → assembly_at before round ≡ Some assembled
    → counts state round voter ≡ has_voted assembled.places voter
counts_is node state before round voter assembled at held =
    ap is_some (sym (at.counted round voter) ∙ ap (option_and_then (λ (a : AssemblyView). vote_in a voter)) held) ∙ voted_is assembled voter

-- votes that are complete were completed by one of them
pub completed_by : (node : Node) (state : State) (before : AssembliesView) (round : ℕ) (assembled : AssemblyView) → IsSound node state → IsAt node state before → IsEntry before round assembled
    → assembly_at before round ≡ Some assembled → state.own_headers round ≡ Some assembled.header → assembled.complete ≡ true → IsCompleted node state round assembled.header
completed_by node state before round assembled sound at entry held header is =
    let enough = subst (λ (c : Charter). quorum_of c ≤ votes_weight c assembled.places) (entry.charter ∙ at.charter) (entry.assembly.enough is) in
    let same = weight-same node.charter (counts state round) (has_voted assembled.places) (λ voter within. counts_is node state before round voter assembled at held) in
    sound.votes.complete round assembled.header header (omega (arith, enough, same))

-- votes whose slot is free aren't complete
incomplete : (node : Node) (state : State) (before : AssembliesView) (round : ℕ) (assembled : AssemblyView) → IsSound node state → IsAt node state before → IsEntry before round assembled
    → assembly_at before round ≡ Some assembled → state.own_headers round ≡ Some assembled.header → state.slots round node.own.0 ≡ None → assembled.complete ≡ false
incomplete node state before round assembled sound at entry held header free =
    elim (cases_Bool assembled.complete) [
      | inr is ↦ is
      | inl is ↦
          let completed = completed_by node state before round assembled sound at entry held header is in
          absurd (none-some completed.certificate (sym free ∙ completed.held))
    ]

met : (node : Node) (state : State) (vote : Vote) (before : AssembliesView) (assembled : AssemblyView) → IsSound node state → IsHeaders before → IsAt node state before → IsNewVote node state vote
    → assembly_at before vote.round ≡ Some assembled → IsMet node state vote before assembled
met node state vote before assembled sound holds at new held =
    let entry = holds.entries vote.round assembled held in
    let body = assembled.header.body in
    let header : state.own_headers vote.round ≡ Some assembled.header = sym (at.held vote.round) ∙ ap (option_map (λ (a : AssemblyView). a.header)) held in
    let author : body.author.0 ≡ node.own.0 = entry.author ∙ at.own in
    let same : new.header ≡ assembled.header = same_Some new.header assembled.header (sym new.held ∙ header) in
    let digest : header_digest_of body ≡ vote.header.0 = ap (λ (h : Header). header_digest_of h.body) (sym same) ∙ (bytes_eq-Decides (header_digest_of new.header.body) vote.header.0).0 new.same in
    record {
      held = held;
      header = header;
      charter = entry.charter ∙ at.charter;
      own = eq-eqb body.author.0 node.own.0 author;
      long = entry.assembly.size ∙ ap (λ (c : Charter). length c.keys) (entry.charter ∙ at.charter);
      on = and_from (bytes_eq vote.header.0 (header_digest_of body)) ((vote.round == body.round) && (vote.author.0 == body.author.0))
          ((bytes_eq-Decides vote.header.0 (header_digest_of body)).1 (sym digest))
          (and_from (vote.round == body.round) (vote.author.0 == body.author.0) (eq-eqb vote.round body.round (sym entry.place))
          (eq-eqb vote.author.0 body.author.0 (eqb-true vote.author.0 node.own.0 new.own ∙ sym author)));
      absent = not_some (state.counted vote.round vote.voter.0) new.uncounted;
      first = neither assembled.complete (has_voted assembled.places vote.voter.0) (incomplete node state before vote.round assembled sound at entry held header new.free)
          (sym (counts_is node state before vote.round vote.voter.0 assembled at held) ∙ new.uncounted);
    }

-- ---- the answer

-- the vote is counted, or completes the certificate
answered_is : (node : Node) (assembled : AssemblyView) (vote : Vote) → assembled.charter ≡ node.charter → vote.voter.0 < size_of node
    → is_on assembled.header.body vote ≡ true → is_again assembled vote ≡ false
    → answer assembled vote ≡ (if is_too_few assembled vote then Counted else Complete (certify.certificate_of assembled.header.body (with assembled vote).places))
answered_is node assembled vote charter member on first =
    let here = lt-ltb vote.voter.0 (length assembled.charter.keys) (subst (λ (c : Charter). vote.voter.0 < length c.keys) (sym charter) member) in
    let ours : is_ours assembled vote ≡ true = and_from (nat_lt vote.voter.0 (length assembled.charter.keys)) (is_on assembled.header.body vote) here on in
    let made = Complete (certify.certificate_of assembled.header.body (with assembled vote).places) in
    ap (λ b. if not b then NotOurs else if is_again assembled vote then Again else if is_too_few assembled vote then Counted else made) ours
    ∙ ap (λ b. if b then Again else if is_too_few assembled vote then Counted else made) first

-- the votes that count with it are those of the assembly with it
counted_is : (node : Node) (state : State) (vote : Vote) (before : AssembliesView) (assembled : AssemblyView) → IsAt node state before
    → IsMet node state vote before assembled → vote.voter.0 < size_of node → (voter : ℕ)
    → counted_with node state (message.Vote vote) vote.round voter ≡ vote_in (with assembled vote) voter
counted_is node state vote before assembled at is member voter =
    let voted = vote_with assembled vote voter (omega (arith, member, is.long)) is.on in
    let was : state.counted vote.round voter ≡ vote_in assembled voter = sym (at.counted vote.round voter) ∙ ap (option_and_then (λ (a : AssemblyView). vote_in a voter)) is.held in
    let here : vote_at node (message.Vote vote) vote.round voter ≡ (if voter == vote.voter.0 then Some vote else None) =
    ap (λ b. if b && (vote.voter.0 == voter) then Some vote else None) (same_number vote.round) ∙ ap (λ b. if b then Some vote else None) (turned vote.voter.0 voter) in
    ap (option_or (state.counted vote.round voter)) here
    ∙ joined (voter == vote.voter.0) (state.counted vote.round voter) (λ same. ap (state.counted vote.round) (eqb-true voter vote.voter.0 same) ∙ is.absent)
    ∙ ap (λ o. if voter == vote.voter.0 then Some vote else o) was ∙ sym voted
  where
    joined : (b : Bool) (o : Option Vote) → (b ≡ true → o ≡ None) → option_or o (if b then Some vote else None) ≡ (if b then Some vote else o)
    joined true o none = ap (λ p. option_or p (Some vote)) (none refl)
    joined false o none = or_none o

-- the certificate that the vote completes at the state is that of the assembly with it
completed_is : (node : Node) (state : State) (vote : Vote) (before : AssembliesView) (assembled : AssemblyView) → IsAt node state before
    → IsMet node state vote before assembled → vote.voter.0 < size_of node
    → certificate_of node state (message.Vote vote)
    ≡ (if is_too_few assembled vote then None else Some (certify.certificate_of assembled.header.body (with assembled vote).places))
completed_is node state vote before assembled at is member =
    let later = with assembled vote in
    let counted : counted_with node state (message.Vote vote) vote.round ≡ vote_in later = fun_ext (λ voter. counted_is node state vote before assembled at is member voter) in
    let long : length later.places ≡ size_of node = length-set assembled.places vote.voter.0 (Some vote.signature) ∙ is.long in
    ap (λ c. option_and_then (certificate_by node c) (state.own_headers vote.round)) counted
    ∙ ap (option_and_then (certificate_by node (vote_in later))) is.header
    ∙ certified node later is.own long
    ∙ ap (λ (c : Charter). if nat_lt (votes_weight c later.places) (quorum_of c) then None else Some (certify.certificate_of assembled.header.body later.places)) (sym is.charter)

added_is : (few : Bool) (certificate : Certificate) → (if few then Counted else Complete certificate) ≡ added_by (if few then None else Some certificate)
added_is true certificate = refl
added_is false certificate = refl

-- what is counted after either answer
vote_after : (few : Bool) (certificate : Certificate) (assembled : AssemblyView) (vote : Vote) (voter : ℕ)
    → vote_in (after (if few then Counted else Complete certificate) assembled vote) voter ≡ vote_in (with assembled vote) voter
vote_after true certificate assembled vote voter = refl
vote_after false certificate assembled vote voter = refl

-- with the vote a table is at the state with all that it adds
vote_grown : (node : Node) (state : State) (vote : Vote) (before later : AssembliesView) (assembled : AssemblyView) → IsAt node state before
    → IsMet node state vote before assembled → vote.voter.0 < size_of node
    → IsWith before later vote.round (counted_in (answer assembled vote) before vote) → IsAt node (grown node state (message.Vote vote)) later
vote_grown node state vote before later assembled at is member with' =
    let m : Message = message.Vote vote in
    let round = vote.round in
    let added = answer assembled vote in
    let held = counted_in added before vote in
    let held_is : held ≡ Some (after added assembled vote) = ap (option_map (λ (a : AssemblyView). after added a vote)) is.held in
    let few = is_too_few assembled vote in
    let certificate = certify.certificate_of assembled.header.body (with assembled vote).places in
    let added_is' : added ≡ (if few then Counted else Complete certificate) = answered_is node assembled vote is.charter member is.on is.first in
    record {
      charter = with'.charter ∙ at.charter;
      own = with'.own ∙ at.own;
      held = λ r.
          let look : Option AssemblyView → Option Header = option_map (λ a. a.header) in
          elim (cases_Bool (r == round)) [
            | inl same ↦
                ap look (with'.rounds r ∙ ap (λ b. if b then held else assembly_at before r) same ∙ held_is)
                ∙ sym (or_none (state.own_headers r) ∙ ap state.own_headers (eqb-true r round same) ∙ is.header)
            | inr apart ↦ ap look (with'.rounds r ∙ ap (λ b. if b then held else assembly_at before r) apart) ∙ at.held r ∙ sym (or_none (state.own_headers r))
          ];
      counted = λ r voter.
          let look : Option AssemblyView → Option Vote = option_and_then (λ a. vote_in a voter) in
          elim (cases_Bool (r == round)) [
            | inl same ↦
                ap look (with'.rounds r ∙ ap (λ b. if b then held else assembly_at before r) same ∙ held_is)
                ∙ ap (λ x. vote_in (after x assembled vote) voter) added_is' ∙ vote_after few certificate assembled vote voter
                ∙ sym (ap (λ k. counted_with node state m k voter) (eqb-true r round same) ∙ counted_is node state vote before assembled at is member voter)
            | inr apart ↦
                ap look (with'.rounds r ∙ ap (λ b. if b then held else assembly_at before r) apart) ∙ at.counted r voter
                ∙ sym (ap (λ b. option_or (state.counted r voter) (if b && (vote.voter.0 == voter) then Some vote else None)) (turned round r ∙ apart) ∙ or_none (state.counted r voter))
          ];
    }

-- ---- the law

abbrev certificate_in : Added → Option Certificate
certificate_in (Complete certificate) = Some certificate
certificate_in _ = None

was_counted : (o : Option Certificate) → added_by o ≡ Counted → o ≡ None
was_counted None is = refl
was_counted (Some certificate) is = absurd cc

was_completed : (o : Option Certificate) (certificate : Certificate) → added_by o ≡ Complete certificate → o ≡ Some certificate
was_completed None certificate is = absurd cc
was_completed (Some made) certificate is = ap certificate_in is

-- a table that is at a state has an assembly where the state has an own header
there : (node : Node) (state : State) (before : AssembliesView) (round : ℕ) (header : Header) → IsAt node state before → state.own_headers round
    ≡ Some header → (a : AssemblyView) × (assembly_at before round ≡ Some a)
there node state before round header at held =
    elim (given_or_none (assembly_at before round)) [
      | inl found ↦ found
      | inr none ↦ absurd (none-some header (sym (ap (option_map (λ (a : AssemblyView). a.header)) none) ∙ at.held round ∙ held))
    ]

pub vote_comes : FloorsAgree → (node : Node) (state : State) (sender : Author) (vote : Vote) (before : AssembliesView) → Comes node state (record { sender = sender; message = message.Vote vote })
    → IsHeaders before → IsAt node state before → VoteComesTo node state (record { sender = sender; message = message.Vote vote }) vote before
vote_comes agree node state sender vote before step holds at =
    let m : Message = message.Vote vote in
    let event : Event = record { sender = sender; message = m } in
    let new = new_vote node state (grown node state m) vote step.new in
    let found = there node state before vote.round new.header at new.held in
    let assembled = found.0 in
    let is = met node state vote before assembled step.sound holds at new found.1 in
    let member = voter_is_member node sender vote step.taken in
    let completed = completed_is node state vote before assembled at is member in
    let answered : answer_in before vote ≡ answer assembled vote = ap (λ o. option_map_or (λ (a : AssemblyView). answer a vote) o NotOurs) is.held in
    let by : answer_in before vote ≡ added_by (certificate_of node state m) =
    answered ∙ answered_is node assembled vote is.charter member is.on is.first
    ∙ added_is (is_too_few assembled vote) (certify.certificate_of assembled.header.body (with assembled vote).places) ∙ ap added_by (sym completed) in
    record {
      answer = by;
      counted = λ counted. was_counted (certificate_of node state m) (sym by ∙ counted);
      complete = λ certificate complete. was_completed (certificate_of node state m) certificate (sym by ∙ complete);
      completed = ap (option_and_then (certificate_by node (counted_with node state m vote.round))) (or_none (state.own_headers vote.round));
      after = λ later with'.
          table_after agree node state event later step
          (vote_grown node state vote before later assembled at is member (subst (λ x. IsWith before later vote.round (counted_in x before vote)) answered with'));
    }
