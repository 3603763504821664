-- The certificates of a legal history.
use Rattle.std.proofs.Common.{◌≡◌, ℕ, Bool, true, false, cond, List, [], ◌∷◌, ◌++◌, map, Option, Some, None, inl, inr, refl, ap, sym, ◌∙◌, arith}
use Rattle.std.proofs.Math.Path.{fun_ext}
use Rattle.std.specs.Prelude.{find, filter_map, Contains, ◌==◌, ◌&&◌, nat_le, option_and_then}
use Rattle.std.specs.Option.{option_or, option_to_list}
use Rattle.std.proofs.lemmas.Bool.{and_parts, cases_Bool, eqb-true, leb-true, true≢false}
use Rattle.std.proofs.lemmas.Option.{same_Some}
use Rattle.std.proofs.lemmas.List.Folds.{find-append}
use Rattle.committee.specs.Charter.{numbers, weight}
use Rattle.committee.proofs.Weights.{weight-same}
use Rattle.wire.specs.Events.{Event}
use Rattle.wire.specs.declared.header.Certificate.{Certificate}
use Rattle.wire.specs.declared.header.Header.{Header}
use Rattle.wire.specs.declared.header.HeaderBody.{HeaderBody}
use Rattle.wire.specs.declared.header.Vote.{Vote}
use Rattle.wire.specs.declared.keys.Author.{Author}
use Rattle.wire.specs.declared.message.Message.{Message}
use Rattle.wire.specs.declared.message.Message.TheVariants as message
use Rattle.spec_model.specs.States.{whole, completed_at}
use Rattle.spec_model.specs.Admitting.{is_own}
use Rattle.spec_model.specs.Histories.{History, headers, votes, received, as_header, as_vote, as_certificate}
use Rattle.spec_model.specs.Holdings.{voted_header, is_vote_on, counted_vote, has_voted, counted_at, certificate_by, completed, genesis, slots}
use Rattle.spec_laws.specs.Laws.{added, SlotsGrow}
use Rattle.spec_model.specs.Nodes.{Node, IsNode, size_of, quorum}
use Rattle.spec_model.specs.Slots.{is_of_slot, slots_of}
use Rattle.spec_laws.proofs.Legal.{Adds, legal-last}
use Rattle.spec_laws.proofs.Lists.{given_or_none, filter_map-push, Contains-first, Contains-later, found_passes}
use Rattle.spec_laws.proofs.NewEvents.{new_header-unvoted, new_vote, new_certificate-free}
use Rattle.spec_laws.proofs.Votes.{IsOnly, of_its_slot, slot_is, voted_header-push, one_header, each_headed, neither}
use Rattle.spec_laws.proofs.Weighing.{alone_below}

-- a member's vote after one more event: the one before, or that of the event
pub counted_vote-push : (node : Node) (history : History) (event : Event) (header : HeaderBody) (voter : ℕ)
    → counted_vote node (history ++ event ∷ []) header voter ≡ option_or (counted_vote node history header voter) (find (is_vote_on header voter) (option_to_list (as_vote event.message)))
counted_vote-push node history event header voter =
    elim (cases_Bool (voter == node.own.0)) [
      | inl own ↦ rw own refl
      | inr other ↦
          rw other (ap (find (is_vote_on header voter)) (filter_map-push (λ e. as_vote e.message) history event)
          ∙ find-append (is_vote_on header voter) (votes history) (option_to_list (as_vote event.message)))
    ]

pub or_none : {X : Type 0} (o : Option X) → option_or o None ≡ o
or_none (Some x) = refl
or_none None = refl

or_assoc : {X : Type 0} (one two three : Option X) → option_or (option_or one two) three ≡ option_or one (option_or two three)
or_assoc (Some x) two three = refl
or_assoc None two three = refl

-- the certificate of the own header of a round is that of the header
pub completed_is : (node : Node) (history : History) (round : ℕ) (header : Header) → voted_header history round node.own.0 ≡ Some header
    → completed_at node (whole node history) round ≡ completed node history header
completed_is node history round header held =
    ap (option_and_then (certificate_by node (counted_at node history round))) held
    ∙ ap (λ counted. certificate_by node counted header) (fun_ext (λ voter. ap (option_and_then (λ (h : Header). counted_vote node history h.body voter)) held))

-- an event without a vote on a header leaves its votes as they are, and so its certificate
pub completed-same : (node : Node) (history : History) (event : Event) (header : Header) → ((voter : ℕ) → find (is_vote_on header.body voter) (option_to_list (as_vote event.message)) ≡ None)
    → completed node (history ++ event ∷ []) header ≡ completed node history header
completed-same node history event header none =
    ap (λ counted. certificate_by node counted header)
    (fun_ext (λ voter. counted_vote-push node history event header.body voter ∙ ap (option_or (counted_vote node history header.body voter))
    (none voter) ∙ or_none (counted_vote node history header.body voter)))

-- a vote for another slot isn't on a header
pub not_on : (vote : Vote) (header : HeaderBody) (voter : ℕ) → is_of_slot vote.round vote.author.0 header ≡ false → find (is_vote_on header voter) (vote ∷ []) ≡ None
not_on vote header voter other = rw other refl

-- an own certificate is that of its header
pub completed-header : (node : Node) (history : History) (header : Header) (certificate : Certificate) → completed node history header ≡ Some certificate → certificate.header ≡ header.body
completed-header node history header certificate made =
    elim (cases_Bool ((header.body.author.0 == node.own.0) && nat_le (quorum node) (weight node.charter (has_voted node history header.body)))) [
      | inl is ↦ let here = rw is at made in ap (λ (c : Certificate). c.header) (sym (same_Some _ _ here))
      | inr not ↦ let here = rw not at made in absurd cc
    ]

-- where no other member voted on an own header, the node itself alone did
alone_voted : (node : Node) (history : History) (header : HeaderBody) → ((voter : ℕ) → find (is_vote_on header voter) (votes history) ≡ None)
    → (voter : ℕ) → has_voted node history header voter ≡ (voter == node.own.0)
alone_voted node history header none voter =
    elim (cases_Bool (voter == node.own.0)) [ inl own ↦ rw own refl | inr other ↦ let gone = none voter in rw (other, gone) refl ]

-- no certificate is made of a header on which no other member voted: one member alone is no quorum
pub unvoted-incomplete : (node : Node) (history : History) (header : Header) → IsNode node → ((voter : ℕ) → find (is_vote_on header.body voter) (votes history) ≡ None)
    → completed node history header ≡ None
unvoted-incomplete node history header sound none =
    let voted = has_voted node history header.body in
    let alone = weight-same node.charter voted (λ voter. voter == node.own.0) (λ voter within. alone_voted node history header.body none voter) in
    let few = alone_below node.charter sound.charter node.own.0 sound.member in
    elim (cases_Bool ((header.body.author.0 == node.own.0) && nat_le (quorum node) (weight node.charter voted))) [
      | inl is ↦
          let parts = and_parts (header.body.author.0 == node.own.0) (nat_le (quorum node) (weight node.charter voted)) is in
          let enough = leb-true _ _ parts.1 in
          absurd (omega (arith, alone, few, enough))
      | inr not ↦ rw not refl
    ]

-- what is found among certificates made of headers, of which one at most is of the slot
found_made : (make : Header → Option Certificate) → ((header : Header) (certificate : Certificate) → make header ≡ Some certificate → certificate.header ≡ header.body)
    → (round author : ℕ) (all : List Header)
    → ((one other : Header) → Contains all one → Contains all other → is_of_slot round author one.body ≡ true → is_of_slot round author other.body ≡ true → one ≡ other)
    → find (λ c. is_of_slot round author c.header) (filter_map make all) ≡ option_and_then make (find (λ h. is_of_slot round author h.body) all)
found_made make of round author [] one = refl
found_made make of round author (header ∷ rest) one =
    let later = found_made make of round author rest (λ h g inside also. one h g (Contains-later header rest h inside) (Contains-later header rest g also)) in
    elim (cases_Bool (is_of_slot round author header.body)) [
      | inl here ↦ elim (given_or_none (make header)) [
        | inl made ↦
            let passes : is_of_slot round author made.0.header ≡ true = ap (is_of_slot round author) (of header made.0 made.1) ∙ here in
            rw (here, made.1) (rw passes refl)
        | inr none ↦
            rw (here, none) (later ∙ elim (given_or_none (find (λ h. is_of_slot round author h.body) rest)) [
              | inl found ↦
                  let facts = found_passes (λ h. is_of_slot round author h.body) rest found.0 found.1 in
                  let same : found.0 ≡ header = one found.0 header (Contains-later header rest found.0 facts.1) (Contains-first rest header) facts.0 here in
                  ap (option_and_then make) found.1 ∙ ap make same ∙ none
              | inr nothing ↦ ap (option_and_then make) nothing
            ])
      ]
      | inr other ↦ elim (given_or_none (make header)) [
        | inl made ↦
            let passes : is_of_slot round author made.0.header ≡ false = ap (is_of_slot round author) (of header made.0 made.1) ∙ other in
            rw (other, made.1) (rw passes later)
        | inr none ↦ rw (other, none) later
      ]
    ]

-- the certificate of the own header of a slot
abbrev pub own_at : Node → History → ℕ → ℕ → Option Certificate
own_at node history round author = option_and_then (completed node history) (voted_header history round author)

abbrev pub first_at : Node → ℕ → ℕ → Option Certificate
first_at node = slots_of (map genesis (numbers (size_of node)))

-- what a slot holds, part by part
pub slots-parts : (node : Node) (history : History) (round author : ℕ)
    → ((header : Header) → Contains (headers history) header → voted_header history header.body.round header.body.author.0 ≡ Some header)
    → slots node history round author ≡ option_or (first_at node round author) (option_or (slots_of (received history) round author) (own_at node history round author))
slots-parts node history round author only =
    let at : Certificate → Bool = λ c. is_of_slot round author c.header in
    let own = filter_map (completed node history) (headers history) in
    let one : (h g : Header) → Contains (headers history) h → Contains (headers history) g → is_of_slot round author h.body ≡ true → is_of_slot round author g.body ≡ true → h ≡ g =
    λ h g inside also on also_on.
    let place = slot_is round author h.body on in
    let other = slot_is round author g.body also_on in
    same_Some h g (sym (only h inside) ∙ ap (λ r. voted_header history r h.body.author.0) (place.0 ∙ sym other.0)
    ∙ ap (voted_header history g.body.round) (place.1 ∙ sym other.1) ∙ only g also) in
    find-append at (map genesis (numbers (size_of node)) ++ received history) own
    ∙ ap (λ o. option_or o (find at own)) (find-append at (map genesis (numbers (size_of node))) (received history))
    ∙ or_assoc (first_at node round author) (slots_of (received history) round author) (find at own)
    ∙ ap (λ o. option_or (first_at node round author) (option_or (slots_of (received history) round author) o))
    (found_made (completed node history) (completed-header node history) round author (headers history) one)

-- the received certificates after one more event
received_at-push : (history : History) (event : Event) (round author : ℕ)
    → slots_of (received (history ++ event ∷ [])) round author ≡ option_or (slots_of (received history) round author) (slots_of (option_to_list (as_certificate event.message)) round author)
received_at-push history event round author =
    let at : Certificate → Bool = λ c. is_of_slot round author c.header in
    ap (find at) (filter_map-push (λ e. as_certificate e.message) history event) ∙ find-append at (received history) (option_to_list (as_certificate event.message))

-- an event that isn't a header or a vote leaves the own certificates as they are
own_at-same : (node : Node) (history : History) (event : Event) (round author : ℕ) → as_header event.message ≡ None → as_vote event.message ≡ None
    → own_at node (history ++ event ∷ []) round author ≡ own_at node history round author
own_at-same node history event round author no_header no_vote =
    let headed : voted_header (history ++ event ∷ []) round author ≡ voted_header history round author =
    voted_header-push history event round author ∙ rw no_header (or_none (voted_header history round author)) in
    ap (option_and_then (completed node (history ++ event ∷ []))) headed
    ∙ ap (λ (make : Header → Option Certificate). option_and_then make (voted_header history round author))
    (fun_ext (λ header. completed-same node history event header (λ voter. rw no_vote refl)))

-- the parts of a slot that holds nothing
free_parts : {X : Type 0} (one two three : Option X) → option_or one (option_or two three) ≡ None → (one ≡ None) × (two ≡ None) × (three ≡ None)
free_parts one two three h = let first = neither one (option_or two three) h in let rest = neither two three first.1 in (first.0, rest.0, rest.1)

-- what a slot holds after an event that may add to one of its parts
slot_more : (node : Node) (history : History) (event : Event) (round author : ℕ) → IsOnly history → IsOnly (history ++ event ∷ [])
    → (add : Option Certificate)
    → option_or (first_at node round author)
    (option_or (option_or (slots_of (received history) round author) (slots_of (option_to_list (as_certificate event.message)) round author))
    (own_at node (history ++ event ∷ []) round author))
    ≡ option_or (option_or (first_at node round author) (option_or (slots_of (received history) round author) (own_at node history round author))) add
    → slots node (history ++ event ∷ []) round author ≡ option_or (slots node history round author) add
slot_more node history event round author before after add h =
    slots-parts node (history ++ event ∷ []) round author after
    ∙ ap (λ o. option_or (first_at node round author) (option_or o (own_at node (history ++ event ∷ []) round author))) (received_at-push history event round author)
    ∙ h
    ∙ ap (λ o. option_or o add) (sym (slots-parts node history round author before))

-- where the own certificates are as before and none came in
unchanged : {X : Type 0} (one two three other : Option X) → other ≡ three → option_or one (option_or (option_or two None) other) ≡ option_or (option_or one (option_or two three)) None
unchanged one two three other same =
    ap (λ o. option_or one (option_or o other)) (or_none two) ∙ ap (λ o. option_or one (option_or two o)) same ∙ sym (or_none (option_or one (option_or two three)))

-- where one came in, for a slot that held nothing
put_in : {X : Type 0} (one two three other new : Option X) → other ≡ three → option_or one (option_or two three) ≡ None
    → option_or one (option_or (option_or two new) other) ≡ option_or (option_or one (option_or two three)) new
put_in one two three other new same free =
    let parts = free_parts one two three free in
    rw (same, parts.0, parts.1, parts.2) (or_none new)

-- where an own one is made, for a slot that held nothing
made_in : {X : Type 0} (one two three other new : Option X) → other ≡ new → option_or one (option_or two three) ≡ None
    → option_or one (option_or (option_or two None) other) ≡ option_or (option_or one (option_or two three)) new
made_in one two three other new same free =
    let parts = free_parts one two three free in
    rw (same, parts.0, parts.1, parts.2) refl

-- the header of the slot after one more header
voted_header-unvoted : (node : Node) (history : History) (event : Event) (header : Header) (round author : ℕ) → as_header event.message ≡ Some header → as_vote event.message ≡ None
    → voted_header history header.body.round header.body.author.0 ≡ None → completed node history header ≡ None
    → own_at node (history ++ event ∷ []) round author ≡ own_at node history round author
voted_header-unvoted node history event header round author is no_vote unvoted incomplete =
    let later : voted_header (history ++ event ∷ []) round author ≡ option_or (voted_header history round author) (cond (is_of_slot round author header.body) (Some header) None) =
    voted_header-push history event round author ∙ rw is refl in
    ap (λ (make : Header → Option Certificate). option_and_then make (voted_header (history ++ event ∷ []) round author))
    (fun_ext (λ h. completed-same node history event h (λ voter. rw no_vote refl)))
    ∙ ap (option_and_then (completed node history)) later
    ∙ elim (cases_Bool (is_of_slot round author header.body)) [
      | inl here ↦
          let place = slot_is round author header.body here in
          let none : voted_header history round author ≡ None =
          ap (λ r. voted_header history r author) (sym place.0) ∙ ap (voted_header history header.body.round) (sym place.1) ∙ unvoted in
          rw (here, none) incomplete
      | inr other ↦ rw other (ap (option_and_then (completed node history)) (or_none (voted_header history round author)))
    ]

-- the certificate of a header in its slot, and in another one
in_its_slot : (node : Node) (history : History) (header : Header) (round author : ℕ) → is_of_slot round author header.body ≡ true
    → slots_of (option_to_list (completed node history header)) round author ≡ completed node history header
in_its_slot node history header round author here =
    elim (given_or_none (completed node history header)) [
      | inl made ↦
          let passes : is_of_slot round author made.0.header ≡ true = ap (is_of_slot round author) (completed-header node history header made.0 made.1) ∙ here in
          rw made.1 (rw passes refl)
      | inr none ↦ rw none refl
    ]

in_another : (node : Node) (history : History) (header : Header) (round author : ℕ) → is_of_slot round author header.body ≡ false
    → slots_of (option_to_list (completed node history header)) round author ≡ None
in_another node history header round author other =
    elim (given_or_none (completed node history header)) [
      | inl made ↦
          let fails : is_of_slot round author made.0.header ≡ false = ap (is_of_slot round author) (completed-header node history header made.0 made.1) ∙ other in
          rw made.1 (rw fails refl)
      | inr none ↦ rw none refl
    ]

-- a vote leaves the certificates of other headers as they are
pub completed-other : (node : Node) (history : History) (sender : Author) (vote : Vote) (header : Header) → is_of_slot vote.round vote.author.0 header.body ≡ false
    → completed node (history ++ record { sender = sender; message = message.Vote vote } ∷ []) header ≡ completed node history header
completed-other node history sender vote header other =
    completed-same node history (record { sender = sender; message = message.Vote vote }) header (λ voter. not_on vote header.body voter other)

-- the own certificates of other slots stay as they are after a vote
own_at-other : (node : Node) (history : History) (sender : Author) (vote : Vote) (round author : ℕ)
    → ((header : Header) → voted_header history round author ≡ Some header → is_of_slot vote.round vote.author.0 header.body ≡ false)
    → own_at node (history ++ record { sender = sender; message = message.Vote vote } ∷ []) round author ≡ own_at node history round author
own_at-other node history sender vote round author others =
    let event : Event = record { sender = sender; message = message.Vote vote } in
    let headed : voted_header (history ++ event ∷ []) round author ≡ voted_header history round author = voted_header-push history event round author ∙ or_none (voted_header history round author) in
    ap (option_and_then (completed node (history ++ event ∷ []))) headed
    ∙ elim (given_or_none (voted_header history round author)) [
      | inl found ↦ rw found.1 (completed-other node history sender vote found.0 (others found.0 found.1))
      | inr none ↦ rw none refl
    ]

-- a header of another slot than that of a vote isn't of the vote's slot
vote_elsewhere : (vote : Vote) (own round author : ℕ) (voted : HeaderBody) → vote.author.0 ≡ own → voted.round ≡ vote.round → voted.author.0 ≡ own → is_of_slot round author voted ≡ false
    → (header : HeaderBody) → is_of_slot round author header ≡ true → is_of_slot vote.round vote.author.0 header ≡ false
vote_elsewhere vote own round author voted is_own voted_round voted_author other header here =
    elim (cases_Bool (is_of_slot vote.round vote.author.0 header)) [
      | inl also ↦
          let place = slot_is round author header here in
          let same = slot_is vote.round vote.author.0 header also in
          let same_round : round ≡ voted.round = sym place.0 ∙ same.0 ∙ sym voted_round in
          let same_author : author ≡ voted.author.0 = sym place.1 ∙ same.1 ∙ is_own ∙ sym voted_author in
          let both : is_of_slot round author voted ≡ true = ap (λ r. is_of_slot r author voted) same_round ∙ ap (λ a. is_of_slot voted.round a voted) same_author ∙ of_its_slot voted in
          absurd (true≢false (sym both ∙ other))
      | inr not ↦ not
    ]

-- the slots after each kind of event
slots_more : (node : Node) (history : History) (sender : Author) (m : Message) → Adds node history (record { sender = sender; message = m })
    → IsOnly history → IsOnly (history ++ record { sender = sender; message = m } ∷ []) → (round author : ℕ)
    → slots node (history ++ record { sender = sender; message = m } ∷ []) round author
    ≡ option_or (slots node history round author) (slots_of (option_to_list (added node history (record { sender = sender; message = m }))) round author)
slots_more node history sender (message.Batch batch) adds before after round author =
    let event : Event = record { sender = sender; message = message.Batch batch } in
    slot_more node history event round author before after None (unchanged _ _ _ _ (own_at-same node history event round author refl refl))
slots_more node history sender (message.BatchAck ack) adds before after round author =
    let event : Event = record { sender = sender; message = message.BatchAck ack } in
    slot_more node history event round author before after None (unchanged _ _ _ _ (own_at-same node history event round author refl refl))
slots_more node history sender (message.Header header) adds before after round author =
    let event : Event = record { sender = sender; message = message.Header header } in
    let unvoted = new_header-unvoted node history header adds.new in
    let incomplete = unvoted-incomplete node history header adds.legal.sound (λ voter. each_headed node history adds.legal header.body voter unvoted) in
    slot_more node history event round author before after None (unchanged _ _ _ _ (voted_header-unvoted node history event header round author refl refl unvoted incomplete))
slots_more node history sender (message.Vote vote) adds before after round author =
    let event : Event = record { sender = sender; message = message.Vote vote } in
    let new = new_vote node history (whole node (history ++ event ∷ [])) vote adds.new in
    let found = found_passes (λ h. is_of_slot vote.round node.own.0 h.body) (headers history) new.header new.held in
    let own_slot = slot_is vote.round node.own.0 new.header.body found.0 in
    let makes = completed node (history ++ event ∷ []) in
    let adding : added node history event ≡ makes new.header = ap (option_and_then makes) new.held in
    slot_more node history event round author before after (slots_of (option_to_list (added node history event)) round author)
    (elim (cases_Bool (is_of_slot round author new.header.body)) [
      | inl here ↦
          let place = slot_is round author new.header.body here in
          let same_round : round ≡ vote.round = sym place.0 ∙ own_slot.0 in
          let same_author : author ≡ node.own.0 = sym place.1 ∙ own_slot.1 in
          let headed : voted_header (history ++ event ∷ []) round author ≡ Some new.header =
          voted_header-push history event round author ∙ or_none (voted_header history round author)
          ∙ ap (λ r. voted_header history r author) same_round ∙ ap (voted_header history vote.round) same_author ∙ new.held in
          let free : slots node history round author ≡ None = ap (λ r. slots node history r author) same_round ∙ ap (slots node history vote.round) same_author ∙ new.free in
          made_in _ _ _ _ _ (ap (option_and_then makes) headed
          ∙ sym (ap (λ o. slots_of (option_to_list o) round author) adding ∙ in_its_slot node (history ++ event ∷ []) new.header round author here))
          (sym (slots-parts node history round author before) ∙ free)
      | inr other ↦
          let nothing : slots_of (option_to_list (added node history event)) round author ≡ None =
          ap (λ o. slots_of (option_to_list o) round author) adding ∙ in_another node (history ++ event ∷ []) new.header round author other in
          rw nothing (unchanged _ _ _ _ (own_at-other node history sender vote round author
          (λ h held. vote_elsewhere vote node.own.0 round author new.header.body (eqb-true _ _ new.own) own_slot.0 own_slot.1 other h.body
          (found_passes (λ g. is_of_slot round author g.body) (headers history) h held).0)))
    ])
slots_more node history sender (message.Certificate certificate) adds before after round author =
    let event : Event = record { sender = sender; message = message.Certificate certificate } in
    let same = own_at-same node history event round author refl refl in
    slot_more node history event round author before after (cond (is_of_slot round author certificate.header) (Some certificate) None)
    (elim (cases_Bool (is_of_slot round author certificate.header)) [
      | inl here ↦
          let place = slot_is round author certificate.header here in
          let free : slots node history round author ≡ None =
          ap (λ r. slots node history r author) (sym place.0) ∙ ap (slots node history certificate.header.round) (sym place.1)
          ∙ new_certificate-free node (whole node history) (whole node (history ++ event ∷ [])) certificate adds.new in
          put_in _ _ _ _ _ same (sym (slots-parts node history round author before) ∙ free)
      | inr other ↦ rw other (unchanged _ _ _ _ same)
    ])
slots_more node history sender (message.Coin coin) adds before after round author =
    let event : Event = record { sender = sender; message = message.Coin coin } in
    slot_more node history event round author before after None (unchanged _ _ _ _ (own_at-same node history event round author refl refl))

pub slots_grow : SlotsGrow
slots_grow node history event legal round author =
    let adds = legal-last node history event legal in
    slots_more node history event.sender event.message adds (one_header node history adds.legal) (one_header node (history ++ event ∷ []) legal) round author
