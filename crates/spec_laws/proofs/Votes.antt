-- The votes of a legal history.
use Rattle.std.proofs.Common.{◌≡◌, ℕ, true, [], ◌∷◌, ◌++◌, Option, Some, None, inl, inr, refl, ap, sym, ◌∙◌, subst, arith}
use Rattle.std.specs.Prelude.{find, Contains, ◌==◌}
use Rattle.std.specs.Option.{option_or, option_to_list}
use Rattle.std.proofs.lemmas.Bool.{and_parts, cases_Bool, eqb-true}
use Rattle.std.proofs.lemmas.Option.{same_Some, none-some}
use Rattle.std.proofs.lemmas.List.Elements.{Contains-append_cases, Contains-push_cases}
use Rattle.std.proofs.lemmas.List.Folds.{find-append}
use Rattle.wire.specs.Events.{Event}
use Rattle.wire.specs.declared.header.Header.{Header}
use Rattle.wire.specs.declared.header.HeaderBody.{HeaderBody}
use Rattle.wire.specs.declared.keys.Author.{Author}
use Rattle.wire.specs.declared.message.Message.{Message}
use Rattle.wire.specs.declared.message.Message.TheVariants as message
use Rattle.spec_model.specs.States.{whole}
use Rattle.spec_model.specs.Admitting.{admit, is_new, IsLegal}
use Rattle.spec_model.specs.Histories.{History, headers, votes, as_header, as_vote}
use Rattle.spec_model.specs.Holdings.{voted_header, is_vote_on}
use Rattle.spec_model.specs.Nodes.{Node}
use Rattle.spec_model.specs.Slots.{is_of_slot}
use Rattle.spec_laws.proofs.Legal.{Adds, legal-induction}
use Rattle.spec_laws.proofs.Lists.{filter_map-push, Contains-nothing}
use Rattle.spec_laws.proofs.NewEvents.{new_header-unvoted, new_vote}

-- a header is that of its own slot
pub of_its_slot : (header : HeaderBody) → is_of_slot header.round header.author.0 header ≡ true
of_its_slot header = grind arith

-- the slot that a header is of is its own
pub slot_is : (round author : ℕ) (header : HeaderBody) → is_of_slot round author header ≡ true → (header.round ≡ round) × (header.author.0 ≡ author)
slot_is round author header of = let parts = and_parts (header.round == round) (header.author.0 == author) of in (eqb-true _ _ parts.0, eqb-true _ _ parts.1)

-- the header of an author and round after one more event: the one before, or that of the event
pub voted_header-push : (history : History) (event : Event) (round author : ℕ)
    → voted_header (history ++ event ∷ []) round author
    ≡ option_or (voted_header history round author) (find (λ header. is_of_slot round author header.body) (option_to_list (as_header event.message)))
voted_header-push history event round author =
    ap (find (λ header. is_of_slot round author header.body)) (filter_map-push (λ e. as_header e.message) history event)
    ∙ find-append (λ header. is_of_slot round author header.body) (headers history) (option_to_list (as_header event.message))

-- each header is the one of its author and round
abbrev pub IsOnly : History → Type 0
IsOnly history = (header : Header) → Contains (headers history) header → voted_header history header.body.round header.body.author.0 ≡ Some header

only_more : (node : Node) (history : History) (sender : Author) (m : Message) → is_new (admit node history (record { sender = sender; message = m })) ≡ true → IsOnly history
    → (header : Header) → Contains (option_to_list (as_header m)) header
    → option_or (voted_header history header.body.round header.body.author.0) (find (λ h. is_of_slot header.body.round header.body.author.0 h.body) (option_to_list (as_header m))) ≡ Some header
only_more node history sender (message.Header new) fresh only header inside =
    elim (Contains-push_cases [] new header inside) [
      | inl none ↦ absurd (Contains-nothing header none)
      | inr same ↦
          let unvoted = new_header-unvoted node history new fresh in
          let here : option_or (voted_header history new.body.round new.body.author.0) (find (λ h. is_of_slot new.body.round new.body.author.0 h.body) (new ∷ [])) ≡ Some new =
          rw (unvoted, of_its_slot new.body) refl in
          subst (λ h. option_or (voted_header history h.body.round h.body.author.0) (find (λ g. is_of_slot h.body.round h.body.author.0 g.body) (new ∷ [])) ≡ Some h) same here
    ]
only_more node history sender (message.Batch batch) fresh only header inside = absurd (Contains-nothing header inside)
only_more node history sender (message.BatchAck ack) fresh only header inside = absurd (Contains-nothing header inside)
only_more node history sender (message.Vote vote) fresh only header inside = absurd (Contains-nothing header inside)
only_more node history sender (message.Certificate certificate) fresh only header inside = absurd (Contains-nothing header inside)
only_more node history sender (message.Coin coin) fresh only header inside = absurd (Contains-nothing header inside)

only_push : (node : Node) (history : History) (event : Event) → Adds node history event → IsOnly history → IsOnly (history ++ event ∷ [])
only_push node history event adds only header inside =
    let inside' = subst (λ l. Contains l header) (filter_map-push (λ e. as_header e.message) history event) inside in
    voted_header-push history event header.body.round header.body.author.0
    ∙ elim (Contains-append_cases (headers history) (option_to_list (as_header event.message)) header inside') [
      | inl before ↦ let held = only header before in rw held refl
      | inr new ↦ only_more node history event.sender event.message adds.new only header new
    ]

pub one_header : (node : Node) (history : History) → IsLegal node history → (header : Header) → Contains (headers history) header
    → voted_header history header.body.round header.body.author.0 ≡ Some header
one_header node = legal-induction node IsOnly (λ header inside. absurd (Contains-nothing header inside)) (only_push node)

-- so two headers of one author and round are one
pub one_vote : (node : Node) (history : History) (one other : Header) → IsLegal node history → Contains (headers history) one → Contains (headers history) other
    → one.body.author ≡ other.body.author → one.body.round ≡ other.body.round → one ≡ other
one_vote node history one other legal inside also author round =
    same_Some one other (sym (one_header node history legal one inside)
    ∙ ap (λ r. voted_header history r one.body.author.0) round ∙ ap (λ (a : Author). voted_header history other.body.round a.0) author
    ∙ one_header node history legal other also)

-- a vote is on an own header that is there
abbrev AreHeaded : History → Type 0
AreHeaded history = (header : HeaderBody) (voter : ℕ) → voted_header history header.round header.author.0 ≡ None → find (is_vote_on header voter) (votes history) ≡ None

headed_more : (node : Node) (history : History) (sender : Author) (m : Message) → is_new (admit node history (record { sender = sender; message = m })) ≡ true
    → (header : HeaderBody) (voter : ℕ) → voted_header history header.round header.author.0 ≡ None → find (is_vote_on header voter) (option_to_list (as_vote m)) ≡ None
headed_more node history sender (message.Vote vote) fresh header voter none =
    elim (cases_Bool (is_vote_on header voter vote)) [
      | inl on ↦
          let new = new_vote node history (whole node (history ++ (record { sender = sender; message = message.Vote vote }) ∷ [])) vote fresh in
          let slot = slot_is vote.round vote.author.0 header (and_parts (is_of_slot vote.round vote.author.0 header) _ on).0 in
          let own = eqb-true vote.author.0 node.own.0 new.own in
          absurd (none-some new.header (sym none ∙ ap (λ r. voted_header history r header.author.0) slot.0 ∙ ap (voted_header history vote.round) (slot.1 ∙ own) ∙ new.held))
      | inr other ↦ rw other refl
    ]
headed_more node history sender (message.Batch batch) fresh header voter none = refl
headed_more node history sender (message.BatchAck ack) fresh header voter none = refl
headed_more node history sender (message.Header other) fresh header voter none = refl
headed_more node history sender (message.Certificate certificate) fresh header voter none = refl
headed_more node history sender (message.Coin coin) fresh header voter none = refl

-- what is found in neither of two is there in neither
pub neither : {X : Type 0} (one other : Option X) → option_or one other ≡ None → (one ≡ None) × (other ≡ None)
neither None other h = (refl, h)
neither (Some x) other h = absurd cc

headed_push : (node : Node) (history : History) (event : Event) → Adds node history event → AreHeaded history → AreHeaded (history ++ event ∷ [])
headed_push node history event adds headed header voter none =
    let before = (neither _ _ (sym (voted_header-push history event header.round header.author.0) ∙ none)).0 in
    let old = headed header voter before in
    let new = headed_more node history event.sender event.message adds.new header voter before in
    ap (find (is_vote_on header voter)) (filter_map-push (λ e. as_vote e.message) history event)
    ∙ find-append (is_vote_on header voter) (votes history) (option_to_list (as_vote event.message))
    ∙ rw (old, new) refl

pub each_headed : (node : Node) (history : History) → IsLegal node history → (header : HeaderBody) (voter : ℕ) → voted_header history header.round header.author.0 ≡ None
    → find (is_vote_on header voter) (votes history) ≡ None
each_headed node = legal-induction node AreHeaded (λ header voter none. refl) (headed_push node)
