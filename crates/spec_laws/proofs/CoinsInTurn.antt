-- The coins of a legal history stand in the order of their waves.
use Rattle.std.proofs.Common.{◌≡◌, ℕ, ◌+◌, true, List, [], ◌∷◌, ◌++◌, length, Some, ◌⊎◌, inl, inr, ap, sym, ◌∙◌, subst, arith}
use Rattle.std.specs.Prelude.{slice_get, Contains}
use Rattle.std.specs.Option.{option_to_list}
use Rattle.std.proofs.lemmas.Bool.{cases_lt}
use Rattle.std.proofs.lemmas.Grind.{common_steps}
use Rattle.std.proofs.lemmas.List.{get_or_append_left, get_or_push, append-nil, length-append}
use Rattle.std.proofs.lemmas.List.Elements.{Contains-append_left, Contains-push}
use Rattle.std.proofs.lemmas.Option.{slice_get-get_or, slice_get_within, get_or_from_slice_get}
use Rattle.wire.specs.Events.{Event}
use Rattle.wire.specs.declared.keys.Author.{Author}
use Rattle.wire.specs.declared.message.Coin.{Coin}
use Rattle.wire.specs.declared.message.Message.{Message}
use Rattle.wire.specs.declared.message.Message.TheVariants as message
use Rattle.spec_model.specs.Admitting.{admit, is_new, coin_answer, IsLegal}
use Rattle.spec_model.specs.Histories.{History, coins, as_coin}
use Rattle.spec_model.specs.Nodes.{Node}
use Rattle.spec_model.specs.States.{State, whole}
use Rattle.spec_laws.specs.Laws.{ReportsCoin}
use Rattle.spec_laws.proofs.Legal.{Adds, legal-induction}
use Rattle.spec_laws.proofs.Lists.{filter_map-push}

-- a new coin is of the wave after those that have theirs
new_coin : (node : Node) (now later : State) (sender : Author) (coin : Coin) → is_new (coin_answer node now later sender coin) ≡ true
    → coin.wave ≡ length now.coins + 1
new_coin node now later sender coin h = grind (arith, h, common_steps)

-- what stands at a place of a list with one more at its end stood there before, or is that one
at_push : {X : Type 0} (xs : List X) (y : X) (place : ℕ) (x : X) → slice_get (xs ++ y ∷ []) place ≡ Some x
    → (slice_get xs place ≡ Some x) ⊎ ((place ≡ length xs) × (x ≡ y))
at_push xs y place x is =
    elim (cases_lt place (length xs)) [
      | inl before ↦ inl (slice_get-get_or xs place x before
          ∙ ap Some (sym (get_or_append_left xs (y ∷ []) x place before) ∙ get_or_from_slice_get (xs ++ y ∷ []) place x x is))
      | inr past ↦
          let within = slice_get_within (xs ++ y ∷ []) place x is in
          let last : place ≡ length xs = omega (arith, past, within, length-append xs (y ∷ [])) in
          inr (last, sym (get_or_from_slice_get (xs ++ y ∷ []) place x x is) ∙ get_or_push xs y x place (sym last))
    ]

-- what was told of is told of later
reports_later : (history : History) (event : Event) (wave value : ℕ) → ReportsCoin history wave value → ReportsCoin (history ++ event ∷ []) wave value
reports_later history event wave value reports =
    let coin : Event = record { sender = reports.sender; message = message.Coin (record { wave = wave; value = value }) } in
    record { sender = reports.sender; reported = Contains-append_left history (event ∷ []) coin reports.reported }

-- each coin is told of in its turn
abbrev AreInTurn : History → Type 0
AreInTurn history = (place value : ℕ) → slice_get (coins history) place ≡ Some value → ReportsCoin history (place + 1) value

-- a coin is its wave and its value
same_coin : (coin : Coin) (wave value : ℕ) → coin.wave ≡ wave → coin.value ≡ value → coin ≡ record { wave = wave; value = value }
same_coin coin wave value is also =
    let of : ℕ → ℕ → Coin = λ w v. record { wave = w; value = v } in
    ap (λ w. of w coin.value) is ∙ ap (of wave) also

-- by the kind of the event
in_turn_more : (node : Node) (history : History) (sender : Author) (m : Message) → is_new (admit node history (record { sender = sender; message = m })) ≡ true
    → AreInTurn history → (place value : ℕ) → slice_get (coins history ++ option_to_list (as_coin m)) place ≡ Some value
    → ReportsCoin (history ++ (record { sender = sender; message = m }) ∷ []) (place + 1) value
in_turn_more node history sender (message.Coin coin) fresh before place value is =
    let event : Event = record { sender = sender; message = message.Coin coin } in
    elim (at_push (coins history) coin.value place value is) [
      | inl old ↦ reports_later history event (place + 1) value (before place value old)
      | inr new ↦
          let wave : coin.wave ≡ place + 1 = new_coin node (whole node history) (whole node (history ++ event ∷ [])) sender coin fresh ∙ ap (λ n. n + 1) (sym new.0) in
          let same = same_coin coin (place + 1) value wave (sym new.1) in
          record { sender = sender; reported = subst (λ (c : Coin). Contains (history ++ event ∷ []) (record { sender = sender; message = message.Coin c })) same (Contains-push history event) }
    ]
in_turn_more node history sender (message.Batch batch) fresh before place value is =
    reports_later history (record { sender = sender; message = message.Batch batch }) (place + 1) value (before place value (subst (λ l. slice_get l place ≡ Some value) (append-nil
    (coins history)) is))
in_turn_more node history sender (message.BatchAck ack) fresh before place value is =
    reports_later history (record { sender = sender; message = message.BatchAck ack }) (place + 1) value
    (before place value (subst (λ l. slice_get l place ≡ Some value) (append-nil (coins history)) is))
in_turn_more node history sender (message.Header header) fresh before place value is =
    reports_later history (record { sender = sender; message = message.Header header }) (place + 1) value
    (before place value (subst (λ l. slice_get l place ≡ Some value) (append-nil (coins history)) is))
in_turn_more node history sender (message.Vote vote) fresh before place value is =
    reports_later history (record { sender = sender; message = message.Vote vote }) (place + 1) value (before place value (subst (λ l. slice_get l place ≡ Some value) (append-nil (coins history)) is))
in_turn_more node history sender (message.Certificate certificate) fresh before place value is =
    reports_later history (record { sender = sender; message = message.Certificate certificate }) (place + 1) value
    (before place value (subst (λ l. slice_get l place ≡ Some value) (append-nil (coins history)) is))

in_turn_push : (node : Node) (history : History) (event : Event) → Adds node history event → AreInTurn history → AreInTurn (history ++ event ∷ [])
in_turn_push node history event adds before place value is =
    in_turn_more node history event.sender event.message adds.new before place value
    (subst (λ l. slice_get l place ≡ Some value) (filter_map-push (λ e. as_coin e.message) history event) is)

pub coins_in_turn : (node : Node) (history : History) (place value : ℕ) → IsLegal node history → slice_get (coins history) place ≡ Some value → ReportsCoin history (place + 1) value
coins_in_turn node history place value legal = legal-induction node AreInTurn (λ p v none. absurd cc) (in_turn_push node) history legal place value
