-- The coins of legal histories agree where the coin of each wave has one value.
use Rattle.std.proofs.Common.{◌≡◌, ℕ, ◌+◌, suc, Bool, true, List, [], ◌∷◌, Some, inl, inr, refl, ap, sym, ◌∙◌, arith}
use Rattle.std.specs.Prelude.{slice_get}
use Rattle.wire.specs.declared.message.Message.TheVariants as message
use Rattle.spec_model.specs.Histories.{coins}
use Rattle.spec_model.specs.Words.{Coin, Digest, Event}
use Rattle.spec_laws.proofs.CoinsInTurn.{coins_in_turn}
use Rattle.spec_accord.specs.Accord.{Agree}
use Rattle.spec_accord.specs.Members.{Party, IsParty, HasCoins}

-- ---- lists that say one function

-- from a number on a list has at each place what a function gives
abbrev Says : (ℕ → ℕ) → ℕ → List ℕ → Type 0
Says f start xs = (place x : ℕ) → slice_get xs place ≡ Some x → x ≡ f (start + place)

says_first : (f : ℕ → ℕ) (start x : ℕ) (xs : List ℕ) → Says f start (x ∷ xs) → x ≡ f start
says_first f start x xs says = let at : start + 0 ≡ start = omega arith in says 0 x refl ∙ ap f at

after : (x : ℕ) (xs : List ℕ) (place y : ℕ) → slice_get xs place ≡ Some y → slice_get (x ∷ xs) (place + 1) ≡ Some y
after x xs place y is = let next : place + 1 ≡ suc place = omega arith in ap (slice_get (x ∷ xs)) next ∙ is

says_rest : (f : ℕ → ℕ) (start x : ℕ) (xs : List ℕ) → Says f start (x ∷ xs) → Says f (start + 1) xs
says_rest f start x xs says place y is =
    let at : start + (place + 1) ≡ (start + 1) + place = omega arith in
    says (place + 1) y (after x xs place y is) ∙ ap f at

-- with one thing more at their front lists agree still
agree_more : {X : Type 0} (x y : X) (xs ys : List X) → x ≡ y → Agree xs ys → Agree (x ∷ xs) (y ∷ ys)
agree_more x y xs ys same (inl begins) =
    inl (record { rest = begins.rest; parts = ap (λ z. z ∷ ys) (sym same) ∙ ap (λ l. x ∷ l) begins.parts })
agree_more x y xs ys same (inr begins) =
    inr (record { rest = begins.rest; parts = ap (λ z. z ∷ xs) same ∙ ap (λ l. y ∷ l) begins.parts })

-- one of two lists that say one function begins the other
says_agree : (f : ℕ → ℕ) (start : ℕ) (xs ys : List ℕ) → Says f start xs → Says f start ys → Agree xs ys
says_agree f start [] ys one other = inl (record { rest = ys; parts = refl })
says_agree f start (x ∷ xs) [] one other = inr (record { rest = x ∷ xs; parts = refl })
says_agree f start (x ∷ xs) (y ∷ ys) one other =
    agree_more x y xs ys (says_first f start x xs one ∙ sym (says_first f start y ys other))
    (says_agree f (start + 1) xs ys (says_rest f start x xs one) (says_rest f start y ys other))

-- ---- coins

-- the coins that an honest member has settled say the one value of each wave
coins_say : (party : Party) (signed : ℕ → Digest → Bool) (value : ℕ → ℕ) → IsParty party signed → HasCoins party value
    → (member : ℕ) → party.honest member ≡ true
    → Says value 1 (coins (party.settled member))
coins_say party signed value is coins_are member honest place x at =
    let reports = coins_in_turn (party.node member) (party.settled member) place x (is.legal member honest) at in
    let coin : Coin = record { wave = place + 1; value = x } in
    let event : Event = record { sender = reports.sender; message = message.Coin coin } in
    let turn : place + 1 ≡ 1 + place = omega arith in
    coins_are.each member honest event reports.reported coin refl ∙ ap value turn

pub coins_agree : (party : Party) (signed : ℕ → Digest → Bool) (value : ℕ → ℕ) → IsParty party signed
    → HasCoins party value
    → (one other : ℕ) → party.honest one ≡ true → party.honest other ≡ true
    → Agree (coins (party.settled one)) (coins (party.settled other))
coins_agree party signed value is coins_are one other honest also =
    says_agree value 1 (coins (party.settled one)) (coins (party.settled other))
    (coins_say party signed value is coins_are one honest) (coins_say party signed value is coins_are other also)
