-- What is committed with one certificate or one coin more.
use Rattle.std.proofs.Common.{◌≡◌, ◌≢◌, ℕ, zero, suc, ◌+◌, ◌-◌, ◌*◌, ◌<◌, ◌≤◌, Bool, true, false, List, [], ◌∷◌, ◌++◌, length, Option, Some, None, inl, inr, refl, ap, sym, ◌∙◌, subst, arith}
use Rattle.std.proofs.Math.Path.{fun_ext}
use Rattle.std.specs.Prelude.{map, slice_get, not, nat_le, Ok, ◌==◌, ◌&&◌, ◌||◌}
use Rattle.std.specs.List.{list_any}
use Rattle.std.specs.Option.{option_map_or, option_or}
use Rattle.std.proofs.lemmas.Bool.{cases_Bool, and_parts, eqb-true, true≢false}
use Rattle.std.proofs.lemmas.Option.{same_Some, none-some}
use Rattle.std.proofs.lemmas.List.{append-nil, length-append}
use Rattle.committee.specs.Charter.{Charter, IsCharter, weight, support_of}
use Rattle.committee.proofs.Weights.{weight-none}
use Rattle.spec_model.specs.Admitting.{same_header}
use Rattle.spec_model.specs.Holdings.{is_low}
use Rattle.spec_model.specs.Ordering.{Ledger, size_in, reaches_in, leader, supports, has_support, is_directly_committed, top, newer_to}
use Rattle.spec_model.specs.Slots.{Slots, same_digest, certificate_digest, is_of_slot, slots_of, is_named, is_parent}
use Rattle.spec_model.specs.Words.{Author, Certificate}
use Rattle.spec_laws.proofs.Closed.{low_parent}
use Rattle.spec_laws.proofs.Growing.{AreInPlace, Extends, IsIn, is_in, grown, reaches_same, reaches_new, leader_kept, leader_new, leader_in, directly_committed_kept}
use Rattle.spec_laws.proofs.Lists.{given_or_none}
use Rattle.spec_laws.proofs.OrderLonger.{directly_committed_leader, leader_place}
use Rattle.spec_laws.proofs.Votes.{slot_is}
use Rattle.spec_laws.proofs.Weighing.{size_some, total_some}
use Rattle.dag.specs.Answer.{answer, held_answer}
use Rattle.dag.specs.Changes.{IsWith}
use Rattle.dag.specs.Graph.{DagView, IsGraph, slots_in, has_parent_in}
use Rattle.dag.specs.declared.answers.Added.TheVariants.{New}
use Rattle.tusk.specs.Chain.{ledger_in, coin_of, slot_of, wave_of, IsChain}
use Rattle.tusk.proofs.Chains.{IsStep, committed_within, step_none, step_some, chain_none, chain_some}
use Rattle.tusk.proofs.Supporting.{supports_in, IsLed}

-- ---- a new certificate

-- it isn't low, and its slot holds nothing
pub record IsNew (graph : DagView) (certificate : Certificate) : Type 0 where
  pub high : is_low graph.floor certificate.header.round ≡ false
  pub free : slots_in graph certificate.header.round certificate.header.author.0 ≡ None

held_not_new : (held certificate : Certificate) → held_answer held certificate ≡ Ok New → ⊥
held_not_new held certificate is =
    elim (cases_Bool (same_digest (certificate_digest held.header) (certificate_digest certificate.header))) [
      | inr other ↦ let bad = rw other at is in cc
      | inl same ↦ elim (cases_Bool (same_header held.header certificate.header)) [
        | inl alike ↦ let bad = rw (same, alike) at is in cc
        | inr other ↦ let bad = rw (same, other) at is in cc
      ]
    ]

pub is_new : (graph : DagView) (certificate : Certificate) → answer graph certificate ≡ Ok New → IsNew graph certificate
is_new graph certificate is =
    elim (cases_Bool (is_low graph.floor certificate.header.round)) [
      | inl low ↦ let bad = rw low at is in absurd cc
      | inr high ↦ elim (given_or_none (slots_in graph certificate.header.round certificate.header.author.0)) [
        | inl held ↦ let bad = rw (high, held.1) at is in absurd (held_not_new held.0 certificate bad)
        | inr none ↦ record { high = high; free = none }
      ]
    ]

-- what was held is held
stays : (before after : DagView) (certificate : Certificate) → IsWith before after certificate → (round author : ℕ) (c : Certificate)
    → slots_in before round author ≡ Some c → slots_in after round author ≡ Some c
stays before after certificate more round author c held = more.slots round author ∙ ap (λ o. option_or o (slots_of (certificate ∷ []) round author)) held

-- what is held of another slot was held
elsewhere : (before after : DagView) (certificate : Certificate) → IsWith before after certificate → (round author : ℕ)
    → is_of_slot round author certificate.header ≡ false → slots_in after round author ≡ slots_in before round author
elsewhere before after certificate more round author other =
    elim (given_or_none (slots_in before round author)) [
      | inl old ↦ stays before after certificate more round author old.0 old.1 ∙ sym old.1
      | inr none ↦ more.slots round author ∙ ap (λ o. option_or o (slots_of (certificate ∷ []) round author)) none ∙ rw other (sym none)
    ]

-- what wasn't held is the new one
fresh : (before after : DagView) (certificate : Certificate) → IsWith before after certificate → (round author : ℕ) (c : Certificate)
    → slots_in before round author ≡ None → slots_in after round author ≡ Some c
    → (is_of_slot round author certificate.header ≡ true) × (certificate ≡ c)
fresh before after certificate more round author c none new =
    let found : slots_of (certificate ∷ []) round author ≡ Some c = sym (more.slots round author ∙ ap (λ o. option_or o (slots_of (certificate ∷ []) round author)) none) ∙ new in
    elim (cases_Bool (is_of_slot round author certificate.header)) [
      | inl here ↦ let is = rw here at found in (here, same_Some certificate c is)
      | inr other ↦ let nothing = rw other at found in absurd cc
    ]

placed_after : (before after : DagView) (certificate : Certificate) → IsGraph before → IsWith before after certificate → AreInPlace (slots_in after)
placed_after before after certificate is more round author c held =
    elim (given_or_none (slots_in before round author)) [
      | inl old ↦
          let same : old.0 ≡ c = same_Some old.0 c (sym (stays before after certificate more round author old.0 old.1) ∙ held) in
          ap (λ (d : Certificate). is_of_slot round author d.header) (sym same) ∙ is.placed round author old.0 old.1
      | inr none ↦ let new = fresh before after certificate more round author c none held in ap (λ (d : Certificate). is_of_slot round author d.header) (sym new.1) ∙ new.0
    ]

-- nothing that is held has it as a parent
childless : (before after : DagView) (certificate : Certificate) → IsGraph before → IsNew before certificate → IsWith before after certificate
    → (above other : ℕ) (child : Certificate) → slots_in after above other ≡ Some child
    → is_parent certificate child ≡ false
childless before after certificate is new more above other child held =
    elim (cases_Bool (is_parent certificate child)) [
      | inr not ↦ not
      | inl names ↦ elim (given_or_none (slots_in before above other)) [
        | inl old ↦
            let same : old.0 ≡ child = same_Some old.0 child (sym (stays before after certificate more above other old.0 old.1) ∙ held) in
            let low = low_parent (slots_in before) before.floor certificate old.0 (is.held above other old.0 old.1) new.free (ap (is_parent certificate) same ∙ names) in
            absurd (true≢false (sym low ∙ new.high))
        | inr none ↦
            let same = (fresh before after certificate more above other child none held).1 in
            let names' : is_parent certificate certificate ≡ true = ap (is_parent certificate) same ∙ names in
            let round = eqb-true _ _ (and_parts (certificate.header.round + 1 == certificate.header.round) (list_any (is_named certificate) certificate.header.parents) names').0 in
            absurd (omega (arith, round))
      ]
    ]

pub extends : (before after : DagView) (certificate : Certificate) → IsGraph before → IsNew before certificate → IsWith before after certificate → Extends (slots_in before) (slots_in after)
extends before after certificate is new more = record {
  placed_before = is.placed;
  placed_after = placed_after before after certificate is more;
  kept = stays before after certificate more;
  childless = λ round author c none held above other child there.
      ap (λ d. is_parent d child) (sym (fresh before after certificate more round author c none held).1) ∙ childless before after certificate is new more above other child there;
}

-- ---- what is committed with it

-- the order's parts with a certificate more
abbrev pub with_certificate : DagView → DagView → List ℕ → Ledger
with_certificate before after coins = grown (ledger_in before coins) (slots_in after) []

pub same_ledger : (before after : DagView) (certificate : Certificate) (coins : List ℕ) → IsWith before after certificate → with_certificate before after coins ≡ ledger_in after coins
same_ledger before after certificate coins more =
    ap (λ (c : Charter). let l : Ledger = record { charter = c; slots = slots_in after; coins = coins ++ [] } in l) (sym more.charter)
    ∙ ap (λ (c : List ℕ). let l : Ledger = record { charter = after.charter; slots = slots_in after; coins = c } in l) (append-nil coins)

-- nobody is too few
no_support : (charter : Charter) → IsCharter charter → (test : ℕ → Bool) → ((m : ℕ) → test m ≡ false) → nat_le (support_of charter) (weight charter test) ≡ false
no_support charter sound test none =
    let some = total_some charter sound in
    let positive : 0 < support_of charter = omega (arith, some) in
    let nothing : weight charter test ≡ 0 = ap (weight charter) (fun_ext none) ∙ weight-none charter in
    ap (nat_le (support_of charter)) nothing ∙ grind (arith, positive)

-- a wave that had no leader isn't committed
pub no_leader : (before after : DagView) (certificate : Certificate) (coins : List ℕ) → IsGraph before → IsNew before certificate
    → IsWith before after certificate → (wave : ℕ) → leader (ledger_in before coins) wave ≡ None
    → is_directly_committed (with_certificate before after coins) wave ≡ false
no_leader before after certificate coins is new more wave none =
    let now = with_certificate before after coins in
    let ext = extends before after certificate is new more in
    elim (cases_Bool (is_directly_committed now wave)) [
      | inr not ↦ not
      | inl committed ↦
          let within = (committed_within now wave committed).1 in
          let long = length-append coins [] in
          let lead = directly_committed_leader now wave committed in
          let at = leader_new (ledger_in before coins) (slots_in after) [] wave lead.0 (omega (arith, within, long)) none lead.1 in
          let nobody : has_support now lead.0 ≡ false =
          no_support before.charter is.charter (supports now lead.0)
          (λ m. elim (given_or_none (slots_in after (lead.0.header.round + 1) m)) [
            | inl child ↦ ap (λ o. option_map_or (is_parent lead.0) o false) child.1 ∙ ext.childless at.0 at.1 lead.0 at.2 at.3 (lead.0.header.round + 1) m child.0 child.1
            | inr nothing ↦ ap (λ o. option_map_or (is_parent lead.0) o false) nothing
          ]) in
          absurd (true≢false (sym lead.2 ∙ nobody))
    ]

-- a leader is supported as before where the certificate isn't of the next round
same_support : (before after : DagView) (certificate : Certificate) (coins : List ℕ) → IsWith before after certificate → (c : Certificate) → certificate.header.round ≢ c.header.round + 1
    → has_support (with_certificate before after coins) c ≡ has_support (ledger_in before coins) c
same_support before after certificate coins more c apart =
    ap (λ (f : ℕ → Bool). nat_le (support_of before.charter) (weight before.charter f))
    (fun_ext (λ m. ap (λ o. option_map_or (is_parent c) o false)
    (elsewhere before after certificate more (c.header.round + 1) m
    (elim (cases_Bool (is_of_slot (c.header.round + 1) m certificate.header)) [
      | inl here ↦ absurd (apart (slot_is (c.header.round + 1) m certificate.header here).0)
      | inr other ↦ other
    ]))))

-- so no more than one wave is committed with it
pub one_wave : (before after : DagView) (certificate : Certificate) (coins : List ℕ) → IsGraph before → IsNew before certificate
    → IsWith before after certificate → (wave : ℕ) → ((v : ℕ) → v ≢ wave → certificate.header.round ≢ 2 * v)
    → IsStep (ledger_in before coins) (with_certificate before after coins) wave
one_wave before after certificate coins is new more wave apart =
    let was = ledger_in before coins in
    let now = with_certificate before after coins in
    let ext = extends before after certificate is new more in
    let long = length-append coins [] in
    record {
      kept = directly_committed_kept was (slots_in after) ext [];
      fewer = λ v other within. omega (arith, within, long);
      same = λ v other within. elim (given_or_none (leader was v)) [
        | inr none ↦ no_leader before after certificate coins is new more v none ∙ sym (ap (λ o. option_map_or (has_support was) o false) none)
        | inl found ↦
            let round = leader_round was v found.0 (size_some before.charter is.charter) is.placed found.1 in
            let away = apart v other in
            ap (λ o. option_map_or (has_support now) o false) (leader_kept was (slots_in after) ext [] v found.0 found.1)
            ∙ same_support before after certificate coins more found.0 (λ same. away (same ∙ round))
            ∙ sym (ap (λ o. option_map_or (has_support was) o false) found.1)
      ];
    }
  where
    leader_round : (ledger : Ledger) (v : ℕ) (c : Certificate) → 0 < size_in ledger → AreInPlace ledger.slots → leader ledger v ≡ Some c → c.header.round + 1 ≡ 2 * v
    leader_round ledger zero c some placed lead = absurd cc
    leader_round ledger (suc v) c some placed lead = let place = leader_place ledger v c some placed lead in omega (arith, place.0)

-- a member supports a leader of the round below with it if it did so before, or is its author and it names the leader
supports_with : (before after : DagView) (certificate : Certificate) (coins : List ℕ) → IsNew before certificate → IsWith before after certificate
    → (c : Certificate) → c.header.round + 1 ≡ certificate.header.round → (m : ℕ)
    → supports (with_certificate before after coins) c m ≡ (supports (ledger_in before coins) c m || ((m == certificate.header.author.0) && list_any (is_named c) certificate.header.parents))
supports_with before after certificate coins new more c next m =
    let above = c.header.round + 1 in
    let level : (above == certificate.header.round) ≡ true = grind (arith, next) in
    let level' : (certificate.header.round == above) ≡ true = grind (arith, next) in
    let all = more.slots above m in
    elim (cases_Bool (m == certificate.header.author.0)) [
      | inl own ↦
          let author = eqb-true m certificate.header.author.0 own in
          let own' : (certificate.header.author.0 == m) ≡ true = grind (arith, author) in
          let none : slots_in before above m ≡ None = ap (slots_in before above) author ∙ ap (λ (r : ℕ). slots_in before r certificate.header.author.0) next ∙ new.free in
          let here : slots_in after above m ≡ Some certificate = all ∙ ap (λ o. option_or o (slots_of (certificate ∷ []) above m)) none ∙ rw (level', own') refl in
          ap (λ o. option_map_or (is_parent c) o false) here
          ∙ rw (level, own, none) refl
      | inr other ↦
          let other' : (certificate.header.author.0 == m) ≡ false = grind (arith, other) in
          let away : is_of_slot above m certificate.header ≡ false = rw (level', other') refl in
          ap (λ o. option_map_or (is_parent c) o false) (elsewhere before after certificate more above m away)
          ∙ rw other (sym (or_false (supports (ledger_in before coins) c m)))
    ]
  where
    or_false : (b : Bool) → (b || false) ≡ b
    or_false true = refl
    or_false false = refl

-- so a set of those is enough exactly where the leader has support
pub enough_with : (before after : DagView) (certificate : Certificate) (coins : List ℕ) → IsGraph before → IsNew before certificate
    → IsWith before after certificate → (round author : ℕ) (c : Certificate) → slots_in before round author ≡ Some c
    → round + 1 ≡ certificate.header.round → (test : ℕ → Bool)
    → ((m : ℕ) → test m ≡ (has_parent_in before (round + 1) m round author || ((m == certificate.header.author.0) && list_any (is_named c) certificate.header.parents)))
    → has_support (with_certificate before after coins) c ≡ nat_le (support_of before.charter) (weight before.charter test)
enough_with before after certificate coins is new more round author c held next test all =
    let place = slot_is round author c.header (is.placed round author c held) in
    ap (λ (f : ℕ → Bool). nat_le (support_of before.charter) (weight before.charter f))
    (fun_ext (λ m. supports_with before after certificate coins new more c (omega (arith, next, place.0)) m
    ∙ ap (λ b. b || ((m == certificate.header.author.0) && list_any (is_named c) certificate.header.parents)) (sym (supports_in before is coins round author c held m))
    ∙ sym (all m)))

-- ---- a coin

-- the slots extend themselves
pub same_slots : (slots : Slots) → AreInPlace slots → Extends slots slots
same_slots slots placed = record {
  placed_before = placed;
  placed_after = placed;
  kept = λ round author c held. held;
  childless = λ round author c none held. absurd (none-some c (sym none ∙ held));
}

coin_after : (coins : List ℕ) (value : ℕ) → slice_get (coins ++ value ∷ []) (length coins) ≡ Some value
coin_after [] value = refl
coin_after (coin ∷ coins) value = coin_after coins value

pub coin_last : (coins : List ℕ) (value wave : ℕ) → wave ≡ length coins + 1 → Some value ≡ coin_of (coins ++ value ∷ []) wave
coin_last coins value wave is =
    let next : suc (length coins) ≡ wave = omega (arith, is) in
    sym (coin_after coins value) ∙ ap (coin_of (coins ++ value ∷ [])) next

-- with a coin no more than its wave is committed
pub one_coin : (graph : DagView) (coins : List ℕ) (value wave : ℕ) → IsGraph graph → wave ≡ length coins + 1 → IsStep (ledger_in graph coins) (ledger_in graph (coins ++ value ∷ [])) wave
one_coin graph coins value wave is last =
    let was = ledger_in graph coins in
    let now = ledger_in graph (coins ++ value ∷ []) in
    let ext = same_slots (slots_in graph) is.placed in
    let long : length (coins ++ value ∷ []) ≡ length coins + 1 = length-append coins (value ∷ []) in
    record {
      kept = directly_committed_kept was (slots_in graph) ext (value ∷ []);
      fewer = λ v other within. omega (arith, within, long, last, other);
      same = λ v other within. elim (given_or_none (leader was v)) [
        | inl found ↦ ap (λ o. option_map_or (has_support now) o false) (leader_kept was (slots_in graph) ext (value ∷ []) v found.0 found.1)
            ∙ sym (ap (λ o. option_map_or (has_support was) o false) found.1)
        | inr none ↦ elim (given_or_none (leader now v)) [
          | inl new ↦
              let at = leader_new was (slots_in graph) (value ∷ []) v new.0 (omega (arith, within, long, last, other)) none new.1 in
              absurd (none-some new.0 (sym at.2 ∙ at.3))
          | inr nothing ↦ ap (λ o. option_map_or (has_support now) o false) nothing ∙ sym (ap (λ o. option_map_or (has_support was) o false) none)
        ]
      ];
    }

-- ---- the chain

-- the newer leaders committed with one that was held are as before
newer_same : (before : Ledger) (after : Slots) (more : List ℕ) → Extends before.slots after → (base wave : ℕ) (last : Certificate) → wave ≤ length before.coins → IsIn before.slots last
    → newer_to (grown before after more) base wave last ≡ newer_to before base wave last
newer_same before after more ext base zero last within held = refl
newer_same before after more ext base (suc wave) last within held =
    let lower = newer_same before after more ext base wave last (omega (arith, within)) held in
    elim (cases_Bool (nat_le (suc wave) base)) [
      | inl done ↦ rw done refl
      | inr young ↦ elim (given_or_none (leader before (suc wave))) [
        | inl earlier ↦
            let also = leader_kept before after ext more (suc wave) earlier.0 earlier.1 in
            let same = reaches_same (size_in before) before.slots after ext last earlier.0 held in
            let under = newer_same before after more ext base wave earlier.0 (omega (arith, within)) (leader_in before (suc wave) earlier.0 ext.placed_before earlier.1) in
            elim (cases_Bool (reaches_in before last earlier.0)) [
              | inl reached ↦ let reached' = same ∙ reached in rw (young, earlier.1, also, reached, reached') (ap (λ l. l ++ last ∷ []) under)
              | inr missed ↦ let missed' = same ∙ missed in rw (young, earlier.1, also, missed, missed') lower
            ]
        | inr none ↦ elim (given_or_none (leader (grown before after more) (suc wave))) [
          | inl new ↦
              let at = leader_new before after more (suc wave) new.0 within none new.1 in
              let missed = reaches_new (size_in before) before.slots after ext last at.0 at.1 new.0 held at.2 at.3 in
              rw (young, none, new.1, missed) lower
          | inr nothing ↦ rw (young, none, nothing) lower
        ]
      ]
    ]

-- a wave whose leader has support is committed, and with it the leaders that were taken
pub grows_some : (before : Ledger) (after : Slots) (more : List ℕ) (last : Option ℕ) (wave : ℕ) (c : Certificate) (chain : List (ℕ × Author)) → Extends before.slots after → 0 < size_in before
    → IsStep before (grown before after more) wave → top before ≡ last → wave_of last < wave → wave ≤ length before.coins + 1 → IsIn before.slots c → leader (grown before after more) wave ≡ Some c
    → has_support (grown before after more) c ≡ true → chain ≡ map slot_of (newer_to before (wave_of last) (wave - 1) c) → IsChain (grown before after more) last chain
grows_some before after more last wave c chain ext some step is higher within held leads supported all =
    let now = grown before after more in
    let next : suc (wave - 1) ≡ wave = omega (arith, higher) in
    let committed : is_directly_committed now wave ≡ true = ap (λ o. option_map_or (has_support now) o false) leads ∙ supported in
    let greatest = step_some before now wave last step is higher committed in
    chain_some now last (wave - 1) c chain some ext.placed_after (greatest ∙ ap (λ w. Some w) (sym next)) (omega (arith, higher, next)) (ap (leader now) next ∙ leads)
    (all ∙ ap (map slot_of) (sym (newer_same before after more ext (wave_of last) (wave - 1) c (omega (arith, within)) held)))

-- where it isn't committed nothing is
pub grows_none : (before now : Ledger) (last : Option ℕ) (wave : ℕ) (chain : List (ℕ × Author)) → IsStep before now wave → top before ≡ last
    → (wave_of last < wave → is_directly_committed now wave ≡ false) → chain ≡ [] → IsChain now last chain
grows_none before now last wave chain step is none empty = chain_none now last chain (step_none before now wave last step is none) empty

-- so it is with a certificate
pub certificate_some : (before after : DagView) (certificate : Certificate) (coins : List ℕ) (last : Option ℕ) (wave round author : ℕ)
    (chain : List (ℕ × Author)) → IsGraph before → IsNew before certificate → IsWith before after certificate
    → top (ledger_in before coins) ≡ last → certificate.header.round ≡ 2 * wave → wave_of last < wave → (led : IsLed (ledger_in before coins) wave round author)
    → has_support (with_certificate before after coins) led.certificate ≡ true → chain ≡ map slot_of (newer_to (ledger_in before coins) (wave_of last) (wave - 1) led.certificate)
    → IsChain (ledger_in after coins) last chain
certificate_some before after certificate coins last wave round author chain is new more is_top level higher led supported all =
    let ext = extends before after certificate is new more in
    let leads = leader_kept (ledger_in before coins) (slots_in after) ext [] wave led.certificate led.leads in
    let within = committed_within (with_certificate before after coins) wave (ap (λ o. option_map_or (has_support (with_certificate before after coins)) o false) leads ∙ supported) in
    let long = length-append coins [] in
    subst (λ l. IsChain l last chain) (same_ledger before after certificate coins more)
    (grows_some (ledger_in before coins) (slots_in after) [] last wave led.certificate chain ext (size_some before.charter is.charter)
    (one_wave before after certificate coins is new more wave (λ v other same. other (omega (arith, level, same)))) is_top higher (omega (arith, within.1, long))
    (is_in (slots_in before) round author led.certificate is.placed led.held) leads supported all)

pub certificate_none : (before after : DagView) (certificate : Certificate) (coins : List ℕ) (last : Option ℕ) (wave : ℕ) (chain : List (ℕ × Author))
    → IsGraph before → IsNew before certificate → IsWith before after certificate
    → top (ledger_in before coins) ≡ last → ((v : ℕ) → v ≢ wave → certificate.header.round ≢ 2 * v)
    → (wave_of last < wave → is_directly_committed (with_certificate before after coins) wave ≡ false) → chain ≡ []
    → IsChain (ledger_in after coins) last chain
certificate_none before after certificate coins last wave chain is new more is_top apart none empty =
    subst (λ l. IsChain l last chain) (same_ledger before after certificate coins more)
    (grows_none (ledger_in before coins) (with_certificate before after coins) last wave chain (one_wave before after certificate coins is new more wave apart) is_top none empty)

-- a leader without support isn't committed
pub not_enough : (before after : DagView) (certificate : Certificate) (coins : List ℕ) (wave : ℕ) (c : Certificate)
    → Extends (slots_in before) (slots_in after) → leader (ledger_in before coins) wave ≡ Some c
    → has_support (with_certificate before after coins) c ≡ false → is_directly_committed (with_certificate before after coins) wave ≡ false
not_enough before after certificate coins wave c ext leads few =
    ap (λ o. option_map_or (has_support (with_certificate before after coins)) o false) (leader_kept (ledger_in before coins) (slots_in after) ext [] wave c leads) ∙ few
