-- When the leaders and the order of a history are those of all that two nodes hold, up to its last committed wave.
use Rattle.std.proofs.Common.{◌≡◌, ℕ, suc, ◌≤◌, true, List, [], ◌∷◌, ◌++◌, map, length, Option, Some, None, inl, inr, refl, ap, sym, ◌∙◌, subst, arith, append_assoc}
use Rattle.std.specs.Prelude.{option_map}
use Rattle.std.specs.Option.{option_map_or}
use Rattle.std.proofs.lemmas.List.{append-nil}
use Rattle.spec_model.specs.Histories.{History, coins}
use Rattle.wire.specs.Lists.{Begins}
use Rattle.spec_model.specs.Holdings.{ledger_of, ledger_at, slots, order}
use Rattle.spec_model.specs.Nodes.{Node}
use Rattle.spec_model.specs.Ordering.{Ledger, is_directly_committed, top, last_wave, chain, segments}
use Rattle.spec_model.specs.Slots.{Slots}
use Rattle.spec_model.specs.Words.{Certificate, Digest}
use Rattle.spec_laws.specs.Laws.{last_or, committed_at}
use Rattle.spec_laws.proofs.Growing.{AreInPlace, grown}
use Rattle.spec_laws.proofs.Lists.{given_or_none}
use Rattle.spec_laws.proofs.OrderLonger.{is_top_of}
use Rattle.spec_accord.proofs.Bare.{bare, bared, plain, committed_bared, digests}
use Rattle.spec_accord.proofs.Leading.{committed_also}
use Rattle.spec_accord.proofs.Parts.{AreKept}

-- slots without votes hold all that a history's do, and coins begin with its own
pub record IsWithin (node : Node) (history : History) (all : Slots) (values : List ℕ) : Type 0 where
  pub placed : AreInPlace all
  pub kept : AreKept (bared (slots node history)) all
  pub coins : Begins (coins history) values

-- what is ordered up to a wave
abbrev pub ordered : Ledger → ℕ → List Digest
ordered ledger wave = digests (segments ledger None (chain ledger wave))

-- leaders are those of all up to a wave, a list is what these order, and the leaders up to each earlier wave that is
-- committed by itself begin them
pub record Follows (ledger : Ledger) (leading : List Certificate) (listed : List Digest) (wave : ℕ) : Type 0 where
  pub leaders : map bare leading ≡ chain ledger wave
  pub order : listed ≡ ordered ledger wave
  pub begins : (early : ℕ) → suc early ≤ wave → is_directly_committed ledger (suc early) ≡ true
      → Begins (chain ledger (suc early)) (chain ledger wave)

-- so do a history's, up to its last wave
abbrev pub IsFollowing : Node → History → Slots → List ℕ → Type 0
IsFollowing node history all values =
    Follows (ledger_of node all values) (committed_at node history) (order node history)
    (last_wave (ledger_at node history))

-- ---- lists

-- a list begins itself
pub Begins-self : {X : Type 0} (xs : List X) → Begins xs xs
Begins-self xs = record { rest = []; parts = sym (append-nil xs) }

-- and with what it begins whatever is longer
pub Begins-more : {X : Type 0} (xs ys zs : List X) → Begins xs ys → Begins xs (ys ++ zs)
Begins-more xs ys zs begins =
    record { rest = begins.rest ++ zs; parts = ap (λ l. l ++ zs) begins.parts ∙ append_assoc xs begins.rest zs }

-- the last of a list without votes
pub last_bare : (before : Option Certificate) (chain : List Certificate)
    → last_or (option_map bare before) (map bare chain) ≡ option_map bare (last_or before chain)
last_bare before [] = refl
last_bare before (c ∷ chain) = last_bare (Some c) chain

-- ---- a wave that is directly committed

-- the last wave of a node is one, if it has any
pub last_committed : (ledger : Ledger) (early : ℕ) → last_wave ledger ≡ suc early
    → is_directly_committed ledger (suc early) ≡ true
last_committed ledger early is =
    elim (given_or_none (top ledger)) [
      | inr none ↦
          let at : last_wave ledger ≡ 0 = ap (λ o. option_map_or (λ w. w) o 0) none in
          absurd (omega (arith, is, at))
      | inl found ↦
          let at : last_wave ledger ≡ found.0 = ap (λ o. option_map_or (λ w. w) o 0) found.1 in
          subst (λ w. is_directly_committed ledger w ≡ true) (sym at ∙ is)
          (is_top_of ledger (length ledger.coins) found.0 found.1).is
    ]

-- what a node commits directly all do
pub committed_whole : (ledger : Ledger) (all : Slots) → AreKept (bared ledger.slots) all → (more : List ℕ) (wave : ℕ)
    → is_directly_committed ledger wave ≡ true
    → is_directly_committed (grown (plain ledger) all more) wave ≡ true
committed_whole ledger all kept more wave is =
    committed_also (plain ledger) all kept more wave (committed_bared ledger wave ∙ is)
