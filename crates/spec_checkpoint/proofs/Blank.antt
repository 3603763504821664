-- The checkpoint of a node that has taken nothing.
use Rattle.std.proofs.Common.{◌≡◌, ℕ, suc, zero, ◌+◌, Bool, true, false, map, [], Option, None, inl, inr, refl, sym, arith}
use Rattle.std.specs.Prelude.{find, ◌==◌, if◌then◌else◌}
use Rattle.std.specs.List.{range_with_len}
use Rattle.std.proofs.lemmas.Bool.{cases_Bool, eqb-true}
use Rattle.spec_machine.specs.Machine.{fresh}
use Rattle.spec_model.specs.Holdings.{genesis}
use Rattle.spec_model.specs.Nodes.{size_of}
use Rattle.spec_model.specs.Slots.{is_of_slot}
use Rattle.spec_checkpoint.specs.Data.{blank}
use Rattle.spec_checkpoint.specs.Meaning.{state_in}
use Rattle.spec_checkpoint.specs.Laws.{BlankIsFresh}

-- no certificate of the genesis is of another round
none_above : (from count round author : ℕ) → (round == 0) ≡ false → find (λ c. is_of_slot round author c.header) (map genesis (range_with_len from count)) ≡ None
none_above from zero round author above = refl
none_above from (suc count) round author above =
    let other : is_of_slot round author (genesis from).header ≡ false = grind (arith, above) in
    rw other (none_above (from + 1) count round author above)

either : {X : Type 0} (b : Bool) → ◌≡◌ {A = Option X} (if b then None else None) None
either true = refl
either false = refl

pub blank_is_fresh : BlankIsFresh
blank_is_fresh node = λ i. record {
  batches = [];
  acked = λ digest member. false;
  named = λ digest. false;
  votes = λ round author. either (author == node.own.0) i;
  own_headers = λ round. None;
  counted = λ round voter. None;
  slots = λ round author. placed round author i;
  highest = 0;
  coins = [];
  order = [];
}
  where
    placed : (round author : ℕ) → (state_in node blank).slots round author ≡ (fresh node).slots round author
    placed round author = elim (cases_Bool (round == 0)) [
      | inl here ↦ let is = eqb-true round 0 here in rw is refl
      | inr above ↦ rw above (sym (none_above 0 (size_of node) round author above))
    ]
