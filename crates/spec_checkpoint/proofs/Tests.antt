-- What the tests of a checkpoint's records say of each record.
use Rattle.std.proofs.Common.{◌≡◌, Bool, true, false, inl, inr, List, [], ◌∷◌, ◌++◌, map, refl, sym, ap, ◌∙◌}
use Rattle.std.specs.Prelude.{not, Option, Some, None, Contains, is_some}
use Rattle.std.specs.List.{list_all}
use Rattle.std.proofs.lemmas.Bool.{and_parts}
use Rattle.std.proofs.lemmas.List.Folds.{list_all-append, list_all-map}
use Rattle.spec_laws.proofs.Lists.{Contains-nothing, Contains-cases}
use Rattle.spec_model.specs.Nodes.{Node}
use Rattle.spec_model.specs.Words.{Author, Message}
use Rattle.header.specs.Checks.{fault_of, accepts_all}
use Rattle.header.specs.declared.error.CheckError.{CheckError}
use Rattle.spec_checkpoint.specs.Data.{Checkpoint}
use Rattle.spec_checkpoint.specs.Faults.{passes, batch_tests, is_vote_sound, is_header_sound, is_certificate_sound, piece_tests, record_tests, is_whole_sound, has_no_fault}
use Rattle.spec_checkpoint.specs.Records.{ORDER_PIECE, COINS_PIECE, cut}

-- what all of a list pass, each does
pub each_passes : {X : Type 0} (test : X → Bool) (xs : List X) (x : X) → list_all test xs ≡ true → Contains xs x → test x ≡ true
each_passes test [] x all inside = absurd (Contains-nothing x inside)
each_passes test (y ∷ xs) x all inside =
    let parts = and_parts (test y) (list_all test xs) all in
    elim (Contains-cases y xs x inside) [
      | inl same ↦ ap test (sym same) ∙ parts.0
      | inr later ↦ each_passes test xs x parts.1 later
    ]

-- the tests, by the kind of the record
pub record AllSound (node : Node) (checkpoint : Checkpoint) : Type 0 where
  pub batches : list_all (λ sound. sound) (batch_tests node [] checkpoint.batches) ≡ true
  pub votes : list_all (is_vote_sound node checkpoint) checkpoint.votes ≡ true
  pub headers : list_all (is_header_sound node checkpoint) checkpoint.headers ≡ true
  pub certificates : list_all (is_certificate_sound node checkpoint) checkpoint.certificates ≡ true
  pub whole : is_whole_sound node checkpoint ≡ true

both : (xs ys : List Bool) → list_all (λ sound. sound) (xs ++ ys) ≡ true → (list_all (λ sound. sound) xs ≡ true) × (list_all (λ sound. sound) ys ≡ true)
both xs ys all = and_parts (list_all (λ sound. sound) xs) (list_all (λ sound. sound) ys) (sym (list_all-append (λ sound. sound) xs ys) ∙ all)

mapped : {X : Type 0} (test : X → Bool) (xs : List X) → list_all (λ sound. sound) (map test xs) ≡ true → list_all test xs ≡ true
mapped test xs all = sym (list_all-map (λ sound. sound) test xs) ∙ all

pub all_sound : (node : Node) (checkpoint : Checkpoint) → has_no_fault node checkpoint ≡ true → AllSound node checkpoint
all_sound node checkpoint none =
    let first = and_parts (list_all (λ sound. sound) (record_tests node checkpoint)) (is_whole_sound node checkpoint) none in
    let coins = piece_tests (cut COINS_PIECE checkpoint.coins) in
    let certificates = map (is_certificate_sound node checkpoint) checkpoint.certificates in
    let headers = map (is_header_sound node checkpoint) checkpoint.headers in
    let votes = map (is_vote_sound node checkpoint) checkpoint.votes in
    let batches = batch_tests node [] checkpoint.batches in
    let one = both (piece_tests (cut ORDER_PIECE checkpoint.order)) (batches ++ (votes ++ (headers ++ (certificates ++ coins)))) first.0 in
    let two = both batches (votes ++ (headers ++ (certificates ++ coins))) one.1 in
    let three = both votes (headers ++ (certificates ++ coins)) two.1 in
    let four = both headers (certificates ++ coins) three.1 in
    let five = both certificates coins four.1 in
    record {
      batches = two.0;
      votes = mapped (is_vote_sound node checkpoint) checkpoint.votes three.0;
      headers = mapped (is_header_sound node checkpoint) checkpoint.headers four.0;
      certificates = mapped (is_certificate_sound node checkpoint) checkpoint.certificates five.0;
      whole = first.1;
    }

pub not_true : (b : Bool) → not b ≡ true → b ≡ false
not_true false is = refl
not_true true is = absurd cc

-- what passes has no fault
pub passes_none : (node : Node) (sender : Author) (m : Message) → passes node sender m ≡ true → fault_of node.charter accepts_all (record { sender = sender; message = m }) ≡ None
passes_none node sender m is = by (fault_of node.charter accepts_all (record { sender = sender; message = m })) is
  where
    by : (o : Option CheckError) → not (is_some o) ≡ true → o ≡ None
    by None so = refl
    by (Some fault) so = absurd cc
