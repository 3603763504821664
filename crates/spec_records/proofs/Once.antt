-- That a record is that of one event only.
use Rattle.std.proofs.Common.{◌≡◌, ℕ, ◌<◌, ◌^◌, List, [], length, take, drop, inl, inr, ap, sym, ◌∙◌, arith}
use Rattle.std.specs.Prelude.{true, None, get_or}
use Rattle.std.specs.Int.{w16, from_be_bytes}
use Rattle.std.proofs.lemmas.Bool.{cases_Bool, ltb-true}
use Rattle.std.proofs.lemmas.List.{append-nil}
use Rattle.std.proofs.lemmas.Nat.{from_be_bytes-to_be_bytes_2}
use Rattle.committee.specs.Charter.{Charter, IsCharter}
use Rattle.header.specs.Checks.{fault_of, accepts_all, is_member}
use Rattle.wire.specs.Events.{Event}
use Rattle.wire.specs.Encoding.{encoding}
use Rattle.wire_read.proofs.Messages.{one_message}
use Rattle.spec_records.specs.Records.{IsChecked, OneRecord, NoConfiguration}

-- who sent what passed is a member
sender_is_member : (charter : Charter) (event : Event) → fault_of charter accepts_all event ≡ None → is_member charter event.sender ≡ true
sender_is_member charter event passed =
    elim (cases_Bool (is_member charter event.sender)) [
      | inl member ↦ member
      | inr none ↦ let fails = rw none at passed in absurd cc
    ]

-- and its number has two bytes
sender_fits : (charter : Charter) (event : Event) → IsCharter charter → IsChecked charter event → event.sender.0 < 2 ^ 16
sender_fits charter event committee checked =
    let below : event.sender.0 < length charter.keys = ltb-true _ _ (sender_is_member charter event checked.passed) in
    omega (arith, below, committee.size)

pub one_record : OneRecord
one_record charter one other committee checked also same =
    let fits = sender_fits charter one committee checked in
    let fits' = sender_fits charter other committee also in
    let sender : one.sender.0 ≡ other.sender.0 =
    sym (from_be_bytes-to_be_bytes_2 one.sender.0 fits) ∙ ap (λ (l : List ℕ). from_be_bytes w16 (take 2 (drop 1 l))) same ∙ from_be_bytes-to_be_bytes_2 other.sender.0 fits' in
    let after : encoding one.message ≡ encoding other.message = ap (drop 3) same in
    let message = (one_message one.message other.message [] [] checked.message also.message (append-nil (encoding one.message) ∙ after ∙ sym (append-nil (encoding other.message)))).0 in
    (λ i. record { sender = record { 0 = sender i }; message = message i })

pub no_configuration : NoConfiguration
no_configuration event version charter own same = omega (arith, ap (λ (l : List ℕ). get_or l 0 0) same)
