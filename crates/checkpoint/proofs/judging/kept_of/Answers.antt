use Rattle.std.proofs.Common.{◌≡◌, ℕ, ◌+◌, ◌/◌, List, [], length, map, Some, None, refl, sym, ap, subst, ◌∙◌, rules}
use Rattle.std.specs.Prelude.{◌==◌, All, not, is_some, if◌then◌else◌}
use Rattle.std.proofs.lemmas.List.{length-map}
use Rattle.std.proofs.lemmas.Result.{err_from_is_err_and}
use Rattle.sequencer.specs.Restored.{AreListed}
use Rattle.spec_checkpoint.specs.Data.{Checkpoint, IsCanonical, IsKeptCertificate}
use Rattle.spec_checkpoint.specs.Faults.{batch_tests, is_whole_sound}
use Rattle.spec_checkpoint.specs.Loading.{of_whole, unsound}
use Rattle.spec_checkpoint.specs.Meaning.{listed_floor, state_in}
use Rattle.spec_model.specs.Nodes.{node_view}
use Rattle.spec_model.specs.Words.{Digest}
use Rattle.wire.specs.Rising.{rises}
use Rattle.admission.specs.Kept.{IsKeptOf}
use Rattle.admission.specs.declared.kept.Kept.{Kept}
use Rattle.checkpoint.specs.Judging.{NoneFails, ReportsFirst, is_certificate_sound_at, is_header_sound_at, is_vote_sound_at, slots_at}
use Rattle.checkpoint.specs.Kept.{certificate_of, vote_of}
use Rattle.checkpoint.specs.Reader.{fault_of}
use Rattle.checkpoint.proofs.FromCertificates.{are_listed, certificate_before, same_floor}
use Rattle.checkpoint.proofs.FromRead.{IsMadeOf, kept_of_state, votes_of_others}
use Rattle.checkpoint.proofs.SameTests.{after_pieces, same_certificates, same_headers, same_last, same_round, same_votes}
use Rattle.checkpoint.proofs.Unsound.{batches_fault, certificates_fault, headers_fault, no_fault, votes_fault, whole_fault, whole_is}
use Rattle.checkpoint.proofs.judging.kept_of.Goals as goal

pub last_leader-last-requires : goal.last_leader-last-requires
last_leader-last-requires g c =
    let node = node_view g.S.Sign.scheme c.args.node.now in
    let inside = c.read.inside in
    let seen : Checkpoint = record {
      order = inside.order.items;
      batches = inside.batches.items;
      votes = map vote_of inside.votes.items;
      headers = inside.headers.items;
      certificates = inside.certificates.items;
      coins = inside.coins.items;
    } in
    let list = c.in_ok-list.field-0.list.items in
    let same : map certificate_of list ≡ seen.certificates = c.in_ok-list.ensures.list in
    let canonical : IsCanonical node seen = subst (IsCanonical node) (sym c.read.view_is) c.requires.canonical in
    let are : AreListed list = are_listed list (subst (λ l. All IsKeptCertificate l) (sym same) canonical.certificates) (ap (rises certificate_before) same ∙ canonical.certificates_rise)
    c.in_ok-list.ensures.digested in
    subst AreListed (sym c.deref.ensures.value) are

pub sound_headers-requires-clause-listed : goal.sound_headers-requires-clause-listed
sound_headers-requires-clause-listed g c =
    let node = node_view g.S.Sign.scheme c.args.node.now in
    let inside = c.read.inside in
    let seen : Checkpoint = record {
      order = inside.order.items;
      batches = inside.batches.items;
      votes = map vote_of inside.votes.items;
      headers = inside.headers.items;
      certificates = inside.certificates.items;
      coins = inside.coins.items;
    } in
    let list = c.in_ok-list.field-0.list.items in
    let same : map certificate_of list ≡ seen.certificates = c.in_ok-list.ensures.list in
    let canonical : IsCanonical node seen = subst (IsCanonical node) (sym c.read.view_is) c.requires.canonical in
    let are : AreListed list = are_listed list (subst (λ l. All IsKeptCertificate l) (sym same) canonical.certificates) (ap (rises certificate_before) same ∙ canonical.certificates_rise)
    c.in_ok-list.ensures.digested in
    subst AreListed (sym c.deref-3.ensures.value) are

pub test_certificates-requires-clause-listed : goal.test_certificates-requires-clause-listed
test_certificates-requires-clause-listed g c =
    let node = node_view g.S.Sign.scheme c.args.node.now in
    let inside = c.read.inside in
    let seen : Checkpoint = record {
      order = inside.order.items;
      batches = inside.batches.items;
      votes = map vote_of inside.votes.items;
      headers = inside.headers.items;
      certificates = inside.certificates.items;
      coins = inside.coins.items;
    } in
    let list = c.in_ok-list.field-0.list.items in
    let same : map certificate_of list ≡ seen.certificates = c.in_ok-list.ensures.list in
    let canonical : IsCanonical node seen = subst (IsCanonical node) (sym c.read.view_is) c.requires.canonical in
    let are : AreListed list = are_listed list (subst (λ l. All IsKeptCertificate l) (sym same) canonical.certificates) (ap (rises certificate_before) same ∙ canonical.certificates_rise)
    c.in_ok-list.ensures.digested in
    subst AreListed (sym c.deref-4.ensures.value) are

pub returns-in_err-batches-clause-err : goal.returns-in_err-batches-clause-err
returns-in_err-batches-clause-err g c =
    let node = node_view g.S.Sign.scheme c.args.node.now in
    let inside = c.read.inside in
    let seen : Checkpoint = record {
      order = inside.order.items;
      batches = inside.batches.items;
      votes = map vote_of inside.votes.items;
      headers = inside.headers.items;
      certificates = inside.certificates.items;
      coins = inside.coins.items;
    } in
    let list = c.in_ok-list.field-0.list.items in
    let same : map certificate_of list ≡ seen.certificates = c.in_ok-list.ensures.list in
    let last = c.last_leader-last.result in
    let coins : c.restore-coins.result ≡ seen.coins = c.restore-coins.ensures in
    let round = same_round node.charter c.deref.result.now list c.restore-coins.result seen.coins last c.deref.ensures.value coins c.last_leader-last.ensures.round in
    let floor = c.floor_of-floor.result in
    let floor_is : floor ≡ listed_floor node seen = c.floor_of-floor.ensures ∙ same_floor node seen list same last round in
    let order_long : c.len.result ≡ length seen.order = search rules in
    let batches_long : c.len-2.result ≡ length seen.batches = search rules in
    let votes_long : c.len-3.result ≡ length inside.votes.items = search rules in
    let headers_long : c.len-4.result ≡ length seen.headers = search rules in
    let of_batches = 1 + (c.len.result + 65535) / 65536 in
    let of_votes = of_batches + c.len-2.result in
    let of_headers = of_votes + c.len-3.result in
    let of_certificates = of_headers + c.len-4.result in
    let batches_at = after_pieces seen.order c.len.result order_long in
    let votes_at : of_votes ≡ of_batches + length seen.batches = ap (λ (n : ℕ). of_batches + n) batches_long in
    let headers_at : of_headers ≡ of_votes + length seen.votes = ap (λ (n : ℕ). of_votes + n) (votes_long ∙ sym (length-map inside.votes.items vote_of)) in
    let certificates_at : of_certificates ≡ of_headers + length seen.headers = ap (λ (n : ℕ). of_headers + n) headers_long in
    let error = c.in_err-batches.field-0.0 in
    let p = err_from_is_err_and c.from_residual-in_err-batches.result c.from_residual-in_err-batches.ensures.1 in
    rw (p.1, p.2) (λ apart. subst (λ r. unsound node r ≡ fault_of error) c.read.view_is (batches_fault node seen list
    same floor floor_is of_batches of_votes of_headers of_certificates batches_at votes_at headers_at certificates_at error apart c.in_err-batches.ensures.err))

pub returns-in_err-test_votes-clause-err : goal.returns-in_err-test_votes-clause-err
returns-in_err-test_votes-clause-err g c =
    let node = node_view g.S.Sign.scheme c.args.node.now in
    let inside = c.read.inside in
    let seen : Checkpoint = record {
      order = inside.order.items;
      batches = inside.batches.items;
      votes = map vote_of inside.votes.items;
      headers = inside.headers.items;
      certificates = inside.certificates.items;
      coins = inside.coins.items;
    } in
    let list = c.in_ok-list.field-0.list.items in
    let same : map certificate_of list ≡ seen.certificates = c.in_ok-list.ensures.list in
    let last = c.last_leader-last.result in
    let coins : c.restore-coins.result ≡ seen.coins = c.restore-coins.ensures in
    let round = same_round node.charter c.deref.result.now list c.restore-coins.result seen.coins last c.deref.ensures.value coins c.last_leader-last.ensures.round in
    let floor = c.floor_of-floor.result in
    let floor_is : floor ≡ listed_floor node seen = c.floor_of-floor.ensures ∙ same_floor node seen list same last round in
    let order_long : c.len.result ≡ length seen.order = search rules in
    let batches_long : c.len-2.result ≡ length seen.batches = search rules in
    let votes_long : c.len-3.result ≡ length inside.votes.items = search rules in
    let headers_long : c.len-4.result ≡ length seen.headers = search rules in
    let of_batches = 1 + (c.len.result + 65535) / 65536 in
    let of_votes = of_batches + c.len-2.result in
    let of_headers = of_votes + c.len-3.result in
    let of_certificates = of_headers + c.len-4.result in
    let batches_at = after_pieces seen.order c.len.result order_long in
    let votes_at : of_votes ≡ of_batches + length seen.batches = ap (λ (n : ℕ). of_batches + n) batches_long in
    let headers_at : of_headers ≡ of_votes + length seen.votes = ap (λ (n : ℕ). of_votes + n) (votes_long ∙ sym (length-map inside.votes.items vote_of)) in
    let certificates_at : of_certificates ≡ of_headers + length seen.headers = ap (λ (n : ℕ). of_headers + n) headers_long in
    let one : NoneFails of_batches (batch_tests node [] seen.batches) = c.in_ok-batches.ensures.ok in
    let error = c.in_err-test_votes.field-0.0 in
    let p = err_from_is_err_and c.from_residual-in_err-test_votes.result c.from_residual-in_err-test_votes.ensures.1 in
    rw (p.1, p.2) (λ apart. subst (λ r. unsound node r ≡ fault_of error) c.read.view_is (votes_fault node seen list
    same floor floor_is of_batches of_votes of_headers of_certificates batches_at votes_at headers_at certificates_at error apart one (subst (λ t. ReportsFirst of_votes t error) (same_votes node
    c.number.result floor c.deref-2.result.now inside.votes.items c.number.ensures.value c.deref-2.ensures.value) c.in_err-test_votes.ensures.err)))

pub returns-in_err-headers-clause-err : goal.returns-in_err-headers-clause-err
returns-in_err-headers-clause-err g c =
    let node = node_view g.S.Sign.scheme c.args.node.now in
    let inside = c.read.inside in
    let seen : Checkpoint = record {
      order = inside.order.items;
      batches = inside.batches.items;
      votes = map vote_of inside.votes.items;
      headers = inside.headers.items;
      certificates = inside.certificates.items;
      coins = inside.coins.items;
    } in
    let list = c.in_ok-list.field-0.list.items in
    let same : map certificate_of list ≡ seen.certificates = c.in_ok-list.ensures.list in
    let last = c.last_leader-last.result in
    let coins : c.restore-coins.result ≡ seen.coins = c.restore-coins.ensures in
    let round = same_round node.charter c.deref.result.now list c.restore-coins.result seen.coins last c.deref.ensures.value coins c.last_leader-last.ensures.round in
    let floor = c.floor_of-floor.result in
    let floor_is : floor ≡ listed_floor node seen = c.floor_of-floor.ensures ∙ same_floor node seen list same last round in
    let order_long : c.len.result ≡ length seen.order = search rules in
    let batches_long : c.len-2.result ≡ length seen.batches = search rules in
    let votes_long : c.len-3.result ≡ length inside.votes.items = search rules in
    let headers_long : c.len-4.result ≡ length seen.headers = search rules in
    let of_batches = 1 + (c.len.result + 65535) / 65536 in
    let of_votes = of_batches + c.len-2.result in
    let of_headers = of_votes + c.len-3.result in
    let of_certificates = of_headers + c.len-4.result in
    let batches_at = after_pieces seen.order c.len.result order_long in
    let votes_at : of_votes ≡ of_batches + length seen.batches = ap (λ (n : ℕ). of_batches + n) batches_long in
    let headers_at : of_headers ≡ of_votes + length seen.votes = ap (λ (n : ℕ). of_votes + n) (votes_long ∙ sym (length-map inside.votes.items vote_of)) in
    let certificates_at : of_certificates ≡ of_headers + length seen.headers = ap (λ (n : ℕ). of_headers + n) headers_long in
    let one : NoneFails of_batches (batch_tests node [] seen.batches) = c.in_ok-batches.ensures.ok in
    let two : NoneFails of_votes (map (is_vote_sound_at node floor) seen.votes) =
    subst (NoneFails of_votes) (same_votes node c.number.result floor c.deref-2.result.now inside.votes.items c.number.ensures.value c.deref-2.ensures.value) c.in_ok-test_votes.ensures.ok in
    let error = c.in_err-headers.field-0.0 in
    let p = err_from_is_err_and c.from_residual-in_err-headers.result c.from_residual-in_err-headers.ensures.1 in
    rw (p.1, p.2) (λ apart. subst (λ r. unsound node r ≡ fault_of error) c.read.view_is (headers_fault node seen list
    same floor floor_is of_batches of_votes of_headers of_certificates batches_at votes_at headers_at certificates_at error apart one two (subst (λ t. ReportsFirst of_headers t error)
    (same_headers node c.number-2.result floor c.deref-3.result.now list seen.headers c.number-2.ensures.value c.deref-3.ensures.value) c.in_err-headers.ensures.err)))

pub returns-in_err-test_certificates-clause-err : goal.returns-in_err-test_certificates-clause-err
returns-in_err-test_certificates-clause-err g c =
    let node = node_view g.S.Sign.scheme c.args.node.now in
    let inside = c.read.inside in
    let seen : Checkpoint = record {
      order = inside.order.items;
      batches = inside.batches.items;
      votes = map vote_of inside.votes.items;
      headers = inside.headers.items;
      certificates = inside.certificates.items;
      coins = inside.coins.items;
    } in
    let list = c.in_ok-list.field-0.list.items in
    let same : map certificate_of list ≡ seen.certificates = c.in_ok-list.ensures.list in
    let last = c.last_leader-last.result in
    let coins : c.restore-coins.result ≡ seen.coins = c.restore-coins.ensures in
    let round = same_round node.charter c.deref.result.now list c.restore-coins.result seen.coins last c.deref.ensures.value coins c.last_leader-last.ensures.round in
    let floor = c.floor_of-floor.result in
    let floor_is : floor ≡ listed_floor node seen = c.floor_of-floor.ensures ∙ same_floor node seen list same last round in
    let order_long : c.len.result ≡ length seen.order = search rules in
    let batches_long : c.len-2.result ≡ length seen.batches = search rules in
    let votes_long : c.len-3.result ≡ length inside.votes.items = search rules in
    let headers_long : c.len-4.result ≡ length seen.headers = search rules in
    let of_batches = 1 + (c.len.result + 65535) / 65536 in
    let of_votes = of_batches + c.len-2.result in
    let of_headers = of_votes + c.len-3.result in
    let of_certificates = of_headers + c.len-4.result in
    let batches_at = after_pieces seen.order c.len.result order_long in
    let votes_at : of_votes ≡ of_batches + length seen.batches = ap (λ (n : ℕ). of_batches + n) batches_long in
    let headers_at : of_headers ≡ of_votes + length seen.votes = ap (λ (n : ℕ). of_votes + n) (votes_long ∙ sym (length-map inside.votes.items vote_of)) in
    let certificates_at : of_certificates ≡ of_headers + length seen.headers = ap (λ (n : ℕ). of_headers + n) headers_long in
    let one : NoneFails of_batches (batch_tests node [] seen.batches) = c.in_ok-batches.ensures.ok in
    let two : NoneFails of_votes (map (is_vote_sound_at node floor) seen.votes) =
    subst (NoneFails of_votes) (same_votes node c.number.result floor c.deref-2.result.now inside.votes.items c.number.ensures.value c.deref-2.ensures.value) c.in_ok-test_votes.ensures.ok in
    let three : NoneFails of_headers (map (is_header_sound_at node floor (slots_at node floor list)) seen.headers) =
    subst (NoneFails of_headers) (same_headers node c.number-2.result floor c.deref-3.result.now list seen.headers c.number-2.ensures.value c.deref-3.ensures.value) c.in_ok-headers.ensures.ok in
    let error = c.in_err-test_certificates.field-0.0 in
    let p = err_from_is_err_and c.from_residual-in_err-test_certificates.result c.from_residual-in_err-test_certificates.ensures.1 in
    rw (p.1, p.2) (λ apart. subst (λ r. unsound node r ≡ fault_of error) c.read.view_is (certificates_fault node seen list
    same floor floor_is of_batches of_votes of_headers of_certificates batches_at votes_at headers_at certificates_at error apart one two three (subst (λ t. ReportsFirst of_certificates t error)
    (same_certificates node c.number-3.result floor c.deref-4.result.now list seen.certificates c.number-3.ensures.value c.deref-4.ensures.value same) c.in_err-test_certificates.ensures.err)))

pub returns-then-not-is_whole_sound-clause-err : goal.returns-then-not-is_whole_sound-clause-err
returns-then-not-is_whole_sound-clause-err g c apart =
    let node = node_view g.S.Sign.scheme c.args.node.now in
    let inside = c.read.inside in
    let seen : Checkpoint = record {
      order = inside.order.items;
      batches = inside.batches.items;
      votes = map vote_of inside.votes.items;
      headers = inside.headers.items;
      certificates = inside.certificates.items;
      coins = inside.coins.items;
    } in
    let list = c.in_ok-list.field-0.list.items in
    let same : map certificate_of list ≡ seen.certificates = c.in_ok-list.ensures.list in
    let last = c.last_leader-last.result in
    let coins : c.restore-coins.result ≡ seen.coins = c.restore-coins.ensures in
    let round = same_round node.charter c.deref.result.now list c.restore-coins.result seen.coins last c.deref.ensures.value coins c.last_leader-last.ensures.round in
    let floor = c.floor_of-floor.result in
    let floor_is : floor ≡ listed_floor node seen = c.floor_of-floor.ensures ∙ same_floor node seen list same last round in
    let order_long : c.len.result ≡ length seen.order = search rules in
    let batches_long : c.len-2.result ≡ length seen.batches = search rules in
    let votes_long : c.len-3.result ≡ length inside.votes.items = search rules in
    let headers_long : c.len-4.result ≡ length seen.headers = search rules in
    let of_batches = 1 + (c.len.result + 65535) / 65536 in
    let of_votes = of_batches + c.len-2.result in
    let of_headers = of_votes + c.len-3.result in
    let of_certificates = of_headers + c.len-4.result in
    let batches_at = after_pieces seen.order c.len.result order_long in
    let votes_at : of_votes ≡ of_batches + length seen.batches = ap (λ (n : ℕ). of_batches + n) batches_long in
    let headers_at : of_headers ≡ of_votes + length seen.votes = ap (λ (n : ℕ). of_votes + n) (votes_long ∙ sym (length-map inside.votes.items vote_of)) in
    let certificates_at : of_certificates ≡ of_headers + length seen.headers = ap (λ (n : ℕ). of_headers + n) headers_long in
    let one : NoneFails of_batches (batch_tests node [] seen.batches) = c.in_ok-batches.ensures.ok in
    let two : NoneFails of_votes (map (is_vote_sound_at node floor) seen.votes) =
    subst (NoneFails of_votes) (same_votes node c.number.result floor c.deref-2.result.now inside.votes.items c.number.ensures.value c.deref-2.ensures.value) c.in_ok-test_votes.ensures.ok in
    let three : NoneFails of_headers (map (is_header_sound_at node floor (slots_at node floor list)) seen.headers) =
    subst (NoneFails of_headers) (same_headers node c.number-2.result floor c.deref-3.result.now list seen.headers c.number-2.ensures.value c.deref-3.ensures.value) c.in_ok-headers.ensures.ok in
    let four : NoneFails of_certificates (map (is_certificate_sound_at node floor (slots_at node floor list)) seen.certificates) =
    subst (NoneFails of_certificates) (same_certificates node c.number-3.result floor c.deref-4.result.now list seen.certificates c.number-3.ensures.value c.deref-4.ensures.value same)
    c.in_ok-test_certificates.ensures.ok in
    let tested : c.is_whole_sound.result ≡ is_whole_sound node seen =
    c.is_whole_sound.ensures ∙ ap (λ (l : List Digest). if length l == 0 then not (is_some last) else is_some last) c.deref-6.ensures.value ∙ whole_is node seen list
    same floor floor_is of_batches of_votes of_headers of_certificates batches_at votes_at headers_at certificates_at last round in
    subst (λ r. unsound node r ≡ Some of_whole) c.read.view_is (whole_fault
    node seen list same floor floor_is of_batches of_votes of_headers of_certificates batches_at votes_at headers_at certificates_at one two three four (sym tested ∙ c.if-not-is_whole_sound.true))

pub returns-clause-ok : goal.returns-clause-ok
returns-clause-ok g c =
    let node = node_view g.S.Sign.scheme c.args.node.now in
    let inside = c.read.inside in
    let seen : Checkpoint = record {
      order = inside.order.items;
      batches = inside.batches.items;
      votes = map vote_of inside.votes.items;
      headers = inside.headers.items;
      certificates = inside.certificates.items;
      coins = inside.coins.items;
    } in
    let list = c.in_ok-list.field-0.list.items in
    let same : map certificate_of list ≡ seen.certificates = c.in_ok-list.ensures.list in
    let last = c.last_leader-last.result in
    let coins : c.restore-coins.result ≡ seen.coins = c.restore-coins.ensures in
    let round = same_round node.charter c.deref.result.now list c.restore-coins.result seen.coins last c.deref.ensures.value coins c.last_leader-last.ensures.round in
    let floor = c.floor_of-floor.result in
    let floor_is : floor ≡ listed_floor node seen = c.floor_of-floor.ensures ∙ same_floor node seen list same last round in
    let order_long : c.len.result ≡ length seen.order = search rules in
    let batches_long : c.len-2.result ≡ length seen.batches = search rules in
    let votes_long : c.len-3.result ≡ length inside.votes.items = search rules in
    let headers_long : c.len-4.result ≡ length seen.headers = search rules in
    let of_batches = 1 + (c.len.result + 65535) / 65536 in
    let of_votes = of_batches + c.len-2.result in
    let of_headers = of_votes + c.len-3.result in
    let of_certificates = of_headers + c.len-4.result in
    let batches_at = after_pieces seen.order c.len.result order_long in
    let votes_at : of_votes ≡ of_batches + length seen.batches = ap (λ (n : ℕ). of_batches + n) batches_long in
    let headers_at : of_headers ≡ of_votes + length seen.votes = ap (λ (n : ℕ). of_votes + n) (votes_long ∙ sym (length-map inside.votes.items vote_of)) in
    let certificates_at : of_certificates ≡ of_headers + length seen.headers = ap (λ (n : ℕ). of_headers + n) headers_long in
    let one : NoneFails of_batches (batch_tests node [] seen.batches) = c.in_ok-batches.ensures.ok in
    let two : NoneFails of_votes (map (is_vote_sound_at node floor) seen.votes) =
    subst (NoneFails of_votes) (same_votes node c.number.result floor c.deref-2.result.now inside.votes.items c.number.ensures.value c.deref-2.ensures.value) c.in_ok-test_votes.ensures.ok in
    let three : NoneFails of_headers (map (is_header_sound_at node floor (slots_at node floor list)) seen.headers) =
    subst (NoneFails of_headers) (same_headers node c.number-2.result floor c.deref-3.result.now list seen.headers c.number-2.ensures.value c.deref-3.ensures.value) c.in_ok-headers.ensures.ok in
    let four : NoneFails of_certificates (map (is_certificate_sound_at node floor (slots_at node floor list)) seen.certificates) =
    subst (NoneFails of_certificates) (same_certificates node c.number-3.result floor c.deref-4.result.now list seen.certificates c.number-3.ensures.value c.deref-4.ensures.value same)
    c.in_ok-test_certificates.ensures.ok in
    let tested : c.is_whole_sound.result ≡ is_whole_sound node seen =
    c.is_whole_sound.ensures ∙ ap (λ (l : List Digest). if length l == 0 then not (is_some last) else is_some last) c.deref-6.ensures.value ∙ whole_is node seen list
    same floor floor_is of_batches of_votes of_headers of_certificates batches_at votes_at headers_at certificates_at last round in
    subst (λ r. unsound node r ≡ None) c.read.view_is (no_fault
    node seen list same floor floor_is of_batches of_votes of_headers of_certificates batches_at votes_at headers_at certificates_at one two three four (sym tested ∙ c.if-not-is_whole_sound.false)).0

pub returns-clause-kept : goal.returns-clause-kept
returns-clause-kept g c =
    let node = node_view g.S.Sign.scheme c.args.node.now in
    let inside = c.read.inside in
    let seen : Checkpoint = record {
      order = inside.order.items;
      batches = inside.batches.items;
      votes = map vote_of inside.votes.items;
      headers = inside.headers.items;
      certificates = inside.certificates.items;
      coins = inside.coins.items;
    } in
    let list = c.in_ok-list.field-0.list.items in
    let same : map certificate_of list ≡ seen.certificates = c.in_ok-list.ensures.list in
    let canonical : IsCanonical node seen = subst (IsCanonical node) (sym c.read.view_is) c.requires.canonical in
    let are : AreListed list = are_listed list (subst (λ l. All IsKeptCertificate l) (sym same) canonical.certificates) (ap (rises certificate_before) same ∙ canonical.certificates_rise)
    c.in_ok-list.ensures.digested in
    let last = c.last_leader-last.result in
    let coins : c.restore-coins.result ≡ seen.coins = c.restore-coins.ensures in
    let round = same_round node.charter c.deref.result.now list c.restore-coins.result seen.coins last c.deref.ensures.value coins c.last_leader-last.ensures.round in
    let floor = c.floor_of-floor.result in
    let floor_is : floor ≡ listed_floor node seen = c.floor_of-floor.ensures ∙ same_floor node seen list same last round in
    let order_long : c.len.result ≡ length seen.order = search rules in
    let batches_long : c.len-2.result ≡ length seen.batches = search rules in
    let votes_long : c.len-3.result ≡ length inside.votes.items = search rules in
    let headers_long : c.len-4.result ≡ length seen.headers = search rules in
    let of_batches = 1 + (c.len.result + 65535) / 65536 in
    let of_votes = of_batches + c.len-2.result in
    let of_headers = of_votes + c.len-3.result in
    let of_certificates = of_headers + c.len-4.result in
    let batches_at = after_pieces seen.order c.len.result order_long in
    let votes_at : of_votes ≡ of_batches + length seen.batches = ap (λ (n : ℕ). of_batches + n) batches_long in
    let headers_at : of_headers ≡ of_votes + length seen.votes = ap (λ (n : ℕ). of_votes + n) (votes_long ∙ sym (length-map inside.votes.items vote_of)) in
    let certificates_at : of_certificates ≡ of_headers + length seen.headers = ap (λ (n : ℕ). of_headers + n) headers_long in
    let one : NoneFails of_batches (batch_tests node [] seen.batches) = c.in_ok-batches.ensures.ok in
    let two : NoneFails of_votes (map (is_vote_sound_at node floor) seen.votes) =
    subst (NoneFails of_votes) (same_votes node c.number.result floor c.deref-2.result.now inside.votes.items c.number.ensures.value c.deref-2.ensures.value) c.in_ok-test_votes.ensures.ok in
    let three : NoneFails of_headers (map (is_header_sound_at node floor (slots_at node floor list)) seen.headers) =
    subst (NoneFails of_headers) (same_headers node c.number-2.result floor c.deref-3.result.now list seen.headers c.number-2.ensures.value c.deref-3.ensures.value) c.in_ok-headers.ensures.ok in
    let four : NoneFails of_certificates (map (is_certificate_sound_at node floor (slots_at node floor list)) seen.certificates) =
    subst (NoneFails of_certificates) (same_certificates node c.number-3.result floor c.deref-4.result.now list seen.certificates c.number-3.ensures.value c.deref-4.ensures.value same)
    c.in_ok-test_certificates.ensures.ok in
    let tested : c.is_whole_sound.result ≡ is_whole_sound node seen =
    c.is_whole_sound.ensures ∙ ap (λ (l : List Digest). if length l == 0 then not (is_some last) else is_some last) c.deref-6.ensures.value ∙ whole_is node seen list
    same floor floor_is of_batches of_votes of_headers of_certificates batches_at votes_at headers_at certificates_at last round in
    let kept : Kept = record {
      batches = c.in_ok-batches.batches;
      votes = inside.votes;
      headers = c.in_ok-headers.headers;
      floor = floor;
      last = last;
      certificates = c.in_ok-list.field-0.list;
      coins = c.restore-coins.result;
      order = inside.order;
    } in
    let made : IsMadeOf node seen kept = record {
      digested = c.in_ok-batches.ensures.digested;
      held = c.in_ok-batches.ensures.held;
      votes = refl;
      others = votes_of_others node floor of_votes seen.votes two;
      voted = c.in_ok-headers.ensures.voted;
      headers = c.in_ok-headers.ensures.same;
      listed = are;
      certificates = same;
      floor = c.floor_of-floor.ensures;
      last = same_last node.charter c.deref.result.now list c.restore-coins.result seen.coins last c.deref.ensures.value coins c.last_leader-last.ensures.value;
      round = round;
      coins = sym coins;
      order = refl;
    } in
    let none = (no_fault node seen list same floor floor_is of_batches of_votes of_headers of_certificates batches_at votes_at headers_at certificates_at one two three four (sym tested
    ∙ c.if-not-is_whole_sound.false)).1 in
    subst (λ r. IsKeptOf node (state_in node r) kept) c.read.view_is (kept_of_state c.no_fault_is_sound.ensures node seen kept c.requires.node canonical none made)
