use Rattle.std.proofs.Common.{◌≡◌, ℕ, List, ap, sym, ◌∙◌, Some, option_copied}
use Rattle.wire.specs.declared.keys.Digest.{Digest}
use Rattle.spec_model.specs.Holdings.{batch_digest}
use Rattle.spec_model.specs.States.{batch_in}
use Rattle.ref_admission.proofs.admitting.batch_answer.Goals as goal

-- a digest of these bytes
of_bytes : List ℕ → Digest
of_bytes bytes = record { 0 = bytes }

pub returns-in-Some : goal.returns-in-Some
unfolding of_bytes
returns-in-Some g c =
    let state = g.H.Held.state c.args.now.now in
    let digest : c.batch_digest.result ≡ batch_digest c.args.batch.now = ap of_bytes c.batch_digest.ensures in
    let held : batch_in state (batch_digest c.args.batch.now) ≡ Some c.in-Some.held.now =
    sym (ap (batch_in state) digest) ∙ sym c.batch.ensures ∙ ap option_copied c.in-Some.is in
    rw held c.held_batch_answer.ensures
