-- What is kept of a sound state has a checkpoint that a node writes, and it is that state.
use Rattle.std.proofs.Common.{◌≡◌, ℕ, ◌^◌, ◌<◌, Option, Some, None, inl, inr, refl, sym, ap, ◌∙◌, subst}
use Rattle.std.proofs.Math.Path.{fun_ext}
use Rattle.std.specs.Prelude.{◌==◌, All, option_map}
use Rattle.std.proofs.lemmas.Bool.{cases_Bool, eqb-true, eq-eqb, true≢false}
use Rattle.admission.specs.Kept.{IsKeptOf}
use Rattle.admission.specs.declared.kept.Kept.{Kept}
use Rattle.sigface.specs.Seeds.{seed_of}
use Rattle.spec_machine.proofs.Grown.{same_state}
use Rattle.spec_model.specs.Nodes.{Node}
use Rattle.spec_model.specs.Slots.{header_digest}
use Rattle.spec_model.specs.States.{State}
use Rattle.spec_model.specs.Words.{Header}
use Rattle.wire.specs.Fields.{IsDigest}
use Rattle.spec_checkpoint.specs.Data.{KeptHeader, Checkpoint, IsWritten}
use Rattle.spec_checkpoint.specs.Meaning.{kept_header, state_in}
use Rattle.checkpoint.specs.Kept.{AreOfOthers, CheckpointIsState, checkpoint_of}
use Rattle.checkpoint.proofs.KeptBatches.{kept_batches_are, same_acked, same_batches, same_named}
use Rattle.checkpoint.proofs.KeptCertificates.{certificates_rise, kept_certificates_are, same_highest, same_slots}
use Rattle.checkpoint.proofs.KeptHeaders.{headers_rise, kept_headers_are, same_counted, same_own}
use Rattle.checkpoint.proofs.KeptVotes.{kept_votes_are, same_votes, votes_are_of_others, votes_rise}
use Rattle.checkpoint.proofs.Rising.{pairs_rise}

module _ (node : Node) (state : State) (kept : Kept) (of : IsKeptOf node state kept) (listed : All (AreOfOthers node.own.0) kept.headers.items) where
  abbrev checkpoint : Checkpoint
  checkpoint = checkpoint_of kept

  written : IsWritten node checkpoint
  written = record {
    canonical = record {
      order = subst (All IsDigest) (sym of.parts.order) of.sound.ordered;
      batches = kept_batches_are node state kept.batches.items of.node_is of.sound.batches (of.batches (seed_of node.sign));
      votes = kept_votes_are node state kept.votes.items of.node_is of.sound.votes of.votes_rise of.votes;
      votes_rise = votes_rise kept.votes.items of.votes_rise;
      headers = kept_headers_are node state kept.headers.items of.node_is of.sound.votes of.voted of.headers listed;
      headers_rise = pairs_rise _ checkpoint.headers (headers_rise node state kept.headers.items of.node_is of.sound.votes of.voted of.headers listed);
      certificates = kept_certificates_are node state kept.certificates.items kept.coins of.sound.certificates of.parts.coins of.parts.listed of.parts.held;
      certificates_rise = pairs_rise _ checkpoint.certificates (certificates_rise node state kept.certificates.items kept.coins of.sound.certificates of.parts.coins of.parts.listed of.parts.held);
      coins = subst (All (λ coin. coin < 2 ^ 64)) (sym of.parts.coins) of.sound.coins;
    };
    others = votes_are_of_others node state kept.votes.items of.node_is of.sound.votes of.votes_rise of.votes;
  }

  own_headers : (round : ℕ) → option_map (λ (k : KeptHeader). k.header) (kept_header checkpoint round) ≡ state.own_headers round
  own_headers = same_own node state kept.headers.items of.node_is of.sound.votes of.voted of.headers listed

  digest_of : (o : Option KeptHeader) → option_map (λ (k : KeptHeader). header_digest k.header.body) o ≡ option_map (λ (h : Header). header_digest h.body) (option_map (λ (k : KeptHeader). k.header) o)
  digest_of (Some k) = refl
  digest_of None = refl

  votes : (round author : ℕ) → (state_in node checkpoint).votes round author ≡ state.votes round author
  votes round author = elim (cases_Bool (author == node.own.0)) [
    | inl mine ↦
        let same = eqb-true author node.own.0 mine in
        rw mine (digest_of (kept_header checkpoint round) ∙ ap (option_map (λ (h : Header). header_digest h.body)) (own_headers round) ∙ sym (of.sound.votes.own round)
        ∙ ap (state.votes round) (sym same))
    | inr other ↦
        rw other (same_votes node state kept.votes.items of.node_is of.sound.votes of.votes_rise of.votes round author (λ same. true≢false (sym (eq-eqb author node.own.0 same) ∙ other)))
  ]

  same : state_in node checkpoint ≡ state
  same =
      same_state (state_in node checkpoint) state
      (same_batches kept.batches.items ∙ (of.batches (seed_of node.sign)).batches)
      (fun_ext (λ digest. fun_ext (λ member. same_acked node state kept.batches.items of.node_is of.sound.batches (of.batches (seed_of node.sign)) digest member)))
      (fun_ext (λ digest. same_named node state kept.batches.items of.node_is of.sound.batches (of.batches (seed_of node.sign)) digest))
      (fun_ext (λ round. fun_ext (λ author. votes round author)))
      (fun_ext (λ round. own_headers round))
      (fun_ext (λ round. fun_ext (λ voter. same_counted node state kept.headers.items of.node_is of.sound.votes of.voted of.headers listed round voter)))
      (fun_ext (λ round. fun_ext (λ author. same_slots node state kept.certificates.items kept.coins of.sound.certificates of.parts.coins of.parts.listed of.parts.held round author)))
      (same_highest node state kept.certificates.items kept.coins of.sound.certificates of.parts.coins of.parts.listed of.parts.held)
      of.parts.coins
      of.parts.order

pub checkpoint_is_state : CheckpointIsState
checkpoint_is_state node state kept of listed = (written node state kept of listed, same node state kept of listed)
