-- Tests by a floor and a list that are those by another one, where these are the same.
use Rattle.std.proofs.Common.{◌≡◌, ℕ, ◌+◌, ◌-◌, ◌*◌, ◌/◌, List, length, map, Option, ap, sym, ◌∙◌}
use Rattle.std.specs.Prelude.{option_map}
use Rattle.committee.specs.Charter.{Charter}
use Rattle.sequencer.specs.Listing.{ledger_of}
use Rattle.sequencer.specs.Restored.{Digested}
use Rattle.spec_machine.specs.Machine.{last_leader}
use Rattle.spec_model.specs.Nodes.{Node}
use Rattle.spec_model.specs.Ordering.{top}
use Rattle.spec_model.specs.Words.{Author, Certificate, Digest}
use Rattle.tusk.specs.Chain.{slot_of}
use Rattle.votebook.specs.declared.slot.Slot.{Slot}
use Rattle.spec_checkpoint.specs.Data.{KeptHeader}
use Rattle.spec_checkpoint.specs.Faults.{piece_tests}
use Rattle.spec_checkpoint.specs.Records.{ORDER_PIECE, cut}
use Rattle.checkpoint.specs.Judging.{is_certificate_sound_at, is_header_sound_at, is_vote_sound_at, slots_at}
use Rattle.checkpoint.specs.Kept.{certificate_of, vote_of}
use Rattle.checkpoint.proofs.Unsound.{pieces_long}

pub same_votes : (node : Node) (n floor : ℕ) (votes items : List (Slot × Digest)) → n ≡ floor → votes ≡ items
    → map (is_vote_sound_at node n) (map vote_of votes) ≡ map (is_vote_sound_at node floor) (map vote_of items)
same_votes node n floor votes items floor_is votes_are =
    ap (λ (f : ℕ). map (is_vote_sound_at node f) (map vote_of votes)) floor_is ∙ ap (λ (l : List (Slot × Digest)). map (is_vote_sound_at node floor) (map vote_of l)) votes_are

pub same_headers : (node : Node) (n floor : ℕ) (one list : List Digested) (headers : List KeptHeader) → n ≡ floor → one ≡ list
    → map (is_header_sound_at node n (slots_at node n one)) headers ≡ map (is_header_sound_at node floor (slots_at node floor list)) headers
same_headers node n floor one list headers floor_is list_is =
    ap (λ (f : ℕ). map (is_header_sound_at node f (slots_at node f one)) headers) floor_is ∙ ap (λ (l : List Digested). map (is_header_sound_at node floor (slots_at node floor l)) headers) list_is

pub same_certificates : (node : Node) (n floor : ℕ) (one list : List Digested) (certificates : List Certificate) → n ≡ floor → one ≡ list → map certificate_of list ≡ certificates
    → map (is_certificate_sound_at node n (slots_at node n one)) (map certificate_of one) ≡ map (is_certificate_sound_at node floor (slots_at node floor list)) certificates
same_certificates node n floor one list certificates floor_is list_is same =
    ap (λ (f : ℕ). map (is_certificate_sound_at node f (slots_at node f one)) (map certificate_of one)) floor_is
    ∙ ap (λ (l : List Digested). map (is_certificate_sound_at node floor (slots_at node floor l)) (map certificate_of l)) list_is
    ∙ ap (map (is_certificate_sound_at node floor (slots_at node floor list))) same

pub same_round : (charter : Charter) (one list : List Digested) (values coins : List ℕ) (last : Option (ℕ × Author)) → one ≡ list → values ≡ coins
    → option_map (λ (slot : ℕ × Author). slot.0) last ≡ option_map (λ w. 2 * w - 1) (top (ledger_of charter one values))
    → option_map (λ (slot : ℕ × Author). slot.0) last ≡ option_map (λ w. 2 * w - 1) (top (ledger_of charter list coins))
same_round charter one list values coins last list_is coins_are is =
    is ∙ ap (λ (l : List Digested). option_map (λ w. 2 * w - 1) (top (ledger_of charter l values))) list_is
    ∙ ap (λ (v : List ℕ). option_map (λ w. 2 * w - 1) (top (ledger_of charter list v))) coins_are

pub same_last : (charter : Charter) (one list : List Digested) (values coins : List ℕ) (last : Option (ℕ × Author)) → one ≡ list → values ≡ coins
    → last ≡ option_map slot_of (last_leader (ledger_of charter one values)) → last ≡ option_map slot_of (last_leader (ledger_of charter list coins))
same_last charter one list values coins last list_is coins_are is =
    is ∙ ap (λ (l : List Digested). option_map slot_of (last_leader (ledger_of charter l values))) list_is
    ∙ ap (λ (v : List ℕ). option_map slot_of (last_leader (ledger_of charter list v))) coins_are

-- the first batch stands after the configuration and the pieces of the order
pub after_pieces : (order : List Digest) (n : ℕ) → n ≡ length order → 1 + (n + 65535) / 65536 ≡ 1 + length (piece_tests (cut ORDER_PIECE order))
after_pieces order n is = ap (λ (k : ℕ). 1 + (k + 65535) / 65536) is ∙ ap (λ (k : ℕ). 1 + k) (sym (pieces_long order))
