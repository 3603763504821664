-- What a batch is answered, by what is held under its digest.
use Rattle.std.proofs.Common.{◌≡◌, Bool, true, false, Option, Some, None, Ok, Err, refl, ap, ◌∙◌}
use Rattle.std.specs.Prelude.{option_map, if◌then◌else◌}
use Rattle.std.specs.Option.{option_map_or}
use Rattle.std.specs.Str.{bytes_eq}
use Rattle.wire.specs.Batches.{BatchView, batch_body}
use Rattle.wire.specs.declared.keys.Digest.{Digest}
use Rattle.batchstore.specs.Answer.{is_full, held_answer, answer}
use Rattle.batchstore.specs.Stock.{BatchStoreView, digest_of, held_at}
use Rattle.batchstore.specs.declared.held.Held.{Held}
use Rattle.batchstore.specs.declared.refusal.StoreRefusal.TheVariants.{DigestClash, Full}

-- a new batch isn't held, and there is room for it
unheld_by : (held : Option Held) (batch : BatchView) (full : Bool)
    → option_map_or (λ h. held_answer h batch) (option_map (λ h. h.batch) held) (if full then Err Full else Ok None) ≡ Ok None
    → (held ≡ None) × (full ≡ false)
unheld_by None batch true is = absurd cc
unheld_by None batch false is = (refl, refl)
unheld_by (Some held) batch full is = absurd (found (bytes_eq (batch_body held.batch) (batch_body batch)) is)
  where
    found : (same : Bool) → (if same then Ok (Some held.batch) else Err DigestClash) ≡ Ok None → ⊥
    found true e = cc
    found false e = cc

pub unheld : (stock : BatchStoreView) (digest : Digest) (batch : BatchView) → digest ≡ digest_of batch → answer stock batch ≡ Ok None → held_at stock digest ≡ None
unheld stock digest batch digested is =
    ap (held_at stock) digested ∙ (unheld_by (held_at stock (digest_of batch)) batch (is_full stock) is).0

pub has_room : (stock : BatchStoreView) (batch : BatchView) → answer stock batch ≡ Ok None → is_full stock ≡ false
has_room stock batch is = (unheld_by (held_at stock (digest_of batch)) batch (is_full stock) is).1
