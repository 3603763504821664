-- Bytes that are put one after the other.
use Rattle.std.proofs.Common.{◌≡◌, ℕ, Bool, true, false, List, [], ◌∷◌, ◌++◌, cond, Result, Ok, Err, append_assoc, sym, ◌∙◌}
use Rattle.std.specs.Prelude.{OnOk, OnErr}
use Rattle.std.proofs.lemmas.List.{append-nil}
use Rattle.wire.specs.Lists.{Begins}
use Rattle.wire.specs.Putting.{Keeps}

-- a tag and four pieces after what was there
pub five_pieces : (start : List ℕ) (tag : ℕ) (a b c d one two three four five : List ℕ) → one ≡ start ++ tag ∷ [] → two ≡ one ++ a → three ≡ two ++ b → four ≡ three ++ c → five ≡ four ++ d
    → five ≡ start ++ tag ∷ (a ++ b ++ c ++ d)
five_pieces start tag a b c d one two three four five e1 e2 e3 e4 e5 = rw (e5, e4, e3, e2, e1) (simp append_assoc)

-- a tag and two pieces after what was there, the second of them not yet put
pub tagged_pieces : (start : List ℕ) (tag : ℕ) (a b one two : List ℕ) → one ≡ start ++ tag ∷ [] → two ≡ one ++ a → two ++ b ≡ start ++ tag ∷ (a ++ b)
tagged_pieces start tag a b one two e1 e2 = rw (e2, e1) (simp append_assoc)

-- a piece keeps what was there, whether it was put or its allocation failed
pub put_kept : (put : Bool) (old text new : List ℕ) → new ≡ cond put (old ++ text) old → Keeps old new
put_kept true old text new e start begins =
    record { rest = begins.rest ++ text; parts = rw (e, begins.parts) (append_assoc start begins.rest text) }
put_kept false old text new e start begins = record { rest = begins.rest; parts = e ∙ begins.parts }

-- so what was there is a prefix of what is there where an allocation failed
pub rest_at_refusal : {X E : Type 0} (r : Result X E) (old new : List ℕ) → Keeps old new → OnErr r ((rest : List ℕ) × (new ≡ old ++ rest))
rest_at_refusal (Ok x) old new kept = tt
rest_at_refusal (Err x) old new kept =
    let begins : Begins old new = kept old (record { rest = []; parts = sym (append-nil old) }) in (begins.rest, begins.parts)

-- where the last piece was put, all is there
pub put_rest : {X E : Type 0} (r : Result X E) (before text new whole : List ℕ) → OnOk r (new ≡ before ++ text) → before ++ text ≡ whole → OnOk r (new ≡ whole)
put_rest (Ok x) before text new whole e same = e ∙ same
put_rest (Err x) before text new whole e same = tt
