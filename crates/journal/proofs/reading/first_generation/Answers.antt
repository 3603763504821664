use Rattle.std.proofs.Common.{◌≡◌, ℕ, List, map, Some, Option, ap, ◌∙◌}
use Rattle.std.specs.Option.{option_map, option_and_then}
use Rattle.journal.specs.Format.{kept, body_at, group_of}
use Rattle.journal.specs.Areas.{generation_of}
use Rattle.journal.proofs.Sides.{generation_read}
use Rattle.journal.proofs.reading.first_generation.Goals as goal

pub returns : goal.returns
returns c =
    let body = c.in-Some.body.now in
    let is_body : Some body ≡ body_at c.args.bytes.now = c.in-Some.ensures in
    let read : Some c.in-Some-2.records.items ≡ option_map (kept 0) (group_of body) = rw c.in-Some-2.is at c.in_ok-records.ensures in
    c.generation_of.ensures
    ∙ ap (λ (l : List _). generation_of (map (λ one. one.bytes) l)) c.deref.ensures.value
    ∙ generation_read body (group_of body) c.in-Some-2.records.items read
    ∙ ap (λ (o : Option (List ℕ)). option_and_then (λ one. option_and_then generation_of (group_of one)) o) is_body
