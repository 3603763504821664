-- The record of a configuration has its shape.
use Rattle.std.proofs.Common.{◌≡◌, ◌<◌, ◌^◌, Bool, true, false, cond, eqb, length, Some, None, refl, sym, ap, ◌∙◌}
use Rattle.std.specs.Int.{w16, to_be_bytes, from_be_bytes}
use Rattle.std.proofs.lemmas.Bool.{and_from, eq-eqb}
use Rattle.std.proofs.lemmas.Nat.{from_be_bytes-to_be_bytes_2}
use Rattle.committee.specs.Charter.{Charter}
use Rattle.journal.specs.Configuration.{number_of, size_in, has_front, is_configuration, shaped_version}
use Rattle.journal.specs.declared.version.Version.{Version}
use Rattle.journal.specs.declared.version.Version.TheVariants.{First, Second}
use Rattle.spec_records.specs.Records.{configuration_of}
use Rattle.wire.specs.declared.keys.Author.{Author}

-- it has that of its version, if its keys have 32 bytes each
shape_is : (version : Version) (charter : Charter) (own : Author) → length charter.keys < 2 ^ 16 → length (configuration_of version charter own) ≡ size_in version (length charter.keys)
    → is_configuration version (configuration_of version charter own) ≡ true
unfolding is_configuration
shape_is version charter own small long =
    let configuration = configuration_of version charter own in
    let members : from_be_bytes w16 (to_be_bytes w16 (length charter.keys)) ≡ length charter.keys = from_be_bytes-to_be_bytes_2 (length charter.keys) small in
    let size = size_in version (from_be_bytes w16 (to_be_bytes w16 (length charter.keys))) in
    and_from (has_front version configuration) (eqb (length configuration) size) (eq-eqb (number_of version) (number_of version) refl)
    (eq-eqb (length configuration) size (long ∙ ap (size_in version) (sym members)))

-- one of the second version has no other
not_first : (charter : Charter) (own : Author) → is_configuration First (configuration_of Second charter own) ≡ false
unfolding is_configuration
not_first charter own = refl

pub shaped_is : (version : Version) (charter : Charter) (own : Author) → length charter.keys < 2 ^ 16 → length (configuration_of version charter own) ≡ size_in version (length charter.keys)
    → shaped_version (configuration_of version charter own) ≡ Some version
shaped_is First charter own small long =
    let configuration = configuration_of First charter own in
    ap (λ (b : Bool). cond b (Some First) (cond (is_configuration Second configuration) (Some Second) None)) (shape_is First charter own small long)
shaped_is Second charter own small long = (λ i. cond (not_first charter own i) (Some First) (cond (shape_is Second charter own small long i) (Some Second) None))
