use Rattle.std.proofs.Common.{false, map, get_or, sym, ap, ◌∙◌, arith}
use Rattle.std.specs.Prelude.{not, option_map}
use Rattle.std.specs.List.{position_from}
use Rattle.std.proofs.lemmas.List.{get_or-map, length-map}
use Rattle.sequencer.specs.Restored.{Digested}
use Rattle.spec_checkpoint.specs.Loading.{at_record}
use Rattle.spec_model.specs.Nodes.{node_view}
use Rattle.checkpoint.specs.Judging.{is_certificate_sound_at, passes_itself, slots_at}
use Rattle.checkpoint.specs.Kept.{certificate_of}
use Rattle.checkpoint.proofs.FirstFails.{mapped, slice_end, slice_fault, slice_fine}
use Rattle.checkpoint.proofs.judging.certificates.test_certificates.Goals as goal

pub is_certificate_sound-requires-clause-passes : goal.is_certificate_sound-requires-clause-passes
is_certificate_sound-requires-clause-passes g c =
    let node = node_view g.S.Sign.scheme c.args.node.now in
    let list = c.args.list.now in
    let index = c.loop-index.index in
    let entry = c.index-list-index.result in
    let within = c.loop-index-test.true in
    let long = length-map list certificate_of in
    ap (λ l. get_or l index false) c.requires.passed
    ∙ get_or-map (passes_itself node) (map certificate_of list) index (certificate_of entry) false (omega (arith, within, long))
    ∙ ap (passes_itself node) (get_or-map certificate_of list index entry (certificate_of entry) within ∙ ap certificate_of (sym c.index-list-index.is))

pub returns-then-not-is_certificate_sound-clause-err : goal.returns-then-not-is_certificate_sound-clause-err
returns-then-not-is_certificate_sound-clause-err g c apart =
    let node = node_view g.S.Sign.scheme c.args.node.now in
    let list = c.args.list.now in
    let test = is_certificate_sound_at node c.args.floor (slots_at node c.args.floor list) in
    ap (option_map at_record) (ap (position_from not c.args.first) (mapped test certificate_of list)
    ∙ slice_fault (λ (one : Digested). test (certificate_of one)) c.args.first list c.loop-index.index c.index-list-index.result c.loop-index.place
    c.loop-index-test.true c.index-list-index.is c.loop-index.invariant.none (sym c.is_certificate_sound.ensures ∙ c.if-not-is_certificate_sound.true) c.loop-index.invariant.place)

pub loop-index-preserved : goal.loop-index-preserved
loop-index-preserved g c =
    let node = node_view g.S.Sign.scheme c.args.node.now in
    let list = c.args.list.now in
    let test = is_certificate_sound_at node c.args.floor (slots_at node c.args.floor list) in
    record {
      place = (let place = c.loop-index.invariant.place in omega (arith, place));
      none = slice_fine (λ (one : Digested). test (certificate_of one)) c.args.first list c.loop-index.index c.index-list-index.result
          c.loop-index-test.true c.index-list-index.is c.loop-index.invariant.none (sym c.is_certificate_sound.ensures ∙ c.if-not-is_certificate_sound.false);
    }

pub returns-clause-ok : goal.returns-clause-ok
returns-clause-ok g c =
    let node = node_view g.S.Sign.scheme c.args.node.now in
    let list = c.args.list.now in
    let test = is_certificate_sound_at node c.args.floor (slots_at node c.args.floor list) in
    ap (position_from not c.args.first) (mapped test certificate_of list)
    ∙ slice_end (λ (one : Digested). test (certificate_of one)) c.args.first list c.loop-index.index c.loop-index-test.false c.loop-index.invariant.none
