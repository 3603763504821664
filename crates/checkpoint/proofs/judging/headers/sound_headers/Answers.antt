use Rattle.std.proofs.Common.{◌≡◌, ◌++◌, ◌∷◌, [], List, map, true, false, sym, ap, subst, ◌∙◌, length-append, arith, rules, map-id}
use Rattle.std.specs.Prelude.{All}
use Rattle.std.proofs.lemmas.Iterator.Adapters.{YieldsList-from_vec}
use Rattle.std.proofs.lemmas.Iterator.Consumers.{YieldsList-so_far, YieldsList-turn}
use Rattle.std.proofs.lemmas.List.{map-append}
use Rattle.std.proofs.lemmas.List.Elements.{All-push}
use Rattle.spec_checkpoint.specs.Data.{KeptHeader}
use Rattle.spec_model.specs.Nodes.{node_view}
use Rattle.checkpoint.specs.Judging.{HasOwnVote, is_header_sound_at, slots_at}
use Rattle.checkpoint.specs.Kept.{header_of}
use Rattle.checkpoint.proofs.FirstFails.{fine_more, turn_fault}
use Rattle.checkpoint.proofs.judging.headers.sound_headers.Goals as goal

pub returns-then-not-branch-clause-err : goal.returns-then-not-branch-clause-err
returns-then-not-branch-clause-err g c =
    let node = node_view g.S.Sign.scheme c.args.node.now in
    let test = is_header_sound_at node c.args.floor (slots_at node c.args.floor c.args.list.now) in
    let all = c.args.headers.items in
    let done = c.loop-read.yielded in
    let next = c.in-Some.read in
    let chain = YieldsList-from_vec {s = c.into_iter-read-iterator.result} all (search rules) (search rules) in
    let turn = YieldsList-turn chain done c.loop-read.read-iterator c.loop-read.yielded_by c.next.result c.next.new.self next c.in-Some.is c.next.ensures.steps in
    let front = sym (map-id done) ∙ YieldsList-so_far chain done c.loop-read.read-iterator c.loop-read.yielded_by in
    let off : test next ≡ false = sym c.in_ok-is_header_sound.ensures ∙ search rules in
    turn_fault test c.args.first all done next c.loop-read.place (record { front = front; within = turn.0; is = turn.1 }) c.loop-read.invariant.none off c.loop-read.invariant.place

pub loop-read-preserved : goal.loop-read-preserved
loop-read-preserved g c =
    let node = node_view g.S.Sign.scheme c.args.node.now in
    let test = is_header_sound_at node c.args.floor (slots_at node c.args.floor c.args.list.now) in
    let done = c.loop-read.yielded in
    let next = c.in-Some.read in
    let on : test next ≡ true = sym c.in_ok-is_header_sound.ensures ∙ search rules in
    let long = length-append done (next ∷ []) in
    let items = c.in_ok-push.ensures.items in
    record {
      place = (let place = c.loop-read.invariant.place in omega (arith, place, long));
      none = fine_more test c.args.first done next c.loop-read.invariant.none on;
      voted = subst (All (HasOwnVote node)) (sym items) (All-push (HasOwnVote node) c.loop-read.found.items _ c.loop-read.invariant.voted c.in_ok-voted.ensures.voted);
      same = ap (map header_of) items ∙ map-append header_of c.loop-read.found.items (c.in_ok-voted.field-0 ∷ [])
          ∙ ap (λ (l : List KeptHeader). l ++ header_of c.in_ok-voted.field-0 ∷ []) c.loop-read.invariant.same ∙ ap (λ (k : KeptHeader). done ++ k ∷ []) c.in_ok-voted.ensures.same;
    }
