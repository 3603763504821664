use Rattle.std.proofs.Common.{◌≡◌, ◌≢◌, List, ℕ, length, [], ◌∷◌, ◌++◌, ap, sym, ◌∙◌}
use Rattle.journal.specs.Format.{kept_at}
use Rattle.journal.proofs.Loops.{body_none, body_shorter, body_more, body_all}
use Rattle.std.proofs.lemmas.Bool.{eqb-true, eqb-false}
use Rattle.std.proofs.lemmas.List.{nil_from_length}
use Rattle.journal.proofs.reading.records_of.Goals as goal

pub returns-in_default : goal.returns-in_default
returns-in_default c =
    let some : c.loop-rest.rest.now ≢ [] = λ none. eqb-false (length c.loop-rest.rest.now) 0 (sym c.loop-rest-test.ensures) (ap length none) in
    body_none c.args.gate c.loop-rest.records.items c.loop-rest.rest.now _ c.loop-rest.invariant some c.in_default.ensures

pub loop-rest-smaller : goal.loop-rest-smaller
loop-rest-smaller c = body_shorter c.loop-rest.rest.now c.in-Some.bytes.now c.in-Some.after.now c.in-Some.ensures

pub loop-rest-preserved : goal.loop-rest-preserved
loop-rest-preserved c =
    body_more c.args.gate c.loop-rest.records.items c.push.new.self.items c.loop-rest.rest.now c.in-Some.bytes.now c.in-Some.after.now _ c.loop-rest.invariant c.in-Some.ensures
    c.in_ok-push.ensures.items

pub returns : goal.returns
returns c =
    let none : c.loop-rest.rest.now ≡ [] = nil_from_length c.loop-rest.rest.now (eqb-true (length c.loop-rest.rest.now) 0 (sym c.loop-rest-test.ensures)) in
    body_all c.args.gate c.loop-rest.records.items c.loop-rest.rest.now _ c.loop-rest.invariant none
