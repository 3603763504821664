use Rattle.std.proofs.Common.{arith, length-append}
use Rattle.std.proofs.lemmas.List.Elements.{All-push}
use Rattle.wire.specs.Rising.{AreEntries}
use Rattle.wire.proofs.RisingLemmas.{rises-push}
use Rattle.wire.proofs.entries.Entries.push.Goals as goal

pub invariant_of-self-2 : goal.invariant_of-self-2
invariant_of-self-2 g c =
    let entry = g.E.Entry in
    let old : AreEntries entry.limit entry.fits entry.before c.args.self.now = rw (← c.self.view_is) c.self.invariant in
    rw (c.in_ok-push.ensures.items, c.self.view_is) (record {
      few = simp length-append (omega (arith, c.requires.room));
      each = All-push entry.fits c.args.self.now c.args.entry old.each c.entry_holds.ensures;
      rise = rises-push entry.before c.args.self.now c.args.entry old.rise c.requires.follows;
    })
