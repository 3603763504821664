use Rattle.std.proofs.Common.{◌≡◌, ◌∙◌, ◌-◌, ◌<◌, ℕ, max, Option, Some, ap, sym, subst, arith}
use Rattle.committee.specs.Charter.{Charter}
use Rattle.dag.specs.Changes.{IsDropped}
use Rattle.dag.specs.Graph.{DagView, slots_in}
use Rattle.flatten.specs.Lengthening.{LengtheningView}
use Rattle.flatten.specs.Segments.{leader_held, IsMarkedPast}
use Rattle.spec_model.specs.Words.{Author}
use Rattle.sequencer.specs.Sequence.{SequencerView, IsCommitted, CommitsTo}
use Rattle.sequencer.proofs.sequencer.Sequencer.commit.Goals as goal

pub returns-in-Some-clause-graph : goal.returns-in-Some-clause-graph
returns-in-Some-clause-graph c =
    let before = c.self.inside.dag in
    let made = c.in-Some.made in
    let marked = c.commit_to.new.self in
    let round : c.last-round.result.0 ≡ made.last.0 = ap (λ (s : ℕ × Author). s.0) c.last-round.ensures in
    let depth : c.committee.result.now.depth ≡ before.charter.depth = ap (λ (x : Charter). x.depth) c.committee.ensures in
    let floor : c.below-floor.result ≡ made.last.0 - before.charter.depth =
    c.below-floor.ensures ∙ ap (λ (r : ℕ). r - c.committee.result.now.depth) round ∙ ap (λ (d : ℕ). made.last.0 - d) depth in
    let base : marked.base ≡ max before.base made.last.0 =
    ap (λ (g : DagView). g.base) c.commit_to.ensures ∙ ap (λ (b : ℕ). max b c.last-round.result.0) c.mark.ensures.base ∙ ap (λ (r : ℕ). max before.base r) round in
    let charter : marked.charter ≡ before.charter = ap (λ (g : DagView). g.charter) c.commit_to.ensures ∙ c.mark.ensures.charter in
    let deep = c.limits_hold.ensures.charter.depth in
    let low = c.limits_hold.ensures.low in
    let lower : c.below-floor.result < marked.base = omega (arith, floor, base, ap (λ (x : Charter). x.depth) charter, deep, low) in
    let all : IsCommitted before c.drop_below.new.self made = record {
      marked = marked;
      sound = c.limits_hold.ensures;
      charter = charter;
      floor = ap (λ (g : DagView). g.floor) c.commit_to.ensures ∙ c.mark.ensures.floor;
      base = base;
      slots = λ r a. ap (λ (g : DagView). slots_in g r a) c.commit_to.ensures ∙ c.mark.ensures.slots r a;
      marks = λ of.
          subst (λ (g : DagView). IsMarkedPast g (made.last.0 - before.charter.depth) (leader_held g (Some made.last))) (sym c.commit_to.ensures)
          (subst (λ (x : Charter). IsMarkedPast c.mark.new.dag (made.last.0 - x.depth) (leader_held c.mark.new.dag (Some made.last))) c.mark.ensures.charter (c.mark.ensures.marked of));
      dropped = subst (IsDropped marked c.drop_below.new.self) floor (c.drop_below.ensures.below lower);
    } in
    subst (λ (o : Option LengtheningView). CommitsTo c.args.self.now.graph c.args.self.now.last o c.drop_below.new.self (Some (c.last-round.result.0, c.last-round.result.1))) (sym c.in-Some.is)
    (subst (λ (s : SequencerView). CommitsTo s.graph s.last (Some made) c.drop_below.new.self (Some (c.last-round.result.0, c.last-round.result.1))) c.self.view_is
    (all, ap (λ (s : ℕ × Author). Some s) c.last-round.ensures))
