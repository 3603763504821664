use Rattle.std.proofs.Common.{◌∙◌, ap, sym, subst, refl, ℕ, Option, Some, None}
use Rattle.std.specs.Prelude.{option_map}
use Rattle.std.proofs.lemmas.Option.{same_Some}
use Rattle.certify.specs.Answer.{after, completion_of}
use Rattle.certify.specs.Assembled.{AssemblyView}
use Rattle.certify.specs.declared.added.Added.{Added}
use Rattle.admission.specs.Headers.{AssembliesView, IsEntry, IsWith, answer_in}
use Rattle.admission.proofs.Looking.{looked, answer_of, written, unchanged, holds_with}
use Rattle.admission.proofs.assemblies.Assemblies.count.Goals as goal
use Rattle.admission.proofs.assemblies.Assemblies.count.Goals.{in-Some, in_default}

pub count-requires : goal.count-requires
count-requires c =
    let inside : AssembliesView = record { charter = c.self.inside.committee.now; own = c.self.inside.own.0; rounds = c.self.inside.rounds.entries } in
    ap completion_of (sym (answer_of c.args.self.now c.args.vote (Some c.in-Some.assembly.now)
    (looked inside c.args.self.now c.number.result c.args.vote.round (Some c.in-Some.assembly.now)
    c.in-Some.ensures.value c.number.ensures.value c.self.view_is)))
    ∙ c.requires

pub invariant_of-self : goal.invariant_of-self
invariant_of-self c =
    let inside = c.self.inside in
    let charter = inside.committee.now in
    let own = inside.own.0 in
    let old : AssembliesView = record { charter = charter; own = own; rounds = inside.rounds.entries } in
    let key = c.number.result in
    elim c.match-get_mut.branch [
      | in-Some w ↦
          let before = w.in-Some.assembly.now in
          let later = w.count.new.self in
          let new : AssembliesView = record { charter = charter; own = own; rounds = (c.get_mut.follows.lender later).entries } in
          let with = written inside.rounds (c.get_mut.follows.lender later) key before later w.in-Some.ensures.value (c.get_mut.follows.holds later) charter own in
          let was = c.self.invariant.entries key before (looked old old key key (Some before) w.in-Some.ensures.value refl refl) in
          let entry : IsEntry old key later = record {
            charter = ap (λ (a : AssemblyView). a.charter) w.count.ensures ∙ was.charter;
            place = ap (λ (a : AssemblyView). a.header.body.round) w.count.ensures ∙ was.place;
            author = ap (λ (a : AssemblyView). a.header.body.author.0) w.count.ensures ∙ was.author;
            assembly = w.limits_hold.ensures;
          } in
          rw w.self-inside-is (holds_with old new key (Some later) c.self.invariant with.0 with.1 (λ a same. subst (IsEntry old key) (same_Some later a same) entry))
      | in_default w ↦ rw (w.self-inside-is, c.get_mut.follows.holds-at-none) c.self.invariant
    ]

pub returns : goal.returns
returns c =
    let inside = c.self.inside in
    let charter = inside.committee.now in
    let own = inside.own.0 in
    let old : AssembliesView = record { charter = charter; own = own; rounds = inside.rounds.entries } in
    let key = c.number.result in
    let round = c.args.vote.round in
    let vote = c.args.vote in
    let counted : Option AssemblyView → Option AssemblyView = option_map (λ a. after (answer_in old vote) a vote) in
    elim c.match-get_mut.branch [
      | in-Some w ↦
          let before = w.in-Some.assembly.now in
          let later = w.count.new.self in
          let new : AssembliesView = record { charter = charter; own = own; rounds = (c.get_mut.follows.lender later).entries } in
          let with = written inside.rounds (c.get_mut.follows.lender later) key before later w.in-Some.ensures.value (c.get_mut.follows.holds later) charter own in
          let held = looked old old key round (Some before) w.in-Some.ensures.value c.number.ensures.value refl in
          let is = ap Some w.count.ensures
          ∙ ap (λ (a : Added). Some (after a before vote)) (sym (answer_of old vote (Some before) held))
          ∙ sym (ap counted held) in
          rw (w.self-inside-is, ← c.self.view_is)
          (subst (IsWith old new round) is (subst (λ (r : ℕ). IsWith old new r (Some later)) c.number.ensures.value with.0))
      | in_default w ↦
          let none = looked old old key round None w.in_default.ensures.value c.number.ensures.value refl in
          rw (w.self-inside-is, c.get_mut.follows.holds-at-none, ← c.self.view_is)
          (subst (IsWith old old round) (sym (ap counted none)) (unchanged old round none))
    ]
