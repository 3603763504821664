use Rattle.std.proofs.Common.{ap, sym, ◌∙◌, slice_get}
use Rattle.std.specs.Prelude.{option_map}
use Rattle.dag.specs.Graph.{DagView, certificates_in}
use Rattle.dag.specs.declared.entry.Entry.{Entry}
use Rattle.dag.proofs.Ordered.{nth_seen}
use Rattle.dag.proofs.dag.Dag.nth.Goals as goal

pub returns-in-Some : goal.returns-in-Some
returns-in-Some c =
    ap (option_map (λ (entry : Entry). entry.certificate)) c.in-Some.ensures ∙ sym (nth_seen c.self.inside.rows.items c.args.place)
    ∙ ap (λ (g : DagView). slice_get (certificates_in g) c.args.place) c.self.view_is

pub returns-in-None : goal.returns-in-None
returns-in-None c =
    ap (option_map (λ (entry : Entry). entry.certificate)) c.in-None.ensures ∙ sym (nth_seen c.self.inside.rows.items c.args.place)
    ∙ ap (λ (g : DagView). slice_get (certificates_in g) c.args.place) c.self.view_is
