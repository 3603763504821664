-- What a member gave out, after a read of the order and after a release.
use Rattle.std.proofs.Common.{◌≡◌, inl, inr, List, [], ◌∷◌, ◌++◌, length, drop, refl, sym, ap, ◌∙◌, subst, append_assoc, append-nil}
use Rattle.std.specs.Prelude.{Some, Contains}
use Rattle.std.proofs.lemmas.List.Elements.{Contains-append_left, Contains-push}
use Rattle.spec_model.specs.Histories.{History}
use Rattle.wire.specs.Lists.{Begins}
use Rattle.spec_model.specs.Holdings.{order}
use Rattle.spec_model.specs.Nodes.{Node, IsNode}
use Rattle.spec_model.specs.Words.{Digest, Output}
use Rattle.spec_world.specs.Lasting.{settled_in}
use Rattle.spec_world.specs.Promise.{order_given}
use Rattle.spec_world.specs.Steps.{Move, with_given, IsRun}
use Rattle.spec_world.specs.World.{World, put_out, read, Given}
use Rattle.spec_world.proofs.Lasting.{given_orders_are_settled}
use Rattle.cluster.specs.Collecting.{IsWhole}
use Rattle.cluster.specs.Member.{GivenOutView, IsLongest, HasPutOut}
use Rattle.cluster.specs.Outputs.{output_in, outputs_in}

outputs_push : (given : List Given) (one : Given) → outputs_in (given ++ one ∷ []) ≡ outputs_in given ++ output_in one.outgoing
outputs_push [] one = append-nil (output_in one.outgoing)
outputs_push (first ∷ given) one =
    ap (λ (l : List Output). output_in first.outgoing ++ l) (outputs_push given one) ∙ sym (append_assoc (output_in first.outgoing) (outputs_in given) (output_in one.outgoing))

pub begins_drop : (one all : List Digest) → Begins one all → one ++ drop (length one) all ≡ all
begins_drop one all begins = ap (λ (l : List Digest). one ++ drop (length one) l) begins.parts ∙ ap (λ (l : List Digest). one ++ l) (dropped one begins.rest) ∙ sym begins.parts
  where
    dropped : (front rest : List Digest) → drop (length front) (front ++ rest) ≡ rest
    dropped [] rest = refl
    dropped (x ∷ front) rest = dropped front rest

module _ (node : Node) (moves : List Move) (world : World) (sound : IsNode node) (run : IsRun node moves world) where
  -- each order that was given out begins the settled one
  given_begins : (one : Given) (digests : List Digest) → Contains world.given one → order_given (order node one.history) one.outgoing ≡ Some digests → Begins digests (order node (settled_in world))
  given_begins one digests there is = given_orders_are_settled node moves world one digests sound run there is

  -- and so does the longest one
  pub longest_begins : (digests : List Digest) → IsLongest node world digests → Begins digests (order node (settled_in world))
  longest_begins digests longest = elim longest.given [
    | inl none ↦ record { rest = order node (settled_in world); parts = ap (λ (l : List Digest). l ++ order node (settled_in world)) (sym none) }
    | inr some ↦ given_begins some.0 digests some.1 some.2
  ]

module _ (node : Node) (moves : List Move) (world next : World) (sound : IsNode node) (run : IsRun node moves next) where
  -- the settled order was read
  pub read_out : next ≡ with_given world (read (order node (settled_in world))) (settled_in world) → (out later : GivenOutView) → HasPutOut node world out → later.outputs ≡ out.outputs
      → later.order ≡ order node (settled_in world) → IsWhole node next later
  read_out same out later was outputs is =
      let digests = order node (settled_in world) in
      let one : Given = record { outgoing = read digests; history = settled_in world } in
      let given : next.given ≡ world.given ++ one ∷ [] = ap (λ (w : World). w.given) same in
      let settled : settled_in next ≡ settled_in world = ap settled_in same in
      let whole : later.order ≡ order node (settled_in next) = is ∙ ap (order node) (sym settled) in
      let last : Contains next.given one = subst (λ (l : List Given). Contains l one) (sym given) (Contains-push world.given one) in
      record {
        out = record {
          outputs = ap outputs_in given ∙ outputs_push world.given one ∙ append-nil (outputs_in world.given) ∙ was.outputs ∙ sym outputs;
          order = record {
            given = inr (one, last, ap (λ (l : List Digest). Some l) (sym is));
            begins = λ some other there reported. subst (Begins other) (sym whole) (given_begins node moves next sound run some other there reported);
          };
        };
        whole = whole;
      }

  -- an output went out after it
  pub release_out : (output : Output) (history : History) → next ≡ with_given world (put_out output) history → (out later : GivenOutView) → IsWhole node world out
      → later.outputs ≡ out.outputs ++ output ∷ [] → later.order ≡ out.order → IsWhole node next later
  release_out output history same out later was outputs is =
      let one : Given = record { outgoing = put_out output; history = history } in
      let given : next.given ≡ world.given ++ one ∷ [] = ap (λ (w : World). w.given) same in
      let settled : settled_in next ≡ settled_in world = ap settled_in same in
      let whole : later.order ≡ order node (settled_in next) = is ∙ was.whole ∙ ap (order node) (sym settled) in
      record {
        out = record {
          outputs = ap outputs_in given ∙ outputs_push world.given one ∙ ap (λ (l : List Output). l ++ output ∷ []) was.out.outputs ∙ sym outputs;
          order = record {
            given = elim was.out.order.given [
              | inl none ↦ inl (is ∙ none)
              | inr some ↦ inr (
                some.0,
                subst (λ (l : List Given). Contains l some.0) (sym given)
                    (Contains-append_left world.given (one ∷ []) some.0 some.1),
                some.2 ∙ ap (λ (l : List Digest). Some l) (sym is),
              )
            ];
            begins = λ some other there reported. subst (Begins other) (sym whole) (given_begins node moves next sound run some other there reported);
          };
        };
        whole = whole;
      }
