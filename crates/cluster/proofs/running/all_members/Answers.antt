use Rattle.std.proofs.Common.{◌≡◌, List, [], ◌∷◌, ◌++◌, Ok, sym, ap, ◌∙◌, subst, rules, map-id}
use Rattle.std.specs.List.{AllZip}
use Rattle.std.specs.Prelude.{Result}
use Rattle.std.specs.declared.alloc.AllocError.{AllocError}
use Rattle.std.proofs.lemmas.Iterator.Consumers.{YieldsList-end}
use Rattle.std.proofs.lemmas.Iterator.Adapters.{YieldsList-from_vec}
use Rattle.cluster.specs.Member.{MemberView}
use Rattle.cluster.proofs.Acting.{zip_more}
use Rattle.cluster.proofs.running.all_members.Goals as goal

pub ended-preserved : goal.ended-preserved
ended-preserved g c =
    let well : Result (MemberView g.row.S.Denot g.row.D.Denot) AllocError → MemberView g.row.S.Denot g.row.D.Denot → Type 0 = λ one member. one ≡ Ok member in
    let items = c.push_reserved.ensures.items ∙ ap (λ (l : List (MemberView g.row.S.Denot g.row.D.Denot)). l ++ c.in_ok-member.field-0 ∷ []) c.in_ok-reserve.ensures.items in
    record {
      so_far = subst (λ (l : List (MemberView g.row.S.Denot g.row.D.Denot)). AllZip well (c.ended.yielded ++ c.in-Some.member ∷ []) l) (sym items)
          (zip_more well c.ended.yielded c.ended.members.items c.in-Some.member c.in_ok-member.field-0 c.ended.invariant.so_far c.in_ok-member.was);
      can_next = tt;
      is_finite = tt;
    }

pub returns : goal.returns
returns g c =
    let well : Result (MemberView g.row.S.Denot g.row.D.Denot) AllocError → MemberView g.row.S.Denot g.row.D.Denot → Type 0 = λ one member. one ≡ Ok member in
    let all = c.args.ended.items in
    let end = YieldsList-end (YieldsList-from_vec {s = c.into_iter-member-iterator.result} all (search rules) (search rules)) c.ended.yielded
    c.ended.member-iterator c.ended.yielded_by c.next.result c.next.new.self c.in-None.is c.next.ensures.steps in
    let whole : all ≡ c.ended.yielded = sym end.0 ∙ map-id c.ended.yielded in
    subst (λ (l : List (Result (MemberView g.row.S.Denot g.row.D.Denot) AllocError)). AllZip well l c.ended.members.items) (sym whole) c.ended.invariant.so_far
