use Rattle.std.proofs.Common.{Result, Err, ◌≡◌, ◌≢◌, ◌+◌, ◌<◌, suc, inr, None, List, [], ◌∷◌, ◌++◌, length, map, take, drop, get_or, sym, ap, ◌∙◌}
use Rattle.std.proofs.Common.{subst, arith, take-suc, drop-drop, get_or-drop, length-drop}
use Rattle.std.specs.Prelude.{All}
use Rattle.std.specs.List.{AllZip}
use Rattle.std.proofs.lemmas.List.{map-append}
use Rattle.std.proofs.lemmas.List.Elements.{All-push, All-drop}
use Rattle.std.proofs.lemmas.Result.{err_from_is_err_and}
use Rattle.spec_world.specs.Steps.{IsRun}
use Rattle.validator.specs.Setting.{ConfigView, node_of}
use Rattle.cluster.specs.Applying.{first_world}
use Rattle.cluster.specs.Member.{MemberView, StandsAt, IsOn, IsNew}
use Rattle.cluster.proofs.Acting.{zip_more}
use Rattle.cluster.proofs.cluster.Cluster.new.Goals as goal

pub returns-in_err-open-clause-errors : goal.returns-in_err-open-clause-errors
returns-in_err-open-clause-errors g c =
    let p = err_from_is_err_and c.from_residual-in_err-open.result c.from_residual-in_err-open.ensures.1 in
    let so_far = c.loop-config.invariant in
    let some : 0 < length c.loop-config.disks.items = omega (arith, so_far.rest, c.loop-config.disks.ok.0) in
    let empty = ap g.D.Disk.device.content c.remove.ensures.value ∙ so_far.empty 0 c.remove.result some in
    rw (p.1, p.2)
    (inr (c.in_err-open.ensures.errors empty))

err_is : {T E : Type 0} {one other : E} → ◌≡◌ {A = Result T E} (Err one) (Err other) → one ≡ other
err_is same = cc

pub returns-in_err-open-clause-device : goal.returns-in_err-open-clause-device
returns-in_err-open-clause-device g c =
    let p = err_from_is_err_and c.from_residual-in_err-open.result c.from_residual-in_err-open.ensures.1 in
    let so_far = c.loop-config.invariant in
    let some : 0 < length c.loop-config.disks.items = omega (arith, so_far.rest, c.loop-config.disks.ok.0) in
    let all = c.args.disks.items in
    let place = c.loop-config.config-index in
    let within : place < length all = omega (arith, some, ap length so_far.left, length-drop place all) in
    let here : c.remove.result ≡ get_or all (place + 0) c.remove.result = c.remove.ensures.value
    ∙ ap (λ (l : List g.row.D.Denot). get_or l 0 c.remove.result) so_far.left ∙ get_or-drop place all 0 c.remove.result in
    let there : c.remove.result ≡ get_or all place c.remove.result = here ∙ ap (λ n. get_or all n c.remove.result) (omega arith) in
    rw (p.1, p.2)
    (λ is. (c.remove.result, (place, within, sym there), c.in_err-open.ensures.device (ap (λ e. Err e) (err_is is))))

pub loop-config-preserved : goal.loop-config-preserved
loop-config-preserved g c =
    let so_far = c.loop-config.invariant in
    let member = c.in_ok-open.field-0 in
    let disks = c.loop-config.disks.items in
    let items = c.push_reserved.ensures.items ∙ ap (λ (l : List (MemberView g.row.S.Denot g.row.D.Denot)). l ++ member ∷ []) c.in_ok-reserve.ensures.items in
    let own = c.in_ok-open.ensures.setting ∙ c.config-item.is in
    let more = take-suc c.args.configs.now c.loop-config.config-index c.config-item.result (omega arith) in
    let number : suc c.loop-config.config-index ≡ c.loop-config.config-index + 1 = omega arith in
    let some : 0 < length disks = omega (arith, so_far.rest, c.loop-config.disks.ok.0) in
    let empty = ap g.D.Disk.device.content c.remove.ensures.value ∙ so_far.empty 0 c.remove.result some in
    let begins = subst (λ (s : ConfigView g.row.S.Denot). StandsAt (node_of g.S.Sign.scheme s) g.D.Disk.device
    (first_world (node_of g.S.Sign.scheme s)) member) (sym c.in_ok-open.ensures.setting) (c.in_ok-open.ensures.begins empty) in
    let all = c.args.disks.items in
    let place = c.loop-config.config-index in
    let within : place < length all = omega (arith, some, ap length so_far.left, length-drop place all) in
    let here : c.remove.result ≡ get_or all (place + 0) c.remove.result = c.remove.ensures.value
    ∙ ap (λ (l : List g.row.D.Denot). get_or l 0 c.remove.result) so_far.left ∙ get_or-drop place all 0 c.remove.result in
    let there : c.remove.result ≡ get_or all place c.remove.result = here ∙ ap (λ n. get_or all n c.remove.result) (omega arith) in
    let one_more : take (place + 1) all ≡ take place all ++ c.remove.result ∷ [] = ap (λ n. take n all) (sym number)
    ∙ take-suc all place c.remove.result within ∙ ap (λ (d : g.row.D.Denot). take place all ++ d ∷ []) (sym there) in
    record {
      disks = subst (λ (l : List g.row.D.Denot). AllZip (IsOn g.D.Disk.device) l c.push_reserved.new.self.items) (sym one_more)
          (subst (λ (l : List (MemberView g.row.S.Denot g.row.D.Denot)). AllZip (IsOn g.D.Disk.device) (take place all ++ c.remove.result ∷ []) l) (sym items)
          (zip_more (IsOn g.D.Disk.device) (take place all) c.loop-config.members.items c.remove.result member so_far.disks c.in_ok-open.ensures.disk));
      left = c.remove.ensures.items ∙ ap (drop 1) so_far.left ∙ drop-drop 1 place all;
      settings = ap (map (λ (m : MemberView g.row.S.Denot g.row.D.Denot). m.setting)) items
          ∙ map-append (λ (m : MemberView g.row.S.Denot g.row.D.Denot). m.setting) c.loop-config.members.items (member ∷ [])
          ∙ (λ i. so_far.settings i ++ own i ∷ []) ∙ sym more ∙ ap (λ n. take n c.args.configs.now) number;
      runs = subst (All (λ (m : MemberView g.row.S.Denot g.row.D.Denot). IsRun (node_of g.S.Sign.scheme m.setting) []
          (first_world (node_of g.S.Sign.scheme m.setting)))) (sym items)
          (All-push (λ (m : MemberView g.row.S.Denot g.row.D.Denot). IsRun (node_of g.S.Sign.scheme m.setting) []
          (first_world (node_of g.S.Sign.scheme m.setting))) c.loop-config.members.items member so_far.runs c.in_ok-open.ensures.runs);
      begins = subst (All (λ (m : MemberView g.row.S.Denot g.row.D.Denot). StandsAt (node_of g.S.Sign.scheme m.setting) g.D.Disk.device
          (first_world (node_of g.S.Sign.scheme m.setting)) m)) (sym items)
          (All-push (λ (m : MemberView g.row.S.Denot g.row.D.Denot). StandsAt (node_of g.S.Sign.scheme m.setting) g.D.Disk.device
          (first_world (node_of g.S.Sign.scheme m.setting)) m) c.loop-config.members.items member so_far.begins begins);
      new = subst (All (IsNew g.S.Sign.scheme g.D.Disk.device)) (sym items)
          (All-push (IsNew g.S.Sign.scheme g.D.Disk.device) c.loop-config.members.items member so_far.new (c.in_ok-open.ensures.new empty));
      up = subst (All (λ (m : MemberView g.row.S.Denot g.row.D.Denot). m.desk ≢ None)) (sym items)
          (All-push (λ (m : MemberView g.row.S.Denot g.row.D.Denot). m.desk ≢ None) c.loop-config.members.items member so_far.up
          c.in_ok-open.ensures.up);
      rest = omega (arith, so_far.rest, c.remove.ensures.len);
      empty = subst (All (λ (d : g.row.D.Denot). g.D.Disk.device.content d ≡ [])) (sym c.remove.ensures.items) (All-drop (λ (d : g.row.D.Denot). g.D.Disk.device.content d ≡ []) 1 disks so_far.empty);
    }
