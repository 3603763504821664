use Rattle.std.proofs.Common.{◌≡◌, ℕ, List, ◌++◌, map, sym, ap, subst, ◌∙◌}
use Rattle.std.specs.Prelude.{All}
use Rattle.admission.specs.Standing.{AreAt}
use Rattle.admission.specs.declared.kept.VotedHeader.{VotedHeader}
use Rattle.checkpoint.specs.Kept.{AreOfOthers, checkpoint_of, header_of, vote_of}
use Rattle.spec_model.specs.Words.{Digest}
use Rattle.validator.specs.Setting.{node_of}
use Rattle.votebook.specs.declared.slot.Slot.{Slot}
use Rattle.admission.specs.declared.tables.Tables.{Tables}
use Rattle.journal_account.specs.Accounts.{given_as, given_for}
use Rattle.journal_account.specs.declared.votes.Given.{Given}
use Rattle.journal_account.proofs.Accounting.{map_both}
use Rattle.journal_account.proofs.kept.given_by_kept.Goals as goal

pub returns : goal.returns
returns g c = λ state at.
    let node = node_of g.S.Sign.scheme c.args.validator.now.setting in
    let kept = c.in_ok-kept.kept in
    let there = subst (λ (t : Tables). AreAt node state t) (sym c.tables.ensures) at.at in
    let others : All (AreOfOthers node.own.0) kept.headers.items =
    subst (λ (member : ℕ). All (AreOfOthers member) kept.headers.items) there.headers.own c.in_ok-kept.ensures.others in
    let same = c.checkpoint_is_state.ensures node state kept (c.in_ok-kept.ensures.kept node state c.limits_hold.ensures.node at.sound there) others in
    let first : c.in_ok-votes.votes.items ≡ map given_for (map vote_of kept.votes.items) =
    c.in_ok-votes.ensures ∙ ap (λ (l : List (Slot × Digest)). map (λ entry. given_for (vote_of entry)) l) c.deref.ensures.value
    ∙ map_both given_for vote_of kept.votes.items in
    let second : map (λ voted. given_as (header_of voted)) c.deref-2.result.now ≡ map given_as (map header_of kept.headers.items) =
    ap (λ (l : List VotedHeader). map (λ voted. given_as (header_of voted)) l) c.deref-2.ensures.value ∙ map_both given_as header_of kept.headers.items in
    record {
      checkpoint = checkpoint_of kept;
      written = same.0;
      is = same.1;
      are = ◌∙◌ {A = List Given} c.in_ok-add_own.ensures (λ i. first i ++ second i);
    }
