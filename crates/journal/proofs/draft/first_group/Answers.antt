use Rattle.std.proofs.Common.{◌≡◌, ◌+◌, [], ◌∷◌, ◌++◌, List, ℕ, length, ap, ◌∙◌, arith}
use Rattle.std.specs.Int.{w32, w64, to_be_bytes}
use Rattle.journal.specs.Areas.{head_record}
use Rattle.journal.specs.Format.{body_len}
use Rattle.journal.proofs.Drafting.{first_bytes}
use Rattle.journal.proofs.draft.first_group.Goals as goal

pub returns : goal.returns
returns c =
    let configuration = c.args.configuration.now in
    let counted : 17 + length configuration ≡ body_len (configuration ∷ head_record 0 ∷ []) = omega arith in
    let one : c.extend_from_slice.new.self.items ≡ to_be_bytes w32 (17 + length configuration) = c.in_ok-extend_from_slice.ensures.items
    ∙ (λ i. c.in_ok-bytes.ensures.items i ++ c.to_be_bytes.ensures i) in
    let two : c.extend_from_slice-2.new.self.items ≡ to_be_bytes w32 (17 + length configuration) ++ to_be_bytes w32 (length configuration) =
    c.in_ok-extend_from_slice-2.ensures.items ∙ (λ i. one i ++ c.to_be_bytes-2.ensures i) in
    let three : c.extend_from_slice-3.new.self.items ≡ (to_be_bytes w32 (17 + length configuration) ++ to_be_bytes w32 (length configuration)) ++ configuration =
    c.in_ok-extend_from_slice-3.ensures.items ∙ ap (λ (l : List ℕ). l ++ configuration) two in
    let four : c.extend_from_slice-4.new.self.items ≡ ((to_be_bytes w32 (17 + length configuration) ++ to_be_bytes w32 (length configuration)) ++ configuration) ++ to_be_bytes w32 9 =
    c.in_ok-extend_from_slice-4.ensures.items ∙ (λ i. three i ++ c.to_be_bytes-3.ensures i) in
    let five : c.extend_from_slice-5.new.self.items
    ≡ (((to_be_bytes w32 (17 + length configuration) ++ to_be_bytes w32 (length configuration)) ++ configuration) ++ to_be_bytes w32 9) ++ 2 ∷ to_be_bytes w64 0 =
    c.in_ok-extend_from_slice-5.ensures.items ∙ ap (λ (l : List ℕ). l ++ 2 ∷ to_be_bytes w64 0) four in
    c.in_ok-push.ensures.items ∙ ap (λ (l : List ℕ). l ++ 0 ∷ []) five ∙ first_bytes configuration (17 + length configuration) counted
