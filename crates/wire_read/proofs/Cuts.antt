-- Bytes that are cut into fields: a cut tells one fault at most.
use Rattle.std.proofs.Common.{◌≡◌, ℕ, false, ltb, List, [], ◌∷◌, ◌++◌, length, take, drop, Option, Some, None, refl, sym, ap, subst, ◌∙◌, append_assoc, arith, take_at, drop_at, le-ltb}
use Rattle.std.specs.List.{concat}
use Rattle.std.proofs.lemmas.List.{length-append}
use Rattle.wire.specs.declared.error.WireError.{WireError}
use Rattle.wire_read.specs.Table.{Field, Passes, fault_at, HasFault, HasNone, next}

-- what comes after some fields
abbrev pub Next : Type 0
Next = List (List ℕ) → Option Field

-- what comes after this field and some more
abbrev pub past : Next → List ℕ → Next
past n value = λ fields. n (value ∷ fields)

-- each of these passes as the next one
abbrev pub AllPass : Next → List (List ℕ) → Type 0
AllPass n [] = Unit {0}
AllPass n (value ∷ fields) = Passes (n []) value × AllPass (past n value) fields

-- how the rest after them ends
abbrev pub Ends : Option Field → List ℕ → Option WireError → Type 0
Ends o rest None = (rest ≡ []) × (o ≡ None)
Ends o rest (Some fault) = fault_at o rest ≡ Some fault

pub record Reported (n : Next) (bytes : List ℕ) (said : Option WireError) : Type 0 where
  pub fields : List (List ℕ)
  pub rest : List ℕ
  pub whole : bytes ≡ concat fields ++ rest
  pub pass : AllPass n fields
  pub ends : Ends (n fields) rest said

-- ---- the two ways to say that fields pass

pub all_pass : (n : Next) (fields : List (List ℕ)) → ((before after : List (List ℕ)) (value : List ℕ) → fields ≡ before ++ value ∷ after → Passes (n before) value) → AllPass n fields
all_pass n [] pass = tt
all_pass n (value ∷ fields) pass = (pass [] fields value refl, all_pass (past n value) fields (λ before after later e. pass (value ∷ before) after later (ap (λ (l : List (List ℕ)). value ∷ l) e)))

abbrev head_or : List ℕ → List (List ℕ) → List ℕ
head_or d [] = d
head_or d (x ∷ xs) = x

abbrev tail_of : List (List ℕ) → List (List ℕ)
tail_of [] = []
tail_of (x ∷ xs) = xs

pub each_passes : (n : Next) (fields : List (List ℕ)) → AllPass n fields → (before after : List (List ℕ)) (value : List ℕ) → fields ≡ before ++ value ∷ after → Passes (n before) value
each_passes n [] pass [] after value e = absurd cc
each_passes n [] pass (b ∷ before) after value e = absurd cc
each_passes n (f ∷ fields) pass [] after value e = subst (λ (v : List ℕ). Passes (n []) v) (ap (λ (l : List (List ℕ)). head_or [] l) e) pass.0
each_passes n (f ∷ fields) pass (b ∷ before) after value e =
    let same : f ≡ b = ap (λ (l : List (List ℕ)). head_or [] l) e in
    subst (λ (v : List ℕ). Passes (n (v ∷ before)) value) same (each_passes (past n f) fields pass.1 before after value (ap (λ (l : List (List ℕ)). tail_of l) e))

-- ---- one fault

none_passes : (o : Option Field) (value : List ℕ) → Passes o value → o ≡ None → ⊥
none_passes None value pass e = pass
none_passes (Some field) value pass e = absurd cc

-- where a field passes there is no fault yet
no_fault : (o : Option Field) (value rest : List ℕ) → Passes o value → fault_at o (value ++ rest) ≡ None
no_fault None value rest pass = absurd pass
no_fault (Some field) value rest pass =
    let long : ltb (length (value ++ rest)) field.width ≡ false = le-ltb _ _ (omega (arith, length-append value rest, pass.0)) in
    rw (long, take_at value rest field.width pass.0) pass.1

same_length : (o : Option Field) (one other : List ℕ) → Passes o one → Passes o other → length one ≡ length other
same_length None one other pass passes = absurd pass
same_length (Some field) one other pass passes = pass.0 ∙ sym passes.0

goes_past : (o : Option Field) (value rest : List ℕ) (said : Option WireError) → Passes o value → Ends o (value ++ rest) said → ⊥
goes_past o value rest None pass ends = none_passes o value pass ends.1
goes_past o value rest (Some fault) pass ends = let bad : None ≡ Some fault = sym (no_fault o value rest pass) ∙ ends in absurd cc

one_end : (o : Option Field) (rest : List ℕ) (said says : Option WireError) → Ends o rest said → Ends o rest says → said ≡ says
one_end o rest None None ends end = refl
one_end o rest None (Some fault) ends end =
    let bad : None ≡ Some fault = subst (λ (p : Option Field). fault_at p [] ≡ Some fault) ends.1 (subst (λ (l : List ℕ). fault_at o l ≡ Some fault) ends.0 end) in absurd cc
one_end o rest (Some fault) None ends end =
    let bad : None ≡ Some fault = subst (λ (p : Option Field). fault_at p [] ≡ Some fault) end.1 (subst (λ (l : List ℕ). fault_at o l ≡ Some fault) end.0 ends) in absurd cc
one_end o rest (Some fault) (Some other) ends end = sym ends ∙ end

one_fault : (n : Next) (p q : List (List ℕ)) (x y : List ℕ) (said says : Option WireError) → concat p ++ x ≡ concat q ++ y → AllPass n p → AllPass n q → Ends (n p) x said → Ends (n q) y says
    → said ≡ says
one_fault n [] [] x y said says e pass passes ends end = one_end (n []) x said says ends (subst (λ (l : List ℕ). Ends (n []) l says) (sym e) end)
one_fault n [] (u ∷ q) x y said says e pass passes ends end =
    absurd (goes_past (n []) u (concat q ++ y) said passes.0 (subst (λ (l : List ℕ). Ends (n []) l said) (e ∙ append_assoc u (concat q) y) ends))
one_fault n (v ∷ p) [] x y said says e pass passes ends end =
    absurd (goes_past (n []) v (concat p ++ x) says pass.0 (subst (λ (l : List ℕ). Ends (n []) l says) (sym e ∙ append_assoc v (concat p) x) end))
one_fault n (v ∷ p) (u ∷ q) x y said says e pass passes ends end =
    let all : v ++ (concat p ++ x) ≡ u ++ (concat q ++ y) = sym (append_assoc v (concat p) x) ∙ e ∙ append_assoc u (concat q) y in
    let len : length v ≡ length u = same_length (n []) v u pass.0 passes.0 in
    let same : v ≡ u = sym (take_at v (concat p ++ x) (length v) refl) ∙ ap (λ (l : List ℕ). take (length v) l) all ∙ take_at u (concat q ++ y) (length v) (sym len) in
    let rest : concat p ++ x ≡ concat q ++ y = sym (drop_at v (concat p ++ x) (length v) refl) ∙ ap (λ (l : List ℕ). drop (length v) l) all ∙ drop_at u (concat q ++ y) (length v) (sym len) in
    one_fault (past n v) p q x y said says rest pass.1 (subst (λ (w : List ℕ). AllPass (past n w) q) (sym same) passes.1) ends (subst (λ (w : List ℕ). Ends (n (w ∷ q)) y says) (sym same) end)

pub one_reported : (n : Next) (bytes : List ℕ) (said says : Option WireError) → Reported n bytes said → Reported n bytes says → said ≡ says
one_reported n bytes said says t u = one_fault n t.fields u.fields t.rest u.rest said says (sym t.whole ∙ u.whole) t.pass u.pass t.ends u.ends

-- ---- what the table tells

pub reported_fault : (text : List ℕ) (fault : WireError) → HasFault text fault → Reported next text (Some fault)
reported_fault text fault t = record { fields = t.0; rest = t.1; whole = t.2.whole; pass = all_pass next t.0 t.2.pass; ends = t.3 }

pub has_fault : (text : List ℕ) (fault : WireError) → Reported next text (Some fault) → HasFault text fault
has_fault text fault t = (t.fields, t.rest, record { whole = t.whole; pass = each_passes next t.fields t.pass }, t.ends)

pub reported_none : (text : List ℕ) → HasNone text → Reported next text None
reported_none text t = record { fields = t.0; rest = []; whole = t.1.whole; pass = all_pass next t.0 t.1.pass; ends = (refl, t.2) }

pub has_none : (text : List ℕ) → Reported next text None → HasNone text
has_none text t = (t.fields, record { whole = subst (λ (l : List ℕ). text ≡ concat t.fields ++ l) t.ends.0 t.whole; pass = each_passes next t.fields t.pass }, t.ends.1)
