-- Paths and texts that are the same.
use Rattle.std.proofs.Common.{◌≡◌, ◌∙◌, ℕ, true, List, [], ◌∷◌, refl, sym, ap}
use Rattle.std.specs.Prelude.{◌&&◌, nat_eq, bytes_eq}
use Rattle.std.proofs.lemmas.Bool.{and_from, and_parts, eq-eqb, eqb-true, false≢true}
use Rattle.sc_base.specs.declared.pos.NameId.{NameId}
use Rattle.sc_base.specs.declared.pos.Pos.{Pos}
use Rattle.sum_rows.specs.declared.path.Path.{Path}
use Rattle.sum_rows.specs.declared.path.Root.{Root}
use Rattle.sum_rows.specs.declared.path.Root.TheVariants as root
use Rattle.sum_rows.specs.declared.path.Step.{Step}
use Rattle.sum_rows.specs.declared.path.Step.TheVariants as step
use Rattle.sc_world.specs.Layout.{same_pos, same_step}
use Rattle.left_out.specs.Items.{same_path, same_root, same_steps}

root_is : (a b : Root) → same_root a b ≡ true → a ≡ b
root_is (root.Param m) (root.Param n) h = ap (λ k. root.Param k) (eqb-true m n h)
root_is (root.Global m) (root.Global n) h = ap (λ k. root.Global k) (eqb-true m n h)
root_is (root.Param m) (root.Global n) h = absurd (false≢true h)
root_is (root.Global m) (root.Param n) h = absurd (false≢true h)

name_is : (m n : NameId) → m.at ≡ n.at → m ≡ n
name_is m n same = let P : ℕ → NameId = λ k. record { at = k } in ap P same

step_is : (a b : Step) → same_step a b ≡ true → a ≡ b
step_is step.Deref step.Deref h = refl
step_is (step.Field m) (step.Field n) h = ap (λ k. step.Field k) (name_is m n (eqb-true m.at n.at h))
step_is (step.Elem m) (step.Elem n) h = ap (λ k. step.Elem k) (eqb-true m n h)
step_is _ _ h = absurd (false≢true h)

steps_are : (a b : List Step) → same_steps a b ≡ true → a ≡ b
steps_are [] [] h = refl
steps_are [] (b ∷ bs) h = absurd (false≢true h)
steps_are (a ∷ as') [] h = absurd (false≢true h)
steps_are (a ∷ as') (b ∷ bs) h =
    let both = and_parts (same_step a b) (same_steps as' bs) h in
    let first = step_is a b both.0 in
    let rest = steps_are as' bs both.1 in
    ap (λ c. c ∷ as') first ∙ ap (λ cs. b ∷ cs) rest

pub path_is : (a b : Path) → same_path a b ≡ true → a ≡ b
path_is a b h =
    let both = and_parts (same_root a.root b.root) (same_steps a.steps b.steps) h in
    let roots = root_is a.root b.root both.0 in
    let steps = steps_are a.steps b.steps both.1 in
    let P : Root → Path = λ r. record { root = r; steps = a.steps } in
    let Q : List Step → Path = λ ss. record { root = b.root; steps = ss } in
    ap P roots ∙ ap Q steps

root_same : (a : Root) → same_root a a ≡ true
root_same (root.Param m) = eq-eqb m m refl
root_same (root.Global m) = eq-eqb m m refl

step_same : (a : Step) → same_step a a ≡ true
step_same step.Deref = refl
step_same (step.Field m) = eq-eqb m.at m.at refl
step_same (step.Elem m) = eq-eqb m m refl

steps_same : (a : List Step) → same_steps a a ≡ true
steps_same [] = refl
steps_same (s ∷ ss) = and_from (same_step s s) (same_steps ss ss) (step_same s) (steps_same ss)

pub path_same : (a : Path) → same_path a a ≡ true
path_same a = and_from (same_root a.root a.root) (same_steps a.steps a.steps) (root_same a.root) (steps_same a.steps)

pub bytes_turned : (a b : List ℕ) → bytes_eq a b ≡ true → bytes_eq b a ≡ true
bytes_turned [] [] h = refl
bytes_turned [] (b ∷ bs) h = absurd (false≢true h)
bytes_turned (a ∷ as') [] h = absurd (false≢true h)
bytes_turned (a ∷ as') (b ∷ bs) h =
    let both = and_parts (nat_eq a b) (bytes_eq as' bs) h in
    and_from (nat_eq b a) (bytes_eq bs as') (eq-eqb b a (sym (eqb-true a b both.0))) (bytes_turned as' bs both.1)

pub pos_same : (p : Pos) → same_pos p p ≡ true
pos_same p =
    and_from (nat_eq p.file p.file) (nat_eq p.line p.line && nat_eq p.col p.col) (eq-eqb p.file p.file refl)
    (and_from (nat_eq p.line p.line) (nat_eq p.col p.col) (eq-eqb p.line p.line refl) (eq-eqb p.col p.col refl))
