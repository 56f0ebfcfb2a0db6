-- Values of literals and clauses.

use Rattle.std.proofs.Common.{◌≡◌, ◌≢◌, ℕ, ◌<◌, ◌≤◌, ◌⊎◌, inl, inr, Bool, true, false, not, ◌&&◌, ◌||◌, if◌then◌else◌, nat_lt, refl, sym, subst, ap, ◌∙◌, arith}
use Rattle.std.proofs.lemmas.Bool.{ltb-true, ltb-false, true≢false, false≢true}
use Rattle.sat_base.specs.declared.literal.Lit.{Lit}
use Rattle.sat_base.specs.Logic.{lit_true, negation}

pub not_both : {A : Type 0} (b : Bool) → b ≡ true → b ≡ false → A
not_both b sure wrong = absurd (true≢false (sym sure ∙ wrong))

pub true_or_false : (b : Bool) → (b ≡ true) ⊎ (b ≡ false)
true_or_false true = inl refl
true_or_false false = inr refl

-- a value that is not false
pub true_unless : (b : Bool) → (b ≡ false → ⊥) → b ≡ true
true_unless true h = refl
true_unless false h = absurd (h refl)

pub false_unless : (b : Bool) → (b ≡ true → ⊥) → b ≡ false
false_unless true h = absurd (h refl)
false_unless false h = refl

pub both : (a b : Bool) → (a && b) ≡ true → (a ≡ true) × (b ≡ true)
both true b h = (refl, h)
both false b h = absurd (false≢true h)

pub and_of : (a b : Bool) → a ≡ true → b ≡ true → (a && b) ≡ true
and_of true b sure h = h
and_of false b sure h = absurd (false≢true sure)

pub neither : (a b : Bool) → a ≡ false → b ≡ false → (a || b) ≡ false
neither true b wrong h = absurd (true≢false wrong)
neither false b wrong h = h

pub left_false : (a b : Bool) → (a || b) ≡ false → (a ≡ false) × (b ≡ false)
left_false true b h = absurd (true≢false h)
left_false false b h = (refl, h)

by_test : (t : Bool) (a b : ℕ) → nat_lt a b ≡ t → (a < b) ⊎ (b ≤ a)
by_test true a b e = inl (ltb-true a b e)
by_test false a b e = inr (ltb-false a b e)

pub lt_or_le : (a b : ℕ) → (a < b) ⊎ (b ≤ a)
lt_or_le a b = by_test (nat_lt a b) a b refl

pub same_or_not : (a b : ℕ) → (a ≡ b) ⊎ (a ≢ b)
same_or_not a b =
    elim (lt_or_le a b) [
      | inl below ↦ inr (λ e. absurd (omega (arith, e, below)))
      | inr above ↦
          elim (lt_or_le b a) [
            | inl under ↦ inr (λ e. absurd (omega (arith, e, under)))
            | inr over ↦ inl (omega (arith, above, over))
          ]
    ]

negated_value : (neg v : Bool) → (if neg then not v else v) ≡ true → (if not neg then not v else v) ≡ false
negated_value true true h = absurd (false≢true h)
negated_value true false h = refl
negated_value false true h = refl
negated_value false false h = absurd (false≢true h)

value_negated : (neg v : Bool) → (if not neg then not v else v) ≡ true → (if neg then not v else v) ≡ false
value_negated true true h = refl
value_negated true false h = absurd (false≢true h)
value_negated false true h = absurd (false≢true h)
value_negated false false h = refl

false_negated : (neg v : Bool) → (if neg then not v else v) ≡ false → (if not neg then not v else v) ≡ true
false_negated true true h = refl
false_negated true false h = absurd (true≢false h)
false_negated false true h = absurd (true≢false h)
false_negated false false h = refl

negated_false : (neg v : Bool) → (if not neg then not v else v) ≡ false → (if neg then not v else v) ≡ true
negated_false true true h = absurd (true≢false h)
negated_false true false h = refl
negated_false false true h = refl
negated_false false false h = absurd (true≢false h)

-- where the negation is true the literal is false, and the other ways round
pub lit_false : (f : ℕ → Bool) (l : Lit) → lit_true f (negation l) ≡ true → lit_true f l ≡ false
unfolding lit_true
lit_false f l h = value_negated l.neg (f l.var) h

pub negation_true : (f : ℕ → Bool) (l : Lit) → lit_true f l ≡ false → lit_true f (negation l) ≡ true
unfolding lit_true
negation_true f l h = false_negated l.neg (f l.var) h

pub lit_true_of : (f : ℕ → Bool) (l : Lit) → lit_true f (negation l) ≡ false → lit_true f l ≡ true
unfolding lit_true
lit_true_of f l h = negated_false l.neg (f l.var) h

value_told : (neg v : Bool) → (if neg then not v else v) ≡ true → v ≡ not neg
value_told true true h = absurd (false≢true h)
value_told true false h = refl
value_told false true h = refl
value_told false false h = absurd (false≢true h)

-- what a true literal says of its variable
pub told : (f : ℕ → Bool) (l : Lit) (x : ℕ) → l.var ≡ x → lit_true f l ≡ true → lit_true f (record { var = x; neg = false }) ≡ not l.neg
unfolding lit_true
told f l x e h = ap f (sym e) ∙ value_told l.neg (f l.var) h

value_other : (a b v : Bool) → (a ≡ b → ⊥) → (if a then not v else v) ≡ true → (if b then not v else v) ≡ false
value_other true true v other h = absurd (other refl)
value_other true false true other h = absurd (false≢true h)
value_other true false false other h = refl
value_other false true true other h = refl
value_other false true false other h = absurd (false≢true h)
value_other false false v other h = absurd (other refl)

-- a true literal makes that of the other sign false
pub other_sign : (f : ℕ → Bool) (l q : Lit) → l.var ≡ q.var → (l.neg ≡ q.neg → ⊥) → lit_true f l ≡ true → lit_true f q ≡ false
unfolding lit_true
other_sign f l q same other h = value_other l.neg q.neg (f q.var) other (subst (λ x. (if l.neg then not (f x) else f x) ≡ true) same h)

pub not_false : (b : Bool) → not b ≡ false → b ≡ true
not_false true h = refl
not_false false h = absurd (true≢false h)
