-- Pointers that are compared.
use Rattle.std.proofs.Common.{◌≡◌, ℕ, ◌+◌, ◌<◌, ◌≤◌, Bool, true, false, nat_eq, List, [], ◌∷◌, ◌++◌, length, take, get_or, refl, sym, ◌∙◌, ap, subst, arith}
use Rattle.std.proofs.lemmas.Bool.{eq-eqb, eqb-true, eqb-false, ne_eqb}
use Rattle.std.proofs.lemmas.List.{take_more, take_all}
use Rattle.std.proofs.lemmas.List.Elements.{All-nil, All-push}
use Rattle.bit_net.specs.declared.nodes.Gate.{Gate}
use Rattle.bit_net.specs.declared.nodes.Node.{Node}
use Rattle.bit_net.specs.Runs.{Grown, Gives}
use Rattle.gl_sets.specs.declared.pairs.Pair.{Pair}
use Rattle.gl_sets.specs.Guards.{Tests, guard}
use Rattle.gl_sets.specs.Sets.{IsWhere}
use Rattle.gl_sets.proofs.PointLemmas.{guard-points}
use Rattle.gate_values.specs.Operators.{HasTests, IsSameTarget}

tests_more : (v : ℕ → Bool) (ps : List Pair) (gs : List Gate) (p : Pair) (g : Gate) (f : ℕ → Bool) → Tests v ps gs f → v g.at ≡ f p.target
    → Tests v (ps ++ p ∷ []) (gs ++ g ∷ []) f
tests_more v [] [] p g f h e = (e, tt)
tests_more v (q ∷ ps) (k ∷ gs) p g f h e = (h.0, tests_more v ps gs p g f h.1 e)
tests_more v [] (k ∷ gs) p g f h e = absurd h
tests_more v (q ∷ ps) [] p g f h e = absurd h

length_more : {A : Type 0} (xs : List A) (x : A) → length (xs ++ x ∷ []) ≡ length xs + 1
length_more [] x = refl
length_more (y ∷ xs) x = omega (arith, length_more xs x)

pub tests_none : (ns : List Node) (ps others : List Pair) (tests : List Gate) → tests ≡ [] → HasTests ns (take 0 ps) others tests
tests_none ns ps others tests e =
    subst (λ gs. HasTests ns [] others gs) (sym e)
    (record { wide = refl; below = All-nil (λ k. k.at < length ns); holds = λ choice v runs. tt })

pub tests_step : (ns : List Node) (ps others : List Pair) (tests new : List Gate) (i : ℕ) (d : Pair) (g : Gate) → i < length ps
    → new ≡ tests ++ g ∷ [] → Gives ns g.at (λ choice v. guard v others (get_or ps i d).target)
    → HasTests ns (take i ps) others tests → HasTests ns (take (i + 1) ps) others new
tests_step ns ps others tests new i d g low pushed is h =
    let p : Pair = get_or ps i d in
    subst (λ qs. HasTests ns qs others new) (sym (take_more ps i d low))
    (subst (λ gs. HasTests ns (take i ps ++ p ∷ []) others gs) (sym pushed)
    (record {
      wide = length_more tests g ∙ ap (λ n. n + 1) h.wide ∙ sym (length_more (take i ps) p);
      below = All-push (λ k. k.at < length ns) tests g h.below is.below;
      holds = λ choice v runs. tests_more v (take i ps) tests p g (λ t. guard v others t) (h.holds choice v runs) (is.value choice v runs);
    }))

pub tests_whole : (ns : List Node) (ps others : List Pair) (tests : List Gate) (i : ℕ) → length ps ≤ i → HasTests ns (take i ps) others tests
    → HasTests ns ps others tests
tests_whole ns ps others tests i high h = subst (λ qs. HasTests ns qs others tests) (take_all i ps high) h

pub same_gate : (ns old : List Node) (a b : List Pair) (tests : List Gate) (gate : ℕ) → Grown old ns → HasTests old a b tests
    → IsWhere ns a tests gate → IsSameTarget ns a b gate
same_gate ns old a b tests gate grown has is =
    record {
      below = is.below;
      value = λ choice v runs t u left right.
          is.points choice v runs (λ x. guard v b x) t (has.holds choice v (grown.runs choice v runs)) left
          ∙ guard-points v b u t right ∙ swapped u t;
    }
  where
    swapped : (u t : ℕ) → nat_eq u t ≡ nat_eq t u
    swapped u t = by (nat_eq u t) refl
      where
        by : (b : Bool) → nat_eq u t ≡ b → nat_eq u t ≡ nat_eq t u
        by true e = e ∙ sym (eq-eqb t u (sym (eqb-true u t e)))
        by false e = e ∙ sym (ne_eqb t u (λ h. eqb-false u t e (sym h)))
