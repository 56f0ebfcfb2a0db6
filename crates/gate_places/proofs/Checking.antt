-- Tests of the targets of a set, one for each pair.
use Rattle.std.proofs.Common.{◌≡◌, ℕ, zero, suc, ◌+◌, ◌<◌, ◌≤◌, Bool, List, [], ◌∷◌, ◌++◌, length, take, get_or, refl, sym, ◌∙◌, ap, subst, arith}
use Rattle.std.proofs.lemmas.List.{take_more, take_all}
use Rattle.std.proofs.lemmas.List.Elements.{All-nil, All-push}
use Rattle.bit_net.specs.declared.nodes.Gate.{Gate}
use Rattle.bit_net.specs.declared.nodes.Node.{Node}
use Rattle.bit_net.specs.Runs.{Grown, Gives}
use Rattle.gl_sets.specs.declared.pairs.Pair.{Pair}
use Rattle.gl_sets.specs.Guards.{Tests}
use Rattle.gl_sets.specs.Sets.{IsWhere}
use Rattle.gl_store.specs.declared.stores.Location.{Location}
use Rattle.run_store.specs.Concrete.{Place}
use Rattle.sc_world.specs.Tree.{Ty}
use Rattle.sc_world.specs.Layout.{Layout}
use Rattle.gate_runs.specs.declared.ends.Ends.{Ends}
use Rattle.gate_runs.specs.Stands.{IsEndedWhere}
use Rattle.gate_places.specs.declared.checks.Check.{Check}
use Rattle.gate_places.specs.Checks.{IsTest, HaveTests, DoesCheck, fails, fails_at, is_null_check, reason_of}

-- the target of null, and one that is one more than a location
pub null_test : (ns : List Node) (l : List Location) (c : Check) (p : Layout) (t : Ty) (target gate : ℕ) (b : Bool) → target ≡ 0 → b ≡ is_null_check c
    → Gives ns gate (λ choice v. b) → IsTest ns l (λ ps. fails c p t ps target) gate
null_test ns l c p t zero gate b e is gives =
    record { below = gives.below; value = λ choice v runs ps met. gives.value choice v runs ∙ is }
null_test ns l c p t (suc at) gate b e is gives = absurd (omega (arith, e))

pub target_test : (ns : List Node) (l : List Location) (c : Check) (p : Layout) (t : Ty) (target at gate : ℕ) → target ≡ at + 1
    → IsTest ns l (λ ps. fails_at c p t ps at) gate → IsTest ns l (λ ps. fails c p t ps target) gate
target_test ns l c p t zero at gate e is = absurd (omega (arith, e))
target_test ns l c p t (suc target) at gate e is =
    subst (λ k. IsTest ns l (λ ps. fails_at c p t ps k) gate) (omega (arith, e)) is

tests_more : (v : ℕ → Bool) (ps : List Pair) (gs : List Gate) (p : Pair) (g : Gate) (f : ℕ → Bool) → Tests v ps gs f → v g.at ≡ f p.target
    → Tests v (ps ++ p ∷ []) (gs ++ g ∷ []) f
tests_more v [] [] p g f h e = (e, tt)
tests_more v (q ∷ ps) (k ∷ gs) p g f h e = (h.0, tests_more v ps gs p g f h.1 e)
tests_more v [] (k ∷ gs) p g f h e = absurd h
tests_more v (q ∷ ps) [] p g f h e = absurd h

length_more : {A : Type 0} (xs : List A) (x : A) → length (xs ++ x ∷ []) ≡ length xs + 1
length_more [] x = refl
length_more (y ∷ xs) x = omega (arith, length_more xs x)

module _ (ns : List Node) (l : List Location) (test : List Place → ℕ → Bool) (ps : List Pair) where
  pub tests_none : (tests : List Gate) → tests ≡ [] → HaveTests ns l test (take 0 ps) tests
  tests_none tests e =
      subst (λ gs. HaveTests ns l test [] gs) (sym e)
      (record { wide = refl; below = All-nil (λ k. k.at < length ns); holds = λ choice v runs qs met. tt })

  pub tests_step : (tests new : List Gate) (i : ℕ) (d : Pair) (g : Gate) → i < length ps → new ≡ tests ++ g ∷ []
      → IsTest ns l (λ qs. test qs (get_or ps i d).target) g.at → HaveTests ns l test (take i ps) tests
      → HaveTests ns l test (take (i + 1) ps) new
  tests_step tests new i d g low pushed is h =
      let p : Pair = get_or ps i d in
      subst (λ qs. HaveTests ns l test qs new) (sym (take_more ps i d low))
      (subst (λ gs. HaveTests ns l test (take i ps ++ p ∷ []) gs) (sym pushed)
      (record {
        wide = length_more tests g ∙ ap (λ n. n + 1) h.wide ∙ sym (length_more (take i ps) p);
        below = All-push (λ k. k.at < length ns) tests g h.below is.below;
        holds = λ choice v runs qs met.
            tests_more v (take i ps) tests p g (λ t. test qs t) (h.holds choice v runs qs met) (is.value choice v runs qs met);
      }))

  pub tests_whole : (tests : List Gate) (i : ℕ) → length ps ≤ i → HaveTests ns l test (take i ps) tests → HaveTests ns l test ps tests
  tests_whole tests i high h = subst (λ qs. HaveTests ns l test qs tests) (take_all i ps high) h

-- the run ends where the gate of the tests holds
pub does_check : (n1 n2 n3 : List Node) (p : Layout) (t : Ty) (l : List Location) (c : Check) (pointer : List Pair) (tests : List Gate) (when : ℕ) (old new : Ends)
    → Grown n1 n2 → Grown n2 n3 → HaveTests n1 l (λ ps target. fails c p t ps target) pointer tests → IsWhere n2 pointer tests when
    → IsEndedWhere n3 when (reason_of c) old new → DoesCheck n3 p t l c pointer old new
does_check n1 n2 n3 p t l c pointer tests when old new grown12 grown23 have is ended =
    record {
      does = λ choice v runs target points.
          let r2 = grown23.runs choice v runs in
          let r1 = grown12.runs choice v r2 in
          ended.does choice v runs l (λ w. fails c p t w.places target)
          (λ w met. is.points choice v r2 (λ k. fails c p t w.places k) target (have.holds choice v r1 w.places met) points);
    }
