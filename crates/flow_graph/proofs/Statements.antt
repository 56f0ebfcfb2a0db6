-- The graph of every statement does what the tree does.
use Rattle.std.proofs.Common.{ℕ, suc, ◌+◌, Bool, List, ◌∷◌, length, sym, ap, ◌∙◌, arith}
use Rattle.std.specs.Prelude.{Option, Some, None, Ok, if◌then◌else◌}
use Rattle.sc_base.specs.declared.pos.Pos.{Pos}
use Rattle.run_store.specs.Concrete.{Cell, Nothing}
use Rattle.sum_rows.specs.declared.report.What.TheVariants as what
use Rattle.sc_world.specs.Tree.{Exp, Start, Stm, Block, Decl, Evaluate, If, IfElse, While, Do, For, Switch, Case, Default, Goto, Break, Continue, Return, Label, Stms, NoStms, Stms'}
use Rattle.sc_world.specs.Source.{Source}
use Rattle.sc_world.specs.Layout.{Layout}
use Rattle.sc_world.specs.World.{Run, ◌>>=◌, done, Env, event}
use Rattle.sc_world.specs.Eval.{Value, eval}
use Rattle.sc_world.specs.Exec.{Next, GoesTo, Returns, condition, condition_if, begin, for_by, with_step, return_value, result_or, exec}
use Rattle.flow_graph.specs.Nodes.{Mark, Exit, Kept, in_tree}
use Rattle.flow_graph.specs.Growing.{Growing, Build}
use Rattle.flow_graph.specs.Expressions.{Into, unroll}
use Rattle.flow_graph.specs.Statements.{Targets, Piece, tested, test_or_true, dropped_if, started, declarators, turn_of, returning, unroll_stm, unroll_stms, while_turns}
use Rattle.flow_graph.specs.Statements as unrolled
use Rattle.flow_graph.proofs.Steps.{goes_ext, goes_assoc}
use Rattle.flow_graph.proofs.Parts.{Grows, grows_refl, grows_trans, grows_put}
use Rattle.flow_graph.proofs.Expressions.{does}
use Rattle.flow_graph.proofs.Values.{Then, Tests, tests, tests_if, drops_if, declares_all, starts}
use Rattle.flow_graph.proofs.Loops.{Follows, turns_do, do_turns_do, step_does}
use Rattle.flow_graph.proofs.Blocks.{Opens, opens_nothing, opens_item, switch_does}

module _ (s : Source) (p : Layout) (choice : List Bool) (v : ℕ → Kept → Run Cell) where
  -- a test does the same in whatever turn it is spoken of
  any_turn : {t u : ℕ} {m : (hit miss : ℕ) → Build ℕ} {test : Run Bool} → Tests s p choice v t m test → Tests s p choice v u m test
  any_turn x = record { grows = x.grows; by = x.by }

  any_then : {t u : ℕ} {m : (next : ℕ) → Build ℕ} {step : Run (Unit {0})} → Then s p choice v t m step → Then s p choice v u m step
  any_then x = record { grows = x.grows; by = x.by }

  module _ (turn : ℕ) where
    abbrev tree : Env
    tree = in_tree s p choice turn

    then_does : (m : (next : ℕ) → Build ℕ) (step : Run (Unit {0})) → Then s p choice v turn m step
        → Follows s p choice v (λ k. m k.next) (step >>= λ _. done Next)
    then_does m step t = record {
      grows = λ k g. t.grows k.next g;
      by = λ k g fits go meets kept w. t.by k.next g fits (go Next) meets.next kept w ∙ sym (goes_assoc (step w) (λ _. done Next) go);
    }

    if_does : (q : Pos) (e : Exp) (x : Stm) (part : Piece) → Follows s p choice v part (exec x tree)
        → Follows s p choice v (λ k g. tested (unroll e turn) q what.If (part k g).0 k.next (part k g).1) (exec (If q e x) tree)
    if_does q e x part f = record {
      grows = λ k g. grows_trans s p choice v (f.grows k g) ((tests s p choice v turn e q what.If).grows (part k g).0 k.next (part k g).1);
      by = λ k g fits go m kept w.
          (tests s p choice v turn e q what.If).by (part k g).0 k.next (part k g).1 fits
          (λ c. (if c then exec x tree else done Next) >>= go)
          (f.by k g (((tests s p choice v turn e q what.If).grows (part k g).0 k.next (part k g).1).fits fits) go m)
          (λ k' u. m.next k' u) kept w
          ∙ sym (goes_assoc (condition q what.If e tree w) (λ c. if c then exec x tree else done Next) go);
    }

    if_else_does : (q : Pos) (e : Exp) (x y : Stm) (hit miss : Piece) → Follows s p choice v hit (exec x tree)
        → Follows s p choice v miss (exec y tree)
        → Follows s p choice v
        (λ k g. tested (unroll e turn) q what.If (hit k g).0 (miss k (hit k g).1).0 (miss k (hit k g).1).1)
        (exec (IfElse q e x y) tree)
    if_else_does q e x y hit miss f h = record {
      grows = λ k g. grows_trans s p choice v (f.grows k g) (grows_trans s p choice v (h.grows k (hit k g).1) (grows_test k g));
      by = λ k g fits go m kept w.
          (tests s p choice v turn e q what.If).by (hit k g).0 (miss k (hit k g).1).0 (miss k (hit k g).1).1 fits
          (λ c. (if c then exec x tree else exec y tree) >>= go)
          (f.by k g ((h.grows k (hit k g).1).fits ((grows_test k g).fits fits)) go m)
          (h.by k (hit k g).1 ((grows_test k g).fits fits) go m) kept w
          ∙ sym (goes_assoc (condition q what.If e tree w) (λ c. if c then exec x tree else exec y tree) go);
    }
      where
        grows_test : (k : Targets) (g : Growing)
            → Grows s p choice v (miss k (hit k g).1).1
            (tested (unroll e turn) q what.If (hit k g).0 (miss k (hit k g).1).0 (miss k (hit k g).1).1).1
        grows_test k g = (tests s p choice v turn e q what.If).grows (hit k g).0 (miss k (hit k g).1).0 (miss k (hit k g).1).1

    return_does : (q : Pos) (e : Option Exp) → Follows s p choice v (λ k. returning e turn q) (return_value q e tree)
    return_does q None = record {
      grows = λ k g. record { fits = λ z. z.1.1; temps = omega arith; slots = omega arith };
      by = λ k g fits go m kept w.
          fits.0.by kept w
          ∙ goes_ext (event q what.Return w) (λ _. v (length g.nodes) kept) (λ _. go (Returns Nothing))
          (λ y u. fits.1.0.by kept u ∙ sym (m.returns Nothing u));
    }
    return_does q (Some e) = record {
      grows = λ k g. grows_trans s p choice v (grows_out g)
          ((does s p choice v turn e).grows (Into Value g.temps (suc (length g.nodes))) (out g));
      by = λ k g fits go m kept w.
          (does s p choice v turn e).by (Into Value g.temps (suc (length g.nodes))) (out g) 0 (omega arith) (omega arith) fits kept
          (λ c. event q what.Return >>= λ _. go (Returns c))
          (record {
            goes = λ new c w' a told.
                ((((does s p choice v turn e).grows (Into Value g.temps (suc (length g.nodes))) (out g)).fits fits)).0.by new w'
                ∙ goes_ext (event q what.Return w') (λ _. v (length g.nodes) new) (λ _. go (Returns c))
                (λ y u. ((((does s p choice v turn e).grows (Into Value g.temps (suc (length g.nodes))) (out g)).fits fits)).1.0.by new u
                ∙ ap (λ d. (Ok (result_or s d), u)) told ∙ sym (m.returns c u));
          }) w
          ∙ sym (goes_assoc (eval e Value tree w) (λ c. event q what.Return >>= λ _. done (Returns c)) go);
    }
      where
        out : Growing → Growing
        out g = record { nodes = Mark q what.Return (length g.nodes) ∷ Exit (Some g.temps) ∷ g.nodes; temps = g.temps + 1; slots = g.slots }

        grows_out : (g : Growing) → Grows s p choice v g (out g)
        grows_out g = record { fits = λ z. z.1.1; temps = omega arith; slots = omega arith }

  for_does : (turn : ℕ) (q : Pos) (f : Start) (c n : Option Exp) (x : Stm)
      → ((t : ℕ) → Follows s p choice v (unroll_stm s.depth x (turn_of turn s.depth t))
      (exec x (in_tree s p choice (turn_of turn s.depth t))))
      → Follows s p choice v (unroll_stm s.depth (For q f c n x) turn) (exec (For q f c n x) (in_tree s p choice turn))
  for_does turn q f c n x bodies = record {
    grows = λ k g. grows_trans s p choice v (loop.grows k g) ((starts s p choice v turn f).grows (turned k g).0 (turned k g).1);
    by = λ k g fits go m kept w.
        (starts s p choice v turn f).by (turned k g).0 (turned k g).1 fits (for_by q c n (in_tree s p choice turn) (exec x) >>= go)
        (loop.by k g (((starts s p choice v turn f).grows (turned k g).0 (turned k g).1).fits fits) go m) kept w
        ∙ sym (goes_assoc (begin f (in_tree s p choice turn) w) (λ _. for_by q c n (in_tree s p choice turn) (exec x)) go);
  }
    where
      turned : Targets → Build ℕ
      turned k g =
          while_turns s.depth 0
          (λ t. test_or_true c (turn_of turn (s.depth + 1) t) q)
          (λ t. unrolled.with_step (unroll_stm s.depth x (turn_of turn s.depth t)) (dropped_if n (turn_of turn s.depth t))) k g

      loop : Follows s p choice v turned (for_by q c n (in_tree s p choice turn) (exec x))
      loop =
          turns_do s p choice v turn s.depth 0
          (λ t. test_or_true c (turn_of turn (s.depth + 1) t) q)
          (λ t. condition_if q c (in_tree s p choice (turn_of turn (s.depth + 1) t)))
          (λ t. unrolled.with_step (unroll_stm s.depth x (turn_of turn s.depth t)) (dropped_if n (turn_of turn s.depth t)))
          (λ t. exec x (in_tree s p choice (turn_of turn s.depth t)) >>= λ f. with_step n (in_tree s p choice (turn_of turn s.depth t)) f)
          (λ t. any_turn (tests_if s p choice v (turn_of turn (s.depth + 1) t) c q))
          (λ t. step_does s p choice v turn (unroll_stm s.depth x (turn_of turn s.depth t))
          (exec x (in_tree s p choice (turn_of turn s.depth t)))
          (dropped_if n (turn_of turn s.depth t)) n (in_tree s p choice (turn_of turn s.depth t)) (bodies t)
          (any_then (drops_if s p choice v (turn_of turn s.depth t) n)))

  mutual
    pub stm_does : (x : Stm) (turn : ℕ) → Follows s p choice v (unroll_stm s.depth x turn) (exec x (in_tree s p choice turn))
    stm_does (Block xs end) turn = record {
      grows = λ k g. (stms_open xs turn).grows k g;
      by = λ k g fits go m kept w. ((stms_open xs turn).by k g fits go m).here kept w;
    }
    stm_does (Decl ds) turn = then_does turn (declarators ds turn) _ (declares_all s p choice v turn ds)
    stm_does (Evaluate e) turn = then_does turn (dropped_if e turn) _ (drops_if s p choice v turn e)
    stm_does (If q e x) turn = if_does turn q e x (unroll_stm s.depth x turn) (stm_does x turn)
    stm_does (IfElse q e x y) turn =
        if_else_does turn q e x y (unroll_stm s.depth x turn) (unroll_stm s.depth y turn) (stm_does x turn)
        (stm_does y turn)
    stm_does (While q e x) turn =
        turns_do s p choice v turn s.depth 0 _ _ _ _
        (λ t. any_turn (tests s p choice v (turn_of turn (s.depth + 1) t) e q what.Loop)) (λ t. stm_does x (turn_of turn s.depth t))
    stm_does (Do q x e) turn =
        do_turns_do s p choice v turn s.depth 0 _ _ _ _
        (λ t. any_turn (tests s p choice v (turn_of turn s.depth t) e q what.Loop)) (λ t. stm_does x (turn_of turn s.depth t))
    stm_does (For q f c n x) turn = for_does turn q f c n x (λ t. stm_does x (turn_of turn s.depth t))
    stm_does (Switch q e xs) turn = switch_does s p choice v turn q e xs (unroll_stms s.depth xs turn) (stms_open xs turn)
    stm_does (Case n e) turn = record { grows = λ k g. grows_refl s p choice v g; by = λ k g fits go m kept w. m.next kept w }
    stm_does Default turn = record { grows = λ k g. grows_refl s p choice v g; by = λ k g fits go m kept w. m.next kept w }
    stm_does (Goto q n) turn = record {
      grows = λ k g. grows_put s p choice v (Mark q (what.Goto n) (unrolled.look n k.labels k.lost)) g;
      by = λ k g fits go m kept w.
          fits.0.by kept w ∙ goes_ext (event q (what.Goto n) w) (λ _. v (unrolled.look n k.labels k.lost) kept)
          (λ _. go (GoesTo n)) (λ y u. m.label n kept u);
    }
    stm_does Break turn = record { grows = λ k g. grows_refl s p choice v g; by = λ k g fits go m kept w. m.leave kept w }
    stm_does Continue turn = record { grows = λ k g. grows_refl s p choice v g; by = λ k g fits go m kept w. m.again kept w }
    stm_does (Return q e) turn = return_does turn q e
    stm_does (Label n x) turn = stm_does x turn

    pub stms_open : (xs : Stms) (turn : ℕ) → Opens s p choice v (in_tree s p choice turn) (unroll_stms s.depth xs turn) xs
    stms_open NoStms turn = opens_nothing s p choice v (in_tree s p choice turn)
    stms_open (Stms' x xs) turn =
        opens_item s p choice v (in_tree s p choice turn) x xs (unroll_stm s.depth x turn) (unroll_stms s.depth xs turn)
        (stm_does x turn) (stms_open xs turn)
