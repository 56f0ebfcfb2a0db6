-- Statements: where they go on, and loops.
use Rattle.std.proofs.Common.{◌≡◌, ℕ, zero, suc, ◌+◌, Bool, true, List, length, refl, sym, ap, ◌∙◌}
use Rattle.std.specs.Prelude.{Option, Ok, if◌then◌else◌}
use Rattle.sc_base.specs.declared.pos.NameId.{NameId}
use Rattle.run_store.specs.Concrete.{Cell}
use Rattle.sc_world.specs.declared.run.Reason.TheVariants as reason
use Rattle.sc_world.specs.Tree.{Exp}
use Rattle.sc_world.specs.Source.{Source}
use Rattle.sc_world.specs.Layout.{Layout}
use Rattle.sc_world.specs.World.{World, Run, ◌>>=◌, goes_on, done, aside, Env}
use Rattle.sc_world.specs.Exec.{Flow, Next, Breaks, Continues, GoesTo, Returns, after_turn, turns, again, do_turns, with_step, evaluate_if, result_or}
use Rattle.flow_graph.specs.Nodes.{SetAside, Kept}
use Rattle.flow_graph.specs.Growing.{Growing, Build, put}
use Rattle.flow_graph.specs.Statements.{Targets, look, Piece, in_loop, last_turn, while_turn, while_turns, do_turn, aside_at}
use Rattle.flow_graph.specs.Statements as unrolled
use Rattle.flow_graph.proofs.Steps.{goes_assoc}
use Rattle.flow_graph.proofs.Parts.{Fits, Grows, grows_trans, grows_put}
use Rattle.flow_graph.proofs.Values.{Then, Tests}

module _ (s : Source) (p : Layout) (choice : List Bool) (v : ℕ → Kept → Run Cell) where
  abbrev pub Goes : ℕ → Run Cell → Type 0
  Goes at rest = (k : Kept) (w : World) → v at k w ≡ rest w

  -- The targets do what the rest of the run does with each way to go on.
  pub record Meets (k : Targets) (go : Flow → Run Cell) : Type 0 where
    pub next : Goes k.next (go Next)
    pub leave : Goes k.leave (go Breaks)
    pub again : Goes k.again (go Continues)
    pub label : (n : NameId) → Goes (look n k.labels k.lost) (go (GoesTo n))
    pub returns : (c : Cell) (w : World) → go (Returns c) w ≡ (Ok (result_or s c), w)

  -- a piece does what the statement does, and goes on
  pub record Follows (m : Piece) (flow : Run Flow) : Type 0 where
    pub grows : (k : Targets) (g : Growing) → Grows s p choice v g (m k g).1
    pub by : (k : Targets) (g : Growing) → Fits s p choice v (m k g).1.nodes → (go : Flow → Run Cell) → Meets k go
        → Goes (m k g).0 (flow >>= go)

  -- behind the body of a loop
  meets_loop : (k : Targets) (at : ℕ) (rest : Run Flow) (go : Flow → Run Cell) → Meets k go → Goes at (rest >>= go)
      → Meets (in_loop k at) (λ f. after_turn f rest >>= go)
  meets_loop k at rest go m h = record {
    next = λ kept w. h kept w;
    leave = λ kept w. m.next kept w;
    again = λ kept w. h kept w;
    label = λ n kept w. m.label n kept w;
    returns = λ c w. m.returns c w;
  }

  module _ (turn : ℕ) where
    last_does : (test : (hit miss : ℕ) → Build ℕ) (holds : Run Bool) → Tests s p choice v turn test holds
        → Follows (last_turn test) (holds >>= λ c. if c then aside reason.Depth else done Next)
    last_does test holds t = record {
      grows = λ k g. grows_trans s p choice v (grows_put s p choice v (SetAside reason.Depth) g)
          (t.grows (length g.nodes) k.next (put (SetAside reason.Depth) g).1);
      by = λ k g fits go m kept w.
          t.by (length g.nodes) k.next (put (SetAside reason.Depth) g).1 fits
          (λ c. (if c then aside reason.Depth else done Next) >>= go)
          (λ kept' u. ((t.grows (length g.nodes) k.next (put (SetAside reason.Depth) g).1).fits fits).0.by kept' u)
          (λ kept' u. m.next kept' u) kept w
          ∙ sym (goes_assoc (holds w) (λ c. if c then aside reason.Depth else done Next) go);
    }

    turn_does : (test : (hit miss : ℕ) → Build ℕ) (holds : Run Bool) (body rest : Piece) (does more : Run Flow)
        → Tests s p choice v turn test holds → Follows body does → Follows rest more
        → Follows (while_turn test body rest) (holds >>= λ c. if c then (does >>= λ f. after_turn f more) else done Next)
    turn_does test holds body rest does more t b r = record {
      grows = λ k g. grows_trans s p choice v (r.grows k g) (grows_trans s p choice v (grows_body k g) (grows_test k g));
      by = λ k g fits go m kept w.
          t.by (begins k g).0 k.next (begins k g).1 fits
          (λ c. (if c then (does >>= λ f. after_turn f more) else done Next) >>= go)
          (λ kept' u.
          b.by (in_loop k (rest k g).0) (rest k g).1 ((grows_test k g).fits fits) (λ f. after_turn f more >>= go)
          (meets_loop k (rest k g).0 more go m (r.by k g ((grows_body k g).fits ((grows_test k g).fits fits)) go m)) kept' u
          ∙ sym (goes_assoc (does u) (λ f. after_turn f more) go))
          (λ kept' u. m.next kept' u) kept w
          ∙ sym (goes_assoc (holds w) (λ c. if c then (does >>= λ f. after_turn f more) else done Next) go);
    }
      where
        begins : Targets → Build ℕ
        begins k g = body (in_loop k (rest k g).0) (rest k g).1

        grows_body : (k : Targets) (g : Growing) → Grows s p choice v (rest k g).1 (begins k g).1
        grows_body k g = b.grows (in_loop k (rest k g).0) (rest k g).1

        grows_test : (k : Targets) (g : Growing) → Grows s p choice v (begins k g).1 (while_turn test body rest k g).1
        grows_test k g = t.grows (begins k g).0 k.next (begins k g).1

    pub turns_do : (left t : ℕ) (test : ℕ → (hit miss : ℕ) → Build ℕ) (holds : ℕ → Run Bool) (body : ℕ → Piece) (does : ℕ → Run Flow)
        → ((t : ℕ) → Tests s p choice v turn (test t) (holds t)) → ((t : ℕ) → Follows (body t) (does t))
        → Follows (unrolled.while_turns left t test body) (turns left t holds does)
    turns_do zero t test holds body does ts bs = last_does (test t) (holds t) (ts t)
    turns_do (suc more) t test holds body does ts bs =
        turn_does (test t) (holds t) (body t) (unrolled.while_turns more (t + 1) test body) (does t) (turns more (t + 1) holds does)
        (ts t) (bs t) (turns_do more (t + 1) test holds body does ts bs)

    -- a loop that tests behind its body
    aside_does : Follows aside_at (aside reason.Depth)
    aside_does = record {
      grows = λ k g. grows_put s p choice v (SetAside reason.Depth) g;
      by = λ k g fits go m kept w. fits.0.by kept w;
    }

    again_is : (left : ℕ) (t : ℕ) (holds : ℕ → Run Bool) (does : ℕ → Run Flow) (w : World)
        → again true left (do_turns left t holds does) w ≡ do_turns left t holds does w
    again_is zero t holds does w = refl
    again_is (suc left) t holds does w = refl

    do_turn_does : (test : (hit miss : ℕ) → Build ℕ) (holds : Run Bool) (body rest : Piece) (does more : Run Flow) (left : ℕ)
        → ((w : World) → again true left more w ≡ more w)
        → Tests s p choice v turn test holds → Follows body does → Follows rest more
        → Follows (do_turn test body rest) (does >>= λ f. after_turn f (holds >>= λ c. again c left more))
    do_turn_does test holds body rest does more left same t b r = record {
      grows = λ k g. grows_trans s p choice v (r.grows k g) (grows_trans s p choice v (grows_test k g) (grows_body k g));
      by = λ k g fits go m kept w.
          b.by (in_loop k (tests k g).0) (tests k g).1 fits (λ f. after_turn f (holds >>= λ c. again c left more) >>= go)
          (meets_loop k (tests k g).0 (holds >>= λ c. again c left more) go m
          (λ kept' u.
          t.by (rest k g).0 k.next (rest k g).1 ((grows_body k g).fits fits) (λ c. again c left more >>= go)
          (λ k' u'. r.by k g ((grows_test k g).fits ((grows_body k g).fits fits)) go m k' u' ∙ ap (λ x. goes_on x go) (sym (same u')))
          (λ k' u'. m.next k' u') kept' u
          ∙ sym (goes_assoc (holds u) (λ c. again c left more) go))) kept w
          ∙ sym (goes_assoc (does w) (λ f. after_turn f (holds >>= λ c. again c left more)) go);
    }
      where
        tests : Targets → Build ℕ
        tests k g = test (rest k g).0 k.next (rest k g).1

        grows_test : (k : Targets) (g : Growing) → Grows s p choice v (rest k g).1 (tests k g).1
        grows_test k g = t.grows (rest k g).0 k.next (rest k g).1

        grows_body : (k : Targets) (g : Growing) → Grows s p choice v (tests k g).1 (do_turn test body rest k g).1
        grows_body k g = b.grows (in_loop k (tests k g).0) (tests k g).1

    pub do_turns_do : (left t : ℕ) (test : ℕ → (hit miss : ℕ) → Build ℕ) (holds : ℕ → Run Bool) (body : ℕ → Piece) (does : ℕ → Run Flow)
        → ((t : ℕ) → Tests s p choice v turn (test t) (holds t)) → ((t : ℕ) → Follows (body t) (does t))
        → Follows (unrolled.do_turns left t test body) (do_turns left t holds does)
    do_turns_do zero t test holds body does ts bs = aside_does
    do_turns_do (suc more) t test holds body does ts bs =
        do_turn_does (test t) (holds t) (body t) (unrolled.do_turns more (t + 1) test body) (does t) (do_turns more (t + 1) holds does) more
        (again_is more (t + 1) holds does) (ts t) (bs t) (do_turns_do more (t + 1) test holds body does ts bs)

    -- the step of a `for`, behind its body
    meets_step : (k : Targets) (at : ℕ) (n : Option Exp) (env : Env) (go : Flow → Run Cell) → Meets k go
        → Goes at (evaluate_if n env >>= λ _. go Next)
        → Meets (record k { next = at; again = at }) (λ f. with_step n env f >>= go)
    meets_step k at n env go m h = record {
      next = λ kept w. h kept w ∙ sym (goes_assoc (evaluate_if n env w) (λ _. done Next) go);
      leave = λ kept w. m.leave kept w;
      again = λ kept w. h kept w ∙ sym (goes_assoc (evaluate_if n env w) (λ _. done Next) go);
      label = λ l kept w. m.label l kept w;
      returns = λ c w. m.returns c w;
    }

    pub step_does : (body : Piece) (does : Run Flow) (step : (next : ℕ) → Build ℕ) (n : Option Exp) (env : Env)
        → Follows body does → Then s p choice v turn step (evaluate_if n env)
        → Follows (unrolled.with_step body step) (does >>= with_step n env)
    step_does body does step n env b st = record {
      grows = λ k g. grows_trans s p choice v (st.grows k.next g) (grows_body k g);
      by = λ k g fits go m kept w.
          b.by (record k { next = (step k.next g).0; again = (step k.next g).0 }) (step k.next g).1 fits (λ f. with_step n env f >>= go)
          (meets_step k (step k.next g).0 n env go m
          (λ kept' u. st.by k.next g ((grows_body k g).fits fits) (go Next) m.next kept' u)) kept w
          ∙ sym (goes_assoc (does w) (with_step n env) go);
    }
      where
        grows_body : (k : Targets) (g : Growing) → Grows s p choice v (step k.next g).1 (unrolled.with_step body step k g).1
        grows_body k g = b.grows (record k { next = (step k.next g).0; again = (step k.next g).0 }) (step k.next g).1
