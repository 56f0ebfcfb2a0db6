-- Statements, and whole runs.
use Rattle.std.proofs.Common.{ℕ, zero, suc, ◌+◌, ◌*◌, Bool, true, false, List, [], ◌∷◌}
use Rattle.std.specs.Prelude.{Option, Some, None}
use Rattle.std.specs.List.{AllByRecursion}
use Rattle.sc_base.specs.declared.pos.Pos.{Pos}
use Rattle.sc_base.specs.declared.pos.NameId.{NameId}
use Rattle.sc_typed.specs.declared.stmt.Declared.{Declared}
use Rattle.sc_typed.specs.declared.stmt.Declared.TheVariants as declared
use Rattle.sc_typed.specs.declared.stmt.InitStep.{InitStep}
use Rattle.sc_typed.specs.declared.stmt.InitStep.TheVariants as into
use Rattle.run_store.specs.Concrete.{Cell, Number, Pointer, Nothing, blank}
use Rattle.sum_rows.specs.declared.path.Step.TheVariants as step
use Rattle.sum_rows.specs.declared.report.What.{What}
use Rattle.sum_rows.specs.declared.report.What.TheVariants as what
use Rattle.sc_world.specs.declared.run.Origin.TheVariants as origin
use Rattle.sc_world.specs.Tree.{Exp, type_of, Given, Init, NoInit, One, Braces, Dec, Start, NoStart, Begin, Declare, Stm, Block, Decl, Evaluate, If, IfElse, While, Do, For, Switch, Case, Default, Goto, Break, Continue, Return, Label, Stms, NoStms, Stms'}
use Rattle.sc_world.specs.Source.{Source}
use Rattle.sc_world.specs.Layout.{Layout, location, location_of}
use Rattle.sc_world.specs.World.{World, Run, ◌>>=◌, done, Env, is_true, number_of, kind_of_type}
use Rattle.sc_world.specs.Eval.{Value, Place', eval, place_of, cells_of}
use Rattle.sc_world.specs.Exec.{Flow, Next, Breaks, Continues, GoesTo, Returns, Seek, Here, AtLabel, AtCase, AtDefault, found, left, goes_on_in, chosen_item, out_of_switch, in_turn, condition, after_turn, turns, again, do_turns, name_of_member, member_part, part_into, part_if, part_along, part_at, is_scalar, cells_given, all_given, clear, set_part, set_parts, initialise, declared_as, declarators, evaluate_if, begin, condition_if, switch_event, with_step, return_value, switch_by, exec, exec_all, end_of, result_or, finished}
use Rattle.run_laws.proofs.Steps.{Whatever, Leads, chain, gives, stops, either, IsPlace, Inside, Rules}
use Rattle.run_laws.proofs.Places.{IfPlace, ArePlaces, AreInside, part_place, origin_place, blank_inside, nothing_inside, cells_places}
use Rattle.run_laws.proofs.Values.{tree, stores, tells, loads_all, stores_all, copies}
use Rattle.run_laws.proofs.Expressions.{evaluates}

module _ (s : Source) (p : Layout) (choice : List Bool) (temps : List Cell) (P : World → Type 0) (r : Rules s p temps P) (F : Cell → Type 0) where
  abbrev here : ℕ → Env
  here t = tree s p choice temps P r t

  abbrev Marks : Run (Unit {0}) → Type 0
  Marks m = Leads P Whatever m

  abbrev Asks : Run Bool → Type 0
  Asks m = Leads P Whatever m

  -- what a statement hands over, where a value that is returned has F
  pub FlowHas : Flow → Type 0
  FlowHas (Returns c) = F c
  FlowHas _ = Unit {0}

  abbrev Flows : Run Flow → Type 0
  Flows m = Leads P FlowHas m

  -- Conditions.

  asks : (q : Pos) (x : Bool → What) (e : Exp) (t : ℕ) → Asks (condition q x e (here t))
  asks q x e t =
      chain P (evaluates s p choice temps P r e Value t)
      (λ v _. chain P (tells s p choice temps P r q (x (is_true v))) (λ _ _. gives P {a = is_true v} tt))

  asks_if : (q : Pos) (e : Option Exp) (t : ℕ) → Asks (condition_if q e (here t))
  asks_if q None t = chain P (tells s p choice temps P r q (what.Loop true)) (λ _ _. gives P {a = true} tt)
  asks_if q (Some e) t = asks q what.Loop e t

  -- Initialisers.

  member_place : (at : ℕ) (n : Option NameId) → IfPlace p (member_part p at n)
  member_place at None = tt
  member_place at (Some n) = part_place p at (step.Field n)

  into_place : (t at : ℕ) (x : InitStep) → IfPlace p (part_into (here t) at x)
  into_place t at (into.Field n) = member_place at (name_of_member s (location p at).type n)
  into_place t at (into.Elem n) = part_place p at (step.Elem n)

  if_place : (o : Option ℕ) (f : ℕ → Option ℕ) → IfPlace p o → ((at : ℕ) → IsPlace p at → IfPlace p (f at)) → IfPlace p (part_if o f)
  if_place None f h hf = tt
  if_place (Some at) f h hf = hf at h

  along_place : (t : ℕ) (xs : List InitStep) (at : ℕ) → IsPlace p at → IfPlace p (part_along (here t) xs at)
  along_place t [] at h = h
  along_place t (x ∷ xs) at h =
      if_place (part_into (here t) at x) (part_along (here t) xs) (into_place t at x) (λ k hk. along_place t xs k hk)

  cells : (e : Exp) (t : ℕ) → Leads P (AreInside p) (cells_given e (here t))
  cells e t =
      either P (is_scalar (type_of e)) (chain P (evaluates s p choice temps P r e Value t) (λ v hv. gives P {a = v ∷ []} (hv, tt)))
      (chain P (evaluates s p choice temps P r e Place' t) (λ q _. loads_all s p choice temps P r (cells_of p (place_of q))))

  abbrev AllInside : List (List Cell) → Type 0
  AllInside cs = AllByRecursion (AreInside p) cs

  all_cells : (xs : List Given) (t : ℕ) → Leads P AllInside (all_given xs (here t))
  all_cells [] t = gives P {a = []} tt
  all_cells (x ∷ xs) t =
      chain P (cells x.value t) (λ c hc. chain P (all_cells xs t) (λ cs hs. gives P {a = c ∷ cs} (hc, hs)))

  clears : (t : ℕ) (ks : List ℕ) → ArePlaces p ks → Marks (clear (here t) ks)
  clears t [] h = gives P tt
  clears t (k ∷ ks) h =
      chain P
      (stores s p choice temps P r k (blank (kind_of_type s (location p k).type)) h.0 (blank_inside p (kind_of_type s (location p k).type)))
      (λ _ _. clears t ks h.1)

  sets_part : (t : ℕ) (o : Option ℕ) (cs : List Cell) → AreInside p cs → Marks (set_part (here t) o cs)
  sets_part t None cs h = gives P tt
  sets_part t (Some at) cs h = stores_all s p choice temps P r (cells_of p at) cs (cells_places p at) h

  sets_parts : (t at : ℕ) (xs : List Given) (cs : List (List Cell)) → AllInside cs → Marks (set_parts (here t) at xs cs)
  sets_parts t at [] cs h = gives P tt
  sets_parts t at (x ∷ xs) [] h = gives P tt
  sets_parts t at (x ∷ xs) (c ∷ cs) h =
      chain P (sets_part t (part_at (here t) at x.way) c h.0) (λ _ _. sets_parts t at xs cs h.1)

  initialises : (at : ℕ) (x : Init) (t : ℕ) → IsPlace p at → Marks (initialise at x (here t))
  initialises at NoInit t h = gives P tt
  initialises at (One e) t h =
      either P (is_scalar (type_of e))
      (chain P (evaluates s p choice temps P r e Value t) (λ v hv. stores s p choice temps P r at v h hv))
      (chain P (evaluates s p choice temps P r e Place' t) (λ q _. copies s p choice temps P r t (place_of q) at))
  initialises at (Braces xs) t h =
      chain P (all_cells xs t)
      (λ cs hs. chain P (clears t (cells_of p at) (cells_places p at)) (λ _ _. sets_parts t at xs cs hs))

  declares_as : (d : Declared) (x : Init) (t : ℕ) → Marks (declared_as d x (here t))
  declares_as (declared.Local n) x t = initialises (location_of p (origin.Local n)) x t (origin_place p (origin.Local n))
  declares_as (declared.Global n) x t = gives P tt
  declares_as declared.Function x t = gives P tt

  declares : (ds : List Dec) (t : ℕ) → Marks (declarators ds (here t))
  declares [] t = gives P tt
  declares (d ∷ ds) t = chain P (declares_as d.declared d.init t) (λ _ _. declares ds t)

  evaluates_if : (e : Option Exp) (t : ℕ) → Marks (evaluate_if e (here t))
  evaluates_if None t = gives P tt
  evaluates_if (Some e) t = chain P (evaluates s p choice temps P r e Value t) (λ _ _. gives P tt)

  begins : (x : Start) (t : ℕ) → Marks (begin x (here t))
  begins NoStart t = gives P tt
  begins (Begin e) t = evaluates_if (Some e) t
  begins (Declare ds) t = declares ds t

  -- Loops.

  behind_turn : (f : Flow) (more : Run Flow) → FlowHas f → Flows more → Flows (after_turn f more)
  unfolding FlowHas
  behind_turn Next more h l = l
  behind_turn Continues more h l = l
  behind_turn Breaks more h l = gives P {a = Next} tt
  behind_turn (GoesTo n) more h l = gives P {a = GoesTo n} tt
  behind_turn (Returns c) more h l = gives P {a = Returns c} h

  next_inside : FlowHas Next
  unfolding FlowHas
  next_inside = tt

  takes_turns : (k t : ℕ) (test : ℕ → Run Bool) (body : ℕ → Run Flow) → ((n : ℕ) → Asks (test n)) → ((n : ℕ) → Flows (body n))
      → Flows (turns k t test body)
  takes_turns zero t test body ht hb =
      chain P (ht t) (λ b _. either P b (stops P) (gives P {a = Next} next_inside))
  takes_turns (suc more) t test body ht hb =
      chain P (ht t)
      (λ b _. either P b
      (chain P (hb t) (λ f hf. behind_turn f (turns more (t + 1) test body) hf (takes_turns more (t + 1) test body ht hb)))
      (gives P {a = Next} next_inside))

  goes_again : (b : Bool) (k : ℕ) (more : Run Flow) → Flows more → Flows (again b k more)
  goes_again false k more l = gives P {a = Next} next_inside
  goes_again true zero more l = stops P
  goes_again true (suc k) more l = l

  takes_do_turns : (k t : ℕ) (test : ℕ → Run Bool) (body : ℕ → Run Flow) → ((n : ℕ) → Asks (test n)) → ((n : ℕ) → Flows (body n))
      → Flows (do_turns k t test body)
  takes_do_turns zero t test body ht hb = stops P
  takes_do_turns (suc more) t test body ht hb =
      chain P (hb t)
      (λ f hf. behind_turn f (test t >>= λ b. again b more (do_turns more (t + 1) test body)) hf
      (chain P (ht t) (λ b _. goes_again b more (do_turns more (t + 1) test body) (takes_do_turns more (t + 1) test body ht hb))))

  steps_behind : (n : Option Exp) (t : ℕ) (f : Flow) → FlowHas f → Flows (with_step n (here t) f)
  unfolding FlowHas
  steps_behind n t Next h = chain P (evaluates_if n t) (λ _ _. gives P {a = Next} tt)
  steps_behind n t Continues h = chain P (evaluates_if n t) (λ _ _. gives P {a = Next} tt)
  steps_behind n t Breaks h = gives P {a = Breaks} tt
  steps_behind n t (GoesTo m) h = gives P {a = GoesTo m} tt
  steps_behind n t (Returns c) h = gives P {a = Returns c} h

  -- Statements.

  -- what is returned, if anything, has F
  abbrev pub GivesIf : Option Exp → ℕ → Type 0
  GivesIf None t = Unit {0}
  GivesIf (Some e) t = Leads P F (eval e Value (here t))

  pub returns : (q : Pos) (e : Option Exp) (t : ℕ) → F Nothing → GivesIf e t
      → Flows (return_value q e (here t))
  unfolding FlowHas
  returns q None t none l = chain P (tells s p choice temps P r q what.Return) (λ _ _. gives P {a = Returns Nothing} none)
  returns q (Some e) t none l =
      chain P l
      (λ v hv. chain P (tells s p choice temps P r q what.Return) (λ _ _. gives P {a = Returns v} hv))

  -- each `return` of a statement gives what has F
  abbrev mutual
    pub Gives : Stm → Type 0
    Gives (Block xs end) = AllGive xs
    Gives (If q e x) = Gives x
    Gives (IfElse q e x y) = Gives x × Gives y
    Gives (While q e x) = Gives x
    Gives (Do q x e) = Gives x
    Gives (For q f c n x) = Gives x
    Gives (Switch q e xs) = AllGive xs
    Gives (Return q e) = (t : ℕ) → Flows (return_value q e (here t))
    Gives (Label n x) = Gives x
    Gives _ = Unit {0}

    pub AllGive : Stms → Type 0
    AllGive NoStms = Unit {0}
    AllGive (Stms' x xs) = Gives x × AllGive xs

  leaves_switch : (f : Flow) → FlowHas f → FlowHas (out_of_switch f)
  unfolding FlowHas
  leaves_switch Breaks h = tt
  leaves_switch Next h = tt
  leaves_switch Continues h = tt
  leaves_switch (GoesTo n) h = tt
  leaves_switch (Returns c) h = h

  switches : (o : Option Seek) (items : Seek → Run Flow) → ((k : Seek) → Flows (items k)) → Flows (switch_by o items)
  switches None items l = gives P {a = Next} next_inside
  switches (Some k) items l = chain P (l k) (λ f hf. gives P {a = out_of_switch f} (leaves_switch f hf))

  goes_in : (f : Flow) (rest : Seek → Run Flow) → FlowHas f → ((k : Seek) → Flows (rest k)) → Flows (goes_on_in f rest)
  unfolding FlowHas
  goes_in Next rest h l = l Here
  goes_in (GoesTo n) rest h l = l (AtLabel n)
  goes_in Breaks rest h l = gives P {a = Breaks} tt
  goes_in Continues rest h l = gives P {a = Continues} tt
  goes_in (Returns c) rest h l = gives P {a = Returns c} h

  left_inside : (k : Seek) → FlowHas (left k)
  unfolding FlowHas
  left_inside Here = tt
  left_inside (AtLabel n) = tt
  left_inside (AtCase n) = tt
  left_inside AtDefault = tt

  plain : (f : Flow) → FlowHas f → Flows (done f)
  plain f h = gives P {a = f} h

  breaks_inside : FlowHas Breaks
  unfolding FlowHas
  breaks_inside = tt

  continues_inside : FlowHas Continues
  unfolding FlowHas
  continues_inside = tt

  goto_inside : (n : NameId) → FlowHas (GoesTo n)
  unfolding FlowHas
  goto_inside n = tt

  mutual
    pub executes : (x : Stm) → Gives x → (t : ℕ) → Flows (exec x (here t))
    executes (Block xs end) g t = executes_all xs g Here t
    executes (Decl ds) g t = chain P (declares ds t) (λ _ _. plain Next next_inside)
    executes (Evaluate e) g t = chain P (evaluates_if e t) (λ _ _. plain Next next_inside)
    executes (If q e x) g t = chain P (asks q what.If e t) (λ b _. either P b (executes x g t) (plain Next next_inside))
    executes (IfElse q e x y) g t = chain P (asks q what.If e t) (λ b _. either P b (executes x g.0 t) (executes y g.1 t))
    executes (While q e x) g t =
        takes_turns s.depth 0 (λ n. condition q what.Loop e (in_turn (here t) (s.depth + 1) n)) (λ n. exec x (in_turn (here t) s.depth n))
        (λ n. asks q what.Loop e (t * (s.depth + 1) + n)) (λ n. executes x g (t * s.depth + n))
    executes (Do q x e) g t =
        takes_do_turns s.depth 0 (λ n. condition q what.Loop e (in_turn (here t) s.depth n)) (λ n. exec x (in_turn (here t) s.depth n))
        (λ n. asks q what.Loop e (t * s.depth + n)) (λ n. executes x g (t * s.depth + n))
    executes (For q f c n x) g t =
        chain P (begins f t)
        (λ _ _. takes_turns s.depth 0 (λ k. condition_if q c (in_turn (here t) (s.depth + 1) k))
        (λ k. exec x (in_turn (here t) s.depth k) >>= λ y. with_step n (in_turn (here t) s.depth k) y)
        (λ k. asks_if q c (t * (s.depth + 1) + k))
        (λ k. chain P (executes x g (t * s.depth + k)) (λ y hy. steps_behind n (t * s.depth + k) y hy)))
    executes (Switch q e xs) g t =
        chain P (evaluates s p choice temps P r e Value t)
        (λ v _. chain P (tells s p choice temps P r q (switch_event (here t) (type_of e) v))
        (λ _ _. switches (chosen_item (number_of v) xs) (λ k. exec_all xs k (here t)) (λ k. executes_all xs g k t)))
    executes (Case n e) g t = plain Next next_inside
    executes Default g t = plain Next next_inside
    executes (Goto q n) g t = chain P (tells s p choice temps P r q (what.Goto n)) (λ _ _. plain (GoesTo n) (goto_inside n))
    executes Break g t = plain Breaks breaks_inside
    executes Continue g t = plain Continues continues_inside
    executes (Return q e) g t = g t
    executes (Label n x) g t = executes x g t

    pub executes_all : (xs : Stms) → AllGive xs → (k : Seek) (t : ℕ) → Flows (exec_all xs k (here t))
    executes_all NoStms g k t = plain (left k) (left_inside k)
    executes_all (Stms' x rest) g k t =
        either P (found k x)
        (chain P (executes x g.0 t)
        (λ f hf. goes_in f (λ again. exec_all rest again (here t)) hf (λ again. executes_all rest g.1 again t)))
        (executes_all rest g.1 k t)

  -- the result of a whole run, from a world with the property
  module _ (G : Cell → Type 0) (nothing : G (result_or s Nothing)) (so : (c : Cell) → F c → G (result_or s c)) where
    falls_off : Leads P G (finished s Next)
    falls_off = chain P (tells s p choice temps P r (end_of s.body) what.End) (λ _ _. gives P nothing)

    finishes : (f : Flow) → FlowHas f → Leads P G (finished s f)
    unfolding FlowHas
    finishes (Returns c) h = gives P (so c h)
    finishes Next h = falls_off
    finishes Breaks h = falls_off
    finishes Continues h = falls_off
    finishes (GoesTo n) h = falls_off

    pub runs : Gives s.body → Leads P G (exec s.body (here 0) >>= finished s)
    runs g = chain P (executes s.body g 0) (λ f hf. finishes f hf)

module _ (s : Source) (p : Layout) (choice : List Bool) (temps : List Cell) (P : World → Type 0) (r : Rules s p temps P) where
  return_inside : (e : Option Exp) (t : ℕ) → GivesIf s p choice temps P r (Inside p) e t
  return_inside None t = tt
  return_inside (Some e) t = evaluates s p choice temps P r e Value t

  mutual
    -- every value that is returned points into the layout
    pub gives_inside : (x : Stm) → Gives s p choice temps P r (Inside p) x
    gives_inside (Block xs end) = all_give_inside xs
    gives_inside (If q e x) = gives_inside x
    gives_inside (IfElse q e x y) = (gives_inside x, gives_inside y)
    gives_inside (While q e x) = gives_inside x
    gives_inside (Do q x e) = gives_inside x
    gives_inside (For q f c n x) = gives_inside x
    gives_inside (Switch q e xs) = all_give_inside xs
    gives_inside (Return q e) = λ t.
        returns s p choice temps P r (Inside p) q e t (nothing_inside p) (return_inside e t)
    gives_inside (Label n x) = gives_inside x
    gives_inside (Decl ds) = tt
    gives_inside (Evaluate e) = tt
    gives_inside (Case n e) = tt
    gives_inside Default = tt
    gives_inside (Goto q n) = tt
    gives_inside Break = tt
    gives_inside Continue = tt

    pub all_give_inside : (xs : Stms) → AllGive s p choice temps P r (Inside p) xs
    all_give_inside NoStms = tt
    all_give_inside (Stms' x xs) = (gives_inside x, all_give_inside xs)

  result_inside : (c : Cell) → Inside p c → Inside p (result_or s c)
  result_inside Nothing h = blank_inside p (kind_of_type s (Some s.result))
  result_inside (Number w n) h = h
  result_inside (Pointer t) h = h

  pub executes_inside : (x : Stm) (t : ℕ) → Leads P (FlowHas s p choice temps P r (Inside p)) (exec x (tree s p choice temps P r t))
  executes_inside x t = executes s p choice temps P r (Inside p) x (gives_inside x) t

  pub runs_inside : Leads P (Inside p) (exec s.body (tree s p choice temps P r 0) >>= finished s)
  runs_inside =
      runs s p choice temps P r (Inside p) (Inside p) (result_inside Nothing (nothing_inside p)) result_inside (gives_inside s.body)
