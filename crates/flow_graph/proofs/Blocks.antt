-- Blocks and `switch`: where a block begins, and where its labels, its cases and its `default` lead.
use Rattle.std.proofs.Common.{◌≡◌, ℕ, Bool, true, false, List, [], ◌∷◌, length, refl, sym, ap, ◌∙◌, arith}
use Rattle.std.specs.Prelude.{Option, Some, None, nat_eq, ◌||◌, if◌then◌else◌}
use Rattle.sc_base.specs.declared.pos.Pos.{Pos}
use Rattle.sc_base.specs.declared.pos.NameId.{NameId}
use Rattle.run_store.specs.Concrete.{Cell}
use Rattle.sc_world.specs.Tree.{Exp, type_of, Stm, Block, Decl, Evaluate, If, IfElse, While, Do, For, Switch, Case, Default, Goto, Break, Continue, Return, Label, Stms, NoStms, Stms'}
use Rattle.sc_world.specs.Source.{Source}
use Rattle.sc_world.specs.Layout.{Layout}
use Rattle.sc_world.specs.World.{World, Run, ◌>>=◌, goes_on, done, Env, number_of, event}
use Rattle.sc_world.specs.Eval.{Value, eval}
use Rattle.sc_world.specs.Exec.{Flow, Next, Here, AtLabel, AtCase, AtDefault, has_label, is_case, is_default, found, some_item, chosen_item, goes_on_in, out_of_switch, switch_by, switch_event, exec, exec_all}
use Rattle.flow_graph.specs.Nodes.{Choose, MarkSwitch, Kept, temp, in_tree}
use Rattle.flow_graph.specs.Growing.{Growing, Build, put, fresh}
use Rattle.flow_graph.specs.Expressions.{Into, unroll}
use Rattle.flow_graph.specs.Statements.{Target, Targets, look, Piece, Chosen, Opened, closed, labels_of, cases_of, default_of, item, node_or, chain, switched}
use Rattle.flow_graph.proofs.Steps.{goes_ext, goes_assoc}
use Rattle.flow_graph.proofs.Parts.{Fits, Grows, grows_refl, grows_trans, grows_put, grows_fresh}
use Rattle.flow_graph.proofs.Expressions.{does}
use Rattle.flow_graph.proofs.Loops.{Goes, Meets, Follows}

-- where a number leads among cases
abbrev pub pick : ℕ → List Chosen → (other : ℕ) → ℕ
pick n [] other = other
pick n (c ∷ cs) other = if nat_eq n c.number then c.at else pick n cs other

label_or : (c : Bool) (n : NameId) (s : Stm) (at other found : ℕ) → found ≡ (if has_label n s then at else other)
    → (if c then at else found) ≡ (if c || has_label n s then at else other)
label_or true n s at other found h = refl
label_or false n s at other found h = h

pub look_labels : (n : NameId) (s : Stm) (at lost : ℕ) (ts : List Target) → look n (labels_of s at ts) lost ≡
    (if has_label n s then at else look n ts lost)
look_labels n (Block ss end) at lost ts = refl
look_labels n (Decl ds) at lost ts = refl
look_labels n (Evaluate e) at lost ts = refl
look_labels n (If q e x) at lost ts = refl
look_labels n (IfElse q e x y) at lost ts = refl
look_labels n (While q e x) at lost ts = refl
look_labels n (Do q x e) at lost ts = refl
look_labels n (For q f c m x) at lost ts = refl
look_labels n (Switch q e ss) at lost ts = refl
look_labels n (Case m e) at lost ts = refl
look_labels n Default at lost ts = refl
look_labels n (Goto q m) at lost ts = refl
look_labels n Break at lost ts = refl
look_labels n Continue at lost ts = refl
look_labels n (Return q e) at lost ts = refl
look_labels n (Label m s) at lost ts =
    label_or (nat_eq n.at m.at) n s at (look n ts lost) (look n (labels_of s at ts) lost) (look_labels n s at lost ts)

pick_cases : (n : ℕ) (s : Stm) (at other : ℕ) (cs : List Chosen) → pick n (cases_of s at cs) other ≡
    (if is_case n s then at else pick n cs other)
pick_cases n (Block ss end) at other cs = refl
pick_cases n (Decl ds) at other cs = refl
pick_cases n (Evaluate e) at other cs = refl
pick_cases n (If q e x) at other cs = refl
pick_cases n (IfElse q e x y) at other cs = refl
pick_cases n (While q e x) at other cs = refl
pick_cases n (Do q x e) at other cs = refl
pick_cases n (For q f c m x) at other cs = refl
pick_cases n (Switch q e ss) at other cs = refl
pick_cases n (Case m e) at other cs = refl
pick_cases n Default at other cs = refl
pick_cases n (Goto q m) at other cs = refl
pick_cases n Break at other cs = refl
pick_cases n Continue at other cs = refl
pick_cases n (Return q e) at other cs = refl
pick_cases n (Label m s) at other cs = refl

pub default_node : (s : Stm) (at other : ℕ) (d : Option ℕ) → node_or other (default_of s at d) ≡
    (if is_default s then at else node_or other d)
default_node (Block ss end) at other d = refl
default_node (Decl ds) at other d = refl
default_node (Evaluate e) at other d = refl
default_node (If q e x) at other d = refl
default_node (IfElse q e x y) at other d = refl
default_node (While q e x) at other d = refl
default_node (Do q x e) at other d = refl
default_node (For q f c m x) at other d = refl
default_node (Switch q e ss) at other d = refl
default_node (Case m e) at other d = refl
default_node Default at other d = refl
default_node (Goto q m) at other d = refl
default_node Break at other d = refl
default_node Continue at other d = refl
default_node (Return q e) at other d = refl
default_node (Label m s) at other d = refl

module _ (s : Source) (p : Layout) (choice : List Bool) (v : ℕ → Kept → Run Cell) (env : Env) where
  -- What a block opens does what its items do from what is sought.
  pub record Opening (r : Opened) (k : Targets) (go : Flow → Run Cell) (ss : Stms) : Type 0 where
    pub here : Goes s p choice v r.at (exec_all ss Here env >>= go)
    pub label : (n : NameId) → Goes s p choice v (look n r.labels k.lost) (exec_all ss (AtLabel n) env >>= go)
    pub number : (n other : ℕ) (rest : Run Cell) → Goes s p choice v other rest
        → Goes s p choice v (pick n r.cases other) (if some_item (is_case n) ss then (exec_all ss (AtCase n) env >>= go) else rest)
    pub default : (other : ℕ) (rest : Run Cell) → Goes s p choice v other rest
        → Goes s p choice v (node_or other r.default) (if some_item is_default ss then (exec_all ss AtDefault env >>= go) else rest)

  pub record Opens (m : Targets → Build Opened) (ss : Stms) : Type 0 where
    pub grows : (k : Targets) (g : Growing) → Grows s p choice v g (m k g).1
    pub by : (k : Targets) (g : Growing) → Fits s p choice v (m k g).1.nodes → (go : Flow → Run Cell) → Meets s p choice v k go
        → Opening (m k g).0 k go ss

  pub opens_nothing : Opens (λ k g. (closed k, g)) NoStms
  opens_nothing = record {
    grows = λ k g. grows_refl s p choice v g;
    by = λ k g fits go m. record {
      here = λ kept w. m.next kept w;
      label = λ n kept w. m.label n kept w;
      number = λ n other rest h kept w. h kept w;
      default = λ other rest h kept w. h kept w;
    };
  }

  -- what an item does, and the items behind it
  abbrev item_flow : Stm → Stms → Run Flow
  item_flow x xs = exec x env >>= λ f. goes_on_in f (λ seek. exec_all xs seek env)

  abbrev behind_item : Stms → (Flow → Run Cell) → Flow → Run Cell
  behind_item xs go f = goes_on_in f (λ seek. exec_all xs seek env) >>= go

  meets_item : (xs : Stms) (r : Opened) (k : Targets) (go : Flow → Run Cell) → Meets s p choice v k go → Opening r k go xs
      → Meets s p choice v (record k { next = r.at; labels = r.labels }) (behind_item xs go)
  meets_item xs r k go m o = record {
    next = λ kept w. o.here kept w;
    leave = λ kept w. m.leave kept w;
    again = λ kept w. m.again kept w;
    label = λ n kept w. o.label n kept w;
    returns = λ c w. m.returns c w;
  }

  -- a place that is sought is this item, or behind it
  one_of : (c : Bool) (at old : ℕ) (x y : Run Cell) → Goes s p choice v at x → Goes s p choice v old y
      → Goes s p choice v (if c then at else old) (if c then x else y)
  one_of true at old x y h l = h
  one_of false at old x y h l = l

  -- the same through a search in both, for the run of the whole block
  sought : (c : Bool) (x y : Run Flow) (go : Flow → Run Cell) (w : World)
      → ((if c then x else y) >>= go) w ≡ (if c then (x >>= go) else (y >>= go)) w
  sought true x y go w = refl
  sought false x y go w = refl

  some : (c d : Bool) (x y : Run Flow) (rest : Run Cell) (go : Flow → Run Cell) (w : World)
      → (if c || d then ((if c then x else y) >>= go) else rest) w ≡ (if c then (x >>= go) else (if d then (y >>= go) else rest)) w
  some true d x y rest go w = refl
  some false true x y rest go w = refl
  some false false x y rest go w = refl

  pub opens_item : (x : Stm) (xs : Stms) (part : Piece) (items : Targets → Build Opened)
      → Follows s p choice v part (exec x env) → Opens items xs
      → Opens (λ k g. item x part (items k g).0 k (items k g).1) (Stms' x xs)
  opens_item x xs part items f o = record {
    grows = λ k g. grows_trans s p choice v (o.grows k g) (grows_item k g);
    by = λ k g fits go m. record {
      here = λ kept w. begins k g fits go m kept w;
      label = λ n kept w.
          ap (λ at. v at kept w) (look_labels n x (at_item k g) k.lost (items k g).0.labels)
          ∙ one_of (has_label n x) (at_item k g) (look n (items k g).0.labels k.lost) (item_flow x xs >>= go)
          (exec_all xs (AtLabel n) env >>= go)
          (begins k g fits go m) ((open_rest k g fits go m).label n) kept w
          ∙ sym (sought (has_label n x) (item_flow x xs) (exec_all xs (AtLabel n) env) go w);
      number = λ n other rest h kept w.
          ap (λ at. v at kept w) (pick_cases n x (at_item k g) other (items k g).0.cases)
          ∙ one_of (is_case n x) (at_item k g) (pick n (items k g).0.cases other) (item_flow x xs >>= go)
          (if some_item (is_case n) xs then (exec_all xs (AtCase n) env >>= go) else rest)
          (begins k g fits go m) ((open_rest k g fits go m).number n other rest h) kept w
          ∙ sym (some (is_case n x) (some_item (is_case n) xs) (item_flow x xs) (exec_all xs (AtCase n) env) rest go w);
      default = λ other rest h kept w.
          ap (λ at. v at kept w) (default_node x (at_item k g) other (items k g).0.default)
          ∙ one_of (is_default x) (at_item k g) (node_or other (items k g).0.default) (item_flow x xs >>= go)
          (if some_item is_default xs then (exec_all xs AtDefault env >>= go) else rest)
          (begins k g fits go m) ((open_rest k g fits go m).default other rest h) kept w
          ∙ sym (some (is_default x) (some_item is_default xs) (item_flow x xs) (exec_all xs AtDefault env) rest go w);
    };
  }
    where
      targets : Targets → Growing → Targets
      targets k g = record k { next = (items k g).0.at; labels = (items k g).0.labels }

      at_item : Targets → Growing → ℕ
      at_item k g = (part (targets k g) (items k g).1).0

      grows_item : (k : Targets) (g : Growing) → Grows s p choice v (items k g).1 (item x part (items k g).0 k (items k g).1).1
      grows_item k g = f.grows (targets k g) (items k g).1

      open_rest : (k : Targets) (g : Growing) → Fits s p choice v (item x part (items k g).0 k (items k g).1).1.nodes
          → (go : Flow → Run Cell) → Meets s p choice v k go → Opening (items k g).0 k go xs
      open_rest k g fits go m = o.by k g ((grows_item k g).fits fits) go m

      begins : (k : Targets) (g : Growing) → Fits s p choice v (item x part (items k g).0 k (items k g).1).1.nodes
          → (go : Flow → Run Cell) → Meets s p choice v k go → Goes s p choice v (at_item k g) (item_flow x xs >>= go)
      begins k g fits go m kept w =
          f.by (targets k g) (items k g).1 fits (behind_item xs go) (meets_item xs (items k g).0 k go m (open_rest k g fits go m)) kept w
          ∙ sym (goes_assoc (exec x env w) (λ f. goes_on_in f (λ seek. exec_all xs seek env)) go)

  -- The cases of a `switch`, one after another.
  chain_grows : (t : ℕ) (cs : List Chosen) (other : ℕ) (g : Growing) → Grows s p choice v g (chain t cs other g).1
  chain_grows t [] other g = grows_refl s p choice v g
  chain_grows t (c ∷ cs) other g =
      grows_trans s p choice v (chain_grows t cs other g)
      (grows_put s p choice v (Choose t c.number c.at (chain t cs other g).0) (chain t cs other g).1)

  lead : (b : Bool) (hit miss to : ℕ) (kept : Kept) (w : World) → v miss kept w ≡ v to kept w
      → (if b then v hit kept else v miss kept) w ≡ v (if b then hit else to) kept w
  lead true hit miss to kept w h = refl
  lead false hit miss to kept w h = h

  chain_picks : (t : ℕ) (cs : List Chosen) (other : ℕ) (g : Growing) → Fits s p choice v (chain t cs other g).1.nodes →
      (kept : Kept) (w : World)
      → v (chain t cs other g).0 kept w ≡ v (pick (number_of (temp kept t)) cs other) kept w
  chain_picks t [] other g fits kept w = refl
  chain_picks t (c ∷ cs) other g fits kept w =
      fits.0.by kept w
      ∙ lead (nat_eq (number_of (temp kept t)) c.number) c.at (chain t cs other g).0 (pick (number_of (temp kept t)) cs other) kept w
      (chain_picks t cs other g fits.1 kept w)

module _ (s : Source) (p : Layout) (choice : List Bool) (v : ℕ → Kept → Run Cell) (turn : ℕ) where
  abbrev tree : Env
  tree = in_tree s p choice turn

  meets_switch : (k : Targets) (go : Flow → Run Cell) → Meets s p choice v k go → Meets s p choice v
      (record k { leave = k.next }) (λ f. go (out_of_switch f))
  meets_switch k go m = record {
    next = λ kept w. m.next kept w;
    leave = λ kept w. m.next kept w;
    again = λ kept w. m.again kept w;
    label = λ n kept w. m.label n kept w;
    returns = λ c w. m.returns c w;
  }

  chosen_flow : (c d : Bool) (n : ℕ) (ss : Stms) (go : Flow → Run Cell) (w : World)
      → (if c then (exec_all ss (AtCase n) tree >>= λ f. go (out_of_switch f)) else
      (if d then (exec_all ss AtDefault tree >>= λ f. go (out_of_switch f)) else go Next)) w
      ≡ (switch_by (if c then Some (AtCase n) else (if d then Some AtDefault else None)) (λ seek. exec_all ss seek tree) >>= go) w
  chosen_flow true d n ss go w = sym (goes_assoc (exec_all ss (AtCase n) tree w) (λ f. done (out_of_switch f)) go)
  chosen_flow false true n ss go w = sym (goes_assoc (exec_all ss AtDefault tree w) (λ f. done (out_of_switch f)) go)
  chosen_flow false false n ss go w = refl

  pub switch_does : (q : Pos) (e : Exp) (ss : Stms) (items : Targets → Build Opened) → Opens s p choice v tree items ss
      → Follows s p choice v (switched (unroll e turn) q e items) (exec (Switch q e ss) tree)
  switch_does q e ss items o = record {
    grows = λ k g. grows_trans s p choice v (o.grows (inner k) g)
        (grows_trans s p choice v (grows_chain k g) (grows_trans s p choice v (grows_mark k g) (grows_value k g)));
    by = λ k g fits go m kept w.
        (does s p choice v turn e).by (Into Value (temp_of k g) (length (first k g).1.nodes)) (marked k g) 0
        (omega arith) (omega arith) fits kept
        (λ c. (event q (switch_event tree (type_of e) c) >>= λ _. switch_by (chosen_item (number_of c) ss)
        (λ seek. exec_all ss seek tree)) >>= go)
        (record {
          goes = λ new c w' a told.
              ((grows_value k g).fits fits).0.by new w'
              ∙ ap (λ d. goes_on (event q (switch_event tree (type_of e) d) w') (λ _. v (first k g).0 new)) told
              ∙ goes_ext (event q (switch_event tree (type_of e) c) w') (λ _. v (first k g).0 new)
              (λ _. switch_by (chosen_item (number_of c) ss) (λ seek. exec_all ss seek tree) >>= go)
              (λ y u. chosen k g ((grows_mark k g).fits ((grows_value k g).fits fits)) go m new c told u);
        }) w
        ∙ sym (goes_assoc (eval e Value tree w)
        (λ c. event q (switch_event tree (type_of e) c) >>= λ _. switch_by (chosen_item (number_of c) ss)
        (λ seek. exec_all ss seek tree)) go);
  }
    where
      inner : Targets → Targets
      inner k = record k { leave = k.next }

      temp_of : Targets → Growing → ℕ
      temp_of k g = (items (inner k) g).1.temps

      other : Targets → Growing → ℕ
      other k g = node_or k.next (items (inner k) g).0.default

      first : Targets → Growing → ℕ × Growing
      first k g = chain (temp_of k g) (items (inner k) g).0.cases (other k g) (fresh 1 (items (inner k) g).1).1

      marked : Targets → Growing → Growing
      marked k g = (put (MarkSwitch q (type_of e) (temp_of k g) (first k g).0) (first k g).1).1

      grows_chain : (k : Targets) (g : Growing) → Grows s p choice v (items (inner k) g).1 (first k g).1
      grows_chain k g =
          grows_trans s p choice v (grows_fresh s p choice v 1 (items (inner k) g).1)
          (chain_grows s p choice v tree (temp_of k g) (items (inner k) g).0.cases (other k g) (fresh 1 (items (inner k) g).1).1)

      grows_mark : (k : Targets) (g : Growing) → Grows s p choice v (first k g).1 (marked k g)
      grows_mark k g = grows_put s p choice v (MarkSwitch q (type_of e) (temp_of k g) (first k g).0) (first k g).1

      grows_value : (k : Targets) (g : Growing) → Grows s p choice v (marked k g) (switched (unroll e turn) q e items k g).1
      grows_value k g = (does s p choice v turn e).grows (Into Value (temp_of k g) (length (first k g).1.nodes)) (marked k g)

      opening : (k : Targets) (g : Growing) → Fits s p choice v (first k g).1.nodes → (go : Flow → Run Cell) → Meets s p choice v k go
          → Opening s p choice v tree (items (inner k) g).0 (inner k) (λ f. go (out_of_switch f)) ss
      opening k g fits go m = o.by (inner k) g ((grows_chain k g).fits fits) (λ f. go (out_of_switch f)) (meets_switch k go m)

      chosen : (k : Targets) (g : Growing) → Fits s p choice v (first k g).1.nodes → (go : Flow → Run Cell) → Meets s p choice v k go
          → (new : Kept) (c : Cell) → temp new (temp_of k g) ≡ c → (w : World)
          → v (first k g).0 new w ≡ (switch_by (chosen_item (number_of c) ss) (λ seek. exec_all ss seek tree) >>= go) w
      chosen k g fits go m new c told w =
          chain_picks s p choice v tree (temp_of k g) (items (inner k) g).0.cases (other k g) (fresh 1 (items (inner k) g).1).1 fits new w
          ∙ ap (λ d. v (pick (number_of d) (items (inner k) g).0.cases (other k g)) new w) told
          ∙ (opening k g fits go m).number (number_of c) (other k g)
          (if some_item is_default ss then (exec_all ss AtDefault tree >>= λ f. go (out_of_switch f)) else go Next)
          ((opening k g fits go m).default k.next (go Next) m.next) new w
          ∙ chosen_flow (some_item (is_case (number_of c)) ss) (some_item is_default ss) (number_of c) ss go w
