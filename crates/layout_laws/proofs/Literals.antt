-- Of what the text of a function names, strings and functions alone are literals.
use Rattle.std.proofs.Common.{inl, inr, ◌≡◌, ◌⊎◌, ℕ, ◌+◌, Bool, true, false, List, [], ◌∷◌, ◌++◌, refl, subst}
use Rattle.std.specs.Prelude.{Option, Some, None, Ok, Err, nat_le, nat_eq, if◌then◌else◌}
use Rattle.std.specs.List.{list_any}
use Rattle.sc_base.specs.declared.pos.Pos.{Pos}
use Rattle.sc_base.specs.declared.pos.NameId.{NameId}
use Rattle.sc_base.specs.declared.skip.LimitKind.TheVariants as limit
use Rattle.sc_typed.specs.declared.stmt.Declared.{Declared}
use Rattle.sc_typed.specs.declared.stmt.Declared.TheVariants as declared
use Rattle.sum_rows.specs.declared.path.Path.{Path}
use Rattle.sum_rows.specs.declared.path.Root.{Root}
use Rattle.sum_rows.specs.declared.path.Root.TheVariants as root
use Rattle.sum_rows.specs.declared.path.Step.{Step}
use Rattle.sum_rows.specs.declared.path.Step.TheVariants as step
use Rattle.sum_rows.specs.declared.row.Item.{Item}
use Rattle.sum_rows.specs.declared.row.Item.TheVariants as item
use Rattle.sum_rows.specs.declared.row.ItemRows.{ItemRows}
use Rattle.sum_rows.specs.declared.row.Summary.{Summary}
use Rattle.sum_rows.specs.declared.row.Write.{Write}
use Rattle.sc_world.specs.declared.run.Origin.{Origin}
use Rattle.sc_world.specs.declared.run.Origin.TheVariants as origin
use Rattle.sc_world.specs.Tree.{Ty, target, Exp, Comma, Assign, Cond, Binary, Cast, Unary, PreInc, PostInc, SizeofExpr, SizeofType, Index, Call, Field, Param, Local, Global, Function, Number, Str, Convert, Temp, TempPlace, Exps, NoExps, Exps', Given, Init, NoInit, One, Braces, Dec, Start, NoStart, Begin, Declare, Stm, Block, Decl, Evaluate, If, IfElse, While, Do, For, Switch, Case, Default, Goto, Break, Continue, Return, Label, Stms, NoStms, Stms'}
use Rattle.sc_world.specs.Build.{Built, goes_on, ◌>>=◌, done}
use Rattle.sc_world.specs.Source.{Source}
use Rattle.sc_world.specs.Gather.{Found, Site, Gathering, Stands, Plain, Named, GivenAs, Round, within, tested, nodes, most_nodes, field_name, global, literal, is_function, same_name, function_value, function_name, call_site, as_given, gather, gather_all, gather_items, gather_init, gather_declared, gather_declarators, gather_if, gather_start, gather_stm, gather_stms, gather_steps, gather_root, gather_path, gather_item, gather_summary_items, gather_writes, gather_sum, gather_sums, once, gather_function, nothing_found}
use Rattle.layout_laws.specs.Origins.{IsAmong, IsLiteral}

abbrev pub AreLiterals : Found → Type 0
AreLiterals f = (o : Origin) → IsAmong o f.literals → IsLiteral o

abbrev Then : Built Found (Unit {0}) → Type 0
Then (Ok (u, f)) = AreLiterals f
Then (Err e) = Unit {0}

record Keeps (m : Gathering) : Type 0 where
  by : (f : Found) → AreLiterals f → Then (m f)

behind : (r : Built Found (Unit {0})) (k : Unit {0} → Gathering) → Then r → ((u : Unit {0}) → Keeps (k u)) → Then (goes_on r k)
behind (Ok (u, f)) k h l = (l u).by f h
behind (Err e) k h l = tt

chain : {m : Gathering} {k : Unit {0} → Gathering} → Keeps m → ((u : Unit {0}) → Keeps (k u)) → Keeps (m >>= k)
chain {m = m} {k = k} l h = record { by = λ f a. behind (m f) k (l.by f a) h }

gives : Keeps (done tt)
gives = record { by = λ f a. a }

-- The single steps.

nodes_by : (b : Bool) (n : ℕ) (f : Found) → AreLiterals f
    → Then (if b then Ok (tt, record f { nodes = f.nodes + n }) else Err limit.Nodes)
nodes_by true n f a = a
nodes_by false n f a = tt

counts : (n : ℕ) → Keeps (nodes n)
counts n = record { by = λ f a. nodes_by (nat_le (f.nodes + n) most_nodes) n f a }

among_pushed : (o x : Origin) (os : List Origin) → IsAmong o (os ++ x ∷ []) → IsAmong o os ⊎ (x ≡ o)
among_pushed o x [] (inl e) = inr e
among_pushed o x [] (inr h) = absurd h
among_pushed o x (y ∷ ys) (inl e) = inl (inl e)
among_pushed o x (y ∷ ys) (inr h) = further (among_pushed o x ys h)
  where
    further : IsAmong o ys ⊎ (x ≡ o) → IsAmong o (y ∷ ys) ⊎ (x ≡ o)
    further (inl a) = inl (inr a)
    further (inr e) = inr e

pushed : (x : Origin) (os : List Origin) → IsLiteral x → ((o : Origin) → IsAmong o os → IsLiteral o)
    → (o : Origin) → IsAmong o (os ++ x ∷ []) → IsLiteral o
pushed x os is a o among = side (among_pushed o x os among)
  where
    side : IsAmong o os ⊎ (x ≡ o) → IsLiteral o
    side (inl h) = a o h
    side (inr e) = subst IsLiteral e is

field_by : (b : Bool) (n : NameId) (f : Found) → AreLiterals f → AreLiterals (if b then f else record f { fields = f.fields ++ n ∷ [] })
field_by true n f a = a
field_by false n f a = a

names_field : (n : NameId) → Keeps (field_name n)
names_field n = record { by = λ f a. field_by (list_any (same_name n) f.fields) n f a }

global_by : (b : Bool) (n : ℕ) (f : Found) → AreLiterals f → AreLiterals (if b then f else record f { globals = f.globals ++ n ∷ [] })
global_by true n f a = a
global_by false n f a = a

names_global : (n : ℕ) → Keeps (global n)
names_global n = record { by = λ f a. global_by (list_any (nat_eq n) f.globals) n f a }

names_literal : (p : Pos) → Keeps (literal p)
names_literal p = record { by = λ f a. pushed (origin.Literal p) f.literals tt a }

function_by : (b : Bool) (n : NameId) (f : Found) → AreLiterals f
    → AreLiterals (if b then f else record f { literals = f.literals ++ origin.Function n ∷ [] })
function_by true n f a = a
function_by false n f a = pushed (origin.Function n) f.literals tt a

names_value : (n : NameId) → Keeps (function_value n)
names_value n = record { by = λ f a. function_by (list_any (is_function n) f.literals) n f a }

names_function : (n : NameId) (h : Stands) → Keeps (function_name n h)
names_function n Plain = names_value n
names_function n Named = gives
names_function n (GivenAs t) = names_value n

calls : (x : Site) → Keeps (call_site x)
calls x = record { by = λ f a. a }

module _ (s : Source) where
  mutual
    exp : (e : Exp) (h : Stands) (r : Round) → Keeps (gather s e h r)
    exp (Comma a b t) h r = chain (counts _) (λ _. chain (exp a Plain r) (λ _. exp b Plain r))
    exp (Assign o w a b t) h r = chain (counts _) (λ _. chain (exp a Plain r) (λ _. exp b (as_given b) r))
    exp (Cond a b d t) h r =
        chain (counts _) (λ _. chain (exp a Plain r) (λ _. chain (exp b Plain r) (λ _. exp d Plain r)))
    exp (Binary o a b t) h r = chain (counts _) (λ _. chain (exp a Plain r) (λ _. exp b Plain r))
    exp (Cast a t) h r = chain (counts _) (λ _. exp a (GivenAs (target t)) r)
    exp (Unary o a t) h r = chain (counts _) (λ _. exp a Plain r)
    exp (PreInc d a t) h r = chain (counts _) (λ _. exp a Plain r)
    exp (PostInc d a t) h r = chain (counts _) (λ _. exp a Plain r)
    exp (SizeofExpr a n t) h r = chain (counts _) (λ _. exp a Named r)
    exp (SizeofType n t) h r = counts _
    exp (Index a b t) h r = chain (counts _) (λ _. chain (exp a Plain r) (λ _. exp b Plain r))
    exp (Call p f es t) h r =
        chain (counts _) (λ _. chain (exp f Named r) (λ _. chain (exps es r) (λ _. calls _)))
    exp (Field a n arrow t) h r = chain (counts _) (λ _. chain (exp a Plain r) (λ _. names_field n))
    exp (Param n t) h r = counts _
    exp (Local n t) h r = counts _
    exp (Global n t) h r = chain (counts _) (λ _. names_global n)
    exp (Function n b t) h r = chain (counts _) (λ _. names_function n h)
    exp (Number n t) h r = counts _
    exp (Str p t) h r = chain (counts _) (λ _. names_literal p.token)
    exp (Convert a t) h r = exp a h r
    exp (Temp n t) h r = gives
    exp (TempPlace n t) h r = gives

    exps : (es : Exps) (r : Round) → Keeps (gather_all s es r)
    exps NoExps r = gives
    exps (Exps' e es) r = chain (exp e Plain r) (λ _. exps es r)

  items : (xs : List Given) (r : Round) → Keeps (gather_items s xs r)
  items [] r = gives
  items (x ∷ xs) r = chain (exp x.value (as_given x.value) r) (λ _. items xs r)

  init : (x : Init) (r : Round) → Keeps (gather_init s x r)
  init NoInit r = gives
  init (One e) r = exp e (as_given e) r
  init (Braces xs) r = items xs r

  declared_name : (d : Declared) → Keeps (gather_declared s d)
  declared_name (declared.Global n) = names_global n
  declared_name (declared.Local n) = gives
  declared_name declared.Function = gives

  declarators : (ds : List Dec) (r : Round) → Keeps (gather_declarators s ds r)
  declarators [] r = gives
  declarators (d ∷ ds) r =
      chain (counts _) (λ _. chain (declared_name d.declared) (λ _. chain (init d.init r) (λ _. declarators ds r)))

  exp_if : (e : Option Exp) (r : Round) → Keeps (gather_if s e r)
  exp_if None r = gives
  exp_if (Some e) r = exp e Plain r

  start : (x : Start) (r : Round) → Keeps (gather_start s x r)
  start NoStart r = gives
  start (Begin e) r = exp e Plain r
  start (Declare ds) r = chain (counts _) (λ _. declarators ds r)

  mutual
    stm : (x : Stm) (r : Round) → Keeps (gather_stm s x r)
    stm (Block xs end) r = chain (counts _) (λ _. stms xs r)
    stm (Decl ds) r = chain (counts _) (λ _. declarators ds r)
    stm (Evaluate e) r = chain (counts _) (λ _. exp_if e r)
    stm (If p e x) r = chain (counts _) (λ _. chain (exp e Plain r) (λ _. stm x r))
    stm (IfElse p e x y) r = chain (counts _) (λ _. chain (exp e Plain r) (λ _. chain (stm x r) (λ _. stm y r)))
    stm (While p e x) r = chain (counts _) (λ _. chain (exp e Plain (tested s.depth r)) (λ _. stm x (within s.depth r)))
    stm (Do p x e) r = chain (counts _) (λ _. chain (stm x (within s.depth r)) (λ _. exp e Plain (within s.depth r)))
    stm (For p f d n x) r =
        chain (counts _)
        (λ _. chain (start f r)
        (λ _. chain (exp_if d (tested s.depth r)) (λ _. chain (exp_if n (within s.depth r)) (λ _. stm x (within s.depth r)))))
    stm (Switch p e xs) r = chain (counts _) (λ _. chain (exp e Plain r) (λ _. stms xs r))
    stm (Case n e) r = exp e Plain r
    stm Default r = gives
    stm (Goto p n) r = counts _
    stm Break r = counts _
    stm Continue r = counts _
    stm (Return p None) r = counts _
    stm (Return p (Some e)) r = chain (counts _) (λ _. exp e (as_given e) r)
    stm (Label n x) r = chain (counts _) (λ _. stm x r)

    stms : (xs : Stms) (r : Round) → Keeps (gather_stms s xs r)
    stms NoStms r = gives
    stms (Stms' x xs) r = chain (stm x r) (λ _. stms xs r)

  steps : (xs : List Step) → Keeps (gather_steps s xs)
  steps [] = gives
  steps (step.Field n ∷ xs) = chain (names_field n) (λ _. steps xs)
  steps (step.Deref ∷ xs) = steps xs
  steps (step.Elem k ∷ xs) = steps xs

  root_name : (x : Root) → Keeps (gather_root s x)
  root_name (root.Param n) = gives
  root_name (root.Global n) = names_global n

  path : (p : Path) → Keeps (gather_path s p)
  path p = chain (root_name p.root) (λ _. steps p.steps)

  item_name : (x : Item) → Keeps (gather_item s x)
  item_name (item.Lock p) = path p
  item_name item.Exit = gives
  item_name (item.Param n) = gives
  item_name (item.Out n) = gives

  summary_items : (xs : List ItemRows) → Keeps (gather_summary_items s xs)
  summary_items [] = gives
  summary_items (x ∷ xs) = chain (item_name x.item) (λ _. summary_items xs)

  writes : (xs : List Write) → Keeps (gather_writes s xs)
  writes [] = gives
  writes (x ∷ xs) = chain (path x.path) (λ _. writes xs)

  sum : (x : Option Summary) → Keeps (gather_sum s x)
  sum None = gives
  sum (Some x) = chain (summary_items x.items) (λ _. writes x.writes)

  sums : (xs : List (Option Summary)) → Keeps (gather_sums s xs)
  sums [] = gives
  sums (x ∷ xs) = chain (sum x) (λ _. sums xs)

  function : Keeps (gather_function s)
  function = chain (stm s.body (once s)) (λ _. sums s.sums)

  pub literals_found : (f : Found) → gather_function s nothing_found ≡ Ok (tt, f) → AreLiterals f
  literals_found f e = subst Then e (function.by nothing_found (λ o among. absurd among))
