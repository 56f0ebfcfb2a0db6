-- What the text of a function names, how many nodes it has once its loops are unrolled, and its calls in order.
use Rattle.std.specs.Prelude.{ℕ, ◌+◌, ◌*◌, nat_eq, nat_lt, nat_le, Bool, true, false, not, ◌&&◌, ◌||◌, Option, Some, None, List, [], ◌∷◌, ◌++◌, Ok, Err, if◌then◌else◌}
use Rattle.std.specs.List.{list_any}
use Rattle.sc_base.specs.declared.pos.Pos.{Pos}
use Rattle.sc_base.specs.declared.pos.NameId.{NameId}
use Rattle.sc_base.specs.declared.skip.LimitKind.TheVariants as limit
use Rattle.sc_tree.specs.declared.expr.Place.{Place}
use Rattle.sc_typed.specs.declared.stmt.Declared.{Declared}
use Rattle.sc_typed.specs.declared.stmt.Declared.TheVariants as declared
use Rattle.sum_rows.specs.declared.path.Path.{Path}
use Rattle.sum_rows.specs.declared.path.Root.{Root}
use Rattle.sum_rows.specs.declared.path.Root.TheVariants as root
use Rattle.sum_rows.specs.declared.path.Step.{Step}
use Rattle.sum_rows.specs.declared.path.Step.TheVariants as step
use Rattle.sum_rows.specs.declared.row.Item.{Item}
use Rattle.sum_rows.specs.declared.row.Item.TheVariants as item
use Rattle.sum_rows.specs.declared.row.ItemRows.{ItemRows}
use Rattle.sum_rows.specs.declared.row.Summary.{Summary}
use Rattle.sum_rows.specs.declared.row.Write.{Write}
use Rattle.sc_world.specs.declared.run.Origin.{Origin}
use Rattle.sc_world.specs.declared.run.Origin.TheVariants as origin
use Rattle.sc_world.specs.Tree.{Ty, Void, target, is_void, Exp, Comma, Assign, Cond, Binary, Cast, Unary, PreInc, PostInc, SizeofExpr, SizeofType, Index, Call, Field, Param, Local, Global, Function, Number, Str, Convert, Temp, TempPlace, Exps, NoExps, Exps', type_of, Given, Init, NoInit, One, Braces, Dec, Start, NoStart, Begin, Declare, Stm, Block, Decl, Evaluate, If, IfElse, While, Do, For, Switch, Case, Default, Goto, Break, Continue, Return, Label, Stms, NoStms, Stms'}
use Rattle.sc_world.specs.Build.{Build, ◌>>=◌, done, refused}
use Rattle.sc_world.specs.Source.{Source, Effect, effect}

-- A call of the text: where it stands, how often it may be made, what it does, what it gives, and the type of the
-- object of a pointer that it gives.
pub record Site : Type 0 where
  pub pos : Pos
  -- its opening bracket, which tells it from all other calls
  pub bracket : Pos
  pub turns : ℕ
  pub effect : Effect
  pub result : Ty
  pub object : Ty

-- What was found so far.
pub record Found : Type 0 where
  pub nodes : ℕ
  pub fields : List NameId
  pub globals : List ℕ
  -- strings, and functions used as values, in the order of the text
  pub literals : List Origin
  -- calls, by place; of those at one place the inner one first
  pub sites : List Site

abbrev pub nothing_found : Found
nothing_found = record { nodes = 0; fields = []; globals = []; literals = []; sites = [] }

abbrev pub Gathering : Type 0
Gathering = Build Found (Unit {0})

-- how often what stands here is unrolled, and in how many turns of the loops round it a call may be made
pub record Round : Type 0 where
  pub factor : ℕ
  pub turns : ℕ

-- a body, a step or the condition of a `do`, and any other condition, which is tested once more
abbrev pub within : ℕ → Round → Round
within depth r = record { factor = r.factor * depth; turns = r.turns * depth }

abbrev pub tested : ℕ → Round → Round
tested depth r = record { factor = r.factor * depth; turns = r.turns * (depth + 1) }

-- How an expression stands: as any; as what is called or the operand of `sizeof`; or directly cast, assigned,
-- returned or given as an initialiser, as a pointer to that type.
pub data Stands : Type 0 where
  Plain : Stands
  Named : Stands
  GivenAs : Option Ty → Stands

-- no function has more nodes
abbrev pub most_nodes : ℕ
most_nodes = 4096

abbrev pub nodes : ℕ → Gathering
nodes n f = if nat_le (f.nodes + n) most_nodes then Ok (tt, record f { nodes = f.nodes + n }) else Err limit.Nodes

abbrev pub same_name : NameId → NameId → Bool
same_name a b = nat_eq a.at b.at

abbrev pub field_name : NameId → Gathering
field_name n f = Ok (tt, (if list_any (same_name n) f.fields then f else record f { fields = f.fields ++ n ∷ [] }))

abbrev pub global : ℕ → Gathering
global n f = Ok (tt, (if list_any (nat_eq n) f.globals then f else record f { globals = f.globals ++ n ∷ [] }))

abbrev pub literal : Pos → Gathering
literal p f = Ok (tt, record f { literals = f.literals ++ origin.Literal p ∷ [] })

abbrev pub is_function : NameId → Origin → Bool
is_function n (origin.Function m) = same_name n m
is_function n _ = false

-- a function that is used as a value has one stub, however often it is named
abbrev pub function_value : NameId → Gathering
function_value n f =
    Ok (tt, (if list_any (is_function n) f.literals then f else record f { literals = f.literals ++ origin.Function n ∷ [] }))

abbrev pub function_name : NameId → Stands → Gathering
function_name n Named = done tt
function_name n _ = function_value n

abbrev pub is_later : Pos → Pos → Bool
is_later p q = nat_lt p.line q.line || (nat_eq p.line q.line && nat_lt p.col q.col)

-- a call goes before those that begin later
abbrev pub with_site : Site → List Site → List Site
with_site s [] = s ∷ []
with_site s (r ∷ rs) = if is_later s.pos r.pos then s ∷ r ∷ rs else r ∷ with_site s rs

abbrev pub call_site : Site → Gathering
call_site s f = Ok (tt, record f { sites = with_site s f.sites })

-- the object of a call: of the type as which the call's value is given directly, if that is not `void`; else of that
-- of the declared result
abbrev pub declared_object : Option Ty → Ty
declared_object None = Void
declared_object (Some t) = t

abbrev pub object_as : Option Ty → Ty → Ty
object_as None t = declared_object (target t)
object_as (Some u) t = if is_void u then declared_object (target t) else u

abbrev pub object_of : Stands → Ty → Ty
object_of (GivenAs u) t = object_as u t
object_of _ t = declared_object (target t)

abbrev pub as_given : Exp → Stands
as_given e = GivenAs (target (type_of e))

module _ (s : Source) where
  abbrev mutual
    pub gather : Exp → Stands → Round → Gathering
    gather (Comma a b t) h r = do
      _ ← nodes r.factor
      _ ← gather a Plain r
      gather b Plain r
    gather (Assign o w a b t) h r = do
      _ ← nodes r.factor
      _ ← gather a Plain r
      gather b (as_given b) r
    gather (Cond a b c t) h r = do
      _ ← nodes r.factor
      _ ← gather a Plain r
      _ ← gather b Plain r
      gather c Plain r
    gather (Binary o a b t) h r = do
      _ ← nodes r.factor
      _ ← gather a Plain r
      gather b Plain r
    gather (Cast a t) h r = do
      _ ← nodes r.factor
      gather a (GivenAs (target t)) r
    gather (Unary o a t) h r = do
      _ ← nodes r.factor
      gather a Plain r
    gather (PreInc d a t) h r = do
      _ ← nodes r.factor
      gather a Plain r
    gather (PostInc d a t) h r = do
      _ ← nodes r.factor
      gather a Plain r
    gather (SizeofExpr a n t) h r = do
      _ ← nodes r.factor
      gather a Named r
    gather (SizeofType n t) h r = nodes r.factor
    gather (Index a b t) h r = do
      _ ← nodes r.factor
      _ ← gather a Plain r
      gather b Plain r
    gather (Call p f es t) h r = do
      _ ← nodes r.factor
      _ ← gather f Named r
      _ ← gather_all es r
      call_site (record { pos = p.first; bracket = p.token; turns = r.turns; effect = effect s f es t; result = t; object = object_of h t })
    gather (Field a n arrow t) h r = do
      _ ← nodes r.factor
      _ ← gather a Plain r
      field_name n
    gather (Param n t) h r = nodes r.factor
    gather (Local n t) h r = nodes r.factor
    gather (Global n t) h r = do
      _ ← nodes r.factor
      global n
    gather (Function n b t) h r = do
      _ ← nodes r.factor
      function_name n h
    gather (Number n t) h r = nodes r.factor
    gather (Str p t) h r = do
      _ ← nodes r.factor
      literal p.token
    gather (Convert a t) h r = gather a h r
    gather (Temp n t) h r = done tt
    gather (TempPlace n t) h r = done tt

    pub gather_all : Exps → Round → Gathering
    gather_all NoExps r = done tt
    gather_all (Exps' e es) r = do
      _ ← gather e Plain r
      gather_all es r

  -- an expression that is given as an initialiser or returned
  abbrev pub gather_given : Exp → Round → Gathering
  gather_given e r = gather e (as_given e) r

  abbrev pub gather_items : List Given → Round → Gathering
  gather_items [] r = done tt
  gather_items (x ∷ xs) r = do
    _ ← gather_given x.value r
    gather_items xs r

  abbrev pub gather_init : Init → Round → Gathering
  gather_init NoInit r = done tt
  gather_init (One e) r = gather_given e r
  gather_init (Braces xs) r = gather_items xs r

  -- with `extern` a declarator names a global
  abbrev pub gather_declared : Declared → Gathering
  gather_declared (declared.Global n) = global n
  gather_declared _ = done tt

  -- each declarator is a node
  abbrev pub gather_declarators : List Dec → Round → Gathering
  gather_declarators [] r = done tt
  gather_declarators (d ∷ ds) r = do
    _ ← nodes r.factor
    _ ← gather_declared d.declared
    _ ← gather_init d.init r
    gather_declarators ds r

  abbrev pub gather_if : Option Exp → Round → Gathering
  gather_if None r = done tt
  gather_if (Some e) r = gather e Plain r

  -- a declaration in the first place of `for` is a node, an expression there is no statement of its own
  abbrev pub gather_start : Start → Round → Gathering
  gather_start NoStart r = done tt
  gather_start (Begin e) r = gather e Plain r
  gather_start (Declare ds) r = do
    _ ← nodes r.factor
    gather_declarators ds r

  abbrev mutual
    -- each statement is a node but `case` and `default`
    pub gather_stm : Stm → Round → Gathering
    gather_stm (Block xs end) r = do
      _ ← nodes r.factor
      gather_stms xs r
    gather_stm (Decl ds) r = do
      _ ← nodes r.factor
      gather_declarators ds r
    gather_stm (Evaluate e) r = do
      _ ← nodes r.factor
      gather_if e r
    gather_stm (If p e x) r = do
      _ ← nodes r.factor
      _ ← gather e Plain r
      gather_stm x r
    gather_stm (IfElse p e x y) r = do
      _ ← nodes r.factor
      _ ← gather e Plain r
      _ ← gather_stm x r
      gather_stm y r
    gather_stm (While p e x) r = do
      _ ← nodes r.factor
      _ ← gather e Plain (tested s.depth r)
      gather_stm x (within s.depth r)
    gather_stm (Do p x e) r = do
      _ ← nodes r.factor
      _ ← gather_stm x (within s.depth r)
      gather e Plain (within s.depth r)
    gather_stm (For p f c n x) r = do
      _ ← nodes r.factor
      _ ← gather_start f r
      _ ← gather_if c (tested s.depth r)
      _ ← gather_if n (within s.depth r)
      gather_stm x (within s.depth r)
    gather_stm (Switch p e xs) r = do
      _ ← nodes r.factor
      _ ← gather e Plain r
      gather_stms xs r
    gather_stm (Case n e) r = gather e Plain r
    gather_stm Default r = done tt
    gather_stm (Goto p n) r = nodes r.factor
    gather_stm Break r = nodes r.factor
    gather_stm Continue r = nodes r.factor
    gather_stm (Return p None) r = nodes r.factor
    gather_stm (Return p (Some e)) r = do
      _ ← nodes r.factor
      gather_given e r
    gather_stm (Label n x) r = do
      _ ← nodes r.factor
      gather_stm x r

    pub gather_stms : Stms → Round → Gathering
    gather_stms NoStms r = done tt
    gather_stms (Stms' x xs) r = do
      _ ← gather_stm x r
      gather_stms xs r

  -- What the paths of the kept callees' summaries name is named here too.
  abbrev pub gather_steps : List Step → Gathering
  gather_steps [] = done tt
  gather_steps (step.Field n ∷ xs) = field_name n >>= λ _. gather_steps xs
  gather_steps (x ∷ xs) = gather_steps xs

  abbrev pub gather_root : Root → Gathering
  gather_root (root.Param n) = done tt
  gather_root (root.Global n) = global n

  abbrev pub gather_path : Path → Gathering
  gather_path p = do
    _ ← gather_root p.root
    gather_steps p.steps

  abbrev pub gather_item : Item → Gathering
  gather_item (item.Lock p) = gather_path p
  gather_item _ = done tt

  abbrev pub gather_summary_items : List ItemRows → Gathering
  gather_summary_items [] = done tt
  gather_summary_items (x ∷ xs) = gather_item x.item >>= λ _. gather_summary_items xs

  abbrev pub gather_writes : List Write → Gathering
  gather_writes [] = done tt
  gather_writes (x ∷ xs) = gather_path x.path >>= λ _. gather_writes xs

  abbrev pub gather_sum : Option Summary → Gathering
  gather_sum None = done tt
  gather_sum (Some sum) = do
    _ ← gather_summary_items sum.items
    gather_writes sum.writes

  abbrev pub gather_sums : List (Option Summary) → Gathering
  gather_sums [] = done tt
  gather_sums (x ∷ xs) = gather_sum x >>= λ _. gather_sums xs

  abbrev pub once : Round
  once = record { factor = 1; turns = 1 }

  abbrev pub gather_function : Gathering
  gather_function = do
    _ ← gather_stm s.body once
    gather_sums s.sums
