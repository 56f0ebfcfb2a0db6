-- The call graph of a program: which bodies each function calls by name. A name with a meaning of its own, as
-- `spin_lock` or `malloc`, calls no body.
use Rattle.std.specs.Prelude.{ℕ, nat_eq, Bool, Option, Some, None, List, [], ◌∷◌, ◌++◌, length, map, filter}
use Rattle.std.specs.List.{list_any, range_with_len}
use Rattle.plan_core.specs.declared.plan.Plan.{Plan}
use Rattle.plan_core.specs.Graph.{plan_of}
use Rattle.sc_typed.specs.declared.program.Program.{Program}
use Rattle.sc_world.specs.Tree.{Exp, Comma, Assign, Cond, Binary, Cast, Unary, PreInc, PostInc, SizeofExpr, SizeofType, Index, Call, Field, Param, Local, Global, Function, Number, Str, Convert, Temp, TempPlace, Exps, NoExps, Exps', Given, Init, NoInit, One, Braces, Dec, Start, NoStart, Begin, Declare, Stm, Block, Decl, Evaluate, If, IfElse, While, Do, For, Switch, Case, Default, Goto, Break, Continue, Return, Label, Stms, NoStms, Stms'}
use Rattle.sc_world.specs.Source.{Source, Effect, effect_of_name, text_of}
use Rattle.sc_world.specs.Programs.{source}

-- the body that a call of this name means, where the name has no meaning of its own
abbrev pub unless_built_in : Option Effect → ℕ → List ℕ
unless_built_in None g = g ∷ []
unless_built_in (Some e) g = []

module _ (s : Source) where
  -- the body that a call of this callee means
  abbrev pub called : Exp → List ℕ
  called (Function n (Some g) t) = unless_built_in (effect_of_name s (text_of s n)) g
  called _ = []

  -- The bodies that are called, in the order of the text.
  abbrev mutual
    pub in_exp : Exp → List ℕ
    in_exp (Comma a b t) = in_exp a ++ in_exp b
    in_exp (Assign o w a b t) = in_exp a ++ in_exp b
    in_exp (Cond a b c t) = in_exp a ++ (in_exp b ++ in_exp c)
    in_exp (Binary o a b t) = in_exp a ++ in_exp b
    in_exp (Cast a t) = in_exp a
    in_exp (Unary o a t) = in_exp a
    in_exp (PreInc d a t) = in_exp a
    in_exp (PostInc d a t) = in_exp a
    in_exp (SizeofExpr a n t) = in_exp a
    in_exp (SizeofType n t) = []
    in_exp (Index a b t) = in_exp a ++ in_exp b
    in_exp (Call p f es t) = in_exp f ++ (in_exps es ++ called f)
    in_exp (Field a n arrow t) = in_exp a
    in_exp (Param n t) = []
    in_exp (Local n t) = []
    in_exp (Global n t) = []
    in_exp (Function n b t) = []
    in_exp (Number n t) = []
    in_exp (Str p t) = []
    in_exp (Convert a t) = in_exp a
    in_exp (Temp n t) = []
    in_exp (TempPlace n t) = []

    pub in_exps : Exps → List ℕ
    in_exps NoExps = []
    in_exps (Exps' e es) = in_exp e ++ in_exps es

  abbrev pub in_exp_if : Option Exp → List ℕ
  in_exp_if None = []
  in_exp_if (Some e) = in_exp e

  abbrev pub in_items : List Given → List ℕ
  in_items [] = []
  in_items (x ∷ xs) = in_exp x.value ++ in_items xs

  abbrev pub in_init : Init → List ℕ
  in_init NoInit = []
  in_init (One e) = in_exp e
  in_init (Braces xs) = in_items xs

  abbrev pub in_declarators : List Dec → List ℕ
  in_declarators [] = []
  in_declarators (d ∷ ds) = in_init d.init ++ in_declarators ds

  abbrev pub in_start : Start → List ℕ
  in_start NoStart = []
  in_start (Begin e) = in_exp e
  in_start (Declare ds) = in_declarators ds

  abbrev mutual
    pub in_stm : Stm → List ℕ
    in_stm (Block xs end) = in_stms xs
    in_stm (Decl ds) = in_declarators ds
    in_stm (Evaluate e) = in_exp_if e
    in_stm (If p e x) = in_exp e ++ in_stm x
    in_stm (IfElse p e x y) = in_exp e ++ (in_stm x ++ in_stm y)
    in_stm (While p e x) = in_exp e ++ in_stm x
    in_stm (Do p x e) = in_stm x ++ in_exp e
    in_stm (For p f c n x) = in_start f ++ (in_exp_if c ++ (in_exp_if n ++ in_stm x))
    in_stm (Switch p e xs) = in_exp e ++ in_stms xs
    in_stm (Case n e) = in_exp e
    in_stm Default = []
    in_stm (Goto p n) = []
    in_stm Break = []
    in_stm Continue = []
    in_stm (Return p e) = in_exp_if e
    in_stm (Label n x) = in_stm x

    pub in_stms : Stms → List ℕ
    in_stms NoStms = []
    in_stms (Stms' x xs) = in_stm x ++ in_stms xs

-- The functions that a function of the program calls, ascending, each once. A function whose body is not taken calls
-- none.
abbrev pub own_source : Program → ℕ → Source
own_source p f = source p f [] [] 0 0

abbrev pub functions : Program → List ℕ
functions p = range_with_len 0 (length p.functions)

abbrev pub calls_body : List ℕ → ℕ → Bool
calls_body gs g = list_any (nat_eq g) gs

abbrev pub row : Program → ℕ → List ℕ
row p f = filter (calls_body (in_stm (own_source p f) (own_source p f).body)) (functions p)

-- the call graph, and its plan
abbrev pub rows : Program → List (List ℕ)
rows p = map (row p) (functions p)

abbrev pub plan : Program → Plan
plan p = plan_of (rows p)
