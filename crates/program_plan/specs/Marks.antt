-- Functions that are called, as marks: one for each function of the program, set where a call by name means it. The
-- walk over a body sets marks one after the other; a law says that they are those of the functions which the call
-- graph of `program_verdicts` names.
use Rattle.std.specs.Prelude.{ℕ, ◌+◌, Bool, true, false, Option, Some, None, List, [], ◌∷◌, if◌then◌else◌, slice_set}
use Rattle.sc_world.specs.Tree.{Exp, Comma, Assign, Cond, Binary, Cast, Unary, PreInc, PostInc, SizeofExpr, SizeofType, Index, Call, Field, Param, Local, Global, Function, Number, Str, Convert, Temp, TempPlace, Exps, NoExps, Exps', Given, Init, NoInit, One, Braces, Dec, Start, NoStart, Begin, Declare, Stm, Block, Decl, Evaluate, If, IfElse, While, Do, For, Switch, Case, Default, Goto, Break, Continue, Return, Label, Stms, NoStms, Stms'}
use Rattle.sc_world.specs.Source.{Source, Effect, Unknown, effect_of_name, text_of}

-- the marks where the functions of a list are marked, too
abbrev pub marked : List Bool → List ℕ → List Bool
marked marks [] = marks
marked marks (g ∷ gs) = marked (slice_set marks g true) gs

-- the numbers of the marks that are set, ascending, where the first has that number
abbrev pub set_from : ℕ → List Bool → List ℕ
set_from k [] = []
set_from k (b ∷ bs) = if b then k ∷ set_from (k + 1) bs else set_from (k + 1) bs

abbrev pub is_unknown : Effect → Bool
is_unknown Unknown = true
is_unknown _ = false

abbrev pub is_meaningless : Option Effect → Bool
is_meaningless None = true
is_meaningless (Some e) = false

-- the body that a callee means, where a call of it means one
abbrev pub if_means : Bool → ℕ → List ℕ
if_means true g = g ∷ []
if_means false g = []

abbrev pub called_if : Bool → Exp → List ℕ
called_if b (Function n (Some g) t) = if_means b g
called_if b _ = []

module _ (s : Source) where
  -- whether a call of that callee means a body, if its name does: a name with a meaning of its own means none
  abbrev pub means_body : Exp → Bool
  means_body (Function n b t) = is_meaningless (effect_of_name s (text_of s n))
  means_body _ = true

  abbrev mutual
    pub mark_exp : Exp → List Bool → List Bool
    mark_exp (Comma a b t) m = mark_exp b (mark_exp a m)
    mark_exp (Assign o w a b t) m = mark_exp b (mark_exp a m)
    mark_exp (Cond a b c t) m = mark_exp c (mark_exp b (mark_exp a m))
    mark_exp (Binary o a b t) m = mark_exp b (mark_exp a m)
    mark_exp (Cast a t) m = mark_exp a m
    mark_exp (Unary o a t) m = mark_exp a m
    mark_exp (PreInc d a t) m = mark_exp a m
    mark_exp (PostInc d a t) m = mark_exp a m
    mark_exp (SizeofExpr a n t) m = mark_exp a m
    mark_exp (SizeofType n t) m = m
    mark_exp (Index a b t) m = mark_exp b (mark_exp a m)
    mark_exp (Call p f es t) m = marked (mark_exps es (mark_exp f m)) (called_if (means_body f) f)
    mark_exp (Field a n arrow t) m = mark_exp a m
    mark_exp (Param n t) m = m
    mark_exp (Local n t) m = m
    mark_exp (Global n t) m = m
    mark_exp (Function n b t) m = m
    mark_exp (Number n t) m = m
    mark_exp (Str p t) m = m
    mark_exp (Convert a t) m = mark_exp a m
    mark_exp (Temp n t) m = m
    mark_exp (TempPlace n t) m = m

    pub mark_exps : Exps → List Bool → List Bool
    mark_exps NoExps m = m
    mark_exps (Exps' e es) m = mark_exps es (mark_exp e m)

  abbrev pub mark_exp_if : Option Exp → List Bool → List Bool
  mark_exp_if None m = m
  mark_exp_if (Some e) m = mark_exp e m

  abbrev pub mark_items : List Given → List Bool → List Bool
  mark_items [] m = m
  mark_items (x ∷ xs) m = mark_items xs (mark_exp x.value m)

  abbrev pub mark_init : Init → List Bool → List Bool
  mark_init NoInit m = m
  mark_init (One e) m = mark_exp e m
  mark_init (Braces xs) m = mark_items xs m

  abbrev pub mark_declarators : List Dec → List Bool → List Bool
  mark_declarators [] m = m
  mark_declarators (d ∷ ds) m = mark_declarators ds (mark_init d.init m)

  abbrev pub mark_start : Start → List Bool → List Bool
  mark_start NoStart m = m
  mark_start (Begin e) m = mark_exp e m
  mark_start (Declare ds) m = mark_declarators ds m

  abbrev mutual
    pub mark_stm : Stm → List Bool → List Bool
    mark_stm (Block xs end) m = mark_stms xs m
    mark_stm (Decl ds) m = mark_declarators ds m
    mark_stm (Evaluate e) m = mark_exp_if e m
    mark_stm (If p e x) m = mark_stm x (mark_exp e m)
    mark_stm (IfElse p e x y) m = mark_stm y (mark_stm x (mark_exp e m))
    mark_stm (While p e x) m = mark_stm x (mark_exp e m)
    mark_stm (Do p x e) m = mark_exp e (mark_stm x m)
    mark_stm (For p f c n x) m = mark_stm x (mark_exp_if n (mark_exp_if c (mark_start f m)))
    mark_stm (Switch p e xs) m = mark_stms xs (mark_exp e m)
    mark_stm (Case n e) m = mark_exp e m
    mark_stm Default m = m
    mark_stm (Goto p n) m = m
    mark_stm Break m = m
    mark_stm Continue m = m
    mark_stm (Return p e) m = mark_exp_if e m
    mark_stm (Label n x) m = mark_stm x m

    pub mark_stms : Stms → List Bool → List Bool
    mark_stms NoStms m = m
    mark_stms (Stms' x xs) m = mark_stms xs (mark_stm x m)
