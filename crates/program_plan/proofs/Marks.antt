-- The marks that the walk over a body sets are those of the functions that the call graph names.
use Rattle.std.proofs.Common.{◌≡◌, ℕ, Bool, true, false, Option, Some, None, List, [], ◌∷◌, ◌++◌, refl, ap, sym, ◌∙◌}
use Rattle.sc_world.specs.Tree.{Exp, Comma, Assign, Cond, Binary, Cast, Unary, PreInc, PostInc, SizeofExpr, SizeofType, Index, Call, Field, Param, Local, Global, Function, Number, Str, Convert, Temp, TempPlace, Exps, NoExps, Exps', Given, Init, NoInit, One, Braces, Dec, Start, NoStart, Begin, Declare, Stm, Block, Decl, Evaluate, If, IfElse, While, Do, For, Switch, Case, Default, Goto, Break, Continue, Return, Label, Stms, NoStms, Stms'}
use Rattle.sc_world.specs.Source.{Source}
use Rattle.program_verdicts.specs.CallGraph.{called, in_exp, in_exps, in_exp_if, in_items, in_init, in_declarators, in_start, in_stm, in_stms}
use Rattle.program_plan.proofs.Meanings.{called_same}
use Rattle.program_plan.specs.Marks.{marked, mark_exp, mark_exps, mark_exp_if, mark_items, mark_init, mark_declarators, mark_start, mark_stm, mark_stms}

marked_append : (m : List Bool) (xs ys : List ℕ) → marked m (xs ++ ys) ≡ marked (marked m xs) ys
marked_append m [] ys = refl
marked_append m (x ∷ xs) ys = marked_append _ xs ys

nothing : (m : List Bool) → m ≡ marked m []
nothing m = refl

-- one walk behind another
behind : (m : List Bool) (xs ys : List ℕ) {x y : List Bool} → x ≡ marked m xs → y ≡ marked x ys → y ≡ marked m (xs ++ ys)
behind m xs ys p q = q ∙ (ap (λ z. marked z ys) p ∙ sym (marked_append m xs ys))

module _ (s : Source) where
  mutual
    pub exp : (e : Exp) (m : List Bool) → mark_exp s e m ≡ marked m (in_exp s e)
    exp (Comma a b t) m = behind m (in_exp s a) (in_exp s b) (exp a m) (exp b (mark_exp s a m))
    exp (Assign o w a b t) m = behind m (in_exp s a) (in_exp s b) (exp a m) (exp b (mark_exp s a m))
    exp (Cond a b c t) m =
        behind m (in_exp s a) (in_exp s b ++ in_exp s c) (exp a m)
        (behind (mark_exp s a m) (in_exp s b) (in_exp s c) (exp b (mark_exp s a m)) (exp c (mark_exp s b (mark_exp s a m))))
    exp (Binary o a b t) m = behind m (in_exp s a) (in_exp s b) (exp a m) (exp b (mark_exp s a m))
    exp (Cast a t) m = exp a m
    exp (Unary o a t) m = exp a m
    exp (PreInc d a t) m = exp a m
    exp (PostInc d a t) m = exp a m
    exp (SizeofExpr a n t) m = exp a m
    exp (SizeofType n t) m = nothing m
    exp (Index a b t) m = behind m (in_exp s a) (in_exp s b) (exp a m) (exp b (mark_exp s a m))
    exp (Call p f es t) m =
        behind m (in_exp s f) (in_exps s es ++ called s f) (exp f m)
        (behind (mark_exp s f m) (in_exps s es) (called s f) (exps es (mark_exp s f m))
        (ap (marked (mark_exps s es (mark_exp s f m))) (called_same s f)))
    exp (Field a n arrow t) m = exp a m
    exp (Param n t) m = nothing m
    exp (Local n t) m = nothing m
    exp (Global n t) m = nothing m
    exp (Function n b t) m = nothing m
    exp (Number n t) m = nothing m
    exp (Str p t) m = nothing m
    exp (Convert a t) m = exp a m
    exp (Temp n t) m = nothing m
    exp (TempPlace n t) m = nothing m

    pub exps : (es : Exps) (m : List Bool) → mark_exps s es m ≡ marked m (in_exps s es)
    exps NoExps m = nothing m
    exps (Exps' e es) m = behind m (in_exp s e) (in_exps s es) (exp e m) (exps es (mark_exp s e m))

  exp_if : (e : Option Exp) (m : List Bool) → mark_exp_if s e m ≡ marked m (in_exp_if s e)
  exp_if None m = nothing m
  exp_if (Some e) m = exp e m

  items : (xs : List Given) (m : List Bool) → mark_items s xs m ≡ marked m (in_items s xs)
  items [] m = nothing m
  items (x ∷ xs) m = behind m (in_exp s x.value) (in_items s xs) (exp x.value m) (items xs (mark_exp s x.value m))

  init : (x : Init) (m : List Bool) → mark_init s x m ≡ marked m (in_init s x)
  init NoInit m = nothing m
  init (One e) m = exp e m
  init (Braces xs) m = items xs m

  declarators : (ds : List Dec) (m : List Bool) → mark_declarators s ds m ≡ marked m (in_declarators s ds)
  declarators [] m = nothing m
  declarators (d ∷ ds) m =
      behind m (in_init s d.init) (in_declarators s ds) (init d.init m) (declarators ds (mark_init s d.init m))

  start : (x : Start) (m : List Bool) → mark_start s x m ≡ marked m (in_start s x)
  start NoStart m = nothing m
  start (Begin e) m = exp e m
  start (Declare ds) m = declarators ds m

  mutual
    pub stm : (x : Stm) (m : List Bool) → mark_stm s x m ≡ marked m (in_stm s x)
    stm (Block xs end) m = stms xs m
    stm (Decl ds) m = declarators ds m
    stm (Evaluate e) m = exp_if e m
    stm (If p e x) m = behind m (in_exp s e) (in_stm s x) (exp e m) (stm x (mark_exp s e m))
    stm (IfElse p e x y) m =
        behind m (in_exp s e) (in_stm s x ++ in_stm s y) (exp e m)
        (behind (mark_exp s e m) (in_stm s x) (in_stm s y) (stm x (mark_exp s e m)) (stm y (mark_stm s x (mark_exp s e m))))
    stm (While p e x) m = behind m (in_exp s e) (in_stm s x) (exp e m) (stm x (mark_exp s e m))
    stm (Do p x e) m = behind m (in_stm s x) (in_exp s e) (stm x m) (exp e (mark_stm s x m))
    stm (For p f c n x) m =
        behind m (in_start s f) (in_exp_if s c ++ (in_exp_if s n ++ in_stm s x)) (start f m)
        (behind (mark_start s f m) (in_exp_if s c) (in_exp_if s n ++ in_stm s x) (exp_if c (mark_start s f m))
        (behind (mark_exp_if s c (mark_start s f m)) (in_exp_if s n) (in_stm s x)
        (exp_if n (mark_exp_if s c (mark_start s f m)))
        (stm x (mark_exp_if s n (mark_exp_if s c (mark_start s f m))))))
    stm (Switch p e xs) m = behind m (in_exp s e) (in_stms s xs) (exp e m) (stms xs (mark_exp s e m))
    stm (Case n e) m = exp e m
    stm Default m = nothing m
    stm (Goto p n) m = nothing m
    stm Break m = nothing m
    stm Continue m = nothing m
    stm (Return p e) m = exp_if e m
    stm (Label n x) m = stm x m

    pub stms : (xs : Stms) (m : List Bool) → mark_stms s xs m ≡ marked m (in_stms s xs)
    stms NoStms m = nothing m
    stms (Stms' x xs) m = behind m (in_stm s x) (in_stms s xs) (stm x m) (stms xs (mark_stm s x m))
