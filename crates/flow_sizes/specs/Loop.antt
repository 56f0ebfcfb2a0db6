-- How many nodes the graph of one function has, counted by hand for every depth.
--     void f(spinlock_t*l,int n){int i;spin_lock(l);for(i=0;i<n;i++)if(i==2)spin_lock(l);}
use Rattle.std.specs.Prelude.{◌≡◌, ℕ, ◌+◌, ◌*◌, false, Some, None, [], ◌∷◌, length}
use Rattle.sc_base.specs.declared.pos.Pos.{Pos}
use Rattle.sc_tree.specs.declared.op.BinaryOp.TheVariants as binary
use Rattle.sc_tree.specs.declared.op.Step.TheVariants as step
use Rattle.sc_tree.specs.declared.ctype.IntKind.TheVariants as kind
use Rattle.sc_typed.specs.declared.stmt.Declared.TheVariants as declared
use Rattle.sc_world.specs.Tree.{Ty, Void, Int, Ptr, Struct, Func, NoTypes, Exp, Assign, Binary, PostInc, Call, Param, Local, Function, Number, NoExps, Exps', NoInit, Begin, Stm, Block, Decl, Evaluate, If, For, NoStms, Stms'}
use Rattle.sc_world.specs.Source.{Source}
use Rattle.flow_graph.specs.Unrolled.{flow}

-- a place in the text
abbrev pub at : (col : ℕ) → Pos
at col = record { file = 0; line = 2; col = col }

abbrev pub int : Ty
int = Int kind.Int

abbrev pub i : Exp
i = Local 0 int

abbrev pub lock : (first token : ℕ) → Stm
lock first token =
    Evaluate (Some (Call (record { token = at token; first = at first }) (Function (record { at = 0 }) None (Func Void false NoTypes false))
    (Exps' (Param 0 (Ptr (Struct 0))) NoExps) Void))

abbrev pub below : Exp
below = Binary binary.Less i (Param 1 int) int

abbrev pub up : Exp
up = PostInc step.Up i int

abbrev pub inner : Stm
inner = If (at 63) (Binary binary.Equal i (Number 2 int) int) (lock 71 80)

abbrev pub loop : Stm
loop =
    Block
    (Stms' (Decl (record { declared = declared.Local 0; init = NoInit } ∷ []))
    (Stms' (lock 34 43)
    (Stms' (For (at 47) (Begin (Assign None int i (Number 0 int) int)) (Some below) (Some up) inner) NoStms)))
    (at 84)

-- Ten stand once: two for the call and its argument, one for `i=0`, four for the last `i<n` (its value, a branch, two
-- events), one where the walk is set aside, two for the end. A turn has eleven: four for `i<n`, four for `i==2`, two for
-- the call, one for `i++`.
abbrev pub LoopsAreCounted : Type 0
LoopsAreCounted = (s : Source) → s.body ≡ loop → length (flow s).nodes ≡ 10 + 11 * s.depth
