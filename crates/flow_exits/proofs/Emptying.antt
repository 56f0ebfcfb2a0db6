-- Graphs that give nothing, as the code has them.
use Rattle.std.proofs.Common.{◌≡◌, ℕ, Bool, true, false, not, ◌&&◌, ◌||◌, ◌<◌, if◌then◌else◌, List, [], ◌∷◌, map, refl, sym, ◌∙◌, ap}
use Rattle.std.specs.Prelude.{Option, Some, None}
use Rattle.sc_world.specs.Tree.{Ty, Void, Bool', Int, Ptr, Array, Struct, Union, Func, Opaque, is_array, is_void, Exp, Comma, Assign, Cond, Binary, Cast, Unary, PreInc, PostInc, SizeofExpr, SizeofType, Index, Call, Field, Param, Local, Global, Function, Number, Str, Convert, Temp, TempPlace, type_of}
use Rattle.sc_world.specs.Layout.{Layout}
use Rattle.flow_graph.specs.Nodes.{Node, Keep, KeepCells, CallOf, Update, Set, Fill, Branch, Choose, Mark, MarkSwitch, Exit, SetAside}
use Rattle.flow_graph.specs.Conditions.{IsFine, AllFine}
use Rattle.flow_graph.specs.Unrolled.{Flow}
use Rattle.sc_world.specs.Source.{Struct as Members}
use Rattle.sc_flow.specs.Over.{over}
use Rattle.sc_flow.specs.Seen.{node}
use Rattle.sc_flow.specs.declared.node.Node.{Node as Code}
use Rattle.sc_flow.specs.declared.node.Node.TheVariants as code
use Rattle.flow_exits.specs.Ended.{ends_without, ended}
use Rattle.flow_exits.specs.Exits.{casts_away, keeps_nothing, kept_in, passes, is_given, gives_nothing, all_give_nothing, without_value, ending, ending_flow}

-- an expression over kept operands casts away what it casts away itself
of_kept : (u : Ty) (x : ℕ) → type_of (if is_array u then TempPlace x u else Temp x u) ≡ u
of_kept Void x = refl
of_kept Bool' x = refl
of_kept (Int k) x = refl
of_kept (Ptr u) x = refl
of_kept (Array u n) x = refl
of_kept (Struct n) x = refl
of_kept (Union n) x = refl
of_kept (Func r known ts more) x = refl
of_kept (Opaque n) x = refl

pub over_casts_away : (e : Exp) (x y : ℕ) → casts_away (over e x y) ≡ casts_away e
over_casts_away (Comma a b t) x y = refl
over_casts_away (Assign o w a b t) x y = refl
over_casts_away (Cond a b c t) x y = refl
over_casts_away (Binary o a b t) x y = refl
over_casts_away (Cast a t) x y = ap (λ (u : Ty). is_void t && not (is_array u)) (of_kept (type_of a) x)
over_casts_away (Unary o a t) x y = refl
over_casts_away (PreInc d a t) x y = refl
over_casts_away (PostInc d a t) x y = refl
over_casts_away (SizeofExpr a n t) x y = refl
over_casts_away (SizeofType n t) x y = refl
over_casts_away (Index a b t) x y = refl
over_casts_away (Call p f es t) x y = refl
over_casts_away (Field a n true t) x y = refl
over_casts_away (Field a n false t) x y = refl
over_casts_away (Param n t) x y = refl
over_casts_away (Local n t) x y = refl
over_casts_away (Global n t) x y = refl
over_casts_away (Function n b t) x y = refl
over_casts_away (Number n t) x y = refl
over_casts_away (Str p t) x y = refl
over_casts_away (Convert a t) x y = ap (λ (u : Ty). is_void t && not (is_array u)) (of_kept (type_of a) x)
over_casts_away (Temp n t) x y = refl
over_casts_away (TempPlace n t) x y = refl

-- tests that agree on the temps that are counted
module _ (p : Layout) (f g : ℕ → Bool) (temps slots : ℕ) (same : (m : ℕ) → m < temps → f m ≡ g m) where
  agrees : (n : Node) → IsFine temps slots n → passes f (kept_in n) ≡ passes g (kept_in n)
  agrees (Keep want t e next) fine = same t fine.keeps.0
  agrees (KeepCells n e next) fine = refl
  agrees (CallOf c args t next) fine = same t fine.keeps.0
  agrees (Update u want at old right t next) fine = same t fine.keeps.0
  agrees (Set n e next) fine = refl
  agrees (Fill n xs slots' next) fine = refl
  agrees (Branch t hit miss) fine = refl
  agrees (Choose t n hit miss) fine = refl
  agrees (Mark q x next) fine = refl
  agrees (MarkSwitch q t from next) fine = refl
  agrees (Exit from) fine = refl
  agrees (SetAside r) fine = refl

  pub both_agree : (ns : List Node) → AllFine temps slots ns → all_give_nothing p f ns ≡ all_give_nothing p g ns
  both_agree [] fine = refl
  both_agree (n ∷ ns) fine =
      ap (λ b. (keeps_nothing p n || not b) && all_give_nothing p f ns) (agrees n fine.0)
      ∙ ap (λ b. gives_nothing p g n && b) (both_agree ns fine.1)

-- Which of the two lists it is.
pub is_emptied : (structs : List Members) (p : Layout) (ns ms : List Code) (b : Bool)
    → b ≡ all_give_nothing p (is_given (map (node structs) ns)) (map (node structs) ns) → b ≡ true → ms ≡ map (λ n. ends_without n) ns → ms ≡ ended structs p ns
is_emptied structs p ns ms b is h e = e ∙ ap (λ (x : Bool). if x then map (λ n. ends_without n) ns else ns) (sym h ∙ is)

pub is_as_it_was : (structs : List Members) (p : Layout) (ns ms : List Code) (b : Bool)
    → b ≡ all_give_nothing p (is_given (map (node structs) ns)) (map (node structs) ns) → b ≡ false → ms ≡ ns → ms ≡ ended structs p ns
is_as_it_was structs p ns ms b is h e = e ∙ ap (λ (x : Bool). if x then map (λ n. ends_without n) ns else ns) (sym h ∙ is)

-- What it is seen as.
one_seen : (structs : List Members) (n : Code) → node structs (ends_without n) ≡ without_value (node structs n)
one_seen structs (code.Keep want temp e next) = refl
one_seen structs (code.KeepCells slot e next) = refl
one_seen structs (code.Call c args temp next) = refl
one_seen structs (code.Update u want place former right temp next) = refl
one_seen structs (code.Set n e next) = refl
one_seen structs (code.Fill n xs slots next) = refl
one_seen structs (code.Branch from hit miss) = refl
one_seen structs (code.Choose from number hit miss) = refl
one_seen structs (code.Mark pos event next) = refl
one_seen structs (code.MarkSwitch pos t from next) = refl
one_seen structs (code.Exit from) = refl
one_seen structs (code.SetAside reason) = refl

all_seen : (structs : List Members) (ns : List Code) → map (node structs) (map (λ n. ends_without n) ns) ≡ map without_value (map (node structs) ns)
all_seen structs [] = refl
all_seen structs (n ∷ ns) =
    ap (λ x. x ∷ map (node structs) (map (λ n. ends_without n) ns)) (one_seen structs n) ∙ ap (λ xs. without_value (node structs n) ∷ xs) (all_seen structs ns)

either_seen : (structs : List Members) (ns : List Code) (b : Bool)
    → map (node structs) (if b then map (λ n. ends_without n) ns else ns) ≡ (if b then map without_value (map (node structs) ns) else map (node structs) ns)
either_seen structs ns true = all_seen structs ns
either_seen structs ns false = refl

abbrev flow_of : (temps slots : ℕ) → List Node → Flow
flow_of t k ns = record { nodes = ns; temps = t; slots = k }

pub seen_ended : (structs : List Members) (p : Layout) (ns ms : List Code) (t k : ℕ) → ms ≡ ended structs p ns
    → flow_of t k (map (node structs) ms) ≡ ending_flow p (flow_of t k (map (node structs) ns))
seen_ended structs p ns ms t k e =
    ap (λ (xs : List Code). flow_of t k (map (node structs) xs)) e
    ∙ ap (flow_of t k) (either_seen structs ns (all_give_nothing p (is_given (map (node structs) ns)) (map (node structs) ns)))
