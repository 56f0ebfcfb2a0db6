-- Calls of type `void` and casts to `void` give nothing.
use Rattle.std.proofs.Common.{◌≡◌, ℕ, Bool, true, false, not, ◌&&◌, ◌||◌, ◌+◌, if◌then◌else◌, List, map, refl, sym, subst}
use Rattle.std.specs.Prelude.{Option, Some, None, Result, Ok, Err}
use Rattle.std.proofs.lemmas.Bool.{and_parts}
use Rattle.sc_base.specs.declared.pos.Pos.{Pos}
use Rattle.run_store.specs.Concrete.{Cell, Number, Pointer, Nothing}
use Rattle.run_store.specs.declared.Flag.TheVariants as flag
use Rattle.sum_rows.specs.declared.row.State.TheVariants as state
use Rattle.sum_rows.specs.declared.row.Summary.{Summary}
use Rattle.sum_rows.specs.declared.report.What.TheVariants as what
use Rattle.sc_world.specs.Tree.{Ty, Void, Bool', Int, Ptr, Array, Struct, Union, Func, Opaque, is_array, is_void, Exp, Comma, Assign, Cond, Binary, Cast, Unary, PreInc, PostInc, SizeofExpr, SizeofType, Index, Call, Field, Param, Local, Global, Function, Number as Num, Str, Convert, Temp, TempPlace, type_of}
use Rattle.sc_world.specs.Source.{Source, Effect, Operation, Try, Allocate, Release, Ends, Expect, Known, Unknown, called_name, sum_at}
use Rattle.sc_world.specs.Layout.{Layout, Occurrence, location, is_outer, site_at, occurrence_at}
use Rattle.sc_world.specs.declared.run.Reason.TheVariants as reason
use Rattle.sc_world.specs.World.{World, Ended, Error, Inner, Aside, Run, goes_on, ◌>>=◌, done, ends, unless, Env, mark, state_of, set_state, event, reach}
use Rattle.sc_world.specs.Known.{known, acts as does, acts_unless, acts_as, errs, error_stands, effects, rows_stand, given_nothing, Acting, Failing, Locked, first_error, locks, outs, writes, count_items, is_lock, is_param, is_out_item, given_number, meet_twice, set_states, set_outs, set_writes, params_act, param_spot, mark_if, state_after, free}
use Rattle.sc_world.specs.Eval.{Value, Evaluator, eval, convert, convert_of, first_arg, act, fails, known_by, unknown, escape_all, goes_to, target_from}
use Rattle.flow_graph.specs.Nodes.{Calling, in_tree, call_of}
use Rattle.flow_exits.specs.Exits.{casts_away, is_without_value}

abbrev pub IsNothing : Result Cell Ended × World → Type 0
IsNothing (Ok c, w) = c ≡ Nothing
IsNothing (Err e, w) = Unit {0}

-- where the run goes on behind the step, this gives nothing
pub record GivesNothing (m : Run Cell) : Type 0 where
  pub by : (w : World) → IsNothing (m w)

behind : {A : Type 0} (r : Result A Ended × World) (f : A → Run Cell) → ((a : A) → GivesNothing (f a)) → IsNothing (goes_on r f)
behind (Ok a, w) f h = (h a).by w
behind (Err e, w) f h = tt

onto : {A : Type 0} (m : Run A) (f : A → Run Cell) → ((a : A) → GivesNothing (f a)) → GivesNothing (m >>= f)
onto m f h = record { by = λ w. behind (m w) f h }

nothing : GivesNothing (done Nothing)
nothing = record { by = λ w. refl }

stops : (e : Ended) → GivesNothing (ends e)
stops e = record { by = λ w. tt }

-- Calls.

failing : (env : Env) (p : Pos) (at : ℕ) → GivesNothing (fails env p at)
failing env p at = onto (event p (what.Bad at)) _ (λ _. stops (if is_outer (location env.layout at) then Error at else Inner at))

going : (env : Env) (p : Pos) (at : ℕ) (to : Option ℕ) → GivesNothing (goes_to env p Void at to)
going env p at None = failing env p at
going env p at (Some s) = onto (set_state env at s) _ (λ _. nothing)

effecting : (env : Env) (a : Acting) (after : List ℕ) → GivesNothing (effects env a given_nothing after)
effecting env a after =
    onto (set_states env after a.locks) _ (λ _.
    onto (set_outs env a.outs) _ (λ _.
    onto (set_writes env a.writes) _ (λ _.
    onto (params_act env a.args (param_spot a) a.summary.items) _ (λ _. onto (mark_if None state.Nil) _ (λ _. nothing)))))

standing : (env : Env) (a : Acting) → GivesNothing (acts_as env a (Some given_nothing))
standing env a =
    onto (rows_stand env a given_nothing) _ (λ b. onto (unless b reason.NoRow) _ (λ _. effecting env a (map (state_after env) a.locks)))

erring : (env : Env) (f : Failing) → ((at : ℕ) → GivesNothing (f at)) → (a : Acting) (l : Locked) → GivesNothing (errs env f a l)
erring env f h a l =
    onto (state_of env l.at) _ (λ s. onto (unless (error_stands a.given s l) reason.NoRow) _ (λ _. onto (mark l.at flag.Touched) _ (λ _. h l.at)))

acting : (env : Env) (f : Failing) → ((at : ℕ) → GivesNothing (f at)) → (a : Acting) (l : Option Locked) → GivesNothing (acts_unless env f Void a l)
acting env f h a None = standing env a
acting env f h a (Some l) = erring env f h a l

doing : (env : Env) (f : Failing) → ((at : ℕ) → GivesNothing (f at)) → (a : Acting) → GivesNothing (does env f Void a)
doing env f h a =
    onto (unless (not (meet_twice (map (λ l. l.at) a.locks) || meet_twice (map (λ o. o.at) a.outs))) reason.Alias) _
    (λ _. acting env f h a (first_error env a.locks))

by_summary : (env : Env) (f : Failing) → ((at : ℕ) → GivesNothing (f at)) → (o : Occurrence) (sum : Summary) (vs : List Cell) → GivesNothing (known env f o Void sum vs)
by_summary env f h o sum vs =
    onto (locks env vs o.spot sum.items) _ (λ ls.
    onto (outs env vs (o.spot + (count_items is_lock sum.items + count_items is_param sum.items)) sum.items) _ (λ os.
    onto (writes env vs sum.items (o.spot + (count_items is_lock sum.items + (count_items is_param sum.items + count_items is_out_item sum.items))) sum.writes) _ (λ ws.
    doing env f h (record { summary = sum; occurrence = o; args = vs; given = given_number vs; locks = ls; outs = os; writes = ws }))))

unknowing : (env : Env) (o : Occurrence) (vs : List Cell) → GivesNothing (unknown env o Void vs)
unknowing env o vs = onto (escape_all env vs) _ (λ _. nothing)

knowing : (env : Env) (p : Pos) (o : Occurrence) (vs : List Cell) (sum : Option Summary) → GivesNothing (known_by env p Void o vs sum)
knowing env p o vs None = unknowing env o vs
knowing env p o vs (Some sum) = by_summary env (fails env p) (failing env p) o sum vs

acts : (env : Env) (p : Pos) (o : Occurrence) (vs : List Cell) (e : Effect) → is_without_value e ≡ true → GivesNothing (act env p Void o vs e)
acts env p o vs (Operation n) h =
    onto (reach env (first_arg vs)) _ (λ at. onto (mark at flag.Touched) _ (λ _. onto (state_of env at) _ (λ s. going env p at (target_from env n s))))
acts env p o vs (Try success failure) h = absurd (cc)
acts env p o vs (Allocate zeroed) h = absurd (cc)
acts env p o vs Release h = onto (free env (first_arg vs)) _ (λ _. nothing)
acts env p o vs Ends h = stops (Aside reason.NoReturn)
acts env p o vs Expect h = absurd (cc)
acts env p o vs (Known k) h = knowing env p o vs (sum_at env.source k)
acts env p o vs Unknown h = unknowing env o vs

void_is : (t : Ty) → is_void t ≡ true → Void ≡ t
void_is Void h = refl
void_is Bool' h = absurd (cc)
void_is (Int k) h = absurd (cc)
void_is (Ptr t) h = absurd (cc)
void_is (Array t n) h = absurd (cc)
void_is (Struct n) h = absurd (cc)
void_is (Union n) h = absurd (cc)
void_is (Func r known ts more) h = absurd (cc)
void_is (Opaque n) h = absurd (cc)

of_void : (env : Env) (p : Pos) (t : Ty) (o : Occurrence) (vs : List Cell) (e : Effect) → is_void t ≡ true → is_without_value e ≡ true → GivesNothing (act env p t o vs e)
of_void env p t o vs e void h = subst (λ t. GivesNothing (act env p t o vs e)) (void_is t void) (acts env p o vs e h)

pub call_gives : (s : Source) (p : Layout) (choice : List Bool) (c : Calling) (vs : List Cell) → is_void c.result ≡ true
    → is_without_value (site_at p c.place.token).site.effect ≡ true → GivesNothing (call_of s p choice c vs)
call_gives s p choice c vs void h =
    let site = site_at p c.place.token in
    onto (event c.place.first (what.Call (called_name c.callee))) _
    (λ _. of_void (in_tree s p choice c.turn) c.place.first c.result (occurrence_at p site c.turn) vs site.site.effect void h)

-- Casts.

converted : (env : Env) (u : Ty) (c : Cell) → convert env u Void c ≡ Nothing
converted env u (Number w n) = refl
converted env u (Pointer p) = refl
converted env u Nothing = refl

gives_converted : (env : Env) (u : Ty) (c : Cell) → GivesNothing (done (convert env u Void c))
gives_converted env u c = record { by = λ w. converted env u c }

of_no_array : (b : Bool) (m n : Run Cell) → b ≡ false → GivesNothing n → GivesNothing (if b then m else n)
of_no_array true m n e h = absurd (cc)
of_no_array false m n e h = h

not_so : (b : Bool) → not b ≡ true → b ≡ false
not_so true h = sym h
not_so false h = refl

cast : (env : Env) (u t : Ty) (a : Evaluator) → (is_void t && not (is_array u)) ≡ true → GivesNothing (convert_of u a t env)
cast env u t a h =
    let both = and_parts (is_void t) (not (is_array u)) h in
    subst (λ t. GivesNothing (convert_of u a t env)) (void_is t both.0)
    (of_no_array (is_array u) _ _ (not_so (is_array u) both.1) (onto (a Value env) _ (λ v. gives_converted env u v)))

pub cast_gives : (env : Env) (e : Exp) → casts_away e ≡ true → GivesNothing (eval e Value env)
cast_gives env (Comma a b t) h = onto (eval a Value env) _ (λ _. cast_gives env b h)
cast_gives env (Assign o w a b t) h = absurd (cc)
cast_gives env (Cond a b c t) h = absurd (cc)
cast_gives env (Binary o a b t) h = absurd (cc)
cast_gives env (Cast a t) h = cast env (type_of a) t (eval a) h
cast_gives env (Unary o a t) h = absurd (cc)
cast_gives env (PreInc d a t) h = absurd (cc)
cast_gives env (PostInc d a t) h = absurd (cc)
cast_gives env (SizeofExpr a n t) h = absurd (cc)
cast_gives env (SizeofType n t) h = absurd (cc)
cast_gives env (Index a b t) h = absurd (cc)
cast_gives env (Call p f es t) h = absurd (cc)
cast_gives env (Field a n arrow t) h = absurd (cc)
cast_gives env (Param n t) h = absurd (cc)
cast_gives env (Local n t) h = absurd (cc)
cast_gives env (Global n t) h = absurd (cc)
cast_gives env (Function n b t) h = absurd (cc)
cast_gives env (Num n t) h = absurd (cc)
cast_gives env (Str p t) h = absurd (cc)
cast_gives env (Convert a t) h = cast env (type_of a) t (eval a) h
cast_gives env (Temp n t) h = absurd (cc)
cast_gives env (TempPlace n t) h = absurd (cc)
