-- Where no callee has a summary, nothing is known of a call exactly where its name has no meaning of its own.
use Rattle.std.proofs.Common.{◌≡◌, codes, bytes_eq, ℕ, Bool, true, false, Option, Some, None, List, [], ◌∷◌, if◌then◌else◌, refl, ap, sym, subst, ◌∙◌}
use Rattle.sc_base.specs.declared.pos.NameId.{NameId}
use Rattle.sc_typed.specs.declared.expr.TExpr.{TExpr}
use Rattle.sc_world.specs.Tree.{Ty, Exp, Comma, Assign, Cond, Binary, Cast, Unary, PreInc, PostInc, SizeofExpr, SizeofType, Index, Call, Field, Param, Local, Global, Function, Number, Str, Convert, Temp, TempPlace, Exps}
use Rattle.fsm_spec.specs.Table.{find_in}
use Rattle.sc_world.specs.Source.{Source, Effect, is_one_of, ends_names, Operation, Try, Allocate, Release, Ends, Expect, effect, effect_or, effect_of_name, text_of, known_body, known_at, place_in, operation_if, or_else, trying, trying_if, built_in}
use Rattle.program_verdicts.specs.CallGraph.{called, unless_built_in}
use Rattle.program_plan.specs.Marks.{is_unknown, is_meaningless, means_body, if_means, called_if}

abbrev unknown_if : Option Effect → Bool
unknown_if None = true
unknown_if (Some e) = is_unknown e

-- what has a meaning is not unknown
Tells : Option Effect → Type 0
Tells x = unknown_if x ≡ is_meaningless x

none : Tells None
unfolding Tells
none = refl

some : (e : Effect) → is_unknown e ≡ false → Tells (Some e)
unfolding Tells
some e p = p

tells_else : (a b : Option Effect) → Tells a → Tells b → Tells (or_else a b)
tells_else None b p q = q
tells_else (Some e) b p q = p

tells_if : (b : Bool) (x y : Option Effect) → Tells x → Tells y → Tells (if b then x else y)
tells_if true x y p q = p
tells_if false x y p q = q

operation : (o : Option ℕ) → Tells (operation_if o)
operation None = none
operation (Some n) = some (Operation n) refl

tries : (text : List ℕ) → Tells (trying text)
tries text =
    tells_if (is_one_of (codes "spin_trylock" ∷ codes "mutex_trylock" ∷ []) text) (Some (Try 1 0))
    (if bytes_eq (codes "pthread_mutex_trylock") text then Some (Try 0 16) else None) (some (Try 1 0) refl)
    (tells_if (bytes_eq (codes "pthread_mutex_trylock") text) (Some (Try 0 16)) None (some (Try 0 16) refl) none)

-- a test of a name, and the tests behind it
test : (b : Bool) (e : Effect) (y : Option Effect) → is_unknown e ≡ false → Tells y → Tells (if b then Some e else y)
test b e y p q = tells_if b (Some e) y (some e p) q

built : (text : List ℕ) → Tells (built_in text)
built text =
    test (is_one_of (codes "malloc" ∷ codes "kmalloc" ∷ []) text) (Allocate false)
    (if is_one_of (codes "calloc" ∷ codes "kzalloc" ∷ []) text
    then Some (Allocate true)
    else (if is_one_of (codes "free" ∷ codes "kfree" ∷ []) text
    then Some Release
    else (if is_one_of ends_names text
    then Some Ends
    else (if bytes_eq (codes "__builtin_expect") text then Some Expect else None)))) refl
    (test (is_one_of (codes "calloc" ∷ codes "kzalloc" ∷ []) text) (Allocate true)
    (if is_one_of (codes "free" ∷ codes "kfree" ∷ []) text
    then Some Release
    else (if is_one_of ends_names text
    then Some Ends
    else (if bytes_eq (codes "__builtin_expect") text then Some Expect else None))) refl
    (test (is_one_of (codes "free" ∷ codes "kfree" ∷ []) text) Release
    (if is_one_of ends_names text
    then Some Ends
    else (if bytes_eq (codes "__builtin_expect") text then Some Expect else None)) refl
    (test (is_one_of ends_names text) Ends
    (if bytes_eq (codes "__builtin_expect") text then Some Expect else None) refl
    (test (bytes_eq (codes "__builtin_expect") text) Expect None refl none))))

name : (s : Source) (text : List ℕ) → Tells (effect_of_name s text)
name s text =
    tells_else (operation_if (find_in s.machine text)) (or_else (trying_if s.tries text) (built_in text))
    (operation (find_in s.machine text))
    (tells_else (trying_if s.tries text) (built_in text) (tells_if s.tries (trying text) None (tries text) none) (built text))

-- nothing is known of a body, where no callee is kept
body : (s : Source) (b : Option ℕ) (es : Exps) (t : Ty) → s.kept ≡ [] → is_unknown (known_body s b es t) ≡ true
body s None es t alone = refl
body s (Some g) es t alone = subst (λ ks. is_unknown (known_at s g es t (place_in 0 g ks)) ≡ true) (sym alone) refl

or_body : (x : Option Effect) (e : Effect) → Tells x → is_unknown e ≡ true → is_unknown (effect_or x e) ≡ is_meaningless x
unfolding Tells
or_body None e p q = q
or_body (Some d) e p q = p

pub tells : (s : Source) (f : Exp) (es : Exps) (t : Ty) → s.kept ≡ [] → is_unknown (effect s f es t) ≡ means_body s f
tells s (Function n b u) es t alone =
    or_body (effect_of_name s (text_of s n)) (known_body s b es t) (name s (text_of s n)) (body s b es t alone)
tells s (Comma a b u) es t alone = refl
tells s (Assign o w a b u) es t alone = refl
tells s (Cond a b c u) es t alone = refl
tells s (Binary o a b u) es t alone = refl
tells s (Cast a u) es t alone = refl
tells s (Unary o a u) es t alone = refl
tells s (PreInc d a u) es t alone = refl
tells s (PostInc d a u) es t alone = refl
tells s (SizeofExpr a n u) es t alone = refl
tells s (SizeofType n u) es t alone = refl
tells s (Index a b u) es t alone = refl
tells s (Call p f fs u) es t alone = refl
tells s (Field a n arrow u) es t alone = refl
tells s (Param n u) es t alone = refl
tells s (Local n u) es t alone = refl
tells s (Global n u) es t alone = refl
tells s (Number n u) es t alone = refl
tells s (Str p u) es t alone = refl
tells s (Convert a u) es t alone = refl
tells s (Temp n u) es t alone = refl
tells s (TempPlace n u) es t alone = refl

-- a call of a name without a meaning of its own means the body that the name means
unless_same : (x : Option Effect) (g : ℕ) → if_means (is_meaningless x) g ≡ unless_built_in x g
unless_same None g = refl
unless_same (Some e) g = refl

pub called_same : (s : Source) (f : Exp) → called_if (means_body s f) f ≡ called s f
called_same s (Function n None u) = refl
called_same s (Function n (Some g) u) = unless_same (effect_of_name s (text_of s n)) g
called_same s (Comma a b u) = refl
called_same s (Assign o w a b u) = refl
called_same s (Cond a b c u) = refl
called_same s (Binary o a b u) = refl
called_same s (Cast a u) = refl
called_same s (Unary o a u) = refl
called_same s (PreInc d a u) = refl
called_same s (PostInc d a u) = refl
called_same s (SizeofExpr a n u) = refl
called_same s (SizeofType n u) = refl
called_same s (Index a b u) = refl
called_same s (Call p f fs u) = refl
called_same s (Field a n arrow u) = refl
called_same s (Param n u) = refl
called_same s (Local n u) = refl
called_same s (Global n u) = refl
called_same s (Number n u) = refl
called_same s (Str p u) = refl
called_same s (Convert a u) = refl
called_same s (Temp n u) = refl
called_same s (TempPlace n u) = refl
