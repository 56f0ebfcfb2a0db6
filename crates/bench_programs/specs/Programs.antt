-- Programs that are generated: a line that says what a lock is, and then a line for each function. Eight shapes of
-- functions come in turn; the seed says with which one they begin.
use Rattle.std.specs.Prelude.{ℕ, ◌+◌, ◌-◌, nat_eq, List, [], ◌∷◌, ◌++◌, Option, Some, None, codes, if◌then◌else◌, slice_index_or, ◌%◌}
use Rattle.std.specs.List.{flat_map, range_with_len}
use Rattle.std.specs.Fmt.{decimal}
use Rattle.bench_programs.specs.declared.shape.Shape.{Shape}
use Rattle.bench_programs.specs.declared.shape.Shape.TheVariants as shape

-- the shapes, in turn
abbrev pub shapes : List Shape
shapes =
    shape.Paired ∷ shape.Twice ∷ shape.Tries ∷ shape.Loses ∷ shape.Locks ∷ shape.Unlocks ∷ shape.Makes ∷ shape.Frees ∷ []

abbrev pub shape_of_turn : ℕ → Shape
shape_of_turn turn = slice_index_or shapes (turn % 8) shape.Frees

-- the shape in whose place the first function stands: no function stands before it
abbrev pub without_callee : Shape → Shape
without_callee shape.Unlocks = shape.Locks
without_callee shape.Frees = shape.Loses
without_callee s = s

-- the shape of a function by its number
abbrev pub shape_of : (number seed : ℕ) → Shape
shape_of number seed =
    if nat_eq number 0 then without_callee (shape_of_turn (number + seed)) else shape_of_turn (number + seed)

-- what stands before the function's number
abbrev pub head : Shape → List ℕ
head shape.Tries = codes "int f"
head shape.Makes = codes "char*f"
head _ = codes "void f"

-- what stands between its number and that of the function before it, of a shape that calls that one
abbrev pub call : Shape → Option (List ℕ)
call shape.Unlocks = Some (codes "(spinlock_t*l){f")
call shape.Frees = Some (codes "(int n){char*p=f")
call _ = None

-- what stands behind the last number
abbrev pub tail : Shape → List ℕ
tail shape.Paired = codes "(spinlock_t*l){spin_lock(l);spin_unlock(l);}\n"
tail shape.Twice = codes "(_Bool c,spinlock_t*l){spin_lock(l);if(c)spin_lock(l);}\n"
tail shape.Tries = codes "(spinlock_t*l){return spin_trylock(l);}\n"
tail shape.Loses = codes "(int n){char*p=kmalloc(n,0);if(n)kfree(p);}\n"
tail shape.Locks = codes "(spinlock_t*l){spin_lock(l);}\n"
tail shape.Unlocks = codes "(l);spin_unlock(l);}\n"
tail shape.Makes = codes "(int n){char*p=malloc(n);return p;}\n"
tail shape.Frees = codes "(n);if(p&&n)free(p);}\n"

abbrev pub called : Option (List ℕ) → ℕ → List ℕ
called None number = []
called (Some bytes) number = bytes ++ decimal (number - 1)

abbrev pub line : Shape → ℕ → List ℕ
line s number = head s ++ (decimal number ++ (called (call s) number ++ tail s))

-- the function with that number
abbrev pub function_text : (seed number : ℕ) → List ℕ
function_text seed number = line (shape_of number seed) number

-- what a lock is
abbrev pub first_line : List ℕ
first_line = codes "typedef struct{int v;}spinlock_t;\n"

-- the program of so many functions
unfoldable pub bench_text : (count seed : ℕ) → List ℕ
bench_text count seed = first_line ++ flat_map (function_text seed) (range_with_len 0 count)
