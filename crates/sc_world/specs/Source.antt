-- What locations and runs read of a typed program: one function, what it calls, and the options of the check.
use Rattle.std.specs.Prelude.{ℕ, ◌+◌, nat_eq, Bool, true, false, not, ◌&&◌, ◌||◌, Option, Some, None, List, [], ◌∷◌, length, slice_index_or, codes, bytes_eq, if◌then◌else◌}
use Rattle.sc_base.specs.declared.pos.NameId.{NameId}
use Rattle.sc_tree.specs.declared.ctype.Widths.{Widths}
use Rattle.fsm_spec.specs.declared.table.MachineSpec.{MachineSpec}
use Rattle.fsm_spec.specs.Table.{find_in}
use Rattle.sum_rows.specs.declared.row.Summary.{Summary}
use Rattle.sc_world.specs.Tree.{Ty, Void, Stm, Exp, Exps, NoExps, Exps', Function, type_of, is_integer, is_pointer, is_void}

-- a member: its name and its type; a bit field has the type of its whole
pub record Member : Type 0 where
  pub name : Option NameId
  pub type : Ty

-- a struct or a union
pub record Struct : Type 0 where
  pub union : Bool
  pub members : List Member

-- the signature of a function with a body
pub record Signature : Type 0 where
  pub params : List Ty
  pub result : Ty

pub record Source : Type 0 where
  pub widths : Widths
  -- the texts of the names
  pub names : List (List ℕ)
  pub structs : List Struct
  pub globals : List Ty
  -- all functions with bodies
  pub functions : List Signature
  -- the function at hand
  pub params : List Ty
  pub result : Ty
  pub locals : List Ty
  pub body : Stm
  -- its kept callees, ascending, and the summary of each; none of one that is skipped
  pub kept : List ℕ
  pub sums : List (Option Summary)
  -- how often a loop may turn, and how far pointers are followed at entry
  pub depth : ℕ
  pub reach : ℕ
  -- the machine of states; with the flag functions may try to lock
  pub machine : MachineSpec
  pub tries : Bool

-- What a call does.
pub data Effect : Type 0 where
  -- the operation of the machine with that number
  Operation : ℕ → Effect
  -- it tries to lock, and gives one number on success and another one else
  Try : (success failure : ℕ) → Effect
  Allocate : (zeroed : Bool) → Effect
  Release : Effect
  -- the program ends
  Ends : Effect
  -- it gives its first argument
  Expect : Effect
  -- the kept callee with that place acts by its summary
  Known : ℕ → Effect
  Unknown : Effect

abbrev pub is_one_of : List (List ℕ) → List ℕ → Bool
is_one_of [] text = false
is_one_of (t ∷ ts) text = bytes_eq t text || is_one_of ts text

abbrev pub ends_names : List (List ℕ)
ends_names = codes "exit" ∷ codes "_exit" ∷ codes "abort" ∷ codes "panic" ∷ codes "__assert_fail" ∷ []

-- the built-in functions beside the operations of the machine
abbrev pub built_in : List ℕ → Option Effect
built_in text =
    if is_one_of (codes "malloc" ∷ codes "kmalloc" ∷ []) text
    then Some (Allocate false)
    else (if is_one_of (codes "calloc" ∷ codes "kzalloc" ∷ []) text
    then Some (Allocate true)
    else (if is_one_of (codes "free" ∷ codes "kfree" ∷ []) text
    then Some Release
    else (if is_one_of ends_names text
    then Some Ends
    else (if bytes_eq (codes "__builtin_expect") text then Some Expect else None))))

-- functions that try to lock
abbrev pub trying : List ℕ → Option Effect
trying text =
    if is_one_of (codes "spin_trylock" ∷ codes "mutex_trylock" ∷ []) text
    then Some (Try 1 0)
    else (if bytes_eq (codes "pthread_mutex_trylock") text then Some (Try 0 16) else None)

abbrev pub trying_if : Bool → List ℕ → Option Effect
trying_if tries text = if tries then trying text else None

abbrev pub or_else : {A : Type 0} → Option A → Option A → Option A
or_else None b = b
or_else (Some a) b = Some a

abbrev pub operation_if : Option ℕ → Option Effect
operation_if None = None
operation_if (Some n) = Some (Operation n)

-- what a call of that name does, where the name has a meaning of its own
abbrev pub effect_of_name : Source → List ℕ → Option Effect
effect_of_name s text =
    or_else (operation_if (find_in s.machine text)) (or_else (trying_if s.tries text) (built_in text))

abbrev pub text_of : Source → NameId → List ℕ
text_of s n = slice_index_or s.names n.at []

-- A call is known where its name means a body, the edge to it is kept, the callee is not skipped, and arguments and
-- results agree: integers with integers, pointers with pointers, and nothing with nothing.

abbrev pub agree : Ty → Ty → Bool
agree t u = (is_integer t && is_integer u) || (is_pointer t && is_pointer u)

abbrev pub results_agree : Ty → Ty → Bool
results_agree t u = agree t u || (is_void t && is_void u)

abbrev pub arguments_agree : Exps → List Ty → Bool
arguments_agree NoExps [] = true
arguments_agree (Exps' e es) (t ∷ ts) = agree (type_of e) t && arguments_agree es ts
arguments_agree _ _ = false

-- the place of a number in a list
abbrev pub place_in : ℕ → ℕ → List ℕ → Option ℕ
place_in k n [] = None
place_in k n (m ∷ ms) = if nat_eq n m then Some k else place_in (k + 1) n ms

abbrev pub no_signature : Signature
no_signature = record { params = []; result = Void }

abbrev pub signature_at : Source → ℕ → Signature
signature_at s g = slice_index_or s.functions g no_signature

abbrev pub sum_at : Source → ℕ → Option Summary
sum_at s k = slice_index_or s.sums k None

abbrev pub fits_signature : Signature → Exps → Ty → Bool
fits_signature f es t = arguments_agree es f.params && results_agree t f.result

abbrev pub known_if : Bool → ℕ → Option Summary → Effect
known_if true k (Some sum) = Known k
known_if _ k _ = Unknown

abbrev pub known_at : Source → ℕ → Exps → Ty → Option ℕ → Effect
known_at s g es t None = Unknown
known_at s g es t (Some k) = known_if (fits_signature (signature_at s g) es t) k (sum_at s k)

abbrev pub known_body : Source → Option ℕ → Exps → Ty → Effect
known_body s None es t = Unknown
known_body s (Some g) es t = known_at s g es t (place_in 0 g s.kept)

abbrev pub effect_or : Option Effect → Effect → Effect
effect_or None e = e
effect_or (Some d) e = d

-- what a call of this callee does
abbrev pub effect : Source → Exp → Exps → Ty → Effect
effect s (Function n body u) es t = effect_or (effect_of_name s (text_of s n)) (known_body s body es t)
effect s _ es t = Unknown

-- the name of a call by name
abbrev pub called_name : Exp → Option NameId
called_name (Function n body u) = Some n
called_name _ = None
