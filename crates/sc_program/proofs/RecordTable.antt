-- The tables of declarations say which names are local to a file, and which type all files give a variable.
use Rattle.std.proofs.Common.{◌≡◌, ℕ, suc, ◌+◌, ◌<◌, length, drop, get_or, Bool, true, false, not, ◌&&◌, ◌||◌, cond, Option, Some, None, is_some, nat_eq, List, [], ◌∷◌, if◌then◌else◌, add-one, refl, sym, ◌∙◌, ap}
use Rattle.std.proofs.lemmas.Bool.{false≢true, eqb-true}
use Rattle.std.proofs.lemmas.List.{at_drop_more}
use Rattle.std.specs.List.{list_any}
use Rattle.std.specs.Option.{option_eq, option_map}
use Rattle.sc_tree.specs.declared.ctype.CType.{CType}
use Rattle.sc_tree.specs.declared.ctype.Widths.{Widths}
use Rattle.sc_typed.specs.declared.program.StructDef.{StructDef}
use Rattle.sc_rules.specs.declared.walk.Record.{Record}
use Rattle.sc_program.specs.Firsts.{or_else, number_where}
use Rattle.sc_program.specs.Places.{Key, Table, same_key, place_of}
use Rattle.sc_program.specs.Tables.{noted_if, with_local, with_locals, local_in, key_for, key_of, with_records, type_at, type_in}
use Rattle.sc_program.specs.Globals.{is_local_global, is_of, has_settled, any_record, first_type, type_over_all}
use Rattle.sc_program.proofs.Booleans.{and_true, and_turn, or_false, or_same, same_both}
use Rattle.sc_program.proofs.Numbers.{place_noted_if, or_none, then_rest, some_or, some_if, some_where, same_test}

-- Names that are local to a file.

abbrev makes_local : ℕ → ℕ → Record → Bool
makes_local f n r = nat_eq r.file f && (nat_eq r.name.at n && r.is_static)

swapped : (m n f g : ℕ) (static : Bool) → ((nat_eq n m && nat_eq f g) && static) ≡ (nat_eq g f && (nat_eq m n && static))
swapped m n f g static =
    ap (λ b. (b && nat_eq f g) && static) (same_both n m)
    ∙ ap (λ b. (nat_eq m n && b) && static) (same_both f g)
    ∙ and_turn (nat_eq m n) (nat_eq g f) static

local_added : (r : Record) (es : Table) (f n : ℕ) → local_in (with_local r es) f n ≡ (local_in es f n || makes_local f n r)
local_added r es f n =
    ap (λ (x : Option ℕ). is_some x) (place_noted_if r.is_static (n, Some f) (r.name.at, Some r.file) 0 es)
    ∙ some_or (place_of (n, Some f) es) (if (nat_eq n r.name.at && nat_eq f r.file) && r.is_static then Some 0 else None)
    ∙ ap (λ b. local_in es f n || b) (some_if ((nat_eq n r.name.at && nat_eq f r.file) && r.is_static) 0 ∙ swapped r.name.at n f r.file r.is_static)

locals_added : (rs : List Record) (es : Table) (f n : ℕ) → local_in (with_locals rs es) f n ≡ (local_in es f n || is_local_global rs f n)
locals_added [] es f n = sym (or_false (local_in es f n))
locals_added (r ∷ rs) es f n =
    locals_added rs (with_local r es) f n
    ∙ ap (λ b. b || is_local_global rs f n) (local_added r es f n)
    ∙ sym (or_same (local_in es f n) (makes_local f n r) (is_local_global rs f n))

pub local_found : (rs : List Record) (f n : ℕ) → local_in (with_locals rs []) f n ≡ is_local_global rs f n
local_found rs f n = locals_added rs [] f n

-- Declarations by their keys.

abbrev has_key : (local : ℕ → ℕ → Bool) → Key → Record → Bool
has_key local q r = same_key q (key_of local r)

records_added : (test : Record → Bool) (local : ℕ → ℕ → Bool) (q : Key) (k : ℕ) (rs : List Record) (es : Table)
    → place_of q (with_records test local k rs es) ≡ or_else (place_of q es) (number_where (λ r. has_key local q r && test r) k rs)
records_added test local q k [] es = sym (or_none (place_of q es))
records_added test local q k (r ∷ rs) es =
    records_added test local q (k + 1) rs (noted_if (test r) (key_of local r) k es)
    ∙ ap (λ x. or_else x (number_where (λ r. has_key local q r && test r) (k + 1) rs)) (place_noted_if (test r) q (key_of local r) k es)
    ∙ then_rest (place_of q es) (has_key local q r && test r) k (number_where (λ r. has_key local q r && test r) (k + 1) rs)

-- The key of a name in a file is that of the declarations of its variable.

no_file : (b : Bool) (f g : ℕ) → nat_eq g f ≡ b → (f ≡ g → true ≡ false) → false ≡ b
no_file true f g same differ = absurd (false≢true (sym (differ (sym (eqb-true g f same)))))
no_file false f g same differ = refl

files_same : (a b : Bool) (f g : ℕ) → (f ≡ g → a ≡ b) → option_eq nat_eq (if a then Some f else None) (if b then Some g else None) ≡ (if a then nat_eq g f else not b)
files_same true true f g same = same_both f g
files_same true false f g same = no_file (nat_eq g f) f g refl same
files_same false true f g same = refl
files_same false false f g same = refl

where_true : (b c d : Bool) → (b ≡ true → c ≡ d) → (b && c) ≡ (b && d)
where_true true c d same = same refl
where_true false c d same = refl

abbrev Known : (local : ℕ → ℕ → Bool) → List Record → Type 0
Known local rs = (f n : ℕ) → local f n ≡ is_local_global rs f n

same_files : (local : ℕ → ℕ → Bool) (rs : List Record) → Known local rs → (f g n m : ℕ) → n ≡ m
    → option_eq nat_eq (if local f n then Some f else None) (if local g m then Some g else None) ≡ (if is_local_global rs f n then nat_eq g f else not (is_local_global rs g n))
same_files local rs known f g n m same =
    ap (λ b. option_eq nat_eq (if b then Some f else None) (if local g m then Some g else None)) (known f n)
    ∙ ap (λ b. option_eq nat_eq (if is_local_global rs f n then Some f else None) (if b then Some g else None)) (known g m ∙ ap (λ (x : ℕ). is_local_global rs g x) (sym same))
    ∙ files_same (is_local_global rs f n) (is_local_global rs g n) f g (λ e. ap (λ (x : ℕ). is_local_global rs x n) e)

same_variable : (local : ℕ → ℕ → Bool) (rs : List Record) → Known local rs → (f n : ℕ) (r : Record) → has_key local (key_for local f n) r ≡ is_of rs f n r
same_variable local rs known f n r =
    where_true (nat_eq n r.name.at) (option_eq nat_eq (if local f n then Some f else None) (if local r.file r.name.at then Some r.file else None))
    (if is_local_global rs f n then nat_eq r.file f else not (is_local_global rs r.file n)) (λ e. same_files local rs known f r.file n r.name.at (eqb-true n r.name.at e))
    ∙ ap (λ b. b && (if is_local_global rs f n then nat_eq r.file f else not (is_local_global rs r.file n))) (same_both n r.name.at)

-- The type of the first declaration that passes a test.

shift_by : (b : Bool) (k : ℕ) (x y : Option ℕ) → x ≡ option_map (λ m. suc m) y → cond b (Some (k + 1)) x ≡ option_map (λ m. suc m) (cond b (Some k) y)
shift_by true k x y is = ap (λ m. Some m) (add-one k)
shift_by false k x y is = is

shift : (t : Record → Bool) (k : ℕ) (rs : List Record) → number_where t (k + 1) rs ≡ option_map (λ m. suc m) (number_where t k rs)
shift t k [] = refl
shift t k (r ∷ rs) = shift_by (t r) k (number_where t (k + 1 + 1) rs) (number_where t (k + 1) rs) (shift t (k + 1) rs)

type_behind : (r : Record) (rs : List Record) (x : Option ℕ) → type_at (r ∷ rs) (option_map (λ m. suc m) x) ≡ type_at rs x
type_behind r rs None = refl
type_behind r rs (Some k) = refl

type_by : (b : Bool) (r : Record) (rs : List Record) (x : Option ℕ) (u : Option CType) → type_at (r ∷ rs) x ≡ u → type_at (r ∷ rs) (cond b (Some 0) x) ≡ cond b (Some r.ctype) u
type_by true r rs x u is = refl
type_by false r rs x u is = is

type_first : (t : Record → Bool) (rs : List Record) → type_at rs (number_where t 0 rs) ≡ first_type t rs
type_first t [] = refl
type_first t (r ∷ rs) =
    type_by (t r) r rs (number_where t 1 rs) (first_type t rs)
    (ap (λ x. type_at (r ∷ rs) x) (shift t 0 rs) ∙ type_behind r rs (number_where t 0 rs) ∙ type_first t rs)

some_type_by : (b : Bool) (t : CType) (u : Option CType) → is_some (cond b (Some t) u) ≡ (b || is_some u)
some_type_by true t u = refl
some_type_by false t u = refl

some_type : (t : Record → Bool) (rs : List Record) → is_some (first_type t rs) ≡ list_any t rs
some_type t [] = refl
some_type t (r ∷ rs) = some_type_by (t r) r.ctype (first_type t rs) ∙ ap (λ b. t r || b) (some_type t rs)

first_stays : (u v : Option CType) → is_some u ≡ true → u ≡ or_else u v
first_stays None v h = absurd (false≢true h)
first_stays (Some a) v h = refl

or_types : (rs : List Record) (x y : Option ℕ) (u v : Option CType) → type_at rs x ≡ u → type_at rs y ≡ v → is_some u ≡ is_some x → type_at rs (or_else x y) ≡ or_else u v
or_types rs None y u v first second some = second ∙ ap (λ t. or_else t v) first
or_types rs (Some k) y u v first second some = first ∙ first_stays u v some

type_is : (t : Record → Bool) (rs : List Record) (x : Option ℕ) → x ≡ number_where t 0 rs → (type_at rs x ≡ first_type t rs) × (is_some (first_type t rs) ≡ is_some x)
type_is t rs x is = (ap (λ x. type_at rs x) is ∙ type_first t rs, some_type t rs ∙ sym (ap (λ (x : Option ℕ). is_some x) is ∙ some_where t 0 rs))

place_is : (test t : Record → Bool) (local : ℕ → ℕ → Bool) (rs : List Record) (q : Key) → ((r : Record) → (has_key local q r && test r) ≡ t r) → place_of q (with_records test local 0 rs []) ≡ number_where t 0 rs
place_is test t local rs q same = records_added test local q 0 rs [] ∙ same_test (λ r. has_key local q r && test r) t same 0 rs

pub type_found : (w : Widths) (structs : List StructDef) (rs : List Record) (local : ℕ → ℕ → Bool) → ((f n : ℕ) → local f n ≡ is_local_global rs f n)
    → (f n : ℕ) → type_in rs local (with_records (has_settled w structs) local 0 rs []) (with_records any_record local 0 rs []) f n ≡ type_over_all w structs rs f n
type_found w structs rs local known f n =
    let t : Record → Bool = λ r. is_of rs f n r && has_settled w structs r in
    let q : Key = key_for local f n in
    let x : Option ℕ = place_of q (with_records (has_settled w structs) local 0 rs []) in
    let y : Option ℕ = place_of q (with_records any_record local 0 rs []) in
    let first = type_is t rs x (place_is (has_settled w structs) t local rs q (λ r. ap (λ b. b && has_settled w structs r) (same_variable local rs known f n r))) in
    let second = type_is (is_of rs f n) rs y (place_is any_record (is_of rs f n) local rs q (λ r. and_true (has_key local q r) ∙ same_variable local rs known f n r)) in
    or_types rs x y (first_type t rs) (first_type (is_of rs f n) rs) first.0 second.0 first.1

-- One declaration more in a loop over all.

pub one_more : (test : Record → Bool) (local : ℕ → ℕ → Bool) (rs : List Record) (k n : ℕ) (r : Record) (es new all : Table) → k < length rs → r ≡ get_or rs k r → n ≡ k
    → new ≡ noted_if (test r) (key_of local r) n es → with_records test local k (drop k rs) es ≡ all → with_records test local (k + 1) (drop (k + 1) rs) new ≡ all
one_more test local rs k n r es new all within at number is before =
    ap (λ (x : Table). with_records test local (k + 1) (drop (k + 1) rs) x) is
    ∙ ap (λ (m : ℕ). with_records test local (k + 1) (drop (k + 1) rs) (noted_if (test r) (key_of local r) m es)) number
    ∙ ap (λ (y : Record). with_records test local (k + 1) (drop (k + 1) rs) (noted_if (test y) (key_of local y) k es)) at
    ∙ sym (at_drop_more (λ (xs : List Record). with_records test local k xs es) rs k r within)
    ∙ before
