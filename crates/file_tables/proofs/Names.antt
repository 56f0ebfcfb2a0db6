-- A name has its own meaning in a file only where the file has a body or a `static` variable of that name.
use Rattle.std.proofs.Common.{◌≡◌, ℕ, ◌+◌, nat_eq, Bool, true, false, not, ◌&&◌, ◌||◌, Option, Some, None, List, [], ◌∷◌, ◌++◌, map, if◌then◌else◌, cond, refl, sym, ◌∙◌, ap}
use Rattle.std.proofs.lemmas.Bool.{false≢true}
use Rattle.std.proofs.lemmas.List.Folds.{list_any-append}
use Rattle.std.specs.List.{list_any}
use Rattle.sc_tree.specs.declared.ctype.CType.{CType}
use Rattle.sc_tree.specs.declared.ctype.Widths.{Widths}
use Rattle.sc_typed.specs.declared.program.StructDef.{StructDef}
use Rattle.sc_rules.specs.declared.walk.Record.{Record}
use Rattle.sc_program.specs.declared.bodies.Bodied.{Bodied}
use Rattle.sc_program.specs.Firsts.{or_else, number_where}
use Rattle.sc_program.specs.Bodies.{is_in_file, is_external, body_named}
use Rattle.sc_program.specs.Globals.{is_local_global, is_of, has_settled, first_type, type_over_all}
use Rattle.file_tables.specs.Filled.{Meaning, is_among, own_names, IsSameElsewhere}
use Rattle.file_tables.specs.Own.{body_name, record_name, own_bodies, own_records, names_of_bodies, names_of_records}

-- Names that are among two lists.

first_not : (a b : Bool) → (a || b) ≡ false → a ≡ false
first_not true b never = absurd (false≢true (sym never))
first_not false b never = refl

second_not : (a b : Bool) → (a || b) ≡ false → b ≡ false
second_not true b never = absurd (false≢true (sym never))
second_not false b never = never

parts_not : (n : ℕ) (xs ys zs : List ℕ) → zs ≡ xs ++ ys → is_among n zs ≡ false → (is_among n xs || is_among n ys) ≡ false
parts_not n xs ys zs is never = sym (list_any-append (λ m. nat_eq m n) xs ys) ∙ sym (ap (λ (z : List ℕ). is_among n z) is) ∙ never

-- Bodies.

not_first : (c e : Bool) (name : ℕ) (rest : List ℕ) (n k : ℕ) (x : Option ℕ) → nat_eq name n ≡ e → is_among n (if c then name ∷ rest else rest) ≡ false
    → (is_among n rest ≡ false → x ≡ None) → (if e && c then Some k else x) ≡ None
not_first true true name rest n k x is none later = let never : true ≡ false = rw is at none in absurd (false≢true (sym never))
not_first true false name rest n k x is none later = later (rw is at none)
not_first false true name rest n k x is none later = later none
not_first false false name rest n k x is none later = later none

not_in_file : (bs : List Bodied) (f n k : ℕ) → is_among n (own_bodies f bs) ≡ false → number_where (is_in_file f n) k bs ≡ None
not_in_file [] f n k none = refl
not_in_file (b ∷ bs) f n k none =
    not_first (nat_eq b.file f) (nat_eq b.name n) b.name (own_bodies f bs) n k (number_where (is_in_file f n) (k + 1) bs) refl none (not_in_file bs f n (k + 1))

pub body_elsewhere : (bs : List Bodied) (f g n : ℕ) → is_among n (own_bodies f bs) ≡ false → is_among n (own_bodies g bs) ≡ false → body_named bs f n ≡ body_named bs g n
body_elsewhere bs f g n here there =
    ap (λ x. or_else x (number_where (is_external n) 0 bs)) (not_in_file bs f n 0 here ∙ sym (not_in_file bs g n 0 there))

none_by : (e : Bool) (k : ℕ) (x : Option ℕ) → e ≡ false → x ≡ None → (if e then Some k else x) ≡ None
none_by true k x never rest = absurd (false≢true (sym never))
none_by false k x never rest = rest

no_number : (test : Bodied → Bool) (bs : List Bodied) (n k : ℕ) → ((b : Bodied) → nat_eq b.name n ≡ false → test b ≡ false) → is_among n (names_of_bodies bs) ≡ false → number_where test k bs ≡ None
no_number test [] n k by none = refl
no_number test (b ∷ bs) n k by none =
    none_by (test b) k (number_where test (k + 1) bs) (by b (first_not (nat_eq b.name n) (is_among n (names_of_bodies bs)) none))
    (no_number test bs n (k + 1) by (second_not (nat_eq b.name n) (is_among n (names_of_bodies bs)) none))

and_not : (a b : Bool) → a ≡ false → (a && b) ≡ false
and_not true b never = absurd (false≢true (sym never))
and_not false b never = refl

pub no_body : (bs : List Bodied) (f n : ℕ) → is_among n (names_of_bodies bs) ≡ false → body_named bs f n ≡ None
no_body bs f n none =
    ap (λ x. or_else x (number_where (is_external n) 0 bs)) (no_number (is_in_file f n) bs n 0 (λ b never. and_not (nat_eq b.name n) (nat_eq b.file f) never) none)
    ∙ no_number (is_external n) bs n 0 (λ b never. and_not (nat_eq b.name n) (not b.local) never) none

-- Names that are local.

not_static : (c s e : Bool) (name : ℕ) (rest : List ℕ) (n : ℕ) (x : Bool) → nat_eq name n ≡ e → is_among n (if c && s then name ∷ rest else rest) ≡ false
    → (is_among n rest ≡ false → x ≡ false) → ((c && (e && s)) || x) ≡ false
not_static true true true name rest n x is none later = let never : true ≡ false = rw is at none in absurd (false≢true (sym never))
not_static true true false name rest n x is none later = later (rw is at none)
not_static true false true name rest n x is none later = later none
not_static true false false name rest n x is none later = later none
not_static false s e name rest n x is none later = later none

pub not_local : (rs : List Record) (f n : ℕ) → is_among n (own_records f rs) ≡ false → is_local_global rs f n ≡ false
not_local [] f n none = refl
not_local (r ∷ rs) f n none =
    not_static (nat_eq r.file f) r.is_static (nat_eq r.name.at n) r.name.at (own_records f rs) n (is_local_global rs f n) refl none (not_local rs f n)

pub local_elsewhere : (rs : List Record) (f g n : ℕ) → is_among n (own_records f rs) ≡ false → is_among n (own_records g rs) ≡ false → is_local_global rs f n ≡ is_local_global rs g n
local_elsewhere rs f g n here there = not_local rs f n here ∙ sym (not_local rs g n there)

not_named : (c s e x : Bool) → e ≡ false → x ≡ false → ((c && (e && s)) || x) ≡ false
not_named true s e x never rest = rw never rest
not_named false s e x never rest = rest

pub no_local : (rs : List Record) (f n : ℕ) → is_among n (names_of_records rs) ≡ false → is_local_global rs f n ≡ false
no_local [] f n none = refl
no_local (r ∷ rs) f n none =
    not_named (nat_eq r.file f) r.is_static (nat_eq r.name.at n) (is_local_global rs f n) (first_not (nat_eq r.name.at n) (is_among n (names_of_records rs)) none)
    (no_local rs f n (second_not (nat_eq r.name.at n) (is_among n (names_of_records rs)) none))

-- Types of variables.

abbrev is_of_as : Bool → List Record → ℕ → ℕ → Record → Bool
is_of_as b rs f n r = nat_eq r.name.at n && (if b then nat_eq r.file f else not (is_local_global rs r.file n))

abbrev type_as : Bool → Widths → List StructDef → List Record → ℕ → ℕ → Option CType
type_as b w structs rs f n = or_else (first_type (λ r. is_of_as b rs f n r && has_settled w structs r) rs) (first_type (is_of_as b rs f n) rs)

type_shared : (w : Widths) (structs : List StructDef) (rs : List Record) (f n : ℕ) → is_among n (own_records f rs) ≡ false → type_over_all w structs rs f n ≡ type_as false w structs rs 0 n
type_shared w structs rs f n here = ap (λ (b : Bool). type_as b w structs rs f n) (not_local rs f n here)

pub type_elsewhere : (w : Widths) (structs : List StructDef) (rs : List Record) (f g n : ℕ) → is_among n (own_records f rs) ≡ false → is_among n (own_records g rs) ≡ false
    → type_over_all w structs rs f n ≡ type_over_all w structs rs g n
type_elsewhere w structs rs f g n here there = type_shared w structs rs f n here ∙ sym (type_shared w structs rs g n there)

no_type_by : (e : Bool) (t : CType) (x : Option CType) → e ≡ false → x ≡ None → (if e then Some t else x) ≡ None
no_type_by true t x never rest = absurd (false≢true (sym never))
no_type_by false t x never rest = rest

no_first : (test : Record → Bool) (rs : List Record) (n : ℕ) → ((r : Record) → nat_eq r.name.at n ≡ false → test r ≡ false) → is_among n (names_of_records rs) ≡ false → first_type test rs ≡ None
no_first test [] n by none = refl
no_first test (r ∷ rs) n by none =
    no_type_by (test r) r.ctype (first_type test rs) (by r (first_not (nat_eq r.name.at n) (is_among n (names_of_records rs)) none))
    (no_first test rs n by (second_not (nat_eq r.name.at n) (is_among n (names_of_records rs)) none))

pub no_type : (w : Widths) (structs : List StructDef) (rs : List Record) (f n : ℕ) → is_among n (names_of_records rs) ≡ false → type_over_all w structs rs f n ≡ None
no_type w structs rs f n none =
    let of_it : (r : Record) → nat_eq r.name.at n ≡ false → is_of rs f n r ≡ false = λ r never. and_not (nat_eq r.name.at n) (if is_local_global rs f n then nat_eq r.file f else not (is_local_global rs r.file n)) never in
    ap (λ x. or_else x (first_type (is_of rs f n) rs)) (no_first (λ r. is_of rs f n r && has_settled w structs r) rs n (λ r never. and_not (is_of rs f n r) (has_settled w structs r) (of_it r never)) none)
    ∙ no_first (is_of rs f n) rs n of_it none

-- What is the same by the definition is the same by a table that says what the definition does.

pub same_elsewhere : {A : Type 0} (own : List (List ℕ)) (bs : List Bodied) (rs : List Record) (means due : Meaning A) → ((f : ℕ) → own_names own f ≡ own_bodies f bs ++ own_records f rs)
    → ((f n : ℕ) → means f n ≡ due f n)
    → ((f g n : ℕ) → is_among n (own_bodies f bs) ≡ false → is_among n (own_records f rs) ≡ false → is_among n (own_bodies g bs) ≡ false → is_among n (own_records g rs) ≡ false → due f n ≡ due g n)
    → IsSameElsewhere own means
same_elsewhere own bs rs means due owns is same = λ f g n here there.
    let a = parts_not n (own_bodies f bs) (own_records f rs) (own_names own f) (owns f) here in
    let b = parts_not n (own_bodies g bs) (own_records g rs) (own_names own g) (owns g) there in
    is f n
    ∙ same f g n (first_not (is_among n (own_bodies f bs)) (is_among n (own_records f rs)) a) (second_not (is_among n (own_bodies f bs)) (is_among n (own_records f rs)) a)
    (first_not (is_among n (own_bodies g bs)) (is_among n (own_records g rs)) b) (second_not (is_among n (own_bodies g bs)) (is_among n (own_records g rs)) b)
    ∙ sym (is g n)
