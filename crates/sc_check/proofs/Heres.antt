-- What stays the same on the way through a file is one where each of its tables says the same of every name.
use Rattle.std.proofs.Common.{◌≡◌, ℕ, zero, suc, Bool, Option, None, List, [], refl, ◌∙◌, ap}
use Rattle.std.proofs.Math.Path.{fun_ext}
use Rattle.std.specs.Prelude.{slice_index_or}
use Rattle.sc_tree.specs.declared.ctype.CType.{CType}
use Rattle.sc_tree.specs.declared.ctype.Widths.{Widths}
use Rattle.sc_typed.specs.declared.program.StructDef.{StructDef}
use Rattle.sc_rules.specs.declared.walk.Walk.{Walk}
use Rattle.sc_rules.specs.declared.walk.Record.{Record}
use Rattle.sc_rules.specs.declared.walk.Builtin.{Builtin}
use Rattle.sc_program.specs.declared.bodies.Bodied.{Bodied}
use Rattle.sc_program.specs.Bodies.{body_named}
use Rattle.sc_program.specs.Globals.{is_local_global, type_over_all}
use Rattle.sc_typing.specs.Here.{Here}
use Rattle.file_tables.specs.declared.tables.FileTables.{FileTables}
use Rattle.file_tables.specs.Linkage.{body, is_local, global_type, file_of, AreTurned}
use Rattle.sc_check.specs.Heres.{entry_of, alone_here, linked_here, known_here}
use Rattle.sc_check.specs.Typed.{Sources, builtin_named, first_here, second_here}

abbrev here_with :
    Widths → (file : ℕ) → (settled : Bool) → (ℕ → Option Builtin) → (ℕ → Option ℕ) → (ℕ → Bool) → (ℕ → Option CType)
    → Here
here_with w f s b x l t =
    record { widths = w; file = f; builtin = b; body = x; is_local = l; settled = s; global_type = t }

pub same_here : (w : Widths) (f : ℕ) (s : Bool) (b c : ℕ → Option Builtin) (x y : ℕ → Option ℕ) (l m : ℕ → Bool)
    (t u : ℕ → Option CType) → ((n : ℕ) → b n ≡ c n) → ((n : ℕ) → x n ≡ y n) → ((n : ℕ) → l n ≡ m n)
    → ((n : ℕ) → t n ≡ u n) → here_with w f s b x l t ≡ here_with w f s c y m u
same_here w f s b c x y l m t u bs xs ls ts =
    ap (λ (z : ℕ → Option Builtin). here_with w f s z x l t) (fun_ext bs)
    ∙ ap (λ (z : ℕ → Option ℕ). here_with w f s c z l t) (fun_ext xs)
    ∙ ap (λ (z : ℕ → Bool). here_with w f s c y z t) (fun_ext ls)
    ∙ ap (λ (z : ℕ → Option CType). here_with w f s c y m z) (fun_ext ts)

-- a table without entries
pub entry_of_none : {A : Type 0} (none : A) (n : ℕ) → slice_index_or [] n none ≡ none
entry_of_none none zero = refl
entry_of_none none (suc n) = refl

pub alone_is : (s : Sources) (builtins : List (Option Builtin))
    → ((n : ℕ) → entry_of builtins n ≡ builtin_named s n) → alone_here s.widths builtins ≡ first_here s
alone_is s builtins is = fun_ext (λ f.
    same_here s.widths f _ (entry_of builtins) (builtin_named s) _ _ _ _ _ _ is (λ n. refl) (λ n. refl) (λ n. refl))

pub known_is : (s : Sources) (v : Walk) (bodies : List Bodied) (builtins : List (Option Builtin))
    → ((n : ℕ) → entry_of builtins n ≡ builtin_named s n)
    → known_here s.widths builtins v.structs v.records bodies ≡ second_here s v bodies
known_is s v bodies builtins is = fun_ext (λ f.
    same_here s.widths f _ (entry_of builtins) (builtin_named s) _ _ _ _ _ _ is (λ n. refl) (λ n. refl) (λ n. refl))

pub linked_is : (w : Widths) (builtins : List (Option Builtin)) (structs : List StructDef) (records : List Record)
    (bodies : List Bodied) (t : FileTables) → ((f n : ℕ) → body t f n ≡ body_named bodies f n)
    → ((f n : ℕ) → is_local t f n ≡ is_local_global records f n)
    → ((f n : ℕ) → global_type t f n ≡ type_over_all w structs records f n)
    → linked_here w builtins t ≡ known_here w builtins structs records bodies
linked_is w builtins structs records bodies t b l g = fun_ext (λ f.
    same_here w f _ (entry_of builtins) (entry_of builtins) _ _ _ _ _ _ (λ n. refl) (b f) (l f) (g f))

-- the tables of two files that mean the same
pub turned_is : (w : Widths) (builtins : List (Option Builtin)) (t u : FileTables) → body t ≡ body u
    → is_local t ≡ is_local u → global_type t ≡ global_type u → linked_here w builtins t ≡ linked_here w builtins u
turned_is w builtins t u b l g = fun_ext (λ f.
    same_here w f _ (entry_of builtins) (entry_of builtins) _ _ _ _ _ _ (λ n. refl)
    (λ n. ap (λ (x : ℕ → ℕ → Option ℕ). x f n) b) (λ n. ap (λ (x : ℕ → ℕ → Bool). x f n) l)
    (λ n. ap (λ (x : ℕ → ℕ → Option CType). x f n) g))

-- the tables that were turned to a file say what the names mean in it
pub turned_here : (w : Widths) (builtins : List (Option Builtin)) (t u : FileTables) (f : ℕ) → AreTurned t f u
    → linked_here w builtins u (file_of u) ≡ linked_here w builtins t f
turned_here w builtins t u f is =
    ap (λ (g : ℕ). linked_here w builtins u g) is.at_hand
    ∙ ap (λ (heres : ℕ → Here). heres f) (turned_is w builtins u t is.same_bodies is.same_locals is.same_types)
