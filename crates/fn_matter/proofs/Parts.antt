-- The parts of a function, back from their tree.
use Rattle.std.proofs.Common.{◌≡◌, ℕ, List, [], ◌∷◌, ◌++◌, map, refl, sym, ap, ◌∙◌}
use Rattle.std.specs.Prelude.{Bool, Option, Some, None, slice_index_or}
use Rattle.sc_base.specs.declared.pos.NameId.{NameId}
use Rattle.sc_tree.specs.declared.ctype.CType.{CType}
use Rattle.sc_typed.specs.declared.program.Program.{Program}
use Rattle.sc_typed.specs.declared.program.Param.{Param}
use Rattle.sc_typed.specs.declared.program.Global.{Global}
use Rattle.sc_typed.specs.declared.program.Extent.{Extent}
use Rattle.sc_typed.specs.declared.program.FieldDef.{FieldDef}
use Rattle.sc_typed.specs.declared.program.StructDef.{StructDef}
use Rattle.sc_typed.specs.declared.program.TBody.{TBody}
use Rattle.sc_typed.specs.declared.program.TBody.TheVariants as body
use Rattle.fn_matter.specs.Words.{Tree, Trees, node, none, more, trees, words}
use Rattle.fn_matter.specs.Matter.{CallPart, Parts, body_tree, param_tree, field_tree, fields_trees, struct_tree, global_tree, call_tree, parts_tree, tables_tree, tables}
use Rattle.fn_matter.proofs.Codes.{nth, flag_back, flag_same, optional_back, optional_same, pos_back, tail, skip_back, skip_same, widths_back, widths_same}
use Rattle.fn_matter.proofs.TypeTrees.{type_back, type_same, types_back, types_same, rest_types}
use Rattle.fn_matter.proofs.ExpTrees.{type_at}
use Rattle.fn_matter.proofs.StmTrees.{part, stm_at, stms_back, stm_same}
use Rattle.fn_matter.proofs.Reading.{read}

abbrev body_back : Tree → TBody
body_back (node k ns ts) =
    slice_index_or (body.Tree (stm_at (stms_back ts) 0) ∷ body.Skipped (skip_back ns) ∷ []) k (body.Skipped (skip_back ns))

body_same : (x : TBody) → body_back (body_tree x) ≡ x
body_same (body.Tree s) = λ i. body.Tree (stm_same s i)
body_same (body.Skipped s) = λ i. body.Skipped (skip_same s i)

abbrev param_back : Tree → Param
param_back (node k ns ts) = record { name = record { at = nth ns 0 }; ctype = type_at (types_back ts) 0 }

param_same : (x : Param) → param_back (param_tree x) ≡ x
param_same x = λ i. record { name = x.name; ctype = type_same x.ctype i }

abbrev field_back : Tree → FieldDef
field_back (node k ns ts) =
    record {
      name = slice_index_or (None ∷ Some (record { at = nth ns 0 }) ∷ []) k None;
      ctype = type_at (types_back ts) 0;
      bits = slice_index_or (optional_back ns ∷ optional_back (tail ns) ∷ []) k None;
    }

field_by : (n : Option NameId) (t : CType) (b : Option ℕ)
    → field_back (field_tree (record { name = n; ctype = t; bits = b })) ≡ record { name = n; ctype = t; bits = b }
field_by None t b = λ i. record { name = None; ctype = type_same t i; bits = optional_same b i }
field_by (Some n) t b = λ i. record { name = Some n; ctype = type_same t i; bits = optional_same b i }

field_same : (x : FieldDef) → field_back (field_tree x) ≡ x
field_same x = field_by x.name x.ctype x.bits

-- each tree of a list
abbrev each_back : {A : Type 0} → (Tree → A) → Trees → List A
each_back f none = []
each_back f (more t ts) = f t ∷ each_back f ts

each_same : {A : Type 0} (f : Tree → A) (g : A → Tree) → ((a : A) → f (g a) ≡ a) → (xs : List A) → each_back f (trees (map g xs)) ≡ xs
each_same f g e [] = refl
each_same f g e (x ∷ xs) = λ i. e x i ∷ each_same f g e xs i

abbrev fields_back : Tree → Option (List FieldDef)
fields_back (node k ns ts) = slice_index_or (None ∷ Some (each_back field_back ts) ∷ []) k None

fields_same : (x : Option (List FieldDef)) → fields_back (fields_trees x) ≡ x
fields_same None = refl
fields_same (Some fs) = λ i. Some (each_same field_back field_tree field_same fs i)

abbrev extent_back : List ℕ → Option Extent
extent_back (n ∷ u ∷ size ∷ align ∷ ns) = Some (record { size = size; align = align })
extent_back _ = None

abbrev struct_back : Tree → ℕ × StructDef
struct_back (node k ns ts) =
    (nth ns 0, record { union = flag_back (nth ns 1); fields = fields_back (part ts 0); extent = extent_back ns })

struct_by : (n : ℕ) (u : Bool) (fs : Option (List FieldDef)) (e : Option Extent)
    → struct_back (struct_tree (n, record { union = u; fields = fs; extent = e })) ≡ (n, record { union = u; fields = fs; extent = e })
struct_by n u fs None = λ i. (n, record { union = flag_same u i; fields = fields_same fs i; extent = None })
struct_by n u fs (Some e) = λ i. (n, record { union = flag_same u i; fields = fields_same fs i; extent = Some e })

struct_same : (x : ℕ × StructDef) → struct_back (struct_tree x) ≡ x
struct_same x = struct_by x.0 x.1.union x.1.fields x.1.extent

abbrev behind_two : List ℕ → List ℕ
behind_two (a ∷ b ∷ ns) = ns
behind_two _ = []

abbrev global_back : Tree → ℕ × Global
global_back (node k ns ts) =
    (nth ns 0, record { name = record { at = nth ns 1 }; ctype = type_at (types_back ts) 0; file = optional_back (behind_two ns) })

global_same : (x : ℕ × Global) → global_back (global_tree x) ≡ x
global_same x = λ i. (x.0, record { name = x.1.name; ctype = type_same x.1.ctype i; file = optional_same x.1.file i })

abbrev call_back : Tree → CallPart
call_back (node k ns ts) =
    record {
      number = nth ns 0;
      params = rest_types (types_back ts);
      result = type_at (types_back ts) 0;
      file = nth ns 1;
      kept = flag_back (nth ns 2);
    }

call_same : (x : CallPart) → call_back (call_tree x) ≡ x
call_same x = λ i. record {
  number = x.number;
  params = types_same x.params i;
  result = type_same x.result i;
  file = x.file;
  kept = flag_same x.kept i;
}

abbrev list_back : {A : Type 0} → (Tree → A) → Tree → List A
list_back f (node k ns ts) = each_back f ts

abbrev parts_back : Tree → Parts
parts_back (node k ns ts) =
    record {
      body = body_back (part ts 0);
      name = record { at = nth ns 0 };
      place = pos_back ns 2 3 4;
      params = list_back param_back (part ts 1);
      result = type_back (part ts 2);
      locals = list_back param_back (part ts 3);
      structs = list_back struct_back (part ts 4);
      globals = list_back global_back (part ts 5);
      calls = list_back call_back (part ts 6);
      widths = widths_back (nth ns 1);
    }

parts_same : (x : Parts) → parts_back (parts_tree x) ≡ x
parts_same x = λ i. record {
  body = body_same x.body i;
  name = x.name;
  place = x.place;
  params = each_same param_back param_tree param_same x.params i;
  result = type_same x.result i;
  locals = each_same param_back param_tree param_same x.locals i;
  structs = each_same struct_back struct_tree struct_same x.structs i;
  globals = each_same global_back global_tree global_same x.globals i;
  calls = each_same call_back call_tree call_same x.calls i;
  widths = widths_same x.widths i;
}

-- equal lists have equal parts
pub told_apart : (x y : Parts) → words (parts_tree x) ≡ words (parts_tree y) → x ≡ y
told_apart x y e =
    sym (parts_same x) ∙ (ap parts_back (read (parts_tree x) (parts_tree y) [] [] (ap (λ (ws : List ℕ). ws ++ []) e)).tree ∙ parts_same y)

-- Tables.

abbrev nth_part : Tree → ℕ → Tree
nth_part (node k ns ts) j = part ts j

abbrev alone_back : Tree → StructDef
alone_back t = (struct_back t).1

alone_same : (s : StructDef) → alone_back (struct_tree (0, s)) ≡ s
alone_same s = λ i. (struct_same (0, s) i).1

abbrev variable_back : Tree → Global
variable_back t = (global_back t).1

variable_same : (g : Global) → variable_back (global_tree (0, g)) ≡ g
variable_same g = λ i. (global_same (0, g) i).1

structs_same : (p : Program) → list_back alone_back (nth_part (tables_tree p) 0) ≡ p.structs
structs_same p = each_same alone_back (λ (s : StructDef). struct_tree (0, s)) alone_same p.structs

globals_same : (p : Program) → list_back variable_back (nth_part (tables_tree p) 1) ≡ p.globals
globals_same p = each_same variable_back (λ (g : Global). global_tree (0, g)) variable_same p.globals

pub tables_told : (p q : Program) → tables p ≡ tables q → (p.structs ≡ q.structs) × (p.globals ≡ q.globals)
tables_told p q e =
    let t = (read (tables_tree p) (tables_tree q) [] [] (ap (λ (ws : List ℕ). ws ++ []) e)).tree in (
      sym (structs_same p) ∙ (ap (λ (u : Tree). list_back alone_back (nth_part u 0)) t ∙ structs_same q),
      sym (globals_same p) ∙ (ap (λ (u : Tree). list_back variable_back (nth_part u 1)) t ∙ globals_same q),
    )
