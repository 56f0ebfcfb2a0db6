use Rattle.std.proofs.Common.{◌≡◌, ◌∙◌, ◌++◌, ◌∷◌, [], ℕ, List, String, map, string_bytes, ap, sym, append_assoc}
use Rattle.std.proofs.lemmas.List.{append-nil}
use Rattle.std.specs.declared.alloc.Global.{Global}
use Rattle.sc_base.specs.Names.{all_different}
use Rattle.name_interner.proofs.Interner.into_names.Goals as goal

-- one more text in the table is one text less that is left
moved : (table left new rest : List (String Global)) (text : String Global) (all : List (List ℕ)) → map string_bytes (table ++ left) ≡ all
    → left ≡ text ∷ rest → new ≡ table ++ text ∷ [] → map string_bytes (new ++ rest) ≡ all
moved table left new rest text all is some pushed =
    ap (λ ts. map string_bytes (ts ++ rest)) pushed ∙ ap (map string_bytes) (append_assoc table (text ∷ []) rest)
    ∙ ap (λ ts. map string_bytes (table ++ ts)) (sym some) ∙ is

-- where none is left, the table has all
whole : (table left : List (String Global)) (all : List (List ℕ)) → map string_bytes (table ++ left) ≡ all → left ≡ []
    → map string_bytes table ≡ all
whole table left all is none = ap (map string_bytes) (sym (ap (λ ts. table ++ ts) none ∙ append-nil table)) ∙ is

pub loop-text-init : goal.loop-text-init
loop-text-init c = rw (c.in_ok-table.ensures.items, c.into_iter-text-iterator.ensures.into_iter_gives.0) c.self.view_is

pub loop-text-preserved : goal.loop-text-preserved
loop-text-preserved c =
    moved c.loop-text.table.items c.loop-text.text-iterator c.push.new.self.items c.next.new.self c.in-Some.text c.args.self c.loop-text.invariant
    c.in-Some.ensures.steps c.in_ok-push.ensures.items

pub from_texts-requires : goal.from_texts-requires
from_texts-requires c =
    rw (whole c.loop-text.table.items c.loop-text.text-iterator c.args.self c.loop-text.invariant c.in-None.ensures.steps.0, ← c.self.view_is)
    c.self.invariant

pub returns : goal.returns
returns c =
    c.from_texts.ensures
    ∙ whole c.loop-text.table.items c.loop-text.text-iterator c.args.self c.loop-text.invariant c.in-None.ensures.steps.0
