-- A function is what its head names it, and what its words make of it.
use Rattle.std.proofs.Common.{◌≡◌, Bool, Result, subst, sym}
use Rattle.sc_base.specs.declared.pos.NameId.{NameId}
use Rattle.sc_base.specs.declared.pos.Pos.{Pos}
use Rattle.sc_tree.specs.declared.expr.Head.{Head, out-Head}
use Rattle.sc_tree.specs.declared.expr.Specs.{out-Specs}
use Rattle.sc_tree.specs.declared.unit.Body.{Body}
use Rattle.sc_typed.specs.declared.program.Function.{Function}
use Rattle.sc_rules.specs.declared.walk.Walk.{Walk}
use Rattle.sc_rules.specs.Gives.{Gives}
use Rattle.sc_declare.specs.Storage.{has_local}
use Rattle.sc_declarations.specs.Declarations.{name_of}
use Rattle.sc_typing.specs.Here.{Here}
use Rattle.sc_typing.specs.Typing.{heading}
use Rattle.sc_check.specs.Files.{function, function_named}

pub named_gives : {E : Type 0} (here : Here) (h : Head) (b : Body) (n : NameId × Pos) (l : Bool) (w : Walk)
    (r : Result Function E) (v : Walk)
    → n ≡ name_of (heading here h).name → l ≡ has_local (out-Specs (out-Head h).specs).storage
    → Gives (function_named here (heading here h) l b n w) r v
    → Gives (function here h b w) r v
named_gives here h b n l w r v same is given =
    subst (λ (k : Bool). Gives (function_named here (heading here h) k b (name_of (heading here h).name) w) r v) is
    (subst (λ (m : NameId × Pos). Gives (function_named here (heading here h) l b m w) r v) same given)
