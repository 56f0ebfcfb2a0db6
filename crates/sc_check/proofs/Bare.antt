-- A function whose body is passed over leaves of the walk what it leaves with its body.
use Rattle.std.proofs.Common.{◌≡◌, Bool, true, Option, None, List, [], Result, Ok, Err, OnOk, refl, sym, subst, ◌∙◌, ap}
use Rattle.sc_base.specs.declared.pos.Pos.{Pos}
use Rattle.sc_base.specs.declared.pos.NameId.{NameId}
use Rattle.sc_tree.specs.declared.ctype.CType.{CType}
use Rattle.sc_tree.specs.declared.expr.Head.{Head, out-Head}
use Rattle.sc_tree.specs.declared.expr.Specs.{out-Specs}
use Rattle.sc_tree.specs.declared.stmt.Stmt.{Stmt}
use Rattle.sc_tree.specs.declared.unit.Body.{Body}
use Rattle.sc_tree.specs.declared.unit.Body.TheVariants as body
use Rattle.sc_typed.specs.declared.stmt.TStmt.{TStmt}
use Rattle.scopes.specs.Frames.{Frames, kept, closed}
use Rattle.sc_rules.specs.declared.walk.Walk.{Walk}
use Rattle.sc_rules.specs.declared.walk.Tag.{Tag}
use Rattle.sc_rules.specs.Gives.{Gives}
use Rattle.sc_rules.specs.Walks.{Check, Scope, then_with, ◌>>=◌, done, open_scope, close_scope}
use Rattle.sc_declare.specs.Storage.{has_local}
use Rattle.sc_declare.specs.declared.functions.Parameter.{Parameter}
use Rattle.sc_files.specs.Functions.{finish_function}
use Rattle.sc_names.specs.declared.scope.Scope.{Scope as Closed}
use Rattle.sc_typing.specs.Here.{Here}
use Rattle.sc_typing.specs.declared.shapes.Own.{Own}
use Rattle.sc_typing.specs.declared.shapes.Shape.{Shape}
use Rattle.sc_typing.specs.Shapes.{Heading}
use Rattle.sc_typing.specs.Typing.{heading}
use Rattle.sc_declarations.specs.Declarations.{name_of}
use Rattle.sc_bodies.specs.Bodies.{Inside, stating}
use Rattle.sc_jumps.specs.Jumps.{Found, jumps, jumps_of}
use Rattle.plain_bodies.specs.Leaves.{HasTags, FaultAlone, InBlock, faultless, outside, is_open}
use Rattle.plain_bodies.specs.Plain.{plain_statement}
use Rattle.sc_check.specs.Files.{inside, body_in, head_judged, body_scoped, function_shaped, function_named, function, own_or, result_type}
use Rattle.sc_check.specs.Left.{unlocal, plain_body, end_left}
use Rattle.sc_check.proofs.Left.{step_left}

-- the laws of bodies that leave nothing behind, and of jumps
abbrev pub BodiesLaw : Type 0
BodiesLaw = (tags : Frames Tag) (here : Here) (s : Stmt) (i : Inside) → plain_statement tags s ≡ true → InBlock tags ((stating here s).bare i)

abbrev pub JumpsLaw : Type 0
JumpsLaw = (tags : Frames Tag) (j : Found) → FaultAlone tags (jumps_of j)

-- the tags that stand are those that stand
same_tags : (tags : Frames Tag) → HasTags tags tags
same_tags tags = record { has = λ k name h. h }

behind_left : {A B : Type 0} (r : A × Walk) (f : A → Check B) (tags : Frames Tag) (w : Walk) → outside r.1 ≡ outside w
    → tags ≡ w.tags → ((a : A) → FaultAlone tags (f a)) → outside (then_with r f).1 ≡ outside w
behind_left (a, v) f tags w is at rest =
    ap outside ((rest a).kept v (subst (λ (t : Frames Tag). HasTags tags t) (at ∙ sym (ap (λ (x : Walk). x.tags) is)) (same_tags tags))) ∙ is

done_left : {A B : Type 0} (r : A × Walk) (x : B) (v : Walk) → faultless r.1 ≡ faultless v
    → faultless (then_with r (λ u. done x)).1 ≡ faultless v
done_left (a, u) x v is = is

-- a body that leaves nothing behind, in a block
pub body_outside : BodiesLaw → JumpsLaw → (here : Here) (t : Option CType) (at : Pos) (b : Body) (w : Walk)
    → plain_body w.tags b ≡ true → is_open w.names.blocks ≡ true → outside w ≡ outside (body_in here t at b w).1
body_outside bodies found here t at (body.Skipped s) w plain block = refl
body_outside bodies found here t at (body.Tree s) w plain block =
    sym (behind_left ((stating here s).bare (inside t) w) (λ x. jumps_of (jumps s) >>= λ u. done x) w.tags w
    (((bodies w.tags here s (inside t) plain).kept w (same_tags w.tags) block).0) refl
    (λ x. record { kept = λ v has. done_left (jumps_of (jumps s) v) x v ((found w.tags (jumps s)).kept v has) }))

-- The scope of the parameters closes what it opened.

abbrev shut : Walk → Walk
shut w = record w { tags = closed w.tags }

shut_same : {A : Type 0} (r : A × Walk) (v : Walk) → outside v ≡ outside r.1
    → unlocal (close_scope v).1 ≡ unlocal (then_with r (λ a. close_scope >>= λ c. done a)).1
shut_same (a, u) v is = ap shut is

-- a walk over a body in the scope of the parameters, with another body or none
pub scoped_left : (here : Here) (s : Closed) (t : Option CType) (at : Pos) (b : Body) (w v : Walk)
    → outside v ≡ outside (body_in here t at b (open_scope (record { names = s.names; tags = s.tags }) w).1).1
    → unlocal (close_scope v).1 ≡ unlocal (body_scoped here s t at b w).1
scoped_left here s t at b w v is =
    shut_same (body_in here t at b (open_scope (record { names = s.names; tags = s.tags }) w).1) v is

-- the same of steps that are known to end in walks
pub scope_gives : (here : Here) (s : Closed) (t : Option CType) (at : Pos) (b : Body) (w u v e : Walk) (x : Unit {0}) (c : Scope)
    → open_scope (record { names = s.names; tags = s.tags }) w ≡ (x, u)
    → outside v ≡ outside (body_in here t at b u).1 → close_scope v ≡ (c, e)
    → unlocal e ≡ unlocal (body_scoped here s t at b w).1
scope_gives here s t at b w u v e x c opens is closes =
    ap (λ (p : Scope × Walk). unlocal p.1) (sym closes)
    ∙ scoped_left here s t at b w v
    (is ∙ ap (λ (p : Unit {0} × Walk). outside (body_in here t at b p.1).1) (sym opens))

pub is_opened : (s : Scope) (w u : Walk) (x : Unit {0}) → open_scope s w ≡ (x, u) → is_open u.names.blocks ≡ true
is_opened s w u x opens = subst (λ (p : Unit {0} × Walk). is_open p.1.names.blocks ≡ true) opens refl

-- the end of a function
abbrev ended : Walk → Walk
ended w = record w { names = kept w.names; tags = kept w.tags; completed = []; locals = []; first = None }

ended_left : (r : Option TStmt × Walk) (name : NameId) (at : Pos) (ps : List Parameter) (t : Option CType)
    → (then_with r (λ s. finish_function name at ps t s)).1 ≡ ended r.1
ended_left (s, u) name at ps t = refl

pub shaped_left : {E : Type 0} (here : Here) (name : NameId) (at : Pos) (l : Bool) (t : Option CType) (own : Own) (b : Body)
    (w u v : Walk) (x : Bool) (r : Result (Unit {0}) E) (e : Walk) → head_judged here name at l t own w ≡ (x, u)
    → unlocal v ≡ unlocal (body_scoped here own.scope (result_type t) at b u).1
    → Gives (end_left name at own.params v) r e
    → OnOk r (e ≡ (function_shaped here name at l t own b w).1)
shaped_left here name at l t own b w u v x (Err f) e judged is given = tt
shaped_left here name at l t own b w u v x (Ok y) e judged is given =
    step_left (end_left name at own.params v) y e given
    ∙ ap ended is
    ∙ sym (ended_left (body_scoped here own.scope (result_type t) at b u) name at own.params (result_type t))
    ∙ sym (ap (λ (p : Bool × Walk). (then_with p (λ z. body_scoped here own.scope (result_type t) at b >>= λ s. finish_function name at own.params (result_type t) s)).1) judged)

pub named_left : {E : Type 0} (here : Here) (h : Heading) (l : Bool) (b : Body) (name : NameId) (at : Pos) (w u : Walk) (s : Shape)
    (r : Result (Unit {0}) E) (e : Walk) → h.run at w ≡ (s, u)
    → OnOk r (e ≡ (function_shaped here name at l s.ctype (own_or s.own) b u).1)
    → OnOk r (e ≡ (function_named here h l b (name, at) w).1)
named_left here h l b name at w u s (Err f) e made is = tt
named_left here h l b name at w u s (Ok y) e made is =
    is ∙ sym (ap (λ (p : Shape × Walk). (then_with p (λ z. function_shaped here name at l z.ctype (own_or z.own) b)).1) made)

-- A function is what its head names it, and what its words make of it.
pub function_left : {E : Type 0} (here : Here) (h : Head) (b : Body) (n : NameId × Pos) (l : Bool) (w : Walk)
    (r : Result (Unit {0}) E) (e : Walk) → n ≡ name_of (heading here h).name
    → l ≡ has_local (out-Specs (out-Head h).specs).storage
    → OnOk r (e ≡ (function_named here (heading here h) l b n w).1) → OnOk r (e ≡ (function here h b w).1)
function_left here h b n l w r e same is given =
    subst (λ (k : Bool). OnOk r (e ≡ (function_named here (heading here h) k b (name_of (heading here h).name) w).1)) is
    (subst (λ (m : NameId × Pos). OnOk r (e ≡ (function_named here (heading here h) l b m w).1)) same given)
