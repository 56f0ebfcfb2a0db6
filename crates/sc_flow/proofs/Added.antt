-- What an expression adds to a graph stands in front of what was there, so it can be taken back.
use Rattle.std.proofs.Common.{◌≡◌, ℕ, ◌+◌, ◌-◌, Bool, true, false, List, [], ◌∷◌, ◌++◌, length, drop, append_assoc, refl, sym, ap, subst, ◌∙◌, arith}
use Rattle.std.specs.Prelude.{if◌then◌else◌, Option, Some, None}
use Rattle.std.proofs.lemmas.List.{length-append}
use Rattle.std.proofs.Math.Seq.{drop-append_seam}
use Rattle.sc_tree.specs.declared.op.BinaryOp.{BinaryOp}
use Rattle.sc_tree.specs.declared.op.UnaryOp.{UnaryOp}
use Rattle.sc_tree.specs.declared.op.UnaryOp.TheVariants as sign
use Rattle.sc_world.specs.Tree.{Exp, Comma, Assign, Cond, Binary, Cast, Unary, PreInc, PostInc, SizeofExpr, SizeofType, Index, Call, Field, Param, Local, Global, Function, Number, Str, Convert, Temp, TempPlace, Exps, NoExps, Exps', Ty}
use Rattle.sc_world.specs.Eval.{Want, Value, Place', is_logical, is_name}
use Rattle.flow_graph.specs.Nodes.{Node, Branch, Keep, CallOf, Update, Calling, Updating}
use Rattle.flow_graph.specs.Growing.{Growing, Build, ◌>>=◌, pure, put, fresh, numbers}
use Rattle.flow_graph.specs.Expressions.{Aim, Into, Test, Part, goal, kept, sides, logical, called, nothing, as_scalar, count, unroll, unroll_all, easy, first_test}
use Rattle.sc_flow.specs.Over.{over}
use Rattle.sc_flow.specs.Steps as steps
use Rattle.sc_flow.specs.Seen.{back}
use Rattle.sc_flow.proofs.Easy.{easy_is_kept, hard_is}

-- `r` has the nodes of `g` behind new ones, and its slots
pub record Adds (g r : Growing) : Type 0 where
  pub new : List Node
  pub nodes : r.nodes ≡ new ++ g.nodes
  pub slots : r.slots ≡ g.slots

-- a step that only adds
pub record Only {A : Type 0} (m : Build A) : Type 0 where
  pub by : (g : Growing) → Adds g (m g).1

both : (f g r : Growing) → Adds f g → Adds g r → Adds f r
both f g r a b = record {
  new = b.new ++ a.new;
  nodes = b.nodes ∙ (ap (λ ns. b.new ++ ns) a.nodes ∙ sym (append_assoc b.new a.new f.nodes));
  slots = b.slots ∙ a.slots;
}

chain : {A B : Type 0} (m : Build A) (f : A → Build B) → Only m → ((x : A) → Only (f x)) → Only (m >>= f)
chain m f a b = record { by = λ g. both g (m g).1 (f (m g).0 (m g).1).1 (a.by g) ((b (m g).0).by (m g).1) }

done : {A : Type 0} (a : A) → Only (pure a)
done a = record { by = λ g. record { new = []; nodes = refl; slots = refl } }

node : (n : Node) → Only (put n)
node n = record { by = λ g. record { new = n ∷ []; nodes = refl; slots = refl } }

temps : (n : ℕ) → Only (fresh n)
temps n = record { by = λ g. record { new = []; nodes = refl; slots = refl } }

goals : (aim : Aim) → Only (goal aim)
goals (Into want t next) = record { by = λ g. record { new = []; nodes = refl; slots = refl } }
goals (Test hit miss) = record { by = λ g. record { new = Branch g.temps hit miss ∷ []; nodes = refl; slots = refl } }

keeps : (e : Exp) (aim : Aim) → Only (kept e aim)
keeps e aim = chain (goal aim) (λ k. put (Keep k.want k.temp e k.next)) (goals aim) (λ k. node (Keep k.want k.temp e k.next))

ones : (whole : ℕ → Exp) (aim : Aim) → Only (steps.one whole aim)
ones whole aim = chain (goal aim) _ (goals aim) (λ k. chain (fresh 1) _ (temps 1) (λ x.
    chain (put (Keep k.want k.temp (whole x) k.next)) _ (node (Keep k.want k.temp (whole x) k.next)) (λ at.
    done (record { operand = x; next = at }))))

twos : (whole : ℕ → ℕ → Exp) (aim : Aim) → Only (steps.two whole aim)
twos whole aim = chain (goal aim) _ (goals aim) (λ k. chain (fresh 1) _ (temps 1) (λ x. chain (fresh 1) _ (temps 1) (λ y.
    chain (put (Keep k.want k.temp (whole x y) k.next)) _ (node (Keep k.want k.temp (whole x y) k.next)) (λ at.
    done (record { left = x; right = y; next = at })))))

threes : (u : Updating) (aim : Aim) → Only (steps.update u aim)
threes u aim = chain (goal aim) _ (goals aim) (λ k. chain (fresh 1) _ (temps 1) (λ x. chain (fresh 1) _ (temps 1) (λ y.
    chain (fresh 1) _ (temps 1) (λ z. chain (put (Update u k.want x y z k.temp k.next)) _ (node (Update u k.want x y z k.temp k.next))
    (λ at. done (record { place = x; former = y; right = z; next = at }))))))

callings : (c : Calling) (n : ℕ) (aim : Aim) → Only (steps.calls c n aim)
callings c n aim = chain (goal aim) _ (goals aim) (λ k. chain (fresh n) _ (temps n) (λ x.
    chain (put (CallOf c (numbers x n) k.temp k.next)) _ (node (CallOf c (numbers x n) k.temp k.next)) (λ at.
    done (record { operand = x; next = at }))))

-- The shapes of hard expressions.
with_one : (e : Exp) (want : Want) (a : Part) (aim : Aim) → ((aim : Aim) → Only (a aim)) → Only (steps.with_one e want a aim)
with_one e want a aim o = chain (steps.one (λ x. over e x 0) aim) _ (ones (λ x. over e x 0) aim) (λ s. o (Into want s.operand s.next))

with_two : (e : Exp) (left : Want) (a : Part) (right : Want) (b : Part) (aim : Aim) → ((aim : Aim) → Only (a aim))
    → ((aim : Aim) → Only (b aim)) → Only (steps.with_two e left a right b aim)
with_two e left a right b aim o p = chain (steps.two (over e) aim) _ (twos (over e) aim) (λ s.
    chain (b (Into right s.right s.next)) _ (p (Into right s.right s.next)) (λ second. o (Into left s.left second)))

with_update : (u : Updating) (a b : Part) (aim : Aim) → ((aim : Aim) → Only (a aim)) → ((aim : Aim) → Only (b aim))
    → Only (steps.with_update u a b aim)
with_update u a b aim o p = chain (steps.update u aim) _ (threes u aim) (λ s.
    chain (b (Into Value s.right s.next)) _ (p (Into Value s.right s.next)) (λ second.
    chain (steps.former u.ctype s.place s.former second) _ (node (Keep Value s.former (TempPlace s.place (as_scalar u.ctype)) second)) (λ before.
    o (Into Place' s.place before))))

assigns : (op : Option BinaryOp) (works : Ty) (x y : Exp) (t : Ty) (a b : Part) (aim : Aim) → ((aim : Aim) → Only (a aim))
    → ((aim : Aim) → Only (b aim)) → Only (steps.assign_hard op works x y t a b aim)
assigns None works x y t a b aim o p = with_two (Assign None works x y t) Place' a (steps.right_want t) b aim o p
assigns (Some op) works x y t a b aim o p = with_update (record { op = op; works = works; ctype = t }) a b aim o p

two_sides : (t : Ty) (aim : Aim) → Only (sides t aim)
two_sides t (Into want x next) =
    chain (put (Keep Value x (Number 1 t) next)) _ (node (Keep Value x (Number 1 t) next)) (λ hit.
    chain (put (Keep Value x (Number 0 t) next)) _ (node (Keep Value x (Number 0 t) next)) (λ miss.
    done (record { hit = hit; miss = miss })))
two_sides t (Test hit miss) = done (record { hit = hit; miss = miss })

logicals : (op : BinaryOp) (t : Ty) (a b : Part) (aim : Aim) → ((aim : Aim) → Only (a aim)) → ((aim : Aim) → Only (b aim))
    → Only (logical op t a b aim)
logicals op t a b aim o p = chain (sides t aim) _ (two_sides t aim) (λ c.
    chain (b (Test c.hit c.miss)) _ (p (Test c.hit c.miss)) (λ second. o (first_test op second c)))

binaries : (c : Bool) (op : BinaryOp) (x y : Exp) (t : Ty) (a b : Part) (aim : Aim) → ((aim : Aim) → Only (a aim))
    → ((aim : Aim) → Only (b aim))
    → Only ((if c then logical op t a b else steps.with_two (Binary op x y t) Value a Value b) aim)
binaries true op x y t a b aim o p = logicals op t a b aim o p
binaries false op x y t a b aim o p = with_two (Binary op x y t) Value a Value b aim o p

unaries : (op : UnaryOp) (x : Exp) (t : Ty) (a : Part) (aim : Aim) → ((aim : Aim) → Only (a aim))
    → Only (steps.unary_hard op x t a aim)
unaries sign.Address x t a aim o = chain (goal aim) _ (goals aim) (λ k. o (Into Place' k.temp k.next))
unaries sign.Deref x t a aim o = with_one (Unary sign.Deref x t) Value a aim o
unaries sign.Plus x t a aim o = with_one (Unary sign.Plus x t) Value a aim o
unaries sign.Minus x t a aim o = with_one (Unary sign.Minus x t) Value a aim o
unaries sign.Complement x t a aim o = with_one (Unary sign.Complement x t) Value a aim o
unaries sign.Not x t a aim o = with_one (Unary sign.Not x t) Value a aim o

callees : (c : Bool) (a : Part) (next : ℕ) → ((aim : Aim) → Only (a aim)) → Only (called c a next)
callees true a next o = done next
callees false a next o = chain (fresh 1) _ (temps 1) (λ x. o (Into Value x next))

-- An expression, by what it is made into where it is hard.
part : (e : Exp) (turn : ℕ) → ((aim : Aim) → Only (steps.hard e turn aim)) → (aim : Aim) → Only (unroll e turn aim)
part e turn h aim = record { by = λ g. chosen (easy e) refl g }
  where
    chosen : (c : Bool) → easy e ≡ c → (g : Growing) → Adds g (unroll e turn aim g).1
    chosen true is g = subst (λ (r : ℕ × Growing). Adds g r.1) (sym (easy_is_kept e turn aim g is)) ((keeps e aim).by g)
    chosen false is g = subst (λ (r : ℕ × Growing). Adds g r.1) (sym (hard_is e turn aim g is)) ((h aim).by g)

mutual
  pub hard_adds : (e : Exp) (turn : ℕ) (aim : Aim) → Only (steps.hard e turn aim)
  hard_adds (Comma a b t) turn aim = chain (unroll b turn aim) _ (part b turn (hard_adds b turn) aim) (λ at.
      chain (fresh 1) _ (temps 1) (λ x. part a turn (hard_adds a turn) (Into Value x at)))
  hard_adds (Assign o w a b t) turn aim =
      assigns o w a b t (unroll a turn) (unroll b turn) aim (part a turn (hard_adds a turn)) (part b turn (hard_adds b turn))
  hard_adds (Cond a b c t) turn aim = chain (unroll b turn aim) _ (part b turn (hard_adds b turn) aim) (λ hit.
      chain (unroll c turn aim) _ (part c turn (hard_adds c turn) aim) (λ miss. part a turn (hard_adds a turn) (Test hit miss)))
  hard_adds (Binary o a b t) turn aim =
      binaries (is_logical o) o a b t (unroll a turn) (unroll b turn) aim (part a turn (hard_adds a turn)) (part b turn (hard_adds b turn))
  hard_adds (Cast a t) turn aim = with_one (Cast a t) (steps.operand_want a) (unroll a turn) aim (part a turn (hard_adds a turn))
  hard_adds (Unary o a t) turn aim = unaries o a t (unroll a turn) aim (part a turn (hard_adds a turn))
  hard_adds (PreInc s a t) turn aim = with_one (PreInc s a t) Place' (unroll a turn) aim (part a turn (hard_adds a turn))
  hard_adds (PostInc s a t) turn aim = with_one (PostInc s a t) Place' (unroll a turn) aim (part a turn (hard_adds a turn))
  hard_adds (SizeofExpr a n t) turn aim = keeps (SizeofType n t) aim
  hard_adds (SizeofType n t) turn aim = keeps (SizeofType n t) aim
  hard_adds (Index a b t) turn aim =
      with_two (Index a b t) (steps.operand_want a) (unroll a turn) Value (unroll b turn) aim (part a turn (hard_adds a turn))
      (part b turn (hard_adds b turn))
  hard_adds (Call p f es t) turn aim = chain (steps.calls (record { place = p; callee = f; result = t; turn = turn }) (count es) aim) _
      (callings (record { place = p; callee = f; result = t; turn = turn }) (count es) aim) (λ s.
      chain (unroll_all es turn s.operand s.next) _ (all_add es turn s.operand s.next) (λ first.
      callees (is_name f) (unroll f turn) first (part f turn (hard_adds f turn))))
  hard_adds (Field a n arrow t) turn aim =
      with_one (Field a n arrow t) (steps.arrow_want arrow) (unroll a turn) aim (part a turn (hard_adds a turn))
  hard_adds (Param n t) turn aim = keeps (Param n t) aim
  hard_adds (Local n t) turn aim = keeps (Local n t) aim
  hard_adds (Global n t) turn aim = keeps (Global n t) aim
  hard_adds (Function n b t) turn aim = keeps (Function n b t) aim
  hard_adds (Number n t) turn aim = keeps (Number n t) aim
  hard_adds (Str p t) turn aim = keeps (Str p t) aim
  hard_adds (Convert a t) turn aim =
      with_one (Convert a t) (steps.operand_want a) (unroll a turn) aim (part a turn (hard_adds a turn))
  hard_adds (Temp n t) turn aim = keeps nothing aim
  hard_adds (TempPlace n t) turn aim =
      chain (goal aim) _ (goals aim) (λ k. chain (fresh 1) _ (temps 1) (λ x.
      chain (put (Keep k.want k.temp (TempPlace x t) k.next)) _ (node (Keep k.want k.temp (TempPlace x t) k.next)) (λ at.
      keeps nothing (Into Value x at))))

  all_add : (es : Exps) (turn x next : ℕ) → Only (unroll_all es turn x next)
  all_add NoExps turn x next = done next
  all_add (Exps' e es) turn x next = chain (unroll_all es turn (x + 1) next) _ (all_add es turn (x + 1) next) (λ at.
      part e turn (hard_adds e turn) (Into Value x at))

older : (g r : Growing) → Adds g r → drop (length r.nodes - length g.nodes) r.nodes ≡ g.nodes
older g r a =
    let long : length r.nodes ≡ length a.new + length g.nodes = ap length a.nodes ∙ length-append a.new g.nodes in
    let many : length r.nodes - length g.nodes ≡ length a.new = omega (arith, long) in
    ap (λ n. drop n r.nodes) many ∙ (ap (drop (length a.new)) a.nodes ∙ drop-append_seam a.new g.nodes)

back_to : (g r : Growing) → Adds g r → back (length g.nodes) g.temps r ≡ g
back_to g r a =
    ap (λ ns. record { nodes = ns; temps = g.temps; slots = r.slots }) (older g r a)
    ∙ ap (λ n. record { nodes = g.nodes; temps = g.temps; slots = n }) a.slots

-- What was made of an expression as if it were hard is taken back.
pub back_is : (e : Exp) (turn : ℕ) (aim : Aim) (g r : Growing) (at : ℕ) → (at, r) ≡ steps.hard e turn aim g
    → back (length g.nodes) g.temps r ≡ g
back_is e turn aim g r at made = ap (λ (s : ℕ × Growing). back (length g.nodes) g.temps s.1) made
    ∙ back_to g (steps.hard e turn aim g).1 ((hard_adds e turn aim).by g)
