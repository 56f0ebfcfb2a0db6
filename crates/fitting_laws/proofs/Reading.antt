-- What the text of a function names is found, and what is found stays found.
use Rattle.std.proofs.Common.{inl, inr, ◌≡◌, ◌⊎◌, ℕ, ◌+◌, Bool, true, false, ◌||◌, List, [], ◌∷◌, ◌++◌, refl, sym, ap, subst, ◌∙◌, nat_eq}
use Rattle.std.specs.Prelude.{Option, Some, None, Ok, Err, nat_le, if◌then◌else◌}
use Rattle.std.specs.List.{list_any}
use Rattle.sc_base.specs.declared.pos.Pos.{Pos}
use Rattle.sc_base.specs.declared.pos.NameId.{NameId}
use Rattle.sc_base.specs.declared.skip.LimitKind.TheVariants as limit
use Rattle.sc_typed.specs.declared.stmt.Declared.{Declared}
use Rattle.sc_typed.specs.declared.stmt.Declared.TheVariants as declared
use Rattle.sum_rows.specs.declared.path.Path.{Path}
use Rattle.sum_rows.specs.declared.path.Root.{Root}
use Rattle.sum_rows.specs.declared.path.Root.TheVariants as root
use Rattle.sum_rows.specs.declared.path.Step.{Step}
use Rattle.sum_rows.specs.declared.path.Step.TheVariants as step
use Rattle.sum_rows.specs.declared.row.Item.{Item}
use Rattle.sum_rows.specs.declared.row.Item.TheVariants as item
use Rattle.sum_rows.specs.declared.row.ItemRows.{ItemRows}
use Rattle.sum_rows.specs.declared.row.Summary.{Summary}
use Rattle.sum_rows.specs.declared.row.Write.{Write}
use Rattle.sc_tree.specs.declared.expr.Place.{Place}
use Rattle.sc_world.specs.declared.run.Origin.{Origin}
use Rattle.sc_world.specs.declared.run.Origin.TheVariants as origin
use Rattle.sc_world.specs.Tree.{Ty, target, Exp, Comma, Assign, Cond, Binary, Cast, Unary, PreInc, PostInc, SizeofExpr, SizeofType, Index, Call, Field, Param, Local, Global, Function, Number, Str, Convert, Temp, TempPlace, Exps, NoExps, Exps', Given, Init, NoInit, One, Braces, Dec, Start, NoStart, Begin, Declare, Stm, Block, Decl, Evaluate, If, IfElse, While, Do, For, Switch, Case, Default, Goto, Break, Continue, Return, Label, Stms, NoStms, Stms'}
use Rattle.sc_world.specs.Build.{Built, goes_on, ◌>>=◌, done}
use Rattle.sc_world.specs.Source.{Source, effect}
use Rattle.sc_world.specs.Gather.{Found, Site, Gathering, Stands, Plain, Named, GivenAs, Round, within, tested, nodes, most_nodes, field_name, global, literal, is_function, same_name, function_value, function_name, is_later, with_site, call_site, object_of, as_given, gather, gather_all, gather_items, gather_init, gather_declared, gather_declarators, gather_if, gather_start, gather_stm, gather_stms, gather_steps, gather_root, gather_path, gather_item, gather_summary_items, gather_writes, gather_sum, gather_sums, once, gather_function, nothing_found}
use Rattle.sc_world.specs.Objects.{is_named}
use Rattle.layout_laws.specs.Origins.{IsAmong, found_in}
use Rattle.fitting_laws.specs.Found.{HasCall, IfValue, IsFound, AllFound, FoundIf, ItemsFound, InitFound, DeclaratorsFound, StartFound, StatementFound, StatementsFound}
use Rattle.fitting_laws.proofs.Finding.{clash, number_same, number_is}

-- what is found stays found
pub record Grows (f g : Found) : Type 0 where
  pub fields : (n : NameId) → is_named f n ≡ true → is_named g n ≡ true
  pub globals : (n : ℕ) → list_any (nat_eq n) f.globals ≡ true → list_any (nat_eq n) g.globals ≡ true
  pub literals : (o : Origin) → IsAmong o f.literals → IsAmong o g.literals
  pub sites : (x : Site) → IsAmong x f.sites → IsAmong x g.sites

grows_refl : (f : Found) → Grows f f
grows_refl f = record { fields = λ n h. h; globals = λ n h. h; literals = λ o h. h; sites = λ x h. h }

grows_trans : (f g h : Found) → Grows f g → Grows g h → Grows f h
grows_trans f g h a b = record {
  fields = λ n k. b.fields n (a.fields n k);
  globals = λ n k. b.globals n (a.globals n k);
  literals = λ o k. b.literals o (a.literals o k);
  sites = λ x k. b.sites x (a.sites x k);
}

-- a property of all that may be found further on
abbrev Lasts : (Found → Type 0) → Found → Type 0
Lasts Q g = (h : Found) → Grows g h → Q h

abbrev Then : Found → (Found → Type 0) → Built Found (Unit {0}) → Type 0
Then f Q (Ok (u, g)) = Grows f g × Lasts Q g
Then f Q (Err e) = Unit {0}

pub record Finds (m : Gathering) (Q : Found → Type 0) : Type 0 where
  pub by : (f : Found) → Then f Q (m f)

further : (f g : Found) (Q R : Found → Type 0) (r : Built Found (Unit {0})) → Grows f g → Lasts Q g → Then g R r
    → Then f (λ h. Q h × R h) r
further f g Q R (Ok (u, h)) a q (b, r) = (grows_trans f g h a b, λ i c. (q i (grows_trans g h i b c), r i c))
further f g Q R (Err e) a q h = tt

behind : (f : Found) (Q R : Found → Type 0) (r : Built Found (Unit {0})) (k : Unit {0} → Gathering) → Then f Q r
    → ((u : Unit {0}) → Finds (k u) R) → Then f (λ h. Q h × R h) (goes_on r k)
behind f Q R (Ok (u, g)) k (a, q) l = further f g Q R (k u g) a q ((l u).by g)
behind f Q R (Err e) k h l = tt

chain : {Q R : Found → Type 0} {m : Gathering} {k : Unit {0} → Gathering} → Finds m Q → ((u : Unit {0}) → Finds (k u) R)
    → Finds (m >>= k) (λ h. Q h × R h)
chain {Q = Q} {R = R} {m = m} {k = k} l n = record { by = λ f. behind f Q R (m f) k (l.by f) n }

then_weaker : (f : Found) (Q R : Found → Type 0) (r : Built Found (Unit {0})) → ((h : Found) → Q h → R h) → Then f Q r → Then f R r
then_weaker f Q R (Ok (u, g)) w (a, q) = (a, λ h b. w h (q h b))
then_weaker f Q R (Err e) w h = tt

weaker : {Q R : Found → Type 0} {m : Gathering} → Finds m Q → ((h : Found) → Q h → R h) → Finds m R
weaker {Q = Q} {R = R} {m = m} l w = record { by = λ f. then_weaker f Q R (m f) w (l.by f) }

abbrev Anything : Found → Type 0
Anything h = Unit {0}

gives : Finds (done tt) Anything
gives = record { by = λ f. (grows_refl f, λ h a. tt) }

-- The single steps.

nodes_by : (b : Bool) (n : ℕ) (f : Found) → Then f Anything (if b then Ok (tt, record f { nodes = f.nodes + n }) else Err limit.Nodes)
nodes_by true n f = (record { fields = λ m h. h; globals = λ m h. h; literals = λ o h. h; sites = λ x h. h }, λ h a. tt)
nodes_by false n f = tt

counts : (n : ℕ) → Finds (nodes n) Anything
counts n = record { by = λ f. nodes_by (nat_le (f.nodes + n) most_nodes) n f }

or_left : (a b : Bool) → a ≡ true → a || b ≡ true
or_left true b h = refl
or_left false b h = absurd (clash false h refl)

or_right : (a b : Bool) → b ≡ true → a || b ≡ true
or_right true b h = refl
or_right false b h = h

any_pushed : {X : Type 0} (test : X → Bool) (xs : List X) (x : X) → list_any test xs ≡ true → list_any test (xs ++ x ∷ []) ≡ true
any_pushed test [] x h = absurd (clash false h refl)
any_pushed test (y ∷ ys) x h = side (test y) h (λ e. any_pushed test ys x e)
  where
    side : (b : Bool) → b || list_any test ys ≡ true → (list_any test ys ≡ true → list_any test (ys ++ x ∷ []) ≡ true)
        → b || list_any test (ys ++ x ∷ []) ≡ true
    side true e rest = refl
    side false e rest = rest e

any_last : {X : Type 0} (test : X → Bool) (xs : List X) (x : X) → test x ≡ true → list_any test (xs ++ x ∷ []) ≡ true
any_last test [] x h = or_left (test x) false h
any_last test (y ∷ ys) x h = or_right (test y) (list_any test (ys ++ x ∷ [])) (any_last test ys x h)

among_pushed : {X : Type 0} (o x : X) (xs : List X) → IsAmong o xs → IsAmong o (xs ++ x ∷ [])
among_pushed o x [] h = absurd h
among_pushed o x (y ∷ ys) (inl e) = inl e
among_pushed o x (y ∷ ys) (inr h) = inr (among_pushed o x ys h)

among_last : {X : Type 0} (x : X) (xs : List X) → IsAmong x (xs ++ x ∷ [])
among_last x [] = inl refl
among_last x (y ∷ ys) = inr (among_last x ys)

field_by : (b : Bool) (n : NameId) (f : Found) → list_any (same_name n) f.fields ≡ b
    → Then f (λ h. is_named h n ≡ true) (Ok (tt, (if b then f else record f { fields = f.fields ++ n ∷ [] })))
field_by true n f e = (grows_refl f, λ h a. a.fields n e)
field_by false n f e = (
  record {
    fields = λ m k. any_pushed (same_name m) f.fields n k;
    globals = λ m h. h;
    literals = λ o h. h;
    sites = λ x h. h;
  },
  λ h a. a.fields n (any_last (same_name n) f.fields n (number_same n.at)),
)

names_field : (n : NameId) → Finds (field_name n) (λ h. is_named h n ≡ true)
names_field n = record { by = λ f. field_by (list_any (same_name n) f.fields) n f refl }

global_by : (b : Bool) (n : ℕ) (f : Found) → list_any (nat_eq n) f.globals ≡ b
    → Then f (λ h. list_any (nat_eq n) h.globals ≡ true) (Ok (tt, (if b then f else record f { globals = f.globals ++ n ∷ [] })))
global_by true n f e = (grows_refl f, λ h a. a.globals n e)
global_by false n f e = (
  record {
    fields = λ m h. h;
    globals = λ m k. any_pushed (nat_eq m) f.globals n k;
    literals = λ o h. h;
    sites = λ x h. h;
  },
  λ h a. a.globals n (any_last (nat_eq n) f.globals n (number_same n)),
)

names_global : (n : ℕ) → Finds (global n) (λ h. list_any (nat_eq n) h.globals ≡ true)
names_global n = record { by = λ f. global_by (list_any (nat_eq n) f.globals) n f refl }

literal_grows : (o : Origin) (f : Found) → Then f (λ h. IsAmong o h.literals) (Ok (tt, record f { literals = f.literals ++ o ∷ [] }))
literal_grows o f = (
  record {
    fields = λ m h. h;
    globals = λ m h. h;
    literals = λ z k. among_pushed z o f.literals k;
    sites = λ x h. h;
  },
  λ h a. a.literals o (among_last o f.literals),
)

names_literal : (q : Pos) → Finds (literal q) (λ h. IsAmong (origin.Literal q) h.literals)
names_literal q = record { by = λ f. literal_grows (origin.Literal q) f }

function_is : (n : NameId) (o : Origin) → is_function n o ≡ true → o ≡ origin.Function n
function_is n (origin.Function m) h = λ i. origin.Function (record { at = sym (number_is n.at m.at h) i })
function_is n (origin.Param m) h = absurd (clash false h refl)
function_is n (origin.Global m) h = absurd (clash false h refl)
function_is n (origin.Local m) h = absurd (clash false h refl)
function_is n (origin.Literal m) h = absurd (clash false h refl)
function_is n (origin.Target m) h = absurd (clash false h refl)
function_is n (origin.Call m) h = absurd (clash false h refl)
function_is n (origin.Part m x) h = absurd (clash false h refl)

function_among : (n : NameId) (os : List Origin) → list_any (is_function n) os ≡ true → IsAmong (origin.Function n) os
function_among n [] h = absurd (clash false h refl)
function_among n (o ∷ os) h = side (is_function n o) refl h (λ d. function_among n os d)
  where
    side : (b : Bool) → is_function n o ≡ b → b || list_any (is_function n) os ≡ true
        → (list_any (is_function n) os ≡ true → IsAmong (origin.Function n) os) → IsAmong (origin.Function n) (o ∷ os)
    side true e d rest = inl (function_is n o e)
    side false e d rest = inr (rest d)

function_by : (b : Bool) (n : NameId) (f : Found) → list_any (is_function n) f.literals ≡ b
    → Then f (λ h. IsAmong (origin.Function n) h.literals)
    (Ok (tt, (if b then f else record f { literals = f.literals ++ origin.Function n ∷ [] })))
function_by true n f e = (grows_refl f, λ h a. a.literals (origin.Function n) (function_among n f.literals e))
function_by false n f e = literal_grows (origin.Function n) f

names_value : (n : NameId) → Finds (function_value n) (λ h. IsAmong (origin.Function n) h.literals)
names_value n = record { by = λ f. function_by (list_any (is_function n) f.literals) n f refl }

-- whether what stands so is a value
abbrev is_value : Stands → Bool
is_value Named = false
is_value _ = true

names_function : (n : NameId) (h : Stands) → Finds (function_name n h) (λ g. IfValue (is_value h) (IsAmong (origin.Function n) g.literals))
names_function n Plain = names_value n
names_function n Named = gives
names_function n (GivenAs t) = names_value n

site_stays : (x y : Site) (xs : List Site) → IsAmong x xs → IsAmong x (with_site y xs)
site_stays x y [] h = absurd h
site_stays x y (z ∷ zs) h = side (is_later y.pos z.pos) h (λ k. site_stays x y zs k)
  where
    side : (b : Bool) → IsAmong x (z ∷ zs) → (IsAmong x zs → IsAmong x (with_site y zs))
        → IsAmong x (if b then y ∷ z ∷ zs else z ∷ with_site y zs)
    side true k rest = inr k
    side false (inl e) rest = inl e
    side false (inr k) rest = inr (rest k)

site_there : (y : Site) (xs : List Site) → IsAmong y (with_site y xs)
site_there y [] = inl refl
site_there y (z ∷ zs) = side (is_later y.pos z.pos) (site_there y zs)
  where
    side : (b : Bool) → IsAmong y (with_site y zs) → IsAmong y (if b then y ∷ z ∷ zs else z ∷ with_site y zs)
    side true rest = inl refl
    side false rest = inr rest

calls : (y : Site) → Finds (call_site y) (λ h. IsAmong y h.sites)
calls y = record {
  by = λ f. (
    record {
      fields = λ m h. h;
      globals = λ m h. h;
      literals = λ o h. h;
      sites = λ x k. site_stays x y f.sites k;
    },
    λ h a. a.sites y (site_there y f.sites),
  );
}

module _ (s : Source) where
  mutual
    exp : (e : Exp) (h : Stands) (r : Round) → Finds (gather s e h r) (λ g. IsFound s g e (is_value h))
    exp (Comma a b t) h r =
        weaker (chain (counts r.factor) (λ _. chain (exp a Plain r) (λ _. exp b Plain r))) (λ g k. (k.1.0, k.1.1))
    exp (Assign o w a b t) h r =
        weaker (chain (counts r.factor) (λ _. chain (exp a Plain r) (λ _. exp b (as_given b) r))) (λ g k. (k.1.0, k.1.1))
    exp (Cond a b d t) h r =
        weaker (chain (counts r.factor) (λ _. chain (exp a Plain r) (λ _. chain (exp b Plain r) (λ _. exp d Plain r))))
        (λ g k. (k.1.0, k.1.1.0, k.1.1.1))
    exp (Binary o a b t) h r =
        weaker (chain (counts r.factor) (λ _. chain (exp a Plain r) (λ _. exp b Plain r))) (λ g k. (k.1.0, k.1.1))
    exp (Cast a t) h r = weaker (chain (counts r.factor) (λ _. exp a (GivenAs (target t)) r)) (λ g k. k.1)
    exp (Unary o a t) h r = weaker (chain (counts r.factor) (λ _. exp a Plain r)) (λ g k. k.1)
    exp (PreInc d a t) h r = weaker (chain (counts r.factor) (λ _. exp a Plain r)) (λ g k. k.1)
    exp (PostInc d a t) h r = weaker (chain (counts r.factor) (λ _. exp a Plain r)) (λ g k. k.1)
    exp (SizeofExpr a n t) h r = weaker (chain (counts r.factor) (λ _. exp a Named r)) (λ g k. k.1)
    exp (SizeofType n t) h r = counts r.factor
    exp (Index a b t) h r =
        weaker (chain (counts r.factor) (λ _. chain (exp a Plain r) (λ _. exp b Plain r))) (λ g k. (k.1.0, k.1.1))
    exp (Call p f es t) h r =
        weaker (chain (counts r.factor) (λ _. chain (exp f Named r) (λ _. chain (exps es r)
        (λ _. calls (record { pos = p.first; bracket = p.token; turns = r.turns; effect = effect s f es t; result = t; object = object_of h t })))))
        (λ g k. (
          k.1.0,
          k.1.1.0,
          (
            record { pos = p.first; bracket = p.token; turns = r.turns; effect = effect s f es t; result = t; object = object_of h t },
            k.1.1.1,
            refl,
            refl,
          ),
        ))
    exp (Field a n arrow t) h r =
        weaker (chain (counts r.factor) (λ _. chain (exp a Plain r) (λ _. names_field n))) (λ g k. (k.1.0, k.1.1))
    exp (Param n t) h r = counts r.factor
    exp (Local n t) h r = counts r.factor
    exp (Global n t) h r = weaker (chain (counts r.factor) (λ _. names_global n)) (λ g k. k.1)
    exp (Function n b t) h r = weaker (chain (counts r.factor) (λ _. names_function n h)) (λ g k. k.1)
    exp (Number n t) h r = counts r.factor
    exp (Str p t) h r = weaker (chain (counts r.factor) (λ _. names_literal p.token)) (λ g k. k.1)
    exp (Convert a t) h r = exp a h r
    exp (Temp n t) h r = gives
    exp (TempPlace n t) h r = gives

    exps : (es : Exps) (r : Round) → Finds (gather_all s es r) (λ g. AllFound s g es)
    exps NoExps r = gives
    exps (Exps' e es) r = chain (exp e Plain r) (λ _. exps es r)

  items : (xs : List Given) (r : Round) → Finds (gather_items s xs r) (λ g. ItemsFound s g xs)
  items [] r = gives
  items (x ∷ xs) r = chain (exp x.value (as_given x.value) r) (λ _. items xs r)

  init : (x : Init) (r : Round) → Finds (gather_init s x r) (λ g. InitFound s g x)
  init NoInit r = gives
  init (One e) r = exp e (as_given e) r
  init (Braces xs) r = items xs r

  declared_name : (d : Declared) → Finds (gather_declared s d) Anything
  declared_name (declared.Global n) = weaker (names_global n) (λ g k. tt)
  declared_name (declared.Local n) = gives
  declared_name declared.Function = gives

  declarators : (ds : List Dec) (r : Round) → Finds (gather_declarators s ds r) (λ g. DeclaratorsFound s g ds)
  declarators [] r = gives
  declarators (d ∷ ds) r =
      weaker (chain (counts r.factor) (λ _. chain (declared_name d.declared) (λ _. chain (init d.init r) (λ _. declarators ds r))))
      (λ g k. (k.1.1.0, k.1.1.1))

  exp_if : (e : Option Exp) (r : Round) → Finds (gather_if s e r) (λ g. FoundIf s g e)
  exp_if None r = gives
  exp_if (Some e) r = exp e Plain r

  start : (x : Start) (r : Round) → Finds (gather_start s x r) (λ g. StartFound s g x)
  start NoStart r = gives
  start (Begin e) r = exp e Plain r
  start (Declare ds) r = weaker (chain (counts r.factor) (λ _. declarators ds r)) (λ g k. k.1)

  mutual
    stm : (x : Stm) (r : Round) → Finds (gather_stm s x r) (λ g. StatementFound s g x)
    stm (Block xs end) r = weaker (chain (counts r.factor) (λ _. stms xs r)) (λ g k. k.1)
    stm (Decl ds) r = weaker (chain (counts r.factor) (λ _. declarators ds r)) (λ g k. k.1)
    stm (Evaluate e) r = weaker (chain (counts r.factor) (λ _. exp_if e r)) (λ g k. k.1)
    stm (If p e x) r = weaker (chain (counts r.factor) (λ _. chain (exp e Plain r) (λ _. stm x r))) (λ g k. (k.1.0, k.1.1))
    stm (IfElse p e x y) r =
        weaker (chain (counts r.factor) (λ _. chain (exp e Plain r) (λ _. chain (stm x r) (λ _. stm y r))))
        (λ g k. (k.1.0, k.1.1.0, k.1.1.1))
    stm (While p e x) r =
        weaker (chain (counts r.factor) (λ _. chain (exp e Plain (tested s.depth r)) (λ _. stm x (within s.depth r))))
        (λ g k. (k.1.0, k.1.1))
    stm (Do p x e) r =
        weaker (chain (counts r.factor) (λ _. chain (stm x (within s.depth r)) (λ _. exp e Plain (within s.depth r))))
        (λ g k. (k.1.0, k.1.1))
    stm (For p f d n x) r =
        weaker
        (chain (counts r.factor)
        (λ _. chain (start f r)
        (λ _. chain (exp_if d (tested s.depth r)) (λ _. chain (exp_if n (within s.depth r)) (λ _. stm x (within s.depth r))))))
        (λ g k. (k.1.0, k.1.1.0, k.1.1.1.0, k.1.1.1.1))
    stm (Switch p e xs) r = weaker (chain (counts r.factor) (λ _. chain (exp e Plain r) (λ _. stms xs r))) (λ g k. (k.1.0, k.1.1))
    stm (Case n e) r = exp e Plain r
    stm Default r = gives
    stm (Goto p n) r = counts r.factor
    stm Break r = counts r.factor
    stm Continue r = counts r.factor
    stm (Return p None) r = counts r.factor
    stm (Return p (Some e)) r = weaker (chain (counts r.factor) (λ _. exp e (as_given e) r)) (λ g k. k.1)
    stm (Label n x) r = weaker (chain (counts r.factor) (λ _. stm x r)) (λ g k. k.1)

    stms : (xs : Stms) (r : Round) → Finds (gather_stms s xs r) (λ g. StatementsFound s g xs)
    stms NoStms r = gives
    stms (Stms' x xs) r = chain (stm x r) (λ _. stms xs r)

  -- what summaries name is found too; nothing is asked of it here

  steps : (xs : List Step) → Finds (gather_steps s xs) Anything
  steps [] = gives
  steps (step.Field n ∷ xs) = weaker (chain (names_field n) (λ _. steps xs)) (λ g k. tt)
  steps (step.Deref ∷ xs) = steps xs
  steps (step.Elem k ∷ xs) = steps xs

  root_name : (x : Root) → Finds (gather_root s x) Anything
  root_name (root.Param n) = gives
  root_name (root.Global n) = weaker (names_global n) (λ g k. tt)

  path : (q : Path) → Finds (gather_path s q) Anything
  path q = weaker (chain (root_name q.root) (λ _. steps q.steps)) (λ g k. tt)

  item_name : (x : Item) → Finds (gather_item s x) Anything
  item_name (item.Lock q) = path q
  item_name item.Exit = gives
  item_name (item.Param n) = gives
  item_name (item.Out n) = gives

  summary_items : (xs : List ItemRows) → Finds (gather_summary_items s xs) Anything
  summary_items [] = gives
  summary_items (x ∷ xs) = weaker (chain (item_name x.item) (λ _. summary_items xs)) (λ g k. tt)

  writes : (xs : List Write) → Finds (gather_writes s xs) Anything
  writes [] = gives
  writes (x ∷ xs) = weaker (chain (path x.path) (λ _. writes xs)) (λ g k. tt)

  sum : (x : Option Summary) → Finds (gather_sum s x) Anything
  sum None = gives
  sum (Some x) = weaker (chain (summary_items x.items) (λ _. writes x.writes)) (λ g k. tt)

  sums : (xs : List (Option Summary)) → Finds (gather_sums s xs) Anything
  sums [] = gives
  sums (x ∷ xs) = weaker (chain (sum x) (λ _. sums xs)) (λ g k. tt)

  function : Finds (gather_function s) (λ g. StatementFound s g s.body)
  function = weaker (chain (stm s.body (once s)) (λ _. sums s.sums)) (λ g k. k.0)

  pub body_found : (f : Found) → gather_function s nothing_found ≡ Ok (tt, f) → StatementFound s f s.body
  body_found f e = (subst (Then nothing_found (λ g. StatementFound s g s.body)) e (function.by nothing_found)).1 f (grows_refl f)
