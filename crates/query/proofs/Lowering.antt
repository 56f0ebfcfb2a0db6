-- The question for lower values loses no model that has them, and what it adds takes no model away.

use Rattle.std.proofs.Common.{◌≡◌, ℕ, suc, ◌+◌, ◌<◌, ◌≤◌, Bool, true, false, not, ◌&&◌, ◌||◌, if◌then◌else◌, List, [], ◌∷◌, ◌++◌, length, drop, get_or, eqb, append_assoc, append-nil, refl, sym, subst, ap, ◌∙◌, ⊎_elim, arith}
use Rattle.std.proofs.lemmas.List.{drop_more, drop_all, length-map}
use Rattle.std.proofs.lemmas.List.Folds.{list_all-append}
use Rattle.std.proofs.lemmas.List.Elements.{All-nil, All-cons, All-head, All-tail, All-append, All-weaker, All-push}
use Rattle.std.proofs.lemmas.Bool.{and_parts, and_from, or_left, or_right, true≢false, false≢true, cases_Bool, false_from_ne_true, true_from_ne_false, cond-true, cond-false, eq-eqb, ne_eqb}
use Rattle.std.specs.List.{All}
use Rattle.sat_base.specs.declared.literal.Lit.{Lit}
use Rattle.sat_base.specs.Logic.{negation, lit_true, some_true, each_true, all_true, satisfied, LitsBelow, ClausesBelow, AgreeBelow, Extends}
use Rattle.std.specs.Prelude.{Option, Some, None, Vec, MatchOption, Result, Ok, Err, IfOk}
use Rattle.std.specs.declared.alloc.Global.{Global}
use Rattle.query.specs.Values.{values_of, is_before, IsSeen, IsFound, Hits, IsLeast}
use Rattle.query.specs.Lower.{on, off, link, link_next, links, links_end, IsBegun, AsksLower}
use Rattle.query.proofs.Fixed.{lit_true-negation, seen_width}

-- assignments that agree on some variables agree on what speaks of these
lit_same : (f h : ℕ → Bool) (l : Lit) → h l.var ≡ f l.var → lit_true h l ≡ lit_true f l
unfolding lit_true
lit_same f h l same = ap (λ b. if l.neg then not b else b) same

some_same : (n : ℕ) (f h : ℕ → Bool) → AgreeBelow n f h → (c : List Lit) → LitsBelow n c → some_true h c ≡ some_true f c
some_same n f h same [] below = refl
some_same n f h same (l ∷ c) below =
    ap (λ b. b || some_true h c) (lit_same f h l (same l.var (All-head (λ q. q.var < n) l c below)))
    ∙ ap (λ b. lit_true f l || b) (some_same n f h same c (All-tail (λ q. q.var < n) l c below))

all_same : (n : ℕ) (f h : ℕ → Bool) → AgreeBelow n f h → (cs : List (List Lit)) → ClausesBelow n cs → all_true h cs ≡ all_true f cs
all_same n f h same [] below = refl
all_same n f h same (c ∷ cs) below =
    ap (λ b. b && all_true h cs) (some_same n f h same c (All-head (LitsBelow n) c cs below))
    ∙ ap (λ b. some_true f c && b) (all_same n f h same cs (All-tail (LitsBelow n) c cs below))

each_same : (n : ℕ) (f h : ℕ → Bool) → AgreeBelow n f h → (ls : List Lit) → LitsBelow n ls → each_true h ls ≡ each_true f ls
each_same n f h same [] below = refl
each_same n f h same (l ∷ ls) below =
    ap (λ b. b && each_true h ls) (lit_same f h l (same l.var (All-head (λ q. q.var < n) l ls below)))
    ∙ ap (λ b. lit_true f l && b) (each_same n f h same ls (All-tail (λ q. q.var < n) l ls below))

values_same : (n : ℕ) (f h : ℕ → Bool) → AgreeBelow n f h → (ls : List Lit) → LitsBelow n ls → values_of h ls ≡ values_of f ls
values_same n f h same [] below = refl
values_same n f h same (l ∷ ls) below =
    ap (λ b. b ∷ values_of h ls) (lit_same f h l (same l.var (All-head (λ q. q.var < n) l ls below)))
    ∙ ap (λ bs. lit_true f l ∷ bs) (values_same n f h same ls (All-tail (λ q. q.var < n) l ls below))

-- the assignment with another value for one variable
with_value : (ℕ → Bool) → ℕ → Bool → ℕ → Bool
with_value f x b y = if eqb y x then b else f y

with_value-here : (f : ℕ → Bool) (x : ℕ) (b : Bool) → with_value f x b x ≡ b
unfolding with_value
with_value-here f x b = cond-true (eqb x x) b (f x) (eq-eqb x x refl)

with_value-below : (f : ℕ → Bool) (x : ℕ) (b : Bool) (y : ℕ) → y < x → with_value f x b y ≡ f y
unfolding with_value
with_value-below f x b y less = cond-false (eqb y x) b (f y) (ne_eqb y x (λ same. omega (arith, less, same)))

off_value : (h : ℕ → Bool) (x : ℕ) → lit_true h (off x) ≡ not (h x)
unfolding lit_true
off_value h x = refl

on_value : (h : ℕ → Bool) (x : ℕ) → lit_true h (on x) ≡ h x
unfolding lit_true
on_value h x = refl

link_low : (h : ℕ → Bool) (x : ℕ) (bit : Lit) → (h x ≡ true → lit_true h bit ≡ false) → some_true h (link x bit false) ≡ true
link_low h x bit low =
    ⊎_elim
    (λ yes. or_right (lit_true h (off x)) (lit_true h (negation bit) || false)
    (or_left (lit_true h (negation bit)) false (lit_true-negation h bit ∙ ap not (low yes))))
    (λ no. or_left (lit_true h (off x)) (lit_true h (negation bit) || false) (off_value h x ∙ ap not no))
    (cases_Bool (h x))

link_high : (h : ℕ → Bool) (x : ℕ) (bit : Lit) → (h x ≡ true → lit_true h bit ≡ true → h (suc x) ≡ true) → some_true h (link x bit true) ≡ true
link_high h x bit next =
    let rest : Bool = lit_true h (on (suc x)) || false in
    ⊎_elim
    (λ yes. or_right (lit_true h (off x)) (lit_true h (negation bit) || rest)
    (⊎_elim
    (λ high. or_right (lit_true h (negation bit)) rest (or_left (lit_true h (on (suc x))) false (on_value h (suc x) ∙ next yes high)))
    (λ low. or_left (lit_true h (negation bit)) rest (lit_true-negation h bit ∙ ap not low))
    (cases_Bool (lit_true h bit))))
    (λ no. or_left (lit_true h (off x)) (lit_true h (negation bit) || rest) (off_value h x ∙ ap not no))
    (cases_Bool (h x))

after_low : (w : List Bool) (b : Bool) (vs : List Bool) → is_before (false ∷ w) (b ∷ vs) ≡ false → (b ≡ false) × (is_before w vs ≡ false)
after_low w true vs lower = absurd (true≢false lower)
after_low w false vs lower = (refl, lower)

after_high : (w : List Bool) (b : Bool) (vs : List Bool) → b ≡ true → is_before (true ∷ w) (b ∷ vs) ≡ false → is_before w vs ≡ false
after_high w true vs high lower = lower
after_high w false vs high lower = absurd (false≢true high)

-- an assignment for the new variables behind x, the last of them false
record Linked (f : ℕ → Bool) (x : ℕ) (bits : List Lit) (values : List Bool) : Type 0 where
  model : ℕ → Bool
  same : (y : ℕ) → y ≤ x → model y ≡ f y
  all : all_true model (links x bits values) ≡ true
  last : model (links_end x values) ≡ false

linked : (bits : List Lit) (values : List Bool) (f : ℕ → Bool) (base x : ℕ) → LitsBelow base bits → base ≤ x → length values ≡ length bits
    → (f x ≡ true → is_before values (values_of f bits) ≡ false) → Linked f x bits values
unfolding links links_end
linked [] [] f base x below le wide lower =
    record { model = f; same = λ y within. refl; all = refl; last = false_from_ne_true (f x) (λ yes. true≢false (lower yes)) }
linked [] (v ∷ values) f base x below le wide lower = absurd (omega (arith, wide))
linked (bit ∷ bits) [] f base x below le wide lower = absurd (omega (arith, wide))
linked (bit ∷ bits) (false ∷ values) f base x below le wide lower =
    let tail : LitsBelow base bits = All-tail (λ q. q.var < base) bit bits below in
    let here : bit.var < base = All-head (λ q. q.var < base) bit bits below in
    let low : f x ≡ true → (lit_true f bit ≡ false) × (is_before values (values_of f bits) ≡ false) =
    λ yes. after_low values (lit_true f bit) (values_of f bits) (lower yes) in
    let rest : Linked f x bits values = linked bits values f base x tail le (omega (arith, wide)) (λ yes. (low yes).1) in
    record {
      model = rest.model;
      same = rest.same;
      all =
          and_from (some_true rest.model (link x bit false)) (all_true rest.model (links x bits values))
          (link_low rest.model x bit
          (λ yes. lit_same f rest.model bit (rest.same bit.var (omega (arith, here, le)))
          ∙ (low (sym (rest.same x (omega arith)) ∙ yes)).0))
          rest.all;
      last = rest.last;
    }
linked (bit ∷ bits) (true ∷ values) f base x below le wide lower =
    let tail : LitsBelow base bits = All-tail (λ q. q.var < base) bit bits below in
    let here : bit.var < base = All-head (λ q. q.var < base) bit bits below in
    let g : ℕ → Bool = with_value f (suc x) (f x && lit_true f bit) in
    let next : g (suc x) ≡ (f x && lit_true f bit) = with_value-here f (suc x) (f x && lit_true f bit) in
    let kept : (y : ℕ) → y ≤ x → g y ≡ f y = λ y within. with_value-below f (suc x) (f x && lit_true f bit) y (omega (arith, within)) in
    let agree : AgreeBelow base f g = λ y less. kept y (omega (arith, less, le)) in
    let lower_rest : g (suc x) ≡ true → is_before values (values_of g bits) ≡ false =
    λ yes.
    let both = and_parts (f x) (lit_true f bit) (sym next ∙ yes) in
    ap (is_before values) (values_same base f g agree bits tail)
    ∙ after_high values (lit_true f bit) (values_of f bits) both.1 (lower both.0) in
    let rest : Linked g (suc x) bits values = linked bits values g base (suc x) tail (omega (arith, le)) (omega (arith, wide)) lower_rest in
    let same : (y : ℕ) → y ≤ x → rest.model y ≡ f y = λ y within. rest.same y (omega (arith, within)) ∙ kept y within in
    record {
      model = rest.model;
      same = same;
      all =
          and_from (some_true rest.model (link x bit true)) (all_true rest.model (links (suc x) bits values))
          (link_high rest.model x bit
          (λ yes high.
          rest.same (suc x) (omega arith) ∙ next
          ∙ and_from (f x) (lit_true f bit) (sym (same x (omega arith)) ∙ yes)
          (sym (lit_same f rest.model bit (same bit.var (omega (arith, here, le)))) ∙ high)))
          rest.all;
      last = rest.last;
    }

all_append : (f : ℕ → Bool) (a b : List (List Lit)) → all_true f (a ++ b) ≡ (all_true f a && all_true f b)
all_append f a b = list_all-append (some_true f) a b

-- what is added so far
pub extends_same : (n : ℕ) (old new : List (List Lit)) → new ≡ old → Extends n old new
extends_same n old new is = record {
  earlier = λ f all. ap (all_true f) (sym is) ∙ all;
  later = λ f all. (f, λ x less. refl, ap (all_true f) is ∙ all);
}

pub extends_begun : (x : ℕ) (bits : List Lit) (values : List Bool) (old now new : List (List Lit))
    → ClausesBelow x old → LitsBelow x bits → length values ≡ length bits → now ≡ old
    → IsBegun now new (links x bits values) → Extends x old new
extends_begun x bits values old now new below bits_below wide is begun =
    let split : (f : ℕ → Bool) → all_true f new ≡ (all_true f old && all_true f begun.done) =
    λ f. ap (all_true f) (begun.now ∙ ap (λ cs. cs ++ begun.done) is) ∙ all_append f old begun.done in
    record {
      earlier = λ f all. (and_parts (all_true f old) (all_true f begun.done) (sym (split f) ∙ all)).0;
      later =
          λ f all.
          let g : ℕ → Bool = with_value f x false in
          let off_here : g x ≡ false = with_value-here f x false in
          let more : Linked g x bits values =
          linked bits values g x x bits_below (omega arith) wide (λ yes. absurd (false≢true (sym off_here ∙ yes))) in
          let agree : AgreeBelow x f more.model = λ y less. more.same y (omega (arith, less)) ∙ with_value-below f x false y less in
          let front = and_parts (all_true more.model begun.done) (all_true more.model begun.rest)
          (sym (ap (all_true more.model) begun.whole ∙ all_append more.model begun.done begun.rest) ∙ more.all) in (
            more.model,
            agree,
            split more.model ∙ and_from (all_true more.model old) (all_true more.model begun.done) (all_same x f more.model agree old below ∙ all) front.0,
          );
    }

pub begun_all : (old new added : List (List Lit)) → new ≡ old ++ added → IsBegun old new added
begun_all old new added is = record { done = added; rest = []; now = is; whole = sym (append-nil added) }

pub asks_lower : (x : ℕ) (bits goals : List Lit) (values : List Bool) (old now new : List (List Lit)) (question : List Lit)
    → ClausesBelow x old → LitsBelow x bits → LitsBelow x goals → length values ≡ length bits → now ≡ old
    → new ≡ now ++ links x bits values → question ≡ (goals ++ on x ∷ []) ++ off (links_end x values) ∷ []
    → AsksLower old new bits goals values question
asks_lower x bits goals values old now new question below bits_below goals_below wide same is asked f holds lower =
    let g : ℕ → Bool = with_value f x true in
    let below_x : AgreeBelow x f g = λ y less. with_value-below f x true y less in
    let more : Linked g x bits values =
    linked bits values g x x bits_below (omega arith) wide
    (λ yes. ap (is_before values) (values_same x f g below_x bits bits_below) ∙ lower) in
    let agree : AgreeBelow x f more.model = λ y less. more.same y (omega (arith, less)) ∙ below_x y less in
    let h : ℕ → Bool = more.model in
    let parts = and_parts (all_true f old) (each_true f goals) holds in
    let first : lit_true h (on x) ≡ true = on_value h x ∙ more.same x (omega arith) ∙ with_value-here f x true in
    let last : lit_true h (off (links_end x values)) ≡ true = off_value h (links_end x values) ∙ ap not more.last in
    let clauses : all_true h new ≡ true =
    ap (all_true h) (is ∙ ap (λ cs. cs ++ links x bits values) same) ∙ all_append h old (links x bits values)
    ∙ and_from (all_true h old) (all_true h (links x bits values)) (all_same x f h agree old below ∙ parts.0) more.all in
    let front : each_true h (goals ++ on x ∷ []) ≡ true =
    list_all-append (lit_true h) goals (on x ∷ [])
    ∙ and_from (each_true h goals) (lit_true h (on x) && true) (each_same x f h agree goals goals_below ∙ parts.1)
    (and_from (lit_true h (on x)) true first refl) in
    let each : each_true h question ≡ true =
    ap (each_true h) asked ∙ list_all-append (lit_true h) (goals ++ on x ∷ []) (off (links_end x values) ∷ [])
    ∙ and_from (each_true h (goals ++ on x ∷ [])) (lit_true h (off (links_end x values)) && true) front
    (and_from (lit_true h (off (links_end x values))) true last refl) in
    (h, and_from (all_true h new) (each_true h question) clauses each)

pub below_more : (n m : ℕ) (lits : List Lit) → n ≤ m → LitsBelow n lits → LitsBelow m lits
below_more n m lits le below = All-weaker (λ q. q.var < n) (λ q. q.var < m) (λ q less. omega (arith, le, less)) lits below

pub below_two : (n : ℕ) (a b : Lit) → a.var < n → b.var < n → LitsBelow n (a ∷ b ∷ [])
below_two n a b ha hb =
    All-cons (λ l. l.var < n) a (b ∷ []) ha (All-cons (λ l. l.var < n) b [] hb (All-nil (λ l. l.var < n)))

pub below_three : (n : ℕ) (a b c : Lit) → a.var < n → b.var < n → c.var < n → LitsBelow n (a ∷ b ∷ c ∷ [])
below_three n a b c ha hb hc = All-cons (λ l. l.var < n) a (b ∷ c ∷ []) ha (below_two n b c hb hc)

pub below_question : (n : ℕ) (goals question : List Lit) (a b : Lit) → question ≡ (goals ++ a ∷ []) ++ b ∷ []
    → LitsBelow n goals → a.var < n → b.var < n → LitsBelow n question
below_question n goals question a b is below ha hb =
    subst (LitsBelow n) (sym is)
    (All-push (λ l. l.var < n) (goals ++ a ∷ []) b (All-push (λ l. l.var < n) goals a below ha) hb)

-- the clauses of the bits before place i are added, and at is the variable behind them
pub record IsLinked (old now : List (List Lit)) (x : ℕ) (bits : List Lit) (values : List Bool) (i at : ℕ) : Type 0 where
  pub done : List (List Lit)
  pub added : now ≡ old ++ done
  pub whole : links x bits values ≡ done ++ links at (drop i bits) (drop i values)
  pub last : links_end x values ≡ links_end at (drop i values)

pub linked_start : (old now : List (List Lit)) (x : ℕ) (bits : List Lit) (values : List Bool) → now ≡ old → IsLinked old now x bits values 0 x
linked_start old now x bits values is = record { done = []; added = is ∙ sym (append-nil old); whole = refl; last = refl }

pub linked_more : (old now next : List (List Lit)) (x : ℕ) (bits : List Lit) (values : List Bool) (i at : ℕ) (b : Lit) (v : Bool)
    → i < length bits → i < length values
    → next ≡ now ++ link at (get_or bits i b) (get_or values i v) ∷ [] → IsLinked old now x bits values i at
    → IsLinked old next x bits values (i + 1) (link_next at (get_or values i v))
unfolding links links_end
linked_more old now next x bits values i at b v inside within is so_far =
    let bit : Lit = get_or bits i b in
    let value : Bool = get_or values i v in
    let clause : List Lit = link at bit value in
    let rest : List (List Lit) = links (link_next at value) (drop (i + 1) bits) (drop (i + 1) values) in
    let step : links at (drop i bits) (drop i values) ≡ clause ∷ rest =
    ap (λ bs. links at bs (drop i values)) (drop_more bits i b inside)
    ∙ ap (λ vs. links at (bit ∷ drop (i + 1) bits) vs) (drop_more values i v within) in
    record {
      done = so_far.done ++ clause ∷ [];
      added = is ∙ ap (λ cs. cs ++ clause ∷ []) so_far.added ∙ append_assoc old so_far.done (clause ∷ []);
      whole = so_far.whole ∙ ap (λ cs. so_far.done ++ cs) step ∙ sym (append_assoc so_far.done (clause ∷ []) rest);
      last = so_far.last ∙ ap (links_end at) (drop_more values i v within);
    }

pub linked_begun : (old now : List (List Lit)) (x : ℕ) (bits : List Lit) (values : List Bool) (i at : ℕ) (new : List (List Lit))
    → new ≡ now → IsLinked old now x bits values i at → IsBegun old new (links x bits values)
linked_begun old now x bits values i at new is so_far =
    record { done = so_far.done; rest = links at (drop i bits) (drop i values); now = is ∙ so_far.added; whole = so_far.whole }

pub linked_all : (old now : List (List Lit)) (x : ℕ) (bits : List Lit) (values : List Bool) (i at : ℕ)
    → length bits ≤ i → length values ≤ i → IsLinked old now x bits values i at
    → (now ≡ old ++ links x bits values) × (at ≡ links_end x values)
unfolding links links_end
linked_all old now x bits values i at over past so_far =
    let nothing : links at (drop i bits) (drop i values) ≡ [] =
    ap (λ bs. links at bs (drop i values)) (drop_all i bits over) in
    let whole : links x bits values ≡ so_far.done =
    so_far.whole ∙ ap (λ cs. so_far.done ++ cs) nothing ∙ append-nil so_far.done in (
      so_far.added ∙ ap (λ cs. old ++ cs) (sym whole),
      sym (so_far.last ∙ ap (links_end at) (drop_all i values past)),
    )

pub link_next_from : (first at next : ℕ) (value : Bool) → first ≤ at → next ≡ link_next at value → first ≤ next
link_next_from first at next true le is = omega (arith, le, is)
link_next_from first at next false le is = omega (arith, le, is)

pub if_ok : {A E : Type 0} (r : Result A E) (P Q : A → Type 0) → ((x : A) → P x → Q x) → IfOk r P → IfOk r Q
if_ok (Ok x) P Q step holds = step x holds
if_ok (Err e) P Q step holds = holds

-- what holds of the clauses before holds of those that were added to
pub least_extended : (n : ℕ) (old new : List (List Lit)) (bits goals : List Lit) (values : List Bool)
    → Extends n old new → LitsBelow n bits → LitsBelow n goals → IsLeast new bits goals values → IsLeast old bits goals values
least_extended n old new bits goals values extends bits_below goals_below least =
    let found = least.model in
    record {
      model = (found.0, record { model = extends.earlier found.0 found.1.model; hit = found.1.hit }, found.2);
      least =
          λ f hits.
          let later = extends.later f hits.model in
          ap (is_before values) (sym (values_same n f later.0 later.1 bits bits_below))
          ∙ least.least later.0 (record { model = later.2; hit = each_same n f later.0 later.1 goals goals_below ∙ hits.hit });
    }

-- no model has values before these
pub least_shown : (old new : List (List Lit)) (bits goals question : List Lit) (values : List Bool)
    → IsSeen old goals bits values → AsksLower old new bits goals values question
    → ((f : ℕ → Bool) → satisfied f new question ≡ false) → IsLeast old bits goals values
least_shown old new bits goals question values seen asks none =
    let parts = and_parts (all_true seen.model old) (each_true seen.model goals) seen.holds in
    record {
      model = (seen.model, record { model = parts.0; hit = parts.1 }, seen.values_are);
      least =
          λ f hits.
          true_from_ne_false (is_before values (values_of f bits))
          (λ lower.
          let some = asks f (and_from (all_true f old) (each_true f goals) hits.model hits.hit) lower in
          false≢true (sym (none some.0) ∙ some.1));
    }

-- the same where the first variable is the next one
pub extends_at : (n x : ℕ) (bits : List Lit) (values : List Bool) (old now new : List (List Lit))
    → x ≡ n → ClausesBelow n old → LitsBelow n bits → length values ≡ length bits → now ≡ old
    → IsBegun now new (links x bits values) → Extends n old new
extends_at n x bits values old now new first below bits_below wide is begun =
    subst (λ m. Extends m old new) first
    (extends_begun x bits values old now new (subst (λ m. ClausesBelow m old) (sym first) below) (subst (λ m. LitsBelow m bits) (sym first) bits_below)
    wide is begun)

pub asks_at : (n x : ℕ) (bits goals : List Lit) (values : List Bool) (old now new : List (List Lit)) (question : List Lit)
    → x ≡ n → ClausesBelow n old → LitsBelow n bits → LitsBelow n goals → length values ≡ length bits → now ≡ old
    → new ≡ now ++ links x bits values → question ≡ (goals ++ on x ∷ []) ++ off (links_end x values) ∷ []
    → AsksLower old new bits goals values question
asks_at n x bits goals values old now new question first below bits_below goals_below wide same is asked =
    asks_lower x bits goals values old now new question (subst (λ m. ClausesBelow m old) (sym first) below)
    (subst (λ m. LitsBelow m bits) (sym first) bits_below) (subst (λ m. LitsBelow m goals) (sym first) goals_below) wide same is asked

pub goals_from : (goals question : List Lit) (a b : Lit) → question ≡ (goals ++ a ∷ []) ++ b ∷ []
    → (f : ℕ → Bool) → each_true f question ≡ true → each_true f goals ≡ true
goals_from goals question a b is f each =
    let front = and_parts (each_true f (goals ++ a ∷ [])) (each_true f (b ∷ []))
    (sym (ap (each_true f) is ∙ list_all-append (lit_true f) (goals ++ a ∷ []) (b ∷ [])) ∙ each) in
    (and_parts (each_true f goals) (each_true f (a ∷ [])) (sym (list_all-append (lit_true f) goals (a ∷ [])) ∙ front.0)).0

pub extends_kept : (n : ℕ) (old now later : List (List Lit)) → later ≡ now → Extends n old now → Extends n old later
extends_kept n old now later is extends = subst (Extends n old) (sym is) extends

-- what the solver answers to the question for lower values
pub lower_found : (old now later : List (List Lit)) (bits goals question : List Lit) (values : List Bool) (found : Option (Vec Bool Global))
    → later ≡ now → IsSeen old goals bits values → AsksLower old now bits goals values question
    → ((f : ℕ → Bool) → each_true f question ≡ true → each_true f goals ≡ true) → IsFound now bits question found
    → MatchOption found (IsLeast old bits goals values) (λ last. IsSeen later goals bits last.items)
lower_found old now later bits goals question values (Some last) is seen asks goals_hold found =
    let parts = and_parts (all_true found.model now) (each_true found.model question) found.holds in
    record {
      model = found.model;
      holds = and_from (all_true found.model later) (each_true found.model goals) (ap (all_true found.model) is ∙ parts.0) (goals_hold found.model parts.1);
      values_are = found.values_are;
    }
lower_found old now later bits goals question values None is seen asks goals_hold found = least_shown old now bits goals question values seen asks found

pub length_seen : (clauses : List (List Lit)) (fixed bits : List Lit) (values : List Bool) → IsSeen clauses fixed bits values → length values ≡ length bits
length_seen clauses fixed bits values seen = seen_width clauses fixed bits values seen
