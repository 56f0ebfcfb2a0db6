-- The clauses of a gate say its truth table.
use Rattle.std.proofs.Common.{◌≡◌, ℕ, ◌+◌, ◌<◌, ◌≤◌, Bool, true, false, not, ◌&&◌, ◌||◌, if◌then◌else◌, List, [], ◌∷◌, ◌++◌, length, All, refl, sym, ◌∙◌, ap, subst, arith}
use Rattle.std.proofs.lemmas.List.Elements.{All-nil, All-cons, All-head, All-tail}
use Rattle.bit_net.specs.declared.nodes.Node.{Node}
use Rattle.bit_net.specs.declared.nodes.Node.TheVariants.{Constant, Input, Not, And, Or, Xor, Mux}
use Rattle.bit_net.specs.Value.{table, xor}
use Rattle.sat_base.specs.declared.literal.Lit.{Lit}
use Rattle.sat_base.specs.Logic.{negation, lit_true, some_true, all_true, LitsBelow, ClausesBelow}
use Rattle.net_goals.specs.Clauses.{lit_of, signed, table_clauses}
use Rattle.net_goals.specs.Cones.{EachOperand}

-- both hold, or neither does
abbrev pub alike : Bool → Bool → Bool
alike true b = b
alike false b = not b

pub alike_same : (a b : Bool) → alike a b ≡ true → a ≡ b
alike_same true true h = refl
alike_same true false h = absurd (cc)
alike_same false true h = absurd (cc)
alike_same false false h = refl

pub same_alike : (a b : Bool) → a ≡ b → alike a b ≡ true
same_alike true true h = refl
same_alike true false h = absurd (cc)
same_alike false true h = absurd (cc)
same_alike false false h = refl

negated : (f : ℕ → Bool) (l : Lit) → lit_true f (negation l) ≡ not (lit_true f l)
unfolding lit_true
negated f l = by l.neg (f l.var)
  where
    by : (n v : Bool) → (if not n then not v else v) ≡ not (if n then not v else v)
    by true true = refl
    by true false = refl
    by false true = refl
    by false false = refl

-- the node is not an input
abbrev pub IsTable : Node → Type 0
IsTable (Input k) = ⊥
IsTable _ = Unit {0}

-- clauses over the values of literals

says_not : (o a : Bool) → ((o || (a || false)) && ((not o || (not a || false)) && true)) ≡ alike o (not a)
says_not true true = refl
says_not true false = refl
says_not false true = refl
says_not false false = refl

says_and : (o a b : Bool) → ((not o || (a || false)) && ((not o || (b || false)) && ((o || (not a || (not b || false))) && true))) ≡ alike o (a && b)
says_and true true true = refl
says_and true true false = refl
says_and true false true = refl
says_and true false false = refl
says_and false true true = refl
says_and false true false = refl
says_and false false true = refl
says_and false false false = refl

says_or : (o a b : Bool) → ((o || (not a || false)) && ((o || (not b || false)) && ((not o || (a || (b || false))) && true))) ≡ alike o (a || b)
says_or true true true = refl
says_or true true false = refl
says_or true false true = refl
says_or true false false = refl
says_or false true true = refl
says_or false true false = refl
says_or false false true = refl
says_or false false false = refl

says_xor : (o a b : Bool) → ((not o || (a || (b || false))) && ((not o || (not a || (not b || false))) && ((o || (not a || (b || false))) && ((o || (a || (not b || false))) && true))))
    ≡ alike o (xor a b)
says_xor true true true = refl
says_xor true true false = refl
says_xor true false true = refl
says_xor true false false = refl
says_xor false true true = refl
says_xor false true false = refl
says_xor false false true = refl
says_xor false false false = refl

says_mux : (o c a b : Bool) → ((not o || (not c || (a || false))) && ((o || (not c || (not a || false))) && ((not o || (c || (b || false))) && ((o || (c || (not b || false))) && true))))
    ≡ alike o (if c then a else b)
says_mux true true true true = refl
says_mux true true true false = refl
says_mux true true false true = refl
says_mux true true false false = refl
says_mux true false true true = refl
says_mux true false true false = refl
says_mux true false false true = refl
says_mux true false false false = refl
says_mux false true true true = refl
says_mux false true true false = refl
says_mux false true false true = refl
says_mux false true false false = refl
says_mux false false true true = refl
says_mux false false true false = refl
says_mux false false false true = refl
says_mux false false false false = refl

-- the value of a literal by an assignment
module _ (f : ℕ → Bool) (lits : List Lit) where
  abbrev Of : ℕ → Bool
  Of a = lit_true f (lit_of lits a)

  pub table_says : (choice : ℕ → Bool) (out : Lit) (n : Node) → IsTable n → all_true f (table_clauses out lits n) ≡ alike (lit_true f out) (table choice (λ a. lit_true f (lit_of lits a)) n)
  table_says choice out (Constant true) h = by (lit_true f out)
    where
      by : (o : Bool) → ((o || false) && true) ≡ alike o true
      by true = refl
      by false = refl
  table_says choice out (Constant false) h = ap (λ o. (o || false) && true) (negated f out) ∙ by (lit_true f out)
    where
      by : (o : Bool) → ((not o || false) && true) ≡ alike o false
      by true = refl
      by false = refl
  table_says choice out (Input k) h = absurd h
  table_says choice out (Not a) h =
      ap (λ x. (lit_true f out || (Of a.at || false)) && ((x || (lit_true f (negation (lit_of lits a.at)) || false)) && true)) (negated f out)
      ∙ (ap (λ x. (lit_true f out || (Of a.at || false)) && ((not (lit_true f out) || (x || false)) && true)) (negated f (lit_of lits a.at))
      ∙ says_not (lit_true f out) (Of a.at))
  table_says choice out (And a b) h =
      rewritten (lit_true f out) (Of a.at) (Of b.at) (lit_true f (negation out)) (lit_true f (negation (lit_of lits a.at))) (lit_true f (negation (lit_of lits b.at)))
      (negated f out) (negated f (lit_of lits a.at)) (negated f (lit_of lits b.at))
    where
      rewritten : (o x y off nx ny : Bool) → off ≡ not o → nx ≡ not x → ny ≡ not y
          → ((off || (x || false)) && ((off || (y || false)) && ((o || (nx || (ny || false))) && true))) ≡ alike o (x && y)
      rewritten o x y off nx ny e g k =
          ap (λ z. (z || (x || false)) && ((z || (y || false)) && ((o || (nx || (ny || false))) && true))) e
          ∙ (ap (λ z. (not o || (x || false)) && ((not o || (y || false)) && ((o || (z || (ny || false))) && true))) g
          ∙ (ap (λ z. (not o || (x || false)) && ((not o || (y || false)) && ((o || (not x || (z || false))) && true))) k ∙ says_and o x y))
  table_says choice out (Or a b) h =
      rewritten (lit_true f out) (Of a.at) (Of b.at) (lit_true f (negation out)) (lit_true f (negation (lit_of lits a.at))) (lit_true f (negation (lit_of lits b.at)))
      (negated f out) (negated f (lit_of lits a.at)) (negated f (lit_of lits b.at))
    where
      rewritten : (o x y off nx ny : Bool) → off ≡ not o → nx ≡ not x → ny ≡ not y
          → ((o || (nx || false)) && ((o || (ny || false)) && ((off || (x || (y || false))) && true))) ≡ alike o (x || y)
      rewritten o x y off nx ny e g k =
          ap (λ z. (o || (nx || false)) && ((o || (ny || false)) && ((z || (x || (y || false))) && true))) e
          ∙ (ap (λ z. (o || (z || false)) && ((o || (ny || false)) && ((not o || (x || (y || false))) && true))) g
          ∙ (ap (λ z. (o || (not x || false)) && ((o || (z || false)) && ((not o || (x || (y || false))) && true))) k ∙ says_or o x y))
  table_says choice out (Xor a b) h =
      rewritten (lit_true f out) (Of a.at) (Of b.at) (lit_true f (negation out)) (lit_true f (negation (lit_of lits a.at))) (lit_true f (negation (lit_of lits b.at)))
      (negated f out) (negated f (lit_of lits a.at)) (negated f (lit_of lits b.at))
    where
      rewritten : (o x y off nx ny : Bool) → off ≡ not o → nx ≡ not x → ny ≡ not y
          → ((off || (x || (y || false))) && ((off || (nx || (ny || false))) && ((o || (nx || (y || false))) && ((o || (x || (ny || false))) && true)))) ≡ alike o (xor x y)
      rewritten o x y off nx ny e g k =
          ap (λ z. (z || (x || (y || false))) && ((z || (nx || (ny || false))) && ((o || (nx || (y || false))) && ((o || (x || (ny || false))) && true)))) e
          ∙ (ap (λ z. (not o || (x || (y || false))) && ((not o || (z || (ny || false))) && ((o || (z || (y || false))) && ((o || (x || (ny || false))) && true)))) g
          ∙ (ap (λ z. (not o || (x || (y || false))) && ((not o || (not x || (z || false))) && ((o || (not x || (y || false))) && ((o || (x || (z || false))) && true)))) k
          ∙ says_xor o x y))
  table_says choice out (Mux c a b) h =
      rewritten (lit_true f out) (Of c.at) (Of a.at) (Of b.at) (lit_true f (negation out)) (lit_true f (negation (lit_of lits c.at))) (lit_true f (negation (lit_of lits a.at)))
      (lit_true f (negation (lit_of lits b.at))) (negated f out) (negated f (lit_of lits c.at)) (negated f (lit_of lits a.at)) (negated f (lit_of lits b.at))
    where
      rewritten : (o w x y off nw nx ny : Bool) → off ≡ not o → nw ≡ not w → nx ≡ not x → ny ≡ not y
          → ((off || (nw || (x || false))) && ((o || (nw || (nx || false))) && ((off || (w || (y || false))) && ((o || (w || (ny || false))) && true)))) ≡ alike o (if w then x else y)
      rewritten o w x y off nw nx ny e d g k =
          ap (λ z. (z || (nw || (x || false))) && ((o || (nw || (nx || false))) && ((z || (w || (y || false))) && ((o || (w || (ny || false))) && true)))) e
          ∙ (ap (λ z. (not o || (z || (x || false))) && ((o || (z || (nx || false))) && ((not o || (w || (y || false))) && ((o || (w || (ny || false))) && true)))) d
          ∙ (ap (λ z. (not o || (not w || (x || false))) && ((o || (not w || (z || false))) && ((not o || (w || (y || false))) && ((o || (w || (ny || false))) && true)))) g
          ∙ (ap (λ z. (not o || (not w || (x || false))) && ((o || (not w || (not x || false))) && ((not o || (w || (y || false))) && ((o || (w || (z || false))) && true)))) k
          ∙ says_mux o w x y)))

-- Variables.

signed_below : (n : ℕ) (b : Bool) (l : Lit) → l.var < n → (signed b l).var < n
signed_below n true l h = h
signed_below n false l h = h

module _ (n : ℕ) where
  abbrev Low : Lit → Type 0
  Low l = l.var < n

  none : LitsBelow n []
  none = All-nil Low

  cons : (a : Lit) (ls : List Lit) → a.var < n → LitsBelow n ls → LitsBelow n (a ∷ ls)
  cons a ls h hs = All-cons Low a ls h hs

  two : (a b : Lit) → a.var < n → b.var < n → LitsBelow n (a ∷ b ∷ [])
  two a b ha hb = cons a (b ∷ []) ha (cons b [] hb none)

  three : (a b c : Lit) → a.var < n → b.var < n → c.var < n → LitsBelow n (a ∷ b ∷ c ∷ [])
  three a b c ha hb hc = cons a (b ∷ c ∷ []) ha (two b c hb hc)

  no_more : ClausesBelow n []
  no_more = All-nil (LitsBelow n)

  more : (x : List Lit) (xs : List (List Lit)) → LitsBelow n x → ClausesBelow n xs → ClausesBelow n (x ∷ xs)
  more x xs h hs = All-cons (LitsBelow n) x xs h hs

  pub one_below : (a : Lit) → a.var < n → LitsBelow n (a ∷ [])
  one_below a h = cons a [] h none

  -- the clauses of a gate speak of its literal, and of those of the gates that it reads
  pub table_below : (lits : List Lit) (out : Lit) (x : Node) → out.var < n → EachOperand (λ a. (lit_of lits a).var < n) x → ClausesBelow n (table_clauses out lits x)
  table_below lits out (Constant b) o h = more (signed b out ∷ []) [] (one_below (signed b out) (signed_below n b out o)) no_more
  table_below lits out (Input k) o h = no_more
  table_below lits out (Not a) o h =
      let x = lit_of lits a.at in
      more (out ∷ x ∷ []) ((negation out ∷ negation x ∷ []) ∷ []) (two out x o h)
      (more (negation out ∷ negation x ∷ []) [] (two (negation out) (negation x) o h) no_more)
  table_below lits out (And a b) o h =
      let x = lit_of lits a.at in
      let y = lit_of lits b.at in
      more (negation out ∷ x ∷ []) ((negation out ∷ y ∷ []) ∷ (out ∷ negation x ∷ negation y ∷ []) ∷ []) (two (negation out) x o h.0)
      (more (negation out ∷ y ∷ []) ((out ∷ negation x ∷ negation y ∷ []) ∷ []) (two (negation out) y o h.1)
      (more (out ∷ negation x ∷ negation y ∷ []) [] (three out (negation x) (negation y) o h.0 h.1) no_more))
  table_below lits out (Or a b) o h =
      let x = lit_of lits a.at in
      let y = lit_of lits b.at in
      more (out ∷ negation x ∷ []) ((out ∷ negation y ∷ []) ∷ (negation out ∷ x ∷ y ∷ []) ∷ []) (two out (negation x) o h.0)
      (more (out ∷ negation y ∷ []) ((negation out ∷ x ∷ y ∷ []) ∷ []) (two out (negation y) o h.1)
      (more (negation out ∷ x ∷ y ∷ []) [] (three (negation out) x y o h.0 h.1) no_more))
  table_below lits out (Xor a b) o h =
      let x = lit_of lits a.at in
      let y = lit_of lits b.at in
      more (negation out ∷ x ∷ y ∷ []) ((negation out ∷ negation x ∷ negation y ∷ []) ∷ (out ∷ negation x ∷ y ∷ []) ∷ (out ∷ x ∷ negation y ∷ []) ∷ []) (three (negation out) x y o h.0 h.1)
      (more (negation out ∷ negation x ∷ negation y ∷ []) ((out ∷ negation x ∷ y ∷ []) ∷ (out ∷ x ∷ negation y ∷ []) ∷ []) (three (negation out) (negation x) (negation y) o h.0 h.1)
      (more (out ∷ negation x ∷ y ∷ []) ((out ∷ x ∷ negation y ∷ []) ∷ []) (three out (negation x) y o h.0 h.1)
      (more (out ∷ x ∷ negation y ∷ []) [] (three out x (negation y) o h.0 h.1) no_more)))
  table_below lits out (Mux c a b) o h =
      let w = lit_of lits c.at in
      let x = lit_of lits a.at in
      let y = lit_of lits b.at in
      more (negation out ∷ negation w ∷ x ∷ []) ((out ∷ negation w ∷ negation x ∷ []) ∷ (negation out ∷ w ∷ y ∷ []) ∷ (out ∷ w ∷ negation y ∷ []) ∷ []) (three (negation out) (negation w) x o h.0 h.1)
      (more (out ∷ negation w ∷ negation x ∷ []) ((negation out ∷ w ∷ y ∷ []) ∷ (out ∷ w ∷ negation y ∷ []) ∷ []) (three out (negation w) (negation x) o h.0 h.1)
      (more (negation out ∷ w ∷ y ∷ []) ((out ∷ w ∷ negation y ∷ []) ∷ []) (three (negation out) w y o h.0 h.2)
      (more (out ∷ w ∷ negation y ∷ []) [] (three out w (negation y) o h.0 h.2) no_more)))

-- Assignments that agree.

lit_agrees : (f h : ℕ → Bool) (n : ℕ) → ((x : ℕ) → x < n → f x ≡ h x) → (l : Lit) → l.var < n → lit_true f l ≡ lit_true h l
unfolding lit_true
lit_agrees f h n same l low = ap (λ b. if l.neg then not b else b) (same l.var low)

clause_agrees : (f h : ℕ → Bool) (n : ℕ) → ((x : ℕ) → x < n → f x ≡ h x) → (c : List Lit) → LitsBelow n c → some_true f c ≡ some_true h c
clause_agrees f h n same [] low = refl
clause_agrees f h n same (l ∷ c) low =
    ap (λ b. b || some_true f c) (lit_agrees f h n same l (All-head (λ (q : Lit). q.var < n) l c low))
    ∙ ap (λ b. lit_true h l || b) (clause_agrees f h n same c (All-tail (λ (q : Lit). q.var < n) l c low))

pub clauses_agree : (f h : ℕ → Bool) (n : ℕ) → ((x : ℕ) → x < n → f x ≡ h x) → (cs : List (List Lit)) → ClausesBelow n cs → all_true f cs ≡ all_true h cs
clauses_agree f h n same [] low = refl
clauses_agree f h n same (c ∷ cs) low =
    ap (λ b. b && all_true f cs) (clause_agrees f h n same c (All-head (LitsBelow n) c cs low))
    ∙ ap (λ b. some_true h c && b) (clauses_agree f h n same cs (All-tail (LitsBelow n) c cs low))

pub one_agrees : (f h : ℕ → Bool) (n : ℕ) → ((x : ℕ) → x < n → f x ≡ h x) → (l : Lit) → l.var < n → lit_true f l ≡ lit_true h l
one_agrees f h n same l low = lit_agrees f h n same l low

-- the clauses of more variables
lits_wider : (n m : ℕ) → n ≤ m → (c : List Lit) → LitsBelow n c → LitsBelow m c
lits_wider n m le c h = λ i d low. (let b = h i d low in omega arith)

pub wider : (n m : ℕ) → n ≤ m → (cs : List (List Lit)) → ClausesBelow n cs → ClausesBelow m cs
wider n m le [] h = All-nil (LitsBelow m)
wider n m le (c ∷ cs) h = All-cons (LitsBelow m) c cs (lits_wider n m le c (All-head (LitsBelow n) c cs h)) (wider n m le cs (All-tail (LitsBelow n) c cs h))

-- the truth table of a node hangs on the values of what it reads alone
pub table_agrees : (choice u v : ℕ → Bool) (n : Node) → EachOperand (λ a. u a ≡ v a) n → table choice u n ≡ table choice v n
table_agrees choice u v (Constant b) h = refl
table_agrees choice u v (Input k) h = refl
table_agrees choice u v (Not a) h = ap not h
table_agrees choice u v (And a b) h = ap (λ x. x && u b.at) h.0 ∙ ap (λ y. v a.at && y) h.1
table_agrees choice u v (Or a b) h = ap (λ x. x || u b.at) h.0 ∙ ap (λ y. v a.at || y) h.1
table_agrees choice u v (Xor a b) h = ap (λ x. xor x (u b.at)) h.0 ∙ ap (λ y. xor (v a.at) y) h.1
table_agrees choice u v (Mux c a b) h =
    ap (λ x. if x then u a.at else u b.at) h.0 ∙ (ap (λ y. if v c.at then y else u b.at) h.1 ∙ ap (λ z. if v c.at then v a.at else z) h.2)
