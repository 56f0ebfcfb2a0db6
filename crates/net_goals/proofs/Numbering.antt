-- Gates get their variables one after the other.
use Rattle.std.proofs.Common.{◌≡◌, ℕ, ◌+◌, ◌<◌, ◌≤◌, Bool, true, false, not, ◌&&◌, List, [], ◌∷◌, ◌++◌, length, take, set, get_or, Some, slice_get, slice_index_or, refl, sym, ◌∙◌, ap, subst, ⊎_elim, arith}
use Rattle.std.proofs.lemmas.List.{get_or-set_same, get_or-set_other, get_or_append_left, get_or_push, length-set, length_push, take-append-le, take_all, take_more, length-take-le, get_or-take, take-take}
use Rattle.std.proofs.lemmas.List.Folds.{list_all-append}
use Rattle.std.proofs.lemmas.List.Elements.{All-nil, All-cons, All-append}
use Rattle.std.proofs.lemmas.Bool.{and_parts, cases_eq}
use Rattle.bit_net.specs.declared.nodes.Node.{Node}
use Rattle.bit_net.specs.declared.nodes.Node.TheVariants.{Input}
use Rattle.bit_net.specs.Value.{bit_at, value, table}
use Rattle.bit_net.specs.Circuit.{input_count, IsCircuit}
use Rattle.bit_net.specs.Runs.{Runs, Fits}
use Rattle.sat_base.specs.declared.literal.Lit.{Lit}
use Rattle.sat_base.specs.Logic.{at, lit_true, some_true, all_true, LitsBelow, ClausesBelow}
use Rattle.net_goals.specs.Clauses.{lit_of, table_clauses}
use Rattle.net_goals.specs.Cones.{EachOperand, is_marked, IsCone}
use Rattle.net_goals.specs.Goals.{IsGoal}
use Rattle.net_goals.specs.Numbers.{AreNumbered, GoesOn}
use Rattle.net_goals.specs.declared.goals.Making.{Making}
use Rattle.net_goals.proofs.Marks.{each_both, each_more, reads_earlier}
use Rattle.net_goals.proofs.Tables.{IsTable, alike, alike_same, same_alike, table_says, table_below, one_below, table_agrees, clauses_agree, one_agrees, wider}

abbrev pub pos : ℕ → Lit
pos x = record { var = x; neg = false }

pos_true : (f : ℕ → Bool) (x : ℕ) → lit_true f (pos x) ≡ f x
unfolding lit_true
pos_true f x = refl

-- the values of variables in longer lists
at_left : (xs ys : List Bool) (x : ℕ) → x < length xs → at (xs ++ ys) x ≡ at xs x
unfolding at
at_left xs ys x low = get_or_append_left xs ys false x low

at_end : (xs : List Bool) (y : Bool) (x : ℕ) → length xs ≡ x → at (xs ++ y ∷ []) x ≡ y
unfolding at
at_end xs y x e = get_or_push xs y false x e

at_take : (n : ℕ) (xs : List Bool) (x : ℕ) → x < n → at (take n xs) x ≡ at xs x
unfolding at
at_take n xs x low = get_or-take n xs x false low

at_bit : (xs : List Bool) (x : ℕ) → at xs x ≡ bit_at xs x
unfolding at bit_at
at_bit xs x = refl

at_is : (xs : List Bool) (x : ℕ) → at xs x ≡ get_or xs x false
unfolding at
at_is xs x = refl

-- the operands of a gate have literals
pub operands_in : (ns : List Node) (inputs : ℕ) (marks : List Bool) (g : ℕ) (n : Node) (m : Making) → IsCircuit ns → slice_get ns g ≡ Some n → g < length ns
    → AreNumbered ns inputs marks g m → EachOperand (λ a. a < length m.lits.items) n
operands_in ns inputs marks g n m circuit node low h =
    each_more (λ a. a < g) (λ a. a < length m.lits.items) (λ a less. (let w = h.width in omega (arith, less, low, w))) n (reads_earlier ns g n circuit node)

-- before the first gate
pub at_first : (ns : List Node) (inputs : ℕ) (marks : List Bool) (m : Making) → length m.lits.items ≡ length ns → m.vars ≡ inputs → m.clauses ≡ []
    → AreNumbered ns inputs marks 0 m
at_first ns inputs marks m width vars none = record {
  width = width;
  room = omega (arith, vars);
  below = subst (ClausesBelow m.vars) (sym none) (λ i d low. absurd (omega (arith, low)));
  filled = λ c. c;
  goes = λ c e. record { count = e ∙ sym vars; begins = take_all inputs c (omega (arith, e)); satisfies = ap (all_true (at c)) none };
  only = λ c a e g. (let here = g.count in let long : length a ≤ inputs = omega (arith, here, vars) in sym (take_all inputs a long) ∙ g.begins);
  inside = λ h low. absurd (omega (arith, low));
  values = λ h low. absurd (omega (arith, low));
}

-- a gate that is not marked
pub passed_by : (ns : List Node) (inputs : ℕ) (marks : List Bool) (g : ℕ) (m : Making) → is_marked marks g ≡ false → AreNumbered ns inputs marks g m
    → AreNumbered ns inputs marks (g + 1) m
passed_by ns inputs marks g m off h = record {
  width = h.width;
  room = h.room;
  below = h.below;
  filled = h.filled;
  goes = h.goes;
  only = h.only;
  inside = λ k low on. h.inside k (before k low on) on;
  values = λ k low on. h.values k (before k low on) on;
}
  where
    before : (k : ℕ) → k < g + 1 → is_marked marks k ≡ true → k < g
    before k low on =
        ⊎_elim
        (λ same. absurd (let both : false ≡ true = sym off ∙ (ap (is_marked marks) (sym same) ∙ on) in cc))
        (λ other. omega (arith, low, other))
        (cases_eq k g)

-- the literals, with one more
lit_here : (lits : List Lit) (g : ℕ) (l : Lit) → g < length lits → lit_of (set lits g l) g ≡ l
lit_here lits g l low = get_or-set_same lits g l _ low

lit_there : (lits : List Lit) (g k : ℕ) (l : Lit) → (k ≡ g → ⊥) → lit_of (set lits g l) k ≡ lit_of lits k
lit_there lits g k l other = get_or-set_other lits g k l _ other

-- a gate of an input
pub as_input : (ns : List Node) (inputs : ℕ) (marks : List Bool) (g input : ℕ) (old new : Making) → input_count ns ≡ inputs → IsCircuit ns
    → ((choice : ℕ → Bool) → Fits ns choice (value choice ns)) → slice_get ns g ≡ Some (Input input) → g < length ns
    → new.lits.items ≡ set old.lits.items g (pos input) → new.vars ≡ old.vars → new.clauses ≡ old.clauses → AreNumbered ns inputs marks g old
    → AreNumbered ns inputs marks (g + 1) new
as_input ns inputs marks g input old new count circuit fits node low lits vars clauses h = record {
  width = ap length lits ∙ (length-set old.lits.items g (pos input) ∙ h.width);
  room = omega (arith, h.room, vars);
  below = subst (λ n. ClausesBelow n new.clauses) (sym vars) (subst (ClausesBelow old.vars) (sym clauses) h.below);
  filled = h.filled;
  goes = λ c e. (let o = h.goes c e in record { count = o.count ∙ sym vars; begins = o.begins; satisfies = ap (all_true (at (h.filled c))) clauses ∙ o.satisfies });
  only = λ c a e o. h.only c a e (record { count = o.count ∙ vars; begins = o.begins; satisfies = sym (ap (all_true (at a)) clauses) ∙ o.satisfies });
  inside = inside;
  values = values;
}
  where
    wide : g < length old.lits.items
    wide = omega (arith, low, h.width)

    few : input < inputs
    few = omega (arith, circuit.earlier g (Input input) node, count)

    inside : (k : ℕ) → k < g + 1 → is_marked marks k ≡ true → (lit_of new.lits.items k).var < new.vars
    inside k less on =
        ⊎_elim
        (λ same. subst (λ (l : Lit). l.var < new.vars) (sym (ap (λ ls. lit_of ls k) lits ∙ (ap (lit_of (set old.lits.items g (pos input))) same ∙ lit_here old.lits.items g (pos input) wide)))
        (omega (arith, few, h.room, vars)))
        (λ other. subst (λ (l : Lit). l.var < new.vars) (sym (ap (λ ls. lit_of ls k) lits ∙ lit_there old.lits.items g k (pos input) other))
        (let was = h.inside k (omega (arith, less, other)) on in omega (arith, was, vars)))
        (cases_eq k g)

    values : (k : ℕ) → k < g + 1 → is_marked marks k ≡ true → (c : List Bool) → length c ≡ inputs → lit_true (at (h.filled c)) (lit_of new.lits.items k) ≡ value (bit_at c) ns k
    values k less on c e =
        ⊎_elim
        (λ same.
        ap (lit_true (at (h.filled c))) (ap (λ ls. lit_of ls k) lits ∙ (ap (lit_of (set old.lits.items g (pos input))) same ∙ lit_here old.lits.items g (pos input) wide))
        ∙ (pos_true (at (h.filled c)) input
        ∙ (sym (at_take inputs (h.filled c) input few)
        ∙ (ap (λ xs. at xs input) (h.goes c e).begins
        ∙ (at_bit c input
        ∙ (sym ((fits (bit_at c)).table g (Input input) node)
        ∙ ap (value (bit_at c) ns) (sym same)))))))
        (λ other.
        ap (lit_true (at (h.filled c))) (ap (λ ls. lit_of ls k) lits ∙ lit_there old.lits.items g k (pos input) other)
        ∙ h.values k (omega (arith, less, other)) on c e)
        (cases_eq k g)

-- any other gate: it has a variable of its own, and its clauses
pub as_table : (ns : List Node) (inputs : ℕ) (marks : List Bool) (g : ℕ) (n : Node) (old new : Making) → IsTable n
    → ((choice : ℕ → Bool) → Fits ns choice (value choice ns)) → slice_get ns g ≡ Some n → g < length ns
    → EachOperand (λ a. a < g) n → EachOperand (λ a. is_marked marks a ≡ true) n
    → new.lits.items ≡ set old.lits.items g (pos old.vars) → new.vars ≡ old.vars + 1
    → new.clauses ≡ old.clauses ++ table_clauses (pos old.vars) old.lits.items n → AreNumbered ns inputs marks g old
    → AreNumbered ns inputs marks (g + 1) new
as_table ns inputs marks g n old new is fits node low reads marked lits vars clauses h = record {
  width = ap length lits ∙ (length-set old.lits.items g (pos old.vars) ∙ h.width);
  room = omega (arith, h.room, vars);
  below = subst (λ k. ClausesBelow k new.clauses) (sym vars) (subst (ClausesBelow (old.vars + 1)) (sym clauses) all_below);
  filled = filled;
  goes = goes;
  only = only;
  inside = inside;
  values = values;
}
  where
    out : Lit
    out = pos old.vars

    wide : g < length old.lits.items
    wide = omega (arith, low, h.width)

    inner : EachOperand (λ a. (lit_of old.lits.items a).var < old.vars) n
    inner = each_both (λ a. a < g) (λ a. is_marked marks a ≡ true) (λ a. (lit_of old.lits.items a).var < old.vars) (λ a less on. h.inside a less on) n reads marked

    tables : List (List Lit)
    tables = table_clauses out old.lits.items n

    all_below : ClausesBelow (old.vars + 1) (old.clauses ++ tables)
    all_below =
        All-append (LitsBelow (old.vars + 1)) old.clauses tables (wider old.vars (old.vars + 1) (omega arith) old.clauses h.below)
        (table_below (old.vars + 1) old.lits.items out n (omega arith) (each_more (λ a. (lit_of old.lits.items a).var < old.vars) (λ a. (lit_of old.lits.items a).var < old.vars + 1) (λ a less. omega (arith, less)) n inner))

    filled : List Bool → List Bool
    filled c = h.filled c ++ value (bit_at c) ns g ∷ []

    -- what the older variables have is as before
    same_below : (c : List Bool) (e : length c ≡ inputs) (x : ℕ) → x < old.vars → at (filled c) x ≡ at (h.filled c) x
    same_below c e x less = at_left (h.filled c) (value (bit_at c) ns g ∷ []) x (omega (arith, less, (h.goes c e).count))

    operands : (c : List Bool) (e : length c ≡ inputs) → EachOperand (λ a. lit_true (at (filled c)) (lit_of old.lits.items a) ≡ value (bit_at c) ns a) n
    operands c e =
        each_both (λ a. a < g) (λ a. is_marked marks a ≡ true) (λ a. lit_true (at (filled c)) (lit_of old.lits.items a) ≡ value (bit_at c) ns a)
        (λ a less on. one_agrees (at (filled c)) (at (h.filled c)) old.vars (same_below c e) (lit_of old.lits.items a) (h.inside a less on) ∙ h.values a less on c e) n reads marked

    -- the table of the node over the older literals is the value of the gate
    table_here : (c : List Bool) (e : length c ≡ inputs) → table (bit_at c) (λ a. lit_true (at (filled c)) (lit_of old.lits.items a)) n ≡ value (bit_at c) ns g
    table_here c e =
        table_agrees (bit_at c) (λ a. lit_true (at (filled c)) (lit_of old.lits.items a)) (value (bit_at c) ns) n (operands c e) ∙ sym ((fits (bit_at c)).table g n node)

    out_here : (c : List Bool) (e : length c ≡ inputs) → lit_true (at (filled c)) out ≡ value (bit_at c) ns g
    out_here c e = pos_true (at (filled c)) old.vars ∙ at_end (h.filled c) (value (bit_at c) ns g) old.vars (h.goes c e).count

    goes : (c : List Bool) → length c ≡ inputs → GoesOn inputs new c (filled c)
    goes c e =
        let o = h.goes c e in
        let first = clauses_agree (at (filled c)) (at (h.filled c)) old.vars (same_below c e) old.clauses h.below ∙ o.satisfies in
        let second = table_says (at (filled c)) old.lits.items (bit_at c) out n is
        ∙ same_alike (lit_true (at (filled c)) out) (table (bit_at c) (λ a. lit_true (at (filled c)) (lit_of old.lits.items a)) n) (out_here c e ∙ sym (table_here c e)) in
        record {
          count = length_push (h.filled c) (value (bit_at c) ns g) ∙ (ap (λ k. k + 1) o.count ∙ sym vars);
          begins = take-append-le inputs (h.filled c) (value (bit_at c) ns g ∷ []) (omega (arith, o.count, h.room)) ∙ o.begins;
          satisfies =
              ap (all_true (at (filled c))) clauses
              ∙ (list_all-append (some_true (at (filled c))) old.clauses tables
              ∙ (ap (λ b. b && all_true (at (filled c)) tables) first ∙ second));
        }

    only : (c a : List Bool) → length c ≡ inputs → GoesOn inputs new c a → a ≡ filled c
    only c a e o =
        let long : length a ≡ old.vars + 1 = o.count ∙ vars in
        let front : List Bool = take old.vars a in
        let size : length front ≡ old.vars = length-take-le old.vars a (omega (arith, long)) in
        let parts = and_parts (all_true (at a) old.clauses) (all_true (at a) tables)
        (sym (list_all-append (some_true (at a)) old.clauses tables) ∙ (sym (ap (all_true (at a)) clauses) ∙ o.satisfies)) in
        let old_goes : GoesOn inputs old c front = record {
          count = size;
          begins = take-take inputs old.vars a (h.room) ∙ o.begins;
          satisfies = clauses_agree (at front) (at a) old.vars (λ x less. at_take old.vars a x less) old.clauses h.below ∙ parts.0;
        } in
        let is_front : front ≡ h.filled c = h.only c front e old_goes in
        let last : Bool = get_or a old.vars false in
        let split : a ≡ front ++ last ∷ [] = sym (take_all (old.vars + 1) a (omega (arith, long))) ∙ take_more a old.vars false (omega (arith, long)) in
        let joined : a ≡ h.filled c ++ last ∷ [] = split ∙ ap (λ xs. xs ++ last ∷ []) is_front in
        let below_same : (x : ℕ) → x < old.vars → at a x ≡ at (filled c) x =
        λ x less. sym (at_take old.vars a x less) ∙ (ap (λ xs. at xs x) is_front ∙ sym (same_below c e x less)) in
        let reads_same : EachOperand (λ k. lit_true (at a) (lit_of old.lits.items k) ≡ value (bit_at c) ns k) n =
        each_both (λ k. (lit_of old.lits.items k).var < old.vars) (λ k. lit_true (at (filled c)) (lit_of old.lits.items k) ≡ value (bit_at c) ns k)
        (λ k. lit_true (at a) (lit_of old.lits.items k) ≡ value (bit_at c) ns k)
        (λ k less there. one_agrees (at a) (at (filled c)) old.vars below_same (lit_of old.lits.items k) less ∙ there) n inner (operands c e) in
        let says : lit_true (at a) out ≡ table (bit_at c) (λ k. lit_true (at a) (lit_of old.lits.items k)) n =
        alike_same (lit_true (at a) out) (table (bit_at c) (λ k. lit_true (at a) (lit_of old.lits.items k)) n) (sym (table_says (at a) old.lits.items (bit_at c) out n is) ∙ parts.1) in
        let is_value : lit_true (at a) out ≡ value (bit_at c) ns g =
        says ∙ (table_agrees (bit_at c) (λ k. lit_true (at a) (lit_of old.lits.items k)) (value (bit_at c) ns) n reads_same ∙ sym ((fits (bit_at c)).table g n node)) in
        let is_last : last ≡ value (bit_at c) ns g = sym (at_is a old.vars) ∙ (sym (pos_true (at a) old.vars) ∙ is_value) in
        joined ∙ ap (λ b. h.filled c ++ b ∷ []) is_last

    inside : (k : ℕ) → k < g + 1 → is_marked marks k ≡ true → (lit_of new.lits.items k).var < new.vars
    inside k less on =
        ⊎_elim
        (λ same. subst (λ (l : Lit). l.var < new.vars) (sym (ap (λ ls. lit_of ls k) lits ∙ (ap (lit_of (set old.lits.items g out)) same ∙ lit_here old.lits.items g out wide)))
        (omega (arith, vars)))
        (λ other. subst (λ (l : Lit). l.var < new.vars) (sym (ap (λ ls. lit_of ls k) lits ∙ lit_there old.lits.items g k out other))
        (let was = h.inside k (omega (arith, less, other)) on in omega (arith, was, vars)))
        (cases_eq k g)

    values : (k : ℕ) → k < g + 1 → is_marked marks k ≡ true → (c : List Bool) → length c ≡ inputs → lit_true (at (filled c)) (lit_of new.lits.items k) ≡ value (bit_at c) ns k
    values k less on c e =
        ⊎_elim
        (λ same.
        ap (lit_true (at (filled c))) (ap (λ ls. lit_of ls k) lits ∙ (ap (lit_of (set old.lits.items g out)) same ∙ lit_here old.lits.items g out wide))
        ∙ (out_here c e ∙ ap (value (bit_at c) ns) (sym same)))
        (λ other.
        (let low_k : k < g = omega (arith, less, other) in
        ap (lit_true (at (filled c))) (ap (λ ls. lit_of ls k) lits ∙ lit_there old.lits.items g k out other)
        ∙ (one_agrees (at (filled c)) (at (h.filled c)) old.vars (same_below c e) (lit_of old.lits.items k) (h.inside k low_k on) ∙ h.values k low_k on c e)))
        (cases_eq k g)

-- the goal of a gate, once its cone is numbered
pub is_goal : (ns : List Node) (inputs : ℕ) (marks : List Bool) (g : ℕ) (m : Making) (clauses : List (List Lit)) → IsCone ns g marks → AreNumbered ns inputs marks (length marks) m
    → clauses ≡ m.clauses ++ (lit_of m.lits.items g ∷ []) ∷ []
    → IsGoal (λ c. value (bit_at c) ns g) (record { inputs = inputs; vars = m.vars; clauses = clauses })
is_goal ns inputs marks g m clauses cone h is = record {
  room = h.room;
  below = subst (ClausesBelow m.vars) (sym is) (All-append (LitsBelow m.vars) m.clauses ((last ∷ []) ∷ []) h.below (All-cons (LitsBelow m.vars) (last ∷ []) [] (one_below m.vars last inside) (All-nil (LitsBelow m.vars))));
  front = m.clauses;
  last = last;
  split = is;
  filled = h.filled;
  satisfies = λ c e. (let o = h.goes c e in (o.count, (o.begins, o.satisfies)));
  only = λ c a e count begins satisfied. h.only c a e (record { count = count; begins = begins; satisfies = satisfied });
  tells = λ c e. h.values g low cone.top c e;
}
  where
    last : Lit
    last = lit_of m.lits.items g

    low : g < length marks
    low = omega (arith, cone.width)

    inside : last.var < m.vars
    inside = h.inside g low cone.top
