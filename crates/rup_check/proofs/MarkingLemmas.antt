-- Places of literals, and the bits that are set for them.

use Rattle.std.proofs.Common.{◌≡◌, ◌≢◌, ℕ, ◌+◌, ◌*◌, ◌<◌, ◌≤◌, ◌⊎◌, inl, inr, Bool, true, false, not, cond, if◌then◌else◌, List, [], ◌∷◌, ◌++◌, map, length, length-set, take, take_all, set, get_or, get_or-set_same, get_or-set_other, replicate, refl, sym, subst, ap, ◌∙◌, ⊎_elim, arith}
use Rattle.std.specs.List.{Contains, count_by}
use Rattle.std.proofs.lemmas.Bool.{cases_eq, cases_lt, false_from_ne_true, false≢true}
use Rattle.std.proofs.lemmas.List.{get_or_default, get_or-replicate, get_or_past, length-replicate, take_more}
use Rattle.std.proofs.lemmas.List.Elements.{Contains-get_or, Contains-push, Contains-append_left, Contains-push_cases}
use Rattle.std.proofs.lemmas.List.Sums.{sum_by-set}
use Rattle.sat_base.specs.declared.literal.Lit.{Lit}
use Rattle.rup_check.specs.Marking.{place, bit, MarksState, IsMarks, IsMarked}

same_place : (v w : ℕ) (a b : Bool) → 2 * v + (if a then 1 else 0) ≡ 2 * w + (if b then 1 else 0) → (v ≡ w) × (a ≡ b)
same_place v w true true h = (omega (arith, h), refl)
same_place v w true false h = absurd (omega (arith, h))
same_place v w false true h = absurd (omega (arith, h))
same_place v w false false h = (omega (arith, h), refl)

pub place_apart : (l m : Lit) → place l ≡ place m → l ≡ m
place_apart l m h =
    let t = same_place l.var m.var l.neg m.neg h in
    let one : l ≡ record { var = m.var; neg = l.neg } = ap (λ (v : ℕ). record { var = v; neg = l.neg }) t.0 in
    one ∙ ap (λ (b : Bool). record { var = m.var; neg = b }) t.1

below_of : (v n : ℕ) (b : Bool) → v < n → 2 * v + (if b then 1 else 0) < 2 * n
below_of v n true h = omega (arith, h)
below_of v n false h = omega (arith, h)

pub place_below : (l : Lit) (n : ℕ) → l.var < n → place l < 2 * n
place_below l n h = below_of l.var n l.neg h

pub read_bit : (bits : List Bool) (l : Lit) (d : Bool) → place l < length bits → get_or bits (place l) d ≡ bit bits l
unfolding bit
read_bit bits l d h = get_or_default bits (place l) d false h

pub bit-set_same : (bits : List Bool) (l : Lit) (b : Bool) → place l < length bits → bit (set bits (place l) b) l ≡ b
unfolding bit
bit-set_same bits l b h = get_or-set_same bits (place l) b false h

pub bit-set_other : (bits : List Bool) (l q : Lit) (b : Bool) → (q ≡ l → ⊥) → bit (set bits (place l) b) q ≡ bit bits q
unfolding bit
bit-set_other bits l q b other = get_or-set_other bits (place l) (place q) b false (λ e. other (place_apart q l e))

pub lit_cases : (l m : Lit) → (l ≡ m) ⊎ (l ≡ m → ⊥)
lit_cases l m = ⊎_elim (λ same. inl (place_apart l m same)) (λ other. inr (λ e. other (ap place e))) (cases_eq (place l) (place m))

inside_bits : (vars : ℕ) (bits : List Bool) (l : Lit) → length bits ≡ 2 * vars → l.var < vars → place l < length bits
inside_bits vars bits l size low = let p = place_below l vars low in omega (arith, size, p)

-- a bit that is read says whether its literal is marked
pub has_from : (vars : ℕ) (bits : List Bool) (lits : List Lit) (l : Lit) (p : ℕ) (b : Bool) → IsMarks vars bits lits → l.var < vars
    → b ≡ get_or bits p b → p ≡ place l → (b ≡ true → Contains lits l) × (Contains lits l → b ≡ true)
has_from vars bits lits l p b m low is at =
    let same : b ≡ bit bits l = is ∙ ap (λ (k : ℕ). get_or bits k b) at ∙ read_bit bits l b (inside_bits vars bits l m.size low) in
    ((λ h. m.only l (sym same ∙ h)), (λ h. same ∙ m.marked l h))

bit_none : (n : ℕ) (l : Lit) → bit (replicate n false) l ≡ true → ⊥
unfolding bit
bit_none n l h =
    ⊎_elim
    (λ inside. false≢true (sym (get_or-replicate n (place l) false false inside) ∙ h))
    (λ past. false≢true (sym (get_or_past (replicate n false) (place l) false (subst (λ k. k ≤ place l) (sym (length-replicate n false)) past)) ∙ h))
    (cases_lt (place l) n)

pub nothing_in : (l : Lit) → Contains [] l → ⊥
nothing_in l h = let low = h.1 in omega (arith, low)

-- nothing is marked
pub marks_none : (vars n : ℕ) (bits : List Bool) (lits : List Lit) → bits ≡ replicate n false → n ≡ 2 * vars → lits ≡ [] → IsMarks vars bits lits
marks_none vars n bits lits is count empty =
    subst (λ ls. IsMarks vars bits ls) (sym empty)
    (record {
      size = ap length is ∙ length-replicate n false ∙ count;
      below = λ l h. absurd (nothing_in l h);
      marked = λ l h. absurd (nothing_in l h);
      only = λ l h. absurd (bit_none n l (ap (λ bs. bit bs l) (sym is) ∙ h));
    })

-- one literal more is marked
pub marks_push : (vars : ℕ) (bits : List Bool) (lits : List Lit) (l : Lit) → IsMarks vars bits lits → l.var < vars
    → IsMarks vars (set bits (place l) true) (lits ++ l ∷ [])
marks_push vars bits lits l m low =
    let inside = inside_bits vars bits l m.size low in
    record {
      size = length-set bits (place l) true ∙ m.size;
      below = λ q h. ⊎_elim (λ before. m.below q before) (λ e. subst (λ x. x.var < vars) e low) (Contains-push_cases lits l q h);
      marked = λ q h.
          ⊎_elim
          (λ e. subst (λ x. bit (set bits (place l) true) x ≡ true) (sym e) (bit-set_same bits l true inside))
          (λ other.
          bit-set_other bits l q true other
          ∙ m.marked q (⊎_elim (λ before. before) (λ e. absurd (other (sym e))) (Contains-push_cases lits l q h)))
          (lit_cases q l);
      only = λ q h.
          ⊎_elim
          (λ e. subst (λ x. Contains (lits ++ l ∷ []) x) (sym e) (Contains-push lits l))
          (λ other. Contains-append_left lits (l ∷ []) q (m.only q (sym (bit-set_other bits l q true other) ∙ h)))
          (lit_cases q l);
    }

fewer_bits : (bits : List Bool) (l : Lit) → place l < length bits → bit bits l ≡ false → count_by (λ b. not b) (set bits (place l) true) < count_by (λ b. not b) bits
unfolding bit
fewer_bits bits l inside empty =
    let weight : Bool → ℕ = λ b. cond (not b) 1 0 in
    let moved : count_by (λ b. not b) (set bits (place l) true) + weight (get_or bits (place l) false) ≡ count_by (λ b. not b) bits + 0 =
    sum_by-set weight bits (place l) true false inside in
    let here : weight (get_or bits (place l) false) ≡ 1 = ap weight empty in
    omega (arith, moved, here)

pub is_marked-push : (vars : ℕ) (bits : List Bool) (lits : List Lit) (l : Lit) → IsMarks vars bits lits → l.var < vars → (Contains lits l → ⊥)
    → IsMarked (record { vars = vars; lits = lits; unmarked = count_by (λ b. not b) bits })
    (record { vars = vars; lits = lits ++ l ∷ []; unmarked = count_by (λ b. not b) (set bits (place l) true) }) l
is_marked-push vars bits lits l m low none =
    let less = fewer_bits bits l (inside_bits vars bits l m.size low) (false_from_ne_true (bit bits l) (λ h. none (m.only l h))) in
    record {
      vars = refl;
      kept = λ q h. Contains-append_left lits (l ∷ []) q h;
      here = Contains-push lits l;
      only = λ q h. ⊎_elim (λ before. inl before) (λ e. inr (sym e)) (Contains-push_cases lits l q h);
      fewer = omega (arith, less);
      strict = λ h. less;
    }

pub is_marked-before : (m : MarksState) (l : Lit) → Contains m.lits l → IsMarked m m l
is_marked-before m l h = record {
  vars = refl;
  kept = λ q k. k;
  here = h;
  only = λ q k. inl k;
  fewer = omega arith;
  strict = λ none. absurd (none h);
}

-- the bits of the first i literals are taken back
pub record IsClearing (vars : ℕ) (bits : List Bool) (lits : List Lit) (i : ℕ) : Type 0 where
  pub size : length bits ≡ 2 * vars
  pub left : (l : Lit) → bit bits l ≡ true → (k : ℕ) × (i ≤ k) × (k < length lits) × (get_or lits k l ≡ l)

pub clearing_none : (vars : ℕ) (bits : List Bool) (lits : List Lit) → IsMarks vars bits lits → IsClearing vars bits lits 0
clearing_none vars bits lits m = record {
  size = m.size;
  left = λ l h. let t = m.only l h in (t.0, omega arith, t.1, t.2);
}

pub clearing_more : (vars : ℕ) (bits : List Bool) (lits : List Lit) (i : ℕ) (d : Lit) → i < length lits → ((l : Lit) → Contains lits l → l.var < vars)
    → IsClearing vars bits lits i → IsClearing vars (set bits (place (get_or lits i d)) false) lits (i + 1)
clearing_more vars bits lits i d inside below m =
    let lit = get_or lits i d in
    let low = inside_bits vars bits lit m.size (below lit (Contains-get_or lits i d inside)) in
    record {
      size = length-set bits (place lit) false ∙ m.size;
      left = λ l is.
          ⊎_elim
          (λ same. absurd (false≢true (sym (bit-set_same bits lit false low) ∙ ap (bit (set bits (place lit) false)) (sym same) ∙ is)))
          (λ other.
          let t = m.left l (sym (bit-set_other bits lit l false other) ∙ is) in
          let ne : t.0 ≢ i = λ e. other (sym t.3 ∙ ap (λ (k : ℕ). get_or lits k l) e ∙ get_or_default lits i l d inside) in
          let at = t.1 in
          let past : i + 1 ≤ t.0 = omega (arith, at, ne) in (t.0, past, t.2, t.3))
          (lit_cases l lit);
    }

pub clearing_all : (vars : ℕ) (bits : List Bool) (lits : List Lit) (i : ℕ) → length lits ≤ i → IsClearing vars bits lits i → IsMarks vars bits []
clearing_all vars bits lits i over m = record {
  size = m.size;
  below = λ l h. absurd (nothing_in l h);
  marked = λ l h. absurd (nothing_in l h);
  only = λ l h. let t = m.left l h in let a = t.1 in let b = t.2 in absurd (omega (arith, over, a, b));
}

-- exactly the images of the first literals are marked
pub record IsSetting (f : Lit → Lit) (m : MarksState) (vars : ℕ) (front : List Lit) : Type 0 where
  pub vars_same : m.vars ≡ vars
  pub forth : (l : Lit) → Contains m.lits l → Contains (map f front) l
  pub back : (l : Lit) → Contains (map f front) l → Contains m.lits l

pub setting_none : (f : Lit → Lit) (m : MarksState) (vars : ℕ) → m.vars ≡ vars → m.lits ≡ [] → IsSetting f m vars []
setting_none f m vars same empty = record {
  vars_same = same;
  forth = λ l h. subst (λ ls. Contains ls l) empty h;
  back = λ l h. subst (λ ls. Contains ls l) (sym empty) h;
}

map-push : (f : Lit → Lit) (xs : List Lit) (x : Lit) → map f (xs ++ x ∷ []) ≡ map f xs ++ f x ∷ []
map-push f [] x = refl
map-push f (y ∷ ys) x = ap (λ t. f y ∷ t) (map-push f ys x)

pub setting_more : (f : Lit → Lit) (old new : MarksState) (vars : ℕ) (lits : List Lit) (i : ℕ) (d : Lit) → i < length lits
    → IsSetting f old vars (take i lits) → IsMarked old new (f (get_or lits i d)) → IsSetting f new vars (take (i + 1) lits)
setting_more f old new vars lits i d inside s m =
    let lit = f (get_or lits i d) in
    let whole : map f (take (i + 1) lits) ≡ map f (take i lits) ++ lit ∷ [] = ap (map f) (take_more lits i d inside) ∙ map-push f (take i lits) (get_or lits i d) in
    record {
      vars_same = m.vars ∙ s.vars_same;
      forth = λ l h.
          subst (λ ls. Contains ls l) (sym whole)
          (⊎_elim
          (λ before. Contains-append_left (map f (take i lits)) (lit ∷ []) l (s.forth l before))
          (λ e. subst (λ x. Contains (map f (take i lits) ++ lit ∷ []) x) (sym e) (Contains-push (map f (take i lits)) lit))
          (m.only l h));
      back = λ l h.
          ⊎_elim
          (λ before. m.kept l (s.back l before))
          (λ e. subst (λ x. Contains new.lits x) e m.here)
          (Contains-push_cases (map f (take i lits)) lit l (subst (λ ls. Contains ls l) whole h));
    }

pub setting_all : (f : Lit → Lit) (m : MarksState) (vars : ℕ) (lits : List Lit) (i : ℕ) → length lits ≤ i → IsSetting f m vars (take i lits) → IsSetting f m vars lits
setting_all f m vars lits i over s = subst (λ ls. IsSetting f m vars ls) (take_all i lits over) s

pub map-same : (lits : List Lit) → map (λ l. l) lits ≡ lits
map-same [] = refl
map-same (x ∷ xs) = ap (λ t. x ∷ t) (map-same xs)

-- all of the first literals are marked, and one more
pub all_more : (P : Lit → Type 0) (lits : List Lit) (i : ℕ) (d : Lit) → i < length lits → P (get_or lits i d) → ((l : Lit) → Contains (take i lits) l → P l)
    → (l : Lit) → Contains (take (i + 1) lits) l → P l
all_more P lits i d inside here before l h =
    ⊎_elim (λ k. before l k) (λ e. subst P e here) (Contains-push_cases (take i lits) (get_or lits i d) l (subst (λ ls. Contains ls l) (take_more lits i d inside) h))

pub none_before : (P : Lit → Type 0) (lits : List Lit) → (l : Lit) → Contains (take 0 lits) l → P l
none_before P lits l h = absurd (nothing_in l h)

pub all_before : (P : Lit → Type 0) (lits : List Lit) (i : ℕ) → length lits ≤ i → ((l : Lit) → Contains (take i lits) l → P l) → (l : Lit) → Contains lits l → P l
all_before P lits i over before l h = before l (subst (λ ls. Contains ls l) (sym (take_all i lits over)) h)

pub low_at : (vars : ℕ) (lits : List Lit) (i : ℕ) (d : Lit) → ((l : Lit) → Contains lits l → l.var < vars) → i < length lits → (get_or lits i d).var < vars
low_at vars lits i d below inside = below (get_or lits i d) (Contains-get_or lits i d inside)
