-- Lists of ways that grow and shrink, and the truth tables of ways that meet.
use Rattle.std.proofs.Common.{◌≡◌, ℕ, zero, suc, ◌+◌, ◌<◌, ◌≤◌, max, Bool, true, false, not, ◌&&◌, ◌||◌, nat_eq, if◌then◌else◌, List, [], ◌∷◌, ◌++◌, length, take, get_or, refl, sym, ◌∙◌, ap, subst, arith}
use Rattle.std.proofs.lemmas.List.{take_more}
use Rattle.std.proofs.lemmas.Bool.{eqb-true}
use Rattle.std.specs.List.{remove}
use Rattle.flow_ways.specs.declared.ways.Way.{Way}
use Rattle.flow_ways.specs.declared.ways.Split.{Split}
use Rattle.flow_ways.specs.Held.{any, held, held_with, AllSplit, ways_top, splits_top}

or_assoc : (a b c : Bool) → ((a || b) || c) ≡ (a || (b || c))
or_assoc true b c = refl
or_assoc false b c = refl

or_swap : (a b c : Bool) → (a || (b || c)) ≡ (b || (a || c))
or_swap true true c = refl
or_swap true false c = refl
or_swap false b c = refl

or_false : (a : Bool) → (a || false) ≡ a
or_false true = refl
or_false false = refl

-- ways behind ways
pub any_append : (v : ℕ → Bool) (xs ys : List Way) → any v (xs ++ ys) ≡ (any v xs || any v ys)
any_append v [] ys = refl
any_append v (x ∷ xs) ys = ap (λ b. v x.gate.at || b) (any_append v xs ys) ∙ sym (or_assoc (v x.gate.at) (any v xs) (any v ys))

pub held_append : (v : ℕ → Bool) (xs ys : List Way) (q : ℕ) → held v (xs ++ ys) q ≡ (held v xs q || held v ys q)
held_append v [] ys q = refl
held_append v (x ∷ xs) ys q =
    ap (λ b. (nat_eq x.node q && v x.gate.at) || b) (held_append v xs ys q)
    ∙ sym (or_assoc (nat_eq x.node q && v x.gate.at) (held v xs q) (held v ys q))

pub any_push : (v : ℕ → Bool) (xs : List Way) (w : Way) → any v (xs ++ w ∷ []) ≡ (any v xs || v w.gate.at)
any_push v xs w = any_append v xs (w ∷ []) ∙ ap (λ b. any v xs || b) (or_false (v w.gate.at))

pub held_push : (v : ℕ → Bool) (xs : List Way) (w : Way) (q : ℕ) → held v (xs ++ w ∷ []) q ≡ (held v xs q || (nat_eq w.node q && v w.gate.at))
held_push v xs w q = held_append v xs (w ∷ []) q ∙ ap (λ b. held v xs q || b) (or_false (nat_eq w.node q && v w.gate.at))

-- the way at a place, taken away
pub held_remove : (v : ℕ → Bool) (xs : List Way) (k : ℕ) (d : Way) (q : ℕ) → k < length xs
    → held v xs q ≡ ((nat_eq (get_or xs k d).node q && v (get_or xs k d).gate.at) || held v (remove xs k) q)
held_remove v [] k d q h = absurd (omega arith)
held_remove v (x ∷ xs) zero d q h = refl
held_remove v (x ∷ xs) (suc k) d q h =
    let low : k < length xs = omega arith in
    ap (λ b. (nat_eq x.node q && v x.gate.at) || b) (held_remove v xs k d q low)
    ∙ or_swap (nat_eq x.node q && v x.gate.at) (nat_eq (get_or xs k d).node q && v (get_or xs k d).gate.at) (held v (remove xs k) q)

-- bounds
pub ways_top_append : (xs ys : List Way) → ways_top (xs ++ ys) ≡ max (ways_top xs) (ways_top ys)
unfolding ways_top
ways_top_append [] ys = omega arith
ways_top_append (x ∷ xs) ys = omega (arith, ways_top_append xs ys)

pub ways_top_push : (xs : List Way) (w : Way) → ways_top (xs ++ w ∷ []) ≡ max (ways_top xs) (w.gate.at + 1)
unfolding ways_top
ways_top_push xs w = omega (arith, ways_top_append xs (w ∷ []))

pub ways_top_nil : ways_top [] ≡ 0
unfolding ways_top
ways_top_nil = refl

pub ways_top_first : (x : Way) (xs : List Way) → ways_top (x ∷ xs) ≡ max (x.gate.at + 1) (ways_top xs)
unfolding ways_top
ways_top_first x xs = refl

pub ways_top_remove : (xs : List Way) (k : ℕ) → ways_top (remove xs k) ≤ ways_top xs
unfolding ways_top
ways_top_remove [] zero = omega arith
ways_top_remove [] (suc k) = omega arith
ways_top_remove (x ∷ xs) zero = omega arith
ways_top_remove (x ∷ xs) (suc k) = omega (arith, ways_top_remove xs k)

pub way_below : (xs : List Way) (k : ℕ) (d : Way) → k < length xs → (get_or xs k d).gate.at < ways_top xs
unfolding ways_top
way_below [] k d h = absurd (omega arith)
way_below (x ∷ xs) zero d h = omega arith
way_below (x ∷ xs) (suc k) d h = let low : k < length xs = omega arith in omega (arith, way_below xs k d low)

pub splits_top_nil : splits_top [] ≡ 0
unfolding splits_top
splits_top_nil = refl

pub splits_top_push : (xs : List Split) (s : Split) → splits_top (xs ++ s ∷ []) ≡ max (splits_top xs) (max (max (s.hit.at + 1) (s.miss.at + 1)) (ways_top s.before.items))
unfolding splits_top
splits_top_push [] s = omega arith
splits_top_push (x ∷ xs) s = omega (arith, splits_top_push xs s)

pub before_below : (xs : List Split) (k : ℕ) (d : Split) → k < length xs → ways_top (get_or xs k d).before.items ≤ splits_top xs
unfolding splits_top
before_below [] k d h = absurd (omega arith)
before_below (x ∷ xs) zero d h = omega arith
before_below (x ∷ xs) (suc k) d h = let low : k < length xs = omega arith in omega (arith, before_below xs k d low)

-- the branch at a place
pub split_at : (v : ℕ → Bool) (xs : List Split) (k : ℕ) (d e : Split) → k < length xs → AllSplit v xs
    → (v (get_or xs k d).hit.at || v (get_or xs k d).miss.at) ≡ any v (get_or xs k e).before.items
split_at v [] k d e h a = absurd (omega arith)
split_at v (x ∷ xs) zero d e h a = a.0
split_at v (x ∷ xs) (suc k) d e h a = let low : k < length xs = omega arith in split_at v xs k d e low a.1

pub split_push : (v : ℕ → Bool) (xs : List Split) (s : Split) → AllSplit v xs → (v s.hit.at || v s.miss.at) ≡ any v s.before.items → AllSplit v (xs ++ s ∷ [])
split_push v [] s a e = (e, tt)
split_push v (x ∷ xs) s a e = (a.0, split_push v xs s a.1 e)

pub or_comm : (a b : Bool) → (a || b) ≡ (b || a)
or_comm true true = refl
or_comm true false = refl
or_comm false true = refl
or_comm false false = refl

-- a way that waits, where the gates of the others that come are t
pub waits_law : (h n w t : Bool) → ((h || (n && w)) || (n && t)) ≡ (h || (n && (w || t)))
waits_law true n w t = refl
waits_law false true w t = refl
waits_law false false w t = refl

-- two sides that meet: h is had without the other side o, and s is what led to the branch
pub meets_law : (h n w o s t : Bool) → (w || o) ≡ s → (h || (n && (t || s))) ≡ (((n && o) || h) || (n && (w || t)))
meets_law true true true true s true e = refl
meets_law true true true true s false e = refl
meets_law true true true false s true e = refl
meets_law true true true false s false e = refl
meets_law true true false true s true e = refl
meets_law true true false true s false e = refl
meets_law true true false false s true e = refl
meets_law true true false false s false e = refl
meets_law true false true true s true e = refl
meets_law true false true true s false e = refl
meets_law true false true false s true e = refl
meets_law true false true false s false e = refl
meets_law true false false true s true e = refl
meets_law true false false true s false e = refl
meets_law true false false false s true e = refl
meets_law true false false false s false e = refl
meets_law false true true true s true e = refl
meets_law false true true true s false e = sym e
meets_law false true true false s true e = refl
meets_law false true true false s false e = sym e
meets_law false true false true s true e = refl
meets_law false true false true s false e = sym e
meets_law false true false false s true e = refl
meets_law false true false false s false e = sym e
meets_law false false true true s true e = refl
meets_law false false true true s false e = refl
meets_law false false true false s true e = refl
meets_law false false true false s false e = refl
meets_law false false false true s true e = refl
meets_law false false false true s false e = refl
meets_law false false false false s true e = refl
meets_law false false false false s false e = refl

-- the gates of ways, one after another
pub any_step : (v : ℕ → Bool) (xs : List Way) (i : ℕ) (d : Way) → i < length xs → any v (take (i + 1) xs) ≡ (any v (take i xs) || v (get_or xs i d).gate.at)
any_step v xs i d h = ap (any v) (take_more xs i d h) ∙ any_push v (take i xs) (get_or xs i d)

-- the branch that was read
pub split_read : (v : ℕ → Bool) (xs : List Split) (k : ℕ) (x e : Split) → x ≡ get_or xs k x → k < length xs → AllSplit v xs
    → (v x.hit.at || v x.miss.at) ≡ any v (get_or xs k e).before.items
split_read v xs k x e at h a = subst (λ (z : Split). (v z.hit.at || v z.miss.at) ≡ any v (get_or xs k e).before.items) (sym at) (split_at v xs k x e h a)

-- one way more that waits
pub wait_step : (v : ℕ → Bool) (old waits new : List Way) (node : ℕ) (done done' : List Way) (w : Way) (q : ℕ)
    → held v new q ≡ (held v waits q || (nat_eq node q && v w.gate.at)) → held v waits q ≡ held_with v old node done q
    → any v done' ≡ (any v done || v w.gate.at)
    → held v new q ≡ held_with v old node done' q
wait_step v old waits new node done done' w q e f g =
    e ∙ (ap (λ b. b || (nat_eq node q && v w.gate.at)) f ∙ (adds (held v old q) (nat_eq node q) (any v done) (v w.gate.at) ∙ ap (λ b. held v old q || (nat_eq node q && b)) (sym g)))
  where
    adds : (h n t w : Bool) → ((h || (n && t)) || (n && w)) ≡ (h || (n && (t || w)))
    adds true n t w = refl
    adds false true t w = refl
    adds false false t w = refl

-- the two sides of a branch meet at a node: the one that waited is taken away, and the ways before the branch still come
pub meet_step : (v : ℕ → Bool) (waits waits' : List Way) (node : ℕ) (todo todo' before : List Way) (w other : Way) (gate : ℕ) (q : ℕ)
    → held v waits q ≡ ((nat_eq other.node q && v other.gate.at) || held v waits' q) → other.node ≡ node → other.gate.at ≡ gate
    → todo' ≡ todo ++ before → (v w.gate.at || v gate) ≡ any v before
    → held_with v waits' node todo' q ≡ held_with v waits node (w ∷ todo) q
meet_step v waits waits' node todo todo' before w other gate q e at is f law =
    ap (λ ws. held v waits' q || (nat_eq node q && any v ws)) f
    ∙ (ap (λ b. held v waits' q || (nat_eq node q && b)) (any_append v todo before)
    ∙ (meets_law (held v waits' q) (nat_eq node q) (v w.gate.at) (v gate) (any v before) (any v todo) law
    ∙ ap (λ b. b || (nat_eq node q && (v w.gate.at || any v todo))) (sym (e ∙ (ap (λ n. (nat_eq n q && v other.gate.at) || held v waits' q) at
    ∙ ap (λ g. (nat_eq node q && v g) || held v waits' q) is)))))

pub before_read : (xs : List Split) (k : ℕ) (x : Split) → x ≡ get_or xs k x → k < length xs → ways_top x.before.items ≤ splits_top xs
before_read xs k x at h = subst (λ (z : Split). ways_top z.before.items ≤ splits_top xs) (sym at) (before_below xs k x h)

pub ways_top_take : (xs : List Way) (i : ℕ) (d : Way) → i < length xs → ways_top (take (i + 1) xs) ≡ max (ways_top (take i xs)) ((get_or xs i d).gate.at + 1)
ways_top_take xs i d h = ap ways_top (take_more xs i d h) ∙ ways_top_push (take i xs) (get_or xs i d)

-- a way is put beside those at a node, or beside the others
pub record Sorted (node : ℕ) (done ways others : List Way) : Type 0 where
  pub taken : (v : ℕ → Bool) → any v ways ≡ held v done node
  pub gone : (v : ℕ → Bool) → held v others node ≡ false
  pub same : (v : ℕ → Bool) (q : ℕ) → nat_eq node q ≡ false → held v others q ≡ held v done q
  pub here : ways_top ways ≤ ways_top done
  pub rest : ways_top others ≤ ways_top done

pub sorted_none : (node : ℕ) (here rest : List Way) → here ≡ [] → rest ≡ [] → Sorted node [] here rest
sorted_none node here rest e f = record {
  taken = λ v. ap (any v) e;
  gone = λ v. ap (λ ws. held v ws node) f;
  same = λ v q n. ap (λ ws. held v ws q) f;
  here = omega (arith, ap ways_top e);
  rest = omega (arith, ap ways_top f);
}

pub sorted_step : (node : ℕ) (xs : List Way) (i : ℕ) (d : Way) (here rest here' rest' : List Way) → i < length xs
    → here' ≡ (if nat_eq (get_or xs i d).node node then here ++ get_or xs i d ∷ [] else here)
    → rest' ≡ (if nat_eq (get_or xs i d).node node then rest else rest ++ get_or xs i d ∷ [])
    → Sorted node (take i xs) here rest → Sorted node (take (i + 1) xs) here' rest'
sorted_step node xs i d here rest here' rest' h e f s =
    subst (λ (ws : List Way). Sorted node ws here' rest') (sym (take_more xs i d h))
    (one (get_or xs i d) (nat_eq (get_or xs i d).node node) refl here' rest' e f)
  where
    elsewhere : (w : Way) (q : ℕ) → nat_eq w.node node ≡ true → nat_eq node q ≡ false → nat_eq w.node q ≡ false
    elsewhere w q at n = subst (λ (k : ℕ). nat_eq k q ≡ false) (sym (eqb-true w.node node at)) n

    one : (w : Way) (same : Bool) → nat_eq w.node node ≡ same → (a b : List Way) → a ≡ (if same then here ++ w ∷ [] else here) → b ≡ (if same then rest else rest ++ w ∷ [])
        → Sorted node (take i xs ++ w ∷ []) a b
    one w true at a b e f = record {
      taken = λ v. ap (any v) e ∙ (any_push v here w ∙ (ap (λ t. t || v w.gate.at) (s.taken v) ∙ (ap (λ t. held v (take i xs) node || (t && v w.gate.at)) (sym at) ∙ sym (held_push v (take i xs) w node))));
      gone = λ v. ap (λ ws. held v ws node) f ∙ s.gone v;
      same = λ v q n. ap (λ ws. held v ws q) f ∙ (s.same v q n ∙ (sym (or_false (held v (take i xs) q)) ∙ (ap (λ t. held v (take i xs) q || (t && v w.gate.at)) (sym (elsewhere w q at n)) ∙ sym (held_push v (take i xs) w q))));
      here = omega (arith, ap ways_top e, ways_top_push here w, ways_top_push (take i xs) w, s.here);
      rest = omega (arith, ap ways_top f, ways_top_push (take i xs) w, s.rest);
    }
    one w false at a b e f = record {
      taken = λ v. ap (any v) e ∙ (s.taken v ∙ (sym (or_false (held v (take i xs) node)) ∙ (ap (λ t. held v (take i xs) node || (t && v w.gate.at)) (sym at) ∙ sym (held_push v (take i xs) w node))));
      gone = λ v. ap (λ ws. held v ws node) f ∙ (held_push v rest w node ∙ (ap (λ t. t || (nat_eq w.node node && v w.gate.at)) (s.gone v) ∙ ap (λ t. t && v w.gate.at) at));
      same = λ v q n. ap (λ ws. held v ws q) f ∙ (held_push v rest w q ∙ (ap (λ t. t || (nat_eq w.node q && v w.gate.at)) (s.same v q n) ∙ sym (held_push v (take i xs) w q)));
      here = omega (arith, ap ways_top e, ways_top_push (take i xs) w, s.here);
      rest = omega (arith, ap ways_top f, ways_top_push rest w, ways_top_push (take i xs) w, s.rest);
    }

-- the last way has its turn
pub turned : (v : ℕ → Bool) (waits : List Way) (node : ℕ) (todo rest : List Way) (w : Way) → todo ≡ rest ++ w ∷ [] → (q : ℕ)
    → held_with v waits node (w ∷ rest) q ≡ held_with v waits node todo q
turned v waits node todo rest w e q =
    ap (λ t. held v waits q || (nat_eq node q && t)) (or_comm (v w.gate.at) (any v rest) ∙ (sym (any_push v rest w) ∙ ap (any v) (sym e)))

pub turned_top : (todo rest : List Way) (w : Way) → todo ≡ rest ++ w ∷ [] → ways_top todo ≡ max (ways_top rest) (w.gate.at + 1)
turned_top todo rest w e = ap ways_top e ∙ ways_top_push rest w

-- the two sides of a branch, each at its node
pub parted : (v : ℕ → Bool) (old waits new : List Way) (h m : Way) (q : ℕ) → held v waits q ≡ held_with v old h.node (h ∷ []) q → held v new q ≡ held_with v waits m.node (m ∷ []) q
    → held v new q ≡ (held v old q || (nat_eq h.node q && v h.gate.at) || (nat_eq m.node q && v m.gate.at))
parted v old waits new h m q e f =
    f ∙ (ap (λ b. held v waits q || (nat_eq m.node q && b)) (or_false (v m.gate.at))
    ∙ ap (λ b. b || (nat_eq m.node q && v m.gate.at)) (e ∙ ap (λ b. held v old q || (nat_eq h.node q && b)) (or_false (v h.gate.at))))

-- the ways of a branch whose test holds for each of them, or for none
pub all_hit : (v : ℕ → Bool) (old new : List Way) (ways : List Way) (gate hits test hit miss : ℕ) (q : ℕ) → held v new q ≡ held_with v old hit ways q
    → v gate ≡ any v ways → v hits ≡ (v gate && v test) → hits ≡ gate
    → held v new q ≡ (held v old q || (nat_eq hit q && (any v ways && v test)) || (nat_eq miss q && (any v ways && not (v test))))
all_hit v old new ways gate hits test hit miss q e at is same =
    e ∙ table (held v old q) (nat_eq hit q) (nat_eq miss q) (any v ways) (v test) (sym at ∙ (ap v (sym same) ∙ (is ∙ ap (λ b. b && v test) at)))
  where
    table : (h n m g t : Bool) → g ≡ (g && t) → (h || (n && g)) ≡ (h || (n && (g && t)) || (m && (g && not t)))
    table true n m g t e = refl
    table false true true true true e = refl
    table false true true true false e = absurd (cc)
    table false true true false true e = refl
    table false true true false false e = refl
    table false true false true true e = refl
    table false true false true false e = absurd (cc)
    table false true false false true e = refl
    table false true false false false e = refl
    table false false true true true e = refl
    table false false true true false e = absurd (cc)
    table false false true false true e = refl
    table false false true false false e = refl
    table false false false true true e = refl
    table false false false true false e = absurd (cc)
    table false false false false true e = refl
    table false false false false false e = refl

pub all_miss : (v : ℕ → Bool) (old new : List Way) (ways : List Way) (gate misses fails test hit miss : ℕ) (q : ℕ) → held v new q ≡ held_with v old miss ways q
    → v gate ≡ any v ways → v misses ≡ (v gate && v fails) → v fails ≡ not (v test) → misses ≡ gate
    → held v new q ≡ (held v old q || (nat_eq hit q && (any v ways && v test)) || (nat_eq miss q && (any v ways && not (v test))))
all_miss v old new ways gate misses fails test hit miss q e at is f same =
    e ∙ table (held v old q) (nat_eq hit q) (nat_eq miss q) (any v ways) (v test) (sym at ∙ (ap v (sym same) ∙ (is ∙ (ap (λ b. b && v fails) at ∙ ap (λ b. any v ways && b) f))))
  where
    table : (h n m g t : Bool) → g ≡ (g && not t) → (h || (m && g)) ≡ (h || (n && (g && t)) || (m && (g && not t)))
    table true n m g t e = refl
    table false true true true true e = absurd (cc)
    table false true true true false e = refl
    table false true true false true e = refl
    table false true true false false e = refl
    table false true false true true e = absurd (cc)
    table false true false true false e = refl
    table false true false false true e = refl
    table false true false false false e = refl
    table false false true true true e = absurd (cc)
    table false false true true false e = refl
    table false false true false true e = refl
    table false false true false false e = refl
    table false false false true true e = absurd (cc)
    table false false false true false e = refl
    table false false false false true e = refl
    table false false false false false e = refl

-- the two gates of a branch, put together
pub sides : (g t : Bool) → ((g && t) || (g && not t)) ≡ g
sides true true = refl
sides true false = refl
sides false t = refl
