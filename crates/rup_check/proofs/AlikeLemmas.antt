-- Which of several clauses with the same set of literals is taken out does not matter. Lists of clauses
-- are alike where each set of literals is there equally often. Alike lists allow the same steps.

use Rattle.std.proofs.Common.{◌≡◌, ℕ, zero, suc, ◌+◌, ◌≤◌, ◌⊎◌, inl, inr, false, List, [], ◌∷◌, ◌++◌, map, length, take, slice_get, None, Some, refl, sym, subst, ap, ◌∙◌, ⊎_elim, arith}
use Rattle.std.specs.List.{Contains}
use Rattle.std.proofs.lemmas.List.Elements.{Contains-append_right}
use Rattle.sat_base.specs.declared.literal.Lit.{Lit}
use Rattle.sat_base.specs.declared.certificate.Step.{Step}
use Rattle.sat_base.specs.declared.certificate.Step.TheVariants.{Add, Drop}
use Rattle.sat_base.specs.Logic.{negation}
use Rattle.sat_base.specs.Certificates.{Forced, by_assumption, by_clause, IsRup, HasSameLits, TakesOut, IsStep, IsCertificate}
use Rattle.rup_check.specs.Checked.{Reaches, ends_empty, IsRefusal}
use Rattle.rup_check.proofs.MarkingLemmas.{lit_cases}
use Rattle.rup_check.proofs.StoredLemmas.{head_in, tail_in, cons_cases}

same_refl : (c : List Lit) → HasSameLits c c
same_refl c = record { forth = λ l h. h; back = λ l h. h }

same_sym : (c d : List Lit) → HasSameLits c d → HasSameLits d c
same_sym c d h = record { forth = h.back; back = h.forth }

same_trans : (c d e : List Lit) → HasSameLits c d → HasSameLits d e → HasSameLits c e
same_trans c d e h k = record { forth = λ l x. k.forth l (h.forth l x); back = λ l x. h.back l (k.back l x) }

in_cons : (x l : Lit) (c : List Lit) → Contains (x ∷ c) l → (x ≡ l) ⊎ Contains c l
in_cons x l c h = cons_cases x l c h.0 h.1 h.2

in_cases : (c : List Lit) (l : Lit) → Contains c l ⊎ (Contains c l → ⊥)
in_cases [] l = inr (λ h. let low = h.1 in omega (arith, low))
in_cases (x ∷ c) l =
    ⊎_elim
    (λ same. inl (subst (λ y. Contains (x ∷ c) y) same (head_in x c)))
    (λ other.
    ⊎_elim (λ there. inl (tail_in x l c there)) (λ none. inr (λ h. ⊎_elim (λ e. other e) (λ k. none k) (in_cons x l c h))) (in_cases c l))
    (lit_cases x l)

within_cases : (c d : List Lit) → ((l : Lit) → Contains c l → Contains d l) ⊎ (((l : Lit) → Contains c l → Contains d l) → ⊥)
within_cases [] d = inl (λ l h. let low = h.1 in absurd (omega (arith, low)))
within_cases (x ∷ c) d =
    ⊎_elim
    (λ here.
    ⊎_elim
    (λ rest. inl (λ l h. ⊎_elim (λ e. subst (λ y. Contains d y) e here) (λ k. rest l k) (in_cons x l c h)))
    (λ bars. inr (λ all. bars (λ l k. all l (tail_in x l c k))))
    (within_cases c d))
    (λ none. inr (λ all. none (all x (head_in x c))))
    (in_cases d x)

same_cases : (c d : List Lit) → HasSameLits c d ⊎ (HasSameLits c d → ⊥)
same_cases c d =
    ⊎_elim
    (λ forth. ⊎_elim (λ back. inl (record { forth = forth; back = back })) (λ bars. inr (λ h. bars h.back)) (within_cases d c))
    (λ bars. inr (λ h. bars h.forth))
    (within_cases c d)

bit_of : {A B : Type 0} → A ⊎ B → ℕ
bit_of (inl a) = 1
bit_of (inr b) = 0

bit_yes : {A : Type 0} (o : A ⊎ (A → ⊥)) → A → bit_of o ≡ 1
unfolding bit_of
bit_yes (inl b) a = refl
bit_yes (inr n) a = absurd (n a)

bit_no : {A : Type 0} (o : A ⊎ (A → ⊥)) → (A → ⊥) → bit_of o ≡ 0
unfolding bit_of
bit_no (inl b) n = absurd (n b)
bit_no (inr m) n = refl

-- 1 where the two have the same set of literals, else 0
pub weight : List Lit → List Lit → ℕ
weight c d = bit_of (same_cases c d)

weight_yes : (c d : List Lit) → HasSameLits c d → weight c d ≡ 1
unfolding weight
weight_yes c d h = bit_yes (same_cases c d) h

weight_no : (c d : List Lit) → (HasSameLits c d → ⊥) → weight c d ≡ 0
unfolding weight
weight_no c d h = bit_no (same_cases c d) h

weight_same : (c d e : List Lit) → HasSameLits d e → weight c d ≡ weight c e
weight_same c d e h =
    ⊎_elim
    (λ yes. weight_yes c d yes ∙ sym (weight_yes c e (same_trans c d e yes h)))
    (λ bars. weight_no c d bars ∙ sym (weight_no c e (λ k. bars (same_trans c e d k (same_sym d e h)))))
    (same_cases c d)

-- how many clauses of a list have this set of literals
abbrev pub count : List Lit → List (List Lit) → ℕ
count c [] = 0
count c (d ∷ ds) = weight c d + count c ds

count-append : (c : List Lit) (xs ys : List (List Lit)) → count c (xs ++ ys) ≡ count c xs + count c ys
count-append c [] ys = omega arith
count-append c (x ∷ xs) ys = let more = count-append c xs ys in omega (arith, more)

pub record Alike (cs ds : List (List Lit)) : Type 0 where
  pub equal : (c : List Lit) → count c cs ≡ count c ds

pub alike_refl : (cs : List (List Lit)) → Alike cs cs
alike_refl cs = record { equal = λ c. refl }

alike_sym : (cs ds : List (List Lit)) → Alike cs ds → Alike ds cs
alike_sym cs ds a = record { equal = λ c. sym (a.equal c) }

taken_count : (cs next : List (List Lit)) (x c : List Lit) → TakesOut cs x next → count c cs ≡ count c next + weight c x
taken_count cs next x c t =
    let whole = ap (count c) t.whole ∙ count-append c t.before (t.out ∷ t.after) in
    let rest = ap (count c) t.rest ∙ count-append c t.before t.after in
    let one = weight_same c t.out x t.same in
    omega (arith, whole, rest, one)

alike_taken : (cs ds cs2 ds2 : List (List Lit)) (x : List Lit) → Alike cs ds → TakesOut cs x cs2 → TakesOut ds x ds2 → Alike cs2 ds2
alike_taken cs ds cs2 ds2 x a t u = record {
  equal = λ c. let one = taken_count cs cs2 x c t in let other = taken_count ds ds2 x c u in let same = a.equal c in omega (arith, one, other, same);
}

alike_push : (cs ds : List (List Lit)) (x : List Lit) → Alike cs ds → Alike (cs ++ x ∷ []) (ds ++ x ∷ [])
alike_push cs ds x a = record {
  equal = λ c.
      let one = count-append c cs (x ∷ []) in
      let other = count-append c ds (x ∷ []) in
      let same = a.equal c in omega (arith, one, other, same);
}

-- a clause and those before and after it
record Split (ds : List (List Lit)) (d : List Lit) : Type 0 where
  before : List (List Lit)
  after : List (List Lit)
  whole : ds ≡ before ++ d ∷ after

split_at : (ds : List (List Lit)) (d : List Lit) → Contains ds d → Split ds d
split_at [] d h = let low = h.1 in absurd (omega (arith, low))
split_at (x ∷ ds) d h =
    ⊎_elim
    (λ e. record { before = []; after = ds; whole = ap (λ (y : List Lit). y ∷ ds) e })
    (λ k. let t = split_at ds d k in record { before = x ∷ t.before; after = t.after; whole = ap (λ (ys : List (List Lit)). x ∷ ys) t.whole })
    (cons_cases x d ds h.0 h.1 h.2)

count_has : (c : List Lit) (cs : List (List Lit)) → Contains cs c → 1 ≤ count c cs
count_has c cs h =
    let t = split_at cs c h in
    let whole = ap (count c) t.whole ∙ count-append c t.before (c ∷ t.after) in
    let one = weight_yes c c (same_refl c) in
    omega (arith, whole, one)

find_same : (c : List Lit) (ds : List (List Lit)) → 1 ≤ count c ds → (d : List Lit) × Contains ds d × HasSameLits c d
find_same c [] h = absurd (omega (arith, h))
find_same c (d ∷ ds) h =
    ⊎_elim
    (λ yes. (d, head_in d ds, yes))
    (λ bars.
    let zero_here = weight_no c d bars in
    let rest : 1 ≤ count c ds = omega (arith, zero_here, h) in
    let t = find_same c ds rest in (t.0, tail_in d t.0 ds t.1, t.2))
    (same_cases c d)

alike_has : (cs ds : List (List Lit)) → Alike cs ds → (c : List Lit) → Contains cs c → (d : List Lit) × Contains ds d × HasSameLits c d
alike_has cs ds a c h = let low = count_has c cs h in let same = a.equal c in find_same c ds (omega (arith, low, same))

forced_alike : (cs ds : List (List Lit)) (given : List Lit) (l : Lit) → Alike cs ds → Forced cs given l → Forced ds given l
forced_alike cs ds given _ a (by_assumption l h) = by_assumption l h
forced_alike cs ds given _ a (by_clause c l one has others) =
    let t = alike_has cs ds a c one in
    by_clause t.0 l t.1 (t.2.forth l has) (λ q there ne. forced_alike cs ds given (negation q) a (others q (t.2.back q there) ne))

rup_alike : (cs ds : List (List Lit)) (c : List Lit) → Alike cs ds → IsRup cs c → IsRup ds c
rup_alike cs ds c a h =
    let t = alike_has cs ds a h.clause h.one in
    record { clause = t.0; one = t.1; forced = λ q there. forced_alike cs ds (map negation c) (negation q) a (h.forced q (t.2.back q there)) }

-- a step that is allowed for one list is allowed for an alike one
allowed_alike : (cs ds cs2 : List (List Lit)) (s : Step) → Alike cs ds → IsStep cs s cs2 → (ds2 : List (List Lit)) × IsStep ds s ds2
allowed_alike cs ds cs2 (Add c) a h = (ds ++ c ∷ [], (rup_alike cs ds c a h.0, refl))
allowed_alike cs ds cs2 (Drop x) a h =
    let there = subst (λ ys. Contains ys h.out) (sym h.whole) (Contains-append_right h.before (h.out ∷ h.after) h.out (head_in h.out h.after)) in
    let t = alike_has cs ds a h.out there in
    let parts = split_at ds t.0 t.1 in (
      parts.before ++ parts.after,
      record {
        before = parts.before;
        after = parts.after;
        out = t.0;
        whole = parts.whole;
        same = same_trans t.0 h.out x (same_sym h.out t.0 t.2) h.same;
        rest = refl;
      },
    )

-- and leaves an alike one
steps_alike : (cs ds cs2 ds2 : List (List Lit)) (s : Step) → Alike cs ds → IsStep cs s cs2 → IsStep ds s ds2 → Alike cs2 ds2
steps_alike cs ds cs2 ds2 (Add c) a h k =
    subst (λ xs. Alike xs ds2) (sym h.1) (subst (λ ys. Alike (cs ++ c ∷ []) ys) (sym k.1) (alike_push cs ds c a))
steps_alike cs ds cs2 ds2 (Drop x) a h k = alike_taken cs ds cs2 ds2 x a h k

-- the first step of a certificate is allowed
first_step : (ds : List (List Lit)) (s : Step) (rest : List Step) → IsCertificate ds (s ∷ rest) → (next : List (List Lit)) × IsStep ds s next
first_step ds (Add []) [] h = (ds ++ [] ∷ [], (h, refl))
first_step ds (Add []) (t ∷ rest) h = (h.0, h.1)
first_step ds (Add (l ∷ ls)) rest h = (h.0, h.1)
first_step ds (Drop c) rest h = (h.0, h.1)

-- step k is refused after those before it, or there is none and the last does not add the empty clause
abbrev Refuses : List (List Lit) → List Step → ℕ → Type 0
Refuses now steps k =
    ((s : Step) → slice_get steps k ≡ Some s → (next : List (List Lit)) → IsStep now s next → ⊥)
    × (slice_get steps k ≡ None → ends_empty steps ≡ false)

meets : (cs ds : List (List Lit)) (steps : List Step) (k : ℕ) (now : List (List Lit)) → Alike cs ds → Reaches cs (take k steps) now → Refuses now steps k
    → IsCertificate ds steps → ⊥
meets cs ds [] k now a r bars h = h
meets cs ds (s ∷ rest) zero now a r bars h =
    let first = first_step ds s rest h in
    let step = allowed_alike ds cs first.0 s (alike_sym cs ds a) first.1 in
    bars.0 s refl step.0 (subst (λ xs. IsStep xs s step.0) (sym r) step.1)
meets cs ds (Add [] ∷ []) (suc k) now a r bars h = absurd (cc (bars.1 refl))
meets cs ds (Add (l ∷ ls) ∷ []) (suc k) now a r bars h = h.2
meets cs ds (Drop c ∷ []) (suc k) now a r bars h = h.2
meets cs ds (Add [] ∷ (t ∷ rest)) (suc k) now a r bars h = meets r.0 h.0 (t ∷ rest) k now (steps_alike cs ds r.0 h.0 (Add []) a r.1 h.1) r.2 bars h.2
meets cs ds (Add (l ∷ ls) ∷ (t ∷ rest)) (suc k) now a r bars h =
    meets r.0 h.0 (t ∷ rest) k now (steps_alike cs ds r.0 h.0 (Add (l ∷ ls)) a r.1 h.1) r.2 bars h.2
meets cs ds (Drop c ∷ (t ∷ rest)) (suc k) now a r bars h = meets r.0 h.0 (t ∷ rest) k now (steps_alike cs ds r.0 h.0 (Drop c) a r.1 h.1) r.2 bars h.2

pub refused_not_certified : (clauses : List (List Lit)) (steps : List Step) (k : ℕ) → IsRefusal clauses steps k → IsCertificate clauses steps → ⊥
refused_not_certified clauses steps k h cert =
    meets clauses clauses steps k h.now (alike_refl clauses) h.reached (h.refused, λ none. (h.ended none).1) cert

-- a refusal with what it says of its number
abbrev Stops : List (List Lit) → List Step → ℕ → Type 0
Stops now steps k =
    ((s : Step) → slice_get steps k ≡ Some s → (next : List (List Lit)) → IsStep now s next → ⊥)
    × (slice_get steps k ≡ None → k ≡ length steps)

none_in : (k : ℕ) → slice_get {X = Step} [] k ≡ None
none_in k = refl

fewer : (k : ℕ) (rest : List Step) (s : Step) → suc k ≡ length (s ∷ rest) → k ≡ length rest
fewer k rest s h = omega (arith, h)

at_one : (cs ds : List (List Lit)) (steps : List Step) (k j : ℕ) (now then : List (List Lit)) → Alike cs ds → Reaches cs (take k steps) now → Stops now steps k
    → Reaches ds (take j steps) then → Stops then steps j → k ≡ j
at_one cs ds [] k j now then a r bars q also = bars.1 (none_in k) ∙ sym (also.1 (none_in j))
at_one cs ds (s ∷ rest) zero zero now then a r bars q also = refl
at_one cs ds (s ∷ rest) zero (suc j) now then a r bars q also =
    let step = allowed_alike ds cs q.0 s (alike_sym cs ds a) q.1 in
    absurd (bars.0 s refl step.0 (subst (λ xs. IsStep xs s step.0) (sym r) step.1))
at_one cs ds (s ∷ rest) (suc k) zero now then a r bars q also =
    let step = allowed_alike cs ds r.0 s a r.1 in
    absurd (also.0 s refl step.0 (subst (λ xs. IsStep xs s step.0) (sym q) step.1))
at_one cs ds (s ∷ rest) (suc k) (suc j) now then a r bars q also =
    ap suc
    (at_one r.0 q.0 rest k j now then (steps_alike cs ds r.0 q.0 s a r.1 q.1) r.2 (bars.0, λ none. fewer k rest s (bars.1 none)) q.2
    (also.0, λ none. fewer j rest s (also.1 none)))

pub one_refusal : (clauses : List (List Lit)) (steps : List Step) (k j : ℕ) → IsRefusal clauses steps k → IsRefusal clauses steps j → k ≡ j
one_refusal clauses steps k j h g =
    at_one clauses clauses steps k j h.now g.now (alike_refl clauses) h.reached (h.refused, λ none. (h.ended none).0) g.reached
    (g.refused, λ none. (g.ended none).0)
