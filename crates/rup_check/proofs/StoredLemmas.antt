-- Clauses by number, and the list of those that are there.

use Rattle.std.proofs.Common.{◌≡◌, ℕ, zero, suc, ◌+◌, ◌<◌, ◌≤◌, ◌⊎◌, inl, inr, List, [], ◌∷◌, ◌++◌, length, set, get_or, slice_get, Option, None, Some, IsSome, refl, sym, subst, ap, ◌∙◌, ⊎_elim, arith}
use Rattle.std.specs.List.{Contains}
use Rattle.std.proofs.lemmas.Bool.{cases_eq, false≢true}
use Rattle.std.proofs.lemmas.List.Elements.{Contains-append_right}
use Rattle.std.proofs.lemmas.Option.{slice_get_within}
use Rattle.sat_base.specs.declared.literal.Lit.{Lit}
use Rattle.sat_base.specs.Logic.{LitsBelow}
use Rattle.sat_base.specs.Certificates.{TakesOut}
use Rattle.sat_pool.specs.declared.pool.Ref.{Ref}
use Rattle.sat_pool.specs.Region.{Block, reads}
use Rattle.rup_check.specs.Stored.{entries, AllLive, present, StoredBelow, IsFound, IsNowhere}

abbrev pub Keeps : List Block → List Block → Type 0
Keeps old new = (q : ℕ) (c : List Lit) → reads old q ≡ Some c → reads new q ≡ Some c

some_of : {A : Type 0} (o : Option A) → IsSome o → (a : A) × (o ≡ Some a)
some_of None h = absurd (false≢true h)
some_of (Some a) h = (a, refl)

is_some_from : {A : Type 0} (o : Option A) (a : A) → o ≡ Some a → IsSome o
is_some_from o a e = subst IsSome (sym e) refl

pub length-entries : (bs : List Block) (es : List (Option Ref)) → length (entries bs es) ≡ length es
length-entries bs [] = refl
length-entries bs (None ∷ es) = ap suc (length-entries bs es)
length-entries bs (Some r ∷ es) = ap suc (length-entries bs es)

pub entries-some : (bs : List Block) (es : List (Option Ref)) (i : ℕ) (r : Ref) (c : List Lit) → slice_get es i ≡ Some (Some r) → reads bs r.at ≡ Some c
    → slice_get (entries bs es) i ≡ Some (Some c)
entries-some bs [] i r c h is = absurd (cc h)
entries-some bs (None ∷ es) zero r c h is = absurd (cc h)
entries-some bs (None ∷ es) (suc i) r c h is = entries-some bs es i r c h is
entries-some bs (Some s ∷ es) zero r c h is = let e : s ≡ r = cc h in ap Some (ap (λ (x : Ref). reads bs x.at) e ∙ is)
entries-some bs (Some s ∷ es) (suc i) r c h is = entries-some bs es i r c h is

pub entries-none : (bs : List Block) (es : List (Option Ref)) (i : ℕ) (c : List Lit) → ((r : Ref) → slice_get es i ≡ Some (Some r) → ⊥)
    → slice_get (entries bs es) i ≡ Some (Some c) → ⊥
entries-none bs [] i c h k = cc k
entries-none bs (None ∷ es) zero c h k = cc k
entries-none bs (None ∷ es) (suc i) c h k = entries-none bs es i c h k
entries-none bs (Some s ∷ es) zero c h k = h s refl
entries-none bs (Some s ∷ es) (suc i) c h k = entries-none bs es i c h k

pub entries-push : (bs : List Block) (es : List (Option Ref)) (r : Ref) → entries bs (es ++ Some r ∷ []) ≡ entries bs es ++ reads bs r.at ∷ []
entries-push bs [] r = refl
entries-push bs (None ∷ es) r = ap (λ t. None ∷ t) (entries-push bs es r)
entries-push bs (Some s ∷ es) r = ap (λ t. reads bs s.at ∷ t) (entries-push bs es r)

pub entries-kept : (old new : List Block) (es : List (Option Ref)) → AllLive old es → Keeps old new → entries new es ≡ entries old es
entries-kept old new [] live keeps = refl
entries-kept old new (None ∷ es) live keeps = ap (λ t. None ∷ t) (entries-kept old new es (λ i r h. live (suc i) r h) keeps)
entries-kept old new (Some s ∷ es) live keeps =
    let t = some_of (reads old s.at) (live 0 s refl) in
    let same : reads new s.at ≡ reads old s.at = keeps s.at t.0 t.1 ∙ sym t.1 in
    ap (λ x. x ∷ entries new es) same ∙ ap (λ x. reads old s.at ∷ x) (entries-kept old new es (λ i r h. live (suc i) r h) keeps)

pub entries-set : (bs : List Block) (es : List (Option Ref)) (i : ℕ) → entries bs (set es i None) ≡ set (entries bs es) i None
entries-set bs [] i = refl
entries-set bs (None ∷ es) zero = refl
entries-set bs (Some r ∷ es) zero = refl
entries-set bs (None ∷ es) (suc i) = ap (λ t. None ∷ t) (entries-set bs es i)
entries-set bs (Some r ∷ es) (suc i) = ap (λ t. reads bs r.at ∷ t) (entries-set bs es i)

pub live-kept : (old new : List Block) (es : List (Option Ref)) → AllLive old es → Keeps old new → AllLive new es
live-kept old new es live keeps i r h = let t = some_of (reads old r.at) (live i r h) in is_some_from (reads new r.at) t.0 (keeps r.at t.0 t.1)

-- what stands in a list with one more
pub pushed_at : {A : Type 0} (es : List (Option A)) (r : A) (i : ℕ) (s : A) → slice_get (es ++ Some r ∷ []) i ≡ Some (Some s)
    → (slice_get es i ≡ Some (Some s)) ⊎ (r ≡ s)
pushed_at [] r zero s h = inr (cc h)
pushed_at [] r (suc i) s h = absurd (cc h)
pushed_at (x ∷ xs) r zero s h = inl h
pushed_at (x ∷ xs) r (suc i) s h = pushed_at xs r i s h

pub live-push : (old new : List Block) (es : List (Option Ref)) (r : Ref) (c : List Lit) → AllLive old es → Keeps old new → reads new r.at ≡ Some c
    → AllLive new (es ++ Some r ∷ [])
live-push old new es r c live keeps is i s h =
    ⊎_elim (λ k. live-kept old new es live keeps i s k) (λ e. subst (λ (x : Ref). IsSome (reads new x.at)) e (is_some_from (reads new r.at) c is)) (pushed_at es r i s h)

-- what stands in a list after a place was emptied stood there before
pub emptied_at : {A : Type 0} (es : List (Option A)) (n i : ℕ) (s : A) → slice_get (set es n None) i ≡ Some (Some s) → slice_get es i ≡ Some (Some s)
emptied_at [] n i s h = h
emptied_at (x ∷ xs) zero zero s h = absurd (cc h)
emptied_at (x ∷ xs) zero (suc i) s h = h
emptied_at (x ∷ xs) (suc n) zero s h = h
emptied_at (x ∷ xs) (suc n) (suc i) s h = emptied_at xs n i s h

pub live-set : (bs : List Block) (es : List (Option Ref)) (n : ℕ) → AllLive bs es → AllLive bs (set es n None)
live-set bs es n live i r h = live i r (emptied_at es n i r h)

-- ---- the clauses that are there

pub head_in : {A : Type 0} (x : A) (xs : List A) → Contains (x ∷ xs) x
head_in x xs = (0, omega arith, refl)

pub tail_in : {A : Type 0} (x y : A) (xs : List A) → Contains xs y → Contains (x ∷ xs) y
tail_in x y xs h = let low = h.1 in (suc h.0, omega (arith, low), h.2)

pub cons_cases : {A : Type 0} (x y : A) (xs : List A) (k : ℕ) → k < length (x ∷ xs) → get_or (x ∷ xs) k y ≡ y → (x ≡ y) ⊎ Contains xs y
cons_cases x y xs zero low e = inl e
cons_cases x y xs (suc k) low e = inr (k, omega (arith, low), e)

pub present_has : (es : List (Option (List Lit))) (i : ℕ) (c : List Lit) → slice_get es i ≡ Some (Some c) → Contains (present es) c
present_has [] i c h = absurd (cc h)
present_has (None ∷ es) zero c h = absurd (cc h)
present_has (None ∷ es) (suc i) c h = present_has es i c h
present_has (Some d ∷ es) zero c h = let e : d ≡ c = cc h in subst (λ (x : List Lit). Contains (d ∷ present es) x) e (head_in d (present es))
present_has (Some d ∷ es) (suc i) c h = tail_in d c (present es) (present_has es i c h)

pub has_present : (es : List (Option (List Lit))) (c : List Lit) → Contains (present es) c → (i : ℕ) × (slice_get es i ≡ Some (Some c))
has_present [] c h = let low = h.1 in absurd (omega (arith, low))
has_present (None ∷ es) c h = let t = has_present es c h in (suc t.0, t.1)
has_present (Some d ∷ es) c h =
    ⊎_elim (λ e. (0, ap (λ (x : List Lit). Some (Some x)) e)) (λ k. let t = has_present es c k in (suc t.0, t.1)) (cons_cases d c (present es) h.0 h.1 h.2)

pub present-push : (es : List (Option (List Lit))) (c : List Lit) → present (es ++ Some c ∷ []) ≡ present es ++ c ∷ []
present-push [] c = refl
present-push (None ∷ es) c = present-push es c
present-push (Some d ∷ es) c = ap (λ t. d ∷ t) (present-push es c)

-- the clauses before and after one that is taken out
record Cut (es : List (Option (List Lit))) (i : ℕ) (c : List Lit) : Type 0 where
  before : List (List Lit)
  after : List (List Lit)
  whole : present es ≡ before ++ c ∷ after
  rest : present (set es i None) ≡ before ++ after

cut : (es : List (Option (List Lit))) (i : ℕ) (c : List Lit) → slice_get es i ≡ Some (Some c) → Cut es i c
cut [] i c h = absurd (cc h)
cut (x ∷ es) zero c h =
    let e : x ≡ Some c = cc h in
    record { before = []; after = present es; whole = ap (λ (o : Option (List Lit)). present (o ∷ es)) e; rest = refl }
cut (None ∷ es) (suc i) c h = let t = cut es i c h in record { before = t.before; after = t.after; whole = t.whole; rest = t.rest }
cut (Some d ∷ es) (suc i) c h =
    let t = cut es i c h in
    record { before = d ∷ t.before; after = t.after; whole = ap (λ l. d ∷ l) t.whole; rest = ap (λ l. d ∷ l) t.rest }

-- a clause that was found is taken out
pub takes_out : (es : List (Option (List Lit))) (clause : List Lit) (i : ℕ) → IsFound es clause i → TakesOut (present es) clause (present (set es i None))
takes_out es clause i h =
    let t = cut es i h.0 h.1 in
    record { before = t.before; after = t.after; out = h.0; whole = t.whole; same = h.2; rest = t.rest }

-- nothing can be taken out where nothing is found
pub takes_nothing : (es : List (Option (List Lit))) (clause : List Lit) → IsNowhere es clause → (next : List (List Lit)) → TakesOut (present es) clause next → ⊥
takes_nothing es clause none next t =
    let there = has_present es t.out (subst (λ cs. Contains cs t.out) (sym t.whole) (Contains-append_right t.before (t.out ∷ t.after) t.out (head_in t.out t.after))) in
    none there.0 (t.out, there.1, t.same)

pub below_push : (n : ℕ) (es : List (Option (List Lit))) (c : List Lit) → StoredBelow n es → LitsBelow n c → StoredBelow n (es ++ Some c ∷ [])
below_push n es c below low i d h = ⊎_elim (λ k. below i d k) (λ e. subst (λ x. LitsBelow n x) e low) (pushed_at es c i d h)

pub below_set : (n i : ℕ) (es : List (Option (List Lit))) → StoredBelow n es → StoredBelow n (set es i None)
below_set n k es below i d h = below i d (emptied_at es k i d h)

pub found_within : (es : List (Option (List Lit))) (clause : List Lit) (i : ℕ) → IsFound es clause i → i < length es
found_within es clause i h = slice_get_within es i (Some h.0) h.1

-- nothing is found among the first numbers
pub nowhere_more : (es : List (Option (List Lit))) (clause : List Lit) (i : ℕ) → (IsFound es clause i → ⊥)
    → ((j : ℕ) → j < i → IsFound es clause j → ⊥) → (j : ℕ) → j < i + 1 → IsFound es clause j → ⊥
nowhere_more es clause i here before j low h =
    ⊎_elim (λ e. here (subst (λ k. IsFound es clause k) e h)) (λ ne. before j (omega (arith, low, ne)) h) (cases_eq j i)

pub nowhere_all : (es : List (Option (List Lit))) (clause : List Lit) (i : ℕ) → length es ≤ i → ((j : ℕ) → j < i → IsFound es clause j → ⊥) → IsNowhere es clause
nowhere_all es clause i over before j h = let low = found_within es clause j h in before j (omega (arith, low, over)) h
