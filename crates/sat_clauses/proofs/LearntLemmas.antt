-- The table of the learnt clauses.

use Rattle.std.proofs.Common.{◌≡◌, ◌≢◌, ℕ, zero, suc, ◌+◌, ◌<◌, ◌≤◌, ◌⊎◌, inl, inr, List, [], ◌∷◌, ◌++◌, length, set, slice_get, slice_index, Option, None, Some, IsSome, refl, sym, subst, ap, ◌∙◌, arith}
use Rattle.std.proofs.lemmas.Bool.{false≢true}
use Rattle.sat_base.specs.declared.literal.Lit.{Lit}
use Rattle.sat_pool.specs.declared.pool.Ref.{Ref}
use Rattle.sat_pool.specs.Region.{Block, reads}
use Rattle.sat_clauses.specs.Learnt.{entries, IsTable, Thins, Adds, IsFree, Names, moved_at}
use Rattle.sat_clauses.proofs.HeldLemmas.{Keeps, some_of, is_some}
use Rattle.sat_clauses.proofs.TruthLemmas.{same_or_not, lt_or_le}

-- what a place of the table reads
abbrev pub entry_of : List Block → Option (Option Ref) → Option (Option (List Lit))
entry_of bs None = None
entry_of bs (Some None) = Some None
entry_of bs (Some (Some r)) = Some (reads bs r.at)

pub entries-at : (bs : List Block) (es : List (Option Ref)) (j : ℕ) → slice_get (entries bs es) j ≡ entry_of bs (slice_get es j)
entries-at bs [] j = refl
entries-at bs (None ∷ es) zero = refl
entries-at bs (Some r ∷ es) zero = refl
entries-at bs (None ∷ es) (suc j) = entries-at bs es j
entries-at bs (Some r ∷ es) (suc j) = entries-at bs es j

-- the reference of a clause that is there
pub record Found (bs : List Block) (o : Option (Option Ref)) (c : List Lit) : Type 0 where
  pub r : Ref
  pub is : o ≡ Some (Some r)
  pub read : reads bs r.at ≡ Some c

found_in : (bs : List Block) (o : Option (Option Ref)) (c : List Lit) → entry_of bs o ≡ Some (Some c) → Found bs o c
found_in bs None c h = absurd (cc h)
found_in bs (Some None) c h = absurd (cc h)
found_in bs (Some (Some r)) c h = record { r = r; is = refl; read = cc h }

pub found_at : (bs : List Block) (es : List (Option Ref)) (j : ℕ) (c : List Lit) → slice_get (entries bs es) j ≡ Some (Some c) → Found bs (slice_get es j) c
found_at bs es j c h = found_in bs (slice_get es j) c (sym (entries-at bs es j) ∙ h)

pub read_at : (bs : List Block) (es : List (Option Ref)) (j : ℕ) (r : Ref) (c : List Lit) → slice_get es j ≡ Some (Some r) → reads bs r.at ≡ Some c
    → slice_get (entries bs es) j ≡ Some (Some c)
read_at bs es j r c is read = entries-at bs es j ∙ ap (entry_of bs) is ∙ ap Some read

pub table-kept : (old new : List Block) (es : List (Option Ref)) → IsTable old es → Keeps old new → IsTable new es
table-kept old new es t keeps = record {
  live = λ i r h. let l = some_of (reads old r.at) (t.live i r h) in is_some (reads new r.at) l.0 (keeps r.at l.0 l.1);
  apart = t.apart;
}

not_live : (bs : List Block) (s r : Ref) → IsSome (reads bs s.at) → s.at ≡ r.at → reads bs r.at ≡ None → ⊥
not_live bs s r live same none = absurd (false≢true (subst IsSome (ap (reads bs) same ∙ none) live))

-- what a table has after a number got a reference
set_found : (es : List (Option Ref)) (i j : ℕ) (r s : Ref) → slice_get (set es i (Some r)) j ≡ Some (Some s)
    → ((j ≡ i) × (r ≡ s)) ⊎ (slice_get es j ≡ Some (Some s))
set_found [] i j r s h = inr h
set_found (x ∷ xs) zero zero r s h = inl (refl, cc h)
set_found (x ∷ xs) zero (suc j) r s h = inr h
set_found (x ∷ xs) (suc i) zero r s h = inr h
set_found (x ∷ xs) (suc i) (suc j) r s h =
    elim (set_found xs i j r s h) [
      | inl k ↦ inl (ap suc k.0, k.1)
      | inr k ↦ inr k
    ]

-- a number more has no clause
pub names-push : (es : List (Option Ref)) → Names es (es ++ None ∷ [])
names-push [] zero s h = absurd (cc h)
names-push [] (suc j) s h = absurd (cc h)
names-push (x ∷ xs) zero s h = h
names-push (x ∷ xs) (suc j) s h = names-push xs j s h

pub table-names : (bs : List Block) (es fs : List (Option Ref)) → IsTable bs es → Names es fs → IsTable bs fs
table-names bs es fs t names = record {
  live = λ i r h. t.live i r (names i r h);
  apart = λ i j r s h k same. t.apart i j r s (names i r h) (names j s k) same;
}

-- a clause more
pub table-set : (old new : List Block) (es : List (Option Ref)) (i : ℕ) (r : Ref) (c : List Lit) → IsTable old es → Keeps old new → reads old r.at ≡ None → reads new r.at ≡ Some c
    → IsTable new (set es i (Some r))
table-set old new es i r c t keeps fresh read =
    let before = table-kept old new es t keeps in
    record {
      live = λ j s h.
          elim (set_found es i j r s h) [
            | inl k ↦ subst (λ x. IsSome (reads new x.at)) k.1 (is_some (reads new r.at) c read)
            | inr k ↦ before.live j s k
          ];
      apart = λ j k s u h g same.
          elim (set_found es i j r s h) [
            | inl a ↦
                elim (set_found es i k r u g) [
                  | inl b ↦ a.0 ∙ sym b.0
                  | inr b ↦ absurd (not_live old u r (t.live k u b) (sym same ∙ ap (λ x. x.at) (sym a.1)) fresh)
                ]
            | inr a ↦
                elim (set_found es i k r u g) [
                  | inl b ↦ absurd (not_live old s r (t.live j s a) (same ∙ ap (λ x. x.at) (sym b.1)) fresh)
                  | inr b ↦ t.apart j k s u a b same
                ]
          ];
    }

-- a clause that is read through a reference that was there, was read through it before
read_before : (old new : List Block) (es : List (Option Ref)) (j : ℕ) (r : Ref) (d : List Lit) → IsTable old es → Keeps old new
    → slice_get es j ≡ Some (Some r) → reads new r.at ≡ Some d → slice_get (entries old es) j ≡ Some (Some d)
read_before old new es j r d t keeps there read =
    let l = some_of (reads old r.at) (t.live j r there) in
    let same : l.0 ≡ d = cc (sym (keeps r.at l.0 l.1) ∙ read) in
    read_at old es j r d there (l.1 ∙ ap Some same)

pub adds-none : (old new : List Block) (es fs : List (Option Ref)) (c : List Lit) → IsTable old es → Names es fs → Keeps old new
    → Adds (entries old es) (entries new fs) c
adds-none old new es fs c t names keeps = (
  zero,
  λ j d h.
      let f = found_at new fs j d h in
      inr (read_before old new es j f.r d t keeps (names j f.r f.is) f.read),
)

pub adds-one : (old new : List Block) (es fs : List (Option Ref)) (i : ℕ) (r : Ref) (c : List Lit) → IsTable old es → Names es fs → Keeps old new → reads new r.at ≡ Some c
    → Adds (entries old es) (entries new (set fs i (Some r))) c
adds-one old new es fs i r c t names keeps read = (
  i,
  λ j d h.
      let f = found_at new (set fs i (Some r)) j d h in
      elim (set_found fs i j r f.r f.is) [
        | inl k ↦ let now : reads new f.r.at ≡ Some c = ap (λ x. reads new x.at) (sym k.1) ∙ read in inl (k.0, cc (sym f.read ∙ now))
        | inr k ↦ inr (read_before old new es j f.r d t keeps (names j f.r k) f.read)
      ],
)

pub get-set_same : {A : Type 0} (xs : List A) (i : ℕ) (a b : A) → slice_get xs i ≡ Some b → slice_get (set xs i a) i ≡ Some a
get-set_same [] i a b h = absurd (cc h)
get-set_same (x ∷ xs) zero a b h = refl
get-set_same (x ∷ xs) (suc i) a b h = get-set_same xs i a b h

pub get-set_other : {A : Type 0} (xs : List A) (i j : ℕ) (a : A) → j ≢ i → slice_get (set xs i a) j ≡ slice_get xs j
get-set_other [] i j a other = refl
get-set_other (x ∷ xs) zero zero a other = absurd (other refl)
get-set_other (x ∷ xs) zero (suc j) a other = refl
get-set_other (x ∷ xs) (suc i) zero a other = refl
get-set_other (x ∷ xs) (suc i) (suc j) a other = get-set_other xs i j a (λ e. other (ap suc e))

-- a clause less
pub thins_one : (old new : List Block) (es : List (Option Ref)) (i : ℕ) (r : Ref) → IsTable old es → slice_get es i ≡ Some (Some r)
    → ((q : ℕ) → q ≢ r.at → reads new q ≡ reads old q) → Thins (entries old es) (entries new (set es i None))
thins_one old new es i r t at others j c h =
    let f = found_at new (set es i None) j c h in
    elim (same_or_not j i) [
      | inl e ↦
          let gone : slice_get (set es i None) j ≡ Some None = ap (slice_get (set es i None)) e ∙ get-set_same es i None (Some r) at in
          absurd (cc (sym gone ∙ f.is))
      | inr ne ↦
          let there : slice_get es j ≡ Some (Some f.r) = sym (get-set_other es i j None ne) ∙ f.is in
          read_at old es j f.r c there (sym (others f.r.at (λ same. absurd (ne (t.apart j i f.r r there at same)))) ∙ f.read)
    ]

-- the number of a clause that was taken out has none
pub free_set : (bs : List Block) (es : List (Option Ref)) (i : ℕ) (r : Ref) → slice_get es i ≡ Some (Some r) → IsFree (entries bs (set es i None)) i
free_set bs es i r at c h =
    let f = found_at bs (set es i None) i c h in
    let gone : slice_get (set es i None) i ≡ Some None = get-set_same es i None (Some r) at in
    absurd (cc (sym gone ∙ f.is))

-- and so has one without a reference
pub free_already : (bs : List Block) (es : List (Option Ref)) (i : ℕ) → ((r : Ref) → slice_get es i ≡ Some (Some r) → ⊥) → IsFree (entries bs es) i
free_already bs es i none c h =
    let f = found_at bs es i c h in
    none f.r f.is

pub thins_trans : (a b c : List (Option (List Lit))) → Thins a b → Thins b c → Thins a c
thins_trans a b c p q j x h = p j x (q j x h)

-- no clause is there
pub thins_none : (old new : List (Option (List Lit))) → new ≡ [] → Thins old new
thins_none old new none j c h =
    let e = subst (λ l. slice_get l j ≡ Some (Some c)) none h in
    absurd (cc e)

-- the reference before it moved
pub record Moved (places : List ℕ) (o : Option (Option Ref)) (s : Ref) : Type 0 where
  pub r : Ref
  pub is : o ≡ Some (Some r)
  pub to : s.at ≡ slice_index places r.at

moved_from : (places : List ℕ) (o : Option (Option Ref)) (s : Ref) → moved_at places o ≡ Some (Some s) → Moved places o s
moved_from places None s h = absurd (cc h)
moved_from places (Some None) s h = absurd (cc h)
moved_from places (Some (Some r)) s h =
    let e : record { at = slice_index places r.at } ≡ s = cc h in
    record { r = r; is = refl; to = ap (λ x. x.at) (sym e) }

pub before_move : (places : List ℕ) (es fs : List (Option Ref)) (j : ℕ) (s : Ref) → slice_get fs j ≡ moved_at places (slice_get es j) → slice_get fs j ≡ Some (Some s)
    → Moved places (slice_get es j) s
before_move places es fs j s all h = moved_from places (slice_get es j) s (sym all ∙ h)

-- the clauses are laid out anew
module _ (old new : List Block) (places : List ℕ) (es fs : List (Option Ref)) (t : IsTable old es)
    (all : (j : ℕ) → slice_get fs j ≡ moved_at places (slice_get es j))
    (read : (q : ℕ) (c : List Lit) → reads old q ≡ Some c → reads new (slice_index places q) ≡ Some c)
    (apart : (q r : ℕ) (c d : List Lit) → reads old q ≡ Some c → reads old r ≡ Some d → slice_index places q ≡ slice_index places r → q ≡ r) where
  pub table-moved : IsTable new fs
  table-moved = record {
    live = λ i s h.
        let m = before_move places es fs i s (all i) h in
        let l = some_of (reads old m.r.at) (t.live i m.r m.is) in
        is_some (reads new s.at) l.0 (ap (reads new) m.to ∙ read m.r.at l.0 l.1);
    apart = λ i j s u h k same.
        let m = before_move places es fs i s (all i) h in
        let n = before_move places es fs j u (all j) k in
        let l = some_of (reads old m.r.at) (t.live i m.r m.is) in
        let l2 = some_of (reads old n.r.at) (t.live j n.r n.is) in
        t.apart i j m.r n.r m.is n.is (apart m.r.at n.r.at l.0 l2.0 l.1 l2.1 (sym m.to ∙ same ∙ n.to));
  }

  pub thins_moved : Thins (entries old es) (entries new fs)
  thins_moved j c h =
      let f = found_at new fs j c h in
      let m = before_move places es fs j f.r (all j) f.is in
      let l = some_of (reads old m.r.at) (t.live j m.r m.is) in
      let now : reads new f.r.at ≡ Some l.0 = ap (reads new) m.to ∙ read m.r.at l.0 l.1 in
      let same : l.0 ≡ c = cc (sym now ∙ f.read) in
      read_at old es j m.r c m.is (l.1 ∙ ap Some same)

-- a reference follows
pub followed_some : (places : List ℕ) (es : List (Option Ref)) (i : ℕ) (r s : Ref) → slice_get es i ≡ Some (Some r) → s.at ≡ slice_index places r.at
    → slice_get (set es i (Some s)) i ≡ moved_at places (slice_get es i)
followed_some places es i r s at to =
    let whole : s ≡ record { at = slice_index places r.at } = ap (λ a. record { at = a }) to in
    get-set_same es i (Some s) (Some r) at ∙ ap (λ x. Some (Some x)) whole ∙ ap (moved_at places) (sym at)

-- nothing to follow
pub followed_none : (places : List ℕ) (o : Option (Option Ref)) → ((r : Ref) → o ≡ Some (Some r) → ⊥) → o ≡ moved_at places o
followed_none places None h = refl
followed_none places (Some None) h = refl
followed_none places (Some (Some r)) h = absurd (h r refl)

-- a place more is done
pub followed_more : (places : List ℕ) (es now next : List (Option Ref)) (i : ℕ) → slice_get next i ≡ moved_at places (slice_get now i)
    → ((j : ℕ) → j ≢ i → slice_get next j ≡ slice_get now j)
    → ((j : ℕ) → j < i → slice_get now j ≡ moved_at places (slice_get es j))
    → ((j : ℕ) → i ≤ j → slice_get now j ≡ slice_get es j)
    → (j : ℕ) → j < i + 1 → slice_get next j ≡ moved_at places (slice_get es j)
followed_more places es now next i here others done rest j below =
    elim (same_or_not j i) [
      | inl e ↦ ap (slice_get next) e ∙ here ∙ ap (moved_at places) (rest i (omega arith)) ∙ ap (λ k. moved_at places (slice_get es k)) (sym e)
      | inr ne ↦ others j ne ∙ done j (omega (arith, below, ne))
    ]

past_all : (es : List (Option Ref)) (j : ℕ) → length es ≤ j → slice_get es j ≡ None
past_all [] j h = refl
past_all (x ∷ es) zero h = absurd (omega (arith, h))
past_all (x ∷ es) (suc j) h = past_all es j (omega (arith, h))

-- all places are done
pub followed_all : (places : List ℕ) (es now : List (Option Ref)) (i : ℕ) → length now ≡ length es → length es ≤ i
    → ((j : ℕ) → j < i → slice_get now j ≡ moved_at places (slice_get es j)) → (j : ℕ) → slice_get now j ≡ moved_at places (slice_get es j)
followed_all places es now i len over done j =
    elim (lt_or_le j i) [
      | inl below ↦ done j below
      | inr past ↦ past_all now j (omega (arith, len, over, past)) ∙ ap (moved_at places) (sym (past_all es j (omega (arith, over, past))))
    ]
