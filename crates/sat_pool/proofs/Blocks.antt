-- Blocks and the list in which they lie.

use Rattle.std.proofs.Common.{◌≡◌, ◌≢◌, ℕ, zero, suc, ◌+◌, ◌-◌, ◌≤◌, Bool, true, false, if◌then◌else◌, List, [], ◌∷◌, ◌++◌, length, drop, set, Option, None, Some, IsSome, nat_lt, refl, sym, subst, ap, ◌∙◌, arith, length-append, append_assoc, append-nil, zero-add}
use Rattle.std.proofs.lemmas.Bool.{ltb-false, le-ltb, false≢true}
use Rattle.std.proofs.Math.Seq.{take-append_seam, drop-append_seam, get_or-append_seam, set-append_seam, drop-append-add}
use Rattle.sat_base.specs.declared.literal.Lit.{Lit}
use Rattle.sat_pool.specs.Region.{Block, size, reads, kill}
use Rattle.sat_pool.specs.Layout.{header, flat, blocks_in, blocks, cell, HasBlock, lits_at}

pub length-flat : (bs : List Block) → length (flat bs) ≡ size bs
length-flat [] = refl
length-flat (b ∷ bs) =
    let tail = length-append b.lits (flat bs) in
    let rest = length-flat bs in
    omega (arith, tail, rest)

pub flat-append : (xs ys : List Block) → flat (xs ++ ys) ≡ flat xs ++ flat ys
flat-append [] ys = refl
flat-append (b ∷ bs) ys =
    ap (λ t. header b ∷ (b.lits ++ t)) (flat-append bs ys)
    ∙ ap (λ t. header b ∷ t) (sym (append_assoc b.lits (flat bs) (flat ys)))

pub size-append : (xs ys : List Block) → size (xs ++ ys) ≡ size xs + size ys
size-append [] ys = sym (zero-add (size ys))
size-append (b ∷ bs) ys = let rest = size-append bs ys in omega (arith, rest)

blocks_in-nil : (n : ℕ) → blocks_in n [] ≡ []
blocks_in-nil zero = refl
blocks_in-nil (suc n) = refl

blocks_in-flat : (n : ℕ) (bs : List Block) → size bs ≤ n → blocks_in n (flat bs) ≡ bs
blocks_in-flat n [] enough = blocks_in-nil n
blocks_in-flat zero (b ∷ bs) enough = absurd (omega (arith, enough))
blocks_in-flat (suc n) (b ∷ bs) enough =
    ap (λ ls. record { dead = b.dead; lits = ls } ∷ blocks_in n (drop (length b.lits) (b.lits ++ flat bs))) (take-append_seam b.lits (flat bs))
    ∙ ap (λ t. b ∷ blocks_in n t) (drop-append_seam b.lits (flat bs))
    ∙ ap (λ t. b ∷ t) (blocks_in-flat n bs (omega (arith, enough)))

-- the blocks of the list in which they lie
pub blocks-flat : (bs : List Block) → blocks (flat bs) ≡ bs
blocks-flat bs = blocks_in-flat (length (flat bs)) bs (let e = length-flat bs in omega (arith, e))

some_from_if : {A : Type 0} (t : Bool) (o : Option A) (c : A) → (if t then None else o) ≡ Some c → (t ≡ false) × (o ≡ Some c)
some_from_if true o c h = absurd (cc h)
some_from_if false o c h = (refl, h)

same_if : {A : Type 0} (t : Bool) (o p : Option A) → (t ≡ false → o ≡ p) → (if t then None else o) ≡ (if t then None else p)
same_if true o p h = refl
same_if false o p h = h refl

some_lits : (a b : List Lit) → Some a ≡ Some b → a ≡ b
some_lits a b e = cc e

-- a live block among the others
pub record Located (bs : List Block) (r : ℕ) (c : List Lit) : Type 0 where
  pub before : List Block
  pub after : List Block
  pub whole : bs ≡ before ++ record { dead = false; lits = c } ∷ after
  pub at : r ≡ size before

same_block : (b : Block) (c : List Lit) → b.dead ≡ false → b.lits ≡ c → b ≡ record { dead = false; lits = c }
same_block b c alive same =
    ap (λ d. record { dead = d; lits = b.lits }) alive ∙ ap (λ ls. record { dead = false; lits = ls }) same

pub located : (bs : List Block) (r : ℕ) (c : List Lit) → reads bs r ≡ Some c → Located bs r c
located [] r c h = absurd (cc h)
located (b ∷ bs) zero c h =
    let t = some_from_if b.dead (Some b.lits) c h in
    record {
      before = [];
      after = bs;
      whole = ap (λ x. x ∷ bs) (same_block b c t.0 (some_lits b.lits c t.1));
      at = refl;
    }
located (b ∷ bs) (suc r) c h =
    let t = some_from_if (nat_lt r (length b.lits)) (reads bs (r - length b.lits)) c h in
    let past = ltb-false r (length b.lits) t.0 in
    let rest = located bs (r - length b.lits) c t.1 in
    record {
      before = b ∷ rest.before;
      after = rest.after;
      whole = ap (λ x. b ∷ x) rest.whole;
      at = let e = rest.at in omega (arith, e, past);
    }

pub reads-seam : (xs ys : List Block) (c : List Lit) → reads (xs ++ record { dead = false; lits = c } ∷ ys) (size xs) ≡ Some c
reads-seam [] ys c = refl
reads-seam (b ∷ bs) ys c =
    let n = length b.lits in
    let past : nat_lt (n + size bs) n ≡ false = le-ltb _ _ (omega arith) in
    let place : (n + size bs) - n ≡ size bs = omega arith in
    rw (past, place) (reads-seam bs ys c)

pub kill-seam : (xs ys : List Block) (b : Block) → kill (xs ++ b ∷ ys) (size xs) ≡ xs ++ record { dead = true; lits = b.lits } ∷ ys
kill-seam [] ys b = refl
kill-seam (x ∷ xs) ys b =
    let n = length x.lits in
    let past : nat_lt (n + size xs) n ≡ false = le-ltb _ _ (omega arith) in
    let place : (n + size xs) - n ≡ size xs = omega arith in
    rw (past, place) (ap (λ t. x ∷ t) (kill-seam xs ys b))

-- what other places read does not depend on whether a block is dropped
pub reads-others : (xs ys : List Block) (ls : List Lit) (d e : Bool) (q : ℕ) → q ≢ size xs
    → reads (xs ++ record { dead = d; lits = ls } ∷ ys) q ≡ reads (xs ++ record { dead = e; lits = ls } ∷ ys) q
reads-others [] ys ls d e zero other = absurd (other refl)
reads-others [] ys ls d e (suc q) other = refl
reads-others (x ∷ xs) ys ls d e zero other = refl
reads-others (x ∷ xs) ys ls d e (suc q) other =
    same_if (nat_lt q (length x.lits)) _ _
    (λ t. let past = ltb-false q (length x.lits) t in
    reads-others xs ys ls d e (q - length x.lits) (λ same. other (omega (arith, same, past))))

pub reads-dropped : (xs ys : List Block) (c : List Lit) → reads (xs ++ record { dead = true; lits = c } ∷ ys) (size xs) ≡ None
reads-dropped [] ys c = refl
reads-dropped (b ∷ bs) ys c =
    let n = length b.lits in
    let past : nat_lt (n + size bs) n ≡ false = le-ltb _ _ (omega arith) in
    let place : (n + size bs) - n ≡ size bs = omega arith in
    rw (past, place) (reads-dropped bs ys c)

-- nothing is read behind the last block
pub reads-end : (bs : List Block) → reads bs (size bs) ≡ None
reads-end [] = refl
reads-end (b ∷ bs) =
    let n = length b.lits in
    let past : nat_lt (n + size bs) n ≡ false = le-ltb (n + size bs) n (omega arith) in
    let place : (n + size bs) - n ≡ size bs = omega arith in
    rw (past, place) (reads-end bs)

-- what is put behind changes no reading
pub reads-append : (xs ys : List Block) (q : ℕ) (c : List Lit) → reads xs q ≡ Some c → reads (xs ++ ys) q ≡ Some c
reads-append [] ys q c h = absurd (cc h)
reads-append (b ∷ bs) ys zero c h = h
reads-append (b ∷ bs) ys (suc q) c h =
    let t = some_from_if (nat_lt q (length b.lits)) (reads bs (q - length b.lits)) c h in
    rw t.0 (reads-append bs ys (q - length b.lits) c t.1)

pub has_block_seam : (front back : List Lit) (h : Lit) (c : List Lit) → h.var ≡ length c → HasBlock (front ++ h ∷ (c ++ back)) (length front)
has_block_seam front back h c len =
    let whole = length-append front (h ∷ (c ++ back)) in
    let tail = length-append c back in
    let seen : cell (front ++ h ∷ (c ++ back)) (length front) ≡ h = get_or-append_seam front h (c ++ back) _ in
    record {
      begins = omega (arith, whole, tail);
      ends = rw seen (omega (arith, whole, tail, len));
    }

pub lits_at-seam : (front back : List Lit) (h : Lit) (c : List Lit) → h.var ≡ length c → lits_at (front ++ h ∷ (c ++ back)) (length front) ≡ c
lits_at-seam front back h c len =
    let seen : cell (front ++ h ∷ (c ++ back)) (length front) ≡ h = get_or-append_seam front h (c ++ back) _ in
    let past : drop (length front + 1) (front ++ h ∷ (c ++ back)) ≡ c ++ back = drop-append-add front (h ∷ (c ++ back)) 1 in
    rw (seen, past, len) (take-append_seam c back)

-- a region as the list round one block
pub flat-seam : (xs ys : List Block) (b : Block) → flat (xs ++ b ∷ ys) ≡ flat xs ++ header b ∷ (b.lits ++ flat ys)
flat-seam xs ys b = flat-append xs (b ∷ ys)

-- where a clause is read, its block lies there
pub has_block : (bs : List Block) (r : ℕ) (c : List Lit) → reads bs r ≡ Some c → HasBlock (flat bs) r
has_block bs r c h =
    let t = located bs r c h in
    let b : Block = record { dead = false; lits = c } in
    let place : r ≡ length (flat t.before) = t.at ∙ sym (length-flat t.before) in
    let list : flat bs ≡ flat t.before ++ header b ∷ (c ++ flat t.after) = ap flat t.whole ∙ flat-seam t.before t.after b in
    subst (λ x. HasBlock x r) (sym list)
    (subst (λ p. HasBlock (flat t.before ++ header b ∷ (c ++ flat t.after)) p) (sym place) (has_block_seam (flat t.before) (flat t.after) (header b) c refl))

pub reads-lits_at : (bs : List Block) (r : ℕ) (c : List Lit) → reads bs r ≡ Some c → lits_at (flat bs) r ≡ c
reads-lits_at bs r c h =
    let t = located bs r c h in
    let b : Block = record { dead = false; lits = c } in
    let place : r ≡ length (flat t.before) = t.at ∙ sym (length-flat t.before) in
    let list : flat bs ≡ flat t.before ++ header b ∷ (c ++ flat t.after) = ap flat t.whole ∙ flat-seam t.before t.after b in
    ap (λ x. lits_at x r) list
    ∙ ap (lits_at (flat t.before ++ header b ∷ (c ++ flat t.after))) place
    ∙ lits_at-seam (flat t.before) (flat t.after) (header b) c refl

-- the list with the header of this place marked
abbrev pub marked : List Lit → ℕ → List Lit
marked list r = set list r (record { var = (cell list r).var; neg = true })

marked-seam : (front back : List Lit) (h : Lit) → marked (front ++ h ∷ back) (length front) ≡ front ++ record { var = h.var; neg = true } ∷ back
marked-seam front back h =
    let seen : cell (front ++ h ∷ back) (length front) ≡ h = get_or-append_seam front h back _ in
    ap (λ x. set (front ++ h ∷ back) (length front) (record { var = x.var; neg = true })) seen
    ∙ set-append_seam front h back (record { var = h.var; neg = true })

killed_is : (bs : List Block) (r : ℕ) (c : List Lit) (t : Located bs r c) → kill bs r ≡ t.before ++ record { dead = true; lits = c } ∷ t.after
killed_is bs r c t =
    let b : Block = record { dead = false; lits = c } in
    ap (λ x. kill x r) t.whole ∙ ap (kill (t.before ++ b ∷ t.after)) t.at ∙ kill-seam t.before t.after b

-- dropping a block marks its header
pub marked-flat : (bs : List Block) (r : ℕ) (c : List Lit) → reads bs r ≡ Some c → marked (flat bs) r ≡ flat (kill bs r)
marked-flat bs r c h =
    let t = located bs r c h in
    let b : Block = record { dead = false; lits = c } in
    let place : r ≡ length (flat t.before) = t.at ∙ sym (length-flat t.before) in
    let list : flat bs ≡ flat t.before ++ header b ∷ (c ++ flat t.after) = ap flat t.whole ∙ flat-seam t.before t.after b in
    ap (λ x. marked x r) list
    ∙ ap (marked (flat t.before ++ header b ∷ (c ++ flat t.after))) place
    ∙ marked-seam (flat t.before) (c ++ flat t.after) (header b)
    ∙ sym (flat-seam t.before t.after (record { dead = true; lits = c }))
    ∙ ap flat (sym (killed_is bs r c t))

pub record Killed (bs : List Block) (r : ℕ) : Type 0 where
  pub unread : reads (kill bs r) r ≡ None
  pub others : (q : ℕ) → q ≢ r → reads (kill bs r) q ≡ reads bs q
  pub same_size : size (kill bs r) ≡ size bs

pub killed : (bs : List Block) (r : ℕ) (c : List Lit) → reads bs r ≡ Some c → Killed bs r
killed bs r c h =
    let t = located bs r c h in
    let b : Block = record { dead = false; lits = c } in
    let gone : Block = record { dead = true; lits = c } in
    let is : kill bs r ≡ t.before ++ gone ∷ t.after = killed_is bs r c t in
    let same_widths : size (gone ∷ t.after) ≡ size (b ∷ t.after) = refl in
    record {
      unread = ap (λ x. reads x r) is ∙ ap (reads (t.before ++ gone ∷ t.after)) t.at ∙ reads-dropped t.before t.after c;
      others = λ q other.
          ap (λ x. reads x q) is
          ∙ reads-others t.before t.after c true false q (λ same. other (same ∙ sym t.at))
          ∙ ap (λ x. reads x q) (sym t.whole);
      same_size = ap size is ∙ size-append t.before (gone ∷ t.after) ∙ ap (λ n. size t.before + n) same_widths ∙ sym (size-append t.before (b ∷ t.after)) ∙ ap size (sym t.whole);
    }

pub some_of : {A : Type 0} (o : Option A) → IsSome o → (a : A) × (o ≡ Some a)
some_of None h = absurd (false≢true h)
some_of (Some a) h = (a, refl)

-- the same for a list whose blocks these are
pub has_block_in : (list : List Lit) (bs : List Block) (r : ℕ) → blocks list ≡ bs → flat (blocks list) ≡ list → IsSome (reads bs r) → HasBlock list r
has_block_in list bs r view whole h =
    let t = some_of (reads bs r) h in
    subst (λ l. HasBlock l r) (ap flat (sym view) ∙ whole) (has_block bs r t.0 t.1)

pub reads_in : (list : List Lit) (bs : List Block) (r : ℕ) (out : List Lit) → blocks list ≡ bs → flat (blocks list) ≡ list
    → IsSome (reads bs r) → out ≡ lits_at list r → reads bs r ≡ Some out
reads_in list bs r out view whole h is =
    let t = some_of (reads bs r) h in
    t.1 ∙ ap Some (sym (reads-lits_at bs r t.0 t.1) ∙ ap (λ l. lits_at l r) (ap flat (sym view) ∙ whole) ∙ sym is)

-- a list that lies as blocks do
pub whole_of : (list : List Lit) (bs : List Block) → list ≡ flat bs → flat (blocks list) ≡ list
whole_of list bs is = ap (λ l. flat (blocks l)) is ∙ ap flat (blocks-flat bs) ∙ sym is

pub view_of : (list : List Lit) (bs : List Block) → list ≡ flat bs → blocks list ≡ bs
view_of list bs is = ap blocks is ∙ blocks-flat bs

-- a list with one live block more
pub put_flat : (list : List Lit) (bs : List Block) (c : List Lit) → blocks list ≡ bs → flat (blocks list) ≡ list
    → list ++ record { var = length c; neg = false } ∷ c ≡ flat (bs ++ record { dead = false; lits = c } ∷ [])
put_flat list bs c view whole =
    let b : Block = record { dead = false; lits = c } in
    ap (λ l. l ++ header b ∷ c) (sym whole ∙ ap flat view)
    ∙ ap (λ l. flat bs ++ header b ∷ l) (sym (append-nil c))
    ∙ sym (flat-seam bs [] b)

pub length_of : (list : List Lit) (bs : List Block) → blocks list ≡ bs → flat (blocks list) ≡ list → length list ≡ size bs
length_of list bs view whole = ap length (sym whole ∙ ap flat view) ∙ length-flat bs

pub marked_in : (list : List Lit) (bs : List Block) (r : ℕ) → blocks list ≡ bs → flat (blocks list) ≡ list → IsSome (reads bs r)
    → marked list r ≡ flat (kill bs r)
marked_in list bs r view whole h =
    let t = some_of (reads bs r) h in
    ap (λ l. marked l r) (sym whole ∙ ap flat view) ∙ marked-flat bs r t.0 t.1

pub killed_in : (bs : List Block) (r : ℕ) → IsSome (reads bs r) → Killed bs r
killed_in bs r h = let t = some_of (reads bs r) h in killed bs r t.0 t.1
