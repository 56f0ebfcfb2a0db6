-- Copying the live blocks, one block after another.

use Rattle.std.proofs.Common.{◌≡◌, ◌≢◌, ℕ, zero, suc, ◌+◌, ◌-◌, ◌<◌, ◌≤◌, ◌⊎◌, inl, inr, Bool, true, false, if◌then◌else◌, List, [], ◌∷◌, ◌++◌, length, length-take, length-set, drop, set, Option, None, Some, nat_lt, slice_index, slice_range, refl, sym, subst, ap, ◌∙◌, arith, append_assoc, append-nil, get_or-set_other, get_or-set_same}
use Rattle.std.proofs.lemmas.Bool.{ltb-true, ltb-false, le-ltb, lt-ltb}
use Rattle.std.proofs.Math.Seq.{take-append_seam, drop-append_seam, get_or-append_seam}
use Rattle.sat_base.specs.declared.literal.Lit.{Lit}
use Rattle.sat_pool.specs.Region.{Block, size, reads, live, moved, width_kept, IsTable}
use Rattle.sat_pool.specs.Layout.{header, flat, blocks, cell, HasBlock, end_of, live_part, noted}
use Rattle.sat_pool.proofs.Blocks.{located, length-flat, flat-append, size-append, flat-seam, has_block_seam, reads-seam}

pub live-append : (xs ys : List Block) → live (xs ++ ys) ≡ live xs ++ live ys
live-append [] ys = refl
live-append (b ∷ bs) ys =
    let rest = live-append bs ys in
    elim b.dead as (λ d. (if d then live (bs ++ ys) else b ∷ live (bs ++ ys)) ≡ (if d then live bs else b ∷ live bs) ++ live ys) [
      | true ↦ rest
      | false ↦ ap (λ t. b ∷ t) rest
    ]

size_live : (b : Block) (bs : List Block) → size (live (b ∷ bs)) ≡ width_kept b + size (live bs)
size_live b bs =
    elim b.dead as (λ d. size (if d then live bs else b ∷ live bs) ≡ (if d then 0 else suc (length b.lits)) + size (live bs)) [
      | true ↦ omega arith
      | false ↦ omega arith
    ]

pub moved-seam : (xs ys : List Block) (b : Block) → moved (xs ++ b ∷ ys) (size xs) ≡ size (live xs)
moved-seam [] ys b = refl
moved-seam (x ∷ xs) ys b =
    let n = length x.lits in
    let place : (n + size xs) - n ≡ size xs = omega arith in
    rw place (ap (λ m. width_kept x + m) (moved-seam xs ys b) ∙ sym (size_live x xs))

-- a live clause is read at its new place
pub reads-moved : (bs : List Block) (r : ℕ) (c : List Lit) → reads bs r ≡ Some c → (r < size bs) × (reads (live bs) (moved bs r) ≡ Some c)
reads-moved bs r c h =
    let t = located bs r c h in
    let b : Block = record { dead = false; lits = c } in
    let whole_live : live bs ≡ live t.before ++ b ∷ live t.after = ap live t.whole ∙ live-append t.before (b ∷ t.after) in
    let place : moved bs r ≡ size (live t.before) =
    ap (λ x. moved x r) t.whole ∙ ap (moved (t.before ++ b ∷ t.after)) t.at ∙ moved-seam t.before t.after b in
    let widths = ap size t.whole ∙ size-append t.before (b ∷ t.after) in
    let at = t.at in (
      omega (arith, widths, at),
      ap (λ x. reads x (moved bs r)) whole_live
          ∙ ap (reads (live t.before ++ b ∷ live t.after)) place
          ∙ reads-seam (live t.before) (live t.after) c,
    )

-- the blocks before this place are copied, and their places are noted
pub record Copied (bs : List Block) (at : ℕ) (copy : List Lit) (places : List ℕ) : Type 0 where
  pub done : List Block
  pub rest : List Block
  pub whole : bs ≡ done ++ rest
  pub here : at ≡ size done
  pub copied : copy ≡ flat (live done)
  pub noted_at : (q : ℕ) (c : List Lit) → q < at → reads bs q ≡ Some c → slice_index places q ≡ moved bs q

live_read : (d : Bool) (ls c : List Lit) → (if d then None else Some ls) ≡ Some c → d ≡ false
live_read true ls c h = absurd (cc h)
live_read false ls c h = refl

width_live : (d : Bool) (n : ℕ) → d ≡ false → (if d then 0 else suc n) ≡ suc n
width_live true n alive = absurd (cc alive)
width_live false n alive = refl

past_read : (t : Bool) (o : Option (List Lit)) (c : List Lit) → (if t then None else o) ≡ Some c → (t ≡ false) × (o ≡ Some c)
past_read true o c h = absurd (cc h)
past_read false o c h = (refl, h)

-- live clauses that have one place after a compaction had one before it
pub moved-apart : (bs : List Block) (q r : ℕ) (c d : List Lit) → reads bs q ≡ Some c → reads bs r ≡ Some d → moved bs q ≡ moved bs r → q ≡ r
moved-apart [] q r c d h k e = absurd (cc h)
moved-apart (b ∷ bs) zero zero c d h k e = refl
moved-apart (b ∷ bs) zero (suc r) c d h k e =
    let wide = width_live b.dead (length b.lits) (live_read b.dead b.lits c h) in
    absurd (omega (arith, wide, e))
moved-apart (b ∷ bs) (suc q) zero c d h k e =
    let wide = width_live b.dead (length b.lits) (live_read b.dead b.lits d k) in
    absurd (omega (arith, wide, e))
moved-apart (b ∷ bs) (suc q) (suc r) c d h k e =
    let n = length b.lits in
    let one = past_read (nat_lt q n) (reads bs (q - n)) c h in
    let other = past_read (nat_lt r n) (reads bs (r - n)) d k in
    let low : n ≤ q = ltb-false q n one.0 in
    let low2 : n ≤ r = ltb-false r n other.0 in
    let inner : moved bs (q - n) ≡ moved bs (r - n) = omega (arith, e) in
    let same = moved-apart bs (q - n) (r - n) c d one.1 other.1 inner in
    omega (arith, same, low, low2)

none_read : (t : Bool) (o : Option (List Lit)) (c : List Lit) → t ≡ true → (if t then None else o) ≡ Some c → ⊥
none_read true o c e h = cc h
none_read false o c e h = cc e

-- what is read at a place inside of a block is read where it begins, and the block is live
reads_inside : (xs ys : List Block) (b : Block) (q : ℕ) (c : List Lit) → reads (xs ++ b ∷ ys) q ≡ Some c → size xs ≤ q → q < size xs + suc (length b.lits)
    → (q ≡ size xs) × (b.dead ≡ false)
reads_inside [] ys b zero c h low high = (refl, live_read b.dead b.lits c h)
reads_inside [] ys b (suc q) c h low high =
    let inside : nat_lt q (length b.lits) ≡ true = lt-ltb q (length b.lits) (omega (arith, high)) in
    absurd (none_read (nat_lt q (length b.lits)) (reads ys (q - length b.lits)) c inside h)
reads_inside (x ∷ xs) ys b zero c h low high = absurd (omega (arith, low))
reads_inside (x ∷ xs) ys b (suc q) c h low high =
    let n = length x.lits in
    let past : nat_lt q n ≡ false = le-ltb q n (omega (arith, low)) in
    let h' : reads (xs ++ b ∷ ys) (q - n) ≡ Some c = rw past at h in
    let t = reads_inside xs ys b (q - n) c h' (omega (arith, low)) (omega (arith, high, low)) in
    let same = t.0 in
    (omega (arith, same, low), t.1)

-- the block that stands at the seam
cell_seam : (xs ys : List Block) (b : Block) → cell (flat (xs ++ b ∷ ys)) (size xs) ≡ header b
cell_seam xs ys b =
    ap (λ l. cell l (size xs)) (flat-seam xs ys b)
    ∙ ap (cell (flat xs ++ header b ∷ (b.lits ++ flat ys))) (sym (length-flat xs))
    ∙ get_or-append_seam (flat xs) (header b) (b.lits ++ flat ys) _

part_seam : (xs ys : List Block) (b : Block) → slice_range (flat (xs ++ b ∷ ys)) (size xs) (size xs + 1 + length b.lits) ≡ header b ∷ b.lits
part_seam xs ys b =
    let n = length b.lits in
    let wide : (size xs + 1 + n) - size xs ≡ suc n = omega arith in
    let after : drop (size xs) (flat (xs ++ b ∷ ys)) ≡ header b ∷ (b.lits ++ flat ys) =
    ap (λ l. drop (size xs) l) (flat-seam xs ys b)
    ∙ ap (λ m. drop m (flat xs ++ header b ∷ (b.lits ++ flat ys))) (sym (length-flat xs))
    ∙ drop-append_seam (flat xs) (header b ∷ (b.lits ++ flat ys)) in
    rw (wide, after) (ap (λ t. header b ∷ t) (take-append_seam b.lits (flat ys)))

-- the copy of the block at the seam is the block if it is live
live_part_seam : (xs ys : List Block) (b : Block) → live_part (flat (xs ++ b ∷ ys)) (size xs) ≡ flat (live (b ∷ []))
live_part_seam xs ys b =
    rw (cell_seam xs ys b, part_seam xs ys b)
    (elim b.dead as (λ d. (if d then [] else header b ∷ b.lits) ≡ flat (if d then [] else b ∷ [])) [
      | true ↦ refl
      | false ↦ ap (λ t. header b ∷ t) (sym (append-nil b.lits))
    ])

noted_same : (d : Bool) (places : List ℕ) (at q to : ℕ) → q ≢ at → slice_index (if d then places else set places at to) q ≡ slice_index places q
noted_same true places at q to other = refl
noted_same false places at q to other = get_or-set_other places at q to 0 other

noted_here : (d : Bool) (places : List ℕ) (at to : ℕ) → d ≡ false → at < length places → slice_index (if d then places else set places at to) at ≡ to
noted_here true places at to alive inside = absurd (cc alive)
noted_here false places at to alive inside = get_or-set_same places at to 0 inside

by_test : (t : Bool) (a b : ℕ) → nat_lt a b ≡ t → (a < b) ⊎ (b ≤ a)
by_test true a b e = inl (ltb-true a b e)
by_test false a b e = inr (ltb-false a b e)

lt_or_le : (a b : ℕ) → (a < b) ⊎ (b ≤ a)
lt_or_le a b = by_test (nat_lt a b) a b refl

-- one block more
step : (done rest : List Block) (b : Block) (places : List ℕ) (copy : List Lit) → size done < length places
    → copy ≡ flat (live done)
    → ((q : ℕ) (c : List Lit) → q < size done → reads (done ++ b ∷ rest) q ≡ Some c → slice_index places q ≡ moved (done ++ b ∷ rest) q)
    → let list = flat (done ++ b ∷ rest) in
    Copied (done ++ b ∷ rest) (end_of list (size done)) (copy ++ live_part list (size done)) (noted list (size done) places (length copy))
step done rest b places copy inside copied earlier =
    let list = flat (done ++ b ∷ rest) in
    let seen = cell_seam done rest b in
    record {
      done = done ++ b ∷ [];
      rest = rest;
      whole = sym (append_assoc done (b ∷ []) rest);
      here = let sum = size-append done (b ∷ []) in rw seen (omega (arith, sum));
      copied =
          ap (λ x. x ++ live_part list (size done)) copied
          ∙ ap (λ x. flat (live done) ++ x) (live_part_seam done rest b)
          ∙ sym (flat-append (live done) (live (b ∷ [])))
          ∙ ap flat (sym (live-append done (b ∷ [])));
      noted_at = λ q c below h.
          elim (lt_or_le q (size done)) [
            | inl before ↦
                rw seen (noted_same b.dead places (size done) q (length copy) (λ same. absurd (omega (arith, same, before))) ∙ earlier q c before h)
            | inr from ↦
                let high : q < size done + suc (length b.lits) = (let low : q < size done + 1 + length b.lits = rw seen at below in omega (arith, low)) in
                let t = reads_inside done rest b q c h from high in
                rw (seen, t.0)
                (noted_here b.dead places (size done) (length copy) t.1 inside
                ∙ ap length copied ∙ length-flat (live done) ∙ sym (moved-seam done rest b))
          ];
    }

more : (bs done rest : List Block) (at : ℕ) (copy : List Lit) (places : List ℕ) → bs ≡ done ++ rest → at ≡ size done
    → at < length (flat bs) → length places ≡ length (flat bs) → copy ≡ flat (live done)
    → ((q : ℕ) (c : List Lit) → q < at → reads bs q ≡ Some c → slice_index places q ≡ moved bs q)
    → HasBlock (flat bs) at × Copied bs (end_of (flat bs) at) (copy ++ live_part (flat bs) at) (noted (flat bs) at places (length copy))
more bs done [] at copy places whole here inside table copied earlier =
    let nothing : size bs ≡ size done = ap size whole ∙ ap size (append-nil done) in
    let len = length-flat bs in
    absurd (omega (arith, nothing, len, here, inside))
more bs done (b ∷ rest) at copy places whole here inside table copied earlier =
    let P : List Block → ℕ → Type 0 = λ x p.
    p < length (flat x) → length places ≡ length (flat x)
    → ((q : ℕ) (c : List Lit) → q < p → reads x q ≡ Some c → slice_index places q ≡ moved x q)
    → HasBlock (flat x) p × Copied x (end_of (flat x) p) (copy ++ live_part (flat x) p) (noted (flat x) p places (length copy)) in
    let at_seam : P (done ++ b ∷ rest) (size done) = λ lt len known. (
      subst (λ l. HasBlock l (size done)) (sym (flat-seam done rest b))
          (subst (λ p. HasBlock (flat done ++ header b ∷ (b.lits ++ flat rest)) p) (length-flat done)
          (has_block_seam (flat done) (flat rest) (header b) b.lits refl)),
      step done rest b places copy (omega (arith, lt, len)) copied known,
    ) in
    subst (λ x. P x at) (sym whole) (subst (P (done ++ b ∷ rest)) (sym here) at_seam) inside table earlier

pub copied_more : (bs : List Block) (at : ℕ) (copy : List Lit) (places : List ℕ) → at < length (flat bs) → length places ≡ length (flat bs)
    → Copied bs at copy places
    → HasBlock (flat bs) at × Copied bs (end_of (flat bs) at) (copy ++ live_part (flat bs) at) (noted (flat bs) at places (length copy))
copied_more bs at copy places inside table t = more bs t.done t.rest at copy places t.whole t.here inside table t.copied t.noted_at

pub copied_none : (bs : List Block) (places : List ℕ) → Copied bs 0 [] places
copied_none bs places = record {
  done = [];
  rest = bs;
  whole = refl;
  here = refl;
  copied = refl;
  noted_at = λ q c below h. absurd (omega (arith, below));
}

nil_of_size : (bs : List Block) → size bs ≡ 0 → bs ≡ []
nil_of_size [] e = refl
nil_of_size (b ∷ bs) e = absurd (omega (arith, e))

-- all blocks are copied
pub copied_all : (bs : List Block) (at : ℕ) (copy : List Lit) (places : List ℕ) → length (flat bs) ≤ at → Copied bs at copy places
    → (copy ≡ flat (live bs)) × IsTable bs places
copied_all bs at copy places past t =
    let len = length-flat bs in
    let parts = ap size t.whole ∙ size-append t.done t.rest in
    let here = t.here in
    let none : t.rest ≡ [] = nil_of_size t.rest (omega (arith, len, parts, here, past)) in
    let all : bs ≡ t.done = t.whole ∙ ap (λ r. t.done ++ r) none ∙ append-nil t.done in (
      t.copied ∙ ap (λ x. flat (live x)) (sym all),
      record { place = λ q c h. let found = reads-moved bs q c h in let low = found.0 in t.noted_at q c (omega (arith, low, len, past)) h },
    )

pub length-live_part : (list : List Lit) (at : ℕ) → length (live_part list at) ≤ end_of list at - at
length-live_part list at =
    let taken = length-take (end_of list at - at) (drop at list) in
    elim (cell list at).neg as (λ d. length (if d then [] else slice_range list at (end_of list at)) ≤ end_of list at - at) [
      | true ↦ omega arith
      | false ↦ omega (arith, taken)
    ]

pub length-noted : (list : List Lit) (at : ℕ) (places : List ℕ) (to : ℕ) → length (noted list at places to) ≡ length places
length-noted list at places to =
    elim (cell list at).neg as (λ d. length (if d then places else set places at to) ≡ length places) [
      | true ↦ refl
      | false ↦ length-set places at to
    ]

pub block_more : (list : List Lit) (at : ℕ) (copy : List Lit) (places : List ℕ) → flat (blocks list) ≡ list → at < length list → length places ≡ length list
    → Copied (blocks list) at copy places
    → HasBlock list at × Copied (blocks list) (end_of list at) (copy ++ live_part list at) (noted list at places (length copy))
block_more list at copy places whole inside table t =
    let P : List Lit → Type 0 = λ l.
    at < length l → length places ≡ length l
    → HasBlock l at × Copied (blocks list) (end_of l at) (copy ++ live_part l at) (noted l at places (length copy)) in
    subst P whole (λ a b. copied_more (blocks list) at copy places a b t) inside table

pub copied_all_in : (list : List Lit) (at : ℕ) (copy : List Lit) (places : List ℕ) → flat (blocks list) ≡ list → length list ≤ at → Copied (blocks list) at copy places
    → (copy ≡ flat (live (blocks list))) × IsTable (blocks list) places
copied_all_in list at copy places whole past t = copied_all (blocks list) at copy places (let len = ap length whole in omega (arith, len, past)) t
