-- From a list of choices to the one behind it, bit by bit from its end.
use Rattle.std.proofs.Common.{◌≡◌, ◌∙◌, ℕ, zero, suc, ◌+◌, ◌-◌, ◌<◌, ◌≤◌, Bool, true, false, List}
use Rattle.std.proofs.Common.{[], ◌∷◌, ◌++◌, length, set, take, get_or, Some, None, refl, sym, ap, arith, append_assoc}
use Rattle.std.specs.Prelude.{replicate}
use Rattle.std.proofs.lemmas.List.{append-nil, length-take-le, get_or_append_left}
use Rattle.std.proofs.Math.Seq.{split_at, set-append_seam}
use Rattle.std.proofs.Math.ListN.{drop_of_length-le}
use Rattle.choice_search.specs.Behind.{behind, behind_of}

-- What was done from the end down to a place: all bits behind it were set, and are not any more.
pub record Turning (old now : List Bool) (at : ℕ) : Type 0 where
  pub front : List Bool
  pub back : List Bool
  pub was : old ≡ front ++ back
  pub is : now ≡ front ++ replicate (length back) false
  pub here : length front ≡ at
  pub last : behind back ≡ None

pub turning_starts : (old : List Bool) → Turning old old (length old)
unfolding behind
turning_starts old = record {
  front = old;
  back = [];
  was = sym (append-nil old);
  is = sym (append-nil old);
  here = refl;
  last = refl;
}

-- a front with its last bit
record Ends (front : List Bool) (k : ℕ) : Type 0 where
  others : List Bool
  bit : Bool
  split : front ≡ others ++ (bit ∷ [])
  long : length others ≡ k

ends : (front : List Bool) (at : ℕ) → length front ≡ at → 0 < at → Ends front (at - 1)
ends front at here low =
    let within : at - 1 < length front = omega (arith, here, low) in
    let all : length front ≤ suc (at - 1) = omega (arith, here, low) in
    record {
      others = take (at - 1) front;
      bit = get_or front (at - 1) false;
      split = split_at front (at - 1) false within
          ∙ ap (λ rest. take (at - 1) front ++ (get_or front (at - 1) false ∷ rest)) (drop_of_length-le front all);
      long = length-take-le (at - 1) front (omega (arith, within));
    }

-- the list as it is, around that bit
around : (front others tail : List Bool) (bit : Bool) → front ≡ others ++ (bit ∷ [])
    → front ++ tail ≡ others ++ (bit ∷ tail)
around front others tail bit split = ap (λ f. f ++ tail) split ∙ append_assoc others (bit ∷ []) tail

bit_read : (old now : List Bool) (at : ℕ) (d : Bool) (low : 0 < at) (t : Turning old now at)
    → get_or now (at - 1) d ≡ (ends t.front at t.here low).bit
unfolding ends
bit_read old now at d low t =
    let e = ends t.front at t.here low in
    let within : at - 1 < length t.front = let h = t.here in omega (arith, h, low) in
    ap (λ bits. get_or bits (at - 1) d) t.is
    ∙ get_or_append_left t.front (replicate (length t.back) false) d (at - 1) within
    ∙ reads_bit t.front (at - 1) d within
  where
    reads_bit : (front : List Bool) (k : ℕ) (d : Bool) → k < length front → get_or front k d ≡ get_or front k false
    reads_bit [] k d low = absurd (omega (arith, low))
    reads_bit (b ∷ bs) zero d low = refl
    reads_bit (b ∷ bs) (suc k) d low = reads_bit bs k d (omega (arith, low))

set_bit : (old now : List Bool) (at : ℕ) (new : Bool) (low : 0 < at) (t : Turning old now at)
    → set now (at - 1) new ≡ (ends t.front at t.here low).others ++ (new ∷ replicate (length t.back) false)
set_bit old now at new low t =
    let e = ends t.front at t.here low in
    let is : now ≡ e.others ++ (e.bit ∷ replicate (length t.back) false) =
    t.is ∙ around t.front e.others (replicate (length t.back) false) e.bit e.split in
    ap (λ bits. set bits (at - 1) new) is
    ∙ (ap (λ k. set (e.others ++ (e.bit ∷ replicate (length t.back) false)) k new) (sym e.long)
    ∙ set-append_seam e.others e.bit (replicate (length t.back) false) new)

-- a bit that is set is turned, and the next one comes
pub turn_set : (old now : List Bool) (at : ℕ) (d : Bool) → 0 < at → Turning old now at → get_or now (at - 1) d ≡ true
    → Turning old (set now (at - 1) false) (at - 1)
unfolding behind
turn_set old now at d low t read =
    let e = ends t.front at t.here low in
    let bit : e.bit ≡ true = sym (bit_read old now at d low t) ∙ read in
    record {
      front = e.others;
      back = true ∷ t.back;
      was = t.was ∙ around t.front e.others t.back e.bit e.split ∙ ap (λ b. e.others ++ (b ∷ t.back)) bit;
      is = set_bit old now at false low t;
      here = e.long;
      last = ap (behind_of true (length t.back)) t.last;
    }

-- what is behind a list with the same front
behind_append : (front back more : List Bool) → behind back ≡ Some more → behind (front ++ back) ≡ Some (front ++ more)
unfolding behind
behind_append [] back more e = e
behind_append (b ∷ bs) back more e = ap (behind_of b (length (bs ++ back))) (behind_append bs back more e)

-- a bit that is not set is set, and that is the list behind
pub turn_found : (old now : List Bool) (at : ℕ) (d : Bool) → 0 < at → Turning old now at → get_or now (at - 1) d ≡ false
    → behind old ≡ Some (set now (at - 1) true)
unfolding behind
turn_found old now at d low t read =
    let e = ends t.front at t.here low in
    let bit : e.bit ≡ false = sym (bit_read old now at d low t) ∙ read in
    let was : old ≡ e.others ++ (false ∷ t.back) =
    t.was ∙ around t.front e.others t.back e.bit e.split ∙ ap (λ b. e.others ++ (b ∷ t.back)) bit in
    let back : behind (false ∷ t.back) ≡ Some (true ∷ replicate (length t.back) false) =
    ap (behind_of false (length t.back)) t.last in
    ap behind was ∙ behind_append e.others (false ∷ t.back) (true ∷ replicate (length t.back) false) back
    ∙ ap Some (sym (set_bit old now at true low t))
