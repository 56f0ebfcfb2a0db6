-- The list of slots that a job holds, as it goes round: those ahead, and those behind that were dealt with.
use Rattle.std.proofs.Common.{◌≡◌, ◌≢◌, ℕ, zero, suc, ◌+◌, ◌<◌, ◌≤◌, Bool, true, false, List, [], ◌∷◌, ◌++◌, length, take, drop, refl, sym, ap, ◌∙◌, subst, ⊎_elim, inl, inr, arith, append_assoc, append-nil, take_all}
use Rattle.std.proofs.lemmas.List.{drop_all}
use mathlib.Core.Option.{some, none, some-injective, some-ne-none}
use lib.ListN.{get_elem?}
use Rattle.atomic_table.specs.Table.{rest, turned}
use Rattle.atomic_table.proofs.Lists.{drop_at}
use Rattle.summary_db.specs.Places.{Holds, Rolled}

take_more : (ks : List ℕ) (k i : ℕ) → get_elem? ks k ≡ some i → take (k + 1) ks ≡ take k ks ++ i ∷ []
take_more [] k i at = absurd (some-ne-none i (sym at))
take_more (x ∷ xs) zero i at = ap (λ (j : ℕ). j ∷ []) (some-injective x i at)
take_more (x ∷ xs) (suc k) i at = let e : suc k + 1 ≡ suc (k + 1) = omega arith in ap (λ (n : ℕ). take n (x ∷ xs)) e ∙ ap (λ l. x ∷ l) (take_more xs k i at)

module _ {S : Type 0} where
  pub holds_map : (P Q : ℕ → S → Type 0) → ((i : ℕ) (y : S) → P i y → Q i y) → (ks : List ℕ) (l : List (ℕ × S)) → Holds P ks l → Holds Q ks l
  holds_map P Q h [] [] holds = tt
  holds_map P Q h [] (x ∷ xs) holds = absurd holds
  holds_map P Q h (k ∷ ks) [] holds = absurd holds
  holds_map P Q h (k ∷ ks) (x ∷ xs) holds = (holds.0, h k x.1 holds.1, holds_map P Q h ks xs holds.2)

  holds_snoc : (Q : ℕ → S → Type 0) (ks : List ℕ) (l : List (ℕ × S)) (i : ℕ) (z : S) → Holds Q ks l → Q i z → Holds Q (ks ++ i ∷ []) (l ++ (i, z) ∷ [])
  holds_snoc Q [] [] i z holds q = (refl, q, tt)
  holds_snoc Q [] (x ∷ xs) i z holds q = absurd holds
  holds_snoc Q (k ∷ ks) [] i z holds q = absurd holds
  holds_snoc Q (k ∷ ks) (x ∷ xs) i z holds q = (holds.0, holds.1, holds_snoc Q ks xs i z holds.2 q)

  holds_none : (P : ℕ → S → Type 0) (l : List (ℕ × S)) → Holds P [] l → l ≡ []
  holds_none P [] holds = refl
  holds_none P (x ∷ xs) holds = absurd holds

  -- the next slot of the list, and the list once it has gone behind
  pub record IsNext (P Q : ℕ → S → Type 0) (ks : List ℕ) (k i : ℕ) (l : List (ℕ × S)) : Type 0 where
    pub value : S
    pub first : l ≡ (i, value) ∷ rest l
    pub is : P i value
    pub on : (z : S) → Q i z → Rolled P Q ks (k + 1) (turned ((i, z) ∷ rest l))

  next : (P Q : ℕ → S → Type 0) (ks : List ℕ) (k i : ℕ) (front back : List (ℕ × S)) → get_elem? ks k ≡ some i
      → Holds P (i ∷ drop (suc k) ks) front → Holds Q (take k ks) back → IsNext P Q ks k i (front ++ back)
  next P Q ks k i [] back at ahead behind = absurd ahead
  next P Q ks k i (x ∷ xs) back at ahead behind =
      record {
        value = x.1;
        first = λ j. (ahead.0 j, x.1) ∷ (xs ++ back);
        is = ahead.1;
        on =
            λ z q. record {
              front = xs;
              back = back ++ (i, z) ∷ [];
              whole = append_assoc xs back ((i, z) ∷ []);
              ahead = let e : suc k ≡ k + 1 = omega arith in subst (λ (n : ℕ). Holds P (drop n ks) xs) e ahead.2;
              behind = subst (λ js. Holds Q js (back ++ (i, z) ∷ [])) (sym (take_more ks k i at)) (holds_snoc Q (take k ks) back i z behind q);
            };
      }

  pub roll : (P Q : ℕ → S → Type 0) (ks : List ℕ) (k i : ℕ) (l : List (ℕ × S)) → get_elem? ks k ≡ some i → Rolled P Q ks k l → IsNext P Q ks k i l
  roll P Q ks k i l at r =
      subst (IsNext P Q ks k i) (sym r.whole) (next P Q ks k i r.front r.back at (subst (λ js. Holds P js r.front) (drop_at ks k i at) r.ahead) r.behind)

  pub rolled_start : (P Q : ℕ → S → Type 0) (ks : List ℕ) (l : List (ℕ × S)) → Holds P ks l → Rolled P Q ks 0 l
  rolled_start P Q ks l holds = record { front = l; back = []; whole = sym (append-nil l); ahead = holds; behind = tt }

  pub rolled_end : (P Q : ℕ → S → Type 0) (ks : List ℕ) (l : List (ℕ × S)) → Rolled P Q ks (length ks) l → Holds Q ks l
  rolled_end P Q ks l r =
      let gone : r.front ≡ [] = holds_none P r.front (subst (λ js. Holds P js r.front) (drop_all (length ks) ks (omega arith)) r.ahead) in
      let same : l ≡ r.back = r.whole ∙ ap (λ xs. xs ++ r.back) gone in
      subst (Holds Q ks) (sym same) (subst (λ js. Holds Q js r.back) (take_all (length ks) ks (omega arith)) r.behind)

  pub rolled_map : (P Q P' Q' : ℕ → S → Type 0) (ks : List ℕ) (k : ℕ) (l : List (ℕ × S)) → ((i : ℕ) (y : S) → P i y → P' i y) → ((i : ℕ) (y : S) → Q i y → Q' i y)
      → Rolled P Q ks k l → Rolled P' Q' ks k l
  rolled_map P Q P' Q' ks k l p q r =
      record { front = r.front; back = r.back; whole = r.whole; ahead = holds_map P P' p (drop k ks) r.front r.ahead; behind = holds_map Q Q' q (take k ks) r.back r.behind }
