-- Taking many slots in one step, and giving them back.
use Rattle.std.proofs.Common.{◌≡◌, ◌≢◌, ℕ, zero, suc, ◌+◌, ◌<◌, ◌≤◌, Bool, true, false, ◌||◌, eqb, List, [], ◌∷◌, ◌++◌, length, set, refl, sym, ap, ◌∙◌, subst, ⊎_elim, inl, inr, arith, eq-eqb, ne_eqb, length-set}
use mathlib.Core.Option.{Option, some, none, some-injective, some-ne-none}
use lib.ListN.{get_elem?}
use Rattle.std.proofs.lemmas.Bool.{cases_eq, or_left, or_right, or_cases, or_parts, eqb-true, false≢true}
use Rattle.atomic_table.specs.Table.{Act, keeps, takes, gives, chain, carried_after, homes_after, Valid}
use Rattle.atomic_table.proofs.Lists.{set_here, set_else}
use Rattle.summary_db.specs.Views.{member}
use Rattle.summary_db.specs.Places.{Holds}
use Rattle.summary_db.proofs.Sets.{member_else}
use Rattle.summary_db.proofs.Numbers.{Distinct}

pub inside_from_at : {A : Type 0} (l : List A) (i : ℕ) (a : A) → get_elem? l i ≡ some a → i < length l
inside_from_at [] i a at = absurd (some-ne-none a (sym at))
inside_from_at (x ∷ xs) zero a at = omega arith
inside_from_at (x ∷ xs) (suc i) a at = let h = inside_from_at xs i a at in omega arith

pub member_rest : (i k : ℕ) (ks : List ℕ) → i ≢ k → member i (k ∷ ks) ≡ true → member i ks ≡ true
member_rest i k ks other has = sym (member_else i k ks other) ∙ has

module _ {S : Type 0} where
  pub record IsTaken (P : ℕ → S → Type 0) (ks : List ℕ) (hs : List (Option S)) (c : List (ℕ × S)) : Type 0 where
    pub held : List (ℕ × S)
    pub act : Act S
    pub holds : Holds P ks held
    pub valid : Valid hs c act
    pub carried : carried_after c act ≡ held ++ c
    pub out : (i : ℕ) → member i ks ≡ true → get_elem? (homes_after hs c act) i ≡ some none
    pub others : (i : ℕ) → member i ks ≡ false → get_elem? (homes_after hs c act) i ≡ get_elem? hs i
    pub as_many : length (homes_after hs c act) ≡ length hs

  pub take_all : (P : ℕ → S → Type 0) (ks : List ℕ) (hs : List (Option S)) (c : List (ℕ × S)) → Distinct ks
      → ((k : ℕ) → member k ks ≡ true → (y : S) × (get_elem? hs k ≡ some (some y)) × P k y) → IsTaken P ks hs c
  take_all P [] hs c apart home = record { held = []; act = keeps; holds = tt; valid = tt; carried = refl; out = λ i has. absurd (false≢true has); others = λ i _. refl; as_many = refl }
  take_all P (k ∷ ks) hs c apart home =
      let r : IsTaken P ks hs c = take_all P ks hs c apart.1 (λ j has. home j (or_right (eqb j k) (member j ks) has)) in
      let mine = home k (or_left (eqb k k) (member k ks) (eq-eqb k k refl)) in
      let at : get_elem? (homes_after hs c r.act) k ≡ some (some mine.0) = r.others k apart.0 ∙ mine.1 in
      record {
        held = (k, mine.0) ∷ r.held;
        act = chain r.act (takes k mine.0);
        holds = (refl, mine.2, r.holds);
        valid = (r.valid, at);
        carried = ap (λ l. (k, mine.0) ∷ l) r.carried;
        out =
            λ i has. ⊎_elim
            (λ same. subst (λ (j : ℕ). get_elem? (set (homes_after hs c r.act) k none) j ≡ some none) (sym same) (set_here (homes_after hs c r.act) k none (inside_from_at (homes_after hs c r.act) k (some mine.0) at)))
            (λ other. set_else (homes_after hs c r.act) k i none other ∙ r.out i (member_rest i k ks other has))
            (cases_eq i k);
        others =
            λ i has.
            let other : i ≢ k = λ e. false≢true (sym (or_parts (eqb i k) (member i ks) has).0 ∙ eq-eqb i k e) in
            set_else (homes_after hs c r.act) k i none other ∙ r.others i (or_parts (eqb i k) (member i ks) has).1;
        as_many = length-set (homes_after hs c r.act) k none ∙ r.as_many;
      }

  pub record IsGiven (Q : ℕ → S → Type 0) (ks : List ℕ) (hs : List (Option S)) (l : List (ℕ × S)) : Type 0 where
    pub act : Act S
    pub valid : Valid hs l act
    pub carried : carried_after l act ≡ []
    pub home : (i : ℕ) → member i ks ≡ true → (y : S) × (get_elem? (homes_after hs l act) i ≡ some (some y)) × Q i y
    pub others : (i : ℕ) → member i ks ≡ false → get_elem? (homes_after hs l act) i ≡ get_elem? hs i
    pub as_many : length (homes_after hs l act) ≡ length hs

  pub give_all : (Q : ℕ → S → Type 0) (ks : List ℕ) (hs : List (Option S)) (l : List (ℕ × S)) → Holds Q ks l → Distinct ks
      → ((k : ℕ) → member k ks ≡ true → k < length hs) → IsGiven Q ks hs l
  give_all Q [] hs [] holds apart inside = record { act = keeps; valid = tt; carried = refl; home = λ i has. absurd (false≢true has); others = λ i _. refl; as_many = refl }
  give_all Q [] hs (x ∷ xs) holds apart inside = absurd holds
  give_all Q (k ∷ ks) hs [] holds apart inside = absurd holds
  give_all Q (k ∷ ks) hs (x ∷ xs) holds apart inside =
      let hs' : List (Option S) = set hs x.0 (some x.1) in
      let many : length hs' ≡ length hs = length-set hs x.0 (some x.1) in
      let r : IsGiven Q ks hs' xs = give_all Q ks hs' xs holds.2 apart.1 (λ j has. let low = inside j (or_right (eqb j k) (member j ks) has) in omega arith) in
      let low = inside k (or_left (eqb k k) (member k ks) (eq-eqb k k refl)) in
      let put : get_elem? hs' k ≡ some (some x.1) = subst (λ (j : ℕ). get_elem? hs' j ≡ some (some x.1)) holds.0 (set_here hs x.0 (some x.1) (subst (λ (j : ℕ). j < length hs) (sym holds.0) low)) in
      record {
        act = chain gives r.act;
        valid = (tt, r.valid);
        carried = r.carried;
        home =
            λ i has. ⊎_elim
            (λ same. subst (λ (j : ℕ). (y : S) × (get_elem? (homes_after hs' xs r.act) j ≡ some (some y)) × Q j y) (sym same) (x.1, r.others k apart.0 ∙ put, holds.1))
            (λ other. r.home i (member_rest i k ks other has))
            (cases_eq i k);
        others =
            λ i has.
            let other : i ≢ x.0 = λ e. false≢true (sym (or_parts (eqb i k) (member i ks) has).0 ∙ eq-eqb i k (e ∙ holds.0)) in
            r.others i (or_parts (eqb i k) (member i ks) has).1 ∙ set_else hs x.0 i (some x.1) other;
        as_many = r.as_many ∙ many;
      }
