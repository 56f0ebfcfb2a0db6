-- Sets as lists, functions changed at one number, and what such a change does to the sets of a view.
use Rattle.std.proofs.Common.{◌≡◌, ◌≢◌, ℕ, ◌+◌, ◌<◌, ◌≤◌, Bool, true, false, cond, ◌&&◌, ◌||◌, eqb, List, [], ◌∷◌, ◌++◌, refl, sym, ap, ◌∙◌, subst, ⊎_elim, inl, inr, arith, eq-eqb, ne_eqb}
use Rattle.std.proofs.lemmas.Bool.{cases_eq, cases_Bool, cond_both, cond-true, cond-false, or_left, or_right, or_from, or_cases, and_left, and_right, eqb-true}
use Rattle.summary_db.specs.Views.{member, without}
use Rattle.summary_db.specs.Rule.{Stage, is_with}

module _ {A : Type 0} where
  abbrev pub upd : (ℕ → A) → ℕ → A → ℕ → A
  upd h f x g = cond (eqb g f) x (h g)

  pub upd_here : (h : ℕ → A) (f : ℕ) (x : A) → upd h f x f ≡ x
  upd_here h f x = cond-true (eqb f f) x (h f) (eq-eqb f f refl)

  pub upd_else : (h : ℕ → A) (f : ℕ) (x : A) (g : ℕ) → g ≢ f → upd h f x g ≡ h g
  upd_else h f x g other = cond-false (eqb g f) x (h g) (ne_eqb g f other)

  pub upd_at : (h : ℕ → A) (f : ℕ) (x : A) (g : ℕ) → g ≡ f → upd h f x g ≡ x
  upd_at h f x g same = cond-true (eqb g f) x (h g) (eq-eqb g f same)

  pub upd_all : (P : ℕ → A → Type 0) (h : ℕ → A) (f : ℕ) (x : A) → P f x → ((g : ℕ) → g ≢ f → P g (h g)) → (g : ℕ) → P g (upd h f x g)
  upd_all P h f x here others g =
      ⊎_elim
      (λ same. subst (P g) (sym (upd_at h f x g same)) (subst (λ (k : ℕ). P k x) (sym same) here))
      (λ other. subst (P g) (sym (upd_else h f x g other)) (others g other))
      (cases_eq g f)

pub member_here : (f : ℕ) (gs : List ℕ) → member f (f ∷ gs) ≡ true
member_here f gs = or_left (eqb f f) (member f gs) (eq-eqb f f refl)

pub member_else : (g f : ℕ) (gs : List ℕ) → g ≢ f → member g (f ∷ gs) ≡ member g gs
member_else g f gs other = ap (λ (b : Bool). b || member g gs) (ne_eqb g f other)

pub without_here : (f : ℕ) (gs : List ℕ) → member f (without f gs) ≡ false
without_here f [] = refl
without_here f (g ∷ gs) =
    cond_both (eqb f g) (without f gs) (g ∷ without f gs) (λ l. member f l ≡ false)
    (λ _. without_here f gs) (λ other. or_from (eqb f g) (member f (without f gs)) other (without_here f gs))

pub without_else : (h f : ℕ) (gs : List ℕ) → h ≢ f → member h (without f gs) ≡ member h gs
without_else h f [] other = refl
without_else h f (g ∷ gs) other =
    cond_both (eqb f g) (without f gs) (g ∷ without f gs) (λ l. member h l ≡ (eqb h g || member h gs))
    (λ same. without_else h f gs other ∙ sym (ap (λ (b : Bool). b || member h gs) (ne_eqb h g (λ e. other (e ∙ sym (eqb-true f g same))))))
    (λ _. ap (λ (b : Bool). eqb h g || b) (without_else h f gs other))

or_again : (a b c : Bool) → (a || (b || c)) ≡ ((a || b) || c)
or_again true b c = refl
or_again false b c = refl

pub member_append : (f : ℕ) (gs hs : List ℕ) → member f (gs ++ hs) ≡ (member f gs || member f hs)
member_append f [] hs = refl
member_append f (g ∷ gs) hs =
    ap (λ (b : Bool). eqb f g || b) (member_append f gs hs) ∙ or_again (eqb f g) (member f gs) (member f hs)

module _ (test : Stage → Bool) (stage : ℕ → Stage) (owner : ℕ → ℕ) (f : ℕ) (st : Stage) (who seat : ℕ) where
  with_here : (g : ℕ) → g ≡ f → is_with test (upd stage f st) (upd owner f who) seat g ≡ (test st && eqb who seat)
  with_here g same = λ i. test (upd_at stage f st g same i) && eqb (upd_at owner f who g same i) seat

  with_else : (g : ℕ) → g ≢ f → is_with test (upd stage f st) (upd owner f who) seat g ≡ is_with test stage owner seat g
  with_else g other = λ i. test (upd_else stage f st g other i) && eqb (upd_else owner f who g other i) seat

  -- a set that f is not in, before and after
  pub keeps_set : (gs : List ℕ) → ((g : ℕ) → member g gs ≡ is_with test stage owner seat g)
      → is_with test stage owner seat f ≡ false → (test st && eqb who seat) ≡ false
      → (g : ℕ) → member g gs ≡ is_with test (upd stage f st) (upd owner f who) seat g
  keeps_set gs old was now g =
      ⊎_elim
      (λ same. ((ap (λ (k : ℕ). member k gs) same ∙ old f) ∙ was) ∙ sym (with_here g same ∙ now))
      (λ other. old g ∙ sym (with_else g other))
      (cases_eq g f)

  -- a set that f joins
  pub adds_set : (gs : List ℕ) → ((g : ℕ) → member g gs ≡ is_with test stage owner seat g)
      → (test st && eqb who seat) ≡ true
      → (g : ℕ) → member g (f ∷ gs) ≡ is_with test (upd stage f st) (upd owner f who) seat g
  adds_set gs old now g =
      ⊎_elim
      (λ same. (ap (λ (k : ℕ). member k (f ∷ gs)) same ∙ member_here f gs) ∙ sym (with_here g same ∙ now))
      (λ other. (member_else g f gs other ∙ old g) ∙ sym (with_else g other))
      (cases_eq g f)

  -- a set that f leaves
  pub drops_set : (gs : List ℕ) → ((g : ℕ) → member g gs ≡ is_with test stage owner seat g)
      → (test st && eqb who seat) ≡ false
      → (g : ℕ) → member g (without f gs) ≡ is_with test (upd stage f st) (upd owner f who) seat g
  drops_set gs old now g =
      ⊎_elim
      (λ same. (ap (λ (k : ℕ). member k (without f gs)) same ∙ without_here f gs) ∙ sym (with_here g same ∙ now))
      (λ other. (without_else g f gs other ∙ old g) ∙ sym (with_else g other))
      (cases_eq g f)
