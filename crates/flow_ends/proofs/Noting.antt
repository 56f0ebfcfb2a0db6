-- What is noted of locations, one after the other.
use Rattle.std.proofs.Common.{◌≡◌, ◌⊎◌, ℕ, ◌+◌, ◌<◌, nat_eq, Bool, true, false, ◌&&◌, ◌||◌, not, if◌then◌else◌, List, refl, sym, ◌∙◌, ap, inl, inr, arith}
use Rattle.std.proofs.lemmas.Bool.{eqb-true, eq-eqb, ne_eqb, cases_eq, cases_lt, false≢true}
use Rattle.bit_net.specs.declared.nodes.Gate.{Gate}
use Rattle.gl_store.specs.declared.stores.Location.{Location}
use Rattle.gl_store.specs.Meets.{MeetsAll}
use Rattle.gate_runs.specs.Stands.{told}
use Rattle.run_store.specs.Concrete.{Place, flag_at}
use Rattle.run_store.specs.declared.Flag.TheVariants as flag
use Rattle.flow_ends.specs.Noted.{NotesAt}

-- what was noted of the first `count` locations is what the store tells of them
pub record NotesSoFar (v : ℕ → Bool) (stopped count : ℕ) (stored : List Location) (old_touched old_noted new_touched new_noted : List Gate) : Type 0 where
  pub stays : v stopped ≡ true → (l : ℕ) → told v new_touched l ≡ told v old_touched l
  pub noted : (ps : List Place) → MeetsAll v stored ps → (l : ℕ) → l < count → told v new_noted l ≡ flag_at ps l flag.Touched
  pub same : v stopped ≡ false → ((l : ℕ) → told v old_touched l ≡ told v old_noted l) → (l : ℕ) → told v new_touched l ≡ told v new_noted l

pub begin_noting : (v : ℕ → Bool) (stopped : ℕ) (stored : List Location) (touched noted : List Gate)
    → NotesSoFar v stopped 0 stored touched noted touched noted
begin_noting v stopped stored touched noted = record {
  stays = λ is l. refl;
  noted = λ ps m l low. absurd (omega arith);
  same = λ is e l. e l;
}

pub note_more : (v : ℕ → Bool) (stopped k : ℕ) (stored : List Location) (now : Bool) (ot on t n t' n' : List Gate) → NotesSoFar v stopped k stored ot on t n
    → ((ps : List Place) → MeetsAll v stored ps → now ≡ flag_at ps k flag.Touched) → NotesAt v stopped k now t n t' n'
    → NotesSoFar v stopped (k + 1) stored ot on t' n'
note_more v stopped k stored now ot on t n t' n' h tells at = record {
  stays = λ is l. at.stays is l ∙ h.stays is l;
  noted = λ ps m l low. at.noted l ∙ by ps m l low (cases_eq k l);
  same = λ is e l. at.same is (h.same is e) l;
}
  where
    by : (ps : List Place) → MeetsAll v stored ps → (l : ℕ) → l < k + 1 → (k ≡ l) ⊎ (k ≡ l → ⊥)
        → (if nat_eq k l then now else told v n l) ≡ flag_at ps l flag.Touched
    by ps m l low (inl same) =
        ap (λ b. if b then now else told v n l) (eq-eqb k l same) ∙ (tells ps m ∙ ap (λ j. flag_at ps j flag.Touched) same)
    by ps m l low (inr other) =
        ap (λ b. if b then now else told v n l) (ne_eqb k l other) ∙ h.noted ps m l (before l low other)
      where
        before : (l' : ℕ) → l' < k + 1 → (k ≡ l' → ⊥) → l' < k
        before l' less differ = elim (cases_lt l' k) [ inl x ↦ x | inr x ↦ absurd (differ (omega arith)) ]

-- Of one location.

-- what stands in place k
put_in : (f : ℕ → Bool) (k l : ℕ) (x : Bool) → x ≡ f k → (if nat_eq k l then x else f l) ≡ f l
put_in f k l x e = by (nat_eq k l) refl
  where
    by : (t : Bool) → nat_eq k l ≡ t → (if t then x else f l) ≡ f l
    by true is = e ∙ ap f (eqb-true k l is)
    by false is = refl

both_put : (f g : ℕ → Bool) (k l : ℕ) (x y : Bool) → x ≡ y → ((j : ℕ) → f j ≡ g j) → (if nat_eq k l then x else f l) ≡ (if nat_eq k l then y else g l)
both_put f g k l x y e all = by (nat_eq k l)
  where
    by : (t : Bool) → (if t then x else f l) ≡ (if t then y else g l)
    by true = e
    by false = all l

-- what was noted last is told now
pub noted_already : (v : ℕ → Bool) (stopped k : ℕ) (now : Bool) (touched noted : List Gate) → now ≡ told v noted k
    → NotesAt v stopped k now touched noted touched noted
noted_already v stopped k now touched noted is = record {
  stays = λ on l. refl;
  noted = λ l. sym (put_in (told v noted) k l now is);
  same = λ off e l. e l;
}

-- it is noted anew
pub noted_anew : (v : ℕ → Bool) (stopped k : ℕ) (now kept : Bool) (touched noted touched' noted' : List Gate)
    → kept ≡ (if v stopped then told v touched k else now)
    → ((l : ℕ) → told v touched' l ≡ (if nat_eq k l then kept else told v touched l))
    → ((l : ℕ) → told v noted' l ≡ (if nat_eq k l then now else told v noted l)) → NotesAt v stopped k now touched noted touched' noted'
noted_anew v stopped k now kept touched noted touched' noted' is t n = record {
  stays = λ on l. t l ∙ put_in (told v touched) k l kept (is ∙ ap (λ b. if b then told v touched k else now) on);
  noted = λ l. n l;
  same = λ off e l.
      t l ∙ (both_put (told v touched) (told v noted) k l kept now (is ∙ ap (λ b. if b then told v touched k else now) off) e ∙ sym (n l));
}

-- Of a step.

-- whether a step ended the run, which had touched the location then
pub step_noted : (stopped over now : Bool) (old new flag : Bool) → (stopped ≡ true → over ≡ true) → (now ≡ true → over ≡ false)
    → (stopped ≡ true → new ≡ old) → (stopped ≡ false → new ≡ flag)
    → ((stopped || now) && new) ≡ ((stopped && old) || (now && flag))
step_noted true over true old new flag is_over ends stays tells = absurd (false≢true (sym (ends refl) ∙ is_over refl))
step_noted true over false old new flag is_over ends stays tells = stays refl ∙ sym (or_false old)
  where
    or_false : (b : Bool) → (b || false) ≡ b
    or_false true = refl
    or_false false = refl
step_noted false over true old new flag is_over ends stays tells = tells refl
step_noted false over false old new flag is_over ends stays tells = refl

-- where no step ends the run
pub none_noted : (stopped now : Bool) (old new : Bool) → now ≡ false → (stopped ≡ true → new ≡ old) → ((stopped || now) && new) ≡ (stopped && old)
none_noted true now old new none stays = stays refl
none_noted false now old new none stays = ap (λ b. b && new) none

-- a run that is over has not ended now
pub ends_before : (over on live : Bool) → (not over && (on && not live)) ≡ true → over ≡ false
ends_before true on live is = absurd (false≢true is)
ends_before false on live is = refl

pub stopped_is_over : (stopped over now : Bool) → (stopped ≡ true → over ≡ true) → (stopped || now) ≡ true → (over || now) ≡ true
stopped_is_over true over now h is = ap (λ b. b || now) (h refl)
stopped_is_over false over now h is = ap (λ b. over || b) is ∙ or_true over
  where
    or_true : (b : Bool) → (b || true) ≡ true
    or_true true = refl
    or_true false = refl

pub not_stopped : (stopped now : Bool) → (stopped || now) ≡ false → stopped ≡ false
not_stopped true now is = is
not_stopped false now is = refl
