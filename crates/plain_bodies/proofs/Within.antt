-- Steps in a block that are put together of steps that leave what is outside as it is.
use Rattle.std.proofs.Common.{◌≡◌, ℕ, Bool, true, false, not, None, List, [], ◌∷◌, refl, sym, subst, ◌∙◌, ap, if◌then◌else◌}
use Rattle.sc_base.specs.declared.pos.NameId.{NameId}
use Rattle.scopes.specs.Frames.{Frames, closed, without_innermost, declared_in, opened, meaning, here as declared_here}
use Rattle.sc_rules.specs.declared.walk.Tag.{Tag}
use Rattle.sc_rules.specs.declared.walk.TagKind.{TagKind}
use Rattle.sc_rules.specs.declared.walk.Entity.{Entity}
use Rattle.sc_rules.specs.declared.walk.Walk.{Walk}
use Rattle.sc_rules.specs.Walks.{Check, then_with, ◌>>=◌, done, declare, no_scope, open_scope, close_scope, scoped}
use Rattle.sc_names.specs.Tags.{clashes}
use Rattle.plain_bodies.specs.Tagged.{is_kind, is_tagged}
use Rattle.plain_bodies.specs.Leaves.{HasTags, FaultAlone, InBlock, faultless, outside, is_open}
use Rattle.plain_bodies.proofs.Plain.{never, first_so, both_so}

-- what a step leaves of a walk in a block
abbrev Left : Walk → Walk → Type 0
Left v w = (outside v ≡ outside w) × (is_open v.names.blocks ≡ true)

-- a walk without what ends with the function
abbrev unlocal : Walk → Walk
unlocal w = record w { locals = []; first = None }

left_from : (v w : Walk) → unlocal v ≡ unlocal w → is_open w.names.blocks ≡ true → Left v w
left_from v w is block = (ap outside is, subst (λ (x : Walk). is_open x.names.blocks ≡ true) (sym is) block)

fault_left : (v w : Walk) → faultless v ≡ faultless w → is_open w.names.blocks ≡ true → Left v w
fault_left v w is block = (ap outside is, subst (λ (x : Walk). is_open x.names.blocks ≡ true) (sym is) block)

-- A tag that stands, stands in a block that is opened.

opened_so : (tags : Frames Tag) (k : TagKind) (name : NameId) → is_tagged tags k name ≡ true → is_tagged (opened [] tags) k name ≡ true
opened_so tags k name h =
    both_so (is_kind k (meaning name.at tags)) true (first_so (is_kind k (meaning name.at tags)) (not (clashes k false (declared_here name.at tags))) h) refl

abbrev shut : Walk → Walk
shut w = record w { tags = closed w.tags }

shut_left : {A : Type 0} (r : A × Walk) (w : Walk) → Left r.1 (open_scope no_scope w).1 → unlocal (then_with r (λ a. close_scope >>= λ s. done a)).1 ≡ unlocal w
shut_left (a, v) w is = ap shut is.0

-- A name that is declared.

in_blocks : (n : ℕ) (e : Entity) (bs : List (List (ℕ × Entity))) (f : Frames Entity) → bs ≡ f.blocks → is_open bs ≡ true → (closed (declared_in n e bs f) ≡ closed f) × (is_open (declared_in n e bs f).blocks ≡ true)
in_blocks n e [] f is block = never block
in_blocks n e (b ∷ bs) f is block = (ap (λ (xs : List (List (ℕ × Entity))). record f { blocks = without_innermost xs }) is, refl)

declare_left : (name : NameId) (e : Entity) (w : Walk) → is_open w.names.blocks ≡ true → Left (declare name e w).1 w
declare_left name e w block =
    let same : (closed (declared_in name.at e w.names.blocks w.names) ≡ closed w.names) × (is_open (declared_in name.at e w.names.blocks w.names).blocks ≡ true) = in_blocks name.at e w.names.blocks w.names refl block in
    (ap (λ (f : Frames Entity). record w { names = f; locals = []; first = None }) same.0, same.1)

module _ {T : Frames Tag} where
  pub stays : {A : Type 0} {m : Check A} → ((w : Walk) → is_open w.names.blocks ≡ true → (outside (m w).1 ≡ outside w) × (is_open (m w).1.names.blocks ≡ true)) → InBlock T m
  stays k = record { kept = λ w has block. k w block }

  pub fault : {A : Type 0} {m : Check A} → FaultAlone T m → InBlock T m
  fault {A = A} {m = m} first = record { kept = λ w has block. fault_left (m w).1 w (first.kept w has) block }

  then_left : {A B : Type 0} (r : A × Walk) (f : A → Check B) (w : Walk) → HasTags T w.tags → Left r.1 w → ((a : A) → InBlock T (f a)) → Left (then_with r f).1 w
  then_left (a, v) f w has is rest =
      let next : Left (f a v).1 v = (rest a).kept v (subst (λ (x : Walk). HasTags T x.tags) (sym is.0) has) is.1 in
      (next.0 ∙ is.0, next.1)

  pub in_then : {A B : Type 0} (m : Check A) (f : A → Check B) → InBlock T m → ((a : A) → InBlock T (f a)) → InBlock T (m >>= f)
  in_then m f first rest = record { kept = λ w has block. then_left (m w) f w has (first.kept w has block) rest }

  pub in_done : {A B : Type 0} (m : Check A) (f : A → B) → InBlock T m → InBlock T (m >>= λ a. done (f a))
  in_done m f first = record { kept = λ w has block. then_left (m w) (λ a. done (f a)) w has (first.kept w has block) (λ a. record { kept = λ v has block. (refl, block) }) }

  pub in_if : {A : Type 0} (b : Bool) (m n : Check A) → InBlock T m → InBlock T n → InBlock T (if b then m else n)
  in_if true m n first second = first
  in_if false m n first second = second

  pub in_else : {A : Type 0} (b : Bool) (m n : Check A) → b ≡ false → InBlock T n → InBlock T (if b then m else n)
  in_else true m n is second = never (sym is)
  in_else false m n is second = second

  pub in_scope : {A : Type 0} (m : Check A) → InBlock T m → InBlock T (scoped m)
  in_scope m first =
      record {
        kept = λ w has block.
            left_from (scoped m w).1 w
            (shut_left (m (open_scope no_scope w).1) w
            (first.kept (open_scope no_scope w).1 (record { has = λ k name h. opened_so w.tags k name (has.has k name h) }) refl)) block;
      }

  pub in_declare : (name : NameId) (e : Entity) → InBlock T (declare name e)
  in_declare name e = record { kept = λ w has block. declare_left name e w block }
