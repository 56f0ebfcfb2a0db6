-- The scopes told from one stack: what each call of the code means for them.
use Rattle.std.proofs.Common.{◌≡◌, ℕ, ◌+◌, ◌<◌, suc, zero, nat_eq, Bool, true, false, length, take, drop, reverse, ◌==◌, MatchBool, IfNone, if◌then◌else◌, Result, IsOk, is_ok, Option, Some, None, List, [], ◌∷◌, ◌++◌, refl, sym, ◌∙◌, ap, arith, add-one}
use Rattle.std.proofs.lemmas.List.{take-append-drop, reverse-append, length-drop}
use Rattle.std.proofs.Math.Dec.{eqb-suc-zero}
use Rattle.std.specs.Map.{lookup}
use Rattle.std.specs.Option.{option_to_list}
use Rattle.scopes.specs.Frames.{Frames, within, or_else, meaning, through, at_file, here, here_in, declared, closed, innermost, kept, forgotten}
use Rattle.scopes.specs.View.{frames}

split_step : {T : Type 0} (test : ℕ → Bool) (n : ℕ) (x : ℕ × T) (xs : List (ℕ × T)) (b : Bool) → test x.0 ≡ b → or_else (lookup test (take n xs)) (lookup test (drop n xs)) ≡ lookup test xs → or_else (lookup test (x ∷ take n xs)) (lookup test (drop n xs)) ≡ lookup test (x ∷ xs)
split_step test n x xs true same rest = rw same refl
split_step test n x xs false other rest = rw other rest

-- a look-up in a list is one in its front and then one in what is behind
pub lookup_split : {T : Type 0} (test : ℕ → Bool) (n : ℕ) (xs : List (ℕ × T)) → or_else (lookup test (take n xs)) (lookup test (drop n xs)) ≡ lookup test xs
lookup_split test zero xs = refl
lookup_split test (suc n) [] = refl
lookup_split test (suc n) (x ∷ xs) = split_step test n x xs (test x.0) refl (lookup_split test n xs)

pub meaning-frames : {T : Type 0} (name count : ℕ) (outer : List ℕ) (stack : List (ℕ × T)) → meaning name (frames count outer stack) ≡ lookup (nat_eq name) stack
meaning-frames name count [] stack = lookup_split (nat_eq name) count stack
meaning-frames name count (next ∷ outer) stack = ap (λ o. or_else (within name (take count stack)) o) (meaning-frames name next outer (drop count stack)) ∙ lookup_split (nat_eq name) count stack

pub length-frames : {T : Type 0} (count : ℕ) (outer : List ℕ) (stack : List (ℕ × T)) → length (frames count outer stack).blocks ≡ length outer
length-frames count [] stack = refl
length-frames count (next ∷ outer) stack = ap suc (length-frames next outer (drop count stack))

-- at file scope a name means what the file declares it to be
pub here_at_file : {T : Type 0} (name : ℕ) (f : Frames T) → f.blocks ≡ [] → meaning name f ≡ here name f
here_at_file name f file = ap (λ bs. through name bs (at_file name f)) file ∙ sym (ap (λ bs. here_in name bs (at_file name f)) file)

-- in a block it means there what the latest entries say that belong to the block
pub here_in_block : {T : Type 0} (name count : ℕ) (outer : List ℕ) (stack : List (ℕ × T)) → 0 < length (frames count outer stack).blocks → here name (frames count outer stack) ≡ lookup (nat_eq name) (take count stack)
here_in_block name count [] stack some = absurd (omega arith)
here_in_block name count (next ∷ outer) stack some = refl

pub frames-push : {T : Type 0} (name : ℕ) (value : T) (count : ℕ) (outer : List ℕ) (stack : List (ℕ × T)) → frames (count + 1) outer ((name, value) ∷ stack) ≡ declared name value (frames count outer stack)
frames-push name value count [] stack = rw add-one refl
frames-push name value count (next ∷ outer) stack = rw add-one refl

-- the scopes when the innermost block is gone
pub frames-closed : {T : Type 0} (count last : ℕ) (rest : List ℕ) (stack : List (ℕ × T)) → frames last (reverse rest) (drop count stack) ≡ closed (frames count (reverse (rest ++ last ∷ [])) stack)
frames-closed count last rest stack = rw (reverse-append rest (last ∷ [])) refl

pub innermost-frames : {T : Type 0} (count : ℕ) (outer : List ℕ) (stack : List (ℕ × T)) → 0 < length outer → take count stack ≡ innermost (frames count outer stack).blocks
innermost-frames count [] stack some = absurd (omega arith)
innermost-frames count (next ∷ outer) stack some = refl

pub frames-kept : {T : Type 0} (count : ℕ) (outer : List ℕ) (stack : List (ℕ × T)) → (frames count outer stack).blocks ≡ [] → frames 0 outer stack ≡ kept (frames count outer stack)
frames-kept count [] stack none = let whole : take count stack ++ drop count stack ≡ stack = take-append-drop count stack in rw whole refl
frames-kept count (next ∷ outer) stack none = (cc)

pub frames-forgotten : {T : Type 0} (count : ℕ) (outer : List ℕ) (stack : List (ℕ × T)) → (frames count outer stack).blocks ≡ [] → frames 0 outer (drop count stack) ≡ forgotten (frames count outer stack)
frames-forgotten count [] stack none = refl
frames-forgotten count (next ∷ outer) stack none = (cc)

-- an item taken from what is behind the first n
pub take-drop_more : {X : Type 0} (n : ℕ) (xs : List X) (x : X) (ys : List X) → drop n xs ≡ x ∷ ys → (take (suc n) xs ≡ take n xs ++ x ∷ []) × (drop (suc n) xs ≡ ys)
take-drop_more zero [] x ys is = (cc)
take-drop_more zero (z ∷ zs) x ys is = let same : z ≡ x = (cc) in let rest : zs ≡ ys = (cc) in (ap (λ e. e ∷ []) same, rest)
take-drop_more (suc n) [] x ys is = (cc)
take-drop_more (suc n) (z ∷ zs) x ys is = let more = take-drop_more n zs x ys is in (ap (λ t. z ∷ t) more.0, more.1)

drop_past : {X : Type 0} (n : ℕ) (xs : List X) → drop n xs ≡ [] → drop (suc n) xs ≡ []
drop_past zero [] none = refl
drop_past zero (z ∷ zs) none = (cc)
drop_past (suc n) [] none = refl
drop_past (suc n) (z ∷ zs) none = drop_past n zs none

-- what is left when the front of what is behind the first n goes too
pub drop_next : {X : Type 0} (n : ℕ) (xs : List X) (o : Option X) (ys : List X) → drop n xs ≡ option_to_list o ++ ys → IfNone o (drop n xs ≡ []) → ys ≡ drop (n + 1) xs
drop_next n xs (Some x) ys is end = rw add-one (sym (take-drop_more n xs x ys is).1)
drop_next n xs None ys is end = rw (add-one, drop_past n xs end) (sym is ∙ end)

-- whether a block is open
pub blocks-frames : {T : Type 0} (b : Bool) (count : ℕ) (outer : List ℕ) (stack : List (ℕ × T)) → b ≡ (length outer == 0) → MatchBool b ((frames count outer stack).blocks ≡ []) (0 < length (frames count outer stack).blocks)
blocks-frames true count [] stack is = refl
blocks-frames false count [] stack is = (cc)
blocks-frames true count (next ∷ outer) stack is = let no : (suc (length outer) == 0) ≡ false = eqb-suc-zero (length outer) in (cc)
blocks-frames false count (next ∷ outer) stack is = omega arith

-- a push that succeeds, of the item at the front of what is behind the first n
pub taken_next : {X R E : Type 0} (n : ℕ) (xs : List X) (x : X) (ys items new : List X) (r : Result R E) → drop n xs ≡ x ∷ ys → items ≡ take n xs → new ≡ (if is_ok r then items ++ x ∷ [] else items) → IsOk r → new ≡ take (n + 1) xs
taken_next n xs x ys items new r front taken pushed ok =
    let more : take (suc n) xs ≡ take n xs ++ x ∷ [] = (take-drop_more n xs x ys front).0 in
    let yes : is_ok r ≡ true = ok in
    let put = rw yes at pushed in
    rw (add-one, more, put, taken) refl

-- something is behind the first n
pub drop_some : {X : Type 0} (n : ℕ) (xs : List X) → n < length xs → drop n xs ≡ [] → ⊥
drop_some n xs more none = omega (arith, ap length none, length-drop n xs)
