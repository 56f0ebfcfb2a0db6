-- The list of nodes, the newest first, behind one more.
use Rattle.std.proofs.Common.{◌≡◌, ℕ, ◌-◌, List, [], ◌∷◌, ◌++◌, length, map, take, drop, slice_index_or, zero, suc, ◌<◌, refl, sym, ap, ◌∙◌, length-drop, arith}
use Rattle.std.specs.Prelude.{reverse, set}
use Rattle.std.proofs.lemmas.List.{map-append, reverse-append, length-reverse, length-map, take-append-drop, take-append-le, append-nil}
use Rattle.std.proofs.Math.Seq.{drop-append_seam, take-length, drop-length}

pub put_step : {A B : Type 0} (f : A → B) (xs : List A) (x : A) → reverse (map f (xs ++ x ∷ [])) ≡ f x ∷ reverse (map f xs)
put_step f xs x = ap reverse (map-append f xs (x ∷ [])) ∙ reverse-append (map f xs) (f x ∷ [])

pub put_length : {A B : Type 0} (f : A → B) (xs : List A) → length (reverse (map f xs)) ≡ length xs
put_length f xs = length-reverse (map f xs) ∙ length-map xs f

map_reverse : {A B : Type 0} (f : A → B) (xs : List A) → map f (reverse xs) ≡ reverse (map f xs)
map_reverse f [] = refl
map_reverse f (x ∷ xs) =
    ap (map f) (reverse-append (x ∷ []) xs)
    ∙ (map-append f (reverse xs) (x ∷ [])
    ∙ (ap (λ ys. ys ++ f x ∷ []) (map_reverse f xs)
    ∙ sym (reverse-append (f x ∷ []) (map f xs))))

-- the oldest nodes of a list, the newest of them first
pub cut_is : {A B : Type 0} (f : A → B) (xs : List A) (n : ℕ) → drop (length (reverse (map f xs)) - n) (reverse (map f xs))
    ≡ map f (reverse (take n xs))
cut_is f xs n =
    let front = reverse (map f (drop n xs)) in
    let parts : reverse (map f xs) ≡ front ++ reverse (map f (take n xs)) =
    ap (λ ys. reverse (map f ys)) (sym (take-append-drop n xs))
    ∙ (ap reverse (map-append f (take n xs) (drop n xs)) ∙ reverse-append (map f (take n xs)) (map f (drop n xs))) in
    let long : length front ≡ length xs - n = put_length f (drop n xs) ∙ length-drop n xs in
    let count : length (reverse (map f xs)) - n ≡ length front = ap (λ m. m - n) (put_length f xs) ∙ sym long in
    ap (λ m. drop m (reverse (map f xs))) count
    ∙ (ap (drop (length front)) parts
    ∙ (drop-append_seam front (reverse (map f (take n xs)))
    ∙ sym (map_reverse f (take n xs))))

-- the same, without its end
pub rest_is : {A B : Type 0} (f : A → B) (xs : List A) (n : ℕ) → reverse (map f (take n xs))
    ≡ drop (length (reverse (map f xs)) - n) (reverse (map f xs))
rest_is f xs n = sym (cut_is f xs n ∙ map_reverse f (take n xs))

abbrev first_of : {A : Type 0} → A → List A → A
first_of d [] = d
first_of d (x ∷ xs) = x

-- One node more is turned, in its place.
pub turn_step : {A B : Type 0} (f : A → B) (t : B → B) (xs ys : List A) (k : ℕ) (y d : A) → k < length ys → length xs ≡ length ys
    → map f xs ≡ map t (map f (take k ys)) ++ map f (drop k ys) → f y ≡ t (f (slice_index_or xs k d))
    → map f (set xs k y) ≡ map t (map f (take (suc k) ys)) ++ map f (drop (suc k) ys)
turn_step f t xs [] k y d low same h e = absurd (omega (arith, low))
turn_step f t [] (z ∷ zs) k y d low same h e = absurd (omega (arith, same))
turn_step f t (x ∷ xs) (z ∷ zs) zero y d low same h e =
    ap (λ b. b ∷ map f xs) (e ∙ ap t (ap (first_of (f x)) h)) ∙ ap (λ bs. t (f z) ∷ bs) (ap (drop 1) h)
turn_step f t (x ∷ xs) (z ∷ zs) (suc k) y d low same h e =
    ap (λ b. b ∷ map f (set xs k y)) (ap (first_of (f x)) h)
    ∙ ap (λ bs. t (f z) ∷ bs) (turn_step f t xs zs k y d (omega (arith, low)) (omega (arith, same)) (ap (drop 1) h) e)

pub all_turned : {A B : Type 0} (f : A → B) (t : B → B) (xs ys : List A) (k : ℕ) → k ≡ length ys
    → map f xs ≡ map t (map f (take k ys)) ++ map f (drop k ys) → map f xs ≡ map t (map f ys)
all_turned f t xs ys k e h =
    h
    ∙ (ap (λ n. map t (map f (take n ys)) ++ map f (drop n ys)) e
    ∙ (ap (λ zs. map t (map f zs) ++ map f (drop (length ys) ys)) (take-length ys)
    ∙ (ap (λ zs. map t (map f ys) ++ map f zs) (drop-length ys) ∙ append-nil (map t (map f ys)))))

-- the front of two lists
pub front_of : {A : Type 0} (n : ℕ) (xs ys : List A) → n ≡ length xs → take n (xs ++ ys) ≡ xs
front_of n xs ys e = take-append-le n xs ys (omega (arith, e)) ∙ (ap (λ k. take k xs) e ∙ take-length xs)
