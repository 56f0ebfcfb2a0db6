-- What holds while a file is read and while bytes are written.
use Rattle.std.proofs.Common.{◌≡◌, ℕ, ◌+◌, ◌-◌, ◌≤◌, List, ◌++◌, length, take, drop, Option, Some, None, ap, ◌∙◌, arith, append_assoc}
use Rattle.std.proofs.lemmas.List.{take_all, length-drop}
use Rattle.std.proofs.Math.Seq.{take-add}
use Rattle.sc_base.specs.Held.{bytes_of}
use Rattle.sc_base.specs.Taken.{Appends, Keeps, SinkChange}

-- what a sink took first and what it took then
appends_both : (a b c : Option (List ℕ)) (x y : List ℕ) → Appends a b x → Appends b c y → Appends a c (x ++ y)
appends_both None b c x y first then = tt
appends_both (Some xs) None c x y first then = absurd first
appends_both (Some xs) (Some ys) None x y first then = absurd then
appends_both (Some xs) (Some ys) (Some zs) x y first then = then ∙ ap (λ bytes. bytes ++ y) first ∙ append_assoc xs x y

-- and nothing then
appends_kept : (a b c : Option (List ℕ)) (x : List ℕ) → Appends a b x → Keeps b c → Appends a c x
appends_kept None b c x first kept = tt
appends_kept (Some xs) None c x first kept = absurd first
appends_kept (Some xs) (Some ys) None x first kept = absurd kept
appends_kept (Some xs) (Some ys) (Some zs) x first kept = kept ∙ first

-- so many bytes went to the sink
pub record HasWritten (sink : SinkChange) (bytes : List ℕ) (written : ℕ) : Type 0 where
  pub later : sink.faults_before ≤ sink.faults_after
  pub within : written ≤ length bytes
  pub front : Appends sink.before sink.after (take written bytes)

-- the sink before its next call, and after it
abbrev pub change : (before after : ℕ) (first then : Option (List ℕ)) → SinkChange
change before after first then = record { faults_before = before; faults_after = after; before = first; after = then }

-- the bytes that are left, as the call is given them
abbrev pub rest_of : List ℕ → ℕ → List ℕ
rest_of bytes written = take (length bytes - written) (drop written bytes)

pub HasWritten-more : (first now then : ℕ) (before old new : Option (List ℕ)) (bytes : List ℕ) (written count : ℕ)
    → HasWritten (change first now before old) bytes written → now ≤ then
    → count ≤ length (rest_of bytes written) → Appends old new (take count (rest_of bytes written))
    → HasWritten (change first then before new) bytes (written + count)
HasWritten-more first now then before old new bytes written count has later within takes =
    let rest : rest_of bytes written ≡ drop written bytes =
    take_all (length bytes - written) (drop written bytes) (omega (arith, length-drop written bytes)) in
    let fits : count ≤ length (drop written bytes) = rw (← rest) within in
    let taken : Appends old new (take count (drop written bytes)) = rw (← rest) takes in
    record {
      later = omega (arith, has.later);
      within = omega (arith, has.within, length-drop written bytes);
      front = rw (take-add written count bytes)
          (appends_both before old new (take written bytes) (take count (drop written bytes)) has.front taken);
    }

-- what was read, and what is left, are the file
abbrev pub AreBytesOf : Option (List (List ℕ × List ℕ)) → List ℕ → List ℕ → Option (List ℕ) → Type 0
AreBytesOf None name bytes left = Unit {0}
AreBytesOf (Some files) name bytes None = ⊥
AreBytesOf (Some files) name bytes (Some rest) = bytes_of name files ≡ Some (bytes ++ rest)
