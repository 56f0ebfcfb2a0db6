-- A number that was read is that of the argument.
use Rattle.std.proofs.Common.{◌≡◌, ◌∙◌, ℕ, Option, Some, None, refl, sym, ap, subst}
use Rattle.std.specs.Prelude.{Result, Ok}
use Rattle.std.specs.Option.{option_map_or}
use Rattle.std.specs.Str.Parse.{ParsesUnsigned, digits_value, without_leading_plus}
use Rattle.clap.specs.Words.{Text, one_text, rows_of}
use Rattle.clap.specs.Matches.{TriesOne}
use Rattle.clap.specs.declared.parser.matches.Found.{Found}
use Rattle.clap.proofs.WalkLemmas.{one_text-rows}
use Rattle.saturn_words.specs.Words.{number_or}

abbrev number_at : ℕ → Option Text → ℕ
number_at default o = option_map_or (λ text. digits_value 10 (without_leading_plus text)) o default

pub read_some : {E : Type 0} (G : Text → Result ℕ E → Type 0) (default : ℕ) (name : Text) (f : Found)
    (r : Result (Option ℕ) E) (v : ℕ)
    → ((t : Text) (x : Result ℕ E) → G t x → ParsesUnsigned 32 10 t x)
    → (one_text f name ≡ None → r ≡ Ok None)
    → ((t : Text) → one_text f name ≡ Some t → TriesOne G t r)
    → r ≡ Ok (Some v) → v ≡ number_or default name (rows_of f)
read_some {E} G default name f r v only none value is =
    go (one_text f name) refl ∙ ap (number_at default) (one_text-rows f name)
  where
    go : (o : Option Text) → one_text f name ≡ o → v ≡ number_at default (one_text f name)
    go None e =
        let wrong : ◌≡◌ {A = Result (Option ℕ) E} (Ok None) (Ok (Some v)) = sym (none e) ∙ is in
        cc
    go (Some t) e =
        let given : TriesOne G t (Ok (Some v)) = subst (TriesOne G t) is (value t e) in
        let parsed = only t (Ok v) given in
        parsed.1 ∙ ap (number_at default) (sym e)

pub read_none : {E : Type 0} (G : Text → Result ℕ E → Type 0) (default : ℕ) (name : Text) (f : Found)
    (r : Result (Option ℕ) E)
    → ((t : Text) → one_text f name ≡ Some t → TriesOne G t r)
    → r ≡ Ok None → default ≡ number_or default name (rows_of f)
read_none {E} G default name f r value is = go (one_text f name) refl ∙ ap (number_at default) (one_text-rows f name)
  where
    go : (o : Option Text) → one_text f name ≡ o → default ≡ number_at default (one_text f name)
    go None e = ap (number_at default) (sym e)
    go (Some t) e =
        let given : TriesOne G t (Ok None) = subst (TriesOne G t) is (value t e) in
        absurd given
