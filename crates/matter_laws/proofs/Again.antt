-- A function whose matter is equal is read alike.
use Rattle.std.proofs.Common.{◌≡◌, ℕ, ◌<◌, List, sym, ap, ◌∙◌}
use Rattle.std.proofs.lemmas.Option.{slice_get-get_or}
use Rattle.std.specs.Prelude.{Some, slice_get}
use Rattle.sc_typed.specs.declared.program.Program.{Program}
use Rattle.sc_typed.specs.declared.program.Function.{Function}
use Rattle.std.specs.Prelude.{true, nat_eq, filter, map}
use Rattle.std.specs.List.{list_any, range_with_len}
use Rattle.program_verdicts.specs.Verdicts.{kept_of}
use Rattle.source_laws.specs.Named.{IsReadAlike, signature_of}
use Rattle.fn_matter.specs.Words.{words}
use Rattle.fn_matter.specs.Matter.{Parts, CallPart, no_function, function, call_part, calls_of, parts_of, parts_tree}
use Rattle.matter_laws.specs.Again.{MayBeUsedAgain}
use Rattle.matter_laws.proofs.Ranges.{both}
use Rattle.matter_laws.proofs.Calls.{told, is_kept, many, few, kept_is, signature_told}

-- what a law on matters says
abbrev pub TellParts : Type 0
TellParts = (x y : Parts) → words (parts_tree x) ≡ words (parts_tree y) → x ≡ y

module _ (tell : TellParts) (earlier later : Program) (g f : ℕ) (again : MayBeUsedAgain earlier later g f) where
  parts_same : parts_of later f ≡ parts_of earlier g
  parts_same = tell (parts_of later f) (parts_of earlier g) again.matters

  abbrev of_parts : Parts → Function
  of_parts x =
      record {
        name = x.name;
        pos = x.place;
        params = x.params;
        result = x.result;
        locals = x.locals;
        body = x.body;
      }

  functions_same : function later f ≡ function earlier g
  functions_same = λ i. of_parts (parts_same i)

  there : slice_get later.functions f ≡ slice_get earlier.functions g
  there =
      slice_get-get_or later.functions f no_function again.new
      ∙ (ap Some functions_same ∙ sym (slice_get-get_or earlier.functions g no_function again.old))

  calls_same : map (call_part later f) (calls_of later f) ≡ map (call_part earlier g) (calls_of earlier g)
  calls_same = λ i. (parts_same i).calls

  kept_same : kept_of later f ≡ kept_of earlier g
  kept_same =
      let C = map (call_part later f) (calls_of later f) in
      let few' : (n : ℕ) → is_kept C n ≡ true → n < many earlier g again.old =
      λ n h. few earlier g again.old n (ap (λ (cs : List CallPart). is_kept cs n) (sym calls_same) ∙ h) in
      kept_is later f again.new
      ∙ (both (is_kept C) (many later f again.new) (many earlier g again.old) (few later f again.new) few'
      ∙ (ap (λ (cs : List CallPart). filter (is_kept cs) (range_with_len 0 (many earlier g again.old))) calls_same
      ∙ sym (kept_is earlier g again.old)))

  signatures_same : (n : ℕ) → list_any (nat_eq n) (kept_of earlier g) ≡ true → signature_of later n ≡ signature_of earlier n
  signatures_same n h =
      let h' : list_any (nat_eq n) (kept_of later f) ≡ true = ap (λ (ks : List ℕ). list_any (nat_eq n) ks) kept_same ∙ h in
      signature_told later f again.new n h'
      ∙ (ap (λ (cs : List CallPart). told cs n) calls_same
      ∙ sym (signature_told earlier g again.old n h))

  pub read_again : IsReadAlike earlier later g f
  read_again = record {
    function = there;
    kept = kept_same;
    widths = λ i. (parts_same i).widths;
    machine = again.machine;
    structs = again.structs;
    globals = again.globals;
    signatures = signatures_same;
    front = again.front;
    below = again.below;
  }
