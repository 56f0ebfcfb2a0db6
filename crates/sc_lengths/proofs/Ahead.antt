-- The levels so far, with those that are left behind them.
use Rattle.std.proofs.Common.{◌≡◌, ℕ, ◌+◌, ◌<◌, Option, Some, None, List, [], ◌∷◌, ◌++◌, length, drop, get_or, refl, sym, ◌∙◌, ap, append_assoc}
use Rattle.std.proofs.lemmas.List.{at_drop_more}
use Rattle.sc_tree.specs.declared.ctype.CType.{CType}
use Rattle.sc_tree.specs.declared.decl.Designator.{Designator}
use Rattle.sc_rules.specs.declared.walk.Walk.{Walk}
use Rattle.sc_rules.specs.Walks.{◌>>=◌, then_with, done}
use Rattle.sc_typed.specs.declared.program.StructDef.{StructDef}
use Rattle.sc_typing.specs.Here.{Here}
use Rattle.sc_lengths.specs.Ways.{Way, part}
use Rattle.sc_lengths.specs.Designators.{with_part, part_now, from_part, designated_part, designated}

abbrev pub ahead : Way → Option Way × Walk → Option Way × Walk
ahead ks (None, w) = (None, w)
ahead ks (Some way, w) = (Some (ks ++ way), w)

ahead_step : (ks : Way) (k : ℕ) (r : Option Way × Walk) → ahead (ks ++ k ∷ []) r ≡ ahead ks (then_with r (λ way. done (with_part k way)))
ahead_step ks k (None, w) = refl
ahead_step ks k (Some way, w) = ap (λ zs. (Some zs, w)) (append_assoc ks (k ∷ []) way)

-- a designator that names a part puts one level behind those so far
one_ahead : (here : Here) (t : CType) (d : Designator) (ds : List Designator) (ks : Way) (k : ℕ) (w v : Walk) → designated_part here t d w ≡ (Some k, v)
    → ahead (ks ++ k ∷ []) (designated here (part v.structs t k) ds v) ≡ ahead ks (designated here t (d ∷ ds) w)
one_ahead here t d ds ks k w v is =
    ahead_step ks k (designated here (part v.structs t k) ds v)
    ∙ sym (ap (λ (r : Option ℕ × Walk). ahead ks (then_with r (λ n. from_part n (λ j. part_now t j >>= λ u. designated here u ds)))) is)

-- a turn over the designators, the first of those that are left names the part k
pub one_more : (here : Here) (t u : CType) (d : Designator) (ds : List Designator) (i : ℕ) (ks js : Way) (found : Option ℕ) (k : ℕ) (w v : Walk) (structs : List StructDef) (all : Option Way × Walk) → i < length ds → d ≡ get_or ds i d
    → designated_part here t d w ≡ (found, v) → found ≡ Some k → u ≡ part structs t k → structs ≡ v.structs → js ≡ ks ++ k ∷ []
    → ahead ks (designated here t (drop i ds) w) ≡ all → ahead js (designated here u (drop (i + 1) ds) v) ≡ all
one_more here t u d ds i ks js found k w v structs all inside item names some inner now put so_far =
    let rest = drop (i + 1) ds in
    ap (λ (zs : Way). ahead zs (designated here u rest v)) put
    ∙ ap (λ (x : CType). ahead (ks ++ k ∷ []) (designated here x rest v)) (inner ∙ ap (λ (ss : List StructDef). part ss t k) now)
    ∙ one_ahead here t d rest ks k w v (names ∙ ap (λ (n : Option ℕ). (n, v)) some)
    ∙ ap (λ (x : Designator). ahead ks (designated here t (x ∷ rest) w)) item
    ∙ sym (at_drop_more (λ (zs : List Designator). ahead ks (designated here t zs w)) ds i d inside)
    ∙ so_far
