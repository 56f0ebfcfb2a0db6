-- What stands at the place to which a pointer leads.
use Rattle.std.proofs.Common.{◌≡◌, ℕ, ◌+◌, ◌<◌, ◌≤◌, Bool, true, false, nat_eq, Some, List, length, if◌then◌else◌, inl, refl, sym, ◌∙◌, ap, subst, arith}
use Rattle.std.proofs.lemmas.Bool.{ne_eqb}
use Rattle.bit_net.specs.declared.nodes.Node.{Node}
use Rattle.bit_net.specs.Runs.{Grown}
use Rattle.gl_sets.specs.declared.pairs.Pair.{Pair}
use Rattle.gl_sets.specs.declared.sets.Set.{Set as Sets}
use Rattle.gl_sets.specs.Guards.{Points, guards_top}
use Rattle.gl_store.specs.declared.values.Val.{Val}
use Rattle.gl_store.specs.declared.values.Val.TheVariants.{Set}
use Rattle.gl_store.specs.declared.stores.Location.{Location}
use Rattle.gl_store.specs.Meets.{Meets}
use Rattle.run_store.specs.Concrete.{Cell, Pointer, Numbers, Pointers, NoCell, width_kind}
use Rattle.sc_tree.specs.declared.ctype.IntKind.{IntKind}
use Rattle.sc_tree.specs.declared.ctype.IntKind.TheVariants as kind
use Rattle.sc_tree.specs.declared.ctype.Widths.{Widths}
use Rattle.sc_tree.specs.declared.ctype.Widths.TheVariants as widths
use Rattle.sc_typed.specs.Kinds.{kind_bytes}
use Rattle.sc_world.specs.Tree.{Ty, Void, Bool', Int, Ptr, Array, Struct, Union, Func, Opaque, is_integer, is_pointer, int_bits}
use Rattle.sc_world.specs.Source.{Source}
use Rattle.sc_world.specs.Layout.{Layout, location, has_type}
use Rattle.sc_world.specs.World.{World, done, load, pointer_to, dereference, kind_of_type}
use Rattle.sc_world.specs.Eval.{Want, Value, Place', wanted}
use Rattle.run_laws.specs.Fits.{is_scalar, StandsAt, IsPlaceOf}
use Rattle.run_laws.proofs.Types.{cell_kind, own_kind_of, typed_there, scalar_typed, place_of_pointer}
use Rattle.gate_runs.specs.declared.ends.Ends.{Ends}
use Rattle.gate_runs.specs.Stands.{Does}
use Rattle.gate_runs.proofs.Bind.{bind}
use Rattle.gate_steps.specs.Steps.{LeadsTo, DoesLoad, kind_at}
use Rattle.gate_steps.proofs.Known.{does_same, does_give}
use Rattle.gate_places.specs.Places.{IsLaid, reads_cell, wanted_kind, GoodFor, DoesFind, DoesFollow, DoesIndirect, Reaches, env_of}

-- An integer has 1 to 64 bits.

bytes_some : (w : Widths) (k : IntKind) → 0 < kind_bytes w k
bytes_some widths.Ilp32 kind.Long = omega arith
bytes_some widths.Lp64 kind.Long = omega arith
bytes_some widths.Ilp32 kind.ULong = omega arith
bytes_some widths.Lp64 kind.ULong = omega arith
bytes_some w kind.Char = omega arith
bytes_some w kind.SChar = omega arith
bytes_some w kind.UChar = omega arith
bytes_some w kind.Short = omega arith
bytes_some w kind.UShort = omega arith
bytes_some w kind.Int = omega arith
bytes_some w kind.UInt = omega arith
bytes_some w kind.LongLong = omega arith
bytes_some w kind.ULongLong = omega arith

bytes_few : (w : Widths) (k : IntKind) → kind_bytes w k ≤ 8
bytes_few widths.Ilp32 kind.Long = omega arith
bytes_few widths.Lp64 kind.Long = omega arith
bytes_few widths.Ilp32 kind.ULong = omega arith
bytes_few widths.Lp64 kind.ULong = omega arith
bytes_few w kind.Char = omega arith
bytes_few w kind.SChar = omega arith
bytes_few w kind.UChar = omega arith
bytes_few w kind.Short = omega arith
bytes_few w kind.UShort = omega arith
bytes_few w kind.Int = omega arith
bytes_few w kind.UInt = omega arith
bytes_few w kind.LongLong = omega arith
bytes_few w kind.ULongLong = omega arith

width_some : (n : ℕ) → 0 < n → n ≤ 64 → width_kind n ≡ Numbers n
width_some n some few =
    ap (λ b. if b then Pointers else (if nat_eq n 0 then NoCell else Numbers n)) (ne_eqb n 255 (λ h. omega (arith, few, h)))
    ∙ ap (λ b. if b then NoCell else Numbers n) (ne_eqb n 0 (λ h. omega (arith, some, h)))

pub pointer_width : (s : Source) (t : Ty) → is_pointer t ≡ true → width_kind 255 ≡ kind_of_type s (Some t)
pointer_width s t e =
    sym (ap (λ b. if b then Pointers else (if is_integer t then Numbers (int_bits s.widths t) else NoCell)) e)

pub integer_width : (s : Source) (t : Ty) (n : ℕ) → is_scalar t ≡ true → is_pointer t ≡ false → n ≡ int_bits s.widths t
    → width_kind n ≡ kind_of_type s (Some t)
integer_width s Bool' n i other e = ap width_kind e
integer_width s (Int k) n i other e =
    ap width_kind e ∙ width_some (int_bits s.widths (Int k)) (omega (arith, bytes_some s.widths k)) (omega (arith, bytes_few s.widths k))
integer_width s (Ptr t) n i other e = absurd (cc)
integer_width s Void n i other e = absurd (cc)
integer_width s (Array t l) n i other e = absurd (cc)
integer_width s (Struct l) n i other e = absurd (cc)
integer_width s (Union l) n i other e = absurd (cc)
integer_width s (Func r b ts v) n i other e = absurd (cc)
integer_width s (Opaque o) n i other e = absurd (cc)

-- What is read.

pub reads_scalar : (want : Want) (t : Ty) → reads_cell want t ≡ true → is_scalar t ≡ true
reads_scalar Value t e = e
reads_scalar Place' t e = absurd (cc)

wanted_cell : (want : Want) (t : Ty) (at : ℕ) (w : World) → reads_cell want t ≡ true → load at w ≡ wanted want t at w
wanted_cell Value t at w e = sym (ap (λ b. (if b then load at else done (pointer_to at)) w) e)
wanted_cell Place' t at w e = absurd (cc)

wanted_place : (want : Want) (t : Ty) (at : ℕ) (w : World) → reads_cell want t ≡ false → done (pointer_to at) w ≡ wanted want t at w
wanted_place Value t at w e = sym (ap (λ b. (if b then load at else done (pointer_to at)) w) e)
wanted_place Place' t at w e = refl

does_as : (v : ℕ → Bool) (l : List Location) (g : Ends) (p : Layout) (want : Want) (t : Ty) (at : ℕ) (r : Val) → reads_cell want t ≡ true
    → Does v l g (load at) l g (Meets v r) → Does v l g (wanted want t at) l g (GoodFor v g p want t r)
does_as v l g p Value t at r e d =
    does_same v l l g g (load at) (wanted Value t at) (Meets v r) (λ w. wanted_cell Value t at w e) d
does_as v l g p Place' t at r e d = absurd (cc)

kind_read : (s : Source) (want : Want) (t : Ty) → reads_cell want t ≡ true → kind_of_type s (Some t) ≡ wanted_kind s want t
kind_read s want t e = sym (ap (λ b. if b then kind_of_type s (Some t) else Pointers) e)

kind_place : (s : Source) (want : Want) (t : Ty) → reads_cell want t ≡ false → Pointers ≡ wanted_kind s want t
kind_place s want t e = sym (ap (λ b. if b then kind_of_type s (Some t) else Pointers) e)

-- a location of a scalar type has a cell for its values
laid_kind : (s : Source) (p : Layout) (l : List Location) (t : Ty) (at : ℕ) → IsLaid s p l → is_scalar t ≡ true → StandsAt p t at
    → kind_at l at ≡ kind_of_type s (Some t)
laid_kind s p l t at laid scalar stands =
    let typed : has_type (location p at) t ≡ true = scalar_typed p t at scalar stands in
    laid.kinds at (typed_there p at t typed) ∙ cell_kind s (location p at).type t typed scalar ∙ sym (own_kind_of s t scalar)

pub find_cell : (s : Source) (p : Layout) (ns : List Node) (l : List Location) (want : Want) (t : Ty) (pointer : List Pair) (width : ℕ) (r : Val)
    → reads_cell want t ≡ true → is_scalar t ≡ true → IsLaid s p l → width_kind width ≡ kind_of_type s (Some t)
    → DoesLoad ns l pointer (width_kind width) r → DoesFind s p ns l want t pointer r
find_cell s p ns l want t pointer width r reads scalar laid wide found =
    record {
      below = found.below;
      kind = found.same ∙ wide ∙ kind_read s want t reads;
      does = λ choice v runs gates at leads stands.
          does_as v l gates p want t at r reads
          (found.does choice v runs gates at leads (λ on. laid_kind s p l t at laid scalar (stands on) ∙ sym wide));
    }

-- the place itself

good_place : (v : ℕ → Bool) (g : Ends) (p : Layout) (want : Want) (t : Ty) (x : Sets) (c : Cell) → reads_cell want t ≡ false
    → Meets v (Set x) c → (v g.live.at ≡ true → IsPlaceOf p t c) → GoodFor v g p want t (Set x) c
good_place v g p Value t x c e m h = m
good_place v g p Place' t x c e m h = (m, h)

place_does : (v : ℕ → Bool) (l : List Location) (g : Ends) (p : Layout) (want : Want) (t : Ty) (pointer : List Pair) (x : Sets) (at : ℕ)
    → reads_cell want t ≡ false → x.pairs.items ≡ pointer → LeadsTo v g pointer at → (v g.live.at ≡ true → StandsAt p t at)
    → Does v l g (wanted want t at) l g (GoodFor v g p want t (Set x))
place_does v l g p want t pointer x at e same leads stands =
    let points : Points v x.pairs.items leads.target = subst (λ ps. Points v ps leads.target) (sym same) leads.points in
    let to : v g.live.at ≡ true → leads.target ≡ at + 1 = (λ on. omega (arith, leads.there on)) in
    does_same v l l g g (done (pointer_to at)) (wanted want t at) (GoodFor v g p want t (Set x)) (λ w. wanted_place want t at w e)
    (does_give v l g (pointer_to at) (Pointer leads.target) (GoodFor v g p want t (Set x))
    (λ on.
    good_place v g p want t x (pointer_to at) e (subst (λ k. Points v x.pairs.items k) (to on) points) (λ on. place_of_pointer p t at (stands on)))
    (good_place v g p want t x (Pointer leads.target) e points
    (λ on. subst (λ k. IsPlaceOf p t (Pointer k)) (sym (to on)) (place_of_pointer p t at (stands on)))))

pub find_place : (s : Source) (p : Layout) (ns : List Node) (l : List Location) (want : Want) (t : Ty) (pointer : List Pair) (x : Sets)
    → reads_cell want t ≡ false → guards_top pointer ≤ length ns → x.pairs.items ≡ pointer → DoesFind s p ns l want t pointer (Set x)
find_place s p ns l want t pointer x e below same =
    record {
      below = subst (λ ps. guards_top ps ≤ length ns) (sym same) below;
      kind = kind_place s want t e;
      does = λ choice v runs gates at leads stands. place_does v l gates p want t pointer x at e same leads stands;
    }

-- Behind a pointer.

pub does_indirect : (s : Source) (p : Layout) (n1 n2 : List Node) (l : List Location) (want : Want) (t : Ty) (pointer : List Pair) (old new : Ends) (r : Val)
    → Grown n1 n2 → DoesFollow n1 p t l pointer old new → DoesFind s p n2 l want t pointer r → DoesIndirect s p n2 l want t pointer old new r
does_indirect s p n1 n2 l want t pointer old new r grown follows found =
    record {
      below = found.below;
      kind = found.kind;
      does = λ choice v runs bits temps turn target points.
          bind v l l l old new new (dereference (env_of s p bits temps turn) t (Pointer target)) (λ at. wanted want t at) (Reaches v new pointer p t)
          (GoodFor v new p want t r) (follows.does choice v (grown.runs choice v runs) s bits temps turn target points)
          (λ at reached. found.does choice v runs new at reached.leads (λ on. inl (reached.typed on)));
    }
