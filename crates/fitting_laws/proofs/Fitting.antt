-- An expression that is typed, and that was found, fits the layout.
use Rattle.std.proofs.Common.{inl, inr, ◌≡◌, ℕ, ◌+◌, Bool, true, false, ◌&&◌, List, [], ◌∷◌, refl, sym, ap, subst, ◌∙◌, nat_eq}
use Rattle.std.specs.Prelude.{Some, None, if◌then◌else◌}
use Rattle.sc_base.specs.declared.pos.Pos.{Pos}
use Rattle.sc_base.specs.declared.pos.NameId.{NameId}
use Rattle.sc_tree.specs.declared.op.UnaryOp.TheVariants as sign
use Rattle.sc_tree.specs.declared.expr.Place.{Place}
use Rattle.sc_world.specs.declared.run.Origin.TheVariants as origin
use Rattle.sc_world.specs.Tree.{Ty, is_array, target_or_void, Exp, Comma, Assign, Cond, Binary, Cast, Unary, PreInc, PostInc, SizeofExpr, SizeofType, Index, Call, Field, Param, Local, Global, Function, Number, Str, Convert, Temp, TempPlace, Exps, NoExps, Exps', type_of}
use Rattle.sc_world.specs.Source.{Source, effect}
use Rattle.sc_world.specs.Gather.{Found, Site}
use Rattle.sc_world.specs.Layout.{Layout, site_from, site_at, same_pos}
use Rattle.sc_world.specs.Objects.{is_named}
use Rattle.sc_world.specs.Eval.{Want, Value, Place', is_name}
use Rattle.run_laws.specs.Fits.{Fits, FitAll, CallFits, Indexed, MemberFits, Unless, unless_array, if_scalar}
use Rattle.layout_laws.specs.Origins.{IsAmong, IsLaidFor}
use Rattle.fitting_laws.specs.Found.{HasCall, IsFound, AllFound}
use Rattle.fitting_laws.specs.Typed.{names_function, BracketsTell, HasMemberOf, IsIndexed, IsTyped, AllTyped}
use Rattle.fitting_laws.proofs.Finding.{clash, both, number_same, param_there, local_there, global_there, literal_there, elements_fit, member_fits}

pos_self : (q : Pos) → same_pos q q ≡ true
pos_self q =
    both (nat_eq q.file q.file) (nat_eq q.line q.line && nat_eq q.col q.col) (number_same q.file)
    (both (nat_eq q.line q.line) (nat_eq q.col q.col) (number_same q.line) (number_same q.col))

-- the site that is found by a bracket which one of the sites has: it is one of them, and has that bracket
site_found : (q : Pos) (n : ℕ) (xs : List Site) (x : Site) → IsAmong x xs → x.bracket ≡ q
    → IsAmong (site_from q n xs).site xs × (same_pos q (site_from q n xs).site.bracket ≡ true)
site_found q n [] x among e = absurd among
site_found q n (y ∷ ys) x among e = side (same_pos q y.bracket) refl among (λ k. site_found q (n + y.turns) ys x k e)
  where
    side : (b : Bool) → same_pos q y.bracket ≡ b → IsAmong x (y ∷ ys)
        → (IsAmong x ys → IsAmong (site_from q (n + y.turns) ys).site ys
        × (same_pos q (site_from q (n + y.turns) ys).site.bracket ≡ true))
        → IsAmong (if b then (record { site = y; first = n }) else site_from q (n + y.turns) ys).site (y ∷ ys)
        × (same_pos q (if b then (record { site = y; first = n }) else site_from q (n + y.turns) ys).site.bracket ≡ true)
    side true h k rest = (inl refl, h)
    side false h (inl same) rest =
        absurd (clash (same_pos q y.bracket) (subst (λ z. same_pos q z ≡ true) (sym e ∙ ap (λ (z : Site). z.bracket) (sym same)) (pos_self q)) h)
    side false h (inr k) rest = let found = rest k in (inr found.0, found.1)

-- what names no function is found as a value as well
found_value : (s : Source) (f : Found) (e : Exp) (v : Bool) → names_function e ≡ false → IsFound s f e v → IsFound s f e true
found_value s f (Function n b t) v h k = absurd (clash true refl h)
found_value s f (Convert a t) v h k = found_value s f a v h k
found_value s f (SizeofExpr a n t) v h k = k
found_value s f (Comma a b t) v h k = k
found_value s f (Assign o w a b t) v h k = k
found_value s f (Cond a b c t) v h k = k
found_value s f (Binary o a b t) v h k = k
found_value s f (Cast a t) v h k = k
found_value s f (Unary o a t) v h k = k
found_value s f (PreInc d a t) v h k = k
found_value s f (PostInc d a t) v h k = k
found_value s f (SizeofType n t) v h k = k
found_value s f (Index a b t) v h k = k
found_value s f (Call p g es t) v h k = k
found_value s f (Field a n arrow t) v h k = k
found_value s f (Param n t) v h k = k
found_value s f (Local n t) v h k = k
found_value s f (Global n t) v h k = k
found_value s f (Number n t) v h k = k
found_value s f (Str p t) v h k = k
found_value s f (Temp n t) v h k = k
found_value s f (TempPlace n t) v h k = k

module _ (s : Source) (f : Found) (p : Layout) (laid : IsLaidFor s f p.locations) (same : p.sites ≡ f.sites) (tell : BracketsTell f.sites) where
  call_there : (q : Place) (g : Exp) (es : Exps) (t : Ty) → HasCall s f q g es t
      → (same_pos q.token (site_at p q.token).site.bracket ≡ true) × ((site_at p q.token).site.effect ≡ effect s g es t)
  call_there q g es t (x, among, bracket, acts) =
      subst (λ xs. (same_pos q.token (site_from q.token 0 xs).site.bracket ≡ true) × ((site_from q.token 0 xs).site.effect ≡ effect s g es t))
      (sym same)
      (let is = site_found q.token 0 f.sites x among bracket in (
        is.1,
        sym (tell x (site_from q.token 0 f.sites).site among is.0
            (subst (λ z. same_pos z (site_from q.token 0 f.sites).site.bracket ≡ true) (sym bracket) is.1)) ∙ acts,
      ))

  indexed : (b : Bool) (u t : Ty) → IsIndexed s b u t → Indexed p b u t
  indexed true u t (n, is) = subst (λ z. Indexed p true z t) (sym is) (elements_fit s f p laid t n)
  indexed false u t h = h

  member_of : (u : Ty) (n : NameId) (t : Ty) → is_named f n ≡ true → HasMemberOf s u n t → MemberFits p u n t
  member_of u n t named (m, is, has) = subst (λ z. MemberFits p z n t) (sym is) (member_fits s f p laid m n t named has)

  -- a callee that is no name
  callee_fits : (b : Bool) (g : Exp) → Unless b (IsTyped s Value g × (names_function g ≡ false)) → IsFound s f g false
      → (IsTyped s Value g → IsFound s f g true → Fits p Value g) → Unless b (Fits p Value g)
  callee_fits true g h k l = tt
  callee_fits false g h k l = l h.0 (found_value s f g false h.1 k)

  mutual
    pub fits : (want : Want) (e : Exp) → IsTyped s want e → IsFound s f e true → Fits p want e
    fits want (Comma a b t) h k = (fits Value a h.0 k.0, fits want b h.1 k.1, h.2)
    fits want (Assign None works a b t) h k = (fits Place' a h.0 k.0, fits (if_scalar t) b h.1 k.1, h.2, h.3)
    fits want (Assign (Some o) works a b t) h k = (fits Place' a h.0 k.0, fits Value b h.1 k.1, h.2, h.3, h.4, h.5, h.6)
    fits want (Cond a b c t) h k = (fits Value a h.0 k.0, fits want b h.1 k.1, fits want c h.2 k.2, h.3, h.4, h.5)
    fits want (Binary o a b t) h k = (fits Value a h.0 k.0, fits Value b h.1 k.1, h.2, h.3, h.4, h.5)
    fits want (Cast a t) h k = (fits (unless_array (type_of a)) a h.0 k, h.1, h.2)
    fits want (Unary sign.Address a t) h k = (fits Place' a h.0 k, h.1, h.2)
    fits want (Unary sign.Deref a t) h k = (fits Value a h.0 k, h.1)
    fits want (Unary sign.Not a t) h k = (fits Value a h.0 k, h.1, h.2, h.3)
    fits want (Unary sign.Plus a t) h k = (fits Value a h.0 k, h.1, h.2, h.3)
    fits want (Unary sign.Minus a t) h k = (fits Value a h.0 k, h.1, h.2, h.3)
    fits want (Unary sign.Complement a t) h k = (fits Value a h.0 k, h.1, h.2, h.3)
    fits want (PreInc d a t) h k = (fits Place' a h.0 k, h.1, h.2, h.3)
    fits want (PostInc d a t) h k = (fits Place' a h.0 k, h.1, h.2, h.3)
    fits want (SizeofExpr a n t) h k = h
    fits want (SizeofType n t) h k = h
    fits want (Index a b t) h k =
        (fits (unless_array (type_of a)) a h.0 k.0, fits Value b h.1 k.1, h.2, indexed (is_array (type_of a)) (type_of a) t h.3)
    fits want (Call q g es t) h k =
        let is = call_there q g es t k.2 in (
          callee_fits (is_name g) g h.0 k.0 (λ a b. fits Value g a b),
          all_fit es h.1 k.1,
          h.2,
          is.0,
          subst (λ z. CallFits es t z) (sym is.1) h.3,
        )
    fits want (Field a n true t) h k = (fits Value a h.0 k.0, h.1, member_of (target_or_void (type_of a)) n t k.1 h.2)
    fits want (Field a n false t) h k = (fits Place' a h.0 k.0, member_of (type_of a) n t k.1 h.1)
    fits want (Param n t) h k = param_there s f p laid n t h
    fits want (Local n t) h k = local_there s f p laid n t h
    fits want (Global n t) h k = global_there s f p laid n t h k
    fits want (Function n b t) h k = literal_there s f p laid (origin.Function n) t tt k h
    fits want (Number n t) h k = h
    fits want (Str q t) h k = literal_there s f p laid (origin.Literal q.token) t tt k h
    fits want (Convert a t) h k = (fits (unless_array (type_of a)) a h.0 k, h.1, h.2)
    fits want (Temp n t) h k = h
    fits want (TempPlace n t) h k = h

    pub all_fit : (es : Exps) → AllTyped s es → AllFound s f es → FitAll p es
    all_fit NoExps h k = tt
    all_fit (Exps' e es) h k = (fits Value e h.0 k.0, all_fit es h.1 k.1)
