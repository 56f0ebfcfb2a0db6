-- The values of initialisers are typed.
use Rattle.std.proofs.Common.{◌≡◌, ℕ, zero, suc, Bool, true, false, ◌&&◌, List, [], ◌∷◌, ◌++◌, length, refl, sym, ap, subst, ◌∙◌}
use Rattle.std.specs.Prelude.{Option, Some, None, ◌+◌, nat_eq, if◌then◌else◌}
use Rattle.sc_base.specs.declared.pos.Pos.{Pos}
use Rattle.sc_base.specs.declared.skip.Unsupported.TheVariants as u
use Rattle.sc_base.specs.declared.skip.IllTyped.TheVariants as i
use Rattle.sc_tree.specs.declared.ctype.CType.{CType, CType-F, out-CType}
use Rattle.sc_tree.specs.declared.ctype.Signature.{Signature}
use Rattle.sc_tree.specs.declared.ctype.Widths.{Widths}
use Rattle.sc_typed.specs.declared.expr.TExpr.{TExpr}
use Rattle.sc_typed.specs.declared.stmt.InitStep.{InitStep}
use Rattle.sc_typed.specs.declared.stmt.InitStep.TheVariants as step
use Rattle.sc_typed.specs.declared.stmt.TInit.{TInit}
use Rattle.sc_typed.specs.declared.stmt.TInit.TheVariants as init
use Rattle.sc_typed.specs.declared.stmt.TInitItem.{TInitItem}
use Rattle.sc_typed.specs.Types as typed
use Rattle.sc_rules.specs.Faults.{unsupported_at}
use Rattle.sc_rules.specs.Walks.{Check, ◌>>=◌, done, given}
use Rattle.sc_rules.specs.Conversions.{type_of, value, converted}
use Rattle.sc_unary.specs.Members.{body_of}
use Rattle.sc_fill.specs.declared.filling.Filling.{Filling}
use Rattle.sc_fill.specs.Parts.{is_string, is_char_array, members_given}
use Rattle.sc_fill.specs.Filling.{Filler, with_item, is_full, first_of, is_whole, begins_with_string, behind as others, refused, put_beyond, beyond, converted_if, put_value, put_first, put, elements, members, fill_array, fill_struct, fill_layer, fill_if_left, fill, spread}
use Rattle.sc_fill.specs.Initialisers.{in_front, all_of, braces, one, each_value, is_array_if, spread_whole, spread_all, spread_if, converted_to, value_as, one_value}
use Rattle.sc_world.specs.Tree as tree
use Rattle.sc_world.specs.Source.{Source}
use Rattle.sc_world.specs.View.{type}
use Rattle.sc_world.specs.Eval.{Value, Place'}
use Rattle.run_laws.specs.Fits.{is_scalar, if_scalar}
use Rattle.fitting_laws.specs.Typed.{IsTyped}
use Rattle.typed_laws.specs.Named.{NamesAgree}
use Rattle.typed_laws.proofs.Types.{void_seen, scalar_seen}
use Rattle.typed_laws.proofs.Trees.{typed_of}
use Rattle.typed_laws.proofs.Steps.{OnSome, Every, Gives, by_then, by_done, by_some, by_none, by_fault, by_if, by_given, behind}
use Rattle.typed_laws.proofs.Made.{seen, Made, Valued, seen_scalar}
use Rattle.typed_laws.proofs.Values.{Given, value_made, converted_made, others_are_objects}

module _ (s : Source) where
  -- a value is typed as one that initialises
  abbrev Stored : TExpr → Type 0
  Stored e = IsTyped s (if_scalar (tree.type_of (seen s e))) (seen s e)

  abbrev pub Item : TInitItem → Type 0
  Item x = NamesAgree s (seen s x.value) → tree.is_void (tree.type_of (seen s x.value)) ≡ false → Stored x.value

  abbrev pub Items : List TInitItem → Type 0
  Items [] = Unit {0}
  Items (x ∷ xs) = Item x × Items xs

  abbrev pub Stand : List TExpr → Type 0
  Stand [] = Unit {0}
  Stand (e ∷ es) = Made s e × Stand es

  one_more : (xs : List TInitItem) (x : TInitItem) → Items xs → Item x → Items (xs ++ x ∷ [])
  one_more [] x h k = (k, tt)
  one_more (y ∷ ys) x h k = (h.0, one_more ys x h.1 k)

  item_more : (way : Option (List InitStep)) (c : Option TExpr) (items : Option (List TInitItem)) → OnSome (λ e. Item (record { value = e; way = way })) c → OnSome Items items → OnSome Items (with_item way c items)
  item_more way None items h k = tt
  item_more way (Some e) None h k = tt
  item_more way (Some e) (Some xs) h k = one_more xs (record { value = e; way = way }) k h

  given_item : (t : CType) (way : Option (List InitStep)) (e : TExpr) → Given s t e → Item (record { value = e; way = way })
  given_item t way e g names no_void = subst (λ z. IsTyped s (if_scalar z) (seen s e)) (sym g.type) (g.stored names)

  -- a value that goes to no part
  valued_by : (b : Bool) (e : TExpr) → typed.is_scalar (type_of e) ≡ b → Valued s e → NamesAgree s (seen s e) → tree.is_void (tree.type_of (seen s e)) ≡ false → Stored e
  valued_by true e h v names no_void = subst (λ w. IsTyped s w (seen s e)) (sym (ap (λ b. if b then Value else Place') (seen_scalar s e true h))) (v.value names)
  valued_by false e h v names no_void =
      subst (λ w. IsTyped s w (seen s e)) (sym (ap (λ b. if b then Value else Place') (seen_scalar s e false h)))
      (v.object names (others_are_objects (type_of e) h (sym (void_seen (type_of e)) ∙ (ap tree.is_void (sym (typed_of s.structs e)) ∙ no_void)) v.no_opaque))

  valued_item : (way : Option (List InitStep)) (e : TExpr) → Valued s e → Item (record { value = e; way = way })
  valued_item way e v = valued_by (typed.is_scalar (type_of e)) e refl v

  record Filled (f : Filling) : Type 0 where
    items : OnSome Items f.items
    left : Stand f.left

  abbrev OfFiller : Filler → Type 0
  OfFiller inner = (way : List InitStep) (whole : Bool) (f : Filling) → Filled f → Every Filled (inner way whole f)

  abbrev pub Initial : TInit → Type 0
  Initial (init.One e) = NamesAgree s (seen s e) → Stored e
  Initial (init.Braces xs) = Items xs

  abbrev pub Standing : List (Option TExpr) → Type 0
  Standing [] = Unit {0}
  Standing (x ∷ xs) = OnSome (Made s) x × Standing xs

  abbrev pub Whole : TExpr → Type 0
  Whole e = NamesAgree s (seen s e) → Stored e

  module _ (ws : Widths) (at : Pos) where
    converted_item : (t : CType) (v : Option TExpr) → OnSome (Valued s) v → Gives (Given s t) (converted_if ws at t v)
    converted_item t v h = by_given (Valued s) (Given s t) v _ h (λ e k. converted_made s ws i.Operand at t e k)

    put_value_filled : (t : CType) (way : List InitStep) (left : List TExpr) (items : Option (List TInitItem)) (e : TExpr) → Made s e → Stand left → OnSome Items items → Every Filled (put_value ws at t way left items e)
    put_value_filled t way left items e m h k =
        by_then (OnSome (Valued s)) Filled (value e) _ (value_made s e m) (λ v hv.
        by_then (OnSome (Given s t)) Filled (converted_if ws at t v) _ (converted_item t v hv) (λ c hc.
        by_done Filled (record { items = with_item (Some way) c items; left = left }) (record { items = item_more (Some way) c items (side c hc) k; left = h })))
      where
        side : (c : Option TExpr) → OnSome (Given s t) c → OnSome (λ e. Item (record { value = e; way = Some way })) c
        side None hc = tt
        side (Some y) hc = given_item t (Some way) y hc

    put_first_filled : (t : CType) (es : List TExpr) (way : List InitStep) (f : Filling) → Stand es → Filled f → Every Filled (put_first ws at t es way f)
    put_first_filled t [] way f h k = by_done Filled f k
    put_first_filled t (e ∷ es) way f h k = put_value_filled t way es f.items e h.0 h.1 k.items

    put_filled : (t : CType) (way : List InitStep) (f : Filling) → Filled f → Every Filled (put ws at t way f)
    put_filled t way f k = put_first_filled t f.left way f k.left k

    others_stand : (es : List TExpr) → Stand es → Stand (others es)
    others_stand [] h = tt
    others_stand (e ∷ es) h = h.1

    refused_filled : (f : Filling) → Filled f → Every Filled (refused at f)
    refused_filled f k = record { all = λ w. record { items = tt; left = others_stand f.left k.left } }

    elements_filled : (inner : Filler) → OfFiller inner → (n : Option ℕ) (fuel k : ℕ) (way : List InitStep) (f : Filling) → Filled f → Every Filled (elements ws at inner n fuel k way f)
    elements_filled inner ok n zero k way f h = by_done Filled f h
    elements_filled inner ok n (suc fuel) k way f h =
        by_if Filled (is_full n k) (done f) _ (λ e. by_done Filled f h) (λ e.
        by_then Filled Filled (inner (way ++ step.Elem k ∷ []) true f) _ (ok (way ++ step.Elem k ∷ []) true f h) (λ g hg.
        by_if Filled (nat_eq (length g.left) (length f.left)) (done g) (elements ws at inner n fuel (k + 1) way g) (λ e. by_done Filled g hg) (λ e. elements_filled inner ok n fuel (k + 1) way g hg)))

    members_filled : (inner : CType → Filler) → ((t : CType) → OfFiller (inner t)) → (ms : List (ℕ × CType)) (way : List InitStep) (f : Filling) → Filled f → Every Filled (members ws at inner ms way f)
    members_filled inner ok [] way f h = by_done Filled f h
    members_filled inner ok ((k, t) ∷ ms) way f h =
        by_then Filled Filled (inner t (way ++ step.Field k ∷ []) true f) _ (ok t (way ++ step.Field k ∷ []) true f h) (λ g hg. members_filled inner ok ms way g hg)

    array_filled : (inner : Filler) → OfFiller inner → (t : CType) (n : Option ℕ) (way : List InitStep) (f : Filling) → Filled f → Every Filled (fill_array ws at inner t n way f)
    array_filled inner ok t n way f h =
        by_if Filled (is_char_array t && begins_with_string (first_of f.left)) (refused at f) (elements ws at inner n (length f.left) 0 way f) (λ e. refused_filled f h) (λ e. elements_filled inner ok n (length f.left) 0 way f h)

    struct_filled : (inner : CType → Filler) → ((t : CType) → OfFiller (inner t)) → (t : CType) → OfFiller (fill_struct ws at inner t)
    struct_filled inner ok t way whole f h =
        by_if Filled (is_whole whole t (first_of f.left)) (put ws at t way f) (λ w. members ws at inner (members_given (body_of w.structs t)) way f w) (λ e. put_filled t way f h)
        (λ e. record { all = λ w. (members_filled inner ok (members_given (body_of w.structs t)) way f h).all w })

    layer_filled : (inner : CType → Filler) → ((t : CType) → OfFiller (inner t)) → (t : CType) (x : CType-F CType Signature) → OfFiller (fill_layer ws at inner t x)
    layer_filled inner ok t (CType-F.Array v n) way whole f h = array_filled (inner v) (ok v) t n way f h
    layer_filled inner ok t (CType-F.Struct n) way whole f h = struct_filled inner ok t way whole f h
    layer_filled inner ok t (CType-F.Union n) way whole f h = struct_filled inner ok t way whole f h
    layer_filled inner ok t CType-F.Void way whole f h = put_filled t way f h
    layer_filled inner ok t CType-F.Bool way whole f h = put_filled t way f h
    layer_filled inner ok t (CType-F.Int k) way whole f h = put_filled t way f h
    layer_filled inner ok t (CType-F.Ptr v) way whole f h = put_filled t way f h
    layer_filled inner ok t (CType-F.Func x) way whole f h = put_filled t way f h
    layer_filled inner ok t (CType-F.Opaque k) way whole f h = put_filled t way f h

    if_left_filled : (es : List TExpr) (inner : Filler) → OfFiller inner → OfFiller (fill_if_left ws at es inner)
    if_left_filled [] inner ok way whole f h = by_done Filled f h
    if_left_filled (e ∷ es) inner ok way whole f h = ok way whole f h

    fill_filled : (deep : ℕ) (t : CType) → OfFiller (fill ws at deep t)
    unfolding fill
    fill_filled zero t way whole f h = by_done Filled f h
    fill_filled (suc deep) t way whole f h =
        if_left_filled f.left (fill_layer ws at (fill ws at deep) t (out-CType t)) (layer_filled (fill ws at deep) (fill_filled deep) t (out-CType t)) way whole f h

    beyond_filled : (es : List TExpr) (items : Option (List TInitItem)) → Stand es → OnSome Items items → Gives Items (beyond es items)
    beyond_filled [] items h k = by_done (OnSome Items) items k
    beyond_filled (e ∷ es) items h k =
        by_then (OnSome Items) (OnSome Items) (put_beyond e items) _
        (by_then (OnSome (Valued s)) (OnSome Items) (value e) _ (value_made s e h.0) (λ v hv. by_done (OnSome Items) (with_item None v items) (item_more None v items (side v hv) k)))
        (λ more hm. beyond_filled es more h.1 hm)
      where
        side : (v : Option TExpr) → OnSome (Valued s) v → OnSome (λ e. Item (record { value = e; way = None })) v
        side None hv = tt
        side (Some y) hv = valued_item None y hv

    spread_filled : (t : CType) (es : List TExpr) → Stand es → Gives Items (spread ws at t es)
    spread_filled t es h =
        by_then Filled (OnSome Items) (fill ws at 256 t [] false (record { items = Some []; left = es })) _ (fill_filled 256 t [] false (record { items = Some []; left = es }) (record { items = tt; left = h })) (λ f hf. beyond_filled f.left f.items hf.left hf.items)

    -- Initialisers.

    each_filled : (xs : List (Option TExpr)) → Gives Initial (each_value xs)
    each_filled [] = by_none Initial
    each_filled (x ∷ xs) = behind (OnSome Initial) (given x value) _ (λ v. each_filled xs)

    in_braces : (r : Option (List TInitItem)) → OnSome Items r → OnSome Initial (braces r)
    in_braces None h = tt
    in_braces (Some xs) h = h

    whole_filled : (t : CType) (es : List TExpr) → Stand es → Gives Initial (spread_whole ws at t es)
    whole_filled t es h = by_then (OnSome Items) (OnSome Initial) (spread ws at t es) _ (spread_filled t es h) (λ r hr. by_done (OnSome Initial) (braces r) (in_braces r hr))

    all_stand : (xs : List (Option TExpr)) → Standing xs → OnSome Stand (all_of xs)
    all_stand [] h = tt
    all_stand (x ∷ xs) h = joined x (all_of xs) h.0 (all_stand xs h.1)
      where
        joined : (x : Option TExpr) (r : Option (List TExpr)) → OnSome (Made s) x → OnSome Stand r → OnSome Stand (in_front x r)
        joined None r h k = tt
        joined (Some y) None h k = tt
        joined (Some y) (Some ys) h k = (h, k)

    all_filled : (t : CType) (es : Option (List TExpr)) (xs : List (Option TExpr)) → OnSome Stand es → Gives Initial (spread_all ws at t es xs)
    all_filled t None xs h = each_filled xs
    all_filled t (Some es) xs h = whole_filled t es h

    pub spread_initial : (t : Option CType) (xs : List (Option TExpr)) → Standing xs → Gives Initial (spread_if ws at t xs)
    spread_initial None xs h = each_filled xs
    spread_initial (Some t) xs h = all_filled t (all_of xs) xs (all_stand xs h)

    to_whole : (t : Option CType) (e : TExpr) → Valued s e → Gives Whole (converted_to ws at t e)
    to_whole None e v = by_none Whole
    to_whole (Some t) e v = record { all = λ w. side (converted ws i.Operand at t e w).0 ((converted_made s ws i.Operand at t e v).all w) }
      where
        side : (o : Option TExpr) → OnSome (Given s t) o → OnSome Whole o
        side None h = tt
        side (Some y) h = λ names. subst (λ z. IsTyped s (if_scalar z) (seen s y)) (sym h.type) (h.stored names)

    pub one_whole : (t : Option CType) (e : TExpr) → Made s e → Gives Whole (one_value ws at t e)
    one_whole t e m =
        by_if (OnSome Whole) (is_string e && is_array_if t) _ _ (λ h. by_fault Whole (unsupported_at u.Init at))
        (λ h. by_then (OnSome (Valued s)) (OnSome Whole) (value e) _ (value_made s e m) (λ v hv. by_given (Valued s) Whole v _ hv (λ y k. to_whole t y k)))
