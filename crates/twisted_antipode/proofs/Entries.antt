-- The entries of the map of what is held.
use Rattle.std.proofs.Common.{◌≡◌, ◌==◌, Bool, true, false, cond, List, [], ◌∷◌, Option, Some, None, is_some, IsTrue, refl, sym, ap, ◌∙◌, subst, inl, inr, ℕ, MatchOption, Result, Ok, Err, OnOk, OnErr}
use Rattle.std.specs.Bool.{Decides}
use Rattle.std.specs.Map.{lookup}
use Rattle.std.specs.Option.{option_copied, option_map}
use denote.Ref.{Bor}
use Rattle.std.proofs.lemmas.Bool.Decides.{Decides-eqb}
use Rattle.indexmap.specs.IndexMap.{insert_entry}
use Rattle.tree_pool.specs.contracts.node.TreeIdPartialEq.TheImpl.{eq-value}
use Rattle.tree_pool.specs.declared.TreeId.{TreeId}
use Rattle.symbol_polys.specs.declared.poly.Poly.{Poly}
use Rattle.twisted_antipode.specs.Held.{Held, weighed_of, held_in, with_held, IsHeld, ArePolys}
use Rattle.twisted_antipode.specs.Known.{first_held}
use Rattle.symbol_polys.specs.View.{IsPoly}

abbrev pub same_id : TreeId → TreeId → Bool
same_id = eq-value.it

pub inserted : (es : List (TreeId × Poly)) (k : TreeId) (p : Poly) → held_in (insert_entry same_id es k p) ≡ with_held (held_in es) k.0 (weighed_of p)
inserted [] k p = refl
inserted (e ∷ es) k p =
    elim (k.0 == e.0.0) as (λ b. held_in (cond b ((e.0, p) ∷ es) (e ∷ insert_entry same_id es k p)) ≡ cond b ((e.0.0, weighed_of p) ∷ held_in es) ((e.0.0, weighed_of e.1) ∷ with_held (held_in es) k.0 (weighed_of p))) [
      | true ↦ refl
      | false ↦ ap (λ (hs : List Held). (e.0.0, weighed_of e.1) ∷ hs) (inserted es k p)
    ]

id-Decides : (a b : TreeId) → Decides (same_id a b) (a.0 ≡ b.0)
id-Decides a b = Decides-eqb a.0 b.0

pub found : (es : List (TreeId × Poly)) (k : TreeId) → IsTrue (is_some (lookup (same_id k) es)) → IsHeld (held_in es) k.0
found [] k h = absurd cc
found (e ∷ es) k h =
    (elim (same_id k e.0) as (λ b. same_id k e.0 ≡ b → IsTrue (is_some (cond b (Some e.1) (lookup (same_id k) es))) → IsHeld (held_in (e ∷ es)) k.0) [
      | true ↦ λ t g. inl (sym ((id-Decides k e.0).0 t))
      | false ↦ λ t g. inr (found es k g)
    ]) refl h

pub looked_up : (es : List (TreeId × Poly)) (k : TreeId) → IsHeld (held_in es) k.0 → IsTrue (is_some (lookup (same_id k) es))
looked_up [] k h = absurd h
looked_up (e ∷ es) k h =
    (elim (same_id k e.0) as (λ b. same_id k e.0 ≡ b → IsTrue (is_some (cond b (Some e.1) (lookup (same_id k) es)))) [
      | true ↦ λ t. refl
      | false ↦ λ t. elim h [
        | inl here ↦ (let passes = (id-Decides k e.0).1 (sym here) in absurd cc)
        | inr there ↦ looked_up es k there
      ]
    ]) refl

copied_some : {T : Type 0} (r : Option (Bor T)) → is_some (option_copied r) ≡ is_some r
copied_some None = refl
copied_some (Some x) = refl

pub is_held : (es : List (TreeId × Poly)) (hs : List Held) (k : TreeId) (r : Option (Bor Poly)) (b : Bool) → held_in es ≡ hs → option_copied r ≡ lookup (same_id k) es → b ≡ is_some r →
    (IsTrue b → IsHeld hs k.0) × (IsHeld hs k.0 → IsTrue b)
is_held es hs k r b view value some =
    let is : b ≡ is_some (lookup (same_id k) es) = some ∙ sym (copied_some r) ∙ ap is_some value in
    (λ h. subst (λ gs. IsHeld gs k.0) view (found es k (sym is ∙ h)), λ h. is ∙ looked_up es k (subst (λ gs. IsHeld gs k.0) (sym view) h))

pub still_polys : (es : List (TreeId × Poly)) (k : TreeId) (p : Poly) → IsPoly p → ArePolys es → ArePolys (insert_entry same_id es k p)
still_polys [] k p h all = (h, tt)
still_polys (e ∷ es) k p h all =
    elim (k.0 == e.0.0) as (λ b. ArePolys (cond b ((e.0, p) ∷ es) (e ∷ insert_entry same_id es k p))) [
      | true ↦ (h, all.1)
      | false ↦ (all.0, still_polys es k p h all.1)
    ]

first_of : (es : List (TreeId × Poly)) (k : TreeId) → first_held (held_in es) k.0 ≡ option_map weighed_of (lookup (same_id k) es)
first_of [] k = refl
first_of (e ∷ es) k =
    elim (k.0 == e.0.0) as (λ b. cond b (Some (weighed_of e.1)) (first_held (held_in es) k.0) ≡ option_map weighed_of (cond b (Some e.1) (lookup (same_id k) es))) [
      | true ↦ refl
      | false ↦ first_of es k
    ]

looked_poly : (es : List (TreeId × Poly)) (k : TreeId) (p : Poly) → ArePolys es → Some p ≡ lookup (same_id k) es → IsPoly p
looked_poly [] k p all h = absurd cc
looked_poly (e ∷ es) k p all h =
    (elim (k.0 == e.0.0) as (λ b. Some p ≡ cond b (Some e.1) (lookup (same_id k) es) → IsPoly p) [
      | true ↦ λ q. (let same : e.1 ≡ p = cc in subst IsPoly same all.0)
      | false ↦ λ q. looked_poly es k p all.1 q
    ]) h

pub got : (es : List (TreeId × Poly)) (hs : List Held) (k : TreeId) (r : Option (Bor Poly)) → held_in es ≡ hs → ArePolys es → option_copied r ≡ lookup (same_id k) es →
    MatchOption r (first_held hs k.0 ≡ None) (λ p. IsPoly p.now × (first_held hs k.0 ≡ Some (weighed_of p.now)))
got es hs k None view all h = ap (λ ls. first_held ls k.0) (sym view) ∙ first_of es k ∙ ap (option_map weighed_of) (sym h)
got es hs k (Some x) view all h = (looked_poly es k x.now all h, ap (λ ls. first_held ls k.0) (sym view) ∙ first_of es k ∙ ap (option_map weighed_of) (sym h))

pub lacks : (hs : List Held) (i : ℕ) → (IsHeld hs i → ⊥) → first_held hs i ≡ None
lacks [] i h = refl
lacks (k ∷ hs) i h =
    (elim (i == k.0) as (λ b. (i == k.0) ≡ b → cond b (Some k.1) (first_held hs i) ≡ None) [
      | true ↦ λ e. absurd (h (inl (sym ((Decides-eqb i k.0).0 e))))
      | false ↦ λ e. lacks hs i (λ g. h (inr g))
    ]) refl

pub after_insert : {T E : Type 0} (r : Result T E) (es ns : List (TreeId × Poly)) (k : TreeId) (p : Poly) → IsPoly p → ArePolys es → OnOk r (ns ≡ insert_entry same_id es k p) →
    OnErr r (ns ≡ es) → ArePolys ns
after_insert (Ok x) es ns k p h all ok err = subst ArePolys (sym ok) (still_polys es k p h all)
after_insert (Err x) es ns k p h all ok err = subst ArePolys (sym err) all
