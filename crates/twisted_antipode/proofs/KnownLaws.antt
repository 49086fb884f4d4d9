-- What is known stays so while the pool grows, and while more is held.
use Rattle.std.proofs.Common.{◌≡◌, ◌==◌, ℕ, ◌<◌, ◌⊎◌, true, false, cond, inl, inr, List, [], ◌∷◌, ◌++◌, length, Option, Some, None, refl, sym, ap, ◌∙◌, subst, arith}
use Rattle.std.specs.Ordering.{is_eq}
use Rattle.std.proofs.lemmas.Bool.Decides.{Decides-eqb}
use Rattle.ordered_lists.specs.Members.{IsIn}
use Rattle.exact_sums.specs.Saturating.{overflow}
use Rattle.exact_sums.specs.Keyed.{IsExactTest, same_by}
use Rattle.exact_sums.proofs.CollectedLaws.{same_by_exact}
use Rattle.degree_numbers.specs.declared.types.Types.{Types}
use Rattle.plain_trees.specs.Plain.{Plain, tree_order}
use Rattle.plain_trees.specs.Degree.{HasTypes}
use Rattle.plain_trees.proofs.OrderLaws.{tree_order_total, tree_exact}
use Rattle.tree_pool.specs.Content.{Content, IsPooled, IsGrown, tree_at}
use Rattle.tree_pool.proofs.Growth.{grown_at, grown_length}
use Rattle.std.proofs.lemmas.Int.{ints}
use Rattle.symbol_polys.specs.View.{IsPoly}
use Rattle.symbol_polys.specs.declared.poly.Poly.{Poly}
use Rattle.antipode_laws.specs.Weighed.{Weighed}
use Rattle.antipode_laws.specs.Antipode.{value_at}
use Rattle.antipode_laws.specs.Sameness.{AreSameValues}
use Rattle.twisted_antipode.specs.declared.quotient.Reading.{Reading}
use Rattle.twisted_antipode.specs.Quotients.{quotient_terms}
use Rattle.twisted_antipode.specs.Values.{IsPolyOf}
use Rattle.twisted_antipode.specs.Held.{Held, weighed_of, with_held, held_over}
use Rattle.twisted_antipode.specs.Known.{first_held, IsWellHeld, AreWellHeld, IsGood, IsKnownMore}
use Rattle.twisted_antipode.proofs.Arithmetic.{mass_is}
use Rattle.twisted_antipode.proofs.Pooled.{holds_at}

pub exact : IsExactTest (same_by tree_order)
exact = same_by_exact tree_order tree_order_total tree_exact

-- the pool grows
pub held_grown : (c d : Content) (hs : List Held) (t : Plain) → IsGrown c d → AreWellHeld c hs → held_over d hs t ≡ held_over c hs t
held_grown c d [] t g h = refl
held_grown c d (k ∷ hs) t g h =
    ap (λ (s : Plain). cond (is_eq (tree_order s t)) (Some k.1) (held_over d hs t)) (grown_at c d k.0 g h.0.known)
    ∙ ap (λ (o : Option Weighed). cond (is_eq (tree_order (tree_at c k.0) t)) (Some k.1) o) (held_grown c d hs t g h.1)

pub well_grown : (c d : Content) (hs : List Held) → IsGrown c d → AreWellHeld c hs → AreWellHeld d hs
well_grown c d [] g h = tt
well_grown c d (k ∷ hs) g h =
    let l = grown_length c d g in
    let k1 = h.0.known in
    (record { known = omega (arith, l, k1); polynomial = h.0.polynomial; range = h.0.range }, well_grown c d hs g h.1)

pub good_grown : (r : Reading) (c d : Content) (hs : List Held) (a : Plain → Weighed) → IsGrown c d → AreWellHeld c hs → IsGood r c hs a → IsGood r d hs a
good_grown r c d hs a g well h =
    let typed : (t : Plain) → HasTypes d.types t → HasTypes c.types t = λ t k. subst (λ (ty : Types). HasTypes ty t) g.types k in
    record {
      entries = λ t w k e. h.entries t w (typed t k) (sym (held_grown c d hs t g well) ∙ e);
      most = λ t k. h.most t (typed t k);
      solves = λ t k e.
          subst (λ (ty : Types). a t ≡ value_at ty (quotient_terms r ty) None a t) (sym g.types) (h.solves t (typed t k) (sym (held_grown c d hs t g well) ∙ e));
    }

-- a tree by its number
pub same_number : (c : Content) (i j : ℕ) → IsPooled c → i < length c.trees → j < length c.trees → is_eq (tree_order (tree_at c i) (tree_at c j)) ≡ true → i ≡ j
same_number c i j pooled li lj h =
    let same : tree_at c i ≡ tree_at c j = exact.only (tree_at c i) (tree_at c j) h in
    pooled.distinct i j (tree_at c j) (holds_at c i li ∙ ap (λ (t : Plain). Some t) same) (holds_at c j lj)

pub held_first : (c : Content) (hs : List Held) (i : ℕ) → IsPooled c → AreWellHeld c hs → i < length c.trees → held_over c hs (tree_at c i) ≡ first_held hs i
held_first c [] i pooled h l = refl
held_first c (k ∷ hs) i pooled h l =
    (elim (i == k.0) as (λ b. (i == k.0) ≡ b → held_over c (k ∷ hs) (tree_at c i) ≡ cond b (Some k.1) (first_held hs i)) [
      | true ↦ λ e.
          let same : i ≡ k.0 = (Decides-eqb i k.0).0 e in
          ap (λ b. cond b (Some k.1) (held_over c hs (tree_at c i))) (ap (λ (j : ℕ). is_eq (tree_order (tree_at c k.0) (tree_at c j))) same ∙ exact.always (tree_at c k.0))
      | false ↦ λ e.
          (elim (is_eq (tree_order (tree_at c k.0) (tree_at c i))) as (λ b. is_eq (tree_order (tree_at c k.0) (tree_at c i)) ≡ b → cond b (Some k.1) (held_over c hs (tree_at c i)) ≡ first_held hs i) [
            | true ↦ λ f. (let same = (Decides-eqb i k.0).1 (sym (same_number c k.0 i pooled h.0.known l f)) in absurd cc)
            | false ↦ λ f. held_first c hs i pooled h.1 l
          ]) refl
    ]) refl

-- one more is held
pub with_last : (hs : List Held) (i : ℕ) (w : Weighed) → first_held hs i ≡ None → with_held hs i w ≡ hs ++ (i, w) ∷ []
with_last [] i w h = refl
with_last (k ∷ hs) i w h =
    (elim (i == k.0) as (λ b. cond b (Some k.1) (first_held hs i) ≡ None → cond b ((k.0, w) ∷ hs) (k ∷ with_held hs i w) ≡ k ∷ hs ++ (i, w) ∷ []) [
      | true ↦ λ e. absurd cc
      | false ↦ λ e. ap (λ (ls : List Held). k ∷ ls) (with_last hs i w e)
    ]) h

pub last_none : (c : Content) (hs : List Held) (i : ℕ) (w : Weighed) (t : Plain) → held_over c (hs ++ (i, w) ∷ []) t ≡ None → held_over c hs t ≡ None
last_none c [] i w t h = refl
last_none c (k ∷ hs) i w t h =
    (elim (is_eq (tree_order (tree_at c k.0) t)) as (λ b. cond b (Some k.1) (held_over c (hs ++ (i, w) ∷ []) t) ≡ None → cond b (Some k.1) (held_over c hs t) ≡ None) [
      | true ↦ λ e. e
      | false ↦ λ e. last_none c hs i w t e
    ]) h

pub last_some : (c : Content) (hs : List Held) (i : ℕ) (w u : Weighed) (t : Plain) → held_over c (hs ++ (i, w) ∷ []) t ≡ Some u → (held_over c hs t ≡ Some u) ⊎ ((tree_at c i ≡ t) × (w ≡ u))
last_some c [] i w u t h =
    (elim (is_eq (tree_order (tree_at c i) t)) as (λ b. is_eq (tree_order (tree_at c i) t) ≡ b → cond b (Some w) None ≡ Some u → (held_over c [] t ≡ Some u) ⊎ ((tree_at c i ≡ t) × (w ≡ u))) [
      | true ↦ λ f e. inr (exact.only (tree_at c i) t f, cc)
      | false ↦ λ f e. absurd cc
    ]) refl h
last_some c (k ∷ hs) i w u t h =
    (elim (is_eq (tree_order (tree_at c k.0) t)) as (λ b. cond b (Some k.1) (held_over c (hs ++ (i, w) ∷ []) t) ≡ Some u → (cond b (Some k.1) (held_over c hs t) ≡ Some u) ⊎ ((tree_at c i ≡ t) × (w ≡ u))) [
      | true ↦ λ e. inl e
      | false ↦ λ e. last_some c hs i w u t e
    ]) h

pub same_poly : (w : Weighed) (p : Poly) → IsPolyOf w p → AreSameValues (weighed_of p) w
same_poly w p h = record { coefficients = h.coefficients; mass = mass_is w p h }

pub good_more : (r : Reading) (c : Content) (hs : List Held) (a : Plain → Weighed) (i : ℕ) (p : Poly) → first_held hs i ≡ None → IsPolyOf (a (tree_at c i)) p → IsGood r c hs a →
    IsGood r c (with_held hs i (weighed_of p)) a
good_more r c hs a i p none value h =
    let last = with_last hs i (weighed_of p) none in
    record {
      entries = λ t w k e.
          elim (last_some c hs i (weighed_of p) w t (ap (λ (ls : List Held). held_over c ls t) (sym last) ∙ e)) [
            | inl old ↦ h.entries t w k old
            | inr new ↦ subst (λ (u : Weighed). AreSameValues u (a t)) new.1 (subst (λ (s : Plain). AreSameValues (weighed_of p) (a s)) new.0 (same_poly (a (tree_at c i)) p value))
          ];
      most = h.most;
      solves = λ t k e. h.solves t k (last_none c hs i (weighed_of p) t (ap (λ (ls : List Held). held_over c ls t) (sym last) ∙ e));
    }

pub in_last : (h k : Held) (hs : List Held) → IsIn h (hs ++ k ∷ []) → IsIn h hs ⊎ (h ≡ k)
in_last h k [] (inl e) = inr (sym e)
in_last h k [] (inr e) = absurd e
in_last h k (l ∷ hs) (inl e) = inl (inl e)
in_last h k (l ∷ hs) (inr e) = elim (in_last h k hs e) [ inl i ↦ inl (inr i) | inr i ↦ inr i ]

pub in_front : (h k : Held) (hs : List Held) → IsIn h hs → IsIn h (hs ++ k ∷ [])
in_front h k [] e = absurd e
in_front h k (l ∷ hs) (inl e) = inl e
in_front h k (l ∷ hs) (inr e) = inr (in_front h k hs e)

pub well_last : (c : Content) (hs : List Held) (k : Held) → AreWellHeld c hs → IsWellHeld c k → AreWellHeld c (hs ++ k ∷ [])
well_last c [] k h l = (l, tt)
well_last c (m ∷ hs) k h l = (h.0, well_last c hs k h.1 l)

-- steps
pub more_grown : (r : Reading) (c d : Content) (hs : List Held) → IsGrown c d → AreWellHeld c hs → IsKnownMore r c d hs hs
more_grown r c d hs g well = record {
  good = λ a h. good_grown r c d hs a g well h;
  kept = λ h i. i;
  added = λ a h k i. inl i;
  held = well_grown c d hs g well;
}

abbrev pub IsPolyFor : Reading → Content → List Held → ℕ → Poly → Type 0
IsPolyFor r c hs i p = (a : Plain → Weighed) → IsGood r c hs a → IsPolyOf (a (tree_at c i)) p

pub more_held : (r : Reading) (c : Content) (hs : List Held) (i : ℕ) (p : Poly) → first_held hs i ≡ None → AreWellHeld c hs → IsWellHeld c (i, weighed_of p) → IsPolyFor r c hs i p →
    IsKnownMore r c c hs (with_held hs i (weighed_of p))
more_held r c hs i p none well one value =
    let last = with_last hs i (weighed_of p) none in
    record {
      good = λ a h. good_more r c hs a i p none (value a h) h;
      kept = λ h k. subst (λ (ls : List Held). IsIn h ls) (sym last) (in_front h (i, weighed_of p) hs k);
      added = λ a h k l.
          elim (in_last k (i, weighed_of p) hs (subst (λ (ls : List Held). IsIn k ls) last l)) [
            | inl old ↦ inl old
            | inr new ↦ inr (subst (λ (m : Held). AreSameValues m.1 (a (tree_at c m.0))) (sym new) (same_poly (a (tree_at c i)) p (value a h)))
          ];
      held = subst (AreWellHeld c) (sym last) (well_last c hs (i, weighed_of p) well one);
    }

pub well_member : (c : Content) (h : Held) (hs : List Held) → AreWellHeld c hs → IsIn h hs → IsWellHeld c h
well_member c h [] well i = absurd i
well_member c h (k ∷ hs) well (inl e) = subst (IsWellHeld c) e well.0
well_member c h (k ∷ hs) well (inr i) = well_member c h hs well.1 i

pub more_trans : (r : Reading) (c d e : Content) (hs ks ls : List Held) → IsGrown d e → IsKnownMore r c d hs ks → IsKnownMore r d e ks ls → IsKnownMore r c e hs ls
more_trans r c d e hs ks ls g m n = record {
  good = λ a h. n.good a (m.good a h);
  kept = λ h i. n.kept h (m.kept h i);
  added = λ a h k i.
      elim (n.added a (m.good a h) k i) [
        | inl old ↦ elim (m.added a h k old) [
          | inl older ↦ inl older
          | inr new ↦ inr (subst (λ (t : Plain). AreSameValues k.1 (a t)) (sym (grown_at d e k.0 g (well_member d k ks m.held old).known)) new)
        ]
        | inr new ↦ inr new
      ];
  held = n.held;
}

pub first_well : (c : Content) (hs : List Held) (i : ℕ) (w : Weighed) → AreWellHeld c hs → first_held hs i ≡ Some w → w.mass < overflow
first_well c [] i w well h = absurd cc
first_well c (k ∷ hs) i w well h =
    (elim (i == k.0) as (λ b. cond b (Some k.1) (first_held hs i) ≡ Some w → w.mass < overflow) [
      | true ↦ λ e. (let same : k.1 ≡ w = cc in subst (λ (u : Weighed). u.mass < overflow) same well.0.range)
      | false ↦ λ e. first_well c hs i w well.1 e
    ]) h

pub self_poly : (p : Poly) → IsPoly p → IsPolyOf (weighed_of p) p
self_poly p h = let within = h.within in record { coefficients = λ m. refl; mass = omega (arith, ints, within) }
