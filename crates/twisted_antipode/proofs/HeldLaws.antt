-- What calls that hold more constants leave: the constants are the same.
use Rattle.std.proofs.Common.{◌≡◌, ◌⊎◌, ℕ, ◌<◌, ◌≤◌, ◌==◌, pos, true, false, cond, if◌then◌else◌, List, [], ◌∷◌, inl, inr, length, Option, Some, None, refl, sym, ap, ◌∙◌, subst, arith}
use Rattle.std.specs.Ordering.{is_eq}
use Rattle.std.proofs.lemmas.Bool.Decides.{Decides-eqb}
use Rattle.ordered_lists.specs.Members.{IsIn}
use Rattle.exact_sums.specs.Saturating.{overflow}
use Rattle.degree_numbers.specs.declared.types.Types.{Types}
use Rattle.plain_trees.specs.Plain.{Plain, tree_order}
use Rattle.plain_trees.specs.Degree.{HasTypes}
use Rattle.tree_pool.specs.Content.{Content, IsPooled, IsGrown, tree_at}
use Rattle.tree_pool.proofs.Growth.{grown_at, grown_length}
use Rattle.symbol_polys.specs.declared.poly.Poly.{Poly}
use Rattle.antipode_laws.specs.Weighed.{Weighed}
use Rattle.antipode_laws.specs.Constants.{expected, IsConstants}
use Rattle.antipode_laws.specs.Sameness.{AreSameValues, IsSameHeld, IsHeldValue}
use Rattle.antipode_laws.proofs.SameValues.{same_self, same_back, same_both, same_solutions}
use Rattle.antipode_laws.proofs.Solutions.{solution, is_solution}
use Rattle.twisted_antipode.specs.Held.{Held, with_held, held_over, IsHeldOver, AreHeldOver, IsExtended, IsConstantRefused}
use Rattle.twisted_antipode.specs.Values.{IsPolyOf}
use Rattle.twisted_antipode.specs.declared.error.AntipodeError.{AntipodeError}
use Rattle.twisted_antipode.specs.declared.error.AntipodeError.TheVariants.{CoefficientTooLarge, Memory}
use Rattle.twisted_antipode.specs.declared.error.Quantity.TheVariants.{Extraction, Antipode, Constant}
use Rattle.twisted_antipode.proofs.Pooled.{kept_at}
use Rattle.twisted_antipode.proofs.KnownLaws.{exact, same_number, held_grown}
use Rattle.twisted_antipode.proofs.SolutionLaws.{well_of, over_member, has_held, constants_before}

-- a value that is held for a tree
held_from : (c : Content) (hs : List Held) (t : Plain) (w : Weighed) → held_over c hs t ≡ Some w → (h : Held) × IsIn h hs × (tree_at c h.0 ≡ t)
held_from c [] t w e = absurd cc
held_from c (k ∷ hs) t w e =
    (elim (is_eq (tree_order (tree_at c k.0) t)) as (λ b. is_eq (tree_order (tree_at c k.0) t) ≡ b → cond b (Some k.1) (held_over c hs t) ≡ Some w → (h : Held) × IsIn h (k ∷ hs) × (tree_at c h.0 ≡ t)) [
      | true ↦ λ f g. (k, inl refl, exact.only (tree_at c k.0) t f)
      | false ↦ λ f g. (let r = held_from c hs t w g in (r.0, inr r.1, r.2))
    ]) refl e

found_over : (c : Content) (hs : List Held) (h : Held) (t : Plain) → IsIn h hs → tree_at c h.0 ≡ t → held_over c hs t ≡ None → ⊥
found_over c [] h t i e none = i
found_over c (k ∷ hs) h t i e none =
    (elim (is_eq (tree_order (tree_at c k.0) t)) as (λ b. is_eq (tree_order (tree_at c k.0) t) ≡ b → cond b (Some k.1) (held_over c hs t) ≡ None → ⊥) [
      | true ↦ λ f g. absurd cc
      | false ↦ λ f g. elim i [
        | inl same ↦ (let here : is_eq (tree_order (tree_at c k.0) t) ≡ true =
            subst (λ (s : Plain). is_eq (tree_order (tree_at c k.0) s) ≡ true) (ap (λ (l : Held). tree_at c l.0) same ∙ e) (exact.always (tree_at c k.0)) in absurd cc)
        | inr later ↦ found_over c hs h t later e g
      ]
    ]) refl none

none_before : (c : Content) (hs ks : List Held) (t : Plain) → ((h : Held) → IsIn h hs → IsIn h ks) → held_over c ks t ≡ None → held_over c hs t ≡ None
none_before c hs ks t kept none =
    (elim (held_over c hs t) as (λ o. held_over c hs t ≡ o → o ≡ None) [
      | None ↦ λ e. refl
      | Some w ↦ λ e. (let from = held_from c hs t w e in absurd (found_over c ks from.0 t (kept from.0 from.1) from.2 none))
    ]) refl

either : (h k : Option Weighed) (w : Weighed) → (k ≡ None → h ≡ None) → ((u : Weighed) → k ≡ Some u → AreSameValues u w) → IsSameHeld h k ⊎ IsHeldValue k w
either None None w none some = inl tt
either (Some v) None w none some = (let no = none refl in absurd cc)
either None (Some u) w none some = inr (some u refl)
either (Some v) (Some u) w none some = inr (some u refl)

-- constants over what is held now are constants over what was held
pub same_constants : (c : Content) (hs ks : List Held) (a b : Plain → Weighed) → IsExtended c hs ks → IsConstants c.types (held_over c hs) a → IsConstants c.types (held_over c ks) b →
    (t : Plain) → HasTypes c.types t → AreSameValues (a t) (b t)
same_constants c hs ks a b m solves also =
    same_solutions a b (expected c.types) c.types (held_over c hs) (held_over c ks) solves also
    (λ t typed. either (held_over c hs t) (held_over c ks t) (a t) (none_before c hs ks t m.kept) (λ u e. m.values a solves t u typed e))

-- what is held stays so while the pool grows
pub over_grown : (c d : Content) (hs : List Held) → IsGrown c d → AreHeldOver c hs → AreHeldOver d hs
over_grown c d [] g h = tt
over_grown c d (k ∷ hs) g h =
    let l = grown_length c d g in
    let k1 = h.0.known in
    (record { known = omega (arith, l, k1); polynomial = h.0.polynomial; range = h.0.range; expectations = h.0.expectations }, over_grown c d hs g h.1)

extended_grown : (c d : Content) (hs ks : List Held) → IsGrown c d → AreHeldOver c hs → AreHeldOver c ks → IsExtended c hs ks → IsExtended d hs ks
extended_grown c d hs ks g over also m =
    let before : (a : Plain → Weighed) → IsConstants d.types (held_over d hs) a → IsConstants c.types (held_over c hs) a = λ a solves. constants_before c d hs a g (well_of c hs over) solves in
    record {
      kept = m.kept;
      added = λ a solves h i.
          subst (λ (s : Plain). IsIn h hs ⊎ AreSameValues h.1 (a s)) (sym (grown_at c d h.0 g (over_member c h ks also i).known)) (m.added a (before a solves) h i);
      values = λ a solves t w typed e.
          m.values a (before a solves) t w (subst (λ (ty : Types). HasTypes ty t) g.types typed) (sym (held_grown c d ks t g (well_of c ks also)) ∙ e);
    }

pub extended_itself : (c : Content) (hs : List Held) → IsExtended c hs hs
extended_itself c hs = record {
  kept = λ h i. i;
  added = λ a solves h i. inl i;
  values = λ a solves t w typed e. subst (AreSameValues w) (sym (has_held c.types (expected c.types) (held_over c hs) a t w solves typed e)) (same_self w);
}

extended_on : (d : Content) (hs ks ls : List Held) → IsPooled d → AreHeldOver d ls → IsExtended d hs ks → IsExtended d ks ls → IsExtended d hs ls
extended_on d hs ks ls pooled over m n =
    let b = solution d.types (expected d.types) (held_over d ks) in
    let also : IsConstants d.types (held_over d ks) b = is_solution d.types (expected d.types) (held_over d ks) in
    record {
      kept = λ h i. n.kept h (m.kept h i);
      added = λ a solves h i.
          let t = tree_at d h.0 in
          elim (n.added b also h i) [
            | inl old ↦ m.added a solves h old
            | inr new ↦ inr (same_both h.1 (b t) (a t) new (same_back (a t) (b t) (same_constants d hs ks a b m solves also t (kept_at d h.0 pooled (over_member d h ls over i).known).known)))
          ];
      values = λ a solves t w typed e. same_both w (b t) (a t) (n.values b also t w typed e) (same_back (a t) (b t) (same_constants d hs ks a b m solves also t typed));
    }

pub extended_twice : (c d : Content) (hs ks ls : List Held) → IsGrown c d → IsPooled d → AreHeldOver c hs → AreHeldOver c ks → AreHeldOver d ls → IsExtended c hs ks → IsExtended d ks ls →
    IsExtended d hs ls
extended_twice c d hs ks ls g pooled first second third m n = extended_on d hs ks ls pooled third (extended_grown c d hs ks g first second m) n

-- one value more is held
pub over_with : (c : Content) (hs : List Held) (i : ℕ) (w : Weighed) → AreHeldOver c hs → IsHeldOver c (i, w) → AreHeldOver c (with_held hs i w)
over_with c [] i w h one = (one, tt)
over_with c (k ∷ hs) i w h one =
    (elim (i == k.0) as (λ b. (i == k.0) ≡ b → AreHeldOver c (cond b ((k.0, w) ∷ hs) (k ∷ with_held hs i w))) [
      | true ↦ λ e. (subst (λ j. IsHeldOver c (j, w)) ((Decides-eqb i k.0).0 e) one, h.1)
      | false ↦ λ e. (h.0, over_with c hs i w h.1 one)
    ]) refl

pub held_with : (c : Content) (hs : List Held) (i : ℕ) (w : Weighed) (t : Plain) → IsPooled c → AreHeldOver c hs → i < length c.trees →
    held_over c (with_held hs i w) t ≡ (if is_eq (tree_order (tree_at c i) t) then Some w else held_over c hs t)
held_with c [] i w t pooled h l = refl
held_with c (k ∷ hs) i w t pooled h l =
    (elim (i == k.0) as (λ b. (i == k.0) ≡ b → held_over c (cond b ((k.0, w) ∷ hs) (k ∷ with_held hs i w)) t ≡ (if is_eq (tree_order (tree_at c i) t) then Some w else held_over c (k ∷ hs) t)) [
      | true ↦ λ e. at_same ((Decides-eqb i k.0).0 e)
      | false ↦ λ e. at_other (λ same. let yes = (Decides-eqb i k.0).1 same in absurd cc) (held_with c hs i w t pooled h.1 l)
    ]) refl
  where
    at_same : i ≡ k.0 → held_over c ((k.0, w) ∷ hs) t ≡ (if is_eq (tree_order (tree_at c i) t) then Some w else held_over c (k ∷ hs) t)
    at_same e =
        subst (λ (j : ℕ). held_over c ((k.0, w) ∷ hs) t ≡ (if is_eq (tree_order (tree_at c j) t) then Some w else held_over c (k ∷ hs) t)) (sym e)
        (elim (is_eq (tree_order (tree_at c k.0) t)) as (λ b. cond b (Some w) (held_over c hs t) ≡ cond b (Some w) (cond b (Some k.1) (held_over c hs t))) [ true ↦ refl | false ↦ refl ])

    at_other : (i ≡ k.0 → ⊥) → held_over c (with_held hs i w) t ≡ (if is_eq (tree_order (tree_at c i) t) then Some w else held_over c hs t) → held_over c (k ∷ with_held hs i w) t ≡ (if is_eq (tree_order (tree_at c i) t) then Some w else held_over c (k ∷ hs) t)
    at_other other rest =
        (elim (is_eq (tree_order (tree_at c k.0) t)) as
        (λ b. is_eq (tree_order (tree_at c k.0) t) ≡ b →
        cond b (Some k.1) (held_over c (with_held hs i w) t) ≡ cond (is_eq (tree_order (tree_at c i) t)) (Some w) (cond b (Some k.1) (held_over c hs t))) [
          | true ↦ λ f.
              (elim (is_eq (tree_order (tree_at c i) t)) as (λ b. is_eq (tree_order (tree_at c i) t) ≡ b → Some k.1 ≡ cond b (Some w) (Some k.1)) [
                | true ↦ λ g.
                    absurd (other (same_number c i k.0 pooled l h.0.known (subst (λ (s : Plain). is_eq (tree_order (tree_at c i) s) ≡ true) (sym (exact.only (tree_at c k.0) t f)) g)))
                | false ↦ λ g. refl
              ]) refl
          | false ↦ λ f. rest
        ]) refl

-- answers over what is held now are answers over what was held
pub value_before : (c : Content) (hs ks : List Held) (t : Plain) (p : Poly) → IsExtended c hs ks → HasTypes c.types t → ((b : Plain → Weighed) → IsConstants c.types (held_over c ks) b → IsPolyOf (b t) p) →
    (a : Plain → Weighed) → IsConstants c.types (held_over c hs) a → IsPolyOf (a t) p
value_before c hs ks t p m typed value a solves =
    let b = solution c.types (expected c.types) (held_over c ks) in
    let also : IsConstants c.types (held_over c ks) b = is_solution c.types (expected c.types) (held_over c ks) in
    let poly = value b also in
    let same = same_constants c hs ks a b m solves also t typed in
    record { coefficients = λ n. poly.coefficients n ∙ sym (same.coefficients n); mass = poly.mass ∙ ap pos (sym same.mass) }

large_before : (c : Content) (hs ks : List Held) (t : Plain) → IsExtended c hs ks → HasTypes c.types t → ((b : Plain → Weighed) → IsConstants c.types (held_over c ks) b → overflow ≤ (b t).mass) →
    (a : Plain → Weighed) → IsConstants c.types (held_over c hs) a → overflow ≤ (a t).mass
large_before c hs ks t m typed large a solves =
    let b = solution c.types (expected c.types) (held_over c ks) in
    let also : IsConstants c.types (held_over c ks) b = is_solution c.types (expected c.types) (held_over c ks) in
    subst (λ n. overflow ≤ n) (sym (same_constants c hs ks a b m solves also t typed).mass) (large b also)

pub refused_before : (c : Content) (hs ks : List Held) (t : Plain) (e : AntipodeError) → IsExtended c hs ks → HasTypes c.types t → IsConstantRefused c.types (held_over c ks) t e →
    IsConstantRefused c.types (held_over c hs) t e
refused_before c hs ks t Memory m typed h = tt
refused_before c hs ks t (CoefficientTooLarge Extraction) m typed h = (none_before c hs ks t m.kept h.0, h.1)
refused_before c hs ks t (CoefficientTooLarge Antipode) m typed h = absurd h
refused_before c hs ks t (CoefficientTooLarge Constant) m typed h = (none_before c hs ks t m.kept h.0, h.1, large_before c hs ks t m typed h.2)
