-- What the recursion's answers say of antipodes and constants.
use Rattle.std.proofs.Common.{◌≡◌, ℕ, ◌<◌, ◌≤◌, ◌==◌, pos, true, false, cond, List, [], ◌∷◌, inl, inr, length, Option, Some, None, Result, Ok, Err, IfOk, IfErr, refl, sym, ap, ◌∙◌, subst, arith}
use Rattle.std.proofs.lemmas.Bool.Decides.{Decides-eqb}
use Rattle.exact_sums.specs.Saturating.{overflow}
use Rattle.degree_numbers.specs.declared.types.Types.{Types}
use Rattle.plain_trees.specs.Plain.{Plain}
use Rattle.plain_trees.specs.Degree.{HasTypes, is_empty_tree}
use Rattle.plain_trees.specs.Coproducts.{extraction_terms}
use Rattle.tree_pool.specs.Content.{Content, IsPooled, IsGrown, tree_at}
use Rattle.tree_pool.proofs.Growth.{grown_at}
use Rattle.extraction_coproduct.specs.Finished.{TablesContent, coproduct_of}
use Rattle.extraction_coproduct.specs.Terms.{AreInRange}
use Rattle.symbol_polys.specs.declared.poly.Poly.{Poly}
use Rattle.symbol_polys.specs.View.{IsPoly, terms_of}
use Rattle.antipode_laws.specs.Weighed.{Weighed, unit}
use Rattle.antipode_laws.specs.Antipode.{from_smaller, value_at, tree_terms, nothing, IsAntipode}
use Rattle.antipode_laws.specs.Constants.{expected, IsConstants}
use Rattle.antipode_laws.proofs.Solutions.{solution, is_solution}
use Rattle.antipode_laws.proofs.OtherTerms.{all_members, member_of}
use Rattle.twisted_antipode.specs.declared.error.AntipodeError.{AntipodeError}
use Rattle.twisted_antipode.specs.declared.error.AntipodeError.TheVariants.{CoefficientTooLarge}
use Rattle.twisted_antipode.specs.declared.error.Quantity.TheVariants as quantity
use Rattle.twisted_antipode.specs.declared.quotient.Reading.TheVariants.{Antipode, Constant}
use Rattle.twisted_antipode.specs.declared.value.Value.{Value}
use Rattle.twisted_antipode.specs.Values.{IsPolyOf, IsValueOf}
use Rattle.twisted_antipode.specs.Held.{Held, IsHeld, held_over, IsExpectation, AreOverExpectations, IsHeldOver, AreHeldOver, IsExtended, IsAntipodeRefused, IsConstantRefused}
use Rattle.twisted_antipode.specs.Kinds.{IsTyped, AreTyped, IsTreeOver, AreOverTrees, AreHeldTyped}
use Rattle.twisted_antipode.specs.Known.{first_held, IsGood, IsValueIn, IsKnownMore}
use Rattle.twisted_antipode.proofs.Entries.{lacks}
use Rattle.twisted_antipode.proofs.Pooled.{kept_at}
use Rattle.twisted_antipode.proofs.KnownLaws.{held_first, good_grown, well_member}
use Rattle.twisted_antipode.proofs.SolutionLaws.{well_of, over_member, each_held, ranges, has_held, good_solution, constants_before, constants_over, constants_typed, antipode_over, collected_over}
use Rattle.twisted_antipode.proofs.HeldLaws.{over_grown}
use Rattle.twisted_antipode.specs.Counts.{AreFinishedOver}
use Rattle.twisted_antipode.proofs.CountLaws.{over_after}
use Rattle.twisted_antipode.proofs.ValueLaws.{in_range, not_in_range}

typed_at : (c : Content) (i : ℕ) → IsPooled c → i < length c.trees → HasTypes c.types (tree_at c i)
typed_at c i pooled l = (kept_at c i pooled l).known

-- some function of constants
some : (c : Content) (hs : List Held) → Plain → Weighed
some c hs = solution c.types (expected c.types) (held_over c hs)

some_is : (c : Content) (hs : List Held) → IsConstants c.types (held_over c hs) (some c hs)
unfolding some
some_is c hs = is_solution c.types (expected c.types) (held_over c hs)

-- what is held after the recursion
known : (c d : Content) (hs : List Held) (a : Plain → Weighed) → IsGrown c d → AreHeldOver c hs → IsConstants d.types (held_over d hs) a → IsGood Constant c hs a
known c d hs a g over solves = good_solution Constant c hs a (well_of c hs over) (constants_before c d hs a g (well_of c hs over) solves)

pub extended_from : (c d : Content) (hs ks : List Held) → IsGrown c d → AreHeldOver c hs → IsKnownMore Constant c d hs ks → IsExtended d hs ks
extended_from c d hs ks g over m = record {
  kept = m.kept;
  added = λ a solves h i. m.added a (known c d hs a g over solves) h i;
  values = λ a solves t w typed e. (m.good a (known c d hs a g over solves)).entries t w typed e;
}

pub over_from : (c d : Content) (hs ks : List Held) → IsGrown c d → IsPooled d → AreHeldOver c hs → IsKnownMore Constant c d hs ks → AreHeldOver d ks
over_from c d hs ks g pooled over m =
    let a = some d hs in
    let solves = some_is d hs in
    all_members (IsHeldOver d) ks
    (λ h i.
    let w = well_member d h ks m.held i in
    let t = tree_at d h.0 in
    record {
      known = w.known;
      polynomial = w.polynomial;
      range = w.range;
      expectations = elim (m.added a (known c d hs a g over solves) h i) [
        | inl old ↦ (over_member c h hs over old).expectations
        | inr new ↦ collected_over IsExpectation (pos h.1.mass) h.1.terms (a t).terms w.polynomial new.coefficients (constants_over d hs a t (over_grown c d hs g over) solves (typed_at d h.0 pooled w.known))
      ];
    })

pub typed_from : (c d : Content) (hs ks : List Held) → IsGrown c d → IsPooled d → AreHeldOver c hs → IsKnownMore Constant c d hs ks → AreHeldTyped c.types hs → AreHeldTyped d.types ks
typed_from c d hs ks g pooled over m typed =
    let a = some d hs in
    let solves = some_is d hs in
    let before : AreHeldTyped d.types hs = subst (λ (ty : Types). AreHeldTyped ty hs) (sym g.types) typed in
    all_members (λ (h : Held). AreTyped d.types h.1.terms) ks
    (λ h i.
    let w = well_member d h ks m.held i in
    let t = tree_at d h.0 in
    elim (m.added a (known c d hs a g over solves) h i) [
      | inl old ↦ member_of (λ (k : Held). AreTyped d.types k.1.terms) hs h before old
      | inr new ↦ collected_over (IsTyped d.types) (pos h.1.mass) h.1.terms (a t).terms w.polynomial new.coefficients (constants_typed d hs a t before solves (typed_at d h.0 pooled w.known))
    ])

pub record IsLeft (c d : Content) (hs ks : List Held) : Type 0 where
  pub extended : IsExtended d hs ks
  pub held : AreHeldOver d ks
  pub typed : AreHeldTyped c.types hs → AreHeldTyped d.types ks

pub left_over : (c m d : Content) (hs ks : List Held) → IsGrown c m → IsGrown m d → IsPooled d → AreHeldOver c hs → IsKnownMore Constant m d hs ks → IsLeft c d hs ks
left_over c m d hs ks g h pooled over more =
    let now = over_grown c m hs g over in
    record {
      extended = extended_from m d hs ks h now more;
      held = over_from m d hs ks h pooled now more;
      typed = λ typed. typed_from m d hs ks h pooled now more (subst (λ (ty : Types). AreHeldTyped ty hs) (sym g.types) typed);
    }

-- the answer
abbrev pub IsConstantValue : Content → List Held → ℕ → Value → Type 0
IsConstantValue c hs i v = (a : Plain → Weighed) → IsConstants c.types (held_over c hs) a → IsValueOf (a (tree_at c i)) v

pub constant_value : (c d : Content) (hs : List Held) (i : ℕ) (v : Value) → IsGrown c d → AreHeldOver c hs → i < length c.trees → IsValueIn Constant d hs (tree_at d i) v → IsConstantValue c hs i v
constant_value c d hs i v g over l value a solves =
    let well = well_of c hs over in
    subst (λ (s : Plain). IsValueOf (a s) v) (grown_at c d i g l) (value a (good_grown Constant c d hs a g well (good_solution Constant c hs a well solves)))

abbrev pub IsConstantPoly : Content → List Held → ℕ → Poly → Type 0
IsConstantPoly c hs i p = (a : Plain → Weighed) → IsConstants c.types (held_over c hs) a → IsPolyOf (a (tree_at c i)) p

abbrev pub IsMade : Value → Result Poly AntipodeError → Type 0
IsMade v r = IfOk r (λ p. (w : Weighed) → IsValueOf w v → IsPolyOf w p)

pub constant_answer : (c : Content) (hs : List Held) (i : ℕ) (v : Value) (r : Result Poly AntipodeError) → IsConstantValue c hs i v → IsMade v r → IfOk r (IsConstantPoly c hs i)
constant_answer c hs i v (Ok p) value h = λ a solves. h (a (tree_at c i)) (value a solves)
constant_answer c hs i v (Err e) value h = tt

pub constant_expectations : (c : Content) (hs : List Held) (i : ℕ) (r : Result Poly AntipodeError) → IsPooled c → i < length c.trees → AreHeldOver c hs → IfOk r IsPoly →
    IfOk r (IsConstantPoly c hs i) → IfOk r (λ p. AreOverExpectations (terms_of p.terms))
constant_expectations c hs i (Ok p) pooled l over poly value =
    let a = some c hs in
    collected_over IsExpectation p.mass (terms_of p.terms) (a (tree_at c i)).terms poly (value a (some_is c hs)).coefficients
    (constants_over c hs a (tree_at c i) over (some_is c hs) (typed_at c i pooled l))
constant_expectations c hs i (Err e) pooled l over poly value = tt

pub constant_typed : (c : Content) (hs : List Held) (i : ℕ) (r : Result Poly AntipodeError) → IsPooled c → i < length c.trees → IfOk r IsPoly → IfOk r (IsConstantPoly c hs i) →
    IfOk r (λ p. AreHeldTyped c.types hs → AreTyped c.types (terms_of p.terms))
constant_typed c hs i (Ok p) pooled l poly value = λ typed.
    let a = some c hs in
    collected_over (IsTyped c.types) p.mass (terms_of p.terms) (a (tree_at c i)).terms poly (value a (some_is c hs)).coefficients
    (constants_typed c hs a (tree_at c i) typed (some_is c hs) (typed_at c i pooled l))
constant_typed c hs i (Err e) pooled l poly value = tt

-- why there is none
pub has_first : (hs : List Held) (i : ℕ) → IsHeld hs i → first_held hs i ≡ None → ⊥
has_first [] i h e = h
has_first (k ∷ hs) i h e =
    (elim (i == k.0) as (λ b. (i == k.0) ≡ b → cond b (Some k.1) (first_held hs i) ≡ None → ⊥) [
      | true ↦ λ f g. absurd cc
      | false ↦ λ f g. elim h [
        | inl same ↦ (let yes = (Decides-eqb i k.0).1 (sym same) in absurd cc)
        | inr later ↦ has_first hs i later g
      ]
    ]) refl e

module _ (c : Content) (hs : List Held) (i : ℕ) (v : Value) (pooled : IsPooled c) (l : i < length c.trees) (over : AreHeldOver c hs)
    (large : (w : Weighed) → IsValueOf w v → overflow ≤ w.mass) (value : IsConstantValue c hs i v) where
  abbrev T : Plain
  T = tree_at c i

  is_large : overflow ≤ (some c hs T).mass
  is_large = large (some c hs T) (value (some c hs) (some_is c hs))

  solves : some c hs T ≡ value_at c.types (expected c.types) (held_over c hs T) (some c hs) T
  solves = some_is c hs T (typed_at c i pooled l)

  not_held : held_over c hs T ≡ None
  not_held =
      (elim (held_over c hs T) as (λ o. held_over c hs T ≡ o → o ≡ None) [
        | None ↦ λ e. refl
        | Some w ↦ λ e.
            let range = each_held (λ (u : Weighed). u.mass < overflow) c hs T w (ranges c hs (well_of c hs over)) e in
            let is = ap (λ (u : Weighed). u.mass) (has_held c.types (expected c.types) (held_over c hs) (some c hs) T w (some_is c hs) (typed_at c i pooled l) e) in
            absurd (omega (arith, range, is, is_large))
      ]) refl

  not_empty : is_empty_tree T ≡ false
  not_empty =
      (elim (is_empty_tree T) as (λ b. is_empty_tree T ≡ b → b ≡ false) [
        | true ↦ λ e.
            let one = ap (λ (u : Weighed). u.mass)
            (solves ∙ ap (λ (h : Option Weighed). value_at c.types (expected c.types) h (some c hs) T) not_held
            ∙ ap (λ b. cond b unit (from_smaller c.types (expected c.types) (some c hs) T)) e) in
            absurd (omega (arith, one, is_large))
        | false ↦ λ e. refl
      ]) refl

  refused : (first_held hs i ≡ None → is_empty_tree T ≡ false → AreInRange (extraction_terms c.types T)) →
      IsConstantRefused c.types (held_over c hs) T (CoefficientTooLarge quantity.Constant)
  refused range =
      (not_held, in_range (extraction_terms c.types T) (range (sym (held_first c hs i pooled (well_of c hs over) l) ∙ not_held) not_empty), λ a also. large (a T) (value a also))

abbrev pub IsLarge : Value → Result Poly AntipodeError → Type 0
IsLarge v r = IfErr r (λ e. (w : Weighed) → IsValueOf w v → overflow ≤ w.mass)

abbrev pub HasRange : Content → List Held → ℕ → Type 0
HasRange c hs i = first_held hs i ≡ None → is_empty_tree (tree_at c i) ≡ false → AreInRange (coproduct_of c i)

pub constant_refusal : (c : Content) (hs : List Held) (i : ℕ) (v : Value) (r : Result Poly AntipodeError) → IsPooled c → i < length c.trees → AreHeldOver c hs → HasRange c hs i →
    IsConstantValue c hs i v → IfErr r (λ e. e ≡ CoefficientTooLarge quantity.Constant) → IsLarge v r → IfErr r (IsConstantRefused c.types (held_over c hs) (tree_at c i))
constant_refusal c hs i v (Ok p) pooled l over range value is large = tt
constant_refusal c hs i v (Err e) pooled l over range value is large =
    subst (IsConstantRefused c.types (held_over c hs) (tree_at c i)) (sym is) (refused c hs i v pooled l over large value range)

-- the coproduct of the tree that is asked
pub coefficients_refused : (c : Content) (hs : List Held) (i : ℕ) → IsPooled c → AreHeldOver c hs → i < length c.trees → (IsHeld hs i → ⊥) → (AreInRange (coproduct_of c i) → ⊥) →
    IsConstantRefused c.types (held_over c hs) (tree_at c i) (CoefficientTooLarge quantity.Extraction)
coefficients_refused c hs i pooled over l none large = (held_first c hs i pooled (well_of c hs over) l ∙ lacks hs i none, not_in_range (coproduct_of c i) large)

-- which coproducts are finished
pub finished_after : (a b c : TablesContent) (hs : List Held) (i : ℕ) → IsGrown a.pool b.pool → IsGrown b.pool c.pool → i < length a.pool.trees → AreFinishedOver a b hs (tree_at a.pool i ∷ []) →
    AreFinishedOver b c hs (tree_at b.pool i ∷ []) → AreFinishedOver a c hs (tree_at a.pool i ∷ [])
finished_after a b c hs i g h l first rest =
    over_after a b c hs hs (tree_at a.pool i ∷ []) g h (λ k j. j) first (subst (λ (s : Plain). AreFinishedOver b c hs (s ∷ [])) (grown_at a.pool b.pool i g l) rest)

-- the antipode
pub antipode_value : (c : Content) (hs : List Held) (i : ℕ) (v : Value) → hs ≡ [] → IsValueIn Antipode c hs (tree_at c i) v → (a : Plain → Weighed) → IsAntipode c.types a → IsValueOf (a (tree_at c i)) v
antipode_value c hs i v none value a solves = value a (subst (λ (ks : List Held). IsGood Antipode c ks a) (sym none) (good_solution Antipode c [] a tt solves))

pub antipode_answer : (c : Content) (i : ℕ) (v : Value) (r : Result Poly AntipodeError) → ((a : Plain → Weighed) → IsAntipode c.types a → IsValueOf (a (tree_at c i)) v) → IsMade v r →
    IfOk r (λ p. (a : Plain → Weighed) → IsAntipode c.types a → IsPolyOf (a (tree_at c i)) p)
antipode_answer c i v (Ok p) value h = λ a solves. h (a (tree_at c i)) (value a solves)
antipode_answer c i v (Err e) value h = tt

pub antipode_trees : (c : Content) (i : ℕ) (r : Result Poly AntipodeError) → IsPooled c → i < length c.trees → IfOk r IsPoly →
    IfOk r (λ p. (a : Plain → Weighed) → IsAntipode c.types a → IsPolyOf (a (tree_at c i)) p) → IfOk r (λ p. AreOverTrees c.types (terms_of p.terms))
antipode_trees c i (Ok p) pooled l poly value =
    let a = solution c.types tree_terms nothing in
    let solves : IsAntipode c.types a = is_solution c.types tree_terms nothing in
    collected_over (IsTreeOver c.types) p.mass (terms_of p.terms) (a (tree_at c i)).terms poly (value a solves).coefficients (antipode_over c.types a (tree_at c i) solves (typed_at c i pooled l))
antipode_trees c i (Err e) pooled l poly value = tt

pub antipode_refusal : (c : Content) (i : ℕ) (v : Value) (r : Result Poly AntipodeError) → ((a : Plain → Weighed) → IsAntipode c.types a → IsValueOf (a (tree_at c i)) v) →
    IfErr r (λ e. e ≡ CoefficientTooLarge quantity.Antipode) → IsLarge v r → IfErr r (IsAntipodeRefused c.types (tree_at c i))
antipode_refusal c i v (Ok p) value is large = tt
antipode_refusal c i v (Err e) value is large = subst (IsAntipodeRefused c.types (tree_at c i)) (sym is) (λ a solves. large (a (tree_at c i)) (value a solves))
