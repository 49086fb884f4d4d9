-- What is held after 0 was put in for trees that vanish.
use Rattle.std.proofs.Common.{◌≡◌, ◌⊎◌, ◌<◌, ◌≤◌, ℕ, ◌+◌, pos, inl, inr, Bool, true, false, ◌&&◌, cond, is_none, unsigned_abs, List, [], ◌∷◌, ◌++◌, length, take, get_or, Result, Ok, Err, OnOk, IsTrue, ◌↔◌, refl, sym, ap, ◌∙◌, subst, arith, Option, Some, None}
use Rattle.std.specs.List.{All, AllByRecursion}
use Rattle.std.specs.Ordering.{is_eq}
use Rattle.std.proofs.lemmas.Int.{ints}
use Rattle.std.proofs.lemmas.List.{take_more, map-append}
use Rattle.ordered_lists.specs.Members.{IsIn}
use Rattle.ordered_lists.proofs.Members.{all_at, from_map, in_map, member_at}
use Rattle.exact_sums.specs.Saturating.{overflow}
use Rattle.degree_numbers.specs.declared.types.Types.{Types}
use Rattle.degree_numbers.specs.Types.{AreTypes}
use Rattle.plain_trees.specs.Plain.{Plain, tree_order}
use Rattle.plain_trees.specs.Degree.{HasTypes}
use Rattle.plain_trees.specs.Coproducts.{Extracted, extraction_terms}
use Rattle.tree_pool.specs.Content.{Content, IsPooled, tree_at, trees_of}
use Rattle.tree_pool.specs.declared.TreeId.{TreeId}
use Rattle.coefficient_bounds.specs.Bounds.{has_small_coefficients}
use Rattle.gaussian_pairings.specs.Vanishing.{vanishes}
use Rattle.symbol_polys.specs.Polynomials.{PlainTerm, IsPolynomial, size_of}
use Rattle.symbol_polys.specs.declared.poly.Poly.{Poly}
use Rattle.symbol_polys.specs.View.{terms_of}
use Rattle.symbol_polys.proofs.PolyLaws.{no_terms}
use Rattle.antipode_laws.specs.Weighed.{Weighed}
use Rattle.antipode_laws.specs.Constants.{expected, IsConstants}
use Rattle.antipode_laws.specs.Sameness.{AreSameValues}
use Rattle.antipode_laws.proofs.OtherTerms.{all_members}
use Rattle.antipode_laws.proofs.SameValues.{same_self}
use Rattle.antipode_laws.proofs.Solutions.{solution, is_solution}
use Rattle.twisted_antipode.specs.Counts.{HasAllComponents}
use Rattle.twisted_antipode.specs.Held.{Held, weighed_of, with_held, IsHeld, held_over, IsHeldOver, AreHeldOver, IsExtended}
use Rattle.twisted_antipode.specs.Kinds.{AreHeldTyped}
use Rattle.twisted_antipode.specs.Known.{first_held}
use Rattle.twisted_antipode.specs.Values.{nothing_value}
use Rattle.twisted_antipode.proofs.ConstantLaws.{has_first}
use Rattle.twisted_antipode.proofs.Entries.{lacks}
use Rattle.twisted_antipode.proofs.HeldLaws.{over_with}
use Rattle.twisted_antipode.proofs.KnownLaws.{exact, held_first, with_last, last_none, last_some, in_last, in_front}
use Rattle.twisted_antipode.proofs.Pooled.{kept_at}
use Rattle.twisted_antipode.proofs.SolutionLaws.{well_of, each_held}
use Rattle.twisted_antipode.proofs.ValueLaws.{in_range}
use Rattle.vanishing_constants.specs.Zeros.{IsZeroIn, IsKnownZero, AreKnownZeros, with_zero}
use Rattle.vanishing_constants.proofs.VanishingConstants.{vanishing_zero}

-- what is held has grown by constants
pub record IsHeldMore (c : Content) (hs ks : List Held) : Type 0 where
  pub over : AreHeldOver c ks
  pub typed : AreHeldTyped c.types hs → AreHeldTyped c.types ks
  pub extended : IsExtended c hs ks

abbrev pub IsConstantZero : Content → List Held → Plain → Type 0
IsConstantZero c hs t = (a : Plain → Weighed) → IsConstants c.types (held_over c hs) a → a t ≡ nothing_value

zero_over : (c : Content) (i : ℕ) → i < length c.trees → IsHeldOver c (i, nothing_value)
zero_over c i l = record {
  known = l;
  polynomial = no_terms (pos 0) (omega (arith, ints));
  range = omega arith;
  expectations = tt;
}

typed_last : (c : Content) (ks : List Held) (i : ℕ) → AreHeldTyped c.types ks → AreHeldTyped c.types (ks ++ (i, nothing_value) ∷ [])
typed_last c [] i h = (tt, tt)
typed_last c (k ∷ ks) i h = (h.0, typed_last c ks i h.1)

module _ (c : Content) (hs ks : List Held) (i : ℕ) (l : i < length c.trees) (none : first_held ks i ≡ None) (is_zero : IsConstantZero c hs (tree_at c i)) (m : IsHeldMore c hs ks) where
  last : with_held ks i nothing_value ≡ ks ++ (i, nothing_value) ∷ []
  last = with_last ks i nothing_value none

  extended_last : IsExtended c hs (with_held ks i nothing_value)
  extended_last = record {
    kept = λ h j. subst (λ (ls : List Held). IsIn h ls) (sym last) (in_front h (i, nothing_value) ks (m.extended.kept h j));
    added = λ a solves h j.
        elim (in_last h (i, nothing_value) ks (subst (λ (ls : List Held). IsIn h ls) last j)) [
          | inl old ↦ m.extended.added a solves h old
          | inr new ↦ inr (subst (λ (k : Held). AreSameValues k.1 (a (tree_at c k.0))) (sym new) (subst (AreSameValues nothing_value) (sym (is_zero a solves)) (same_self nothing_value)))
        ];
    values = λ a solves t w typed e.
        elim (last_some c ks i nothing_value w t (ap (λ (ls : List Held). held_over c ls t) (sym last) ∙ e)) [
          | inl old ↦ m.extended.values a solves t w typed old
          | inr new ↦ subst (λ (s : Plain). AreSameValues w (a s)) new.0 (subst (λ (u : Weighed). AreSameValues u (a (tree_at c i))) new.1 (subst (AreSameValues nothing_value) (sym (is_zero a solves)) (same_self nothing_value)))
        ];
  }

  more_last : IsHeldMore c hs (with_held ks i nothing_value)
  more_last = record {
    over = over_with c ks i nothing_value m.over (zero_over c i l);
    typed = λ h. subst (AreHeldTyped c.types) (sym last) (typed_last c ks i (m.typed h));
    extended = extended_last;
  }

-- one step
more_with : (c : Content) (hs ks : List Held) (i : ℕ) → i < length c.trees → (vanishes c.types (tree_at c i) ≡ true → IsConstantZero c hs (tree_at c i)) → IsHeldMore c hs ks → IsHeldMore c hs (with_zero c ks i)
more_with c hs ks i l is_zero m =
    (elim (vanishes c.types (tree_at c i)) as (λ b. vanishes c.types (tree_at c i) ≡ b → IsHeldMore c hs (cond (b && is_none (first_held ks i)) (with_held ks i nothing_value) ks)) [
      | true ↦ λ v.
          (elim (first_held ks i) as (λ o. first_held ks i ≡ o → IsHeldMore c hs (cond (is_none o) (with_held ks i nothing_value) ks)) [
            | None ↦ λ e. more_last c hs ks i l e (is_zero v) m
            | Some w ↦ λ e. m
          ]) refl
      | false ↦ λ v. m
    ]) refl

none_before : (c : Content) (ks : List Held) (i : ℕ) (t : Plain) → held_over c (with_zero c ks i) t ≡ None → held_over c ks t ≡ None
none_before c ks i t =
    elim (vanishes c.types (tree_at c i)) as (λ b. held_over c (cond (b && is_none (first_held ks i)) (with_held ks i nothing_value) ks) t ≡ None → held_over c ks t ≡ None) [
      | true ↦
          (elim (first_held ks i) as (λ o. first_held ks i ≡ o → held_over c (cond (is_none o) (with_held ks i nothing_value) ks) t ≡ None → held_over c ks t ≡ None) [
            | None ↦ λ e n. last_none c ks i nothing_value t (ap (λ (ls : List Held). held_over c ls t) (sym (with_last ks i nothing_value e)) ∙ n)
            | Some w ↦ λ e n. n
          ]) refl
      | false ↦ λ n. n
    ]

last_found : (c : Content) (ks : List Held) (i : ℕ) → held_over c (ks ++ (i, nothing_value) ∷ []) (tree_at c i) ≡ None → ⊥
last_found c [] i n = let same = exact.always (tree_at c i) in let found : Some nothing_value ≡ None = sym (ap (λ b. cond b (Some nothing_value) None) same) ∙ n in absurd cc
last_found c (k ∷ ks) i n =
    (elim (is_eq (tree_order (tree_at c k.0) (tree_at c i))) as (λ b. cond b (Some k.1) (held_over c (ks ++ (i, nothing_value) ∷ []) (tree_at c i)) ≡ None → ⊥) [
      | true ↦ λ e. absurd cc
      | false ↦ λ e. last_found c ks i e
    ]) n

found_at : (c : Content) (ks : List Held) (i : ℕ) → IsPooled c → AreHeldOver c ks → i < length c.trees → vanishes c.types (tree_at c i) ≡ true → held_over c (with_zero c ks i) (tree_at c i) ≡ None → ⊥
found_at c ks i pooled over l v n =
    (elim (first_held ks i) as (λ o. first_held ks i ≡ o → held_over c (cond (is_none o) (with_held ks i nothing_value) ks) (tree_at c i) ≡ None → ⊥) [
      | None ↦ λ e k. last_found c ks i (ap (λ (ls : List Held). held_over c ls (tree_at c i)) (sym (with_last ks i nothing_value e)) ∙ k)
      | Some w ↦ λ e k. (let some : Some w ≡ None = sym e ∙ sym (held_first c ks i pooled (well_of c ks over) l) ∙ k in absurd cc)
    ]) refl (ap (λ b. held_over c (cond (b && is_none (first_held ks i)) (with_held ks i nothing_value) ks) (tree_at c i)) (sym v) ∙ n)

-- which trees have the constant 0
pub trees_typed : (c : Content) (ty : Types) (ids : List TreeId) → IsPooled c → c.types ≡ ty → All (λ id. id.0 < length c.trees) ids → AllByRecursion (HasTypes ty) (trees_of c ids)
trees_typed c ty ids pooled e known =
    all_members (HasTypes ty) (trees_of c ids)
    (λ t i.
    let from = from_map (λ (id : TreeId). tree_at c id.0) t ids i in
    let kept = kept_at c from.0.0 pooled (all_at (λ (id : TreeId). id.0 < length c.trees) ids from.0 known from.1) in
    subst (HasTypes ty) from.2 (subst (λ (u : Types). HasTypes u (tree_at c from.0.0)) e kept.known))

abbrev pub SmallAreInRange : Type 0
SmallAreInRange = (ty : Types) (t : Plain) → AreTypes ty → HasTypes ty t → has_small_coefficients ty t ≡ true → AllByRecursion (λ (e : Extracted × ℕ). e.1 < overflow) (extraction_terms ty t)

module _ (small : SmallAreInRange) (ty : Types) (held : Plain → Option Weighed) (types : AreTypes ty) where
  zero_in : (t : Plain) → HasTypes ty t → IsKnownZero ty held t → IsZeroIn ty held t
  zero_in t typed h v = elim (h v) [ inl some ↦ inl some | inr none ↦ inr (none.0, in_range (extraction_terms ty t) (small ty t types typed none.1)) ]

  zeros_in : (ts : List Plain) → AllByRecursion (HasTypes ty) ts → AreKnownZeros ty held ts → AllByRecursion (IsZeroIn ty held) ts
  zeros_in [] typed h = tt
  zeros_in (t ∷ ts) typed h = (zero_in t typed.0 h.0, zeros_in ts typed.1 h.1)

pub constant_zero : SmallAreInRange → (c : Content) (hs : List Held) (ts : List Plain) → IsPooled c → AllByRecursion (HasTypes c.types) ts → HasAllComponents c.types ts → AreKnownZeros c.types (held_over c hs) ts → (t : Plain) →
    IsIn t ts → vanishes c.types t ≡ true → IsConstantZero c hs t
constant_zero small c hs ts pooled typed closed known t i v = λ a solves.
    vanishing_zero c.types (held_over c hs) a ts solves typed closed (zeros_in small c.types (held_over c hs) pooled.types ts typed known) t i v

-- the trees so far
pub record IsZeroSoFar (c : Content) (hs ks : List Held) (ts : List Plain) : Type 0 where
  pub more : IsHeldMore c hs ks
  pub found : (t : Plain) → IsIn t ts → vanishes c.types t ≡ true → held_over c ks t ≡ None → ⊥

pub zero_at_first : (c : Content) (hs : List Held) → AreHeldOver c hs → IsExtended c hs hs → IsZeroSoFar c hs hs []
zero_at_first c hs over itself = record { more = record { over = over; typed = λ h. h; extended = itself }; found = λ t i. absurd i }

in_last_tree : (t s : Plain) (ts : List Plain) → IsIn t (ts ++ s ∷ []) → IsIn t ts ⊎ (s ≡ t)
in_last_tree t s [] (inl e) = inr e
in_last_tree t s [] (inr e) = absurd e
in_last_tree t s (u ∷ ts) (inl e) = inl (inl e)
in_last_tree t s (u ∷ ts) (inr e) = elim (in_last_tree t s ts e) [ inl i ↦ inl (inr i) | inr i ↦ inr i ]

pub trees_next : (c : Content) (ids : List TreeId) (i : ℕ) (d : TreeId) → i < length ids → trees_of c (take (i + 1) ids) ≡ trees_of c (take i ids) ++ tree_at c (get_or ids i d).0 ∷ []
trees_next c ids i d lt = ap (trees_of c) (take_more ids i d lt) ∙ map-append (λ (id : TreeId). tree_at c id.0) (take i ids) (get_or ids i d ∷ [])

zero_with : (c : Content) (hs ks : List Held) (ts : List Plain) (i : ℕ) → IsPooled c → i < length c.trees → (vanishes c.types (tree_at c i) ≡ true → IsConstantZero c hs (tree_at c i)) →
    IsZeroSoFar c hs ks ts → IsZeroSoFar c hs (with_zero c ks i) (ts ++ tree_at c i ∷ [])
zero_with c hs ks ts i pooled l is_zero h =
    record {
      more = more_with c hs ks i l is_zero h.more;
      found = λ t j v n.
          elim (in_last_tree t (tree_at c i) ts j) [
            | inl old ↦ h.found t old v (none_before c ks i t n)
            | inr e ↦ found_at c ks i pooled h.more.over l (ap (vanishes c.types) e ∙ v) (ap (held_over c (with_zero c ks i)) e ∙ n)
          ];
    }

pub zero_next : (c : Content) (hs ks ls : List Held) (ids : List TreeId) (i : ℕ) (id : TreeId) → IsPooled c → i < length ids → id ≡ get_or ids i id → id.0 < length c.trees →
    (vanishes c.types (tree_at c id.0) ≡ true → IsConstantZero c hs (tree_at c id.0)) → ls ≡ with_zero c ks id.0 → IsZeroSoFar c hs ks (trees_of c (take i ids)) → IsZeroSoFar c hs ls (trees_of c (take (i + 1) ids))
zero_next c hs ks ls ids i id pooled lt is l is_zero put h =
    let next : trees_of c (take (i + 1) ids) ≡ trees_of c (take i ids) ++ tree_at c id.0 ∷ [] =
    trees_next c ids i id lt ∙ ap (λ (j : TreeId). trees_of c (take i ids) ++ tree_at c j.0 ∷ []) (sym is) in
    subst (λ (us : List Plain). IsZeroSoFar c hs ls us) (sym next)
    (subst (λ (ms : List Held). IsZeroSoFar c hs ms (trees_of c (take i ids) ++ tree_at c id.0 ∷ [])) (sym put) (zero_with c hs ks (trees_of c (take i ids)) id.0 pooled l is_zero h))

-- what has no mass is 0
no_size : (ts : List PlainTerm) → AllByRecursion (λ t. 0 < unsigned_abs t.coefficient) ts → size_of ts ≤ 0 → ts ≡ []
no_size [] h l = refl
no_size (t ∷ ts) h l = let some = h.0 in absurd (omega (arith, some, l))

pub no_weight : (w : Weighed) → IsPolynomial (pos w.mass) w.terms → w.mass ≡ 0 → w ≡ nothing_value
no_weight w h e =
    let none : w.terms ≡ [] = no_size w.terms h.not_zero (let most = h.within in omega (arith, ints, most, e)) in
    ap (λ n. record { terms = w.terms; mass = n }) e ∙ ap (λ (ts : List PlainTerm). record { terms = ts; mass = 0 }) none

polynomials : (c : Content) (hs : List Held) → AreHeldOver c hs → AllByRecursion (λ (h : Held). IsPolynomial (pos h.1.mass) h.1.terms) hs
polynomials c [] h = tt
polynomials c (k ∷ hs) h = (h.0.polynomial, polynomials c hs h.1)

-- the step of a loop
pub listed_tree : (c : Content) (ids : List TreeId) (i : ℕ) (id : TreeId) → i < length ids → id ≡ get_or ids i id → IsIn (tree_at c id.0) (trees_of c ids)
listed_tree c ids i id lt is = in_map (λ (j : TreeId). tree_at c j.0) id ids (member_at ids i id lt is)

pub known_at : (c : Content) (ids : List TreeId) (i : ℕ) (id : TreeId) → All (λ id. id.0 < length c.trees) ids → i < length ids → id ≡ get_or ids i id → id.0 < length c.trees
known_at c ids i id known lt is = all_at (λ (j : TreeId). j.0 < length c.trees) ids id known (member_at ids i id lt is)

-- the end of the list
pub all_zero : (c : Content) (hs ks : List Held) (ts : List Plain) (t : Plain) → IsZeroSoFar c hs ks ts → HasTypes c.types t → IsIn t ts → vanishes c.types t ≡ true → IsConstantZero c hs t → held_over c ks t ≡ Some nothing_value
all_zero c hs ks ts t h typed i v is_zero =
    (elim (held_over c ks t) as (λ o. held_over c ks t ≡ o → o ≡ Some nothing_value) [
      | None ↦ λ e. absurd (h.found t i v e)
      | Some w ↦ λ e.
          let a = solution c.types (expected c.types) (held_over c hs) in
          let solves : IsConstants c.types (held_over c hs) a = is_solution c.types (expected c.types) (held_over c hs) in
          let same = h.more.extended.values a solves t w typed e in
          let poly = each_held (λ (u : Weighed). IsPolynomial (pos u.mass) u.terms) c ks t w (polynomials c ks h.more.over) e in
          ap (λ (u : Weighed). Some u) (no_weight w poly (same.mass ∙ ap (λ (u : Weighed). u.mass) (is_zero a solves)))
    ]) refl

-- what one call holds
pub held_already : (c : Content) (hs : List Held) (i : ℕ) → IsHeld hs i → hs ≡ with_zero c hs i
held_already c hs i h =
    (elim (first_held hs i) as (λ o. first_held hs i ≡ o → hs ≡ cond (vanishes c.types (tree_at c i) && is_none o) (with_held hs i nothing_value) hs) [
      | None ↦ λ e. absurd (has_first hs i h e)
      | Some w ↦ λ e. elim (vanishes c.types (tree_at c i)) as (λ b. hs ≡ cond (b && false) (with_held hs i nothing_value) hs) [ true ↦ refl | false ↦ refl ]
    ]) refl

pub weighed_zero : (p : Poly) → terms_of p.terms ≡ [] → p.mass ≡ pos 0 → weighed_of p ≡ nothing_value
weighed_zero p terms mass =
    let none : unsigned_abs p.mass ≡ 0 = omega (arith, ints, mass) in
    ap (λ (ts : List PlainTerm). record { terms = ts; mass = unsigned_abs p.mass }) terms ∙ ap (λ n. record { terms = []; mass = n }) none

zero_put : (c : Content) (hs : List Held) (i : ℕ) (p : Poly) → vanishes c.types (tree_at c i) ≡ true → (IsHeld hs i → ⊥) → terms_of p.terms ≡ [] → p.mass ≡ pos 0 → with_held hs i (weighed_of p) ≡ with_zero c hs i
zero_put c hs i p v none terms mass =
    ap (with_held hs i) (weighed_zero p terms mass)
    ∙ ap (λ o. cond (is_none o) (with_held hs i nothing_value) hs) (sym (lacks hs i none))
    ∙ ap (λ b. cond (b && is_none (first_held hs i)) (with_held hs i nothing_value) hs) (sym v)

pub zero_held : {T E : Type 0} (r : Result T E) (c : Content) (hs ks : List Held) (i : ℕ) (p : Poly) → vanishes c.types (tree_at c i) ≡ true → (IsHeld hs i → ⊥) → terms_of p.terms ≡ [] → p.mass ≡ pos 0 →
    OnOk r (ks ≡ with_held hs i (weighed_of p)) → OnOk r (ks ≡ with_zero c hs i)
zero_held (Ok x) c hs ks i p v none terms mass h = h ∙ zero_put c hs i p v none terms mass
zero_held (Err x) c hs ks i p v none terms mass h = tt

-- what is known of a tree
pub held_known : (c : Content) (hs : List Held) (i : ℕ) (b : Bool) (w : Weighed) → IsPooled c → AreHeldOver c hs → i < length c.trees → vanishes c.types (tree_at c i) ≡ true → first_held hs i ≡ Some w →
    IsTrue b ↔ (w ≡ nothing_value) → IsTrue b ↔ IsKnownZero c.types (held_over c hs) (tree_at c i)
held_known c hs i b w pooled over l v e iff =
    let here = held_first c hs i pooled (well_of c hs over) l ∙ e in
    (λ yes u. inl (here ∙ ap (λ (x : Weighed). Some x) (iff.0 yes)), λ known. elim (known v) [ inl some ↦ iff.1 (let same : Some w ≡ Some nothing_value = sym here ∙ some in cc) | inr none ↦ (let no : Some w ≡ None = sym here ∙ none.0 in absurd cc) ])

pub small_known : (c : Content) (hs : List Held) (i : ℕ) (b : Bool) → IsPooled c → AreHeldOver c hs → i < length c.trees → vanishes c.types (tree_at c i) ≡ true → first_held hs i ≡ None →
    b ≡ has_small_coefficients c.types (tree_at c i) → IsTrue b ↔ IsKnownZero c.types (held_over c hs) (tree_at c i)
small_known c hs i b pooled over l v e is =
    let here = held_first c hs i pooled (well_of c hs over) l ∙ e in
    (λ yes u. inr (here, sym is ∙ yes), λ known. elim (known v) [ inl some ↦ (let no : None ≡ Some nothing_value = sym here ∙ some in absurd cc) | inr none ↦ is ∙ none.1 ])
