-- What is held of the rows, one tree after the other.
use Rattle.std.proofs.Common.{◌≡◌, ◌<◌, ◌≤◌, ◌+◌, ◌⊎◌, inl, inr, ℕ, pos, Bool, true, false, cond, List, [], ◌∷◌, ◌++◌, filter, take, drop, length, get_or, is_some, option_map, Option, Some, None, refl, sym, ap, subst, ◌∙◌, arith, take_all, zero, suc, ◌==◌, take-append-drop, drop-cons, Bor, bytes_eq}
use Rattle.std.specs.List.{All, AllByRecursion}
use Rattle.std.specs.Ordering.{is_eq}
use Rattle.std.proofs.lemmas.List.{map_more, map-append, length-map}
use Rattle.ordered_lists.specs.Members.{IsIn}
use Rattle.ordered_lists.proofs.Members.{in_append_left, in_append_right, from_append, all_at, member_at}
use Rattle.degree_numbers.specs.declared.types.Types.{Types}
use Rattle.plain_trees.specs.Plain.{Plain, tree_order}
use Rattle.tree_pool.specs.Content.{Content, IsPooled, tree_at, trees_of}
use Rattle.tree_pool.specs.declared.TreeId.{TreeId}
use Rattle.symbol_polys.specs.Symbols.{PlainSymbol, parameter, variable, noise, tree, expectation}
use Rattle.symbol_polys.specs.Polynomials.{PlainTerm}
use Rattle.antipode_laws.specs.Weighed.{Weighed}
use Rattle.twisted_antipode.specs.Held.{Held, held_over, with_held, IsExpectation, AreOverExpectations, IsHeldOver, AreHeldOver}
use Rattle.twisted_antipode.specs.Kinds.{IsTyped, AreTyped, AreHeldTyped}
use Rattle.twisted_antipode.proofs.HeldLaws.{over_with, held_with}
use Rattle.twisted_antipode.proofs.KnownLaws.{exact}
use Rattle.counterterm_report.specs.Values as report
use Rattle.std.specs.HashMap as hash
use Rattle.std.specs.FinMap.{find}
use Rattle.result_keeper.specs.Kept.{bytes_cmp}
use Rattle.plain_trees.specs.Text.{tree_text}
use Rattle.stored_constants.proofs.Lookups.{AreValues}
use Rattle.stored_constants.specs.declared.error.HoldError.{HoldError}
use Rattle.stored_constants.specs.declared.error.HoldError.TheVariants.{NoValue, Memory}
use Rattle.stored_constants.specs.Rows.{row_for, IsValueText, IsHeldRow, AreHeldRows, IsNoValueRow, IsFirstNoValue}
use Rattle.stored_constants.specs.Held.{IsHoldRefused, IsHeldStep, IsStepRefused}

-- what a value says can be held
module _ (ty : Types) where
  symbol_over : (s : PlainSymbol) → report.IsExpectation ty s → IsExpectation s × IsTyped ty s
  symbol_over (parameter i) h = absurd h
  symbol_over (variable k m) h = absurd h
  symbol_over (noise k) h = absurd h
  symbol_over (tree t) h = absurd h
  symbol_over (expectation t) h = (tt, h)

  symbols_over : (ss : List PlainSymbol) → AllByRecursion (report.IsExpectation ty) ss → AllByRecursion IsExpectation ss × AllByRecursion (IsTyped ty) ss
  symbols_over [] h = (tt, tt)
  symbols_over (s ∷ ss) h = let one = symbol_over s h.0 in let rest = symbols_over ss h.1 in ((one.0, rest.0), (one.1, rest.1))

  terms_over : (ts : List PlainTerm) →
      AllByRecursion (λ (t : PlainTerm). AllByRecursion (report.IsExpectation ty) t.symbols) ts →
      AreOverExpectations ts × AreTyped ty ts
  terms_over [] h = (tt, tt)
  terms_over (t ∷ ts) h = let one = symbols_over t.symbols h.0 in let rest = terms_over ts h.1 in ((one.0, rest.0), (one.1, rest.1))

one_over : (c : Content) (i : ℕ) (w : Weighed) (value : List ℕ) → i < length c.trees → IsValueText c.types w value → IsHeldOver c (i, w)
one_over c i w value known h = record { known = known; polynomial = h.is_value.polynomial; range = h.range; expectations = (terms_over c.types w.terms h.is_value.expectations).0 }

typed_with : (ty : Types) (hs : List Held) (i : ℕ) (w : Weighed) → AreHeldTyped ty hs → AreTyped ty w.terms → AreHeldTyped ty (with_held hs i w)
typed_with ty [] i w h one = (one, tt)
typed_with ty (k ∷ hs) i w h one = elim (i == k.0) as (λ b. AreHeldTyped ty (cond b ((k.0, w) ∷ hs) (k ∷ with_held hs i w))) [ true ↦ (one, h.1) | false ↦ (h.0, typed_with ty hs i w h.1 one) ]

module _ (c : Content) (pooled : IsPooled c) where
  step_over : (row : Option (List ℕ)) (i : ℕ) (old new : List Held) → i < length c.trees → AreHeldOver c old → IsHeldStep c row i old new → AreHeldOver c new
  step_over None i old new known over step = subst (AreHeldOver c) (sym step) over
  step_over (Some value) i old new known over step = subst (AreHeldOver c) (sym step.2) (over_with c old i step.0 over (one_over c i step.0 value known step.1))

  step_typed : (row : Option (List ℕ)) (i : ℕ) (old new : List Held) → AreHeldTyped c.types old → IsHeldStep c row i old new → AreHeldTyped c.types new
  step_typed None i old new typed step = subst (AreHeldTyped c.types) (sym step) typed
  step_typed (Some value) i old new typed step =
      subst (AreHeldTyped c.types) (sym step.2) (typed_with c.types old i step.0 typed (terms_over c.types step.0.terms step.1.is_value.expectations).1)

-- one row more
module _ (ty : Types) (rows : List (List ℕ × List ℕ)) where
  -- a tree without a row has nothing held
  pub none_there : (ts : List Plain) (held : Plain → Option Weighed) (t : Plain) → AreHeldRows ty rows ts held → row_for ty rows t ≡ None → held t ≡ None
  none_there ts held t h none =
      (elim (held t) as (λ (x : Option Weighed). held t ≡ x → x ≡ None) [
        | None ↦ λ e. refl
        | Some w ↦ λ e.
            let listed : IsIn t ts → ⊥ = λ i. (let is : held t ≡ None = subst (λ (r : Option (List ℕ)). IsHeldRow ty r (held t)) none (h.listed t i) in let both : Some w ≡ None = sym e ∙ is in absurd cc) in
            let both : Some w ≡ None = sym e ∙ h.others t listed in absurd cc
      ]) refl

  one_of : (s t : Plain) (ts : List Plain) → IsIn s (ts ++ t ∷ []) → IsIn s ts ⊎ (t ≡ s)
  one_of s t ts i = elim (from_append s ts (t ∷ []) i) [ inl here ↦ inl here | inr (inl e) ↦ inr e | inr (inr nothing) ↦ absurd nothing ]

  same_rows : (ts : List Plain) (t : Plain) (held : Plain → Option Weighed) →
      AreHeldRows ty rows ts held → row_for ty rows t ≡ None →
      AreHeldRows ty rows (ts ++ t ∷ []) held
  same_rows ts t held h none = record {
    listed = λ s i. elim (one_of s t ts i) [
      | inl here ↦ h.listed s here
      | inr e ↦ subst (λ (u : Plain). IsHeldRow ty (row_for ty rows u) (held u)) e (subst (λ (r : Option (List ℕ)). IsHeldRow ty r (held t)) (sym none) (none_there ts held t h none))
    ];
    others = λ s out. h.others s (λ i. out (in_append_left s ts (t ∷ []) i));
  }

  more_rows : (ts : List Plain) (t : Plain) (held more : Plain → Option Weighed) (w : Weighed) (value : List ℕ) →
      AreHeldRows ty rows ts held → row_for ty rows t ≡ Some value → IsValueText ty w value →
      ((s : Plain) → more s ≡ cond (is_eq (tree_order t s)) (Some w) (held s)) → AreHeldRows ty rows (ts ++ t ∷ []) more
  more_rows ts t held more w value h row text is = record { listed = listed; others = others }
    where
      here : (s : Plain) → t ≡ s → IsHeldRow ty (row_for ty rows s) (more s)
      here s e =
          subst (λ (u : Plain). IsHeldRow ty (row_for ty rows u) (more u)) e
          (subst (λ (r : Option (List ℕ)). IsHeldRow ty r (more t)) (sym row)
          (w, is t ∙ ap (λ b. cond b (Some w) (held t)) (exact.always t), text))

      listed_by : (s : Plain) (b : Bool) → is_eq (tree_order t s) ≡ b → IsIn s ts ⊎ (t ≡ s) → IsHeldRow ty (row_for ty rows s) (more s)
      listed_by s true e i = here s (exact.only t s e)
      listed_by s false e (inl i) = subst (λ (x : Option Weighed). IsHeldRow ty (row_for ty rows s) x) (sym (is s ∙ ap (λ b. cond b (Some w) (held s)) e)) (h.listed s i)
      listed_by s false e (inr same) = here s same

      listed : (s : Plain) → IsIn s (ts ++ t ∷ []) → IsHeldRow ty (row_for ty rows s) (more s)
      listed s i = listed_by s (is_eq (tree_order t s)) refl (one_of s t ts i)

      others_by : (s : Plain) (b : Bool) → is_eq (tree_order t s) ≡ b → (IsIn s (ts ++ t ∷ []) → ⊥) → more s ≡ None
      others_by s true e out = absurd (out (in_append_right s ts (t ∷ []) (inl (exact.only t s e))))
      others_by s false e out = is s ∙ ap (λ b. cond b (Some w) (held s)) e ∙ h.others s (λ i. out (in_append_left s ts (t ∷ []) i))

      others : (s : Plain) → (IsIn s (ts ++ t ∷ []) → ⊥) → more s ≡ None
      others s out = others_by s (is_eq (tree_order t s)) refl out

  -- what is held is read
  pub held_read : (row : Option (List ℕ)) (h : Option Weighed) → IsHeldRow ty row h → IsNoValueRow ty row → ⊥
  held_read None h is unread = unread
  held_read (Some value) h is unread = unread (pos is.0.mass) is.0.terms is.2.is_value is.2.range is.2.text

  first_after : (ts us : List Plain) (t : Plain) (held : Plain → Option Weighed) →
      ((s : Plain) → IsIn s ts → IsHeldRow ty (row_for ty rows s) (held s)) →
      IsNoValueRow ty (row_for ty rows t) →
      IsFirstNoValue ty rows (ts ++ t ∷ us) t
  first_after [] us t held listed unread = inl (refl, unread)
  first_after (s ∷ ts) us t held listed unread = inr (held_read (row_for ty rows s) (held s) (listed s (inl refl)), first_after ts us t held (λ u i. listed u (inr i)) unread)

  -- as many rows as trees that are held
  count_held : (ts : List Plain) (held : Plain → Option Weighed) → ((t : Plain) → IsIn t ts → IsHeldRow ty (row_for ty rows t) (held t)) →
      length (filter (λ t. is_some (row_for ty rows t)) ts) ≡ length (filter (λ t. is_some (held t)) ts)
  count_held [] held listed = refl
  count_held (t ∷ ts) held listed = counted (is_some (row_for ty rows t)) (is_some (held t)) (alike (row_for ty rows t) (held t) (listed t (inl refl))) (count_held ts held (λ s i. listed s (inr i)))
    where
      alike : (row : Option (List ℕ)) (h : Option Weighed) → IsHeldRow ty row h → is_some row ≡ is_some h
      alike None h is = ap is_some (sym is)
      alike (Some value) h is = ap is_some (sym is.1)

      counted : (a b : Bool) → a ≡ b → length (filter (λ s. is_some (row_for ty rows s)) ts) ≡ length (filter (λ s. is_some (held s)) ts) →
          length (cond a (t ∷ filter (λ s. is_some (row_for ty rows s)) ts) (filter (λ s. is_some (row_for ty rows s)) ts)) ≡ length (cond b (t ∷ filter (λ s. is_some (held s)) ts) (filter (λ s. is_some (held s)) ts))
      counted true true e rest = ap (λ n. suc n) rest
      counted true false e rest = absurd cc
      counted false true e rest = absurd cc
      counted false false e rest = rest

  pub count_more : (ts : List Plain) (t : Plain) →
      length (filter (λ s. is_some (row_for ty rows s)) (ts ++ t ∷ [])) ≡ length (filter (λ s. is_some (row_for ty rows s)) ts) + cond (is_some (row_for ty rows t)) 1 0
  count_more [] t = elim (is_some (row_for ty rows t)) as (λ b. length (cond b (t ∷ []) []) ≡ 0 + cond b 1 0) [ true ↦ refl | false ↦ refl ]
  count_more (s ∷ ts) t =
      let rest = count_more ts t in
      elim (is_some (row_for ty rows s)) as (λ b. length (cond b (s ∷ filter (λ u. is_some (row_for ty rows u)) (ts ++ t ∷ [])) (filter (λ u. is_some (row_for ty rows u)) (ts ++ t ∷ []))) ≡
      length (cond b (s ∷ filter (λ u. is_some (row_for ty rows u)) ts) (filter (λ u. is_some (row_for ty rows u)) ts)) + cond (is_some (row_for ty rows t)) 1 0) [ true ↦ omega (arith, rest) | false ↦ rest ]

  pub count_most : (ts : List Plain) → length (filter (λ s. is_some (row_for ty rows s)) ts) ≤ length ts
  count_most [] = omega arith
  count_most (t ∷ ts) =
      let rest = count_most ts in
      elim (is_some (row_for ty rows t)) as (λ b. length (cond b (t ∷ filter (λ u. is_some (row_for ty rows u)) ts) (filter (λ u. is_some (row_for ty rows u)) ts)) ≤ length (t ∷ ts)) [ true ↦ omega (arith, rest) | false ↦ omega (arith, rest) ]

-- the loop
pub record IsHeldSoFar (c : Content) (rows : List (List ℕ × List ℕ)) (ts : List Plain) (hs : List Held) (count : ℕ) : Type 0 where
  pub over : AreHeldOver c hs
  pub typed : AreHeldTyped c.types hs
  pub held : AreHeldRows c.types rows ts (held_over c hs)
  pub counted : count ≡ length (filter (λ t. is_some (row_for c.types rows t)) ts)

module _ (c : Content) (rows : List (List ℕ × List ℕ)) where
  pub at_start : (hs : List Held) → hs ≡ [] → IsHeldSoFar c rows [] hs 0
  at_start [] e = record { over = tt; typed = tt; held = record { listed = λ t i. absurd i; others = λ t out. refl }; counted = refl }
  at_start (h ∷ hs) e = absurd cc

  held_step : (ts : List Plain) (row : Option (List ℕ)) (i : ℕ) (old new : List Held) → IsPooled c →
      i < length c.trees → AreHeldOver c old → AreHeldRows c.types rows ts (held_over c old) →
      row_for c.types rows (tree_at c i) ≡ row → IsHeldStep c row i old new → AreHeldRows c.types rows (ts ++ tree_at c i ∷ []) (held_over c new)
  held_step ts None i old new pooled known over h row step =
      subst (λ (hs : List Held). AreHeldRows c.types rows (ts ++ tree_at c i ∷ []) (held_over c hs)) (sym step) (same_rows c.types rows ts (tree_at c i) (held_over c old) h row)
  held_step ts (Some value) i old new pooled known over h row step =
      subst (λ (hs : List Held). AreHeldRows c.types rows (ts ++ tree_at c i ∷ []) (held_over c hs)) (sym step.2)
      (more_rows c.types rows ts (tree_at c i) (held_over c old) (held_over c (with_held old i step.0)) step.0 value h row step.1 (λ s. held_with c old i step.0 s pooled over known))

  trees_more : (ids : List TreeId) (i : ℕ) (id : TreeId) → i < length ids → id ≡ get_or ids i id →
      trees_of c (take (i + 1) ids) ≡ trees_of c (take i ids) ++ tree_at c id.0 ∷ []
  trees_more ids i id below is = map_more (λ (j : TreeId). tree_at c j.0) ids i id below ∙ ap (λ (j : TreeId). trees_of c (take i ids) ++ tree_at c j.0 ∷ []) (sym is)

  pub next_held : (ids : List TreeId) (i : ℕ) (id : TreeId) (row : Option (List ℕ)) (old new : List Held) (count next : ℕ) →
      IsPooled c → All (λ (j : TreeId). j.0 < length c.trees) ids → i < length ids →
      id ≡ get_or ids i id →
      row_for c.types rows (tree_at c id.0) ≡ row → IsHeldStep c row id.0 old new → next ≡ count + cond (is_some row) 1 0 → IsHeldSoFar c rows (trees_of c (take i ids)) old count →
      IsHeldSoFar c rows (trees_of c (take (i + 1) ids)) new next
  next_held ids i id row old new count next pooled all below is here step more h =
      let known : id.0 < length c.trees = all_at (λ (j : TreeId). j.0 < length c.trees) ids id all (member_at ids i id below is) in
      let has = ap is_some here in
      let counts = count_more c.types rows (trees_of c (take i ids)) (tree_at c id.0) in
      subst (λ (ts : List Plain). IsHeldSoFar c rows ts new next) (sym (trees_more ids i id below is))
      (record {
        over = step_over c pooled row id.0 old new known h.over step;
        typed = step_typed c pooled row id.0 old new h.typed step;
        held = held_step (trees_of c (take i ids)) row id.0 old new pooled known h.over h.held here step;
        counted = more ∙ ap (λ n. n + cond (is_some row) 1 0) h.counted ∙ ap (λ b. length (filter (λ t. is_some (row_for c.types rows t)) (trees_of c (take i ids))) + cond b 1 0) (sym has) ∙ sym counts;
      })

  pub all_held : (ids : List TreeId) (i : ℕ) (hs : List Held) (count : ℕ) → length ids ≤ i →
      IsHeldSoFar c rows (trees_of c (take i ids)) hs count →
      IsHeldSoFar c rows (trees_of c ids) hs count
  all_held ids i hs count end h = subst (λ (js : List TreeId). IsHeldSoFar c rows (trees_of c js) hs count) (take_all i ids end) h

  pub held_count : (ts : List Plain) (hs : List Held) (count : ℕ) → IsHeldSoFar c rows ts hs count →
      count ≡ length (filter (λ t. is_some (held_over c hs t)) ts)
  held_count ts hs count h = h.counted ∙ count_held c.types rows ts (held_over c hs) h.held.listed

  taken : (ids : List TreeId) (i : ℕ) → length (take i ids) ≤ length ids
  taken ids zero = omega arith
  taken [] (suc i) = omega arith
  taken (id ∷ ids) (suc i) = let rest = taken ids i in omega (arith, rest)

  pub count_few : (ids : List TreeId) (i : ℕ) (hs : List Held) (count : ℕ) → IsHeldSoFar c rows (trees_of c (take i ids)) hs count → count ≤ length ids
  count_few ids i hs count h =
      let most = count_most c.types rows (trees_of c (take i ids)) in
      let mapped = length-map (take i ids) (λ (j : TreeId). tree_at c j.0) in
      let few = taken ids i in
      omega (arith, most, h.counted, mapped, few)

  -- the first row without a value
  rest_after : (ids : List TreeId) (i : ℕ) (id : TreeId) → i < length ids → id ≡ get_or ids i id →
      trees_of c ids ≡ trees_of c (take i ids) ++ tree_at c id.0 ∷ trees_of c (drop (suc i) ids)
  rest_after ids i id below is =
      ap (λ js. trees_of c js) (sym (take-append-drop i ids) ∙ ap (λ js. take i ids ++ js) (drop-cons ids i id below ∙ ap (λ (j : TreeId). j ∷ drop (suc i) ids) (sym is)))
      ∙ map-append (λ (j : TreeId). tree_at c j.0) (take i ids) (id ∷ drop (suc i) ids)

  pub step_refused : (ids : List TreeId) (i : ℕ) (id : TreeId) (row : Option (List ℕ)) (hs : List Held) (count : ℕ) (e : HoldError) →
      All (λ (j : TreeId). j.0 < length c.trees) ids → i < length ids → id ≡ get_or ids i id →
      row_for c.types rows (tree_at c id.0) ≡ row → IsHeldSoFar c rows (trees_of c (take i ids)) hs count → IsStepRefused c row id e → IsHoldRefused c rows ids e
  step_refused ids i id row hs count Memory all below is here h refused = tt
  step_refused ids i id row hs count (NoValue named) all below is here h refused =
      let known : id.0 < length c.trees = all_at (λ (j : TreeId). j.0 < length c.trees) ids id all (member_at ids i id below is) in
      let unread = subst (IsNoValueRow c.types) (sym here) refused.1 in
      let first = first_after c.types rows (trees_of c (take i ids)) (trees_of c (drop (suc i) ids)) (tree_at c id.0) (held_over c hs) h.held.listed unread in
      subst (λ (j : TreeId). (j.0 < length c.trees) × IsFirstNoValue c.types rows (trees_of c ids) (tree_at c j.0)) (sym refused.0)
      (known, subst (λ (ts : List Plain). IsFirstNoValue c.types rows ts (tree_at c id.0)) (sym (rest_after ids i id below is)) first)

-- the row that is found
pub row_found : {S : Type 0} (ty : Types) (m : hash.HashMap (Bor (List ℕ)) (Bor (List ℕ)) S) (rows : List (List ℕ × List ℕ)) (key : List ℕ) (t : Plain) (r : Option (Bor (List ℕ))) →
    AreValues m rows → key ≡ tree_text ty t →
    r ≡ hash.get_by (λ k. bytes_eq key k.now) m → row_for ty rows t ≡ option_map (λ v. v.now) r
row_found ty m rows key t r values text is = ap (λ q. find bytes_cmp q rows) (sym text) ∙ (sym (values key) ∙ ap (option_map (λ v. v.now)) (sym is))

pub step_count : (count next : ℕ) (b : Bool) (r : Option (Bor (List ℕ))) → b ≡ is_some r →
    next ≡ count + cond b 1 0 → next ≡ count + cond (is_some (option_map (λ v. v.now) r)) 1 0
step_count count next b None is more = more ∙ ap (λ x. count + cond x 1 0) is
step_count count next b (Some v) is more = more ∙ ap (λ x. count + cond x 1 0) is
