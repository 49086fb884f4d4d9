-- What is put at the place of its key, or taken from it.
use Rattle.std.proofs.Common.{◌≡◌, ℕ, zero, suc, ◌+◌, ◌<◌, ◌≤◌, List, [], ◌∷◌, ◌++◌, map, filter, length, get_or, set, Bool, true, false, not, cond, Some, None, Option, is_some, refl, sym, ap, subst, ◌∙◌, arith, Ordering}
use Rattle.std.specs.Option.{MatchOption}
use Rattle.std.specs.Bool.{⊤}
use Rattle.std.specs.Ordering.{eq_by_cmp, is_eq}
use Rattle.std.specs.Cmp.{IsTotalOrder, eq_by_cmp_equiv, Equal-is, alike_right, tied_itself}
use Rattle.std.specs.List.{AllByRecursion, IsDistinct, position_from}
use Rattle.std.specs.FinMap.{insert, remove, get, contains_key, from_entries, find, IsAntisymmetric, get-from_entries, get-insert, get-remove, same_map, from_entries_push}
use Rattle.std.specs.FinMap.Entries.{find-where_key}
use Rattle.std.proofs.lemmas.List.{map-set, map-append}
use Rattle.std.proofs.Math.Seq.{map-set_same}
use Rattle.std.proofs.lemmas.List.Sorted.{IsPermutation-sym, IsPermutation-to_front}
use Rattle.std.proofs.lemmas.Map.Keys.{IsDistinct-IsPermutation, IsDistinct-cons}
use Rattle.std.proofs.lemmas.Map.Made.{IsDistinct-keys_filter}
use Rattle.result_keeper.specs.Entries.{AreApart, place_of, put_at}

-- a test that is repeated
shadowed : {A : Type 0} (b : Bool) (x y z : A) → cond b x z ≡ cond b x (cond b y z)
shadowed true x y z = refl
shadowed false x y z = refl

-- two tests of which at most one passes
swapped : {A : Type 0} (a b : Bool) (x y z : A) → (a ≡ true → b ≡ true → ⊥) → cond a x (cond b y z) ≡ cond b y (cond a x z)
swapped true true x y z apart = absurd (apart refl refl)
swapped true false x y z apart = refl
swapped false b x y z apart = refl

turned : {A : Type 0} (b : Bool) (x y : A) → cond (not b) x y ≡ cond b y x
turned true x y = refl
turned false x y = refl

tied : {K : Type 0} (R : K → K → Ordering) → IsAntisymmetric R → (q x : K) → eq_by_cmp R q x ≡ true → q ≡ x
tied R exact q x t = exact q x ((Equal-is (R q x)).0 t)

module _ {K X : Type 0} (R : K → K → Ordering) where
  abbrev at_key : K → K × X → Bool
  at_key q e = eq_by_cmp R q e.0

  at_least : (q : K) (j p : ℕ) (es : List (K × X)) → position_from (at_key q) j es ≡ Some p → j ≤ p
  at_least q j p [] h = absurd cc
  at_least q j p (e ∷ es) h =
      (elim (eq_by_cmp R q e.0) as (λ b. cond b (Some j) (position_from (at_key q) (j + 1) es) ≡ Some p → j ≤ p) [
        | true ↦ λ g. let same : j ≡ p = cc in omega arith
        | false ↦ λ g. let later : j + 1 ≤ p = at_least q (j + 1) p es g in omega arith
      ]) h

  -- the place is below the end
  below_end : (q : K) (j p : ℕ) (es : List (K × X)) → position_from (at_key q) j es ≡ Some p → p < j + length es
  below_end q j p [] h = absurd cc
  below_end q j p (e ∷ es) h =
      (elim (eq_by_cmp R q e.0) as (λ b. cond b (Some j) (position_from (at_key q) (j + 1) es) ≡ Some p → p < j + suc (length es)) [
        | true ↦ λ g. let same : j ≡ p = cc in omega arith
        | false ↦ λ g. let later : p < (j + 1) + length es = below_end q (j + 1) p es g in omega arith
      ]) h

  pub place_below : (q : K) (es : List (K × X)) → MatchOption (place_of R q es) ⊤ (λ i. i < length es)
  place_below q es =
      (elim (place_of R q es) as (λ (p : Option ℕ). place_of R q es ≡ p → MatchOption p ⊤ (λ i. i < length es)) [
        | None ↦ λ h. tt
        | Some i ↦ λ h. let below : i < 0 + length es = below_end q 0 i es h in omega arith
      ]) refl

  none_found : (q : K) (j : ℕ) (es : List (K × X)) → position_from (at_key q) j es ≡ None → find R q es ≡ None
  none_found q j [] h = refl
  none_found q j (e ∷ es) h =
      (elim (eq_by_cmp R q e.0) as (λ b. cond b (Some j) (position_from (at_key q) (j + 1) es) ≡ None → cond b (Some e.1) (find R q es) ≡ None) [
        | true ↦ λ g. absurd (let m : Some j ≡ None = g in cc)
        | false ↦ λ g. none_found q (j + 1) es g
      ]) h

  -- what stands at the place
  found : (q : K) (j i : ℕ) (d : K × X) (es : List (K × X)) → position_from (at_key q) j es ≡ Some (j + i) → find R q es ≡ Some (get_or es i d).1
  found q j i d [] h = absurd cc
  found q j zero d (e ∷ es) h =
      (elim (eq_by_cmp R q e.0) as (λ b. cond b (Some j) (position_from (at_key q) (j + 1) es) ≡ Some (j + 0) → cond b (Some e.1) (find R q es) ≡ Some e.1) [
        | true ↦ λ g. refl
        | false ↦ λ g. absurd (let later : j + 1 ≤ j + 0 = at_least q (j + 1) (j + 0) es g in omega arith)
      ]) h
  found q j (suc i) d (e ∷ es) h =
      (elim (eq_by_cmp R q e.0) as (λ b. cond b (Some j) (position_from (at_key q) (j + 1) es) ≡ Some (j + suc i) → cond b (Some e.1) (find R q es) ≡ Some (get_or es i d).1) [
        | true ↦ λ g. absurd (let same : j ≡ j + suc i = cc in omega arith)
        | false ↦ λ g. found q (j + 1) i d es (g ∙ ap (λ (n : ℕ). Some n) (omega arith))
      ]) h

  key_at : IsTotalOrder R → IsAntisymmetric R → (q : K) (j i : ℕ) (d : K × X) (es : List (K × X)) →
      position_from (at_key q) j es ≡ Some (j + i) → q ≡ (get_or es i d).0
  key_at o exact q j i d [] h = absurd cc
  key_at o exact q j zero d (e ∷ es) h =
      (elim (eq_by_cmp R q e.0) as (λ b. eq_by_cmp R q e.0 ≡ b → cond b (Some j) (position_from (at_key q) (j + 1) es) ≡ Some (j + 0) → q ≡ e.0) [
        | true ↦ λ t g. exact q e.0 ((Equal-is (R q e.0)).0 t)
        | false ↦ λ t g. absurd (let later : j + 1 ≤ j + 0 = at_least q (j + 1) (j + 0) es g in omega arith)
      ]) refl h
  key_at o exact q j (suc i) d (e ∷ es) h =
      (elim (eq_by_cmp R q e.0) as (λ b. cond b (Some j) (position_from (at_key q) (j + 1) es) ≡ Some (j + suc i) → q ≡ (get_or es i d).0) [
        | true ↦ λ g. absurd (let same : j ≡ j + suc i = cc in omega arith)
        | false ↦ λ g. key_at o exact q (j + 1) i d es (g ∙ ap (λ (n : ℕ). Some n) (omega arith))
      ]) h

  module _ (o : IsTotalOrder R) (exact : IsAntisymmetric R) where
    -- the look-ups after the entry at a place was replaced by another of the key
    find-set : (q r : K) (j i : ℕ) (v : X) (es : List (K × X)) → position_from (at_key q) j es ≡ Some (j + i) → find R r (set es i (q, v)) ≡ cond (eq_by_cmp R r q) (Some v) (find R r es)
    find-set q r j i v [] h = absurd cc
    find-set q r j zero v (e ∷ es) h =
        (elim (eq_by_cmp R q e.0) as (λ b. eq_by_cmp R q e.0 ≡ b → cond b (Some j) (position_from (at_key q) (j + 1) es) ≡ Some (j + 0) → cond (eq_by_cmp R r q) (Some v) (find R r es) ≡ cond (eq_by_cmp R r q) (Some v) (cond (eq_by_cmp R r e.0) (Some e.1) (find R r es))) [
          | true ↦ λ t g. subst (λ (k : K). cond (eq_by_cmp R r q) (Some v) (find R r es) ≡ cond (eq_by_cmp R r q) (Some v) (cond (eq_by_cmp R r k) (Some e.1) (find R r es))) (tied R exact q e.0 t) (shadowed (eq_by_cmp R r q) (Some v) (Some e.1) (find R r es))
          | false ↦ λ t g. absurd (let later : j + 1 ≤ j + 0 = at_least q (j + 1) (j + 0) es g in omega arith)
        ]) refl h
    find-set q r j (suc i) v (e ∷ es) h =
        (elim (eq_by_cmp R q e.0) as (λ b. eq_by_cmp R q e.0 ≡ b → cond b (Some j) (position_from (at_key q) (j + 1) es) ≡ Some (j + suc i) → cond (eq_by_cmp R r e.0) (Some e.1) (find R r (set es i (q, v))) ≡ cond (eq_by_cmp R r q) (Some v) (cond (eq_by_cmp R r e.0) (Some e.1) (find R r es))) [
          | true ↦ λ t g. absurd (let same : j ≡ j + suc i = cc in omega arith)
          | false ↦ λ t g.
              let rest = find-set q r (j + 1) i v es (g ∙ ap (λ (n : ℕ). Some n) (omega arith)) in
              ap (λ (x : Option X). cond (eq_by_cmp R r e.0) (Some e.1) x) rest
              ∙ swapped (eq_by_cmp R r e.0) (eq_by_cmp R r q) (Some e.1) (Some v) (find R r es) (λ a b.
              let one : r ≡ e.0 = tied R exact r e.0 a in
              let other : r ≡ q = tied R exact r q b in
              let itself : eq_by_cmp R q q ≡ true = ap is_eq (tied_itself o q) in
              let between : eq_by_cmp R q e.0 ≡ eq_by_cmp R q q = ap (eq_by_cmp R q) (sym one ∙ other) in
              cc)
        ]) refl h

    put_is_insert : (q : K) (v : X) (es : List (K × X)) (p : Option ℕ) → place_of R q es ≡ p → from_entries {R = R} (put_at p (q, v) es) ≡ insert (from_entries es) q v
    put_is_insert q v es None h = from_entries_push o exact es q v (none_found q 0 es h)
    put_is_insert q v es (Some i) h =
        let at : position_from (at_key q) 0 es ≡ Some (0 + i) = h ∙ ap (λ (n : ℕ). Some n) (omega arith) in
        same_map o exact (from_entries (set es i (q, v))) (insert (from_entries es) q v) (λ r.
        get-from_entries o (set es i (q, v)) r
        ∙ find-set q r 0 i v es at
        ∙ ap (λ (x : Option X). cond (eq_by_cmp R r q) (Some v) x) (sym (get-from_entries o es r))
        ∙ sym (get-insert o (from_entries es) q v r))

    none_tied : (q : K) (j : ℕ) (es : List (K × X)) → position_from (at_key q) j es ≡ None → AllByRecursion (λ y. eq_by_cmp R q y ≡ false) (map (λ e. e.0) es)
    none_tied q j [] h = tt
    none_tied q j (e ∷ es) h =
        (elim (eq_by_cmp R q e.0) as (λ b. eq_by_cmp R q e.0 ≡ b → cond b (Some j) (position_from (at_key q) (j + 1) es) ≡ None → AllByRecursion (λ y. eq_by_cmp R q y ≡ false) (e.0 ∷ map (λ e. e.0) es)) [
          | true ↦ λ t g. absurd (let m : Some j ≡ None = g in cc)
          | false ↦ λ t g. (t, none_tied q (j + 1) es g)
        ]) refl h

    put_apart : (q : K) (v : X) (es : List (K × X)) (p : Option ℕ) → place_of R q es ≡ p → AreApart R es → AreApart R (put_at p (q, v) es)
    put_apart q v es None h apart =
        let ks = map (λ (e : K × X). e.0) es in
        subst (IsDistinct (eq_by_cmp R)) (sym (map-append (λ (e : K × X). e.0) es ((q, v) ∷ [])))
        (IsDistinct-IsPermutation (eq_by_cmp R) (eq_by_cmp_equiv o).symm (q ∷ ks) (ks ++ q ∷ []) (IsPermutation-sym (ks ++ q ∷ []) (q ∷ ks) (IsPermutation-to_front ks q)) (IsDistinct-cons (eq_by_cmp R) q ks (none_tied q 0 es h) apart))
    put_apart q v es (Some i) h apart =
        let at : position_from (at_key q) 0 es ≡ Some (0 + i) = h ∙ ap (λ (n : ℕ). Some n) (omega arith) in
        subst (IsDistinct (eq_by_cmp R)) (sym (map-set_same (λ (e : K × X). e.0) es i (q, v) (q, v) (key_at o exact q 0 i (q, v) es at))) apart

    pub is_some-place : (q : K) (es : List (K × X)) → is_some (place_of R q es) ≡ contains_key (from_entries {R = R} es) q
    is_some-place q es = go q 0 es ∙ ap is_some (sym (get-from_entries o es q))
      where
        go : (q : K) (j : ℕ) (es : List (K × X)) → is_some (position_from (at_key q) j es) ≡ is_some (find R q es)
        go q j [] = refl
        go q j (e ∷ es) = elim (eq_by_cmp R q e.0) as (λ b. is_some (cond b (Some j) (position_from (at_key q) (j + 1) es)) ≡ is_some (cond b (Some e.1) (find R q es))) [ true ↦ refl | false ↦ go q (j + 1) es ]

    pub get-place : (q : K) (es : List (K × X)) (i : ℕ) (d : K × X) → place_of R q es ≡ Some i → get (from_entries {R = R} es) q ≡ Some (get_or es i d).1
    get-place q es i d h = get-from_entries o es q ∙ found q 0 i d es (h ∙ ap (λ (n : ℕ). Some n) (omega arith))

    pub get-no_place : (q : K) (es : List (K × X)) → place_of R q es ≡ None → get (from_entries {R = R} es) q ≡ None
    get-no_place q es h = get-from_entries o es q ∙ none_found q 0 es h

    module _ {P : Type 0} (f : P → K × X) where
      map-put_at : (p : Option ℕ) (y : P) (xs : List P) → map f (put_at p y xs) ≡ put_at p (f y) (map f xs)
      map-put_at None y xs = map-append f xs (y ∷ [])
      map-put_at (Some i) y xs = map-set f xs i y

      pub puts : (xs : List P) (y : P) → from_entries {R = R} (map f (put_at (place_of R (f y).0 (map f xs)) y xs)) ≡ insert (from_entries (map f xs)) (f y).0 (f y).1
      puts xs y = ap (λ (es : List (K × X)). from_entries {R = R} es) (map-put_at (place_of R (f y).0 (map f xs)) y xs) ∙ put_is_insert (f y).0 (f y).1 (map f xs) (place_of R (f y).0 (map f xs)) refl

      pub puts_apart : (xs : List P) (y : P) → AreApart R (map f xs) → AreApart R (map f (put_at (place_of R (f y).0 (map f xs)) y xs))
      puts_apart xs y apart = subst (AreApart R) (sym (map-put_at (place_of R (f y).0 (map f xs)) y xs)) (put_apart (f y).0 (f y).1 (map f xs) (place_of R (f y).0 (map f xs)) refl apart)

      abbrev others : K → P → Bool
      others q x = not (eq_by_cmp R q (f x).0)

      map-filter : (q : K) (xs : List P) → map f (filter (others q) xs) ≡ filter (λ e. not (eq_by_cmp R q e.0)) (map f xs)
      map-filter q [] = refl
      map-filter q (x ∷ xs) = elim (not (eq_by_cmp R q (f x).0)) as (λ b. map f (cond b (x ∷ filter (others q) xs) (filter (others q) xs)) ≡ cond b (f x ∷ filter (λ e. not (eq_by_cmp R q e.0)) (map f xs)) (filter (λ e. not (eq_by_cmp R q e.0)) (map f xs))) [ true ↦ ap (λ (l : List (K × X)). f x ∷ l) (map-filter q xs) | false ↦ map-filter q xs ]

      pub removes : (q : K) (xs : List P) → from_entries {R = R} (map f (filter (others q) xs)) ≡ remove (from_entries (map f xs)) q
      removes q xs =
          let es = map f xs in
          same_map o exact (from_entries (map f (filter (others q) xs))) (remove (from_entries es) q) (λ r.
          get-from_entries o (map f (filter (others q) xs)) r
          ∙ ap (find R r) (map-filter q xs)
          ∙ find-where_key R (λ x. not (eq_by_cmp R q x)) r (λ x t. ap (λ (b : Ordering). not (is_eq b)) (sym (alike_right o r x q t))) es
          ∙ turned (eq_by_cmp R q r) (find R r es) None
          ∙ ap (λ b. cond b None (find R r es)) ((eq_by_cmp_equiv o).symm q r)
          ∙ ap (λ (x : Option X). cond (eq_by_cmp R r q) None x) (sym (get-from_entries o es r))
          ∙ sym (get-remove o (from_entries es) q r))

      pub removes_apart : (q : K) (xs : List P) → AreApart R (map f xs) → AreApart R (map f (filter (others q) xs))
      removes_apart q xs apart = subst (AreApart R) (sym (map-filter q xs)) (IsDistinct-keys_filter (eq_by_cmp R) (λ e. not (eq_by_cmp R q e.0)) (map f xs) apart)
