-- Sums over the terms of a coproduct of a tree of a pool: what is given, and why nothing is.
use Rattle.std.proofs.Common.{◌≡◌, ◌⊎◌, ◌+◌, ◌<◌, inl, inr, ℕ, ℤ, List, [], ◌∷◌, ◌++◌, length, take, get_or, flat_map, codes, Result, Ok, Err, IfOk, IfErr, refl, sym, ap, subst, ◌∙◌}
use Rattle.std.proofs.lemmas.List.{take_more, map-append, flat_map_more}
use Rattle.degree_numbers.specs.declared.types.Types.{Types}
use Rattle.equations.specs.declared.equation.Equation.{Equation}
use Rattle.signed_sums.specs.Signed.{size_of}
use Rattle.plain_trees.specs.Plain.{Plain}
use Rattle.plain_trees.specs.Coproducts.{extraction_terms, recentring_terms}
use Rattle.tree_pool.specs.Content.{Content, tree_at, IsGrown}
use Rattle.tree_pool.specs.declared.node.TreeId.{TreeId}
use Rattle.tree_pool.proofs.Growth.{grown_at}
use Rattle.character_tables.specs.Rows.{Row, rows_over}
use Rattle.character_tables.specs.declared.error.CharacterError.{CharacterError}
use Rattle.character_tables.specs.declared.error.CharacterError.TheVariants as errors
use Rattle.character_tables.specs.declared.error.CharacterPart.TheVariants.{Coproduct, Sum}
use Rattle.character_tables.specs.declared.table.CharacterRow.{CharacterRow}
use Rattle.characters.specs.declared.line.Line.{Line}
use Rattle.characters.specs.Sums.{IsGiven, IsRefused, IsLeftSum, IsRightSum, lacking_left, lacking_right, lacking_both, left_products, right_products, products, product_sum, lines_over}
use Rattle.workbench_core.specs.declared.refusal.Refusal.{Refusal}
use Rattle.workbench_core.specs.declared.refusal.Refusal.TheVariants.{Memory}
use Rattle.workbench_core.specs.Characters.{IsWithoutSum, ActsFromLeft, ActsFromRight, Multiplies, line_text, act_text, product_text, of_sum_error}

named : {K : Type 0} (c : Content) (t : Plain) (coproduct sum : List ℕ) (xs : List (K × ℕ)) (missing : List Plain) (size : ℕ) (e : CharacterError) → IsRefused c xs missing size e
    → (of_sum_error c t coproduct sum e ≡ Memory) ⊎ IsWithoutSum c.types t coproduct sum xs missing size (of_sum_error c t coproduct sum e)
named c t coproduct sum xs missing size (errors.TableRefused line) h = absurd h
named c t coproduct sum xs missing size (errors.CoefficientTooLarge Coproduct) h = inr (inl (h, refl))
named c t coproduct sum xs missing size (errors.CoefficientTooLarge Sum) h = inr (inr (inr (h.0, h.1, h.2, refl)))
named c t coproduct sum xs missing size (errors.Missing i) h = inr (inr (inl (h.0, tree_at c i.0, h.2, refl)))
named c t coproduct sum xs missing size errors.Memory h = inl refl

-- the refusal of a sum is named in a pool, or memory is wanted
abbrev pub IsNamed : Content → ℕ → List ℕ → List ℕ → CharacterError → Refusal → Type 0
IsNamed c i coproduct sum e r = (r ≡ Memory) ⊎ (r ≡ of_sum_error c (tree_at c i) coproduct sum e)

-- a tree that lacks a row is one of the pool
pub missing_known : {K : Type 0} (new c : Content) (xs : List (K × ℕ)) (missing : List Plain) (size : ℕ) (e : CharacterError) → IsRefused new xs missing size e → c ≡ new → (i : TreeId) → e ≡ errors.Missing i
    → i.0 < length c.trees
missing_known new c xs missing size (errors.TableRefused line) h same i is = absurd h
missing_known new c xs missing size (errors.CoefficientTooLarge which) h same i is = absurd cc
missing_known new c xs missing size (errors.Missing j) h same i is =
    let one : j ≡ i = cc in
    subst (λ (p : Content). i.0 < length p.trees) (sym same) (subst (λ (k : TreeId). k.0 < length new.trees) one h.1)
missing_known new c xs missing size errors.Memory h same i is = absurd cc

module _ {K : Type 0} (terms : Types → Plain → List (K × ℕ)) (missing : List (K × ℕ) → List Plain) (size : List (K × ℕ) → ℕ) where
  module _ (coproduct sum : List ℕ) where
    -- the refusal of a sum for a tree over these types
    abbrev pub Refused : Types → Plain → Refusal → Type 0
    Refused ty t r = (r ≡ Memory) ⊎ IsWithoutSum ty t coproduct sum (terms ty t) (missing (terms ty t)) (size (terms ty t)) r

    sum_refused : (old new named_in : Content) (i : ℕ) (e : CharacterError) (r : Refusal) → IsGrown old new → i < length old.trees
        → IsRefused new (terms old.types (tree_at old i)) (missing (terms old.types (tree_at old i))) (size (terms old.types (tree_at old i))) e
        → named_in ≡ new → IsNamed named_in i coproduct sum e r → Refused old.types (tree_at old i) r
    sum_refused old new named_in i e r grown known h same (inl memory) = inl memory
    sum_refused old new named_in i e r grown known h same (inr is) =
        let t = tree_at old i in
        let xs = terms old.types t in
        let of_new = named new t coproduct sum xs (missing xs) (size xs) e h in
        let in_new : r ≡ of_sum_error new (tree_at new i) coproduct sum e = subst (λ (p : Content). r ≡ of_sum_error p (tree_at p i) coproduct sum e) same is in
        let text : r ≡ of_sum_error new t coproduct sum e = subst (λ u. r ≡ of_sum_error new u coproduct sum e) (grown_at old new i grown known) in_new in
        let of_r : (r ≡ Memory) ⊎ IsWithoutSum new.types t coproduct sum xs (missing xs) (size xs) r =
        subst (λ x. (x ≡ Memory) ⊎ IsWithoutSum new.types t coproduct sum xs (missing xs) (size xs) x) (sym text) of_new in
        subst (λ (u : Types). (r ≡ Memory) ⊎ IsWithoutSum u t coproduct sum xs (missing xs) (size xs) r) grown.types of_r

-- one more line
pub lines_next : (ty : Types) (c : Content) (ls : List Line) (i : ℕ) (d : Line) (start now new : List ℕ) → i < length ls → now ≡ start ++ flat_map (line_text ty) (lines_over c (take i ls))
    → new ≡ now ++ line_text ty (tree_at c (get_or ls i d).tree.0, (get_or ls i d).coefficient) → new ≡ start ++ flat_map (line_text ty) (lines_over c (take (i + 1) ls))
lines_next ty c ls i d start now new lt before last =
    let line : Plain × ℤ = (tree_at c (get_or ls i d).tree.0, (get_or ls i d).coefficient) in
    let so_far = lines_over c (take i ls) in
    let more : lines_over c (take (i + 1) ls) ≡ so_far ++ line ∷ [] =
    ap (lines_over c) (take_more ls i d lt) ∙ map-append (λ (l : Line). (tree_at c l.tree.0, l.coefficient)) (take i ls) (get_or ls i d ∷ []) in
    last ∙ ap (λ x. x ++ line_text ty line) before ∙ flat_map_more (line_text ty) start so_far line ∙ ap (λ x. start ++ flat_map (line_text ty) x) (sym more)

-- the product of two characters; the tables have the trees of the pool that they took over
module _ (ty : Types) (pool tables : Content) (i : ℕ) (gs hs : List CharacterRow) where
  abbrev pub Product : Types → List Row → List Row → Plain → List ℕ → Type 0
  Product u first second t text =
      let xs = extraction_terms u t in
      IsGiven xs (lacking_both first second xs) (size_of (products first second xs)) × (text ≡ product_text (product_sum first second xs))

  product_given : (sum : ℤ) (text : List ℕ) → pool.types ≡ ty → tables ≡ pool
      → IsGiven (extraction_terms tables.types (tree_at tables i)) (lacking_both (rows_over tables gs) (rows_over tables hs) (extraction_terms tables.types (tree_at tables i)))
      (size_of (products (rows_over tables gs) (rows_over tables hs) (extraction_terms tables.types (tree_at tables i))))
      → sum ≡ product_sum (rows_over tables gs) (rows_over tables hs) (extraction_terms tables.types (tree_at tables i)) → text ≡ product_text sum
      → Product ty (rows_over pool gs) (rows_over pool hs) (tree_at pool i) text
  product_given sum text types same given is printed =
      let here : Product tables.types (rows_over tables gs) (rows_over tables hs) (tree_at tables i) text = (given, printed ∙ ap product_text is) in
      let there = subst (λ (p : Content). Product p.types (rows_over p gs) (rows_over p hs) (tree_at p i) text) same here in
      subst (λ (u : Types). Product u (rows_over pool gs) (rows_over pool hs) (tree_at pool i) text) types there

  abbrev pub NoProduct : Types → List Row → List Row → Plain → Refusal → Type 0
  NoProduct u first second t r = Refused extraction_terms (lacking_both first second) (λ xs. size_of (products first second xs)) (codes "extraction") (codes "product") u t r

  pub product_refused : (new named_in : Content) (e : CharacterError) (r : Refusal) → pool.types ≡ ty → tables ≡ pool → IsGrown tables new → i < length pool.trees
      → IsRefused new (extraction_terms tables.types (tree_at tables i)) (lacking_both (rows_over tables gs) (rows_over tables hs) (extraction_terms tables.types (tree_at tables i)))
      (size_of (products (rows_over tables gs) (rows_over tables hs) (extraction_terms tables.types (tree_at tables i)))) e
      → named_in ≡ new → IsNamed named_in i (codes "extraction") (codes "product") e r
      → NoProduct ty (rows_over pool gs) (rows_over pool hs) (tree_at pool i) r
  product_refused new named_in e r types same grown known h naming is =
      let below : i < length tables.trees = subst (λ (p : Content). i < length p.trees) (sym same) known in
      let here : NoProduct tables.types (rows_over tables gs) (rows_over tables hs) (tree_at tables i) r =
      sum_refused extraction_terms (lacking_both (rows_over tables gs) (rows_over tables hs)) (λ xs. size_of (products (rows_over tables gs) (rows_over tables hs) xs)) (codes "extraction")
      (codes "product") tables new named_in i e r grown below h naming is in
      let there = subst (λ (p : Content). NoProduct p.types (rows_over p gs) (rows_over p hs) (tree_at p i) r) same here in
      subst (λ (u : Types). NoProduct u (rows_over pool gs) (rows_over pool hs) (tree_at pool i) r) types there

-- the action from the left
module _ (ty : Types) (pool tables : Content) (i : ℕ) (gs : List CharacterRow) where
  abbrev pub LeftSum : Types → List Row → Plain → List ℕ → Type 0
  LeftSum u rows t text =
      let xs = extraction_terms u t in
      IsGiven xs (lacking_left rows xs) (size_of (left_products rows xs)) × (ls : List (Plain × ℤ)) × IsLeftSum rows xs ls × (text ≡ act_text u ls)

  left_given : (new : Content) (ls : List (Plain × ℤ)) (text : List ℕ) → pool.types ≡ ty → tables ≡ pool → IsGrown tables new
      → IsGiven (extraction_terms tables.types (tree_at tables i)) (lacking_left (rows_over tables gs) (extraction_terms tables.types (tree_at tables i)))
      (size_of (left_products (rows_over tables gs) (extraction_terms tables.types (tree_at tables i))))
      → IsLeftSum (rows_over tables gs) (extraction_terms tables.types (tree_at tables i)) ls → text ≡ act_text new.types ls → LeftSum ty (rows_over pool gs) (tree_at pool i) text
  left_given new ls text types same grown given sums printed =
      let here : LeftSum tables.types (rows_over tables gs) (tree_at tables i) text = (given, ls, sums, subst (λ (u : Types). text ≡ act_text u ls) grown.types printed) in
      let there = subst (λ (p : Content). LeftSum p.types (rows_over p gs) (tree_at p i) text) same here in
      subst (λ (u : Types). LeftSum u (rows_over pool gs) (tree_at pool i) text) types there

  abbrev pub NoLeftSum : Types → List Row → Plain → Refusal → Type 0
  NoLeftSum u rows t r = Refused extraction_terms (lacking_left rows) (λ xs. size_of (left_products rows xs)) (codes "extraction") (codes "act") u t r

  pub left_refused : (new named_in : Content) (e : CharacterError) (r : Refusal) → pool.types ≡ ty → tables ≡ pool → IsGrown tables new → i < length pool.trees
      → IsRefused new (extraction_terms tables.types (tree_at tables i)) (lacking_left (rows_over tables gs) (extraction_terms tables.types (tree_at tables i)))
      (size_of (left_products (rows_over tables gs) (extraction_terms tables.types (tree_at tables i)))) e
      → named_in ≡ new → IsNamed named_in i (codes "extraction") (codes "act") e r → NoLeftSum ty (rows_over pool gs) (tree_at pool i) r
  left_refused new named_in e r types same grown known h naming is =
      let below : i < length tables.trees = subst (λ (p : Content). i < length p.trees) (sym same) known in
      let here : NoLeftSum tables.types (rows_over tables gs) (tree_at tables i) r =
      sum_refused extraction_terms (lacking_left (rows_over tables gs)) (λ xs. size_of (left_products (rows_over tables gs) xs)) (codes "extraction") (codes "act") tables new named_in i e r grown below h
      naming is in
      let there = subst (λ (p : Content). NoLeftSum p.types (rows_over p gs) (tree_at p i) r) same here in
      subst (λ (u : Types). NoLeftSum u (rows_over pool gs) (tree_at pool i) r) types there

-- the action from the right
module _ (ty : Types) (pool : Content) (i : ℕ) (fs : List CharacterRow) where
  abbrev pub RightSum : Types → List Row → Plain → List ℕ → Type 0
  RightSum u rows t text =
      let xs = recentring_terms u t in
      IsGiven xs (lacking_right rows xs) (size_of (right_products rows xs)) × (ls : List (Plain × ℤ)) × IsRightSum rows xs ls × (text ≡ act_text u ls)

  right_given : (new : Content) (ls : List (Plain × ℤ)) (text : List ℕ) → pool.types ≡ ty → IsGrown pool new
      → IsGiven (recentring_terms pool.types (tree_at pool i)) (lacking_right (rows_over pool fs) (recentring_terms pool.types (tree_at pool i)))
      (size_of (right_products (rows_over pool fs) (recentring_terms pool.types (tree_at pool i))))
      → IsRightSum (rows_over pool fs) (recentring_terms pool.types (tree_at pool i)) ls → text ≡ act_text new.types ls → RightSum ty (rows_over pool fs) (tree_at pool i) text
  right_given new ls text types grown given sums printed =
      let here : RightSum pool.types (rows_over pool fs) (tree_at pool i) text = (given, ls, sums, subst (λ (u : Types). text ≡ act_text u ls) grown.types printed) in
      subst (λ (u : Types). RightSum u (rows_over pool fs) (tree_at pool i) text) types here

  abbrev pub NoRightSum : Types → List Row → Plain → Refusal → Type 0
  NoRightSum u rows t r = Refused recentring_terms (lacking_right rows) (λ xs. size_of (right_products rows xs)) (codes "recentring") (codes "act") u t r

  pub right_refused : (new named_in : Content) (e : CharacterError) (r : Refusal) → pool.types ≡ ty → IsGrown pool new → i < length pool.trees
      → IsRefused new (recentring_terms pool.types (tree_at pool i)) (lacking_right (rows_over pool fs) (recentring_terms pool.types (tree_at pool i)))
      (size_of (right_products (rows_over pool fs) (recentring_terms pool.types (tree_at pool i)))) e
      → named_in ≡ new → IsNamed named_in i (codes "recentring") (codes "act") e r → NoRightSum ty (rows_over pool fs) (tree_at pool i) r
  right_refused new named_in e r types grown known h naming is =
      let here : NoRightSum pool.types (rows_over pool fs) (tree_at pool i) r =
      sum_refused recentring_terms (lacking_right (rows_over pool fs)) (λ xs. size_of (right_products (rows_over pool fs) xs)) (codes "recentring") (codes "act") pool new named_in i e r grown known h
      naming is in
      subst (λ (u : Types). NoRightSum u (rows_over pool fs) (tree_at pool i) r) types here

-- where only memory can be wanting
pub only_memory : {V : Type 0} (other : Refusal → Type 0) (written : Result V Refusal) → IfErr written (λ e. e ≡ Memory) → IfErr written (λ e. (e ≡ Memory) ⊎ other e)
only_memory other (Ok v) h = h
only_memory other (Err e) h = inl h

-- what is written of these sums
pub multiplies : {V : Type 0} (eq : Equation) (pool tables : Content) (i : ℕ) (gs hs : List CharacterRow) (sum : ℤ) (view : V → List ℕ) (written : Result V Refusal) → pool.types ≡ eq.types → tables ≡ pool
    → IsGiven (extraction_terms tables.types (tree_at tables i)) (lacking_both (rows_over tables gs) (rows_over tables hs) (extraction_terms tables.types (tree_at tables i)))
    (size_of (products (rows_over tables gs) (rows_over tables hs) (extraction_terms tables.types (tree_at tables i))))
    → sum ≡ product_sum (rows_over tables gs) (rows_over tables hs) (extraction_terms tables.types (tree_at tables i)) → IfOk written (λ v. view v ≡ product_text sum)
    → IfOk written (λ v. Multiplies eq (rows_over pool gs) (rows_over pool hs) (tree_at pool i) (Ok (view v)))
multiplies eq pool tables i gs hs sum view (Ok v) types same given is printed = product_given eq.types pool tables i gs hs sum (view v) types same given is printed
multiplies eq pool tables i gs hs sum view (Err e) types same given is printed = printed

pub acts_left : {V : Type 0} (eq : Equation) (pool tables : Content) (i : ℕ) (gs : List CharacterRow) (new : Content) (ls : List Line) (view : V → List ℕ) (written : Result V Refusal) → pool.types ≡ eq.types
    → tables ≡ pool → IsGrown tables new → IsGiven (extraction_terms tables.types (tree_at tables i)) (lacking_left (rows_over tables gs) (extraction_terms tables.types (tree_at tables i)))
    (size_of (left_products (rows_over tables gs) (extraction_terms tables.types (tree_at tables i))))
    → IsLeftSum (rows_over tables gs) (extraction_terms tables.types (tree_at tables i)) (lines_over new ls) → IfOk written (λ v. view v ≡ act_text new.types (lines_over new ls))
    → IfOk written (λ v. ActsFromLeft eq (rows_over pool gs) (tree_at pool i) (Ok (view v)))
acts_left eq pool tables i gs new ls view (Ok v) types same grown given sums printed = left_given eq.types pool tables i gs new (lines_over new ls) (view v) types same grown given sums printed
acts_left eq pool tables i gs new ls view (Err e) types same grown given sums printed = printed

pub acts_right : {V : Type 0} (eq : Equation) (pool : Content) (i : ℕ) (fs : List CharacterRow) (new : Content) (ls : List Line) (view : V → List ℕ) (written : Result V Refusal) → pool.types ≡ eq.types
    → IsGrown pool new → IsGiven (recentring_terms pool.types (tree_at pool i)) (lacking_right (rows_over pool fs) (recentring_terms pool.types (tree_at pool i)))
    (size_of (right_products (rows_over pool fs) (recentring_terms pool.types (tree_at pool i))))
    → IsRightSum (rows_over pool fs) (recentring_terms pool.types (tree_at pool i)) (lines_over new ls) → IfOk written (λ v. view v ≡ act_text new.types (lines_over new ls))
    → IfOk written (λ v. ActsFromRight eq (rows_over pool fs) (tree_at pool i) (Ok (view v)))
acts_right eq pool i fs new ls view (Ok v) types grown given sums printed = right_given eq.types pool i fs new (lines_over new ls) (view v) types grown given sums printed
acts_right eq pool i fs new ls view (Err e) types grown given sums printed = printed
