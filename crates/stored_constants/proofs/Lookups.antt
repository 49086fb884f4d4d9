-- The rows so far, and one more.
use Rattle.std.proofs.Common.{◌≡◌, ◌<◌, ◌+◌, ℕ, Bool, true, false, cond, List, [], ◌∷◌, ◌++◌, map, take, length, get_or, option_map, is_some, Option, Some, None, bytes_eq, refl, sym, ap, subst, ◌∙◌, Bor}
use Rattle.std.specs.HashMap as hash
use Rattle.std.specs.FinMap.{find}
use Rattle.std.specs.Ordering.{eq_by_cmp}
use Rattle.std.specs.Cmp.Lexicographic.{bytes_decides, nat_list_eq_equiv}
use Rattle.std.proofs.lemmas.List.{map_more}
use Rattle.std.proofs.lemmas.Map.Text.{is_eq-slice_cmp, hash_map_updates_str}
use Rattle.result_keeper.specs.declared.parts.StoredRow.{StoredRow}
use Rattle.result_keeper.specs.Kept.{bytes_cmp}
use Rattle.result_keeper.specs.Entries.{pair_of}

abbrev first : {X : Type 0} → Option X → Option X → Option X
first None y = y
first (Some x) y = Some x

first_none : {X : Type 0} (x : Option X) → first x None ≡ x
first_none None = refl
first_none (Some x) = refl

first_some : {X : Type 0} (x y : Option X) → is_some x ≡ true → first x y ≡ x
first_some None y e = absurd cc
first_some (Some x) y e = refl

first_cond : {X : Type 0} (b : Bool) (x y z : Option X) → first (cond b x y) z ≡ cond b (first x z) (first y z)
first_cond true x y z = refl
first_cond false x y z = refl

abbrev one_value : List ℕ → List ℕ × List ℕ → Option (List ℕ)
one_value q e = cond (bytes_eq q e.0) (Some e.1) None

-- the value of the first entry, where one more stands behind
find_more : (q : List ℕ) (es : List (List ℕ × List ℕ)) (e : List ℕ × List ℕ) → find bytes_cmp q (es ++ e ∷ []) ≡ first (find bytes_cmp q es) (one_value q e)
find_more q [] e = ap (λ b. cond b (Some e.1) None) (is_eq-slice_cmp q e.0)
find_more q (x ∷ es) e =
    ap (λ r. cond (eq_by_cmp bytes_cmp q x.0) (Some x.1) r) (find_more q es e)
    ∙ sym (first_cond (eq_by_cmp bytes_cmp q x.0) (Some x.1) (find bytes_cmp q es) (one_value q e))

some_value : (x : Option (Bor (List ℕ))) → is_some x ≡ true → is_some (option_map (λ v. v.now) x) ≡ true
some_value None e = e
some_value (Some x) e = refl

no_value : (x : Option (Bor (List ℕ))) → is_some x ≡ false → option_map (λ v. v.now) x ≡ None
no_value None e = refl
no_value (Some x) e = absurd cc

module _ {S : Type 0} where
  abbrev looked : hash.HashMap (Bor (List ℕ)) (Bor (List ℕ)) S → List ℕ → Option (Bor (List ℕ))
  looked m q = hash.get_by (λ k. bytes_eq q k.now) m

  abbrev pub AreValues : hash.HashMap (Bor (List ℕ)) (Bor (List ℕ)) S → List (List ℕ × List ℕ) → Type 0
  AreValues m es = (q : List ℕ) → option_map (λ v. v.now) (looked m q) ≡ find bytes_cmp q es

  -- a row of a tree that has one changes nothing
  present_at : (m : hash.HashMap (Bor (List ℕ)) (Bor (List ℕ)) S) (es : List (List ℕ × List ℕ)) (e : List ℕ × List ℕ) (q : List ℕ) (b : Bool) →
      bytes_eq q e.0 ≡ b → AreValues m es →
      is_some (looked m e.0) ≡ true → first (find bytes_cmp q es) (cond b (Some e.1) None) ≡ find bytes_cmp q es
  present_at m es e q false is values present = first_none (find bytes_cmp q es)
  present_at m es e q true is values present =
      let same : q ≡ e.0 = (bytes_decides q e.0).0 is in
      let has : is_some (find bytes_cmp e.0 es) ≡ true = subst (λ x. is_some x ≡ true) (values e.0) (some_value (looked m e.0) present) in
      first_some (find bytes_cmp q es) (Some e.1) (subst (λ t. is_some (find bytes_cmp t es) ≡ true) (sym same) has)

  pub values_present : (m : hash.HashMap (Bor (List ℕ)) (Bor (List ℕ)) S) (es : List (List ℕ × List ℕ)) (e : List ℕ × List ℕ) → (key : List ℕ) → key ≡ e.0 →
      AreValues m es → is_some (looked m key) ≡ true → AreValues m (es ++ e ∷ [])
  values_present m es e key is values there q = let present : is_some (looked m e.0) ≡ true = subst (λ k. is_some (looked m k) ≡ true) is there in values q ∙ sym (find_more q es e ∙ present_at m es e q (bytes_eq q e.0) refl values present)

  -- the first row of a tree is put in
  absent_at : (m : hash.HashMap (Bor (List ℕ)) (Bor (List ℕ)) S) (es : List (List ℕ × List ℕ)) (e : List ℕ × List ℕ) (w : Bor (List ℕ)) (q : List ℕ) (b : Bool) →
      bytes_eq e.0 q ≡ b → AreValues m es →
      is_some (looked m e.0) ≡ false → w.now ≡ e.1 → option_map (λ v. v.now) (cond b (Some w) (looked m q)) ≡ first (find bytes_cmp q es) (cond b (Some e.1) None)
  absent_at m es e w q false is values absent value = values q ∙ sym (first_none (find bytes_cmp q es))
  absent_at m es e w q true is values absent value =
      let same : e.0 ≡ q = (bytes_decides e.0 q).0 is in
      let none : find bytes_cmp q es ≡ None = subst (λ t. find bytes_cmp t es ≡ None) same (sym (values e.0) ∙ no_value (looked m e.0) absent) in
      ap Some value ∙ sym (ap (λ x. first x (Some e.1)) none)

  pub values_absent : (m n : hash.HashMap (Bor (List ℕ)) (Bor (List ℕ)) S) (es : List (List ℕ × List ℕ)) (e : List ℕ × List ℕ) (key : List ℕ) (w : Bor (List ℕ)) →
      key ≡ e.0 → w.now ≡ e.1 → AreValues m es →
      is_some (looked m key) ≡ false → (updates_key : List ℕ) → updates_key ≡ e.0 → hash.UpdatesBy (λ x y. bytes_eq x.now y.now) (λ k. bytes_eq updates_key k.now) m n (Some w) → AreValues n (es ++ e ∷ [])
  values_absent m n es e key w is value values lacking updates_key same updated q =
      let absent : is_some (looked m e.0) ≡ false = subst (λ k. is_some (looked m k) ≡ false) is lacking in
      let updates = subst (λ t. hash.UpdatesBy (λ x y. bytes_eq x.now y.now) (λ k. bytes_eq t k.now) m n (Some w)) same updated in
      ap (λ x. option_map (λ v. v.now) x) (hash_map_updates_str e.0 m n (Some w) updates q)
      ∙ (absent_at m es e w q (bytes_eq e.0 q) refl values absent value
      ∙ (ap (λ b. first (find bytes_cmp q es) (cond b (Some e.1) None)) (nat_list_eq_equiv.symm e.0 q) ∙ sym (find_more q es e)))

  -- in the loop
  pub values_next : (m : hash.HashMap (Bor (List ℕ)) (Bor (List ℕ)) S) (rows : List StoredRow) (i : ℕ) (row : StoredRow) →
      i < length rows → row ≡ get_or rows i row →
      AreValues m (map pair_of (take i rows) ++ pair_of row ∷ []) → AreValues m (map pair_of (take (i + 1) rows))
  values_next m rows i row below is values =
      subst (λ es. AreValues m es) (sym (map_more pair_of rows i row below ∙ ap (λ r. map pair_of (take i rows) ++ pair_of r ∷ []) (sym is))) values
