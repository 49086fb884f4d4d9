-- The trees that are asked for and lack a row, one by one.
use Rattle.std.proofs.Common.{◌≡◌, ℕ, ◌+◌, ◌<◌, Bool, true, false, cond, List, [], ◌∷◌, ◌++◌, map, drop, length, get_or, refl, sym, ap, ◌∙◌, append-nil, append_assoc}
use Rattle.std.specs.Prelude.{option_to_list}
use Rattle.std.proofs.lemmas.List.{map-append}
use Rattle.plain_trees.specs.Plain.{Plain}
use Rattle.tree_pool.specs.Content.{Content, tree_at, trees_of}
use Rattle.tree_pool.specs.declared.TreeId.{TreeId}
use Rattle.pooled_cuttings.proofs.Rows.{row_step}
use Rattle.character_tables.specs.Rows.{Row}
use Rattle.characters.specs.declared.asked.Asked.{Asked}
use Rattle.characters.specs.Asked.{Question, asked_in, missing}
use Rattle.characters.specs.Sums.{lacks_row, lacking}

pub lacking_parts : (rs : List Row) (t : Plain) (ts : List Plain) → lacking rs (t ∷ ts) ≡ lacking rs (t ∷ []) ++ lacking rs ts
lacking_parts rs t ts = elim (lacks_row rs t) as (λ b. cond b (t ∷ lacking rs ts) (lacking rs ts) ≡ cond b (t ∷ []) [] ++ lacking rs ts) [ true ↦ refl | false ↦ refl ]

pub missing_parts : (gs hs : List Row) (q : Question) (qs : List Question) → missing gs hs (q ∷ qs) ≡ missing gs hs (q ∷ []) ++ missing gs hs qs
missing_parts gs hs q qs = ap (λ (ts : List Plain). ts ++ missing gs hs qs) (sym (append-nil (lacking gs q.first ++ lacking hs q.second)))

module _ (c : Content) (rs : List Row) where
  -- one tree
  pub one_lacks : (found new : List TreeId) (id : TreeId) → lacks_row rs (tree_at c id.0) ≡ true → new ≡ found ++ id ∷ [] →
      trees_of c new ≡ trees_of c found ++ lacking rs (tree_at c id.0 ∷ [])
  one_lacks found new id e p =
      ap (trees_of c) p ∙ map-append (λ (x : TreeId). tree_at c x.0) found (id ∷ [])
      ∙ ap (λ (b : Bool). trees_of c found ++ cond b (tree_at c id.0 ∷ []) []) (sym e)

  pub one_has : (found : List TreeId) (id : TreeId) → lacks_row rs (tree_at c id.0) ≡ false →
      trees_of c found ≡ trees_of c found ++ lacking rs (tree_at c id.0 ∷ [])
  one_has found id e = sym (append-nil (trees_of c found)) ∙ ap (λ (b : Bool). trees_of c found ++ cond b (tree_at c id.0 ∷ []) []) (sym e)

  -- several
  pub lacking_step : (ids : List TreeId) (i : ℕ) (id : TreeId) (old new whole : List Plain) → i < length ids → id ≡ get_or ids i id →
      new ≡ old ++ lacking rs (tree_at c id.0 ∷ []) → old ++ lacking rs (trees_of c (drop i ids)) ≡ whole → new ++ lacking rs (trees_of c (drop (i + 1) ids)) ≡ whole
  lacking_step =
      row_step (λ (ids : List TreeId). lacking rs (trees_of c ids)) (λ (id : TreeId). lacking rs (tree_at c id.0 ∷ [])) (λ id ids. lacking_parts rs (tree_at c id.0) (trees_of c
      ids))

module _ (c : Content) (gs hs : List Row) where
  -- one question
  pub missing_of : (a : Asked) (old middle new : List Plain) → middle ≡ old ++ lacking gs (trees_of c a.first.now) → new ≡ middle ++ lacking hs (trees_of c (option_to_list
      a.second)) →
      new ≡ old ++ missing gs hs (asked_in c a ∷ [])
  missing_of a old middle new e f =
      let first = lacking gs (trees_of c a.first.now) in
      let second = lacking hs (trees_of c (option_to_list a.second)) in
      f ∙ ap (λ (ts : List Plain). ts ++ second) e ∙ append_assoc old first second ∙ ap (λ (ts : List Plain). old ++ ts) (sym (append-nil (first ++ second)))

  pub missing_step : (asks : List Asked) (i : ℕ) (a : Asked) (old new whole : List Plain) → i < length asks → a ≡ get_or asks i a →
      new ≡ old ++ missing gs hs (asked_in c a ∷ []) → old ++ missing gs hs (map (asked_in c) (drop i asks)) ≡ whole →
      new ++ missing gs hs (map (asked_in c) (drop (i + 1) asks)) ≡ whole
  missing_step =
      row_step (λ (asks : List Asked). missing gs hs (map (asked_in c) asks)) (λ (a : Asked). missing gs hs (asked_in c a ∷ [])) (λ a asks. missing_parts gs hs (asked_in c a)
      (map (asked_in c) asks))
