-- Rows that are read from lines.
use Rattle.std.proofs.Common.{◌≡◌, ℕ, ◌<◌, ℤ, pos, List, [], ◌∷◌, ◌++◌, map, length, Option, Some, None, refl, sym, ap, ◌∙◌, subst, arith}
use Rattle.std.specs.Prelude.{MatchOption}
use Rattle.std.proofs.lemmas.Option.{slice_get_within}
use Rattle.degree_numbers.specs.declared.types.Types.{Types}
use Rattle.plain_trees.specs.Plain.{Plain}
use Rattle.plain_trees.specs.Canon.{canon}
use Rattle.plain_trees.specs.Text.{tree_text}
use Rattle.plain_trees.proofs.CanonLaws.{canon_fixed}
use Rattle.tree_pool.specs.Content.{Content, Holds, tree_at}
use Rattle.tree_pool.specs.declared.TreeId.{TreeId}
use Rattle.tree_pool.proofs.Walks.{at_holds}
use Rattle.character_tables.specs.declared.table.CharacterRow.{CharacterRow}
use Rattle.character_tables.specs.Reading.{HasNo, IsRowOf, IsReadRow}
use Rattle.character_tables.specs.Rows.{Row, IsValue}
use Rattle.character_tables.specs.Texts.{number_text, row_text, IsTableTree}
use Rattle.character_tables.proofs.LastSpaces.{same_cut}
use Rattle.character_tables.proofs.NumberTexts.{number_no_space}

pub none_of : {X : Type 0} (N : Type 0) (S : X → Type 0) (o : Option X) → MatchOption o N S → o ≡ None → N
none_of N S None h e = h
none_of N S (Some x) h e = absurd cc

pub some_of : {X : Type 0} (N : Type 0) (S : X → Type 0) (o : Option X) (x : X) → MatchOption o N S → o ≡ Some x → S x
some_of {X} N S o x h e = subst (λ (p : Option X). MatchOption p N S) e h

-- the parts of a line that is that of a row
module _ (ty : Types) (line text digits : List ℕ) (cut : text ++ 32 ∷ digits ≡ line) (behind : HasNo 32 digits) (r : Row) (is : IsRowOf ty line r) where
  parts : (tree_text ty r.0 ≡ text) × (number_text r.1 ≡ digits)
  parts = same_cut 32 (tree_text ty r.0) (number_text r.1) text digits (number_no_space r.1) behind (is.1 ∙ sym cut)

  pub no_number : ((z : ℤ) → IsValue z → number_text z ≡ digits → None ≡ Some z) → ⊥
  no_number none = let no = none r.1 is.0.1 parts.1 in cc

  pub no_tree : ((t : Plain) → IsTableTree ty t → tree_text ty t ≡ text → ⊥) → ⊥
  no_tree none = none r.0 is.0.0 parts.0

-- a tree that is in the pool now
pub row_read : (c : Content) (id : TreeId) (ty : Types) (t : Plain) (line : List ℕ) (z : ℤ) → Holds c id.0 (canon t) → c.types ≡ ty → IsRowOf ty line (t, z) →
    IsReadRow c line record { tree = id; value = z }
row_read c id ty t line z holds types is =
    let there : tree_at c id.0 ≡ t = at_holds c id.0 (canon t) holds ∙ canon_fixed t is.0.0.canonical in
    record {
      known = slice_get_within c.trees id.0 (canon t) holds;
      row = subst (λ (u : Types). IsRowOf u line (tree_at c id.0, z)) (sym types) (subst (λ (s : Plain). IsRowOf ty line (s, z)) (sym there) is);
    }
