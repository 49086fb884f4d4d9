-- Trees over types in other units, and their texts.
use Rattle.std.proofs.Common.{◌≡◌, ℕ, ◌<◌, List, [], ◌∷◌, ◌++◌, if◌then◌else◌, refl, sym, subst, ◌∙◌}
use Rattle.std.specs.Prelude.{unsigned_abs}
use Rattle.degree_numbers.specs.declared.types.Types.{Types}
use Rattle.degree_numbers.specs.EdgeText.{multi_text, edge_type_text}
use Rattle.degree_numbers.specs.Multi.{is_zero}
use Rattle.plain_trees.specs.Plain.{Plain, bare, graft, root_of}
use Rattle.plain_trees.specs.Degree.{HasTypes, IsEdge, IsMultiIndex, is_kernel, is_kernel_kind}
use Rattle.plain_trees.specs.Reading.{IsTreeOf}
use Rattle.plain_trees.specs.Text.{root_factors, bracketed, edge_factors, tree_text}
use Rattle.type_contexts.specs.Same.{AreSameTypes}
use Rattle.row_laws.proofs.SameEntries.{same_length, names, kinds}

module _ (s t : Types) (same : AreSameTypes s t) where
  pub is_kernel_same : (k : ℕ) → is_kernel s k ≡ is_kernel t k
  is_kernel_same k = λ i. is_kernel_kind (kinds s t same k i)

  -- texts
  pub edge_text : (k : ℕ) (p : List ℕ) → edge_type_text s k p ≡ edge_type_text t k p
  edge_text k p = λ i. names s t same k i ++
      (if is_zero p then [] else 39 ∷ multi_text (same.dims i) p)

  roots : (n : List ℕ) → root_factors s n ≡ root_factors t n
  roots n = λ i. if is_zero n then [] else (88 ∷ multi_text (same.dims i) n) ∷ []

  edges : (u : Plain) → edge_factors s u ≡ edge_factors t u
  edges (bare n) = refl
  edges (graft k p c r) = λ i.
      (edge_text k p i ++
      (if is_kernel_same k i then bracketed (roots (root_of c) i ++ edges c i) else [])) ∷ edges r i

  pub trees : (u : Plain) → tree_text s u ≡ tree_text t u
  trees u = λ i. bracketed (roots (root_of u) i ++ edges u i)

  -- the trees themselves
  multi : (n : List ℕ) → IsMultiIndex s.dims n → IsMultiIndex t.dims n
  multi n h = subst (λ dims. IsMultiIndex dims n) same.dims h

  edge : (k : ℕ) (p : List ℕ) (c : Plain) → IsEdge s k p c → IsEdge t k p c
  edge k p c h = record {
    known = subst (λ n. k < n)
        (same_length (unsigned_abs s.units.den) (unsigned_abs t.units.den) s.list t.list same.list)
        h.known;
    decoration = multi p h.decoration;
    noise = λ is. h.noise (kinds s t same k ∙ is);
  }

  pub typed : (u : Plain) → HasTypes s u → HasTypes t u
  typed (bare n) h = multi n h
  typed (graft k p c r) h = (edge k p c h.0, typed c h.1, typed r h.2)

  pub tree_of : (most : ℕ) (text : List ℕ) (u : Plain) → IsTreeOf s most text u →
      IsTreeOf t most text u
  tree_of most text u h = record {
    types = typed u h.types;
    canonical = h.canonical;
    edges = h.edges;
    decorations = h.decorations;
    printed = sym (trees u) ∙ h.printed;
  }
