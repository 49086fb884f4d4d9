-- What the tests of a text and the built tree say.
use Rattle.std.proofs.Common.{◌≡◌, ℕ, ◌<◌, ◌≤◌, ◌-◌, ◌^◌, min, Bool, true, false, List, [], ◌∷◌, Some, None, sym, ap, ◌∙◌, arith, subst}
use Rattle.std.specs.Prelude.{IsTrue}
use Rattle.degree_numbers.specs.Types.{AreTypes}
use Rattle.degree_numbers.specs.declared.types.Types.{Types}
use Rattle.tree_grammar.specs.Grammar.{Written, written_text, IsGrammatical}
use Rattle.tree_grammar.specs.Places.{IsTreeText}
use Rattle.tree_grammar.specs.Words.{first_unknown, edges_in, decorations_in, decorations_of, AreKnown}
use Rattle.tree_grammar.proofs.Counts.{edges_law, decorations_law, known_law}
use Rattle.plain_trees.specs.Plain.{Plain, edge_count_of, decoration_sum_of}
use Rattle.plain_trees.specs.Canon.{Planted, IsCanonical}
use Rattle.plain_trees.specs.Degree.{empty_tree, HasTypes}
use Rattle.plain_trees.specs.Text.{tree_text}
use Rattle.plain_trees.specs.Building.{Building, plain_of, zeros, run, start}
use Rattle.plain_trees.specs.Reading.{IsTreeOf, PassesTests}
use Rattle.plain_trees.proofs.ReadTrees.{edges_plain, decorations_plain, types_plain}
use Rattle.plain_trees.proofs.WrittenTrees.{written, text_written}
use Rattle.plain_trees.proofs.WrittenKeeps.{Keeps, keeps}
use Rattle.plain_trees.proofs.Runs.{run_written}

pub true_is : (b : Bool) → b ≡ true → IsTrue b
true_is b h = h

pub false_not : (b : Bool) → b ≡ false → IsTrue b → ⊥
false_not b h t = let w : false ≡ true = sym h ∙ t in absurd cc

module _ (ty : Types) (types : AreTypes ty) where
  dims : 0 < ty.dims
  dims = types.scaling.some

  five : ty.dims ≤ 5
  five = types.scaling.most

  -- the edge that ends in the built tree
  abbrev pub around : Written → Planted
  around w = record { kind = 0; p = zeros; child = plain_of ty w }

  pub built : (s : Building) (text : List ℕ) (w : Written) → s ≡ run ty start text →
      IsGrammatical ty w → AreKnown ty w → text ≡ written_text w → s.inner.edges ≡ around w ∷ []
  built s text w h g k e = ap (λ (r : Building). r.inner.edges) (h ∙ ap (run ty start) e ∙ run_written ty dims five w g k)

  some_same : (a b : Plain) → Some a ≡ Some b → a ≡ b
  some_same a b h = cc

  pub subtree_is : (s : Building) (text : List ℕ) (t : Plain) → s ≡ run ty start text → ((e : Planted) → s.inner.edges ≡ e ∷ [] → Some t ≡ Some e.child) →
      (w : Written) → IsGrammatical ty w → AreKnown ty w → text ≡ written_text w → t ≡ plain_of ty w
  subtree_is s text t h found w g k e = some_same t (plain_of ty w) (found (around w) (built s text w h g k e))

  some_none : (a : Plain) → None ≡ Some a → ⊥
  some_none a h = absurd cc

  known_of : (text : List ℕ) (w : Written) → IsGrammatical ty w → text ≡ written_text w → first_unknown ty text ≡ None → AreKnown ty w
  known_of text w g e none = (known_law ty w dims g).0 (rw e at none)

  pub no_subtree : (s : Building) (text : List ℕ) → s ≡ run ty start text → ((e : Planted) → s.inner.edges ≡ e ∷ [] → None ≡ Some e.child) →
      IsTreeText ty text → first_unknown ty text ≡ None → ⊥
  no_subtree s text h found t none =
      some_none (plain_of ty t.0) (found (around t.0) (built s text t.0 h t.1 (known_of text t.0 t.1 t.2 none) t.2))

  child_of : List Planted → Plain
  child_of [] = empty_tree
  child_of (e ∷ es) = e.child

  -- a text writes one tree
  pub same_text : (w v : Written) → IsGrammatical ty w → AreKnown ty w → IsGrammatical ty v →
      AreKnown ty v → written_text w ≡ written_text v → plain_of ty w ≡ plain_of ty v
  unfolding child_of
  same_text w v g k h l e =
      ap (λ (s : Building). child_of s.inner.edges) (sym (run_written ty dims five w g k) ∙ ap (run ty start) e ∙ run_written ty dims five v h l)

  module _ (most : ℕ) (small : most ≤ 4096) (text : List ℕ) where
    text_of : (t : Plain) → IsTreeOf ty most text t → text ≡ written_text (written ty t)
    text_of t h = sym h.printed ∙ text_written ty dims t h.types

    keeps_of : (t : Plain) → IsTreeOf ty most text t → Keeps ty types t
    keeps_of t h = keeps ty types t h.types (omega (arith, h.decorations, small))

    pub unique : (t u : Plain) → IsTreeOf ty most text t → IsTreeOf ty most text u → t ≡ u
    unique t u h g =
        let k = keeps_of t h in
        let l = keeps_of u g in
        sym k.back ∙ same_text (written ty t) (written ty u) k.grammatical k.known l.grammatical l.known (sym (text_of t h) ∙ text_of u g) ∙ l.back

    pub passes_of : (t : Plain) → IsTreeOf ty most text t → PassesTests ty most text
    passes_of t h =
        let k = keeps_of t h in
        let w = written ty t in
        let e = text_of t h in
        let edges : edges_in text ≡ edge_count_of t = ap edges_in e ∙ edges_law ty w dims k.grammatical ∙ edges_plain ty w ∙ ap edge_count_of k.back in
        let sum : decorations_of w ≡ decoration_sum_of t = decorations_plain ty five w k.grammatical ∙ ap decoration_sum_of k.back in
        let total : decorations_in text ≡ min (decorations_of w) (2 ^ 32 - 1) = ap decorations_in e ∙ decorations_law ty w dims k.grammatical in
        record {
          grammar = (w, k.grammatical, e);
          known = rw e ((known_law ty w dims k.grammatical).1 k.known);
          edges = omega (arith, edges, h.edges);
          decorations = omega (arith, sum, total, h.decorations);
        }

    -- what is known of the built tree
    pub record IsBuilt (t : Plain) : Type 0 where
      pub types_of : HasTypes ty t
      pub edges : edge_count_of t ≤ 24
      pub decorations : decoration_sum_of t ≤ most
      pub only : (u : Plain) → IsTreeOf ty most text u → u ≡ t

    pub built_is : (t : Plain) → PassesTests ty most text → ((w : Written) → IsGrammatical ty w → AreKnown ty w → text ≡ written_text w → t ≡ plain_of ty w) → IsBuilt t
    built_is t p h =
        let w = p.grammar.0 in
        let g = p.grammar.1 in
        let e = p.grammar.2 in
        let k = known_of text w g e p.known in
        let is = h w g k e in
        let edges : edges_in text ≡ edge_count_of t = ap edges_in e ∙ edges_law ty w dims g ∙ edges_plain ty w ∙ ap edge_count_of (sym is) in
        let sum : decorations_of w ≡ decoration_sum_of t = decorations_plain ty five w g ∙ ap decoration_sum_of (sym is) in
        let total : decorations_in text ≡ min (decorations_of w) (2 ^ 32 - 1) = ap decorations_in e ∙ decorations_law ty w dims g in
        record {
          types_of = rw is (types_plain ty five w g k);
          edges = omega (arith, edges, p.edges);
          decorations = omega (arith, sum, total, p.decorations, small);
          only = λ u b. let l = keeps_of u b in sym l.back ∙ sym (h (written ty u) l.grammatical l.known (text_of u b));
        }

    pub no_canonical : (t : Plain) → IsBuilt t → (IsCanonical t → ⊥) → (u : Plain) → IsTreeOf ty most text u → ⊥
    no_canonical t b never u h = never (subst IsCanonical (b.only u h) h.canonical)

    pub no_text : (t : Plain) → IsBuilt t → (tree_text ty t ≡ text → ⊥) → (u : Plain) → IsTreeOf ty most text u → ⊥
    no_text t b never u h = never (ap (tree_text ty) (sym (b.only u h)) ∙ h.printed)
