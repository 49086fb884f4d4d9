-- What is read by its name is a symbol over the types and the parameters.
use Rattle.std.proofs.Common.{◌≡◌, ℕ, zero, suc, ◌<◌, ◌^◌, Bool, true, false, List, [], ◌∷◌, length, drop, Some, None, Option, refl, subst, arith}
use Rattle.std.proofs.lemmas.List.Quantifiers.{position-Some}
use Rattle.std.specs.Prelude.{◌==◌, ◌&&◌}
use Rattle.std.specs.List.{AllByRecursion}
use Rattle.std.specs.Str.{bytes_eq}
use Rattle.text_parts.specs.Reading.{number_at}
use Rattle.degree_numbers.specs.Multi.{is_zero}
use Rattle.degree_numbers.specs.Types.{kind_of}
use Rattle.degree_numbers.specs.declared.types.Types.{Types}
use Rattle.degree_numbers.specs.declared.types.Kind.{Kind}
use Rattle.degree_numbers.specs.declared.types.Kind.TheVariants.{Noise, Kernel}
use Rattle.tree_grammar.specs.Grammar.{number_named}
use Rattle.tree_grammar.specs.Words.{word}
use Rattle.plain_trees.specs.Degree.{IsMultiIndex}
use Rattle.plain_trees.specs.Reading.{IsTreeOf}
use Rattle.symbol_polys.specs.Reading.{IsSymbolOf}
use Rattle.symbol_polys.specs.SymbolReading.{parameter_number, entry_from, entry_at, entries_at, entries_behind, within, multi_behind, of_type, of_kind, of_parameter, variable_of, named_symbol}
use Rattle.symbol_polys.specs.Symbols.{PlainSymbol, parameter, variable, noise, tree, expectation, HasBoundedTree}
use Rattle.plain_trees.specs.Plain.{Plain}
use Rattle.symbol_polys.proofs.Entries.{all_zero}

abbrev Fit : List ℕ → Type 0
Fit m = AllByRecursion (λ x. x < 2 ^ 32) m

entry_fits : (text : List ℕ) (o : Option (ℕ × List ℕ)) → (entry_from text o).0 < 2 ^ 32
entry_fits text None = omega arith
entry_fits text (Some n) = omega arith

entries_fit : (k : ℕ) (text : List ℕ) → Fit (entries_at k text)
entries_fit zero text = tt
entries_fit (suc k) text = (entry_fits text (number_at text), entries_fit k (entry_at text).1)

length-entries : (k : ℕ) (text : List ℕ) → length (entries_at k text) ≡ k
length-entries zero text = refl
length-entries (suc k) text = let one = length-entries k (entry_at text).1 in omega (arith, one)

abbrev IsRead : List ℕ → Type 0
IsRead m = (length m ≡ 5) × Fit m

none_read : IsRead (0 ∷ 0 ∷ 0 ∷ 0 ∷ 0 ∷ [])
none_read = (refl, (omega arith, (omega arith, (omega arith, (omega arith, (omega arith, tt))))))

behind_at : (q b : ℕ) (text : List ℕ) (a : Bool) → (q == 39 && b == 40) ≡ a → IsRead (entries_behind (q ∷ b ∷ text))
behind_at q b text true e = rw e (length-entries 5 text, entries_fit 5 text)
behind_at q b text false e = rw e none_read

behind_read : (text : List ℕ) → IsRead (entries_behind text)
behind_read [] = none_read
behind_read (q ∷ []) = none_read
behind_read (q ∷ b ∷ text) = behind_at q b text (q == 39 && b == 40) refl

within_at : (dims : ℕ) (m n : List ℕ) (a : Bool) → is_zero (drop dims m) ≡ a → within dims m ≡ Some n → (m ≡ n) × (is_zero (drop dims m) ≡ true)
within_at dims m n true e h = let w : Some m ≡ Some n = rw e at h in (cc, e)
within_at dims m n false e h = let w : None ≡ Some n = rw e at h in absurd cc

multi_read : (dims : ℕ) (text m : List ℕ) → multi_behind dims text ≡ Some m → IsMultiIndex dims m × Fit m
multi_read dims text m h =
    let w = within_at dims (entries_behind text) m (is_zero (drop dims (entries_behind text))) refl h in
    let r = behind_read text in
    (record { entries = subst (λ x. length x ≡ 5) w.0 r.0; rest = subst (λ x. AllByRecursion (λ y. y ≡ 0) (drop dims x)) w.0 (all_zero (drop dims (entries_behind text)) w.1) }, subst Fit w.0 r.1)

no_tree : HasBoundedTree (noise 0)
no_tree = (tt, record { edges = omega arith; decorations = omega arith })

module _ (ty : Types) (ps : List (List ℕ)) where
  of_variable : (k : ℕ) (text : List ℕ) (o : Option (List ℕ)) (s : PlainSymbol) →
      kind_of ty k ≡ Some Kernel → multi_behind ty.dims text ≡ o → variable_of k o ≡ Some s →
      IsSymbolOf ty ps s
  of_variable k text None s kind e h = absurd cc
  of_variable k text (Some m) s kind e h =
      let w : variable k m ≡ s = cc in
      let r = multi_read ty.dims text m e in
      subst (IsSymbolOf ty ps) w record { over = (kind, r.0); bounded = no_tree; entries = r.1 }

  of_kinds : (k : ℕ) (text : List ℕ) (o : Option Kind) (s : PlainSymbol) → kind_of ty k ≡ o →
      of_kind o k (multi_behind ty.dims text) ≡ Some s → IsSymbolOf ty ps s
  of_kinds k text None s e h = absurd cc
  of_kinds k text (Some Noise) s e h = let w : noise k ≡ s = cc in subst (IsSymbolOf ty ps) w record { over = e; bounded = no_tree; entries = tt }
  of_kinds k text (Some Kernel) s e h = of_variable k text (multi_behind ty.dims text) s e refl h

  of_types : (o : Option ℕ) (text : List ℕ) (s : PlainSymbol) → of_type ty o text ≡ Some s → IsSymbolOf ty ps s
  of_types None text s h = absurd cc
  of_types (Some k) text s h = of_kinds k text (kind_of ty k) s refl h

  of_names : (name text : List ℕ) (o : Option ℕ) (s : PlainSymbol) → parameter_number ps name ≡ o →
      of_parameter o (of_type ty (number_named ty name) text) ≡ Some s → IsSymbolOf ty ps s
  of_names name text None s e h = of_types (number_named ty name) text s h
  of_names name text (Some i) s e h =
      let w : parameter i ≡ s = cc in
      subst (IsSymbolOf ty ps) w record { over = (position-Some (λ p. bytes_eq p name) ps i [] e).0; bounded = no_tree; entries = tt }

  pub named_symbol_is : (text : List ℕ) (s : PlainSymbol) → named_symbol ty ps text ≡ Some s → IsSymbolOf ty ps s
  named_symbol_is text s h = of_names (word text) (drop (length (word text)) text) (parameter_number ps (word text)) s refl h

  pub tree_is : (text : List ℕ) (t : Plain) → IsTreeOf ty 4096 text t → IsSymbolOf ty ps (tree t)
  tree_is text t h = record { over = h.types; bounded = (h.canonical, record { edges = h.edges; decorations = h.decorations }); entries = tt }

  pub expectation_is : (text : List ℕ) (t : Plain) → IsTreeOf ty 4096 text t → IsSymbolOf ty ps (expectation t)
  expectation_is text t h = record { over = h.types; bounded = (h.canonical, record { edges = h.edges; decorations = h.decorations }); entries = tt }
