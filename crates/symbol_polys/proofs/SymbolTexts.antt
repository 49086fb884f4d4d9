-- The text of a symbol is read back.
use Rattle.std.proofs.Common.{◌≡◌, ℕ, ◌<◌, ◌≤◌, ◌^◌, Bool, true, false, List, [], ◌∷◌, ◌++◌, length, Some, None, refl, sym, ◌∙◌, arith, append-nil, eqb-true, subst}
use Rattle.std.proofs.Math.Seq.{drop-append_seam}
use Rattle.std.specs.Prelude.{◌==◌, ◌&&◌, if◌then◌else◌, ⊤}
use Rattle.std.specs.List.{AllByRecursion}
use Rattle.degree_numbers.specs.Name.{is_name, is_name_byte}
use Rattle.degree_numbers.specs.EdgeText.{multi_text}
use Rattle.degree_numbers.specs.Multi.{is_zero}
use Rattle.degree_numbers.specs.Types.{kind_of, name_of}
use Rattle.degree_numbers.specs.declared.types.Types.{Types}
use Rattle.degree_numbers.specs.declared.types.Kind.TheVariants.{Noise, Kernel}
use Rattle.tree_grammar.specs.Grammar.{number_named}
use Rattle.tree_grammar.specs.Words.{word}
use Rattle.tree_grammar.proofs.WordSums.{AreNameBytes, name_bytes, word_of}
use Rattle.plain_trees.specs.Degree.{IsMultiIndex}
use Rattle.plain_trees.specs.Reading.{IsTreeOf}
use Rattle.plain_trees.specs.Text.{tree_text}
use Rattle.plain_trees.specs.Plain.{Plain}
use Rattle.symbol_polys.specs.Reading.{IsSymbolOf}
use Rattle.symbol_polys.specs.SymbolReading.{parameter_number, entries_behind, of_type, of_parameter, named_symbol, tree_behind}
use Rattle.symbol_polys.specs.Symbols.{PlainSymbol, parameter, variable, noise, tree, expectation}
use Rattle.symbol_polys.specs.Text.{AreParameters, parameter_name, symbol_text}
use Rattle.symbol_polys.proofs.Entries.{zero_index, index_back, within_back}
use Rattle.symbol_polys.proofs.SymbolNames.{type_at, parameter_found, parameter_is_name}

not_both : (a b : Bool) → b ≡ false → (a && b) ≡ false
not_both true b h = h
not_both false b h = refl

no_open_at : (c : ℕ) (b : Bool) → (c == 91) ≡ b → is_name_byte c ≡ true → (c == 91) ≡ false
no_open_at c true e h = let w : is_name_byte 91 ≡ true = rw (eqb-true c 91 e) at h in absurd cc
no_open_at c false e h = e

no_open : (c : ℕ) → is_name_byte c ≡ true → (c == 91) ≡ false
no_open c h = no_open_at c (c == 91) refl h

pub none_some : {A : Type 0} {x : A} → None ≡ Some x → ⊥
none_some e = absurd cc

pub some_is : {A : Type 0} {x y : A} → Some x ≡ Some y → x ≡ y
some_is e = cc

-- no bracket opens at the front
abbrev Quiet : List ℕ → Type 0
Quiet [] = ⊤
Quiet (c ∷ cs) = (c == 91) ≡ false

-- no tree stands behind a mark where a name stands
no_tree : (mark : ℕ) (v rest : List ℕ) → AreNameBytes v → 0 < length v → Quiet rest → tree_behind mark (v ++ rest) ≡ None
no_tree mark [] rest h some q = absurd (omega arith)
no_tree mark (c ∷ []) [] h some q = refl
no_tree mark (c ∷ []) (b ∷ rest) h some q = rw (not_both (c == mark) (b == 91) q) refl
no_tree mark (c ∷ d ∷ v) rest h some q = rw (not_both (c == mark) (d == 91) (no_open d h.1.0)) refl

some_bytes : (v : List ℕ) → is_name v ≡ true → 0 < length v
some_bytes [] h = absurd cc
some_bytes (c ∷ v) h = omega arith

-- what is said of a symbol and its text: a tree stands behind the mark of its kind, or its name at
-- the front
abbrev pub Says : Types → List (List ℕ) → List ℕ → PlainSymbol → Type 0
Says ty ps text (tree t) = (tree_behind 84 text ≡ Some (tree_text ty t)) × IsTreeOf ty 4096 (tree_text ty t) t
Says ty ps text (expectation t) = (tree_behind 84 text ≡ None) × (tree_behind 69 text ≡ Some (tree_text ty t)) × IsTreeOf ty 4096 (tree_text ty t) t
Says ty ps text s = (tree_behind 84 text ≡ None) × (tree_behind 69 text ≡ None) × (named_symbol ty ps text ≡ Some s)

-- the name at the front, and what is read of it
record IsNamed (ty : Types) (ps : List (List ℕ)) (name rest : List ℕ) (s : PlainSymbol) : Type 0 where
  name_is : is_name name ≡ true
  stops : word rest ≡ []
  quiet : Quiet rest
  read : of_parameter (parameter_number ps name) (of_type ty (number_named ty name) rest) ≡ Some s

module _ (ty : Types) (ps : List (List ℕ)) where
  named_is : (name rest : List ℕ) (s : PlainSymbol) → IsNamed ty ps name rest s → named_symbol ty ps (name ++ rest) ≡ Some s
  named_is name rest s h =
      rw (word_of name rest (name_bytes name h.name_is) h.stops, drop-append_seam name rest) h.read

  named : (name rest : List ℕ) (s : PlainSymbol) → IsNamed ty ps name rest s →
      (tree_behind 84 (name ++ rest) ≡ None) × (tree_behind 69 (name ++ rest) ≡ None) × (named_symbol ty ps (name ++ rest) ≡ Some s)
  named name rest s h =
      let bytes = name_bytes name h.name_is in
      let some = some_bytes name h.name_is in
      (no_tree 84 name rest bytes some h.quiet, no_tree 69 name rest bytes some h.quiet, named_is name rest s h)

  parameter_named : (i : ℕ) → AreParameters ty ps → i < length ps → IsNamed ty ps (parameter_name ps i) [] (parameter i)
  parameter_named i h l = record {
    name_is = parameter_is_name ty ps i h l;
    stops = refl;
    quiet = tt;
    read = rw (parameter_found ty ps i h l) refl;
  }

  noise_named : (k : ℕ) → AreParameters ty ps → kind_of ty k ≡ Some Noise → IsNamed ty ps (name_of ty k) [] (noise k)
  noise_named k h kind =
      let at = type_at ty ps k Noise h kind in
      record {
        name_is = at.name;
        stops = refl;
        quiet = tt;
        read = rw (at.no_parameter, at.found, kind) refl;
      }

  variable_read : (k : ℕ) (m rest : List ℕ) → AreParameters ty ps → kind_of ty k ≡ Some Kernel → entries_behind rest ≡ m → IsMultiIndex ty.dims m →
      of_parameter (parameter_number ps (name_of ty k)) (of_type ty (number_named ty (name_of ty k)) rest) ≡ Some (variable k m)
  variable_read k m rest h kind e index =
      let at = type_at ty ps k Kernel h kind in
      rw (at.no_parameter, at.found, kind, e, within_back ty.dims m index) refl

  variable_named : (k : ℕ) (m : List ℕ) (b : Bool) → is_zero m ≡ b → AreParameters ty ps →
      0 < ty.dims → ty.dims ≤ 5 → kind_of ty k ≡ Some Kernel → IsMultiIndex ty.dims m →
      AllByRecursion (λ x. x < 2 ^ 32) m → IsNamed ty ps (name_of ty k) (if is_zero m then [] else 39 ∷ multi_text ty.dims m) (variable k m)
  variable_named k m true e h some most kind index fits = record {
    name_is = (type_at ty ps k Kernel h kind).name;
    stops = rw e refl;
    quiet = rw e tt;
    read = rw e (variable_read k m [] h kind (zero_index m index.entries e) index);
  }
  variable_named k m false e h some most kind index fits = record {
    name_is = (type_at ty ps k Kernel h kind).name;
    stops = rw e refl;
    quiet = rw e refl;
    read = rw e (variable_read k m (39 ∷ multi_text ty.dims m) h kind (index_back ty.dims m some most index fits) index);
  }

  pub says : (s : PlainSymbol) → AreParameters ty ps → 0 < ty.dims → ty.dims ≤ 5 → IsSymbolOf ty ps s → Says ty ps (symbol_text ty ps s) s
  says (parameter i) h some most of =
      let name = parameter_name ps i in
      subst (λ x. Says ty ps x (parameter i)) (append-nil name) (named name [] (parameter i) (parameter_named i h of.over))
  says (variable k m) h some most of = named (name_of ty k) _ (variable k m) (variable_named k m (is_zero m) refl h some most of.over.0 of.over.1 of.entries)
  says (noise k) h some most of =
      let name = name_of ty k in
      subst (λ x. Says ty ps x (noise k)) (append-nil name) (named name [] (noise k) (noise_named k h of.over))
  says (tree t) h some most of = (refl, record { types = of.over; canonical = of.bounded.0; edges = of.bounded.1.edges; decorations = of.bounded.1.decorations; printed = refl })
  says (expectation t) h some most of = (refl, refl, record { types = of.over; canonical = of.bounded.0; edges = of.bounded.1.edges; decorations = of.bounded.1.decorations; printed = refl })

  pub says_of : (text : List ℕ) (s : PlainSymbol) → AreParameters ty ps → 0 < ty.dims →
      ty.dims ≤ 5 → IsSymbolOf ty ps s → symbol_text ty ps s ≡ text → Says ty ps text s
  says_of text s h some most of e = subst (λ x. Says ty ps x s) e (says s h some most of)

  -- what holds of each symbol with a text: where a tree stands behind `T`, behind `E`, and where
  -- none does
  module _ (text : List ℕ) (Q : PlainSymbol → Type 0) where
    pub behind_t : (tr : List ℕ) (s : PlainSymbol) → tree_behind 84 text ≡ Some tr → ((t : Plain) → IsTreeOf ty 4096 tr t → Q (tree t)) → Says ty ps text s → Q s
    behind_t tr (tree t) e q h = let w : tree_text ty t ≡ tr = some_is (sym h.0 ∙ e) in q t (subst (λ x. IsTreeOf ty 4096 x t) w h.1)
    behind_t tr (expectation t) e q h = absurd (none_some (sym h.0 ∙ e))
    behind_t tr (parameter i) e q h = absurd (none_some (sym h.0 ∙ e))
    behind_t tr (variable k m) e q h = absurd (none_some (sym h.0 ∙ e))
    behind_t tr (noise k) e q h = absurd (none_some (sym h.0 ∙ e))

    pub behind_e : (tr : List ℕ) (s : PlainSymbol) → tree_behind 84 text ≡ None → tree_behind 69 text ≡ Some tr → ((t : Plain) → IsTreeOf ty 4096 tr t → Q (expectation t)) → Says ty ps text s → Q s
    behind_e tr (tree t) n e q h = absurd (none_some (sym n ∙ h.0))
    behind_e tr (expectation t) n e q h = let w : tree_text ty t ≡ tr = some_is (sym h.1 ∙ e) in q t (subst (λ x. IsTreeOf ty 4096 x t) w h.2)
    behind_e tr (parameter i) n e q h = absurd (none_some (sym h.1 ∙ e))
    behind_e tr (variable k m) n e q h = absurd (none_some (sym h.1 ∙ e))
    behind_e tr (noise k) n e q h = absurd (none_some (sym h.1 ∙ e))

    pub behind_none : (s : PlainSymbol) → tree_behind 84 text ≡ None → tree_behind 69 text ≡ None → (named_symbol ty ps text ≡ Some s → Q s) → Says ty ps text s → Q s
    behind_none (tree t) n e q h = absurd (none_some (sym n ∙ h.0))
    behind_none (expectation t) n e q h = absurd (none_some (sym e ∙ h.1))
    behind_none (parameter i) n e q h = q h.2
    behind_none (variable k m) n e q h = q h.2
    behind_none (noise k) n e q h = q h.2
