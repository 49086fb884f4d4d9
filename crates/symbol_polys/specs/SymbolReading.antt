-- The symbol that a text names.
-- Working notions of the code and of proofs, which no contract of a public call names:
--   parameter_number ps name == the number of the first parameter with this name
--   entry_from text n == of the number n that was found at the front of text; 0 where there is none
--   entry_at text == the number at the front, where one past 2^32-1 counts as 2^32-1, and what
--       stands behind it and a comma; 0 where there is none
--   entries_at k text == the next k numbers
--   entries_behind text == the five entries behind `'(`; those of 0 where that is not there
--   within dims m == m, where its entries past the number of directions are 0
--   multi_behind dims text == the multiindex behind `'(`; 0 where that is not there; none where an
--       entry past the number of directions is not 0
--   variable_of k m == the derivative by m of the unknown of kernel k, where m is there
--   of_kind kind k m == the noise k, or such a derivative, by the kind of type k
--   of_type ty k text == the symbol of type k, where there is one, with the multiindex at the front
--       of text
--   of_parameter i other == the parameter i, where there is one, else the other symbol
--   named_symbol ty ps text == the parameter, the noise or the variable whose name stands at the
--       front
--   tree_behind mark text == what stands behind the mark, where a bracket opens there
use Rattle.std.specs.Prelude.{ℕ, zero, suc, ◌-◌, ◌^◌, ◌==◌, ◌&&◌, if◌then◌else◌, min, List, [], ◌∷◌, length, drop, Option, Some, None}
use Rattle.std.specs.List.{position}
use Rattle.std.specs.Str.{bytes_eq}
use Rattle.text_parts.specs.Reading.{number_at}
use Rattle.degree_numbers.specs.declared.types.Types.{Types}
use Rattle.degree_numbers.specs.declared.types.Kind.{Kind}
use Rattle.degree_numbers.specs.declared.types.Kind.TheVariants.{Noise, Kernel}
use Rattle.degree_numbers.specs.Multi.{is_zero}
use Rattle.degree_numbers.specs.Types.{kind_of}
use Rattle.tree_grammar.specs.Grammar.{number_named}
use Rattle.tree_grammar.specs.Words.{word, behind_comma}
use Rattle.symbol_polys.specs.Symbols.{PlainSymbol, parameter, variable, noise}

abbrev pub parameter_number : List (List ℕ) → List ℕ → Option ℕ
parameter_number ps name = position (λ p. bytes_eq p name) ps

abbrev pub entry_from : List ℕ → Option (ℕ × List ℕ) → ℕ × List ℕ
entry_from text None = (0, text)
entry_from text (Some n) = (min n.0 (2 ^ 32 - 1), behind_comma n.1)

abbrev pub entry_at : List ℕ → ℕ × List ℕ
entry_at text = entry_from text (number_at text)

abbrev pub entries_at : ℕ → List ℕ → List ℕ
entries_at zero text = []
entries_at (suc k) text = (entry_at text).0 ∷ entries_at k (entry_at text).1

abbrev pub entries_behind : List ℕ → List ℕ
entries_behind (q ∷ b ∷ text) =
    if q == 39 && b == 40 then entries_at 5 text else 0 ∷ 0 ∷ 0 ∷ 0 ∷ 0 ∷ []
entries_behind text = 0 ∷ 0 ∷ 0 ∷ 0 ∷ 0 ∷ []

abbrev pub within : ℕ → List ℕ → Option (List ℕ)
within dims m = if is_zero (drop dims m) then Some m else None

abbrev pub multi_behind : ℕ → List ℕ → Option (List ℕ)
multi_behind dims text = within dims (entries_behind text)

abbrev pub variable_of : ℕ → Option (List ℕ) → Option PlainSymbol
variable_of k None = None
variable_of k (Some m) = Some (variable k m)

abbrev pub of_kind : Option Kind → ℕ → Option (List ℕ) → Option PlainSymbol
of_kind None k m = None
of_kind (Some Noise) k m = Some (noise k)
of_kind (Some Kernel) k m = variable_of k m

abbrev pub of_type : Types → Option ℕ → List ℕ → Option PlainSymbol
of_type ty None text = None
of_type ty (Some k) text = of_kind (kind_of ty k) k (multi_behind ty.dims text)

abbrev pub of_parameter : Option ℕ → Option PlainSymbol → Option PlainSymbol
of_parameter None other = other
of_parameter (Some i) other = Some (parameter i)

abbrev pub named_symbol : Types → List (List ℕ) → List ℕ → Option PlainSymbol
named_symbol ty ps text = of_parameter (parameter_number ps (word text))
    (of_type ty (number_named ty (word text)) (drop (length (word text)) text))

abbrev pub tree_behind : ℕ → List ℕ → Option (List ℕ)
tree_behind mark (c ∷ b ∷ text) = if c == mark && b == 91 then Some (b ∷ text) else None
tree_behind mark text = None
