-- The grammar of tree texts.
--   Written == what is written: edges with name, multiindex if one is written, and subtree if one
--       is written (`leaf` without, `planted` with one); at the end the multiindex of the root, if
--       one is written
--   entries_onto es s == the entries es, joined by commas, and `)`, in front of s
--   quoted_onto p s == the multiindex of an edge, if one is written, behind `'(`, in front of s
--   written_root t == the multiindex of the root of t
--   unstarred t s == s without the `*` of the first of the edges of t, where there is one
--   inside x t s == what stands in the brackets of t: `X` and the multiindex x of its root, if one
--       is written, and its edges s
--   starred_onto t s == the edges of t, each after a `*`, in front of s
--   written_text t == its text
--   IsNumber ds == ds is a digit or more, and nothing else
--   IsMulti dims x == x is not written, or has as many numbers as there are directions
--   number_named ty n == the number of the first type with this name
--   kind_named ty n == whether that is a noise or a kernel, where there is such a type
--   may_end kind, may_open kind == an edge of this kind, or of no type, may stand without a
--       subtree; with one
--   IsGrammatical ty t == names are names, numbers are numbers, multiindices are such, a noise has
--       no subtree, a kernel has one, and a name of no type may have one
use Rattle.std.specs.Prelude.{◌≡◌, ℕ, Bool, true, false, List, [], ◌∷◌, ◌++◌, drop, length, Option, Some, None}
use Rattle.std.specs.List.{AllByRecursion, position}
use Rattle.std.specs.Option.{option_and_then}
use Rattle.std.specs.Char.{is_ascii_digit}
use Rattle.std.specs.Str.{bytes_eq}
use Rattle.degree_numbers.specs.Name.{is_name}
use Rattle.degree_numbers.specs.Types.{kind_of}
use Rattle.degree_numbers.specs.declared.types.Types.{Types}
use Rattle.degree_numbers.specs.declared.types.Kind.{Kind}
use Rattle.degree_numbers.specs.declared.types.Kind.TheVariants.{Noise, Kernel}

pub data Written : Type 0 where
  root : (x : Option (List (List ℕ))) → Written
  leaf : (name : List ℕ) → (p : Option (List (List ℕ))) → (rest : Written) → Written
  planted : (name : List ℕ) → (p : Option (List (List ℕ))) → (child : Written) → (rest : Written) →
      Written

-- texts in front of what follows: the entries after `(`, and an edge's multiindex
abbrev pub entries_onto : List (List ℕ) → List ℕ → List ℕ
entries_onto [] s = s
entries_onto (e ∷ []) s = e ++ 41 ∷ s
entries_onto (e ∷ f ∷ es) s = e ++ 44 ∷ entries_onto (f ∷ es) s

abbrev pub quoted_onto : Option (List (List ℕ)) → List ℕ → List ℕ
quoted_onto None s = s
quoted_onto (Some es) s = 39 ∷ 40 ∷ entries_onto es s

abbrev pub written_root : Written → Option (List (List ℕ))
written_root (root x) = x
written_root (leaf n p t) = written_root t
written_root (planted n p c t) = written_root t

-- the first factor has no `*`
abbrev pub unstarred : Written → List ℕ → List ℕ
unstarred (root x) s = s
unstarred (leaf n p t) s = drop 1 s
unstarred (planted n p c t) s = drop 1 s

abbrev pub inside : Option (List (List ℕ)) → Written → List ℕ → List ℕ
inside None t s = unstarred t s
inside (Some es) t s = 88 ∷ 40 ∷ entries_onto es s

-- the edges, each after a `*`
abbrev pub starred_onto : Written → List ℕ → List ℕ
starred_onto (root x) s = s
starred_onto (leaf n p t) s = 42 ∷ (n ++ quoted_onto p (starred_onto t s))
starred_onto (planted n p c t) s =
    42 ∷ (n
    ++ quoted_onto p (91 ∷ inside (written_root c) c (starred_onto c (93 ∷ starred_onto t s))))

abbrev pub written_text : Written → List ℕ
written_text t = 91 ∷ inside (written_root t) t (starred_onto t (93 ∷ []))

abbrev pub IsNumber : List ℕ → Type 0
IsNumber [] = ⊥
IsNumber (b ∷ bs) = (is_ascii_digit b ≡ true) × AllByRecursion (λ c. is_ascii_digit c ≡ true) bs

abbrev pub IsMulti : ℕ → Option (List (List ℕ)) → Type 0
IsMulti dims None = Unit {0}
IsMulti dims (Some es) = (length es ≡ dims) × AllByRecursion IsNumber es

-- the number of the first type with this name
abbrev pub number_named : Types → List ℕ → Option ℕ
number_named ty n = position (λ e. bytes_eq e.name n) ty.list

abbrev pub kind_named : Types → List ℕ → Option Kind
kind_named ty n = option_and_then (kind_of ty) (number_named ty n)

-- whether an edge of this kind may stand without a subtree
abbrev pub may_end : Option Kind → Bool
may_end None = true
may_end (Some Noise) = true
may_end (Some Kernel) = false

-- whether it may have one
abbrev pub may_open : Option Kind → Bool
may_open None = true
may_open (Some Noise) = false
may_open (Some Kernel) = true

abbrev pub IsGrammatical : Types → Written → Type 0
IsGrammatical ty (root x) = IsMulti ty.dims x
IsGrammatical ty (leaf n p t) = (is_name n ≡ true) × IsMulti ty.dims p
    × (may_end (kind_named ty n) ≡ true) × IsGrammatical ty t
IsGrammatical ty (planted n p c t) = (is_name n ≡ true) × IsMulti ty.dims p
    × (may_open (kind_named ty n) ≡ true) × IsGrammatical ty c × IsGrammatical ty t
