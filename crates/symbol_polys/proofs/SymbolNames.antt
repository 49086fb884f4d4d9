-- Symbols are found by their names.
use Rattle.std.proofs.Common.{◌≡◌, ◌≢◌, ℕ, zero, suc, ◌<◌, Bool, true, false, List, [], ◌∷◌, ◌++◌, length, map, Some, None, Option, refl, ap, sym, arith, nat_lt}
use Rattle.std.proofs.lemmas.Bool.Decides.{nat_tests}
use Rattle.std.proofs.lemmas.Slice.Eq.{bytes_eq-Decides}
use Rattle.std.specs.Prelude.{slice_get, unwrap_or}
use Rattle.std.specs.Str.{bytes_eq}
use Rattle.std.specs.List.{position_or_len, AllByRecursion}
use Rattle.degree_numbers.specs.Name.{is_name}
use Rattle.degree_numbers.specs.Types.{kind_of, name_of, AreDifferent}
use Rattle.degree_numbers.specs.declared.types.Types.{Types}
use Rattle.degree_numbers.specs.declared.types.TypeEntry.{TypeEntry}
use Rattle.degree_numbers.specs.declared.types.Kind.{Kind}
use Rattle.tree_grammar.specs.Grammar.{number_named}
use Rattle.tree_grammar.proofs.Numbers.{number_found}
use Rattle.symbol_polys.specs.SymbolReading.{parameter_number}
use Rattle.symbol_polys.specs.Text.{AreParameters, parameter_name}

-- what is said of each of two lists, of their parts and of a place
all_front : (P : List ℕ → Type 0) (xs ys : List (List ℕ)) → AllByRecursion P (xs ++ ys) → AllByRecursion P xs
all_front P [] ys h = tt
all_front P (x ∷ xs) ys h = (h.0, all_front P xs ys h.1)

all_back : (P : List ℕ → Type 0) (xs ys : List (List ℕ)) → AllByRecursion P (xs ++ ys) → AllByRecursion P ys
all_back P [] ys h = h
all_back P (x ∷ xs) ys h = all_back P xs ys h.1

all_at : (P : List ℕ → Type 0) (xs : List (List ℕ)) (i : ℕ) → i < length xs → AllByRecursion P xs → P (unwrap_or (slice_get xs i) [])
all_at P [] i l h = absurd (omega arith)
all_at P (x ∷ xs) zero l h = h.0
all_at P (x ∷ xs) (suc i) l h = all_at P xs i (omega arith) h.1

different_front : (xs ys : List (List ℕ)) → AreDifferent (xs ++ ys) → AreDifferent xs
different_front [] ys h = tt
different_front (x ∷ xs) ys h = (all_front (λ other. other ≢ x) xs ys h.0, different_front xs ys h.1)

different_back : (xs ys : List (List ℕ)) → AreDifferent (xs ++ ys) → AreDifferent ys
different_back [] ys h = h
different_back (x ∷ xs) ys h = different_back xs ys h.1

-- no name of the first list stands in the second one
apart : (xs ys : List (List ℕ)) (j : ℕ) → j < length ys → AreDifferent (xs ++ ys) → AllByRecursion (λ x. x ≢ unwrap_or (slice_get ys j) []) xs
apart [] ys j l h = tt
apart (x ∷ xs) ys j l h = ((λ e. all_at (λ other. other ≢ x) ys j l (all_back (λ other. other ≢ x) xs ys h.0) (sym e)), apart xs ys j l h.1)

unequal : (x n : List ℕ) (b : Bool) → bytes_eq x n ≡ b → x ≢ n → bytes_eq x n ≡ false
unequal x n true e h = absurd (h ((bytes_eq-Decides x n).0 e))
unequal x n false e h = e

missing_at : (xs : List (List ℕ)) (n : List ℕ) → AllByRecursion (λ x. x ≢ n) xs → position_or_len (λ p. bytes_eq p n) xs ≡ length xs
missing_at [] n h = refl
missing_at (x ∷ xs) n h = rw (unequal x n (bytes_eq x n) refl h.0, missing_at xs n h.1) (omega arith)

found_at : (xs : List (List ℕ)) (i : ℕ) → i < length xs → AreDifferent xs → position_or_len (λ p. bytes_eq p (unwrap_or (slice_get xs i) [])) xs ≡ i
found_at [] i l h = absurd (omega arith)
found_at (x ∷ xs) zero l h = rw ((bytes_eq-Decides x x).1 refl) refl
found_at (x ∷ xs) (suc i) l h =
    let n = unwrap_or (slice_get xs i) [] in
    let differs : x ≢ n = λ e. all_at (λ other. other ≢ x) xs i (omega arith) h.0 (sym e) in
    rw (unequal x n (bytes_eq x n) refl differs, found_at xs i (omega arith) h.1) (omega arith)

pub parameter_found : (ty : Types) (ps : List (List ℕ)) (i : ℕ) → AreParameters ty ps → i < length ps → parameter_number ps (parameter_name ps i) ≡ Some i
parameter_found ty ps i h l =
    let at = found_at ps i l (different_front ps (map (λ e. e.name) ty.list) h.names.different) in
    let below : nat_lt i (length ps) ≡ true = grind (arith, nat_tests) in
    rw (at, below) refl

no_parameter : (ps : List (List ℕ)) (n : List ℕ) → AllByRecursion (λ x. x ≢ n) ps → parameter_number ps n ≡ None
no_parameter ps n h =
    let above : nat_lt (length ps) (length ps) ≡ false = grind (arith, nat_tests) in
    rw (missing_at ps n h, above) refl

-- the entry of a type
entry_at : (es : List TypeEntry) (k : ℕ) (e : TypeEntry) → slice_get es k ≡ Some e →
    (k < length (map (λ f. f.name) es)) × (unwrap_or (slice_get (map (λ f. f.name) es) k) [] ≡ e.name)
entry_at [] k e h = absurd cc
entry_at (x ∷ es) zero e h = (omega arith, let w : x ≡ e = cc in ap (λ (f : TypeEntry). f.name) w)
entry_at (x ∷ es) (suc k) e h = let more = entry_at es k e h in (omega (arith, more.0), more.1)

pub record IsTypeAt (ty : Types) (ps : List (List ℕ)) (k : ℕ) (kind : Kind) : Type 0 where
  pub name : is_name (name_of ty k) ≡ true
  pub no_parameter : parameter_number ps (name_of ty k) ≡ None
  pub found : number_named ty (name_of ty k) ≡ Some k

type_by : (ty : Types) (ps : List (List ℕ)) (k : ℕ) (kind : Kind) (o : Option TypeEntry) →
    AreParameters ty ps → slice_get ty.list k ≡ o → kind_of ty k ≡ Some kind → IsTypeAt ty ps k kind
type_by ty ps k kind None h e g = let w : None ≡ Some kind = rw e at g in absurd cc
type_by ty ps k kind (Some x) h e g =
    let ns = map (λ f. f.name) ty.list in
    let at = entry_at ty.list k x e in
    let named : name_of ty k ≡ x.name = rw e refl in
    let all = all_at (λ n. is_name n ≡ true) ns k at.0 (all_back (λ n. is_name n ≡ true) ps ns h.names.are_names) in
    record {
      name = rw named (rw at.1 at all);
      no_parameter = rw named (no_parameter ps x.name (rw at.1 at (apart ps ns k at.0 h.names.different)));
      found = rw named (number_found ty k x (different_back ps ns h.names.different) e);
    }

pub type_at : (ty : Types) (ps : List (List ℕ)) (k : ℕ) (kind : Kind) → AreParameters ty ps → kind_of ty k ≡ Some kind → IsTypeAt ty ps k kind
type_at ty ps k kind h g = type_by ty ps k kind (slice_get ty.list k) h refl g

pub parameter_is_name : (ty : Types) (ps : List (List ℕ)) (i : ℕ) → AreParameters ty ps → i < length ps → is_name (parameter_name ps i) ≡ true
parameter_is_name ty ps i h l = all_at (λ n. is_name n ≡ true) ps i l (all_front (λ n. is_name n ≡ true) ps (map (λ e. e.name) ty.list) h.names.are_names)
