-- The right sides of an accepted file are within all limits, with their terms in order.
--   Fits ty names == the types are the noises and the unknowns among the names
--   IsProduct ty count p == a written term within the limits, with its parameters and its factors
--       in order
--   IsRight ty count ts == at most 64 terms, each of which IsRightTerm
use Rattle.std.proofs.Common.{◌≡◌, ◌≢◌, ℕ, zero, suc, ◌+◌, ◌-◌, ◌*◌, ◌<◌, ◌≤◌, ◌⊎◌, ⊎_elim, inl, inr, min, Bool, true, false, true≢false, not, cond, ◌&&◌, ◌||◌, ◌==◌, nat_lt, nat_le, if◌then◌else◌, List, [], ◌∷◌, ◌++◌, map, length, take, filter, fold, slice_index, All, ℤ, pos, ◌-ℤ◌, unsigned_abs, int_eq, nat_cmp, None, Ok, refl, sym, ap, subst, ◌∙◌, arith, length-append, le_trans, div-le_self, mul-le-mul}
use Rattle.std.proofs.lemmas.Bool.{and_parts}
use Rattle.std.specs.Bool.{beq}
use Rattle.std.specs.Cmp.{nat_cmp_total}
use Rattle.std.specs.List.{AllByRecursion, list_any, range_with_len}
use Rattle.std.proofs.lemmas.Bool.Decides.{nat_tests}
use Rattle.std.proofs.lemmas.Int.{ints}
use Rattle.std.proofs.lemmas.List.{get_or_past, length-map, length-take-le}
use Rattle.std.proofs.lemmas.List.Elements.{All-from_recursion}
use Rattle.text_parts.specs.Reading.{most}
use Rattle.degree_numbers.specs.declared.degree.Degree.{Degree}
use Rattle.degree_numbers.specs.declared.types.Types.{Types}
use Rattle.degree_numbers.specs.Types.{noise_count}
use Rattle.degree_numbers.specs.Written.{degree_in}
use Rattle.degree_numbers.proofs.TypeBounds.{all_weaker}
use Rattle.right_side_text.specs.declared.written.WrittenFactor.{WrittenFactor}
use Rattle.right_side_text.specs.declared.written.WrittenTerm.{WrittenTerm}
use Rattle.right_side_text.proofs.TermFacts.{all_push}
use Rattle.equation_document.specs.declared.document.Document.{Document}
use Rattle.equation_document.specs.declared.document.NoiseEntry.{NoiseEntry}
use Rattle.equation_document.specs.declared.document.UnknownEntry.{UnknownEntry}
use Rattle.equation_document.specs.declared.names.Names.{Names}
use Rattle.equation_document.specs.FirstOf.{over, first_of}
use Rattle.equation_document.specs.Limits.{right_terms, units_of, denominator_of, limits_of}
use Rattle.equation_document.specs.Names.{place_of, stands_in, is_noise}
use Rattle.equation_document.specs.Terms.{term_number, power_of, term_factors, factor_derivative, term_derivative}
use Rattle.equation_document.proofs.DocumentRead.{IsFactorRead, IsTermRead, IsRead}
use Rattle.equation_document.proofs.FirstOfLemmas.{neither, within, none_index}
use Rattle.equation_document.proofs.LimitFacts.{is_within}
use Rattle.equations.specs.declared.equation.RightTerm.{RightTerm}
use Rattle.equation_file.specs.declared.product.Product.{Product}
use Rattle.equations.specs.Accepted.{IsFactor, IsRightTerm}
use Rattle.equation_file.specs.Collect.{same, with_new, different, size, sum_under, coefficient_of, collected}
use Rattle.equations.specs.EdgeTypes.{EdgeType, edge_type_order}
use Rattle.equation_file.specs.Meaning.{groups_of, noise_type, kernel_type, type_list, types_of, unknowns_from, equation_in}
use Rattle.equation_file.specs.Products.{placed_often, five, is_parameter, edge_type_of, with_parameter, with_factor, product_of, products}
use Rattle.equation_file.proofs.AcceptedTypes.{noise_count_is}
use Rattle.equations.proofs.Directions.{zeros_behind}
use Rattle.equations.proofs.EdgeTypeLaws.{edge_type_order_total}
use Rattle.equation_file.proofs.PlacedLaws.{Rises, rises_often, all_often, length_often, count_often, sorted_from}

pub record Fits (ty : Types) (names : Names) : Type 0 where
  pub unknowns : names.first_unknown ≡ names.first_noise + noise_count ty
  pub all : length names.list ≡ names.first_noise + length ty.list

pub record IsProduct (ty : Types) (count : ℕ) (p : Product) : Type 0 where
  pub num : p.coefficient.num ≤ 1000000
  pub few : length p.parameters + length p.factors ≤ 24
  pub parameters_rise : Rises nat_cmp p.parameters
  pub parameters_known : AllByRecursion (λ n. n < count) p.parameters
  pub factors_rise : Rises edge_type_order p.factors
  pub factors_known : AllByRecursion (IsFactor ty) p.factors
  pub one_noise : length (filter (λ f. nat_lt f.0.0 (noise_count ty)) p.factors) ≤ 1

abbrev pub IsRight : Types → ℕ → List RightTerm → Type 0
IsRight ty count ts = (length ts ≤ 64) × All (IsRightTerm ty count) ts

-- tests

below : (n m : ℕ) → nat_lt n m ≡ true → n < m
below n m e = grind (arith, nat_tests)

not_below : (n m : ℕ) → nat_lt n m ≡ false → m ≤ n
not_below n m e = grind (arith, nat_tests)

at_most : (n m : ℕ) → nat_le n m ≡ true → n ≤ m
at_most n m e = grind (arith, nat_tests)

is_zero : (n : ℕ) → (n == 0) ≡ true → n ≡ 0
is_zero n e = grind (arith, nat_tests)

either : (a b : Bool) → (a || b) ≡ true → (a ≡ true) ⊎ (b ≡ true)
either true b h = inl refl
either false b h = inr h

-- factors

no_entries : (xs : List ℕ) → length xs ≡ 0 → five xs ≡ 0 ∷ 0 ∷ 0 ∷ 0 ∷ 0 ∷ []
no_entries [] h = refl
no_entries (x ∷ xs) h = absurd (omega (arith, h))

short : (n dims : ℕ) → (n ≡ 0) ⊎ (n ≡ dims) → n ≤ dims
short n dims h = ⊎_elim (λ e. omega (arith, e)) (λ e. omega (arith, e)) h

five_past : (xs : List ℕ) (n i : ℕ) → length xs ≤ n → n ≤ i → slice_index (five xs) i ≡ 0
five_past xs n zero long le = get_or_past xs 0 0 (omega (arith, long, le))
five_past xs n (suc zero) long le = get_or_past xs 1 0 (omega (arith, long, le))
five_past xs n (suc (suc zero)) long le = get_or_past xs 2 0 (omega (arith, long, le))
five_past xs n (suc (suc (suc zero))) long le = get_or_past xs 3 0 (omega (arith, long, le))
five_past xs n (suc (suc (suc (suc zero)))) long le = get_or_past xs 4 0 (omega (arith, long, le))
five_past xs n (suc (suc (suc (suc (suc i))))) long le = refl

five_small : (xs : List ℕ) → first_of (over 8) xs ≡ None → All (λ n. n ≤ 8) (five xs)
five_small xs h = All-from_recursion (λ n. n ≤ 8) (five xs) (none_index 8 xs 0 h, (none_index 8 xs 1 h, (none_index 8 xs 2 h, (none_index 8 xs 3 h, (none_index 8 xs 4 h, tt)))))

in_list : (p a n m : ℕ) → a ≤ p → p < n → n ≡ a + m → p - a < m
in_list p a n m le lt is = omega (arith, le, lt, is)

no_noise : (p a u c : ℕ) → a ≤ p → u ≤ p → u ≡ a + c → ¬ (p - a < c)
no_noise p a u c le after is h = omega (arith, le, after, is, h)

factor_is : (ty : Types) (names : Names) (f : WrittenFactor) → Fits ty names →
    IsFactorRead names ty.dims f → factor_derivative f ≡ None → is_parameter names f ≡ false →
    IsFactor ty (edge_type_of names f)
factor_is ty names f fits read small out =
    let known = and_parts (stands_in names.list f.name) ((length f.entries == 0) || nat_le names.first_unknown (place_of names.list f.name)) read.known in
    let le : names.first_noise ≤ place_of names.list f.name = not_below (place_of names.list f.name) names.first_noise out in
    let lt : place_of names.list f.name < length names.list = below (place_of names.list f.name) (length names.list) known.0 in
    record {
      known = in_list (place_of names.list f.name) names.first_noise (length names.list) (length ty.list) le lt fits.all;
      small = five_small f.entries small;
      derivative = record { entries = refl; rest = zeros_behind (five f.entries) ty.dims (λ i past. five_past f.entries ty.dims i (short (length f.entries) ty.dims read.entries) past) };
      noise = λ is. ⊎_elim
          (λ e. no_entries f.entries (is_zero (length f.entries) e))
          (λ e. absurd (no_noise (place_of names.list f.name) names.first_noise names.first_unknown (noise_count ty) le (at_most names.first_unknown (place_of names.list f.name) e) fits.unknowns is))
          (either (length f.entries == 0) (nat_le names.first_unknown (place_of names.list f.name)) known.1);
    }

-- how many parameters and factors

sized_step : (names : Names) (ps : List ℕ) (gs : List EdgeType) (f : WrittenFactor) →
    length (with_parameter names ps f) + length (with_factor names gs f) ≡ (length ps + length gs) + f.power
sized_step names ps gs f =
    let p = place_of names.list f.name in
    let e = edge_type_of names f in
    elim (is_parameter names f) as (λ b. length (if b then placed_often f.power nat_cmp ps p else ps) + length (if b then gs else placed_often f.power edge_type_order gs e) ≡ (length ps + length gs) + f.power) [
      | true ↦ omega (arith, length_often f.power nat_cmp ps p)
      | false ↦ omega (arith, length_often f.power edge_type_order gs e)
    ]

sized : (names : Names) (fs : List WrittenFactor) (ps : List ℕ) (gs : List EdgeType) (n : ℕ) →
    length ps + length gs ≡ n →
    length (fold (with_parameter names) ps fs) + length (fold (with_factor names) gs fs) ≡ fold (λ n f. n + f.power) n fs
sized names [] ps gs n h = h
sized names (f ∷ fs) ps gs n h = sized names fs (with_parameter names ps f) (with_factor names gs f) (n + f.power) (sized_step names ps gs f ∙ ap (λ m. m + f.power) h)

power_few : (n : ℕ) → over 24 (min n most) ≡ None → n ≤ 24
power_few n h = let le : min n most ≤ 24 = within 24 (min n most) h in omega (arith, le)

-- how many noises

noise_not : (p a u : ℕ) → nat_lt p a ≡ true → (nat_le a p && nat_lt p u) ≡ false
noise_not p a u h = grind (arith, nat_tests)

noise_is : (p a u n : ℕ) → u ≡ a + n → nat_lt p a ≡ false → nat_lt (p - a) n ≡ (nat_le a p && nat_lt p u)
noise_is p a u n is h = grind (arith, nat_tests)

none_more : (b : Bool) (n k : ℕ) → b ≡ false → n ≡ (if b then n + k else n)
none_more true n k h = search
none_more false n k h = refl

some_more : (b : Bool) (n k : ℕ) → cond b k 0 + n ≡ (if b then n + k else n)
some_more true n k = omega arith
some_more false n k = omega arith

noises_step : (count : ℕ) (names : Names) (gs : List EdgeType) (f : WrittenFactor) →
    names.first_unknown ≡ names.first_noise + count →
    length (filter (λ g. nat_lt g.0.0 count) (with_factor names gs f)) ≡ (if is_noise names f then length (filter (λ g. nat_lt g.0.0 count) gs) + f.power else length (filter (λ g. nat_lt g.0.0 count) gs))
noises_step count names gs f is =
    let p = place_of names.list f.name in
    let e = edge_type_of names f in
    let n = length (filter (λ g. nat_lt g.0.0 count) gs) in
    (elim (is_parameter names f) as (λ b. is_parameter names f ≡ b → length (filter (λ g. nat_lt g.0.0 count) (if b then gs else placed_often f.power edge_type_order gs e)) ≡ (if is_noise names f then n + f.power else n)) [
      | true ↦ λ h. none_more (is_noise names f) n f.power (noise_not p names.first_noise names.first_unknown h)
      | false ↦ λ h. count_often (λ g. nat_lt g.0.0 count) f.power edge_type_order gs e ∙ ap (λ b. cond b f.power 0 + n) (noise_is p names.first_noise names.first_unknown count is h) ∙ some_more (is_noise names f) n f.power
    ]) refl

noises_are : (count : ℕ) (names : Names) (fs : List WrittenFactor) (gs : List EdgeType) (n : ℕ) →
    names.first_unknown ≡ names.first_noise + count →
    length (filter (λ g. nat_lt g.0.0 count) gs) ≡ n →
    length (filter (λ g. nat_lt g.0.0 count) (fold (with_factor names) gs fs)) ≡ fold (λ n f. if is_noise names f then n + f.power else n) n fs
noises_are count names [] gs n is h = h
noises_are count names (f ∷ fs) gs n is h =
    noises_are count names fs (with_factor names gs f) (if is_noise names f then n + f.power else n) is
    (noises_step count names gs f is ∙ ap (λ k. if is_noise names f then k + f.power else k) h)

-- the order of parameters and factors, and which they are

parameters_rise : (names : Names) (fs : List WrittenFactor) (ps : List ℕ) → Rises nat_cmp ps → Rises nat_cmp (fold (with_parameter names) ps fs)
parameters_rise names [] ps h = h
parameters_rise names (f ∷ fs) ps h = parameters_rise names fs (with_parameter names ps f) (elim (is_parameter names f) as (λ b. Rises nat_cmp (if b then placed_often f.power nat_cmp ps (place_of names.list f.name) else ps)) [
  | true ↦ rises_often nat_cmp nat_cmp_total f.power ps (place_of names.list f.name) h
  | false ↦ h
])

factors_rise : (names : Names) (fs : List WrittenFactor) (gs : List EdgeType) →
    Rises edge_type_order gs → Rises edge_type_order (fold (with_factor names) gs fs)
factors_rise names [] gs h = h
factors_rise names (f ∷ fs) gs h = factors_rise names fs (with_factor names gs f) (elim (is_parameter names f) as (λ b. Rises edge_type_order (if b then gs else placed_often f.power edge_type_order gs (edge_type_of names f))) [
  | true ↦ h
  | false ↦ rises_often edge_type_order edge_type_order_total f.power gs (edge_type_of names f) h
])

parameters_known : (names : Names) (count : ℕ) (fs : List WrittenFactor) (ps : List ℕ) →
    names.first_noise ≤ count → AllByRecursion (λ n. n < count) ps →
    AllByRecursion (λ n. n < count) (fold (with_parameter names) ps fs)
parameters_known names count [] ps le h = h
parameters_known names count (f ∷ fs) ps le h =
    let p = place_of names.list f.name in
    parameters_known names count fs (with_parameter names ps f) le ((elim (is_parameter names f) as (λ b. is_parameter names f ≡ b → AllByRecursion (λ n. n < count) (if b then placed_often f.power nat_cmp ps p else ps)) [
      | true ↦ λ e. all_often (λ n. n < count) f.power nat_cmp ps p (let lt : p < names.first_noise = below p names.first_noise e in omega (arith, lt, le)) h
      | false ↦ λ e. h
    ]) refl)

factors_known : (ty : Types) (names : Names) (fs : List WrittenFactor) (gs : List EdgeType) →
    Fits ty names → AllByRecursion (IsFactorRead names ty.dims) fs →
    first_of factor_derivative fs ≡ None → AllByRecursion (IsFactor ty) gs →
    AllByRecursion (IsFactor ty) (fold (with_factor names) gs fs)
factors_known ty names [] gs fits read small h = h
factors_known ty names (f ∷ fs) gs fits read small h =
    let parts = neither (factor_derivative f) (first_of factor_derivative fs) small in
    factors_known ty names fs (with_factor names gs f) fits read.1 parts.1 ((elim (is_parameter names f) as (λ b. is_parameter names f ≡ b → AllByRecursion (IsFactor ty) (if b then gs else placed_often f.power edge_type_order gs (edge_type_of names f))) [
      | true ↦ λ e. h
      | false ↦ λ e. all_often (IsFactor ty) f.power edge_type_order gs (edge_type_of names f) (factor_is ty names f fits read.0 parts.0 e) h
    ]) refl)

product_is : (ty : Types) (names : Names) (count : ℕ) (t : WrittenTerm) → Fits ty names →
    names.first_noise ≤ count → IsTermRead names ty.dims t → term_number t ≡ None →
    term_factors t ≡ None → term_derivative t ≡ None → IsProduct ty count (product_of names t)
product_is ty names count t fits le read number few small = record {
  num = within 1000000 t.coefficient.num (neither _ _ number).0;
  few = subst (λ n. n ≤ 24) (sym (sized names t.factors [] [] 0 refl)) (power_few (power_of t) few);
  parameters_rise = parameters_rise names t.factors [] tt;
  parameters_known = parameters_known names count t.factors [] le tt;
  factors_rise = factors_rise names t.factors [] tt;
  factors_known = factors_known ty names t.factors [] fits read.factors small tt;
  one_noise = subst (λ n. n ≤ 1) (sym (noises_are (noise_count ty) names t.factors [] 0 fits.unknowns refl)) read.one_noise;
}

products_are : (ty : Types) (names : Names) (count : ℕ) (ts : List WrittenTerm) → Fits ty names →
    names.first_noise ≤ count → AllByRecursion (IsTermRead names ty.dims) ts →
    first_of term_number ts ≡ None → first_of term_factors ts ≡ None →
    first_of term_derivative ts ≡ None → AllByRecursion (IsProduct ty count) (products names ts)
products_are ty names count [] fits le read number few small = tt
products_are ty names count (t ∷ ts) fits le read number few small =
    let n = neither (term_number t) (first_of term_number ts) number in
    let k = neither (term_factors t) (first_of term_factors ts) few in
    let d = neither (term_derivative t) (first_of term_derivative ts) small in
    (product_is ty names count t fits le read.0 n.0 k.0 d.0, products_are ty names count ts fits le read.1 n.1 k.1 d.1)

-- the different terms

different_all : (P : Product → Type 0) (ts seen : List Product) → AllByRecursion P ts → AllByRecursion P seen → AllByRecursion P (fold with_new seen ts)
different_all P [] seen h s = s
different_all P (t ∷ ts) seen h s = different_all P ts (with_new seen t) h.1 (elim (list_any (same t) seen) as (λ b. AllByRecursion P (if b then seen else seen ++ t ∷ [])) [
  | true ↦ s
  | false ↦ all_push P seen t s h.0
])

with_new_length : (seen : List Product) (t : Product) → length (with_new seen t) ≤ length seen + 1
with_new_length seen t = elim (list_any (same t) seen) as (λ b. length (if b then seen else seen ++ t ∷ []) ≤ length seen + 1) [
  | true ↦ omega arith
  | false ↦ omega (arith, length-append seen (t ∷ []))
]

different_length : (ts seen : List Product) → length (fold with_new seen ts) ≤ length seen + length ts
different_length [] seen = omega arith
different_length (t ∷ ts) seen =
    let rest : length (fold with_new (with_new seen t) ts) ≤ length (with_new seen t) + length ts = different_length ts (with_new seen t) in
    let step : length (with_new seen t) ≤ length seen + 1 = with_new_length seen t in
    omega (arith, rest, step)

-- the sums

cond_most : (b : Bool) (n s c : ℕ) → s ≤ c → (if b then n + s else n) ≤ n + c
cond_most true n s c h = omega (arith, h)
cond_most false n s c h = omega arith

size_most : (q : ℕ) (t : Product) → q ≤ 1000000 → t.coefficient.num ≤ 1000000 → size q t ≤ 1000000 * 1000000
size_most q t a b = le_trans (div-le_self (q * t.coefficient.num) t.coefficient.den) (mul-le-mul a b)

sum_most : (negative : Bool) (q : ℕ) (p : Product) (ts : List Product) (n : ℕ) → q ≤ 1000000 →
    AllByRecursion (λ t. t.coefficient.num ≤ 1000000) ts →
    fold (λ n t. if beq t.coefficient.negative negative && same p t then n + size q t else n) n ts ≤ n + length ts * (1000000 * 1000000)
sum_most negative q p [] n le h = omega arith
sum_most negative q p (t ∷ ts) n le h =
    let next = if beq t.coefficient.negative negative && same p t then n + size q t else n in
    let step : next ≤ n + 1000000 * 1000000 = cond_most (beq t.coefficient.negative negative && same p t) n (size q t) (1000000 * 1000000) (size_most q t le h.0) in
    let rest : fold (λ n t. if beq t.coefficient.negative negative && same p t then n + size q t else n) next ts ≤ next + length ts * (1000000 * 1000000) = sum_most negative q p ts next le h.1 in
    omega (arith, step, rest)

sixty_four : (s n : ℕ) → s ≤ 0 + n * (1000000 * 1000000) → n ≤ 64 → s ≤ 64 * (1000000 * 1000000)
sixty_four s n h few = omega (arith, h, few)

difference_most : (a b m : ℕ) → a ≤ m → b ≤ m → unsigned_abs (pos a -ℤ pos b) ≤ m
difference_most a b m ha hb = omega (arith, ints)

all_map : {A B : Type 0} (Q : B → Type 0) (f : A → B) (xs : List A) → AllByRecursion (λ x. Q (f x)) xs → AllByRecursion Q (map f xs)
all_map Q f [] h = tt
all_map Q f (x ∷ xs) h = (h.0, all_map Q f xs h.1)

all_filter : {A : Type 0} (P Q : A → Type 0) (p : A → Bool) (xs : List A) →
    ((x : A) → p x ≡ true → P x → Q x) → AllByRecursion P xs → AllByRecursion Q (filter p xs)
all_filter P Q p [] f h = tt
all_filter P Q p (x ∷ xs) f h =
    let rest : AllByRecursion Q (filter p xs) = all_filter P Q p xs f h.1 in
    (elim (p x) as (λ b. p x ≡ b → AllByRecursion Q (cond b (x ∷ filter p xs) (filter p xs))) [
      | true ↦ λ e. (f x e h.0, rest)
      | false ↦ λ e. rest
    ]) refl

filter_length : {A : Type 0} (p : A → Bool) (xs : List A) → length (filter p xs) ≤ length xs
filter_length p [] = omega arith
filter_length p (x ∷ xs) =
    let rest : length (filter p xs) ≤ length xs = filter_length p xs in
    elim (p x) as (λ b. length (cond b (x ∷ filter p xs) (filter p xs)) ≤ suc (length xs)) [
      | true ↦ omega (arith, rest)
      | false ↦ omega (arith, rest)
    ]

-- a collected term

term_is : (ty : Types) (count q : ℕ) (ts : List Product) (p : Product) → q ≤ 1000000 → length ts ≤ 64 → AllByRecursion (IsProduct ty count) ts → IsProduct ty count p → coefficient_of q ts p ≢ pos 0 → IsRightTerm ty count (record { coefficient = coefficient_of q ts p; parameters = p.parameters; factors = p.factors })
term_is ty count q ts p le few all h nonzero =
    let nums : AllByRecursion (λ t. t.coefficient.num ≤ 1000000) ts = all_weaker (IsProduct ty count) (λ t. t.coefficient.num ≤ 1000000) ts (λ t r. r.num) all in
    record {
      nonzero = nonzero;
      bounded = difference_most (sum_under false q ts p) (sum_under true q ts p) (64 * (1000000 * 1000000))
          (sixty_four (sum_under false q ts p) (length ts) (sum_most false q p ts 0 le nums) few)
          (sixty_four (sum_under true q ts p) (length ts) (sum_most true q p ts 0 le nums) few);
      few = h.few;
      parameters_in_order = sorted_from nat_cmp nat_cmp_total p.parameters h.parameters_rise;
      parameters_known = All-from_recursion (λ n. n < count) p.parameters h.parameters_known;
      factors_in_order = sorted_from edge_type_order edge_type_order_total p.factors h.factors_rise;
      factors_known = All-from_recursion (IsFactor ty) p.factors h.factors_known;
      one_noise = h.one_noise;
    }

zero_fails : (z : ℤ) → not (int_eq z (pos 0)) ≡ true → z ≢ pos 0
zero_fails z h is = true≢false (sym h ∙ ap (λ y. not (int_eq y (pos 0))) is)

collected_is : (ty : Types) (count q : ℕ) (ts : List Product) → q ≤ 1000000 → length ts ≤ 64 →
    AllByRecursion (IsProduct ty count) ts → IsRight ty count (collected q ts)
collected_is ty count q ts le few all =
    let first : AllByRecursion (IsProduct ty count) (different ts) = different_all (IsProduct ty count) ts [] all tt in
    let f : Product → RightTerm = λ p. record { coefficient = coefficient_of q ts p; parameters = p.parameters; factors = p.factors } in
    let terms : AllByRecursion (λ t. t.coefficient ≢ pos 0 → IsRightTerm ty count t) (map f (different ts)) =
    all_map (λ t. t.coefficient ≢ pos 0 → IsRightTerm ty count t) f (different ts)
    (all_weaker (IsProduct ty count) (λ p. coefficient_of q ts p ≢ pos 0 → IsRightTerm ty count (f p)) (different ts) (λ p h. term_is ty count q ts p le few all h) first) in
    let passing : AllByRecursion (IsRightTerm ty count) (collected q ts) =
    all_filter (λ t. t.coefficient ≢ pos 0 → IsRightTerm ty count t) (IsRightTerm ty count) (λ t. not (int_eq t.coefficient (pos 0))) (map f (different ts)) (λ t e h. h (zero_fails t.coefficient e)) terms in
    let long : length (collected q ts) ≤ length (map f (different ts)) = filter_length (λ t. not (int_eq t.coefficient (pos 0))) (map f (different ts)) in
    let mapped : length (map f (different ts)) ≡ length (different ts) = length-map (different ts) f in
    let fewer : length (different ts) ≤ 0 + length ts = different_length ts [] in
    (omega (arith, long, mapped, fewer, few), All-from_recursion (IsRightTerm ty count) (collected q ts) passing)

rights_collected : (ty : Types) (names : Names) (count q : ℕ) (rights : List (List WrittenTerm)) →
    Fits ty names → names.first_noise ≤ count → q ≤ 1000000 →
    AllByRecursion (AllByRecursion (IsTermRead names ty.dims)) rights →
    first_of right_terms rights ≡ None → first_of (first_of term_number) rights ≡ None →
    first_of (first_of term_factors) rights ≡ None →
    first_of (first_of term_derivative) rights ≡ None →
    AllByRecursion (λ ts. IsRight ty count (collected q (products names ts))) rights
rights_collected ty names count q [] fits le most read few number factors small = tt
rights_collected ty names count q (ts ∷ rights) fits le most read few number factors small =
    let l = neither (right_terms ts) (first_of right_terms rights) few in
    let n = neither (first_of term_number ts) (first_of (first_of term_number) rights) number in
    let k = neither (first_of term_factors ts) (first_of (first_of term_factors) rights) factors in
    let d = neither (first_of term_derivative ts) (first_of (first_of term_derivative) rights) small in
    let length_is : length (products names ts) ≡ length ts = length-map ts (product_of names) in
    let short : length ts ≤ 64 = within 64 (length ts) l.0 in (
      collected_is ty count q (products names ts) most (omega (arith, length_is, short)) (products_are ty names count ts fits le read.0 n.0 k.0 d.0),
      rights_collected ty names count q rights fits le most read.1 l.1 n.1 k.1 d.1,
    )

-- the unknowns

pub rights_are : (Q : List RightTerm → Type 0) (l q : ℕ) (names : Names) (k : ℕ) (us : List UnknownEntry) (rights : List (List WrittenTerm)) →
    AllByRecursion (λ ts. Q (collected q (products names ts))) rights →
    AllByRecursion (λ u. Q u.right) (unknowns_from l q names k us rights)
rights_are Q l q names k [] rights h = tt
rights_are Q l q names k (u ∷ us) [] h = tt
rights_are Q l q names k (u ∷ us) (ts ∷ rights) h = (h.0, rights_are Q l q names (k + 1) us rights h.1)

pub regularities_are : (Q : Degree → Type 0) (l q : ℕ) (names : Names) (k : ℕ) (us : List UnknownEntry) (rights : List (List WrittenTerm)) →
    AllByRecursion (λ u. Q (degree_in l u.regularity)) us →
    AllByRecursion (λ u. Q u.regularity) (unknowns_from l q names k us rights)
regularities_are Q l q names k [] rights h = tt
regularities_are Q l q names k (u ∷ us) [] h = tt
regularities_are Q l q names k (u ∷ us) (ts ∷ rights) h = (h.0, regularities_are Q l q names (k + 1) us rights h.1)

numbers_from : (l q : ℕ) (names : Names) (k : ℕ) (us : List UnknownEntry) (rights : List (List WrittenTerm)) →
    length rights ≡ length us →
    map (λ u. u.kernel.0) (unknowns_from l q names k us rights) ≡ range_with_len k (length us)
numbers_from l q names k [] rights h = refl
numbers_from l q names k (u ∷ us) [] h = absurd (omega (arith, h))
numbers_from l q names k (u ∷ us) (ts ∷ rights) h = ap (λ ns. k ∷ ns) (numbers_from l q names (k + 1) us rights (omega (arith, h)))

-- the unknowns stand for the kernels, in order
pub kernel_numbers : (doc : Document) → IsRead doc → let eq = equation_in (units_of doc) (denominator_of doc) doc in map (λ u. u.kernel.0) eq.unknowns ≡ range_with_len (length doc.noises) (length doc.unknowns)
kernel_numbers doc read = numbers_from (units_of doc) (denominator_of doc) doc.names (length doc.noises) doc.unknowns doc.rights read.rights

types_counted : (l : ℕ) (groups : List (List ℕ)) (ns : List NoiseEntry) (us : List UnknownEntry) →
    length (map (noise_type l groups) ns ++ map (kernel_type l) us) ≡ length ns + length us
types_counted l groups ns us = omega (arith, length-append (map (noise_type l groups) ns) (map (kernel_type l) us), length-map ns (noise_type l groups), length-map us (kernel_type l))

names_counted : (list : List (List ℕ)) (first : ℕ) (ns : List NoiseEntry) (us : List UnknownEntry) →
    first ≤ length list → list ≡ take first list ++ (map (λ n. n.name) ns ++ map (λ u. u.name) us) →
    length list ≡ first + (length ns + length us)
names_counted list first ns us le is =
    let whole : length list ≡ length (take first list ++ (map (λ n. n.name) ns ++ map (λ u. u.name) us)) = ap length is in
    let outer = length-append (take first list) (map (λ n. n.name) ns ++ map (λ u. u.name) us) in
    let inner = length-append (map (λ n. n.name) ns) (map (λ u. u.name) us) in
    let front : length (take first list) ≡ first = length-take-le first list le in
    omega (arith, whole, outer, inner, front, length-map ns (λ n. n.name), length-map us (λ u. u.name))

pub types_fit : (l : ℕ) (doc : Document) → IsRead doc → Fits (types_of l doc) doc.names
types_fit l doc read =
    let noises : noise_count (types_of l doc) ≡ length doc.noises = noise_count_is l doc in
    let types : length (type_list l doc) ≡ length doc.noises + length doc.unknowns = types_counted l (groups_of doc.noises) doc.noises doc.unknowns in
    record {
      unknowns = read.first_unknown ∙ ap (λ n. doc.names.first_noise + n) (sym noises);
      all = names_counted doc.names.list doc.names.first_noise doc.noises doc.unknowns read.first_noise read.in_parts ∙ ap (λ n. doc.names.first_noise + n) (sym types);
    }

-- the right sides of an accepted file
pub accepted_rights : (doc : Document) → IsRead doc → limits_of doc ≡ Ok tt → let eq = equation_in (units_of doc) (denominator_of doc) doc in AllByRecursion (λ u. IsRight eq.types (length eq.parameters) u.right) eq.unknowns
accepted_rights doc read passed =
    let limits = is_within doc passed in
    let l = units_of doc in
    let q = denominator_of doc in
    let count = length (take doc.names.first_noise doc.names.list) in
    let le : doc.names.first_noise ≤ count = omega (arith, length-take-le doc.names.first_noise doc.names.list read.first_noise) in
    rights_are (IsRight (types_of l doc) count) l q doc.names (length doc.noises) doc.unknowns doc.rights
    (rights_collected (types_of l doc) doc.names count q doc.rights (types_fit l doc read) le limits.denominator read.terms limits.terms limits.right_numbers limits.factors limits.derivatives)
