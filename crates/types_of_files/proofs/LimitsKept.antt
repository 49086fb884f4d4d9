-- The file that is written for types passes no limit.
use Rattle.std.proofs.Common.{◌≡◌, ℕ, ◌+◌, ◌-◌, ◌*◌, ◌/◌, ◌%◌, ◌<◌, ◌≤◌, true, false, true≢false, not, nat_lt, List, [], ◌∷◌, ◌++◌, length, map, fold, get_or, Option, None, Ok, arith, refl, ap, sym, subst, ◌∙◌}
use Rattle.std.specs.List.{AllByRecursion, prefix_len, range_with_len}
use Rattle.std.proofs.lemmas.Bool.{le-ltb, ltb-true, ltb-false}
use Rattle.std.proofs.lemmas.List.{length-map}
use Rattle.std.proofs.lemmas.List.FromFn.{get_or-range_with_len}
use Rattle.std.proofs.lemmas.List.Sums.{prefix_len_passes}
use Rattle.std.proofs.Math.Nat.{div-add-mod, mul-le-mul_left}
use Rattle.text_parts.specs.Reading.{most}
use Rattle.degree_numbers.specs.declared.types.TypeEntry.{TypeEntry}
use Rattle.degree_numbers.specs.DegreeText.{Written}
use Rattle.degree_numbers.specs.Fraction.{Fraction, Clears, ClearsAll}
use Rattle.right_side_text.specs.declared.written.WrittenFraction.{WrittenFraction}
use Rattle.right_side_text.specs.declared.written.WrittenTerm.{WrittenTerm}
use Rattle.equation_document.specs.declared.document.Document.{Document}
use Rattle.equation_document.specs.DegreeEntry.{written, rounded_up, degree_size}
use Rattle.equation_document.specs.Denominator.{clears_all, least_within, least_common}
use Rattle.equation_document.specs.FirstOf.{over, first_of}
use Rattle.equation_document.specs.Limits.{with_fractions, noise_fractions, unknown_fractions, with_coefficients, units_of, denominator_of, counts_of, numbers_of, rights_of, limits_of, degree_fractions, noise_number, unknown_number, noise_size, unknown_size, right_terms}
use Rattle.equation_document.specs.Terms.{term_number, term_factors, term_derivative}
use Rattle.equation_document.proofs.LeastCommon.{plain, cleared}
use Rattle.types_of_files.proofs.ItemsRead.{noise_entry, unknown_entry, no_terms}

none_over : (m n : ℕ) → n ≤ m → over m n ≡ None
none_over m n le = rw (le-ltb m n le) refl

none_first : {A : Type 0} (f : A → Option ℕ) (xs : List A) → AllByRecursion (λ x. f x ≡ None) xs → first_of f xs ≡ None
none_first f [] h = refl
none_first f (x ∷ xs) h = rw (h.0, none_first f xs h.1) refl

none_first_map : {A B : Type 0} (f : B → Option ℕ) (g : A → B) (xs : List A) → AllByRecursion (λ x. f (g x) ≡ None) xs → first_of f (map g xs) ≡ None
none_first_map f g [] h = refl
none_first_map f g (x ∷ xs) h = rw (h.0, none_first_map f g xs h.1) refl

-- the least common denominator is the least
least_most : (m x : ℕ) (fs : List WrittenFraction) → 0 < x → x ≤ m → ClearsAll x (map plain fs) → least_within m fs ≤ x
least_most m x fs above le h =
    let p = λ (l : ℕ). not (clears_all l fs) in
    let k = prefix_len p (range_with_len 1 m) in
    let not_past : ¬ (x - 1 < k) = λ lt.
    let place : get_or (range_with_len 1 m) (x - 1) 0 ≡ x = get_or-range_with_len 1 m (x - 1) 0 (omega (arith, above, le)) ∙ omega (arith, above) in
    true≢false (sym (prefix_len_passes p (range_with_len 1 m) (x - 1) 0 lt) ∙ ap p place ∙ ap not (cleared x fs h)) in
    omega (arith, not_past, above)

least_common_most : (x : ℕ) (fs : List WrittenFraction) → 0 < x → x ≤ 1000000 → ClearsAll x (map plain fs) → least_common fs ≤ x
unfolding least_common
least_common_most x fs above fits h = least_most (most - 1) x fs above (omega (arith, fits)) h

-- a degree whose numbers and size a file can write
pub record IsSmallWritten (den : ℕ) (w : Written) : Type 0 where
  pub large : w.large ≡ None
  pub plain_above : 0 < w.plain.den
  pub k_above : 0 < w.with_k.den
  pub plain_small : w.plain.num ≤ 20 * w.plain.den
  pub k_small : w.with_k.num ≤ 20 * w.with_k.den
  pub plain_clear : Clears den w.plain
  pub k_clear : Clears den w.with_k

quotient_most : (x d : ℕ) → 0 < d → x < 21 * d → x / d ≤ 20
quotient_most x d above lt = by (x / d) (div-add-mod x d)
  where
    by : (q : ℕ) → d * q + x % d ≡ x → q ≤ 20
    by q e =
        elim (nat_lt 20 q) as (λ b. nat_lt 20 q ≡ b → q ≤ 20) [
          | true ↦ λ t.
              let big : 21 ≤ q = (let past = ltb-true 20 q t in omega (arith, past)) in
              let up : d * 21 ≤ d * q = mul-le-mul_left d big in
              absurd (omega (arith, up, e, lt))
          | false ↦ λ t. ltb-false 20 q t
        ] refl

rounded_small : (f : Fraction) → 0 < f.den → f.num ≤ 20 * f.den → over 20 (rounded_up f) ≡ None
rounded_small f above le = none_over 20 (rounded_up f) (quotient_most (f.num + (f.den - 1)) f.den above (omega (arith, above, le)))

size_small : (den : ℕ) (w : Written) → IsSmallWritten den w → degree_size w ≡ None
size_small den w h = rw (rounded_small w.plain h.plain_above h.plain_small, rounded_small w.with_k h.k_above h.k_small) refl

push_clear : (den : ℕ) (fs : List WrittenFraction) (f : WrittenFraction) →
    ClearsAll den (map plain fs) → Clears den (plain f) → ClearsAll den (map plain (fs ++ f ∷ []))
push_clear den [] f h c = (c, tt)
push_clear den (g ∷ fs) f h c = (h.0, push_clear den fs f h.1 c)

degree_clear : (den : ℕ) (fs : List WrittenFraction) (w : Written) → IsSmallWritten den w →
    ClearsAll den (map plain fs) → ClearsAll den (map plain (with_fractions fs w))
degree_clear den fs w s h = push_clear den (fs ++ written w.plain ∷ []) (written w.with_k) (push_clear den fs (written w.plain) h s.plain_clear) s.k_clear

noises_clear : (den : ℕ) (w : TypeEntry → Written) (groups : List (List ℕ)) (es : List TypeEntry) (fs : List WrittenFraction) →
    AllByRecursion (λ e. IsSmallWritten den (w e)) es → ClearsAll den (map plain fs) →
    ClearsAll den (map plain (fold noise_fractions fs (map (noise_entry w groups) es)))
noises_clear den w groups [] fs s h = h
noises_clear den w groups (e ∷ es) fs s h = noises_clear den w groups es (with_fractions fs (w e)) s.1 (degree_clear den fs (w e) s.0 h)

unknowns_clear : (den : ℕ) (w : TypeEntry → Written) (z : Written) (es : List TypeEntry) (fs : List WrittenFraction) →
    IsSmallWritten den z → AllByRecursion (λ e. IsSmallWritten den (w e)) es →
    ClearsAll den (map plain fs) →
    ClearsAll den (map plain (fold unknown_fractions fs (map (unknown_entry w z) es)))
unknowns_clear den w z [] fs r s h = h
unknowns_clear den w z (e ∷ es) fs r s h = unknowns_clear den w z es (with_fractions (with_fractions fs (w e)) z) r s.1 (degree_clear den (with_fractions fs (w e)) z r (degree_clear den fs (w e) s.0 h))

no_coefficients : (es : List TypeEntry) → fold with_coefficients [] (map no_terms es) ≡ []
no_coefficients [] = refl
no_coefficients (e ∷ es) = no_coefficients es

no_terms_first : (f : List WrittenTerm → Option ℕ) (es : List TypeEntry) → f [] ≡ None → first_of f (map no_terms es) ≡ None
no_terms_first f [] h = refl
no_terms_first f (e ∷ es) h = rw (h, no_terms_first f es h) refl

each : {A : Type 0} (P Q : A → Type 0) (xs : List A) → ((x : A) → P x → Q x) → AllByRecursion P xs → AllByRecursion Q xs
each P Q [] to h = tt
each P Q (x ∷ xs) to h = (to x h.0, each P Q xs to h.1)

abbrev pub document_by : (TypeEntry → Written) → Written → List (List ℕ) → List ℕ → List ℕ → List (List ℕ) → List TypeEntry → List TypeEntry → Document
document_by w z groups scaling reflect names ns ks = record {
  scaling = scaling;
  reflect = reflect;
  names = record { list = names; first_noise = 0; first_unknown = length (map (λ (e : TypeEntry). e.name) ns) };
  noises = map (noise_entry w groups) ns;
  unknowns = map (unknown_entry w z) ks;
  rights = map no_terms ks;
}

-- the least common denominator of the file's degrees is at most each common one
pub units_most : (den : ℕ) (w : TypeEntry → Written) (z : Written) (groups : List (List ℕ)) (scaling reflect : List ℕ) (names : List (List ℕ)) (ns ks : List TypeEntry) →
    0 < den → den ≤ 1000000 → IsSmallWritten den z →
    AllByRecursion (λ e. IsSmallWritten den (w e)) ns →
    AllByRecursion (λ e. IsSmallWritten den (w e)) ks →
    units_of (document_by w z groups scaling reflect names ns ks) ≤ den
unfolding units_of
units_most den w z groups scaling reflect names ns ks above fits r n k =
    least_common_most den (degree_fractions (document_by w z groups scaling reflect names ns ks)) above fits
    (unknowns_clear den w z ks (fold noise_fractions [] (map (noise_entry w groups) ns)) r k (noises_clear den w groups ns [] n tt))

denominator_small : (w : TypeEntry → Written) (z : Written) (groups : List (List ℕ)) (scaling reflect : List ℕ) (names : List (List ℕ)) (ns ks : List TypeEntry) →
    denominator_of (document_by w z groups scaling reflect names ns ks) ≤ 1000000
unfolding denominator_of
denominator_small w z groups scaling reflect names ns ks =
    subst (λ fs. least_common fs ≤ 1000000) (sym (no_coefficients ks)) (let le = least_common_most 1 [] (omega arith) (omega arith) tt in omega (arith, le))

counts_kept : (w : TypeEntry → Written) (z : Written) (groups : List (List ℕ)) (scaling reflect : List ℕ) (names : List (List ℕ)) (ns ks : List TypeEntry) →
    length scaling ≤ 5 → AllByRecursion (λ s. s ≤ 10) scaling → length ns ≤ 8 → length ks ≤ 8 →
    counts_of (document_by w z groups scaling reflect names ns ks) ≡ Ok tt
unfolding counts_of
counts_kept w z groups scaling reflect names ns ks dims entries n k =
    rw (none_over 5 (length scaling) dims, none_first (over 10) scaling (each (λ s. s ≤ 10) (λ s. over 10 s ≡ None) scaling (λ s le. none_over 10 s le) entries), none_over 8 (length (map (noise_entry w groups) ns)) (subst (λ m. m ≤ 8) (sym (length-map ns (noise_entry w groups))) n), none_over 8 (length (map (unknown_entry w z) ks)) (subst (λ m. m ≤ 8) (sym (length-map ks (unknown_entry w z))) k)) refl

unknown_large : (den : ℕ) (w : TypeEntry → Written) (z : Written) (e : TypeEntry) →
    IsSmallWritten den z → IsSmallWritten den (w e) → unknown_number (unknown_entry w z e) ≡ None
unknown_large den w z e r h = rw (h.large, r.large) refl

unknown_sized : (den : ℕ) (w : TypeEntry → Written) (z : Written) (e : TypeEntry) →
    IsSmallWritten den z → IsSmallWritten den (w e) → unknown_size (unknown_entry w z e) ≡ None
unknown_sized den w z e r h = rw (size_small den (w e) h, size_small den z r) refl

numbers_kept : (den : ℕ) (w : TypeEntry → Written) (z : Written) (groups : List (List ℕ)) (scaling reflect : List ℕ) (names : List (List ℕ)) (ns ks : List TypeEntry) →
    0 < den → den ≤ 1000000 → IsSmallWritten den z →
    AllByRecursion (λ e. IsSmallWritten den (w e)) ns →
    AllByRecursion (λ e. IsSmallWritten den (w e)) ks →
    numbers_of (document_by w z groups scaling reflect names ns ks) ≡ Ok tt
unfolding numbers_of
numbers_kept den w z groups scaling reflect names ns ks above fits r n k =
    let le = units_most den w z groups scaling reflect names ns ks above fits r n k in
    rw (none_first_map noise_number (noise_entry w groups) ns (each (λ e. IsSmallWritten den (w e)) (λ e. noise_number (noise_entry w groups e) ≡ None) ns (λ e h. h.large) n), none_first_map unknown_number (unknown_entry w z) ks (each (λ e. IsSmallWritten den (w e)) (λ e. unknown_number (unknown_entry w z e) ≡ None) ks (λ e h. unknown_large den w z e r h) k), no_terms_first (first_of term_number) ks refl, none_first_map noise_size (noise_entry w groups) ns (each (λ e. IsSmallWritten den (w e)) (λ e. noise_size (noise_entry w groups e) ≡ None) ns (λ e h. size_small den (w e) h) n), none_first_map unknown_size (unknown_entry w z) ks (each (λ e. IsSmallWritten den (w e)) (λ e. unknown_size (unknown_entry w z e) ≡ None) ks (λ e h. unknown_sized den w z e r h) k), none_over 1000000 (units_of (document_by w z groups scaling reflect names ns ks)) (omega (arith, le, fits))) refl

rights_kept : (w : TypeEntry → Written) (z : Written) (groups : List (List ℕ)) (scaling reflect : List ℕ) (names : List (List ℕ)) (ns ks : List TypeEntry) →
    rights_of (document_by w z groups scaling reflect names ns ks) ≡ Ok tt
unfolding rights_of
rights_kept w z groups scaling reflect names ns ks =
    rw (no_terms_first right_terms ks refl, no_terms_first (first_of term_factors) ks refl, no_terms_first (first_of term_derivative) ks refl, none_over 1000000 (denominator_of (document_by w z groups scaling reflect names ns ks)) (denominator_small w z groups scaling reflect names ns ks)) refl

pub limits_kept : (den : ℕ) (w : TypeEntry → Written) (z : Written) (groups : List (List ℕ)) (scaling reflect : List ℕ) (names : List (List ℕ)) (ns ks : List TypeEntry) →
    length scaling ≤ 5 → AllByRecursion (λ s. s ≤ 10) scaling → length ns ≤ 8 → length ks ≤ 8 →
    0 < den → den ≤ 1000000 → IsSmallWritten den z →
    AllByRecursion (λ e. IsSmallWritten den (w e)) ns →
    AllByRecursion (λ e. IsSmallWritten den (w e)) ks →
    limits_of (document_by w z groups scaling reflect names ns ks) ≡ Ok tt
unfolding limits_of
limits_kept den w z groups scaling reflect names ns ks dims entries n_few k_few above fits r n k =
    rw (counts_kept w z groups scaling reflect names ns ks dims entries n_few k_few, numbers_kept den w z groups scaling reflect names ns ks above fits r n k) (rights_kept w z groups scaling reflect names ns ks)
