-- Types have a text, and in least units they are determined by it.
use Rattle.std.proofs.Common.{◌≡◌, ℕ, negsuc, ◌<◌, ℤ, pos, unsigned_abs, List, [], ◌∷◌, Option, arith, refl, ap, sym, subst, ◌∙◌}
use Rattle.std.specs.Int.{is_negative}
use Rattle.std.specs.List.{AllZip, join_with_byte}
use Rattle.std.proofs.lemmas.Bool.{false≢true}
use Rattle.std.proofs.lemmas.Nat.Gcd.{dvd_antisymm}
use Rattle.degree_numbers.specs.declared.degree.Degree.{Degree}
use Rattle.degree_numbers.specs.declared.types.Kind.{Kind}
use Rattle.degree_numbers.specs.declared.types.TypeEntry.{TypeEntry}
use Rattle.degree_numbers.specs.declared.types.Types.{Types}
use Rattle.degree_numbers.specs.Fraction.{Fraction, ClearsAll}
use Rattle.degree_numbers.specs.Printing.{IsLowestOf, IsDegreeText, degree_text}
use Rattle.degree_numbers.specs.Types.{AreTypes}
use Rattle.degree_numbers.proofs.InUnits.{lowest_exists}
use Rattle.degree_numbers.proofs.LowestTerms.{cancelled}
use Rattle.degree_numbers.proofs.Orders.{degree_is}
use Rattle.type_contexts.specs.declared.form.Form.{Form}
use Rattle.type_contexts.specs.Context.{entry_words, IsEntryText, pieces_in, IsTextIn}
use Rattle.type_contexts.specs.Same.{IsSameFraction, IsSameEntry, AreSameTypes, degree_fractions, AreInLeastUnits}
use Rattle.type_contexts.proofs.SameNumbers.{same_sym, clears_same, size_above, size_is, not_negative}

lowest_of : (z : ℤ) (den : ℕ) → 0 < den → (f : Fraction) × IsLowestOf z den f
lowest_of z den above =
    let low = lowest_exists (unsigned_abs z) den above in
    (record { negative = is_negative z; num = low.0; den = low.1 }, record { sign = refl; value = low.2 })

degree_has_text : (d : Degree) (den : ℕ) → 0 < den → (text : List ℕ) × IsDegreeText d den text
degree_has_text d den above =
    let a = lowest_of d.a den above in
    let b = lowest_of d.b den above in
    (degree_text a.0 b.0, (a.0, b.0, a.1, b.1, refl))

entries_have_texts : (form : Form) (den : ℕ) (groups : List (List ℕ)) (es : List TypeEntry) →
    0 < den → (pieces : List (List ℕ)) × AllZip (IsEntryText form den groups) es pieces
entries_have_texts form den groups [] above = ([], tt)
entries_have_texts form den groups (e ∷ es) above =
    let degree = degree_has_text e.degree den above in
    let more = entries_have_texts form den groups es above in
    (join_with_byte 32 (entry_words form groups e degree.0) ∷ more.0, ((degree.0, degree.1, refl), more.1))

pub types_have_text : (form : Form) (ty : Types) → AreTypes ty → (text : List ℕ) × IsTextIn form ty text
types_have_text form ty h =
    let pieces = entries_have_texts form (unsigned_abs ty.units.den) ty.groups ty.list (size_above ty.units.den h.den_above) in
    (join_with_byte 124 (pieces_in form ty pieces.0), (pieces.0, pieces.1, refl))

cleared : (l : ℕ) (d e : ℤ) (ss ts : List TypeEntry) → 0 < unsigned_abs d →
    AllZip (IsSameEntry (unsigned_abs d) (unsigned_abs e)) ss ts →
    ClearsAll l (degree_fractions d ss) → ClearsAll l (degree_fractions e ts)
cleared l d e [] [] above h c = tt
cleared l d e [] (t ∷ ts) above h c = absurd h
cleared l d e (s ∷ ss) [] above h c = absurd h
cleared l d e (s ∷ ss) (t ∷ ts) above h c = (
  clears_same s.degree.a (unsigned_abs d) t.degree.a (unsigned_abs e) l above h.0.a c.0,
  (clears_same s.degree.b (unsigned_abs d) t.degree.b (unsigned_abs e) l above h.0.b c.1.0, cleared l d e ss ts above h.1 c.1.1),
)

cleared_back : (l : ℕ) (d e : ℤ) (ss ts : List TypeEntry) → 0 < unsigned_abs e →
    AllZip (IsSameEntry (unsigned_abs d) (unsigned_abs e)) ss ts →
    ClearsAll l (degree_fractions e ts) → ClearsAll l (degree_fractions d ss)
cleared_back l d e [] [] above h c = tt
cleared_back l d e [] (t ∷ ts) above h c = absurd h
cleared_back l d e (s ∷ ss) [] above h c = absurd h
cleared_back l d e (s ∷ ss) (t ∷ ts) above h c = (
  clears_same t.degree.a (unsigned_abs e) s.degree.a (unsigned_abs d) l above (same_sym s.degree.a (unsigned_abs d) t.degree.a (unsigned_abs e) h.0.a) c.0,
  (
    clears_same t.degree.b (unsigned_abs e) s.degree.b (unsigned_abs d) l above (same_sym s.degree.b (unsigned_abs d) t.degree.b (unsigned_abs e) h.0.b) c.1.0,
    cleared_back l d e ss ts above h.1 c.1.1,
  ),
)

by_size : (x y : ℤ) → is_negative x ≡ is_negative y → unsigned_abs x ≡ unsigned_abs y → x ≡ y
by_size (pos m) (pos n) sign size = ap pos size
by_size (pos m) (negsuc n) sign size = absurd (false≢true (sym (not_negative m) ∙ sign))
by_size (negsuc m) (pos n) sign size = absurd (false≢true (sym (not_negative n) ∙ sym sign))
by_size (negsuc m) (negsuc n) sign size = let e : m ≡ n = omega (arith, size) in ap negsuc e

same_number : (x : ℤ) (d : ℕ) (y : ℤ) → 0 < d → IsSameFraction x d y d → x ≡ y
same_number x d y above h = by_size x y h.sign (cancelled d (unsigned_abs x) (unsigned_abs y) above h.size)

abbrev entry_by : List ℕ → Kind → Degree → ℕ → Option ℕ → TypeEntry
entry_by name kind degree group moments = record { name = name; kind = kind; degree = degree; group = group; moments = moments }

entry_is : (d : ℕ) (s t : TypeEntry) → 0 < d → IsSameEntry d d s t → s ≡ t
entry_is d s t above h =
    ap (λ name. entry_by name s.kind s.degree s.group s.moments) h.name ∙ ap (λ kind. entry_by t.name kind s.degree s.group s.moments) h.kind
    ∙ ap (λ degree. entry_by t.name t.kind degree s.group s.moments) (degree_is s.degree t.degree (same_number s.degree.a d t.degree.a above h.a) (same_number s.degree.b d t.degree.b above h.b))
    ∙ ap (λ group. entry_by t.name t.kind t.degree group s.moments) h.group ∙ ap (λ moments. entry_by t.name t.kind t.degree t.group moments) h.moments

entries_are : (d : ℕ) (ss ts : List TypeEntry) → 0 < d → AllZip (IsSameEntry d d) ss ts → ss ≡ ts
entries_are d [] [] above h = refl
entries_are d [] (t ∷ ts) above h = absurd h
entries_are d (s ∷ ss) [] above h = absurd h
entries_are d (s ∷ ss) (t ∷ ts) above h = ap (λ x. x ∷ ss) (entry_is d s t above h.0) ∙ ap (λ xs. t ∷ xs) (entries_are d ss ts above h.1)

abbrev types_by : ℕ → List ℕ → ℤ → List TypeEntry → List (List ℕ) → List ℕ → Types
types_by dims scaling den list groups reflect = record { dims = dims; scaling = scaling; units = record { den = den }; list = list; groups = groups; reflect = reflect }

-- in least units the same types are equal
pub least_one : (s t : Types) → AreTypes s → AreTypes t → AreInLeastUnits s → AreInLeastUnits t → AreSameTypes s t → s ≡ t
least_one s t s_types t_types s_least t_least h =
    let d = unsigned_abs s.units.den in
    let e = unsigned_abs t.units.den in
    let d_above = size_above s.units.den s_types.den_above in
    let e_above = size_above t.units.den t_types.den_above in
    let den : d ≡ e = dvd_antisymm (s_least.least e (cleared_back e s.units.den t.units.den s.list t.list e_above h.list t_least.clears)) (t_least.least d (cleared d s.units.den t.units.den s.list t.list d_above h.list s_least.clears)) in
    let units : s.units.den ≡ t.units.den = sym (size_is s.units.den s_types.den_above) ∙ ap pos den ∙ size_is t.units.den t_types.den_above in
    let list : s.list ≡ t.list = entries_are e s.list t.list e_above (subst (λ n. AllZip (IsSameEntry n e) s.list t.list) den h.list) in
    ap (λ n. types_by n s.scaling s.units.den s.list s.groups s.reflect) h.dims ∙ ap (λ xs. types_by t.dims xs s.units.den s.list s.groups s.reflect) h.scaling
    ∙ ap (λ u. types_by t.dims t.scaling u s.list s.groups s.reflect) units ∙ ap (λ es. types_by t.dims t.scaling t.units.den es s.groups s.reflect) list
    ∙ ap (λ gs. types_by t.dims t.scaling t.units.den t.list gs s.reflect) h.groups ∙ ap (λ is. types_by t.dims t.scaling t.units.den t.list t.groups is) h.reflect
