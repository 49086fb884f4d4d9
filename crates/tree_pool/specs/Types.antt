-- A code for the types of an equation: the tuple of their fields.
--   kind_to, kind_from == a noise as `true`, a kernel as `false`; and back
--   kind_back == a kind is read back
--   kind_code, entry_code, types_code == the codes of kinds, of single types, of the types of an
--       equation
use Rattle.std.specs.Prelude.{◌≡◌, ℕ, ℤ, Bool, true, false, List, Option, refl}
use Rattle.std.specs.Coded.{Coded, code_by, coded×, coded_ℕ, coded_ℤ, coded_bool, coded_list, coded_option}
use Rattle.degree_numbers.specs.declared.types.Types.{Types}
use Rattle.degree_numbers.specs.declared.types.TypeEntry.{TypeEntry}
use Rattle.degree_numbers.specs.declared.types.Kind.{Kind}
use Rattle.degree_numbers.specs.declared.types.Kind.TheVariants.{Noise, Kernel}

abbrev pub kind_from : Bool → Kind
kind_from true = Noise
kind_from false = Kernel

abbrev pub kind_to : Kind → Bool
kind_to Noise = true
kind_to Kernel = false

pub kind_back : (k : Kind) → kind_from (kind_to k) ≡ k
kind_back Noise = refl
kind_back Kernel = refl

abbrev pub kind_code : Coded Kind
kind_code = code_by Bool coded_bool kind_to kind_from kind_back

abbrev pub entry_code : Coded TypeEntry
entry_code =
    code_by (List ℕ × (Kind × ((ℤ × ℤ) × (ℕ × Option ℕ))))
    (coded× (coded_list coded_ℕ) (coded× kind_code (coded× (coded× coded_ℤ coded_ℤ)
    (coded× coded_ℕ (coded_option coded_ℕ)))))
    (λ e. (e.name, (e.kind, ((e.degree.a, e.degree.b), (e.group, e.moments)))))
    (λ r. record { name = r.0; kind = r.1.0; degree = record { a = r.1.1.0.0; b = r.1.1.0.1 }; group = r.1.1.1.0; moments = r.1.1.1.1 })
    (λ _. refl)

abbrev pub types_code : Coded Types
types_code =
    code_by (ℕ × (List ℕ × (ℤ × (List TypeEntry × (List (List ℕ) × List ℕ)))))
    (coded× coded_ℕ (coded× (coded_list coded_ℕ)
    (coded× coded_ℤ (coded× (coded_list entry_code) (coded× (coded_list (coded_list coded_ℕ))
    (coded_list coded_ℕ))))))
    (λ t. (t.dims, (t.scaling, (t.units.den, (t.list, (t.groups, t.reflect))))))
    (λ r. record { dims = r.0; scaling = r.1.0; units = record { den = r.1.1.0 }; list = r.1.1.1.0; groups = r.1.1.1.1.0; reflect = r.1.1.1.1.1 })
    (λ _. refl)
