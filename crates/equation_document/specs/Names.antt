-- The names of a file.
--   place_of names name == the place of the name in the list, from 0; the length of the list where
--       it is not there
--   stands_in names name == the name is there
--   Names == all names of a file, parameters before noises before unknowns, with the places where
--       the noises and the unknowns begin
--   is_known names f == the name of f is there, and f has a derivative only where the name is that
--       of an unknown
--   are_known names ts == so are all factors of the terms
--   is_noise names f == the name of f is that of a noise
--   noise_power names t == how many noises t has, counted with their powers
--   have_one_noise names ts == no term has more than one
use Rattle.std.specs.Prelude.{ℕ, ◌+◌, ◌==◌, nat_lt, nat_le, Bool, not, ◌&&◌, ◌||◌, List, length, if◌then◌else◌, fold}
use Rattle.std.specs.List.{prefix_len, list_all}
use Rattle.std.specs.Str.{bytes_eq}
use Rattle.right_side_text.specs.declared.written.WrittenFactor.{WrittenFactor}
use Rattle.right_side_text.specs.declared.written.WrittenTerm.{WrittenTerm}
use Rattle.equation_document.specs.declared.names.Names.{Names}

abbrev pub place_of : List (List ℕ) → List ℕ → ℕ
place_of names name = prefix_len (λ n. not (bytes_eq n name)) names

abbrev pub stands_in : List (List ℕ) → List ℕ → Bool
stands_in names name = nat_lt (place_of names name) (length names)

abbrev pub is_known : Names → WrittenFactor → Bool
is_known names f =
    stands_in names.list f.name && ((length f.entries == 0)
    || nat_le names.first_unknown (place_of names.list f.name))

abbrev pub is_noise : Names → WrittenFactor → Bool
is_noise names f = nat_le names.first_noise (place_of names.list f.name)
    && nat_lt (place_of names.list f.name) names.first_unknown

abbrev pub are_known : Names → List WrittenTerm → Bool
are_known names ts = list_all (λ t. list_all (is_known names) t.factors) ts

abbrev pub noise_power : Names → WrittenTerm → ℕ
noise_power names t = fold (λ n f. if is_noise names f then n + f.power else n) 0 t.factors

abbrev pub have_one_noise : Names → List WrittenTerm → Bool
have_one_noise names ts = list_all (λ t. nat_le (noise_power names t) 1) ts
