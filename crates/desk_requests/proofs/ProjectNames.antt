-- The bytes of a project name.
use Rattle.std.proofs.Common.{◌≡◌, ℕ, ◌&&◌, nat_lt, List, ◌∷◌, length, Bool, true, false, refl}
use Rattle.std.specs.List.{list_all}
use Rattle.std.proofs.lemmas.Bool.{false≢true}
use Rattle.result_keeper.specs.ProjectName.{is_project_start, is_project_byte, is_project_name}

pub both : (a b : Bool) → (a && b) ≡ true → (a ≡ true) × (b ≡ true)
both true true h = (refl, refl)
both true false h = absurd (false≢true h)
both false b h = absurd (false≢true h)

-- the first byte may begin a name, and each byte is one of names
pub name_bytes : (c : ℕ) (cs : List ℕ) → is_project_name (c ∷ cs) ≡ true → (is_project_start c ≡ true) × (list_all is_project_byte (c ∷ cs) ≡ true)
name_bytes c cs h =
    let outer = both (is_project_start c && list_all is_project_byte cs) (nat_lt (length cs) 32) h in
    let inner = both (is_project_start c) (list_all is_project_byte cs) outer.0 in
    (inner.0, rw (inner.0, inner.1) refl)
