-- The groups of noises: different names, and numbered in the order of their first noise.
use Rattle.std.proofs.Common.{◌≡◌, ◌≢◌, ℕ, suc, ◌+◌, ◌<◌, ◌≤◌, Bool, true, false, true≢false, not, cond, List, [], ◌∷◌, ◌++◌, map, length, fold, bytes_eq, inl, inr, refl, sym, ap, subst, ◌∙◌, arith}
use Rattle.std.specs.Prelude.{if◌then◌else◌}
use Rattle.std.specs.List.{AllByRecursion}
use Rattle.std.proofs.lemmas.List.{length-append}
use Rattle.std.proofs.lemmas.Slice.Eq.{bytes_eq-Decides}
use Rattle.degree_numbers.specs.declared.types.TypeEntry.{TypeEntry}
use Rattle.degree_numbers.specs.Name.{is_name}
use Rattle.degree_numbers.specs.Types.{AreDifferent, AreNames, AreInOrder}
use Rattle.equation_document.specs.declared.document.NoiseEntry.{NoiseEntry}
use Rattle.equation_document.specs.Names.{place_of, stands_in}
use Rattle.equation_document.proofs.Everywhere.{all_parts, all_joined}
use Rattle.equation_document.proofs.LeastCommon.{below, not_below}
use Rattle.equation_file.specs.Meaning.{with_group, noise_type}

apart : (a b : List ℕ) → bytes_eq a b ≡ false → a ≢ b
apart a b other e = true≢false (sym ((bytes_eq-Decides a b).1 e) ∙ other)

not_there : (gs : List (List ℕ)) (g : List ℕ) → length gs ≤ place_of gs g → AllByRecursion (λ other. other ≢ g) gs
not_there [] g h = tt
not_there (n ∷ gs) g h = by (bytes_eq n g) refl (not_there gs g) h
  where
    by : (b : Bool) → bytes_eq n g ≡ b → (length gs ≤ place_of gs g → AllByRecursion (λ other. other ≢ g) gs) → suc (length gs) ≤ cond (not b) (1 + place_of gs g) 0 → (n ≢ g) × AllByRecursion (λ other. other ≢ g) gs
    by true e rest le = absurd (omega (arith, le))
    by false e rest le = (apart n g e, rest (omega (arith, le)))

-- a name behind the others leaves the places of those before it
place_push : (gs : List (List ℕ)) (g x : List ℕ) → place_of gs g < length gs → place_of (gs ++ x ∷ []) g ≡ place_of gs g
place_push [] g x h = absurd (omega (arith, h))
place_push (n ∷ gs) g x h = by (bytes_eq n g) (place_push gs g x) h
  where
    by : (b : Bool) → (place_of gs g < length gs → place_of (gs ++ x ∷ []) g ≡ place_of gs g) → cond (not b) (1 + place_of gs g) 0 < suc (length gs) → cond (not b) (1 + place_of (gs ++ x ∷ []) g) 0 ≡ cond (not b) (1 + place_of gs g) 0
    by true rest lt = refl
    by false rest lt = ap (λ i. 1 + i) (rest (omega (arith, lt)))

-- and its own place is the last
place_new : (gs : List (List ℕ)) (g : List ℕ) → length gs ≤ place_of gs g → place_of (gs ++ g ∷ []) g ≡ length gs
place_new [] g h = ap (λ b. cond (not b) 1 0) ((bytes_eq-Decides g g).1 refl)
place_new (n ∷ gs) g h = by (bytes_eq n g) (place_new gs g) h
  where
    by : (b : Bool) → (length gs ≤ place_of gs g → place_of (gs ++ g ∷ []) g ≡ length gs) → suc (length gs) ≤ cond (not b) (1 + place_of gs g) 0 → cond (not b) (1 + place_of (gs ++ g ∷ []) g) 0 ≡ suc (length gs)
    by true rest le = absurd (omega (arith, le))
    by false rest le = let r = rest (omega (arith, le)) in omega (arith, r)

chosen : (b : Bool) (gs : List (List ℕ)) (x g : List ℕ) → place_of gs g < length gs →
    (place_of (if b then gs else gs ++ x ∷ []) g ≡ place_of gs g) × (length gs ≤ length (if b then gs else gs ++ x ∷ []))
chosen true gs x g h = (refl, omega arith)
chosen false gs x g h = (place_push gs g x h, omega (arith, length-append gs (x ∷ [])))

-- the groups of later noises leave the places of those before them
kept : (ns : List NoiseEntry) (gs : List (List ℕ)) (g : List ℕ) → place_of gs g < length gs → place_of (fold with_group gs ns) g ≡ place_of gs g
kept [] gs g h = refl
kept (n ∷ ns) gs g h =
    let c = chosen (stands_in gs n.group) gs n.group g h in
    let place : place_of (with_group gs n) g ≡ place_of gs g = c.0 in
    let more : length gs ≤ length (with_group gs n) = c.1 in
    kept ns (with_group gs n) g (omega (arith, place, more, h)) ∙ place

different_pushed : (gs : List (List ℕ)) (g : List ℕ) → AreDifferent gs → AllByRecursion (λ other. other ≢ g) gs → AreDifferent (gs ++ g ∷ [])
different_pushed [] g h others = (tt, tt)
different_pushed (n ∷ gs) g h others = (all_joined (λ other. other ≢ n) gs (g ∷ []) h.0 ((λ e. others.0 (sym e)), tt), different_pushed gs g h.1 others.1)

different_later : (xs ys : List (List ℕ)) → AreDifferent (xs ++ ys) → AreDifferent ys
different_later [] ys h = h
different_later (x ∷ xs) ys h = different_later xs ys h.1

-- the later of names
pub later_names : (xs ys : List (List ℕ)) → AreNames (xs ++ ys) → AreNames ys
later_names xs ys h = record { are_names = (all_parts (λ name. is_name name ≡ true) xs ys h.are_names).1; different = different_later xs ys h.different }

pushed : (gs : List (List ℕ)) (g : List ℕ) → AreNames gs → is_name g ≡ true → AllByRecursion (λ other. other ≢ g) gs → AreNames (gs ++ g ∷ [])
pushed gs g h is others = record {
  are_names = all_joined (λ name. is_name name ≡ true) gs (g ∷ []) h.are_names (is, tt);
  different = different_pushed gs g h.different others;
}

with_one : (gs : List (List ℕ)) (g : List ℕ) → AreNames gs → is_name g ≡ true → AreNames (if stands_in gs g then gs else gs ++ g ∷ [])
with_one gs g h is =
    elim (stands_in gs g) as (λ b. stands_in gs g ≡ b → AreNames (if b then gs else gs ++ g ∷ [])) [
      | true ↦ λ e. h
      | false ↦ λ e. pushed gs g h is (not_there gs g (not_below (place_of gs g) (length gs) e))
    ] refl

pub groups_named : (ns : List NoiseEntry) (gs : List (List ℕ)) → AreNames gs →
    AllByRecursion (λ n. is_name n.group ≡ true) ns → AreNames (fold with_group gs ns)
groups_named [] gs h names = h
groups_named (n ∷ ns) gs h names = groups_named ns (with_group gs n) (with_one gs n.group h names.0) names.1

abbrev numbers : ℕ → List (List ℕ) → List NoiseEntry → List ℕ
numbers l gs ns = map (λ (e : TypeEntry). e.group) (map (noise_type l gs) ns)

met_group : (l : ℕ) (n : NoiseEntry) (ns : List NoiseEntry) (gs : List (List ℕ)) →
    place_of gs n.group < length gs →
    AreInOrder (length gs) (numbers l (fold with_group gs ns) ns) (length (fold with_group gs ns)) →
    AreInOrder (length gs) (numbers l (fold with_group gs ns) (n ∷ ns)) (length (fold with_group gs ns))
met_group l n ns gs lt old = inl (subst (λ p. p < length gs) (sym (kept ns gs n.group lt)) lt, old)

new_group : (l : ℕ) (n : NoiseEntry) (ns : List NoiseEntry) (gs : List (List ℕ)) →
    length gs ≤ place_of gs n.group →
    AreInOrder (length (gs ++ n.group ∷ [])) (numbers l (fold with_group (gs ++ n.group ∷ []) ns) ns) (length (fold with_group (gs ++ n.group ∷ []) ns)) →
    AreInOrder (length gs) (numbers l (fold with_group (gs ++ n.group ∷ []) ns) (n ∷ ns)) (length (fold with_group (gs ++ n.group ∷ []) ns))
new_group l n ns gs le new =
    let len : length (gs ++ n.group ∷ []) ≡ length gs + 1 = length-append gs (n.group ∷ []) in
    let here : place_of (gs ++ n.group ∷ []) n.group ≡ length gs = place_new gs n.group le in
    inr (
      kept ns (gs ++ n.group ∷ []) n.group (omega (arith, here, len)) ∙ here,
      subst (λ m. AreInOrder m (numbers l (fold with_group (gs ++ n.group ∷ []) ns) ns) (length (fold with_group (gs ++ n.group ∷ []) ns))) len new,
    )

order_step : (l : ℕ) (n : NoiseEntry) (ns : List NoiseEntry) (gs : List (List ℕ)) →
    AreInOrder (length gs) (numbers l (fold with_group gs ns) ns) (length (fold with_group gs ns)) →
    AreInOrder (length (gs ++ n.group ∷ [])) (numbers l (fold with_group (gs ++ n.group ∷ []) ns) ns) (length (fold with_group (gs ++ n.group ∷ []) ns)) →
    AreInOrder (length gs) (numbers l (fold with_group (with_group gs n) ns) (n ∷ ns)) (length (fold with_group (with_group gs n) ns))
order_step l n ns gs old new =
    elim (stands_in gs n.group) as (λ b. stands_in gs n.group ≡ b → AreInOrder (length gs) (numbers l (fold with_group (if b then gs else gs ++ n.group ∷ []) ns) (n ∷ ns)) (length (fold with_group (if b then gs else gs ++ n.group ∷ []) ns))) [
      | true ↦ λ e. met_group l n ns gs (below (place_of gs n.group) (length gs) e) old
      | false ↦ λ e. new_group l n ns gs (not_below (place_of gs n.group) (length gs) e) new
    ] refl

-- after the groups gs, those of ns are numbered on
pub in_order : (l : ℕ) (ns : List NoiseEntry) (gs : List (List ℕ)) →
    AreInOrder (length gs) (map (λ (e : TypeEntry). e.group) (map (noise_type l (fold with_group gs ns)) ns)) (length (fold with_group gs ns))
in_order l [] gs = refl
in_order l (n ∷ ns) gs = order_step l n ns gs (in_order l ns gs) (in_order l ns (gs ++ n.group ∷ []))
