-- Rows of tables and their lines.
use Rattle.std.proofs.Common.{◌≡◌, ◌≢◌, ℕ, zero, suc, ◌+◌, ◌-◌, ◌<◌, ◌≤◌, ℤ, Bool, true, false, List, [], ◌∷◌, ◌++◌, map, take, drop, length, get_or, refl, sym, ap, ◌∙◌, subst, arith, Result, Ok, Err}
use Rattle.std.specs.Prelude.{MatchBool, IfOk}
use Rattle.std.specs.Cmp.{IsTotalOrder}
use Rattle.std.specs.Ordering.{is_lt}
use Rattle.std.specs.List.{AllByRecursion}
use Rattle.std.specs.List.Sorted.{IsStrictlySortedBy}
use Rattle.std.specs.declared.cmp.Ordering.{Ordering}
use Rattle.std.specs.declared.cmp.Ordering.TheVariants.{Less, Equal, Greater}
use Rattle.std.proofs.lemmas.List.{map-append, length-map, get_or-map, take_all, take_more}
use Rattle.limits.specs.declared.TheConstants.{MOST_LISTED_DECORATIONS, MOST_DECORATIONS}
use Rattle.degree_numbers.specs.declared.types.Types.{Types}
use Rattle.degree_numbers.specs.Types.{AreTypes}
use Rattle.plain_trees.specs.Plain.{Plain, tree_order}
use Rattle.plain_trees.specs.Reading.{IsTreeOf}
use Rattle.plain_trees.specs.Text.{tree_text}
use Rattle.plain_trees.proofs.OrderLaws.{tree_order_total}
use Rattle.plain_trees.proofs.Readings.{unique}
use Rattle.tree_pool.specs.Content.{Content, tree_at, id_order, IsGrown}
use Rattle.tree_pool.proofs.Ids.{id_order-at}
use Rattle.tree_pool.proofs.Growth.{grown_at, grown_length}
use Rattle.character_tables.specs.declared.table.Character.{Character}
use Rattle.character_tables.specs.declared.table.CharacterRow.{CharacterRow}
use Rattle.character_tables.specs.Reading.{IsRowOf, IsReadRow, AreReadRows, AreBefore}
use Rattle.character_tables.specs.Rows.{Row, rows_over, trees_in, AreKnownRows, IsValue, IsCharacter}
use Rattle.character_tables.specs.Texts.{number_text, row_text, IsTableTree, IsRow, IsTable, HasLines, IsFirstFault}
use Rattle.character_tables.proofs.LastSpaces.{same_cut}
use Rattle.character_tables.proofs.NumberTexts.{number_no_space, number_exact}

-- a tree of a table has a text that is read
pub tree_of_text : (ty : Types) (t : Plain) (text : List ℕ) → IsTableTree ty t → tree_text ty t ≡ text → IsTreeOf ty MOST_LISTED_DECORATIONS text t
tree_of_text ty t text h e = record { types = h.types; canonical = h.canonical; edges = h.edges; decorations = h.decorations; printed = e }

abbrev pair : Plain → ℤ → Row
pair t z = (t, z)

-- a line is that of one row at most
row_unique : (ty : Types) → AreTypes ty → (r s : Row) → IsRow ty r → IsRow ty s → row_text ty r ≡ row_text ty s → r ≡ s
row_unique ty accepted r s h g e =
    let both = same_cut 32 (tree_text ty r.0) (number_text r.1) (tree_text ty s.0) (number_text s.1) (number_no_space r.1) (number_no_space s.1) e in
    let tree : r.0 ≡ s.0 =
    unique ty accepted MOST_LISTED_DECORATIONS (omega arith) (tree_text ty s.0) r.0 s.0 (tree_of_text ty r.0 (tree_text ty s.0) h.0 both.0)
    (tree_of_text ty s.0 (tree_text ty s.0) g.0 refl)
    in
    let value : r.1 ≡ s.1 = number_exact r.1 s.1 both.1 in
    ap (λ (t : Plain). pair t r.1) tree ∙ ap (pair s.0) value

pub rows_unique : (ty : Types) → AreTypes ty → (rs ss : List Row) → AllByRecursion (IsRow ty) rs →
    AllByRecursion (IsRow ty) ss → map (row_text ty) rs ≡ map (row_text ty) ss →
    rs ≡ ss
rows_unique ty accepted [] [] h g e = refl
rows_unique ty accepted [] (s ∷ ss) h g e = absurd cc
rows_unique ty accepted (r ∷ rs) [] h g e = absurd cc
rows_unique ty accepted (r ∷ rs) (s ∷ ss) h g e =
    let first = row_unique ty accepted r s h.0 g.0 (heads (row_text ty r) (row_text ty s) (map (row_text ty) rs) (map (row_text ty) ss) e) in
    let rest = rows_unique ty accepted rs ss h.1 g.1 (tails (row_text ty r) (row_text ty s) (map (row_text ty) rs) (map (row_text ty) ss) e) in
    ap (λ (q : Row). q ∷ rs) first ∙ ap (λ (qs : List Row). s ∷ qs) rest
  where
    heads : (x y : List ℕ) (xs ys : List (List ℕ)) → x ∷ xs ≡ y ∷ ys → x ≡ y
    heads x y xs ys e = cc

    tails : (x y : List ℕ) (xs ys : List (List ℕ)) → x ∷ xs ≡ y ∷ ys → xs ≡ ys
    tails x y xs ys e = cc

-- the last of some rows
record HasLast {X Y : Type 0} (f : X → Y) (xs : List X) (ys : List Y) (y : Y) : Type 0 where
  pub front : List X
  pub last : X
  pub whole : xs ≡ front ++ last ∷ []
  pub front_is : map f front ≡ ys
  pub last_is : f last ≡ y

module _ {X Y : Type 0} (f : X → Y) where
  head_of : (x y : Y) (xs ys : List Y) → x ∷ xs ≡ y ∷ ys → x ≡ y
  head_of x y xs ys e = cc

  tail_of : (x y : Y) (xs ys : List Y) → x ∷ xs ≡ y ∷ ys → xs ≡ ys
  tail_of x y xs ys e = cc

  none_is : (xs : List X) → map f xs ≡ [] → xs ≡ []
  none_is [] e = refl
  none_is (x ∷ xs) e = absurd cc

  last_of : (xs : List X) (ys : List Y) (y : Y) → map f xs ≡ ys ++ y ∷ [] → HasLast f xs ys y
  last_of [] [] y e = absurd cc
  last_of [] (z ∷ ys) y e = absurd cc
  last_of (x ∷ xs) [] y e = record {
    front = [];
    last = x;
    whole = ap (λ (vs : List X). x ∷ vs) (none_is xs (tail_of (f x) y (map f xs) [] e));
    front_is = refl;
    last_is = head_of (f x) y (map f xs) [] e;
  }
  last_of (x ∷ xs) (z ∷ ys) y e =
      let rest = last_of xs ys y (tail_of (f x) z (map f xs) (ys ++ y ∷ []) e) in
      record {
        front = x ∷ rest.front;
        last = rest.last;
        whole = ap (λ (vs : List X). x ∷ vs) rest.whole;
        front_is = ap (λ (v : Y). v ∷ map f rest.front) (head_of (f x) z (map f xs) (ys ++ y ∷ []) e) ∙ ap (λ (vs : List Y). z ∷ vs) rest.front_is;
        last_is = rest.last_is;
      }

module _ {X : Type 0} (P : X → Type 0) where
  all_at : (xs : List X) (i : ℕ) (x : X) → i < length xs → x ≡ get_or xs i x → AllByRecursion P xs → P x
  all_at [] i x lt is h = absurd (omega (arith, lt))
  all_at (y ∷ xs) zero x lt is h = subst P (sym is) h.0
  all_at (y ∷ xs) (suc i) x lt is h = all_at xs i x (omega (arith, lt)) is h.1

  all_push : (xs : List X) (y : X) → AllByRecursion P xs → P y → AllByRecursion P (xs ++ y ∷ [])
  all_push [] y h p = (p, tt)
  all_push (x ∷ xs) y h p = (h.0, all_push xs y h.1 p)

  all_front : (xs : List X) (y : X) → AllByRecursion P (xs ++ y ∷ []) → AllByRecursion P xs × P y
  all_front [] y h = (tt, h.0)
  all_front (x ∷ xs) y h = let rest = all_front xs y h.1 in ((h.0, rest.0), rest.1)

-- one more at the end of what is strictly sorted
module _ {X : Type 0} (c : X → X → Ordering) where
  sorted_push : (xs : List X) (y : X) → IsStrictlySortedBy c xs → AllByRecursion (λ x. c x y ≡ Less) xs → IsStrictlySortedBy c (xs ++ y ∷ [])
  unfolding IsStrictlySortedBy
  sorted_push [] y s h = (tt, tt)
  sorted_push (x ∷ xs) y s h = (all_push (λ z. c x z ≡ Less) xs y s.0 h.0, sorted_push xs y s.1 h.1)

  sorted_front : (xs : List X) (y : X) → IsStrictlySortedBy c (xs ++ y ∷ []) → IsStrictlySortedBy c xs × AllByRecursion (λ x. c x y ≡ Less) xs
  unfolding IsStrictlySortedBy
  sorted_front [] y s = (tt, tt)
  sorted_front (x ∷ xs) y s =
      let here = all_front (λ z. c x z ≡ Less) xs y s.0 in
      let rest = sorted_front xs y s.1 in
      ((here.0, rest.0), (here.1, rest.1))

  last_below : IsTotalOrder c → (xs : List X) (y d : X) (i : ℕ) → i + 1 ≡ length xs →
      IsStrictlySortedBy c xs → c (get_or xs i d) y ≡ Less → AllByRecursion (λ x. c x y ≡ Less) xs
  unfolding IsStrictlySortedBy
  last_below o [] y d i long s h = absurd (omega (arith, long))
  last_below o (x ∷ []) y d zero long s h = (h, tt)
  last_below o (x ∷ []) y d (suc i) long s h = absurd (omega (arith, long))
  last_below o (x ∷ z ∷ xs) y d zero long s h = absurd (omega (arith, long))
  last_below o (x ∷ z ∷ xs) y d (suc i) long s h =
      let rest = last_below o (z ∷ xs) y d i (omega (arith, long)) s.1 h in
      (o.trans x z y s.0.0 rest.0, rest)

  below_last : (xs : List X) (y d : X) (i : ℕ) → i + 1 ≡ length xs → AllByRecursion (λ x. c x y ≡ Less) xs → c (get_or xs i d) y ≡ Less
  below_last [] y d i long h = absurd (omega (arith, long))
  below_last (x ∷ xs) y d zero long h = h.0
  below_last (x ∷ []) y d (suc i) long h = absurd (omega (arith, long))
  below_last (x ∷ z ∷ xs) y d (suc i) long h = below_last (z ∷ xs) y d i (omega (arith, long)) h.1

less_is : (o : Ordering) → is_lt o ≡ true → o ≡ Less
less_is Less e = refl
less_is Equal e = absurd cc
less_is Greater e = absurd cc

-- rows in a pool that grows
pub rows_grown : (c d : Content) (rs : List CharacterRow) → IsGrown c d → AreKnownRows c rs → rows_over d rs ≡ rows_over c rs
rows_grown c d [] g k = refl
rows_grown c d (r ∷ rs) g k =
    ap (λ (t : Plain). pair t r.value ∷ rows_over d rs) (grown_at c d r.tree.0 g k.0) ∙ ap (λ (qs : List Row). pair (tree_at c r.tree.0) r.value ∷ qs) (rows_grown c d rs g k.1)

pub known_grown : (c d : Content) (rs : List CharacterRow) → IsGrown c d → AreKnownRows c rs → AreKnownRows d rs
known_grown c d [] g k = tt
known_grown c d (r ∷ rs) g k = (omega (arith, k.0, grown_length c d g), known_grown c d rs g k.1)

abbrev pub row_at : Content → CharacterRow → Row
row_at c r = (tree_at c r.tree.0, r.value)

-- whether a tree comes behind the last of some rows
module _ (c : Content) (rs : List CharacterRow) (r last : CharacterRow) (i : ℕ) (known : AreKnownRows c rs) (there : r.tree.0 < length c.trees)
    (long : i + 1 ≡ length rs) (at : last ≡ get_or rs i last) where
  last_known : last.tree.0 < length c.trees
  last_known = all_at (λ (q : CharacterRow). q.tree.0 < length c.trees) rs i last (omega (arith, long)) at known

  trees_long : i + 1 ≡ length (trees_in (rows_over c rs))
  trees_long = long ∙ sym (length-map rs (row_at c)) ∙ sym (length-map (rows_over c rs) (λ (q : Row). q.0))

  last_tree : get_or (trees_in (rows_over c rs)) i (tree_at c last.tree.0) ≡ tree_at c last.tree.0
  last_tree =
      get_or-map (λ (q : Row). q.0) (rows_over c rs) i (row_at c last) (tree_at c last.tree.0) (omega (arith, long, length-map rs (row_at c)))
      ∙ ap (λ (q : Row). q.0) (get_or-map (row_at c) rs i last (row_at c last) (omega (arith, long)))
      ∙ ap (λ (q : CharacterRow). tree_at c q.tree.0) (sym at)

  pub behind_last : (o : Ordering) (b : Bool) → o ≡ id_order c.trees last.tree.0 r.tree.0 →
      b ≡ is_lt o → IsStrictlySortedBy tree_order (trees_in (rows_over c rs)) →
      MatchBool b (AreBefore (trees_in (rows_over c rs)) (tree_at c r.tree.0)) (AreBefore (trees_in (rows_over c rs)) (tree_at c r.tree.0) → ⊥)
  behind_last o b e f sorted =
      let order : o ≡ tree_order (tree_at c last.tree.0) (tree_at c r.tree.0) = e ∙ id_order-at c last.tree.0 r.tree.0 last_known there in
      let ts = trees_in (rows_over c rs) in
      (elim b as (λ x. b ≡ x → MatchBool x (AreBefore ts (tree_at c r.tree.0)) (AreBefore ts (tree_at c r.tree.0) → ⊥)) [
        | true ↦ λ yes.
            let less : tree_order (tree_at c last.tree.0) (tree_at c r.tree.0) ≡ Less = sym order ∙ less_is o (sym f ∙ yes) in
            last_below tree_order tree_order_total ts (tree_at c r.tree.0) (tree_at c last.tree.0) i trees_long sorted
            (subst (λ (t : Plain). tree_order t (tree_at c r.tree.0) ≡ Less) (sym last_tree) less)
        | false ↦ λ no before.
            let here = below_last tree_order ts (tree_at c r.tree.0) (tree_at c last.tree.0) i trees_long before in
            let less : o ≡ Less = order ∙ subst (λ (t : Plain). tree_order t (tree_at c r.tree.0) ≡ Less) last_tree here in
            let both : true ≡ false = sym (ap is_lt less) ∙ sym f ∙ no in
            absurd cc
      ]) refl

-- a table with a line more
module _ (c d : Content) (rs : List CharacterRow) (ls : List (List ℕ)) (line : List ℕ) (accepted : AreTypes c.types) (grown : IsGrown c d)
    (read : AreReadRows c ls rs) where
  same : rows_over d rs ≡ rows_over c rs
  same = rows_grown c d rs grown read.known

  -- a line that is that of no row
  pub no_row : ((r : Row) → IsRowOf c.types line r → ⊥) → (qs : List Row) → HasLines c.types (ls ++ line ∷ []) qs → ⊥
  no_row none qs h =
      let l = last_of (row_text c.types) qs ls line h.1 in
      let rows = subst (λ (vs : List Row). AllByRecursion (IsRow c.types) vs) l.whole h.0.rows in
      none l.last ((all_front (IsRow c.types) l.front l.last rows).1, l.last_is)

  module _ (r : CharacterRow) (is : IsReadRow d line r) where
    abbrev pub row : Row
    row = row_at d r

    row_is : IsRowOf c.types line row
    row_is = subst (λ (ty : Types). IsRowOf ty line row) grown.types is.row

    -- a row whose tree does not come behind the others
    pub not_behind : (AreBefore (trees_in (rows_over d rs)) row.0 → ⊥) → (qs : List Row) → HasLines c.types (ls ++ line ∷ []) qs → ⊥
    not_behind none qs h =
        let l = last_of (row_text c.types) qs ls line h.1 in
        let parts = all_front (IsRow c.types) l.front l.last (subst (λ (vs : List Row). AllByRecursion (IsRow c.types) vs) l.whole h.0.rows) in
        let front_same : l.front ≡ rows_over d rs = rows_unique c.types accepted l.front (rows_over c rs) parts.0 read.lines.0.rows (l.front_is ∙ sym read.lines.1) ∙ sym same in
        let last_same : l.last ≡ row = row_unique c.types accepted l.last row parts.1 row_is.0 (l.last_is ∙ sym row_is.1) in
        let whole : trees_in qs ≡ trees_in l.front ++ l.last.0 ∷ [] = ap trees_in l.whole ∙ map-append (λ (q : Row). q.0) l.front (l.last ∷ []) in
        let sorted = subst (λ (ts : List Plain). IsStrictlySortedBy tree_order ts) whole h.0.ascending in
        let before : AreBefore (trees_in l.front) l.last.0 = (sorted_front tree_order (trees_in l.front) l.last.0 sorted).1 in
        none (subst (λ (vs : List Row). AreBefore (trees_in vs) row.0) front_same (subst (λ (q : Row). AreBefore (trees_in l.front) q.0) last_same before))

    pub with_row : AreBefore (trees_in (rows_over d rs)) row.0 → AreReadRows d (ls ++ line ∷ []) (rs ++ r ∷ [])
    with_row before =
        let old = rows_over c rs in
        let before_old : AreBefore (trees_in old) row.0 = subst (λ (vs : List Row). AreBefore (trees_in vs) row.0) same before in
        let trees : trees_in (old ++ row ∷ []) ≡ trees_in old ++ row.0 ∷ [] = map-append (λ (q : Row). q.0) old (row ∷ []) in
        let table : IsTable c.types (old ++ row ∷ []) =
        record {
          rows = all_push (IsRow c.types) old row read.lines.0.rows row_is.0;
          ascending = subst (λ (ts : List Plain). IsStrictlySortedBy tree_order ts) (sym trees) (sorted_push tree_order (trees_in old) row.0 read.lines.0.ascending before_old);
        }
        in
        let texts : map (row_text c.types) (old ++ row ∷ []) ≡ ls ++ line ∷ [] =
        map-append (row_text c.types) old (row ∷ []) ∙ ap (λ (xs : List (List ℕ)). xs ++ row_text c.types row ∷ []) read.lines.1 ∙ ap (λ (x : List ℕ). ls ++ x ∷ []) row_is.1
        in
        let whole : old ++ row ∷ [] ≡ rows_over d (rs ++ r ∷ []) = ap (λ (vs : List Row). vs ++ row ∷ []) (sym same) ∙ sym (map-append (row_at d) rs (r ∷ [])) in
        record {
          known = all_push (λ (q : CharacterRow). q.tree.0 < length d.trees) rs r (known_grown c d rs grown read.known) is.known;
          lines =
              subst (λ (ty : Types). HasLines ty (ls ++ line ∷ []) (rows_over d (rs ++ r ∷ []))) (sym grown.types)
              (subst (λ (vs : List Row). HasLines c.types (ls ++ line ∷ []) vs) whole (table, texts));
        }

    -- by the test of what comes behind
    sorted_now : IsStrictlySortedBy tree_order (trees_in (rows_over d rs))
    sorted_now = subst (λ (vs : List Row). IsStrictlySortedBy tree_order (trees_in vs)) (sym same) read.lines.0.ascending

    abbrev pub IsTestOf : Bool → Type 0
    IsTestOf b = IsStrictlySortedBy tree_order (trees_in (rows_over d rs)) →
        MatchBool b (AreBefore (trees_in (rows_over d rs)) row.0) (AreBefore (trees_in (rows_over d rs)) row.0 → ⊥)

    pub test_fails : (b : Bool) → IsTestOf b → b ≡ false → (qs : List Row) → HasLines c.types (ls ++ line ∷ []) qs → ⊥
    test_fails true test e = absurd cc
    test_fails false test e = not_behind (test sorted_now)

    pub test_passes : (b : Bool) → IsTestOf b → b ≡ true → AreReadRows d (ls ++ line ∷ []) (rs ++ r ∷ [])
    test_passes true test e = with_row (test sorted_now)
    test_passes false test e = absurd cc

-- what is read is a character
pub is_character : (c : Content) (ls : List (List ℕ)) (rs : List CharacterRow) → AreReadRows c ls rs → IsCharacter c rs
is_character c ls rs read = record { known = read.known; ascending = read.lines.0.ascending; values = values_of rs read.lines.0.rows }
  where
    values_of : (qs : List CharacterRow) → AllByRecursion (IsRow c.types) (rows_over c qs) → AllByRecursion (λ (q : CharacterRow). IsValue q.value) qs
    values_of [] h = tt
    values_of (q ∷ qs) h = (h.0.1, values_of qs h.1)

-- lines that are gone through one by one
pub map_more : {X Y : Type 0} (f : X → Y) (xs : List X) (i : ℕ) (x : X) → i < length xs →
    x ≡ get_or xs i x → take (i + 1) (map f xs) ≡ take i (map f xs) ++ f x ∷ []
map_more {X} {Y} f xs i x lt is =
    take_more (map f xs) i (f x) (omega (arith, lt, length-map xs f))
    ∙ ap (λ (y : Y). take i (map f xs) ++ y ∷ []) (get_or-map f xs i x (f x) lt ∙ ap f (sym is))

pub all_of : {X Y : Type 0} (f : X → Y) (xs : List X) (i : ℕ) → length xs ≤ i → take i (map f xs) ≡ map f xs
all_of f xs i past = take_all i (map f xs) (omega (arith, past, length-map xs f))

pub fault_at : (c : Content) (ty : Types) (ls : List (List ℕ)) (i : ℕ) (line : List ℕ) (rs : List CharacterRow) → c.types ≡ ty → i < length ls →
    take (i + 1) ls ≡ take i ls ++ line ∷ [] → AreReadRows c (take i ls) rs → ((qs : List Row) → HasLines ty (take i ls ++ line ∷ []) qs → ⊥) → IsFirstFault ty ls (i + 1)
fault_at c ty ls i line rs types within more read none =
    let back : i + 1 - 1 ≡ i = omega arith in
    record {
      some = omega arith;
      within = omega (arith, within);
      before = (
        rows_over c rs,
        subst (λ (u : Types). HasLines u (take (i + 1 - 1) ls) (rows_over c rs)) types (subst (λ (k : ℕ). HasLines c.types (take k ls) (rows_over c rs)) (sym back) read.lines),
      );
      none = λ qs h. none qs (subst (λ (xs : List (List ℕ)). HasLines ty xs qs) more h);
    }

pub empty_table : (c : Content) → AreReadRows c [] []
unfolding IsStrictlySortedBy
empty_table c = record { known = tt; lines = (record { rows = tt; ascending = tt }, refl) }

pub characters_are : {E : Type 0} (c : Content) (ls : List (List ℕ)) (r : Result Character E) →
    IfOk r (λ g. AreReadRows c ls g.rows) → IfOk r (λ g. IsCharacter c g.rows)
characters_are c ls (Ok g) h = is_character c ls g.rows h
characters_are c ls (Err e) h = h

pub passes : (A B : Type 0) (b : Bool) → MatchBool b A B → b ≡ true → A
passes A B true h e = h
passes A B false h e = absurd cc

pub fails : (A B : Type 0) (b : Bool) → MatchBool b A B → b ≡ false → B
fails A B true h e = absurd cc
fails A B false h e = h

pub character_grown : (c d : Content) (rs : List CharacterRow) → IsGrown c d → IsCharacter c rs → IsCharacter d rs
character_grown c d rs g h =
    record {
      known = known_grown c d rs g h.known;
      ascending = subst (λ (qs : List Row). IsStrictlySortedBy tree_order (trees_in qs)) (sym (rows_grown c d rs g h.known)) h.ascending;
      values = h.values;
    }
