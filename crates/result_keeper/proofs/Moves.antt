-- What a migration leaves: each row under the new context of its own.
use Rattle.std.proofs.Common.{◌≡◌, ℕ, ◌||◌, List, [], ◌∷◌, ◌++◌, map, Bool, true, false, cond, Some, unwrap_or, refl, sym, ap, ◌∙◌}
use Rattle.std.specs.Ordering.{eq_by_cmp, is_eq}
use Rattle.std.specs.Cmp.{Equal-is, tied_itself}
use Rattle.std.specs.Str.{bytes_eq}
use Rattle.std.specs.Option.{option_map}
use Rattle.std.specs.List.{AllByRecursion, IsDistinct, list_any, dedup, dedup_from, find}
use Rattle.std.specs.FinMap.{keys, entries, from_entries}
use Rattle.std.proofs.lemmas.Map.Text.{is_eq-slice_cmp}
use Rattle.std.proofs.lemmas.Slice.Eq.{bytes_eq-Decides}
use Rattle.std.proofs.lemmas.List.Sorted.{IsPermutation-map, list_any-IsPermutation}
use Rattle.result_keeper.specs.Kept.{bytes_cmp, row_cmp, Rows, contexts_in, new_context, moved, moved_rows}
use Rattle.result_keeper.specs.Entries.{AreApart}
use Rattle.result_keeper.proofs.Orders.{bytes_total, bytes_exact, row_total, row_exact}
use Rattle.result_keeper.proofs.Maps.{entries_permute, same_in_any_order}

abbrev Pairs : Type 0
Pairs = List (List ℕ × List ℕ)

abbrev Entry : Type 0
Entry = (List ℕ × List ℕ) × List ℕ

pub bytes_itself : (x : List ℕ) → bytes_eq x x ≡ true
bytes_itself x = sym (is_eq-slice_cmp x x) ∙ ap is_eq (tied_itself bytes_total x)

pub same_bytes : (x y : List ℕ) → bytes_eq x y ≡ true → x ≡ y
same_bytes x y h = (bytes_eq-Decides x y).0 h

or_true : (a b : Bool) → b ≡ true → (a || b) ≡ true
or_true true b h = refl
or_true false b h = h

or_here : (a b : Bool) → a ≡ true → (a || b) ≡ true
or_here true b h = refl
or_here false b h = absurd cc

or_twice : (a b : Bool) → (a || b) ≡ (a || (a || b))
or_twice true b = refl
or_twice false b = refl

-- the new context of the first pair's old one, and of another
new_context-same : (p : List ℕ × List ℕ) (ps : Pairs) (c : List ℕ) → bytes_eq c p.0 ≡ true → new_context (p ∷ ps) c ≡ p.1
new_context-same p ps c h = ap (λ b. unwrap_or (option_map (λ q. q.1) (cond b (Some p) (find (λ q. bytes_eq c q.0) ps))) c) h

new_context-other : (p : List ℕ × List ℕ) (ps : Pairs) (c : List ℕ) → bytes_eq c p.0 ≡ false → new_context (p ∷ ps) c ≡ new_context ps c
new_context-other p ps c h = ap (λ b. unwrap_or (option_map (λ q. q.1) (cond b (Some p) (find (λ q. bytes_eq c q.0) ps))) c) h

among_rest : (p : List ℕ × List ℕ) (ps : Pairs) (c : List ℕ) → bytes_eq c p.0 ≡ false →
    list_any (bytes_eq c) (p.0 ∷ map (λ q. q.0) ps) ≡ true →
    list_any (bytes_eq c) (map (λ q. q.0) ps) ≡ true
among_rest p ps c h m = sym (ap (λ b. b || list_any (bytes_eq c) (map (λ q. q.0) ps)) h) ∙ m

new_among : (ps : Pairs) (c : List ℕ) → list_any (bytes_eq c) (map (λ q. q.0) ps) ≡ true → list_any (bytes_eq (new_context ps c)) (map (λ q. q.1) ps) ≡ true
new_among [] c m = absurd cc
new_among (p ∷ ps) c m =
    (elim (bytes_eq c p.0) as (λ b. bytes_eq c p.0 ≡ b → list_any (bytes_eq (new_context (p ∷ ps) c)) (p.1 ∷ map (λ q. q.1) ps) ≡ true) [
      | true ↦ λ h. or_here (bytes_eq (new_context (p ∷ ps) c) p.1) (list_any (bytes_eq (new_context (p ∷ ps) c)) (map (λ q. q.1) ps)) (ap (λ n. bytes_eq n p.1) (new_context-same p ps c h) ∙ bytes_itself p.1)
      | false ↦ λ h. or_true (bytes_eq (new_context (p ∷ ps) c) p.1) (list_any (bytes_eq (new_context (p ∷ ps) c)) (map (λ q. q.1) ps)) (ap (λ n. list_any (bytes_eq n) (map (λ q. q.1) ps)) (new_context-other p ps c h) ∙ new_among ps c (among_rest p ps c h m))
    ]) refl

not_among : (x : List ℕ) (ns : List (List ℕ)) → AllByRecursion (λ y. bytes_eq x y ≡ false) ns → list_any (bytes_eq x) ns ≡ false
not_among x [] h = refl
not_among x (n ∷ ns) h = ap (λ b. b || list_any (bytes_eq x) ns) h.0 ∙ not_among x ns h.1

clash : (x y : List ℕ) (ns : List (List ℕ)) → AllByRecursion (λ n. bytes_eq x n ≡ false) ns → x ≡ y → list_any (bytes_eq y) ns ≡ true → ⊥
clash x y ns a e m =
    let no : list_any (bytes_eq x) ns ≡ false = not_among x ns a in
    let yes : list_any (bytes_eq x) ns ≡ true = ap (λ z. list_any (bytes_eq z) ns) e ∙ m in
    cc

-- no two old contexts have one new one
new_context-apart : (ps : Pairs) (a b : List ℕ) → IsDistinct bytes_eq (map (λ q. q.1) ps) →
    list_any (bytes_eq a) (map (λ q. q.0) ps) ≡ true →
    list_any (bytes_eq b) (map (λ q. q.0) ps) ≡ true → new_context ps a ≡ new_context ps b → a ≡ b
unfolding IsDistinct
new_context-apart [] a b d m n h = absurd cc
new_context-apart (p ∷ ps) a b d m n h =
    (elim (bytes_eq a p.0) as (λ x. bytes_eq a p.0 ≡ x → a ≡ b) [
      | true ↦ λ e. (elim (bytes_eq b p.0) as (λ y. bytes_eq b p.0 ≡ y → a ≡ b) [
        | true ↦ λ f. same_bytes a p.0 e ∙ sym (same_bytes b p.0 f)
        | false ↦ λ f. absurd (clash p.1 (new_context ps b) (map (λ q. q.1) ps) d.0 (sym (new_context-same p ps a e) ∙ h ∙ new_context-other p ps b f) (new_among ps b (among_rest p ps b f n)))
      ]) refl
      | false ↦ λ e. (elim (bytes_eq b p.0) as (λ y. bytes_eq b p.0 ≡ y → a ≡ b) [
        | true ↦ λ f. absurd (clash p.1 (new_context ps a) (map (λ q. q.1) ps) d.0 (sym (new_context-same p ps b f) ∙ sym h ∙ new_context-other p ps a e) (new_among ps a (among_rest p ps a e m)))
        | false ↦ λ f. new_context-apart ps a b d.1 (among_rest p ps a e m) (among_rest p ps b f n) (sym (new_context-other p ps a e) ∙ h ∙ new_context-other p ps b f)
      ]) refl
    ]) refl

-- a row is among the contexts of the pairs
abbrev IsOld : Pairs → Entry → Type 0
IsOld ps e = list_any (bytes_eq e.0.0) (map (λ q. q.0) ps) ≡ true

keys_apart : (ps : Pairs) (e f : Entry) → IsDistinct bytes_eq (map (λ q. q.1) ps) → IsOld ps e →
    IsOld ps f → eq_by_cmp row_cmp e.0 f.0 ≡ false →
    eq_by_cmp row_cmp (moved ps e).0 (moved ps f).0 ≡ false
keys_apart ps e f d m n apart =
    (elim (eq_by_cmp row_cmp (moved ps e).0 (moved ps f).0) as (λ b. eq_by_cmp row_cmp (moved ps e).0 (moved ps f).0 ≡ b → b ≡ false) [
      | true ↦ λ t.
          let same : (moved ps e).0 ≡ (moved ps f).0 = row_exact (moved ps e).0 (moved ps f).0 ((Equal-is (row_cmp (moved ps e).0 (moved ps f).0)).0 t) in
          let contexts : e.0.0 ≡ f.0.0 = new_context-apart ps e.0.0 f.0.0 d m n (ap (λ (k : List ℕ × List ℕ). k.0) same) in
          let trees : e.0.1 ≡ f.0.1 = ap (λ (k : List ℕ × List ℕ). k.1) same in
          let one : e.0 ≡ f.0 = λ i. (contexts i, trees i) in
          let tie : eq_by_cmp row_cmp e.0 f.0 ≡ true = ap (eq_by_cmp row_cmp e.0) (sym one) ∙ ap is_eq (tied_itself row_total e.0) in
          sym tie ∙ apart
      | false ↦ λ t. refl
    ]) refl

moved_apart_from : (ps : Pairs) (e : Entry) (es : List Entry) →
    IsDistinct bytes_eq (map (λ q. q.1) ps) → IsOld ps e → AllByRecursion (IsOld ps) es →
    AllByRecursion (λ y. eq_by_cmp row_cmp e.0 y ≡ false) (map (λ f. f.0) es) →
    AllByRecursion (λ y. eq_by_cmp row_cmp (moved ps e).0 y ≡ false) (map (λ f. f.0) (map (moved ps) es))
moved_apart_from ps e [] d m all apart = tt
moved_apart_from ps e (f ∷ es) d m all apart = (keys_apart ps e f d m all.0 apart.0, moved_apart_from ps e es d m all.1 apart.1)

moved_apart : (ps : Pairs) (es : List Entry) → IsDistinct bytes_eq (map (λ q. q.1) ps) →
    AllByRecursion (IsOld ps) es → AreApart row_cmp es → AreApart row_cmp (map (moved ps) es)
unfolding IsDistinct
moved_apart ps [] d all apart = tt
moved_apart ps (e ∷ es) d all apart = (moved_apart_from ps e es d all.0 all.1 apart.0, moved_apart ps es d all.1 apart.1)

pub among-dedup : (q : List ℕ) (xs : List (List ℕ)) → list_any (bytes_eq q) (dedup bytes_eq xs) ≡ list_any (bytes_eq q) xs
among-dedup q [] = refl
among-dedup q (x ∷ xs) = go x xs
  where
    go : (k : List ℕ) (xs : List (List ℕ)) → list_any (bytes_eq q) (dedup_from bytes_eq k xs) ≡ list_any (bytes_eq q) (k ∷ xs)
    go k [] = refl
    go k (x ∷ xs) =
        (elim (bytes_eq x k) as (λ b. bytes_eq x k ≡ b → list_any (bytes_eq q) (cond b (dedup_from bytes_eq k xs) (k ∷ dedup_from bytes_eq x xs)) ≡ (bytes_eq q k || (bytes_eq q x || list_any (bytes_eq q) xs))) [
          | true ↦ λ t. go k xs ∙ or_twice (bytes_eq q k) (list_any (bytes_eq q) xs) ∙ ap (λ y. bytes_eq q k || (bytes_eq q y || list_any (bytes_eq q) xs)) (sym (same_bytes x k t))
          | false ↦ λ t. ap (λ b. bytes_eq q k || b) (go x xs)
        ]) refl

all_among : (es : List Entry) (cs : List (List ℕ)) →
    ((q : List ℕ) → list_any (bytes_eq q) (map (λ r. r.0) (map (λ e. e.0) es)) ≡ true → list_any (bytes_eq q) cs ≡ true) →
    AllByRecursion (λ e. list_any (bytes_eq e.0.0) cs ≡ true) es
all_among [] cs h = tt
all_among (e ∷ es) cs h = (
  h e.0.0 (or_here (bytes_eq e.0.0 e.0.0) (list_any (bytes_eq e.0.0) (map (λ r. r.0) (map (λ f. f.0) es))) (bytes_itself e.0.0)),
  all_among es cs (λ q a. h q (or_true (bytes_eq q e.0.0) (list_any (bytes_eq q) (map (λ r. r.0) (map (λ f. f.0) es))) a)),
)

all_old : (ps : Pairs) (es : List Entry) → AreApart row_cmp es → map (λ q. q.0) ps ≡ contexts_in (from_entries es) → AllByRecursion (IsOld ps) es
all_old ps es apart olds =
    let m : Rows = from_entries es in
    all_among es (map (λ q. q.0) ps) (λ q a.
    ap (list_any (bytes_eq q)) olds
    ∙ among-dedup q (map (λ r. r.0) (keys m))
    ∙ sym (list_any-IsPermutation (bytes_eq q) (map (λ r. r.0) (map (λ e. e.0) es)) (map (λ r. r.0) (keys m)) (IsPermutation-map (λ r. r.0) (map (λ e. e.0) es) (keys m) (IsPermutation-map (λ e. e.0) es (entries m) (entries_permute row_cmp row_total es apart))))
    ∙ a)

-- no pair of a context and a tree comes twice after the migration
pub moves_apart : (ps : Pairs) (es : List Entry) → AreApart row_cmp es →
    map (λ q. q.0) ps ≡ contexts_in (from_entries es) → IsDistinct bytes_eq (map (λ q. q.1) ps) →
    AreApart row_cmp (map (moved ps) es)
moves_apart ps es apart olds d = moved_apart ps es d (all_old ps es apart olds) apart

-- the moved rows of a list make the moved rows of its map
pub moves : (ps : Pairs) (es : List Entry) → AreApart row_cmp es →
    map (λ q. q.0) ps ≡ contexts_in (from_entries es) → IsDistinct bytes_eq (map (λ q. q.1) ps) →
    from_entries (map (moved ps) es) ≡ moved_rows ps (from_entries es)
moves ps es apart olds d =
    let m : Rows = from_entries es in
    same_in_any_order row_cmp row_total bytes_cmp bytes_total row_exact bytes_exact (map (moved ps) es) (map (moved ps) (entries m)) (moves_apart ps es apart olds d) (IsPermutation-map (moved ps) es (entries m) (entries_permute row_cmp row_total es apart))

one_more : (ps : Pairs) (p : List ℕ × List ℕ) (c : List ℕ) →
    AllByRecursion (λ q. bytes_eq q.1 p.0 ≡ false) ps →
    new_context (p ∷ []) (new_context ps c) ≡ new_context (ps ++ p ∷ []) c
one_more [] p c a = refl
one_more (q ∷ ps) p c a =
    (elim (bytes_eq c q.0) as (λ b. bytes_eq c q.0 ≡ b → new_context (p ∷ []) (new_context (q ∷ ps) c) ≡ new_context (q ∷ ps ++ p ∷ []) c) [
      | true ↦ λ h. ap (new_context (p ∷ [])) (new_context-same q ps c h) ∙ new_context-other p [] q.1 a.0 ∙ sym (new_context-same q (ps ++ p ∷ []) c h)
      | false ↦ λ h. ap (new_context (p ∷ [])) (new_context-other q ps c h) ∙ one_more ps p c a.1 ∙ sym (new_context-other q (ps ++ p ∷ []) c h)
    ]) refl

-- a row that is moved by some pairs, and then by one more whose old context is none of their new
-- ones
pub moved_then : (ps : Pairs) (p : List ℕ × List ℕ) (e : Entry) →
    AllByRecursion (λ q. bytes_eq q.1 p.0 ≡ false) ps →
    moved (p ∷ []) (moved ps e) ≡ moved (ps ++ p ∷ []) e
moved_then ps p e a = ap (λ (c : List ℕ). ((c, e.0.1), e.1)) (one_more ps p e.0.0 a)
