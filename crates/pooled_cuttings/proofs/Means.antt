-- What lines mean stays when a grove grows.
use Rattle.std.proofs.Common.{◌≡◌, ℕ, ◌+◌, ◌<◌, ◌≤◌, List, [], ◌∷◌, ◌++◌, refl, sym, ap, ◌∙◌, arith}
use Rattle.std.specs.List.{AllByRecursion}
use Rattle.exact_sums.specs.Keyed.{rekeyed}
use Rattle.plain_trees.specs.Plain.{Plain}
use Rattle.plain_trees.specs.Coproducts.{Extracted, Recentred}
use Rattle.tree_pool.specs.Content.{Content, tree_at, IsGrown}
use Rattle.tree_pool.proofs.Growth.{grown_length, grown_at}
use Rattle.cutting_tables.specs.Keys.{Opened}
use Rattle.pooled_cuttings.specs.declared.keys.OpenKey.{OpenKey}
use Rattle.pooled_cuttings.specs.declared.keys.ExtractKey.{ExtractKey}
use Rattle.pooled_cuttings.specs.declared.keys.RightKey.{RightKey}
use Rattle.pooled_cuttings.specs.declared.tables.TableBounds.{TableBounds}
use Rattle.pooled_cuttings.specs.declared.tables.NodeTables.{NodeTables}
use Rattle.pooled_cuttings.specs.NodeTables.{AreTables, IsRightTable}
use Rattle.pooled_cuttings.specs.Groves.{GroveContent, IsGrove, IsGrownGrove, forest_in}
use Rattle.pooled_cuttings.specs.Lines.{opened_in, extracted_in, recentred_in, opened_terms_in, extracted_terms_in, recentred_terms_in, IsOpenKey, IsExtractKey, IsRightKey, IsOpenLine, IsExtractLine, IsRightLine, AreOpenLines, AreExtractLines, AreRightLines}
use Rattle.pooled_cuttings.proofs.Groves.{more_trees, more_forests, tree_grown, forest_grown}

abbrev pub open_of : List Plain → Plain → Plain → Opened
open_of fs p q = record { above = fs; part = p; quotient = q }

abbrev pub pair_of : {A B : Type 0} → A → B → A × B
pair_of a b = (a, b)

pub open_key_grown : (g h : GroveContent) (k : OpenKey) → IsGrownGrove g h → IsOpenKey g k → IsOpenKey h k
open_key_grown g h k a i =
    let n = more_trees g h a in
    let m = more_forests g h a in
    let f = i.above in
    let p = i.part in
    let q = i.quotient in
    record { above = omega (arith, m, f); part = omega (arith, n, p); quotient = omega (arith, n, q) }

pub opened_grown : (g h : GroveContent) (k : OpenKey) → IsGrove g → IsGrownGrove g h → IsOpenKey g k → opened_in h k ≡ opened_in g k
opened_grown g h k is a i =
    ap (λ (fs : List Plain). open_of fs (tree_at h.pool k.part.0) (tree_at h.pool k.quotient.0)) (forest_grown g h k.above.0 is a i.above)
    ∙ ap (λ (t : Plain). open_of (forest_in g k.above.0) t (tree_at h.pool k.quotient.0)) (tree_grown g h k.part.0 a i.part)
    ∙ ap (open_of (forest_in g k.above.0) (tree_at g.pool k.part.0)) (tree_grown g h k.quotient.0 a i.quotient)

pub extract_key_grown : (g h : GroveContent) (k : ExtractKey) → IsGrownGrove g h → IsExtractKey g k → IsExtractKey h k
extract_key_grown g h k a i =
    let n = more_trees g h a in
    let m = more_forests g h a in
    let f = i.forest in
    let q = i.quotient in
    record { forest = omega (arith, m, f); quotient = omega (arith, n, q) }

pub extracted_grown : (g h : GroveContent) (k : ExtractKey) → IsGrove g → IsGrownGrove g h → IsExtractKey g k → extracted_in h k ≡ extracted_in g k
extracted_grown g h k is a i =
    ap (λ (fs : List Plain). pair_of fs (tree_at h.pool k.quotient.0)) (forest_grown g h k.forest.0 is a i.forest)
    ∙ ap (pair_of (forest_in g k.forest.0)) (tree_grown g h k.quotient.0 a i.quotient)

pub right_key_grown : (c d : Content) (k : RightKey) → IsGrown c d → IsRightKey c k → IsRightKey d k
right_key_grown c d k a i =
    let n = grown_length c d a in
    let l = i.left in
    let r = i.right in
    record { left = omega (arith, n, l); right = omega (arith, n, r) }

pub recentred_grown : (c d : Content) (k : RightKey) → IsGrown c d → IsRightKey c k → recentred_in d k ≡ recentred_in c k
recentred_grown c d k a i =
    ap (λ (t : Plain). pair_of t (tree_at d k.right.0)) (grown_at c d k.left.0 a i.left)
    ∙ ap (pair_of (tree_at c k.left.0)) (grown_at c d k.right.0 a i.right)

pub open_line_grown : (g h : GroveContent) (l : OpenKey × ℕ) → IsGrownGrove g h → IsOpenLine g l → IsOpenLine h l
open_line_grown g h l a i = (open_key_grown g h l.0 a i.0, i.1, i.2)

pub extract_line_grown : (g h : GroveContent) (l : ExtractKey × ℕ) → IsGrownGrove g h → IsExtractLine g l → IsExtractLine h l
extract_line_grown g h l a i = (extract_key_grown g h l.0 a i.0, i.1, i.2)

pub right_line_grown : (c d : Content) (l : RightKey × ℕ) → IsGrown c d → IsRightLine c l → IsRightLine d l
right_line_grown c d l a i = (right_key_grown c d l.0 a i.0, i.1, i.2)

pub open_lines_grown : (g h : GroveContent) (ls : List (OpenKey × ℕ)) → IsGrownGrove g h → AreOpenLines g ls → AreOpenLines h ls
open_lines_grown g h [] a i = tt
open_lines_grown g h (l ∷ ls) a i = (open_line_grown g h l a i.0, open_lines_grown g h ls a i.1)

pub extract_lines_grown : (g h : GroveContent) (ls : List (ExtractKey × ℕ)) → IsGrownGrove g h → AreExtractLines g ls → AreExtractLines h ls
extract_lines_grown g h [] a i = tt
extract_lines_grown g h (l ∷ ls) a i = (extract_line_grown g h l a i.0, extract_lines_grown g h ls a i.1)

pub right_lines_grown : (c d : Content) (ls : List (RightKey × ℕ)) → IsGrown c d → AreRightLines c ls → AreRightLines d ls
right_lines_grown c d [] a i = tt
right_lines_grown c d (l ∷ ls) a i = (right_line_grown c d l a i.0, right_lines_grown c d ls a i.1)

-- the terms that lines mean
module _ {K J : Type 0} (f h : K → J) (P : K × ℕ → Type 0) (same : (l : K × ℕ) → P l → f l.0 ≡ h l.0) where
  rekeyed_same : (ls : List (K × ℕ)) → AllByRecursion P ls → rekeyed f ls ≡ rekeyed h ls
  rekeyed_same [] a = refl
  rekeyed_same (l ∷ ls) a =
      ap (λ (j : J). pair_of j l.1 ∷ rekeyed f ls) (same l a.0)
      ∙ ap (λ (ts : List (J × ℕ)). pair_of (h l.0) l.1 ∷ ts) (rekeyed_same ls a.1)

pub open_terms_grown : (g h : GroveContent) (ls : List (OpenKey × ℕ)) → IsGrove g → IsGrownGrove g h → AreOpenLines g ls → opened_terms_in h ls ≡ opened_terms_in g ls
open_terms_grown g h ls is a i = rekeyed_same (opened_in h) (opened_in g) (IsOpenLine g) (λ l k. opened_grown g h l.0 is a k.0) ls i

pub extract_terms_grown : (g h : GroveContent) (ls : List (ExtractKey × ℕ)) → IsGrove g → IsGrownGrove g h → AreExtractLines g ls →
    extracted_terms_in h ls ≡ extracted_terms_in g ls
extract_terms_grown g h ls is a i = rekeyed_same (extracted_in h) (extracted_in g) (IsExtractLine g) (λ l k. extracted_grown g h l.0 is a k.0) ls i

pub right_terms_grown : (c d : Content) (ls : List (RightKey × ℕ)) → IsGrown c d → AreRightLines c ls → recentred_terms_in d ls ≡ recentred_terms_in c ls
right_terms_grown c d ls a i = rekeyed_same (recentred_in d) (recentred_in c) (IsRightLine c) (λ l k. recentred_grown c d l.0 a k.0) ls i

pub rekeyed-append : {K J : Type 0} (f : K → J) (xs ys : List (K × ℕ)) → rekeyed f (xs ++ ys) ≡ rekeyed f xs ++ rekeyed f ys
rekeyed-append f [] ys = refl
rekeyed-append {K} {J} f (x ∷ xs) ys = ap (λ (ts : List (J × ℕ)). pair_of (f x.0) x.1 ∷ ts) (rekeyed-append f xs ys)

-- tables stay those of their tree
pub tables_grown : (g h : GroveContent) (b : TableBounds) (t : Plain) (x : NodeTables) → IsGrove g → IsGrownGrove g h → AreTables g b t x → AreTables h b t x
tables_grown g h b t x is a i =
    let same = extract_terms_grown g h x.idle.items is a i.idle_lines in
    let open_same = open_terms_grown g h x.touched.items is a i.touched_lines in
    record {
      lows = rw a.pool.types i.lows;
      idle_lines = extract_lines_grown g h x.idle.items a i.idle_lines;
      idle = rw (same, a.pool.types) i.idle;
      touched_lines = open_lines_grown g h x.touched.items a i.touched_lines;
      touched = rw (open_same, a.pool.types) i.touched;
    }

pub right_table_grown : (c d : Content) (t : Plain) (ls : List (RightKey × ℕ)) → IsGrown c d → IsRightTable c t ls → IsRightTable d t ls
right_table_grown c d t ls a i =
    let same = right_terms_grown c d ls a i.lines in
    record { lines = right_lines_grown c d ls a i.lines; sums = rw (same, a.types) i.sums }
