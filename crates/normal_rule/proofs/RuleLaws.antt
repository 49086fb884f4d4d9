-- The rule as it is made is the normal rule.
use Rattle.std.proofs.Common.{◌≡◌, ℕ, ◌+◌, ◌≤◌, ◌<◌, suc, zero, get_or, List, [], ◌∷◌, ◌++◌, length, map, take, drop, refl, ap, sym, ◌∙◌, subst, inl, inr, ◌⊎◌, append_assoc, append-nil, arith}
use Rattle.std.specs.Prelude.{fold, pos, ◌≢◌}
use Rattle.std.specs.List.{All}
use Rattle.std.specs.List.Sorted.{IsStrictlySortedBy}
use Rattle.std.proofs.lemmas.List.{take-append-drop}
use Rattle.std.proofs.lemmas.List.Sums.{fold-append}
use Rattle.std.proofs.lemmas.List.Elements.{All-tail}
use Rattle.equations.specs.declared.equation.Equation.{Equation}
use Rattle.equations.specs.declared.equation.RightTerm.{RightTerm}
use Rattle.equations.specs.declared.equation.Unknown.{Unknown}
use Rattle.equations.specs.Accepted.{IsEquation, IsUnknown, IsRightTerm}
use Rattle.equations.specs.EdgeTypes.{EdgeType as Pair, IsInOrder, edge_type_order}
use Rattle.equations.proofs.EdgeTypeLaws.{edge_type_order_total}
use Rattle.degree_numbers.specs.declared.types.Types.{Types}
use Rattle.ordered_lists.specs.Members.{IsIn}
use Rattle.ordered_lists.specs.Subs.{IsSubMultiset}
use Rattle.ordered_lists.proofs.Members.{in_map, from_map, all_at, member_at}
use Rattle.ordered_lists.proofs.Insertion.{from_insert_all, insert_all_old, insert_all_new, insert_all_sorted, strictly_sorted_unique}
use Rattle.ordered_lists.proofs.Lengths.{length-insert_all, length-within}
use Rattle.ordered_lists.proofs.Subs.{sub_skip, sub_trans}
use Rattle.ordered_lists.proofs.Counts.{sub_sorted}
use Rattle.normal_rule.specs.declared.rule.EdgeType.{EdgeType}
use Rattle.normal_rule.specs.declared.rule.NodeType.{NodeType}
use Rattle.normal_rule.specs.declared.rule.RuleRow.{RuleRow}
use Rattle.normal_rule.specs.declared.rule.Rule.{Rule}
use Rattle.normal_rule.specs.Order.{pair_of, pairs, node_order, node_order_total, empty_node}
use Rattle.normal_rule.specs.Made.{edge_of, with_factor, grow, subs_of, put_term, nodes_of, row_of, rule_of}
use Rattle.normal_rule.specs.Rule.{IsRow, AreRows, IsNormalRule, IsNormalRow, IsNormal, nodes_in}
use Rattle.normal_rule.proofs.OrderLaws.{node_order_exact}

abbrev node : List EdgeType → NodeType
node es = record { edges = es }

in_grow_old : (ns : List NodeType) (f : Pair) (n : NodeType) → IsIn n ns → IsIn n (grow ns f)
in_grow_old ns f n h = insert_all_old node_order ns (map (with_factor f) ns) n h

in_grow_new : (ns : List NodeType) (f : Pair) (n : NodeType) → IsIn n ns → IsIn (with_factor f n) (grow ns f)
in_grow_new ns f n h = insert_all_new node_order node_order_exact ns (map (with_factor f) ns) (with_factor f n) (in_map (with_factor f) n ns h)

-- each member, with some of the factors still to come
in_grown : (ns : List NodeType) (fs : List Pair) (m : NodeType) (r : List EdgeType) → IsIn m ns →
    IsSubMultiset (map pair_of r) fs → IsIn (node (m.edges ++ r)) (fold grow ns fs)
in_grown ns [] m [] h k = subst (λ (es : List EdgeType). IsIn (node es) ns) (sym (append-nil m.edges)) h
in_grown ns [] m (e ∷ es) h k = absurd k
in_grown ns (f ∷ fs) m [] h k = in_grown (grow ns f) fs m [] (in_grow_old ns f m h) tt
in_grown ns (f ∷ fs) m (e ∷ es) h k =
    elim k [
      | inl taken ↦ subst (λ (l : List EdgeType). IsIn (node l) (fold grow (grow ns f) fs)) (append_assoc m.edges (edge_of f ∷ []) es ∙ ap (λ (g : Pair). m.edges ++ edge_of g ∷ es) taken.0)
          (in_grown (grow ns f) fs (with_factor f m) es (in_grow_new ns f m h) taken.1)
      | inr left ↦ in_grown (grow ns f) fs m (e ∷ es) (in_grow_old ns f m h) left
    ]

from_grown : (ns : List NodeType) (fs : List Pair) (n : NodeType) → IsIn n (fold grow ns fs) →
    (m : NodeType) × (r : List EdgeType) × IsIn m ns × IsSubMultiset (map pair_of r) fs × (node (m.edges ++ r) ≡ n)
from_grown ns [] n h = (n, [], h, tt, ap node (append-nil n.edges))
from_grown ns (f ∷ fs) n h =
    let r = from_grown (grow ns f) fs n h in
    elim (from_insert_all node_order ns (map (with_factor f) ns) r.0 r.2) [
      | inl old ↦ (r.0, r.1, old, sub_skip (map pair_of r.1) fs f r.3, r.4)
      | inr new ↦
          let w = from_map (with_factor f) r.0 ns new in
          (w.0, edge_of f ∷ r.1, w.1, inl (refl, r.3), ap node (sym (append_assoc w.0.edges (edge_of f ∷ []) r.1)) ∙ ap (λ (k : NodeType). node (k.edges ++ r.1)) w.2 ∙ r.4)
    ]

-- the node types that are made of factors are their sub-multisets
pub in_subs : (fs : List Pair) (n : NodeType) → IsSubMultiset (pairs n) fs → IsIn n (subs_of fs)
in_subs fs n h = in_grown (empty_node ∷ []) fs empty_node n.edges (inl refl) h

pub from_subs : (fs : List Pair) (n : NodeType) → IsIn n (subs_of fs) → IsSubMultiset (pairs n) fs
from_subs fs n h =
    let r = from_grown (empty_node ∷ []) fs n h in
    elim r.2 [ inl e ↦ subst (λ (k : NodeType). IsSubMultiset (pairs k) fs) (ap (λ (m : NodeType). node (m.edges ++ r.1)) e ∙ r.4) r.3 | inr none ↦ absurd none ]

sorted_grown : (ns : List NodeType) (fs : List Pair) → IsStrictlySortedBy node_order ns → IsStrictlySortedBy node_order (fold grow ns fs)
sorted_grown ns [] h = h
sorted_grown ns (f ∷ fs) h = sorted_grown (grow ns f) fs (insert_all_sorted node_order node_order_total ns (map (with_factor f) ns) h)

alone : IsStrictlySortedBy node_order (empty_node ∷ [])
unfolding IsStrictlySortedBy
alone = (tt, tt)

pub subs_sorted : (fs : List Pair) → IsStrictlySortedBy node_order (subs_of fs)
subs_sorted fs = sorted_grown (empty_node ∷ []) fs alone

length-grown : (ns : List NodeType) (fs : List Pair) → length ns ≤ length (fold grow ns fs)
length-grown ns [] = omega arith
length-grown ns (f ∷ fs) = omega (arith, length-insert_all node_order ns (map (with_factor f) ns), length-grown (grow ns f) fs)

-- the first factors have no more sub-multisets than all
pub length-subs-take : (fs : List Pair) (i : ℕ) → length (subs_of (take i fs)) ≤ length (subs_of fs)
length-subs-take fs i =
    let whole : subs_of fs ≡ fold grow (subs_of (take i fs)) (drop i fs) =
    ap (fold grow (empty_node ∷ [])) (sym (take-append-drop i fs)) ∙ fold-append grow (empty_node ∷ []) (take i fs) (drop i fs) in
    rw whole (length-grown (subs_of (take i fs)) (drop i fs))

-- what stands among the node types of terms
from_terms : (ns : List NodeType) (ts : List RightTerm) (n : NodeType) →
    IsIn n (fold put_term ns ts) →
    IsIn n ns ⊎ ((t : RightTerm) × IsIn t ts × IsSubMultiset (pairs n) t.factors)
from_terms ns [] n h = inl h
from_terms ns (t ∷ ts) n h =
    elim (from_terms (put_term ns t) ts n h) [
      | inl now ↦ elim (from_insert_all node_order ns (subs_of t.factors) n now) [ inl old ↦ inl old | inr new ↦ inr (t, inl refl, from_subs t.factors n new) ]
      | inr later ↦ inr (later.0, inr later.1, later.2)
    ]

in_terms_old : (ns : List NodeType) (ts : List RightTerm) (n : NodeType) → IsIn n ns → IsIn n (fold put_term ns ts)
in_terms_old ns [] n h = h
in_terms_old ns (t ∷ ts) n h = in_terms_old (put_term ns t) ts n (insert_all_old node_order ns (subs_of t.factors) n h)

in_terms_new : (ns : List NodeType) (ts : List RightTerm) (n : NodeType) (t : RightTerm) → IsIn t ts → IsIn n (subs_of t.factors) → IsIn n (fold put_term ns ts)
in_terms_new ns [] n t h k = absurd h
in_terms_new ns (s ∷ ts) n t h k =
    elim h [
      | inl e ↦ in_terms_old (put_term ns s) ts n (insert_all_new node_order node_order_exact ns (subs_of s.factors) n (subst (λ (r : RightTerm). IsIn n (subs_of r.factors)) (sym e) k))
      | inr later ↦ in_terms_new (put_term ns s) ts n t later k
    ]

sorted_terms : (ns : List NodeType) (ts : List RightTerm) → IsStrictlySortedBy node_order ns → IsStrictlySortedBy node_order (fold put_term ns ts)
sorted_terms ns [] h = h
sorted_terms ns (t ∷ ts) h = sorted_terms (put_term ns t) ts (insert_all_sorted node_order node_order_total ns (subs_of t.factors) h)

pub nodes_sorted : (ts : List RightTerm) → IsStrictlySortedBy node_order (nodes_of ts)
nodes_sorted ts = sorted_terms (empty_node ∷ []) ts alone

length-terms : (ns : List NodeType) (ts : List RightTerm) → length ns ≤ length (fold put_term ns ts)
length-terms ns [] = omega arith
length-terms ns (t ∷ ts) = omega (arith, length-insert_all node_order ns (subs_of t.factors), length-terms (put_term ns t) ts)

-- the first terms allow no more than all
pub length-nodes-take : (ts : List RightTerm) (i : ℕ) → length (nodes_of (take i ts)) ≤ length (nodes_of ts)
length-nodes-take ts i =
    let whole : nodes_of ts ≡ fold put_term (nodes_of (take i ts)) (drop i ts) =
    ap (fold put_term (empty_node ∷ [])) (sym (take-append-drop i ts)) ∙ fold-append put_term (empty_node ∷ []) (take i ts) (drop i ts) in
    rw whole (length-terms (nodes_of (take i ts)) (drop i ts))

-- a term allows no more than all
pub length-subs-within : (ts : List RightTerm) (t : RightTerm) → IsIn t ts → length (subs_of t.factors) ≤ length (nodes_of ts)
length-subs-within ts t h =
    length-within node_order node_order_total node_order_exact (subs_of t.factors) (nodes_of ts) (subs_sorted t.factors) (nodes_sorted ts)
    (λ n k. in_terms_new (empty_node ∷ []) ts n t h k)

-- the row as it is made is the row of the unknown, where no coefficient is 0
pub row_is : (u : Unknown) → ((t : RightTerm) → IsIn t u.right → t.coefficient ≢ pos 0) → IsRow u (row_of u)
row_is u nonzero = record {
  kernel = refl;
  ascending = nodes_sorted u.right;
  allowed = λ n h. elim (from_terms (empty_node ∷ []) u.right n h) [
    | inl old ↦ elim old [ inl e ↦ inl (sym e) | inr none ↦ absurd none ]
    | inr new ↦ inr (new.0, new.1, nonzero new.0 new.1, new.2)
  ];
  whole = λ n h. elim h [
    | inl e ↦ in_terms_old (empty_node ∷ []) u.right n (inl (sym e))
    | inr t ↦ in_terms_new (empty_node ∷ []) u.right n t.0 t.1 (in_subs t.0.factors n t.3)
  ];
}

module _ (eq : Equation) where
  rows_are : (us : List Unknown) → All (IsUnknown eq.types (length eq.parameters)) us → AreRows us (map row_of us)
  rows_are [] h = tt
  rows_are (u ∷ us) h = (
    row_is u (λ t k. (all_at (IsRightTerm eq.types (length eq.parameters)) u.right t ((h 0 u (omega arith)).terms) k).nonzero),
    rows_are us (All-tail (IsUnknown eq.types (length eq.parameters)) u us h),
  )

pub rule_is : (eq : Equation) → IsEquation eq → IsNormalRule eq (rule_of eq)
rule_is eq h = rows_are eq eq.unknowns h.unknowns

-- a row is determined by its unknown
row_unique : (u : Unknown) (r s : RuleRow) → IsRow u r → IsRow u s → r ≡ s
row_unique u r s h k =
    let nodes : r.nodes ≡ s.nodes = strictly_sorted_unique node_order node_order_total node_order_exact r.nodes s.nodes h.ascending k.ascending
    (λ n m. k.whole n (h.allowed n m)) (λ n m. h.whole n (k.allowed n m)) in
    let kernel : r.kernel ≡ s.kernel = h.kernel ∙ sym k.kernel in
    λ i. record { kernel = kernel i; nodes = nodes i }

rows_unique : (us : List Unknown) (rs ss : List RuleRow) → AreRows us rs → AreRows us ss → rs ≡ ss
rows_unique [] [] [] h k = refl
rows_unique [] [] (s ∷ ss) h k = absurd k
rows_unique [] (r ∷ rs) ss h k = absurd h
rows_unique (u ∷ us) [] ss h k = absurd h
rows_unique (u ∷ us) (r ∷ rs) [] h k = absurd k
rows_unique (u ∷ us) (r ∷ rs) (s ∷ ss) h k =
    let first : r ≡ s = row_unique u r s h.0 k.0 in
    let rest : rs ≡ ss = rows_unique us rs ss h.1 k.1 in
    cc

-- the equation determines its normal rule
pub rule_unique : (eq : Equation) (r s : Rule) → IsNormalRule eq r → IsNormalRule eq s → r ≡ s
rule_unique eq r s h k = let same = rows_unique eq.unknowns r.rows s.rows h k in λ i. record { rows = same i }

-- what is too large on the way is so at the end
pub large_subs : (fs : List Pair) (i : ℕ) (keys : List NodeType) (n : ℕ) → keys ≡ subs_of (take i fs) → n ≡ length keys → 2000 < n → 2000 < length (subs_of fs)
large_subs fs i keys n is counted more = let same : length keys ≡ length (subs_of (take i fs)) = ap length is in omega (arith, same, counted, more, length-subs-take fs i)

pub large_nodes : (ts : List RightTerm) (i : ℕ) (keys : List NodeType) (n : ℕ) →
    keys ≡ nodes_of (take i ts) → n ≡ length keys → 2000 < n → 2000 < length (nodes_of ts)
large_nodes ts i keys n is counted more = let same : length keys ≡ length (nodes_of (take i ts)) = ap length is in omega (arith, same, counted, more, length-nodes-take ts i)

pub large_term : (ts : List RightTerm) (i : ℕ) (t : RightTerm) (fs : List Pair) → i < length ts →
    t ≡ get_or ts i t → fs ≡ t.factors → 2000 < length (subs_of fs) → 2000 < length (nodes_of ts)
large_term ts i t fs lt is same more =
    let within = length-subs-within ts t (member_at ts i t lt is) in
    let counted : length (subs_of fs) ≡ length (subs_of t.factors) = ap (λ (gs : List Pair). length (subs_of gs)) same in
    omega (arith, within, counted, more)

-- the rows before an unknown and its own row have no more node types than all rows
pub nodes_in-take : (us : List Unknown) (i : ℕ) (u : Unknown) → i < length us → u ≡ get_or us i u →
    nodes_in (map row_of (take i us)) + length (nodes_of u.right) ≤ nodes_in (map row_of us)
nodes_in-take [] i u lt is = absurd (omega arith)
nodes_in-take (v ∷ us) zero u lt is = let same : length (nodes_of u.right) ≡ length (nodes_of v.right) = ap (λ (w : Unknown). length (nodes_of w.right)) is in omega (arith, same)
nodes_in-take (v ∷ us) (suc i) u lt is = omega (arith, nodes_in-take us i u (omega arith) is)

pub large_row : (us : List Unknown) (i : ℕ) (u : Unknown) (ts : List RightTerm) → i < length us →
    u ≡ get_or us i u → ts ≡ u.right → 2000 < length (nodes_of ts) → 2000 < nodes_in (map row_of us)
large_row us i u ts lt is same more =
    let counted : length (nodes_of ts) ≡ length (nodes_of u.right) = ap (λ (rs : List RightTerm). length (nodes_of rs)) same in
    omega (arith, nodes_in-take us i u lt is, counted, more)

pub large_rows : (us : List Unknown) (i : ℕ) (u : Unknown) (ts : List RightTerm) (nodes : List NodeType) (count n : ℕ) →
    i < length us → u ≡ get_or us i u → ts ≡ u.right → nodes ≡ nodes_of ts
    → count ≡ nodes_in (map row_of (take i us)) → n ≡ length nodes → 2000 < count + n → 2000 < nodes_in (map row_of us)
large_rows us i u ts nodes count n lt is same made counted long more =
    let own : length nodes ≡ length (nodes_of u.right) = ap length made ∙ ap (λ (rs : List RightTerm). length (nodes_of rs)) same in
    omega (arith, nodes_in-take us i u lt is, own, counted, long, more)

-- the normal rule is normal
row_normal : (ty : Types) (count : ℕ) (u : Unknown) (row : RuleRow) → All (IsRightTerm ty count) u.right → IsRow u row → IsNormalRow row
row_normal ty count u row terms h = record {
  ascending = h.ascending;
  in_order = λ n m. elim (h.allowed n m) [
    | inl e ↦ subst (λ (k : NodeType). IsInOrder (pairs k)) (sym e) (λ k d l g. absurd (omega arith))
    | inr t ↦ sub_sorted edge_type_order edge_type_order_total (pairs n) t.0.factors t.3 (all_at (IsRightTerm ty count) u.right t.0 terms t.1).factors_in_order
  ];
  empty = h.whole empty_node (inl refl);
  closed = λ n m k s. elim (h.allowed n k) [
    | inl e ↦ h.whole m (inl (none m (subst (λ (l : NodeType). IsSubMultiset (pairs m) (pairs l)) e s)))
    | inr t ↦ h.whole m (inr (t.0, t.1, t.2, sub_trans (pairs m) (pairs n) t.0.factors s t.3))
  ];
}
  where
    none-at : (es : List EdgeType) → IsSubMultiset (map pair_of es) [] → es ≡ []
    none-at [] h = refl
    none-at (e ∷ es) h = absurd h

    none : (m : NodeType) → IsSubMultiset (pairs m) [] → m ≡ empty_node
    none m h = ap node (none-at m.edges h)

rows_normal : (ty : Types) (count : ℕ) (us : List Unknown) (rows : List RuleRow) →
    All (IsUnknown ty count) us → AreRows us rows → (row : RuleRow) → IsIn row rows →
    IsNormalRow row
rows_normal ty count [] [] terms h row k = absurd k
rows_normal ty count [] (r ∷ rs) terms h row k = absurd h
rows_normal ty count (u ∷ us) [] terms h row k = absurd h
rows_normal ty count (u ∷ us) (r ∷ rs) terms h row k =
    elim k [
      | inl e ↦ subst IsNormalRow e (row_normal ty count u r ((terms 0 u (omega arith)).terms) h.0)
      | inr later ↦ rows_normal ty count us rs (All-tail (IsUnknown ty count) u us terms) h.1 row later
    ]

pub rule_normal : (eq : Equation) (rule : Rule) → IsEquation eq → IsNormalRule eq rule → IsNormal rule
rule_normal eq rule h r = rows_normal eq.types (length eq.parameters) eq.unknowns rule.rows h.unknowns r

-- one unknown more
pub rows_more : (us : List Unknown) (i : ℕ) (u : Unknown) → i < length us → u ≡ get_or us i u →
    map row_of (take (i + 1) us) ≡ map row_of (take i us) ++ row_of u ∷ []
rows_more [] i u lt is = absurd (omega arith)
rows_more (v ∷ us) zero u lt is = ap (λ (w : Unknown). row_of w ∷ []) (sym is)
rows_more (v ∷ us) (suc i) u lt is = let s : suc i + 1 ≡ suc (i + 1) = omega arith in rw s (ap (λ (rs : List RuleRow). row_of v ∷ rs) (rows_more us i u (omega arith) is))

nodes_in-push : (rs : List RuleRow) (r : RuleRow) → nodes_in (rs ++ r ∷ []) ≡ nodes_in rs + length r.nodes
nodes_in-push [] r = omega arith
nodes_in-push (s ∷ rs) r = omega (arith, nodes_in-push rs r)

pub nodes_in_more : (us : List Unknown) (i : ℕ) (u : Unknown) → i < length us → u ≡ get_or us i u →
    nodes_in (map row_of (take (i + 1) us)) ≡ nodes_in (map row_of (take i us)) + length (nodes_of u.right)
nodes_in_more us i u lt is = ap nodes_in (rows_more us i u lt is) ∙ nodes_in-push (map row_of (take i us)) (row_of u)

-- a row more, from what the loop reads
pub step_rows : (us : List Unknown) (i : ℕ) (u : Unknown) (ts : List RightTerm) (nodes : List NodeType) (rows next : List RuleRow) →
    i < length us → u ≡ get_or us i u → ts ≡ u.right → nodes ≡ nodes_of ts
    → rows ≡ map row_of (take i us) → next ≡ rows ++ record { kernel = u.kernel; nodes = nodes } ∷ [] → next ≡ map row_of (take (i + 1) us)
step_rows us i u ts nodes rows next lt is same made before step =
    let own : nodes ≡ nodes_of u.right = made ∙ ap nodes_of same in
    step ∙ ap (λ (ns : List NodeType). rows ++ record { kernel = u.kernel; nodes = ns } ∷ []) own ∙ ap (λ (rs : List RuleRow). rs ++ row_of u ∷ []) before ∙ sym (rows_more us i u lt is)

pub step_count : (us : List Unknown) (i : ℕ) (u : Unknown) (ts : List RightTerm) (nodes : List NodeType) (count n : ℕ) →
    i < length us → u ≡ get_or us i u → ts ≡ u.right → nodes ≡ nodes_of ts
    → count ≡ nodes_in (map row_of (take i us)) → n ≡ length nodes → count + n ≡ nodes_in (map row_of (take (i + 1) us))
step_count us i u ts nodes count n lt is same made counted long =
    let own : length nodes ≡ length (nodes_of u.right) = ap length made ∙ ap (λ (rs : List RightTerm). length (nodes_of rs)) same in
    omega (arith, nodes_in_more us i u lt is, own, counted, long)
