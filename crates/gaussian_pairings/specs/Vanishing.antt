-- Trees whose expectation vanishes, by their shape and by what is declared of noises and kernels.
-- What contracts of public calls say:
--   is_noise_kind, is_noise_type ty k == the test whether type k is that of a noise
--   noise_groups ty t == the groups of the noise edges of t, in preorder
--   noises_in ty t g == how many noise edges of t are in the group g
--   some_below n test == some number below n passes the test
--   has_odd_group ty t == some noise group has an odd number of noise edges in t
--   entry_in i m == the entry of the multiindex m in the direction i, counted from 1
--   sum_in i t == the sum of the entries in the direction i of the decorations of all nodes and
--       edges of t
--   has_odd_direction ty t == in some direction that may be reflected, that sum is odd
--   is_odd ty t == t has an odd group, or an odd direction
--   is_within ty moments c == a moment number is declared, and c has no edges and a decoration of
--       scaled size at most that
--   has_integrated ty t == some edge of t, of a kernel with a moment number, ends in a tree without
--       edges whose decoration has at most that scaled size
--   vanishes ty t == the decoration of the root of t is not 0, or t is odd, or it has such an edge
-- Working notions of the code and of proofs:
--   noise_here ty k g == 1 where an edge of type k is a noise edge of the group g, else 0
use Rattle.std.specs.Prelude.{ℕ, zero, suc, ◌%◌, ◌==◌, ◌+◌, ◌-◌, nat_le, slice_index, Bool, false, not, ◌&&◌, ◌||◌, cond, List, [], ◌∷◌, ◌++◌, length}
use Rattle.std.specs.List.{list_any}
use Rattle.std.specs.Ordering.{nat_cmp}
use Rattle.std.specs.declared.option.Option.{Option}
use Rattle.std.specs.declared.option.Option.TheVariants.{Some, None}
use Rattle.degree_numbers.specs.declared.Types.{Types}
use Rattle.degree_numbers.specs.declared.Kind.{Kind}
use Rattle.degree_numbers.specs.Multi.{is_zero, scaled_size}
use Rattle.degree_numbers.specs.Types.{is_noise, kind_of, group_of, moments_of}
use Rattle.ordered_lists.specs.Subs.{count_of}
use Rattle.plain_trees.specs.Plain.{Plain, bare, graft, root_of}

abbrev pub is_noise_kind : Option Kind → Bool
is_noise_kind None = false
is_noise_kind (Some kind) = is_noise kind

abbrev pub is_noise_type : Types → ℕ → Bool
is_noise_type ty k = is_noise_kind (kind_of ty k)

-- the edge itself, then the edges above it, then the other edges of the root
abbrev pub noise_groups : Types → Plain → List ℕ
noise_groups ty (bare n) = []
noise_groups ty (graft k p c t) = cond (is_noise_type ty k) (group_of ty k ∷ []) []
    ++ (noise_groups ty c ++ noise_groups ty t)

abbrev pub noise_here : Types → ℕ → ℕ → ℕ
noise_here ty k g = cond (is_noise_type ty k && group_of ty k == g) 1 0

abbrev pub noises_in : Types → Plain → ℕ → ℕ
noises_in ty t g = count_of nat_cmp g (noise_groups ty t)

abbrev pub some_below : ℕ → (ℕ → Bool) → Bool
some_below zero test = false
some_below (suc n) test = some_below n test || test n

abbrev pub has_odd_group : Types → Plain → Bool
has_odd_group ty t = some_below (length ty.groups) (λ g. noises_in ty t g % 2 == 1)

abbrev pub entry_in : ℕ → List ℕ → ℕ
entry_in i m = slice_index m (i - 1)

abbrev pub sum_in : ℕ → Plain → ℕ
sum_in i (bare n) = entry_in i n
sum_in i (graft k p c t) = entry_in i p + sum_in i c + sum_in i t

abbrev pub has_odd_direction : Types → Plain → Bool
has_odd_direction ty t = list_any (λ i. sum_in i t % 2 == 1) ty.reflect

abbrev pub is_odd : Types → Plain → Bool
is_odd ty t = has_odd_group ty t || has_odd_direction ty t

abbrev pub is_within : Types → Option ℕ → Plain → Bool
is_within ty None c = false
is_within ty (Some r) (bare n) = nat_le (scaled_size ty.scaling n) r
is_within ty (Some r) (graft k p c t) = false

abbrev pub has_integrated : Types → Plain → Bool
has_integrated ty (bare n) = false
has_integrated ty (graft k p c t) = (is_within ty (moments_of ty k) c || has_integrated ty c)
    || has_integrated ty t

abbrev pub vanishes : Types → Plain → Bool
vanishes ty t = not (is_zero (root_of t)) || (is_odd ty t || has_integrated ty t)
