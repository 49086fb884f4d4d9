-- The trees of the example are over the types of the KPZ equation, and small.
use Rattle.std.proofs.Common.{◌≡◌, ℕ, ◌<◌, List, [], ◌∷◌, length, refl, sym, ap, ◌∙◌, arith}
use Rattle.std.proofs.lemmas.Option.{slice_get_within}
use Rattle.known_types.specs.Known.{kpz}
use Rattle.degree_numbers.specs.declared.types.Types.{Types}
use Rattle.plain_trees.specs.Plain.{Plain, graft, IsSmall}
use Rattle.plain_trees.specs.Degree.{HasTypes, IsEdge, IsMultiIndex, empty_tree}
use Rattle.tree_pool.specs.Content.{Content, Holds, tree_at, IsGrown, IsGrownBy}
use Rattle.tree_pool.proofs.Growth.{grown_by, grown_holds}
use Rattle.tree_pool.proofs.Walks.{at_holds}
use Rattle.tree_examples.specs.Example.{none, space, noise, slope, noise_and_slope, IsExample}

no_directions : IsMultiIndex 2 none
no_directions = record { entries = refl; rest = (refl, (refl, (refl, tt))) }

one_direction : IsMultiIndex 2 space
one_direction = record { entries = refl; rest = (refl, (refl, (refl, tt))) }

noise_edge : IsEdge kpz 0 none empty_tree
noise_edge = record { known = omega arith; decoration = no_directions; noise = λ h. refl }

slope_edge : IsEdge kpz 1 space noise
slope_edge = record { known = omega arith; decoration = one_direction; noise = λ h. absurd cc }

pub empty_types : (ty : Types) → ty ≡ kpz → HasTypes ty empty_tree
empty_types ty h = rw h no_directions

pub small_empty : IsSmall empty_tree
small_empty = record { edges = omega arith; decorations = omega arith }

pub small_noise : IsSmall noise
small_noise = record { edges = omega arith; decorations = omega arith }

pub small_slope : IsSmall slope
small_slope = record { edges = omega arith; decorations = omega arith }

pub small_both : IsSmall noise_and_slope
small_both = record { edges = omega arith; decorations = omega arith }

pub noise_planted : (c : Content) (e : ℕ) → c.types ≡ kpz → Holds c e empty_tree → IsEdge c.types 0 none (tree_at c e)
noise_planted c e t h = rw (t, at_holds c e empty_tree h) noise_edge

pub slope_planted : (c : Content) (x : ℕ) → c.types ≡ kpz → Holds c x noise → IsEdge c.types 1 space (tree_at c x)
slope_planted c x t h = rw (t, at_holds c x noise h) slope_edge

pub both_types : (ty : Types) → ty ≡ kpz → HasTypes ty noise_and_slope
both_types ty h = rw h (noise_edge, no_directions, (slope_edge, (noise_edge, no_directions, no_directions), no_directions))

pub turned_types : (ty : Types) → ty ≡ kpz → HasTypes ty (graft 1 space noise noise)
turned_types ty h = rw h (slope_edge, (noise_edge, no_directions, no_directions), (noise_edge, no_directions, no_directions))

pub example_grown : (c d : Content) (e x s : ℕ) → IsGrown c d → IsExample c e x s → IsExample d e x s
example_grown c d e x s g h = record {
  types = g.types ∙ h.types;
  empty = grown_holds c d e empty_tree g h.empty;
  noise = grown_holds c d x noise g h.noise;
  slope = grown_holds c d s slope g h.slope;
}
