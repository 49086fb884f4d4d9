-- The trees and forests that tables speak of.
--   GroveContent == a pool of trees, and the forests of its trees, each as the list of its trees'
--       numbers
--   grove_code == a code for them: the pair of the fields
--   IsGrove g == what every grove meets
--   IsGrownGrove old new == new has the trees and forests of old, under the same numbers, and maybe
--       more behind them
--   forest_in g i == the trees of the forest with the number i
use Rattle.std.specs.Prelude.{◌≡◌, ℕ, List, ◌++◌, refl}
use Rattle.std.specs.Coded.{Coded, code_by, coded×, coded_list, coded_ℕ}
use Rattle.plain_trees.specs.Plain.{Plain}
use Rattle.tree_pool.specs.Content.{Content, content_code, trees_at, IsPooled, IsGrown}
use Rattle.tree_pool.specs.Forests.{forest_at, AreDistinct, Fits}

pub record GroveContent : Type 0 where
  pub pool : Content
  pub forests : List (List ℕ)

abbrev pub grove_code : Coded GroveContent
grove_code =
    code_by (Content × List (List ℕ)) (coded× content_code (coded_list (coded_list coded_ℕ)))
    (λ g. (g.pool, g.forests))
    (λ p. record { pool = p.0; forests = p.1 })
    (λ _. refl)

pub record IsGrove (g : GroveContent) : Type 0 where
  pub pooled : IsPooled g.pool
  pub distinct : AreDistinct g.forests
  pub fits : Fits g.forests g.pool

pub record IsGrownGrove (old new : GroveContent) : Type 0 where
  pub pool : IsGrown old.pool new.pool
  pub forests : (more : List (List ℕ)) × (new.forests ≡ old.forests ++ more)

abbrev pub forest_in : GroveContent → ℕ → List Plain
forest_in g i = trees_at g.pool (forest_at g.forests i)
