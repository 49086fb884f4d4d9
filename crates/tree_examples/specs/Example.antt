-- Trees of the KPZ equation.
--   noise == [xi]
--   slope == [u'(0,1)[xi]]
--   noise_and_slope == [xi*u'(0,1)[xi]]
--   IsExample c e x s == the pool has the types of the KPZ equation, and e, x and s are the numbers of the empty tree, of noise and of slope
use Rattle.std.specs.Prelude.{◌≡◌, ℕ, List, [], ◌∷◌}
use Rattle.known_types.specs.Known.{kpz}
use Rattle.plain_trees.specs.Plain.{Plain, graft}
use Rattle.plain_trees.specs.Degree.{empty_tree}
use Rattle.tree_pool.specs.Content.{Content, Holds}
use Rattle.plain_trees.specs.Joined.{planted_by}

abbrev pub none : List ℕ
none = 0 ∷ 0 ∷ 0 ∷ 0 ∷ 0 ∷ []

abbrev pub space : List ℕ
space = 0 ∷ 1 ∷ 0 ∷ 0 ∷ 0 ∷ []

abbrev pub noise : Plain
noise = planted_by 0 none empty_tree

abbrev pub slope : Plain
slope = planted_by 1 space noise

abbrev pub noise_and_slope : Plain
noise_and_slope = graft 0 none empty_tree slope

pub record IsExample (c : Content) (e x s : ℕ) : Type 0 where
  pub types : c.types ≡ kpz
  pub empty : Holds c e empty_tree
  pub noise : Holds c x noise
  pub slope : Holds c s slope
