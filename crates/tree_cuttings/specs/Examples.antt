-- The types of two equations, and what their trees are made of.
--   noise_type a b == a noise xi of degree a/2 + b/2 * k; heat_kernel == a kernel u of degree 2; in
--       units of one half
--   kpz == the KPZ equation in one dimension of space: scaling (2, 1), a noise of degree -3/2 - k
--   phi4 == the Phi^4 equation in three dimensions of space: scaling (2, 1, 1, 1), a noise of
--       degree -5/2 - k
--   pam == the parabolic Anderson model in two dimensions of space: scaling (2, 1, 1), a noise of
--       degree -1 - k
--   zero == the multiindex 0;  space n == n in the second direction, the first one of space
--   xi p t == the tree t with one more edge in front, of the noise with the derivative decoration p
--   u p c t == the tree t with one more edge in front, of the kernel with the derivative decoration
--       p, and the tree c above it
--   node n == the tree with one node, decorated by n
--   empty == []; noise == [xi]; decorated_noise == [X(0,1)*xi]; two_noises == [xi*xi], for any
--       number of directions
--   leg t == the tree t with one more edge u'(0,1)[xi] in front; stump t == with one more edge
--       u'(0,1)[]
--   cherry == [u'(0,1)[xi]*u'(0,1)[xi]];  planted_cherry == [u'(0,1)[u'(0,1)[xi]*u'(0,1)[xi]]]
--   smooth_noise == [u[u[xi]]]
--   mixed == [X(0,1,0)*u[X(0,1,0)*xi]]
use Rattle.std.specs.Prelude.{ℕ, ℤ, pos, neg_ℤ, List, [], ◌∷◌, codes, None}
use Rattle.degree_numbers.specs.declared.types.Types.{Types}
use Rattle.degree_numbers.specs.declared.types.TypeEntry.{TypeEntry}
use Rattle.degree_numbers.specs.declared.types.Kind.TheVariants.{Noise, Kernel}
use Rattle.plain_trees.specs.Plain.{Plain, bare, graft}

abbrev pub noise_type : ℤ → ℤ → TypeEntry
noise_type a b = record {
  name = codes "xi";
  kind = Noise;
  degree = record { a = a; b = b };
  group = 0;
  moments = None;
}

abbrev pub heat_kernel : TypeEntry
heat_kernel = record {
  name = codes "u";
  kind = Kernel;
  degree = record { a = pos 4; b = pos 0 };
  group = 0;
  moments = None;
}

abbrev pub kpz : Types
kpz =
    record {
      dims = 2;
      scaling = 2 ∷ 1 ∷ 0 ∷ 0 ∷ 0 ∷ [];
      units = record { den = pos 2 };
      list = noise_type (neg_ℤ (pos 3)) (neg_ℤ (pos 2)) ∷ heat_kernel ∷ [];
      groups = codes "xi" ∷ [];
      reflect = [];
    }

abbrev pub phi4 : Types
phi4 =
    record {
      dims = 4;
      scaling = 2 ∷ 1 ∷ 1 ∷ 1 ∷ 0 ∷ [];
      units = record { den = pos 2 };
      list = noise_type (neg_ℤ (pos 5)) (neg_ℤ (pos 2)) ∷ heat_kernel ∷ [];
      groups = codes "xi" ∷ [];
      reflect = [];
    }

abbrev pub pam : Types
pam =
    record {
      dims = 3;
      scaling = 2 ∷ 1 ∷ 1 ∷ 0 ∷ 0 ∷ [];
      units = record { den = pos 2 };
      list = noise_type (neg_ℤ (pos 2)) (neg_ℤ (pos 2)) ∷ heat_kernel ∷ [];
      groups = codes "xi" ∷ [];
      reflect = [];
    }

abbrev pub zero : List ℕ
zero = 0 ∷ 0 ∷ 0 ∷ 0 ∷ 0 ∷ []

abbrev pub space : ℕ → List ℕ
space n = 0 ∷ n ∷ 0 ∷ 0 ∷ 0 ∷ []

abbrev pub xi : List ℕ → Plain → Plain
xi p t = graft 0 p (bare zero) t

abbrev pub u : List ℕ → Plain → Plain → Plain
u p c t = graft 1 p c t

abbrev pub node : List ℕ → Plain
node n = bare n

abbrev pub empty : Plain
empty = node zero

abbrev pub noise : Plain
noise = xi zero empty

abbrev pub decorated_noise : Plain
decorated_noise = xi zero (node (space 1))

abbrev pub two_noises : Plain
two_noises = xi zero noise

abbrev pub leg : Plain → Plain
leg t = u (space 1) noise t

abbrev pub stump : Plain → Plain
stump t = u (space 1) empty t

abbrev pub cherry : Plain
cherry = leg (leg empty)

abbrev pub planted_cherry : Plain
planted_cherry = u (space 1) cherry empty

abbrev pub smooth_noise : Plain
smooth_noise = u zero (u zero noise empty) empty

abbrev pub mixed : Plain
mixed = u zero decorated_noise (node (space 1))
