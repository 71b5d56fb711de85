-- Which pairs stand on the search path of a tree of keys to the place of one.
use Rattle.std.specs.Prelude.{Bool, List, [], ◌∷◌, if◌then◌else◌}
use Rattle.std.specs.Ordering.{is_lt}
use Rattle.std.specs.declared.cmp.Ordering.{Ordering}
use Rattle.i_tree.specs.Rb.Shape.{Shape, leaf, fork}

module _ {K V : Type 0} where
  -- from the top on, to the right of each pair whose key passes, and to the left of each other one
  abbrev pub path_by : (K → Bool) → Shape (K × V) → List (K × V)
  path_by passes leaf = []
  path_by passes (fork _ before _ pair after) = pair ∷ (if passes pair.0 then path_by passes after else path_by passes before)

  -- the search path to the place of a key: to the right of each lower key, and to the left of each other one
  abbrev pub path_to : (K → K → Ordering) → K → Shape (K × V) → List (K × V)
  path_to cmp key tree = path_by (λ other. is_lt (cmp other key)) tree
