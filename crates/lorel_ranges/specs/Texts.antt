-- The text of a select: each of its paths as a place, the identifiers that it ranges, and how deep its quantifiers stand.
use Rattle.std.specs.Prelude.{ℕ, ◌≤◌, suc, max, List, [], ◌∷◌, ◌++◌, Option, Some, None, MatchOption}
use Rattle.std.specs.List.{flat_map}
use Rattle.lorel_ranges.specs.Types.{NESTING}
use Rattle.lorel_trees.specs.Trees.{SelectTree, FromTree, CondTree, CondTrees}
use Rattle.lorel_trees.specs.Trees as t
use Rattle.lorel_ranges.specs.Places.{Place, Scope, place_of, scope_behind, cell_places}
use Rattle.lorel_ranges.specs.Conditions.{cond_places}

-- the places of from items, where the variables of earlier ones are in scope
abbrev pub from_places : Scope → List FromTree → List Place
from_places scope [] = []
from_places scope (item ∷ items) =
    place_of scope item.path ∷ from_places (scope_behind item.variable scope) items

-- each path in the text of a select
abbrev pub text_places : SelectTree → List Place
text_places query = from_places [] query.tail.ranges ++ (cell_places query ++ cond_places query)

abbrev pub item_variables : Option (List ℕ) → List (List ℕ)
item_variables None = []
item_variables (Some variable) = variable ∷ []

-- the variables of quantifiers, in text order
abbrev mutual
  pub quantifier_variables : CondTree → List (List ℕ)
  quantifier_variables (t.or members) = all_quantifier_variables members
  quantifier_variables (t.and members) = all_quantifier_variables members
  quantifier_variables (t.not body) = quantifier_variables body
  quantifier_variables (t.exists variable path body) = variable ∷ quantifier_variables body
  quantifier_variables (t.for_all variable path body) = variable ∷ quantifier_variables body
  quantifier_variables (t.compare left op right) = []
  quantifier_variables (t.same left right) = []

  pub all_quantifier_variables : CondTrees → List (List ℕ)
  all_quantifier_variables t.no_cond = []
  all_quantifier_variables (t.cond first others) = quantifier_variables first ++ all_quantifier_variables others

abbrev pub cond_variables : Option CondTree → List (List ℕ)
cond_variables None = []
cond_variables (Some cond) = quantifier_variables cond

-- the path variables and object variables of from items
abbrev pub from_variables : List FromTree → List (List ℕ)
from_variables items = flat_map (λ (item : FromTree). item_variables item.word ++ item_variables item.variable) items

-- the identifiers that are ranged anywhere in the statement
abbrev pub ranged_identifiers : SelectTree → List (List ℕ)
ranged_identifiers query = from_variables query.tail.ranges ++ cond_variables query.tail.cond

-- how deep quantifiers stand in one another
abbrev mutual
  pub depth_of : CondTree → ℕ
  depth_of (t.or members) = depth_of_all members
  depth_of (t.and members) = depth_of_all members
  depth_of (t.not body) = depth_of body
  depth_of (t.exists variable path body) = suc (depth_of body)
  depth_of (t.for_all variable path body) = suc (depth_of body)
  depth_of (t.compare left op right) = 0
  depth_of (t.same left right) = 0

  pub depth_of_all : CondTrees → ℕ
  depth_of_all t.no_cond = 0
  depth_of_all (t.cond first others) = max (depth_of first) (depth_of_all others)

-- its quantifiers stand in one another no deeper than a statement nests
abbrev pub IsShallow : SelectTree → Type 0
IsShallow query = MatchOption query.tail.cond (Unit {0}) (λ cond. depth_of cond ≤ NESTING)
