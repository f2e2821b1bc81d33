-- Paths: as plain data, which words of labels they spell, and which objects they reach.
use Rattle.std.specs.Prelude.{◌≡◌, ℕ, zero, suc, ◌+◌, ◌⊎◌, List, [], ◌∷◌, ◌++◌, Some, slice_get}
use Rattle.lore_base.specs.Types.{Oid, Label, Edge, Pattern, Plain, Wild}
use Rattle.lore_base.specs.Walks.{Walk}
use Rattle.lore_base.specs.Wildcards.{IsMatched}
use Rattle.lore_base.specs.declared.paths.Path.{Path, fold-Path}
use Rattle.lore_base.specs.declared.paths.Path.TheOpen.{Path-F, PathList-F, Step, Any, Seq, Alt, Opt, Star}
use Rattle.lore_base.specs.declared.paths.Path.TheOpen.{Plus}
use Rattle.lore_base.specs.declared.paths.Path.TheFolds.{fold-PathList}
use Rattle.lore_base.specs.declared.paths.Path.TheViews.{out-PathList}
use Rattle.lore_base.specs.declared.paths.PathList.{PathList}

-- a path as plain data: what it is without pointers and room. Two paths are equal where these are
mutual
  pub data PathTree : Type 0 where
    step : (pattern : Pattern) → PathTree
    any : PathTree
    seq : (parts : PathTrees) → PathTree
    alt : (parts : PathTrees) → PathTree
    opt : (part : PathTree) → PathTree
    star : (part : PathTree) → PathTree
    plus : (part : PathTree) → PathTree

  pub data PathTrees : Type 0 where
    none : PathTrees
    more : (first : PathTree) (others : PathTrees) → PathTrees

abbrev pub trees_of : List PathTree → PathTrees
trees_of [] = none
trees_of (first ∷ others) = more first (trees_of others)

abbrev pub path_step : Path-F PathTree (List PathTree) → PathTree
path_step (Step pattern) = step pattern
path_step Any = any
path_step (Seq parts) = seq (trees_of parts)
path_step (Alt parts) = alt (trees_of parts)
path_step (Opt part) = opt part.value
path_step (Star part) = star part.value
path_step (Plus part) = plus part.value

abbrev pub list_step : PathList-F PathTree (List PathTree) → List PathTree
list_step list = list.items.items

-- the plain data of the program's paths
abbrev pub path_tree : Path → PathTree
path_tree = fold-Path PathTree (List PathTree) path_step list_step

abbrev pub path_trees : PathList → List PathTree
path_trees = fold-PathList PathTree (List PathTree) path_step list_step

-- the paths of a list, in order
abbrev pub parts_of : PathList → List Path
parts_of list = (out-PathList list).items.items

-- a label's text in the table is the pattern's, or is matched by it. A label that isn't in the table fits none
abbrev pub Fits : List (List ℕ) → Pattern → Label → Type 0
Fits labels (Plain text) label = slice_get labels label.0 ≡ Some text
Fits labels (Wild pattern) label =
    (text : List ℕ) × (slice_get labels label.0 ≡ Some text) × IsMatched pattern text

-- so many words that pass, one after another
abbrev pub Times : (List Label → Type 0) → ℕ → List Label → Type 0
Times Passes zero word = word ≡ []
Times Passes (suc count) word =
    (first : List Label) × (rest : List Label) × (word ≡ first ++ rest) × Passes first × Times Passes count rest

-- the words of labels that a path spells, over a table of label texts (Abiteboul et al. 1997, general path
-- expressions)
abbrev mutual
  pub Spells : List (List ℕ) → PathTree → List Label → Type 0
  Spells labels (step pattern) word = (label : Label) × (word ≡ label ∷ []) × Fits labels pattern label
  Spells labels any word = Unit {0}
  Spells labels (seq parts) word = SpellInTurn labels parts word
  Spells labels (alt parts) word = SomeSpells labels parts word
  Spells labels (opt part) word = (word ≡ []) ⊎ Spells labels part word
  Spells labels (star part) word = (count : ℕ) × Times (Spells labels part) count word
  Spells labels (plus part) word = (count : ℕ) × Times (Spells labels part) (suc count) word

  -- a word of each part, one after another
  pub SpellInTurn : List (List ℕ) → PathTrees → List Label → Type 0
  SpellInTurn labels none word = word ≡ []
  SpellInTurn labels (more part parts) word =
      (first : List Label) × (rest : List Label) × (word ≡ first ++ rest)
      × Spells labels part first × SpellInTurn labels parts rest

  -- a word of one of the parts
  pub SomeSpells : List (List ℕ) → PathTrees → List Label → Type 0
  SomeSpells labels none word = ⊥
  SomeSpells labels (more part parts) word = Spells labels part word ⊎ SomeSpells labels parts word

-- a path reaches an object from a start: a word that it spells is walked there
abbrev pub Reaches : List (List ℕ) → List Edge → PathTree → Oid → Oid → Type 0
Reaches labels edges path start oid =
    (word : List Label) × Spells labels path word × Walk edges start word oid

-- the leaves of a path: its steps and its `#`
abbrev mutual
  pub leaves : PathTree → ℕ
  leaves (step pattern) = 1
  leaves any = 1
  leaves (seq parts) = leaves_of parts
  leaves (alt parts) = leaves_of parts
  leaves (opt part) = leaves part
  leaves (star part) = leaves part
  leaves (plus part) = leaves part

  pub leaves_of : PathTrees → ℕ
  leaves_of none = 0
  leaves_of (more part parts) = leaves part + leaves_of parts
