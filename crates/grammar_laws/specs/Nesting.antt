-- What stands directly within each derivation, and which derivations enclose it: a table to hold the nesting
-- of derivations against.
use Rattle.std.specs.Prelude.{◌≡◌, ℕ, ◌+◌, List, [], ◌∷◌, ◌++◌, map, Option, Some, None}
use Rattle.lorel_trees.specs.Grammar as g
use Rattle.lorel_trees.specs.Repetitions.{nest_each}
use Rattle.lorel_trees.specs.Paths.{nest_alt, nest_choices, nest_seq, nest_parts, nest_part, nest_base, nest_path}
use Rattle.lorel_trees.specs.Literals.{nest_literal, nest_members, nest_more_members, nest_member}
use Rattle.lorel_trees.specs.Conditions.{nest_operand, nest_cond, nest_more_conjs, nest_conj, nest_more_unaries, nest_unary}
use Rattle.lorel_trees.specs.Selects.{nest_range, nest_tail, nest_item, nest_select, select_of_paths}
use Rattle.lorel_trees.specs.Statements.{nest_addition, nest_statement}

-- a derivation by a rule within which something may be enclosed
pub data Derivation : Type 0 where
  alt : g.Alt → Derivation
  choices : g.Choices → Derivation
  seq : g.Seq → Derivation
  parts : g.Parts → Derivation
  part : g.Part → Derivation
  base : g.Base → Derivation
  path : g.Path → Derivation
  literal : g.Literal → Derivation
  members : g.Members → Derivation
  more_members : g.MoreMembers → Derivation
  member : g.Member → Derivation
  operand : g.Operand → Derivation
  cond : g.Cond → Derivation
  more_conjs : g.MoreConjs → Derivation
  conj : g.Conj → Derivation
  more_unaries : g.MoreUnaries → Derivation
  unary : g.Unary → Derivation
  range : g.Range → Derivation
  tail : g.Tail → Derivation
  item : g.Item → Derivation
  select : g.Select → Derivation
  addition : g.Addition → Derivation
  statement : g.Statement → Derivation

-- by how many levels a derivation encloses what is within: braces, groups, parentheses, `not` and quantifiers
-- do by one, and nothing else does
abbrev pub levels : Derivation → ℕ
levels (literal (g.braces mark inner)) = 1
levels (base (g.group inner)) = 1
levels (unary (g.parens inner)) = 1
levels (unary (g.not body)) = 1
levels (unary (g.exists name walked body)) = 1
levels (unary (g.for_all name walked body)) = 1
levels _ = 0

-- the condition behind a `where`
abbrev pub where_within : Option g.Cond → List Derivation
where_within None = []
where_within (Some one) = cond one ∷ []

-- the derivations that stand directly within a derivation
abbrev pub within : Derivation → List Derivation
within (alt (g.choice first others)) = seq first ∷ choices others ∷ []
within (choices (g.bar first others)) = seq first ∷ choices others ∷ []
within (seq (g.sequence first others)) = part first ∷ parts others ∷ []
within (parts (g.part first others)) = part first ∷ parts others ∷ []
within (part (g.once one)) = base one ∷ []
within (part (g.question one)) = base one ∷ []
within (part (g.star one)) = base one ∷ []
within (part (g.plus one)) = base one ∷ []
within (base (g.group inner)) = alt inner ∷ []
within (path (g.rooted name walked)) = parts walked ∷ []
within (literal (g.braces mark inner)) = members inner ∷ []
within (members (g.members first others)) = member first ∷ more_members others ∷ []
within (more_members (g.comma first others)) = member first ∷ more_members others ∷ []
within (member (g.member name held)) = literal held ∷ []
within (operand (g.reached walked)) = path walked ∷ []
within (cond (g.conjs first others)) = conj first ∷ more_conjs others ∷ []
within (more_conjs (g.or first others)) = conj first ∷ more_conjs others ∷ []
within (conj (g.unaries first others)) = unary first ∷ more_unaries others ∷ []
within (more_unaries (g.and first others)) = unary first ∷ more_unaries others ∷ []
within (unary (g.not body)) = unary body ∷ []
within (unary (g.parens inner)) = cond inner ∷ []
within (unary (g.exists name walked body)) = path walked ∷ unary body ∷ []
within (unary (g.for_all name walked body)) = path walked ∷ unary body ∷ []
within (unary (g.compare left by right)) = operand left ∷ operand right ∷ []
within (unary (g.same left right)) = path left ∷ path right ∷ []
within (range (g.bare walked)) = path walked ∷ []
within (range (g.variable walked name)) = path walked ∷ []
within (range (g.word_variable walked bound name)) = path walked ∷ []
within (tail (g.tail ranges such)) = map range ranges ++ where_within such
within (item (g.object walked)) = path walked ∷ []
within (select (g.query first others end)) = item first ∷ map item others ++ tail end ∷ []
within (addition (g.fresh held)) = literal held ∷ []
within (addition (g.link walked)) = path walked ∷ []
within (statement (g.load name held)) = literal held ∷ []
within (statement (g.bind name walked)) = path walked ∷ []
within (statement (g.assign target value end)) = path target ∷ tail end ∷ []
within (statement (g.add target name added end)) = path target ∷ addition added ∷ tail end ∷ []
within (statement (g.remove target name right end)) = path target ∷ path right ∷ tail end ∷ []
within (statement (g.select inner)) = select inner ∷ []
within (statement (g.explain inner)) = select inner ∷ []
within (statement (g.select_at moment inner)) = select inner ∷ []
within (statement (g.blocks_of inner)) = select inner ∷ []
within (statement (g.watch name inner)) = select (select_of_paths inner) ∷ []
within _ = []

abbrev pub nest_of : Derivation → ℕ
nest_of (alt one) = nest_alt one
nest_of (choices some) = nest_choices some
nest_of (seq one) = nest_seq one
nest_of (parts some) = nest_parts some
nest_of (part one) = nest_part one
nest_of (base one) = nest_base one
nest_of (path one) = nest_path one
nest_of (literal one) = nest_literal one
nest_of (members some) = nest_members some
nest_of (more_members some) = nest_more_members some
nest_of (member one) = nest_member one
nest_of (operand one) = nest_operand one
nest_of (cond one) = nest_cond one
nest_of (more_conjs some) = nest_more_conjs some
nest_of (conj one) = nest_conj one
nest_of (more_unaries some) = nest_more_unaries some
nest_of (unary one) = nest_unary one
nest_of (range one) = nest_range one
nest_of (tail one) = nest_tail one
nest_of (item one) = nest_item one
nest_of (select one) = nest_select one
nest_of (addition one) = nest_addition one
nest_of (statement one) = nest_statement one

-- a derivation nests as deep as the deepest one within, and one level more where it encloses it
abbrev pub CountsWhatIsWithin : Type 0
CountsWhatIsWithin = (one : Derivation) → nest_of one ≡ nest_each nest_of (within one) + levels one
