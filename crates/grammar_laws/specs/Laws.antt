-- What the grammar means, in laws that a reader can hold against it.
use Rattle.std.specs.Prelude.{◌≡◌, ℕ, zero, suc, ◌+◌, ◌<◌, ◌≤◌, true, false, List, [], ◌∷◌, ◌++◌, length, codes, refl, ◌⊎◌, Some, None, ⊤}
use Rattle.lorel_trees.specs.Types.{NESTING, Plain, Kind}
use Rattle.lore_base.specs.Names.{is_reserved}
use Rattle.lore_base.specs.Paths as p
use Rattle.lorel_tokens.specs.declared.token_types.Kind.TheVariants as k
use Rattle.lorel_tokens.specs.declared.token_types.Sign.TheVariants as s
use Rattle.lorel_trees.specs.declared.dump_trees.DumpTree.{DumpTree}
use Rattle.lorel_trees.specs.Trees as t
use Rattle.lorel_trees.specs.Grammar as g
use Rattle.lorel_trees.specs.Paths.{text_of_name, text_of_label, spell_alt, spell_base, tree_base, spell_path, tree_path, spell_label}
use Rattle.lorel_trees.specs.Conditions.{spell_cond, tree_cond, trees_more_conjs, tree_conj, trees_more_unaries, spell_unary, tree_unary}
use Rattle.lorel_trees.specs.Statements.{spell_statement, tree_statement, nest_statement}
use Rattle.lorel_trees.specs.Tokens.{HasTokens, IsUnambiguous}
use Rattle.lorel_trees.specs.Sound.{IsSound, IsSoundLiteral, IsSoundDump}
use Rattle.lorel_trees.specs.Formed.{IsFormedLiteral, IsFormedDump, IsFormedStatement}
use Rattle.lorel_trees.specs.Targets.{IsJoined}

-- no statement has the empty list of tokens
abbrev pub HasSomeToken : Type 0
HasSomeToken = (statement : t.StatementTree) → HasTokens statement [] → ⊥

-- a single member of an `or` or `and` is itself, and two or more are joined
pub record JoinsTwoOrMore : Type 0 where
  pub one_conj : (first : g.Conj) → tree_cond (g.conjs first g.no_conjs) ≡ tree_conj first
  pub more_conjs : (first second : g.Conj) (others : g.MoreConjs)
      → tree_cond (g.conjs first (g.or second others))
      ≡ t.or (t.cond (tree_conj first) (t.cond (tree_conj second) (trees_more_conjs others)))
  pub one_unary : (first : g.Unary) → tree_conj (g.unaries first g.no_unaries) ≡ tree_unary first
  pub more_unaries : (first second : g.Unary) (others : g.MoreUnaries)
      → tree_conj (g.unaries first (g.and second others))
      ≡ t.and (t.cond (tree_unary first) (t.cond (tree_unary second) (trees_more_unaries others)))

-- a condition in parentheses has the tree of the condition
pub record LeavesNoTrace : Type 0 where
  pub spelled : (inner : g.Cond) (rest : List Kind)
      → spell_unary (g.parens inner) rest
      ≡ k.Symbol s.LeftParen ∷ spell_cond inner (k.Symbol s.RightParen ∷ rest)
  pub tree : (inner : g.Cond) → tree_unary (g.parens inner) ≡ tree_cond inner

-- a sequence of one part or more
abbrev pub IsSequence : p.PathTree → Type 0
IsSequence (p.seq (p.more first others)) = ⊤
IsSequence _ = ⊥

abbrev pub AreSequences : p.PathTrees → Type 0
AreSequences p.none = ⊤
AreSequences (p.more first others) = IsSequence first × AreSequences others

-- a choice of one sequence or more
abbrev pub IsChoice : p.PathTree → Type 0
IsChoice (p.alt (p.more first others)) = IsSequence first × AreSequences others
IsChoice _ = ⊥

-- a group is a choice, also of one sequence
pub record MakesChoice : Type 0 where
  pub spelled : (inner : g.Alt) (rest : List Kind)
      → spell_base (g.group inner) rest
      ≡ k.Symbol s.LeftParen ∷ spell_alt inner (k.Symbol s.RightParen ∷ rest)
  pub tree : (inner : g.Alt) → IsChoice (tree_base (g.group inner))

-- `+=` or `-=`
abbrev pub Assigns : Kind → Type 0
Assigns kind = (kind ≡ k.Symbol s.PlusAssign) ⊎ (kind ≡ k.Symbol s.MinusAssign)

-- two derivations with the same tokens have one tree and nest alike, so that no two statements have the same
-- tokens
pub record AreDetermined : Type 0 where
  pub tree : (one other : g.Statement) → spell_statement one [] ≡ spell_statement other []
      → tree_statement one ≡ tree_statement other
  pub nest : (one other : g.Statement) → spell_statement one [] ≡ spell_statement other []
      → nest_statement one ≡ nest_statement other
  pub statement : IsUnambiguous

-- a derivation that nests deeper than the limit has tokens that no statement has
abbrev pub RefusesDeeper : Type 0
RefusesDeeper =
    (by : g.Statement) → NESTING < nest_statement by → (statement : t.StatementTree)
    → HasTokens statement (spell_statement by []) → ⊥

-- what stands before `+=` or `-=` is a path: the target with the label. No path that begins there takes more
-- tokens. And any path that ends in a plain label is a target with a label
pub record TakesLastLabel : Type 0 where
  pub joined : (target : g.Path) (last : g.Label) → (path : g.Path) × IsJoined path target last
  pub longest : (target path : g.Path) (last : g.Label) (kind : Kind) (rest behind : List Kind) → Assigns kind
      → spell_path path behind ≡ spell_path target (k.Symbol s.Dot ∷ spell_label last (kind ∷ rest))
      → length (kind ∷ rest) ≤ length behind
  pub split : (path : g.Path) (before : List p.PathTree) (text : List ℕ)
      → (tree_path path).parts ≡ before ++ p.step (Plain text) ∷ []
      → (target : g.Path) × (last : g.Label) × IsJoined path target last
      × ((tree_path target).parts ≡ before) × (text_of_label last ≡ text)

-- the path `A(((.a)))` with so many groups
abbrev pub grouped : ℕ → g.Base
grouped zero = g.label (g.word (codes "a"))
grouped (suc levels) = g.group (g.choice (g.sequence (g.once (grouped levels)) g.no_parts) g.no_choices)

abbrev pub name_a : g.Name
name_a = g.free (codes "A") refl

abbrev pub grouped_path : ℕ → g.Path
grouped_path levels = g.rooted name_a (g.part (g.once (grouped levels)) g.no_parts)

-- so many times `not (exists A in A : for all A in A :` round the comparison of a path with so many groups
abbrev pub enclosed : (turns groups : ℕ) → g.Unary
enclosed zero groups = g.same (grouped_path groups) (grouped_path 0)
enclosed (suc turns) groups =
    let path = g.rooted name_a g.no_parts in
    let inner = g.exists name_a path (g.for_all name_a path (enclosed turns groups)) in
    g.not (g.parens (g.conjs (g.unaries inner g.no_unaries) g.no_conjs))

-- `{a {a {}}}` with one brace more than this
abbrev pub braced : ℕ → g.Literal
braced zero = g.braces None g.no_members
braced (suc levels) = g.braces None (g.members (g.member (g.word (codes "a")) (braced levels)) g.no_more)

-- `update A.a += LITERAL where CONDITION`, with so many braces, turns and groups
abbrev pub deep : (braces turns groups : ℕ) → g.Statement
deep braces turns groups =
    g.add (g.rooted name_a g.no_parts) (g.word (codes "a")) (g.fresh (braced braces))
    (g.tail [] (Some (g.conjs (g.unaries (enclosed turns groups) g.no_unaries) g.no_conjs)))

-- the limit of nesting is reached by braces, and by `not`, parentheses, quantifiers and groups inside each
-- other. One brace or one group more passes it
pub record ReachesLimit : Type 0 where
  pub has : HasTokens (tree_statement (deep 63 15 4)) (spell_statement (deep 63 15 4) [])
  pub reached : nest_statement (deep 63 15 4) ≡ NESTING
  pub passed_by_brace : nest_statement (deep 64 15 4) ≡ NESTING + 1
  pub passed_by_group : nest_statement (deep 63 15 5) ≡ NESTING + 1

-- `select G.WORD`
abbrev pub labelled : List ℕ → t.StatementTree
labelled word =
    t.select record {
      items = t.object record { start = codes "G"; parts = p.step (Plain word) ∷ [] } ∷ [];
      tail = record { ranges = []; cond = None };
    }

-- any word is a label, a reserved one too, and a reserved word is no name
pub record KeepsReservedWords : Type 0 where
  pub label : (word : List ℕ) → HasTokens (labelled word)
      (k.Word (codes "select") ∷ k.Word (codes "G") ∷ k.Symbol s.Dot ∷ k.Word word ∷ [])
  pub name : (name : g.Name) → is_reserved (text_of_name name) ≡ false
  pub bound : (statement : t.StatementTree) (word : List ℕ) (rest : List Kind) → is_reserved word ≡ true
      → HasTokens statement (k.Word (codes "load") ∷ k.Word word ∷ rest) → ⊥
  pub start : (statement : t.StatementTree) (word : List ℕ) (rest : List Kind) → is_reserved word ≡ true
      → HasTokens statement (k.Word (codes "update") ∷ k.Word word ∷ rest) → ⊥

-- literals and dump texts are sound where they are parts of a sound statement
pub record AreSoundParts : Type 0 where
  pub literal : (literal : t.LiteralTree) → IsSoundLiteral literal → IsSound (t.load (codes "A") literal)
  pub loaded : (name : List ℕ) (literal : t.LiteralTree) → IsSound (t.load name literal)
      → IsSoundLiteral literal
  pub added : (target : t.RootedTree) (label : List ℕ) (literal : t.LiteralTree) (tail : t.TailTree)
      → IsSound (t.add_new target label literal tail) → IsSoundLiteral literal
  pub text : (text : DumpTree) → IsSoundDump text → IsSound (t.restore text)
  pub restored : (text : DumpTree) → IsSound (t.restore text) → IsSoundDump text

-- the texts and numbers of what is sound keep their forms and limits, and a statement whose texts and numbers
-- do is sound where it has tokens
pub record KeepsForms : Type 0 where
  pub statement : (statement : t.StatementTree) → IsSound statement → IsFormedStatement statement
  pub literal : (literal : t.LiteralTree) → IsSoundLiteral literal → IsFormedLiteral literal
  pub dump : (text : DumpTree) → IsSoundDump text → IsFormedDump text
  pub enough : (statement : t.StatementTree) (kinds : List Kind) → HasTokens statement kinds
      → IsFormedStatement statement
      → IsSound statement
