-- What the texts and numbers of a sound statement keep, by the kinds of trees.
use Rattle.std.specs.Prelude.{ℕ, ◌<◌, ◌≤◌, ◌^◌, List, length, Option, Some, None, ⊤, All, FitsSigned}
use Rattle.std.specs.Int.{w64}
use Rattle.lorel_trees.specs.Types.{WORD_BYTES, Oid, Pattern, Value, Plain, Wild}
use Rattle.lore_base.specs.Names.{IsName, IsLabel}
use Rattle.lore_base.specs.Databases.{IsSized}
use Rattle.lore_base.specs.Paths.{PathTree, step, any, seq, alt, opt, star, plus, PathTrees, none, more}
use Rattle.lorel_tokens.specs.Shapes.{IsPattern}
use Rattle.lorel_trees.specs.declared.dump_trees.DumpTree.{DumpTree}
use Rattle.lorel_trees.specs.Trees as t

-- the texts of each kind of tree keep their forms and limits

abbrev pub IsFormedPattern : Pattern → Type 0
IsFormedPattern (Plain text) = IsLabel text
IsFormedPattern (Wild text) = IsPattern text × (length text ≤ WORD_BYTES)

abbrev mutual
  pub IsFormedPath : PathTree → Type 0
  IsFormedPath (step pattern) = IsFormedPattern pattern
  IsFormedPath any = ⊤
  IsFormedPath (seq parts) = AreFormedPaths parts
  IsFormedPath (alt parts) = AreFormedPaths parts
  IsFormedPath (opt part) = IsFormedPath part
  IsFormedPath (star part) = IsFormedPath part
  IsFormedPath (plus part) = IsFormedPath part

  pub AreFormedPaths : PathTrees → Type 0
  AreFormedPaths none = ⊤
  AreFormedPaths (more first others) = IsFormedPath first × AreFormedPaths others

pub record IsFormedRooted (path : t.RootedTree) : Type 0 where
  pub start : IsName path.start
  pub parts : All IsFormedPath path.parts

-- a local or the number of an object has 32 bits
abbrev pub IsLocalNumber : ℕ → Type 0
IsLocalNumber id = id < 2 ^ 32

abbrev pub IsFormedMark : Option ℕ → Type 0
IsFormedMark None = ⊤
IsFormedMark (Some id) = IsLocalNumber id

abbrev mutual
  pub IsFormedLiteral : t.LiteralTree → Type 0
  IsFormedLiteral (t.local id) = IsLocalNumber id
  IsFormedLiteral (t.atom local value) = IsFormedMark local × IsSized value
  IsFormedLiteral (t.node local members) = IsFormedMark local × AreFormedMembers members

  pub AreFormedMembers : t.MemberTrees → Type 0
  AreFormedMembers t.none = ⊤
  AreFormedMembers (t.more label literal others) =
      IsLabel label × IsFormedLiteral literal × AreFormedMembers others

abbrev pub IsFormedOperand : t.OperandTree → Type 0
IsFormedOperand (t.constant value) = IsSized value
IsFormedOperand (t.at path) = IsFormedRooted path

abbrev mutual
  pub IsFormedCond : t.CondTree → Type 0
  IsFormedCond (t.or members) = AreFormedConds members
  IsFormedCond (t.and members) = AreFormedConds members
  IsFormedCond (t.not body) = IsFormedCond body
  IsFormedCond (t.exists variable path body) = IsName variable × IsFormedRooted path × IsFormedCond body
  IsFormedCond (t.for_all variable path body) = IsName variable × IsFormedRooted path × IsFormedCond body
  IsFormedCond (t.compare left op right) = IsFormedOperand left × IsFormedOperand right
  IsFormedCond (t.same left right) = IsFormedRooted left × IsFormedRooted right

  pub AreFormedConds : t.CondTrees → Type 0
  AreFormedConds t.no_cond = ⊤
  AreFormedConds (t.cond first others) = IsFormedCond first × AreFormedConds others

abbrev pub IsFormedVariable : Option (List ℕ) → Type 0
IsFormedVariable None = ⊤
IsFormedVariable (Some text) = IsName text

pub record IsFormedFrom (item : t.FromTree) : Type 0 where
  pub path : IsFormedRooted item.path
  pub word : IsFormedVariable item.word
  pub variable : IsFormedVariable item.variable

abbrev pub IsFormedItem : t.ItemTree → Type 0
IsFormedItem (t.object path) = IsFormedRooted path
IsFormedItem (t.path_of variable) = IsName variable

abbrev pub IsFormedWhere : Option t.CondTree → Type 0
IsFormedWhere None = ⊤
IsFormedWhere (Some cond) = IsFormedCond cond

pub record IsFormedTail (tail : t.TailTree) : Type 0 where
  pub ranges : All IsFormedFrom tail.ranges
  pub cond : IsFormedWhere tail.cond

pub record IsFormedSelect (query : t.SelectTree) : Type 0 where
  pub items : All IsFormedItem query.items
  pub tail : IsFormedTail query.tail

-- the item is a path, and no `path-of`
abbrev pub IsObjectItem : t.ItemTree → Type 0
IsObjectItem (t.object path) = ⊤
IsObjectItem (t.path_of variable) = ⊥

abbrev pub IsFormedName : List ℕ × Oid → Type 0
IsFormedName entry = IsName entry.0 × IsLocalNumber entry.1.0

abbrev pub IsFormedObject : Oid × Value → Type 0
IsFormedObject entry = IsLocalNumber entry.0.0 × IsSized entry.1

abbrev pub IsFormedEdge : Oid × List ℕ × Oid → Type 0
IsFormedEdge entry = IsLocalNumber entry.0.0 × IsLabel entry.1 × IsLocalNumber entry.2.0

pub record IsFormedDump (text : DumpTree) : Type 0 where
  pub version : FitsSigned w64 text.version
  pub next : FitsSigned w64 text.next
  pub nodes : FitsSigned w64 text.nodes
  pub labels : All IsLabel text.labels
  pub names : All IsFormedName text.names
  pub objects : All IsFormedObject text.objects
  pub edges : All IsFormedEdge text.edges

abbrev pub IsFormedStatement : t.StatementTree → Type 0
IsFormedStatement (t.load name literal) = IsName name × IsFormedLiteral literal
IsFormedStatement (t.bind name path) = IsName name × IsFormedRooted path
IsFormedStatement (t.unname name) = IsName name
IsFormedStatement (t.assign target value tail) = IsFormedRooted target × IsSized value × IsFormedTail tail
IsFormedStatement (t.add_new target label literal tail) =
    IsFormedRooted target × IsLabel label × IsFormedLiteral literal × IsFormedTail tail
IsFormedStatement (t.add_link target label right tail) =
    IsFormedRooted target × IsLabel label × IsFormedRooted right × IsFormedTail tail
IsFormedStatement (t.remove target label right tail) =
    IsFormedRooted target × IsLabel label × IsFormedRooted right × IsFormedTail tail
IsFormedStatement (t.select query) = IsFormedSelect query
IsFormedStatement (t.explain query) = IsFormedSelect query
IsFormedStatement t.guide = ⊤
IsFormedStatement (t.browse start labels) = IsName start × All IsLabel labels
IsFormedStatement (t.sample start labels count) = IsName start × All IsLabel labels × FitsSigned w64 count
IsFormedStatement (t.set_nodes nodes) = FitsSigned w64 nodes
IsFormedStatement (t.set_plan mode) = ⊤
IsFormedStatement t.dump = ⊤
IsFormedStatement (t.restore text) = IsFormedDump text
IsFormedStatement (t.generate seed count) = FitsSigned w64 seed × FitsSigned w64 count
IsFormedStatement (t.history on) = ⊤
IsFormedStatement (t.select_at moment query) = FitsSigned w64 moment × IsFormedSelect query
IsFormedStatement (t.changes first last) = FitsSigned w64 first × FitsSigned w64 last
IsFormedStatement t.blocks = ⊤
IsFormedStatement (t.blocks_of query) = IsFormedSelect query
IsFormedStatement (t.watch name query) = IsName name × IsFormedSelect query × All IsObjectItem query.items
IsFormedStatement (t.unwatch name) = IsName name
IsFormedStatement (t.show name) = IsName name
