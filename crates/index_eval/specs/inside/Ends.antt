-- What is found by clues: the objects at their ends, and those from which their paths lead there.
use Rattle.std.specs.Prelude.{◌≡◌, ℕ, Bool, List, [], Option, None, Some, option_map, Contains}
use Rattle.lore_base.specs.Paths.{path_tree}
use Rattle.lore_base.specs.Comparisons.{Compares}
use Rattle.lore_base.specs.TargetSets.{ListsInOrder}
use Rattle.product_walk.specs.ProductWalks.{ReachesInto}
use Rattle.index_traits.specs.Entries.{IsProbed}
use Rattle.lorel_bound.specs.Bound.{BoundPathTree, bound_cond}
use Rattle.lorel_bound.specs.Conditions.{OperandOf, CondOf}
use Rattle.lorel_bound.specs.Holding.{Gives}
use Rattle.lorel_bound.specs.SlotRows.{MeetsBy}
use Rattle.lorel_bound.specs.Plans.{IsCandidate}
use Rattle.lorel_eval.specs.Tests.{CondOver}
use Rattle.member_clues.specs.Asked.{given_operand, other_path}
use Rattle.member_clues.specs.Clues.{IsClueOf, IsEndGiven}
use Rattle.member_clues.specs.declared.clues.Clue.{Clue}
use Rattle.member_clues.specs.declared.clues.End.{End}
use Rattle.member_clues.specs.declared.clues.End.TheVariants as e
use Rattle.member_clues.specs.declared.clues.Comparison.{Comparison}
use Rattle.member_clues.specs.declared.clues.Meeting.{Meeting}
use Rattle.index_eval.specs.Indexes.{AreIndexes}
use Rattle.index_eval.specs.Types.{Oid, Edge, Value, ValueEntry, Path, BoundCond}

-- values at the end can be probed for
abbrev pub IsProbedEnd : End → Type 0
IsProbedEnd (e.Compared own) = IsProbed own.op
IsProbedEnd (e.Met own) = Unit {0}

-- a side of a comparison gives the value where the slots hold these objects
abbrev pub GivesFor : List (List ℕ) → List Edge → List (Oid × Value) → List Oid → OperandOf BoundPathTree → Value → Type 0
GivesFor labels edges objects slots operand value =
    Gives (MeetsBy labels edges slots) (λ oid other. Contains objects (oid, other)) Compares [] operand value

-- these are objects beside others, among them all that compare so with the value
pub record TakesEnds (entries : List ValueEntry) (own : Comparison) (value : Value) (old new : List Oid) : Type 0 where
  pub kept : (oid : Oid) → Contains old oid → Contains new oid
  pub taken : (oid : Oid) → IsCandidate entries own.label own.op value oid → Contains new oid

-- and so for the value of an object
pub record TakesEndsFor (objects : List (Oid × Value)) (entries : List ValueEntry) (own : Comparison) (from : Oid)
    (old new : List Oid) : Type 0 where
  pub kept : (oid : Oid) → Contains old oid → Contains new oid
  pub taken : (oid : Oid) (value : Value) → Contains objects (from, value)
      → IsCandidate entries own.label own.op value oid → Contains new oid

-- among these are all objects that compare so with the value of one of the objects found
abbrev pub TakesEndsOf : List (Oid × Value) → List ValueEntry → Comparison → List Oid → List Oid → Type 0
TakesEndsOf objects entries own found ends =
    (from oid : Oid) (value : Value) → Contains found from → Contains objects (from, value)
    → IsCandidate entries own.label own.op value oid → Contains ends oid

-- among these are all objects that compare so with a value which this side of the comparison gives
abbrev pub HasComparedBy :
    List (List ℕ) → List Edge → List (Oid × Value) → List ValueEntry → List Oid → Comparison → OperandOf BoundPathTree → List Oid → Type 0
HasComparedBy labels edges objects entries slots own operand ends =
    (value : Value) (oid : Oid) → GivesFor labels edges objects slots operand value
    → IsCandidate entries own.label own.op value oid → Contains ends oid

-- and so for what is given
abbrev pub HasCompared : List (List ℕ) → List Edge → List (Oid × Value) → List ValueEntry → List Oid → Comparison → List Oid → Type 0
HasCompared labels edges objects entries slots own = HasComparedBy labels edges objects entries slots own (given_operand own.given)

-- among these are all objects that the other path reaches
abbrev pub HasMet : List (List ℕ) → List Edge → List Oid → Meeting → List Oid → Type 0
HasMet labels edges slots own ends = (oid : Oid) → MeetsBy labels edges slots [] (other_path own) oid → Contains ends oid

-- among these are all objects at the end
abbrev pub HasEnds : List (List ℕ) → List Edge → List (Oid × Value) → List ValueEntry → List Oid → End → List Oid → Type 0
HasEnds labels edges objects entries slots (e.Compared own) ends = HasCompared labels edges objects entries slots own ends
HasEnds labels edges objects entries slots (e.Met own) ends = HasMet labels edges slots own ends

-- these ascend, and are all objects from which the way leads to one of the ends, or, where there is a path to go through
-- first, from which that one leads to an object from which the way does
abbrev pub LeadBack : List (List ℕ) → List Edge → Option Path → Path → List Oid → List Oid → Type 0
LeadBack labels links None way ends oids = ListsInOrder (ReachesInto labels links (path_tree way) ends) oids
LeadBack labels links (Some first) way ends oids =
    (between : List Oid) × ListsInOrder (ReachesInto labels links (path_tree way) ends) between
    × ListsInOrder (ReachesInto labels links (path_tree first) between) oids

-- and so by a clue, to objects among which are all at its end
abbrev pub LeadToEnds : List (List ℕ) → List Edge → List (Oid × Value) → List Edge → List ValueEntry → List Oid → Clue → List Oid → Type 0
LeadToEnds labels edges objects links entries slots clue oids =
    (ends : List Oid) × HasEnds labels edges objects entries slots clue.end ends
    × LeadBack labels links clue.through clue.way ends oids

-- these are told by a clue of the slot whose end depends on known slots alone
pub record AreTold (labels : List (List ℕ)) (edges : List Edge) (objects : List (Oid × Value)) (links : List Edge) (entries : List ValueEntry)
    (clues : List Clue) (known : List Bool) (slot : ℕ) (slots oids : List Oid) : Type 0 where
  pub clue : Clue
  pub among : Contains clues clue
  pub slot_is : clue.slot ≡ slot
  pub given : IsEndGiven known clue.end
  pub leads : LeadToEnds labels edges objects links entries slots clue oids

-- the clue is one of the condition, which there is
pub record IsClueIn (labels : List (List ℕ)) (cond : Option BoundCond) (clue : Clue) : Type 0 where
  pub condition : CondOf BoundPathTree
  pub is : option_map bound_cond cond ≡ Some condition
  pub clue_is : IsClueOf labels condition clue

-- the indexes are those of the graph, and the clue is one of the test's condition
pub record IsClueFor (test : CondOver) (links : List Edge) (entries : List ValueEntry) (clue : Clue) : Type 0 where
  pub indexes : AreIndexes test.objects test.edges links entries
  pub own : IsClueIn test.labels test.cond clue

-- the test is over this graph, and so are its clues
pub record IsServed (test : CondOver) (labels : List (List ℕ)) (edges : List Edge) (objects : List (Oid × Value))
    (links : List Edge) (entries : List ValueEntry) (clues : List Clue) : Type 0 where
  pub labels_are : test.labels ≡ labels
  pub edges_are : test.edges ≡ edges
  pub objects_are : test.objects ≡ objects
  pub clues_are : (clue : Clue) → Contains clues clue → IsClueFor test links entries clue
