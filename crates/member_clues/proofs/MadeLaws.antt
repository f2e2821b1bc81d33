-- How clues are made of a condition: of its comparisons and meetings, each side by the other.
use Rattle.std.proofs.Common.{◌≡◌, ◌≢◌, ℕ, ◌+◌, ◌<◌, List, [], ◌∷◌, length, get_or, map, drop, Option, None, Some, option_map, Result, Ok, Err, IfOk, IfSome, IfNone, Contains, inl, inr, sym, ap, ◌∙◌, subst, arith}
use Rattle.std.specs.List.{slice_get}
use Rattle.std.proofs.lemmas.Option.{same_Some}
use Rattle.std.proofs.lemmas.List.Sums.{sum_by-append, sum_by-cons}
use Rattle.lore_base.specs.Paths.{PathTree, path_tree, leaves, Reaches}
use Rattle.lore_base.specs.Walks.{Walk}
use Rattle.lore_base.specs.Comparisons.{Compares}
use Rattle.lore_base.proofs.MemberLaws.{Contains-none, Contains-cases}
use Rattle.list_laws.proofs.PartLaws.{drop_more_read}
use Rattle.index_traits.specs.Entries.{IsProbed}
use Rattle.lorel_bound.specs.Bound.{BoundPathTree, bound_cond, bound_conds, bound_path, bound_operand, conds_from, cond_step, conds_step}
use Rattle.lorel_bound.specs.declared.conditions.BoundPath.{BoundPath}
use Rattle.lorel_bound.specs.declared.conditions.BoundOperand.{BoundOperand}
use Rattle.lorel_bound.specs.declared.conditions.BoundCond.{BoundCond, And, Exists, Compare, Same}
use Rattle.lorel_bound.specs.declared.conditions.BoundCondList.{BoundCondList}
use Rattle.lorel_bound.specs.declared.conditions.BoundCond.TheOpen as layer
use Rattle.lorel_bound.specs.declared.conditions.BoundCond.TheVariants.{rolls-And, rolls-Same}
use Rattle.lorel_bound.specs.declared.conditions.BoundCond.TheFolds.{fold-roll-BoundCond}
use Rattle.lorel_bound.specs.Conditions.{OperandOf, CondOf, operand_paths, paths_of, paths_of_all}
use Rattle.lorel_bound.specs.Conditions as c
use Rattle.lorel_bound.specs.Plans.{IsLabelOf}
use Rattle.lorel_bound.specs.Holding.{Gives, Holds}
use Rattle.lorel_bound.specs.SlotRows.{BoundStartsAt, MeetsBy}
use Rattle.lorel_bound.proofs.BoundLaws.{exists_cond, compare_cond}
use Rattle.lorel_eval.specs.Tests.{rest_leaves}
use Rattle.planner.specs.Ends.{EndsIn}
use Rattle.member_clues.specs.Types.{Oid, Label, Edge, Value, Op, Path, BoundStart}
use Rattle.member_clues.specs.Types.bound_starts
use Rattle.member_clues.specs.declared.clues.Clue.{Clue}
use Rattle.member_clues.specs.declared.clues.End.{End}
use Rattle.member_clues.specs.declared.clues.End.TheVariants as e
use Rattle.member_clues.specs.declared.clues.Comparison.{Comparison}
use Rattle.member_clues.specs.declared.clues.Meeting.{Meeting}
use Rattle.member_clues.specs.Asked.{Follows, IsOutside, IsOperandOutside, asked, asked_of, given_operand, other_path}
use Rattle.member_clues.specs.Clues.{CanBeSought, IsEnd, IsClueOf}
use Rattle.member_clues.specs.inside.Reading.{IsFrom, IsItself, within, IsClueBy}

-- the label that was found for a text
pub label_found : (labels : List (List ℕ)) (text : List ℕ) (label : Option Label) → IfSome label (λ own. slice_get labels own.0 ≡ Some text)
    → IfNone label ((own : Label) → slice_get labels own.0 ≢ Some text) → IsLabelOf labels text label
label_found labels text None found none = none
label_found labels text (Some own) found none = found

-- What follows of a condition, or of what it asks of some object that a path reaches.

-- the other condition holds wherever the first one does, whatever the objects of the quantifiers around
abbrev Implies : List (List ℕ) → CondOf BoundPathTree → CondOf BoundPathTree → Type 0
Implies labels condition other = (edges : List Edge) (objects : List (Oid × Value)) (slots around : List Oid)
    → Holds (MeetsBy labels edges slots) (λ oid value. Contains objects (oid, value)) Compares around condition
    → Holds (MeetsBy labels edges slots) (λ oid value. Contains objects (oid, value)) Compares around other

follows_within : (labels : List (List ℕ)) (whole condition other : CondOf BoundPathTree) (through : Option BoundPath) → Implies labels condition other
    → Follows labels whole (within through condition) → Follows labels whole (within through other)
follows_within labels whole condition other None implies follows edges objects slots holds =
    implies edges objects slots [] (follows edges objects slots holds)
follows_within labels whole condition other (Some path) implies follows edges objects slots holds =
    let made = follows edges objects slots holds in
    (made.0, made.1, implies edges objects slots (made.0 ∷ []) made.2)

-- a condition follows of itself
pub follows_itself : (labels : List (List ℕ)) (condition : CondOf BoundPathTree) → Follows labels condition condition
follows_itself labels condition edges objects slots holds = holds

-- and a comparison turned round of that comparison
pub follows_turned : (labels : List (List ℕ)) (whole : CondOf BoundPathTree) (through : Option BoundPath) (left right : OperandOf BoundPathTree) (op other : Op)
    → ((a b : Value) → Compares a op b → Compares b other a) → Follows labels whole (within through (c.compare left op right))
    → Follows labels whole (within through (c.compare right other left))
follows_turned labels whole through left right op other turned =
    follows_within labels whole (c.compare left op right) (c.compare right other left) through
    (λ edges objects slots around made. (made.1, made.0, made.3, made.2, turned made.0 made.1 made.4))

-- and two paths that meet turned round
pub follows_met : (labels : List (List ℕ)) (whole : CondOf BoundPathTree) (through : Option BoundPath) (left right : BoundPathTree)
    → Follows labels whole (within through (c.same left right)) → Follows labels whole (within through (c.same right left))
follows_met labels whole through left right =
    follows_within labels whole (c.same left right) (c.same right left) through (λ edges objects slots around met. (met.0, met.2, met.1))

-- and each member of an `and` of it
all_hold : (labels : List (List ℕ)) (edges : List Edge) (objects : List (Oid × Value)) (slots around : List Oid) (members : List BoundCond) (member : BoundCond)
    → Contains members member
    → Holds (MeetsBy labels edges slots) (λ oid value. Contains objects (oid, value)) Compares around (c.and (conds_from (map bound_cond members)))
    → Holds (MeetsBy labels edges slots) (λ oid value. Contains objects (oid, value)) Compares around (bound_cond member)
all_hold labels edges objects slots around [] member among all = absurd (Contains-none member among)
all_hold labels edges objects slots around (first ∷ others) member among all = elim (Contains-cases first others member among) [
  | inl here ↦
      subst (λ (m : BoundCond). Holds (MeetsBy labels edges slots) (λ oid value. Contains objects (oid, value)) Compares around (bound_cond m)) here all.0
  | inr behind ↦ all_hold labels edges objects slots around others member behind all.1
]

pub follows_member : (labels : List (List ℕ)) (whole : CondOf BoundPathTree) (through : Option BoundPath) (members : List BoundCond) (member : BoundCond)
    → Contains members member → Follows labels whole (within through (c.and (conds_from (map bound_cond members))))
    → Follows labels whole (within through (bound_cond member))
follows_member labels whole through members member among =
    follows_within labels whole (c.and (conds_from (map bound_cond members))) (bound_cond member) through
    (λ edges objects slots around all. all_hold labels edges objects slots around members member among all)

-- no quantifier's object matters to a side that doesn't start there
side_outside : (labels : List (List ℕ)) (edges : List Edge) (objects : List (Oid × Value)) (slots around : List Oid) (side : OperandOf BoundPathTree)
    (value : Value) → IsOperandOutside side → Gives (MeetsBy labels edges slots) (λ oid other. Contains objects (oid, other)) Compares around side value
    → Gives (MeetsBy labels edges slots) (λ oid other. Contains objects (oid, other)) Compares [] side value
side_outside labels edges objects slots around (c.constant own) value outside gives = gives
side_outside labels edges objects slots around (c.at path) value outside gives = (gives.0, start_outside path.start outside gives.1, gives.2)
  where
    start_outside : (start : BoundStart) → IsOutside start → MeetsBy labels edges slots around (record { start = start; rest = path.rest }) gives.0
        → MeetsBy labels edges slots [] (record { start = start; rest = path.rest }) gives.0
    start_outside (bound_starts.Named named) out meets = meets
    start_outside (bound_starts.Slot slot) out meets = meets
    start_outside (bound_starts.Quantified depth) out meets = absurd out

-- and a comparison of what a path reaches, where it is asked of some object that the path reaches
pub follows_reached : (labels : List (List ℕ)) (whole : CondOf BoundPathTree) (first path : BoundPathTree) (op : Op) (side : OperandOf BoundPathTree)
    → IsItself path → IsOperandOutside side → Follows labels whole (c.exists first (c.compare (c.at path) op side))
    → Follows labels whole (c.compare (c.at first) op side)
follows_reached labels whole first path op side itself outside follows edges objects slots holds =
    let made = follows edges objects slots holds in
    let compared = made.2 in
    let met = compared.2 in
    let start : made.0 ≡ met.1.0 = same_Some made.0 met.1.0
    (subst (λ (s : BoundStart). BoundStartsAt slots (made.0 ∷ []) s met.1.0) itself.0 met.1.1) in
    let walked = subst (λ (p : PathTree). Reaches labels edges p met.1.0 met.0) itself.1 met.1.2 in
    let end : met.1.0 ≡ met.0 = subst (λ (word : List Label). Walk edges met.1.0 word met.0) walked.1 walked.2 in (
      compared.0,
      compared.1,
      (met.0, subst (MeetsBy labels edges slots [] first) (start ∙ end) made.1, met.2),
      side_outside labels edges objects slots (made.0 ∷ []) side compared.1 outside compared.3,
      compared.4,
    )

-- Clues of what follows.

-- a sought path, with where it starts, as the clue has it
asked_so : (labels : List (List ℕ)) (whole : CondOf BoundPathTree) (through : Option BoundPath) (slot : ℕ) (first : Option Path) (way rest : Path)
    (start : BoundStart) (end : End) → IsFrom through slot start → first ≡ option_map (λ (p : BoundPath). p.rest) through → way ≡ rest
    → Follows labels whole (within through (asked (record { start = start; rest = path_tree rest }) end)) → Follows labels whole (asked_of slot first way end)
asked_so labels whole None slot first way rest start end from is same follows =
    subst (λ (f : Option Path). Follows labels whole (asked_of slot f way end)) (sym is)
    (subst (λ (w : Path). Follows labels whole (asked (record { start = bound_starts.Slot slot; rest = path_tree w }) end)) (sym same)
    (subst (λ (s : BoundStart). Follows labels whole (asked (record { start = s; rest = path_tree rest }) end)) from follows))
asked_so labels whole (Some path) slot first way rest start end from is same follows =
    subst (λ (f : Option Path). Follows labels whole (asked_of slot f way end)) (sym is)
    (subst (λ (w : Path). Follows labels whole (c.exists (record { start = bound_starts.Slot slot; rest = path_tree path.rest })
    (asked (record { start = bound_starts.Quantified 0; rest = path_tree w }) end))) (sym same)
    (subst (λ (s : BoundStart). Follows labels whole (c.exists (record { start = s; rest = path_tree path.rest })
    (asked (record { start = bound_starts.Quantified 0; rest = path_tree rest }) end))) from.0
    (subst (λ (s : BoundStart). Follows labels whole (c.exists (record { start = path.start; rest = path_tree path.rest })
    (asked (record { start = s; rest = path_tree rest }) end))) from.1 follows)))

-- a side of a comparison as the sought one
pub clue_of : (labels : List (List ℕ)) (whole : CondOf BoundPathTree) (through : Option BoundPath) (clue : Clue) (own : Comparison) (start : BoundStart)
    (rest : Path) (operand : OperandOf BoundPathTree) (text : List ℕ) → clue.end ≡ e.Compared own → IsFrom through clue.slot start
    → clue.through ≡ option_map (λ (p : BoundPath). p.rest) through → clue.way ≡ rest → given_operand own.given ≡ operand → IsProbed own.op
    → EndsIn (path_tree rest) text → IsLabelOf labels text own.label → IsOperandOutside operand
    → Follows labels whole (within through (c.compare (c.at (record { start = start; rest = path_tree rest })) own.op operand)) → IsClueOf labels whole clue
clue_of labels whole through clue own start rest operand text is from first way other probed ends labelled outside follows =
    let made : CanBeSought labels (path_tree clue.way) own = record {
      probed = probed;
      text = text;
      ends = subst (λ (w : Path). EndsIn (path_tree w) text) (sym way) ends;
      labelled = labelled;
      outside = subst IsOperandOutside (sym other) outside;
    } in
    record {
      follows = subst (λ (end : End). Follows labels whole (asked_of clue.slot clue.through clue.way end)) (sym is)
          (asked_so labels whole through clue.slot clue.through clue.way rest start (e.Compared own) from first way
          (subst (λ (o : OperandOf BoundPathTree). Follows labels whole (within through (c.compare (c.at (record { start = start; rest = path_tree rest })) own.op o)))
          (sym other) follows));
      end_is = subst (IsEnd labels (path_tree clue.way)) (sym is) made;
    }

-- one of two paths that are to reach a same object
pub clue_met : (labels : List (List ℕ)) (whole : CondOf BoundPathTree) (through : Option BoundPath) (clue : Clue) (own : Meeting) (start : BoundStart)
    (rest : Path) (other : BoundPathTree) → clue.end ≡ e.Met own → IsFrom through clue.slot start
    → clue.through ≡ option_map (λ (p : BoundPath). p.rest) through → clue.way ≡ rest → other_path own ≡ other → IsOutside own.start
    → Follows labels whole (within through (c.same (record { start = start; rest = path_tree rest }) other)) → IsClueOf labels whole clue
clue_met labels whole through clue own start rest other is from first way leads outside follows = record {
  follows = subst (λ (end : End). Follows labels whole (asked_of clue.slot clue.through clue.way end)) (sym is)
      (asked_so labels whole through clue.slot clue.through clue.way rest start (e.Met own) from first way
      (subst (λ (o : BoundPathTree). Follows labels whole (within through (c.same (record { start = start; rest = path_tree rest }) o))) (sym leads) follows));
  end_is = subst (IsEnd labels (path_tree clue.way)) (sym is) outside;
}

-- a comparison of the object that a path to go through reaches gives the clues of one of that path
pub clue_reached : {E : Type 0} (labels : List (List ℕ)) (through : Option BoundPath) (first path : BoundPath) (op : Op) (side : OperandOf BoundPathTree)
    (result : Result (Option Clue) E) → through ≡ Some first → IsItself (bound_path path) → IsOperandOutside side
    → IfOk result (λ found. IfSome found (IsClueBy labels (c.compare (c.at (bound_path first)) op side)))
    → IfOk result (λ found. IfSome found (IsClueBy labels (within through (c.compare (c.at (bound_path path)) op side))))
clue_reached labels through first path op side (Ok (Some clue)) is itself outside made = λ whole follows.
    made whole (follows_reached labels whole (bound_path first) (bound_path path) op side itself outside
    (subst (λ (t : Option BoundPath). Follows labels whole (within t (c.compare (c.at (bound_path path)) op side))) is follows))
clue_reached labels through first path op side (Ok None) is itself outside made = tt
clue_reached labels through first path op side (Err error) is itself outside made = tt

-- an `and` as plain data
pub and_cond : (cond : BoundCond) (members : BoundCondList) → cond ≡ And members → bound_cond cond ≡ c.and (conds_from (bound_conds members))
and_cond cond members is =
    ap bound_cond (is ∙ sym (rolls-And members)) ∙ fold-roll-BoundCond (CondOf BoundPathTree) (List (CondOf BoundPathTree)) cond_step conds_step (layer.And members)

-- two paths that are to meet, as plain data
pub same_cond : (cond : BoundCond) (left right : BoundPath) → cond ≡ Same left right → bound_cond cond ≡ c.same (bound_path left) (bound_path right)
same_cond cond left right is =
    ap bound_cond (is ∙ sym (rolls-Same left right)) ∙ fold-roll-BoundCond (CondOf BoundPathTree) (List (CondOf BoundPathTree)) cond_step conds_step (layer.Same left right)

-- How many leaves paths have.

pub few_sides : (cond : BoundCond) (left : BoundOperand) (op : Op) (right : BoundOperand) → cond ≡ Compare left op right
    → rest_leaves (paths_of (bound_cond cond)) ≡ rest_leaves (operand_paths (bound_operand left)) + rest_leaves (operand_paths (bound_operand right))
few_sides cond left op right is =
    ap (λ (whole : CondOf BoundPathTree). rest_leaves (paths_of whole)) (compare_cond cond left op right is)
    ∙ sum_by-append (λ (path : BoundPathTree). leaves path.rest) (operand_paths (bound_operand left)) (operand_paths (bound_operand right))

pub few_met : (cond : BoundCond) (left right : BoundPath) → cond ≡ Same left right
    → rest_leaves (paths_of (bound_cond cond)) ≡ leaves (path_tree left.rest) + leaves (path_tree right.rest)
few_met cond left right is =
    let sum : rest_leaves (paths_of (bound_cond cond)) ≡ 0 + leaves (path_tree left.rest) + leaves (path_tree right.rest) =
    ap (λ (whole : CondOf BoundPathTree). rest_leaves (paths_of whole)) (same_cond cond left right is) in
    omega (arith, sum)

pub few_through : (cond body : BoundCond) (path : BoundPath) (held : _) → cond ≡ Exists path held → body ≡ held.value
    → rest_leaves (paths_of (bound_cond cond)) ≡ leaves (path_tree path.rest) + rest_leaves (paths_of (bound_cond body))
few_through cond body path held is boxed =
    ap (λ (whole : CondOf BoundPathTree). rest_leaves (paths_of whole)) (exists_cond cond body path held is boxed)
    ∙ sum_by-cons (λ (path : BoundPathTree). leaves path.rest) (bound_path path) (paths_of (bound_cond body))

pub few_left : (members : List BoundCond) (i : ℕ) (member : BoundCond) → i < length members → member ≡ get_or members i member
    → rest_leaves (paths_of_all (conds_from (map bound_cond (drop i members))))
    ≡ rest_leaves (paths_of (bound_cond member)) + rest_leaves (paths_of_all (conds_from (map bound_cond (drop (i + 1) members))))
few_left members i member within at =
    ap (λ (l : List BoundCond). rest_leaves (paths_of_all (conds_from (map bound_cond l)))) (drop_more_read members i member within at)
    ∙ sum_by-append (λ (path : BoundPathTree). leaves path.rest) (paths_of (bound_cond member)) (paths_of_all (conds_from (map bound_cond (drop (i + 1) members))))
