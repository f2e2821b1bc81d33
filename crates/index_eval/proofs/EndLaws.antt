-- The objects that compare so with what is given, taken value by value.
use Rattle.std.proofs.Common.{◌≡◌, ℕ, ◌+◌, ◌<◌, ◌≤◌, inl, inr, List, [], ◌++◌, length, get_or, take, Option, None, Some, IfSome, Result, Ok, Err, IfOk, OnOk, sym, subst, ap, ◌∙◌}
use Rattle.std.specs.List.{Contains}
use Rattle.std.proofs.lemmas.Option.{none-some, same_Some}
use Rattle.std.proofs.lemmas.List.{take_more, take_all}
use Rattle.std.proofs.lemmas.List.Elements.{Contains-append_left, Contains-append_right, Contains-push_cases}
use Rattle.lore_base.specs.Lists.{ExtendsBy}
use Rattle.lore_base.specs.Paths.{PathTree, path_tree, Reaches}
use Rattle.lore_base.specs.TargetSets.{ListsInOrder}
use Rattle.lore_base.proofs.MemberLaws.{Contains-none}
use Rattle.lore_base.specs.Comparisons.{Compares}
use Rattle.lore_base.specs.declared.values.Value.TheVariants.{Whole, Chars, Flag, Complex}
use Rattle.lore_base.specs.declared.operators.Op.TheVariants.{Like}
use Rattle.index_traits.specs.Entries.{IsFound, IsProbed}
use Rattle.lorel_bound.specs.Bound.{BoundPathTree}
use Rattle.lorel_bound.specs.Conditions.{OperandOf}
use Rattle.lorel_bound.specs.Conditions as c
use Rattle.lorel_bound.specs.Holding.{Gives}
use Rattle.lorel_bound.specs.SlotRows.{BoundStartsAt, MeetsBy}
use Rattle.lorel_bound.specs.Plans.{IsCandidate}
use Rattle.product_walk.specs.ProductWalks.{ReachesInto}
use Rattle.index_eval.specs.Types.{Oid, Label, Edge, Value, Op, ValueEntry, Path, BoundStart}
use Rattle.member_clues.specs.declared.clues.Clue.{Clue}
use Rattle.member_clues.specs.declared.clues.Comparison.{Comparison}
use Rattle.member_clues.specs.declared.clues.End.{End}
use Rattle.member_clues.specs.declared.clues.End.TheVariants as e
use Rattle.member_clues.specs.declared.clues.Meeting.{Meeting}
use Rattle.member_clues.specs.Asked.{given_operand}
use Rattle.index_eval.specs.inside.Ends.{TakesEnds, TakesEndsFor, TakesEndsOf, HasCompared, HasComparedBy, HasMet, HasEnds, LeadBack, LeadToEnds}

pub ends_none : (objects : List (Oid × Value)) (entries : List ValueEntry) (asked : Comparison) (ends : List Oid) → TakesEndsOf objects entries asked [] ends
ends_none objects entries asked ends from oid value at has found = absurd (Contains-none from at)

pub ends_more : (objects : List (Oid × Value)) (entries : List ValueEntry) (asked : Comparison) (xs old new : List Oid) (i : ℕ) (d : Oid) → i < length xs
    → TakesEndsFor objects entries asked (get_or xs i d) old new → TakesEndsOf objects entries asked (take i xs) old
    → TakesEndsOf objects entries asked (take (i + 1) xs) new
ends_more objects entries asked xs old new i d within more so_far from oid value at has found =
    elim (Contains-push_cases (take i xs) (get_or xs i d) from (subst (λ (l : List Oid). Contains l from) (take_more xs i d within) at)) [
      | inl early ↦ more.kept oid (so_far from oid value early has found)
      | inr same ↦ more.taken oid value (subst (λ (o : Oid). Contains objects (o, value)) (sym same) has) found
    ]

pub ends_all : (objects : List (Oid × Value)) (entries : List ValueEntry) (asked : Comparison) (xs ends : List Oid) (i : ℕ) → length xs ≤ i
    → TakesEndsOf objects entries asked (take i xs) ends → TakesEndsOf objects entries asked xs ends
ends_all objects entries asked xs ends i past so_far = subst (λ (l : List Oid). TakesEndsOf objects entries asked l ends) (take_all i xs past) so_far

-- an object has one value
ends_for : (objects : List (Oid × Value)) (entries : List ValueEntry) (asked : Comparison) (from : Oid) (own : Value) (old new : List Oid)
    → ((value : Value) → Contains objects (from, value) → Some own ≡ Some value) → TakesEnds entries asked own old new
    → TakesEndsFor objects entries asked from old new
ends_for objects entries asked from own old new only takes = record {
  kept = takes.kept;
  taken = λ oid value has found. takes.taken oid (subst (λ (v : Value). IsCandidate entries asked.label asked.op v oid) (sym (same_Some own value (only value has))) found);
}

-- What is taken for one value.

candidate_compares : (entries : List ValueEntry) (label : Option Label) (op : Op) (value : Value) (oid : Oid) → IsCandidate entries label op value oid
    → (own : Value) × Compares own op value
candidate_compares entries None op value oid found = absurd found
candidate_compares entries (Some label) op value oid found = (found.0, found.2)

compares_complex : (a : Value) (op : Op) → Compares a op Complex → op ≡ Like
compares_complex (Whole a) op compares = elim compares [ inl ordered ↦ absurd ordered.1 | inr like ↦ like.0 ]
compares_complex (Chars a) op compares = elim compares [ inl ordered ↦ absurd ordered.1 | inr like ↦ like.0 ]
compares_complex (Flag a) op compares = elim compares [ inl ordered ↦ absurd ordered.1 | inr like ↦ like.0 ]
compares_complex Complex op compares = elim compares [ inl ordered ↦ absurd ordered.1 | inr like ↦ like.0 ]

takes_found : (entries : List ValueEntry) (asked : Comparison) (label : Label) (value : Value) (old new : List Oid) → asked.label ≡ Some label
    → ExtendsBy (ListsInOrder (IsFound entries label asked.op value)) old new → TakesEnds entries asked value old new
takes_found entries asked label value old new is extends = record {
  kept = λ oid at. subst (λ (l : List Oid). Contains l oid) (sym extends.1) (Contains-append_left old extends.0 oid at);
  taken = λ oid found. subst (λ (l : List Oid). Contains l oid) (sym extends.1) (Contains-append_right old extends.0 oid
      ((extends.2.exact oid).1 (subst (λ (o : Option Label). IsCandidate entries o asked.op value oid) is found)));
}

pub takes_without : (entries : List ValueEntry) (asked : Comparison) (value : Value) (ends : List Oid) → asked.label ≡ None → TakesEnds entries asked value ends ends
takes_without entries asked value ends is = record {
  kept = λ oid at. at;
  taken = λ oid found. absurd (subst (λ (o : Option Label). IsCandidate entries o asked.op value oid) is found);
}

pub takes_none : (entries : List ValueEntry) (asked : Comparison) (value : Value) (ends : List Oid) → IsProbed asked.op → value ≡ Complex
    → TakesEnds entries asked value ends ends
takes_none entries asked value ends probed complex = record {
  kept = λ oid at. at;
  taken = λ oid found.
      let compared = candidate_compares entries asked.label asked.op value oid found in
      absurd (probed.no_pattern (compares_complex compared.0 asked.op (subst (λ (v : Value). Compares compared.0 asked.op v) complex compared.1)));
}

-- and so where memory for them is refused, or not
pub takes_by : {E : Type 0} (entries : List ValueEntry) (asked : Comparison) (label : Label) (value : Value) (old new : List Oid) (result : Result (Unit {0}) E)
    → asked.label ≡ Some label → OnOk result (ExtendsBy (ListsInOrder (IsFound entries label asked.op value)) old new)
    → OnOk result (TakesEnds entries asked value old new)
takes_by entries asked label value old new (Ok done) is extends = takes_found entries asked label value old new is extends
takes_by entries asked label value old new (Err error) is extends = tt

pub takes_for : {E : Type 0} (objects : List (Oid × Value)) (entries : List ValueEntry) (asked : Comparison) (from : Oid) (own : Value) (old new : List Oid)
    (result : Result (Unit {0}) E) → ((value : Value) → Contains objects (from, value) → Some own ≡ Some value)
    → OnOk result (TakesEnds entries asked own old new) → OnOk result (TakesEndsFor objects entries asked from old new)
takes_for objects entries asked from own old new (Ok done) only takes = ends_for objects entries asked from own old new only takes
takes_for objects entries asked from own old new (Err error) only takes = tt

-- an object that isn't there has no value
pub ends_without : (objects : List (Oid × Value)) (entries : List ValueEntry) (asked : Comparison) (from : Oid) (ends : List Oid)
    → ((value : Value) → Contains objects (from, value) → None ≡ Some value) → TakesEndsFor objects entries asked from ends ends
ends_without objects entries asked from ends only = record {
  kept = λ oid at. at;
  taken = λ oid value has found. absurd (none-some value (only value has));
}

-- What is taken for what is given.

pub atom_ends : (labels : List (List ℕ)) (edges : List Edge) (objects : List (Oid × Value)) (entries : List ValueEntry) (row : List Oid) (asked : Comparison)
    (value : Value) (before ends : List Oid) → given_operand asked.given ≡ c.constant value → TakesEnds entries asked value before ends
    → HasCompared labels edges objects entries row asked ends
atom_ends labels edges objects entries row asked value before ends is takes other oid gives found =
    let same : other ≡ value =
    subst (λ (operand : OperandOf BoundPathTree). Gives (MeetsBy labels edges row) (λ o v. Contains objects (o, v)) Compares [] operand other) is gives in
    takes.taken oid (subst (λ (v : Value). IsCandidate entries asked.label asked.op v oid) same found)

-- what a path reaches from the object of its start is all that it reaches
pub path_ends : (labels : List (List ℕ)) (edges : List Edge) (objects : List (Oid × Value)) (entries : List ValueEntry) (row : List Oid) (asked : Comparison)
    (start : BoundStart) (path : PathTree) (from : Oid) (before found ends : List Oid)
    → ((oid : Oid) → BoundStartsAt row [] start oid → Some from ≡ Some oid) → before ≡ []
    → ExtendsBy (ListsInOrder (Reaches labels edges path from)) before found → TakesEndsOf objects entries asked found ends
    → HasComparedBy labels edges objects entries row asked (c.at (record { start = start; rest = path })) ends
path_ends labels edges objects entries row asked start path from before found ends only none extends takes value oid gives candidate =
    let whole : found ≡ extends.0 = extends.1 ∙ ap (λ (l : List Oid). l ++ extends.0) none in
    let reached = gives.1 in
    let same : from ≡ reached.0 = same_Some from reached.0 (only reached.0 reached.1) in
    let there : Contains extends.0 gives.0 = (extends.2.exact gives.0).1 (subst (λ (o : Oid). Reaches labels edges path o gives.0) (sym same) reached.2) in
    takes gives.0 oid value (subst (λ (l : List Oid). Contains l gives.0) (sym whole) there) gives.2 candidate

pub path_found : {E : Type 0} (labels : List (List ℕ)) (edges : List Edge) (objects : List (Oid × Value)) (entries : List ValueEntry) (row : List Oid)
    (asked : Comparison) (start : BoundStart) (path : PathTree) (from : Oid) (before found : List Oid) (result : Result (Option (List Oid)) E)
    → ((oid : Oid) → BoundStartsAt row [] start oid → Some from ≡ Some oid) → before ≡ []
    → ExtendsBy (ListsInOrder (Reaches labels edges path from)) before found → IfOk result (λ ends. IfSome ends (TakesEndsOf objects entries asked found))
    → IfOk result (λ ends. IfSome ends (HasComparedBy labels edges objects entries row asked (c.at (record { start = start; rest = path }))))
path_found labels edges objects entries row asked start path from before found (Ok (Some ends)) only none extends takes =
    path_ends labels edges objects entries row asked start path from before found ends only none extends takes
path_found labels edges objects entries row asked start path from before found (Ok None) only none extends takes = tt
path_found labels edges objects entries row asked start path from before found (Err error) only none extends takes = tt

pub atom_found : {E : Type 0} (labels : List (List ℕ)) (edges : List Edge) (objects : List (Oid × Value)) (entries : List ValueEntry) (row : List Oid)
    (asked : Comparison) (value : Value) (result : Result (Option (List Oid)) E) → given_operand asked.given ≡ c.constant value
    → IfOk result (λ ends. IfSome ends (TakesEnds entries asked value [])) → IfOk result (λ ends. IfSome ends (HasCompared labels edges objects entries row asked))
atom_found labels edges objects entries row asked value (Ok (Some ends)) is takes = atom_ends labels edges objects entries row asked value [] ends is takes
atom_found labels edges objects entries row asked value (Ok None) is takes = tt
atom_found labels edges objects entries row asked value (Err error) is takes = tt

-- what is given by a path
pub given_found : {E : Type 0} (labels : List (List ℕ)) (edges : List Edge) (objects : List (Oid × Value)) (entries : List ValueEntry) (row : List Oid)
    (asked : Comparison) (operand : OperandOf BoundPathTree) (result : Result (Option (List Oid)) E) → given_operand asked.given ≡ operand
    → IfOk result (λ ends. IfSome ends (HasComparedBy labels edges objects entries row asked operand))
    → IfOk result (λ ends. IfSome ends (HasCompared labels edges objects entries row asked))
given_found labels edges objects entries row asked operand result is has =
    subst (λ (o : OperandOf BoundPathTree). IfOk result (λ ends. IfSome ends (HasComparedBy labels edges objects entries row asked o))) (sym is) has

-- what is put behind nothing is all
pub extended : (P : List Oid → Type 0) (old new : List Oid) → old ≡ [] → ExtendsBy P old new → P new
extended P old new none extends = subst P (sym (extends.1 ∙ ap (λ (l : List Oid). l ++ extends.0) none)) extends.2

-- What another path reaches.

pub met_ends : (labels : List (List ℕ)) (edges : List Edge) (row : List Oid) (met : Meeting) (from : Oid) (before found : List Oid)
    → ((oid : Oid) → BoundStartsAt row [] met.start oid → Some from ≡ Some oid) → before ≡ []
    → ExtendsBy (ListsInOrder (Reaches labels edges (path_tree met.route) from)) before found → HasMet labels edges row met found
met_ends labels edges row met from before found only none extends oid meets =
    let whole = extended (ListsInOrder (Reaches labels edges (path_tree met.route) from)) before found none extends in
    let same : from ≡ meets.0 = same_Some from meets.0 (only meets.0 meets.1) in
    (whole.exact oid).1 (subst (λ (o : Oid). Reaches labels edges (path_tree met.route) o oid) (sym same) meets.2)

-- What is at an end.

pub compared_found : {E : Type 0} (labels : List (List ℕ)) (edges : List Edge) (objects : List (Oid × Value)) (entries : List ValueEntry) (row : List Oid)
    (end : End) (asked : Comparison) (result : Result (Option (List Oid)) E) → end ≡ e.Compared asked
    → IfOk result (λ ends. IfSome ends (HasCompared labels edges objects entries row asked))
    → IfOk result (λ ends. IfSome ends (HasEnds labels edges objects entries row end))
compared_found labels edges objects entries row end asked result is has =
    subst (λ (own : End). IfOk result (λ ends. IfSome ends (HasEnds labels edges objects entries row own))) (sym is) has

pub met_found : {E : Type 0} (labels : List (List ℕ)) (edges : List Edge) (objects : List (Oid × Value)) (entries : List ValueEntry) (row : List Oid)
    (end : End) (met : Meeting) (result : Result (Option (List Oid)) E) → end ≡ e.Met met
    → IfOk result (λ ends. IfSome ends (HasMet labels edges row met)) → IfOk result (λ ends. IfSome ends (HasEnds labels edges objects entries row end))
met_found labels edges objects entries row end met result is has =
    subst (λ (own : End). IfOk result (λ ends. IfSome ends (HasEnds labels edges objects entries row own))) (sym is) has

-- What leads there.

pub led_back : (labels : List (List ℕ)) (edges : List Edge) (objects : List (Oid × Value)) (links : List Edge) (entries : List ValueEntry) (row : List Oid)
    (clue : Clue) (ends found : List Oid) → clue.through ≡ None → HasEnds labels edges objects entries row clue.end ends
    → ListsInOrder (ReachesInto labels links (path_tree clue.way) ends) found → LeadToEnds labels edges objects links entries row clue found
led_back labels edges objects links entries row clue ends found none has lists =
    (ends, has, subst (λ (first : Option Path). LeadBack labels links first clue.way ends found) (sym none) lists)

pub led_through : (labels : List (List ℕ)) (edges : List Edge) (objects : List (Oid × Value)) (links : List Edge) (entries : List ValueEntry) (row : List Oid)
    (clue : Clue) (first : Path) (ends between found : List Oid) → clue.through ≡ Some first → HasEnds labels edges objects entries row clue.end ends
    → ListsInOrder (ReachesInto labels links (path_tree clue.way) ends) between → ListsInOrder (ReachesInto labels links (path_tree first) between) found
    → LeadToEnds labels edges objects links entries row clue found
led_through labels edges objects links entries row clue first ends between found is has lists through =
    (ends, has, subst (λ (f : Option Path). LeadBack labels links f clue.way ends found) (sym is) (between, lists, through))
