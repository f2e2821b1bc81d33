-- Objects that lead to what a clue asks for: each row of which the condition holds has one of them in the clue's slot.
use Rattle.std.proofs.Common.{◌≡◌, ◌≢◌, ◌↔◌, ℕ, Bool, List, [], ◌∷◌, ◌++◌, Option, None, Some, option_map, sym, subst, ◌∙◌}
use Rattle.std.specs.List.{AllPairs, Contains}
use Rattle.std.proofs.lemmas.Option.{same_Some}
use Rattle.lore_base.specs.Paths.{PathTree, path_tree, seq, step, trees_of, Reaches}
use Rattle.lore_base.specs.Comparisons.{Compares}
use Rattle.lore_base.proofs.WalkLaws.{Walk-within}
use Rattle.index_traits.specs.PartRows.{AgreeOn, AreAllThatFit}
use Rattle.lorel_bound.specs.Bound.{BoundPathTree, bound_cond}
use Rattle.lorel_bound.specs.Conditions.{CondOf}
use Rattle.lorel_bound.specs.Holding.{Gives, Holds}
use Rattle.lorel_bound.specs.SlotRows.{BoundStartsAt, MeetsBy, HoldsOver}
use Rattle.lorel_eval.specs.Tests.{CondOver}
use Rattle.product_walk.specs.ProductWalks.{ReachesInto}
use Rattle.plan_laws.specs.Steps.{StepsOver, steps_over}
use Rattle.plan_laws.proofs.DescribeLawsProbe.{last_edge, candidate}
use Rattle.index_eval.specs.Types.{Oid, Edge, Value, ValueEntry, Path, BoundStart, Plain}
use Rattle.index_eval.specs.Types.bound_starts
use Rattle.index_eval.specs.Indexes.{AreIndexes}
use Rattle.member_clues.specs.declared.clues.Clue.{Clue}
use Rattle.member_clues.specs.declared.clues.Given.{Given}
use Rattle.member_clues.specs.declared.clues.Given.TheVariants as given
use Rattle.member_clues.specs.declared.clues.End.{End}
use Rattle.member_clues.specs.declared.clues.End.TheVariants as e
use Rattle.member_clues.specs.Asked.{Follows, IsOutside, IsOperandOutside, asked, asked_of, given_operand}
use Rattle.member_clues.specs.Clues.{IsEnd, IsStartGiven, IsGivenBy, IsEndGiven}
use Rattle.index_eval.specs.inside.Ends.{GivesFor, HasEnds, LeadBack, LeadToEnds, IsServed}

-- what depends on known slots alone is given alike where these have the same objects
given_alike : (labels : List (List ℕ)) (edges : List Edge) (objects : List (Oid × Value)) (known : List Bool) (a b : List Oid) (own : Given) (value : Value)
    → AgreeOn known a b → IsGivenBy known own → GivesFor labels edges objects b (given_operand own) value → GivesFor labels edges objects a (given_operand own) value
given_alike labels edges objects known a b (given.Atom atom) value agree by gives = gives
given_alike labels edges objects known a b (given.At (bound_starts.Named named) route) value agree by gives = gives
given_alike labels edges objects known a b (given.At (bound_starts.Slot slot) route) value agree by gives =
    (gives.0, (gives.1.0, agree slot by ∙ gives.1.1, gives.1.2), gives.2)
given_alike labels edges objects known a b (given.At (bound_starts.Quantified depth) route) value agree by gives = absurd by

-- and so are the objects that another path reaches
met_alike : (labels : List (List ℕ)) (edges : List Edge) (known : List Bool) (a b : List Oid) (start : BoundStart) (rest : PathTree) (oid : Oid)
    → AgreeOn known a b → IsStartGiven known start → MeetsBy labels edges b [] (record { start = start; rest = rest }) oid
    → MeetsBy labels edges a [] (record { start = start; rest = rest }) oid
met_alike labels edges known a b (bound_starts.Named named) rest oid agree by meets = meets
met_alike labels edges known a b (bound_starts.Slot slot) rest oid agree by meets = (meets.0, agree slot by ∙ meets.1, meets.2)
met_alike labels edges known a b (bound_starts.Quantified depth) rest oid agree by meets = absurd by

-- no quantifier's object matters to what doesn't start there
given_outside : (labels : List (List ℕ)) (edges : List Edge) (objects : List (Oid × Value)) (slots around : List Oid) (own : Given) (value : Value)
    → IsOperandOutside (given_operand own)
    → Gives (MeetsBy labels edges slots) (λ oid other. Contains objects (oid, other)) Compares around (given_operand own) value
    → GivesFor labels edges objects slots (given_operand own) value
given_outside labels edges objects slots around (given.Atom atom) value outside gives = gives
given_outside labels edges objects slots around (given.At (bound_starts.Named named) route) value outside gives = gives
given_outside labels edges objects slots around (given.At (bound_starts.Slot slot) route) value outside gives = gives
given_outside labels edges objects slots around (given.At (bound_starts.Quantified depth) route) value outside gives = absurd outside

met_outside : (labels : List (List ℕ)) (edges : List Edge) (slots around : List Oid) (start : BoundStart) (rest : PathTree) (oid : Oid) → IsOutside start
    → MeetsBy labels edges slots around (record { start = start; rest = rest }) oid → MeetsBy labels edges slots [] (record { start = start; rest = rest }) oid
met_outside labels edges slots around (bound_starts.Named named) rest oid outside meets = meets
met_outside labels edges slots around (bound_starts.Slot slot) rest oid outside meets = meets
met_outside labels edges slots around (bound_starts.Quantified depth) rest oid outside meets = absurd outside

pub reached_back : (labels : List (List ℕ)) (edges links : List Edge) → ((edge : Edge) → Contains links edge ↔ Contains edges edge) → (rest : PathTree)
    (start oid : Oid) → Reaches labels edges rest start oid → Reaches labels links rest start oid
reached_back labels edges links links_are rest start oid reached =
    (reached.0, reached.1, Walk-within edges links (λ edge. (links_are edge).1) start reached.0 oid reached.2)

-- a path that leads to its end, wherever it starts, leads there by the links
end_reached : (labels : List (List ℕ)) (edges : List Edge) (objects : List (Oid × Value)) (links : List Edge) (entries : List ValueEntry)
    (start : BoundStart) (rest : PathTree) (end : End) (known : List Bool) (row other around found : List Oid) → AllPairs (λ a b. a ≢ b) labels
    → AreIndexes objects edges links entries → IsEnd labels rest end → IsEndGiven known end → HasEnds labels edges objects entries row end found
    → AgreeOn known row other
    → Holds (MeetsBy labels edges other) (λ oid value. Contains objects (oid, value)) Compares around (asked (record { start = start; rest = rest }) end)
    → (from : Oid) × BoundStartsAt other around start from × ReachesInto labels links rest found from
end_reached labels edges objects links entries start rest (e.Compared own) known row other around found apart indexes is by has agree holds =
    let sought = holds.2 in
    let reached = sought.1 in
    let over : StepsOver = steps_over labels edges links entries (Reaches labels edges) (λ slots. Unit {0}) in
    let whole : Reaches labels edges (seq (trees_of (is.ends.0 ++ step (Plain is.text) ∷ []))) reached.0 sought.0 =
    subst (λ (p : PathTree). Reaches labels edges p reached.0 sought.0) is.ends.1 reached.2 in
    let last = last_edge labels edges is.ends.0 is.text reached.0 sought.0 whole in
    let compares = candidate over objects apart indexes.entries_are own.label is.text own.op holds.1 holds.0 sought.0 is.labelled is.probed holds.4 sought.2
    last.0 last.2 last.1 last.3 in
    let gives = given_outside labels edges objects other around own.given holds.1 is.outside holds.3 in
    let there = has holds.1 sought.0 (given_alike labels edges objects known row other own.given holds.1 agree by gives) compares in
    (reached.0, reached.1, (sought.0, there, reached_back labels edges links indexes.links_are rest reached.0 sought.0 reached.2))
end_reached labels edges objects links entries start rest (e.Met own) known row other around found apart indexes is by has agree holds =
    let reached = holds.1 in
    let meets = met_outside labels edges other around own.start (path_tree own.route) holds.0 is holds.2 in
    let there = has holds.0 (met_alike labels edges known row other own.start (path_tree own.route) holds.0 agree by meets) in
    (reached.0, reached.1, (holds.0, there, reached_back labels edges links indexes.links_are rest reached.0 holds.0 reached.2))

-- each row of which the condition holds has one of them in the slot
fits : (labels : List (List ℕ)) (edges : List Edge) (objects : List (Oid × Value)) (links : List Edge) (entries : List ValueEntry)
    (condition : CondOf BoundPathTree) (slot : ℕ) (through : Option Path) (way : Path) (end : End) (known : List Bool) (row found oids : List Oid)
    → AllPairs (λ a b. a ≢ b) labels → AreIndexes objects edges links entries → Follows labels condition (asked_of slot through way end)
    → IsEnd labels (path_tree way) end → IsEndGiven known end → HasEnds labels edges objects entries row end found
    → LeadBack labels links through way found oids → AreAllThatFit (λ slots. HoldsOver labels edges objects slots (Some condition)) known slot row oids
fits labels edges objects links entries condition slot None way end known row found oids apart indexes follows is by has leads = record {
  ascend = leads.ascending;
  all = λ other completes.
      let from = end_reached labels edges objects links entries (bound_starts.Slot slot) (path_tree way) end known row other [] found apart indexes is by has
      completes.agree (follows edges objects other completes.passes) in
      (from.0, from.1, (leads.exact from.0).1 from.2);
}
fits labels edges objects links entries condition slot (Some first) way end known row found oids apart indexes follows is by has leads = record {
  ascend = leads.2.ascending;
  all = λ other completes.
      let holds = follows edges objects other completes.passes in
      let reached = holds.1 in
      let from = end_reached labels edges objects links entries (bound_starts.Quantified 0) (path_tree way) end known row other (holds.0 ∷ []) found apart
      indexes is by has completes.agree holds.2 in
      let same : holds.0 ≡ from.0 = same_Some holds.0 from.0 from.1 in
      let between : Contains leads.0 holds.0 = (leads.1.exact holds.0).1 (subst (ReachesInto labels links (path_tree way) found) (sym same) from.2) in (
        reached.0,
        reached.1,
        (leads.2.exact reached.0).1 (
          holds.0,
          between,
          reached_back labels edges links indexes.links_are (path_tree first) reached.0
              holds.0 reached.2,
        ),
      );
}

-- and so by a clue of the test
pub served_fits : (test : CondOver) (labels : List (List ℕ)) (edges : List Edge) (objects : List (Oid × Value)) (links : List Edge) (entries : List ValueEntry)
    (clues : List Clue) (clue : Clue) (known : List Bool) (slot : ℕ) (row oids : List Oid) → AllPairs (λ a b. a ≢ b) labels
    → IsServed test labels edges objects links entries clues → Contains clues clue → clue.slot ≡ slot → IsEndGiven known clue.end
    → LeadToEnds labels edges objects links entries row clue oids
    → AreAllThatFit (λ slots. HoldsOver test.labels test.edges test.objects slots (option_map bound_cond test.cond)) known slot row oids
served_fits test labels edges objects links entries clues clue known slot row oids apart served member is by leads =
    let own = served.clues_are clue member in
    let ends = leads.0 in
    let has : HasEnds test.labels test.edges test.objects entries row clue.end ends =
    subst (λ (l : List (List ℕ)). HasEnds l test.edges test.objects entries row clue.end ends) (sym served.labels_are)
    (subst (λ (es : List Edge). HasEnds labels es test.objects entries row clue.end ends) (sym served.edges_are)
    (subst (λ (o : List (Oid × Value)). HasEnds labels edges o entries row clue.end ends) (sym served.objects_are) leads.1)) in
    let all = fits test.labels test.edges test.objects links entries own.own.condition clue.slot clue.through clue.way clue.end known row ends oids
    (subst (AllPairs (λ (a b : List ℕ). a ≢ b)) (sym served.labels_are) apart) own.indexes own.own.clue_is.follows own.own.clue_is.end_is by has
    (subst (λ (l : List (List ℕ)). LeadBack l links clue.through clue.way ends oids) (sym served.labels_are) leads.2) in
    subst (λ (n : ℕ). AreAllThatFit (λ slots. HoldsOver test.labels test.edges test.objects slots (option_map bound_cond test.cond)) known n row oids) is
    (subst (λ (c : Option (CondOf BoundPathTree)). AreAllThatFit (λ slots. HoldsOver test.labels test.edges test.objects slots c) known clue.slot row oids)
    (sym own.own.is) all)
