-- A test that is helped by indexes, and the clues that it goes by.
use Rattle.std.proofs.Common.{◌≡◌, ◌≢◌, ℕ, List, [], get_or, Option, None, Some, Bool, Result, Ok, Err, IfOk, IfSome, All, AllPairs, Contains, option_map, sym, ap, subst}
use Rattle.std.proofs.lemmas.List.Elements.{All-contains, All-contains_itself}
use Rattle.lore_base.proofs.MemberLaws.{Contains-none}
use Rattle.lore_base.specs.Paths.{PathTree, path_tree}
use Rattle.index_traits.specs.PartRows.{AreAllThatFit}
use Rattle.lorel_bound.specs.Bound.{bound_cond}
use Rattle.lorel_bound.specs.SlotRows.{HoldsOver}
use Rattle.lorel_eval.specs.Tests.{CondOver}
use Rattle.index_eval.specs.Types.{Oid, Edge, Value, ValueEntry, BoundCond}
use Rattle.index_eval.specs.Indexes.{AreIndexes}
use Rattle.member_clues.specs.declared.clues.Clue.{Clue}
use Rattle.member_clues.specs.declared.clues.End.{End}
use Rattle.member_clues.specs.declared.clues.End.TheVariants as e
use Rattle.member_clues.specs.Clues.{IsEnd, IsClueOf, IsEndGiven}
use Rattle.index_eval.specs.inside.Ends.{IsProbedEnd, IsClueIn, IsServed, LeadToEnds, AreTold}
use Rattle.index_eval.proofs.ClueLaws.{served_fits}

-- clues of a condition that is there
pub all_in : (labels : List (List ℕ)) (cond : Option BoundCond) (own : BoundCond) (clues : List Clue) → cond ≡ Some own
    → All (IsClueOf labels (bound_cond own)) clues → All (IsClueIn labels cond) clues
all_in labels cond own clues there all k d within =
    record { condition = bound_cond own; is = ap (option_map bound_cond) there; clue_is = all k d within }

pub served : (test : CondOver) (labels : List (List ℕ)) (edges : List Edge) (objects : List (Oid × Value)) (links : List Edge) (entries : List ValueEntry)
    (cond : Option BoundCond) (clues : List Clue) → test.labels ≡ labels → test.edges ≡ edges → test.objects ≡ objects → test.cond ≡ cond
    → AreIndexes objects edges links entries → All (IsClueIn labels cond) clues → IsServed test labels edges objects links entries clues
served test labels edges objects links entries cond clues texts all_edges all_objects asked indexes all = record {
  labels_are = texts;
  edges_are = all_edges;
  objects_are = all_objects;
  clues_are = λ clue among. record {
    indexes = subst (λ (o : List (Oid × Value)). AreIndexes o test.edges links entries) (sym all_objects)
        (subst (λ (es : List Edge). AreIndexes objects es links entries) (sym all_edges) indexes);
    own = subst (λ (l : List (List ℕ)). IsClueIn l test.cond clue) (sym texts)
        (subst (λ (c : Option BoundCond). IsClueIn labels c clue) (sym asked) (All-contains (IsClueIn labels cond) clues clue all among));
  };
}

pub served_plain : (test : CondOver) (labels : List (List ℕ)) (edges : List Edge) (objects : List (Oid × Value)) (links : List Edge) (entries : List ValueEntry)
    (clues : List Clue) → test.labels ≡ labels → test.edges ≡ edges → test.objects ≡ objects → clues ≡ []
    → IsServed test labels edges objects links entries clues
served_plain test labels edges objects links entries clues texts all_edges all_objects none = record {
  labels_are = texts;
  edges_are = all_edges;
  objects_are = all_objects;
  clues_are = λ clue among. absurd (Contains-none clue (subst (λ (l : List Clue). Contains l clue) none among));
}

-- what the condition asks for can be probed for
pub is_probed_end : (labels : List (List ℕ)) (rest : PathTree) (end : End) → IsEnd labels rest end → IsProbedEnd end
is_probed_end labels rest (e.Compared own) is = is.probed
is_probed_end labels rest (e.Met own) is = tt

-- what its clue leads to is what fits
pub fits_found : {E : Type 0} (test : CondOver) (labels : List (List ℕ)) (edges : List Edge) (objects : List (Oid × Value)) (links : List Edge)
    (entries : List ValueEntry) (clues : List Clue) (clue : Clue) (known : List Bool) (slot : ℕ) (row : List Oid) (result : Result (Option (List Oid)) E)
    → AllPairs (λ a b. a ≢ b) labels → IsServed test labels edges objects links entries clues → Contains clues clue → clue.slot ≡ slot
    → IsEndGiven known clue.end → IfOk result (λ found. IfSome found (LeadToEnds labels edges objects links entries row clue))
    → IfOk result (λ found. IfSome found
    (AreAllThatFit (λ slots. HoldsOver test.labels test.edges test.objects slots (option_map bound_cond test.cond)) known slot row))
fits_found test labels edges objects links entries clues clue known slot row (Ok (Some oids)) apart serves member is by leads =
    served_fits test labels edges objects links entries clues clue known slot row oids apart serves member is by leads
fits_found test labels edges objects links entries clues clue known slot row (Ok None) apart serves member is by leads = tt
fits_found test labels edges objects links entries clues clue known slot row (Err error) apart serves member is by leads = tt

-- and what some clue of the slot tells
pub fits_told : {E : Type 0} (test : CondOver) (labels : List (List ℕ)) (edges : List Edge) (objects : List (Oid × Value)) (links : List Edge)
    (entries : List ValueEntry) (clues : List Clue) (known : List Bool) (slot : ℕ) (row : List Oid) (result : Result (Option (List Oid)) E)
    → AllPairs (λ a b. a ≢ b) labels → IsServed test labels edges objects links entries clues
    → IfOk result (λ found. IfSome found (AreTold labels edges objects links entries clues known slot row))
    → IfOk result (λ found. IfSome found
    (AreAllThatFit (λ slots. HoldsOver test.labels test.edges test.objects slots (option_map bound_cond test.cond)) known slot row))
fits_told test labels edges objects links entries clues known slot row (Ok (Some oids)) apart serves told =
    served_fits test labels edges objects links entries clues told.clue known slot row oids apart serves told.among told.slot_is told.given told.leads
fits_told test labels edges objects links entries clues known slot row (Ok None) apart serves told = tt
fits_told test labels edges objects links entries clues known slot row (Err error) apart serves told = tt

-- the ends of all its clues can be probed for
pub probed_ends : (test : CondOver) (labels : List (List ℕ)) (edges : List Edge) (objects : List (Oid × Value)) (links : List Edge) (entries : List ValueEntry)
    (clues : List Clue) → IsServed test labels edges objects links entries clues → All (λ clue. IsProbedEnd clue.end) clues
probed_ends test labels edges objects links entries clues serves = λ k d within.
    let clue = get_or clues k d in
    is_probed_end test.labels (path_tree clue.way) clue.end (serves.clues_are clue (All-contains_itself clues k d within)).own.clue_is.end_is

-- what a clue of the slot leads to is told by it
pub told_of : (labels : List (List ℕ)) (edges : List Edge) (objects : List (Oid × Value)) (links : List Edge) (entries : List ValueEntry)
    (clues : List Clue) (clue : Clue) (known : List Bool) (slot : ℕ) (row : List Oid) (found : Option (List Oid)) → Contains clues clue → clue.slot ≡ slot
    → IsEndGiven known clue.end → IfSome found (LeadToEnds labels edges objects links entries row clue)
    → IfSome found (AreTold labels edges objects links entries clues known slot row)
told_of labels edges objects links entries clues clue known slot row (Some oids) among is given leads =
    record { clue = clue; among = among; slot_is = is; given = given; leads = leads }
told_of labels edges objects links entries clues clue known slot row None among is given leads = tt
