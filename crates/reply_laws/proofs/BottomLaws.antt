-- It is told whether a bound select can have a plan from the bottom, and what is counted for one can be counted.
use Rattle.std.proofs.Common.{◌≡◌, ℕ, suc, ◌<◌, ◌⊎◌, inl, inr, List, [], ◌∷◌, ◌++◌, length, Option, Some, None, refl, sym, ap, subst, ◌∙◌}
use Rattle.std.proofs.lemmas.Bool.{cases_eq}
use Rattle.lore_base.specs.Paths.{PathTree, PathTrees, step, none, more, seq, trees_of}
use Rattle.lore_base.specs.TargetSets.{ListsInOrder}
use Rattle.lore_base.specs.declared.edges.Label.{Label}
use Rattle.lore_base.specs.declared.operators.Op.{Op}
use Rattle.lore_base.specs.declared.operators.Op.TheVariants as ops
use Rattle.lore_base.specs.declared.paths.Pattern.TheVariants.{Plain}
use Rattle.index_traits.specs.Entries.{IsProbed}
use Rattle.index_traits.specs.Counts.{IsCount}
use Rattle.lorel_bound.specs.declared.conditions.BoundStart.{BoundStart}
use Rattle.lorel_bound.specs.declared.conditions.BoundStart.TheVariants as bound_starts
use Rattle.lorel_bound.specs.Bound.{RangeTree, BoundPathTree, BoundTree}
use Rattle.lorel_bound.specs.Conditions.{CondOf, CondsOf, and, compare, at, constant, no_cond, cond}
use Rattle.lorel_bound.specs.Plans.{Probe, IsFitting, DoesNotFit, IsFirstFitting, IsTaken, FollowOn, IsChain, CanBeBottom, CannotBeBottom, IsLabelOf, IsCandidate}
use Rattle.lorel_bound.proofs.ListedLaws.{IsListed, listed_none}
use Rattle.lore_base.proofs.ToldLaws.{IsTold, told_both, told_member, told_bytes, told_complex}
use Rattle.list_laws.proofs.AscentLaws.{some_ordered}
use Rattle.list_laws.proofs.PlaceLaws.{Contains-from_place, place_of_member}
use Rattle.planner.proofs.CountLaws.{oids_ordered, listed_found}
use Rattle.statements.specs.Types.{Oid, Value, ValueEntry, Start}
use Rattle.statements.specs.Types.starts

-- ---- paths that end in a plain label
abbrev IsPlainStep : PathTree → Type 0
IsPlainStep tree = (label : List ℕ) × (tree ≡ step (Plain label))

told_plain : (tree : PathTree) → IsTold (IsPlainStep tree)
told_plain (step (Plain label)) = inl (label, refl)
told_plain _ = inr (λ h. let is = h.1 in cc)

abbrev End : PathTrees → Type 0
End trees = (label : List ℕ) × (front : List PathTree) × (trees ≡ trees_of (front ++ step (Plain label) ∷ []))

no_end : (front : List PathTree) (label : List ℕ) → none ≡ trees_of (front ++ step (Plain label) ∷ []) → ⊥
no_end [] label is = cc
no_end (first ∷ front) label is = cc

one_end : (first : PathTree) → (IsPlainStep first → ⊥) → (front : List PathTree) (label : List ℕ)
    → more first none ≡ trees_of (front ++ step (Plain label) ∷ []) → ⊥
one_end first unfit [] label is = let same : first ≡ step (Plain label) = cc in unfit (label, same)
one_end first unfit (other ∷ front) label is =
    let rest : none ≡ trees_of (front ++ step (Plain label) ∷ []) = cc in no_end front label rest

later_end : (first second : PathTree) (others : PathTrees) → (End (more second others) → ⊥) → (front : List PathTree) (label : List ℕ)
    → more first (more second others) ≡ trees_of (front ++ step (Plain label) ∷ []) → ⊥
later_end first second others unfit [] label is = cc
later_end first second others unfit (other ∷ front) label is =
    let rest : more second others ≡ trees_of (front ++ step (Plain label) ∷ []) = cc in unfit (label, front, rest)

told_end : (trees : PathTrees) → IsTold (End trees)
told_end none = inr (λ h. no_end h.1 h.0 h.2)
told_end (more first none) = elim (told_plain first) [
  | inl plain ↦ inl (plain.0, [], ap (λ (tree : PathTree). more tree none) plain.1)
  | inr unfit ↦ inr (λ h. one_end first unfit h.1 h.0 h.2)
]
told_end (more first (more second others)) = elim (told_end (more second others)) [
  | inl end ↦ inl (end.0, first ∷ end.1, ap (more first) end.2)
  | inr unfit ↦ inr (λ h. later_end first second others unfit h.1 h.0 h.2)
]

-- ---- comparisons that fit
told_probed : (op : Op) → IsTold (IsProbed op)
told_probed ops.Ne = inr (λ is. is.no_other refl)
told_probed ops.Like = inr (λ is. is.no_pattern refl)
told_probed _ = inl (record { no_other = λ is. cc; no_pattern = λ is. cc })

abbrev Fitted : CondOf BoundPathTree → Type 0
Fitted condition = (probe : Probe) × IsFitting condition probe

abbrev compared : BoundStart → PathTree → Op → Value → CondOf BoundPathTree
compared start rest op value = compare (at (record { start = start; rest = rest })) op (constant value)

abbrev start_of : CondOf BoundPathTree → BoundStart
start_of (compare (at path) op right) = path.start
start_of _ = bound_starts.Quantified 0

abbrev rest_of : CondOf BoundPathTree → PathTree
rest_of (compare (at path) op right) = path.rest
rest_of _ = seq none

fitted_slot : (slot : ℕ) (trees : PathTrees) (op : Op) (value : Value) → Fitted (compared (bound_starts.Slot slot) (seq trees) op value)
    ⊎ DoesNotFit (compared (bound_starts.Slot slot) (seq trees) op value)
fitted_slot slot trees op value = elim (told_end trees) [
  | inr unfit ↦ inr (λ probe fits.
      let same : seq trees ≡ seq (trees_of (fits.parts ++ step (Plain probe.label) ∷ [])) = ap rest_of fits.compares ∙ fits.ends in
      let inner : trees ≡ trees_of (fits.parts ++ step (Plain probe.label) ∷ []) = cc in
      unfit (probe.label, fits.parts, inner))
  | inl end ↦ elim (told_probed op) [
    | inr unfit ↦ inr (λ probe fits.
        let is = fits.compares in
        let same : probe.op ≡ op = cc in
        unfit (subst IsProbed same fits.probed))
    | inl probed ↦ elim (told_complex value) [
      | inl complex ↦ inr (λ probe fits.
          let is = fits.compares in
          let same : probe.value ≡ value = cc in
          fits.atomic (same ∙ complex))
      | inr atomic ↦ inl (
        record { slot = slot; rest = seq trees; label = end.0; op = op; value = value },
        record { compares = refl; parts = end.1; ends = ap seq end.2; probed = probed; atomic = atomic },
      )
    ]
  ]
]

fitted_path : (start : BoundStart) (rest : PathTree) (op : Op) (value : Value) → Fitted (compared start rest op value) ⊎ DoesNotFit (compared start rest op value)
fitted_path (bound_starts.Slot slot) (seq trees) op value = fitted_slot slot trees op value
fitted_path (bound_starts.Slot slot) _ op value = inr (λ probe fits. let same = ap rest_of fits.compares ∙ fits.ends in cc)
fitted_path _ rest op value = inr (λ probe fits. let same = ap start_of fits.compares in cc)

told_fitting : (condition : CondOf BoundPathTree) → Fitted condition ⊎ DoesNotFit condition
told_fitting (compare (at path) op (constant value)) = fitted_path path.start path.rest op value
told_fitting _ = inr (λ probe fits. let is = fits.compares in cc)

told_first : (conditions : CondsOf BoundPathTree) → IsTold ((probe : Probe) × IsFirstFitting conditions probe)
told_first no_cond = inr (λ h. h.1)
told_first (cond first others) = elim (told_fitting first) [
  | inl fits ↦ inl (fits.0, inl fits.1)
  | inr unfit ↦ elim (told_first others) [
    | inl later ↦ inl (later.0, inr (unfit, later.1))
    | inr nothing ↦ inr (λ h. elim h.1 [ inl fits ↦ unfit h.0 fits | inr later ↦ nothing (h.0, later.1) ])
  ]
]

told_fitted : (condition : CondOf BoundPathTree) → IsTold (Fitted condition)
told_fitted condition = elim (told_fitting condition) [ inl fits ↦ inl fits | inr unfit ↦ inr (λ h. unfit h.0 h.1) ]

told_taken : (condition : CondOf BoundPathTree) → IsTold ((probe : Probe) × IsTaken condition probe)
told_taken (and members) = told_first members
told_taken condition = told_fitted condition

-- ---- ranges that are a chain
told_slot : (start : Start) (slot : ℕ) → IsTold (start ≡ starts.Slot slot)
told_slot (starts.Named oid) slot = inr (λ is. cc)
told_slot (starts.Slot own) slot = elim (cases_eq own slot) [
  | inl same ↦ inl (ap starts.Slot same)
  | inr other ↦ inr (λ is. let same : own ≡ slot = cc in other same)
]

told_follow : (slot : ℕ) (ranges : List RangeTree) → IsTold (FollowOn slot ranges)
told_follow slot [] = inl tt
told_follow slot (range ∷ ranges) = told_both (told_slot range.start slot) (told_follow (suc slot) ranges)

told_named : (start : Start) → IsTold ((oid : Oid) × (start ≡ starts.Named oid))
told_named (starts.Named oid) = inl (oid, refl)
told_named (starts.Slot own) = inr (λ h. let is = h.1 in cc)

told_chain : (ranges : List RangeTree) → IsTold ((named : Oid) × IsChain named ranges)
told_chain [] = inr (λ h. h.1)
told_chain (first ∷ others) = elim (told_named first.start) [
  | inr unnamed ↦ inr (λ h. unnamed (h.0, h.1.0))
  | inl named ↦ elim (told_follow 0 others) [
    | inl follow ↦ inl (named.0, (named.1, follow))
    | inr apart ↦ inr (λ h. apart h.1.1)
  ]
]

-- ---- a plan from the bottom
abbrev pub Begins : BoundTree → Type 0
Begins bound = (named : Oid) × (probe : Probe) × CanBeBottom bound named probe

told_cond : (bound : BoundTree) (condition : Option (CondOf BoundPathTree)) → bound.cond ≡ condition → (named : Oid) → IsChain named bound.ranges
    → Begins bound ⊎ CannotBeBottom bound
told_cond bound None is named chain = inr (λ other probe can. let same = sym is ∙ can.is in cc)
told_cond bound (Some condition) is named chain = elim (told_taken condition) [
  | inl taken ↦ inl (named, taken.0, record { chain = chain; condition = condition; is = is; taken = taken.1 })
  | inr nothing ↦ inr (λ other probe can.
      let both = sym is ∙ can.is in
      let same : can.condition ≡ condition = cc in
      nothing (probe, subst (λ (c : CondOf BoundPathTree). IsTaken c probe) same can.taken))
]

pub told_bottom : (bound : BoundTree) → Begins bound ⊎ CannotBeBottom bound
told_bottom bound = elim (told_chain bound.ranges) [
  | inl chain ↦ told_cond bound bound.cond refl chain.0 chain.1
  | inr apart ↦ inr (λ named probe can. apart (named, can.chain))
]

-- ---- counts
pub some_count : (P : Oid → Type 0) → IsListed P → (count : ℕ) × IsCount P count
some_count P listed =
    let set = some_ordered (λ (a b : Oid). a.0 < b.0) oids_ordered listed.0 in
    let lists : ListsInOrder P set.0 = record {
      ascending = set.1.ascend;
      exact = λ oid. (λ h. (listed.1 oid).0 (set.1.only oid h), λ h. set.1.kept oid ((listed.1 oid).1 h));
    } in
    (length set.0, (set.0, lists, refl))

pub listed_candidates : (entries : List ValueEntry) (label : Option Label) (op : Op) (value : Value) → IsListed (IsCandidate entries label op value)
listed_candidates entries None op value = listed_none (λ oid. ⊥) (λ oid h. h)
listed_candidates entries (Some label) op value = listed_found entries label op value

pub some_label : (labels : List (List ℕ)) (text : List ℕ) → (label : Option Label) × IsLabelOf labels text label
some_label labels text = elim (told_member told_bytes labels text) [
  | inl there ↦ (let place = place_of_member labels text there in (Some (record { 0 = place.0 }), place.1))
  | inr absent ↦ (None, λ own is. absent (Contains-from_place labels own.0 text is))
]
