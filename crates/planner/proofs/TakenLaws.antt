-- What is taken of a condition: one comparison that fits, whose path starts at one of the ranges.
use Rattle.std.proofs.Common.{◌≡◌, ◌≢◌, ℕ, ◌<◌, inl, inr, List, [], ◌∷◌, ◌++◌, length, Option, Some, sym, ap, subst, ◌∙◌}
use Rattle.std.specs.List.{Contains}
use Rattle.std.proofs.lemmas.List.Elements.{All-contains, Contains-append_left, Contains-append_right}
use Rattle.lore_base.specs.Paths.{PathTree, step, seq, trees_of}
use Rattle.lore_base.proofs.MemberLaws.{Contains-head}
use Rattle.index_traits.specs.Entries.{IsProbed}
use Rattle.lorel_bound.specs.Bound.{RangeTree, BoundPathTree, BoundTree}
use Rattle.lorel_bound.specs.Runnable.{IsBoundWithin, IsRunnable}
use Rattle.lorel_bound.specs.Conditions.{CondOf, CondsOf, and, compare, no_cond, cond, at, constant, paths_of, paths_of_all, paths_in}
use Rattle.lorel_bound.specs.Plans.{Probe, IsFitting, IsFirstFitting, IsTaken, IsChain, CanBeBottom}
use Rattle.planner.specs.Types.{Oid, Complex, Plain}
use Rattle.planner.specs.Types.starts
use Rattle.planner.specs.Types.bound_starts
use Rattle.planner.specs.Laws.{BeginsOnce}
use Rattle.planner.proofs.ProbeLaws.{trees_same}

-- the path that a comparison asks for
abbrev pub asked_path : Probe → BoundPathTree
asked_path probe = record { start = bound_starts.Slot probe.slot; rest = probe.rest }

-- values can be sought that compare so, and the path is one of these
pub record IsAskedAmong (paths : List BoundPathTree) (probe : Probe) : Type 0 where
  pub probed : IsProbed probe.op
  pub atomic : probe.value ≢ Complex
  pub path : Contains paths (asked_path probe)

fitting_asked : (condition : CondOf BoundPathTree) (probe : Probe) → IsFitting condition probe → IsAskedAmong (paths_of condition) probe
fitting_asked condition probe fits = record {
  probed = fits.probed;
  atomic = fits.atomic;
  path = subst (λ (c : CondOf BoundPathTree). Contains (paths_of c) (asked_path probe)) (sym fits.compares) (Contains-head (asked_path probe) []);
}

first_asked : (conditions : CondsOf BoundPathTree) (probe : Probe) → IsFirstFitting conditions probe → IsAskedAmong (paths_of_all conditions) probe
first_asked no_cond probe first = absurd first
first_asked (cond first others) probe (inl fits) =
    let here = fitting_asked first probe fits in
    record {
      probed = here.probed;
      atomic = here.atomic;
      path = Contains-append_left (paths_of first) (paths_of_all others) (asked_path probe) here.path;
    }
first_asked (cond first others) probe (inr later) =
    let there = first_asked others probe later.1 in
    record {
      probed = there.probed;
      atomic = there.atomic;
      path = Contains-append_right (paths_of first) (paths_of_all others) (asked_path probe) there.path;
    }

taken_asked : (condition : CondOf BoundPathTree) (probe : Probe) → IsTaken condition probe → IsAskedAmong (paths_of condition) probe
taken_asked (and members) probe taken = first_asked members probe taken
taken_asked condition probe taken = fitting_asked condition probe taken

-- what a bottom plan begins from is asked among the paths of the condition
pub begins_asked : (bound : BoundTree) (named : Oid) (probe : Probe) → CanBeBottom bound named probe → IsAskedAmong (paths_in bound.cond) probe
begins_asked bound named probe can =
    subst (λ (condition : Option (CondOf BoundPathTree)). IsAskedAmong (paths_in condition) probe) (sym can.is)
    (taken_asked can.condition probe can.taken)

-- its path starts at one of the ranges
pub slot_within : (bound : BoundTree) (named : Oid) (probe : Probe) → IsRunnable bound → CanBeBottom bound named probe
    → probe.slot < length bound.ranges
slot_within bound named probe runnable can =
    All-contains (λ (path : BoundPathTree). IsBoundWithin (length bound.ranges) path.start) (paths_in bound.cond) (asked_path probe)
    runnable.condition_within (begins_asked bound named probe can).path

-- ---- there is one such comparison
some_last : {X : Type 0} (xs : List X) (x : X) → [] ≡ xs ++ x ∷ [] → ⊥
some_last [] x is = cc
some_last (first ∷ xs) x is = cc

last_same : {X : Type 0} (xs ys : List X) (x y : X) → xs ++ x ∷ [] ≡ ys ++ y ∷ [] → x ≡ y
last_same [] [] x y is = cc
last_same [] (b ∷ ys) x y is = let behind : [] ≡ ys ++ y ∷ [] = cc in absurd (some_last ys y behind)
last_same (a ∷ xs) [] x y is = let behind : [] ≡ xs ++ x ∷ [] = cc in absurd (some_last xs x behind)
last_same (a ∷ xs) (b ∷ ys) x y is = let behind : xs ++ x ∷ [] ≡ ys ++ y ∷ [] = cc in last_same xs ys x y behind

label_same : (parts others : List PathTree) (label other : List ℕ)
    → seq (trees_of (parts ++ step (Plain label) ∷ [])) ≡ seq (trees_of (others ++ step (Plain other) ∷ [])) → label ≡ other
label_same parts others label other whole =
    let inner : trees_of (parts ++ step (Plain label) ∷ []) ≡ trees_of (others ++ step (Plain other) ∷ []) = cc in
    let last = last_same parts others (step (Plain label)) (step (Plain other))
    (trees_same (parts ++ step (Plain label) ∷ []) (others ++ step (Plain other) ∷ []) inner) in
    cc

fitting_once : (condition : CondOf BoundPathTree) (probe other : Probe) → IsFitting condition probe → IsFitting condition other → probe ≡ other
fitting_once condition probe other fits too =
    let whole : compare (at (asked_path probe)) probe.op (constant probe.value) ≡ compare (at (asked_path other)) other.op (constant other.value) =
    sym fits.compares ∙ too.compares in
    let path : asked_path probe ≡ asked_path other = cc in
    let start : bound_starts.Slot probe.slot ≡ bound_starts.Slot other.slot = ap (λ (p : BoundPathTree). p.start) path in
    let slot : probe.slot ≡ other.slot = cc in
    let rest = ap (λ (p : BoundPathTree). p.rest) path in
    let op : probe.op ≡ other.op = cc in
    let value : probe.value ≡ other.value = cc in
    let label = label_same fits.parts too.parts probe.label other.label (sym fits.ends ∙ rest ∙ too.ends) in
    λ i. record { slot = slot i; rest = rest i; label = label i; op = op i; value = value i }

first_once : (conditions : CondsOf BoundPathTree) (probe other : Probe) → IsFirstFitting conditions probe → IsFirstFitting conditions other
    → probe ≡ other
first_once no_cond probe other first too = absurd first
first_once (cond first others) probe other (inl fits) (inl too) = fitting_once first probe other fits too
first_once (cond first others) probe other (inl fits) (inr later) = absurd (later.0 probe fits)
first_once (cond first others) probe other (inr later) (inl fits) = absurd (later.0 other fits)
first_once (cond first others) probe other (inr later) (inr too) = first_once others probe other later.1 too.1

taken_once : (condition : CondOf BoundPathTree) (probe other : Probe) → IsTaken condition probe → IsTaken condition other → probe ≡ other
taken_once (and members) probe other taken too = first_once members probe other taken too
taken_once condition probe other taken too = fitting_once condition probe other taken too

chain_once : (named other : Oid) (ranges : List RangeTree) → IsChain named ranges → IsChain other ranges → named ≡ other
chain_once named other [] chain too = absurd chain
chain_once named other (first ∷ others) chain too =
    let start : starts.Named named ≡ starts.Named other = sym chain.0 ∙ too.0 in cc

pub begins_once : BeginsOnce
begins_once bound named other probe others can too =
    let whole : Some too.condition ≡ Some can.condition = sym too.is ∙ can.is in
    let condition : too.condition ≡ can.condition = cc in (
      chain_once named other bound.ranges can.chain too.chain,
      taken_once can.condition probe others can.taken (subst (λ (c : CondOf BoundPathTree). IsTaken c others) condition too.taken),
    )
