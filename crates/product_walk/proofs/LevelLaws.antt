-- The children of objects by one label, and what labels one after another lead to.
use Rattle.std.proofs.Common.{◌≡◌, ◌≢◌, ◌↔◌, ℕ, ◌+◌, ◌-◌, ◌<◌, inl, inr, Bool, zero, suc, List, [], ◌∷◌, ◌++◌, length, get_or, take, drop, All, AllPairs, Contains, Result, Ok, Err, IsTrue, append_assoc, refl, sym, ap, ◌∙◌, subst, arith}
use Rattle.std.specs.List.{sum_by, AllAdjacentBelow}
use Rattle.std.specs.Result.{OnOk, OnErr}
use Rattle.std.proofs.lemmas.Result.{on_ok_weaker}
use Rattle.std.proofs.lemmas.List.{take-append-drop}
use Rattle.std.proofs.lemmas.List.Elements.{Contains-append_left, Contains-append_right, Contains-append_cases, Contains-push, Contains-push_cases, Contains-get_or}
use Rattle.std.proofs.Math.Seq.{take-append_seam, drop-append_seam}
use Rattle.lore_base.specs.Lists.{Extends, ExtendsBy}
use Rattle.lore_base.specs.Paths.{PathTree, PathTrees, seq, step, more, none, Fits, Reaches}
use Rattle.lore_base.specs.TargetSets.{ListsInOrder}
use Rattle.lore_base.specs.Walks.{Walk, edge_of}
use Rattle.lore_base.proofs.MemberLaws.{Contains-none, Contains-head, Contains-cases, Contains-same}
use Rattle.lore_base.proofs.TargetLaws.{ListsInOrder-same}
use Rattle.lore_base.proofs.WalkLaws.{Walk-append, Walk-split}
use Rattle.list_laws.proofs.SumLaws.{sum_by-within}
use Rattle.product_walk.specs.Types.{Oid, Label, Edge, Pattern}
use Rattle.product_walk.specs.ProductWalks.{ReachesInto, WalksInto}
use Rattle.product_walk.specs.inside.Arcs.{along, against, AreArcs}
use Rattle.product_walk.specs.inside.Ways.{GoesBy, IsFittingEnd, FromSome, IsLevel, ExtendsByAll, TakesTimes}

-- the edges that show all arcs show those by a label that fits
pub fitting_goes : (labels : List (List ℕ)) (goes : Oid → Label → Oid → Type 0) (far : Edge → Oid) (edges : List Edge) (pattern : Pattern) (from : Oid)
    → AreArcs goes far from edges → (oid : Oid) → IsFittingEnd far labels pattern edges oid ↔ GoesBy labels goes pattern from oid
fitting_goes labels goes far edges pattern from arcs oid = (
  λ h. (let edge : Edge = h.0 in (edge.label, (arcs edge.label oid).1 (edge, h.1, refl, h.3), h.2)),
  λ h. (let found = (arcs h.0 oid).0 h.1 in (found.0, found.1, subst (Fits labels pattern) (sym found.2) h.2, found.3)),
)

-- one label reaches the children by those that fit
pub goes_reaches : (labels : List (List ℕ)) (edges : List Edge) (pattern : Pattern) (x y : Oid)
    → GoesBy labels (along edges) pattern x y ↔ Reaches labels edges (step pattern) x y
goes_reaches labels edges pattern x y = (
  λ h. (h.0 ∷ [], (h.0, refl, h.2), (y, h.1, refl)),
  λ h.
      let label : Label = h.1.0 in
      let walked = subst (λ (word : List Label). Walk edges x word y) h.1.1 h.2 in
      (label, subst (λ (o : Oid). Contains edges (edge_of x label o)) walked.2 walked.1, h.1.2),
)

-- what some object leads to by one relation, it leads to by another like it
pub from_alike : (P Q : Oid → Oid → Type 0) (level : List Oid) → ((x y : Oid) → P x y ↔ Q x y) → (oid : Oid) → FromSome P level oid ↔ FromSome Q level oid
from_alike P Q level same oid = (
  λ h. (h.0, h.1, (same h.0 oid).0 h.2),
  λ h. (h.0, h.1, (same h.0 oid).1 h.2),
)

-- the far end of one edge more, if its label fits
pub ends_more : (far : Edge → Oid) (labels : List (List ℕ)) (pattern : Pattern) (edges : List Edge) (edge : Edge) (end : Oid) (fit : Bool) (label : Label) (old middle new : List Oid)
    → end ≡ far edge → label ≡ edge.label → IsTrue fit ↔ Fits labels pattern label → ExtendsByAll (IsFittingEnd far labels pattern edges) old middle
    → ExtendsByAll (λ other. (end ≡ other) × IsTrue fit) middle new → ExtendsByAll (IsFittingEnd far labels pattern (edges ++ edge ∷ [])) old new
ends_more far labels pattern edges edge end fit label old middle new is named told earlier now = (
  earlier.0 ++ now.0,
  now.1 ∙ ap (λ (l : List Oid). l ++ now.0) earlier.1 ∙ append_assoc old earlier.0 now.0,
  λ oid. (
    λ h. elim (Contains-append_cases earlier.0 now.0 oid h) [
      | inl front ↦
          let found = (earlier.2 oid).0 front in
          (found.0, Contains-append_left edges (edge ∷ []) found.0 found.1, found.2, found.3)
      | inr back ↦
          let here = (now.2 oid).0 back in
          (edge, Contains-push edges edge, subst (Fits labels pattern) named (told.0 here.1), sym is ∙ here.0)
    ],
    λ h. elim (Contains-push_cases edges edge h.0 h.1) [
      | inl front ↦ Contains-append_left earlier.0 now.0 oid ((earlier.2 oid).1 (h.0, front, h.2, h.3))
      | inr same ↦ Contains-append_right earlier.0 now.0 oid ((now.2 oid).1 (
        is ∙ ap far same ∙ h.3,
        told.1 (subst (Fits labels pattern) (ap (λ (e : Edge). e.label) (sym same) ∙ sym named) h.2),
      ))
    ],
  ),
)

-- so do lists of the same objects
pub from_members : (Leads : Oid → Oid → Type 0) (level other : List Oid) → ((oid : Oid) → Contains level oid ↔ Contains other oid)
    → (oid : Oid) → FromSome Leads level oid ↔ FromSome Leads other oid
from_members Leads level other same oid = (
  λ h. (h.0, (same h.0).0 h.1, h.2),
  λ h. (h.0, (same h.0).1 h.1, h.2),
)

-- and a single object alone
pub from_only : (Leads : Oid → Oid → Type 0) (level : List Oid) (other : Oid) → length level ≡ 1
    → (oid : Oid) → Leads (get_or level 0 other) oid ↔ FromSome Leads level oid
from_only Leads [] other one oid = absurd (omega (arith, one))
from_only Leads (only ∷ []) other one oid = (
  λ h. (only, Contains-head only [], h),
  λ h. elim (Contains-cases only [] h.0 h.1) [
    | inl same ↦ subst (λ (o : Oid). Leads o oid) (sym same) h.2
    | inr rest ↦ absurd (Contains-none h.0 rest)
  ],
)
from_only Leads (first ∷ second ∷ level) other one oid = absurd (omega (arith, one))

-- objects that some of one more lead to
pub some_more : (Leads : Oid → Oid → Type 0) (level : List Oid) (next : Oid) (old middle new : List Oid) → ExtendsByAll (FromSome Leads level) old middle
    → ExtendsByAll (Leads next) middle new → ExtendsByAll (FromSome Leads (level ++ next ∷ [])) old new
some_more Leads level next old middle new earlier now = (
  earlier.0 ++ now.0,
  now.1 ∙ ap (λ (l : List Oid). l ++ now.0) earlier.1 ∙ append_assoc old earlier.0 now.0,
  λ oid. (
    λ h. elim (Contains-append_cases earlier.0 now.0 oid h) [
      | inl front ↦
          let found = (earlier.2 oid).0 front in
          (found.0, Contains-append_left level (next ∷ []) found.0 found.1, found.2)
      | inr back ↦ (next, Contains-push level next, (now.2 oid).0 back)
    ],
    λ h. elim (Contains-push_cases level next h.0 h.1) [
      | inl front ↦ Contains-append_left earlier.0 now.0 oid ((earlier.2 oid).1 (h.0, front, h.2))
      | inr same ↦ Contains-append_right earlier.0 now.0 oid ((now.2 oid).1 (subst (λ (o : Oid). Leads o oid) (sym same) h.2))
    ],
  ),
)

-- a list extends its front, by what is in order already
pub err_extends : {E : Type 0} (result : Result (Unit {0}) E) (count : ℕ) (oids : List Oid) → OnErr result (Extends (take count oids) oids)
err_extends (Ok done) count oids = tt
err_extends (Err error) count oids = (drop count oids, sym (take-append-drop count oids))

pub already_extends : (count : ℕ) (oids : List Oid) → AllPairs (λ a b. a.0 < b.0) (drop count oids)
    → ExtendsBy (ListsInOrder (Contains (drop count oids))) (take count oids) oids
already_extends count oids ascend =
    (drop count oids, sym (take-append-drop count oids), record { ascending = ascend; exact = λ oid. (λ h. h, λ h. h) })

-- objects that ascend from one to the next ascend from each to all later ones
pub adjacent_pairs : (oids : List Oid) → AllAdjacentBelow (λ a b. a.0 < b.0) oids (length oids) → AllPairs (λ a b. a.0 < b.0) oids
adjacent_pairs oids ascend i j d below within =
    let last : i + (j - i - 1) + 1 ≡ j = omega (arith, below) in
    subst (λ (k : ℕ). (get_or oids i d).0 < (get_or oids k d).0) last (climb (j - i - 1) (omega (arith, below, within)))
  where
    climb : (gap : ℕ) → i + gap + 1 < length oids → (get_or oids i d).0 < (get_or oids (i + gap + 1) d).0
    climb zero short =
        let here : i + 1 ≡ i + zero + 1 = omega arith in
        subst (λ (k : ℕ). (get_or oids i d).0 < (get_or oids k d).0) here (ascend i d (omega (arith, short)))
    climb (suc gap) short =
        let next : i + gap + 1 + 1 ≡ i + suc gap + 1 = omega arith in
        let earlier = climb gap (omega (arith, short)) in
        let last = ascend (i + gap + 1) d (omega (arith, short)) in
        subst (λ (k : ℕ). (get_or oids i d).0 < (get_or oids k d).0) next (omega (arith, earlier, last))

-- objects that are put behind a list, and then in order
pub in_order_extends : {E : Type 0} (result : Result (Unit {0}) E) (Passes : Oid → Type 0) (old middle new : List Oid) (first : ℕ) → first ≡ length old
    → ExtendsByAll Passes old middle → OnOk result (ExtendsBy (ListsInOrder (Contains (drop first middle))) (take first middle) new)
    → OnOk result (ExtendsBy (ListsInOrder Passes) old new)
in_order_extends result Passes old middle new first at grown lists =
    let front : take first middle ≡ old = ap (λ (n : ℕ). take n middle) at ∙ ap (take (length old)) grown.1 ∙ take-append_seam old grown.0 in
    let back : drop first middle ≡ grown.0 = ap (λ (n : ℕ). drop n middle) at ∙ ap (drop (length old)) grown.1 ∙ drop-append_seam old grown.0 in
    let placed : OnOk result (ExtendsBy (ListsInOrder (Contains grown.0)) old new) =
    subst (λ (l : List Oid). OnOk result (ExtendsBy (ListsInOrder (Contains grown.0)) l new)) front
    (subst (λ (l : List Oid). OnOk result (ExtendsBy (ListsInOrder (Contains l)) (take first middle) new)) back lists) in
    on_ok_weaker result (λ e. (e.0, e.1, ListsInOrder-same (Contains grown.0) Passes e.0 grown.2 e.2)) placed

-- objects that pass another test just as well
pub all_alike : {E : Type 0} (result : Result (Unit {0}) E) (P Q : Oid → Type 0) (old new : List Oid) → ((oid : Oid) → P oid ↔ Q oid)
    → OnOk result (ExtendsByAll P old new) → OnOk result (ExtendsByAll Q old new)
all_alike result P Q old new same grown =
    on_ok_weaker result (λ e. (e.0, e.1, λ oid. (λ h. (same oid).0 ((e.2 oid).0 h), λ h. (e.2 oid).1 ((same oid).1 h)))) grown

module _ (labels : List (List ℕ)) (edges : List Edge) where
  -- a path reaches what the rest of it reaches from where its first part leads
  then_reaches : (first : PathTree) (others : PathTrees) (x y : Oid)
      → Reaches labels edges (seq (more first others)) x y ↔ ((z : Oid) × Reaches labels edges first x z × Reaches labels edges (seq others) z y)
  then_reaches first others x y = (
    λ h.
        let walks = Walk-split edges x h.1.0 h.1.1 y (subst (λ (word : List Label). Walk edges x word y) h.1.2 h.2) in
        (walks.0, (h.1.0, h.1.3, walks.1), (h.1.1, h.1.4, walks.2)),
    λ h. (h.1.0 ++ h.2.0, (h.1.0, h.2.0, refl, h.1.1, h.2.1), Walk-append edges x h.1.0 h.0 h.2.0 y h.1.2 h.2.2),
  )

  none_reaches : (x y : Oid) → Reaches labels edges (seq none) x y ↔ (x ≡ y)
  none_reaches x y = (λ h. subst (λ (word : List Label). Walk edges x word y) h.1 h.2, λ same. ([], refl, same))

  -- before the first part there is the start alone
  pub level_start : (whole : PathTree) (start : Oid) → IsLevel labels edges whole whole start (start ∷ [])
  level_start whole start = record {
    ascending = λ i j d below within. absurd (omega (arith, below, within));
    walked = λ oid at. ([], only oid at);
    exact = λ oid. (
      λ h. (start, Contains-head start [], h),
      λ h. subst (λ (o : Oid). Reaches labels edges whole o oid) (sym (only h.0 h.1)) h.2,
    );
  }
    where
      only : (oid : Oid) → Contains (start ∷ []) oid → start ≡ oid
      only oid at = elim (Contains-cases start [] oid at) [ inl same ↦ same | inr other ↦ absurd (Contains-none oid other) ]

  -- behind the next part there are those where it leads
  pub level_next : (whole first : PathTree) (others : PathTrees) (start : Oid) (level next : List Oid) → IsLevel labels edges whole (seq (more first others)) start level
      → ListsInOrder (FromSome (Reaches labels edges first) level) next → IsLevel labels edges whole (seq others) start next
  level_next whole first others start level next here lists = record {
    ascending = lists.ascending;
    walked = λ oid at.
        let found = (lists.exact oid).0 at in
        let before = here.walked found.0 found.1 in
        (before.0 ++ found.2.0, Walk-append edges start before.0 found.0 found.2.0 oid before.1 found.2.2);
    exact = λ oid. (
      λ h.
          let found = (here.exact oid).0 h in
          let parted = (then_reaches first others found.0 oid).0 found.2 in
          (parted.0, (lists.exact parted.0).1 (found.0, found.1, parted.1), parted.2),
      λ h.
          let found = (lists.exact h.0).0 h.1 in
          (here.exact oid).1 (found.0, found.1, (then_reaches first others found.0 oid).1 (h.0, found.2, h.2)),
    );
  }

  -- behind the first label there are the children by those that fit
  pub level_first : (pattern : Pattern) (others : PathTrees) (start : Oid) (old next : List Oid) → old ≡ []
      → ExtendsBy (ListsInOrder (GoesBy labels (along edges) pattern start)) old next
      → IsLevel labels edges (seq (more (step pattern) others)) (seq others) start next
  level_first pattern others start old next none_yet grown =
      let leads = Reaches labels edges (step pattern) in
      let goes = GoesBy labels (along edges) pattern start in
      let is : next ≡ grown.0 = grown.1 ∙ ap (λ (l : List Oid). l ++ grown.0) none_yet in
      let lists : ListsInOrder goes next = subst (λ (l : List Oid). ListsInOrder goes l) (sym is) grown.2 in
      level_next (seq (more (step pattern) others)) (step pattern) others start (start ∷ []) next (level_start (seq (more (step pattern) others)) start)
      (ListsInOrder-same goes (FromSome leads (start ∷ [])) next (λ oid. (
        λ h. (from_only leads (start ∷ []) start refl oid).0 ((goes_reaches labels edges pattern start oid).0 h),
        λ h. (goes_reaches labels edges pattern start oid).1 ((from_only leads (start ∷ []) start refl oid).1 h),
      )) lists)

  -- by the last label those that fit lead to what the path reaches
  pub level_last : (whole : PathTree) (pattern : Pattern) (start : Oid) (level : List Oid) → IsLevel labels edges whole (seq (more (step pattern) none)) start level
      → (oid : Oid) → FromSome (GoesBy labels (along edges) pattern) level oid ↔ Reaches labels edges whole start oid
  level_last whole pattern start level here oid = (
    λ h. (here.exact oid).1 (
      h.0,
      h.1,
      (then_reaches (step pattern) none h.0 oid).1 (oid, (goes_reaches labels edges pattern h.0 oid).0 h.2, (none_reaches oid oid).1 refl),
    ),
    λ h.
        let found = (here.exact oid).0 h in
        let parted = (then_reaches (step pattern) none found.0 oid).0 found.2 in
        let end : parted.0 ≡ oid = (none_reaches parted.0 oid).0 parted.2 in (
          found.0,
          found.1,
          subst (λ (o : Oid). GoesBy labels (along edges) pattern found.0 o) end ((goes_reaches labels edges pattern found.0 parted.0).1 parted.1),
        ),
  )

  -- no part leads back from the objects themselves
  pub back_start : (to level : List Oid) → ListsInOrder (Contains to) level → ListsInOrder (ReachesInto labels edges (seq none) to) level
  back_start to level lists = ListsInOrder-same (Contains to) (ReachesInto labels edges (seq none) to) level (λ oid. (
    λ at. (oid, at, (none_reaches oid oid).1 refl),
    λ h. Contains-same to h.0 oid (sym ((none_reaches oid h.0).0 h.2)) h.1,
  )) lists

  -- and one label more from there to the parents by those that fit
  pub back_next : (pattern : Pattern) (others : PathTrees) (to level next : List Oid) → ListsInOrder (ReachesInto labels edges (seq others) to) level
      → ListsInOrder (FromSome (GoesBy labels (against edges) pattern) level) next → ListsInOrder (ReachesInto labels edges (seq (more (step pattern) others)) to) next
  back_next pattern others to level next here lists =
      ListsInOrder-same (FromSome (GoesBy labels (against edges) pattern) level) (ReachesInto labels edges (seq (more (step pattern) others)) to) next (λ oid. (
        λ h.
            let rest = (here.exact h.0).0 h.1 in
            (rest.0, rest.1, (then_reaches (step pattern) others oid rest.0).1 (h.0, (goes_reaches labels edges pattern oid h.0).0 h.2, rest.2)),
        λ h.
            let parted = (then_reaches (step pattern) others oid h.0).0 h.2 in
            (parted.0, (here.exact parted.0).1 (h.0, h.1, parted.2), (goes_reaches labels edges pattern oid parted.0).1 parted.1),
      )) lists

  -- what a path is reached from, it is walked from
  pub walks_back : (path : PathTree) (to level : List Oid) → ListsInOrder (ReachesInto labels edges path to) level → (oid : Oid) → Contains level oid → WalksInto edges to oid
  walks_back path to level lists oid at = (let h = (lists.exact oid).0 at in (h.0, h.1, (h.2.0, h.2.2)))

-- one read more of each object
pub times_more : (count : ℕ) (reads : Oid → ℕ) (Passes : Oid → Type 0) (before middle after : ℕ) (level : List Oid) → TakesTimes count reads Passes before middle
    → after ≡ middle + sum_by reads level → AllPairs (λ a b. a.0 < b.0) level → ((oid : Oid) → Contains level oid → Passes oid) → TakesTimes (count + 1) reads Passes before after
times_more count reads Passes before middle after level takes spent ascending passes all whole =
    let apart : AllPairs (λ a b. a ≢ b) level = λ i j d below within same. omega (arith, ascending i j d below within, ap (λ (o : Oid). o.0) same) in
    let among : All (Contains all) level = λ k d within. whole (get_or level k d) (passes (get_or level k d) (Contains-get_or level k d within)) in
    omega (arith, takes all whole, spent, sum_by-within reads level all apart among)
