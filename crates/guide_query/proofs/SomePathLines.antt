-- A label path of a database has a list of lines.
use Rattle.std.proofs.Common.{◌≡◌, ℕ, ◌<◌, inl, inr, List, [], ◌∷◌, ◌++◌, length, map, take, get_or, Contains, All}
use Rattle.std.proofs.Common.{Option, Some, None, refl, sym, ap, ◌∙◌, subst, arith}
use Rattle.std.specs.Prelude.{codes, decimal}
use Rattle.std.specs.List.{AllZip, slice_get}
use Rattle.std.specs.Map.{lookup}
use Rattle.std.specs.BTreeMap.{is_at}
use Rattle.std.proofs.lemmas.List.Elements.{All-contains}
use Rattle.std.proofs.lemmas.Option.{slice_get-get_or}
use Rattle.lore_base.specs.Bytes.{bytes_cmp}
use Rattle.lore_base.specs.Names.{IsNameTable}
use Rattle.lore_base.specs.TargetSets.{ListsInOrder, HasTexts, LeavesTo}
use Rattle.lore_base.specs.Walks.{Walk, edge_of}
use Rattle.lore_base.proofs.MemberLaws.{Contains-none, Contains-head, Contains-tail, Contains-cases}
use Rattle.lore_base.proofs.NameLaws.{bound_found}
use Rattle.lore_base.proofs.ToldLaws.{IsTold, told_same, told_both, told_some, told_oid, told_member, told_paired}
use Rattle.lore_base.proofs.ToldLaws.{told_bytes, passing, members_passing, AllPairs-passing}
use Rattle.list_laws.proofs.AscentLaws.{some_ordered}
use Rattle.list_laws.proofs.MemberLaws.{Contains-map}
use Rattle.index_traits.proofs.ObjectLaws.{told_label}
use Rattle.dataguide.proofs.StepLaws.{numbers_ordered, step_of, step_is}
use Rattle.guide_query.specs.Types.{Oid, Label, Edge}
use Rattle.guide_query.specs.GuideLines.{label_text, path_text, size_text}
use Rattle.guide_query.specs.PathLines.{IsWalkedTo, IsSetOfPath, AreLabelsOf, IsLabelLine}
use Rattle.lore_base.specs.Printed.{object_text}
use Rattle.guide_query.specs.PathLineLaws.{BrowsingExists, SampleExists}
use Rattle.guide_query.proofs.FirstLaws.{one_at}

-- ---- the set of what can be told
-- the objects of which a claim holds, where each of them is among others
told_set : (P : Oid → Type 0) → ((oid : Oid) → IsTold (P oid)) → (among : List Oid)
    → ((oid : Oid) → P oid → Contains among oid) → (set : List Oid) × ListsInOrder P set
told_set P told among within =
    let whole =
    some_ordered (λ (a b : Oid). a.0 < b.0) (numbers_ordered (λ (oid : Oid). oid.0) (λ a b same. λ i. record { 0 = same i }))
    among in (
      passing P told whole.0,
      record {
        ascending = AllPairs-passing P told (λ a b. a.0 < b.0) whole.0 whole.1.ascend;
        exact = λ oid.
            let both = members_passing P told whole.0 oid in (
              λ at. (both.0 at).1,
              λ h. both.1 (whole.1.kept oid (within oid h), h),
            );
      },
    )

told_at : (xs : List (List ℕ)) (place : ℕ) (text : List ℕ) → IsTold (slice_get xs place ≡ Some text)
told_at xs place text = by (slice_get xs place) refl
  where
    by : (found : Option (List ℕ)) → slice_get xs place ≡ found → IsTold (slice_get xs place ≡ Some text)
    by None at = inr (λ h. let both : None ≡ Some text = sym at ∙ h in cc)
    by (Some there) at =
        told_same (λ (same : there ≡ text). at ∙ ap Some same) (λ h. one_at there text (slice_get xs place) at h)
        (told_bytes there text)

module _ (edges : List Edge) where
  -- what is walked to is where the walk begins, or a child
  walk_within : (word : List Label) (from oid : Oid) → Walk edges from word oid
      → Contains (from ∷ map (λ edge. edge.child) edges) oid
  walk_within [] from oid same =
      subst (λ (o : Oid). Contains (from ∷ map (λ edge. edge.child) edges) o) same
      (Contains-head from (map (λ edge. edge.child) edges))
  walk_within (label ∷ word) from oid walked =
      let rest = walk_within word walked.0 oid walked.2 in
      let child =
      Contains-map (λ (edge : Edge). edge.child) edges (edge_of from label walked.0) walked.1 in
      elim (Contains-cases walked.0 (map (λ edge. edge.child) edges) oid rest) [
        | inl same ↦ Contains-tail from (map (λ edge. edge.child) edges) oid
            (subst (λ (o : Oid). Contains (map (λ edge. edge.child) edges) o) same child)
        | inr later ↦ Contains-tail from (map (λ edge. edge.child) edges) oid later
      ]

  module _ (labels : List (List ℕ)) where
    abbrev WalksBy : List (List ℕ) → Oid → Oid → Type 0
    WalksBy texts from oid = (word : List Label) × HasTexts labels texts word × Walk edges from word oid

    abbrev LeadsBy : List ℕ → List (List ℕ) → Oid → Oid → Edge → Type 0
    LeadsBy text texts from oid edge =
        (edge.parent ≡ from) × ((slice_get labels edge.label.0 ≡ Some text) × WalksBy texts edge.child oid)

    walks_on : (text : List ℕ) (texts : List (List ℕ)) (from oid : Oid)
        → (edge : Edge) × Contains edges edge × LeadsBy text texts from oid edge → WalksBy (text ∷ texts) from oid
    walks_on text texts from oid (edge, among, by) = (
      edge.label ∷ by.1.1.0,
      (by.1.0, by.1.1.1),
      (
        edge.child,
        subst (λ (o : Oid). Contains edges (edge_of o edge.label edge.child)) by.0 among,
        by.1.1.2,
      ),
    )

    walks_back : (text : List ℕ) (texts : List (List ℕ)) (from oid : Oid) → WalksBy (text ∷ texts) from oid
        → (edge : Edge) × Contains edges edge × LeadsBy text texts from oid edge
    walks_back text texts from oid ([], has, walked) = absurd has
    walks_back text texts from oid (label ∷ word, has, walked) =
        (edge_of from label walked.0, walked.1, (refl, (has.0, (word, has.1, walked.2))))

    walks_none : (from oid : Oid) → WalksBy [] from oid → from ≡ oid
    walks_none from oid ([], has, same) = same
    walks_none from oid (label ∷ word, has, walked) = absurd has

    told_walk : (texts : List (List ℕ)) (from oid : Oid) → IsTold (WalksBy texts from oid)
    told_walk [] from oid =
        told_same (λ (same : from ≡ oid). ([], tt, same)) (walks_none from oid) (told_oid from oid)
    told_walk (text ∷ texts) from oid =
        told_same (walks_on text texts from oid) (walks_back text texts from oid)
        (told_some (LeadsBy text texts from oid)
        (λ edge. told_both (told_oid edge.parent from)
        (told_both (told_at labels edge.label.0 text) (told_walk texts edge.child oid))) edges)

    -- ---- target sets
    some_set_of_path : (names : List (List ℕ × Oid)) → IsNameTable names → (name : List ℕ) (texts : List (List ℕ))
        → (set : List Oid) × IsSetOfPath names edges labels name texts set
    some_set_of_path names table name texts = elim (told_paired told_bytes names name) [
      | inl named ↦ (
          let start = named.0 in
          let one : (other : Oid) → Contains names (name, other) → start ≡ other = λ other there.
          one_at start other (lookup (is_at (bytes_cmp name)) names) (bound_found names name start table named.1)
          (bound_found names name other table there) in
          told_set (IsWalkedTo names edges labels name texts)
          (λ oid. told_same
          (λ (walked : WalksBy texts start oid). (start, named.1, walked.0, walked.1, walked.2))
          (λ (walked : IsWalkedTo names edges labels name texts oid). (
            walked.2,
            walked.3,
            subst (λ (o : Oid). Walk edges o walked.2 oid) (sym (one walked.0 walked.1)) walked.4,
          ))
          (told_walk texts start oid))
          (start ∷ map (λ edge. edge.child) edges)
          (λ oid walked. walk_within walked.2 start oid
          (subst (λ (o : Oid). Walk edges o walked.2 oid) (sym (one walked.0 walked.1)) walked.4)))
      | inr nowhere ↦ (
        [],
        record {
          ascending = λ i j d less within. absurd (omega (arith, less, within));
          exact = λ oid. (
            λ there. absurd (Contains-none oid there),
            λ walked. absurd (nowhere (walked.0, walked.1)),
          );
        },
      )
    ]

    -- ---- the labels that leave a set
    abbrev LeavesAs : List Oid → Label → Edge → Type 0
    LeavesAs set label edge = (edge.label ≡ label) × Contains set edge.parent

    told_leaving : (set : List Oid) (label : Label) → IsTold ((oid : Oid) × LeavesTo edges set label oid)
    told_leaving set label =
        told_same
        (λ (some : (edge : Edge) × Contains edges edge × LeavesAs set label edge). (
          some.0.child,
          record {
            from = some.0.parent;
            member = some.2.1;
            edge =
                subst (λ (l : Label). Contains edges (edge_of some.0.parent l some.0.child)) some.2.0 some.1;
          },
        ))
        (λ (leaves : (oid : Oid) × LeavesTo edges set label oid). (
          edge_of leaves.1.from label leaves.0,
          leaves.1.edge,
          (refl, leaves.1.member),
        ))
        (told_some (LeavesAs set label)
        (λ edge. told_both (told_label edge.label label) (told_member told_oid set edge.parent)) edges)

    some_leaving : (set : List Oid) → (leaving : List Label) × AreLabelsOf edges set leaving
    some_leaving set =
        let P : Label → Type 0 = λ label. (oid : Oid) × LeavesTo edges set label oid in
        let whole =
        some_ordered (λ (a b : Label). a.0 < b.0)
        (numbers_ordered (λ (label : Label). label.0) (λ a b same. λ i. record { 0 = same i }))
        (map (λ edge. edge.label) edges) in (
          passing P (told_leaving set) whole.0,
          record {
            ascending = AllPairs-passing P (told_leaving set) (λ a b. a.0 < b.0) whole.0 whole.1.ascend;
            exact = λ label.
                let both = members_passing P (told_leaving set) whole.0 label in (
                  λ at. (both.0 at).1,
                  λ h. both.1 (
                    whole.1.kept label (Contains-map (λ (edge : Edge). edge.label) edges
                        (edge_of h.1.from label h.0) h.1.edge),
                    h,
                  ),
                );
          },
        )

    some_label_line : All (λ edge. edge.label.0 < length labels) edges → (set : List Oid) (label : Label)
        → (oid : Oid) × LeavesTo edges set label oid → (line : List ℕ) × IsLabelLine edges labels set label line
    some_label_line labelled set label leaves =
        let below : label.0 < length labels =
        All-contains (λ (e : Edge). e.label.0 < length labels) edges (edge_of leaves.1.from label leaves.0) labelled
        leaves.1.edge in
        let text = get_or labels label.0 [] in
        let next = step_of edges set label in (
          codes "." ++ label_text text ++ size_text (length next),
          record {
            text = text;
            labelled = slice_get-get_or labels label.0 [] below;
            next = next;
            step = step_is edges set label;
            printed = refl;
          },
        )

-- a line for each item that has one
some_zip : {X : Type 0} (R : X → List ℕ → Type 0) (xs : List X)
    → ((x : X) → Contains xs x → (line : List ℕ) × R x line) → (lines : List (List ℕ)) × AllZip R xs lines
some_zip R [] each = ([], tt)
some_zip R (x ∷ xs) each =
    let first = each x (Contains-head x xs) in
    let others = some_zip R xs (λ y there. each y (Contains-tail x xs y there)) in
    (first.0 ∷ others.0, (first.1, others.1))

pub browsing_exists : BrowsingExists
browsing_exists names edges labels name texts table labelled =
    let set = some_set_of_path edges labels names table name texts in
    let leaving = some_leaving edges labels set.0 in
    let lines =
    some_zip (IsLabelLine edges labels set.0) leaving.0
    (λ label there. some_label_line edges labels labelled set.0 label ((leaving.1.exact label).0 there)) in (
      (codes "at " ++ path_text name texts ++ size_text (length set.0))
          ∷ lines.0 ++ (codes "labels " ++ decimal (length leaving.0)) ∷ [],
      record {
        set = set.0;
        target = set.1;
        leaving = leaving.0;
        all = leaving.1;
        label_lines = lines.0;
        each = lines.1;
        are = refl;
      },
    )

pub sample_exists : SampleExists
sample_exists names objects edges labels name texts count table =
    let set = some_set_of_path edges labels names table name texts in (
      map (object_text objects) (take count set.0)
          ++ (codes "sample " ++ decimal (length (take count set.0)) ++ codes " of " ++ decimal (length set.0)) ∷ [],
      record { set = set.0; target = set.1; are = refl },
    )
