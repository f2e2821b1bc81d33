-- A label path has one list of lines.
use Rattle.std.proofs.Common.{◌≡◌, ℕ, ◌<◌, List, [], ◌∷◌, ◌++◌, length, map, take, sym, ap, ◌∙◌, subst, arith}
use Rattle.std.specs.Prelude.{codes, decimal}
use Rattle.std.specs.List.{AllZip, slice_get}
use Rattle.lore_base.specs.TargetSets.{LeavesTo}
use Rattle.lore_base.proofs.ListLaws.{AllPairs-unique}
use Rattle.lore_base.proofs.TargetLaws.{ListsInOrder-unique}
use Rattle.guide_query.specs.Types.{Oid, Label, Edge}
use Rattle.guide_query.specs.GuideLines.{label_text, path_text, size_text}
use Rattle.guide_query.specs.PathLines.{IsWalkedTo, AreLabelsOf, IsLabelLine}
use Rattle.lore_base.specs.Printed.{object_text}
use Rattle.guide_query.specs.PathLineLaws.{HasOneBrowsing, HasOneSample}
use Rattle.guide_query.proofs.FirstLaws.{one_at}
use Rattle.guide_query.proofs.OneListOfLines.{zip_one}

one_leaving : (edges : List Edge) (set : List Oid) (xs ys : List Label) → AreLabelsOf edges set xs
    → AreLabelsOf edges set ys → xs ≡ ys
one_leaving edges set xs ys first second =
    AllPairs-unique (λ (a b : Label). a.0 < b.0) (λ a b below above. omega (arith, below, above)) xs ys first.ascending
    second.ascending
    (λ label. (
      λ at. (second.exact label).1 ((first.exact label).0 at),
      λ at. (first.exact label).1 ((second.exact label).0 at),
    ))

one_label_line : (edges : List Edge) (labels : List (List ℕ)) (set : List Oid) (label : Label) (line other : List ℕ)
    → IsLabelLine edges labels set label line → IsLabelLine edges labels set label other → line ≡ other
one_label_line edges labels set label line other first second =
    let text : first.text ≡ second.text =
    one_at first.text second.text (slice_get labels label.0) first.labelled second.labelled in
    let next : first.next ≡ second.next =
    ListsInOrder-unique (LeavesTo edges set label) first.next second.next first.step second.step in
    first.printed ∙ (λ i. codes "." ++ label_text (text i) ++ size_text (length (next i))) ∙ sym second.printed

pub one_browsing : HasOneBrowsing
one_browsing names edges labels name texts lines others first second =
    let set : first.set ≡ second.set =
    ListsInOrder-unique (IsWalkedTo names edges labels name texts) first.set second.set first.target second.target in
    let leaving : first.leaving ≡ second.leaving =
    one_leaving edges second.set first.leaving second.leaving
    (subst (λ (s : List Oid). AreLabelsOf edges s first.leaving) set first.all) second.all in
    let on_set : AllZip (IsLabelLine edges labels second.set) first.leaving first.label_lines =
    subst (λ (s : List Oid). AllZip (IsLabelLine edges labels s) first.leaving first.label_lines) set first.each in
    let on_both : AllZip (IsLabelLine edges labels second.set) second.leaving first.label_lines =
    subst (λ (l : List Label). AllZip (IsLabelLine edges labels second.set) l first.label_lines) leaving on_set in
    let each : first.label_lines ≡ second.label_lines =
    zip_one (IsLabelLine edges labels second.set) (one_label_line edges labels second.set) second.leaving
    first.label_lines second.label_lines on_both second.each in
    first.are
    ∙ (λ i. (codes "at " ++ path_text name texts ++ size_text (length (set i)))
    ∷ each i ++ (codes "labels " ++ decimal (length (leaving i))) ∷ [])
    ∙ sym second.are

pub one_sample : HasOneSample
one_sample names objects edges labels name texts count lines others first second =
    let set : first.set ≡ second.set =
    ListsInOrder-unique (IsWalkedTo names edges labels name texts) first.set second.set first.target second.target in
    first.are
    ∙ ap (λ (s : List Oid). map (object_text objects) (take count s)
    ++ (codes "sample " ++ decimal (length (take count s)) ++ codes " of " ++ decimal (length s)) ∷ []) set
    ∙ sym second.are
