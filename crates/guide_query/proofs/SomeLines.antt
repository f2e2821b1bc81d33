-- A database whose labels have texts has a list of lines.
use Rattle.std.proofs.Common.{ℕ, ◌<◌, List, [], ◌∷◌, ◌++◌, length, get_or, All, refl}
use Rattle.std.specs.List.{AllZip}
use Rattle.std.proofs.lemmas.List.Elements.{All-contains}
use Rattle.std.proofs.lemmas.Option.{slice_get-get_or}
use Rattle.lore_base.specs.Walks.{Walk, edge_of}
use Rattle.lore_base.specs.TargetSets.{LabelPath, HasTexts}
use Rattle.lore_base.specs.PathOrder.{IsLeastPath}
use Rattle.set_steps.proofs.PairLaws.{some-member}
use Rattle.guide_laws.proofs.OrderedSets.{ordered_sets_exist}
use Rattle.guide_query.specs.Types.{Oid, Label, Edge}
use Rattle.guide_query.specs.GuideLines.{path_text, size_text, count_line, IsSetLine}
use Rattle.guide_query.specs.LineLaws.{LinesExist}

module _ (names : List (List ℕ × Oid)) (edges : List Edge) (labels : List (List ℕ))
    (labelled : All (λ edge. edge.label.0 < length labels) edges) where
  some_texts : (word : List Label) (from to : Oid) → Walk edges from word to
      → (texts : List (List ℕ)) × HasTexts labels texts word
  some_texts [] from to walked = ([], tt)
  some_texts (label ∷ word) from to walked =
      let within : label.0 < length labels =
      All-contains (λ (e : Edge). e.label.0 < length labels) edges (edge_of from label walked.0) labelled walked.1 in
      let rest = some_texts word walked.0 to walked.2 in
      (get_or labels label.0 [] ∷ rest.0, (slice_get-get_or labels label.0 [] within, rest.1))

  some_line : (path : LabelPath) (set : List Oid) → IsLeastPath names edges path set
      → (line : List ℕ) × IsSetLine names edges labels set line
  some_line path set least =
      let one = some-member set least.leads.some in
      let texts = some_texts path.word least.leads.start one.0 ((least.leads.target.exact one.0).0 one.1) in (
        path_text path.name texts.0 ++ size_text (length set),
        record { path = path; least = least; texts = texts.0; labelled = texts.1; printed = refl },
      )

  some_lines : (paths : List LabelPath) (sets : List (List Oid)) → AllZip (IsLeastPath names edges) paths sets
      → (lines : List (List ℕ)) × AllZip (IsSetLine names edges labels) sets lines
  some_lines [] [] zip = ([], tt)
  some_lines [] (set ∷ sets) zip = absurd zip
  some_lines (path ∷ paths) [] zip = absurd zip
  some_lines (path ∷ paths) (set ∷ sets) zip =
      let first = some_line path set zip.0 in
      let others = some_lines paths sets zip.1 in
      (first.0 ∷ others.0, (first.1, others.1))

pub lines_exist : LinesExist
lines_exist names edges labels table labelled =
    let all = ordered_sets_exist names edges table in
    let lines = some_lines names edges labels labelled all.2.paths all.0 all.2.least in (
      lines.0 ++ count_line (length all.0) ∷ [],
      record {
        sets = all.0;
        targets = all.1;
        order = all.2;
        set_lines = lines.0;
        each = lines.1;
        are = refl;
      },
    )
