-- A database has one list of lines.
use Rattle.std.proofs.Common.{◌≡◌, ℕ, List, [], ◌∷◌, ◌++◌, length, refl, sym, ◌∙◌, subst}
use Rattle.std.specs.List.{slice_get, AllZip}
use Rattle.lore_base.specs.TargetSets.{LabelPath, HasTexts}
use Rattle.dataguide.proofs.OneGuide.{one-least, one-list}
use Rattle.guide_query.specs.Types.{Oid, Label, Edge}
use Rattle.guide_query.specs.GuideLines.{path_text, size_text, count_line, IsSetLine}
use Rattle.guide_query.specs.LineLaws.{HasOneListOfLines}
use Rattle.guide_query.proofs.FirstLaws.{one_at}

-- a word has one list of texts
one_texts : (labels texts others : List (List ℕ)) (word : List Label) → HasTexts labels texts word
    → HasTexts labels others word → texts ≡ others
one_texts labels [] [] word first second = refl
one_texts labels [] (other ∷ others) [] first second = absurd second
one_texts labels [] (other ∷ others) (label ∷ word) first second = absurd first
one_texts labels (text ∷ texts) [] [] first second = absurd first
one_texts labels (text ∷ texts) [] (label ∷ word) first second = absurd second
one_texts labels (text ∷ texts) (other ∷ others) [] first second = absurd first
one_texts labels (text ∷ texts) (other ∷ others) (label ∷ word) first second =
    let here : text ≡ other = one_at text other (slice_get labels label.0) first.0 second.0 in
    let later = one_texts labels texts others word first.1 second.1 in
    λ i. here i ∷ later i

pub zip_one : {X Y : Type 0} (R : X → Y → Type 0) → ((x : X) (y z : Y) → R x y → R x z → y ≡ z)
    → (xs : List X) (ys zs : List Y)
    → AllZip R xs ys → AllZip R xs zs → ys ≡ zs
zip_one R one [] [] [] first second = refl
zip_one R one [] [] (z ∷ zs) first second = absurd second
zip_one R one [] (y ∷ ys) zs first second = absurd first
zip_one R one (x ∷ xs) [] zs first second = absurd first
zip_one R one (x ∷ xs) (y ∷ ys) [] first second = absurd second
zip_one R one (x ∷ xs) (y ∷ ys) (z ∷ zs) first second =
    let here = one x y z first.0 second.0 in
    let later = zip_one R one xs ys zs first.1 second.1 in
    λ i. here i ∷ later i

module _ (names : List (List ℕ × Oid)) (edges : List Edge) (labels : List (List ℕ)) where
  one_line : (set : List Oid) (line other : List ℕ) → IsSetLine names edges labels set line
      → IsSetLine names edges labels set other → line ≡ other
  one_line set line other first second =
      let path = one-least names edges first.path second.path set first.least second.least in
      let texts : first.texts ≡ second.texts = one_texts labels first.texts second.texts second.path.word
      (subst (λ (p : LabelPath). HasTexts labels first.texts p.word) path first.labelled) second.labelled in
      first.printed ∙ (λ i. path_text (path i).name (texts i) ++ size_text (length set)) ∙ sym second.printed

pub one_list_of_lines : HasOneListOfLines
one_list_of_lines names edges labels lines others first second =
    let sets = one-list names edges first.sets second.sets first.targets second.targets first.order second.order in
    let set_lines : first.set_lines ≡ second.set_lines =
    zip_one (IsSetLine names edges labels) (one_line names edges labels) second.sets first.set_lines second.set_lines
    (subst (λ (l : List (List Oid)). AllZip (IsSetLine names edges labels) l first.set_lines) sets first.each)
    second.each in
    first.are ∙ (λ i. set_lines i ++ count_line (length (sets i)) ∷ []) ∙ sym second.are
