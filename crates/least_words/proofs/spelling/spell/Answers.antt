use Rattle.std.proofs.Common.{◌≡◌, ◌-◌, ◌<◌, [], ◌∷◌, ◌++◌, List, Some, length, reverse, get_or, sym, ap, ◌∙◌, arith}
use Rattle.std.specs.List.{slice_get}
use Rattle.std.proofs.lemmas.List.{reverse-append, append_assoc}
use Rattle.std.proofs.lemmas.Option.{slice_get-get_or}
use Rattle.std.proofs.lemmas.Result.{IfOk-weaker}
use Rattle.least_words.specs.Types.{Label, Origin}
use Rattle.least_words.specs.inside.Groups.{words_of}
use Rattle.least_words.proofs.ListLaws.{one_at_place}
use Rattle.least_words.proofs.GroupLaws.{word_of_group, first_word}
use Rattle.least_words.proofs.spelling.spell.Goals as goal

pub groups-preserved : goal.groups-preserved
groups-preserved c =
    let origins = c.args.origins.now in
    let words = words_of origins in
    let k = c.groups.at - 1 in
    let below : k < length origins = omega (arith, c.groups.invariant.within, c.groups-test.true) in
    let first : Origin = record { group = 0; label = record { 0 = 0 } } in
    let origin : Origin = get_or origins k first in
    let stands = slice_get-get_or origins k first below in
    let found = word_of_group origins k origin c.requires.back stands in
    let labels = c.groups.labels.items in
    record {
      within = omega (arith, c.requires.back k origin stands, below);
      spelled = λ word has.
          let same : found.0 ≡ word = one_at_place words origin.group found.0 word found.1 has in
          let here : slice_get words c.groups.at ≡ Some (word ++ origin.label ∷ []) =
          ap (slice_get words) (omega (arith, c.groups-test.true)) ∙ found.2 ∙ ap (λ w. Some (w ++ origin.label ∷ [])) same in
          let turned : reverse (labels ++ origin.label ∷ []) ≡ origin.label ∷ reverse labels = reverse-append labels (origin.label ∷ []) in
          c.groups.invariant.spelled (word ++ origin.label ∷ []) here
          ∙ ap Some (append_assoc word (origin.label ∷ []) (reverse labels) ∙ ap (λ w. word ++ w) (sym (ap reverse c.in_ok-push.ensures.items ∙ turned)));
    }

pub returns : goal.returns
returns c =
    let origins = c.args.origins.now in
    let words = words_of origins in
    let start : slice_get words c.groups.at ≡ Some [] = ap (slice_get words) (omega (arith, c.groups-test.false)) ∙ first_word origins in
    IfOk-weaker c.turned.result (λ word. word ≡ reverse c.as_slice.result.now) (λ word. slice_get words c.args.group ≡ Some word)
    (λ word is. c.groups.invariant.spelled [] start ∙ ap (λ (l : List Label). Some (reverse l)) (sym c.as_slice.ensures.value) ∙ ap Some (sym is))
    c.turned.ensures
