use Rattle.std.proofs.Common.{[], ◌++◌, refl, ap, ◌∙◌, subst, append_assoc}
use Rattle.lorel_ranges.specs.Views.{place_trees, texts}
use Rattle.lorel_bind.specs.inside.Causes.{HasMet}
use Rattle.lorel_bind.proofs.TextCauseLaws.{HasMet-none}
use Rattle.lorel_bind.proofs.causes.unknown_starts.Goals as goal

pub returns : goal.returns
returns c =
    let text = c.args.text.now in
    let ranged = texts c.args.ranged.now.keys in
    let from = place_trees c.as_slice.result.now in
    let cells = place_trees c.as_slice-2.result.now in
    let conditions = place_trees c.as_slice-3.result.now in
    let lists = append_assoc from cells conditions ∙ ap (λ l. place_trees l ++ (cells ++ conditions)) c.as_slice.ensures.value
    ∙ ap (λ l. place_trees text.from.places.items ++ (place_trees l ++ conditions)) c.as_slice-2.ensures.value
    ∙ ap (λ l. place_trees text.from.places.items ++ (place_trees text.items.places.items ++ place_trees l)) c.as_slice-3.ensures.value in
    subst (λ l. HasMet c.args.names.now ranged l c.note_all-3.new.self) lists
    (c.note_all-3.ensures (from ++ cells) (c.note_all-2.ensures from (c.note_all.ensures [] (HasMet-none c.args.names.now ranged _ refl refl))))
