use Rattle.std.proofs.Common.{[], ◌∷◌, ◌++◌, take, subst, sym, ap, ◌∙◌, append_assoc}
use Rattle.std.proofs.lemmas.List.{take_all}
use Rattle.list_laws.proofs.PartLaws.{map_more_read}
use Rattle.lorel_ranges.specs.Views.{place_tree, place_trees, texts}
use Rattle.lorel_bind.specs.inside.Causes.{HasMet}
use Rattle.lorel_bind.proofs.causes.Unknown.note_all.Goals as goal

pub places-preserved : goal.places-preserved
places-preserved c = λ earlier met.
    let list = c.args.places.now in
    let front = place_trees (take c.places.place-index list) in
    let more = ap (λ l. earlier ++ l) (map_more_read place_tree list c.places.place-index c.place-item.result c.places-test.true c.place-item.is)
    ∙ sym (append_assoc earlier front (place_tree c.place-item.result ∷ [])) in
    subst (λ l. HasMet c.args.names.now (texts c.args.ranged.now.keys) l c.note.new.self) (sym more) (c.note.ensures (earlier ++ front) (c.places.invariant earlier met))

pub returns : goal.returns
returns c = λ earlier met.
    subst (λ l. HasMet c.args.names.now (texts c.args.ranged.now.keys) (earlier ++ place_trees l) c.places.self) (take_all c.places.place-index c.args.places.now c.places-test.false)
    (c.places.invariant earlier met)
