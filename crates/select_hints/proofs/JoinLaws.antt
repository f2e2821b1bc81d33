-- Paths one behind the other: the parts of both in a row.
use Rattle.std.proofs.Common.{◌≡◌, ℕ, List, [], ◌∷◌, ◌++◌, refl, sym, ap, subst, ◌∙◌}
use Rattle.std.proofs.lemmas.List.{append-nil, append_assoc}
use Rattle.lore_base.specs.declared.paths.Path.{Path, Seq}
use Rattle.lore_base.specs.declared.paths.Path.TheOpen as layer
use Rattle.lore_base.specs.declared.paths.Path.TheVariants.{rolls-Seq}
use Rattle.lore_base.specs.declared.paths.Path.TheFolds.{fold-roll-Path}
use Rattle.lore_base.specs.declared.paths.PathList.{PathList}
use Rattle.lore_base.specs.Paths.{PathTree, seq, trees_of, path_tree, path_trees, path_step, list_step, Spells, SpellInTurn}
use Rattle.lore_base.proofs.WalkLaws.{Walk-append}
use Rattle.select_hints.specs.Types.{Label}
use Rattle.select_hints.specs.inside.Moves.{Joins, PutsParts}

-- parts in a row spell what the ones spell and then the others
in_turn : (labels : List (List ℕ)) (first second : List PathTree) (front rest : List Label) → SpellInTurn labels (trees_of first) front
    → SpellInTurn labels (trees_of second) rest → SpellInTurn labels (trees_of (first ++ second)) (front ++ rest)
in_turn labels [] second front rest before after =
    subst (λ (w : List Label). SpellInTurn labels (trees_of second) (w ++ rest)) (sym before) after
in_turn labels (part ∷ first) second front rest before after = (
  before.0,
  before.1 ++ rest,
  ap (λ (w : List Label). w ++ rest) before.2 ∙ append_assoc before.0 before.1 rest,
  before.3,
  in_turn labels first second before.1 rest before.4 after,
)

-- ---- parts are put behind the others
-- those of a path that has parts
pub put_parts_of : (path : Path) (own : PathList) (parts old new : List PathTree) → path ≡ Seq own → parts ≡ path_trees own
    → new ≡ old ++ parts → PutsParts (path_tree path) old new
put_parts_of path own parts old new is same are = record {
  own = parts;
  are = are;
  spell = λ labels word spells. subst (λ (p : PathTree). Spells labels p word) whole spells;
}
  where
    whole : path_tree path ≡ seq (trees_of parts)
    whole =
        ap path_tree (is ∙ sym (rolls-Seq own)) ∙ fold-roll-Path PathTree (List PathTree) path_step list_step (layer.Seq own)
        ∙ ap (λ (l : List PathTree). seq (trees_of l)) (sym same)

-- and another path itself
pub put_itself : (path : PathTree) (old new : List PathTree) → new ≡ old ++ path ∷ [] → PutsParts path old new
put_itself path old new are = record {
  own = path ∷ [];
  are = are;
  spell = λ labels word spells. (word, [], sym (append-nil word), spells, refl);
}

-- those of two paths are a path that goes along both
pub joins : (first second path : PathTree) (none middle all : List PathTree) → none ≡ [] → PutsParts first none middle → PutsParts second middle all
    → path ≡ seq (trees_of all) → Joins first second path
joins first second path none middle all empty before after is = λ labels edges start between oid here later.
    let both : all ≡ before.own ++ after.own =
    after.are ∙ ap (λ (l : List PathTree). l ++ after.own) (before.are ∙ ap (λ (l : List PathTree). l ++ before.own) empty) in
    let spells = in_turn labels before.own after.own here.0 later.0 (before.spell labels here.0 here.1) (after.spell labels later.0 later.1) in (
      here.0 ++ later.0,
      subst (λ (p : PathTree). Spells labels p (here.0 ++ later.0)) (sym (is ∙ ap (λ (l : List PathTree). seq (trees_of l)) both)) spells,
      Walk-append edges start here.0 between later.0 oid here.2 later.2,
    )
