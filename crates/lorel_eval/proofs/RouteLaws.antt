-- What a path that is made ready reaches along its word.
use Rattle.std.proofs.Common.{◌≡◌, ◌↔◌, ℕ, List, Option, Some, IfSome, refl, subst}
use Rattle.lore_base.specs.Paths.{PathTree, path_tree, Reaches}
use Rattle.lore_base.specs.Walks.{Walk}
use Rattle.lore_base.specs.TargetSets.{ListsInOrder}
use Rattle.lore_base.specs.declared.edges.Label.{Label}
use Rattle.lore_base.proofs.TargetLaws.{ListsInOrder-same}
use Rattle.word_walks.specs.declared.only_words.OnlyWord.{OnlyWord}
use Rattle.word_walks.specs.declared.only_words.OnlyWord.TheVariants.{Labels, Lacking}
use Rattle.word_walks.specs.WordWalks.{IsItsWord, IsReachedBy}
use Rattle.lorel_eval.specs.Types.{Oid, Edge}
use Rattle.lorel_eval.specs.inside.Labelled.{RouteOver}

-- along the one word of a path
word_reaches : (labels : List (List ℕ)) (edges : List Edge) (path : PathTree) (word : OnlyWord) → IsItsWord labels path word
    → (x y : Oid) → IsReachedBy word edges x y ↔ Reaches labels edges path x y
word_reaches labels edges path (Labels own) its x y = (
  λ walked. (own, (its own).1 refl, walked),
  λ h. subst (λ (w : List Label). Walk edges x w y) ((its h.0).0 h.1) h.2,
)
word_reaches labels edges path Lacking its x y = (λ none. absurd none, λ h. absurd (its h.0 h.1))

-- and so along the word of a path that is made ready
pub along_word : (own over : RouteOver) (edges : List Edge) (ready : Option OnlyWord) (word : OnlyWord) (from : Oid) (found : List Oid) → own ≡ over
    → IfSome ready (IsItsWord own.labels (path_tree own.path)) → ready ≡ Some word → ListsInOrder (IsReachedBy word edges from) found
    → ListsInOrder (Reaches over.labels edges (path_tree over.path) from) found
along_word own over edges ready word from found is its there lists =
    subst (λ (o : RouteOver). ListsInOrder (Reaches o.labels edges (path_tree o.path) from) found) is
    (ListsInOrder-same (IsReachedBy word edges from) (Reaches own.labels edges (path_tree own.path) from) found
    (word_reaches own.labels edges (path_tree own.path) word (subst (λ (r : Option OnlyWord). IfSome r (IsItsWord own.labels (path_tree own.path))) there its) from)
    lists)
