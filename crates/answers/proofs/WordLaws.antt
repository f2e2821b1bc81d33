-- The least word of a row of slots: where it is found, and that there is one.
use Rattle.std.proofs.Common.{◌≡◌, List, Option, Some, subst, sym, ◌∙◌}
use Rattle.std.specs.List.{slice_get}
use Rattle.std.proofs.lemmas.Option.{same_Some}
use Rattle.lore_base.specs.Paths.{path_tree}
use Rattle.lore_base.specs.LeastWords.{IsLeastIfAny, IsSpelledWalk}
use Rattle.lore_base.proofs.LeastWordLaws.{one_least_word}
use Rattle.lorel_bound.specs.declared.bound.Start.{Start}
use Rattle.lorel_bound.specs.declared.bound.Start.TheVariants as starts
use Rattle.lorel_bound.specs.SlotRows.{StartsAt}
use Rattle.least_words.specs.MachineWords.{word_to}
use Rattle.answers.specs.Types.{Oid, Label}
use Rattle.answers.specs.inside.Words.{WordsOver, AreWordsFrom, HasWord}

-- a start has one object
pub one_start : (slots : List Oid) (start : Start) (a b : Oid) → StartsAt slots start a → StartsAt slots start b → a ≡ b
one_start slots (starts.Named own) a b first second = sym first ∙ second
one_start slots (starts.Slot slot) a b first second = same_Some a b (sym first ∙ second)

-- the words from the object of the start have the word
pub has_word : (over : WordsOver) (slots : List Oid) (from to : Oid) (words : List (Oid × List Label)) (word : Option (List Label))
    → StartsAt slots over.range.start from → slice_get slots over.slot ≡ Some to
    → AreWordsFrom over.labels over.edges (path_tree over.range.path) from words → word ≡ word_to words to → HasWord over slots word
has_word over slots from to words word begins ends are is = record {
  start = from;
  begins = begins;
  oid = to;
  ends = ends;
  least = subst (IsLeastIfAny (IsSpelledWalk over.labels over.edges (path_tree over.range.path) from to)) (sym is) (are to);
}

-- a row of slots has one word
pub one_word : (over : WordsOver) (slots : List Oid) (a b : Option (List Label)) → HasWord over slots a → HasWord over slots b → a ≡ b
one_word over slots a b first second =
    let start : first.start ≡ second.start = one_start slots over.range.start first.start second.start first.begins second.begins in
    let oid : first.oid ≡ second.oid = same_Some first.oid second.oid (sym first.ends ∙ second.ends) in
    let Says : Oid → Oid → Type 0 = λ x y. IsLeastIfAny (IsSpelledWalk over.labels over.edges (path_tree over.range.path) x y) a in
    one_least_word over.labels over.edges (path_tree over.range.path) second.start second.oid a b
    (subst (λ x. Says x second.oid) start (subst (λ y. Says first.start y) oid first.least)) second.least
