-- Plain ranges: of the ranges that are made there is one list with each place once.
use Rattle.std.proofs.Common.{◌≡◌, inl, inr, List, [], ◌∷◌, ◌++◌, refl, sym, ◌∙◌}
use Rattle.lorel_ranges.specs.Ranges.{PlacedRange, made_ranges, places, AreGathered}
use Rattle.lorel_ranges.specs.Laws.{HasOnePlain, HasSomePlain}
use Rattle.lore_base.proofs.ToldLaws.{told_member}
use Rattle.lorel_ranges.proofs.PlaceLaws.{told_place}

pub one_gathered : (earlier made ranges other : List PlacedRange) → AreGathered earlier made ranges → AreGathered earlier made other → ranges ≡ other
one_gathered earlier [] ranges other h g = h ∙ sym g
one_gathered earlier (range ∷ made) ranges other (inl h) (inl g) = one_gathered earlier made ranges other h.1 g.1
one_gathered earlier (range ∷ made) ranges other (inl h) (inr g) = absurd (g.0 h.0)
one_gathered earlier (range ∷ made) ranges other (inr h) (inl g) = absurd (h.0 g.0)
one_gathered earlier (range ∷ made) ranges other (inr h) (inr g) =
    one_gathered (earlier ++ range ∷ []) made ranges other h.1 g.1

pub some_gathered : (earlier made : List PlacedRange) → (ranges : List PlacedRange) × AreGathered earlier made ranges
some_gathered earlier [] = (earlier, refl)
some_gathered earlier (range ∷ made) = elim (told_member told_place (places earlier) range.place) [
  | inl there ↦ (let later = some_gathered earlier made in (later.0, inl (there, later.1)))
  | inr absent ↦ (let later = some_gathered (earlier ++ range ∷ []) made in (later.0, inr (absent, later.1)))
]

pub has_one_plain : HasOnePlain
has_one_plain query plain other = one_gathered [] (made_ranges query) plain other

pub has_some_plain : HasSomePlain
has_some_plain query = some_gathered [] (made_ranges query)
