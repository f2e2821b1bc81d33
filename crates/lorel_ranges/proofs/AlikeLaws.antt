-- Uses that are alike at the places of ranges: where they agree, ranges fuse alike.
use Rattle.std.proofs.Common.{◌≡◌, ℕ, zero, suc, ◌↔◌, inl, inr, List, ◌∷◌, ◌++◌, All, subst, sym, ap, ◌∙◌}
use Rattle.std.specs.List.{Contains}
use Rattle.std.proofs.lemmas.List.{map-append}
use Rattle.std.proofs.lemmas.List.Elements.{All-contains, Contains-append_left, Contains-append_right, Contains-append_cases}
use Rattle.lore_base.proofs.MemberLaws.{Contains-head, Contains-tail}
use Rattle.list_laws.proofs.MemberLaws.{Contains-map, All-from_members}
use Rattle.lorel_ranges.specs.Places.{Place}
use Rattle.lorel_ranges.specs.Ranges.{PlacedRange, places, joined_range, IsFusable, Fuses, FusesTimes, AreFused}

abbrev AreAlike : (Place → Type 0) → (Place → Type 0) → List PlacedRange → Type 0
AreAlike Used Other ranges = (place : Place) → Contains (places ranges) place → Used place ↔ Other place

fusable_alike : (Used Other : Place → Type 0) (ranges : List PlacedRange) (range : PlacedRange) → (Other range.place → Used range.place)
    → IsFusable Used ranges range → IsFusable Other ranges range
fusable_alike Used Other ranges range back f =
    record { unused = λ used. f.unused (back used); before = f.before; other = f.other; after = f.after; is = f.is; only = f.only }

none_alike : (Used Other : Place → Type 0) (all ranges : List PlacedRange) → ((range : PlacedRange) → Contains ranges range → Used range.place → Other range.place)
    → All (λ range. IsFusable Used all range → ⊥) ranges → All (λ range. IsFusable Other all range → ⊥) ranges
none_alike Used Other all ranges to none =
    All-from_members (λ range. IsFusable Other all range → ⊥) ranges
    (λ range there fusable. All-contains (λ r. IsFusable Used all r → ⊥) ranges range none there
    (fusable_alike Other Used all range (to range there) fusable))

Fuses-alike : (Used Other : Place → Type 0) (old new : List PlacedRange) → AreAlike Used Other old → Fuses Used old new → Fuses Other old new
Fuses-alike Used Other old new alike f =
    let agree = λ (range : PlacedRange) (there : Contains old range). alike range.place (Contains-map (λ (r : PlacedRange). r.place) old range there) in
    let behind = f.middle ++ f.other ∷ f.back in
    let range_there : Contains old f.range =
    subst (λ (rs : List PlacedRange). Contains rs f.range) (sym f.was) (Contains-append_right f.front (f.range ∷ behind) f.range (Contains-head f.range behind)) in
    record {
      front = f.front;
      range = f.range;
      middle = f.middle;
      other = f.other;
      back = f.back;
      was = f.was;
      is = f.is;
      fusable = fusable_alike Used Other old f.range (agree f.range range_there).1 f.fusable;
      starts = f.starts;
      first = none_alike Used Other old f.front
          (λ range there. (agree range (subst (λ (rs : List PlacedRange). Contains rs range) (sym f.was) (Contains-append_left f.front (f.range ∷ behind) range there))).0)
          f.first;
    }

-- no place is new after fusing
Fuses-within : (Used : Place → Type 0) (old new : List PlacedRange) → Fuses Used old new → (place : Place) → Contains (places new) place → Contains (places old) place
Fuses-within Used old new f place here =
    let at_place = λ (r : PlacedRange). r.place in
    let behind = λ (r : PlacedRange). map-append at_place f.middle (r ∷ f.back) in
    let was : places old ≡ places f.front ++ f.range.place ∷ places (f.middle ++ f.other ∷ f.back) =
    ap places f.was ∙ map-append at_place f.front (f.range ∷ (f.middle ++ f.other ∷ f.back)) in
    let is : places new ≡ places f.front ++ places (f.middle ++ joined_range f.range f.other ∷ f.back) =
    ap places f.is ∙ map-append at_place f.front (f.middle ++ joined_range f.range f.other ∷ f.back) in
    let same : places (f.middle ++ joined_range f.range f.other ∷ f.back) ≡ places (f.middle ++ f.other ∷ f.back) =
    behind (joined_range f.range f.other) ∙ sym (behind f.other) in
    let rest = places (f.middle ++ f.other ∷ f.back) in
    subst (λ (ps : List Place). Contains ps place) (sym was)
    (elim (Contains-append_cases (places f.front) rest place
    (subst (λ (ps : List Place). Contains ps place) (is ∙ ap (λ (ps : List Place). places f.front ++ ps) same) here)) [
      | inl before ↦ Contains-append_left (places f.front) (f.range.place ∷ rest) place before
      | inr later ↦ Contains-append_right (places f.front) (f.range.place ∷ rest) place (Contains-tail f.range.place rest place later)
    ])

FusesTimes-alike : (Used Other : Place → Type 0) (times : ℕ) (old new : List PlacedRange) → AreAlike Used Other old → FusesTimes Used times old new
    → FusesTimes Other times old new × AreAlike Used Other new
FusesTimes-alike Used Other zero old new alike steps = (steps, subst (AreAlike Used Other) steps alike)
FusesTimes-alike Used Other (suc times) old new alike steps =
    let later = FusesTimes-alike Used Other times steps.0 new (λ place here. alike place (Fuses-within Used old steps.0 steps.1 place here)) steps.2 in
    ((steps.0, Fuses-alike Used Other old steps.0 alike steps.1, later.0), later.1)

-- uses that agree at each place of a range fuse alike
pub fused_alike : (Used Other : Place → Type 0) (plain fused : List PlacedRange)
    → ((place : Place) → Contains (places plain) place → Used place ↔ Other place) → AreFused Used plain fused → AreFused Other plain fused
fused_alike Used Other plain fused alike are =
    let steps = FusesTimes-alike Used Other are.times plain fused alike are.steps in
    record {
      times = are.times;
      steps = steps.0;
      none = none_alike Used Other fused fused
          (λ range there. (steps.1 range.place (Contains-map (λ (r : PlacedRange). r.place) fused range there)).0) are.none;
    }
