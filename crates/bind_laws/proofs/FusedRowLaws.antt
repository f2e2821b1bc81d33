-- Fusing keeps the rows: a valuation of the ranges before is one of those behind it, and one of those behind it is one of
-- those before once the place that went has an object again. The ranges of words that cells show stay as they are.
use Rattle.std.proofs.Common.{◌≡◌, ◌≢◌, ℕ, zero, suc, ◌↔◌, inl, inr, List, [], ◌∷◌, ◌++◌, All, subst, refl, sym, ap, ◌∙◌, get_or}
use Rattle.std.specs.List.{Contains, AllZip}
use Rattle.std.proofs.lemmas.List.Elements.{All-cons, All-head, All-tail, All-append, Contains-append_left, Contains-append_right, Contains-append_cases}
use Rattle.lore_base.specs.Databases.{Database}
use Rattle.lore_base.specs.Paths.{seq, trees_of}
use Rattle.lore_base.specs.LeastWords.{IsLeast, IsSpelledWalk}
use Rattle.lore_base.proofs.MemberLaws.{Contains-tail, Contains-cases}
use Rattle.list_laws.proofs.MemberLaws.{All-from_members}
use Rattle.lorel_trees.specs.Trees.{SelectTree}
use Rattle.lorel_bind.specs.Types.{Oid, Label, Cell}
use Rattle.lorel_bind.specs.Types.cells
use Rattle.lorel_ranges.specs.Places.{named, Place, at_root, CellPlace, object, word, cells_of}
use Rattle.lorel_ranges.specs.Conditions.{cond_of}
use Rattle.lorel_ranges.specs.Ranges.{PlacedRange, IsFixed, IsUsed, joined_range, Fuses, FusesTimes}
use Rattle.lorel_bind.specs.Answers.{Leads, IsValuation, HoldsAt, IsWordAt, ShowsCell, IsRowOver}
use Rattle.bind_laws.specs.Laws.{FusingKeepsRows}
use Rattle.lorel_ranges.specs.inside.Orders.{AreOrdered}
use Rattle.lorel_ranges.proofs.ListLaws.{Contains-between, All-parts}
use Rattle.lorel_ranges.proofs.GatherLaws.{has_one_plain}
use Rattle.lorel_ranges.proofs.OrderLaws.{open_at, own_start, placed_once}
use Rattle.lorel_ranges.proofs.PlainLaws.{plain_ordered}
use Rattle.lorel_ranges.proofs.FuseLaws.{only_joined, only_middle, Fuses-ordered}
use Rattle.bind_laws.proofs.LeadLaws.{Reaches-split, Reaches-join}
use Rattle.lorel_ranges.proofs.ShownLaws.{object_shown}
use Rattle.bind_laws.proofs.ValuationLaws.{HoldsAt-same, moved, moved_there, moved_elsewhere}

-- ---- cells
-- a cell shows the same of two valuations where they agree on its object, or its range stays with its start
abbrev pub AgreeOn : List PlacedRange → List PlacedRange → (Place → Oid) → (Place → Oid) → CellPlace → Type 0
AgreeOn ranges more at other (object place) = at place ≡ other place
AgreeOn ranges more at other (word place) = (range : PlacedRange) → Contains ranges range → range.place ≡ place
    → Contains more range × (at range.start ≡ other range.start) × (at place ≡ other place)

module _ (db : Database) (ranges more : List PlacedRange) (at other : Place → Oid) where
  IsWordAt-same : (place : Place) (labels : List Label) → AgreeOn ranges more at other (word place)
      → IsWordAt db ranges at place labels → IsWordAt db more other place labels
  IsWordAt-same place labels agree h =
      let stays = agree h.range h.there h.is in
      let walks = λ (start oid : Oid). IsSpelledWalk db.labels db.graph.edges (seq (trees_of h.range.parts)) start oid in
      record {
        range = h.range;
        there = stays.0;
        is = h.is;
        least = subst (λ (oid : Oid). IsLeast (walks (other h.range.start) oid) labels) stays.2
            (subst (λ (start : Oid). IsLeast (walks start (at place)) labels) stays.1 h.least);
      }

  ShowsCell-same : (cell : CellPlace) (shown : Cell) → AgreeOn ranges more at other cell
      → ShowsCell db ranges at cell shown → ShowsCell db more other cell shown
  ShowsCell-same (object place) (cells.Object oid) agree shows = sym agree ∙ shows
  ShowsCell-same (word place) (cells.Path labels) agree shows = IsWordAt-same place labels agree shows
  ShowsCell-same _ _ agree shows = absurd shows

  pub cells_same : (places : List CellPlace) (row : List Cell) → All (AgreeOn ranges more at other) places
      → AllZip (ShowsCell db ranges at) places row → AllZip (ShowsCell db more other) places row
  cells_same [] [] agree shown = tt
  cells_same [] (cell ∷ row) agree shown = absurd shown
  cells_same (place ∷ places) [] agree shown = absurd shown
  cells_same (place ∷ places) (cell ∷ row) agree shown = (
    ShowsCell-same place cell (All-head (AgreeOn ranges more at other) place places agree) shown.0,
    cells_same places row (All-tail (AgreeOn ranges more at other) place places agree) shown.1,
  )

-- a row is the same where the valuation changes at a place that isn't used
IsRowOver-same : (db : Database) (query : SelectTree) (plain ranges more : List PlacedRange) (row : List Cell) (at other : Place → Oid) (gone : Place)
    → (IsUsed query plain gone → ⊥) → ((place : Place) → place ≢ gone → at place ≡ other place)
    → All (AgreeOn ranges more at other) (cells_of query)
    → HoldsAt db plain at (cond_of query) → AllZip (ShowsCell db ranges at) (cells_of query) row → IsValuation db more other
    → IsRowOver db query plain more row
IsRowOver-same db query plain ranges more row at other gone unused agree on_cells holds shown valuation = record {
  at = other;
  valuation = valuation;
  holds = HoldsAt-same db plain at other (cond_of query) (λ path fixed rest there is. inr (agree fixed
      (λ same. unused (inr (inr (path, rest, there, subst (λ (p : Place). IsFixed plain path p rest) same is)))))) holds;
  shown = cells_same db ranges more at other (cells_of query) row on_cells shown;
}

-- ---- ranges of words
-- the ranges of the words that cells show are plain ones
abbrev HasPlainWords : SelectTree → List PlacedRange → List PlacedRange → Type 0
HasPlainWords query plain ranges =
    (range : PlacedRange) → Contains (cells_of query) (word range.place) → Contains ranges range → Contains plain range

module _ (query : SelectTree) (plain old new : List PlacedRange) (f : Fuses (IsUsed query plain) old new) (words : HasPlainWords query plain old) where
  -- such a range doesn't go, and doesn't start at the one that goes
  place_stays : (range : PlacedRange) → Contains (cells_of query) (word range.place) → Contains old range → range.place ≢ f.range.place
  place_stays range shown there same =
      f.fusable.unused (subst (IsUsed query plain) same (inr (inl (range, words range shown there, shown, inl refl))))

  start_stays : (range : PlacedRange) → Contains (cells_of query) (word range.place) → Contains old range → range.start ≢ f.range.place
  start_stays range shown there same =
      f.fusable.unused (subst (IsUsed query plain) same (inr (inl (range, words range shown there, shown, inr refl))))

  -- so it stands where it stood
  word_stays : (range : PlacedRange) → Contains (cells_of query) (word range.place) → Contains old range → Contains new range
  word_stays range shown there =
      let rest = f.middle ++ f.other ∷ f.back in
      let both = joined_range f.range f.other in
      subst (λ (rs : List PlacedRange). Contains rs range) (sym f.is)
      (elim (Contains-append_cases f.front (f.range ∷ rest) range (subst (λ (rs : List PlacedRange). Contains rs range) f.was there)) [
        | inl before ↦ Contains-append_left f.front (f.middle ++ both ∷ f.back) range before
        | inr behind ↦ Contains-append_right f.front (f.middle ++ both ∷ f.back) range (elim (Contains-cases f.range rest range behind) [
          | inl same ↦ absurd (place_stays range shown there (ap (λ (r : PlacedRange). r.place) (sym same)))
          | inr later ↦ elim (Contains-append_cases f.middle (f.other ∷ f.back) range later) [
            | inl between ↦ Contains-append_left f.middle (both ∷ f.back) range between
            | inr last ↦ Contains-append_right f.middle (both ∷ f.back) range (elim (Contains-cases f.other f.back range last) [
              | inl same ↦ absurd (start_stays range shown there (ap (λ (r : PlacedRange). r.start) (sym same) ∙ f.starts))
              | inr after ↦ Contains-tail both f.back range after
            ])
          ]
        ])
      ])

  -- and no other comes to be
  word_stood : (range : PlacedRange) → Contains (cells_of query) (word range.place) → Contains new range → Contains old range
  word_stood range shown there =
      let rest = f.middle ++ f.other ∷ f.back in
      let both = joined_range f.range f.other in
      let within = λ (r : PlacedRange) (later : Contains rest r). subst (λ (rs : List PlacedRange). Contains rs r) (sym f.was)
      (Contains-append_right f.front (f.range ∷ rest) r (Contains-tail f.range rest r later)) in
      elim (Contains-append_cases f.front (f.middle ++ both ∷ f.back) range (subst (λ (rs : List PlacedRange). Contains rs range) f.is there)) [
        | inl before ↦ subst (λ (rs : List PlacedRange). Contains rs range) (sym f.was) (Contains-append_left f.front (f.range ∷ rest) range before)
        | inr behind ↦ elim (Contains-append_cases f.middle (both ∷ f.back) range behind) [
          | inl between ↦ within range (Contains-append_left f.middle (f.other ∷ f.back) range between)
          | inr last ↦ elim (Contains-cases both f.back range last) [
            | inl same ↦
                let other_shown = subst (λ (p : Place). Contains (cells_of query) (word p)) (ap (λ (r : PlacedRange). r.place) (sym same)) shown in
                absurd (start_stays f.other other_shown (within f.other (Contains-between f.middle f.other f.back)) f.starts)
            | inr after ↦ within range (Contains-append_right f.middle (f.other ∷ f.back) range (Contains-tail f.other f.back range after))
          ]
        ]
      ]

  words_behind : HasPlainWords query plain new
  words_behind range shown there = words range shown (word_stood range shown there)

  -- what cells show is the same behind it
  agree_behind : (at : Place → Oid) (cell : CellPlace) → Contains (cells_of query) cell → AgreeOn old new at at cell
  agree_behind at (object place) here = refl
  agree_behind at (word place) here = λ range there is. (
    word_stays range (subst (λ (p : Place). Contains (cells_of query) (word p)) (sym is) here) there,
    refl,
    refl,
  )

  -- and before, where the place that goes has some object
  agree_before : (at other : Place → Oid) → ((place : Place) → place ≢ f.range.place → at place ≡ other place)
      → (cell : CellPlace) → Contains (cells_of query) cell → AgreeOn new old at other cell
  agree_before at other agree (object place) here =
      agree place (λ same. f.fusable.unused (subst (IsUsed query plain) same (inl (object_shown query place here))))
  agree_before at other agree (word place) here = λ range there is.
      let shown = subst (λ (p : Place). Contains (cells_of query) (word p)) (sym is) here in
      let stood = word_stood range shown there in (
        stood,
        agree range.start (start_stays range shown stood),
        agree place (λ same. place_stays range shown stood (is ∙ same)),
      )

-- ---- one fusing
abbrev Meets : Database → (Place → Oid) → PlacedRange → Type 0
Meets db at range = Leads db range.parts (at range.start) (at range.place)

Meets-same : (db : Database) (at other : Place → Oid) (range : PlacedRange) → at range.start ≡ other range.start → at range.place ≡ other range.place
    → Meets db at range → Meets db other range
Meets-same db at other range start place h =
    subst (λ (oid : Oid). Leads db range.parts (other range.start) oid) place
    (subst (λ (oid : Oid). Leads db range.parts oid (at range.place)) start h)

module _ (db : Database) (query : SelectTree) (plain old new : List PlacedRange) (f : Fuses (IsUsed query plain) old new)
    (words : HasPlainWords query plain old) (row : List Cell) where
  row_behind : IsRowOver db query plain old row → IsRowOver db query plain new row
  row_behind h =
      let all = subst (λ (rs : List PlacedRange). All (Meets db h.at) rs) f.was h.valuation.reached in
      let fronts = All-parts (Meets db h.at) f.front (f.range ∷ (f.middle ++ f.other ∷ f.back)) all in
      let first : Meets db h.at f.range = All-head (Meets db h.at) f.range (f.middle ++ f.other ∷ f.back) fronts.1 in
      let behind = All-parts (Meets db h.at) f.middle (f.other ∷ f.back) (All-tail (Meets db h.at) f.range (f.middle ++ f.other ∷ f.back) fronts.1) in
      let second : Meets db h.at f.other = All-head (Meets db h.at) f.other f.back behind.1 in
      let both : Meets db h.at (joined_range f.range f.other) =
      Reaches-join db.labels db.graph.edges f.range.parts f.other.parts (h.at f.range.start) (h.at f.other.place) (h.at f.range.place) first
      (subst (λ (oid : Oid). Leads db f.other.parts oid (h.at f.other.place)) (ap h.at f.starts) second) in
      let last = All-cons (Meets db h.at) (joined_range f.range f.other) f.back both (All-tail (Meets db h.at) f.other f.back behind.1) in
      record {
        at = h.at;
        valuation = record {
          named = h.valuation.named;
          reached = subst (λ (rs : List PlacedRange). All (Meets db h.at) rs) (sym f.is)
              (All-append (Meets db h.at) f.front (f.middle ++ joined_range f.range f.other ∷ f.back) fronts.0
              (All-append (Meets db h.at) f.middle (joined_range f.range f.other ∷ f.back) behind.0 last));
        };
        holds = h.holds;
        shown = cells_same db old new h.at h.at (cells_of query) row
            (All-from_members (AgreeOn old new h.at h.at) (cells_of query) (agree_behind query plain old new f words h.at)) h.shown;
      }

  row_before : AreOrdered [] old → IsRowOver db query plain new row → IsRowOver db query plain old row
  row_before sorted h =
      let gone = f.range.place in
      let ordered = subst (λ (rs : List PlacedRange). AreOrdered [] rs) f.was sorted in
      let rest = f.middle ++ f.other ∷ f.back in
      let once = placed_once [] f.front f.range rest ordered in
      let once_behind = All-parts (λ r. r.place ≢ gone) f.middle (f.other ∷ f.back) once.1 in
      let starts = only_joined (IsUsed query plain) old new f in
      let start_front = (All-parts (λ r. r.start ≢ gone) f.front (f.range ∷ f.middle) starts.0).0 in
      let all = subst (λ (rs : List PlacedRange). All (Meets db h.at) rs) f.is h.valuation.reached in
      let fronts = All-parts (Meets db h.at) f.front (f.middle ++ joined_range f.range f.other ∷ f.back) all in
      let behind = All-parts (Meets db h.at) f.middle (joined_range f.range f.other ∷ f.back) fronts.1 in
      let split = Reaches-split db.labels db.graph.edges f.range.parts f.other.parts (h.at f.range.start) (h.at f.other.place)
      (All-head (Meets db h.at) (joined_range f.range f.other) f.back behind.1) in
      let other = moved h.at gone split.0 in
      let elsewhere = moved_elsewhere h.at gone split.0 in
      let own = own_start [] f.front f.range rest ordered in
      let apart = All-head (λ r. r.place ≢ gone) f.other f.back once_behind.1 in
      let first : Meets db other f.range =
      subst (λ (oid : Oid). Leads db f.range.parts (other f.range.start) oid) (sym (moved_there h.at gone split.0 gone refl))
      (subst (λ (oid : Oid). Leads db f.range.parts oid split.0) (elsewhere f.range.start own) split.1) in
      let second : Meets db other f.other =
      subst (λ (oid : Oid). Leads db f.other.parts (other f.other.start) oid) (elsewhere f.other.place apart)
      (subst (λ (oid : Oid). Leads db f.other.parts oid (h.at f.other.place)) (sym (moved_there h.at gone split.0 f.other.start f.starts)) split.2) in
      let last = All-cons (Meets db other) f.other f.back second
      (still other elsewhere f.back (All-tail (Meets db h.at) (joined_range f.range f.other) f.back behind.1) starts.1
      (All-tail (λ r. r.place ≢ gone) f.other f.back once_behind.1)) in
      let middle = still other elsewhere f.middle behind.0 (only_middle (IsUsed query plain) old new f) once_behind.0 in
      let reached = All-append (Meets db other) f.front (f.range ∷ rest) (still other elsewhere f.front fronts.0 start_front once.0)
      (All-cons (Meets db other) f.range rest first (All-append (Meets db other) f.middle (f.other ∷ f.back) middle last)) in
      IsRowOver-same db query plain new old row h.at other gone f.fusable.unused elsewhere
      (All-from_members (AgreeOn new old h.at other) (cells_of query) (agree_before query plain old new f words h.at other elsewhere))
      h.holds h.shown (record {
        named = λ name oid is. sym (elsewhere (at_root (named name))
            (λ same. (open_at [] f.front f.range rest ordered).unnamed (name, sym same))) ∙ h.valuation.named name oid is;
        reached = subst (λ (rs : List PlacedRange). All (Meets db other) rs) (sym f.was) reached;
      })
    where
      still : (other : Place → Oid) → ((place : Place) → place ≢ f.range.place → h.at place ≡ other place) → (ranges : List PlacedRange)
          → All (Meets db h.at) ranges → All (λ r. r.start ≢ f.range.place) ranges → All (λ r. r.place ≢ f.range.place) ranges
          → All (Meets db other) ranges
      still other elsewhere ranges reached starts places k d lt =
          let range = get_or ranges k d in
          Meets-same db h.at other range (elsewhere range.start (starts k d lt)) (elsewhere range.place (places k d lt)) (reached k d lt)

-- ---- fusing as often as it goes
rows_fused : (db : Database) (query : SelectTree) (plain : List PlacedRange) (row : List Cell) (times : ℕ) (old new : List PlacedRange)
    → FusesTimes (IsUsed query plain) times old new → HasPlainWords query plain old → AreOrdered [] old
    → IsRowOver db query plain old row ↔ IsRowOver db query plain new row
rows_fused db query plain row zero old new steps words ordered =
    (subst (λ (rs : List PlacedRange). IsRowOver db query plain rs row) steps, subst (λ (rs : List PlacedRange). IsRowOver db query plain rs row) (sym steps))
rows_fused db query plain row (suc times) old new steps words ordered =
    let later = rows_fused db query plain row times steps.0 new steps.2 (words_behind query plain old steps.0 steps.1 words)
    (Fuses-ordered (IsUsed query plain) old steps.0 steps.1 ordered) in (
      λ h. later.0 (row_behind db query plain old steps.0 steps.1 words row h),
      λ h. row_before db query plain old steps.0 steps.1 words row ordered (later.1 h),
    )

pub fusing_keeps_rows : FusingKeepsRows
fusing_keeps_rows db query plain fused gathered are row =
    let same = rows_fused db query plain row are.times plain fused are.steps (λ range shown there. there) (plain_ordered query plain gathered) in (
      λ h. same.0 (subst (λ (rs : List PlacedRange). IsRowOver db query rs rs row) (has_one_plain query h.0 plain h.1 gathered) h.2),
      λ h. (plain, gathered, same.1 h),
    )
