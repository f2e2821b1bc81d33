-- What is noted of rows of slots: one more, many, and those that waited.
use Rattle.std.proofs.Common.{◌≡◌, ◌↔◌, inl, inr, Bool, true, false, true≢false, ℕ, ◌+◌, ◌<◌, List, [], ◌∷◌, ◌++◌, length, take, get_or, Option, Some, None, subst, sym, refl, ap, ◌∙◌, arith}
use Rattle.std.specs.Prelude.{◌⊎◌, MatchOption, IsPermutation}
use Rattle.std.specs.List.{AllZip, Contains}
use Rattle.std.proofs.lemmas.List.{take_more}
use Rattle.std.proofs.lemmas.List.Elements.{All-weaker, All-contains_itself, All-contains, All-take, Contains-append_left, Contains-push, Contains-push_cases}
use Rattle.std.proofs.lemmas.List.Sorted.{Contains-permutation, IsPermutation-sym, length_permutation}
use Rattle.std.proofs.lemmas.Option.{same_Some}
use Rattle.lore_base.proofs.MemberLaws.{Contains-none}
use Rattle.lorel_bound.specs.declared.bound.Bound.{Bound}
use Rattle.lorel_bound.specs.Bound.{bound_tree}
use Rattle.answers.specs.Types.{Oid, Edge, Cell}
use Rattle.answers.specs.Asked.{ShowsAsked, AreRows, AreTooMany}
use Rattle.answers.specs.inside.Finding.{Finds}
use Rattle.answers.specs.inside.Showing.{IsMadeReady, ReadsRow, ReadsSome, RowsShown, AreOfOne, ShowsNext, IsNoted, AreNow}
use Rattle.answers.specs.declared.ready_cells.ReadyCell.{ReadyCell}
use Rattle.answers.proofs.FoundLaws.{apart_rows, asked_rows, too_many_asked}
use Rattle.answers.proofs.ReadLaws.{one_row, row_shows}

-- ---- rows that are found
-- some more behind some
pub finds_both : (First Next All : List Cell → Type 0) (old mid new : List (List Cell)) (cut : Bool) → ((row : List Cell) → All row ↔ (First row ⊎ Next row))
    → Finds First old mid false → Finds Next mid new cut → Finds All old new cut
finds_both First Next All old mid new cut all first next = record {
  kept = λ row h. next.kept row (first.kept row h);
  sound = λ row h. elim (next.sound row h) [
    | inl before ↦ elim (first.sound row before) [
      | inl there ↦ inl there
      | inr asked ↦ inr ((all row).1 (inl asked))
    ]
    | inr asked ↦ inr ((all row).1 (inr asked))
  ];
  complete = λ whole row h. elim ((all row).0 h) [
    | inl asked ↦ next.kept row (first.complete refl row asked)
    | inr asked ↦ next.complete whole row asked
  ];
  many = next.many;
}

-- none of none
pub finds_none : (Asked : List Cell → Type 0) (found : List (List Cell)) → ((row : List Cell) → Asked row → ⊥) → Finds Asked found found false
finds_none Asked found none = record {
  kept = λ row h. h;
  sound = λ row h. inl h;
  complete = λ whole row asked. absurd (none row asked);
  many = λ cut. absurd (true≢false (sym cut));
}

-- where it is cut off some of more are found
pub finds_cut : (Asked More : List Cell → Type 0) (old new : List (List Cell)) → ((row : List Cell) → Asked row → More row)
    → Finds Asked old new true → Finds More old new true
finds_cut Asked More old new wider finds = record {
  kept = finds.kept;
  sound = λ row h. elim (finds.sound row h) [ inl before ↦ inl before | inr asked ↦ inr (wider row asked) ];
  complete = λ whole row asked. absurd (true≢false whole);
  many = finds.many;
}

module _ {A : Type 0} (own : List (ReadyCell A)) where
  -- the row that cells show of a row of slots
  pub finds_shown : (slots : List Oid) (row : List Cell) (old new : List (List Cell)) (cut : Bool) → ReadsRow slots own (Some row)
      → Finds (λ found. found ≡ row) old new cut → Finds (λ found. ReadsRow slots own (Some found)) old new cut
  finds_shown slots row old new cut shown finds = record {
    kept = finds.kept;
    sound = λ found h. elim (finds.sound found h) [
      | inl before ↦ inl before
      | inr same ↦ inr (subst (λ (r : List Cell). ReadsRow slots own (Some r)) (sym same) shown)
    ];
    complete = λ whole found reads. finds.complete whole found (same_Some found row (sym (one_row slots own (Some row) found shown reads)));
    many = finds.many;
  }

  -- or none
  pub none_read : (slots : List Oid) (row : List Cell) → ReadsRow slots own None → ReadsRow slots own (Some row) → ⊥
  none_read slots row none shown = (let same : None ≡ Some row = one_row slots own None row none shown in cc)

  -- of one row of slots more
  pub reads_more : (rows : List (List Oid)) (i : ℕ) (d : List Oid) (row : List Cell) → i < length rows
      → ReadsSome own (take (i + 1) rows) row ↔ (ReadsSome own (take i rows) row ⊎ ReadsRow (get_or rows i d) own (Some row))
  reads_more rows i d row within = (
    λ h. elim (Contains-push_cases (take i rows) (get_or rows i d) h.0 (subst (λ (rs : List (List Oid)). Contains rs h.0) (take_more rows i d within) h.1)) [
      | inl before ↦ inl (h.0, before, h.2)
      | inr same ↦ inr (subst (λ (slots : List Oid). ReadsRow slots own (Some row)) (sym same) h.2)
    ],
    λ h. elim h [
      | inl before ↦ (
        before.0,
        subst (λ (rs : List (List Oid)). Contains rs before.0) (sym (take_more rows i d within)) (Contains-append_left (take i rows) (get_or rows i d ∷ []) before.0 before.1),
        before.2,
      )
      | inr last ↦ (
        get_or rows i d,
        subst (λ (rs : List (List Oid)). Contains rs (get_or rows i d)) (sym (take_more rows i d within)) (Contains-push (take i rows) (get_or rows i d)),
        last,
      )
    ],
  )

-- ---- the next of some rows of slots is read
module _ {A : Type 0} (first now : List (ReadyCell A)) (same : now ≡ first) (rows : List (List Oid)) (i : ℕ) (item : List Oid)
    (within : i < length rows) (is : item ≡ get_or rows i item) (old mid new : List (List Cell)) (cut : Bool)
    (before : Finds (ReadsSome first (take i rows)) old mid false) (next : Finds (λ row. ReadsRow item now (Some row)) mid new cut) where
  pub turn_finds : Finds (ReadsSome first (take (i + 1) rows)) old new cut
  turn_finds =
      finds_both (ReadsSome first (take i rows)) (λ row. ReadsRow (get_or rows i item) first (Some row)) (ReadsSome first (take (i + 1) rows)) old mid new cut
      (λ row. reads_more first rows i item row within) before
      (subst (λ (cs : List (ReadyCell A)). Finds (λ row. ReadsRow (get_or rows i item) cs (Some row)) mid new cut) same
      (subst (λ (s : List Oid). Finds (λ row. ReadsRow s now (Some row)) mid new cut) is next))

  -- with it there is too much
  pub turn_cut : cut ≡ true → Finds (ReadsSome first rows) old new true
  turn_cut ends =
      finds_cut (ReadsSome first (take (i + 1) rows)) (ReadsSome first rows) old new
      (λ row h. (h.0, All-contains (Contains rows) (take (i + 1) rows) h.0 (All-take (Contains rows) (i + 1) rows (All-contains_itself rows)) h.1, h.2))
      (subst (λ (b : Bool). Finds (ReadsSome first (take (i + 1) rows)) old new b) ends turn_finds)

-- none of no rows of slots
pub reads_none : {A : Type 0} (own : List (ReadyCell A)) (row : List Cell) → ReadsSome own [] row → ⊥
reads_none own row h = omega (arith, h.1.1)

-- ---- rows that are noted
-- the same rows are wanted
pub now_alike : (Mid Wanted New : List Cell → Type 0) (cut : Bool) → ((row : List Cell) → Mid row ↔ Wanted row) → AreNow Mid New cut → AreNow Wanted New cut
now_alike Mid Wanted New cut same now = record {
  exact = λ whole row. (
    λ h. (same row).0 ((now.exact whole row).0 h),
    λ h. (now.exact whole row).1 ((same row).1 h),
  );
  many = λ is.
      let many = now.many is in
      record {
        rows = many.rows;
        apart = many.apart;
        asked = All-weaker Mid Wanted (λ row. (same row).0) many.rows many.asked;
        many = many.many;
      };
}

-- nothing is cut off
pub now_all : (Wanted New : List Cell → Type 0) → ((row : List Cell) → New row ↔ Wanted row) → AreNow Wanted New false
now_all Wanted New same = record {
  exact = λ whole. same;
  many = λ cut. absurd (true≢false (sym cut));
}

-- where none is left these are all
pub noted_all : {Asked Noted Left : List Cell → Type 0} → ((row : List Cell) → Asked row ↔ (Noted row ⊎ Left row)) → ((row : List Cell) → Left row → ⊥)
    → (answer : Option (List (List Cell))) → MatchOption answer (AreTooMany Noted) (AreRows Noted) → MatchOption answer (AreTooMany Asked) (AreRows Asked)
noted_all {Asked} {Noted} {Left} all none None many = too_many_asked Noted Asked (λ row h. (all row).1 (inl h)) many
noted_all {Asked} {Noted} {Left} all none (Some rows) exact =
    asked_rows Noted Asked rows (λ row. (
      λ h. (all row).1 (inl h),
      λ asked. elim ((all row).0 asked) [ inl noted ↦ noted | inr left ↦ absurd (none row left) ],
    )) exact

-- found rows that are too much are too many of whatever asks for all of them
pub found_many : (Wanted : List Cell → Type 0) (Asked : List Cell → Type 0) (old new : List (List Cell)) → ((row : List Cell) → Contains new row → Wanted row)
    → Finds Asked old new true → AreTooMany Wanted
found_many Wanted Asked old new wanted finds =
    let many = finds.many refl in
    record {
      rows = new;
      apart = apart_rows new many.0;
      asked = All-weaker (Contains new) Wanted wanted new (All-contains_itself new);
      many = many.1;
    }

-- the order of no rows of slots
pub none_moved : (xs ys : List (List Oid)) → IsPermutation xs ys → xs ≡ [] → ys ≡ []
none_moved xs [] moved none = refl
none_moved xs (y ∷ ys) moved none = absurd (omega (arith, length_permutation xs (y ∷ ys) moved, ap (λ (rows : List (List Oid)). length rows) none))

-- nothing is noted where nothing came
pub none_noted : (shown : RowsShown) → shown.waiting ≡ [] → shown.found ≡ [] → (row : List Cell) → IsNoted shown row → ⊥
none_noted shown waits found row noted = elim noted [
  | inl there ↦ let at : Contains [] row = subst (λ (rows : List (List Cell)). Contains rows row) found there in omega (arith, at.1)
  | inr asked ↦ Contains-none asked.0 (subst (λ (rows : List (List Oid)). Contains rows asked.0) waits asked.1)
]

-- where none waits the answer of those found is that of all
pub found_all : (Wanted : List Cell → Type 0) (shown : RowsShown) (found : List (List Cell)) (cut : Bool) → AreNow Wanted (IsNoted shown) cut → cut ≡ false
    → shown.waiting ≡ [] → found ≡ shown.found → (answer : Option (List (List Cell)))
    → MatchOption answer (AreTooMany (Contains found)) (AreRows (Contains found)) → MatchOption answer (AreTooMany Wanted) (AreRows Wanted)
found_all Wanted shown found cut now whole none same =
    noted_all {Asked = Wanted} {Noted = Contains found} {Left = ShowsAsked shown.labels shown.edges (bound_tree shown.bound) (Contains shown.waiting)}
    (λ row. (
      λ wanted. elim ((now.exact whole row).1 wanted) [
        | inl there ↦ inl (subst (λ (rows : List (List Cell)). Contains rows row) (sym same) there)
        | inr waits ↦ inr waits
      ],
      λ h. elim h [
        | inl there ↦ (now.exact whole row).0 (inl (subst (λ (rows : List (List Cell)). Contains rows row) same there))
        | inr waits ↦ (now.exact whole row).0 (inr waits)
      ],
    )) (λ row asked. Contains-none asked.0 (subst (λ (rows : List (List Oid)). Contains rows asked.0) none asked.1))

pub of_one_trans : (old mid new : RowsShown) → AreOfOne old mid → AreOfOne mid new → AreOfOne old new
of_one_trans old mid new first next = record {
  labels = next.labels ∙ first.labels;
  edges = next.edges ∙ first.edges;
  bound = next.bound ∙ first.bound;
}

module _ (labels : List (List ℕ)) (edges : List Edge) (bound : Bound) where
  -- what is noted where these rows of slots wait and these rows are found
  abbrev pub noted_at : List (List Oid) → List (List Cell) → RowsShown
  noted_at waiting found = record { labels = labels; edges = edges; bound = bound; waiting = waiting; found = found }

  -- what waits and what is found is nothing to the select
  pub of_one : (waiting more : List (List Oid)) (found others : List (List Cell)) (old : RowsShown) → noted_at waiting found ≡ old
      → AreOfOne old (noted_at more others)
  of_one waiting more found others old is = record {
    labels = ap (λ (shown : RowsShown). shown.labels) is;
    edges = ap (λ (shown : RowsShown). shown.edges) is;
    bound = ap (λ (shown : RowsShown). shown.bound) is;
  }

  -- one more waits
  pub noted_push : (waiting : List (List Oid)) (found : List (List Cell)) (slots : List Oid) (row : List Cell)
      → IsNoted (noted_at (waiting ++ slots ∷ []) found) row ↔ (IsNoted (noted_at waiting found) row ⊎ ShowsNext (noted_at waiting found) slots row)
  noted_push waiting found slots row = (
    λ h. elim h [
      | inl there ↦ inl (inl there)
      | inr waits ↦ elim (Contains-push_cases waiting slots waits.0 waits.1) [
        | inl before ↦ inl (inr (waits.0, before, waits.2))
        | inr same ↦ inr (subst (λ (s : List Oid). ShowsNext (noted_at waiting found) s row) (sym same) waits.2)
      ]
    ],
    λ h. elim h [
      | inl noted ↦ elim noted [
        | inl there ↦ inl there
        | inr waits ↦ inr (waits.0, Contains-append_left waiting (slots ∷ []) waits.0 waits.1, waits.2)
      ]
      | inr last ↦ inr (slots, Contains-push waiting slots, last)
    ],
  )

  pub noted_more : (waiting more : List (List Oid)) (found : List (List Cell)) (slots : List Oid) (old : RowsShown) → noted_at waiting found ≡ old
      → more ≡ waiting ++ slots ∷ [] → (row : List Cell) → IsNoted (noted_at more found) row ↔ (IsNoted old row ⊎ ShowsNext old slots row)
  noted_more waiting more found slots old is same row =
      subst (λ (shown : RowsShown). IsNoted (noted_at more found) row ↔ (IsNoted shown row ⊎ ShowsNext shown slots row)) is
      (subst (λ (rows : List (List Oid)). IsNoted (noted_at rows found) row ↔ (IsNoted (noted_at waiting found) row ⊎ ShowsNext (noted_at waiting found) slots row))
      (sym same) (noted_push waiting found slots row))

  module _ {A : Type 0} (own : List (ReadyCell A)) (made : AllZip (IsMadeReady labels edges bound.ranges) bound.cells own)
      (waiting : List (List Oid)) (old new : List (List Cell)) (cut : Bool) where
    -- one is read, and none waits for it
    pub now_read : (slots : List Oid) → Finds (λ found. ReadsRow slots own (Some found)) old new cut
        → AreNow (λ row. IsNoted (noted_at waiting old) row ⊎ ShowsNext (noted_at waiting old) slots row) (IsNoted (noted_at waiting new)) cut
    now_read slots finds =
        let shows = λ (row : List Cell). row_shows labels edges bound.ranges slots bound.cells own row made in
        let sound = λ (row : List Cell) (h : Contains new row).
        let one : (IsNoted (noted_at waiting old) row ⊎ ShowsNext (noted_at waiting old) slots row) =
        elim (finds.sound row h) [ inl before ↦ inl (inl before) | inr reads ↦ inr ((shows row).1 reads) ] in one in
        record {
          exact = λ whole row. (
            λ h. elim h [ inl there ↦ sound row there | inr waits ↦ inl (inr waits) ],
            λ h. elim h [
              | inl noted ↦ elim noted [ inl there ↦ inl (finds.kept row there) | inr waits ↦ inr waits ]
              | inr next ↦ inl (finds.complete whole row ((shows row).0 next))
            ],
          );
          many = λ is. found_many _ (λ found. ReadsRow slots own (Some found)) old new sound
              (subst (λ (b : Bool). Finds (λ found. ReadsRow slots own (Some found)) old new b) is finds);
        }

    -- all that waited are read, in any order
    pub now_none_waits : (ordered : List (List Oid)) → IsPermutation waiting ordered → Finds (ReadsSome own ordered) old new cut
        → AreNow (IsNoted (noted_at waiting old)) (IsNoted (noted_at [] new)) cut
    now_none_waits ordered moved finds =
        let shows = λ (slots : List Oid) (row : List Cell). row_shows labels edges bound.ranges slots bound.cells own row made in
        let back = IsPermutation-sym waiting ordered moved in
        let sound = λ (row : List Cell) (h : Contains new row).
        let one : IsNoted (noted_at waiting old) row =
        elim (finds.sound row h) [
          | inl before ↦ inl before
          | inr reads ↦ inr (reads.0, Contains-permutation ordered waiting reads.0 back reads.1, (shows reads.0 row).1 reads.2)
        ] in one in
        record {
          exact = λ whole row. (
            λ h. elim h [ inl there ↦ sound row there | inr waits ↦ absurd (Contains-none waits.0 waits.1) ],
            λ h. elim h [
              | inl there ↦ inl (finds.kept row there)
              | inr waits ↦ inl (finds.complete whole row (waits.0, Contains-permutation waiting ordered waits.0 moved waits.1, (shows waits.0 row).0 waits.2))
            ],
          );
          many = λ is. found_many _ (ReadsSome own ordered) old new sound (subst (λ (b : Bool). Finds (ReadsSome own ordered) old new b) is finds);
        }
