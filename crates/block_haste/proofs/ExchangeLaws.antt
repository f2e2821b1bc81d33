-- Two blocks that exchange their numbers, and the lists of the nodes that were put into them.
use Rattle.std.proofs.Common.{◌≡◌, ◌≢◌, ◌↔◌, ℕ, ◌<◌, ◌⊎◌, inl, inr, Some, List, [], ◌∷◌, ◌++◌, length, get_or, All, Contains, refl, sym, ap, ◌∙◌, subst, arith}
use Rattle.std.proofs.Common.{Result, Ok, Err, OnOk}
use Rattle.std.specs.List.{slice_get}
use Rattle.std.specs.Prelude.{slice_index, slice_index_or}
use Rattle.std.proofs.lemmas.List.Elements.{All-contains, All-push, All-weaker, Contains-append_left, Contains-append_right, Contains-append_cases}
use Rattle.std.proofs.lemmas.List.Elements.{Contains-push, Contains-push_cases}
use Rattle.std.proofs.lemmas.Option.{slice_get_within, slice_get-get_or, get_or_from_slice_get}
use Rattle.lore_lists.proofs.MemberLaws.{Contains-none}
use Rattle.list_laws.proofs.MemberLaws.{All-from_members}
use Rattle.block_haste.specs.inside.Hastening.{AreRenamed, AreWritten, AreChanged, AreInLists, KeepLists, KeepOthers, AreFiled}
use Rattle.block_haste.specs.inside.Hastening.{IsChange, AreChangesIn}
use Rattle.block_haste.specs.inside.Hastening.{IsMovedFrom, IsMovePushed, AreSwaps, AreExchanged}
use Rattle.block_rounds.proofs.MapLaws.{same_or_not}
use Rattle.block_haste.proofs.MoveLaws.{AreRenamed-swapped}

-- nodes that are moved stand in the lists of their blocks
pub AreInLists-filed : (old new : List (List ℕ)) (moves changes : List (ℕ × ℕ)) (numbers next : List ℕ) → length next ≡ length numbers
    → AreInLists old numbers → AreWritten moves numbers next → AreChangesIn numbers moves changes → KeepLists old new
    → AreFiled changes new → AreInLists new next
AreInLists-filed old new moves changes numbers next every listed written split kept filed node live =
    let below : node < length numbers = omega (arith, live, every) in
    let still : slice_index numbers node ≡ slice_index next node → Contains (slice_index_or new (slice_index next node) []) node =
    λ same. kept (slice_index next node) node (subst (λ (k : ℕ). Contains (slice_index_or old k []) node) same (listed node below)) in
    elim (written node below) [
      | inl moved ↦ elim (All-contains (λ (move : ℕ × ℕ). (slice_index numbers move.0 ≡ move.1) ⊎ Contains changes move) moves (node, slice_index next node) split moved) [
        | inl same ↦ still same
        | inr change ↦ All-contains (λ (move : ℕ × ℕ). Contains (slice_index_or new move.1 []) move.0) changes (node, slice_index next node) filed change
      ]
      | inr unmoved ↦ still (sym unmoved.0)
    ]

-- one move more, among the changes where it is one
pub AreChangesIn-more : (numbers : List ℕ) (moves : List (ℕ × ℕ)) (move : ℕ × ℕ) (old new : List (ℕ × ℕ))
    → IsChange move (slice_index numbers move.0) old new → AreChangesIn numbers moves old → AreChangesIn numbers (moves ++ move ∷ []) new
AreChangesIn-more numbers moves move old new (inl same) before =
    subst (λ (c : List (ℕ × ℕ)). AreChangesIn numbers (moves ++ move ∷ []) c) (sym same.1)
    (All-push (λ (m : ℕ × ℕ). (slice_index numbers m.0 ≡ m.1) ⊎ Contains old m) moves move before (inl same.0))
AreChangesIn-more numbers moves move old new (inr pushed) before =
    subst (λ (c : List (ℕ × ℕ)). AreChangesIn numbers (moves ++ move ∷ []) c) (sym pushed)
    (All-push (λ (m : ℕ × ℕ). (slice_index numbers m.0 ≡ m.1) ⊎ Contains (old ++ move ∷ []) m) moves move
    (All-weaker (λ (m : ℕ × ℕ). (slice_index numbers m.0 ≡ m.1) ⊎ Contains old m) (λ (m : ℕ × ℕ). (slice_index numbers m.0 ≡ m.1) ⊎ Contains (old ++ move ∷ []) m)
    (λ m either. elim either [ inl is ↦ inl is | inr at ↦ inr (Contains-append_left old (move ∷ []) m at) ]) moves before)
    (inr (Contains-push old move)))

module _ (one other : ℕ) (numbers : List ℕ) where
  -- moves of the nodes of two blocks, as they are found in their lists
  pub AreSwaps-found : (lists : List (List ℕ)) (first second moves : List (ℕ × ℕ)) → AreInLists lists numbers
      → ((move : ℕ × ℕ) → Contains first move ↔ IsMovedFrom (slice_index_or lists one []) numbers one other move)
      → ((move : ℕ × ℕ) → Contains second move ↔ IsMovedFrom (slice_index_or lists other []) numbers other one move)
      → moves ≡ first ++ second → AreSwaps one other numbers moves
  AreSwaps-found lists first second moves listed firsts seconds is =
      let each : (move : ℕ × ℕ) → Contains moves move → Contains first move ⊎ Contains second move =
      λ move at. Contains-append_cases first second move (subst (λ (l : List (ℕ × ℕ)). Contains l move) is at) in
      record {
        within = All-from_members (λ move. move.0 < length numbers) moves (λ move at. elim (each move at) [
          | inl front ↦ slice_get_within numbers move.0 one ((firsts move).0 front).2
          | inr back ↦ slice_get_within numbers move.0 other ((seconds move).0 back).2
        ]);
        swapped = All-from_members (λ move. ((slice_index numbers move.0 ≡ one) × (move.1 ≡ other)) ⊎ ((slice_index numbers move.0 ≡ other) × (move.1 ≡ one)))
            moves (λ move at. elim (each move at) [
              | inl front ↦ (let from = (firsts move).0 front in
                  inl (get_or_from_slice_get numbers move.0 one 0 from.2, from.0))
              | inr back ↦ (let from = (seconds move).0 back in
                  inr (get_or_from_slice_get numbers move.0 other 0 from.2, from.0))
            ]);
        every = λ node live either. elim either [
          | inl here ↦
              let at : slice_get numbers node ≡ Some one = slice_get-get_or numbers node 0 live ∙ ap (λ (k : ℕ). Some k) here in
              let held = subst (λ (k : ℕ). Contains (slice_index_or lists k []) node) here (listed node live) in (
                other,
                subst (λ (l : List (ℕ × ℕ)). Contains l (node, other)) (sym is)
                    (Contains-append_left first second (node, other) ((firsts (node, other)).1 (refl, held, at))),
              )
          | inr there ↦
              let at : slice_get numbers node ≡ Some other = slice_get-get_or numbers node 0 live ∙ ap (λ (k : ℕ). Some k) there in
              let held = subst (λ (k : ℕ). Contains (slice_index_or lists k []) node) there (listed node live) in (
                one,
                subst (λ (l : List (ℕ × ℕ)). Contains l (node, one)) (sym is)
                    (Contains-append_right first second (node, one) ((seconds (node, one)).1 (refl, held, at))),
              )
        ];
      }

  -- lists of two blocks that were emptied and filled with the nodes that are moved
  pub AreInLists-swapped : (lists first second new : List (List ℕ)) (moves : List (ℕ × ℕ)) (next : List ℕ) → length next ≡ length numbers
      → AreInLists lists numbers → AreSwaps one other numbers moves → AreWritten moves numbers next
      → KeepOthers one lists first → KeepOthers other first second → KeepLists second new → AreFiled moves new → AreInLists new next
  AreInLists-swapped lists first second new moves next every listed swaps written cleared emptied kept filed node live =
      let below : node < length numbers = omega (arith, live, every) in
      elim (written node below) [
        | inl moved ↦ All-contains (λ (move : ℕ × ℕ). Contains (slice_index_or new move.1 []) move.0) moves (node, slice_index next node) filed moved
        | inr still ↦
            let number = slice_index numbers node in
            let not_one : number ≢ one = λ same. (let move = swaps.every node below (inl same) in still.1 move.0 move.1) in
            let not_other : number ≢ other = λ same. (let move = swaps.every node below (inr same) in still.1 move.0 move.1) in
            subst (λ (k : ℕ). Contains (slice_index_or new k []) node) (sym still.0)
            (kept number node (emptied number node not_other (cleared number node not_one (listed node below))))
      ]

  pub AreExchanged-swapped : (moves : List (ℕ × ℕ)) (next before after : List ℕ) → length next ≡ length numbers
      → AreSwaps one other numbers moves → AreWritten moves numbers next
      → ((node : ℕ) → Contains before node → Contains after node) → All (λ move. Contains after move.0) moves
      → ((count : ℕ) → All (λ move. move.0 < count) moves → All (λ node. node < count) before → All (λ node. node < count) after)
      → All (λ node. node < length numbers) before → AreExchanged numbers before next after
  AreExchanged-swapped moves next before after every swaps written kept noted low within = record {
    renamed = AreRenamed-swapped one other numbers moves next swaps written;
    every = every;
    kept = kept;
    changed = λ node live. elim (written node (omega (arith, live, every))) [
      | inl moved ↦ inr (All-contains (λ (move : ℕ × ℕ). Contains after move.0) moves (node, slice_index next node) noted moved)
      | inr still ↦ inl (sym still.0)
    ];
    within = low (length numbers) swaps.within within;
  }

-- what follows from three facts of an `Ok`
pub ok-from_three : {T E : Type 0} (r : Result T E) (P Q R S : Type 0) → (P → Q → R → S) → OnOk r P → OnOk r Q → OnOk r R → OnOk r S
ok-from_three (Ok value) P Q R S all p q r = all p q r
ok-from_three (Err error) P Q R S all p q r = tt

-- what holds anyway holds of an `Ok`
pub ok-anyway : {T E : Type 0} (r : Result T E) (P : Type 0) → P → OnOk r P
ok-anyway (Ok value) P p = p
ok-anyway (Err error) P p = tt

pub AreExchanged-none : (numbers nodes : List ℕ) → All (λ node. node < length numbers) nodes → AreExchanged numbers nodes numbers nodes
AreExchanged-none numbers nodes within = record {
  renamed = λ x y x_live y_live same. same;
  every = refl;
  kept = λ node at. at;
  changed = λ node live. inl refl;
  within = within;
}

-- one exchange after others
pub AreExchanged-then : (old before middle between new after : List ℕ) → AreExchanged old before middle between
    → AreExchanged middle between new after → AreExchanged old before new after
AreExchanged-then old before middle between new after first second = record {
  renamed = λ x y x_live y_live same.
      second.renamed x y (omega (arith, first.every, x_live)) (omega (arith, first.every, y_live)) (first.renamed x y x_live y_live same);
  every = second.every ∙ first.every;
  kept = λ node at. second.kept node (first.kept node at);
  changed = λ node live.
      elim (second.changed node live) [
        | inr noted ↦ inr noted
        | inl same ↦ elim (first.changed node (omega (arith, second.every, live))) [
          | inr earlier ↦ inr (second.kept node earlier)
          | inl also ↦ inl (also ∙ same)
        ]
      ];
  within = subst (λ (n : ℕ). All (λ node. node < n) after) first.every second.within;
}

-- after an exchange all that changed is among the nodes
pub AreChanged-exchanged : (tags numbers next before after : List ℕ) → AreChanged tags numbers before → AreExchanged numbers before next after
    → AreChanged tags next after
AreChanged-exchanged tags numbers next before after changes exchanged node live = elim (exchanged.changed node live) [
  | inr noted ↦ inr noted
  | inl same ↦ elim (changes node (omega (arith, exchanged.every, live))) [
    | inr earlier ↦ inr (exchanged.kept node earlier)
    | inl also ↦ inl (also ∙ same)
  ]
]

-- ---- moves of the nodes of a list that are in a block
module _ (numbers : List ℕ) (from to : ℕ) where
  abbrev pub AreMovesFrom : List ℕ → List (ℕ × ℕ) → Type 0
  AreMovesFrom list moves = (move : ℕ × ℕ) → Contains moves move ↔ IsMovedFrom list numbers from to move

  pub moves-none : AreMovesFrom [] []
  moves-none move = (λ at. absurd (Contains-none move at), λ is. absurd (Contains-none move.0 is.1))

  pub moves-more : (list : List ℕ) (node : ℕ) (old new : List (ℕ × ℕ)) → IsMovePushed numbers from to node old new
      → AreMovesFrom list old → AreMovesFrom (list ++ node ∷ []) new
  moves-more list node old new (inl pushed) before move = (
    λ at. elim (Contains-push_cases old (node, to) move (subst (λ (l : List (ℕ × ℕ)). Contains l move) pushed.1 at)) [
      | inl earlier ↦ (let is = (before move).0 earlier in (is.0, Contains-append_left list (node ∷ []) move.0 is.1, is.2))
      | inr last ↦ (
        sym (ap (λ (m : ℕ × ℕ). m.1) last),
        subst (λ (k : ℕ). Contains (list ++ node ∷ []) k) (ap (λ (m : ℕ × ℕ). m.0) last) (Contains-push list node),
        subst (λ (k : ℕ). slice_get numbers k ≡ Some from) (ap (λ (m : ℕ × ℕ). m.0) last) pushed.0,
      )
    ],
    λ is. subst (λ (l : List (ℕ × ℕ)). Contains l move) (sym pushed.1) (elim (Contains-push_cases list node move.0 is.1) [
      | inl earlier ↦ Contains-append_left old ((node, to) ∷ []) move ((before move).1 (is.0, earlier, is.2))
      | inr last ↦
          let same : (node, to) ≡ move = λ i. (last i, sym is.0 i) in
          subst (λ (m : ℕ × ℕ). Contains (old ++ (node, to) ∷ []) m) same (Contains-push old (node, to))
    ]),
  )
  moves-more list node old new (inr skipped) before move = (
    λ at.
        let is = (before move).0 (subst (λ (l : List (ℕ × ℕ)). Contains l move) skipped.1 at) in
        (is.0, Contains-append_left list (node ∷ []) move.0 is.1, is.2),
    λ is. subst (λ (l : List (ℕ × ℕ)). Contains l move) (sym skipped.1) (elim (Contains-push_cases list node move.0 is.1) [
      | inl earlier ↦ (before move).1 (is.0, earlier, is.2)
      | inr last ↦ absurd (skipped.0 (subst (λ (k : ℕ). slice_get numbers k ≡ Some from) (sym last) is.2))
    ]),
  )

-- facts of slices are facts of the lists that they show
pub AreInLists-shown : (shown lists : List (List ℕ)) (listed numbers : List ℕ) → shown ≡ lists → listed ≡ numbers
    → AreInLists lists numbers → AreInLists shown listed
AreInLists-shown shown lists listed numbers first second are =
    subst (λ (n : List ℕ). AreInLists shown n) (sym second) (subst (λ (l : List (List ℕ)). AreInLists l numbers) (sym first) are)
