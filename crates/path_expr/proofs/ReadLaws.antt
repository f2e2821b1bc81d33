-- A compiled path read: what is read from where it begins is a word of the path and then what comes after it.
use Rattle.std.proofs.Common.{◌≡◌, ◌↔◌, ℕ, zero, suc, ◌+◌, ◌<◌, ◌≤◌, ◌⊎◌, inl, inr, List, [], ◌∷◌, ◌++◌, length, Some, refl, sym, ap, ◌∙◌, subst, arith}
use Rattle.std.specs.List.{slice_get}
use Rattle.std.proofs.lemmas.Option.{slice_get_within}
use Rattle.std.proofs.lemmas.List.{append_assoc, append-nil, length-append}
use Rattle.lore_base.specs.Paths.{PathTree, PathTrees, step, any, seq, alt, opt, star, plus, none, more, leaves, leaves_of, Times, Spells, SpellInTurn, SomeSpells}
use Rattle.path_expr.specs.Types.{Label, States, Leaf, One, AnyLabel}
use Rattle.path_expr.specs.Machines.{Machine, IsIn, Takes, Moves, MovesThrough, Recognises}
use Rattle.path_expr.specs.inside.Compiled.{Begins, BeginsInTurn, BeginsSome, IsLeaf, Compiled, CompiledInTurn, CompiledEach, IsSet, Grows, LaysPath}
use Rattle.path_expr.proofs.BeginLaws.{Begins-again}
use Rattle.path_expr.proofs.CompiledLaws.{Compiled-grown}

-- the word is read from some state of a kind to the end
abbrev IsReadFrom : List (List ℕ) → Machine → (ℕ → Type 0) → List Label → Type 0
IsReadFrom labels machine From word = (state : ℕ) × From state × MovesThrough labels machine state word 64

-- a word that passes, and then what is read from a state of a kind
abbrev IsReadOn : List (List ℕ) → Machine → (List Label → Type 0) → (ℕ → Type 0) → List Label → Type 0
IsReadOn labels machine Passes After word =
    (first : List Label) × (rest : List Label) × (word ≡ first ++ rest) × Passes first × IsReadFrom labels machine After rest

-- either the empty word passes and the state is of the one kind; or a word that isn't empty passes, and the rest is
-- read from a state of the other
abbrev IsReadHere : List (List ℕ) → Machine → (List Label → Type 0) → (ℕ → Type 0) → (ℕ → Type 0) → ℕ → List Label → Type 0
IsReadHere labels machine Passes Here After state word =
    (Passes [] × Here state)
    ⊎ ((first : List Label) × (rest : List Label) × (word ≡ first ++ rest) × (length rest < length word) × Passes first
    × IsReadFrom labels machine After rest)

module _ (labels : List (List ℕ)) (machine : Machine) (few : length machine.leaves ≤ 64) where
  -- a move from a leaf: the leaf takes the label, and the next state may come after it
  leaf_read : (place : ℕ) (leaf : Leaf) (After : ℕ → Type 0) → IsLeaf machine place leaf After
      → (label : Label) (next : ℕ) → Moves labels machine place label next → Takes labels leaf label × After next
  leaf_read place leaf After is label next moves =
      let same : moves.0.0 ≡ leaf = let a = moves.0.1 in let b = is.1 in cc in
      let states : moves.1.0 ≡ is.0 = let a = moves.1.1 in let b = is.2 in cc in
      (subst (λ (l : Leaf). Takes labels l label) same moves.0.2, (is.3 next).0 (subst (λ (s : States). IsIn s next) states moves.1.2))

  leaf_moves : (place : ℕ) (leaf : Leaf) (After : ℕ → Type 0) → IsLeaf machine place leaf After
      → (label : Label) (next : ℕ) → Takes labels leaf label → After next → Moves labels machine place label next
  leaf_moves place leaf After is label next takes after = ((leaf, is.1, takes), (is.0, is.2, (is.3 next).1 after))

  -- no leaf stands at the end
  leaf_before_end : (place : ℕ) (leaf : Leaf) (After : ℕ → Type 0) → IsLeaf machine place leaf After → place < 64
  leaf_before_end place leaf After is = omega (arith, slice_get_within machine.leaves place leaf is.1)

  read_more : (Passes Others : List Label → Type 0) (Here After : ℕ → Type 0) → ((word : List Label) → Passes word → Others word)
      → (state : ℕ) (word : List Label) → IsReadHere labels machine Passes Here After state word → IsReadHere labels machine Others Here After state word
  read_more Passes Others Here After wider state word (inl here) = inl (wider [] here.0, here.1)
  read_more Passes Others Here After wider state word (inr read) = inr (read.0, read.1, read.2, read.3, wider read.0 read.4, read.5)

  -- a step of the path
  step_read : (place : ℕ) (leaf : Leaf) (After : ℕ → Type 0) → IsLeaf machine place leaf After
      → (word : List Label) → MovesThrough labels machine place word 64
      → (label : Label) × (rest : List Label) × (word ≡ label ∷ rest) × Takes labels leaf label × IsReadFrom labels machine After rest
  step_read place leaf After is [] run = absurd (omega (arith, leaf_before_end place leaf After is, run))
  step_read place leaf After is (label ∷ word) run =
      let read = leaf_read place leaf After is label run.0 run.1 in
      (label, word, refl, read.0, (run.0, read.1, run.2))

  -- any word
  any_read : (place : ℕ) (After : ℕ → Type 0) → IsLeaf machine place AnyLabel (λ s. (s ≡ place) ⊎ After s)
      → (word : List Label) → MovesThrough labels machine place word 64
      → (first : List Label) × (rest : List Label) × (word ≡ first ++ rest) × (length rest < length word) × IsReadFrom labels machine After rest
  any_read place After is [] run = absurd (omega (arith, leaf_before_end place AnyLabel (λ s. (s ≡ place) ⊎ After s) is, run))
  any_read place After is (label ∷ word) run =
      elim ((leaf_read place AnyLabel (λ s. (s ≡ place) ⊎ After s) is label run.0 run.1).1) [
        | inl same ↦
            let later = any_read place After is word (subst (λ (s : ℕ). MovesThrough labels machine s word 64) same run.2) in
            (label ∷ later.0, later.1, ap (λ (w : List Label). label ∷ w) later.2, omega (arith, later.3), later.4)
        | inr after ↦ (label ∷ [], word, refl, omega arith, (run.0, after, run.2))
      ]

  any_whole : (place : ℕ) (After : ℕ → Type 0) → IsLeaf machine place AnyLabel (λ s. (s ≡ place) ⊎ After s)
      → (first rest : List Label) → IsReadFrom labels machine After rest → IsReadFrom labels machine (λ s. (s ≡ place) ⊎ After s) (first ++ rest)
  any_whole place After is [] rest read = (read.0, inr read.1, read.2)
  any_whole place After is (label ∷ first) rest read =
      let later = any_whole place After is first rest read in
      (place, inl refl, (later.0, leaf_moves place AnyLabel (λ s. (s ≡ place) ⊎ After s) is label later.0 tt later.1, later.2))

  -- rounds of a part, as long as they last
  rounds_read : (part : PathTree) (base : ℕ) (After : ℕ → Type 0) (Passes : List Label → Type 0)
      → ((state : ℕ) (word : List Label) → Begins part base After state → MovesThrough labels machine state word 64
      → IsReadHere labels machine Passes After (λ s. Begins part base After s ⊎ After s) state word)
      → (bound : ℕ) (word : List Label) → length word ≤ bound → IsReadFrom labels machine (λ s. Begins part base After s ⊎ After s) word
      → IsReadOn labels machine (λ w. (count : ℕ) × Times Passes count w) After word
  rounds_read part base After Passes read bound word small (state, inr after, run) = ([], word, refl, (zero, refl), (state, after, run))
  rounds_read part base After Passes read zero word small (state, inl begins, run) = elim (read state word begins run) [
    | inl here ↦ ([], word, refl, (zero, refl), (state, here.1, run))
    | inr some ↦ absurd (omega (arith, some.3))
  ]
  rounds_read part base After Passes read (suc bound) word small (state, inl begins, run) = elim (read state word begins run) [
    | inl here ↦ ([], word, refl, (zero, refl), (state, here.1, run))
    | inr some ↦
        let later = rounds_read part base After Passes read bound some.1 (omega (arith, some.3)) some.5 in (
          some.0 ++ later.0,
          later.1,
          some.2 ∙ ap (λ (w : List Label). some.0 ++ w) later.2 ∙ sym (append_assoc some.0 later.0 later.1),
          (suc later.3.0, (some.0, later.0, refl, some.4, later.3.1)),
          later.4,
        )
  ]

  rounds_whole : (part : PathTree) (base : ℕ) (After : ℕ → Type 0) (Passes : List Label → Type 0)
      → ((first rest : List Label) → Passes first → IsReadFrom labels machine (λ s. Begins part base After s ⊎ After s) rest
      → IsReadFrom labels machine (Begins part base After) (first ++ rest))
      → (count : ℕ) (first rest : List Label) → Times Passes count first → IsReadFrom labels machine After rest
      → IsReadFrom labels machine (λ s. Begins part base After s ⊎ After s) (first ++ rest)
  rounds_whole part base After Passes whole zero first rest empty read =
      (read.0, inr read.1, subst (λ (w : List Label). MovesThrough labels machine read.0 (w ++ rest) 64) (sym empty) read.2)
  rounds_whole part base After Passes whole (suc count) first rest times read =
      let later = rounds_whole part base After Passes whole count times.1 rest times.4 read in
      let all = whole times.0 (times.1 ++ rest) times.3 later in (
        all.0,
        inl all.1,
        subst (λ (w : List Label). MovesThrough labels machine all.0 w 64)
            (sym (append_assoc times.0 times.1 rest) ∙ ap (λ (w : List Label). w ++ rest) (sym times.2)) all.2,
      )

  mutual
    -- what is read from where a path begins
    path_read : (path : PathTree) (base : ℕ) (After : ℕ → Type 0) → Compiled machine path base After
        → (Here : ℕ → Type 0) (state : ℕ) (word : List Label) → Begins path base Here state → MovesThrough labels machine state word 64
        → IsReadHere labels machine (Spells labels path) Here After state word
    path_read (step pattern) base After is Here state word begins run =
        let read = step_read base (One pattern) After is word (subst (λ (s : ℕ). MovesThrough labels machine s word 64) begins run) in
        inr (read.0 ∷ [], read.1, read.2, omega (arith, ap (λ (w : List Label). length w) read.2), (read.0, refl, read.3), read.4)
    path_read any base After is Here state word (inl same) run =
        let read = any_read base After is word (subst (λ (s : ℕ). MovesThrough labels machine s word 64) same run) in
        inr (read.0, read.1, read.2, read.3, tt, read.4)
    path_read any base After is Here state word (inr here) run = inl (tt, here)
    path_read (seq parts) base After is Here state word begins run = in_turn_read parts base After is Here state word begins run
    path_read (alt parts) base After is Here state word begins run = some_read parts base After is Here state word begins run
    path_read (opt part) base After is Here state word (inl begins) run =
        read_more (Spells labels part) (Spells labels (opt part)) Here After (λ w p. inr p) state word (path_read part base After is Here state word begins run)
    path_read (opt part) base After is Here state word (inr here) run = inl (inl refl, here)
    path_read (star part) base After is Here state word (inr here) run = inl ((zero, refl), here)
    path_read (star part) base After is Here state word (inl begins) run =
        elim (path_read part base (λ s. Begins part base After s ⊎ After s) is Here state word begins run) [
          | inl here ↦ inl ((zero, refl), here.1)
          | inr some ↦
              let later = rounds_read part base After (Spells labels part)
              (λ s w b r. path_read part base (λ s. Begins part base After s ⊎ After s) is After s w b r) (length some.1) some.1 (omega arith) some.5 in
              inr (
                some.0 ++ later.0,
                later.1,
                some.2 ∙ ap (λ (w : List Label). some.0 ++ w) later.2 ∙ sym (append_assoc some.0 later.0 later.1),
                omega (arith, some.3, ap (λ (w : List Label). length w) later.2, length-append later.0 later.1),
                (suc later.3.0, (some.0, later.0, refl, some.4, later.3.1)),
                later.4,
              )
        ]
    path_read (plus part) base After is Here state word begins run =
        elim (path_read part base (λ s. Begins part base After s ⊎ After s) is Here state word begins run) [
          | inl here ↦ inl ((zero, ([], [], refl, here.0, refl)), here.1)
          | inr some ↦
              let later = rounds_read part base After (Spells labels part)
              (λ s w b r. path_read part base (λ s. Begins part base After s ⊎ After s) is After s w b r) (length some.1) some.1 (omega arith) some.5 in
              inr (
                some.0 ++ later.0,
                later.1,
                some.2 ∙ ap (λ (w : List Label). some.0 ++ w) later.2 ∙ sym (append_assoc some.0 later.0 later.1),
                omega (arith, some.3, ap (λ (w : List Label). length w) later.2, length-append later.0 later.1),
                (later.3.0, (some.0, later.0, refl, some.4, later.3.1)),
                later.4,
              )
        ]

    in_turn_read : (parts : PathTrees) (base : ℕ) (After : ℕ → Type 0) → CompiledInTurn machine parts base After
        → (Here : ℕ → Type 0) (state : ℕ) (word : List Label) → BeginsInTurn parts base Here state → MovesThrough labels machine state word 64
        → IsReadHere labels machine (SpellInTurn labels parts) Here After state word
    in_turn_read none base After is Here state word here run = inl (refl, here)
    in_turn_read (more part parts) base After is Here state word begins run =
        elim (path_read part (base + leaves_of parts) (BeginsInTurn parts base After) is.0 (BeginsInTurn parts base Here) state word begins run) [
          | inl here ↦ elim (in_turn_read parts base After is.1 Here state word here.1 run) [
            | inl both ↦ inl (([], [], refl, here.0, both.0), both.1)
            | inr later ↦ inr (later.0, later.1, later.2, later.3, ([], later.0, refl, here.0, later.4), later.5)
          ]
          | inr some ↦ elim (in_turn_read parts base After is.1 After some.5.0 some.1 some.5.1 some.5.2) [
            | inl both ↦ inr (some.0, some.1, some.2, some.3, (some.0, [], sym (append-nil some.0), some.4, both.0), (some.5.0, both.1, some.5.2))
            | inr later ↦ inr (
              some.0 ++ later.0,
              later.1,
              some.2 ∙ ap (λ (w : List Label). some.0 ++ w) later.2 ∙ sym (append_assoc some.0 later.0 later.1),
              omega (arith, some.3, later.3),
              (some.0, later.0, refl, some.4, later.4),
              later.5,
            )
          ]
        ]

    some_read : (parts : PathTrees) (base : ℕ) (After : ℕ → Type 0) → CompiledEach machine parts base After
        → (Here : ℕ → Type 0) (state : ℕ) (word : List Label) → BeginsSome parts base Here state → MovesThrough labels machine state word 64
        → IsReadHere labels machine (SomeSpells labels parts) Here After state word
    some_read none base After is Here state word begins run = absurd begins
    some_read (more part parts) base After is Here state word (inl begins) run =
        read_more (Spells labels part) (SomeSpells labels (more part parts)) Here After (λ w p. inl p) state word
        (path_read part (base + leaves_of parts) After is.0 Here state word begins run)
    some_read (more part parts) base After is Here state word (inr begins) run =
        read_more (SomeSpells labels parts) (SomeSpells labels (more part parts)) Here After (λ w p. inr p) state word
        (some_read parts base After is.1 Here state word begins run)

  mutual
    -- a word of the path in front of what is read after it is read from where the path begins
    path_whole : (path : PathTree) (base : ℕ) (After : ℕ → Type 0) → Compiled machine path base After
        → (first rest : List Label) → Spells labels path first → IsReadFrom labels machine After rest
        → IsReadFrom labels machine (Begins path base After) (first ++ rest)
    path_whole (step pattern) base After is first rest spells read =
        subst (λ (w : List Label). IsReadFrom labels machine (λ s. s ≡ base) (w ++ rest)) (sym spells.1)
        (base, refl, (read.0, leaf_moves base (One pattern) After is spells.0 read.0 spells.2 read.1, read.2))
    path_whole any base After is first rest spells read = any_whole base After is first rest read
    path_whole (seq parts) base After is first rest spells read = in_turn_whole parts base After is first rest spells read
    path_whole (alt parts) base After is first rest spells read = some_whole parts base After is first rest spells read
    path_whole (opt part) base After is first rest (inl empty) read =
        (read.0, inr read.1, subst (λ (w : List Label). MovesThrough labels machine read.0 (w ++ rest) 64) (sym empty) read.2)
    path_whole (opt part) base After is first rest (inr spells) read =
        let all = path_whole part base After is first rest spells read in
        (all.0, inl all.1, all.2)
    path_whole (star part) base After is first rest spells read =
        rounds_whole part base After (Spells labels part)
        (λ f r p leads. let all = path_whole part base (λ s. Begins part base After s ⊎ After s) is f r p leads in
        (all.0, (Begins-again part base After all.0).0 all.1, all.2))
        spells.0 first rest spells.1 read
    path_whole (plus part) base After is first rest spells read =
        let others = rounds_whole part base After (Spells labels part)
        (λ f r p leads. let all = path_whole part base (λ s. Begins part base After s ⊎ After s) is f r p leads in
        (all.0, (Begins-again part base After all.0).0 all.1, all.2))
        spells.0 spells.1.1 rest spells.1.4 read in
        let all = path_whole part base (λ s. Begins part base After s ⊎ After s) is spells.1.0 (spells.1.1 ++ rest) spells.1.3 others in (
          all.0,
          (Begins-again part base After all.0).0 all.1,
          subst (λ (w : List Label). MovesThrough labels machine all.0 w 64)
              (sym (append_assoc spells.1.0 spells.1.1 rest) ∙ ap (λ (w : List Label). w ++ rest) (sym spells.1.2)) all.2,
        )

    in_turn_whole : (parts : PathTrees) (base : ℕ) (After : ℕ → Type 0) → CompiledInTurn machine parts base After
        → (first rest : List Label) → SpellInTurn labels parts first → IsReadFrom labels machine After rest
        → IsReadFrom labels machine (BeginsInTurn parts base After) (first ++ rest)
    in_turn_whole none base After is first rest empty read =
        (read.0, read.1, subst (λ (w : List Label). MovesThrough labels machine read.0 (w ++ rest) 64) (sym empty) read.2)
    in_turn_whole (more part parts) base After is first rest spells read =
        let later = in_turn_whole parts base After is.1 spells.1 rest spells.4 read in
        let all = path_whole part (base + leaves_of parts) (BeginsInTurn parts base After) is.0 spells.0 (spells.1 ++ rest) spells.3 later in (
          all.0,
          all.1,
          subst (λ (w : List Label). MovesThrough labels machine all.0 w 64)
              (sym (append_assoc spells.0 spells.1 rest) ∙ ap (λ (w : List Label). w ++ rest) (sym spells.2)) all.2,
        )

    some_whole : (parts : PathTrees) (base : ℕ) (After : ℕ → Type 0) → CompiledEach machine parts base After
        → (first rest : List Label) → SomeSpells labels parts first → IsReadFrom labels machine After rest
        → IsReadFrom labels machine (BeginsSome parts base After) (first ++ rest)
    some_whole none base After is first rest spells read = absurd spells
    some_whole (more part parts) base After is first rest (inl spells) read =
        let all = path_whole part (base + leaves_of parts) After is.0 first rest spells read in
        (all.0, inl all.1, all.2)
    some_whole (more part parts) base After is first rest (inr spells) read =
        let all = some_whole parts base After is.1 first rest spells read in
        (all.0, inr all.1, all.2)

-- nothing is read at the end but the empty word
end_reads_nothing : (labels : List (List ℕ)) (machine : Machine) → length machine.leaves ≤ 64 → (state : ℕ) → state ≡ 64
    → (word : List Label) → MovesThrough labels machine state word 64 → word ≡ []
end_reads_nothing labels machine few state same [] run = refl
end_reads_nothing labels machine few state same (label ∷ word) run =
    absurd (omega (arith, slice_get_within machine.leaves state run.1.0.0 run.1.0.1))

-- a path compiled into a machine that begins where the path does, with the end after it
stands_for : (machine : Machine) (path : PathTree) (final : States) → length machine.leaves ≤ 64
    → ((s : ℕ) → IsIn final s ↔ (s ≡ 64)) → Compiled machine path 0 (IsIn final)
    → ((s : ℕ) → IsIn machine.start s ↔ Begins path 0 (IsIn final) s) → Recognises machine path
stands_for machine path final few ends is begins labels word = (
  λ accepts. elim (path_read labels machine few path 0 (IsIn final) is (IsIn final) accepts.0 word ((begins accepts.0).0 accepts.1) accepts.2) [
    | inl here ↦
        let empty = end_reads_nothing labels machine few accepts.0 ((ends accepts.0).0 here.1) word accepts.2 in
        subst (λ (w : List Label). Spells labels path w) (sym empty) here.0
    | inr some ↦
        let empty = end_reads_nothing labels machine few some.5.0 ((ends some.5.0).0 some.5.1) some.1 some.5.2 in
        subst (λ (w : List Label). Spells labels path w)
        (sym (append-nil some.0) ∙ ap (λ (w : List Label). some.0 ++ w) (sym empty) ∙ sym some.2) some.4
  ],
  λ spells.
      let all = path_whole labels machine few path 0 (IsIn final) is word [] spells (64, (ends 64).1 refl, refl) in
      (all.0, (begins all.0).1 all.1, subst (λ (w : List Label). MovesThrough labels machine all.0 w 64) (append-nil word) all.2),
)

-- a path laid into an empty machine, which then begins where the path does
pub built : (path : PathTree) (final start : States) (old new machine : Machine) → LaysPath path final start old new
    → length old.leaves ≡ 0 → machine.leaves ≡ new.leaves → machine.follow ≡ new.follow → machine.start ≡ start
    → length machine.leaves ≤ 64 → ((s : ℕ) → IsIn final s ↔ (s ≡ 64)) → Recognises machine path
built path final start old new machine laid empty leaves follow begins few ends =
    let grows : Grows new machine = record {
      leaves = λ place leaf is. subst (λ (ls : List Leaf). slice_get ls place ≡ Some leaf) (sym leaves) is;
      follow = λ place states is. subst (λ (ss : List States). slice_get ss place ≡ Some states) (sym follow) is;
    } in
    let made : Compiled new path 0 (IsIn final) = subst (λ (base : ℕ). Compiled new path base (IsIn final)) empty laid.made in
    let starts : IsSet start (Begins path 0 (IsIn final)) = subst (λ (base : ℕ). IsSet start (Begins path base (IsIn final))) empty laid.begins in
    stands_for machine path final few ends (Compiled-grown new machine grows path 0 (IsIn final) made)
    (subst (λ (s : States). IsSet s (Begins path 0 (IsIn final))) (sym begins) starts)
