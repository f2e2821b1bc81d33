-- A turn of the machine: the last partial row gives way to those that its step makes of it, or is whole and taken away.
use Rattle.std.proofs.Common.{◌≡◌, ◌≢◌, ◌↔◌, ℕ, zero, suc, ◌+◌, ◌-◌, ◌*◌, ◌^◌, ◌<◌, ◌≤◌, inl, inr, List, [], ◌∷◌, ◌++◌, length, get_or, map, reverse, take, drop, set, Option, None, Some, refl, sym, ap, ◌∙◌, subst, arith}
use Rattle.std.specs.List.{All, AllPairs, Contains, slice_get}
use Rattle.std.specs.Option.{option_to_list, option_map}
use Rattle.std.proofs.Math.Nat.{mul-le-mul_right}
use Rattle.std.proofs.lemmas.Option.{none-some, same_Some, slice_get-map, slice_get_within, slice_get_read, slice_get-get_or}
use Rattle.std.proofs.Math.Seq.{take-length}
use Rattle.std.proofs.lemmas.List.{append_assoc, length-map, length-reverse, length-take, length_push, drop_all, reverse-append, take_more}
use Rattle.std.proofs.lemmas.List.Elements.{All-nil, All-cons, All-append, All-head, All-tail, All-contains, Contains-push}
use Rattle.std.proofs.lemmas.List.Sums.{sum_by_push, sum_by-append, sum_by-le}
use Rattle.lore_base.proofs.MemberLaws.{Contains-none}
use Rattle.list_laws.proofs.MemberLaws.{All-from_members, Contains-map, Contains-from_map}
use Rattle.list_laws.proofs.PairLaws.{AllPairs-front}
use Rattle.list_laws.proofs.PlaceLaws.{Contains-from_place}
use Rattle.lore_base.specs.Paths.{PathTree}
use Rattle.lorel_bound.specs.Plans.{StepTree, forward, from_guide, from_value, backward, check, filter}
use Rattle.plan_ops.specs.Types.{Oid, Start, PartialRow, RANGES}
use Rattle.plan_ops.specs.Types.starts
use Rattle.plan_laws.specs.Steps.{StepsOver, Meets, Finishes, IsLeft, slot_of}
use Rattle.plan_ops.specs.Rows.{ComesOf, IsToCome, AreSame, Gives, AreQuiet, IsGuided, FindsNothing, ReadNothing, left_of, work_left}
use Rattle.plan_ops.specs.declared.offers.Offer.{Offer}
use Rattle.plan_ops.specs.inside.Offers.{FillsSlot, IsOffer, IsKeptOffer, IsOfferAt, IsKeptAt, IsReplaced, offered, partial_at}
use Rattle.plan_laws.specs.Orders.{IsThere, Stands, AreStepsInOrder, CanBeReady}
use Rattle.plan_ops.specs.inside.Ready.{ReadyStep, ready_tree, HasFound}
use Rattle.plan_ops.specs.declared.ready_steps.ReadyStep.TheVariants as ready_steps
use Rattle.plan_ops.specs.inside.Keeping.{Kept, IsKeptBy, AreKeptBy}
use Rattle.plan_ops.specs.inside.Machines.{AreHinted, IsMachine, IsPopped}
use Rattle.plan_ops.specs.inside.Narrowing.{AreHintedAt}
use Rattle.plan_ops.proofs.StackLaws.{All-front, map-reverse, Contains-reverse, Contains-reversed, AllPairs-turned, Comes, IsApart, comes_replaced, apart_replaced, gives_last}
use Rattle.row_hints.proofs.SlotLaws.{last_place}
use Rattle.plan_ops.proofs.FinishLaws.{finished_by_kept, finishes_one, finished_whole}

-- the steps from a place on
pub drop_at : (steps : List StepTree) (n : ℕ) (step : StepTree) → slice_get steps n ≡ Some step → drop n steps ≡ step ∷ drop (n + 1) steps
drop_at [] n step at = absurd (none-some step at)
drop_at (first ∷ others) zero step at = ap (λ (s : StepTree). s ∷ others) (same_Some first step at)
drop_at (first ∷ others) (suc n) step at =
    let next : suc (n + 1) ≡ suc n + 1 = omega arith in
    drop_at others n step at ∙ ap (λ (k : ℕ). step ∷ drop k (first ∷ others)) next

pub ordered_at : (steps : List StepTree) (n : ℕ) → AreStepsInOrder steps → AreStepsInOrder (drop n steps)
ordered_at steps zero order = order
ordered_at [] (suc n) order = order
ordered_at (first ∷ others) (suc n) order = ordered_at others n order.1

-- a step that finds nothing is met by no row
pub nothing_meets : (over : StepsOver) (step : StepTree) (later : List StepTree) (row : List Oid) → FindsNothing over (step ∷ later) → Meets over step row → ⊥
nothing_meets over (forward start path slot) later row nothing met = nothing
nothing_meets over (from_guide named path slot) later row nothing met = nothing
nothing_meets over (from_value label op value rest slot) later row nothing met = nothing met.2.0 met.2.2
nothing_meets over (backward child path parent) later row nothing met = nothing
nothing_meets over (check child path named) later row nothing met = nothing
nothing_meets over filter later row nothing met = nothing

finds_nothing_alone : (over : StepsOver) (step : StepTree) (later : List StepTree) → FindsNothing over (step ∷ later) → FindsNothing over (step ∷ [])
finds_nothing_alone over (forward start path slot) later nothing = nothing
finds_nothing_alone over (from_guide named path slot) later nothing = nothing
finds_nothing_alone over (from_value label op value rest slot) later nothing = nothing
finds_nothing_alone over (backward child path parent) later nothing = nothing
finds_nothing_alone over (check child path named) later nothing = nothing
finds_nothing_alone over filter later nothing = nothing

-- steps that read no edge begin with one that reads none
pub quiet_alone : (over : StepsOver) (step : StepTree) (later : List StepTree) → AreQuiet over (step ∷ later) → AreQuiet over (step ∷ [])
quiet_alone over step later (inl guided) = inl (All-cons IsGuided step [] (All-head IsGuided step later guided) (All-nil IsGuided))
quiet_alone over step later (inr nothing) = inr (finds_nothing_alone over step later nothing)

-- what is left to do, of a list at whose end one is taken off or others come
work_left_push : (count : ℕ) (front : List PartialRow) (last : PartialRow)
    → work_left count (front ++ last ∷ []) ≡ work_left count front + left_of (count - last.step)
unfolding work_left
work_left_push count front last = sum_by_push (λ partial. left_of (count - partial.step)) front last

work_left_more : (count m : ℕ) (front more : List PartialRow) → All (λ partial. left_of (count - partial.step) ≤ m) more
    → work_left count (front ++ more) ≤ work_left count front + length more * m
unfolding work_left
work_left_more count m front more each =
    let both = sum_by-append (λ partial. left_of (count - partial.step)) front more in
    let few = sum_by-le (λ partial. left_of (count - partial.step)) m more each in
    omega (arith, both, few)

left_of_some : (k : ℕ) → 0 < left_of k
left_of_some zero = omega arith
left_of_some (suc k) = omega arith

left_of_less : (rows k n : ℕ) → rows < 2 ^ 64 → n ≡ suc k → rows * left_of k < left_of n
left_of_less rows k n few is =
    let at : left_of n ≡ 1 + 2 ^ 64 * left_of k = ap left_of is in
    let most : rows * left_of k ≤ 2 ^ 64 * left_of k = mul-le-mul_right (left_of k) (omega (arith, few)) in
    omega (arith, at, most)

-- what a turn of the machine leaves
pub record Turned (over : StepsOver) (steps : List StepTree) (old new : List PartialRow) : Type 0 where
  pub machine : IsMachine over steps new
  pub same : AreSame (IsToCome over steps old) (IsToCome over steps new)
  pub lighter : work_left (length steps) new < work_left (length steps) old
  pub quiet : ReadNothing over steps old → ReadNothing over steps new

module _ (over : StepsOver) (steps : List StepTree) (old new front : List PartialRow) (last : PartialRow) (step : StepTree) (offer : Offer)
    (machine : IsMachine over steps old) (at : slice_get steps last.step ≡ Some step)
    (offers : IsKeptOffer over step (drop (last.step + 1) steps) last.row offer)
    (was : old ≡ front ++ last ∷ []) (is : new ≡ front ++ map (partial_at (last.step + 1)) (reverse (offered offer last.row)))
    (few : length (offered offer last.row) < 2 ^ 64) where
  abbrev stands : PartialRow → List Oid → Type 0
  stands = ComesOf over steps

  abbrev later : List StepTree
  later = drop (last.step + 1) steps

  abbrev rows : List (List Oid)
  rows = offered offer last.row

  abbrev more : List PartialRow
  more = map (partial_at (last.step + 1)) (reverse rows)

  abbrev HasEight : PartialRow → Type 0
  HasEight partial = length partial.row ≡ RANGES

  abbrev Reads : PartialRow → Type 0
  Reads partial = AreQuiet over (drop partial.step steps)

  cut : drop last.step steps ≡ step ∷ later
  cut = drop_at steps last.step step at

  stands_well : Stands step later
  stands_well = (subst AreStepsInOrder cut (ordered_at steps last.step machine.in_order)).0

  there : Contains old last
  there = subst (λ (l : List PartialRow). Contains l last) (sym was) (Contains-push front last)

  long : length last.row ≡ RANGES
  long = All-contains HasEight old last machine.eight there

  -- one of those that come is one of the rows
  come_of : (partial : PartialRow) → Contains more partial → (row : List Oid) × Contains rows row × (partial_at (last.step + 1) row ≡ partial)
  come_of partial among =
      let found = Contains-from_map (partial_at (last.step + 1)) (reverse rows) partial among in
      (found.0, Contains-reversed rows found.0 found.1, found.2)

  one : (row : List Oid) → Comes stands more row ↔ stands last row
  one row =
      let by = finished_by_kept over step later last.row rows offers.rows stands_well long row in (
        λ h.
            let found = come_of h.0 h.1 in
            subst (λ (s : List StepTree). Finishes over s last.row row) (sym cut)
            (by.0 (found.0, found.1, subst (λ (p : PartialRow). Finishes over (drop p.step steps) p.row row) (sym found.2) h.2)),
        λ h.
            let found = by.1 (subst (λ (s : List StepTree). Finishes over s last.row row) cut h) in
            (partial_at (last.step + 1) found.0, Contains-map (partial_at (last.step + 1)) (reverse rows) found.0 (Contains-reverse rows found.0 found.1), found.2),
      )

  apart_more : AllPairs (IsApart stands) more
  apart_more =
      AllPairs-turned (partial_at (last.step + 1)) (λ (a b : List Oid). a ≢ b) (IsApart stands) [] rows
      (λ a b at_a at_b other row by_b by_a. other (finishes_one over step later last.row a b row stands_well
      (offers.rows.sound a at_a).0 (offers.rows.sound b at_b).0 by_a by_b))
      offers.rows.apart

  lighter : work_left (length steps) new < work_left (length steps) old
  lighter =
      let within : last.step < length steps = slice_get_within steps last.step step at in
      let k = length steps - (last.step + 1) in
      let before : work_left (length steps) old ≡ work_left (length steps) front + left_of (length steps - last.step) =
      ap (work_left (length steps)) was ∙ work_left_push (length steps) front last in
      let each : All (λ partial. left_of (length steps - partial.step) ≤ left_of k) more =
      All-from_members (λ (partial : PartialRow). left_of (length steps - partial.step) ≤ left_of k) more (λ partial among.
      (let found = come_of partial among in
      subst (λ (p : PartialRow). left_of (length steps - p.step) ≤ left_of k) found.2 (omega arith))) in
      let after : work_left (length steps) (front ++ more) ≤ work_left (length steps) front + length more * left_of k =
      work_left_more (length steps) (left_of k) front more each in
      let count : length more ≡ length rows = length-map (reverse rows) (partial_at (last.step + 1)) ∙ length-reverse rows in
      let less : length more * left_of k < left_of (length steps - last.step) =
      left_of_less (length more) k (length steps - last.step) (omega (arith, few, count)) (omega (arith, within)) in
      omega (arith, before, after, less, ap (work_left (length steps)) is)

  pub turned : Turned over steps old new
  turned = record {
    machine = record {
      in_order = machine.in_order;
      can = machine.can;
      apart = subst (AllPairs (IsApart stands)) (sym is)
          (apart_replaced stands front more last one apart_more (subst (AllPairs (IsApart stands)) was machine.apart));
      eight = subst (All HasEight) (sym is) (All-append HasEight front more
          (All-front HasEight front (last ∷ []) (subst (All HasEight) was machine.eight))
          (All-from_members HasEight more (λ partial among.
          (let found = come_of partial among in
          subst HasEight found.2 (offers.rows.sound found.0 found.1).0.eight))));
    };
    same = λ row. subst (λ (l : List PartialRow). Comes stands l row ↔ Comes stands old row) (sym is)
        (subst (λ (l : List PartialRow). Comes stands (front ++ more) row ↔ Comes stands l row) (sym was)
        (comes_replaced stands front more last one row));
    lighter = lighter;
    quiet = λ nothing. subst (All Reads) (sym is) (All-append Reads front more
        (All-front Reads front (last ∷ []) (subst (All Reads) was nothing))
        (All-from_members Reads more (λ partial among.
        (let found = come_of partial among in
        subst Reads found.2 (elim (subst (AreQuiet over) cut (All-contains Reads old last nothing there)) [
          | inl guided ↦ inl (All-tail IsGuided step later guided)
          | inr none ↦ absurd (nothing_meets over step later found.0 none (offers.rows.sound found.0 found.1).1)
        ])))));
  }

-- the last partial row is whole
pub record TookWhole (over : StepsOver) (steps : List StepTree) (old new : List PartialRow) (row : List Oid) : Type 0 where
  pub machine : IsMachine over steps new
  pub gives : Gives (IsToCome over steps old) (IsToCome over steps new) row
  pub lighter : work_left (length steps) new < work_left (length steps) old
  pub quiet : ReadNothing over steps old → ReadNothing over steps new

pub took_whole : (over : StepsOver) (steps : List StepTree) (old new : List PartialRow) (last : PartialRow) → IsMachine over steps old
    → length steps ≤ last.step → old ≡ new ++ last ∷ [] → TookWhole over steps old new last.row
took_whole over steps old new last machine past was = record {
  machine = record {
    in_order = machine.in_order;
    can = machine.can;
    apart = AllPairs-front (IsApart (ComesOf over steps)) new (last ∷ []) (subst (AllPairs (IsApart (ComesOf over steps))) was machine.apart);
    eight = All-front (λ (p : PartialRow). length p.row ≡ RANGES) new (last ∷ []) (subst (All (λ (p : PartialRow). length p.row ≡ RANGES)) was machine.eight);
  };
  gives = subst (λ (l : List PartialRow). Gives (IsToCome over steps l) (IsToCome over steps new) last.row) (sym was)
      (gives_last (ComesOf over steps) new last last.row
      (λ other. subst (λ (s : List StepTree). Finishes over s last.row other ↔ (other ≡ last.row)) (sym (drop_all last.step steps past))
      (finished_whole over last.row
      (All-contains (λ (p : PartialRow). length p.row ≡ RANGES) old last machine.eight
      (subst (λ (l : List PartialRow). Contains l last) (sym was) (Contains-push new last))) other))
      (subst (AllPairs (IsApart (ComesOf over steps))) was machine.apart));
  lighter = omega (arith, ap (work_left (length steps)) was, work_left_push (length steps) new last, left_of_some (length steps - last.step));
  quiet = λ nothing. All-front (λ (p : PartialRow). AreQuiet over (drop p.step steps)) new (last ∷ [])
      (subst (All (λ (p : PartialRow). AreQuiet over (drop p.step steps))) was nothing);
}

-- The last partial row was taken off, and others were put in its place.
pub replaced_by : (next : ℕ) (offer : Offer) (old middle front new : List PartialRow) (top : Option PartialRow) (last : PartialRow) (count : ℕ)
    → middle ≡ old → middle ≡ front ++ option_to_list top → top ≡ Some last
    → new ≡ front ++ map (partial_at next) (reverse (offered offer last.row)) → count ≡ length (offered offer last.row) → count < 2 ^ 64
    → IsReplaced next offer old new
replaced_by next offer old middle front new top last count same parts is whole counted few = record {
  front = front;
  last = last;
  was = sym same ∙ parts ∙ ap (λ (o : Option PartialRow). front ++ option_to_list o) is;
  is = whole;
  few = omega (arith, counted, few);
}

-- an offer of the same rows does the same
pub replaced_alike : (next : ℕ) (one other : Offer) (old new : List PartialRow) → ((row : List Oid) → offered one row ≡ offered other row)
    → IsReplaced next one old new → IsReplaced next other old new
replaced_alike next one other old new same replaced = record {
  front = replaced.front;
  last = replaced.last;
  was = replaced.was;
  is = replaced.is ∙ ap (λ (rows : List (List Oid)). replaced.front ++ map (partial_at next) (reverse rows)) (same replaced.last.row);
  few = subst (λ (rows : List (List Oid)). length rows < 2 ^ 64) (same replaced.last.row) replaced.few;
}

-- The last partial row has another row, in place.
set_last : (front : List PartialRow) (last other : PartialRow) → set (front ++ last ∷ []) (length front) other ≡ front ++ other ∷ []
set_last [] last other = refl
set_last (first ∷ front) last other = ap (λ (l : List PartialRow). first ∷ l) (set_last front last other)

pub replaced_in_place : (next : ℕ) (offer : Offer) (count : ℕ) (old new : List PartialRow) (last : PartialRow) (row : List Oid) → count ≡ length old → 0 < count
    → last ≡ get_or old (count - 1) last → new ≡ set old (count - 1) (partial_at next row) → offered offer last.row ≡ row ∷ [] → IsReplaced next offer old new
replaced_in_place next offer count old new last row counted some at is one =
    let place = count - 1 in
    let front = take place old in
    let cut = length-take place old in
    let long : length front ≡ place = omega (arith, cut, some, counted) in
    let behind : place + 1 ≡ length old = omega (arith, some, counted) in
    let was : old ≡ front ++ last ∷ [] =
    sym (take-length old) ∙ ap (λ (n : ℕ). take n old) (sym behind) ∙ take_more old place last (omega (arith, some, counted))
    ∙ ap (λ (p : PartialRow). front ++ p ∷ []) (sym at) in
    record {
      front = front;
      last = last;
      was = was;
      is = is ∙ ap (λ (n : ℕ). set old n (partial_at next row)) (sym long) ∙ ap (λ (l : List PartialRow). set l (length front) (partial_at next row)) was
          ∙ set_last front last (partial_at next row) ∙ ap (λ (rows : List (List Oid)). front ++ map (partial_at next) (reverse rows)) (sym one);
      few = omega (arith, ap length one);
    }

pub filled_in : (next slot : ℕ) (row oids items : List Oid) (front new : List PartialRow) → items ≡ oids
    → new ≡ front ++ map (partial_at next) (map (set row slot) (reverse items)) → new ≡ front ++ map (partial_at next) (reverse (map (set row slot) oids))
filled_in next slot row oids items front new same whole =
    whole ∙ ap (λ (l : List Oid). front ++ map (partial_at next) (map (set row slot) (reverse l))) same
    ∙ ap (λ (l : List (List Oid)). front ++ map (partial_at next) l) (map-reverse (set row slot) oids)

-- one more of the objects, the last of those that are left, is put in
pub filled_more : (next slot : ℕ) (row oids : List Oid) (old new : List PartialRow) (k : ℕ) (d : Oid) → k < length oids
    → new ≡ old ++ partial_at next (set row slot (get_or oids k d)) ∷ []
    → new ++ map (partial_at next) (map (set row slot) (reverse (take k oids))) ≡ old ++ map (partial_at next) (map (set row slot) (reverse (take (k + 1) oids)))
filled_more next slot row oids old new k d within is =
    let x = get_or oids k d in
    let rest = map (partial_at next) (map (set row slot) (reverse (take k oids))) in
    let turned : reverse (take (k + 1) oids) ≡ x ∷ reverse (take k oids) = ap reverse (take_more oids k d within) ∙ reverse-append (take k oids) (x ∷ []) in
    ap (λ (l : List PartialRow). l ++ rest) is ∙ append_assoc old (partial_at next (set row slot x) ∷ []) rest
    ∙ ap (λ (l : List Oid). old ++ map (partial_at next) (map (set row slot) l)) (sym turned)

-- The last partial row, and the step that it is before.

same_last : (old front : List PartialRow) (last other : PartialRow) → slice_get old (length old - 1) ≡ Some last → old ≡ front ++ other ∷ [] → last ≡ other
same_last old front last other at was =
    let long : length old ≡ length front + 1 = ap length was ∙ length_push front other in
    last_place front other last (length old - 1) (omega (arith, long))
    (subst (λ (l : List PartialRow). slice_get l (length old - 1) ≡ Some last) was at)

pub step_at : (ready : List ReadyStep) (n : ℕ) (step : ReadyStep) → slice_get ready n ≡ Some step → slice_get (map ready_tree ready) n ≡ Some (ready_tree step)
step_at ready n step at = slice_get-map ready_tree ready n ∙ ap (option_map ready_tree) at

-- what the step asks for before it is taken
pub stands_alone : (step : StepTree) (later : List StepTree) → Stands step later → Stands step []
stands_alone (forward start path slot) later stands = ((stands.0.0, left slot), there start slot stands.1)
  where
    left : (own : ℕ) → IsLeft [] own
    left own = All-nil (λ step. slot_of step ≢ Some own)

    there : (from : Start) (own : ℕ) → IsThere later from own → IsThere [] from own
    there (starts.Named named) own is = tt
    there (starts.Slot other) own is = ((is.0.0, left other), is.1)
stands_alone (from_guide named path slot) later stands = (stands.0, All-nil (λ step. slot_of step ≢ Some slot))
stands_alone (from_value label op value rest slot) later stands = (stands.0, All-nil (λ step. slot_of step ≢ Some slot))
stands_alone (backward child path parent) later stands =
    ((stands.0.0, All-nil (λ step. slot_of step ≢ Some parent)), (stands.1.0, All-nil (λ step. slot_of step ≢ Some child)), stands.2)
stands_alone (check child path named) later stands = (stands.0, All-nil (λ step. slot_of step ≢ Some child))
stands_alone filter later stands = refl

pub stands_there : (ready : List ReadyStep) (n : ℕ) (step : ReadyStep) → AreStepsInOrder (map ready_tree ready) → slice_get ready n ≡ Some step
    → Stands (ready_tree step) []
stands_there ready n step order at =
    let steps = map ready_tree ready in
    stands_alone (ready_tree step) (drop (n + 1) steps)
    (subst AreStepsInOrder (drop_at steps n (ready_tree step) (step_at ready n step at)) (ordered_at steps n order)).0

pub found_there : (labels : List (List ℕ)) (reaches : PathTree → Oid → Oid → Type 0) (ready : List ReadyStep) (n : ℕ) (step : ReadyStep)
    → All (HasFound labels reaches) ready → slice_get ready n ≡ Some step → HasFound labels reaches step
found_there labels reaches ready n step found at = All-contains (HasFound labels reaches) ready step found (Contains-from_place ready n step at)

pub can_there : (ready : List ReadyStep) (n : ℕ) (step : ReadyStep) → All CanBeReady (map ready_tree ready) → slice_get ready n ≡ Some step
    → CanBeReady (ready_tree step)
can_there ready n step can at =
    All-contains CanBeReady (map ready_tree ready) (ready_tree step) can (Contains-from_place (map ready_tree ready) n (ready_tree step) (step_at ready n step at))

pub eight_there : (over : StepsOver) (steps : List StepTree) (items : List PartialRow) (last : PartialRow) → IsMachine over steps items
    → slice_get items (length items - 1) ≡ Some last → length last.row ≡ RANGES
eight_there over steps items last machine at =
    All-contains (λ (p : PartialRow). length p.row ≡ RANGES) items last machine.eight (Contains-from_place items (length items - 1) last at)

pub quiet_there : (over : StepsOver) (ready : List ReadyStep) (n : ℕ) (step : ReadyStep) → AreQuiet over (drop n (map ready_tree ready))
    → slice_get ready n ≡ Some step → AreQuiet over (ready_tree step ∷ [])
quiet_there over ready n step quiet here =
    let steps = map ready_tree ready in
    quiet_alone over (ready_tree step) (drop (n + 1) steps)
    (subst (AreQuiet over) (drop_at steps n (ready_tree step) (step_at ready n step here)) quiet)

pub kept_there : (over : StepsOver) (ready : List ReadyStep) (list : List Kept) (n : ℕ) (step : ReadyStep) (kept : Kept) → AreKeptBy over ready list
    → n < length list → slice_get ready n ≡ Some step → kept ≡ get_or list n kept → IsKeptBy over step kept
kept_there over ready list n step kept are within here at =
    are.each n step kept here (slice_get_read list (length list) n kept refl within at)

-- from the step of the last partial row on no edge is read
pub quiet_behind : (over : StepsOver) (ready : List ReadyStep) (items : List PartialRow) (last : PartialRow) → ReadNothing over (map ready_tree ready) items
    → slice_get items (length items - 1) ≡ Some last → AreQuiet over (drop last.step (map ready_tree ready))
quiet_behind over ready items last nothing at =
    All-contains (λ (p : PartialRow). AreQuiet over (drop p.step (map ready_tree ready))) items last nothing (Contains-from_place items (length items - 1) last at)

-- what the step makes, as that of its place
pub offered_at : (over : StepsOver) (ready : List ReadyStep) (at : ℕ) (step : ReadyStep) (row : List Oid) (offer : Offer) → slice_get ready at ≡ Some step
    → IsOffer over (ready_tree step) row offer → IsOfferAt over (map ready_tree ready) at row offer
offered_at over ready at step row offer is made other later cut =
    let steps = map ready_tree ready in
    let whole : ready_tree step ∷ drop (at + 1) steps ≡ other ∷ later = sym (drop_at steps at (ready_tree step) (step_at ready at step is)) ∙ cut in
    let same : ready_tree step ≡ other = ap (λ (l : List StepTree). get_or l 0 other) whole in
    subst (λ (s : StepTree). IsOffer over s row offer) same made

-- what is kept of it fills a slot too
pub kept_fills : (over : StepsOver) (ready : List ReadyStep) (at : ℕ) (row : List Oid) (offer : Offer) → at < length ready
    → IsKeptAt over (map ready_tree ready) at row offer → FillsSlot offer
kept_fills over ready at row offer within kept =
    let steps = map ready_tree ready in
    let step = get_or ready at ready_steps.Filter in
    (kept (ready_tree step) (drop (at + 1) steps)
    (drop_at steps at (ready_tree step) (step_at ready at step (slice_get-get_or ready at ready_steps.Filter within)))).fills

pub turns : (over : StepsOver) (ready : List ReadyStep) (old new : List PartialRow) (last : PartialRow) (offer : Offer)
    → IsMachine over (map ready_tree ready) old → slice_get old (length old - 1) ≡ Some last → last.step < length ready
    → IsKeptAt over (map ready_tree ready) last.step last.row offer → IsReplaced (last.step + 1) offer old new → Turned over (map ready_tree ready) old new
turns over ready old new last offer machine at within offers replaced =
    let steps = map ready_tree ready in
    let step = get_or ready last.step ready_steps.Filter in
    let same : replaced.last ≡ last = sym (same_last old replaced.front last replaced.last at replaced.was) in
    let there : slice_get steps last.step ≡ Some (ready_tree step) = step_at ready last.step step (slice_get-get_or ready last.step ready_steps.Filter within) in
    turned over steps old new replaced.front last (ready_tree step) offer machine there
    (offers (ready_tree step) (drop (last.step + 1) steps) (drop_at steps last.step (ready_tree step) there))
    (subst (λ (p : PartialRow). old ≡ replaced.front ++ p ∷ []) same replaced.was)
    (subst (λ (p : PartialRow). new ≡ replaced.front ++ map (partial_at (last.step + 1)) (reverse (offered offer p.row))) same replaced.is)
    (subst (λ (p : PartialRow). length (offered offer p.row) < 2 ^ 64) same replaced.few)

pub took : (over : StepsOver) (ready : List ReadyStep) (old new : List PartialRow) (last : PartialRow) (row : List Oid)
    → IsMachine over (map ready_tree ready) old → slice_get old (length old - 1) ≡ Some last → length ready ≤ last.step
    → IsPopped old new row → TookWhole over (map ready_tree ready) old new row
took over ready old new last row machine at past taken =
    let steps = map ready_tree ready in
    let same : last ≡ taken.last = same_last old new last taken.last at taken.was in
    subst (TookWhole over steps old new) (ap (λ (p : PartialRow). p.row) same ∙ sym taken.is)
    (took_whole over steps old new last machine (omega (arith, past, length-map ready ready_tree))
    (subst (λ (p : PartialRow). old ≡ new ++ p ∷ []) (sym same) taken.was))

-- What holds of the first list where it holds of one with the same rows to come.

pub gives_before : (before middle after : List Oid → Type 0) (row : List Oid) → AreSame before middle → Gives middle after row → Gives before after row
gives_before before middle after row same gives = record {
  came = (same row).0 gives.came;
  others = λ other. (
    λ h. let got = (gives.others other).0 h in ((same other).0 got.0, got.1),
    λ h. (gives.others other).1 ((same other).1 h.0, h.1),
  );
}

pub same_before : (before middle after : List Oid → Type 0) → AreSame before middle → AreSame middle after → AreSame before after
same_before before middle after first second row = ((λ h. (first row).0 ((second row).0 h)), (λ h. (second row).1 ((first row).1 h)))

pub none_before : (over : StepsOver) (steps : List StepTree) (items : List PartialRow) (before : List Oid → Type 0)
    → AreSame before (IsToCome over steps items) → items ≡ [] → (row : List Oid) → (before row → ⊥) × (IsToCome over steps items row → ⊥)
none_before over steps items before same empty row =
    let none = λ (come : IsToCome over steps items row). Contains-none come.0 (subst (λ (l : List PartialRow). Contains l come.0) empty come.1) in
    (λ h. none ((same row).1 h), none)

-- What is told early of rows to come.

pub hinted_same : (over : StepsOver) (Hints : List Oid → Type 0) (steps : List StepTree) (old new : List PartialRow)
    → AreSame (IsToCome over steps old) (IsToCome over steps new) → AreHinted over Hints steps old → AreHinted over Hints steps new
hinted_same over Hints steps old new same hinted = record { told = λ row comes. hinted.told row ((same row).0 comes) }

pub hinted_less : (over : StepsOver) (Hints : List Oid → Type 0) (steps : List StepTree) (old new : List PartialRow) (given : List Oid)
    → Gives (IsToCome over steps old) (IsToCome over steps new) given → AreHinted over Hints steps old → AreHinted over Hints steps new
hinted_less over Hints steps old new given gives hinted = record { told = λ row comes. hinted.told row ((gives.others row).0 comes).0 }

-- of the rows that come of one partial row
pub hinted_there : (over : StepsOver) (Hints : List Oid → Type 0) (steps : List StepTree) (old items : List PartialRow) (last : PartialRow)
    → AreSame (IsToCome over steps old) (IsToCome over steps items) → AreHinted over Hints steps old → slice_get items (length items - 1) ≡ Some last
    → AreHintedAt over Hints steps last.step last.row
hinted_there over Hints steps old items last same hinted at whole finishes =
    hinted.told whole ((same whole).0 (last, Contains-from_place items (length items - 1) last at, finishes))

-- how the end of a list is read
pub read_last : (slice items : List PartialRow) (last : PartialRow) → Some last ≡ slice_get slice (length slice - 1) → slice ≡ items
    → slice_get items (length items - 1) ≡ Some last
read_last slice items last at same = subst (λ (l : List PartialRow). slice_get l (length l - 1) ≡ Some last) same (sym at)

pub empty_last : (slice items : List PartialRow) → None ≡ slice_get slice (length slice - 1) → slice ≡ items → items ≡ []
empty_last [] items at same = sym same
empty_last (x ∷ xs) items at same =
    absurd (none-some (get_or (x ∷ xs) (length (x ∷ xs) - 1) x) (at ∙ slice_get-get_or (x ∷ xs) (length (x ∷ xs) - 1) x (omega arith)))
