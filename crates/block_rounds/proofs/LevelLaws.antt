-- Blocks numbered in the order of their first nodes, one node after another.
use Rattle.std.proofs.Common.{◌≡◌, ℕ, ◌+◌, ◌<◌, ◌⊎◌, inl, inr, true, false, cond, nat_eq, Option, None, Some}
use Rattle.std.proofs.Common.{List, [], ◌∷◌, ◌++◌, length, get_or, All, AllPairs, refl, sym, ap, ◌∙◌, subst, arith, length-append}
use Rattle.std.specs.Prelude.{slice_index}
use Rattle.std.proofs.lemmas.Bool.{cases_lt}
use Rattle.std.proofs.lemmas.Bool.Decides.{nat_tests}
use Rattle.std.proofs.lemmas.List.{get_or_append_left, get_or_push, get_or_default}
use Rattle.std.proofs.lemmas.Option.{none-some, same_Some}
use Rattle.std.proofs.lemmas.List.Elements.{All-push, All-weaker}
use Rattle.std.proofs.lemmas.List.Quantifiers.{all_pairs_push}
use Rattle.block_rounds.specs.Partitions.{IsNumbered, IsInOrder, AreSameBlocks, AreBlocks, Rows}
use Rattle.block_rounds.specs.inside.Levels.{IsPut, IsLevel, AreLevelsBelow}
use Rattle.block_rounds.proofs.SignatureLaws.{same_number}

-- what a list has below its end it has once an item is pushed
kept_read : (list pushed : List ℕ) (item node : ℕ) → pushed ≡ list ++ item ∷ [] → node < length list
    → slice_index pushed node ≡ slice_index list node
kept_read list pushed item node pushes below =
    ap (λ (l : List ℕ). get_or l node 0) pushes ∙ get_or_append_left list (item ∷ []) 0 node below

last_read : (list pushed : List ℕ) (item node : ℕ) → pushed ≡ list ++ item ∷ [] → node ≡ length list
    → slice_index pushed node ≡ item
last_read list pushed item node pushes here =
    ap (λ (l : List ℕ). get_or l node 0) pushes ∙ get_or_push list item 0 node (sym here)

pub AreLevelsBelow-none : (numbers : List ℕ) (known : ℕ → Option ℕ) → ((number : ℕ) → known number ≡ None)
    → AreLevelsBelow 0 numbers known [] []
AreLevelsBelow-none numbers known nothing = record {
  every = refl;
  met = λ node below. absurd (omega (arith, below));
  low = λ number level is. absurd (none-some level (sym (nothing number) ∙ is));
  own = λ number level is. absurd (none-some level (sym (nothing number) ∙ is));
  back = λ level below. absurd (omega (arith, below));
  first = λ node below. absurd (omega (arith, below));
  recent = λ k d below. absurd (omega (arith, below));
  ascend = λ i j d before below. absurd (omega (arith, below));
}

module _ (numbers : List ℕ) (count number : ℕ) (old : ℕ → Option ℕ) (firsts levels pushed : List ℕ) (level : ℕ)
    (is : number ≡ slice_index numbers count) (pushes : pushed ≡ levels ++ level ∷ [])
    (so_far : AreLevelsBelow count numbers old firsts levels) where
  total : length pushed ≡ count + 1
  total = omega (arith, ap length pushes, length-append levels (level ∷ []), so_far.every)

  -- the number was met before
  pub level_known : old number ≡ Some level → AreLevelsBelow (count + 1) numbers old firsts pushed
  level_known has =
      let low = so_far.low number level has in
      let recent : slice_index firsts level < count = so_far.recent level 0 low in
      record {
        every = total;
        met = λ node below. elim (cases_lt node count) [
          | inl earlier ↦ so_far.met node earlier
              ∙ ap (λ (l : ℕ). Some l) (sym (kept_read levels pushed level node pushes (omega (arith, earlier, so_far.every))))
          | inr late ↦
              let here : count ≡ node = omega (arith, late, below) in
              ap (λ (k : ℕ). old (slice_index numbers k)) (sym here) ∙ ap old (sym is) ∙ has
              ∙ ap (λ (l : ℕ). Some l) (sym (last_read levels pushed level node pushes (omega (arith, here, so_far.every))))
        ];
        low = so_far.low;
        own = so_far.own;
        back = λ at below.
            kept_read levels pushed level (slice_index firsts at) pushes
            (let inside : slice_index firsts at < count = so_far.recent at 0 below in omega (arith, inside, so_far.every))
            ∙ so_far.back at below;
        first = λ node below. elim (cases_lt node count) [
          | inl earlier ↦
              let read = kept_read levels pushed level node pushes (omega (arith, earlier, so_far.every)) in
              let same : slice_index firsts (slice_index pushed node) ≡ slice_index firsts (slice_index levels node) =
              ap (slice_index firsts) read in
              omega (arith, same, so_far.first node earlier)
          | inr late ↦
              let here : count ≡ node = omega (arith, late, below) in
              let read = last_read levels pushed level node pushes (omega (arith, here, so_far.every)) in
              let same : slice_index firsts (slice_index pushed node) ≡ slice_index firsts level = ap (slice_index firsts) read in
              omega (arith, same, recent, here)
        ];
        recent = All-weaker (λ node. node < count) (λ node. node < count + 1) (λ node low. omega (arith, low)) firsts so_far.recent;
        ascend = so_far.ascend;
      }

  module _ (new : ℕ → Option ℕ) (after : List ℕ) (absent : old number ≡ None) (next : level ≡ length firsts)
      (put : IsPut old new number level) (grows : after ≡ firsts ++ count ∷ []) where
    longer : length after ≡ length firsts + 1
    longer = omega (arith, ap length grows, length-append firsts (count ∷ []))

    put_here : new number ≡ Some level
    put_here =
        let test : nat_eq number number ≡ true = grind (arith, nat_tests) in
        put number ∙ ap (λ b. cond b (Some level) (old number)) test

    put_other : (other : ℕ) (there : ℕ) → old other ≡ Some there → new other ≡ Some there
    put_other other there was = elim (nat_eq number other) as (λ b. nat_eq number other ≡ b → new other ≡ Some there) [
      | true ↦ λ same. absurd (none-some there (sym absent ∙ ap old (same_number number other same) ∙ was))
      | false ↦ λ apart. put other ∙ ap (λ b. cond b (Some level) (old other)) apart ∙ was
    ] refl

    put_cases : (other : ℕ) (there : ℕ) → new other ≡ Some there → ((number ≡ other) × (level ≡ there)) ⊎ (old other ≡ Some there)
    put_cases other there now = elim (nat_eq number other) as (λ b. nat_eq number other ≡ b → ((number ≡ other) × (level ≡ there)) ⊎ (old other ≡ Some there)) [
      | true ↦ λ same. inl (
        same_number number other same,
        same_Some level there (ap (λ b. cond b (Some level) (old other)) (sym same) ∙ sym (put other) ∙ now),
      )
      | false ↦ λ apart. inr (ap (λ b. cond b (Some level) (old other)) (sym apart) ∙ sym (put other) ∙ now)
    ] refl

    -- the number is met for the first time
    pub level_new : AreLevelsBelow (count + 1) numbers new after pushed
    level_new = record {
      every = total;
      met = λ node below. elim (cases_lt node count) [
        | inl earlier ↦ put_other (slice_index numbers node) (slice_index levels node) (so_far.met node earlier)
            ∙ ap (λ (l : ℕ). Some l) (sym (kept_read levels pushed level node pushes (omega (arith, earlier, so_far.every))))
        | inr late ↦
            let here : count ≡ node = omega (arith, late, below) in
            ap (λ (k : ℕ). new (slice_index numbers k)) (sym here) ∙ ap new (sym is) ∙ put_here
            ∙ ap (λ (l : ℕ). Some l) (sym (last_read levels pushed level node pushes (omega (arith, here, so_far.every))))
      ];
      low = λ other there now. elim (put_cases other there now) [
        | inl same ↦ omega (arith, same.1, next, longer)
        | inr was ↦ omega (arith, so_far.low other there was, longer)
      ];
      own = λ other there now. elim (put_cases other there now) [
        | inl same ↦
            let read : slice_index after there ≡ count = last_read firsts after count there grows (omega (arith, sym same.1, next)) in
            ap (slice_index numbers) read ∙ sym is ∙ same.0
        | inr was ↦ ap (slice_index numbers) (kept_read firsts after count there grows (so_far.low other there was))
            ∙ so_far.own other there was
      ];
      back = λ at below. elim (cases_lt at (length firsts)) [
        | inl earlier ↦
            let inside : slice_index firsts at < count = so_far.recent at 0 earlier in
            ap (slice_index pushed) (kept_read firsts after count at grows earlier)
            ∙ kept_read levels pushed level (slice_index firsts at) pushes (omega (arith, inside, so_far.every))
            ∙ so_far.back at earlier
        | inr late ↦
            let here : at ≡ length firsts = omega (arith, late, below, longer) in
            ap (slice_index pushed) (last_read firsts after count at grows here)
            ∙ last_read levels pushed level count pushes (sym so_far.every) ∙ next ∙ sym here
      ];
      first = λ node below. elim (cases_lt node count) [
        | inl earlier ↦
            let low = so_far.low (slice_index numbers node) (slice_index levels node) (so_far.met node earlier) in
            let same : slice_index after (slice_index pushed node) ≡ slice_index firsts (slice_index levels node) =
            ap (slice_index after) (kept_read levels pushed level node pushes (omega (arith, earlier, so_far.every)))
            ∙ kept_read firsts after count (slice_index levels node) grows low in
            omega (arith, same, so_far.first node earlier)
        | inr late ↦
            let here : count ≡ node = omega (arith, late, below) in
            let same : slice_index after (slice_index pushed node) ≡ count =
            ap (slice_index after) (last_read levels pushed level node pushes (omega (arith, here, so_far.every)))
            ∙ last_read firsts after count level grows next in
            omega (arith, same, here)
      ];
      recent = subst (λ (l : List ℕ). All (λ node. node < count + 1) l) (sym grows)
          (All-push (λ node. node < count + 1) firsts count
          (All-weaker (λ node. node < count) (λ node. node < count + 1) (λ node low. omega (arith, low)) firsts so_far.recent)
          (omega arith));
      ascend = subst (λ (l : List ℕ). AllPairs (λ a b. a < b) l) (sym grows)
          (all_pairs_push (λ (a b : ℕ). a < b) firsts count so_far.ascend so_far.recent);
    }

-- one node more
pub AreLevelsBelow-more : (numbers : List ℕ) (count number : ℕ) (old new : ℕ → Option ℕ) (firsts after levels pushed : List ℕ) (level : ℕ)
    → number ≡ slice_index numbers count → pushed ≡ levels ++ level ∷ [] → AreLevelsBelow count numbers old firsts levels
    → IsLevel count number old new firsts after level → AreLevelsBelow (count + 1) numbers new after pushed
AreLevelsBelow-more numbers count number old new firsts after levels pushed level is pushes so_far (inl same) =
    subst (λ (f : List ℕ). AreLevelsBelow (count + 1) numbers new f pushed) (sym same.2)
    (subst (λ (k : ℕ → Option ℕ). AreLevelsBelow (count + 1) numbers k firsts pushed) (sym same.1)
    (level_known numbers count number old firsts levels pushed level is pushes so_far same.0))
AreLevelsBelow-more numbers count number old new firsts after levels pushed level is pushes so_far (inr fresh) =
    level_new numbers count number old firsts levels pushed level is pushes so_far new after fresh.0 fresh.1 fresh.2 fresh.3

module _ (numbers : List ℕ) (known : ℕ → Option ℕ) (firsts levels : List ℕ)
    (all : AreLevelsBelow (length numbers) numbers known firsts levels) where
  -- each node has the old number of the first node of its level
  old_of : (node : ℕ) → node < length numbers → slice_index numbers (slice_index firsts (slice_index levels node)) ≡ slice_index numbers node
  old_of node live = all.own (slice_index numbers node) (slice_index levels node) (all.met node live)

  pub AreSameBlocks-levels : AreSameBlocks numbers levels
  AreSameBlocks-levels x y x_live y_live = (
    λ same. sym (old_of x x_live) ∙ ap (λ (l : ℕ). slice_index numbers (slice_index firsts l)) same ∙ old_of y y_live,
    λ same. same_Some (slice_index levels x) (slice_index levels y) (sym (all.met x x_live) ∙ ap known same ∙ all.met y y_live),
  )

  pub IsNumbered-levels : IsNumbered (length numbers) levels firsts
  IsNumbered-levels = record {
    every = all.every;
    numbered = λ k d below.
        let live : k < length numbers = omega (arith, below, all.every) in
        let low : slice_index levels k < length firsts = all.low (slice_index numbers k) (slice_index levels k) (all.met k live) in
        subst (λ (l : ℕ). l < length firsts) (get_or_default levels k 0 d below) low;
    headed = all.recent;
  }

  pub IsInOrder-levels : IsInOrder levels firsts
  IsInOrder-levels = record {
    own = all.back;
    first = λ node below. all.first node (omega (arith, below, all.every));
    ascend = all.ascend;
  }

-- the same blocks are those of bisimulation too
pub AreBlocks-same : (rows : Rows) (kinds numbers next : List ℕ) → length numbers ≡ length rows → AreSameBlocks numbers next
    → AreBlocks rows kinds numbers → AreBlocks rows kinds next
AreBlocks-same rows kinds numbers next every same are x y x_live y_live =
    let told = same x y (omega (arith, every, x_live)) (omega (arith, every, y_live)) in
    let belong = are x y x_live y_live in
    (λ one. belong.0 (told.0 one), λ alike. told.1 (belong.1 alike))
