-- What tables tell: of two paths to equal values, of a condition with such a member, and of the rows that fit.
use Rattle.std.proofs.Common.{◌≡◌, ◌≢◌, ◌-◌, ◌++◌, ℕ, suc, ℤ, Bool, true, List, [], ◌∷◌, length, map, Option, None, Some, IfOk, IfSome, Result, Ok, Err, sym, subst, ◌∙◌, arith}
use Rattle.std.specs.List.{All, Contains, slice_get}
use Rattle.std.proofs.Common.{Bor}
use Rattle.std.proofs.lemmas.Option.{none-some, same_Some}
use Rattle.std.proofs.lemmas.List.Elements.{All-contains, All-nil, All-append, All-cons}
use Rattle.lore_base.specs.Paths.{PathTree, Reaches}
use Rattle.lore_base.specs.Walks.{Walk, edge_of}
use Rattle.lore_base.specs.Comparisons.{Compares}
use Rattle.lore_base.specs.TargetSets.{ListsInOrder}
use Rattle.lore_base.proofs.WalkLaws.{Walk-within}
use Rattle.index_traits.specs.Entries.{IsEntered, IsValueEntry, entry_of}
use Rattle.index_traits.specs.PartRows.{AreAllThatFit}
use Rattle.lorel_bound.specs.Bound.{BoundPathTree, bound_cond, bound_path, conds_from}
use Rattle.lorel_bound.specs.declared.conditions.BoundCond.{BoundCond}
use Rattle.lorel_bound.specs.declared.conditions.BoundPath.{BoundPath}
use Rattle.lorel_bound.specs.Conditions.{CondOf, and, at, compare}
use Rattle.lorel_bound.specs.SlotRows.{BoundStartsAt, HoldsOver}
use Rattle.word_walks.specs.WordWalks.{IsItsWord, IsReachedBy}
use Rattle.word_walks.specs.declared.only_words.OnlyWord.{OnlyWord}
use Rattle.word_walks.specs.declared.only_words.OnlyWord.TheVariants.{Labels, Lacking}
use Rattle.join_tables.specs.Tables.{AreValuesOf, IsTableBy, ArePartners}
use Rattle.join_tables.proofs.NumberLaws.{complex_never}
use Rattle.member_clues.proofs.TurnedLaws.{equal_turned}
use Rattle.member_clues.proofs.MadeLaws.{follows_itself, follows_member}
use Rattle.slot_joins.specs.Types.{Oid, Label, Edge, Value, Whole, Complex, Eq, ValueEntry, BoundStart}
use Rattle.slot_joins.specs.Types.bound_starts
use Rattle.index_eval.specs.Indexes.{AreIndexes}
use Rattle.slot_joins.specs.declared.joins.Join.{Join}
use Rattle.slot_joins.specs.inside.Joins.{IsJoinIn, IsJoinFor, JoinsPaths, IsTableOf, AddsJoins, FitsBy, IsToldByJoin}

-- How a join comes about.

-- what a path with one word reaches, the word reaches
reached_by : (labels : List (List ℕ)) (edges : List Edge) (path : PathTree) (word : OnlyWord) (x y : Oid) → IsItsWord labels path word
    → Reaches labels edges path x y → IsReachedBy word edges x y
reached_by labels edges path (Labels own) x y is reached = subst (λ (w : List Label). Walk edges x w y) ((is reached.0).0 reached.1) reached.2
reached_by labels edges path Lacking x y is reached = is reached.0 reached.1

-- an edge with the last label enters the end of a walk
last_enters : (edges : List Edge) (word : List Label) (label : Label) (x y : Oid) → slice_get word (length word - 1) ≡ Some label → Walk edges x word y
    → IsEntered edges label y
last_enters edges [] label x y last walk = absurd (none-some label last)
last_enters edges (first ∷ []) label x y last walk =
    let same : first ≡ label = same_Some first label last in
    let here : Contains edges (edge_of x first y) = subst (λ (o : Oid). Contains edges (edge_of x first o)) walk.2 walk.1 in
    (x, subst (λ (l : Label). Contains edges (edge_of x l y)) same here)
last_enters edges (first ∷ second ∷ others) label x y last walk =
    let place : length (first ∷ second ∷ others) - 1 ≡ suc (length (second ∷ others) - 1) = omega arith in
    let later : slice_get (second ∷ others) (length (second ∷ others) - 1) ≡ Some label =
    subst (λ (n : ℕ). slice_get (first ∷ second ∷ others) n ≡ Some label) place last in
    last_enters edges (second ∷ others) label walk.0 y later walk.2

-- the entries have the values of the objects
pub values_of : (objects : List (Oid × Value)) (edges links : List Edge) (entries : List ValueEntry) → AreIndexes objects edges links entries
    → AreValuesOf objects entries
values_of objects edges links entries indexes entry among = ((indexes.entries_are.exact entry).0 among).live

-- no complex value is equal to a number
not_complex : (value : Value) (number : ℤ) → Compares value Eq (Whole number) → value ≢ Complex
not_complex value number compares complex = complex_never number (subst (λ (v : Value). Compares v Eq (Whole number)) complex compares)

-- two paths, of which one has a word and the other a table
pub joins_paths : (labels : List (List ℕ)) (edges : List Edge) (objects : List (Oid × Value)) (links : List Edge) (entries : List ValueEntry)
    (own sought : BoundPathTree) (join : Join) → AreIndexes objects edges links entries → own.start ≡ bound_starts.Slot join.start
    → sought.start ≡ bound_starts.Slot join.slot → IsItsWord labels own.rest join.word → IsTableOf labels links entries sought.rest join.table
    → JoinsPaths labels edges objects own sought join
joins_paths labels edges objects links entries own sought join indexes own_at sought_at own_is table row a b gives found equal =
    let word = table.0 in
    let last = table.2.0 in
    let from = gives.1 in
    let to = found.1 in
    let end = found.0 in
    let walk : Walk edges to.0 word end = reached_by labels edges sought.rest (Labels word) to.0 end table.1 to.2 in
    let entered : IsEntered edges last end = last_enters edges word last to.0 end table.2.1 walk in
    let back : Walk links to.0 word end = Walk-within edges links (λ edge. (indexes.links_are edge).1) to.0 word end walk in
    record {
      from = from.0;
      starts = subst (λ (s : BoundStart). BoundStartsAt row [] s from.0) own_at from.1;
      own = gives.0;
      value = a;
      reached = reached_by labels edges own.rest join.word from.0 gives.0 own_is from.2;
      has = gives.2;
      oid = to.0;
      stands = subst (λ (s : BoundStart). BoundStartsAt row [] s to.0) sought_at to.1;
      under = λ number fits is.
          let compares : Compares b Eq (Whole number) = subst (λ (v : Value). Compares b Eq v) is equal in
          let entry : IsValueEntry objects edges (entry_of last b end) =
          record { live = found.2; atomic = not_complex b number compares; entered = entered } in
          table.2.2 number end to.0 fits (b, (indexes.entries_are.exact (entry_of last b end)).1 entry, compares) back;
    }

-- What joins a condition asks for.

-- a comparison of two paths, by the one or by the other
pub joins_left : (labels : List (List ℕ)) (edges : List Edge) (objects : List (Oid × Value)) (left right : BoundPathTree) (join : Join)
    → JoinsPaths labels edges objects left right join → IsJoinIn labels edges objects (Some (compare (at left) Eq (at right))) join
joins_left labels edges objects left right join joins row holds =
    joins row holds.0 holds.1 holds.2 holds.3 (equal_turned holds.0 holds.1 holds.4)

pub joins_right : (labels : List (List ℕ)) (edges : List Edge) (objects : List (Oid × Value)) (left right : BoundPathTree) (join : Join)
    → JoinsPaths labels edges objects right left join → IsJoinIn labels edges objects (Some (compare (at left) Eq (at right))) join
joins_right labels edges objects left right join joins row holds = joins row holds.1 holds.0 holds.3 holds.2 holds.4

-- and so what is found, if anything is
pub found_left : {E : Type 0} (labels : List (List ℕ)) (edges : List Edge) (objects : List (Oid × Value)) (left right : BoundPathTree)
    (result : Result (Option Join) E) → IfOk result (λ found. IfSome found (JoinsPaths labels edges objects left right))
    → IfOk result (λ found. IfSome found (IsJoinIn labels edges objects (Some (compare (at left) Eq (at right)))))
found_left labels edges objects left right (Ok (Some join)) joins = joins_left labels edges objects left right join joins
found_left labels edges objects left right (Ok None) joins = tt
found_left labels edges objects left right (Err error) joins = tt

pub found_right : {E : Type 0} (labels : List (List ℕ)) (edges : List Edge) (objects : List (Oid × Value)) (left right : BoundPathTree)
    (result : Result (Option Join) E) → IfOk result (λ found. IfSome found (JoinsPaths labels edges objects right left))
    → IfOk result (λ found. IfSome found (IsJoinIn labels edges objects (Some (compare (at left) Eq (at right)))))
found_right labels edges objects left right (Ok (Some join)) joins = joins_right labels edges objects left right join joins
found_right labels edges objects left right (Ok None) joins = tt
found_right labels edges objects left right (Err error) joins = tt

module _ (labels : List (List ℕ)) (edges : List Edge) (objects : List (Oid × Value)) where
  -- one join more
  pub adds_one : (condition : CondOf BoundPathTree) (join : Join) (old new : List Join) → IsJoinIn labels edges objects (Some condition) join
      → new ≡ old ++ join ∷ [] → AddsJoins labels edges objects condition old new
  adds_one condition join old new is grown whole follows all =
      let P = IsJoinIn labels edges objects whole in
      subst (All P) (sym grown) (All-append P old (join ∷ []) all (All-cons P join [] (λ row holds. is row (follows row holds)) (All-nil P)))

  -- where the condition is another one
  pub adds_same : (condition other : CondOf BoundPathTree) (old new : List Join) → condition ≡ other → AddsJoins labels edges objects condition old new
      → AddsJoins labels edges objects other old new
  adds_same condition other old new same adds = subst (λ (c : CondOf BoundPathTree). AddsJoins labels edges objects c old new) same adds

  -- those of one member of an `and`
  pub adds_member : (members : List BoundCond) (member : BoundCond) (old new : List Join) → Contains members member
      → AddsJoins labels edges objects (bound_cond member) old new → AddsJoins labels edges objects (and (conds_from (map bound_cond members))) old new
  adds_member members member old new among adds whole follows =
      adds whole (λ row holds. follows_member labels (and (conds_from (map bound_cond members))) None members member among
      (follows_itself labels (and (conds_from (map bound_cond members)))) edges objects row (follows row holds))

  -- one after another
  pub adds_more : (condition : CondOf BoundPathTree) (old middle new : List Join) → AddsJoins labels edges objects condition old middle
      → AddsJoins labels edges objects condition middle new → AddsJoins labels edges objects condition old new
  adds_more condition old middle new first then whole follows all = then whole follows (first whole follows all)

  -- all joins of no list, and of one that began as none
  pub none_joined : (condition : Option (CondOf BoundPathTree)) (joins : List Join) → joins ≡ [] → All (IsJoinIn labels edges objects condition) joins
  none_joined condition joins none = subst (All (IsJoinIn labels edges objects condition)) (sym none) (All-nil (IsJoinIn labels edges objects condition))

  pub all_joined : (condition : CondOf BoundPathTree) (old new : List Join) → old ≡ [] → AddsJoins labels edges objects condition old new
      → All (IsJoinIn labels edges objects (Some condition)) new
  all_joined condition old new none adds = adds (Some condition) (λ row holds. holds) (none_joined (Some condition) old none)

-- What a join tells.

-- from all that the word reaches
fits_one : (edges : List Edge) (objects : List (Oid × Value)) (join : Join) (row : List Oid) (from : Oid) (own oids : List Oid)
    → Some from ≡ slice_get row join.start → ListsInOrder (IsReachedBy join.word edges from) own → ArePartners objects join.table own oids
    → FitsBy edges objects join row oids
fits_one edges objects join row from own oids start lists partners = record {
  ascend = partners.ascend;
  all = λ other same joins.
      let there : from ≡ joins.from = same_Some from joins.from (start ∙ sym same ∙ joins.starts) in
      let among : Contains own joins.own = (lists.exact joins.own).1 (subst (λ (o : Oid). IsReachedBy join.word edges o joins.own) (sym there) joins.reached) in
      let tells = partners.told joins.own joins.value among joins.has in
      (joins.oid, joins.stands, tells.all joins.oid (joins.under tells.number tells.fits tells.is));
}

pub fits_found : {E : Type 0} (edges : List Edge) (objects : List (Oid × Value)) (join : Join) (row : List Oid) (from : Oid) (own : List Oid)
    (result : Result (Option (List Oid)) E) → Some from ≡ slice_get row join.start → ListsInOrder (IsReachedBy join.word edges from) own
    → IfOk result (λ found. IfSome found (ArePartners objects join.table own)) → IfOk result (λ found. IfSome found (FitsBy edges objects join row))
fits_found edges objects join row from own (Ok (Some oids)) start lists partners = fits_one edges objects join row from own oids start lists partners
fits_found edges objects join row from own (Ok None) start lists partners = tt
fits_found edges objects join row from own (Err error) start lists partners = tt

pub told_by : (edges : List Edge) (objects : List (Oid × Value)) (joins : List Join) (join : Join) (known : List Bool) (slot : ℕ) (row : List Oid)
    (found : Option (List Oid)) → Contains joins join → join.slot ≡ slot → slice_get known join.start ≡ Some true
    → IfSome found (FitsBy edges objects join row) → IfSome found (IsToldByJoin edges objects joins known slot row)
told_by edges objects joins join known slot row (Some oids) among is given fits =
    record { join = join; among = among; slot_is = is; known_is = given; fits = fits }
told_by edges objects joins join known slot row None among is given fits = tt

-- what a join of the condition tells is what fits
fits_told : (edges : List Edge) (objects : List (Oid × Value)) (Passes : List Oid → Type 0) (joins : List Join) (known : List Bool) (slot : ℕ)
    (row oids : List Oid) → All (IsJoinFor edges objects Passes) joins → IsToldByJoin edges objects joins known slot row oids
    → AreAllThatFit Passes known slot row oids
fits_told edges objects Passes joins known slot row oids all told = record {
  ascend = told.fits.ascend;
  all = λ other completes.
      let is_join = All-contains (IsJoinFor edges objects Passes) joins told.join all told.among in
      let found = told.fits.all other (sym (completes.agree told.join.start told.known_is)) (is_join other completes.passes) in
      (found.0, subst (λ (n : ℕ). slice_get other n ≡ Some found.0) told.slot_is found.1, found.2);
}

pub fits_joined : {E : Type 0} (edges : List Edge) (objects : List (Oid × Value)) (Passes : List Oid → Type 0) (joins : List Join) (known : List Bool)
    (slot : ℕ) (row : List Oid) (result : Result (Option (List Oid)) E) → All (IsJoinFor edges objects Passes) joins
    → IfOk result (λ found. IfSome found (IsToldByJoin edges objects joins known slot row))
    → IfOk result (λ found. IfSome found (AreAllThatFit Passes known slot row))
fits_joined edges objects Passes joins known slot row (Ok (Some oids)) all told = fits_told edges objects Passes joins known slot row oids all told
fits_joined edges objects Passes joins known slot row (Ok None) all told = tt
fits_joined edges objects Passes joins known slot row (Err error) all told = tt

-- joins of a condition are some of each test that asks for it
pub joined_for : (labels : List (List ℕ)) (edges : List Edge) (objects : List (Oid × Value)) (Passes : List Oid → Type 0) (condition : CondOf BoundPathTree)
    (joins : List Join) → ((row : List Oid) → Passes row → HoldsOver labels edges objects row (Some condition))
    → All (IsJoinIn labels edges objects (Some condition)) joins → All (IsJoinFor edges objects Passes) joins
joined_for labels edges objects Passes condition joins asks all k d within row passes = all k d within row (asks row passes)

pub none_for : (edges : List Edge) (objects : List (Oid × Value)) (Passes : List Oid → Type 0) (joins : List Join) → joins ≡ []
    → All (IsJoinFor edges objects Passes) joins
none_for edges objects Passes joins none = subst (All (IsJoinFor edges objects Passes)) (sym none) (All-nil (IsJoinFor edges objects Passes))

-- two paths of a condition that is the same one
pub same_paths : (x y : CondOf BoundPathTree) (found : Option (Bor BoundPath × Bor BoundPath)) → x ≡ y
    → IfSome found (λ f. y ≡ compare (at (bound_path f.0.now)) Eq (at (bound_path f.1.now)))
    → IfSome found (λ f. x ≡ compare (at (bound_path f.0.now)) Eq (at (bound_path f.1.now)))
same_paths x y (Some f) same is = same ∙ is
same_paths x y None same is = tt

pub table_for : {E : Type 0} (labels : List (List ℕ)) (links : List Edge) (entries : List ValueEntry) (path : PathTree) (word read : List Label)
    (result : Result (Option (List (ℤ × Oid))) E) → IsItsWord labels path (Labels word) → read ≡ word
    → IfOk result (λ found. IfSome found (IsTableBy links entries read)) → IfOk result (λ found. IfSome found (IsTableOf labels links entries path))
table_for labels links entries path word read (Ok (Some table)) is same by = (word, is, subst (λ (w : List Label). IsTableBy links entries w table) same by)
table_for labels links entries path word read (Ok None) is same by = tt
table_for labels links entries path word read (Err error) is same by = tt
