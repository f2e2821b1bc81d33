-- How many objects an index finds, in which list it puts them, and what a change makes of it.
use Rattle.std.proofs.Common.{◌≡◌, ◌≢◌, ◌↔◌, ◌⊎◌, ◌<◌, ◌^◌, inl, ℕ, List, [], ◌++◌, length, take, drop, nat_cmp, All, Contains, subst, sym, ap, ◌∙◌, arith}
use Rattle.std.specs.List.Sorted.{IsPermutation, IsSorted}
use Rattle.std.proofs.lemmas.List.{take_at, drop_at, take-append-drop}
use Rattle.std.proofs.lemmas.List.Elements.{All-contains}
use Rattle.list_laws.proofs.MemberLaws.{All-from_members}
use Rattle.lore_base.specs.Lists.{ExtendsBy}
use Rattle.lore_base.specs.TargetSets.{ListsInOrder}
use Rattle.index_traits.specs.Entries.{IsProbed, IsFound}
use Rattle.sorted_list.specs.SortedLists.{IsLessWith, AreWithout, AreJoined}
use Rattle.value_index.specs.Types.{Oid, Label, Value, Complex, Op, ValueEntry, Entry, Kind, Wholes, Texts, Flags, Readings, FlagReadings}
use Rattle.value_index.specs.Values.{FitsEntries}
use Rattle.value_orders.specs.Held.{ArePut, less_objects}
use Rattle.value_orders.specs.Entries.{HasOneValueIn}
use Rattle.value_orders.specs.EntryOrder.{entry_order, AscendByValue}
use Rattle.value_index.specs.inside.Leaving.{leaving_of}
use Rattle.value_orders.specs.Orders.{Orders, orders_of, order_at, AreSortedOrders, in_order}
use Rattle.value_index.specs.inside.Counted.{AreCountedOrders}
use Rattle.value_index.specs.inside.Runs.{run_at, ListsOnce, objects_in}
use Rattle.value_index.proofs.ProbeLaws.{AreAnswers, answers-find}
use Rattle.value_index.proofs.CountLaws.{few_found, sorted_once}
use Rattle.value_orders.proofs.KeyLaws.{ascend-as}
use Rattle.value_orders.proofs.OrderLaws.{none-sorted, ascend-in_order, atomic-in_order, one-in_order, kind-ascends}
use Rattle.value_index.proofs.ChangeLaws.{comes-as, stays-as, all-new, orders-less, orders-are, orders-few}

-- the orders of no entries
pub none-counted : AreCountedOrders (orders_of [] [] [] [] [] [])
none-counted = record { sorted = none-sorted; few = omega arith }

-- a probe finds fewer objects than can be counted
pub few_runs : (orders : Orders) → AreCountedOrders orders → (entries : List ValueEntry) → in_order orders ≡ entries
    → (label : Label) (op : Op) (value : Value) (oids : List Oid) → ListsOnce (IsFound entries label op value) oids → length oids < 2 ^ 32
few_runs orders counted entries view_is label op value oids listed =
    let few : length entries < 2 ^ 32 = subst (λ (l : List ValueEntry). length l < 2 ^ 32) view_is counted.few in
    omega (arith, few, few_found entries label op value oids listed)

-- the answers of its orders are what it finds
pub found_runs : (orders : Orders) → AreCountedOrders orders → (entries : List ValueEntry) → in_order orders ≡ entries
    → (label : Label) (op : Op) → IsProbed op → (value : Value) (wholes chars flags readings flag_readings : List Entry)
    → AreAnswers orders label op value wholes chars flags readings flag_readings
    → ListsOnce (IsFound entries label op value)
    (objects_in wholes ++ (objects_in chars ++ (objects_in flags ++ (objects_in readings ++ objects_in flag_readings))))
found_runs orders counted entries view_is label op probed value wholes chars flags readings flag_readings answers =
    subst (λ (l : List ValueEntry). ListsOnce (IsFound l label op value)
    (objects_in wholes ++ (objects_in chars ++ (objects_in flags ++ (objects_in readings ++ objects_in flag_readings))))) view_is
    (answers-find orders counted.sorted label op probed value wholes chars flags readings flag_readings answers)

-- a run among entries and values that are seen otherwise
pub run_seen : (kind : Kind) (label : Label) (op : Op) (value : Value) (values seen : List (Oid × Value)) (entries list run : List Entry)
    → seen ≡ values → list ≡ entries → run ≡ run_at seen kind label op value list → run ≡ run_at values kind label op value entries
run_seen kind label op value values seen entries list run values_are entries_are is =
    is ∙ ap (λ (v : List (Oid × Value)). run_at v kind label op value list) values_are ∙ ap (λ (l : List Entry). run_at values kind label op value l) entries_are

-- objects put behind others and sorted there
pub sorted_behind : (P : Oid → Type 0) (old oids pushed new : List Oid) (start : ℕ) → start ≡ length old → pushed ≡ old ++ oids → ListsOnce P oids
    → take start new ≡ take start pushed → IsPermutation (drop start pushed) (drop start new) → IsSorted (λ (a b : Oid). nat_cmp a.0 b.0) (drop start new)
    → ExtendsBy (ListsInOrder P) old new
sorted_behind P old oids pushed new start start_is pushed_is listed before moved sorted =
    let front : take start new ≡ old = before ∙ ap (take start) pushed_is ∙ take_at old oids start (sym start_is) in
    let back : drop start pushed ≡ oids = ap (drop start) pushed_is ∙ drop_at old oids start (sym start_is) in (
      drop start new,
      sym (take-append-drop start new) ∙ ap (λ l. l ++ drop start new) front,
      sorted_once P oids (drop start new) listed (subst (λ (l : List Oid). IsPermutation l (drop start new)) back moved) sorted,
    )

-- ---- what goes

-- what goes is kept, so that it is atomic, and each object has one value in it
pub atomic_gone : (orders : Orders) → AreSortedOrders orders → (kept gone : List ValueEntry) → in_order orders ≡ kept → All (Contains kept) gone
    → All (λ entry. entry.value ≢ Complex) gone
atomic_gone orders sorted kept gone kept_is all =
    All-from_members (λ entry. entry.value ≢ Complex) gone (λ entry at.
    atomic-in_order orders sorted entry (subst (λ (l : List ValueEntry). Contains l entry) (sym kept_is) (All-contains (λ e. Contains kept e) gone entry all at)))

pub one_gone : (orders : Orders) → AreSortedOrders orders → (kept gone : List ValueEntry) → in_order orders ≡ kept → All (Contains kept) gone
    → HasOneValueIn (Contains gone)
one_gone orders sorted kept gone kept_is all a b first second =
    let there : (entry : ValueEntry) → Contains gone entry → Contains (in_order orders) entry
    = λ entry at. subst (λ (l : List ValueEntry). Contains l entry) (sym kept_is) (All-contains (λ e. Contains kept e) gone entry all at) in
    one-in_order orders sorted a b (there a first) (there b second)

pub one_come : (kept gone come : List ValueEntry) → FitsEntries kept gone come → HasOneValueIn (Contains come)
one_come kept gone come fits a b first second = fits.one_value a b (inl first) (inl second)

-- ---- a commit

-- an order without what goes, seen by its values and by the list of what goes
pub taken-seen : (kind : Kind) (values seen : List (Oid × Value)) (gone list items left : List Entry) → seen ≡ values → list ≡ gone
    → AreWithout (entry_order seen kind) list items left → AreWithout (entry_order values kind) gone items left
taken-seen kind values seen gone list items left values_are list_is less =
    subst (λ (l : List Entry). AreWithout (entry_order values kind) l items left) list_is
    (subst (λ (v : List (Oid × Value)). AreWithout (entry_order v kind) list items left) values_are less)

-- and one with what comes, seen by its values
pub joined-seen : (kind : Kind) (values seen : List (Oid × Value)) (first second all : List Entry) → seen ≡ values
    → AreJoined (entry_order seen kind) first second all → AreJoined (entry_order values kind) first second all
joined-seen kind values seen first second all values_are joined =
    subst (λ (v : List (Oid × Value)). AreJoined (entry_order v kind) first second all) values_are joined

-- values that were changed, by orders that are seen otherwise
pub put-seen : (come gone old now : List (Oid × Value)) (wholes chars flags seen_wholes seen_chars seen_flags : List Entry)
    → seen_wholes ≡ wholes → seen_chars ≡ chars → seen_flags ≡ flags
    → ArePut come (less_objects (leaving_of come seen_wholes seen_chars seen_flags gone) old) now
    → ArePut come (less_objects (leaving_of come wholes chars flags gone) old) now
put-seen come gone old now wholes chars flags seen_wholes seen_chars seen_flags wholes_are chars_are flags_are put =
    subst (λ (l : List Entry). ArePut come (less_objects (leaving_of come l chars flags gone) old) now) wholes_are
    (subst (λ (l : List Entry). ArePut come (less_objects (leaving_of come seen_wholes l flags gone) old) now) chars_are
    (subst (λ (l : List Entry). ArePut come (less_objects (leaving_of come seen_wholes seen_chars l gone) old) now) flags_are put))

-- the five orders without what goes
pub record AreTaken (old going left : Orders) : Type 0 where
  pub wholes : AreWithout (entry_order old.values Wholes) going.wholes old.wholes left.wholes
  pub chars : AreWithout (entry_order old.values Texts) going.chars old.chars left.chars
  pub flags : AreWithout (entry_order old.values Flags) going.flags old.flags left.flags
  pub readings : AreWithout (entry_order old.values Readings) going.readings old.readings left.readings
  pub flag_readings : AreWithout (entry_order old.values FlagReadings) going.flag_readings old.flag_readings left.flag_readings

-- and with what comes
pub record AreAllJoined (left coming after : Orders) : Type 0 where
  pub wholes : AreJoined (entry_order after.values Wholes) left.wholes coming.wholes after.wholes
  pub chars : AreJoined (entry_order after.values Texts) left.chars coming.chars after.chars
  pub flags : AreJoined (entry_order after.values Flags) left.flags coming.flags after.flags
  pub readings : AreJoined (entry_order after.values Readings) left.readings coming.readings after.readings
  pub flag_readings : AreJoined (entry_order after.values FlagReadings) left.flag_readings coming.flag_readings after.flag_readings

module _ (old going left : Orders) (taken : AreTaken old going left) where
  taken-members : (kind : Kind) (entry : Entry)
      → Contains (order_at left kind) entry ↔ (Contains (order_at old kind) entry × (Contains (order_at going kind) entry → ⊥))
  taken-members Wholes = taken.wholes.members
  taken-members Texts = taken.chars.members
  taken-members Flags = taken.flags.members
  taken-members Readings = taken.readings.members
  taken-members FlagReadings = taken.flag_readings.members

  pub taken-ascend : (kind : Kind) → AscendByValue old.values kind (order_at left kind)
  taken-ascend Wholes = taken.wholes.ascend
  taken-ascend Texts = taken.chars.ascend
  taken-ascend Flags = taken.flags.ascend
  taken-ascend Readings = taken.readings.ascend
  taken-ascend FlagReadings = taken.flag_readings.ascend

joined-members : (left coming after : Orders) → AreAllJoined left coming after → (kind : Kind) (entry : Entry)
    → Contains (order_at after kind) entry ↔ (Contains (order_at left kind) entry ⊎ Contains (order_at coming kind) entry)
joined-members left coming after joined Wholes = joined.wholes.members
joined-members left coming after joined Texts = joined.chars.members
joined-members left coming after joined Flags = joined.flags.members
joined-members left coming after joined Readings = joined.readings.members
joined-members left coming after joined FlagReadings = joined.flag_readings.members

-- the lists of entries as they are seen
pub record AreSeen (old going coming : Orders) (kept gone come : List ValueEntry) : Type 0 where
  pub old_sorted : AreSortedOrders old
  pub going_sorted : AreSortedOrders going
  pub coming_sorted : AreSortedOrders coming
  pub kept_is : in_order old ≡ kept
  pub gone_is : in_order going ≡ gone
  pub come_is : in_order coming ≡ come
  pub fits : FitsEntries kept gone come

module _ (old going coming : Orders) (kept gone come : List ValueEntry) (seen : AreSeen old going coming kept gone come) where
  own-fits : FitsEntries (in_order old) (in_order going) (in_order coming)
  own-fits =
      subst (λ (l : List ValueEntry). FitsEntries l (in_order going) (in_order coming)) (sym seen.kept_is)
      (subst (λ (l : List ValueEntry). FitsEntries kept l (in_order coming)) (sym seen.gone_is)
      (subst (λ (l : List ValueEntry). FitsEntries kept gone l) (sym seen.come_is) seen.fits))

  module _ (left : Orders) (taken : AreTaken old going left) (now : List (Oid × Value))
      (put : ArePut coming.values (less_objects (leaving_of coming.values left.wholes left.chars left.flags going.values) old.values) now) where
    -- what is left ascends by the values then, and so does what comes, which is new
    pub left-ascends : (kind : Kind) → AscendByValue now kind (order_at left kind)
    left-ascends kind =
        ascend-as old.values now kind (order_at left kind)
        (stays-as (in_order old) (in_order going) (ascend-in_order old) own-fits.change.kept_ones old going seen.old_sorted.are seen.going_sorted.are
        left (taken-members old going left taken) (in_order coming) own-fits (atomic-in_order old seen.old_sorted) coming seen.coming_sorted.are
        seen.old_sorted.objects_ascend seen.going_sorted.objects_ascend seen.coming_sorted.objects_ascend now put kind)
        (taken-ascend old going left taken kind)

    pub coming-ascends : (kind : Kind) → AscendByValue now kind (order_at coming kind)
    coming-ascends kind =
        ascend-as coming.values now kind (order_at coming kind)
        (comes-as (in_order old) (in_order going) (ascend-in_order old) own-fits.change.kept_ones old going seen.old_sorted.are seen.going_sorted.are
        left (taken-members old going left taken) (in_order coming) own-fits (atomic-in_order old seen.old_sorted) coming seen.coming_sorted.are
        seen.old_sorted.objects_ascend seen.going_sorted.objects_ascend seen.coming_sorted.objects_ascend now put kind)
        (kind-ascends coming seen.coming_sorted kind)

    pub coming-new : (kind : Kind) → All (λ entry. Contains (order_at left kind) entry → ⊥) (order_at coming kind)
    coming-new =
        all-new (in_order old) (in_order going) (ascend-in_order old) own-fits.change.kept_ones old going seen.old_sorted.are seen.going_sorted.are
        left (taken-members old going left taken) (in_order coming) own-fits (atomic-in_order old seen.old_sorted) coming seen.coming_sorted.are
        seen.old_sorted.objects_ascend seen.going_sorted.objects_ascend seen.coming_sorted.objects_ascend now put

    module _ (wholes chars flags readings flag_readings : List Entry)
        (joined : AreAllJoined left coming (orders_of now wholes chars flags readings flag_readings)) where
      abbrev after : Orders
      after = orders_of now wholes chars flags readings flag_readings

      own-less : IsLessWith (in_order old) (in_order going) (in_order coming) (in_order after)
      own-less =
          orders-less (in_order old) (in_order going) (ascend-in_order old) own-fits.change.kept_ones old going seen.old_sorted.are seen.going_sorted.are
          left (taken-members old going left taken) (in_order coming) own-fits (atomic-in_order old seen.old_sorted) coming seen.coming_sorted.are
          seen.old_sorted.objects_ascend seen.going_sorted.objects_ascend seen.coming_sorted.objects_ascend now put
          wholes chars flags readings flag_readings (joined-members left coming after joined)

      pub commit-less : IsLessWith kept gone come (in_order after)
      commit-less =
          subst (λ (l : List ValueEntry). IsLessWith l gone come (in_order after)) seen.kept_is
          (subst (λ (l : List ValueEntry). IsLessWith (in_order old) l come (in_order after)) seen.gone_is
          (subst (λ (l : List ValueEntry). IsLessWith (in_order old) (in_order going) l (in_order after)) seen.come_is own-less))

      pub commit-orders : AreCountedOrders after
      commit-orders = record {
        sorted = record {
          objects_ascend = put.ascend;
          wholes_ascend = joined.wholes.ascend;
          chars_ascend = joined.chars.ascend;
          flags_ascend = joined.flags.ascend;
          readings_ascend = joined.readings.ascend;
          flag_readings_ascend = joined.flag_readings.ascend;
          are = orders-are (in_order old) (in_order going) (ascend-in_order old) own-fits.change.kept_ones old going seen.old_sorted.are seen.going_sorted.are
              left (taken-members old going left taken) (in_order coming) own-fits (atomic-in_order old seen.old_sorted) coming seen.coming_sorted.are
              seen.old_sorted.objects_ascend seen.going_sorted.objects_ascend seen.coming_sorted.objects_ascend now put
              wholes chars flags readings flag_readings (joined-members left coming after joined);
        };
        few = orders-few (in_order old) (in_order going) (ascend-in_order old) own-fits.change.kept_ones old going seen.old_sorted.are seen.going_sorted.are
            left (taken-members old going left taken) (in_order coming) own-fits (atomic-in_order old seen.old_sorted) coming seen.coming_sorted.are
            seen.old_sorted.objects_ascend seen.going_sorted.objects_ascend seen.coming_sorted.objects_ascend now put
            wholes chars flags readings flag_readings (joined-members left coming after joined);
      }
