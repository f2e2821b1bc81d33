-- What a probe finds: in each order the objects whose values there compare so, in all of them those that are found.
use Rattle.std.proofs.Common.{◌≡◌, ◌≢◌, ◌↔◌, ◌⊎◌, inl, inr, ◌<◌, Bool, true, false, cond, List, [], ◌++◌, get_or, Contains, subst, refl, sym, ap, ◌∙◌, arith}
use Rattle.std.proofs.lemmas.Bool.{true≢false}
use Rattle.std.proofs.lemmas.List.Elements.{Contains-append_left, Contains-append_right, Contains-append_cases, Contains-get_or}
use Rattle.lore_base.specs.Comparisons.{Admits, Compares}
use Rattle.lore_base.proofs.ListLaws.{AllPairs-append}
use Rattle.lore_base.proofs.MemberLaws.{Contains-none, Contains-same}
use Rattle.list_laws.proofs.MemberLaws.{Contains-map, Contains-from_map}
use Rattle.index_traits.specs.Entries.{AreAscendingEntries, entry_of, IsProbed, IsFound}
use Rattle.value_index.specs.Types.{Oid, Label, Value, Op, ValueEntry, Entry, Kind, Wholes, Texts, Flags, Readings, FlagReadings}
use Rattle.value_orders.specs.Kinds.{is_of, is_sought, value_cmp}
use Rattle.value_orders.specs.Held.{held}
use Rattle.value_orders.specs.Entries.{entry_in}
use Rattle.value_orders.specs.inside.Naming.{naming}
use Rattle.value_orders.specs.Orders.{Orders, order_at, in_order, AreSortedOrders}
use Rattle.value_index.specs.inside.Runs.{run_in, run_at, ListsOnce, objects_in}
use Rattle.value_index.proofs.CompareLaws.{ByKind, ByReads, ByNoText, ByNoWhole, ByKinds}
use Rattle.value_index.proofs.CompareLaws.{compares_by, only_wholes, only_texts, only_flags, only_readings}
use Rattle.value_orders.proofs.EntryLaws.{one_own}
use Rattle.value_orders.proofs.KeyLaws.{same_naming}
use Rattle.value_orders.proofs.OrderLaws.{ascend-in_order, value-in_order, kind-ascends}
use Rattle.value_index.proofs.RunLaws.{run-objects, run-once}

-- the object has an entry of the label whose value passes
abbrev FoundBy : List ValueEntry → Label → (Value → Type 0) → Oid → Type 0
FoundBy entries label P oid = (own : Value) × Contains entries (entry_of label own oid) × P own

module _ (orders : Orders) (sorted : AreSortedOrders orders) (label : Label) (op : Op) (probed : IsProbed op) (value : Value) (kind : Kind) where
  -- an order names the objects of entries whose values are of its kind
  named-from : (oid : Oid) → Contains (order_at orders kind) (naming label oid)
      → Contains (in_order orders) (entry_of label (held orders.values oid) oid) × (is_of kind (held orders.values oid) ≡ true)
  named-from oid at =
      (sorted.are.listed kind (entry_of label (held orders.values oid) oid)).0
      (Contains-map (entry_in orders.values) (order_at orders kind) (naming label oid) at)

  named-to : (oid : Oid) (own : Value) → Contains (in_order orders) (entry_of label own oid) → is_of kind own ≡ true
      → Contains (order_at orders kind) (naming label oid)
  named-to oid own at of =
      let from = Contains-from_map (entry_in orders.values) (order_at orders kind) (entry_of label own oid)
      ((sorted.are.listed kind (entry_of label own oid)).1 (at, of)) in
      Contains-same (order_at orders kind) from.0 (naming label oid)
      (same_naming from.0 (naming label oid) (ap (λ (e : ValueEntry). e.label) from.2) (ap (λ (e : ValueEntry). e.object) from.2)) from.1

  sought-finds : (sought : Bool) → is_sought kind value ≡ sought
      → ListsOnce (FoundBy (in_order orders) label (ByKind kind op value)) (objects_in (cond sought (run_in orders.values kind label op value (order_at orders kind)) []))
  sought-finds false none = record {
    once = λ i j d lt len. let none_len : j < 0 = len in absurd (omega (arith, none_len));
    exact = λ oid. (
      λ at. absurd (Contains-none oid at),
      λ found. absurd (true≢false (sym found.2.1.0 ∙ none)),
    );
  }
  sought-finds true is = record {
    once = run-once orders.values kind label op value (order_at orders kind) probed (kind-ascends orders sorted kind);
    exact = λ oid. (
      λ at. (
          let there = (run-objects orders.values kind label op value (order_at orders kind) probed oid).0 at in
          let own = named-from oid there.0 in
          (held orders.values oid, own.0, (own.1, (is, there.1)))),
      λ found. (
          let same : held orders.values oid ≡ found.0 = value-in_order orders sorted (entry_of label found.0 oid) found.1 in
          (run-objects orders.values kind label op value (order_at orders kind) probed oid).1 (
            named-to oid found.0 found.1 found.2.0,
            subst (λ (v : Value). Admits op (value_cmp kind v value)) (sym same) found.2.1.1,
          )),
    );
  }

  -- an order finds the objects whose values compare so, each once
  pub order-finds : (run : List Entry) → run ≡ run_at orders.values kind label op value (order_at orders kind)
      → ListsOnce (FoundBy (in_order orders) label (ByKind kind op value)) (objects_in run)
  order-finds run is =
      subst (λ (l : List Entry). ListsOnce (FoundBy (in_order orders) label (ByKind kind op value)) (objects_in l)) (sym is) (sought-finds (is_sought kind value) refl)

module _ (entries : List ValueEntry) (ascend : AreAscendingEntries entries) (label : Label) where
  -- what two claims find that no value meets both
  both-find : (P Q : Value → Type 0) → ((own : Value) → P own → Q own → ⊥) → (first second : List Oid)
      → ListsOnce (FoundBy entries label P) first → ListsOnce (FoundBy entries label Q) second
      → ListsOnce (FoundBy entries label (λ own. P own ⊎ Q own)) (first ++ second)
  both-find P Q apart first second firsts seconds = record {
    once = AllPairs-append (λ a b. a ≢ b) first second firsts.once seconds.once (λ i j d lt_i lt_j same.
        let oid = get_or second j d in
        let own = (firsts.exact oid).0 (Contains-same first _ _ same (Contains-get_or first i d lt_i)) in
        let other = (seconds.exact oid).0 (Contains-get_or second j d lt_j) in
        let values = one_own entries ascend label oid own.0 other.0 own.1 other.1 in
        apart other.0 (subst P values own.2) other.2);
    exact = λ oid. (
      λ at. elim (Contains-append_cases first second oid at) [
        | inl there ↦ (let own = (firsts.exact oid).0 there in (own.0, own.1, inl own.2))
        | inr there ↦ (let own = (seconds.exact oid).0 there in (own.0, own.1, inr own.2))
      ],
      λ found. elim found.2 [
        | inl passes ↦ Contains-append_left first second oid ((firsts.exact oid).1 (found.0, found.1, passes))
        | inr passes ↦ Contains-append_right first second oid ((seconds.exact oid).1 (found.0, found.1, passes))
      ],
    );
  }

  find-like : (P Q : Value → Type 0) → ((own : Value) → P own ↔ Q own) → (oids : List Oid)
      → ListsOnce (FoundBy entries label P) oids → ListsOnce (FoundBy entries label Q) oids
  find-like P Q same oids lists = record {
    once = lists.once;
    exact = λ oid. (
      λ at. (let own = (lists.exact oid).0 at in (own.0, own.1, (same own.0).0 own.2)),
      λ found. (lists.exact oid).1 (found.0, found.1, (same found.0).1 found.2),
    );
  }

-- the answers of the five orders
pub record AreAnswers (orders : Orders) (label : Label) (op : Op) (value : Value) (wholes chars flags readings flag_readings : List Entry) : Type 0 where
  pub wholes_run : wholes ≡ run_at orders.values Wholes label op value orders.wholes
  pub chars_run : chars ≡ run_at orders.values Texts label op value orders.chars
  pub flags_run : flags ≡ run_at orders.values Flags label op value orders.flags
  pub readings_run : readings ≡ run_at orders.values Readings label op value orders.readings
  pub flag_readings_run : flag_readings ≡ run_at orders.values FlagReadings label op value orders.flag_readings

-- they list the objects that are found, each once
pub answers-find : (orders : Orders) → AreSortedOrders orders → (label : Label) (op : Op) → IsProbed op → (value : Value)
    (wholes chars flags readings flag_readings : List Entry) → AreAnswers orders label op value wholes chars flags readings flag_readings
    → ListsOnce (IsFound (in_order orders) label op value)
    (objects_in wholes ++ (objects_in chars ++ (objects_in flags ++ (objects_in readings ++ objects_in flag_readings))))
answers-find orders sorted label op probed value wholes chars flags readings flag_readings answers =
    let entries = in_order orders in
    let ascend = ascend-in_order orders in
    find-like entries ascend label (ByKinds op value) (λ own. Compares own op value) (λ own. let told = compares_by op probed own value in (told.1, told.0)) _
    (both-find entries ascend label (ByKind Wholes op value) (ByNoWhole op value) (only_wholes op value) _ _
    (order-finds orders sorted label op probed value Wholes wholes answers.wholes_run)
    (both-find entries ascend label (ByKind Texts op value) (ByNoText op value) (only_texts op value) _ _
    (order-finds orders sorted label op probed value Texts chars answers.chars_run)
    (both-find entries ascend label (ByKind Flags op value) (ByReads op value) (only_flags op value) _ _
    (order-finds orders sorted label op probed value Flags flags answers.flags_run)
    (both-find entries ascend label (ByKind Readings op value) (ByKind FlagReadings op value) (only_readings op value) _ _
    (order-finds orders sorted label op probed value Readings readings answers.readings_run)
    (order-finds orders sorted label op probed value FlagReadings flag_readings answers.flag_readings_run)))))
