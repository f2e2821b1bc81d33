-- Tables of names: what binding and taking away keeps, what a look-up finds then, and which entries there are.
use Rattle.std.proofs.Common.{◌≡◌, Bool, true, false, true≢false, cond, ℕ, List, [], ◌∷◌, ◌++◌, Option, Some, None, is_some, Less, Equal, Greater, Contains, inl, inr, refl, ap, sym, subst, ◌∙◌, append_assoc}
use Rattle.std.proofs.lemmas.List.{append-nil}
use Rattle.std.specs.Map.{keys_of, lookup, remove_entry}
use Rattle.std.specs.BTreeMap.{insert_entry, is_at}
use Rattle.std.specs.List.{AllByRecursion}
use Rattle.std.specs.List.Sorted.{IsStrictlySortedBy}
use Rattle.std.specs.Cmp.{IsTotalOrder, IsEquivalence}
use Rattle.std.specs.Option.{option_or}
use Rattle.std.specs.Ordering.{ordering_reverse, match_ordering, is_eq, eq_by_cmp}
use Rattle.std.specs.declared.cmp.Ordering.{Ordering}
use Rattle.std.proofs.lemmas.Cmp.{nat_list_cmp_total, eq_by_cmp_equiv, alike_right}
use Rattle.std.proofs.lemmas.Map.{lookup-none, lookup-remove_entry}
use Rattle.std.proofs.lemmas.Map.Entries.{none_past_head}
use Rattle.std.proofs.lemmas.Map.Keys.{IsDistinct-from_sorted, sorted_tail}
use Rattle.std.proofs.lemmas.Map.Lookups.{exact_bytes}
use Rattle.std.proofs.lemmas.Map.Views.{Contains-from_lookup, lookup-from_Contains}
use Rattle.lore_base.specs.Types.{Oid}
use Rattle.lore_lists.specs.Bytes.{bytes_cmp}
use Rattle.lore_base.specs.Names.{IsNameTable, object_of}
use Rattle.lore_base.specs.inside.NameTables.{names_after, names_without}
use Rattle.lore_lists.proofs.MemberLaws.{Contains-none, Contains-head, Contains-tail, Contains-cases, Contains-same}

-- what is below all keys is below one among them
below_one : (key : List ℕ) (done others : List (List ℕ × Oid)) (entry : List ℕ × Oid)
    → AllByRecursion (λ other. bytes_cmp key other ≡ Less) (keys_of (done ++ entry ∷ others)) → bytes_cmp key entry.0 ≡ Less
below_one key [] others entry h = h.0
below_one key (_ ∷ done) others entry h = below_one key done others entry h.1

-- a name that comes after those of a table is bound at its end
insert_entry-last : (done others : List (List ℕ × Oid)) (entry : List ℕ × Oid) → IsNameTable (done ++ entry ∷ others)
    → insert_entry bytes_cmp done entry.0 entry.1 ≡ done ++ entry ∷ []
unfolding IsStrictlySortedBy
insert_entry-last [] others entry h = refl
insert_entry-last (first ∷ done) others entry h =
    let less : bytes_cmp first.0 entry.0 ≡ Less = below_one first.0 done others entry h.0 in
    let greater : bytes_cmp entry.0 first.0 ≡ Greater = nat_list_cmp_total.antisymm entry.0 first.0 ∙ ap ordering_reverse less in
    rw greater (ap (λ later. first ∷ later) (insert_entry-last done others entry h.1))

-- names that come after those of a table are bound behind them, in their order
names_after-later : (done more : List (List ℕ × Oid)) → IsNameTable (done ++ more) → names_after done more ≡ done ++ more
names_after-later done [] h = sym (append-nil done)
names_after-later done (entry ∷ others) h =
    ap (λ names. names_after names others) (insert_entry-last done others entry h)
    ∙ names_after-later (done ++ entry ∷ []) others (rw append_assoc h)
    ∙ append_assoc done (entry ∷ []) others

pub names_after-none : (names : List (List ℕ × Oid)) → IsNameTable names → names_after [] names ≡ names
names_after-none names h = names_after-later [] names h

-- ---- a table stays in order
-- what is below a key is below what comes after that key
below_all : {K : Type 0} {R : K → K → Ordering} (total : IsTotalOrder R) (k e : K) (ks : List K) → R k e ≡ Less → AllByRecursion (λ y. R e y ≡ Less) ks → AllByRecursion (λ y. R k y ≡ Less) ks
below_all total k e [] less h = h
below_all total k e (y ∷ ks) less h = (total.trans k e y less h.0, below_all total k e ks less h.1)

-- a key below all keys and below a new one is below all with the new one
below_inserted : {K X : Type 0} (R : K → K → Ordering) (below : K) (es : List (K × X)) (k : K) (v : X) → R below k ≡ Less
    → AllByRecursion (λ y. R below y ≡ Less) (keys_of es) → AllByRecursion (λ y. R below y ≡ Less) (keys_of (insert_entry R es k v))
below_inserted R below [] k v less h = (less, h)
below_inserted R below (e ∷ es) k v less h =
    elim (R k e.0) as (λ o. AllByRecursion (λ y. R below y ≡ Less) (keys_of (match_ordering o ((k, v) ∷ e ∷ es) ((e.0, v) ∷ es) (e ∷ insert_entry R es k v))))
    [ Less ↦ (less, h) | Equal ↦ h | Greater ↦ (h.0, below_inserted R below es k v less h.1) ]

-- an entry put at its place keeps the keys in order
pub sorted-insert_entry : {K X : Type 0} {R : K → K → Ordering} (total : IsTotalOrder R) (es : List (K × X)) (k : K) (v : X)
    → IsStrictlySortedBy R (keys_of es) → IsStrictlySortedBy R (keys_of (insert_entry R es k v))
unfolding IsStrictlySortedBy
sorted-insert_entry total [] k v h = (tt, tt)
sorted-insert_entry {R = R} total (e ∷ es) k v h =
    let others = sorted-insert_entry total es k v h.1 in
    let by_case : (o : Ordering) → R k e.0 ≡ o → IsStrictlySortedBy R (keys_of (match_ordering o ((k, v) ∷ e ∷ es) ((e.0, v) ∷ es) (e ∷ insert_entry R es k v))) =
    λ o. elim o as (λ o'. R k e.0 ≡ o' → IsStrictlySortedBy R (keys_of (match_ordering o' ((k, v) ∷ e ∷ es) ((e.0, v) ∷ es) (e ∷ insert_entry R es k v)))) [
      | Less ↦ λ less. ((less, below_all total k e.0 (keys_of es) less h.0), h)
      | Equal ↦ λ same. h
      | Greater ↦ λ greater. (below_inserted R e.0 es k v (total.antisymm e.0 k ∙ ap ordering_reverse greater) h.0, others)
    ] in
    by_case (R k e.0) refl

-- what holds of all keys holds of those that are left
kept_keys : {K X : Type 0} (test : K → Bool) (P : K → Type 0) (es : List (K × X)) → AllByRecursion P (keys_of es) → AllByRecursion P (keys_of (remove_entry test es))
kept_keys test P [] h = h
kept_keys test P (e ∷ es) h = elim (test e.0) as (λ b. AllByRecursion P (keys_of (cond b es (e ∷ remove_entry test es))))
    [ true ↦ h.1 | false ↦ (h.0, kept_keys test P es h.1) ]

-- an entry taken away leaves the keys in order
pub sorted-remove_entry : {K X : Type 0} (R : K → K → Ordering) (test : K → Bool) (es : List (K × X))
    → IsStrictlySortedBy R (keys_of es) → IsStrictlySortedBy R (keys_of (remove_entry test es))
unfolding IsStrictlySortedBy
sorted-remove_entry R test [] h = h
sorted-remove_entry R test (e ∷ es) h =
    let others = sorted-remove_entry R test es h.1 in
    elim (test e.0) as (λ b. IsStrictlySortedBy R (keys_of (cond b es (e ∷ remove_entry test es))))
    [ true ↦ h.1 | false ↦ (kept_keys test (λ y. R e.0 y ≡ Less) es h.0, others) ]

-- a table of names stays one, whatever names are bound
pub IsNameTable-names_after : (names more : List (List ℕ × Oid)) → IsNameTable names → IsNameTable (names_after names more)
IsNameTable-names_after names [] h = h
IsNameTable-names_after names (entry ∷ others) h =
    IsNameTable-names_after (insert_entry bytes_cmp names entry.0 entry.1) others (sorted-insert_entry nat_list_cmp_total names entry.0 entry.1 h)

-- and whatever names are taken away
pub IsNameTable-names_without : (names : List (List ℕ × Oid)) (words : List (List ℕ)) → IsNameTable names → IsNameTable (names_without names words)
IsNameTable-names_without names [] h = h
IsNameTable-names_without names (word ∷ others) h =
    IsNameTable-names_without (remove_entry (is_at (bytes_cmp word)) names) others (sorted-remove_entry bytes_cmp (is_at (bytes_cmp word)) names h)

-- ---- the entries of a table, and what a look-up finds
names_equiv : IsEquivalence (eq_by_cmp bytes_cmp)
names_equiv = eq_by_cmp_equiv nat_list_cmp_total

is_equal : (o : Ordering) → is_eq o ≡ true → o ≡ Equal
is_equal Less h = absurd (true≢false (sym h))
is_equal Equal h = refl
is_equal Greater h = absurd (true≢false (sym h))

-- names that compare as equal are the same
same_name : (name other : List ℕ) → is_at (bytes_cmp name) other ≡ true → name ≡ other
same_name name other h = exact_bytes name other (is_equal (bytes_cmp name other) h)

pub bound_found : (names : List (List ℕ × Oid)) (name : List ℕ) (oid : Oid) → IsNameTable names → Contains names (name, oid) → object_of names name ≡ Some oid
bound_found names name oid table at = lookup-from_Contains names_equiv name oid names (IsDistinct-from_sorted bytes_cmp (keys_of names) table) at

pub found_bound : (names : List (List ℕ × Oid)) (name : List ℕ) (oid : Oid) → object_of names name ≡ Some oid → Contains names (name, oid)
found_bound names name oid is = Contains-from_lookup {eq = eq_by_cmp bytes_cmp} same_name name oid names is

-- ---- what a look-up finds once a name is bound, or taken away
pick_same : {X : Type 0} (a b : Bool) (v w x : Option X) → a ≡ b → cond b v x ≡ cond a v (cond b w x)
pick_same true true v w x same = refl
pick_same false false v w x same = refl
pick_same true false v w x same = absurd (true≢false same)
pick_same false true v w x same = absurd (true≢false (sym same))

pick_apart : {X : Type 0} (a b : Bool) (v w x : Option X) → (a ≡ true → b ≡ true → ⊥) → cond b w (cond a v x) ≡ cond a v (cond b w x)
pick_apart true true v w x apart = absurd (apart refl refl)
pick_apart true false v w x apart = refl
pick_apart false b v w x apart = refl

-- the key that is put has its value, and each other one its own
pub lookup-insert_entry : {K X : Type 0} {cmp : K → K → Ordering} (total : IsTotalOrder cmp) (es : List (K × X)) (k : K) (v : X) (q : K)
    → lookup (is_at (cmp q)) (insert_entry cmp es k v) ≡ cond (is_at (cmp q) k) (Some v) (lookup (is_at (cmp q)) es)
lookup-insert_entry total [] k v q = refl
lookup-insert_entry {X = X} {cmp = cmp} total (e ∷ es) k v q =
    let old : Option X = lookup (is_at (cmp q)) es in
    let later = lookup-insert_entry total es k v q in
    let by_case : (o : Ordering) → cmp k e.0 ≡ o → lookup (is_at (cmp q)) (match_ordering o ((k, v) ∷ e ∷ es) ((e.0, v) ∷ es) (e ∷ insert_entry cmp es k v))
    ≡ cond (is_at (cmp q) k) (Some v) (cond (is_at (cmp q) e.0) (Some e.1) old) =
    λ o. elim o as (λ o'. cmp k e.0 ≡ o' → lookup (is_at (cmp q)) (match_ordering o' ((k, v) ∷ e ∷ es) ((e.0, v) ∷ es) (e ∷ insert_entry cmp es k v))
    ≡ cond (is_at (cmp q) k) (Some v) (cond (is_at (cmp q) e.0) (Some e.1) old)) [
      | Less ↦ λ less. refl
      | Equal ↦ λ same. pick_same (is_at (cmp q) k) (is_at (cmp q) e.0) (Some v) (Some e.1) old (ap is_eq (alike_right total k e.0 q same))
      | Greater ↦ λ greater. ap (cond (is_at (cmp q) e.0) (Some e.1)) later
          ∙ pick_apart (is_at (cmp q) k) (is_at (cmp q) e.0) (Some v) (Some e.1) old
          (λ here there. true≢false (ap is_eq (sym (is_equal (cmp q e.0) there) ∙ total.congr q k e.0 (is_equal (cmp q k) here) ∙ greater)))
    ] in
    by_case (cmp k e.0) refl

-- names that are bound take the place of older ones
pub object_of-names_after : (names more : List (List ℕ × Oid)) (name : List ℕ) → IsNameTable more
    → object_of (names_after names more) name ≡ option_or (object_of more name) (object_of names name)
object_of-names_after names [] name table = refl
object_of-names_after names (entry ∷ others) name table =
    let later = object_of-names_after (insert_entry bytes_cmp names entry.0 entry.1) others name (sorted_tail bytes_cmp entry.0 (keys_of others) table)
    ∙ ap (option_or (object_of others name)) (lookup-insert_entry nat_list_cmp_total names entry.0 entry.1 name) in
    let by_case : (b : Bool) → is_at (bytes_cmp name) entry.0 ≡ b → option_or (object_of others name) (cond b (Some entry.1) (object_of names name))
    ≡ option_or (cond b (Some entry.1) (object_of others name)) (object_of names name) =
    λ b. elim b as (λ c. is_at (bytes_cmp name) entry.0 ≡ c → option_or (object_of others name) (cond c (Some entry.1) (object_of names name))
    ≡ option_or (cond c (Some entry.1) (object_of others name)) (object_of names name)) [
      | true ↦ λ here. ap (λ (o : Option Oid). option_or o (Some entry.1)) (lookup-none (is_at (bytes_cmp name)) others
          (none_past_head names_equiv name entry others (IsDistinct-from_sorted bytes_cmp (keys_of (entry ∷ others)) table) here))
      | false ↦ λ apart. refl
    ] in
    later ∙ by_case (is_at (bytes_cmp name) entry.0) refl

-- a name taken away is not found
pub object_of-remove : (names : List (List ℕ × Oid)) (word name : List ℕ) → IsNameTable names
    → object_of (remove_entry (is_at (bytes_cmp word)) names) name ≡ cond (is_at (bytes_cmp word) name) None (object_of names name)
object_of-remove names word name table =
    lookup-remove_entry names_equiv (is_at (bytes_cmp word)) (λ x y h. names_equiv.congr word x y h) name names
    (IsDistinct-from_sorted bytes_cmp (keys_of names) table)

removed_word : (word name : List ℕ) (o : Option Oid) (oid : Oid) (b : Bool) → is_at (bytes_cmp word) name ≡ b → cond b None o ≡ Some oid
    → (word ≡ name → ⊥) × (o ≡ Some oid)
removed_word word name o oid true is h = absurd (true≢false (sym (ap is_some h)))
removed_word word name o oid false is h =
    (λ same. true≢false (sym (subst (λ (n : List ℕ). is_at (bytes_cmp word) n ≡ true) same (names_equiv.refl word)) ∙ is), h)

-- what is found once names are taken away was there, and isn't one of them
pub left_found : (names : List (List ℕ × Oid)) (words : List (List ℕ)) (name : List ℕ) (oid : Oid) → IsNameTable names
    → object_of (names_without names words) name ≡ Some oid → (object_of names name ≡ Some oid) × (¬ Contains words name)
left_found names [] name oid table h = (h, Contains-none name)
left_found names (word ∷ others) name oid table h =
    let without = remove_entry (is_at (bytes_cmp word)) names in
    let later = left_found without others name oid (sorted-remove_entry bytes_cmp (is_at (bytes_cmp word)) names table) h in
    let here = removed_word word name (object_of names name) oid (is_at (bytes_cmp word) name) refl (sym (object_of-remove names word name table) ∙ later.0) in
    (here.1, λ at. elim (Contains-cases word others name at) [ inl same ↦ here.0 same | inr behind ↦ later.1 behind ])

-- and what was there and isn't one of them is found
pub found_left : (names : List (List ℕ × Oid)) (words : List (List ℕ)) (name : List ℕ) (oid : Oid) → IsNameTable names
    → object_of names name ≡ Some oid → (¬ Contains words name) → object_of (names_without names words) name ≡ Some oid
found_left names [] name oid table h none = h
found_left names (word ∷ others) name oid table h none =
    let without = remove_entry (is_at (bytes_cmp word)) names in
    let by_case : (b : Bool) → is_at (bytes_cmp word) name ≡ b → cond b None (object_of names name) ≡ Some oid =
    λ b. elim b as (λ c. is_at (bytes_cmp word) name ≡ c → cond c None (object_of names name) ≡ Some oid) [
      | true ↦ λ same. absurd (none (Contains-same (word ∷ others) word name (same_name word name same) (Contains-head word others)))
      | false ↦ λ apart. h
    ] in
    found_left without others name oid (sorted-remove_entry bytes_cmp (is_at (bytes_cmp word)) names table)
    (object_of-remove names word name table ∙ by_case (is_at (bytes_cmp word) name) refl)
    (λ behind. none (Contains-tail word others name behind))
