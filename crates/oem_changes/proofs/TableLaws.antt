-- Tables of names as lists of pairs in order: a name has one object, and tables of the same entries are one.
use Rattle.std.proofs.Common.{◌≡◌, ℕ, inl, inr, ◌↔◌, List, [], ◌∷◌, Less, subst}
use Rattle.std.specs.List.{Contains, AllPairs, AllByRecursion}
use Rattle.std.specs.List.Sorted.{IsStrictlySortedBy}
use Rattle.std.specs.Map.{keys_of}
use Rattle.std.proofs.lemmas.Cmp.{nat_list_cmp_total}
use Rattle.std.proofs.lemmas.Map.Lookups.{exact_bytes}
use Rattle.std.proofs.lemmas.List.Elements.{All-weaker, All-contains_itself}
use Rattle.std.proofs.lemmas.List.Kept.{AllPairs-cons}
use Rattle.oem_changes.specs.Types.{Oid}
use Rattle.lore_base.specs.Bytes.{bytes_cmp}
use Rattle.lore_base.specs.Names.{IsNameTable}
use Rattle.lore_base.proofs.MemberLaws.{Contains-none, Contains-head, Contains-tail, Contains-cases}
use Rattle.lore_base.proofs.ListLaws.{AllPairs-head, AllPairs-tail, AllPairs-unique}
use Rattle.list_laws.proofs.AscentLaws.{IsOrder, AllPairs-once, total_ordered}
use Rattle.list_laws.proofs.PairLaws.{AllPairs-nil}

pub names_ordered : IsOrder (λ a b. bytes_cmp a b ≡ Less)
names_ordered = total_ordered bytes_cmp nat_list_cmp_total exact_bytes

-- entries in the order of their names
abbrev pub IsNamedBefore : List ℕ × Oid → List ℕ × Oid → Type 0
IsNamedBefore a b = bytes_cmp a.0 b.0 ≡ Less

-- a name below all those of a table is below that of each entry
below_each : (name : List ℕ) (names : List (List ℕ × Oid))
    → AllByRecursion (λ other. bytes_cmp name other ≡ Less) (keys_of names)
    → (entry : List ℕ × Oid) → Contains names entry → bytes_cmp name entry.0 ≡ Less
below_each name [] below entry at = absurd (Contains-none entry at)
below_each name (first ∷ names) below entry at = elim (Contains-cases first names entry at) [
  | inl same ↦ subst (λ (e : List ℕ × Oid). bytes_cmp name e.0 ≡ Less) same below.0
  | inr later ↦ below_each name names below.1 entry later
]

below_all : (name : List ℕ) (names : List (List ℕ × Oid))
    → ((entry : List ℕ × Oid) → Contains names entry → bytes_cmp name entry.0 ≡ Less)
    → AllByRecursion (λ other. bytes_cmp name other ≡ Less) (keys_of names)
below_all name [] below = tt
below_all name (first ∷ names) below = (
  below first (Contains-head first names),
  below_all name names
      (λ entry later. below entry (Contains-tail first names entry later)),
)

pub AllPairs-from_table : (names : List (List ℕ × Oid)) → IsNameTable names → AllPairs IsNamedBefore names
unfolding IsStrictlySortedBy
AllPairs-from_table [] table = AllPairs-nil IsNamedBefore
AllPairs-from_table (entry ∷ names) table =
    AllPairs-cons IsNamedBefore entry names
    (All-weaker (Contains names) (IsNamedBefore entry) (below_each entry.0 names table.0) names
    (All-contains_itself names))
    (AllPairs-from_table names table.1)

pub table_from_AllPairs : (names : List (List ℕ × Oid)) → AllPairs IsNamedBefore names → IsNameTable names
unfolding IsStrictlySortedBy
table_from_AllPairs [] pairs = tt
table_from_AllPairs (entry ∷ names) pairs = (
  below_all entry.0 names (AllPairs-head IsNamedBefore entry names pairs),
  table_from_AllPairs names
      (AllPairs-tail IsNamedBefore entry names pairs),
)

-- a name has one entry
pub one_entry : (names : List (List ℕ × Oid)) → IsNameTable names → (a b : List ℕ × Oid) → Contains names a
    → Contains names b → a.0 ≡ b.0 → a ≡ b
one_entry names table a b at_a at_b same =
    AllPairs-once IsNamedBefore names (AllPairs-from_table names table) a b at_a at_b
    (λ below. names_ordered.apart b.0 (subst (λ name. bytes_cmp name b.0 ≡ Less) same below))
    (λ above. names_ordered.apart b.0 (subst (λ name. bytes_cmp b.0 name ≡ Less) same above))

-- tables with the same entries are one
pub one_table : (names others : List (List ℕ × Oid)) → IsNameTable names → IsNameTable others
    → ((entry : List ℕ × Oid) → Contains names entry ↔ Contains others entry) → names ≡ others
one_table names others table other same =
    AllPairs-unique IsNamedBefore
    (λ a b below above. names_ordered.apart a.0 (names_ordered.trans a.0 b.0 a.0 below above))
    names others (AllPairs-from_table names table) (AllPairs-from_table others other) same
