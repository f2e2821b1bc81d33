-- Target sets: lists of what passes, and walks that are one edge longer at their end.
use Rattle.std.proofs.Common.{◌≡◌, ℕ, ◌<◌, inl, inr, ◌↔◌, List, [], ◌∷◌, ◌++◌, subst, Some, refl, sym, ap, arith}
use Rattle.std.specs.List.{Contains, slice_get}
use Rattle.lore_base.specs.Types.{Oid, Label, Edge}
use Rattle.lore_base.specs.Walks.{Walk, edge_of}
use Rattle.lore_base.specs.TargetSets.{ListsInOrder}
use Rattle.lore_lists.proofs.ListLaws.{AllPairs-unique}
use Rattle.lore_lists.proofs.MemberLaws.{Contains-none, Contains-head, Contains-cases, Contains-same}

-- two tests that pass the same objects list them alike
pub ListsInOrder-same : (P Q : Oid → Type 0) (oids : List Oid) → ((oid : Oid) → P oid ↔ Q oid) → ListsInOrder P oids → ListsInOrder Q oids
ListsInOrder-same P Q oids same lists = record {
  ascending = lists.ascending;
  exact = λ oid. (λ h. (same oid).0 ((lists.exact oid).0 h), λ h. (lists.exact oid).1 ((same oid).1 h));
}

-- one test has one list
pub ListsInOrder-unique : (P : Oid → Type 0) (xs ys : List Oid) → ListsInOrder P xs → ListsInOrder P ys → xs ≡ ys
ListsInOrder-unique P xs ys first second =
    AllPairs-unique (λ (a b : Oid). a.0 < b.0) (λ a b below above. omega (arith, below, above)) xs ys first.ascending second.ascending
    (λ oid. (λ at. (second.exact oid).1 ((first.exact oid).0 at), λ at. (first.exact oid).1 ((second.exact oid).0 at)))
