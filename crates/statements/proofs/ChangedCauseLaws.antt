-- Causes of changes are those of changes that differ in how their edges are listed alone; and changes that bind no name
-- and take none away leave the names as they were.
use Rattle.std.proofs.Common.{◌≡◌, ◌↔◌, ℕ, ◌+◌, ◌<◌, ◌≤◌, inl, inr, List, [], length, sym, ap, subst, arith}
use Rattle.std.specs.List.{Contains}
use Rattle.lore_base.specs.Databases.{OemGraph, Database}
use Rattle.lore_base.specs.ChangeSets.{AreSame, IsGraphAfter}
use Rattle.lore_base.specs.ChangeCauses.{ChangeCause, DatabaseCause, Outgrows}
use Rattle.lore_base.specs.Names.{IsNameTable}
use Rattle.lore_base.proofs.MemberLaws.{Contains-none}
use Rattle.oem_changes.proofs.SameLaws.{same-back, AddsToAtom-same, HidesChildren-same, Outgrows-same, IsGraphAfter-same}
use Rattle.oem_changes.proofs.TableLaws.{one_table}
use Rattle.statements.specs.Types.{Oid, Value, Changes, Refusal, NAMES, OBJECTS, EDGES, NEXT_NUMBER, LABELS}
use Rattle.statements.specs.Types.refusals

-- ---- the same changes
caused : (labels : List (List ℕ)) (graph : OemGraph) (a b : Changes) → AreSame a b → (refusal : Refusal) → ChangeCause labels graph a refusal
    → ChangeCause labels graph b refusal
caused labels graph a b same refusals.AtomicParent h = AddsToAtom-same a b same graph h
caused labels graph a b same refusals.HasChildren h = HidesChildren-same a b same graph h
caused labels graph a b same refusals.OidsSpent h =
    subst (λ (l : List (Oid × Value)). NEXT_NUMBER < graph.next + length l) (sym same.made) h
caused labels graph a b same refusals.TooManyLabels h = subst (λ (l : List (List ℕ)). LABELS < length labels + length l) (sym same.labels) h
caused labels graph a b same refusals.TooManyNames h = Outgrows-same a b same graph (λ after. length after.names) NAMES h
caused labels graph a b same refusals.TooManyObjects h = Outgrows-same a b same graph (λ after. length after.objects) OBJECTS h
caused labels graph a b same refusals.TooManyEdges h = Outgrows-same a b same graph (λ after. length after.edges) EDGES h
caused labels graph a b same _ h = h

database_caused : (db : Database) (a b : Changes) → AreSame a b → (refusal : Refusal) → DatabaseCause db a refusal → DatabaseCause db b refusal
database_caused db a b same refusals.GuideNodes h = (h.0, IsGraphAfter-same a b same db.graph h.0 h.1, h.2)
database_caused db a b same refusals.GuideCells h = (h.0, IsGraphAfter-same a b same db.graph h.0 h.1, h.2)
database_caused db a b same refusal h = caused db.labels db.graph a b same refusal h

pub cause_same : (db : Database) (a b : Changes) → AreSame a b → (refusal : Refusal) → DatabaseCause db a refusal ↔ DatabaseCause db b refusal
cause_same db a b same refusal = (database_caused db a b same refusal, database_caused db b a (same-back a b same) refusal)

-- ---- names
module _ (graph : OemGraph) (changes : Changes) (named : changes.named ≡ []) (unnamed : changes.unnamed ≡ []) where
  kept_names : IsNameTable graph.names → (after : OemGraph) → IsGraphAfter graph changes after → after.names ≡ graph.names
  kept_names table after leaves =
      let none : (entry : List ℕ × Oid) → Contains changes.named entry → ⊥ = (λ entry at.
      Contains-none entry (subst (λ (l : List (List ℕ × Oid)). Contains l entry) named at)) in
      one_table after.names graph.names leaves.names_ascend table (λ entry. (
        λ at. elim ((leaves.names entry).0 at) [ inl anew ↦ absurd (none entry anew) | inr kept ↦ kept.0 ],
        λ at. (leaves.names entry).1 (inr (
          at,
          λ renamed. elim renamed [
            | inl bound ↦ none (entry.0, bound.0) bound.1
            | inr gone ↦ Contains-none entry.0 (subst (λ (l : List (List ℕ)). Contains l entry.0) unnamed gone)
          ],
        )),
      ))

  -- so there are never too many then
  pub few_names : IsNameTable graph.names → length graph.names ≤ NAMES → Outgrows graph changes (λ after. length after.names) NAMES → ⊥
  few_names table few outgrown =
      let same = ap length (kept_names table outgrown.0 outgrown.1) in
      omega (arith, same, few, outgrown.2)
