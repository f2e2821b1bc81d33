-- A change that doesn't concern a select leaves its rows, and its answer; and a select that is accepted stays so.
use Rattle.std.proofs.Common.{◌≡◌, inl, inr, ℕ, List, Some, None, All, sym, ◌∙◌}
use Rattle.std.proofs.lemmas.List.Elements.{All-contains}
use Rattle.view_laws.specs.Types.{Oid, Delta}
use Rattle.lore_base.specs.Databases.{Database}
use Rattle.lorel_trees.specs.Trees.{SelectTree}
use Rattle.lorel_ranges.specs.Places.{Place}
use Rattle.lorel_ranges.specs.Texts.{text_places}
use Rattle.lorel_bind.specs.Refusals.{StartsNowhere, HasUnknownVariable, IsAccepted}
use Rattle.lorel_bind.proofs.RootLaws.{IsBoundName, names_bound}
use Rattle.live_views.specs.Concerns.{Concerns}
use Rattle.view_laws.specs.Laws.{IsChange, HasLostStart, UnconcernedKeepsRows, UnconcernedKeepsAnswer, FreshStays}
use Rattle.view_laws.proofs.StartLaws.{none_lost}
use Rattle.view_laws.proofs.SeesLaws.{sees_after, sees_before}
use Rattle.view_laws.proofs.CarryLaws.{bound_over, row_over}

-- where no start is lost each name that a path starts at is bound, before the change and after it
module _ (before after : Database) (delta : Delta) (query : SelectTree) (change : IsChange before after delta)
    (somewhere : HasLostStart before query → ⊥) (free : Concerns after.labels query delta → ⊥) where
  bound_before : All (λ place. IsBoundName before.graph.names place.root) (text_places query)
  bound_before = names_bound before.graph.names query (λ start nowhere. somewhere (start, nowhere))

  bound_after : All (λ place. IsBoundName after.graph.names place.root) (text_places query)
  bound_after =
      bound_over before after change.before_valid change.after_valid query (sees_after before after delta query change free)
      (sees_before before after delta query change free) bound_before

pub unconcerned_keeps_rows : UnconcernedKeepsRows
unconcerned_keeps_rows before after delta query change somewhere free row =
    let there = sees_after before after delta query change free in
    let back = sees_before before after delta query change free in (
      λ h. (
        h.0,
        h.1,
        row_over before after change.before_valid change.after_valid query there back
            (bound_before before after delta query change somewhere free) h.0 h.1 row h.2,
      ),
      λ h. (
        h.0,
        h.1,
        row_over after before change.after_valid change.before_valid query back there
            (bound_after before after delta query change somewhere free) h.0 h.1 row h.2,
      ),
    )

pub unconcerned_keeps_answer : UnconcernedKeepsAnswer
unconcerned_keeps_answer before after delta query change somewhere free rows =
    let same = unconcerned_keeps_rows before after delta query change somewhere free in (
      λ answer. record {
        ascending = answer.ascending;
        exact = λ row. (λ h. (same row).0 ((answer.exact row).0 h), λ h. (answer.exact row).1 ((same row).1 h));
      },
      λ answer. record {
        ascending = answer.ascending;
        exact = λ row. (λ h. (same row).1 ((answer.exact row).0 h), λ h. (answer.exact row).1 ((same row).0 h));
      },
    )

-- ---- accepted selects
-- where each start is bound no path starts nowhere
all_start : (names : List (List ℕ × Oid)) (query : SelectTree) → All (λ place. IsBoundName names place.root) (text_places query)
    → (start : List ℕ) → StartsNowhere names query start → ⊥
all_start names query bound start (place, there, root, none) =
    let own = All-contains (λ (p : Place). IsBoundName names p.root) (text_places query) place bound there start root in
    let apart : None ≡ Some own.0 = sym none ∙ own.1 in cc

-- the other causes of refusals don't ask for names
variables_known : (names others : List (List ℕ × Oid)) (query : SelectTree)
    → ((start : List ℕ) → StartsNowhere others query start → ⊥) → (HasUnknownVariable names query → ⊥) → HasUnknownVariable others query → ⊥
variables_known names others query start known (inl (own, nowhere, ranged)) = start own nowhere
variables_known names others query start known (inr path) = known (inr path)

accepted_over : (names others : List (List ℕ × Oid)) (query : SelectTree) → ((start : List ℕ) → StartsNowhere others query start → ⊥)
    → IsAccepted names query → IsAccepted others query
accepted_over names others query start accepted =
    (λ h. start h.0 h.1, (variables_known names others query start accepted.1.0, (accepted.1.1.0, (accepted.1.1.1.0, tt))))

pub fresh_stays : FreshStays
fresh_stays before after delta query rows change free fresh =
    let somewhere = none_lost before query fresh.accepted in
    record {
      accepted = accepted_over before.graph.names after.graph.names query
          (all_start after.graph.names query (bound_after before after delta query change somewhere free)) fresh.accepted;
      answer = (unconcerned_keeps_answer before after delta query change somewhere free rows).0 fresh.answer;
      few = fresh.few;
    }
