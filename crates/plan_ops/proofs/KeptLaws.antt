-- What steps keep, before the first one is taken and after each.
use Rattle.std.proofs.Common.{◌≡◌, ℕ, ◌<◌, inl, inr, List, length, set, Some, sym, ap, ◌∙◌, subst}
use Rattle.std.specs.List.{All, slice_get}
use Rattle.std.proofs.lemmas.Bool.{cases_eq, true≢false}
use Rattle.std.proofs.lemmas.Option.{same_Some}
use Rattle.std.proofs.lemmas.List.{length-set}
use Rattle.std.proofs.lemmas.List.Elements.{All-contains}
use Rattle.lore_base.specs.Paths.{Reaches, path_tree}
use Rattle.list_laws.proofs.PlaceLaws.{Contains-from_place}
use Rattle.word_walks.specs.WordWalks.{IsReachedBy}
use Rattle.row_hints.proofs.SlotLaws.{filled_there, filled_elsewhere}
use Rattle.plan_ops.specs.Types.{Oid}
use Rattle.plan_laws.specs.Steps.{StepsOver}
use Rattle.plan_ops.specs.inside.Ready.{ReadyStep}
use Rattle.plan_ops.specs.declared.ready_steps.ReadyStep.TheVariants as ready
use Rattle.plan_ops.specs.inside.Keeping.{Kept, IsNothing, IsKept, IsKeptBy, AreKeptBy}

-- of a step that wasn't taken nothing is kept
pub nothing_kept : (Leads : Oid → Oid → Type 0) (kept : Kept) → IsNothing kept → IsKept Leads kept
nothing_kept Leads kept none = λ whole. absurd (true≢false (sym whole ∙ none))

nothing_by : (over : StepsOver) (step : ReadyStep) (kept : Kept) → IsNothing kept → IsKeptBy over step kept
nothing_by over (ready.Forward start route slot) kept none = nothing_kept (Reaches over.labels over.edges (path_tree route)) kept none
nothing_by over (ready.AlongWord start path word slot) kept none = nothing_kept (IsReachedBy word over.edges) kept none
nothing_by over (ready.FromGuide named path objects slot) kept none = tt
nothing_by over (ready.FromValue label op value rest slot) kept none = tt
nothing_by over (ready.Backward child way parent) kept none = tt
nothing_by over (ready.Check child way named) kept none = tt
nothing_by over ready.Filter kept none = tt

pub none_by : (over : StepsOver) (steps : List ReadyStep) (list : List Kept) → length list ≡ length steps → All IsNothing list → AreKeptBy over steps list
none_by over steps list long all = record {
  long = long;
  each = λ place step kept there at. nothing_by over step kept (All-contains IsNothing list kept all (Contains-from_place list place kept at));
}

-- one step was taken
pub kept_by : (over : StepsOver) (steps : List ReadyStep) (list : List Kept) (at : ℕ) (step : ReadyStep) (new : Kept) → at < length list
    → slice_get steps at ≡ Some step → IsKeptBy over step new → AreKeptBy over steps list → AreKeptBy over steps (set list at new)
kept_by over steps list at step new within here so old = record {
  long = length-set list at new ∙ old.long;
  each = λ place own kept there is. elim (cases_eq place at) [
    | inl same ↦
        let first : step ≡ own = same_Some step own (sym here ∙ ap (slice_get steps) (sym same) ∙ there) in
        let second : new ≡ kept = same_Some new kept (sym (filled_there list at new within) ∙ ap (slice_get (set list at new)) (sym same) ∙ is) in
        subst (λ (s : ReadyStep). IsKeptBy over s kept) first (subst (IsKeptBy over step) second so)
    | inr elsewhere ↦ old.each place own kept there (sym (filled_elsewhere list at place new elsewhere) ∙ is)
  ];
}
