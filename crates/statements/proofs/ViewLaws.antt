-- The view of a database: what its indexes and its paths tell is what is in its graph, so that what is found in the view are rows
-- of the database, without an edge read where its plan is quiet.
use Rattle.std.proofs.Common.{◌≡◌, ◌↔◌, ℕ, List, Option, Some, None, refl, sym, subst}
use Rattle.std.specs.Prelude.{IfSome}
use Rattle.std.specs.List.{Contains}
use Rattle.std.proofs.lemmas.List.Elements.{All-contains}
use Rattle.lore_base.specs.Databases.{OemGraph, Database}
use Rattle.lore_base.specs.Paths.{PathTree, Reaches}
use Rattle.index_traits.specs.Entries.{AreLinks, AreValueEntries}
use Rattle.lorel_bound.specs.Bound.{BoundTree}
use Rattle.lorel_bound.specs.Runnable.{IsRunnable}
use Rattle.lorel_bound.specs.Plans.{steps_of, IsPlanOf}
use Rattle.lorel_bound.specs.SlotRows.{IsSlotRow}
use Rattle.plan_ops.specs.Types.{Plan}
use Rattle.plan_laws.specs.Steps.{StepsOver, IsStartOf, Agrees}
use Rattle.answers.specs.Asked.{AreRows, AreTooMany}
use Rattle.answers.proofs.FoundLaws.{asked_rows, too_many_asked}
use Rattle.select_rows.specs.Views.{view_over, IsRowOf, ReadsNone}
use Rattle.statements.specs.Types.{Oid, Edge, ValueEntry, Cell, Refusal}
use Rattle.statements.specs.Types.refusals
use Rattle.statements.specs.Plans.{AreCountsOver, IsKindOver}
use Rattle.statements.specs.Types.plan_kinds
use Rattle.statements.specs.Blocks.{TellsPaths}
use Rattle.statements.specs.Uncounted.{IsPlain, IsQuietBound}
use Rattle.statements.specs.inside.Starts.{IsNamedStart, HasNamedStarts}
use Rattle.statements.proofs.QuietPlanLaws.{plain_reads, quiet_reads}

-- what a range starts at has a name
start_has_name : (names : List (List ℕ × Oid)) (bound : BoundTree) → HasNamedStarts names bound → (named : Oid) → IsStartOf bound named
    → (name : List ℕ) × Contains names (name, named)
start_has_name names bound starts_named named start =
    subst (IsNamedStart names) start.2 (All-contains (λ range. IsNamedStart names range.start) bound.ranges start.0 starts_named start.1)

-- its rows in either words
slot_row : (db : Database) (bound : BoundTree) (row : List Cell)
    → IsRowOf db.labels db.graph.edges db.graph.objects bound row ↔ IsSlotRow db bound row
slot_row db bound row = (
  λ h. record { slots = h.slots; filled = h.filled; holds = h.holds; shown = h.shown },
  λ h. record { slots = h.slots; filled = h.filled; holds = h.holds; shown = h.shown },
)

-- what is told over labels that are the database's is told of it
pub paths_told : (db : Database) (told : PathTree → Oid → Oid → Type 0) (read : List (List ℕ)) → read ≡ db.labels
    → ((name : List ℕ) (named : Oid) → Contains db.graph.names (name, named) → (path : PathTree) (oid : Oid)
    → told path named oid ↔ Reaches read db.graph.edges path named oid)
    → TellsPaths told db
paths_told db told read texts tells name named is path oid =
    subst (λ (l : List (List ℕ)). told path named oid ↔ Reaches l db.graph.edges path named oid) texts (tells name named is path oid)

-- ---- over labels and a graph that are the database's
module _ (db : Database) (bound : BoundTree) (labels : List (List ℕ)) (graph : OemGraph) (texts : labels ≡ db.labels) (drawn : graph ≡ db.graph) where
  -- what holds of these holds of the database's, and the other way round
  onto : (Says : List (List ℕ) → OemGraph → Type 0) → Says labels graph → Says db.labels db.graph
  onto Says h = subst (λ (g : OemGraph). Says db.labels g) drawn (subst (λ (l : List (List ℕ)). Says l graph) texts h)

  back : (Says : List (List ℕ) → OemGraph → Type 0) → Says db.labels db.graph → Says labels graph
  back Says h = subst (λ (l : List (List ℕ)). Says l graph) (sym texts) (subst (λ (g : OemGraph). Says db.labels g) (sym drawn) h)

  pub its_plan : (plan : Plan) → IsPlanOf db.labels bound plan → IsPlanOf labels bound plan
  its_plan plan planned = back (λ l g. IsPlanOf l bound plan) planned

  pub its_rows : (rows : List (List Cell)) → AreRows (IsRowOf labels graph.edges graph.objects bound) rows → AreRows (IsSlotRow db bound) rows
  its_rows rows all =
      asked_rows (IsRowOf db.labels db.graph.edges db.graph.objects bound) (IsSlotRow db bound) rows (slot_row db bound)
      (onto (λ l g. AreRows (IsRowOf l g.edges g.objects bound) rows) all)

  its_flood : AreTooMany (IsRowOf labels graph.edges graph.objects bound) → AreTooMany (IsSlotRow db bound)
  its_flood many =
      too_many_asked (IsRowOf db.labels db.graph.edges db.graph.objects bound) (IsSlotRow db bound) (λ row. (slot_row db bound row).0)
      (onto (λ l g. AreTooMany (IsRowOf l g.edges g.objects bound)) many)

  pub its_stop : (told : Option Refusal)
      → IfSome told (λ refusal. (refusal ≡ refusals.TooManyRows) × AreTooMany (IsRowOf labels graph.edges graph.objects bound))
      → IfSome told (λ refusal. (refusal ≡ refusals.TooManyRows) × AreTooMany (IsSlotRow db bound))
  its_stop None h = tt
  its_stop (Some refusal) h = (h.0, its_flood h.1)

  -- with its links, its values, and what tells its paths
  module _ (starts_named : HasNamedStarts db.graph.names bound) (links : List Edge) (are_links : AreLinks db.graph.edges links)
      (entries : List ValueEntry) (are_entries : AreValueEntries db.graph.objects db.graph.edges entries)
      (told : PathTree → Oid → Oid → Type 0) (tells : TellsPaths told db) where
    abbrev view : List (List ℕ) → OemGraph → StepsOver
    view l g = view_over l g.edges g.objects links entries told bound

    told_alike : (named : Oid) → IsStartOf bound named → (path : PathTree) (oid : Oid)
        → told path named oid ↔ Reaches db.labels db.graph.edges path named oid
    told_alike named start path oid =
        let name = start_has_name db.graph.names bound starts_named named start in
        tells name.0 named name.1 path oid

    agrees : Agrees (view db.labels db.graph) db.graph.objects bound
    agrees = record {
      links = are_links.exact;
      entries = are_entries;
      reached = told_alike;
      passed = λ row eight. (λ h. h, λ h. h);
    }

    pub its_view : Agrees (view labels graph) graph.objects bound
    its_view = back (λ l g. Agrees (view l g) g.objects bound) agrees

    pub its_quiet : IsRunnable bound → (plan : Plan) → AreCountsOver db bound plan.candidates plan.found
        → IsKindOver db plan.candidates plan.found plan.kind → IsPlanOf db.labels bound plan → IsQuietBound db bound
        → ReadsNone (view labels graph) bound (steps_of plan)
    its_quiet runnable plan counts kind_is planned quiet =
        back (λ l g. ReadsNone (view l g) bound (steps_of plan))
        (quiet_reads db bound runnable (view db.labels db.graph) are_entries agrees plan counts kind_is planned refl quiet)

    pub its_plain : IsRunnable bound → (plan : Plan) → plan.kind ≡ plan_kinds.Guided → IsPlanOf db.labels bound plan → IsPlain bound
        → ReadsNone (view labels graph) bound (steps_of plan)
    its_plain runnable plan kind planned plain =
        back (λ l g. ReadsNone (view l g) bound (steps_of plan))
        (plain_reads db.labels bound runnable (view db.labels db.graph) plan kind planned plain)
