-- The graph of a valid database is sound, so that it has blocks; and nothing refuses to show them.
use Rattle.std.proofs.Common.{ℕ, ◌<◌, List, ◌++◌, map, refl, sym, ◌∙◌}
use Rattle.std.specs.List.{Contains}
use Rattle.std.proofs.lemmas.List.Elements.{All-contains}
use Rattle.std.proofs.lemmas.Option.{same_Some}
use Rattle.lore_base.specs.Databases.{Database, IsValid, IsLive, IsLinked}
use Rattle.lore_base.specs.Verdicts.{IsClear}
use Rattle.lore_base.proofs.NameLaws.{bound_found}
use Rattle.lore_base.proofs.VerdictLaws.{clear_both}
use Rattle.list_laws.proofs.MemberLaws.{Contains-map}
use Rattle.set_steps.proofs.PairLaws.{AllPairs-map}
use Rattle.lorel_trees.specs.Trees as t
use Rattle.one_index.specs.Blocks.{IsSound}
use Rattle.statements.specs.Types.{Oid, Value, Complex}
use Rattle.statements.specs.Blocks.{named_graph}
use Rattle.statements.specs.Statements.{Cause, cause_order}
use Rattle.statements.specs.inside.Stages.{fit_order}
use Rattle.statements.proofs.CauseLaws.{sizes, late}
use Rattle.statements.proofs.QuietLaws.{nothing_before}

abbrev oid_in : Oid × Value → Oid
oid_in object = object.0

live_in : (objects : List (Oid × Value)) (oid : Oid) → IsLive objects oid → Contains (map oid_in objects) oid
live_in objects oid live = Contains-map oid_in objects (oid, live.0) live.1

pub sound_graph : (db : Database) → IsValid db → IsSound (named_graph db)
sound_graph db valid =
    let formed = valid.restorable.rooted.well_formed in
    let objects = db.graph.objects in
    let table = formed.ordered.names_ascend in
    record {
      ascend = AllPairs-map oid_in (λ (a b : Oid × Value). a.0.0 < b.0.0) (λ (a b : Oid). a.0 < b.0) (λ a b less. less) objects
          formed.ordered.objects_ascend;
      linked = λ edge at.
          let ends = All-contains (IsLinked objects) db.graph.edges edge formed.edges_linked at in
          (live_in objects edge.parent (Complex, ends.parent), live_in objects edge.child ends.child);
      named = λ name x at.
          live_in objects x (All-contains (λ (entry : List ℕ × Oid). IsLive objects entry.1) db.graph.names (name, x) formed.names_live at);
      one = λ name x y first second.
          same_Some x y (sym (bound_found db.graph.names name x table first) ∙ bound_found db.graph.names name y table second);
    }

pub blocks_clear : (db : Database) → IsClear (Cause db t.blocks) cause_order
blocks_clear db =
    clear_both (Cause db t.blocks) (fit_order ++ sizes) late (nothing_before db t.blocks (λ h. h) (λ h. h) refl refl)
    (λ h. h, (λ h. h, (λ h. h, tt)))
