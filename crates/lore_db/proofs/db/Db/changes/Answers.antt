use Rattle.std.proofs.Common.{ℕ, List, ap, sym, subst, ◌∙◌}
use Rattle.std.specs.Int.{w64}
use Rattle.std.proofs.lemmas.Int.{to_z-of_z}
use Rattle.lorel_trees.specs.Trees.{changes}
use Rattle.doem_history.specs.Histories.{moment_at, moments_of}
use Rattle.change_lines.specs.Changes.{AreChangeLines}
use Rattle.lore_db.specs.States.{Kept}
use Rattle.lore_db.proofs.MomentLaws.{no_moments}
use Rattle.lore_db.proofs.AskLaws.{asked_beyond, tells_between}
use Rattle.lore_db.proofs.db.Db.changes.Goals as goal

pub returns-in_default-clause-refused : goal.returns-in_default-clause-refused
returns-in_default-clause-refused c =
    let h = c.in_ok-history.history.now in
    let from_is = to_z-of_z w64 c.args.first c.ranges.first in
    let to_is = to_z-of_z w64 c.args.last c.ranges.last in
    asked_beyond c.args.self.now.state (moments_of h) c.in_ok-history.ensures.ok (changes c.args.first c.args.last)
    (no_moments h c.args.first c.args.last (λ from to is too. c.in_default.ensures.none from to (from_is ∙ is) (to_is ∙ too)))

pub change_lines-requires : goal.change_lines-requires
change_lines-requires c =
    let h = c.in_ok-history.history.now in
    (moment_at h c.in-Some.first, moment_at h c.in-Some.last, c.in_ok-delta.ensures)

pub returns-clause-ok : goal.returns-clause-ok
returns-clause-ok c =
    let h = c.in_ok-history.history.now in
    let from = c.in-Some.first in
    let to = c.in-Some.last in
    let some = c.in-Some.ensures.some in
    let from_is = to_z-of_z w64 c.args.first c.ranges.first in
    let to_is = to_z-of_z w64 c.args.last c.ranges.last in
    let lines = c.in_ok-change_lines.field-0 in
    let labels = c.labels.ensures ∙ ap (λ (k : Kept). k.state.db.labels) c.self.view_is in
    let are = subst (λ (l : List (List ℕ)). AreChangeLines l (moment_at h from) (moment_at h to) lines) labels
    (c.in_ok-change_lines.ensures (moment_at h from) (moment_at h to) c.in_ok-delta.ensures) in
    tells_between c.args.self.now.state h c.in_ok-history.ensures.ok c.args.first c.args.last from to (sym from_is ∙ some.0) (sym to_is ∙ some.1)
    some.2 some.3 lines are
