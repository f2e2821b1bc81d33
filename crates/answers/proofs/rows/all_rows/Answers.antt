use Rattle.std.proofs.Common.{◌≡◌, ◌↔◌, inl, inr, [], List, Option, Bool, subst, sym, refl, ap, ◌∙◌}
use Rattle.std.specs.Prelude.{◌⊎◌, MatchOption}
use Rattle.std.proofs.lemmas.Result.{IfOk-weaker, on_ok_weaker}
use Rattle.lorel_bound.specs.Bound.{bound_tree}
use Rattle.answers.specs.Types.{Oid, Cell}
use Rattle.answers.specs.Asked.{ShowsRow, ShowsAsked, AreRows, AreTooMany}
use Rattle.answers.specs.inside.Showing.{RowsShown, IsNoted}
use Rattle.answers.proofs.NoteLaws.{noted_all, none_noted}
use Rattle.answers.proofs.RowLaws.{AreLeft, shown_of_one, now_shown, shown_next, gives_left, none_left, quiet_left, shows_objects, noted_next, noted_many}
use Rattle.answers.proofs.rows.all_rows.Goals as goal

pub rows-init : goal.rows-init
rows-init g c = record {
  select = record {
    labels = ap (λ (shown : RowsShown). shown.labels) c.in_ok-shown.ensures;
    edges = ap (λ (shown : RowsShown). shown.edges) c.in_ok-shown.ensures;
    bound = ap (λ (shown : RowsShown). shown.bound) c.in_ok-shown.ensures;
  };
  kept = λ slots left. left;
  noted = λ row. (
    λ asked. inr asked,
    λ h. elim h [
      | inl noted ↦ absurd (none_noted c.in_ok-shown.shown (ap (λ (shown : RowsShown). shown.waiting) c.in_ok-shown.ensures)
          (ap (λ (shown : RowsShown). shown.found) c.in_ok-shown.ensures) row noted)
      | inr left ↦ left
    ],
  );
  quiet = λ reads few. (refl, reads, ap (λ (shown : RowsShown). shown.waiting) c.in_ok-shown.ensures);
}

pub rows-preserved : goal.rows-preserved
rows-preserved g c =
    let next = c.in_ok-row.ensures in
    let gives = gives_left g.A.Adjacent.edges g.K.Links.edges g.V.Values.entries g.P.Paths.reaches g.T.RowTest.passes c.rows.rows c.next.new.self
    c.in_ok-row.field-0 next.row c.in-Some.row next.over c.in-Some.is in
    let Shows : List Oid → List Cell → Type 0 = ShowsRow c.args.labels.now (g.A.Adjacent.edges c.args.graph.now) (bound_tree c.args.bound.now) in
    let left = AreLeft g.A.Adjacent.edges g.K.Links.edges g.V.Values.entries g.P.Paths.reaches g.T.RowTest.passes in
    record {
      select = shown_of_one c.args.labels.now (g.A.Adjacent.edges c.args.graph.now) c.args.bound.now c.rows.shown c.add.new.self c.rows.invariant.select
          c.add.ensures.select;
      kept = λ slots later. c.rows.invariant.kept slots ((gives.others slots).0 later).0;
      noted = noted_next c.rows.invariant.noted (shown_next (left c.rows.rows) (left c.next.new.self) Shows c.in-Some.row gives) c.in_ok-add.field-0
          (now_shown c.args.labels.now (g.A.Adjacent.edges c.args.graph.now) c.args.bound.now c.rows.shown c.add.new.self c.in-Some.row c.in_ok-add.field-0
          c.rows.invariant.select c.in_ok-add.ensures.rows) c.if-branch.false;
      quiet = λ reads few.
          let before = c.rows.invariant.quiet reads few in
          let after = next.quiet before.1 in
          let added = c.in_ok-add.ensures.quiet (shows_objects c.args.bound.now c.rows.shown.bound (left c.args.rows.now) c.in-Some.row c.rows.invariant.select.bound
          (c.rows.invariant.kept c.in-Some.row gives.came) few) in (
            added.0 ∙ after.0 ∙ before.0,
            quiet_left g.A.Adjacent.edges g.K.Links.edges g.V.Values.entries g.P.Paths.reaches g.T.RowTest.passes c.rows.rows c.next.new.self next.over after.1,
            added.1 ∙ before.2,
          );
    }

pub returns-then-branch-clause-rows : goal.returns-then-branch-clause-rows
returns-then-branch-clause-rows g c =
    let next = c.in_ok-row.ensures in
    let gives = gives_left g.A.Adjacent.edges g.K.Links.edges g.V.Values.entries g.P.Paths.reaches g.T.RowTest.passes c.rows.rows c.next.new.self
    c.in_ok-row.field-0 next.row c.in-Some.row next.over c.in-Some.is in
    let Shows : List Oid → List Cell → Type 0 = ShowsRow c.args.labels.now (g.A.Adjacent.edges c.args.graph.now) (bound_tree c.args.bound.now) in
    let left = AreLeft g.A.Adjacent.edges g.K.Links.edges g.V.Values.entries g.P.Paths.reaches g.T.RowTest.passes in
    noted_many c.rows.invariant.noted (shown_next (left c.rows.rows) (left c.next.new.self) Shows c.in-Some.row gives) c.in_ok-add.field-0
    (now_shown c.args.labels.now (g.A.Adjacent.edges c.args.graph.now) c.args.bound.now c.rows.shown c.add.new.self c.in-Some.row c.in_ok-add.field-0
    c.rows.invariant.select c.in_ok-add.ensures.rows) c.if-branch.true

pub returns-then-branch-clause-quiet : goal.returns-then-branch-clause-quiet
returns-then-branch-clause-quiet g c reads few =
    let next = c.in_ok-row.ensures in
    let gives = gives_left g.A.Adjacent.edges g.K.Links.edges g.V.Values.entries g.P.Paths.reaches g.T.RowTest.passes c.rows.rows c.next.new.self
    c.in_ok-row.field-0 next.row c.in-Some.row next.over c.in-Some.is in
    let left = AreLeft g.A.Adjacent.edges g.K.Links.edges g.V.Values.entries g.P.Paths.reaches g.T.RowTest.passes in
    let before = c.rows.invariant.quiet reads few in
    let after = next.quiet before.1 in
    let added = c.in_ok-add.ensures.quiet (shows_objects c.args.bound.now c.rows.shown.bound (left c.args.rows.now) c.in-Some.row c.rows.invariant.select.bound
    (c.rows.invariant.kept c.in-Some.row gives.came) few) in
    added.0 ∙ after.0 ∙ before.0

pub returns-clause-rows : goal.returns-clause-rows
returns-clause-rows g c =
    let left = AreLeft g.A.Adjacent.edges g.K.Links.edges g.V.Values.entries g.P.Paths.reaches g.T.RowTest.passes in
    let asked = ShowsAsked c.args.labels.now (g.A.Adjacent.edges c.args.graph.now) (bound_tree c.args.bound.now) (left c.args.rows.now) in
    let none = none_left g.A.Adjacent.edges g.K.Links.edges g.V.Values.entries g.P.Paths.reaches g.T.RowTest.passes c.rows.rows c.next.new.self
    c.in_ok-row.field-0 c.in_ok-row.ensures.row c.in_default.is in
    IfOk-weaker c.take_answer.result
    (λ (answer : Option (List (List Cell))). MatchOption answer (AreTooMany (IsNoted c.rows.shown)) (AreRows (IsNoted c.rows.shown)))
    (λ (answer : Option (List (List Cell))). MatchOption answer (AreTooMany asked) (AreRows asked))
    (noted_all c.rows.invariant.noted (λ row h. none h.0 h.1)) c.take_answer.ensures.rows

pub returns-clause-quiet : goal.returns-clause-quiet
returns-clause-quiet g c reads few =
    let before = c.rows.invariant.quiet reads few in
    let after = c.in_ok-row.ensures.quiet before.1 in
    on_ok_weaker {P = c.take_answer.new.steps ≡ c.next.new.steps} {Q = c.take_answer.new.steps ≡ c.args.steps.now} c.take_answer.result
    (λ same. same ∙ after.0 ∙ before.0) (c.take_answer.ensures.quiet before.2)
