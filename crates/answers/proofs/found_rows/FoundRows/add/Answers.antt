use Rattle.std.proofs.Common.{◌≡◌, [], ◌∷◌, ◌++◌, ap, ◌∙◌}
use Rattle.answers.specs.declared.found_rows.FoundRows.TheInside.{Inside}
use Rattle.answers.proofs.FoundLaws.{finds_one}
use Rattle.answers.proofs.found_rows.FoundRows.add.Goals as goal
use Rattle.answers.proofs.found_rows.FoundRows.add.Goals.{in-Less, in-Greater}

pub returns : goal.returns
returns c =
    let kept : c.match-order_behind.self-inside.rows.items ≡ c.args.self.now =
    elim c.match-order_behind.branch [
      | in-Less w ↦ ap (λ (inside : Inside). inside.rows.items) w.self-inside-is ∙ c.self.view_is
      | in-Greater w ↦ ap (λ (inside : Inside). inside.rows.items) w.self-inside-is ∙ c.self.view_is
    ] in
    finds_one c.args.row c.args.self.now c.push.new.self.items c.has_too_much.new.self c.has_too_much.result
    (c.in_ok-push.ensures.items ∙ ap (λ rows. rows ++ c.args.row ∷ []) kept)
    c.has_too_much.ensures.members c.has_too_much.ensures.many
