use Rattle.std.proofs.Common.{◌≡◌, rules, sym, ◌∙◌}
use Rattle.std.proofs.lemmas.List.{map-id}
use Rattle.lorel_bound.proofs.bound.BoundTryCopy.try_copy.Goals as goal

pub returns : goal.returns
returns c =
    let cells : c.in_ok-cells.cells ≡ c.args.self.now.cells =
    sym (map-id c.in_ok-cells.cells) ∙ c.in_ok-cells.ensures ∙ map-id c.args.self.now.cells in
    rw cells (search rules)
