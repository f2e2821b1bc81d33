use Rattle.std.proofs.Common.{◌≡◌, ◌↔◌, ◌++◌, ℕ, List, Contains, ap, ◌∙◌, subst}
use Rattle.one_index.specs.Types.{Label}
use Rattle.one_index.proofs.FillLaws.{same_pair}
use Rattle.one_index.proofs.filling.row_in_order.Goals as goal

pub returns : goal.returns
returns c =
    let edges = c.args.edges.now in
    let copied : c.append.new.self ≡ edges = c.in_ok-append.ensures.ok ∙ ap (λ (l : List (Label × ℕ)). l ++ edges) c.in_ok-row.ensures in
    record {
      ascend = c.sort_set.ensures.ascend;
      exact = λ edge. subst (λ (l : List (Label × ℕ)). Contains c.sort_set.new.self edge ↔ Contains l edge) copied
          (c.sort_set.ensures.members same_pair edge);
    }
