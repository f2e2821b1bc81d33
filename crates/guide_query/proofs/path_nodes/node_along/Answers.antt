use Rattle.std.proofs.Common.{ℕ, ◌+◌, List, drop, subst}
use Rattle.std.proofs.lemmas.List.{drop_all}
use Rattle.list_laws.proofs.PartLaws.{drop_more_read}
use Rattle.guide_query.specs.inside.PathNodes.{HasComeTo}
use Rattle.guide_query.proofs.PathLaws.{come_further, comes_nowhere, come_end}
use Rattle.guide_query.proofs.path_nodes.node_along.Goals as goal

pub texts-init : goal.texts-init
texts-init c = record { come = λ names edges name is come. come }

pub returns-in-None : goal.returns-in-None
returns-in-None c = λ names edges name is start.
    let guide = c.args.guide.now in
    let labels = c.args.labels.now in
    let texts = c.args.texts.now in
    let i = c.texts.text-index in
    let text = c.text-item.result in
    let come =
    subst (λ (l : List (List ℕ)). HasComeTo guide.nodes names edges labels name texts l c.texts.node)
    (drop_more_read texts i text c.texts-test.true c.text-item.is) (c.texts.invariant.come names edges name is start) in
    comes_nowhere guide labels names edges is name texts (drop (i + 1) texts) text c.texts.node come
    (λ set has. c.in-None.ensures names edges set is has)

pub texts-preserved : goal.texts-preserved
texts-preserved c = record {
  come = λ names edges name is start.
      let guide = c.args.guide.now in
      let labels = c.args.labels.now in
      let texts = c.args.texts.now in
      let i = c.texts.text-index in
      let text = c.text-item.result in
      let come =
      subst (λ (l : List (List ℕ)). HasComeTo guide.nodes names edges labels name texts l c.texts.node)
      (drop_more_read texts i text c.texts-test.true c.text-item.is) (c.texts.invariant.come names edges name is start) in
      come_further guide labels names edges is name texts (drop (i + 1) texts) text c.texts.node c.in-Some.next come
      (λ set has. c.in-Some.ensures names edges set is has);
}

pub returns : goal.returns
returns c = λ names edges name is start.
    let guide = c.args.guide.now in
    let labels = c.args.labels.now in
    let texts = c.args.texts.now in
    let come =
    subst (λ (l : List (List ℕ)). HasComeTo guide.nodes names edges labels name texts l c.texts.node)
    (drop_all c.texts.text-index texts c.texts-test.false) (c.texts.invariant.come names edges name is start) in
    come_end guide labels names edges is name texts c.texts.node come
