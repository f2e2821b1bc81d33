use Rattle.std.proofs.Common.{◌≤◌, ◌+◌, length, ◌∙◌, refl, arith}
use Rattle.lorel_trees.specs.Trees.{literal_tree}
use Rattle.oem_text.specs.Types.{NEXT_NUMBER}
use Rattle.oem_text.specs.Literals.{bodies}
use Rattle.oem_text.proofs.PartLaws.{made_by, labels_by, edges_by, count_by, labels_counted, told_labels, clear_all}
use Rattle.oem_text.proofs.literals.instantiate.Goals as goal

pub returns-in_default-2-clause-err : goal.returns-in_default-2-clause-err
returns-in_default-2-clause-err c =
    let tree = literal_tree c.args.literal.now in
    let size = count_by tree c.in-Ok.layout c.in-Ok.ensures.layout in
    let few : c.args.next + length (bodies tree) ≤ NEXT_NUMBER =
    omega (arith, size, c.len.ensures.count, c.saturating_add.ensures, c.if-saturating_add-gt-NEXT_NUMBER.false) in
    let count = labels_counted c.args.labels.now tree c.in-Ok.layout c.in-Some.numbers c.in-Ok.ensures.layout c.in-Some.ensures.some in
    let many = rw c.in_default-2.is at c.in_ok-added.ensures.none in
    told_labels c.args.labels.now c.args.next tree c.in-Ok.ensures.ok few (omega (arith, count, many))

pub returns-clause-part : goal.returns-clause-part
returns-clause-part c =
    let tree = literal_tree c.args.literal.now in
    let table = c.args.labels.now in
    let layout = c.in-Ok.layout in
    let is = c.in-Ok.ensures.layout in
    let start = c.in-Some.numbers in
    let first = c.in-Some.ensures.some in
    let numbers = c.edges.new.numbers in
    let step = rw c.in-Some-2.is at c.in_ok-added.ensures.labels in
    let edges = rw c.in-Some-2.is at c.in_ok-added.ensures.edges in
    let labels = c.in_ok-texts.ensures.texts in
    record {
      made = c.made.view_is ∙ made_by c.args.next tree layout c.in_ok-made.made c.put_objects.new.objects is c.in_ok-made.ensures c.in_ok-put_objects.ensures;
      added = c.added.view_is ∙ edges_by table c.in_ok-texts.field-0 c.args.next tree layout start numbers c.in-Some-2.added is first step labels edges;
      labels = labels ∙ labels_by table tree layout start numbers is first step;
      root = refl;
    }

pub returns-clause-ok : goal.returns-clause-ok
returns-clause-ok c =
    let tree = literal_tree c.args.literal.now in
    let size = count_by tree c.in-Ok.layout c.in-Ok.ensures.layout in
    let few : c.args.next + length (bodies tree) ≤ NEXT_NUMBER =
    omega (arith, size, c.len.ensures.count, c.saturating_add.ensures, c.if-saturating_add-gt-NEXT_NUMBER.false) in
    clear_all c.args.labels.now c.args.next tree c.in-Ok.layout c.in-Some.numbers c.edges.new.numbers c.in-Ok.ensures.ok few c.in-Ok.ensures.layout
    c.in-Some.ensures.some (rw c.in-Some-2.is at c.in_ok-added.ensures.labels) c.in_ok-texts.ensures.few
