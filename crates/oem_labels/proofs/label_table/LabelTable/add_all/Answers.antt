use Rattle.std.proofs.Common.{◌++◌, length-append, arith}
use Rattle.oem_labels.specs.Labels.{first_uses}
use Rattle.oem_labels.proofs.TableLaws.{gain-few}
use Rattle.oem_labels.proofs.label_table.LabelTable.add_all.Goals as goal

pub add-requires : goal.add-requires
add-requires c =
    gain-few c.texts.self (c.args.self.now ++ first_uses c.args.self.now c.args.texts.now) c.args.texts.now c.texts.text-index 4294967296 c.text-item.result
    c.texts-test.true c.text-item.is c.texts.invariant
    (omega (arith, c.requires, length-append c.args.self.now (first_uses c.args.self.now c.args.texts.now)))
