use Rattle.std.proofs.Common.{◌≡◌, ◌++◌, OnOk, sym, ap, subst, length, arith}
use Rattle.oem_labels.proofs.TableLaws.{gain-none, gain-one}
use Rattle.oem_labels.proofs.label_table.LabelTable.add.Goals as goal

pub push-requires-clause-few : goal.push-requires-clause-few
push-requires-clause-few c =
    let one = ap length (gain-one c.args.self.now c.args.text.now (λ place there. c.in-None.ensures.none (record { 0 = place }) there)) in
    omega (arith, one, c.requires)

pub returns-in-Some : goal.returns-in-Some
returns-in-Some c = gain-none c.args.self.now c.in-Some.field-0.0 c.args.text.now c.in-Some.ensures.found

pub returns-in-None : goal.returns-in-None
returns-in-None c =
    let one = gain-one c.args.self.now c.args.text.now (λ place there. c.in-None.ensures.none (record { 0 = place }) there) in
    subst (λ l. OnOk c.push.result (c.push.new.self ≡ c.args.self.now ++ l)) (sym one) c.push.ensures.ok
