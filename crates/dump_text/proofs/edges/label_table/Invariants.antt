use Rattle.std.proofs.Common.{◌≡◌, ◌≢◌, take, AllPairs}
use Rattle.dump_text.proofs.edges.label_table.Given as goal

abbrev pub invariant-texts : goal.invariant-texts
invariant-texts l =
    record { table : l.table ≡ take l.text-index l.fn.texts; distinct : AllPairs (λ a b. a ≢ b) (take l.text-index l.fn.texts) }
