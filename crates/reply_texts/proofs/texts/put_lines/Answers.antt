use Rattle.std.proofs.Common.{ℕ, List, ◌++◌, ◌+◌, drop, ◌∙◌}
use Rattle.std.specs.Prelude.{codes}
use Rattle.std.specs.List.{flat_map}
use Rattle.lore_base.proofs.PutLaws.{Breaks-early, Breaks-late, Breaks-same, Puts-broken, Takes-same, Takes-then}
use Rattle.oem_atom.proofs.RunLaws.{printed_around, printed_next}
use Rattle.reply_texts.proofs.texts.put_lines.Goals as goal

abbrev ended : List ℕ → List ℕ
ended line = line ++ codes "\n"

pub returns-in_err-put : goal.returns-in_err-put
returns-in_err-put g c =
    let parts = printed_around ended c.args.lines.now c.lines.line-index c.line-item.result c.lines-test.true in
    Puts-broken g.O.Out.is_memory c.from_residual.result c.from_residual.ensures.1
    (Breaks-same parts (Breaks-early (flat_map ended (drop (c.lines.line-index + 1) c.args.lines.now))
    (Breaks-late c.lines.invariant (Breaks-early (codes "\n") (Breaks-same (c.as_bytes.ensures ∙ c.line-item.is) c.in_err-put.ensures)))))

pub returns-in_err-put-2 : goal.returns-in_err-put-2
returns-in_err-put-2 g c =
    let parts = printed_around ended c.args.lines.now c.lines.line-index c.line-item.result c.lines-test.true in
    Puts-broken g.O.Out.is_memory c.from_residual-in_err-put-2.result c.from_residual-in_err-put-2.ensures.1
    (Breaks-same parts (Breaks-early (flat_map ended (drop (c.lines.line-index + 1) c.args.lines.now))
    (Breaks-late c.lines.invariant (Breaks-late (Takes-same (c.as_bytes.ensures ∙ c.line-item.is) c.in_ok-put.ensures) c.in_err-put-2.ensures))))

pub lines-preserved : goal.lines-preserved
lines-preserved g c =
    let parts = printed_next ended c.args.lines.now c.lines.line-index c.line-item.result c.lines-test.true in
    Takes-same parts (Takes-then c.lines.invariant (Takes-then (Takes-same (c.as_bytes.ensures ∙ c.line-item.is) c.in_ok-put.ensures) c.in_ok-put-2.ensures))
