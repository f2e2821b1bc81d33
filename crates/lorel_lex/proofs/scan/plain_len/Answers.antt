use Rattle.std.proofs.Common.{ℕ, List, take, sym, ap, ◌∙◌}
use Rattle.std.specs.List.{list_all}
use Rattle.std.proofs.lemmas.List.{take_rest}
use Rattle.lorel_lex.specs.inside.Scanning.{is_plain}
use Rattle.lorel_lex.proofs.ScanLaws.{passed_behind}
use Rattle.lorel_lex.proofs.scan.plain_len.Goals as goal

pub returns-clause-passed : goal.returns-clause-passed
returns-clause-passed c =
    let bytes = c.args.bytes.now in
    let eights = c.plain_eights-eights.result in
    let more = c.plain_run.result in
    passed_behind is_plain bytes eights more c.plain_eights-eights.ensures.passed
    (ap (λ (l : List ℕ). list_all is_plain (take more l)) (sym (take_rest bytes eights)) ∙ c.plain_run.ensures.passed)
