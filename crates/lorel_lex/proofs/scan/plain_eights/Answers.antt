use Rattle.std.proofs.Common.{◌≡◌, ℕ, ◌+◌, ◌-◌, true, take, drop, sym, ◌∙◌, subst, arith}
use Rattle.std.specs.List.{list_all}
use Rattle.lorel_lex.specs.inside.Scanning.{is_plain}
use Rattle.lorel_lex.proofs.ScanLaws.{passed_behind}
use Rattle.lorel_lex.proofs.scan.plain_eights.Goals as goal

pub eights-preserved : goal.eights-preserved
eights-preserved c =
    let bytes = c.args.bytes.now in
    let at = c.eights.at in
    let size : at + 8 - at ≡ 8 = omega arith in
    let eight : list_all is_plain (take (at + 8 - at) (drop at bytes)) ≡ true = sym c.are_plain.ensures ∙ c.if-not-are_plain.false in
    record {
      within = omega arith;
      passed = passed_behind is_plain bytes at 8 c.eights.invariant.passed (subst (λ (n : ℕ). list_all is_plain (take n (drop at bytes)) ≡ true) size eight);
    }
