use Rattle.std.proofs.Common.{arith}
use Rattle.lore_base.specs.Paths.{path_tree}
use Rattle.lorel_ranges.proofs.PartLaws.{seq_tested, alt_tested, map_same_at}
use Rattle.lorel_ranges.proofs.places.+same.Goals as goal

pub same_path-returns-in-Seq-Seq : goal.same_path-returns-in-Seq-Seq
same_path-returns-in-Seq-Seq t c =
    let first = c.as_slice.ensures.trees in
    let second = c.as_slice-in-Seq-Seq.ensures.trees in
    seq_tested c.same_parts.result c.args.a.now c.args.b.now c.in-Seq-Seq.a c.in-Seq-Seq.b c.in-Seq-Seq.is-0 c.in-Seq-Seq.is-1
    (rw (first, second) at c.same_parts.ensures)

pub same_path-returns-in-Alt-Alt : goal.same_path-returns-in-Alt-Alt
same_path-returns-in-Alt-Alt t c =
    let first = c.as_slice-in-Alt-Alt.ensures.trees in
    let second = c.as_slice-in-Alt-Alt-2.ensures.trees in
    alt_tested c.same_parts-in-Alt-Alt.result c.args.a.now c.args.b.now c.in-Alt-Alt.a c.in-Alt-Alt.b c.in-Alt-Alt.is-0 c.in-Alt-Alt.is-1
    (rw (first, second) at c.same_parts-in-Alt-Alt.ensures)

pub same_parts-returns-then-not-same_path : goal.same_parts-returns-then-not-same_path
same_parts-returns-then-not-same_path t c = (
  λ passes. cc,
  λ same. c.if-not-same_path.ensures.1 (map_same_at path_tree c.args.a.now c.args.b.now c.parts.number c.index-a-number.result
      c.index-b-number.result c.parts-test.true (omega arith) c.index-a-number.is c.index-b-number.is same),
)
