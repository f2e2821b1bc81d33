use Rattle.std.proofs.Common.{◌≡◌, ℕ, ◌+◌, ◌≤◌, List, ◌++◌, length, drop, ap, sym, subst, ◌∙◌, arith}
use Rattle.std.proofs.Math.Seq.{take-length}
use Rattle.std.specs.List.{flat_map, between}
use Rattle.lore_base.specs.Quotes.{escape}
use Rattle.lore_base.proofs.PutLaws.{Breaks-early, Breaks-late, Breaks-same, Puts-broken, Puts-same, Puts-then, Takes-same, Takes-then}
use Rattle.oem_atom.proofs.RunLaws.{printed_around, printed_next, printed_rest, printed_run, plain_more, plain_none}
use Rattle.oem_atom.proofs.printing.put_escaped.Goals as goal
use Rattle.oem_atom.proofs.printing.put_escaped.Goals.{in-Some+in_ok-put+in_ok-put-2, in_default}

pub returns-in_err-put : goal.returns-in_err-put
returns-in_err-put g c =
    let text = c.args.text.now in
    let start = c.bytes.start in
    let place = c.bytes.place in
    let run = printed_run (escape c.args.quote) text start place c.bytes.invariant.ordered c.bytes.invariant.plain in
    let parts = ap (λ (l : List ℕ). l ++ flat_map (escape c.args.quote) (drop place text)) run ∙ printed_rest (escape c.args.quote) text place in
    Puts-broken g.O.Out.is_memory c.from_residual.result c.from_residual.ensures.1
    (Breaks-same parts (Breaks-early (flat_map (escape c.args.quote) (drop place text)) (Breaks-late c.bytes.invariant.taken c.in_err-put.ensures)))

pub returns-in_err-put-2 : goal.returns-in_err-put-2
returns-in_err-put-2 g c =
    let text = c.args.text.now in
    let start = c.bytes.start in
    let place = c.bytes.place in
    let run = printed_run (escape c.args.quote) text start place c.bytes.invariant.ordered c.bytes.invariant.plain in
    let parts = printed_around (escape c.args.quote) text place 0 c.bytes-test.true in
    Puts-broken g.O.Out.is_memory c.from_residual-in_err-put-2.result c.from_residual-in_err-put-2.ensures.1
    (Breaks-same parts (Breaks-early (flat_map (escape c.args.quote) (drop (place + 1) text))
    (Breaks-late (Takes-same run (Takes-then c.bytes.invariant.taken c.in_ok-put.ensures)) (Breaks-same (sym c.in-Some.ensures.some) c.in_err-put-2.ensures))))

pub bytes-preserved : goal.bytes-preserved
bytes-preserved g c =
    let text = c.args.text.now in
    let start = c.bytes.start in
    let place = c.bytes.place in
    elim c.match-letter_of.branch [
      | in-Some+in_ok-put+in_ok-put-2 w ↦
          let run = printed_run (escape c.args.quote) text start place c.bytes.invariant.ordered c.bytes.invariant.plain in
          let before = Takes-same run (Takes-then c.bytes.invariant.taken w.in_ok-put.ensures) in
          rw (w.out-is, w.start-is) (record {
            ordered = omega arith;
            plain = plain_none (escape c.args.quote) text (place + 1);
            taken = Takes-same (printed_next (escape c.args.quote) text place 0 c.bytes-test.true)
                (Takes-then before (Takes-same (sym w.in-Some.ensures.some) w.in_ok-put-2.ensures));
          })
      | in_default w ↦
          rw (w.out-is, w.start-is) (record {
            ordered = omega arith;
            plain = plain_more (escape c.args.quote) text start place 0 c.bytes.invariant.ordered c.bytes-test.true c.bytes.invariant.plain w.in_default.ensures.none;
            taken = c.bytes.invariant.taken;
          })
    ]

pub returns : goal.returns
returns g c =
    let text = c.args.text.now in
    let start = c.bytes.start in
    let last : c.bytes.place ≡ length text = omega arith in
    let ordered : start ≤ length text = omega arith in
    let plain = subst (λ (n : ℕ). flat_map (escape c.args.quote) (between start n text) ≡ between start n text) last c.bytes.invariant.plain in
    let run = printed_run (escape c.args.quote) text start (length text) ordered plain ∙ ap (flat_map (escape c.args.quote)) (take-length text) in
    Puts-same g.O.Out.is_memory _ _ _ _ c.put-2.result run
    (Puts-then g.O.Out.is_memory _ (between start (length text) text) c.put-2.result c.bytes.invariant.taken c.put-2.ensures)
