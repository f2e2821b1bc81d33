use Rattle.std.proofs.Common.{◌+◌, sym, ◌∙◌, arith}
use Rattle.lorel_lex.proofs.ScanLaws.{ScansTo-still, ScansTo-byte, scan_ends, scan_open, still_behind}
use Rattle.lorel_lex.proofs.scan.scan.Goals as goal

pub returns-then-at-bytes : goal.returns-then-at-bytes
returns-then-at-bytes c =
    let bytes = c.args.bytes.now in
    let at = c.bytes.at in
    let len = c.still_len-at.result in
    let still = still_behind c.bytes.state bytes at len c.still_len-at.ensures in
    scan_open c.args.from c.bytes.state bytes (at + len) (ScansTo-still c.args.from c.bytes.state bytes at len c.bytes.invariant still) (omega arith)

pub returns-then-is_end : goal.returns-then-is_end
returns-then-is_end c =
    let bytes = c.args.bytes.now in
    let at = c.bytes.at in
    let len = c.still_len-at.result in
    let still = still_behind c.bytes.state bytes at len c.still_len-at.ensures in
    let behind = ScansTo-still c.args.from c.bytes.state bytes at len c.bytes.invariant still in
    scan_ends c.args.from c.bytes.state bytes (at + len) behind (omega (arith, behind.within)) (sym c.is_end.ensures ∙ c.if-is_end.true)

pub bytes-preserved : goal.bytes-preserved
bytes-preserved c =
    let bytes = c.args.bytes.now in
    let at = c.bytes.at in
    let len = c.still_len-at.result in
    let still = still_behind c.bytes.state bytes at len c.still_len-at.ensures in
    let behind = ScansTo-still c.args.from c.bytes.state bytes at len c.bytes.invariant still in
    let more = ScansTo-byte c.args.from c.bytes.state bytes (at + len) behind (omega (arith, behind.within)) (sym c.is_end.ensures ∙ c.if-is_end.false) in
    rw (c.state_after-state.ensures) more
