use Rattle.std.proofs.Common.{◌≡◌, ℕ, List, [], length, Option, sym, ◌∙◌, ap, subst, arith}
use Rattle.std.specs.Prelude.{IfSome}
use Rattle.lorel_lex.specs.declared.scan.State.TheVariants.{Plain}
use Rattle.lorel_lex.specs.Scan.{scanned, IsOpen}
use Rattle.std.proofs.lemmas.List.{length-append, take_all}
use Rattle.lorel_lex.proofs.FeedLaws.{feeds_too_long, feeds_more, feeds_whole, none_waits, unended_more, reached_more, too_long}
use Rattle.lorel_lex.proofs.chunk_reader.Chunks.feed.Goals as goal

pub returns-then-len-at : goal.returns-then-len-at
returns-then-len-at c =
    let inside = c.self.inside in
    let held = inside.held.items in
    let piece = c.args.piece.now in
    rw (c.stopped-then-len-at.ensures) (feeds_too_long c.args.self.now inside.ready held piece inside.failed c.self.view_is c.requires
    (too_long held piece inside.state c.in-End.at c.self.invariant.unended c.self.invariant.state (omega (arith, c.in-End.ensures.within)) c.in-End.ensures.before
    (omega (arith, inside.held.ok.0))))

pub returns-then-len-piece : goal.returns-then-len-piece
returns-then-len-piece c =
    let inside = c.self.inside in
    let held = inside.held.items in
    let piece = c.args.piece.now in
    rw (c.stopped-then-len-piece.ensures) (feeds_too_long c.args.self.now inside.ready held piece inside.failed c.self.view_is c.requires
    (too_long held piece inside.state (length piece) c.self.invariant.unended c.self.invariant.state (omega arith) (rw (take_all (length piece) piece (omega arith)) c.in-Open.ensures.all)
    (omega (arith, inside.held.ok.0))))

pub invariant_of-self-in-Open : goal.invariant_of-self-in-Open
invariant_of-self-in-Open c =
    let inside = c.self.inside in
    let held = inside.held.items in
    let piece = c.args.piece.now in
    let items = c.in-Ok-extend_from_slice.ensures.items in
    record {
      unended = subst (λ (bytes : List ℕ). IsOpen bytes) (sym items) (unended_more inside.state held piece c.self.invariant.unended c.self.invariant.state c.in-Open.ensures.all);
      state = reached_more inside.state c.in-Open.state held piece c.self.invariant.state c.in-Open.ensures.reached ∙ ap (scanned Plain) (sym items);
      sized = omega (arith, length-append held piece, ap length items, inside.held.ok.0, c.self.invariant.sized);
      emptied = subst (λ (ready : Option (List ℕ)). IfSome ready (λ _. c.extend_from_slice.new.self.items ≡ []))
          (sym (none_waits c.args.self.now inside.ready held inside.failed c.self.view_is c.requires)) tt;
    }

pub returns-in-Ok : goal.returns-in-Ok
returns-in-Ok c =
    let inside = c.self.inside in
    feeds_whole c.args.self.now inside.ready inside.held.items c.joined.new.held.items c.args.piece.now c.in-Ok.chunk inside.failed inside.state c.in-End.at c.self.view_is c.requires c.if-self.false
    c.self.invariant.unended c.self.invariant.state c.in-End.ensures c.in-Ok.ensures.ok.0 c.self.invariant.sized (omega (arith, inside.held.ok.0))

pub returns-in-Ok-extend_from_slice : goal.returns-in-Ok-extend_from_slice
returns-in-Ok-extend_from_slice c =
    let inside = c.self.inside in
    feeds_more c.args.self.now inside.ready inside.held.items c.extend_from_slice.new.self.items c.args.piece.now inside.failed c.self.view_is c.requires c.if-self.false
    c.in-Ok-extend_from_slice.ensures.items
    (unended_more inside.state inside.held.items c.args.piece.now c.self.invariant.unended c.self.invariant.state c.in-Open.ensures.all)
    c.self.invariant.sized (omega (arith, inside.held.ok.0))
