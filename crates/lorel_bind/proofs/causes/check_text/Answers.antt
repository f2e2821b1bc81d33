use Rattle.std.proofs.Common.{◌<◌, ◌≤◌, subst}
use Rattle.lorel_bind.specs.Types.{LEAVES}
use Rattle.lorel_bind.proofs.TextCauseLaws.{refused_name, refused_start, refused_word, refused_duplicate, refused_many, passes_text, many_items, few_items, many_leaves, few_leaves}
use Rattle.lorel_bind.proofs.causes.check_text.Goals as goal
use Rattle.lorel_bind.proofs.causes.check_text.Goals.{then-unknown-2-via-then-unknown-2, then-unknown-2-via-else-unknown-2+then-text, then-text-gt-ITEMS-via-then-text-gt-ITEMS, then-text-gt-ITEMS-via-else-text-gt-ITEMS+then-count_leaves}

pub returns-then-unknown-clause-refused : goal.returns-then-unknown-clause-refused
returns-then-unknown-clause-refused c = λ query is.
    let ranged = c.in_ok-ranged in
    let unknown = c.unknown_starts-unknown in
    refused_name c.args.names.now query c.args.text.now is ranged.ranged ranged.ensures unknown.result unknown.ensures c.if-unknown.true

pub returns-then-unknown-2-clause-refused : goal.returns-then-unknown-2-clause-refused
returns-then-unknown-2-clause-refused c = λ query is.
    let ranged = c.in_ok-ranged in
    let unknown = c.unknown_starts-unknown in
    let text = c.args.text.now in
    elim c.then-unknown-2.branch [
      | then-unknown-2-via-then-unknown-2 w ↦ refused_start c.args.names.now query text is ranged.ranged ranged.ensures unknown.result unknown.ensures
          c.if-unknown.false w.if-unknown-2.true
      | then-unknown-2-via-else-unknown-2+then-text w ↦ refused_word c.args.names.now query text is ranged.ranged ranged.ensures unknown.result unknown.ensures
          c.if-unknown.false w.if-text.true
    ]

pub returns-then-ranged-clause-refused : goal.returns-then-ranged-clause-refused
returns-then-ranged-clause-refused c = λ query is.
    let ranged = c.in_ok-ranged in
    let unknown = c.unknown_starts-unknown in
    refused_duplicate c.args.names.now query c.args.text.now is ranged.ranged ranged.ensures unknown.result unknown.ensures
    c.if-unknown.false c.if-unknown-2.false c.if-text.false c.if-ranged.true

pub returns-then-text-gt-ITEMS-clause-refused : goal.returns-then-text-gt-ITEMS-clause-refused
returns-then-text-gt-ITEMS-clause-refused c = λ query is.
    let ranged = c.in_ok-ranged in
    let unknown = c.unknown_starts-unknown in
    let text = c.args.text.now in
    refused_many c.args.names.now query text is ranged.ranged ranged.ensures unknown.result unknown.ensures
    c.if-unknown.false c.if-unknown-2.false c.if-text.false c.if-ranged.false
    (elim c.then-text-gt-ITEMS.branch [
      | then-text-gt-ITEMS-via-then-text-gt-ITEMS w ↦ many_items c.args.names.now query text is w.if-text-gt-ITEMS.true
      | then-text-gt-ITEMS-via-else-text-gt-ITEMS+then-count_leaves w ↦ many_leaves c.args.names.now query text is
          (subst (λ n. LEAVES < n) w.count_leaves.ensures w.if-count_leaves.true)
    ])

pub returns-clause-passes : goal.returns-clause-passes
returns-clause-passes c = λ query is.
    let ranged = c.in_ok-ranged in
    let unknown = c.unknown_starts-unknown in
    let text = c.args.text.now in
    passes_text c.args.names.now query text is ranged.ranged ranged.ensures unknown.result unknown.ensures
    c.if-unknown.false c.if-unknown-2.false c.if-text.false c.if-ranged.false
    (few_items c.args.names.now query text is c.if-text-gt-ITEMS.false)
    (few_leaves c.args.names.now query text is (subst (λ n. n ≤ LEAVES) c.count_leaves.ensures c.if-count_leaves.false))
