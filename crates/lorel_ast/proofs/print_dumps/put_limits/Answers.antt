use Rattle.std.proofs.Common.{◌≡◌, ◌∷◌, ◌∙◌, to_z, of_z, rules}
use Rattle.std.specs.Prelude.{codes}
use Rattle.std.specs.Int.{w64}
use Rattle.std.proofs.lemmas.Int.{to_z-of_z}
use Rattle.lorel_tokens.specs.declared.token_types.Kind.TheVariants as k
use Rattle.lorel_ast.proofs.print_dumps.put_limits.Goals as goal

pub returns : goal.returns
returns c = λ rest.
    let text = c.args.text.now in
    let next : to_z w64 (of_z w64 text.next) ≡ text.next = to_z-of_z w64 text.next (search rules) in
    let nodes : to_z w64 (of_z w64 text.nodes) ≡ text.nodes = to_z-of_z w64 text.nodes (search rules) in
    let first = rw (next) at (c.in_ok-put_number.ensures (k.Word (codes "nodes") ∷ k.Number text.nodes ∷ rest)) in
    let second = rw (nodes) at (c.in_ok-put_number-2.ensures rest) in
    first ∙ second
