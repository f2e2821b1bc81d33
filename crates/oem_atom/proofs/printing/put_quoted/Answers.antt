use Rattle.std.proofs.Common.{[], ◌∷◌}
use Rattle.std.specs.List.{flat_map}
use Rattle.lore_base.specs.Quotes.{escape}
use Rattle.lore_base.proofs.PutLaws.{Breaks-early, Breaks-late, Puts-broken, Puts-then, Takes-then}
use Rattle.oem_atom.proofs.printing.put_quoted.Goals as goal

pub returns-in_err-put : goal.returns-in_err-put
returns-in_err-put g c =
    Puts-broken g.O.Out.is_memory c.from_residual.result c.from_residual.ensures.1
    (Breaks-early (c.args.quote ∷ []) (Breaks-early (flat_map (escape c.args.quote) c.args.text.now) c.in_err-put.ensures))

pub returns-in_err-put_escaped : goal.returns-in_err-put_escaped
returns-in_err-put_escaped g c =
    Puts-broken g.O.Out.is_memory c.from_residual-in_err-put_escaped.result c.from_residual-in_err-put_escaped.ensures.1
    (Breaks-early (c.args.quote ∷ []) (Breaks-late c.in_ok-put.ensures c.in_err-put_escaped.ensures))

pub returns : goal.returns
returns g c = Puts-then g.O.Out.is_memory _ (c.args.quote ∷ []) c.put-2.result (Takes-then c.in_ok-put.ensures c.in_ok-put_escaped.ensures) c.put-2.ensures
