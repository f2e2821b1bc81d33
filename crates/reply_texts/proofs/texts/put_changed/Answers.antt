use Rattle.std.proofs.Common.{◌++◌, sym}
use Rattle.std.specs.Prelude.{codes, decimal}
use Rattle.std.proofs.lemmas.List.{append_assoc}
use Rattle.lore_base.proofs.PutLaws.{Breaks-early, Breaks-late, Breaks-same, Puts-broken, Puts-then, Takes-same, Takes-then}
use Rattle.reply_texts.proofs.texts.put_changed.Goals as goal

pub returns-in_err-put_count : goal.returns-in_err-put_count
returns-in_err-put_count g c =
    Puts-broken g.O.Out.is_memory c.from_residual.result c.from_residual.ensures.1
    (Breaks-early (codes "\n") (Breaks-early (decimal c.args.nodes) (Breaks-early (codes " nodes ")
    (Breaks-early (decimal c.args.edges) (Breaks-early (codes " edges ") c.in_err-put_count.ensures)))))

pub returns-in_err-put_count-2 : goal.returns-in_err-put_count-2
returns-in_err-put_count-2 g c =
    let parts = sym (append_assoc (codes "ok objects " ++ decimal c.args.objects) (codes " edges ") (decimal c.args.edges)) in
    Puts-broken g.O.Out.is_memory c.from_residual-in_err-put_count-2.result c.from_residual-in_err-put_count-2.ensures.1
    (Breaks-early (codes "\n") (Breaks-early (decimal c.args.nodes) (Breaks-early (codes " nodes ")
    (Breaks-same parts (Breaks-late c.in_ok-put_count.ensures c.in_err-put_count-2.ensures)))))

pub returns-in_err-put_count-3 : goal.returns-in_err-put_count-3
returns-in_err-put_count-3 g c =
    let objects = codes "ok objects " ++ decimal c.args.objects in
    let parts = sym (append_assoc objects (codes " edges ") (decimal c.args.edges)) in
    let all = sym (append_assoc (objects ++ codes " edges " ++ decimal c.args.edges) (codes " nodes ") (decimal c.args.nodes)) in
    let front = Takes-same parts (Takes-then c.in_ok-put_count.ensures c.in_ok-put_count-2.ensures) in
    Puts-broken g.O.Out.is_memory c.from_residual-in_err-put_count-3.result c.from_residual-in_err-put_count-3.ensures.1
    (Breaks-early (codes "\n") (Breaks-same all (Breaks-late front c.in_err-put_count-3.ensures)))

pub returns : goal.returns
returns g c =
    let objects = codes "ok objects " ++ decimal c.args.objects in
    let parts = sym (append_assoc objects (codes " edges ") (decimal c.args.edges)) in
    let all = sym (append_assoc (objects ++ codes " edges " ++ decimal c.args.edges) (codes " nodes ") (decimal c.args.nodes)) in
    let front = Takes-same parts (Takes-then c.in_ok-put_count.ensures c.in_ok-put_count-2.ensures) in
    Puts-then g.O.Out.is_memory _ (codes "\n") c.put.result (Takes-same all (Takes-then front c.in_ok-put_count-3.ensures)) c.put.ensures
