use Rattle.std.proofs.Common.{List, [], ℕ, subst, sym, arith, refl}
use Rattle.std.proofs.lemmas.List.{append-nil, drop_all}
use Rattle.lore_base.specs.Quotes.{IsContents}
use Rattle.lorel_lex.proofs.quoted_texts.unescaped.Goals as goal

pub returns : goal.returns
returns c =
    let raw = c.args.raw.now in
    let bytes = c.raw.bytes in
    subst (λ (l : List ℕ). IsContents c.args.quote raw l) (append-nil bytes)
    (c.raw.invariant.whole [] (subst (λ (l : List ℕ). IsContents c.args.quote l []) (sym (drop_all c.raw.at raw (omega arith))) refl))
