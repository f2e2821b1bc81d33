use Rattle.std.proofs.Common.{List, ℕ, false, subst, ◌∙◌, sym}
use Rattle.lore_base.specs.Quotes.{IsContents}
use Rattle.lorel_lex.proofs.ContentsLaws.{plain_contents}
use Rattle.lorel_lex.proofs.quoted_texts.contents.Goals as goal

pub returns-then-not-contains : goal.returns-then-not-contains
returns-then-not-contains c =
    let raw = c.args.raw.now in
    subst (λ (l : List ℕ). IsContents c.args.quote raw l) (sym c.in_ok-text.ensures) (plain_contents c.args.quote raw (sym c.contains.ensures.value ∙ c.if-not-contains.true) false c.requires.inside)
