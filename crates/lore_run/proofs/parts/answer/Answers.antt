use Rattle.std.proofs.Common.{inl, inr, refl, ap, ◌∙◌}
use Rattle.std.proofs.lemmas.Result.{IfOk-weaker}
use Rattle.lorel_terms.specs.Faults.{refusal_of}
use Rattle.lorel_trees.specs.Trees.{statement_tree}
use Rattle.lore_run.specs.Types.{Refused}
use Rattle.lore_run.specs.Runs.{chunk, Yields}
use Rattle.lore_run.specs.Reads.{PartReads}
use Rattle.lore_db.specs.States.{Performs}
use Rattle.lore_run.specs.inside.Turns.{IsRefusalOf}
use Rattle.lore_run.proofs.RespondLaws.{parse_refusal, fault_reads}
use Rattle.lore_run.proofs.ReadLaws.{executed_reads}
use Rattle.lore_run.proofs.parts.answer.Goals as goal

pub returns-in-Ok-parsed-clause-ok : goal.returns-in-Ok-parsed-clause-ok
returns-in-Ok-parsed-clause-ok g c =
    let before = c.args.session.now.state in
    let after = c.execute-reply.new.self.state in
    let tree = statement_tree c.in-Ok-parsed.statement in
    IfOk-weaker c.execute-reply.result (λ reply. Performs before tree reply after) (λ reply. Yields before (chunk c.args.text.now) reply after)
    (λ reply executed. inr (inr (record {
      tokens = c.in-Ok.tokens;
      lexed = c.in-Ok.ensures.found;
      statement = tree;
      parsed = c.in-Ok-parsed.ensures.tree;
      executed = executed;
    })))
    c.execute-reply.ensures.ok

pub returns-in-Err-parsed-clause-ok : goal.returns-in-Err-parsed-clause-ok
returns-in-Err-parsed-clause-ok g c =
    let session = c.args.session.now.state in
    let fault = c.in-Err-parsed.fault in
    IfOk-weaker c.refused-in-Err-parsed.result (λ reply. IsRefusalOf (refusal_of fault) reply) (λ reply. Yields session (chunk c.args.text.now) reply session)
    (λ reply refused.
    let syntax = parse_refusal fault refused.0 refused.1 in
    inr (inl (record {
      tokens = c.in-Ok.tokens;
      lexed = c.in-Ok.ensures.found;
      none = c.in-Err-parsed.ensures.none syntax.0;
      refused = refused.2 ∙ ap Refused syntax.1;
      same = refl;
    })))
    c.refused-in-Err-parsed.ensures

pub returns-in-Err-clause-read : goal.returns-in-Err-clause-read
returns-in-Err-clause-read g c =
    fault_reads c.refused.result c.args.session.now.state c.args.text.now c.args.steps.now c.in-Err.fault c.in-Err.ensures.fault c.refused.ensures

pub returns-in-Ok-parsed-clause-read : goal.returns-in-Ok-parsed-clause-read
returns-in-Ok-parsed-clause-read g c =
    let before = c.args.session.now.state in
    let after = c.execute-reply.new.self.state in
    let tree = statement_tree c.in-Ok-parsed.statement in
    executed_reads c.execute-reply.result before after c.args.text.now c.in-Ok.tokens c.in-Ok.ensures.found tree c.in-Ok-parsed.ensures.tree c.args.steps.now c.execute-reply.new.steps
    c.execute-reply.ensures.ok c.execute-reply.ensures.read

pub returns-in-Err-parsed-clause-read : goal.returns-in-Err-parsed-clause-read
returns-in-Err-parsed-clause-read g c =
    let session = c.args.session.now.state in
    let fault = c.in-Err-parsed.fault in
    let steps = c.args.steps.now in
    IfOk-weaker c.refused-in-Err-parsed.result (λ reply. IsRefusalOf (refusal_of fault) reply) (λ reply. PartReads session (chunk c.args.text.now) reply session steps steps)
    (λ reply refused.
    let syntax = parse_refusal fault refused.0 refused.1 in
    inl (
      inr (record {
        tokens = c.in-Ok.tokens;
        lexed = c.in-Ok.ensures.found;
        none = c.in-Err-parsed.ensures.none syntax.0;
        refused = refused.2 ∙ ap Refused syntax.1;
        same = refl;
      }),
      refl,
    ))
    c.refused-in-Err-parsed.ensures
