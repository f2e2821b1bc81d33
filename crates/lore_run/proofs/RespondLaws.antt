-- A part that was executed and counted, and what its written reply tells; and how a fault of the parser is refused.
use Rattle.std.proofs.Common.{sym, ap, subst, refl, ◌∙◌, ◌≡◌, ℕ, ◌+◌, inl, List, Some, Result, Ok, Err, IfOk, OnOk, OnErr, IfErr}
use Rattle.std.proofs.lemmas.Option.{none-some}
use Rattle.std.specs.Io.KnownBytes.{Appends}
use Rattle.lore_db.specs.States.{State}
use Rattle.lorel_lex.specs.Faults.{refusal_of as lexed_as}
use Rattle.lorel_lex.specs.Tokens.{HasFault}
use Rattle.lorel_lex.specs.declared.faults.LexFault.{LexFault}
use Rattle.lorel_lex.specs.declared.faults.LexFault.TheVariants as l
use Rattle.lorel_terms.specs.Faults.{refusal_of}
use Rattle.lorel_terms.specs.declared.faults.ParseFault.{ParseFault}
use Rattle.lorel_terms.specs.declared.faults.ParseFault.TheVariants as f
use Rattle.lore_run.specs.Types.{Reply, Refusal, Syntax}
use Rattle.lore_run.specs.Replies.{reply_text}
use Rattle.lore_run.specs.Runs.{ScriptPart, chunk, Yields, refusals}
use Rattle.lore_run.specs.Reads.{PartReads}
use Rattle.lore_run.specs.declared.status.Status.{Status}
use Rattle.lore_run.specs.declared.status.Status.TheVariants.{WriteFault}
use Rattle.reply_texts.specs.Deliveries.{AppendsProperFront}
use Rattle.lore_run.specs.inside.Turns.{Standing, Replied, RepliedInPart, StopsReplying, IsRefusalOf}

pub replied_whole : {T : Type 0} (result : Result T Status) (before after : Standing) (part : ScriptPart) (reply : Reply)
    → Yields before.state part reply after.state → PartReads before.state part reply after.state before.reads after.reads → after.tally.done ≡ before.tally.done + 1 → after.tally.refused ≡ before.tally.refused + refusals reply
    → OnOk result (Appends before.written after.written (reply_text after.state reply)) → OnOk result (Replied before part after)
replied_whole (Err status) before after part reply yielded read done refused printed = tt
replied_whole (Ok x) before after part reply yielded read done refused printed =
    record { reply = reply; yielded = yielded; read = read; done = done; refused = refused; printed = printed }

pub replied_in_part : {T : Type 0} (result : Result T Status) (before after : Standing) (part : ScriptPart) (reply : Reply)
    → Yields before.state part reply after.state → PartReads before.state part reply after.state before.reads after.reads → after.tally.done ≡ before.tally.done + 1 → after.tally.refused ≡ before.tally.refused + refusals reply
    → OnErr result (AppendsProperFront before.written after.written (reply_text after.state reply)) → IfErr result (λ status. status ≡ WriteFault)
    → IfErr result (λ status. StopsReplying status before part after)
replied_in_part (Ok x) before after part reply yielded read done refused printed only = tt
replied_in_part (Err status) before after part reply yielded read done refused printed only =
    subst (λ (s : Status). StopsReplying s before part after) (sym only)
    (record { reply = reply; yielded = yielded; read = read; done = done; refused = refused; printed = printed })

pub replied_early : {T : Type 0} (result : Result T Status) (before after : Standing) (part : ScriptPart) (reply : Reply)
    → Yields before.state part reply after.state → PartReads before.state part reply after.state before.reads after.reads → after.tally.done ≡ before.tally.done + 1 → after.tally.refused ≡ before.tally.refused + refusals reply
    → OnErr result (AppendsProperFront before.written after.written (reply_text after.state reply)) → OnErr result (RepliedInPart before part after)
replied_early (Ok x) before after part reply yielded read done refused printed = tt
replied_early (Err status) before after part reply yielded read done refused printed =
    record { reply = reply; yielded = yielded; read = read; done = done; refused = refused; printed = printed }

-- for a text with a fault nothing is read
had_memory : (fault : LexFault) (refusal : Refusal) → lexed_as fault ≡ Some refusal → fault ≡ l.NoMemory → ⊥
had_memory fault refusal named same = none-some refusal (sym (ap lexed_as same) ∙ named)

pub fault_reads : {E : Type 0} (result : Result Reply E) (state : State) (text : List ℕ) (reads : ℕ) (fault : LexFault) → ((fault ≡ l.NoMemory → ⊥) → HasFault text fault)
    → IfOk result (λ reply. IsRefusalOf (lexed_as fault) reply) → IfOk result (λ reply. PartReads state (chunk text) reply state reads reads)
fault_reads (Ok reply) state text reads fault broken refused =
    inl (
      inl (record {
        fault = fault;
        broken = broken (had_memory fault refused.0 refused.1);
        refusal = refused.0;
        named = refused.1;
        refused = refused.2;
        same = refl;
      }),
      refl,
    )
fault_reads (Err error) state text reads fault broken refused = tt

-- a fault of the parser that is refused is no statement
pub parse_refusal : (fault : ParseFault) (refusal : Refusal) → refusal_of fault ≡ Some refusal → (fault ≡ f.Syntax) × (refusal ≡ Syntax)
parse_refusal f.Syntax refusal named = (refl, cc)
parse_refusal f.NoMemory refusal named = cc
