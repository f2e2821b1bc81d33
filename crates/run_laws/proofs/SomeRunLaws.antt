-- From each state that can stand each list of parts has a run.
use Rattle.std.proofs.Common.{◌≡◌, ℕ, ◌+◌, ◌⊎◌, inl, inr, List, [], ◌∷◌, ◌++◌, map, Some, Result, Ok, Err, refl}
use Rattle.std.proofs.lemmas.List.Elements.{All-map}
use Rattle.lorel_tokens.specs.declared.token_types.Kind.{Kind}
use Rattle.lorel_tokens.specs.declared.token_types.Token.{Token}
use Rattle.lorel_lex.specs.declared.faults.LexFault.{LexFault}
use Rattle.lorel_lex.specs.declared.faults.LexFault.TheVariants as lex
use Rattle.lorel_tokens.specs.Forms.{HasForm}
use Rattle.lorel_lex.specs.Tokens.{AreTokens, HasFault, IsFaultBehind, IsOutcome}
use Rattle.lorel_lex.proofs.OutcomeLaws.{some_outcome}
use Rattle.lorel_lex.proofs.TokenLaws.{formed}
use Rattle.lorel_lex.specs.Faults.{refusal_of}
use Rattle.lore_run.specs.Types.{Refusal, BadToken, RealRefused, NumberRange, TextTooLong, Syntax, Unfinished, Reply, Refused}
use Rattle.lorel_trees.specs.Trees.{StatementTree}
use Rattle.lorel_trees.specs.Sound.{IsSound}
use Rattle.lorel_trees.specs.Tokens.{HasTokens}
use Rattle.lore_db.specs.States.{State}
use Rattle.reply_laws.specs.Laws.{CanStand, PerformsAlways}
use Rattle.lore_run.specs.Replies.{reply_text}
use Rattle.lore_run.specs.Runs.{ScriptPart, chunk, rest, Yields, refusals}
use Rattle.run_laws.specs.Laws.{HasSomeRun}

abbrev pub SomeStatement : Type 0
SomeStatement = (kinds : List Kind) → ((statement : StatementTree) × HasTokens statement kinds) ⊎ ((statement : StatementTree) → HasTokens statement kinds → ⊥)

-- want of memory is no fault of a text
not_memory : (at : ℕ) (bytes : List ℕ) (tokens : List Token) → IsFaultBehind at bytes tokens lex.NoMemory → ⊥
not_memory at bytes [] (gap, place, stands, inl none) = cc (none.0)
not_memory at bytes [] (gap, place, stands, inr breaks) = breaks.broken tt
not_memory at bytes (token ∷ tokens) (left, next, behind) = not_memory token.end left tokens behind

-- each fault of a text has its refusal
some_refusal : (text : List ℕ) (fault : LexFault) → HasFault text fault → (refusal : Refusal) × (refusal_of fault ≡ Some refusal)
some_refusal text lex.BadToken has = (BadToken, refl)
some_refusal text lex.RealRefused has = (RealRefused, refl)
some_refusal text lex.NumberRange has = (NumberRange, refl)
some_refusal text lex.TextTooLong has = (TextTooLong, refl)
some_refusal text lex.NoMemory (inl bad) = absurd (cc (bad.0))
some_refusal text lex.NoMemory (inr (utf8, tokens, behind)) = absurd (not_memory 0 text tokens behind)

abbrev pub HasYield : State → ScriptPart → Type 0
HasYield before part = (reply : Reply) × (after : State) × Yields before part reply after × CanStand after

yield_statement : PerformsAlways → (before : State) (text : List ℕ) (tokens : List Token) → CanStand before → AreTokens text tokens
    → ((statement : StatementTree) × HasTokens statement (map (λ token. token.kind) tokens)) ⊎ ((statement : StatementTree) → HasTokens statement (map (λ token. token.kind) tokens) → ⊥)
    → HasYield before (chunk text)
yield_statement performances before text tokens stands lexed (inl (statement, parsed)) =
    let forms = All-map HasForm (λ (token : Token). token.kind) tokens (formed text tokens lexed) in
    let sound : IsSound statement = record { kinds = map (λ token. token.kind) tokens; spelled = parsed; formed = forms } in
    let some = performances before statement stands sound in
    (some.reply, some.after, inr (inr (record { tokens = tokens; lexed = lexed; statement = statement; parsed = parsed; executed = some.performed })), some.stands)
yield_statement performances before text tokens stands lexed (inr none) =
    (Refused Syntax, before, inr (inl (record { tokens = tokens; lexed = lexed; none = none; refused = refl; same = refl })), stands)

yield_outcome : SomeStatement → PerformsAlways → (before : State) (text : List ℕ) (outcome : Result (List Token) LexFault) → CanStand before → IsOutcome text outcome
    → HasYield before (chunk text)
yield_outcome statements performances before text (Ok tokens) stands lexed =
    yield_statement performances before text tokens stands lexed (statements (map (λ token. token.kind) tokens))
yield_outcome statements performances before text (Err fault) stands broken =
    let (refusal, named) = some_refusal text fault broken in
    (Refused refusal, before, inl (record { fault = fault; broken = broken; refusal = refusal; named = named; refused = refl; same = refl }), stands)

some_yield : SomeStatement → PerformsAlways → (before : State) (part : ScriptPart) → CanStand before → HasYield before part
some_yield statements performances before (chunk text) stands =
    let (outcome, is) = some_outcome text in yield_outcome statements performances before text outcome stands is
some_yield statements performances before rest stands = (Refused Unfinished, before, (refl, refl), stands)

pub some_run : SomeStatement → PerformsAlways → HasSomeRun
some_run statements performances before [] stands = ([], 0, before, (refl, refl, refl), stands)
some_run statements performances before (part ∷ parts) stands =
    let (reply, middle, yielded, stands_middle) = some_yield statements performances before part stands in
    let (bytes, refused, after, ran, stands_after) = some_run statements performances middle parts stands_middle in (
      reply_text middle reply ++ bytes,
      refusals reply + refused,
      after,
      (reply, middle, bytes, refused, yielded, ran, refl, refl),
      stands_after,
    )
