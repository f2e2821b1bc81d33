-- The meaning of a script is one and whole: a run is determined by its parts, and each part has an answer.
use Rattle.std.proofs.Common.{◌≡◌, ℕ, ◌+◌, ◌⊎◌, inl, inr, List, [], ◌∷◌, ◌++◌, map, Some, Result, Ok, Err, sym, ap, ◌∙◌, subst}
use Rattle.lore_db.specs.States.{State, Performs}
use Rattle.lore_base.specs.declared.refusals.Refusal.{Refusal}
use Rattle.lorel_tokens.specs.declared.token_types.Kind.{Kind}
use Rattle.lorel_tokens.specs.declared.token_types.Token.{Token}
use Rattle.lorel_lex.specs.declared.faults.LexFault.{LexFault}
use Rattle.lorel_lex.specs.Faults.{refusal_of}
use Rattle.lorel_lex.specs.Tokens.{AreTokens, HasFault}
use Rattle.lorel_lex.specs.Gaps.{IsBlank}
use Rattle.lorel_lex.proofs.ScanLaws.{one_cut}
use Rattle.lorel_lex.proofs.TokenLaws.{one_outcome}
use Rattle.lorel_trees.specs.Trees.{StatementTree}
use Rattle.lorel_trees.specs.Tokens.{HasTokens}
use Rattle.lore_run.specs.Types.{Refusal, Reply, Refused}
use Rattle.reply_laws.specs.Laws.{PerformsOnce}
use Rattle.lore_run.specs.Replies.{reply_text}
use Rattle.lore_run.specs.Runs.{ScriptPart, chunk, rest, Yields, Runs, refusals}
use Rattle.run_laws.specs.Laws.{HasOneRun, HasOneReading}

abbrev pub OneStatement : Type 0
OneStatement = (statement other : StatementTree) (kinds : List Kind) → HasTokens statement kinds → HasTokens other kinds → statement ≡ other

-- a fault is refused in one way
one_refusal : (fault : LexFault) (refusal other : Refusal) → refusal_of fault ≡ Some refusal → refusal_of fault ≡ Some other → refusal ≡ other
one_refusal fault refusal other e f = let same : Some refusal ≡ Some other = sym e ∙ f in cc

-- the tokens of a chunk, and its fault
same_tokens : (text : List ℕ) (tokens others : List Token) → AreTokens text tokens → AreTokens text others → tokens ≡ others
same_tokens text tokens others g h = let same : ◌≡◌ {A = Result (List Token) LexFault} (Ok tokens) (Ok others) = one_outcome text (Ok tokens) (Ok others) g h in cc

same_fault : (text : List ℕ) (fault other : LexFault) → HasFault text fault → HasFault text other → fault ≡ other
same_fault text fault other g h = let same : ◌≡◌ {A = Result (List Token) LexFault} (Err fault) (Err other) = one_outcome text (Err fault) (Err other) g h in cc

not_both : (text : List ℕ) (tokens : List Token) (fault : LexFault) → AreTokens text tokens → HasFault text fault → ⊥
not_both text tokens fault g h = let same : ◌≡◌ {A = Result (List Token) LexFault} (Ok tokens) (Err fault) = one_outcome text (Ok tokens) (Err fault) g h in cc

-- a part has one answer
one_yield : OneStatement → PerformsOnce → (before : State) (part : ScriptPart) (reply other : Reply) (after another : State)
    → Yields before part reply after → Yields before part other another → (reply ≡ other) × (after ≡ another)
one_yield statements performances before (chunk text) reply other after another (inl g) (inl h) =
    let fault = same_fault text g.fault h.fault g.broken h.broken in
    let refusal = one_refusal h.fault g.refusal h.refusal (subst (λ (f : LexFault). refusal_of f ≡ Some g.refusal) fault g.named) h.named in
    (g.refused ∙ ap Refused refusal ∙ sym h.refused, g.same ∙ sym h.same)
one_yield statements performances before (chunk text) reply other after another (inl g) (inr (inl h)) = absurd (not_both text h.tokens g.fault h.lexed g.broken)
one_yield statements performances before (chunk text) reply other after another (inl g) (inr (inr h)) = absurd (not_both text h.tokens g.fault h.lexed g.broken)
one_yield statements performances before (chunk text) reply other after another (inr (inl g)) (inl h) = absurd (not_both text g.tokens h.fault g.lexed h.broken)
one_yield statements performances before (chunk text) reply other after another (inr (inl g)) (inr (inl h)) = (g.refused ∙ sym h.refused, g.same ∙ sym h.same)
one_yield statements performances before (chunk text) reply other after another (inr (inl g)) (inr (inr h)) =
    let same = same_tokens text g.tokens h.tokens g.lexed h.lexed in
    absurd (g.none h.statement (subst (λ (tokens : List Token). HasTokens h.statement (map (λ token. token.kind) tokens)) (sym same) h.parsed))
one_yield statements performances before (chunk text) reply other after another (inr (inr g)) (inl h) = absurd (not_both text g.tokens h.fault g.lexed h.broken)
one_yield statements performances before (chunk text) reply other after another (inr (inr g)) (inr (inl h)) =
    let same = same_tokens text g.tokens h.tokens g.lexed h.lexed in
    absurd (h.none g.statement (subst (λ (tokens : List Token). HasTokens g.statement (map (λ token. token.kind) tokens)) same g.parsed))
one_yield statements performances before (chunk text) reply other after another (inr (inr g)) (inr (inr h)) =
    let same = same_tokens text g.tokens h.tokens g.lexed h.lexed in
    let one = statements g.statement h.statement (map (λ token. token.kind) h.tokens)
    (subst (λ (tokens : List Token). HasTokens g.statement (map (λ token. token.kind) tokens)) same g.parsed) h.parsed in
    performances before h.statement reply other after another (subst (λ (statement : StatementTree). Performs before statement reply after) one g.executed) h.executed
one_yield statements performances before rest reply other after another g h = (g.0 ∙ sym h.0, g.1 ∙ sym h.1)

-- equal replies in equal states have equal bytes
rendered_alike : (one other : State) (reply same : Reply) → one ≡ other → reply ≡ same
    → reply_text one reply ≡ reply_text other same
rendered_alike one other reply same states replies =
    ap (λ (state : State). reply_text state reply) states
    ∙ ap (λ (r : Reply). reply_text other r) replies

pub one_run : OneStatement → PerformsOnce → HasOneRun
one_run statements performances before [] bytes other_bytes refused other_refused after other g h = (g.0 ∙ sym h.0, g.1 ∙ sym h.1, g.2 ∙ sym h.2)
one_run statements performances before (part ∷ parts) bytes other_bytes refused other_refused after other g h =
    let (replies, middles) = one_yield statements performances before part g.0 h.0 g.1 h.1 g.4 h.4 in
    let ran = subst (λ (state : State). Runs state parts g.2 g.3 after) middles g.5 in
    let (printed, counts, databases) = one_run statements performances h.1 parts g.2 h.2 g.3 h.3 after other ran h.5 in
    let first = rendered_alike g.1 h.1 g.0 h.0 middles replies in (
      g.6 ∙ ap (λ l. l ++ g.2) first ∙ ap (λ l. reply_text h.1 h.0 ++ l) printed ∙ sym h.6,
      g.7 ∙ ap (λ (r : Reply). refusals r + g.3) replies ∙ ap (λ (n : ℕ). refusals h.0 + n) counts ∙ sym h.7,
      databases,
    )

-- a script has one list of parts
same_listed : (blank : Type 0) (parts others whole : List ScriptPart) → (blank × (parts ≡ whole)) ⊎ ((blank → ⊥) × (parts ≡ whole ++ rest ∷ []))
    → (blank × (others ≡ whole)) ⊎ ((blank → ⊥) × (others ≡ whole ++ rest ∷ [])) → parts ≡ others
same_listed blank parts others whole (inl (is, g)) (inl (same, h)) = g ∙ sym h
same_listed blank parts others whole (inl (is, g)) (inr (none, h)) = absurd (none is)
same_listed blank parts others whole (inr (none, g)) (inl (is, h)) = absurd (none is)
same_listed blank parts others whole (inr (none, g)) (inr (same, h)) = g ∙ sym h

pub one_reading : HasOneReading
one_reading script parts others g h =
    let (chunks, rests) = one_cut script g.behind h.behind g.chunks h.chunks g.cut h.cut in
    let listed = subst (λ (behind : List ℕ). (IsBlank behind × (parts ≡ map chunk h.chunks)) ⊎ ((IsBlank behind → ⊥) × (parts ≡ map chunk h.chunks ++ rest ∷ []))) rests
    (subst (λ (l : List (List ℕ)). (IsBlank g.behind × (parts ≡ map chunk l)) ⊎ ((IsBlank g.behind → ⊥) × (parts ≡ map chunk l ++ rest ∷ []))) chunks g.listed) in
    same_listed (IsBlank h.behind) parts others (map chunk h.chunks) listed h.listed
