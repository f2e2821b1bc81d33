-- What a script means: the parts that it is cut into, what each of them answers, and what all of them print.
use Rattle.std.specs.Prelude.{◌≡◌, ℕ, ◌+◌, ◌⊎◌, Some, List, [], ◌∷◌, ◌++◌, length, map, All}
use Rattle.lore_base.specs.Chunks.{joined_chunks}
use Rattle.lore_db.specs.States.{State, new_state}
use Rattle.lorel_tokens.specs.declared.token_types.Token.{Token}
use Rattle.lorel_lex.specs.Scan.{IsChunk, IsScript}
use Rattle.lorel_lex.specs.Gaps.{IsBlank}
use Rattle.lorel_lex.specs.declared.faults.LexFault.{LexFault}
use Rattle.lorel_lex.specs.Faults.{refusal_of}
use Rattle.lorel_lex.specs.Tokens.{AreTokens, HasFault}
use Rattle.lorel_trees.specs.Trees.{StatementTree}
use Rattle.lorel_trees.specs.Tokens.{HasTokens}
use Rattle.lore_run.specs.Types.{Refusal, Syntax, Unfinished, Reply, Refused}
use Rattle.lore_db.specs.States.{Performs}
use Rattle.lore_run.specs.Replies.{reply_text}

-- a script begins with these chunks, whole, and the rest of its bytes stand behind them
pub record BeginsWith (script : List ℕ) (chunks : List (List ℕ)) (behind : List ℕ) : Type 0 where
  pub whole : script ≡ joined_chunks chunks ++ behind
  pub each : All IsChunk chunks

-- what is replied to: a chunk, or what stands behind the last chunk of a script
pub data ScriptPart : Type 0 where
  chunk : List ℕ → ScriptPart
  rest : ScriptPart

-- the parts of a script: its chunks in order and, where it isn't blank, the rest
pub record HasParts (script : List ℕ) (parts : List ScriptPart) : Type 0 where
  pub chunks : List (List ℕ)
  pub behind : List ℕ
  pub cut : IsScript script chunks behind
  pub listed :
      (IsBlank behind × (parts ≡ map chunk chunks))
      ⊎ ((IsBlank behind → ⊥) × (parts ≡ map chunk chunks ++ rest ∷ []))

-- the parts of a script whose rest isn't blank: all its chunks, and then the rest
pub record EndsInRest (script : List ℕ) (parts : List ScriptPart) : Type 0 where
  pub chunks : List (List ℕ)
  pub behind : List ℕ
  pub cut : IsScript script chunks behind
  pub filled : IsBlank behind → ⊥
  pub listed : parts ≡ map chunk chunks ++ rest ∷ []

-- a chunk whose text has a fault is refused
pub record LacksTokens (before : State) (text : List ℕ) (reply : Reply) (after : State) : Type 0 where
  pub fault : LexFault
  pub broken : HasFault text fault
  pub refusal : Refusal
  pub named : refusal_of fault ≡ Some refusal
  pub refused : reply ≡ Refused refusal
  pub same : after ≡ before

-- a chunk whose tokens are no statement is refused
pub record LacksStatement (before : State) (text : List ℕ) (reply : Reply) (after : State)
    : Type 0 where
  pub tokens : List Token
  pub lexed : AreTokens text tokens
  pub none : (statement : StatementTree) → HasTokens statement (map (λ token. token.kind) tokens) → ⊥
  pub refused : reply ≡ Refused Syntax
  pub same : after ≡ before

-- any other chunk is executed
pub record HasStatement (before : State) (text : List ℕ) (reply : Reply) (after : State) : Type 0 where
  pub tokens : List Token
  pub lexed : AreTokens text tokens
  pub statement : StatementTree
  pub parsed : HasTokens statement (map (λ token. token.kind) tokens)
  pub executed : Performs before statement reply after

-- what one part of a script answers and leaves
abbrev pub Yields : State → ScriptPart → Reply → State → Type 0
Yields before (chunk text) reply after =
    LacksTokens before text reply after
    ⊎ (LacksStatement before text reply after ⊎ HasStatement before text reply after)
Yields before rest reply after = (reply ≡ Refused Unfinished) × (after ≡ before)

-- whether a reply is a refusal, as a number
abbrev pub refusals : Reply → ℕ
refusals (Refused refusal) = 1
refusals _ = 0

-- parts one after another: the bytes that they print, how many of them are refused, and the state after the
-- last
abbrev pub Runs : State → List ScriptPart → List ℕ → ℕ → State → Type 0
Runs before [] bytes refused after = (bytes ≡ []) × (refused ≡ 0) × (after ≡ before)
Runs before (part ∷ others) bytes refused after =
    (reply : Reply) × (middle : State) × (printed : List ℕ) × (count : ℕ)
    × Yields before part reply middle × Runs middle others printed count after
    × (bytes ≡ reply_text middle reply ++ printed) × (refused ≡ refusals reply + count)

-- a run so far: the bytes that it took, the parts that it replied to and how many of them it refused, the
-- bytes that it wrote, and its state
pub record RunState : Type 0 where
  pub taken : List ℕ
  pub done : ℕ
  pub refused : ℕ
  pub written : List ℕ
  pub state : State

-- from the new state on these parts, and no others, were replied to, each with its whole reply
pub record RepliesTo (parts : List ScriptPart) (run : RunState) : Type 0 where
  pub counted : run.done ≡ length parts
  pub ran : Runs new_state parts run.written run.refused run.state

-- all parts of what was taken were replied to
pub record RepliesToAll (run : RunState) : Type 0 where
  pub parts : List ScriptPart
  pub listed : HasParts run.taken parts
  pub replied : RepliesTo parts run
