-- Why the work on a statement ends early, and how it is answered then.
use Rattle.std.specs.Prelude.{◌≡◌, Option, Some, None, IfSome}
use Rattle.std.specs.declared.result.Result.{Result}
use Rattle.std.specs.declared.result.Result.TheVariants.{Ok, Err}
use Rattle.statements.specs.Types.{Refusal, Reply, Refused}
use Rattle.lore_base.specs.Types.{NoMemory}
use Rattle.statements.specs.declared.stops.Stop.{Stop}
use Rattle.statements.specs.declared.stops.Stop.TheVariants as stop

-- the refusal that a stop tells; none for want of memory
abbrev pub told : Stop → Option Refusal
told (stop.Refused refusal) = Some refusal
told stop.NoMemory = None

-- this holds where work ends with a value or a refusal; of want of memory nothing is said
abbrev pub OnReply : {X : Type 0} → Result X Stop → Type 0 → Type 0
OnReply (Ok value) Holds = Holds
OnReply (Err ended) Holds = IfSome (told ended) (λ refusal. Holds)

-- the reply, or the refusal that a stop tells
abbrev pub IsRepliedTo : Result Reply Stop → Result Reply NoMemory → Type 0
IsRepliedTo (Ok reply) result = result ≡ Ok reply
IsRepliedTo (Err (stop.Refused refusal)) result = result ≡ Ok (Refused refusal)
IsRepliedTo (Err stop.NoMemory) result = (error : NoMemory) × (result ≡ Err error)
