-- Faults handed on by `?`: the stop tells what the fault told. What holds where there is a reply. What is answered where rows were
-- found.
use Rattle.std.proofs.Common.{◌≡◌, List, Option, Some, None, Result, Ok, Err, sym, subst}
use Rattle.std.specs.Prelude.{OnOk, IfOk, IfErr, IfSome, MatchOption}
use Rattle.std.specs.Result.{IsErrAnd}
use Rattle.lore_base.specs.Verdicts.{IsToldBy}
use Rattle.answers.specs.Asked.{AreRows, AreTooMany}
use Rattle.statements.specs.Types.{Cell, Refusal}
use Rattle.statements.specs.Types.refusals
use Rattle.statements.specs.Stops.{told, OnReply}
use Rattle.statements.specs.declared.stops.Stop.{Stop}

module _ (Applies : Refusal → Type 0) (order : List Refusal) where
  pub told_on : {T : Type 0} (result : Result T Stop) (other : Option Refusal) → IsErrAnd result (λ stop. told stop ≡ other) → IsToldBy Applies order other
      → IfErr result (λ stop. IsToldBy Applies order (told stop))
  told_on (Ok value) other given h = tt
  told_on (Err stop) other given h = subst (IsToldBy Applies order) (sym given) h

  pub told_again : {T : Type 0} (result : Result T Stop) (first : Stop) → IsErrAnd result (λ stop. stop ≡ first) → IsToldBy Applies order (told first)
      → IfErr result (λ stop. IsToldBy Applies order (told stop))
  told_again (Ok value) first given h = tt
  told_again (Err stop) first given h = subst (λ (s : Stop). IsToldBy Applies order (told s)) (sym given) h

-- what held where it was told first holds where it is handed on
pub reply_again : {T : Type 0} (result : Result T Stop) (first : Stop) → IsErrAnd result (λ stop. stop ≡ first) → (Holds : Type 0)
    → IfSome (told first) (λ refusal. Holds) → OnReply result Holds
reply_again (Ok value) first given Holds h = absurd given
reply_again (Err stop) first given Holds h = subst (λ (s : Stop). IfSome (told s) (λ refusal. Holds)) (sym given) h

-- ---- where there is a reply
pub told_weaker : (told : Option Refusal) (Holds Follows : Type 0) → (Holds → Follows) → IfSome told (λ refusal. Holds) → IfSome told (λ refusal. Follows)
told_weaker None Holds Follows gives h = tt
told_weaker (Some refusal) Holds Follows gives h = gives h

pub on_reply_weaker : {T : Type 0} (result : Result T Stop) (Holds Follows : Type 0) → (Holds → Follows) → OnReply result Holds → OnReply result Follows
on_reply_weaker (Ok value) Holds Follows gives h = gives h
on_reply_weaker (Err ended) Holds Follows gives h = told_weaker (told ended) Holds Follows gives h

-- what is told of the refusal that a stop tells
told_by : (told : Option Refusal) (Has Follows : Refusal → Type 0) → ((refusal : Refusal) → Has refusal → Follows refusal) → IfSome told Has → IfSome told Follows
told_by None Has Follows gives h = tt
told_by (Some refusal) Has Follows gives h = gives refusal h

-- ---- rows that were found, or are more than an answer may have
module _ {E : Type 0} (found : Result (Option (List (List Cell))) E) where
  -- it is refused that they are
  abbrev IsFlood : Refusal → Type 0
  IsFlood refusal = (refusal ≡ refusals.TooManyRows) × (found ≡ Ok None)

  pub answered_rows : (IsAsked : List Cell → Type 0) (result : Result (List (List Cell)) Stop) → IfOk result (λ answer. found ≡ Ok (Some answer))
      → IfOk found (λ answer. MatchOption answer (AreTooMany IsAsked) (AreRows IsAsked)) → IfOk result (AreRows IsAsked)
  answered_rows IsAsked (Ok rows) is all =
      subst (λ (f : Result (Option (List (List Cell))) E). IfOk f (λ answer. MatchOption answer (AreTooMany IsAsked) (AreRows IsAsked))) is all
  answered_rows IsAsked (Err ended) is all = tt

  pub answered_stop : (IsAsked : List Cell → Type 0) (result : Result (List (List Cell)) Stop)
      → IfErr result (λ stop. IfSome (told stop) (λ refusal. IsFlood refusal))
      → IfOk found (λ answer. MatchOption answer (AreTooMany IsAsked) (AreRows IsAsked))
      → IfErr result (λ stop. IfSome (told stop) (λ refusal. (refusal ≡ refusals.TooManyRows) × AreTooMany IsAsked))
  answered_stop IsAsked (Ok rows) flood all = tt
  answered_stop IsAsked (Err ended) flood all =
      told_by (told ended) (λ refusal. IsFlood refusal) (λ refusal. (refusal ≡ refusals.TooManyRows) × AreTooMany IsAsked) (λ refusal own. (
        own.0,
        subst (λ (f : Result (Option (List (List Cell))) E). IfOk f (λ answer. MatchOption answer (AreTooMany IsAsked) (AreRows IsAsked))) own.1 all,
      )) flood

  -- what holds where they were looked for holds where there is a reply
  pub answered_quiet : (result : Result (List (List Cell)) Stop) → IfOk result (λ answer. found ≡ Ok (Some answer))
      → IfErr result (λ stop. IfSome (told stop) (λ refusal. IsFlood refusal)) → (Holds : Type 0) → OnOk found Holds → OnReply result Holds
  answered_quiet (Ok rows) is flood Holds h = subst (λ (f : Result (Option (List (List Cell))) E). OnOk f Holds) is h
  answered_quiet (Err ended) is flood Holds h =
      told_by (told ended) (λ refusal. IsFlood refusal) (λ refusal. Holds)
      (λ refusal own. subst (λ (f : Result (Option (List (List Cell))) E). OnOk f Holds) own.1 h) flood
