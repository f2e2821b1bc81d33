-- The objects that are listed for a step from values: those that were found by its label, and none where it has no label.
use Rattle.std.proofs.Common.{◌≡◌, List, [], ◌++◌, Option, None, Some, sym, ap, ◌∙◌, subst, arith}
use Rattle.lore_base.specs.Lists.{ExtendsBy}
use Rattle.lore_base.specs.TargetSets.{ListsInOrder}
use Rattle.lore_base.proofs.MemberLaws.{Contains-none}
use Rattle.index_traits.specs.Entries.{IsFound}
use Rattle.lorel_bound.specs.Plans.{IsCandidate}
use Rattle.plan_laws.specs.Types.{Oid, Label, Value, Op, ValueEntry}

pub some_candidates : (entries : List ValueEntry) (label : Option Label) (own : Label) (op : Op) (value : Value) (old new : List Oid) → label ≡ Some own
    → old ≡ [] → ExtendsBy (ListsInOrder (IsFound entries own op value)) old new → ListsInOrder (IsCandidate entries label op value) new
some_candidates entries label own op value old new is empty extends =
    let whole : new ≡ extends.0 = extends.1 ∙ ap (λ (l : List Oid). l ++ extends.0) empty in
    subst (λ (o : Option Label). ListsInOrder (IsCandidate entries o op value) new) (sym is)
    (subst (ListsInOrder (IsFound entries own op value)) (sym whole) extends.2)

pub no_candidates : (entries : List ValueEntry) (label : Option Label) (op : Op) (value : Value) (oids : List Oid) → label ≡ None → oids ≡ []
    → ListsInOrder (IsCandidate entries label op value) oids
no_candidates entries label op value oids is empty =
    subst (λ (o : Option Label). ListsInOrder (IsCandidate entries o op value) oids) (sym is)
    (subst (ListsInOrder (λ oid. ⊥)) (sym empty)
    (record { ascending = λ i j d less within. absurd (omega (arith, within)); exact = λ oid. (Contains-none oid, λ h. absurd h) }))
