-- A condition that is made ready, in place of the condition itself.
use Rattle.std.proofs.Common.{◌≡◌, ◌↔◌, ℕ, List, [], Option, Some, None, Bool, IsTrue, Result, Ok, Err, IfOk, IfSome, refl, sym, ap, subst, ◌∙◌}
use Rattle.std.specs.Option.{option_map}
use Rattle.lorel_bound.specs.Bound.{BoundPathTree, bound_cond}
use Rattle.lorel_bound.specs.Conditions.{CondOf}
use Rattle.lorel_bound.specs.SlotRows.{HoldsOver}
use Rattle.lorel_eval.specs.Types.{Oid, BoundCond}
use Rattle.lorel_eval.specs.Tests.{CondOver}
use Rattle.lorel_eval.specs.inside.Labelled.{LabelledPath, labelled}
use Rattle.lorel_eval.specs.inside.Ready.{ready_tree}
use Rattle.lorel_eval.specs.inside.Subjects.{SlotsOver, HoldsIn}
use Rattle.lorel_eval.specs.inside.Early.{FailsByKnown}
use Rattle.index_traits.specs.PartRows.{NonePasses}
use Rattle.lorel_eval.specs.declared.ready_conds.ReadyCond.{ReadyCond}
use Rattle.lorel_eval.proofs.LabelledLaws.{holds_labelled}

-- what is made ready stands for the condition that is there
pub stands_for : (labels : List (List ℕ)) (cond : Option BoundCond) (ready : Option ReadyCond) (own : BoundCond) (made : ReadyCond)
    → IfSome ready (λ one. Some (ready_tree one) ≡ option_map (labelled labels) (option_map bound_cond cond)) → ready ≡ Some made → cond ≡ Some own
    → ready_tree made ≡ labelled labels (bound_cond own)
stands_for labels cond ready own made stands is there =
    let first : Some (ready_tree made) ≡ option_map (labelled labels) (option_map bound_cond cond) =
    subst (λ (r : Option ReadyCond). IfSome r (λ one. Some (ready_tree one) ≡ option_map (labelled labels) (option_map bound_cond cond))) is stands in
    let both : Some (ready_tree made) ≡ Some (labelled labels (bound_cond own)) =
    first ∙ ap (λ (c : Option BoundCond). option_map (labelled labels) (option_map bound_cond c)) there in
    cc

-- the objects of a row over what a test stands on
abbrev pub slots_over : CondOver → List Oid → SlotsOver
slots_over over row = record { edges = over.edges; objects = over.objects; slots = row }

-- a condition over the label texts tells what the condition itself tells
bare_tells : {E : Type 0} (over : CondOver) (row : List Oid) (condition : CondOf BoundPathTree) (result : Result Bool E)
    → IfOk result (λ answer. IsTrue answer ↔ HoldsIn (slots_over over row) [] (labelled over.labels condition))
    → IfOk result (λ answer. IsTrue answer ↔ HoldsOver over.labels over.edges over.objects row (Some condition))
bare_tells over row condition (Ok answer) tells =
    let same = holds_labelled over.labels (slots_over over row) condition [] in
    (λ yes. same.0 (tells.0 yes), λ holds. tells.1 (same.1 holds))
bare_tells over row condition (Err error) tells = tt

-- a condition like the one of a test tells whether that holds
pub tells_by : {E : Type 0} (over : CondOver) (row : List Oid) (own : BoundCond) (tree : CondOf LabelledPath) (result : Result Bool E)
    → over.cond ≡ Some own → tree ≡ labelled over.labels (bound_cond own)
    → IfOk result (λ answer. IsTrue answer ↔ HoldsIn (slots_over over row) [] tree)
    → IfOk result (λ answer. IsTrue answer ↔ HoldsOver over.labels over.edges over.objects row (option_map bound_cond over.cond))
tells_by over row own tree result there is tells =
    subst (λ (cond : Option BoundCond). IfOk result (λ answer. IsTrue answer ↔ HoldsOver over.labels over.edges over.objects row (option_map bound_cond cond)))
    (sym there)
    (bare_tells over row (bound_cond own) result
    (subst (λ (c : CondOf LabelledPath). IfOk result (λ answer. IsTrue answer ↔ HoldsIn (slots_over over row) [] c)) is tells))

-- where something is made ready there is a condition, and it stands for that
made_of : (labels : List (List ℕ)) (condition : Option (CondOf BoundPathTree)) (tree : CondOf LabelledPath) → Some tree ≡ option_map (labelled labels) condition
    → (own : CondOf BoundPathTree) × (condition ≡ Some own) × (tree ≡ labelled labels own)
made_of labels (Some own) tree is = (own, refl, cc)
made_of labels None tree is = cc

-- where such a condition fails by what is known, the test holds of no row
pub none_by : {E : Type 0} (over : CondOver) (row : List Oid) (known : List Bool) (ready : Option ReadyCond) (made : ReadyCond) (result : Result Bool E)
    → IfSome ready (λ one. Some (ready_tree one) ≡ option_map (labelled over.labels) (option_map bound_cond over.cond)) → ready ≡ Some made
    → IfOk result (λ answer. IsTrue answer → FailsByKnown (slots_over over row) known (ready_tree made))
    → IfOk result (λ answer. IsTrue answer
    → NonePasses (λ slots. HoldsOver over.labels over.edges over.objects slots (option_map bound_cond over.cond)) known row)
none_by over row known ready made (Ok answer) stands is fails =
    let first : Some (ready_tree made) ≡ option_map (labelled over.labels) (option_map bound_cond over.cond) =
    subst (λ (r : Option ReadyCond). IfSome r (λ one. Some (ready_tree one) ≡ option_map (labelled over.labels) (option_map bound_cond over.cond))) is stands in
    let own = made_of over.labels (option_map bound_cond over.cond) (ready_tree made) first in
    λ yes other completes. fails yes other completes.agree
    (subst (HoldsIn (slots_over over other) []) (sym own.2)
    ((holds_labelled over.labels (slots_over over other) own.0 []).1
    (subst (λ (c : Option (CondOf BoundPathTree)). HoldsOver over.labels over.edges over.objects other c) own.1 completes.passes)))
none_by over row known ready made (Err error) stands is fails = tt
